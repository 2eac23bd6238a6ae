-- `reason_line::text::place_words` meets its contract: each field's words, letter by letter.
use Rattle.reason_line.proofs.text.place_words.Goals as goal

pub returns-in-Mode-clause-words : goal.returns-in-Mode-clause-words
returns-in-Mode-clause-words c = rw c.in-Mode.is

pub returns-in-Name-clause-words : goal.returns-in-Name-clause-words
returns-in-Name-clause-words c = rw c.in-Name.is

pub returns-in-FormatByte-clause-words : goal.returns-in-FormatByte-clause-words
returns-in-FormatByte-clause-words c = rw c.in-FormatByte.is

pub returns-in-SizeGroup-clause-words : goal.returns-in-SizeGroup-clause-words
returns-in-SizeGroup-clause-words c = rw c.in-SizeGroup.is

pub returns-in-BlockLength-clause-words : goal.returns-in-BlockLength-clause-words
returns-in-BlockLength-clause-words c = rw c.in-BlockLength.is

pub returns-in-Position-clause-words : goal.returns-in-Position-clause-words
returns-in-Position-clause-words c = rw c.in-Position.is
