-- `reason_line::text::end_words` meets its contract: each fault's sentence, letter by letter.
use Rattle.reason_line.proofs.text.end_words.Goals as goal

pub returns-in-NoMode-clause-words : goal.returns-in-NoMode-clause-words
returns-in-NoMode-clause-words c = rw c.in-NoMode.is

pub returns-in-NoNameLength-clause-words : goal.returns-in-NoNameLength-clause-words
returns-in-NoNameLength-clause-words c = rw c.in-NoNameLength.is

pub returns-in-CutName-clause-words : goal.returns-in-CutName-clause-words
returns-in-CutName-clause-words c = rw c.in-CutName.is

pub returns-in-NotUtf8-clause-words : goal.returns-in-NotUtf8-clause-words
returns-in-NotUtf8-clause-words c = rw c.in-NotUtf8.is

pub returns-in-NoSuchMode-clause-words : goal.returns-in-NoSuchMode-clause-words
returns-in-NoSuchMode-clause-words c = rw c.in-NoSuchMode.is

pub returns-in-NoFormat-clause-words : goal.returns-in-NoFormat-clause-words
returns-in-NoFormat-clause-words c = rw c.in-NoFormat.is

pub returns-in-NoWidth-clause-words : goal.returns-in-NoWidth-clause-words
returns-in-NoWidth-clause-words c = rw c.in-NoWidth.is

pub returns-in-CutSizes-clause-words : goal.returns-in-CutSizes-clause-words
returns-in-CutSizes-clause-words c = rw c.in-CutSizes.is

pub returns-in-WrongWidth-clause-words : goal.returns-in-WrongWidth-clause-words
returns-in-WrongWidth-clause-words c = rw c.in-WrongWidth.is

pub returns-in-NoCount-clause-words : goal.returns-in-NoCount-clause-words
returns-in-NoCount-clause-words c = rw c.in-NoCount.is

pub returns-in-CutBlock-clause-words : goal.returns-in-CutBlock-clause-words
returns-in-CutBlock-clause-words c = rw c.in-CutBlock.is

pub returns-in-CutPosition-clause-words : goal.returns-in-CutPosition-clause-words
returns-in-CutPosition-clause-words c = rw c.in-CutPosition.is
