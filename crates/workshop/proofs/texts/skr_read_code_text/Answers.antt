-- `workshop::texts::skr_read_code_text` meets its contract: the record of what reading says is that of the paper's.
use borrow.Author.Rules.{rules}
use Rattle.code_text.specs.CodeText.{code_said}
use Rattle.station.specs.Records.{code_record}
use Rattle.station.proofs.Flats.{flat_said}
use Rattle.workshop.proofs.texts.skr_read_code_text.Goals as goal

pub returns : goal.returns
returns c = flat_said code_record code_said c.read_code_text.result c.read_code_text.ensures (search rules)
