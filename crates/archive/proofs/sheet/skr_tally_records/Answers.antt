-- `archive::sheet::skr_tally_records` meets its contract: the record of the sheet is that of the paper's.
use mathlib.Core.Path.{◌∙◌}
use Rattle.archive.proofs.Sheets.{sheet_flat}
use Rattle.archive.proofs.sheet.skr_tally_records.Goals as goal

pub returns : goal.returns
returns c = c.into.ensures ∙ sheet_flat _ c.sheet_of.result c.sheet_of.ensures
