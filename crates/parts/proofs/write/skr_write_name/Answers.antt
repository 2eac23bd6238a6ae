-- `parts::write::skr_write_name` meets its contract: the name is good and is written, or its refusal is handed out and nothing is.
use mathlib.Core.Path.{sym, ap, ◌∙◌}
use Rattle.wire.specs.Writing.{told}
use Rattle.station.proofs.Written.{wrote_known, not_known}
use Rattle.parts.proofs.Handing.{name_passed, name-refused}
use Rattle.parts.proofs.write.skr_write_name.Goals as goal

pub returns-in-Ok : goal.returns-in-Ok
returns-in-Ok c = wrote_known (name_passed _ (sym (ap told c.in-Ok.is) ∙ c.good_name.ensures)) c.put_counted.ensures c.flat.ensures

pub returns-in-Err : goal.returns-in-Err
returns-in-Err c = not_known (name-refused _ (sym (ap told c.in-Err.is) ∙ c.good_name.ensures)) c.into.ensures
