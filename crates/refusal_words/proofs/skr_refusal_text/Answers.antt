-- `refusal_words::skr_refusal_text` meets its contract: the words were written, and the answer is handed out flat.
use mathlib.Core.Path.{refl}
use Rattle.station.proofs.Written.{wrote_known}
use Rattle.refusal_words.proofs.skr_refusal_text.Goals as goal

pub returns : goal.returns
returns c = wrote_known refl c.refusal_text.ensures c.flat.ensures
