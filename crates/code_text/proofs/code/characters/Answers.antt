-- `characters` meets its contract: a code's characters, place by place.
use mathlib.Core.Path.{refl}
use Rattle.paper.specs.CodeText.{code_places, line_places, code_text}
use Rattle.code_text.proofs.code.characters.Goals as goal

pub returns : goal.returns
unfolding code_places line_places code_text
returns c = rw (c.character.ensures, c.character-2.ensures, c.character-3.ensures, c.character-4.ensures, c.character-5.ensures, c.character-6.ensures, c.character-7.ensures, c.high_byte-high.ensures, c.middle_byte-middle.ensures, c.low_byte-low.ensures) refl
