-- The four writes put their bytes one behind the other.
use Rattle.std.proofs.Common.{[], ◌∷◌, ◌++◌, append_assoc, ◌∙◌, subst}
use Rattle.std.specs.Io.KnownBytes.{Appends}
use Rattle.std.proofs.KnownBytes.{Appends-trans}
use Rattle.streams.proofs.fail.Goals as goal

pub returns : goal.returns
returns g c =
    let path = c.args.path.now in
    let said = c.as_bytes.result.now in
    let colon = Appends-trans _ _ _ _ _ c.in_ok-write_all.ensures.bytes c.in_ok-write_all-2.ensures.bytes in
    let told = Appends-trans _ _ _ _ _ colon c.in_ok-write_all-3.ensures.bytes in
    let all = Appends-trans _ _ _ _ _ told c.in_ok-write_all-4.ensures.bytes in
    (said, subst (Appends _ _) (append_assoc (path ++ 58 ∷ 32 ∷ []) said (10 ∷ []) ∙ append_assoc path (58 ∷ 32 ∷ []) (said ++ 10 ∷ [])) all)
