-- The three writes put their bytes one behind the other.
use Rattle.std.proofs.Common.{append_assoc, subst}
use Rattle.std.specs.Io.KnownBytes.{Appends}
use Rattle.std.proofs.KnownBytes.{Appends-trans}
use Rattle.streams.proofs.Cases.{on_ok}
use Rattle.streams.proofs.print_line.Goals as goal

pub returns : goal.returns
returns g c =
    let front = Appends-trans _ _ _ _ _ c.in_ok-write_all.ensures.bytes c.in_ok-write_all-2.ensures.bytes in
    on_ok c.write_all-3.result (λ last. subst (Appends _ _) (append_assoc c.args.path.now c.args.words.now c.args.text.now) (Appends-trans _ _ _ _ _ front last)) c.write_all-3.ensures.bytes
