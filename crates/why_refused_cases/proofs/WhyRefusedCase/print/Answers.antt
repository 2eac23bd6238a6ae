-- `print` meets its contract: both lines, one behind the other.
use Rattle.std.proofs.Common.{refl}
use Rattle.std.proofs.KnownBytes.{Appends-trans}
use Rattle.streams.proofs.Cases.{on_ok}
use Rattle.why_refused_cases.proofs.WhyRefusedCase.print.Goals as goal

pub returns : goal.returns
returns g c =
    on_ok c.print_why-2.result (λ last. (_, _, c.in_ok-n.ensures.bytes, Appends-trans _ _ _ _ _ c.in_ok-print_why.ensures last, refl)) c.print_why-2.ensures
