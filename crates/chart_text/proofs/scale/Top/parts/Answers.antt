-- `chart_text::scale::Top::parts` meets its contract: up to 5 the top itself, and 5 above that.
use Prim.Native.Nat.{min}
use mathlib.Core.Path.{◌≡◌, ◌∙◌}
use native.Mathlib.Omega.{arith}
use Rattle.chart_text.proofs.Drawn.{five_at_most}
use Rattle.chart_text.proofs.scale.Top.parts.Goals as goal

pub returns-clause-value : goal.returns-clause-value
returns-clause-value c = let is : c.min.result ≡ min c.args.self.percent 5 = omega arith in is ∙ five_at_most c.args.self.percent
