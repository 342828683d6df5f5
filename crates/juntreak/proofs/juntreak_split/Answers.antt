-- The count is at most 12. Assumes nothing.
use native.Mathlib.Omega.{arith}
use mathlib.Core.Path.{ap}
use Rattle.interval.specs.Parts.{Splitting}
use Rattle.interval.proofs.Laws.{splitting_count}
use Rattle.juntreak.proofs.juntreak_split.Goals as goal

pub overflow_cast-result : goal.overflow_cast-result
overflow_cast-result c = let a = c.args in omega (arith, ap (λ (x : Splitting). x.count) c.in-Ok.ensures, splitting_count a.lo a.hi)

pub overflow_mul-result : goal.overflow_mul-result
overflow_mul-result c = let a = c.args in omega (arith, ap (λ (x : Splitting). x.count) c.in-Ok.ensures, splitting_count a.lo a.hi)
