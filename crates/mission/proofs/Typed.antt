-- The rule that a session watches is the formula of its line. Assumes nothing.
use Prim.Native.Nat.{ℕ, ◌<◌}
use native.Mathlib.Omega.{arith}
use mathlib.Core.Path.{◌≡◌, ap, subst, ◌∙◌}
use mathlib.Core.Bool.{false}
use mathlib.Core.List.{List, []}
use lib.ListN.{length, get_or}
use Rattle.mltl.specs.Mltl.{Formula, const, holds}
use Rattle.table.specs.Nodes.{watched_formula}
use Rattle.text.specs.Typing.{typed}
use Rattle.text.specs.Accepted.{Lines}
use Rattle.text.proofs.Watched.{typed_means}
use Rattle.mission.specs.Mission.{Source, read_number, read_table}
use Rattle.mission.specs.Typed.{TypedVerdict}

watched : (x : List ℕ) (r : ℕ) → (typed x).number ≡ 0 → {names : List ℕ} {fs : List Formula} → Lines x names fs [] → r < length fs
    → watched_formula (typed x).table r ≡ get_or fs r (const false)
watched x r z l h = let w = typed_means x z l in let c = w.formulas in w.watched r (omega arith)

pub typed_verdict : TypedVerdict
typed_verdict m x e names fs l h states t =
    let z : (typed x).number ≡ 0 = subst (λ (s : Source). read_number s ≡ 0) e m.read in
    ap (λ (s : Source). holds (watched_formula (read_table s) m.rule) states t) e ∙ ap (λ (f : Formula). holds f states t) (watched x m.rule z l h)
