-- What a caller relies on. Assumes nothing.
use Prim.Native.Nat.{ℕ, ◌<◌}
use mathlib.Core.Path.{◌≡◌, refl, sym, subst}
use mathlib.Core.Logic.{◌↔◌}
use mathlib.Core.Bool.{Bool, true, false}
use borrow.Author.Tests.{eqb-true}
use lib.Dec.{ltb, eqb}
use Rattle.lists.specs.Choice.{pick, some_fits}
use Rattle.lists.proofs.Rows.{refused_exactly}
use Rattle.mltl.specs.Mltl.{Formula, delay, near, InReach}
use Rattle.mltl.proofs.Stable.{delay_waits, one_state}
use Rattle.table.specs.Nodes.{watched_formula}
use Rattle.table.specs.Sound.{is_sound}
use Rattle.table.specs.declared.Table.{Table}
use Rattle.table.proofs.Soundness.{sound_iff}
use Rattle.reach.specs.Reach.{Reached, refused, Among, Inside, ticks_within, reach_rows, reach_number, reached}
use Rattle.reach.specs.Promise.{Relied}
use Rattle.reach.proofs.Nears.{near_first}
use Rattle.reach.proofs.Answers.{reach_fits, told}
use Rattle.reach.proofs.Within.{within_iff, within_inside}

exactly_refused : (t : Table) (rule n s : ℕ) → (¬ (reach_number t rule n s ≡ 0)) ↔ (some_fits (reach_rows (is_sound t) t.rule_count rule n s) ≡ true)
unfolding reach_number
exactly_refused t rule n s = refused_exactly (reach_rows (is_sound t) t.rule_count rule n s) refl

module _ (t : Table) (rule n s : ℕ) where
  abbrev f : Formula
  f = watched_formula t rule

  exact : reach_number t rule n s ≡ 0 → (i : ℕ) → Among (reached t rule n s) i ↔ ((i < n) × InReach (near f) (delay f) s i)
  exact e i =
      subst (λ (r : Reached). Among r i ↔ ((i < n) × InReach (near f) (delay f) s i)) (sym (told t rule n s e))
      (within_iff (near f) (delay f) n s (reach_fits t rule n s e).inside (ltb s (near f)) refl i)

  in_mission : (b : Bool) → eqb (reach_number t rule n s) 0 ≡ b → Inside n (pick b (ticks_within (near f) (delay f) s) (refused (reach_number t rule n s)))
  in_mission true e =
      let g = reach_fits t rule n s (eqb-true (reach_number t rule n s) 0 e) in
      within_inside (near f) (delay f) n s g.inside (ltb s (near f)) refl (near_first t g.sound rule)
  in_mission false e = tt

  pub relied : Relied t rule n s
  relied = record {
    same = λ e xs ys l k i h out.
        one_state delay delay_waits f s xs ys k i (λ w. out ((exact e i).1 (h, w)));
    exactly = exact;
    inside = in_mission (eqb (reach_number t rule n s) 0) refl;
    near_first = λ e. near_first t ((sound_iff t).0 e) rule;
    refused_exactly = exactly_refused t rule n s;
  }
