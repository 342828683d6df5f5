-- What C programs rely on of `juntreak_reach`. Assumes nothing.
use Prim.Native.Nat.{ℕ, ◌%◌, ◌≤◌}
use native.Mathlib.Omega.{arith}
use mathlib.Core.Path.{◌≡◌, refl}
use mathlib.Core.Bool.{Bool, true, false}
use mathlib.Core.List.{List}
use borrow.Author.Tests.{eqb-true}
use lib.Dec.{eqb}
use lib.ListN.{get_or}
use Rattle.lists.specs.Choice.{pick}
use Rattle.lists.proofs.Rows.{first_within}
use Rattle.table.specs.Sound.{is_sound}
use Rattle.table.specs.declared.Table.{Table}
use Rattle.flat.specs.Flat.{table_from}
use Rattle.reach.specs.Reach.{Reached, refused, empty, ticks, Among, reach_rows, reach_number, reached}
use Rattle.reach.proofs.Promise.{relied}
use Rattle.shell.specs.Answers.{reach_answer, range_after}
use Rattle.foreign.specs.Reach.{ForeignReach}

small : (t : Table) (rule n s : ℕ) → reach_number t rule n s ≤ 255
unfolding reach_number
small t rule n s = first_within 255 (reach_rows (is_sound t) t.rule_count rule n s) refl

-- the number 0 tells that a call is accepted
accepted_by_lem : (b : Bool) (x : Reached) (r : ℕ) → r ≤ 255 → eqb r 0 ≡ b → reach_answer (pick b x (refused r)) % 256 ≡ 0 → r ≡ 0
accepted_by_lem true x r l q e = eqb-true r 0 q
accepted_by_lem false x r l q e = omega (arith, l, e)

-- a tick of the range lies between the words that the call wrote
in_range_by : (x : Reached) (range : List ℕ) (i : ℕ) → Among x i
    → (reach_answer x ≡ 256) × (get_or (range_after x range) 0 0 ≤ i) × (i ≤ get_or (range_after x range) 1 0)
in_range_by (refused number) range i k = absurd k
in_range_by empty range i k = absurd k
in_range_by (ticks first last) range i k = (refl, k.0, k.1)

untouched_by : (x : Reached) (range : List ℕ) → ¬ (reach_answer x ≡ 256) → range_after x range ≡ range
untouched_by (refused number) range k = refl
untouched_by empty range k = refl
untouched_by (ticks first last) range k = absurd (k refl)

pub foreign_reach : ForeignReach
foreign_reach = record {
  same = λ table rule n s range e xs ys l d i h k.
      let t = table_from table in
      (relied t rule n s).same (accepted_by_lem _ _ (reach_number t rule n s) (small t rule n s) refl e) xs ys l d i h
      (λ w. let z = in_range_by (reached t rule n s) range i w in k (record { answered = z.0; from = z.1; to = z.2 }));
  untouched = λ table rule n s range. untouched_by (reached (table_from table) rule n s) range;
}
