-- What is known where no row of refusals fits a call. Assumes nothing.
use Prim.Native.Nat.{ℕ, ◌+◌, ◌*◌, ◌≤◌, ◌<◌}
use native.Mathlib.Omega.{arith}
use mathlib.Core.Path.{◌≡◌, refl, sym}
use mathlib.Core.Bool.{Bool, false, ◌||◌}
use borrow.Author.Tests.{ltb-false, leb-false, eqb-false}
use lib.Dec.{ltb, leb, eqb}
use Rattle.limits.specs.Limits.{max_list, max_block, max_seen, history_words, waiting_words, scratch_words, feed_words, close_words}
use Rattle.lists.specs.Choice.{first}
use Rattle.lists.proofs.Tests.{or_left, or_right}
use Rattle.lists.proofs.Rows.{no_row}
use Rattle.records.specs.declared.Record.{Record}
use Rattle.scheduler.specs.Scheduler.{leave_rows, turn_rows, close_rows}

pub record LeaveFits (bad : Bool) (n : ℕ) (r : Record) (i k w : ℕ) : Type 0 where
  pub fit : bad ≡ false
  pub few : k ≤ max_block
  pub room : waiting_words * n ≤ w
  pub some : 0 < k
  pub within : i < n
  pub short : n ≤ max_list
  pub idle : r.waiting ≡ 0
  pub count : r.seen + k ≤ max_seen

pub leave_fits : (bad : Bool) (n : ℕ) (r : Record) (i k w : ℕ) → first (leave_rows bad n r i k w) ≡ 0 → LeaveFits bad n r i k w
leave_fits bad n r i k w e =
    let row = no_row (leave_rows bad n r i k w) refl e in
    let z : eqb k 0 ≡ false = or_left (eqb k 0) (leb n i) (or_left (eqb k 0 || leb n i) (ltb max_list n) (row 3)) in
    let d : 0 ≡ k → ⊥ = λ p. eqb-false k 0 z (sym p) in
    record {
      fit = row 0;
      few = ltb-false max_block k (row 1);
      room = ltb-false w (waiting_words * n) (row 2);
      some = omega (arith, d);
      within = leb-false n i (or_right (eqb k 0) (leb n i) (or_left (eqb k 0 || leb n i) (ltb max_list n) (row 3)));
      short = ltb-false max_list n (or_right (eqb k 0 || leb n i) (ltb max_list n) (row 3));
      idle = let q : r.waiting ≤ 0 = ltb-false 0 r.waiting (row 4) in omega arith;
      count = ltb-false max_seen (r.seen + k) (row 5);
    }

pub record TurnFits (bad : Bool) (n : ℕ) (r : Record) (h w x o : ℕ) : Type 0 where
  pub fit : bad ≡ false
  pub history : history_words * n ≤ h
  pub room : waiting_words * n ≤ w
  pub scratch : scratch_words ≤ x
  pub out : feed_words ≤ o
  pub short : n ≤ max_list
  pub count : r.seen + r.waiting ≤ max_seen

pub turn_fits : (bad : Bool) (n : ℕ) (r : Record) (h w x o : ℕ) → first (turn_rows bad n r h w x o) ≡ 0 → TurnFits bad n r h w x o
turn_fits bad n r h w x o e =
    let row = no_row (turn_rows bad n r h w x o) refl e in
    let a : Bool = ltb h (history_words * n) in
    let b : Bool = ltb w (waiting_words * n) in
    let lent : (a || b) ≡ false = or_left (a || b) (ltb x scratch_words) (or_left ((a || b) || ltb x scratch_words) (ltb o feed_words) (row 1)) in
    record {
      fit = row 0;
      history = ltb-false h (history_words * n) (or_left a b lent);
      room = ltb-false w (waiting_words * n) (or_right a b lent);
      scratch = ltb-false x scratch_words (or_right (a || b) (ltb x scratch_words) (or_left ((a || b) || ltb x scratch_words) (ltb o feed_words) (row 1)));
      out = ltb-false o feed_words (or_right ((a || b) || ltb x scratch_words) (ltb o feed_words) (row 1));
      short = ltb-false max_list n (row 2);
      count = ltb-false max_seen (r.seen + r.waiting) (row 3);
    }

pub record CloseFits (bad : Bool) (n : ℕ) (r : Record) (i h x o : ℕ) : Type 0 where
  pub fit : bad ≡ false
  pub history : history_words * n ≤ h
  pub scratch : scratch_words ≤ x
  pub out : close_words ≤ o
  pub within : i < n
  pub short : n ≤ max_list
  pub idle : r.waiting ≡ 0

pub close_fits : (bad : Bool) (n : ℕ) (r : Record) (i h x o : ℕ) → first (close_rows bad n r i h x o) ≡ 0 → CloseFits bad n r i h x o
close_fits bad n r i h x o e =
    let row = no_row (close_rows bad n r i h x o) refl e in
    let a : Bool = ltb h (history_words * n) in
    record {
      fit = row 0;
      history = ltb-false h (history_words * n) (or_left a (ltb x scratch_words) (or_left (a || ltb x scratch_words) (ltb o close_words) (row 1)));
      scratch = ltb-false x scratch_words (or_right a (ltb x scratch_words) (or_left (a || ltb x scratch_words) (ltb o close_words) (row 1)));
      out = ltb-false o close_words (or_right (a || ltb x scratch_words) (ltb o close_words) (row 1));
      within = leb-false n i (or_left (leb n i) (ltb max_list n) (row 2));
      short = ltb-false max_list n (or_right (leb n i) (ltb max_list n) (row 2));
      idle = let q : r.waiting ≤ 0 = ltb-false 0 r.waiting (row 3) in omega arith;
    }
