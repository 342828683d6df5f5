-- A call on the session that bytes hold: its count is small. Assumes nothing.
use Prim.Native.Nat.{ℕ, ◌+◌, ◌*◌, ◌≤◌}
use native.Mathlib.Omega.{arith}
use mathlib.Core.Path.{◌≡◌, refl, ap, ◌∙◌}
use mathlib.Core.Bool.{Bool, true, false}
use mathlib.Core.Logic.{⊎_elim}
use mathlib.Core.List.{List}
use borrow.Author.Tests.{eqb-true, eqb-false}
use lib.Dec.{eqb}
use lib.ListN.{length}
use Rattle.limits.specs.Limits.{max_seen}
use Rattle.refusals.specs.Refusals.{number_of}
use Rattle.refusals.specs.declared.Refusal.{Refusal}
use Rattle.lists.proofs.Tests.{true_or_false}
use Rattle.mltl.specs.Mltl.{delay}
use Rattle.table.specs.Nodes.{wait_of}
use Rattle.flat.specs.Sessions.{renewed}
use Rattle.session.specs.declared.Session.{Session}
use Rattle.session.specs.Session.{Step, Answer, Effect, StepEffect, step_effect, unfit_by, unfit, feed_number_by, feeding_by, feeding, close_number_by, closing_by}
use Rattle.session.proofs.Answers.{feed_fits, close_fits, unfit_short}
use Rattle.session.proofs.Handed.{step_refused, step_accepted}
use Rattle.shell.specs.Answers.{leaves, session_answer, step_answer, counted, Called}

-- ---- counts are small
pub count_within : {e : Effect} {r : Answer} {h x o : List ℕ} (n : ℕ) → ◌≡◌ {A = Effect} (record { answer = r; history = h; scratch = x; out = o }) e → e.answer.count ≤ n
    → r.count ≤ n
count_within n p l = rw (ap (λ (z : Effect). z.answer.count) p) l

pub feed_count_lem : (s : Session) (block h x o : List ℕ) → (feeding s block h x o).answer.count ≤ 1024
unfolding feeding_by
feed_count_lem s block h x o =
    let n : ℕ = feed_number_by delay max_seen s (length block) (length h) (length x) (length o) in
    ⊎_elim
    (λ (b : eqb n 0 ≡ true). rw b (let f = feed_fits max_seen (unfit s) s.seen (length block) (length h) (length x) (length o) (eqb-true n 0 b) in omega (arith, f.few)))
    (λ (b : eqb n 0 ≡ false). rw b (omega arith)) (true_or_false (eqb n 0))

pub close_count : (old : Bool) (s : Session) (h x o : List ℕ) → (closing_by (wait_of old) s h x o).answer.count ≤ 4095
unfolding closing_by
close_count old s h x o =
    let n : ℕ = close_number_by (wait_of old) s (length h) (length x) (length o) in
    ⊎_elim
    (λ (b : eqb n 0 ≡ true).
    rw b (let f = close_fits (unfit_by (wait_of old) s) (length h) (length x) (length o) (eqb-true n 0 b) in omega (arith, unfit_short old s f.fit)))
    (λ (b : eqb n 0 ≡ false). rw b (omega arith)) (true_or_false (eqb n 0))

-- ---- calls: a refused one answers its number
pub answers_number : (e : Refusal) {n : ℕ} → n ≡ number_of e → n ≡ number_of e + 4294967296 * 0
answers_number e p = omega (arith, p)

-- the session is what its bytes hold
pub called_by : (run : Session → Effect) {s z : Session} {r : Answer} {n : ℕ} {b b' h x o : List ℕ}
    → ◌≡◌ {A = Effect} (record { answer = r; history = h; scratch = x; out = o }) (run s)
    → s ≡ z → (n ≡ session_answer r) × (b' ≡ counted renewed r b) → Called renewed (run z) b n b' h x o
called_by run {b = b} p e q =
    let k = p ∙ ap run e in
    record {
      told = q.0 ∙ ap (λ (y : Effect). session_answer y.answer) k;
      session = q.1 ∙ ap (λ (y : Effect). counted renewed y.answer b) k;
      history_is = ap (λ (y : Effect). y.history) k;
      scratch_is = ap (λ (y : Effect). y.scratch) k;
      out_is = ap (λ (y : Effect). y.out) k;
    }

-- a feed without the session that it hands back
module _ (s : Session) (block h x o : List ℕ) {k : Step} {h' x' o' : List ℕ}
    (e : ◌≡◌ {A = StepEffect} (record { step = k; history = h'; scratch = x'; out = o' }) (step_effect (feeding s block h x o))) where
  pub step_count : k.count ≤ 1024
  step_count = rw (ap (λ (y : StepEffect). y.step.count) e) (feed_count_lem s block h x o)

  pub stepped_by : {z : Session} (b : List ℕ) {n : ℕ} {b' : List ℕ} → s ≡ z → (n ≡ step_answer k) × (b' ≡ leaves k.number (renewed (s.seen + length block) b) b)
      → Called renewed (feeding z block h x o) b n b' h' x' o'
  stepped_by b p q =
      ⊎_elim (λ (t : eqb k.number 0 ≡ true). called_by (λ (y : Session). feeding y block h x o) (step_accepted s block h x o e (eqb-true k.number 0 t) refl) p q)
      (λ (t : eqb k.number 0 ≡ false).
      called_by (λ (y : Session). feeding y block h x o) (step_refused s block h x o e (eqb-false k.number 0 t)) p (q.0, q.1 ∙ rw t))
      (true_or_false (eqb k.number 0))
