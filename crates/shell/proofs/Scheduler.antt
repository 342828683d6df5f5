-- The scheduler's calls in C: counts and places are small, and the work on what one pass has found. Assumes nothing.
use Prim.Native.Nat.{ℕ, ◌≤◌, ◌<◌}
use native.Mathlib.Omega.{arith}
use mathlib.Core.Path.{◌≡◌, refl, sym, ap, ap₂, subst, ◌∙◌}
use mathlib.Core.Bool.{Bool, true, false, false≢true}
use mathlib.Core.List.{List}
use borrow.Author.Tests.{ltb-true, eqb-true}
use lib.Dec.{ltb, eqb}
use lib.ListN.{length}
use Rattle.limits.specs.Limits.{max_list, max_block, history_words}
use Rattle.lists.specs.Choice.{pick, first}
use Rattle.table.specs.declared.Table.{Table}
use Rattle.session.specs.Session.{Step, Answer}
use Rattle.records.specs.declared.Record.{Record}
use Rattle.records.specs.declared.Summary.{Summary}
use Rattle.records.specs.declared.Change.{Change}
use Rattle.records.specs.Records.{record_at, applied}
use Rattle.records.specs.Reading.{summary_of}
use Rattle.scheduler.specs.Scheduler.{part_of, session_of, block_of, turn_rows, close_rows}
use Rattle.scheduler.specs.Work.{next_place, misfits, told_of, Leaving, Turning, Closing, Stored, Serving, not_served, fed_in, served_by, serve_work, idle_work, Ending, closed_in, closed_by, finish_work, leave_work, turn_work, close_work, Told}
use Rattle.scheduler.proofs.Fits.{turn_fits}
use Rattle.scheduler.specs.Scheduler.{leave_effect, turn_effect, close_effect}
use Rattle.scheduler.proofs.Whole.{whole_left, whole_turned, whole_closed}
use Rattle.shell.specs.declared.Numbered.{Numbered}
use Rattle.shell.specs.declared.Coded.{Coded}
use Rattle.shell.specs.Scheduler.{close_answer, LeaveCall, leave_call, TurnCall, turn_call, CloseCall, close_call, LeaveIn, leave_in, turn_code, TurnIn, turn_in, CloseIn, close_in}
use Rattle.shell.proofs.Laws.{feed_count_lem, close_count}

-- what holds of both holds of the one picked
either_way : {A : Type 0} (P : A → Type 0) (b : Bool) (x y : A) → (b ≡ true → P x) → (b ≡ false → P y) → P (pick b x y)
either_way P true x y f g = f refl
either_way P false x y f g = g refl

-- ---- a turn: the place of a record served is below eight, and the count small
told_none : (number from n : ℕ) → Told (not_served number from n)
told_none number from n = record { place = λ e. absurd (false≢true e); count = omega arith }

told_served_lem : (a : Step) (r : Record) (p from n : ℕ) → p < max_list → a.count ≤ max_block → Told (served_by a r p from n)
told_served_lem a r p from n l c = either_way (λ (k : Turning). Told k) (eqb a.number 0) _ _ (λ e. record { place = λ _. l; count = c }) (λ e. told_none a.number from n)

pub turn_told : (t : Table) (s : Summary) (from : ℕ) (h w x o : List ℕ) → Told (turn_work t s from h w x o).done
unfolding turn_work
turn_told t s from h w x o =
    let n : ℕ = s.count in
    let p : ℕ = next_place s.records n from in
    let r : Record = record_at s.records p in
    let k : ℕ = first (turn_rows (misfits t.rule_count s) n r (length h) (length w) (length x) (length o)) in
    either_way (λ (v : Serving). Told v.done) (eqb k 0) _ _
    (λ e. either_way (λ (v : Serving). Told v.done) (ltb p n) (serve_work t r p from n h w x o) (idle_work t from n h x o)
    (λ l.
    let f = turn_fits (misfits t.rule_count s) n r (length h) (length w) (length x) (length o) (eqb-true k 0 e) in
    let b : p < n = ltb-true p n l in
    told_served_lem (fed_in t r p h w x o).step r p from n (omega (arith, f.short)) (feed_count_lem (session_of t r) (block_of r p w) (part_of history_words p h) x o))
    (λ l. told_none (told_of t 0) from n))
    (λ e. told_none (told_of t k) from n)

pub told_of_lem : (t : Table) (s : Summary) (from : ℕ) (h w x o : List ℕ) {k : Turning} {hl xl ol : List ℕ}
    → ◌≡◌ {A = Serving} (record { done = k; history = hl; scratch = xl; out = ol }) (turn_work t s from h w x o) → Told k
told_of_lem t s from h w x o e = subst (λ (v : Serving). Told v.done) (sym e) (turn_told t s from h w x o)

-- ---- a close: the count is small
closed_small : (a : Answer) (i n : ℕ) → a.count ≤ 4095 → (closed_by a i n).count ≤ 4095
closed_small a i n c = either_way (λ (k : Closing). k.count ≤ 4095) (eqb a.number 0) _ _ (λ e. c) (λ e. omega arith)

pub close_small : (t : Table) (s : Summary) (i : ℕ) (h x o : List ℕ) → (close_work t s i h x o).done.count ≤ 4095
unfolding close_work
close_small t s i h x o =
    let n : ℕ = s.count in
    let r : Record = record_at s.records i in
    let k : ℕ = first (close_rows (misfits t.rule_count s) n r i (length h) (length x) (length o)) in
    either_way (λ (v : Ending). v.done.count ≤ 4095) (eqb k 0) (finish_work t r i n h x o) _
    (λ e. closed_small (closed_in t r i h x o).answer i n (close_count false (session_of t r) (part_of history_words i h) x o))
    (λ e. omega arith)

pub small_of : (t : Table) (s : Summary) (i : ℕ) (h x o : List ℕ) {k : Closing} {xl ol : List ℕ}
    → ◌≡◌ {A = Ending} (record { done = k; scratch = xl; out = ol }) (close_work t s i h x o) → k.count ≤ 4095
small_of t s i h x o e = subst (λ (v : Ending). v.done.count ≤ 4095) (sym e) (close_small t s i h x o)

-- ---- the work with the table that the bytes hold
pub left_in : (s : Summary) (i : ℕ) (block w : List ℕ) {t u : Table} {k : Leaving} {n : ℕ} {d : Change} {wl : List ℕ} → t ≡ u
    → ◌≡◌ {A = Stored} (record { done = k; waiting = wl }) (leave_work t s i block w) → n ≡ k.number → d ≡ k.change
    → ◌≡◌ {A = LeaveIn} (record { done = record { number = n; change = d }; waiting = wl }) (leave_in (leave_work u s i block w))
left_in s i block w {wl = wl} e q p c =
    ap₂ (λ (m : ℕ) (y : Change). record { done = record { number = m; change = y }; waiting = wl }) p c
    ∙ ap leave_in q ∙ ap (λ (y : Table). leave_in (leave_work y s i block w)) e

pub turned_in : (s : Summary) (from : ℕ) (h w x o : List ℕ) {t u : Table} {k : Turning} {n : ℕ} {d : Change} {hl xl ol : List ℕ} → t ≡ u
    → ◌≡◌ {A = Serving} (record { done = k; history = hl; scratch = xl; out = ol }) (turn_work t s from h w x o) → n ≡ turn_code k → d ≡ k.change
    → ◌≡◌ {A = TurnIn} (record { done = record { code = n; change = d }; history = hl; scratch = xl; out = ol }) (turn_in (turn_work u s from h w x o))
turned_in s from h w x o {hl = hl} {xl = xl} {ol = ol} e q p c =
    ap₂ (λ (m : ℕ) (y : Change). record { done = record { code = m; change = y }; history = hl; scratch = xl; out = ol }) p c
    ∙ ap turn_in q ∙ ap (λ (y : Table). turn_in (turn_work y s from h w x o)) e

pub closed_in_lem : (s : Summary) (i : ℕ) (h x o : List ℕ) {t u : Table} {k : Closing} {n : ℕ} {d : Change} {xl ol : List ℕ} → t ≡ u
    → ◌≡◌ {A = Ending} (record { done = k; scratch = xl; out = ol }) (close_work t s i h x o) → n ≡ close_answer k.number k.count → d ≡ k.change
    → ◌≡◌ {A = CloseIn} (record { done = record { code = n; change = d }; scratch = xl; out = ol }) (close_in (close_work u s i h x o))
closed_in_lem s i h x o {xl = xl} {ol = ol} e q p c =
    ap₂ (λ (m : ℕ) (y : Change). record { done = record { code = m; change = y }; scratch = xl; out = ol }) p c
    ∙ ap close_in q ∙ ap (λ (y : Table). close_in (close_work y s i h x o)) e

-- ---- the calls over the whole list
module _ (t : Table) (rs : List Record) {s : Summary} (es : s ≡ summary_of rs) where
  pub left_called : (i : ℕ) (block w : List ℕ) (k : Numbered) {zs : List Record} {wl : List ℕ}
      → ◌≡◌ {A = LeaveIn} (record { done = k; waiting = wl }) (leave_in (leave_work t s i block w)) → zs ≡ applied rs k.change
      → ◌≡◌ {A = LeaveCall} (record { answer = k.number; records = zs; waiting = wl }) (leave_call (leave_effect t rs i block w))
  left_called i block w k {wl = wl} ek ez =
      ap (λ (ys : List Record). record { answer = k.number; records = ys; waiting = wl }) ez
      ∙ ap (λ (z : LeaveIn). record { answer = z.done.number; records = applied rs z.done.change; waiting = z.waiting })
      (ek ∙ ap (λ (y : Summary). leave_in (leave_work t y i block w)) es)
      ∙ ap leave_call (whole_left t rs i block w)

  pub turned_called : (from : ℕ) (h w x o : List ℕ) (k : Coded) {zs : List Record} {hl xl ol : List ℕ}
      → ◌≡◌ {A = TurnIn} (record { done = k; history = hl; scratch = xl; out = ol }) (turn_in (turn_work t s from h w x o)) → zs ≡ applied rs k.change
      → ◌≡◌ {A = TurnCall} (record { answer = k.code; records = zs; history = hl; scratch = xl; out = ol }) (turn_call (turn_effect t rs from h w x o))
  turned_called from h w x o k {hl = hl} {xl = xl} {ol = ol} ek ez =
      ap (λ (ys : List Record). record { answer = k.code; records = ys; history = hl; scratch = xl; out = ol }) ez
      ∙ ap (λ (z : TurnIn). record { answer = z.done.code; records = applied rs z.done.change; history = z.history; scratch = z.scratch; out = z.out })
      (ek ∙ ap (λ (y : Summary). turn_in (turn_work t y from h w x o)) es)
      ∙ ap turn_call (whole_turned t rs from h w x o)

  pub closed_called : (i : ℕ) (h x o : List ℕ) (k : Coded) {zs : List Record} {xl ol : List ℕ}
      → ◌≡◌ {A = CloseIn} (record { done = k; scratch = xl; out = ol }) (close_in (close_work t s i h x o)) → zs ≡ applied rs k.change
      → ◌≡◌ {A = CloseCall} (record { answer = k.code; records = zs; scratch = xl; out = ol }) (close_call (close_effect t rs i h x o))
  closed_called i h x o k {xl = xl} {ol = ol} ek ez =
      ap (λ (ys : List Record). record { answer = k.code; records = ys; scratch = xl; out = ol }) ez
      ∙ ap (λ (z : CloseIn). record { answer = z.done.code; records = applied rs z.done.change; scratch = z.scratch; out = z.out })
      (ek ∙ ap (λ (y : Summary). close_in (close_work t y i h x o)) es)
      ∙ ap close_call (whole_closed t rs i h x o)
