-- What is claimed of every list of the scheduler's calls. Assumes nothing.
use Prim.Native.Nat.{ℕ}
use mathlib.Core.Path.{◌≡◌, refl}
use mathlib.Core.Logic.{◌↔◌}
use mathlib.Core.Bool.{true}
use mathlib.Core.List.{List}
use Rattle.lists.specs.Choice.{numbered, some_fits}
use Rattle.lists.proofs.Rows.{refused_exactly}
use Rattle.table.specs.declared.Table.{Table}
use Rattle.scheduler.specs.Calls.{State, Act, leave, turn, close, rows_of, Call, Meets, number_of}
use Rattle.scheduler.specs.Claim.{Claim}
use Rattle.scheduler.proofs.Accepted.{number_is}
use Rattle.scheduler.proofs.Fair.{fair, cut}
use Rattle.scheduler.proofs.Left.{untouched, beyond, in_order}

numbered_rows : (t : Table) (a : Act) (st : State) (x o : List ℕ) → numbered (rows_of t a st x o) ≡ true
numbered_rows t (leave i block) st x o = refl
numbered_rows t (turn from) st x o = refl
numbered_rows t (close i) st x o = refl

calls_refused : (t : Table) (c : Call) → Meets t c → (¬ (number_of c ≡ 0)) ↔ (some_fits (rows_of t c.act c.state c.scratch c.out) ≡ true)
calls_refused t c g =
    rw (number_is t c.state c.scratch c.out c.act c.effect g)
    (refused_exactly (rows_of t c.act c.state c.scratch c.out) (numbered_rows t c.act c.state c.scratch c.out))

pub scheduler_claim : (t : Table) → Claim t
scheduler_claim t = record {
  cut = λ start cs st l j. cut t start j l;
  fair = λ start cs st l r p f h w n. fair t start r p l f h w n;
  in_order = λ start cs st l i n. in_order t i start n l;
  untouched = λ start cs st l i u. untouched t start i l u;
  beyond = λ start cs st l. beyond t start l;
  calls_refused = λ c g. calls_refused t c g;
}
