-- `Buffers::close` meets its contract. Assumes nothing.
use Prim.Native.Nat.{◌≤◌}
use native.Mathlib.Omega.{arith}
use mathlib.Core.Path.{◌≡◌}
use mathlib.Core.List.{[]}
use lib.ListN.{length}
use borrow.Author.Rules.{rules}
use Rattle.std.specs.Prelude.{Ok, Err}
use Rattle.refusals.proofs.Positive.{refusal_above}
use Rattle.session.specs.Session.{answer_told}
use Rattle.watch.proofs.Laws.{close_never, close_always}
use Rattle.watch.proofs.Buffers.close.Goals.{After-close-closed}
use Rattle.watch.proofs.Buffers.close.Goals as goal

-- the buffers
sizes : (c : After-close-closed) → (4095 ≤ length c.args.self.now.history) × (5280 ≤ length c.args.self.now.scratch) × (64 ≤ length c.args.self.now.out)
sizes c =
    let a = c.args in
    let h : 4095 ≡ length a.self.now.history = search rules in
    let x : 5280 ≡ length a.self.now.scratch = search rules in
    let o : 64 ≡ length a.self.now.out = search rules in
    (omega (arith, h), omega (arith, x), omega (arith, o))

pub returns-in-Err : goal.returns-in-Err
returns-in-Err c =
    let z = sizes (goal.at.returns-in-Err c).After-close-closed in
    let a = c.args in
    close_never a.p a.self.now.history a.self.now.scratch a.self.now.out (answer_told a.p.session (Err c.in-Err.field-0)) _ _
    (rw c.in-Err.is at c.close-closed.ensures) z.0 z.1 z.2 [] (refusal_above c.in-Err.field-0)

pub returns-in-Ok : goal.returns-in-Ok
returns-in-Ok c =
    let z = sizes (goal.at.returns-in-Ok c).After-close-closed in
    let a = c.args in
    close_always a.p a.self.now.history a.self.now.scratch a.self.now.out (answer_told a.p.session (Ok c.in-Ok.given)) _ _
    (rw c.in-Ok.is at c.close-closed.ensures) z.0 z.1 z.2 _ _ _ c.put_rows.ensures
