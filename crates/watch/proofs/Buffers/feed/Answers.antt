-- `Buffers::feed` meets its contract. Assumes nothing.
use Prim.Native.Nat.{◌≤◌}
use native.Mathlib.Omega.{arith}
use mathlib.Core.Path.{◌≡◌, refl, sym}
use mathlib.Core.List.{[]}
use lib.ListN.{length}
use borrow.Author.Rules.{rules}
use Rattle.std.specs.Prelude.{Ok, Err}
use Rattle.refusals.proofs.Positive.{refusal_above}
use Rattle.session.specs.Session.{answer_told}
use Rattle.watch.proofs.Laws.{fed_refused, fed_accepted, count_few}
use Rattle.watch.proofs.Buffers.feed.Goals.{After-feed-fed}
use Rattle.watch.proofs.Buffers.feed.Goals as goal

-- the buffers
sizes : (c : After-feed-fed) → (4095 ≤ length c.args.self.now.history) × (5280 ≤ length c.args.self.now.scratch) × (16 ≤ length c.args.self.now.out) × (length c.args.self.now.block ≡ 1024)
sizes c =
    let a = c.args in
    let h : 4095 ≡ length a.self.now.history = search rules in
    let x : 5280 ≡ length a.self.now.scratch = search rules in
    let o : 64 ≡ length a.self.now.out = search rules in
    let b : 1024 ≡ length a.self.now.block = search rules in
    (omega (arith, h), omega (arith, x), omega (arith, o), sym b)

pub overflow_add-result : goal.overflow_add-result
overflow_add-result c =
    let z = sizes (goal.at.overflow_add-result c).After-feed-fed in
    let a = c.args in
    search (
      rules,
      count_few a.p 0 a.self.now.history a.self.now.block a.self.now.scratch a.self.now.out (answer_told a.p.session c.feed-fed.result) _ _ _ [] [] 0
          c.feed-fed.ensures c.requires.0 c.requires.1 z.3 z.0 z.1 z.2 (rw c.in-Ok.is refl),
    )

pub returns-in-Ok-clause-fed : goal.returns-in-Ok-clause-fed
returns-in-Ok-clause-fed c =
    let p = c.put_rows-used in
    let z = sizes (goal.at.returns-in-Ok-clause-fed c).After-feed-fed in
    let a = c.args in
    fed_accepted a.p a.at a.self.now.history a.self.now.block a.self.now.scratch a.self.now.out (answer_told a.p.session (Ok c.in-Ok.given)) _ _ _ a.self.now.text p.new.text p.result
    (rw c.in-Ok.is at c.feed-fed.ensures) c.requires.0 c.requires.1 z.3 z.0 z.1 z.2 refl p.ensures

pub returns-in-Err-clause-fed : goal.returns-in-Err-clause-fed
returns-in-Err-clause-fed c =
    let p = c.put_feed-used in
    let z = sizes (goal.at.returns-in-Err-clause-fed c).After-feed-fed in
    let a = c.args in
    fed_refused a.p a.at a.self.now.history a.self.now.block a.self.now.scratch a.self.now.out (answer_told a.p.session (Err c.in-Err.refusal)) _ _ _ a.self.now.text p.new.text p.result
    (rw c.in-Err.is at c.feed-fed.ensures) c.requires.0 c.requires.1 z.3 z.0 z.1 z.2 (refusal_above c.in-Err.refusal) (rw c.number.ensures at p.ensures)
