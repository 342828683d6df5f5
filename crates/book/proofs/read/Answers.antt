-- The loop along the chain: its invariant is `Going`, and its measure the number of records that are not passed. Assumes nothing.
use Prim.Native.Nat.{ℕ, ◌≤◌}
use mathlib.Core.Path.{◌≡◌, sym, ap, ◌∙◌}
use mathlib.Core.List.{List}
use borrow.Author.Rules.{rules}
use Rattle.std.specs.Prelude.{Result, Ok}
use Rattle.refusals.specs.Refusals.{number}
use Rattle.refusals.specs.declared.Refusal.{Refusal}
use Rattle.book.specs.Reading.{head_fault}
use Rattle.limits.specs.Limits.{max_name}
use Rattle.book.specs.Entries.{name_of}
use Rattle.book.proofs.Tests.{head_clear}
use Rattle.book.proofs.Going.{inside, name_small, begins, head_stops, ends, stops, less, turns}
use Rattle.book.proofs.read.Goals as goal

-- the head is not refused
clear : (s : List ℕ) {r : Result (Unit {0}) Refusal} {u : Unit {0}} → r ≡ Ok u → number r ≡ head_fault s → head_fault s ≡ 0
clear s i e = sym e ∙ ap number i

pub returns-in-Err : goal.returns-in-Err
returns-in-Err c = head_stops _ c.in-Err.refusal c.in-Err.ensures

pub entry_of-head-requires : goal.entry_of-head-requires
entry_of-head-requires c = (head_clear _ (clear _ c.in_default.is c.check_head.ensures)).size.some

pub loop-at-init : goal.loop-at-init
loop-at-init c =
    begins _ (clear _ c.in_default.is c.check_head.ensures) c.begin-w.ensures c.entry_of-head.ensures

pub entry_of-e-requires : goal.entry_of-e-requires
entry_of-e-requires c = inside c.loop-at.invariant.at c.loop-at-test.true

pub returns-in-Err-try_record : goal.returns-in-Err-try_record
returns-in-Err-try_record c =
    let small : (name_of c.entry_of-e.result ≤ max_name) = (name_small c.args.book.now c.loop-at.at c.entry_of-e.ensures (λ i. search rules)) in
    stops c.loop-at.invariant c.loop-at-test.true c.enter-v.ensures c.entry_of-e.ensures small c.in-Err-try_record.ensures

pub loop-at-smaller : goal.loop-at-smaller
loop-at-smaller c =
    let small : (name_of c.entry_of-e.result ≤ max_name) = (name_small c.args.book.now c.loop-at.at c.entry_of-e.ensures (λ i. search rules)) in
    less c.loop-at.invariant c.loop-at-test.true c.enter-v.ensures c.entry_of-e.ensures small c.in-Ok.ensures

pub loop-at-preserved : goal.loop-at-preserved
loop-at-preserved c =
    let small : (name_of c.entry_of-e.result ≤ max_name) = (name_small c.args.book.now c.loop-at.at c.entry_of-e.ensures (λ i. search rules)) in
    turns c.loop-at.invariant c.loop-at-test.true c.enter-v.ensures c.entry_of-e.ensures small c.in-Ok.ensures

pub returns : goal.returns
returns c = ends c.loop-at.invariant c.loop-at-test.false c.end.ensures
