-- Line by line, as the definition has it. Assumes nothing.
use Prim.Native.Nat.{ℕ}
use mathlib.Core.Path.{◌≡◌, refl, sym, ap, subst, ◌∙◌}
use borrow.Author.Rules.{rules}
use borrow.Author.Tests.{eqb-true, eqb-false}
use Rattle.std.specs.Prelude.{Err}
use Rattle.refusals.proofs.Positive.{refusal_above}
use Rattle.text.specs.Typing.{refused}
use native.Mathlib.Omega.{arith}
use lib.ListN.{replicate}
use Rattle.table.specs.declared.Table.{Table}
use Rattle.builder.specs.Built.{Delays}
use Rattle.builder.proofs.Over.{no_delays}
use Rattle.text.proofs.Runs.{run_start}
use Rattle.text.proofs.Reading.{read_empty, read_fault, few_nodes, read_bad, read_more, read_done}
use Rattle.text.proofs.read.Goals as goal

pub returns-then-is_empty : goal.returns-then-is_empty
returns-then-is_empty c = read_empty c.args.text.now (eqb-true _ 0 (sym c.is_empty.ensures ∙ c.if-is_empty.true))

pub loop-i-init : goal.loop-i-init
loop-i-init c =
    (refl, omega arith, omega arith, subst (λ (t : Table). Delays t (replicate 64 0)) (sym c.no_table-t.ensures) no_delays, run_start c.args.text.now (eqb-false _ 0 (sym c.is_empty.ensures ∙ c.if-is_empty.false)) c.no_table-t.ensures)

pub returns-in_err-l : goal.returns-in_err-l
returns-in_err-l c =
    let f = c.in_err-l.field-0.0 in
    let r : c.from_residual.result ≡ Err f = search rules in
    rw r (read_fault c.args.text.now c.loop-i.invariant.4 c.loop-i-test.true c.in_err-l.ensures (refusal_above f.refusal) refl)

pub add_line-requires : goal.add_line-requires
add_line-requires c =
    (few_nodes c.args.text.now c.loop-i.invariant.4 c.loop-i-test.true c.in_ok-l.ensures refl, c.loop-i.invariant.3)

pub returns-in-Err : goal.returns-in-Err
returns-in-Err c =
    let r = c.in-Err.refusal in
    let n = c.in-Err.ensures.number in
    read_bad c.args.text.now c.loop-i.invariant.4 c.loop-i-test.true c.in_ok-l.ensures refl c.loop-i.invariant.0 refl
    (λ z. refusal_above r (n ∙ z)) (ap (λ (k : ℕ). refused k c.loop-i.line) n)

pub overflow_add-line : goal.overflow_add-line
overflow_add-line c =
    omega (arith, c.loop-i.invariant.2, c.loop-i-test.true)

pub loop-i-smaller : goal.loop-i-smaller
loop-i-smaller c =
    let p = c.in_ok-l.ensures.further refl in
    let q = c.in_ok-l.ensures.inside c.loop-i.invariant.1 in
    omega arith

pub loop-i-preserved : goal.loop-i-preserved
loop-i-preserved c =
    let l = c.in_ok-l.ensures in
    let a = c.in-Ok.ensures in
    let p = l.further refl in (
      l.sized ∙ c.loop-i.invariant.0,
      l.inside c.loop-i.invariant.1,
      omega arith,
      a.delays,
      rw a.table (read_more c.args.text.now c.loop-i.invariant.4 c.loop-i-test.true l refl c.loop-i.invariant.0 refl (sym a.number)),
    )

pub returns : goal.returns
returns c = read_done c.args.text.now c.loop-i.invariant.4 c.loop-i-test.false
