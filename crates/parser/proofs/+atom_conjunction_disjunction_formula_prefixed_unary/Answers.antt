-- Each reader calls one of a lower rank at a place that is not earlier, and atom calls formula past a bracket. Assumes nothing.
use Prim.Native.Nat.{◌-◌}
use native.Mathlib.Omega.{arith}
use mathlib.Core.Path.{refl, sym, ap, ◌∙◌}
use mathlib.Core.Bool.{true, false}
use Rattle.std.specs.Option.{is_some}
use Rattle.std.proofs.lemmas.Result.{err_from_is_err_and}
use Rattle.grammar.specs.Machine.{item, plain_item}
use Rattle.grammar.specs.Tape.{tapes}
use Rattle.grammar.proofs.Steps.{start_true, start_false}
use Rattle.table.specs.Operators.{kind_of}
use Rattle.parser.proofs.Leaves.{faulty}
use Rattle.parser.proofs.Tapes.{emit_by}
use Rattle.parser.proofs.Readers.{atom_signal, atom_constant, atom_deep, atom_open, atom_brackets, atom_bad, unary_plain, prefs_more, prefixed_atom, conjs_more, conj_bad, conj_done, disjs_more, disj_done, disj_or_bad, formula_span, formula_right, formula_chain, unary_from, atom_fault, formula_fault}
use Rattle.parser.proofs.+atom_conjunction_disjunction_formula_prefixed_unary.Goals as goal

-- ---- atom
pub atom-returns-then-is_at : goal.atom-returns-then-is_at
atom-returns-then-is_at t c = atom_signal _ (c.is_at.ensures.inside c.if-is_at.true) (c.is_at.ensures.byte c.if-is_at.true) c.signal.ensures

pub atom-returns-then-is_at-2 : goal.atom-returns-then-is_at-2
atom-returns-then-is_at-2 t c = atom_constant _ 116 true (c.is_at-2.ensures.inside c.if-is_at-2.true) (c.is_at-2.ensures.byte c.if-is_at-2.true) (start_true tapes 32) refl c.constant.ensures

pub atom-returns-then-is_at-3 : goal.atom-returns-then-is_at-3
atom-returns-then-is_at-3 t c = atom_constant _ 102 false (c.is_at-3.ensures.inside c.if-is_at-3.true) (c.is_at-3.ensures.byte c.if-is_at-3.true) (start_false tapes 32) refl c.constant-then-is_at-3.ensures

pub atom-returns-then-not-is_at : goal.atom-returns-then-not-is_at
atom-returns-then-not-is_at t c = rw (c.syntax.ensures.number, c.syntax.ensures.place) (atom_bad _ c.requires (c.is_at.ensures.other c.if-is_at.false) (c.is_at-2.ensures.other c.if-is_at-2.false) (c.is_at-3.ensures.other c.if-is_at-3.false) (c.is_at-4.ensures.other c.if-not-is_at.true))

pub atom-returns-then-depth-eq0 : goal.atom-returns-then-depth-eq0
atom-returns-then-depth-eq0 t c = rw (c.deep.ensures.number, c.deep.ensures.place) (atom_deep _ (c.is_at-4.ensures.inside c.if-not-is_at.false) (c.is_at-4.ensures.byte c.if-not-is_at.false) (omega arith))

pub atom-returns-in_err-more : goal.atom-returns-in_err-more
atom-returns-in_err-more t c =
    let p = err_from_is_err_and c.from_residual.result c.from_residual.ensures.1 in
    rw (p.1, p.2) (atom_open _ (c.is_at-4.ensures.inside c.if-not-is_at.false) (c.is_at-4.ensures.byte c.if-not-is_at.false) (omega arith) c.in_err-more.ensures (faulty c.in_err-more.field-0.0))

pub atom-returns-in_err-end : goal.atom-returns-in_err-end
atom-returns-in_err-end t c =
    let p = err_from_is_err_and c.from_residual-in_err-end.result c.from_residual-in_err-end.ensures.1 in
    rw (p.1, p.2) (atom_fault _ (atom_brackets _ (c.is_at-4.ensures.inside c.if-not-is_at.false) (c.is_at-4.ensures.byte c.if-not-is_at.false) (omega arith) c.in_ok-more.ensures refl c.in_err-end.ensures) (faulty c.in_err-end.field-0.0))

pub atom-returns : goal.atom-returns
atom-returns t c = atom_brackets _ (c.is_at-4.ensures.inside c.if-not-is_at.false) (c.is_at-4.ensures.byte c.if-not-is_at.false) (omega arith) c.in_ok-more.ensures refl c.in_ok-end.ensures

-- ---- conjunction
pub conjunction-returns-then-not-is_at : goal.conjunction-returns-then-not-is_at
conjunction-returns-then-not-is_at t c = conj_done _ c.loop-at.invariant c.skip-s.ensures (c.is_at.ensures.other c.if-not-is_at.true)

pub conjunction-returns-in_err-more : goal.conjunction-returns-in_err-more
conjunction-returns-in_err-more t c =
    let p = err_from_is_err_and c.from_residual.result c.from_residual.ensures.1 in
    rw (p.1, p.2) (conj_bad _ c.loop-at.invariant c.skip-s.ensures (c.is_at.ensures.inside c.if-not-is_at.false) (c.is_at.ensures.byte c.if-not-is_at.false) c.in_err-more.ensures (faulty c.in_err-more.field-0.0))

pub conjunction-loop-at-preserved : goal.conjunction-loop-at-preserved
conjunction-loop-at-preserved t c =
    conjs_more _ c.loop-at.invariant c.skip-s.ensures (c.is_at.ensures.inside c.if-not-is_at.false) (c.is_at.ensures.byte c.if-not-is_at.false) c.in_ok-more.ensures refl
    (emit_by _ _ _ (plain_item 5) _ (c.loop-at.n - 1) c.emit-n.ensures (rw c.kind.ensures at c.new.ensures) c.last_node.ensures)

-- ---- disjunction
pub disjunction-returns-then-not-is_at : goal.disjunction-returns-then-not-is_at
disjunction-returns-then-not-is_at t c = disj_done _ c.loop-more.invariant c.in_ok-more.ensures refl (c.is_at.ensures.other c.if-not-is_at.true) c.or_if-m.ensures

pub disjunction-returns-in_err-next_count : goal.disjunction-returns-in_err-next_count
disjunction-returns-in_err-next_count t c =
    let p = err_from_is_err_and c.from_residual-in_err-next_count.result c.from_residual-in_err-next_count.ensures.1 in
    rw (p.1, p.2) (disj_or_bad _ c.loop-more.invariant c.in_ok-more.ensures refl (c.is_at.ensures.inside c.if-not-is_at.false) (c.is_at.ensures.byte c.if-not-is_at.false) c.or_if-m.ensures c.in_err-next_count.ensures (faulty c.in_err-next_count.field-0.0))

pub disjunction-loop-more-preserved : goal.disjunction-loop-more-preserved
disjunction-loop-more-preserved t c = disjs_more _ c.loop-more.invariant c.in_ok-more.ensures refl (c.is_at.ensures.inside c.if-not-is_at.false) (c.is_at.ensures.byte c.if-not-is_at.false) c.or_if-m.ensures c.in_ok-next_count.ensures refl c.last_node.ensures

-- ---- formula
pub formula-returns-in_default : goal.formula-returns-in_default
formula-returns-in_default t c = formula_chain _ c.in_ok-first.ensures refl c.skip-i.ensures (rw c.in_default.is at c.between.ensures) c.disjunction.ensures

pub formula-returns-in_err-lo : goal.formula-returns-in_err-lo
formula-returns-in_err-lo t c =
    let p = err_from_is_err_and c.from_residual-in_err-lo.result c.from_residual-in_err-lo.ensures.1 in
    rw (p.1, p.2) (formula_span _ c.in_ok-first.ensures refl c.skip-i.ensures c.in-Some.ensures c.in_err-lo.ensures (faulty c.in_err-lo.field-0.0))

pub formula-returns-in_err-more : goal.formula-returns-in_err-more
formula-returns-in_err-more t c =
    let p = err_from_is_err_and c.from_residual-in_err-more.result c.from_residual-in_err-more.ensures.1 in
    rw (p.1, p.2) (formula_fault _ (formula_right _ c.in_ok-first.ensures refl c.skip-i.ensures c.in-Some.ensures c.in_ok-lo.ensures refl c.in_err-more.ensures refl) (faulty c.in_err-more.field-0.0))

pub formula-returns : goal.formula-returns
formula-returns t c =
    formula_right _ c.in_ok-first.ensures refl c.skip-i.ensures c.in-Some.ensures c.in_ok-lo.ensures refl c.in_ok-more.ensures
    (emit_by _ _ _ (item (kind_of c.in-Some.o) 0 c.in_ok-lo.lo c.in_ok-lo.hi) _ (c.in_ok-first.first - 1) c.emit-all.ensures (rw c.kind.ensures at c.new.ensures) c.last_node.ensures)

-- ---- prefixed
pub prefixed-returns-in_default : goal.prefixed-returns-in_default
prefixed-returns-in_default t c =
    let l = c.loop-item.invariant in
    unary_from _ l.0 (prefixed_atom _ l.1 c.in_ok-item.ensures refl (ap is_some c.in_default.is) c.in_ok-more.ensures c.apply-all.ensures)

pub prefixed-loop-item-preserved : goal.prefixed-loop-item-preserved
prefixed-loop-item-preserved t c =
    let l = c.loop-item.invariant in
    (l.0, prefs_more _ _ l.1 (rw c.in-Some.is at c.in_ok-item.ensures) refl refl c.hold.ensures)

-- ---- unary
pub unary-returns : goal.unary-returns
unary-returns t c = unary_plain _ c.in_ok-item.ensures refl (sym c.is_some.ensures ∙ c.if-is_some.false) c.atom.ensures
