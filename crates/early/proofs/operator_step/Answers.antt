-- `early::operator_step` meets its contract: a step in each half. Assumes nothing.
use Prim.Native.Nat.{◌+◌, ◌-◌, ◌*◌}
use borrow.Author.Rules.{rules}
use borrow.Rule.Slice.PartMut.{put_mid}
use Rattle.limits.specs.Limits.{register_words, scratch_words, early_scratch_words}
use Rattle.layout.specs.Layout.{Computable}
use Rattle.lists.specs.Bits.{words}
use Rattle.early.specs.Code.Steps.{half, join_column_in, meet_column_in}
use Rattle.table.specs.Nodes.{op_of}
use Rattle.early.proofs.Halves.{IsHalf, HalfStep, lent_by}
use Rattle.early.proofs.Both.{computes_after, half_room, halves_of, in_part, operated}
use Rattle.early.proofs.operator_step.Goals.{After-join_place-j, After-join_step}
use Rattle.early.proofs.operator_step.Goals as goal

halves : (c : After-join_place-j) → IsHalf c.join_place-j.result × IsHalf (scratch_words - c.join_place-j.result)
halves c = halves_of (op_of c.args.x.kind) c.join_place-j.ensures

-- the half that is joined, and the words after it
joined : (k : After-join_step) → let a = k.args in let j = k.join_place-j.result in
    HalfStep j (register_words * a.i) (words a.n) (join_column_in a.x a.n (half j a.s.now)) a.s.now (put_mid j (j + scratch_words - j) a.s.now k.join_step.new.s)
joined k =
    let a = k.args in
    lent_by (join_column_in a.x a.n) (halves_of (op_of k.args.x.kind) k.join_place-j.ensures).0 k.requires.0.enough k.join_step.auto.s k.join_step.ensures

after : (k : After-join_step) → let a = k.args in let j = k.join_place-j.result in
    Computable early_scratch_words a.i a.n a.x (put_mid j (j + scratch_words - j) a.s.now k.join_step.new.s)
after k = computes_after k.requires.0 (joined k).long

pub overflow_sub-w : goal.overflow_sub-w
overflow_sub-w c = half_room (halves c).0

pub overflow_add-j : goal.overflow_add-j
overflow_add-j c = let l = half_room (halves c).0 in search rules

pub overflow_add-w : goal.overflow_add-w
overflow_add-w c = let l = half_room (halves (goal.at.overflow_add-w c).After-join_place-j).0 in search rules

pub offset_bounds-s-j : goal.offset_bounds-s-j
offset_bounds-s-j c = let l = half_room (halves c).0 in search rules

pub slice_bounds-join_step-count : goal.slice_bounds-join_step-count
slice_bounds-join_step-count c = let l = half_room (halves c).0 in search rules

pub slice_bounds-join_step-start : goal.slice_bounds-join_step-start
slice_bounds-join_step-start c = let l = half_room (halves c).0 in search rules

pub slice_bounds-join_step-end : goal.slice_bounds-join_step-end
slice_bounds-join_step-end c = let l = half_room (halves c).0 in let w = c.requires.0.enough in search rules

pub join_step-requires : goal.join_step-requires
join_step-requires c =
    let p = c.requires in
    (in_part p.0 c.join_place-j.result (halves (goal.at.join_step-requires c).After-join_place-j).0, p.1)

pub meet_step-requires : goal.meet_step-requires
meet_step-requires c =
    let p = c.requires in
    (in_part (after (goal.at.meet_step-requires c).After-join_step) (scratch_words - c.join_place-j.result) (halves (goal.at.meet_step-requires c).After-join_place-j).1, p.1)

pub returns : goal.returns
returns c states =
    let a = c.args in
    let p = c.requires in
    operated p.0 p.1 states c.join_place-j.result c.join_place-j.ensures (joined (goal.at.returns c).After-join_step)
    (lent_by (meet_column_in a.x a.n) (halves (goal.at.returns c).After-join_place-j).1 (after (goal.at.returns c).After-join_step).enough c.meet_step.auto.s c.meet_step.ensures)
