-- `windows::reach_within` meets its contract. The invariant: the registers hold what they do for 2 ^ j bits. Assumes nothing.
use Prim.Native.Nat.{ℕ, ◌+◌, ◌-◌, ◌*◌, ◌%◌, ◌^◌}
use native.Mathlib.Nat.{le_antisymm}
use native.Mathlib.Omega.{arith}
use mathlib.Core.Path.{◌≡◌}
use borrow.Author.Rules.{rules}
use lib.ListN.{length}
use Rattle.lists.specs.Bits.{bit_at}
use Rattle.column.proofs.Parts.{part_op}
use Rattle.pair.specs.Pair.{room}
use Rattle.windows.proofs.Untils.{within_start, within_twice}
use Rattle.windows.specs.Windows.{third}
use Rattle.windows.proofs.reach_within.Goals as goal

pub loop-j-init : goal.loop-j-init
loop-j-init g c = ((λ W Q k. within_start k (search rules) (search rules) (λ j. search rules)), search rules)

pub loop-j-preserved : goal.loop-j-preserved
loop-j-preserved g c = (
  (λ W Q k.
      let a = c.args in
      let m : ℕ = third a.d a.s.now in
      let long : length c.loop-j.s ≡ length a.s.now = c.loop-j.auto.s in
      let longer : length c.reach.new.s ≡ length c.loop-j.s = c.reach.auto.s in
      let e : room a.d c.loop-j.s ≡ m = omega arith in
      let e' : length c.reach.new.s - a.d ≡ m = omega arith in
      let p = part_op (λ xs t. g.R.Joining.join (bit_at xs t) (bit_at xs (t + 1 * 2 ^ c.loop-j.j % 2 ^ 64))) a.d (length c.reach.new.s - a.d) m c.reach.new.s e' (omega arith) c.join_moved.ensures in
      within_twice k (omega arith) (omega arith) c.loop-j.j (omega arith) (c.loop-j.invariant.0 W Q k) (rw e at c.reach.ensures) p),
  search rules,
)

pub returns : goal.returns
returns g c = λ W Q k. rw (← le_antisymm c.loop-j.invariant.1 c.loop-j-test.false) (c.loop-j.invariant.0 W Q k)
