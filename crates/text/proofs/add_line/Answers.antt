-- The nodes of the tape one after the other, then the rule. Assumes nothing.
use Prim.Native.Nat.{ℕ}
use mathlib.Core.Path.{◌≡◌, refl, ap}
use borrow.Author.Rules.{rules}
use Rattle.std.specs.Prelude.{Ok, Err, List}
use Rattle.refusals.specs.Refusals.{number_of}
use Rattle.refusals.specs.declared.Refusal.{Refusal}
use Rattle.table.specs.declared.Table.{Table}
use Rattle.builder.specs.Adding.{Added}
use Rattle.builder.specs.Built.{Delays}
use Rattle.text.specs.Typing.{added}
use Rattle.text.specs.Code.{LineAdded}
use Rattle.text.proofs.Growing.{grown_none, grown_bad, node_room, grown_more, line_bad, rule_bad, line_done, rule_delays}
use Rattle.text.proofs.add_line.Goals as goal

-- a line that is refused, and one that is added
not_added : {a : Added} {u : Table} {ds : List ℕ} (e : Refusal) → added (number_of e) u ≡ a → LineAdded a (Err e) ds
not_added e p = record { number = ap (λ (x : Added). x.number) p; table = tt; delays = tt }

is_added : {a : Added} {u : Table} {ds : List ℕ} → added 0 u ≡ a → Delays u ds → LineAdded a (Ok u) ds
is_added p d = record { number = ap (λ (x : Added). x.number) p; table = ap (λ (x : Added). x.table) p; delays = d }

pub loop-k-init : goal.loop-k-init
loop-k-init c = grown_none c.requires.1

pub returns-in_err-check_node : goal.returns-in_err-check_node
returns-in_err-check_node c =
    let e = c.in_err-check_node.field-0.0 in
    let r : c.from_residual.result ≡ Err e = search rules in
    rw r
    (not_added e
    (line_bad c.args.t _ c.args.name e
    (grown_bad c.loop-k.invariant c.loop-k-test.true c.made_at.ensures c.node_of-n.ensures c.delay_among-d.ensures refl e c.in_err-check_node.ensures)))

pub bounds-u-at : goal.bounds-u-at
bounds-u-at c = node_room c.loop-k.invariant c.loop-k-test.true c.made_at.ensures c.node_of-n.ensures c.delay_among-d.ensures refl c.in_ok-check_node.ensures

pub loop-k-preserved : goal.loop-k-preserved
loop-k-preserved c =
    grown_more c.loop-k.invariant c.loop-k-test.true c.made_at.ensures c.node_of-n.ensures c.delay_among-d.ensures refl c.in_ok-check_node.ensures

pub returns-in_err-check_rule : goal.returns-in_err-check_rule
returns-in_err-check_rule c =
    let e = c.in_err-check_rule.field-0.0 in
    let r : c.from_residual-in_err-check_rule.result ≡ Err e = search rules in
    rw r (not_added e (rule_bad c.loop-k.invariant c.loop-k-test.false c.args.name c.rule_of-r.ensures refl e c.in_err-check_rule.ensures))

pub returns : goal.returns
returns c =
    let name = c.args.name in
    is_added (line_done c.loop-k.invariant c.loop-k-test.false name c.rule_of-r.ensures refl c.in_ok-check_rule.ensures)
    (rule_delays c.loop-k.invariant c.loop-k-test.false name c.rule_of-r.ensures refl)
