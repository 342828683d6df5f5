-- `early::node_step` meets its contract. Assumes nothing.
use Rattle.early.proofs.node_step.Goals as goal

pub returns-in-Ok-Not : goal.returns-in-Ok-Not
returns-in-Ok-Not c = c.not_step.ensures c.args.states.now

pub returns-in-Ok : goal.returns-in-Ok
returns-in-Ok c = c.operator_step.ensures c.args.states.now

pub returns-in-Ok-True : goal.returns-in-Ok-True
returns-in-Ok-True c = c.constant_step.ensures c.args.states.now
