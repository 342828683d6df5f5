-- The table and two numbers. Assumes nothing.
use Rattle.flat.specs.Sessions.{session_from}
use Rattle.flat.proofs.read_session.Goals as goal

pub returns : goal.returns
unfolding session_from
returns c = cc
