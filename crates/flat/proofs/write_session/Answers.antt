-- The table, then two numbers, each over what was written before. Assumes nothing.
use Rattle.flat.specs.Sessions.{session_written}
use Rattle.flat.proofs.write_session.Goals as goal

pub returns : goal.returns
unfolding session_written
returns c = cc
