-- `signal::digit_of` meets its contract. Assumes nothing.
use Rattle.lists.proofs.Numbers.{bit_digit}
use Rattle.signal.proofs.digit_of.Goals as goal

pub returns : goal.returns
returns c = bit_digit c.args.state c.args.i
