-- Four bits of a byte. Assumes nothing.
use Rattle.registers.proofs.Bits.{from_byte}
use Rattle.registers.proofs.Flags.from_byte.Goals as goal

pub returns : goal.returns
returns c = from_byte c.args.x
