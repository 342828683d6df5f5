-- A book is at most 876 bytes long. Assumes nothing.
use native.Mathlib.Omega.{arith}
use mathlib.Core.Path.{ap}
use lib.ListN.{length}
use Rattle.book.specs.Writing.{Writing}
use Rattle.book.proofs.Back.{relied}
use Rattle.juntreak.proofs.juntreak_write.Goals as goal

pub overflow_cast-result : goal.overflow_cast-result
overflow_cast-result c = omega (arith, ap (λ (w : Writing). w.length) c.in-Ok.ensures.0, relied.short c.read_table-t.result (length c.args.out.now))

pub overflow_mul-result : goal.overflow_mul-result
overflow_mul-result c = omega (arith, ap (λ (w : Writing). w.length) c.in-Ok.ensures.0, relied.short c.read_table-t.result (length c.args.out.now))
