-- What the scan of one line does.
use Rattle.std.specs.Prelude.{Some, None, List, [], ◌∷◌, ℕ, ◌+◌, eqb}
use Rattle.lists.specs.Choice.{pick}
use Rattle.lines.specs.declared.Line.{Line}
use Rattle.lines.specs.declared.Scan.{Scan}
use Rattle.lines.specs.Lines.{with_byte}

-- bytes that start at a place, after a line so far: up to their first line end, with the place after it, if there is one
unfoldable pub scanned : List ℕ → ℕ → Line → Scan
scanned [] at l = record { line = l; end = None }
scanned (b ∷ bs) at l = pick (eqb b 10) (record { line = l; end = Some (at + 1) }) (scanned bs (at + 1) (with_byte l b))
