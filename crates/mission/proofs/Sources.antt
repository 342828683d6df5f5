-- What an accepted read yields is sound, of a book and of a text. Assumes nothing.
use mathlib.Core.Path.{◌≡◌}
use Rattle.table.specs.Sound.{Sound}
use Rattle.book.proofs.Sound.{accepted_sound}
use Rattle.text.proofs.Sounds.{typed_sound}
use Rattle.mission.specs.Mission.{Source, book, text, read_number, read_table, OfBytes}

pub source_sound : (s : Source) → OfBytes s → read_number s ≡ 0 → Sound (read_table s)
source_sound (book b) bytes e = accepted_sound b bytes e
source_sound (text x) bytes e = typed_sound x e
