-- The marked rows, all by one computation. Assumes nothing.
use mathlib.Core.Path.{◌≡◌, refl}
use mathlib.Core.List.{map}
use Rattle.lists.specs.Bits.{bit, number, word_at, pack, packed}
use Rattle.lists.specs.Sequence.{every, chain}
use Rattle.mltl.specs.Mltl.{holds, delay_by, computation_length, some_from, some_tick, every_tick, eventually, until, opposite, always, release}
use Rattle.interval.specs.Parts.{largest_to, left, parts_to, parts}
use Rattle.interval.specs.Doubling.{leftover, doubling}
use Rattle.table.specs.Sound.{is_sound_by}
use Rattle.session.specs.Session.{opening_by, feeding_by, closing_by}
use Rattle.mission.specs.Rows.{marked_rows, computed, stated}

pub marked_rows_lem : map computed marked_rows ≡ map stated marked_rows
unfolding bit number word_at pack packed every chain delay_by computation_length is_sound_by opening_by feeding_by closing_by holds some_from some_tick every_tick eventually until opposite always release largest_to left parts_to parts leftover doubling
marked_rows_lem = refl
