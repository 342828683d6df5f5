-- Values worked by hand, by computation: a rule with a delay of 600 that is lost in its third tick, and a constant at a tick not yet seen. Assumes nothing.
use mathlib.Core.Path.{◌≡◌, refl}
use mathlib.Core.Bool.{true}
use mathlib.Core.List.{[], ◌∷◌}
use Rattle.lists.specs.Bits.{bit}
use Rattle.mltl.specs.Mltl.{Formula, signal, const, F, G}
use Rattle.mltl.specs.Known.{no, undecided, yes, known, eventually_known, always_known, largest, smallest, largest_from, smallest_from}

abbrev held : Formula
held = G 0 600 (signal 0)

still_open : known held (1 ∷ 1 ∷ []) 0 ≡ undecided
unfolding known always_known smallest smallest_from bit
still_open = refl

lost : known held (1 ∷ 1 ∷ 0 ∷ []) 0 ≡ no
unfolding known always_known smallest smallest_from bit
lost = refl

constant_not_seen : known (F 1 1 (const true)) (0 ∷ []) 0 ≡ undecided
unfolding known eventually_known largest largest_from
constant_not_seen = refl

constant_seen : known (F 1 1 (const true)) (0 ∷ 0 ∷ []) 0 ≡ yes
unfolding known eventually_known largest largest_from
constant_seen = refl
