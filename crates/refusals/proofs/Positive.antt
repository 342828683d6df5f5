-- No refusal has the number 0. Assumes nothing.
use mathlib.Core.Path.{◌≡◌, refl}
use mathlib.Core.Bool.{false}
use borrow.Author.Tests.{eqb-false}
use lib.Dec.{eqb}
use Rattle.refusals.specs.Refusals.{number_of}
use Rattle.refusals.specs.declared.Refusal.{Refusal}
use Rattle.refusals.specs.declared.Refusal.TheVariants.{Length, Head, Link, Form, Argument, Interval, Operand, Full, Long, Name, Ruleless, Output, Syntax, Deep, Unsound, Absent, States, Buffer, Seen, Tick, Beyond, List, Waiting, Place}

pub refuses : (e : Refusal) → eqb (number_of e) 0 ≡ false
refuses Length = refl
refuses Head = refl
refuses Link = refl
refuses Form = refl
refuses Argument = refl
refuses Interval = refl
refuses Operand = refl
refuses Full = refl
refuses Long = refl
refuses Name = refl
refuses Ruleless = refl
refuses Output = refl
refuses Syntax = refl
refuses Deep = refl
refuses Unsound = refl
refuses Absent = refl
refuses States = refl
refuses Buffer = refl
refuses Seen = refl
refuses Tick = refl
refuses Beyond = refl
refuses List = refl
refuses Waiting = refl
refuses Place = refl

pub refusal_above : (e : Refusal) → ¬ (number_of e ≡ 0)
refusal_above e = eqb-false (number_of e) 0 (refuses e)
