-- The number of each refusal, and of an answer that may be one.
use Rattle.std.specs.Prelude.{ℕ, Result, Ok, Err}
use Rattle.refusals.specs.Numbers
use Rattle.refusals.specs.declared.Refusal.{Refusal}
use Rattle.refusals.specs.declared.Refusal.TheVariants.{Length, Head, Link, Form, Argument, Interval, Operand, Full, Long, Name, Ruleless, Output, Syntax, Deep, Unsound, Absent, States, Buffer, Seen, Tick, Beyond, List, Waiting, Place}

abbrev pub number_of : Refusal → ℕ
number_of Length = Numbers.LENGTH
number_of Head = Numbers.HEAD
number_of Link = Numbers.LINK
number_of Form = Numbers.FORM
number_of Argument = Numbers.ARGUMENT
number_of Interval = Numbers.INTERVAL
number_of Operand = Numbers.OPERAND
number_of Full = Numbers.FULL
number_of Long = Numbers.LONG
number_of Name = Numbers.NAME
number_of Ruleless = Numbers.RULELESS
number_of Output = Numbers.OUTPUT
number_of Syntax = Numbers.SYNTAX
number_of Deep = Numbers.DEEP
number_of Unsound = Numbers.UNSOUND
number_of Absent = Numbers.ABSENT
number_of States = Numbers.STATES
number_of Buffer = Numbers.BUFFER
number_of Seen = Numbers.SEEN
number_of Tick = Numbers.TICK
number_of Beyond = Numbers.BEYOND
number_of List = Numbers.LIST
number_of Waiting = Numbers.WAITING
number_of Place = Numbers.PLACE

-- the number of a refusal, or 0 where the call is accepted
abbrev pub number : {A : Type 0} → Result A Refusal → ℕ
number (Ok x) = 0
number (Err e) = number_of e
