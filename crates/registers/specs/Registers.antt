-- The status registers: sixteen bytes for a program that looks on while sessions run (A10). What they hold, and what one session call and
-- one write do to them, whatever they held before.
use Rattle.std.specs.Prelude.{ℕ, ◌+◌, ◌*◌, ◌/◌, ◌%◌, Bool, true, false, ◌&&◌, ◌||◌, not, List, [], ◌∷◌, ◌++◌, ltb, eqb, get_or, replicate, Result, Ok, Err}
use Rattle.limits.specs.Limits.{status_bytes}
use Rattle.refusals.specs.Numbers.{PLACE}
use Rattle.refusals.specs.Refusals.{number_of}
use Rattle.refusals.specs.declared.Refusal.{Refusal}
use Rattle.lists.specs.Choice.{Row, pick, ◌if◌, first}
use Rattle.lists.specs.Sequence.{ticks}
use Rattle.lists.specs.Bits.{bit, digit}
use Rattle.registers.specs.declared.Flags.{Flags}
use Rattle.registers.specs.declared.Registers.{Registers}
use Rattle.registers.specs.declared.Kind.{Kind}
use Rattle.registers.specs.declared.Kind.TheVariants.{Open, Widen, Feed, Close}
use Rattle.registers.specs.declared.Outcome.{Outcome}
use Rattle.registers.specs.declared.Verdicts.{Verdicts}
use Rattle.registers.specs.declared.Verdicts.TheVariants.{Nothing, Yes, No}

-- ---- what an accepted call gave: whether a verdict, whether a no, and the tick of its first no
abbrev pub gives_by : Verdicts → Bool
gives_by Nothing = false
gives_by Yes = true
gives_by (No tick) = true

abbrev pub fails_by : Verdicts → Bool
fails_by Nothing = false
fails_by Yes = false
fails_by (No tick) = true

abbrev pub tick_by : Verdicts → ℕ
tick_by Nothing = 0
tick_by Yes = 0
tick_by (No tick) = tick

-- what the code notes of a call
abbrev pub outcome_told : Kind → Result Verdicts Refusal → Outcome
outcome_told kind (Ok v) = record { kind = kind; number = 0; gives = gives_by v; fails = fails_by v; tick = tick_by v }
outcome_told kind (Err e) = record { kind = kind; number = number_of e; gives = false; fails = false; tick = 0 }

-- ---- the four flags of status and of enable: bits 0 to 3 of a byte
abbrev pub flags_from : ℕ → Flags
flags_from x = record { running = bit x 0; ready = bit x 1; failed = bit x 2; refused = bit x 3 }

abbrev pub byte_of : Flags → ℕ
byte_of f = digit f.running + 2 * digit f.ready + 4 * digit f.failed + 8 * digit f.refused

abbrev pub share : Flags → Flags → Bool
share f g = f.running && g.running || f.ready && g.ready || f.failed && g.failed || f.refused && g.refused

-- ---- the sixteen bytes
-- a number as 8 bytes, the low one first
abbrev pub eight_bytes : ℕ → List ℕ
eight_bytes x =
    x % 256 ∷ x / 256 % 256 ∷ x / 65536 % 256 ∷ x / 16777216 % 256
    ∷ x / 4294967296 % 256 ∷ x / 1099511627776 % 256 ∷ x / 281474976710656 % 256 ∷ x / 72057594037927936 % 256 ∷ []

-- status, enable, interrupt, the number of the last refused call, the 8 bytes of the first no's tick, and four that are zero
abbrev pub bytes_of : Registers → List ℕ
bytes_of r =
    byte_of r.status ∷ byte_of r.enable ∷ digit (share r.status r.enable) ∷ r.number
    ∷ ticks (λ k. get_or r.first k 0) 8 ++ (0 ∷ 0 ∷ 0 ∷ 0 ∷ [])

abbrev pub registers_from : List ℕ → Registers
registers_from b = record {
  status = flags_from (get_or b 0 0);
  enable = flags_from (get_or b 1 0);
  number = get_or b 3 0;
  first = ticks (λ k. get_or b (4 + k) 0) 8;
}

-- as they start
abbrev pub zeros : List ℕ
zeros = replicate status_bytes 0

-- ---- after a session call
-- an accepted open sets bit 0, and an accepted close clears it
abbrev pub running_after : Kind → Bool → Bool
running_after Open was = true
running_after Widen was = was
running_after Feed was = was
running_after Close was = false

abbrev pub tick_of : Outcome → ℕ
tick_of o = pick o.fails o.tick 0

-- the 8 bytes of the first no's tick stay while bit 2 is set
abbrev pub first_after : Bool → List ℕ → ℕ → List ℕ
first_after set first tick = pick set first (eight_bytes tick)

abbrev pub accepted_by : Outcome → Registers → Registers
accepted_by o r = record {
  status = record {
    running = running_after o.kind r.status.running;
    ready = r.status.ready || o.gives;
    failed = r.status.failed || o.fails;
    refused = r.status.refused;
  };
  enable = r.enable;
  number = r.number;
  first = first_after r.status.failed r.first (tick_of o);
}

abbrev pub refused_by : Outcome → Registers → Registers
refused_by o r = record {
  status = record { running = r.status.running; ready = r.status.ready; failed = r.status.failed; refused = true };
  enable = r.enable;
  number = o.number;
  first = r.first;
}

abbrev pub noted : Outcome → Registers → Registers
noted o r = pick (eqb o.number 0) (accepted_by o r) (refused_by o r)

unfoldable pub after_call : Outcome → List ℕ → List ℕ
after_call o b = bytes_of (noted o (registers_from b))

-- ---- after a write
-- to byte 0: clears those of bits 1 to 3 that are written as 1
abbrev pub cleared : Flags → Registers → Registers
cleared by r = record {
  status = record {
    running = r.status.running;
    ready = r.status.ready && not by.ready;
    failed = r.status.failed && not by.failed;
    refused = r.status.refused && not by.refused;
  };
  enable = r.enable;
  number = r.number;
  first = first_after (r.status.failed && not by.failed) r.first 0;
}

-- to byte 1: its low four bits
abbrev pub enabled : Flags → Registers → Registers
enabled by r = record { status = r.status; enable = by; number = r.number; first = r.first }

-- other writes do nothing
unfoldable pub after_write : ℕ → ℕ → List ℕ → List ℕ
after_write place value b =
    pick (eqb place 0) (bytes_of (cleared (flags_from value) (registers_from b)))
    (pick (eqb place 1) (bytes_of (enabled (flags_from value) (registers_from b))) b)

-- ---- the calls for a place
abbrev pub place_rows : ℕ → List Row
place_rows place = (PLACE if ltb 15 place) ∷ []

abbrev pub place_number : ℕ → ℕ
place_number place = first (place_rows place)

-- the number of a refusal or 0, and the byte at a place, 0 where the place is refused
pub record Reading : Type 0 where
  pub number : ℕ
  pub value : ℕ

-- what an answer of the code says
abbrev pub reading_told : Result ℕ Refusal → Reading
reading_told (Ok x) = record { number = 0; value = x }
reading_told (Err e) = record { number = number_of e; value = 0 }

abbrev pub reading_of : ℕ → List ℕ → Reading
reading_of place b = let n = place_number place in record { number = n; value = pick (eqb n 0) (get_or b place 0) 0 }
