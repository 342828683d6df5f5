-- Document 01's marked rows and those of document 02, with what the definitions compute for each and what is printed there.
use Rattle.std.specs.Prelude.{ℕ, zero, suc, ◌+◌, ◌*◌, true, false, List, [], ◌∷◌, ◌++◌, length, get_or, take, replicate}
use Rattle.limits.specs.Limits.{max_nodes, max_rules, history_words, scratch_words, feed_words, close_words}
use Rattle.lists.specs.Bits.{digit}
use Rattle.lists.specs.Sequence.{padded}
use Rattle.mltl.specs.Mltl.{Formula, signal, const, F, G, U, R, holds, delay, old_delay, computation_length}
use Rattle.interval.specs.Parts.{parts}
use Rattle.interval.specs.Doubling.{doubling}
use Rattle.table.specs.declared.Table.{Table}
use Rattle.table.specs.Nodes.{no_node, no_rule}
use Rattle.session.specs.declared.Session.{Session}
use Rattle.session.specs.Session.{Effect, opening, feeding, closing}

-- a formula with its verdicts on a trace as binary digits, tick 0 first; a width v = hi - lo with its parts; a width with the exponent and the
-- leftover of its shorter splitting (A7); a session over a table, fed two blocks and closed, with the count, the first word and the states kept of
-- each feed, and the count and the first word of the close; a formula with its delay, the one before A5, and its computation length
pub data MarkedRow : Type 0 where
  verdicts : Formula → List ℕ → ℕ → MarkedRow
  splits : ℕ → List ℕ → MarkedRow
  doubles : ℕ → List ℕ → MarkedRow
  streamed : Table → List ℕ → List ℕ → List ℕ → MarkedRow
  waits : Formula → List ℕ → MarkedRow

-- the verdicts of the first k ticks as binary digits
abbrev pub verdict_digits : ℕ → Formula → List ℕ → ℕ
verdict_digits zero f xs = 0
verdict_digits (suc k) f xs = 2 * verdict_digits k f xs + digit (holds f xs k)

-- what the three calls of a session row answer and leave, on buffers of zeros
abbrev pub observed : Effect → ℕ → List ℕ
observed e kept = e.answer.count ∷ get_or e.out 0 0 ∷ take kept e.history

abbrev pub stream : Session → List ℕ → List ℕ → List ℕ
stream s a b =
    let first : Effect = feeding s a (replicate history_words 0) (replicate scratch_words 0) (replicate feed_words 0) in
    let second : Effect = feeding first.answer.session b first.history (replicate scratch_words 0) (replicate feed_words 0) in
    let last : Effect = closing second.answer.session second.history (replicate scratch_words 0) (replicate close_words 0) in
    observed first 3 ++ observed second 3 ++ observed last 0

abbrev pub computed : MarkedRow → List ℕ
computed (verdicts f xs n) = verdict_digits (length xs) f xs ∷ []
computed (splits v ks) = parts v
computed (doubles v ns) = (doubling 0 v).exponent ∷ (doubling 0 v).leftover ∷ []
computed (streamed t a b ns) = stream (opening t 0).session a b
computed (waits f ns) = delay f ∷ old_delay f ∷ computation_length f ∷ []

abbrev pub stated : MarkedRow → List ℕ
stated (verdicts f xs n) = n ∷ []
stated (splits v ks) = ks
stated (doubles v ns) = ns
stated (streamed t a b ns) = ns
stated (waits f ns) = ns

abbrev pub P : List ℕ
P = 2 ∷ 2 ∷ 1 ∷ 0 ∷ 2 ∷ 3 ∷ 0 ∷ 0 ∷ []

abbrev pub p : Formula
p = signal 0

abbrev pub q : Formula
q = signal 1

-- the table of F[1,3]p under the name 7
abbrev pub finally_p : Table
finally_p = record {
  nodes = padded no_node max_nodes
      (record { kind = 1; arg = 0; lo = 0; hi = 0; left = 0; right = 0 } ∷ record { kind = 7; arg = 0; lo = 1; hi = 3; left = 0; right = 0 } ∷ []);
  node_count = 2;
  rules = padded no_rule max_rules (record { name = 7; watched = 1 } ∷ []);
  rule_count = 1;
}

abbrev pub marked_rows : List MarkedRow
marked_rows =
    verdicts (F 1 3 p) P 0b11111000
    ∷ verdicts (G 1 2 q) P 0b00010001
    ∷ verdicts (U 0 3 q p) P 0b11101100
    ∷ verdicts (U 2 2 p q) P 0b00110000
    ∷ verdicts (R 0 1 q p) P 0b00000100
    ∷ verdicts (F 2 3 (const true)) P 0b11111100
    ∷ verdicts (G 2 3 (const false)) P 0b00000011
    ∷ splits 0 []
    ∷ splits 5 (2 ∷ 1 ∷ 1 ∷ [])
    ∷ splits 6 (2 ∷ 2 ∷ [])
    ∷ splits 13 (3 ∷ 2 ∷ 2 ∷ [])
    ∷ splits 4084 (11 ∷ 10 ∷ 9 ∷ 8 ∷ 7 ∷ 6 ∷ 5 ∷ 4 ∷ 3 ∷ 2 ∷ 1 ∷ 1 ∷ [])
    ∷ splits 4095 (12 ∷ [])
    ∷ doubles 5 (2 ∷ 2 ∷ [])
    ∷ doubles 6 (2 ∷ 3 ∷ [])
    ∷ doubles 4095 (12 ∷ 0 ∷ [])
    ∷ waits (U 0 2 (F 0 3 (signal 2)) (signal 1)) (4 ∷ 5 ∷ 5 ∷ [])
    ∷ streamed finally_p (2 ∷ 2 ∷ 1 ∷ 0 ∷ 2 ∷ []) (3 ∷ 0 ∷ 0 ∷ []) (2 ∷ 3 ∷ 1 ∷ 0 ∷ 2 ∷ 3 ∷ 7 ∷ 3 ∷ 0 ∷ 0 ∷ 3 ∷ 0 ∷ [])
    ∷ []
