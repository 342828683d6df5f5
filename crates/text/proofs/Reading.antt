-- The lines of a text, one after the other. Assumes nothing.
use Prim.Native.Nat.{ℕ, ◌+◌, ◌≤◌, ◌<◌}
use native.Mathlib.Omega.{arith}
use mathlib.Core.Path.{◌≡◌, refl, sym, ap, ◌∙◌}
use mathlib.Core.List.{List}
use lib.Dec.{eqb}
use lib.ListN.{length, drop, length-drop, drop_of_length-le}
use borrow.Author.Tests.{eq-eqb, ne_eqb}
use Rattle.refusals.specs.Numbers.{RULELESS}
use Rattle.table.specs.declared.Table.{Table}
use Rattle.builder.specs.Adding.{Added}
use Rattle.grammar.specs.Made.{nodes_of}
use Rattle.grammar.specs.Tape.{Tape, tape}
use Rattle.grammar.proofs.Runs.{pick_true, pick_false}
use Rattle.parser.specs.Reads.{LineRead}
use Rattle.parser.proofs.Promise.{line_listed, line_unlisted, line_count}
use Rattle.text.specs.Typing.{Typed, line_added, refused, accepted, typed, mades_of}
use Rattle.text.proofs.Decoded.{line_decoded}
use Rattle.text.proofs.Runs.{added_then, Run, run_end, Turn, turn, fated}

line_nought : {text : List ℕ} {i : ℕ} {c : List ℕ} {m j name : ℕ} {β : Tape} → LineRead text i c m j name β → m ≡ 0 → LineRead text i c 0 j name β
line_nought r e = rw e at r

module _ (text : List ℕ) where
  -- the lines before the place i are in the table t
  abbrev pub Going : Table → ℕ → ℕ → Type 0
  Going t i line = Run text t i line (drop i text)

  pub read_empty : length text ≡ 0 → refused RULELESS 0 ≡ typed text
  unfolding typed
  read_empty e = sym (pick_true (eqb (length text) 0) _ _ (eq-eqb (length text) 0 e))

  module _ {t : Table} {i line : ℕ} (g : Going t i line) (h : i < length text) where
    now : Turn text t i line (drop i text)
    now = turn t i line (drop i text) g (λ e. let l = length-drop i text in omega arith)

    pub read_fault : {c : List ℕ} {m j name : ℕ} {β : Tape} {r : Typed} → LineRead text i c m j name β → ¬ (m ≡ 0) → r ≡ refused m j → r ≡ typed text
    read_fault {c} {m} {j} {name} {β} l z e = e ∙ sym (fated now (line_unlisted text i c m j name β l z))

    -- the line at i, its nodes on the tape
    module _ {c : List ℕ} {m j name : ℕ} {d : List ℕ} {k : ℕ} (x : LineRead text i c m j name (tape d k)) (y : m ≡ 0) where
      l : LineRead text i c 0 j name (tape d k)
      l = line_nought x y

      pub few_nodes : k ≤ 65
      few_nodes = line_count text i c j name d k l

      module _ (w : length c ≡ 325) {a : Added} (e : a ≡ line_added t name (mades_of d k)) where
        told_is : typed text ≡ added_then now.left line j (drop j text) a
        told_is =
            let q = line_listed text i c j name (tape d k) l in
            let f : a ≡ line_added t q.number (nodes_of q.formula) = e ∙ line_decoded t q.formula q.number c d k (omega arith) q.nodes q.held_name in
            fated now q.told ∙ ap (added_then now.left line j (drop j text)) (sym f)

        pub read_bad : {r : Typed} → ¬ (a.number ≡ 0) → r ≡ refused a.number line → r ≡ typed text
        read_bad z y = y ∙ sym (told_is ∙ pick_false (eqb a.number 0) _ _ (ne_eqb a.number 0 z))

        pub read_more : a.number ≡ 0 → Going a.table j (line + 1)
        read_more z = record {
          fuel = now.left;
          enough = let p = l.further refl in let q = now.enough in let u = length-drop i text in let v = length-drop j text in omega arith;
          same = told_is ∙ pick_true (eqb a.number 0) _ _ (eq-eqb a.number 0 z);
        }

  pub read_done : {t : Table} {i line : ℕ} → Going t i line → length text ≤ i → accepted t ≡ typed text
  read_done g h = sym (run_end g (drop_of_length-le text h))
