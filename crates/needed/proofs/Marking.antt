-- The loop from the last node to the first. Assumes nothing.
use Prim.Native.Nat.{ℕ, suc, ◌≤◌, ◌<◌, ◌^◌}
use mathlib.Core.Path.{◌≡◌, sym, ap, ap₂, ◌∙◌}
use mathlib.Core.Bool.{Bool, ◌&&◌, ◌||◌}
use mathlib.Core.List.{List}
use lib.Dec.{ltb}
use lib.ListN.{drop, drop_of_length-le, get_or, length}
use lib.Seq.{drop-cons}
use Rattle.lists.specs.Bits.{bit}
use Rattle.lists.proofs.Bits.{number_is}
use Rattle.table.specs.Nodes.{no_node}
use Rattle.table.specs.declared.Node.{Node}
use Rattle.needed.specs.Marks.{has_operand, is_needed, needed}
use Rattle.needed.specs.Code.Steps.{mark_node}
use Rattle.needed.proofs.Bits.{node_bit}

module _ (seed : ℕ) (ns : List Node) where
  -- the marks m are those of what the nodes from place i on need
  pub record Marking (m i : ℕ) : Type 0 where
    pub fits : m < 2 ^ 64
    pub bits : (j : ℕ) → j < 64 → bit m j ≡ is_needed (bit seed) i (drop i ns) j

  pub marking_start : (i : ℕ) → seed < 2 ^ 64 → length ns ≤ i → Marking seed i
  unfolding is_needed
  marking_start i s h = record { fits = s; bits = λ j l. rw (drop_of_length-le ns {i = i} h) }

  -- one node more
  needed_cons : (j : ℕ) → j < length ns → (q : ℕ) → is_needed (bit seed) j (drop j ns) q
      ≡ (is_needed (bit seed) (suc j) (drop (suc j) ns) q || (is_needed (bit seed) (suc j) (drop (suc j) ns) j && (ltb q j && has_operand (get_or ns j no_node) q)))
  unfolding is_needed
  needed_cons j h q = rw (drop-cons ns j no_node h)

  pub marking_more : {m v : ℕ} (i j : ℕ) → v < 2 ^ 64 → i ≡ suc j → j < length ns → j < 64 → v ≡ mark_node m j (get_or ns j no_node) → Marking m i → Marking v j
  marking_more {m} {v} i j s e h l d t = record {
    fits = s;
    bits = λ q k. ap (λ (x : ℕ). bit x q) d ∙ node_bit m j (get_or ns j no_node) q k
        ∙ ap₂ (λ (a b : Bool). a || (b && (ltb q j && has_operand (get_or ns j no_node) q))) (was q k) (was j l) ∙ sym (needed_cons j h q);
  }
    where
      was : (q : ℕ) → q < 64 → bit m q ≡ is_needed (bit seed) (suc j) (drop (suc j) ns) q
      was q k = rw e at (t.bits q k)

  pub marking_done : {m i : ℕ} → i ≡ 0 → Marking m i → m ≡ needed seed ns
  unfolding needed
  marking_done {m} e t = number_is 64 m (is_needed (bit seed) 0 ns) t.fits (λ j l. rw e at (t.bits j l))
