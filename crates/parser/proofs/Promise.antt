-- What `line` answers, by the grammar: a fault at the earliest place, or the one reading of the line, its nodes on the tape. Assumes nothing.
use Prim.Native.Nat.{ℕ, ◌+◌, ◌*◌, ◌-◌, ◌≤◌, min}
use native.Mathlib.Omega.{arith}
use mathlib.Core.Path.{◌≡◌, refl, sym, ap, ◌∙◌}
use mathlib.Core.Bool.{Bool, true, false}
use mathlib.Core.List.{List, [], ◌∷◌, ◌++◌}
use lib.Dec.{eqb}
use lib.ListN.{length, drop}
use borrow.Author.Tests.{ne_eqb, eqb-true}
use Rattle.mltl.specs.Mltl.{Formula, const}
use Rattle.grammar.specs.declared.Item.{Item}
use Rattle.grammar.specs.Grammar.{Line, Fault32, Fault33}
use Rattle.grammar.specs.Machine.{Actions, Fate, Fault, Finished, fate, begin, trees}
use Rattle.grammar.specs.Images.{held, sat, item_m, fate_m, Image}
use Rattle.grammar.proofs.Complete.{Exact, completes}
use Rattle.grammar.proofs.Sound.{sound}
use Rattle.grammar.proofs.Earliest.{earliest_32, earliest_33}
use Rattle.grammar.proofs.Images.{fate_is}
use Rattle.grammar.specs.declared.Made.{Made}
use Rattle.grammar.specs.Tape.{Tape, tape, tapes, emitted}
use Rattle.parser.specs.Reads.{from, told, LineRead}
use Rattle.grammar.specs.Made.{made, lists, nodes_of, spread_on, spread}
use Rattle.parser.proofs.Tapes.{emit_count}

-- ---- nothing built: the image of every reading
abbrev Bare : Type 0
Bare = Unit {0}

abbrev bare : Actions Bare Bare
bare = record { last_node = λ (b : Bare). tt; emit = λ (b : Bare) (i : Item) (v : Bare). tt; more = sat }

abbrev no_tape : Tape → Bare
no_tape b = tt

abbrev no_tree : Formula → Bare
no_tree b = tt

abbrev no_list : List Made → Bare
no_list b = tt

abbrev no_place : ℕ → Bare
no_place v = tt

grows_held : (n d : ℕ) → sat (held n) d ≡ held (10 * n + d)
unfolding sat held
grows_held n d = omega arith

sat_held : (n d : ℕ) → sat (held n) d ≡ held (sat n d)
unfolding sat held
sat_held n d = omega arith

trees_bare : Image trees bare no_tree no_tree
trees_bare = record { more = grows_held; last_node = λ b. refl; emit = λ b i v. refl }

lists_bare : Image lists bare no_list no_place
lists_bare = record { more = grows_held; last_node = λ b. refl; emit = λ b i v. refl }

tapes_bare : Image tapes bare no_tape no_place
tapes_bare = record { more = sat_held; last_node = λ b. refl; emit = λ b i v. refl }

-- ---- the tape is the image of the nodes
pub spread_count : (ms : List Made) (s : Tape) → s.count ≤ 65 → (spread_on s ms).count ≡ min 65 (s.count + length ms)
unfolding spread_on
spread_count [] s h = omega arith
spread_count (m ∷ ms) s h =
    let e = emit_count s (item_m m.it) (min m.left 64) in
    let f = spread_count ms (emitted s (item_m m.it) (min m.left 64)) (omega arith) in
    omega arith

pub spread_snoc : (ms : List Made) (s : Tape) (m : Made) → spread_on s (ms ++ (m ∷ [])) ≡ emitted (spread_on s ms) (item_m m.it) (min m.left 64)
unfolding spread_on
spread_snoc [] s m = refl
spread_snoc (x ∷ ms) s m = spread_snoc ms (emitted s (item_m x.it) (min x.left 64)) m

last_node_is : (c : List ℕ) (ms : List Made) → (spread c ms).count - 1 ≡ min (length ms - 1) 64
last_node_is c ms = let e = spread_count ms (tape c 0) (omega arith) in omega arith

lists_tapes : (c : List ℕ) → Image lists tapes (spread c) (λ (v : ℕ). min v 64)
lists_tapes c = record { more = grows_held; last_node = last_node_is c; emit = λ b i v. sym (spread_snoc b (tape c 0) (made i v)) }

pub lists_exact : Exact lists
lists_exact = record { more = λ n d. refl }

-- ---- out of an image
module _ {B C N M : Type 0} (g : B → C) (h : N → M) where
  fault_back : (x : Fate B) (n p : ℕ) → fate_m g h x ≡ Fault n p → x ≡ Fault n p
  fault_back (Fault m q) n p e = e'
    where
      e' : ◌≡◌ {A = Fate B} (Fault m q) (Fault n p)
      e' = let a : m ≡ n = cc in let b : q ≡ p = cc in cc
  fault_back (Finished m b j r) n p e = absurd (let z : ◌≡◌ {A = ℕ} 0 1 = cc in omega arith)

  record Back (x : Fate B) (n : ℕ) (c : C) (j : ℕ) (r : List ℕ) : Type 0 where
    name : ℕ
    built : B
    is : x ≡ Finished name built j r
    names : held name ≡ n
    image : g built ≡ c

  told_back : (x : Fate B) (n : ℕ) (c : C) (j : ℕ) (r : List ℕ) → fate_m g h x ≡ Finished n c j r → Back x n c j r
  told_back (Fault m q) n c j r e = absurd (let z : ◌≡◌ {A = ℕ} 0 1 = cc in omega arith)
  told_back (Finished m b k s) n c j r e =
      record { name = m; built = b; is = (let a : k ≡ j = cc in let d : s ≡ r = cc in cc); names = cc; image = cc }

module _ (text : List ℕ) (i : ℕ) (cells : List ℕ) where
  -- the fates in the four readings
  bare_tapes : fate bare 32 (begin bare tt) i (drop i text) ≡ fate_m no_tape no_place (from text (begin tapes (tape cells 0)) i)
  unfolding held
  bare_tapes = fate_is tapes_bare 32 (drop i text) (begin tapes (tape cells 0)) i

  bare_trees : fate bare 32 (begin bare tt) i (drop i text) ≡ fate_m no_tree no_tree (fate trees 32 (begin trees (const false)) i (drop i text))
  unfolding held
  bare_trees = fate_is trees_bare 32 (drop i text) (begin trees (const false)) i

  tapes_lists : from text (begin tapes (tape cells 0)) i ≡ fate_m (spread cells) (λ (v : ℕ). min v 64) (fate lists 32 (begin lists []) i (drop i text))
  unfolding held spread_on
  tapes_lists = fate_is (lists_tapes cells) 32 (drop i text) (begin lists []) i

  -- a fault of the code is one of the reading
  fault_is : (n p : ℕ) → from text (begin tapes (tape cells 0)) i ≡ Fault n p → fate trees 32 (begin trees (const false)) i (drop i text) ≡ Fault n p
  fault_is n p e =
      fault_back no_tree no_tree (fate trees 32 (begin trees (const false)) i (drop i text)) n p
      (sym bare_trees ∙ bare_tapes ∙ ap (fate_m no_tape no_place) e)

  -- 32 and 33 as the request has them
  pub line_fault_32 : (j name : ℕ) (β : Tape) → LineRead text i cells 32 j name β → Fault32 i (drop i text) j
  line_fault_32 j name β r = earliest_32 (const false) i (drop i text) j (fault_is 32 j r.same)

  pub line_fault_33 : (j name : ℕ) (β : Tape) → LineRead text i cells 33 j name β → Fault33 i (drop i text) j
  line_fault_33 j name β r = earliest_33 (const false) i (drop i text) j (fault_is 33 j r.same)

  -- an accepted line is one of the grammar; its name is held, and its nodes are on the tape
  pub record Reading (j name : ℕ) (β : Tape) : Type 0 where
    pub number : ℕ
    pub formula : Formula
    pub line : Line 32 number formula (drop i text) (drop j text)
    pub held_name : held number ≡ name
    pub nodes : spread cells (nodes_of formula) ≡ β

  trees_told : (n : ℕ) (c : Bare) (j : ℕ) (r : List ℕ) → fate bare 32 (begin bare tt) i (drop i text) ≡ Finished n c j r
      → Back no_tree no_tree (fate trees 32 (begin trees (const false)) i (drop i text)) n c j r
  trees_told n c j r e = told_back no_tree no_tree _ n c j r (sym bare_trees ∙ e)

  pub line_accepted : (j name : ℕ) (β : Tape) → LineRead text i cells 0 j name β → Reading j name β
  line_accepted j name β r =
      let t = trees_told (held name) tt j (drop j text) (bare_tapes ∙ ap (fate_m no_tape no_place) r.same) in
      let l = sound 32 (drop i text) (const false) i t.name t.built j (drop j text) t.is in
      let c = completes lists_exact 32 i [] (omega arith) l in
      let e = sym r.same ∙ tapes_lists ∙ ap (fate_m (spread cells) (λ (v : ℕ). min v 64)) c.1 in
      record { number = t.name; formula = t.built; line = l; held_name = (cc (e)); nodes = (cc (e)) }

  -- and a line of the grammar is accepted
  pub line_complete : {n : ℕ} {t : Formula} {rest : List ℕ} (m j name : ℕ) (β : Tape) → Line 32 n t (drop i text) rest → LineRead text i cells m j name β → m ≡ 0
  line_complete {n} {t} {rest} m j name β l r = by (eqb m 0) refl
    where
      by : (b : Bool) → eqb m 0 ≡ b → m ≡ 0
      by true e = eqb-true m 0 e
      by false e =
          let c = completes lists_exact 32 i [] (omega arith) l in
          let f = r.same in
          let g : told m j (Finished name β j (drop j text)) ≡ Fault m j = rw e in
          let k = tapes_lists ∙ ap (fate_m (spread cells) (λ (v : ℕ). min v 64)) c.1 in
          absurd (let z : ◌≡◌ {A = ℕ} 0 1 = cc (f, g, k) in omega arith)

-- ---- the same by the nodes of the line
module _ (text : List ℕ) (i : ℕ) (cells : List ℕ) where
  pub record Listed (j name : ℕ) (β : Tape) : Type 0 where
    pub number : ℕ
    pub formula : Formula
    pub line : Line 32 number formula (drop i text) (drop j text)
    pub told : fate lists 32 (begin lists []) i (drop i text) ≡ Finished number (nodes_of formula) j (drop j text)
    pub held_name : held number ≡ name
    pub nodes : spread cells (nodes_of formula) ≡ β

  same_end : (n m : ℕ) (a b : List Made) (j k : ℕ) (r : List ℕ) (name : ℕ) (β : Tape) → fate_m (spread cells) (λ (v : ℕ). min v 64) (Finished n a j r) ≡ Finished name β k r → ◌≡◌ {A = Fate (List Made)} (Finished n a j r) (Finished n a k r)
  same_end n m a b j k r name β e = let f : j ≡ k = cc in ap (λ (x : ℕ). Finished n a x r) f

  pub line_listed : (j name : ℕ) (β : Tape) → LineRead text i cells 0 j name β → Listed j name β
  line_listed j name β r =
      let a = line_accepted text i cells j name β r in
      let c = completes lists_exact 32 i [] (omega arith) a.line in
      let e = sym (ap (fate_m (spread cells) (λ (v : ℕ). min v 64)) c.1) ∙ sym (tapes_lists text i cells) ∙ r.same in
      record {
        number = a.number;
        formula = a.formula;
        line = a.line;
        told = c.1 ∙ same_end a.number 0 (nodes_of a.formula) [] c.0 j (drop j text) name β e;
        held_name = a.held_name;
        nodes = a.nodes;
      }

  pub line_unlisted : (m j name : ℕ) (β : Tape) → LineRead text i cells m j name β → (m ≡ 0 → ⊥) → fate lists 32 (begin lists []) i (drop i text) ≡ Fault m j
  line_unlisted m j name β r z =
      let g : told m j (Finished name β j (drop j text)) ≡ Fault m j = rw (ne_eqb m 0 z) in
      fault_back (spread cells) (λ (v : ℕ). min v 64) (fate lists 32 (begin lists []) i (drop i text)) m j (sym (tapes_lists text i cells) ∙ r.same ∙ g)

  pub line_count : (j name : ℕ) (c : List ℕ) (n : ℕ) → LineRead text i cells 0 j name (tape c n) → n ≤ 65
  line_count j name c n r =
      let a = line_accepted text i cells j name (tape c n) r in
      let e = ap (λ (x : Tape). x.count) a.nodes in
      let f = spread_count (nodes_of a.formula) (tape cells 0) (omega arith) in
      omega arith

-- ---- the reading by nodes, of any bytes
module _ (i : ℕ) (bs : List ℕ) where
  by_lists : fate bare 32 (begin bare tt) i bs ≡ fate_m no_list no_place (fate lists 32 (begin lists []) i bs)
  unfolding held
  by_lists = fate_is lists_bare 32 bs (begin lists []) i

  by_trees : fate bare 32 (begin bare tt) i bs ≡ fate_m no_tree no_tree (fate trees 32 (begin trees (const false)) i bs)
  unfolding held
  by_trees = fate_is trees_bare 32 bs (begin trees (const false)) i

  -- its faults are those of the formulas' reading
  pub lists_fault : (n p : ℕ) → fate lists 32 (begin lists []) i bs ≡ Fault n p → fate trees 32 (begin trees (const false)) i bs ≡ Fault n p
  lists_fault n p e = fault_back no_tree no_tree (fate trees 32 (begin trees (const false)) i bs) n p (sym by_trees ∙ by_lists ∙ ap (fate_m no_list no_place) e)

  pub record LineTold (n : ℕ) (ms : List Made) (r : List ℕ) : Type 0 where
    pub formula : Formula
    pub line : Line 32 n formula bs r
    pub nodes : ms ≡ nodes_of formula

  renamed : (f : Formula) (m n : ℕ) (r : List ℕ) → m ≡ n → Line 32 m f bs r → Line 32 n f bs r
  renamed f m n r e l = rw e at l

  -- what it accepts is a line of the grammar, and the nodes are those of its formula
  pub lists_told : (n : ℕ) (ms : List Made) (j : ℕ) (r : List ℕ) → fate lists 32 (begin lists []) i bs ≡ Finished n ms j r → LineTold n ms r
  lists_told n ms j r e =
      let t = told_back no_tree no_tree (fate trees 32 (begin trees (const false)) i bs) (held n) tt j r (sym by_trees ∙ by_lists ∙ ap (fate_m no_list no_place) e) in
      let l = sound 32 bs (const false) i t.name t.built j r t.is in
      let c = completes lists_exact 32 i [] (omega arith) l in
      let f = sym e ∙ c.1 in
      let k : n ≡ t.name = cc (f) in
      record { formula = t.built; line = renamed t.built t.name n r (sym k) l; nodes = (cc (f)) }
