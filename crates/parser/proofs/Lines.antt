-- What each return of `line` promises. Assumes nothing.
use Prim.Native.Nat.{ℕ}
use native.Mathlib.Omega.{arith}
use mathlib.Core.Path.{◌≡◌, refl, ◌∙◌}
use mathlib.Core.List.{List, []}
use lib.ListN.{length}
use Rattle.grammar.specs.Machine.{Name, First, bottom, depth, AllRead, cf, begin}
use Rattle.grammar.specs.Tape.{Tape, tape, tapes}
use Rattle.parser.specs.Reads.{from, told, LineRead}
use Rattle.parser.specs.Code.{Expected, Bounded, FormulaRead}
use Rattle.parser.proofs.Leaves.{told_not, told_ok}

module _ (text : List ℕ) where
  pub line_name : {i n j v : ℕ} {cells : List ℕ} → Bounded text i 58 n j v → (n ≡ 0 → ⊥) → LineRead text i cells n j 0 (tape cells 0)
  line_name {i} {n} {j} {v} {cells} b z =
      record {
        later = b.later;
        further = λ x. absurd (z x);
        inside = λ l. omega arith;
        sized = refl;
        same = b.same Name First [] (bottom 0) (tape cells 0) refl refl ∙ told_not n j _ _ z;
        none = λ x. (refl, refl);
      }

  opened : (i n j v m k : ℕ) (cells : List ℕ) (β : Tape) → Bounded text i 58 n j v → n ≡ 0 → FormulaRead text j 32 (tape cells 0) m k β
      → from text (begin tapes (tape cells 0)) i ≡ told m k (from text (cf AllRead First [] (bottom v) β) k)
  unfolding depth
  opened i n j v m k cells β b z f = b.same Name First [] (bottom 0) (tape cells 0) refl refl ∙ told_ok n j _ z ∙ f.same (bottom v) refl

  pub line_formula : {i n j v m k : ℕ} {cells c : List ℕ} {β : Tape} → Bounded text i 58 n j v → n ≡ 0 → FormulaRead text j 32 (tape cells 0) m k β → (m ≡ 0 → ⊥)
      → length c ≡ length cells → LineRead text i cells m k 0 (tape c 0)
  line_formula {i} {n} {j} {v} {m} {k} {cells} {c} {β} b z f y w =
      record {
        later = omega arith;
        further = λ x. absurd (y x);
        inside = λ l. omega arith;
        sized = w;
        same = opened i n j v m k cells β b z f ∙ told_not m k _ _ y;
        none = λ x. (refl, refl);
      }

  -- the byte 10
  pub line_end_lem : {i n j v m k o s : ℕ} {cells : List ℕ} {β : Tape} → Bounded text i 58 n j v → n ≡ 0 → FormulaRead text j 32 (tape cells 0) m k β → m ≡ 0
      → Expected text k 10 o s → o ≡ 0 → length β.cells ≡ length cells → LineRead text i cells 0 s v β
  line_end_lem {i} {n} {j} {v} {m} {k} {o} {s} {cells} {β} b z f y e w u =
      record {
        later = omega arith;
        further = λ x. (let a = b.further z in let c = f.later in let d = e.further w in omega arith);
        inside = λ l. omega arith;
        sized = u;
        same = opened i n j v m k cells β b z f ∙ told_ok m k _ y ∙ e.ends refl v β ∙ told_ok o s _ w;
        none = λ x. absurd (x refl);
      }

  pub line_bad : {i n j v m k o s : ℕ} {cells c : List ℕ} {β : Tape} → Bounded text i 58 n j v → n ≡ 0 → FormulaRead text j 32 (tape cells 0) m k β → m ≡ 0
      → Expected text k 10 o s → (o ≡ 0 → ⊥) → length c ≡ length cells → LineRead text i cells o s 0 (tape c 0)
  line_bad {i} {n} {j} {v} {m} {k} {o} {s} {cells} {c} {β} b z f y e w u =
      record {
        later = omega arith;
        further = λ x. absurd (w x);
        inside = λ l. omega arith;
        sized = u;
        same = opened i n j v m k cells β b z f ∙ told_ok m k _ y ∙ e.ends refl v β ∙ told_not o s _ _ w;
        none = λ x. (refl, refl);
      }
