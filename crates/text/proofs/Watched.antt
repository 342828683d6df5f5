-- The rules of an accepted text's table have its lines' names and watch its lines' formulas. Assumes nothing.
use Prim.Native.Nat.{ℕ}
use native.Mathlib.Omega.{arith}
use mathlib.Core.Path.{◌≡◌, sym, ap, subst, ◌∙◌}
use mathlib.Core.List.{List, []}
use Rattle.mltl.specs.Mltl.{Formula}
use Rattle.table.specs.declared.Table.{Table}
use Rattle.text.specs.Typing.{Typed, typed}
use Rattle.text.specs.Accepted.{Lines, none, more}
use Rattle.text.specs.Outcome.{Watches, empty, faulty, whole}
use Rattle.text.proofs.Grows.{refused_number}
use Rattle.text.proofs.Means.{watches}
use Rattle.text.proofs.Exact.{Reaches, reaches_none, reaches_more}
use Rattle.text.proofs.Single.{answer}

module _ (text : List ℕ) (z : (typed text).number ≡ 0) where
  -- a text with a line that is not taken is refused
  all_taken : {r ns : List ℕ} {fs : List Formula} → Lines text ns fs r → Reaches text ns fs r
  all_taken none = reaches_none text
  all_taken (more x l) =
      let s = all_taken x in
      reaches_more s l (λ y q. refused_number q (ap (λ (a : Typed). a.number) (sym (answer text (faulty s.reached l (refused_number q)))) ∙ z))

  some : ¬ (text ≡ [])
  some e = let y : ◌≡◌ {A = ℕ} 11 0 = ap (λ (a : Typed). a.number) (sym (answer text (empty e))) ∙ z in omega arith

  -- THE LAW: whatever lines the text is read as
  pub typed_means : {ns : List ℕ} {fs : List Formula} → Lines text ns fs [] → Watches (typed text).table ns fs
  typed_means {ns} {fs} x =
      let s = all_taken x in
      subst (λ (t : Table). Watches t ns fs) (ap (λ (a : Typed). a.table) (sym (answer text (whole some s.reached)))) (watches s.holds s.part)
