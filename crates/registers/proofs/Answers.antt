-- The bytes after a call and after a write, from the steps of the code; and a place that is read. Assumes nothing.
use Prim.Native.Nat.{ℕ}
use mathlib.Core.Path.{◌≡◌, refl}
use mathlib.Core.List.{List}
use borrow.Author.Tests.{eq-eqb, ne_eqb}
use Rattle.registers.specs.declared.Flags.{Flags}
use Rattle.registers.specs.declared.Registers.{Registers}
use Rattle.registers.specs.declared.Outcome.{Outcome}
use Rattle.registers.specs.Registers.{flags_from, bytes_of, registers_from, accepted_by, refused_by, after_call, cleared, enabled, after_write, place_number}

module _ (b : List ℕ) {b' : List ℕ} {r k : Registers} (loaded : r ≡ registers_from b) (stored : b' ≡ bytes_of k) where
  pub noted_accepted : (o : Outcome) → o.number ≡ 0 → k ≡ accepted_by o r → b' ≡ after_call o b
  unfolding after_call
  noted_accepted o z e = rw (stored, e, loaded, eq-eqb o.number 0 z)

  pub noted_refused : (o : Outcome) → (o.number ≡ 0 → ⊥) → k ≡ refused_by o r → b' ≡ after_call o b
  unfolding after_call
  noted_refused o z e = rw (stored, e, loaded, ne_eqb o.number 0 z)

  module _ (place value : ℕ) {by : Flags} (flags : by ≡ flags_from value) where
    pub written_status : place ≡ 0 → k ≡ cleared by r → (0 ≡ place_number place) × (b' ≡ after_write place value b)
    unfolding after_write
    written_status z e = rw (z, stored, e, flags, loaded) (refl, refl)

    pub written_enable : place ≡ 1 → k ≡ enabled by r → (0 ≡ place_number place) × (b' ≡ after_write place value b)
    unfolding after_write
    written_enable z e = rw (z, stored, e, flags, loaded) (refl, refl)

pub written_other : (place value : ℕ) (b : List ℕ) → (place ≡ 0 → ⊥) → (place ≡ 1 → ⊥) → b ≡ after_write place value b
unfolding after_write
written_other place value b p q = rw (ne_eqb place 0 p, ne_eqb place 1 q)
