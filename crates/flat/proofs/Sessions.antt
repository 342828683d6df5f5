-- A session's bytes and back: `session-back`, that a session over a sound table is what its bytes hold, and `renewed-back`, that with
-- another count of states they hold the session with that count; `narrow_wide`, that bytes with a count of 32 bits hold the same session
-- either way. Assumes nothing.
use Prim.Native.Nat.{ℕ, suc, ◌+◌, ◌*◌, ◌/◌, ◌%◌, ◌≤◌, ◌<◌}
use native.Mathlib.Nat.{add-zero, div-div-eq-div-mul}
use native.Mathlib.Omega.{arith}
use mathlib.Core.Path.{◌≡◌, refl, sym, ap, ◌∙◌}
use mathlib.Core.List.{List, ◌++◌}
use lib.ListN.{length, get_or, take, drop, set, length-set, take-append-drop}
use lib.Seq.{paste, paste-zero, paste-suc, get_or-set_same, get_or-set_other, take-set-le, take_at}
use borrow.Rule.Slice.PartMut.{put_mid}
use borrow.Author.Tests.{eq-eqb, ne_eqb}
use Rattle.std.specs.Int.{w32, w64, to_le_bytes}
use Rattle.std.proofs.lemmas.Slice.{put_mid-paste}
use Rattle.lists.proofs.Sequences.{length_ticks}
use Rattle.table.specs.declared.Table.{Table}
use Rattle.table.specs.Nodes.{no_table}
use Rattle.table.specs.Sound.{Sound}
use Rattle.flat.specs.Flat.{table_byte, bytes_holding, table_from, written}
use Rattle.flat.proofs.Laws.{read_written, written_is, length_written, same_table}
use Rattle.session.specs.declared.Session.{Session}
use Rattle.session.specs.Session.{session_with, with_seen}
use Rattle.narrow.specs.declared.NarrowSession.{NarrowSession}
use Rattle.narrow.specs.Narrow.{wide_of}
use Rattle.flat.specs.Sessions.{four_at, put_four, eight_at, put_eight, session_from, session_written, renewed, narrow_from}

-- ---- bytes that are copied
-- a byte more
module _ (b : List ℕ) (at : ℕ) (m : List ℕ) where
  byte_put : (j : ℕ) {l : List ℕ} {i v : ℕ} → l ≡ paste b at m j → i ≡ at + j → v ≡ get_or m j 0 → at + j < length b → j < length m → set l i v ≡ paste b at m (suc j)
  byte_put j e p q h k = rw (e, p, q) (paste-suc b at m j 0 h k)

pub four_copied : (b : List ℕ) (at x : ℕ) {mid : List ℕ} {k : ℕ} → at + 4 ≤ length b → k ≡ 4 → mid ≡ to_le_bytes w32 x → put_mid at k b mid ≡ put_four b at x
four_copied b at x {mid} {k} h e c =
    let m : List ℕ = to_le_bytes w32 x in
    put_mid-paste at k b mid m 4 c (sym e) refl
    ∙ sym (byte_put b at m 3 (byte_put b at m 2 (byte_put b at m 1 (byte_put b at m 0 (paste-zero b at m)
    (omega arith) refl (omega arith) (omega arith)) refl refl (omega arith) (omega arith)) refl refl (omega arith) (omega arith)) refl refl (omega arith) (omega arith))

pub eight_copied : (b : List ℕ) (at x : ℕ) {mid : List ℕ} {k : ℕ} → at + 8 ≤ length b → k ≡ 8 → mid ≡ to_le_bytes w64 x → put_mid at k b mid ≡ put_eight b at x
eight_copied b at x {mid} {k} h e c =
    let m : List ℕ = to_le_bytes w64 x in
    let d₁ : x / 4294967296 / 256 ≡ x / 1099511627776 = div-div-eq-div-mul x 4294967296 256 in
    let d₂ : x / 4294967296 / 65536 ≡ x / 281474976710656 = div-div-eq-div-mul x 4294967296 65536 in
    let d₃ : x / 4294967296 / 16777216 ≡ x / 72057594037927936 = div-div-eq-div-mul x 4294967296 16777216 in
    let s₁ = byte_put b at m 0 {v = x % 4294967296 % 256} (paste-zero b at m) (omega arith) (omega arith) (omega arith) (omega arith) in
    let s₂ = byte_put b at m 1 {v = x % 4294967296 / 256 % 256} s₁ refl (omega arith) (omega arith) (omega arith) in
    let s₃ = byte_put b at m 2 {v = x % 4294967296 / 65536 % 256} s₂ refl (omega arith) (omega arith) (omega arith) in
    let s₄ = byte_put b at m 3 {v = x % 4294967296 / 16777216 % 256} s₃ refl (omega arith) (omega arith) (omega arith) in
    let s₅ = byte_put b at m 4 s₄ refl refl (omega arith) (omega arith) in
    let s₆ = byte_put b at m 5 s₅ (omega arith) (ap (λ (i : ℕ). i % 256) d₁) (omega arith) (omega arith) in
    let s₇ = byte_put b at m 6 s₆ (omega arith) (ap (λ (i : ℕ). i % 256) d₂) (omega arith) (omega arith) in
    let s₈ = byte_put b at m 7 s₇ (omega arith) (ap (λ (i : ℕ). i % 256) d₃) (omega arith) (omega arith) in
    put_mid-paste at k b mid m 8 c (sym e) refl ∙ sym s₈

-- ---- four bytes
module _ (b : List ℕ) (at x : ℕ) where
  -- the list after one, two and three bytes
  abbrev b₁ : List ℕ
  b₁ = set b at (x % 256)

  abbrev b₂ : List ℕ
  b₂ = set b₁ (at + 1) (x / 256 % 256)

  abbrev b₃ : List ℕ
  b₃ = set b₂ (at + 2) (x / 65536 % 256)

  pub length_four : length (put_four b at x) ≡ length b
  length_four = simp length-set

  -- the four bytes that were written
  pub four_same : at + 4 ≤ length b → x < 4294967296 → four_at (put_four b at x) at ≡ x
  four_same l k =
      let v : ℕ = x / 16777216 % 256 in
      let l₁ : length b₁ ≡ length b = length-set b at (x % 256) in
      let l₂ : length b₂ ≡ length b₁ = length-set b₁ (at + 1) (x / 256 % 256) in
      let l₃ : length b₃ ≡ length b₂ = length-set b₂ (at + 2) (x / 65536 % 256) in
      let e₀ : get_or (set b₃ (at + 3) v) at 0 ≡ x % 256 =
      get_or-set_other b₃ (at + 3) at v 0 (λ p. omega arith) ∙ get_or-set_other b₂ (at + 2) at (x / 65536 % 256) 0 (λ p. omega arith)
      ∙ get_or-set_other b₁ (at + 1) at (x / 256 % 256) 0 (λ p. omega arith) ∙ get_or-set_same b at (x % 256) 0 (omega arith) in
      let e₁ : get_or (set b₃ (at + 3) v) (at + 1) 0 ≡ x / 256 % 256 =
      get_or-set_other b₃ (at + 3) (at + 1) v 0 (λ p. omega arith) ∙ get_or-set_other b₂ (at + 2) (at + 1) (x / 65536 % 256) 0 (λ p. omega arith)
      ∙ get_or-set_same b₁ (at + 1) (x / 256 % 256) 0 (omega arith) in
      let e₂ : get_or (set b₃ (at + 3) v) (at + 2) 0 ≡ x / 65536 % 256 =
      get_or-set_other b₃ (at + 3) (at + 2) v 0 (λ p. omega arith) ∙ get_or-set_same b₂ (at + 2) (x / 65536 % 256) 0 (omega arith) in
      let e₃ : get_or (set b₃ (at + 3) v) (at + 3) 0 ≡ v = get_or-set_same b₃ (at + 3) v 0 (omega arith) in
      sum e₀ e₁ e₂ e₃
    where
      sum : {p q r s : ℕ} → p ≡ x % 256 → q ≡ x / 256 % 256 → r ≡ x / 65536 % 256 → s ≡ x / 16777216 % 256 → p + 256 * q + 65536 * r + 16777216 * s ≡ x
      sum p q r s =
          let two : x / 256 / 256 ≡ x / 65536 = div-div-eq-div-mul x 256 256 in
          let three : x / 65536 / 256 ≡ x / 16777216 = div-div-eq-div-mul x 65536 256 in
          let c : x / 65536 ≡ 256 * (x / 16777216) + x / 65536 % 256 = omega arith in
          let d : x / 256 ≡ 256 * (x / 65536) + x / 256 % 256 = omega arith in
          let e : x ≡ 256 * (x / 256) + x % 256 = omega arith in
          let f : x / 16777216 % 256 ≡ x / 16777216 = omega arith in
          omega arith

  -- those elsewhere stay
  stays : (j : ℕ) → (j ≡ at → ⊥) → (j ≡ at + 1 → ⊥) → (j ≡ at + 2 → ⊥) → (j ≡ at + 3 → ⊥) → get_or (put_four b at x) j 0 ≡ get_or b j 0
  stays j p q r s =
      get_or-set_other b₃ (at + 3) j (x / 16777216 % 256) 0 s ∙ get_or-set_other b₂ (at + 2) j (x / 65536 % 256) 0 r
      ∙ get_or-set_other b₁ (at + 1) j (x / 256 % 256) 0 q ∙ get_or-set_other b at j (x % 256) 0 p

  -- four bytes of which none was written
  others : (j : ℕ) → ((i : ℕ) → i < 4 → get_or (put_four b at x) (j + i) 0 ≡ get_or b (j + i) 0) → four_at (put_four b at x) j ≡ four_at b j
  others j e =
      let e₀ : get_or (put_four b at x) j 0 ≡ get_or b j 0 = rw add-zero at (e 0 (omega arith)) in
      rw (e₀, e 1 (omega arith), e 2 (omega arith), e 3 (omega arith))

  pub four_before : (j : ℕ) → j + 4 ≤ at → four_at (put_four b at x) j ≡ four_at b j
  four_before j h = others j λ i l. stays (j + i) (λ p. omega arith) (λ p. omega arith) (λ p. omega arith) (λ p. omega arith)

  pub four_behind : (j : ℕ) → at + 4 ≤ j → four_at (put_four b at x) j ≡ four_at b j
  four_behind j h = others j λ i l. stays (j + i) (λ p. omega arith) (λ p. omega arith) (λ p. omega arith) (λ p. omega arith)

  pub take_four : (n : ℕ) → n ≤ at → take n (put_four b at x) ≡ take n b
  take_four n h =
      take-set-le n b₃ (at + 3) (x / 16777216 % 256) (omega arith) ∙ take-set-le n b₂ (at + 2) (x / 65536 % 256) (omega arith)
      ∙ take-set-le n b₁ (at + 1) (x / 256 % 256) (omega arith) ∙ take-set-le n b at (x % 256) h

-- ---- eight bytes
module _ (b : List ℕ) (at x : ℕ) where
  abbrev half : List ℕ
  half = put_four b at (x % 4294967296)

  length_eight : length (put_eight b at x) ≡ length b
  length_eight = length_four half (at + 4) (x / 4294967296) ∙ length_four b at (x % 4294967296)

  eight_same : at + 8 ≤ length b → x < 18446744073709551616 → eight_at (put_eight b at x) at ≡ x
  eight_same l k =
      let l₁ : length half ≡ length b = length_four b at (x % 4294967296) in
      let low : four_at (put_eight b at x) at ≡ x % 4294967296 =
      four_before half (at + 4) (x / 4294967296) at (omega arith) ∙ four_same b at (x % 4294967296) (omega arith) (omega arith) in
      let high : four_at (put_eight b at x) (at + 4) ≡ x / 4294967296 = four_same half (at + 4) (x / 4294967296) (omega arith) (omega arith) in
      sum low high
    where
      sum : {p q : ℕ} → p ≡ x % 4294967296 → q ≡ x / 4294967296 → p + 4294967296 * q ≡ x
      sum p q = omega arith

  eight_before : (j : ℕ) → j + 4 ≤ at → four_at (put_eight b at x) j ≡ four_at b j
  eight_before j h = four_before half (at + 4) (x / 4294967296) j (omega arith) ∙ four_before b at (x % 4294967296) j h

  pub take_eight : (n : ℕ) → n ≤ at → take n (put_eight b at x) ≡ take n b
  take_eight n h = take_four half (at + 4) (x / 4294967296) n (omega arith) ∙ take_four b at (x % 4294967296) n h

-- ---- the answers of `read_narrow`
module _ (b : List ℕ) {rule seen high : ℕ} (p : rule ≡ four_at b 546) (q : seen ≡ four_at b 550) (h : high ≡ four_at b 554) where
  pub from_many : {t : Table} → (high ≡ 0 → ⊥) → t ≡ no_table → ◌≡◌ {A = NarrowSession} (record { table = t; rule = rule; seen = seen }) (narrow_from b)
  unfolding narrow_from
  from_many n e = rw (e, p, q, ne_eqb (four_at b 554) 0 (λ z. n (h ∙ z)))

  pub from_few : {t : Table} → high ≡ 0 → t ≡ table_from b → ◌≡◌ {A = NarrowSession} (record { table = t; rule = rule; seen = seen }) (narrow_from b)
  unfolding narrow_from
  from_few n e = rw (e, p, q, eq-eqb (four_at b 554) 0 (sym h ∙ n))

-- ---- back from bytes
-- the table's bytes come first
pub table_first : (s : Session) (b : List ℕ) → 546 ≤ length b → take 546 (session_written s b) ≡ bytes_holding s.table
unfolding session_written
table_first s b h =
    let w : List ℕ = written s.table b in
    let rule : ℕ = s.rule % 4294967296 in
    take_eight (put_four w 546 rule) 550 s.seen 546 (omega arith) ∙ take_four w 546 rule 546 (omega arith)
    ∙ ap (take 546) (written_is s.table b h) ∙ take_at (bytes_holding s.table) (drop 546 b) 546 (length_ticks (table_byte s.table) 546)

pub session_back : (s : Session) (b : List ℕ) → length b ≡ 558 → Sound s.table → s.rule < 4294967296 → s.seen < 18446744073709551616
    → session_from (session_written s b) ≡ s
unfolding session_from session_written
session_back s b l t r n =
    let w : List ℕ = written s.table b in
    let rule : ℕ = s.rule % 4294967296 in
    let p₁ : List ℕ = put_four w 546 rule in
    let p₂ : List ℕ = put_eight p₁ 550 s.seen in
    let lw : length w ≡ 558 = length_written s.table b (omega arith) ∙ l in
    let l₁ : length p₁ ≡ 558 = length_four w 546 rule ∙ lw in
    let seen : eight_at p₂ 550 ≡ s.seen = eight_same p₁ 550 s.seen (omega arith) n in
    let rules : four_at p₂ 546 ≡ s.rule = eight_before p₁ 550 s.seen 546 (omega arith) ∙ four_same w 546 rule (omega arith) (omega arith) ∙ omega arith in
    let table : table_from p₂ ≡ s.table =
    ap table_from (sym (take-append-drop 546 p₂) ∙ ap (λ (i : List ℕ). i ++ drop 546 p₂) (table_first s b (omega arith))) ∙ read_written s.table (drop 546 p₂) t in
    λ i. record { table = table i; rule = rules i; seen = seen i }

pub renewed_back : (b : List ℕ) (n : ℕ) → length b ≡ 558 → n < 18446744073709551616 → session_from (renewed n b) ≡ with_seen (session_from b) n
unfolding session_from
renewed_back b n l h =
    let seen : eight_at (renewed n b) 550 ≡ n = eight_same b 550 n (omega arith) h in
    let rules : four_at (renewed n b) 546 ≡ four_at b 546 = eight_before b 550 n 546 (omega arith) in
    let table : table_from (renewed n b) ≡ table_from b =
    same_table (renewed n b) b (take_eight b 550 n 546 (omega arith)) (omega (arith, length_eight b 550 n)) (omega arith) in
    λ i. record { table = table i; rule = rules i; seen = seen i }

-- ---- narrow sessions
-- bytes with a count of 32 bits hold the same session either way
pub narrow_wide : (b : List ℕ) → four_at b 554 ≡ 0 → wide_of (narrow_from b) ≡ session_from b
unfolding session_from narrow_from
narrow_wide b e =
    let seen : four_at b 550 ≡ eight_at b 550 = omega (arith, e) in
    rw (eq-eqb (four_at b 554) 0 e) (ap (session_with (table_from b) (four_at b 546)) seen)

-- with another count of states in the lower four bytes they hold the session with that count
pub narrow_renewed : (b : List ℕ) (n : ℕ) → length b ≡ 558 → n < 4294967296 → wide_of (narrow_from (put_four b 550 n)) ≡ with_seen (wide_of (narrow_from b)) n
unfolding narrow_from
narrow_renewed b n l h =
    let seen : four_at (put_four b 550 n) 550 ≡ n = four_same b 550 n (omega arith) h in
    let table : table_from (put_four b 550 n) ≡ table_from b =
    same_table (put_four b 550 n) b (take_four b 550 n 546 (omega arith)) (omega (arith, length_four b 550 n)) (omega arith) in
    rw (four_behind b 550 n 554 (omega arith), four_before b 550 n 546 (omega arith), seen, table)

-- the count that bytes hold has 32 bits
pub narrow_seen : (b : List ℕ) → ((i : ℕ) → i < length b → get_or b i 0 < 256) → length b ≡ 558 → (narrow_from b).seen < 4294967296
unfolding narrow_from
narrow_seen b byte l =
    let p = byte 550 (omega arith) in
    let q = byte 551 (omega arith) in
    let r = byte 552 (omega arith) in
    let s = byte 553 (omega arith) in
    omega arith
