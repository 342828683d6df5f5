-- What stands before the place is what was read: a read puts its bytes behind what stood there. Assumes nothing.
use Rattle.std.proofs.Common.{◌≡◌, ℕ, ◌+◌, ◌≤◌, List, ◌++◌, rules, length, take, sym, ap, ◌∙◌, subst, length-take-le}
use Rattle.std.proofs.Math.Seq.{take-append-add}
use Rattle.std.proofs.lemmas.List.{take-append-le}
use Rattle.std.specs.Io.KnownBytes.{Consumes}
use Rattle.std.proofs.KnownBytes.{Consumes-trans}
use Rattle.rules.proofs.load.Goals as goal

-- the first a + n of: the first a of xs, all of ys, and more
front : (a n : ℕ) (xs ys zs : List ℕ) → a ≤ length xs → n ≤ length ys → take (a + n) (take a xs ++ (ys ++ zs)) ≡ take a xs ++ take n ys
front a n xs ys zs h k =
    ap (λ m. take (m + n) (take a xs ++ (ys ++ zs))) (sym (length-take-le a xs h)) ∙ take-append-add (take a xs) (ys ++ zs) n
    ∙ ap (λ l. take a xs ++ l) (take-append-le n ys zs k)

pub loop-at-preserved : goal.loop-at-preserved
loop-at-preserved g c =
    let l = c.loop-at in
    let read = c.in_ok-n.ensures in
    (search rules, subst (Consumes _ _) (sym (front l.at c.in_ok-n.n l.text c.read.new.buf _ l.invariant.0 read.bound.0)) (Consumes-trans _ _ _ _ _ l.invariant.1 read.bytes.0))
