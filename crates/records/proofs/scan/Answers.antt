-- The largest of both measures, over the copies of the first eight and then the rest, and the first eight records. Assumes nothing.
use Prim.Native.Nat.{ℕ, min, max}
use mathlib.Core.Path.{◌≡◌, sym, ap, ◌∙◌}
use mathlib.Core.List.{◌++◌}
use borrow.Author.Rules.{rules}
use native.Mathlib.Omega.{arith}
use lib.ListN.{take, drop, length, replicate, length-take}
use Rattle.std.proofs.Math.Seq.{take-append_seam}
use Rattle.std.proofs.Common.{take-append-drop}
use Rattle.std.specs.Slice.Iter.{iter_rest}
use Rattle.std.proofs.lemmas.Iterator.{YieldsList-from_slice}
use Rattle.std.proofs.lemmas.Iterator.Consumers.{fold_from_yields_List, YieldsList-from_chain}
use Rattle.records.specs.declared.Record.{Record}
use Rattle.records.proofs.Lists.{most_of_both, found_is}
use Rattle.records.proofs.scan.Goals as goal

pub returns : goal.returns
returns c =
    let rs = c.args.list.now in
    let n = c.min-kept.result in
    let f : c.copy_from_slice.new.self ≡ take n rs = c.copy_from_slice.ensures.after ∙ c.split_at.ensures.front in
    let small : min n 8 ≡ n = omega (arith, c.min-kept.ensures) in
    let few : length c.copy_from_slice.new.self ≡ n = c.copy_from_slice.ensures.len ∙ length-take n (replicate 8 c.default-records.result) ∙ small in
    let front = ap (λ (k : ℕ). take k (c.copy_from_slice.new.self ++ drop n (replicate 8 c.default-records.result))) (sym few) ∙ take-append_seam c.copy_from_slice.new.self (drop n (replicate 8 c.default-records.result)) in
    let all : take n rs ++ drop n rs ≡ rs = take-append-drop n rs in
    let most = fold_from_yields_List _ (λ (a : ℕ × ℕ) (r : Record). (max a.0 r.rule, max a.1 r.waiting)) (0, 0) c.fold-highest.result c.fold-highest.ensures.ran
    (YieldsList-from_chain (YieldsList-from_slice (take n rs) (ap iter_rest c.chain-all.ensures.first ∙ c.iter.ensures.rest ∙ front ∙ f))
    (YieldsList-from_slice (drop n rs) (ap iter_rest c.chain-all.ensures.second ∙ c.iter-2.ensures.rest ∙ c.split_at.ensures.back)) c.chain-all.ensures.first_done c.chain-all.ensures.second_done) (λ a x b q k. search rules) in
    found_is rs c.min-kept.ensures (search rules) f (rw all at most ∙ most_of_both (λ r. r.rule) (λ r. r.waiting) rs)
