-- The places from the start on, and then those before it. Assumes nothing.
use mathlib.Core.Path.{refl, sym, ap, ◌∙◌}
use Prim.Native.Nat.{ℕ, ◌-◌}
use native.Mathlib.Omega.{arith}
use Rattle.std.proofs.Common.{rules, tests}
use Rattle.std.specs.List.{find}
use Rattle.std.specs.Option.{unwrap_or}
use Rattle.std.proofs.lemmas.Iterator.{YieldsList-from_range}
use Rattle.std.proofs.lemmas.Iterator.Adapters.{option_map_id}
use Rattle.std.proofs.lemmas.Iterator.Consumers.{YieldsList-from_chain}
use Rattle.std.proofs.lemmas.Iterator.Search.{find_from_yields_List}
use Rattle.scheduler.specs.Rotation.{waits_at}
use Rattle.scheduler.proofs.Search.{places, found_next}
use Rattle.scheduler.proofs.next_waiting.Goals as goal

pub returns : goal.returns
returns c =
    let a = c.args in
    let f = waits_at a.rs.now in
    let s = c.start_of-start.result in
    let e = find_from_yields_List f _ _ c.find.result c.find.ensures.ran
    (YieldsList-from_chain (YieldsList-from_range s a.n (a.n - s) (cc) refl) (YieldsList-from_range 0 s s (cc) (omega arith)) (cc) (cc))
    (λ x b q k. search (rules, tests)) in
    c.unwrap_or.ensures ∙ ap (λ o. unwrap_or o a.n) (sym (option_map_id c.find.result) ∙ e)
    ∙ ap (λ (i : ℕ). unwrap_or (find f (places a.n i)) a.n) c.start_of-start.ensures ∙ found_next f a.n a.from
