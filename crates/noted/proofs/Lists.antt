-- `every-list`: every list of session calls and writes leaves the registers that the definition by history gives. Assumes nothing.
use Prim.Native.Nat.{ℕ}
use mathlib.Core.Path.{◌≡◌, refl, ◌∙◌}
use mathlib.Core.List.{List, [], ◌∷◌, map, foldl}
use Rattle.registers.specs.Registers.{zeros}
use Rattle.registers.specs.History.{step}
use Rattle.registers.proofs.History.{by_history}
use Rattle.noted.specs.Lists.{Act, calls, writes, event_of, registers_after, EveryList}

steps : (b : List ℕ) (acts : List Act) → foldl registers_after b acts ≡ foldl step b (map event_of acts)
steps b [] = refl
steps b (calls c ∷ acts) = steps (registers_after b (calls c)) acts
steps b (writes place value ∷ acts) = steps (registers_after b (writes place value)) acts

pub every_list : EveryList
every_list acts = steps zeros acts ∙ by_history.whole (map event_of acts)
