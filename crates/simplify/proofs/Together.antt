-- What the functions return makes the promised table. Assumes nothing.
use Prim.Native.Nat.{◌≤◌, ℕ}
use native.Mathlib.Omega.{arith}
use mathlib.Core.Path.{◌∙◌, ◌≡◌, ap, ap₂, refl, sym}
use mathlib.Core.Bool.{false, false≢true}
use mathlib.Core.List.{List, foldl, map}
use lib.ListN.{length, take}
use lib.Seq.{length-take-le}
use Rattle.table.specs.declared.Node.{Node}
use Rattle.table.specs.declared.Rule.{Rule}
use Rattle.table.specs.declared.Table.{Table}
use Rattle.table.specs.Sound.{Sound, is_sound}
use Rattle.table.proofs.Soundness.{sound_iff}
use Rattle.needed.specs.Marks.{needed}
use Rattle.simplify.specs.Code.Built.{Built}
use Rattle.simplify.specs.Code.Passes.{keep_by, mark_watched, no_build, places_of, renamed_rule, step_of}
use Rattle.simplify.specs.Promise.{Promised}
use Rattle.simplify.proofs.Arrays.{Sim, sim_nodes, sim_rebuilt, sim_swept}
use Rattle.simplify.proofs.Model.{rebuilt, simplified, swept}
use Rattle.simplify.proofs.Rebuilding.{Rebuilt, all_rebuilt}
use Rattle.simplify.proofs.Result.{fine_part, simpler}

module _ (t : Table) (sd : Sound t) where
  abbrev old : List Node
  old = take t.node_count t.nodes

  length_old : length old ≡ t.node_count
  length_old = length-take-le t.node_count t.nodes (omega (arith, sd.few_nodes, sd.places))

  inv : Rebuilt old (rebuilt old)
  inv = all_rebuilt old (fine_part t sd t.node_count (omega arith))

  few : length (rebuilt old).nodes ≤ 64
  few = omega (arith, inv.few, length_old, sd.few_nodes)

  module _ (first : Built) (e : first ≡ foldl step_of no_build old) where
    sim1 : Sim first (rebuilt old)
    sim1 = rw e (sim_rebuilt old (fine_part t sd t.node_count (omega arith)) (omega (arith, length_old, sd.few_nodes)))

    module _ (rules : List Rule) (seed marks : ℕ) (second : Built)
        (e1 : rules ≡ map (renamed_rule (places_of first)) t.rules) (e2 : seed ≡ mark_watched (take t.rule_count rules))
        (e3 : marks ≡ needed seed (take first.count first.nodes))
        (e4 : second ≡ foldl (keep_by marks) no_build (take first.count first.nodes)) where
      abbrev rules1 : List Rule
      rules1 = map (renamed_rule (rebuilt old).places) t.rules

      abbrev ms : ℕ
      ms = needed (mark_watched (take t.rule_count rules1)) (rebuilt old).nodes

      same_rules : rules ≡ rules1
      same_rules = e1 ∙ ap (λ ps. map (renamed_rule ps) t.rules) sim1.places

      same_marks : marks ≡ ms
      same_marks = e3 ∙ ap₂ needed (e2 ∙ ap (λ l. mark_watched (take t.rule_count l)) same_rules) (sim_nodes first (rebuilt old) sim1)

      sim2 : Sim second (swept ms (rebuilt old).nodes)
      sim2 = rw (e4 ∙ ap₂ (λ m l. foldl (keep_by m) no_build l) same_marks (sim_nodes first (rebuilt old) sim1))
          (sim_swept ms (rebuilt old).nodes inv.good.fits few)

      module _ (out : List Rule) (e5 : out ≡ map (renamed_rule (places_of second)) rules) where
        abbrev table : Table
        table = record { nodes = second.nodes; node_count = second.count; rules = out; rule_count = t.rule_count }

        same_table : table ≡ simplified t
        same_table =
            let r = e5 ∙ ap₂ (λ ps l. map (renamed_rule ps) l) sim2.places same_rules in
            λ i. record { nodes = sim2.nodes i; node_count = sim2.count i; rules = r i; rule_count = t.rule_count }

        pub together : Promised t (record { number = 0; table = table })
        together = record {
          refused = λ e. absurd (false≢true (sym e ∙ (sound_iff t).1 sd));
          accepted = λ _. (refl, rw same_table (simpler t sd));
        }

pub refused : (t : Table) → is_sound t ≡ false → Promised t (record { number = 25; table = t })
refused t e = record { refused = λ _. refl; accepted = λ s. absurd (false≢true (sym e ∙ s)) }
