-- What the callees ensure, put together. Assumes nothing.
use Prim.Native.Nat.{◌≤◌}
use mathlib.Core.Path.{sym, ap, ◌∙◌, ◌≡◌}
use mathlib.Core.Bool.{Bool, true}
use mathlib.Core.List.{List, foldl, map}
use native.Mathlib.Omega.{arith}
use lib.ListN.{length, length-map}
use lib.Seq.{length-take-le}
use Rattle.table.specs.declared.Rule.{Rule}
use Rattle.table.specs.Sound.{Sound, is_sound}
use Rattle.table.specs.declared.Table.{Table}
use Rattle.table.proofs.Soundness.{sound_iff}
use Rattle.simplify.specs.Code.Built.{Built}
use Rattle.simplify.specs.Code.Passes.{keep_by, no_build, nodes_of, places_of, renamed_rule}
use Rattle.simplify.proofs.Together.{together, refused}
use Rattle.simplify.proofs.simplify.Goals as goal

is-sound : (t : Table) {b : Bool} → b ≡ is_sound t → b ≡ true → Sound t
is-sound t e h = (sound_iff t).0 (sym e ∙ h)

pub returns-then-not-sound : goal.returns-then-not-sound
returns-then-not-sound c = refused c.args.t (sym c.sound.ensures ∙ c.if-not-sound.true)

pub rebuild-first-requires : goal.rebuild-first-requires
rebuild-first-requires c = is-sound c.args.t c.sound.ensures c.if-not-sound.false

-- the first rules of as many as there were
few_rules : (t : Table) (rules : List Rule) → Sound t → length rules ≡ length t.rules → t.rule_count ≤ length rules
few_rules t rules sd e = omega (arith, sd.few_rules, sd.rule_places)

pub slice_bounds-rules-end : goal.slice_bounds-rules-end
slice_bounds-rules-end c =
    few_rules c.args.t c.renamed_rules-rules.result (is-sound c.args.t c.sound.ensures c.if-not-sound.false)
    (ap length c.renamed_rules-rules.ensures ∙ length-map c.args.t.rules _)

pub slice_bounds-mark_watched-end : goal.slice_bounds-mark_watched-end
slice_bounds-mark_watched-end c =
    sym (length-take-le c.args.t.rule_count c.renamed_rules-rules.result
    (few_rules c.args.t c.renamed_rules-rules.result (is-sound c.args.t c.sound.ensures c.if-not-sound.false)
    (ap length c.renamed_rules-rules.ensures ∙ length-map c.args.t.rules _)))

abbrev renamed_by : Built → List Rule → List Rule
renamed_by b rules = map (renamed_rule (places_of b)) rules

pub returns : goal.returns
returns c =
    together c.args.t (is-sound c.args.t c.sound.ensures c.if-not-sound.false)
    _ (c.first.view_is ∙ c.rebuild-first.ensures)
    c.renamed_rules-rules.result c.mark_watched.result c.needed-marks.result
    _ (c.renamed_rules-rules.ensures ∙ ap (λ b. renamed_by b c.args.t.rules) (sym c.first.view_is)) c.mark_watched.ensures c.needed-marks.ensures
    (c.second.view_is ∙ c.sweep-second.ensures
    ∙ ap (foldl (keep_by c.needed-marks.result) no_build) (c.new_nodes.ensures.nodes ∙ ap nodes_of (sym c.first.view_is)))
    c.renamed_rules.result (c.renamed_rules.ensures ∙ ap (λ b. renamed_by b c.renamed_rules-rules.result) (sym c.second.view_is))
