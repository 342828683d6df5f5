-- What the callees ensure, put together; a capped measure is short where the measure is. Assumes nothing.
use mathlib.Core.Path.{◌≡◌, ap, ◌∙◌}
use borrow.Author.Rules.{rules}
use lib.ListN.{length}
use Rattle.lists.specs.Sequence.{every}
use Rattle.lists.proofs.Sequences.{length_mapped}
use Rattle.table.specs.Nodes.{measures}
use Rattle.table.specs.Sound.{short}
use Rattle.table.proofs.Delays.{short_capped}
use Rattle.table.proofs.Soundness.{sound_by}
use Rattle.table.proofs.sound_with.Goals as goal

pub returns : goal.returns
returns c = λ wait e.
    let a = c.args in
    let n : length a.t.now.nodes ≡ 64 = search (rules, length_mapped) in
    let r : length a.t.now.rules ≡ 8 = search (rules, length_mapped) in
    sound_by wait a.t.now n r c.nodes_ok.ensures
    (c.all_short.ensures ∙ ap (every short 0) e ∙ short_capped 0 (measures wait a.t.now.nodes))
    c.rules_ok.ensures
