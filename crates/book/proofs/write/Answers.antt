-- Each answer is that of its case. Assumes nothing.
use mathlib.Core.Path.{◌≡◌, sym, ◌∙◌}
use mathlib.Core.Bool.{true}
use native.Mathlib.Omega.{arith}
use Rattle.table.specs.Sound.{Sound, is_sound}
use Rattle.table.proofs.Soundness.{sound_iff}
use Rattle.book.proofs.Writes.{unsound_written, short_written, whole_written}
use Rattle.book.proofs.write.Goals as goal

pub returns-then-not-sound : goal.returns-then-not-sound
returns-then-not-sound c =
    unsound_written c.args.t _ (sym c.sound.ensures ∙ c.if-not-sound.true)

pub overflow_add-behind : goal.overflow_add-behind
overflow_add-behind c =
    let is-sound : (is_sound c.args.t ≡ true) = (sym c.sound.ensures ∙ c.if-not-sound.false) in
    let sound-here : (Sound c.args.t) = ((sound_iff c.args.t).0 is-sound) in
    omega (arith, sound-here.few_nodes, sound-here.few_rules)

pub overflow_add-length : goal.overflow_add-length
overflow_add-length c =
    let is-sound : (is_sound c.args.t ≡ true) = (sym c.sound.ensures ∙ c.if-not-sound.false) in
    let sound-here : (Sound c.args.t) = ((sound_iff c.args.t).0 is-sound) in
    omega (arith, sound-here.few_nodes, sound-here.few_rules)

pub overflow_mul-length : goal.overflow_mul-length
overflow_mul-length c =
    let is-sound : (is_sound c.args.t ≡ true) = (sym c.sound.ensures ∙ c.if-not-sound.false) in
    let sound-here : (Sound c.args.t) = ((sound_iff c.args.t).0 is-sound) in
    omega (arith, sound-here.few_nodes, sound-here.few_rules)

pub returns-then-out-length : goal.returns-then-out-length
returns-then-out-length c =
    let is-sound : (is_sound c.args.t ≡ true) = (sym c.sound.ensures ∙ c.if-not-sound.false) in
    short_written c.args.t _ is-sound c.if-out-length.true

pub put_records-requires : goal.put_records-requires
put_records-requires c =
    let is-sound : (is_sound c.args.t ≡ true) = (sym c.sound.ensures ∙ c.if-not-sound.false) in
    let sound-here : (Sound c.args.t) = ((sound_iff c.args.t).0 is-sound) in
    (sound-here, c.if-out-length.false)

pub returns : goal.returns
returns c =
    let is-sound : (is_sound c.args.t ≡ true) = (sym c.sound.ensures ∙ c.if-not-sound.false) in
    whole_written c.args.t _ is-sound c.if-out-length.false c.put_records.ensures
