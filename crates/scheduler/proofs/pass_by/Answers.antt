-- On a sound table the first words of the scratch become zero. Assumes nothing.
use native.Mathlib.Omega.{arith}
use Rattle.scheduler.proofs.Answers.{passed, zeros_before}
use Rattle.scheduler.proofs.pass_by.Goals as goal

pub returns : goal.returns
returns c =
    let z = c.fill in
    (c.in_ok-check_sound.ensures, passed c.args.t c.args.scratch.now c.in_ok-check_sound.ensures (zeros_before 5280 c.args.scratch.now z.new.self (omega arith) c.requires (z.ensures.after (λ y e. e))))
