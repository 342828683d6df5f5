-- What is printed by a run of the program, whatever the parts of its input are. Assumes nothing.
use Prim.Native.Nat.{ℕ}
use mathlib.Core.Path.{◌≡◌, sym, ap, ◌∙◌}
use mathlib.Core.Bool.{true, false, not, false≢true}
use mathlib.Core.List.{List, [], ◌∷◌, ◌++◌, append-nil}
use lib.Dec.{eqb}
use lib.ListN.{take}
use Rattle.mission.specs.Mission.{Start}
use Rattle.lines.specs.declared.Line.{Line}
use Rattle.transcript.specs.Printed.{printed}
use Rattle.transcript.proofs.Steps.{newline}
use Rattle.watch.specs.declared.Progress.{Progress}
use Rattle.watch.specs.declared.StepAnswer.{StepAnswer}
use Rattle.watch.specs.Steps.{Follows, Fed, Closes, Run, begun, stepped}

-- what was shown is right for what was read
pub run_right : {m : Start} {read shown : List ℕ} {p : Progress} {h block : List ℕ} → Run m read shown p h block → Follows m false read shown p h block
run_right (begun g r) = record { onward = λ e. r; ended = λ e. absurd (false≢true (sym e ∙ g)) }
run_right (stepped {read = read} {shown = shown} part at h' block' text o r g s) = s.right _ read shown ((run_right r).onward g)

module _ {m : Start} {read shown : List ℕ} {p : Progress} {h block : List ℕ} (r : Run m read shown p h block) where
  -- a bad line, or a refused feed: what was shown is what is printed, whatever follows in the input
  pub ended_printed : p.going ≡ false → (later : List ℕ) → printed m (read ++ later) ≡ shown
  ended_printed g = (run_right r).ended g

  -- the last line may lack its line end
  pub last_line : p.going ≡ true → (p.line.digits ≡ 0 → ⊥) → printed m read ≡ printed m (read ++ (10 ∷ []))
  last_line g n = newline m ((run_right r).onward g).0 n

  -- the end of the input: the last block and the close
  module _ (g : p.going ≡ true) (whole : p.line.digits ≡ 0) (at : ℕ) (h' text : List ℕ) (o : StepAnswer) (fed : Fed p at h block h' text o) where
    pub refused_printed : o.progress.going ≡ false → printed m read ≡ shown ++ take o.used text
    refused_printed f = ap (printed m) (sym (append-nil read)) ∙ (fed.right m read shown ((run_right r).onward g)).ended f []

    pub all_printed : o.progress.going ≡ true → (text' : List ℕ) (used : ℕ) → Closes o.progress h' text' used
        → printed m read ≡ shown ++ take o.used text ++ take used text'
    all_printed f text' used closes =
        closes m (not (eqb p.count 1024)) read (shown ++ take o.used text) block ((fed.right m read shown ((run_right r).onward g)).onward f)
        (ap (λ (l : Line). l.digits) fed.line ∙ whole) (fed.ready f).0
