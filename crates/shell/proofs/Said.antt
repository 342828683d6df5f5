-- What an answer tells by the number of each Refusal is what the definitions of such answers say; and a session with any number beside it.
-- Assumes nothing.
use Prim.Native.Nat.{ℕ}
use mathlib.Core.Path.{◌≡◌, refl, sym, ap}
use mathlib.Core.Bool.{Bool, true, false}
use mathlib.Core.List.{List}
use lib.Dec.{eqb}
use Rattle.std.specs.Prelude.{Option, Result, Ok, Err}
use Rattle.refusals.specs.Refusals.{number_of}
use Rattle.refusals.specs.declared.Refusal.{Refusal}
use Rattle.refusals.proofs.Positive.{refuses}
use Rattle.lists.specs.Choice.{pick}
use Rattle.early.specs.declared.Decision.{Decision}
use Rattle.early.specs.Early.{told_by}
use Rattle.reach.specs.declared.Ticks.{Ticks}
use Rattle.reach.specs.Reach.{reached_by}
use Rattle.flat.specs.Sessions.{session_written}
use Rattle.session.specs.declared.Session.{Session}
use Rattle.session.specs.Session.{no_session, opening_told}
use Rattle.shell.specs.Answers.{leaves, number_said, early_said, reach_said, stored, stored_by}

pub early_same : (r : Result Decision Refusal) → early_said number_of r ≡ told_by r
early_same (Ok d) = refl
early_same (Err e) = refl

pub reach_same : (r : Result (Option Ticks) Refusal) → reach_said number_of r ≡ reached_by r
reach_same (Ok t) = refl
reach_same (Err e) = refl

pub number_same : (r : Result Session Refusal) → number_said number_of r ≡ (opening_told r).number
number_same (Ok s) = refl
number_same (Err e) = refl

pub stored_same : (r : Result Session Refusal) (b : List ℕ) → stored_by r b ≡ stored (opening_told r) b
stored_same (Ok s) b = refl
stored_same (Err e) b = sym (ap (λ (t : Bool). pick t (session_written no_session b) b) (refuses e))

-- a session and a number beside it, as an answer: it is written where the number is 0
picked : (t : Bool) (n : ℕ) (s : Session) (b : List ℕ) → stored_by (pick {A = Result Session ℕ} t (Ok s) (Err n)) b ≡ pick t (session_written s b) b
picked true n s b = refl
picked false n s b = refl

pub stored_beside : (n : ℕ) (s : Session) (b : List ℕ) → stored_by (pick {A = Result Session ℕ} (eqb n 0) (Ok s) (Err n)) b ≡ leaves n (session_written s b) b
stored_beside n s b = picked (eqb n 0) n s b
