-- What widening answers for a session that was opened when the count of states had 32 bits (A4, A5).
use Rattle.std.specs.Prelude.{ℕ, ◌<◌, ◌≡◌, ◌↔◌, ◌⊎◌, Bool, false, List, [], ◌∷◌, eqb}
use Rattle.refusals.specs.Numbers.{UNSOUND}
use Rattle.lists.specs.Choice.{Row, pick, ◌if◌, first}
use Rattle.mltl.specs.Mltl.{Formula, delay, old_delay}
use Rattle.table.specs.Sound.{Sound}
use Rattle.session.specs.declared.Session.{Session}
use Rattle.session.specs.Session.{Opening, session_with, no_session, unfit_by}
use Rattle.narrow.specs.declared.NarrowSession.{NarrowSession}

-- the wide session with the same table, rule number and count
abbrev pub wide_of : NarrowSession → Session
wide_of n = session_with n.table n.rule n.seen

-- its row of refusals
abbrev pub widen_rows : Bool → List Row
widen_rows bad = (UNSOUND if bad) ∷ []

-- of a narrow session n it is asked of `wide_of n`; a refused widening gives no session
unfoldable pub widening_by : (Formula → ℕ) → Session → Opening
widening_by wait s = let n = first (widen_rows (unfit_by wait s)) in record { number = n; session = pick (eqb n 0) s no_session }

-- the call: by the delay
abbrev pub widening : Session → Opening
widening s = widening_by delay s

-- ---- what callers rely on
pub record Relied (n : NarrowSession) : Type 0 where
  -- accepted exactly where the table is sound and the rule number below its rule count
  pub accepted_exactly : ((widening (wide_of n)).number ≡ 0) ↔ (Sound n.table × (n.rule < n.table.rule_count))
  -- else unchanged
  pub unchanged : (widening (wide_of n)).number ≡ 0
      → ((widening (wide_of n)).session.table ≡ n.table) × ((widening (wide_of n)).session.rule ≡ n.rule) × ((widening (wide_of n)).session.seen ≡ n.seen)
  -- refused with 25, giving no session
  pub refused : ¬ ((widening (wide_of n)).number ≡ 0) → ((widening (wide_of n)).number ≡ UNSOUND) × ((widening (wide_of n)).session ≡ no_session)

-- ---- a session that was opened when the delay was the one before A5 (A5: narrow ones are widened first)
-- the call answers as its contract was, where the session was fit then, and where it is refused
abbrev pub WidenedAlike : Type 0
WidenedAlike = (s : Session) → (unfit_by old_delay s ≡ false) ⊎ (¬ ((widening s).number ≡ 0)) → widening s ≡ widening_by old_delay s
