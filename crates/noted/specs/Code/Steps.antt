-- What is known of a call when its outcome is made. No other crate names it.
use Rattle.std.specs.Prelude.{ℕ, ◌+◌, ◌≤◌, ◌<◌, ◌≡◌, Bool, false}
use Rattle.limits.specs.Limits.{max_seen}
use Rattle.table.specs.Nodes.{wait_of}
use Rattle.session.specs.declared.Session.{Session}
use Rattle.session.specs.Session.{unfit_by}
use Rattle.noted.specs.Noted.{given}

-- a call that gave verdicts was one on a fit session, and their ticks can be counted where its states can
abbrev pub Countable : Bool → Session → ℕ → Type 0
Countable old s count = 0 < count → (unfit_by (wait_of old) s ≡ false) × (s.seen ≤ max_seen → given (wait_of old) s + count ≤ max_seen)
