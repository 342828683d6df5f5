-- What the private functions of the code require.
use Rattle.std.specs.Prelude.{ℕ, ◌+◌, ◌≤◌, ◌<◌, List, length}
use Rattle.limits.specs.Limits.{max_delay, max_trace, max_block, max_seen, history_words, scratch_words, feed_words, close_words}
use Rattle.lists.specs.Bits.{words}
use Rattle.table.specs.declared.Table.{Table}
use Rattle.table.specs.Sound.{Sound}
use Rattle.session.specs.declared.Session.{Session}

-- the verdicts of a node of a sound table at `count` ticks of a trace fit the first m words of out
pub record Writable (t : Table) (place : ℕ) (trace : List ℕ) (count m : ℕ) (scratch out : List ℕ) : Type 0 where
  pub sound : Sound t
  pub node : place < t.node_count
  pub short : length trace ≤ max_trace
  pub ticks : count ≤ length trace
  pub room : words count ≤ m
  pub scratch_fits : scratch_words ≤ length scratch
  pub out_fits : m ≤ length out

-- the session is fit, d is at most the longest delay, and the buffers are long enough
pub record Fit (s : Session) (d : ℕ) (history scratch : List ℕ) : Type 0 where
  pub sound : Sound s.table
  pub rule : s.rule < s.table.rule_count
  pub short : d ≤ max_delay
  pub history_fits : history_words ≤ length history
  pub scratch_fits : scratch_words ≤ length scratch

pub record Feedable (s : Session) (d : ℕ) (block history scratch out : List ℕ) : Type 0 where
  pub fit : Fit s d history scratch
  pub few : length block ≤ max_block
  pub seen : s.seen + length block ≤ max_seen
  pub out_fits : feed_words ≤ length out

pub record Closable (s : Session) (d : ℕ) (history scratch out : List ℕ) : Type 0 where
  pub fit : Fit s d history scratch
  pub out_fits : close_words ≤ length out
