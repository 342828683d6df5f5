-- The measure is what is left to split.
use Rattle.interval.proofs.+fill.Given as goal

abbrev pub decreases-fill : goal.decreases-fill
decreases-fill l = l.rest
