-- The loop of `paper::Play::piece`: each turn leaves less of the piece.
use lib.ListN.{length}
use Rattle.paper.proofs.Play.piece.Given as goal

abbrev pub decreases-loop-left : goal.decreases-loop-left
decreases-loop-left g l = length l.rest
