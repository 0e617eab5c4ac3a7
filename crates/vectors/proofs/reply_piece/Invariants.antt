-- The loop of `vectors::reply_piece`: each turn leaves less of the piece.
use lib.ListN.{length}
use Rattle.vectors.proofs.reply_piece.Given as goal

abbrev pub decreases-loop-left : goal.decreases-loop-left
decreases-loop-left g l = length l.rest
