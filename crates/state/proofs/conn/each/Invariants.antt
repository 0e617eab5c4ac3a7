-- The loop of `state::conn::each`: the places below i are changed, and those from i on are as they were.
use Rattle.std.proofs.Common.{◌≡◌, ℕ, ◌<◌, ◌≤◌, get_or, length}
use Rattle.state.specs.Conn.{closed_counts}
use Rattle.state.proofs.conn.each.Given as goal

abbrev pub invariant-loop-i : goal.invariant-loop-i
invariant-loop-i g l =
    (length l.conns ≡ 5)
    × ((p : ℕ) → p < l.i → goal.F-post g l.change (get_or l.initial.conns p closed_counts) (get_or l.conns p closed_counts))
    × ((p : ℕ) → l.i ≤ p → get_or l.conns p closed_counts ≡ get_or l.initial.conns p closed_counts)
