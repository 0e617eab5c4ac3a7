-- `area::movers::put_segment` meets its contract: what was copied to the local array is the message.
use mathlib.Core.Path.{ap, ◌∙◌}
use mathlib.Core.List.{List}
use native.Mathlib.Omega.{arith}
use Prim.Native.Nat.{ℕ}
use Rattle.octets.specs.Octets.{splice}
use Rattle.octets.proofs.Octets.{cut_part, length_cut, cut_copied}
use Rattle.packets.specs.Segments.{segment_at, segment_packet}
use Rattle.area.proofs.movers.put_segment.Goals as goal

pub returns : goal.returns
returns c =
    let a = c.args in
    let part = cut_part a.from a.len a.area.now in
    c.put_piece.ensures
    ∙ ap (λ (m : List ℕ). splice a.area.now a.slot (segment_packet a.h (segment_at a.size m a.at)))
    (cut_copied _ _ _ a.len (length_cut a.from a.len a.area.now (omega arith)) (omega arith)
    (c.put.ensures ∙ ap (splice _ 0) part))
