-- `area::movers::put_all` meets its contract.
use Prim.Native.Nat.{ℕ, ◌+◌, ◌*◌, ◌<◌}
use mathlib.Core.Path.{◌≡◌, ap, ◌∙◌}
use mathlib.Core.List.{map}
use native.Mathlib.Numerals.{add-one}
use native.Mathlib.Omega.{arith}
use lib.ListN.{length, drop}
use Rattle.octets.specs.Octets.{splice}
use Rattle.octets.proofs.Octets.{length_splice}
use Rattle.packets.specs.Segments.{segments, segment_at, segment_packet}
use Rattle.state.specs.declared.kinds.Ring.{Ring}
use Rattle.area.specs.Movers.{puts_all}
use Rattle.area.proofs.Moves.{puts_more, puts_none}
use Rattle.area.proofs.movers.put_all.Goals as goal

pub loop-k-preserved : goal.loop-k-preserved
loop-k-preserved c =
    let a = c.args in
    let q = c.put_into-q.ensures in
    let k = c.loop-k.k in
    let i = c.loop-k.invariant in
    let more : c.put_into-q.result.count ≡ a.r.count + (k + 1) = ap (λ (x : Ring). x.count) q ∙ omega (arith, i.1) in
    let put =
    c.put_piece.ensures
    ∙ ap (λ (s : ℕ). splice c.loop-k.area s (segment_packet a.h (segment_at a.size a.msg.now (k * a.size)))) c.free_at.ensures in
    let before : k < length (segments a.size a.msg.now) = omega (arith, c.segment_count-n.ensures) in (
      ap (λ (x : Ring). x.head) q ∙ i.0,
      more,
      ap length put ∙ length_splice _ _ _ ∙ i.2,
      (λ j. puts_all a.base (put j) (q j) (map (segment_packet a.h) (drop (add-one k j) (segments a.size a.msg.now))))
          ∙ puts_more a.size c.requires.0 a.msg.now a.base c.loop-k.area c.loop-k.q a.h k before
          ∙ i.3,
    )

pub returns : goal.returns
returns c =
    let a = c.args in
    let i = c.loop-k.invariant in (
      c.segment_count-n.ensures,
      puts_none a.size c.requires.0 a.msg.now a.base c.loop-k.area c.loop-k.q a.h c.loop-k.k (omega (arith, c.segment_count-n.ensures)) ∙ i.3,
    )
