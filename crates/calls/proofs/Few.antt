-- How many moves a record that row 1 lets pass can have: fewer than 16 bits count.
-- Assumes nothing.
use Prim.Native.Nat.{ℕ, zero, suc, ◌+◌, ◌-◌, ◌≤◌, ◌<◌}
use native.Mathlib.Omega.{arith}
use mathlib.Core.Path.{◌≡◌}
use mathlib.Core.Bool.{true}
use mathlib.Core.List.{List}
use lib.Dec.{ltb}
use lib.ListN.{length, drop}
use Rattle.octets.specs.Octets.{Octets, cut}
use Rattle.octets.proofs.Octets.{cut_short}
use Rattle.packets.specs.Segments.{Segment, segments_within, segments}
use Rattle.state.specs.Conn.{place_of, counts_of}
use Rattle.state.proofs.Chains.{on}
use Rattle.area.specs.Map.{area_size, payload_size, places, wire_slots, store_slots, down_at, up_at, store_at, endpoint_at}
use Rattle.area.proofs.Rings.{length_packets}
use Rattle.calls.specs.Kinds.{Hand}
use Rattle.calls.specs.Run.{moves_few}
use Rattle.record.specs.Reading.{decode_of}
use Rattle.record.specs.Judge.{judge_of}
use Rattle.record.specs.Fit.{FitHand, FitCounts, Fit}
use Rattle.views.specs.View.{hand_of, view_of}
use Rattle.model.specs.Press.{most}
use Rattle.model.proofs.Falling.{debt_one}
use Rattle.calls.proofs.Called.{sound_area}

within_few : (f size : ℕ) (m : Octets) → length (segments_within f size m) ≤ suc f
unfolding segments_within
within_few zero size m = omega arith
within_few (suc f) size m =
    let later = within_few f size (drop size m) in
    on (λ (ss : List Segment). length ss ≤ suc (suc f)) (ltb size (length m)) (λ _. omega arith) (λ _. omega arith)

hand_few : (base size : ℕ) (a : Octets) (h : Hand) → FitHand h → length (hand_of base size a h) ≤ 1025
unfolding hand_of segments
hand_few base size a h f =
    let m : Octets = cut (base + h.at) (h.len - h.at) a in
    let short : length m ≤ h.len - h.at = cut_short (base + h.at) (h.len - h.at) a in
    let few : length (segments size m) ≤ suc (length m) = within_few (length m) size m in
    on (λ (ss : List Segment). length ss ≤ 1025) h.full (λ _. omega (arith, f.len)) (λ _. omega arith)

module _ (a : Octets) (fit : Fit (decode_of a)) where
  counts_fit : (d : ℕ) → place_of d < places → FitCounts (counts_of (decode_of a).ends.conns d)
  counts_fit d h = fit.conns (place_of d) h

  hand_at : (d : ℕ) → place_of d < places → length ((view_of a).conns d).host.hand ≤ 1025
  hand_at d h = hand_few _ _ a (counts_of (decode_of a).ends.conns d).host.hand (counts_fit d h).hand

  store_few : (d : ℕ) → place_of d < places → length ((view_of a).conns d).controller.store ≤ 8
  store_few d h =
      omega (arith, length_packets (store_at (place_of d)) store_slots a (counts_of (decode_of a).ends.conns d).controller.store, (counts_fit d h).store.count)

  fit_few : most (view_of a) ≤ moves_few
  unfolding place_of
  fit_few =
      omega (
        arith,
        hand_at 0 (omega arith),
        hand_at 2 (omega arith),
        hand_at 3 (omega arith),
        hand_at 4 (omega arith),
        hand_at 5 (omega arith),
        store_few 0 (omega arith),
        store_few 2 (omega arith),
        store_few 3 (omega arith),
        store_few 4 (omega arith),
        store_few 5 (omega arith),
        hand_few endpoint_at payload_size a (decode_of a).ends.endpoint fit.own.endpoint,
        length_packets down_at wire_slots a (decode_of a).down,
        fit.down.count,
        length_packets up_at wire_slots a (decode_of a).up,
        fit.up.count,
        debt_one (view_of a),
      )

pub good_few : (a : Octets) → area_size ≤ length a → judge_of a ≡ true → most (view_of a) ≤ moves_few
good_few a long j = fit_few a (sound_area a long j).fit
