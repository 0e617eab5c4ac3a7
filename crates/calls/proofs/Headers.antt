-- report goes by the record, the headers on the wires and three messages: payloads of other packets make no difference to it, and its five octets are those of
-- before.
-- Assumes nothing.
use Prim.Native.Nat.{ℕ, ◌+◌, ◌%◌, ◌≤◌, ◌<◌, min}
use native.Mathlib.Decide.{dec_le}
use native.Mathlib.Omega.{arith}
use mathlib.Core.Path.{◌≡◌, refl, sym, ap, ◌∙◌, subst}
use mathlib.Core.Bool.{not}
use mathlib.Core.List.{[], ◌∷◌, ◌++◌}
use lib.ListN.{length, get_or, length-take}
use lib.Seq.{ext_get_or, get_or-take}
use lib.Dec.{ltb}
use Rattle.std.specs.Prelude.{Option, Some, None}
use Rattle.octets.specs.Octets.{Octets, pick, splice}
use Rattle.octets.proofs.Octets.{octet_cut, cut_short, cut_long, cut_agree}
use Rattle.packets.specs.Packet.{read_of}
use Rattle.packets.proofs.Packet.{read_same}
use Rattle.calls.specs.Kinds.{Record}
use Rattle.state.specs.Conn.{place_of, counts_of, flows}
use Rattle.area.specs.Map.{area_size, message_size, slot_size, wire_slots, store_slots, down_at, up_at, store_at, record_at, record_room}
use Rattle.area.specs.Ring.{slot_at, slot_in, trim, slot_packet, packets_from}
use Rattle.area.proofs.Rings.{tab_sum, length_packets}
use Rattle.wires.specs.declared.up.Inside.{Inside}
use Rattle.wires.specs.declared.up.Inside.TheVariants.{CreditsNtf, CreateRsp, ActivatedNtf}
use Rattle.wires.specs.Tally.{data_count}
use Rattle.wires.specs.Counted.{counted_on, counted_up}
use Rattle.wires.proofs.Slots.{read_slot}
use Rattle.wires.proofs.Counting.{data_one}
use Rattle.wires.proofs.Counted.{data_same, counted_same}
use Rattle.wires.proofs.Same.{same_up}
use Rattle.record.specs.Layout.{record_octets}
use Rattle.record.specs.Reading.{decode_of}
use Rattle.record.proofs.Outside.{record_by_octets, judged_by_octets}
use Rattle.views.specs.View.{down_of, up_of, view, view_of}
use Rattle.model.specs.Connection.{owed_on}
use Rattle.model.specs.Effects.{Result, taken, refused}
use Rattle.model.specs.Refusals.{rule, first, no_conn}
use Rattle.model.specs.calls.Report.{five_of, report_of, report_rules}
use Rattle.calls.specs.Outcome.{outcome, decided, entry_rules, called}
use Rattle.calls.specs.calls.Report.{reported_word, report_call}
use Rattle.calls.specs.Headers.{Filled, InHeader, InPayload, inside_at, Reads, in_record, in_down, in_up, in_message, SameAnswer, ReadsAlone, InOther, HeadersAlone, SameAsBefore}

-- ---- a slot in two areas that agree on its header

-- octet j of the packet in a slot
octet_packet : (base : ℕ) (a : Octets) (i j : ℕ) → j < length (slot_packet base a i) → get_or (slot_packet base a i) j 0 ≡ get_or a (slot_at base i + j) 0
unfolding slot_packet trim
octet_packet base a i j h =
    let short : j < min (3 + get_or (slot_in base a i) 2 0) (length (slot_in base a i)) = subst (λ (n : ℕ). j < n) (length-take _ _) h in
    let inside : j < slot_size = omega (arith, cut_short (slot_at base i) slot_size a) in
    get_or-take (3 + get_or (slot_in base a i) 2 0) (slot_in base a i) j 0 (omega arith) ∙ octet_cut (slot_at base i) slot_size a j inside

module _ (base : ℕ) (a b : Octets) (same : length a ≡ length b) (i : ℕ) (heads : (k : ℕ) → InHeader base i k → get_or a k 0 ≡ get_or b k 0) where
  slot_length : length (slot_in base a i) ≡ length (slot_in base b i)
  slot_length = cut_long (slot_at base i) slot_size a b same

  head : (j : ℕ) → j < 3 → get_or (slot_in base a i) j 0 ≡ get_or (slot_in base b i) j 0
  head j h =
      octet_cut (slot_at base i) slot_size a j (omega arith)
      ∙ heads (slot_at base i + j) (record { from = omega arith; to = omega arith })
      ∙ sym (octet_cut (slot_at base i) slot_size b j (omega arith))

  read_agrees : read_of (slot_packet base a i) ≡ read_of (slot_packet base b i)
  read_agrees = read_slot base a i ∙ read_same (slot_in base a i) (slot_in base b i) slot_length head ∙ sym (read_slot base b i)

  length_agrees : length (slot_packet base a i) ≡ length (slot_packet base b i)
  unfolding slot_packet trim
  length_agrees = length-take _ (slot_in base a i) ∙ (λ j. min (3 + head 2 (omega arith) j) (slot_length j)) ∙ sym (length-take _ (slot_in base b i))

  -- on the payload too: it is the same packet
  packet_agrees : ((k : ℕ) → InPayload base a i k → get_or a k 0 ≡ get_or b k 0) → slot_packet base a i ≡ slot_packet base b i
  packet_agrees inner =
      ext_get_or 0 (slot_packet base a i) (slot_packet base b i) length_agrees
      (λ j h. octet_packet base a i j h ∙ go j h (dec_le 3 j) ∙ sym (octet_packet base b i j (omega (arith, length_agrees))))
    where
      go : (j : ℕ) → j < length (slot_packet base a i) → Dec (3 ≤ j) → get_or a (slot_at base i + j) 0 ≡ get_or b (slot_at base i + j) 0
      go j h (yes k) = inner (slot_at base i + j) (record { from = omega arith; to = omega arith })
      go j h (no k) = heads (slot_at base i + j) (record { from = omega arith; to = omega arith })

-- ---- areas that agree on what is read

module _ (a b out : Octets) (c : ℕ) (same : length a ≡ length b) (agree : (k : ℕ) → Reads a k → get_or a k 0 ≡ get_or b k 0) where
  abbrev r : Record
  r = decode_of a

  record_agrees : record_octets a ≡ record_octets b
  unfolding record_octets
  record_agrees = cut_agree record_at record_room a b same (λ i h. agree (record_at + i) (in_record (omega arith) (omega arith)))

  decoded : decode_of a ≡ decode_of b
  decoded = record_by_octets a b record_agrees

  down_agrees : data_count c (down_of a r) ≡ data_count c (down_of b r)
  unfolding packets_from data_count
  down_agrees =
      tab_sum (data_count c) (data_one c) (λ p w. refl) _ _ r.down.head r.down.count
      (λ i l. data_same c _ _ (read_agrees down_at a b same ((r.down.head + i) % wire_slots)
      (λ k h. agree k (in_down _ (record { nth = i; among = l; here = refl }) h))))

  module _ (i : ℕ) (f : Filled r.up i) where
    headed : (k : ℕ) → InHeader up_at i k → get_or a k 0 ≡ get_or b k 0
    headed k h = agree k (in_up i f h)

    looked : (inside_at up_at a i ≡ None → ⊥) → counted_on c (slot_packet up_at a i) ≡ counted_on c (slot_packet up_at b i)
    looked one = ap (counted_on c) (packet_agrees up_at a b same i headed (λ k h. agree k (in_message i f one h)))

    counted_agrees : (x : Option Inside) → inside_at up_at a i ≡ x → counted_on c (slot_packet up_at a i) ≡ counted_on c (slot_packet up_at b i)
    counted_agrees (Some CreditsNtf) e = looked (λ o. let z : ◌≡◌ {A = ℕ} 0 1 = cc in omega arith)
    counted_agrees (Some CreateRsp) e = looked (λ o. let z : ◌≡◌ {A = ℕ} 0 1 = cc in omega arith)
    counted_agrees (Some ActivatedNtf) e = looked (λ o. let z : ◌≡◌ {A = ℕ} 0 1 = cc in omega arith)
    counted_agrees None e = counted_same c _ _ (read_agrees up_at a b same i headed) e

  up_agrees : counted_up c (up_of a r) ≡ counted_up c (up_of b r)
  unfolding packets_from counted_up
  up_agrees =
      tab_sum (counted_up c) (counted_on c) (λ p w. refl) _ _ r.up.head r.up.count
      (λ i l. counted_agrees ((r.up.head + i) % wire_slots) (record { nth = i; among = l; here = refl }) _ refl)

  five_agree : report_of c (view a r) ≡ report_of c (view b (decode_of b))
  five_agree =
      let k = counts_of r.ends.conns c in
      let store = store_at (place_of c) in
      (λ i.
      pick (flows k.controller.grant) (pick k.host.opened k.host.held 0) 255
      ∷ down_agrees i
      ∷ (length_packets store store_slots a k.controller.store ∙ sym (length_packets store store_slots b k.controller.store)) i
      ∷ owed_on ((view a r).conns c).controller
      ∷ pick (flows k.controller.grant) (up_agrees i) 0
      ∷ [])
      ∙ ap (λ (x : Record). report_of c (view b x)) decoded

  rules_agree : entry_rules a (length out) ++ report_rules c (view_of a) ≡ entry_rules b (length out) ++ report_rules c (view_of b)
  rules_agree =
      λ i.
      rule 2 (ltb (same i) area_size) ∷ rule 1 (not (judged_by_octets a b record_agrees i)) ∷ rule 2 (ltb (length out) message_size)
      ∷ rule 3 (no_conn c) ∷ rule 6 (not (counts_of (decoded i).ends.conns c).controller.opened) ∷ []

  answered : (t : Result) (x y : Octets) → x ≡ y → SameAnswer (decided t (outcome reported_word a x) a out) (decided t (outcome reported_word b y) b out)
  answered taken x y e = record { word = refl; out = e }
  answered (refused n) x y e = record { word = refl; out = refl }

  same_answer : SameAnswer (report_call a out c) (report_call b out c)
  unfolding report_call called
  same_answer =
      subst (λ (t : Result). SameAnswer (report_call a out c) (decided t (outcome reported_word b (splice out 0 (report_of c (view_of b)))) b out)) (ap first rules_agree)
      (answered (first (entry_rules a (length out) ++ report_rules c (view_of a))) _ _ (ap (splice out 0) five_agree))

pub reads_alone : ReadsAlone
reads_alone = same_answer

-- ---- no octet that is read is in another packet's payload

module _ (a : Octets) where
  packet_short : (base i : ℕ) → length (slot_packet base a i) ≤ slot_size
  unfolding slot_packet trim
  packet_short base i = simp length-take (omega (arith, cut_short (slot_at base i) slot_size a))

  not_down : (k : ℕ) → Reads a k → InOther down_at (decode_of a).down a k → ⊥
  not_down k (in_record l u) x = omega (arith, x.filled.here, x.payload.to, packet_short down_at x.slot)
  not_down k (in_down i f h) x = omega (arith, h.from, h.to, x.payload.from, x.payload.to, packet_short down_at x.slot)
  not_down k (in_up i f h) x = omega (arith, h.from, x.filled.here, x.payload.to, packet_short down_at x.slot)
  not_down k (in_message i f one h) x = omega (arith, h.from, x.filled.here, x.payload.to, packet_short down_at x.slot)

  not_up : (k : ℕ) → Reads a k → InOther up_at (decode_of a).up a k → ⊥
  not_up k (in_record l u) x = omega (arith, x.filled.here, x.payload.to, packet_short up_at x.slot)
  not_up k (in_down i f h) x = omega (arith, f.here, h.to, x.payload.from)
  not_up k (in_up i f h) x = omega (arith, h.from, h.to, x.payload.from, x.payload.to, packet_short up_at x.slot)
  not_up k (in_message i f one h) x =
      let here : x.slot ≡ i = omega (arith, h.from, h.to, packet_short up_at i, x.payload.from, x.payload.to, packet_short up_at x.slot) in
      one (sym (ap (inside_at up_at a) here) ∙ x.other)

pub headers_alone : HeadersAlone
headers_alone a b out c same agree = reads_alone a b out c same (λ k h. agree k (not_down a k h) (not_up a k h))

-- ---- the report of before

pub same_as_before : SameAsBefore
unfolding report_call
same_as_before a out c =
    λ i. called (report_rules c (view_of a)) (outcome reported_word a (splice out 0 (five_of c (view_of a) (same_up c (view_of a).up i)))) a out
