-- Packets that an end writes are well formed, as an invariant: what is on the wires, in the stores and in hand.
-- Assumes nothing.
use Rattle.std.specs.Prelude.{Option, Some, None}
use Prim.Native.Nat.{ℕ, zero, suc, ◌+◌, ◌*◌, ◌/◌, ◌%◌, ◌≤◌, ◌<◌}
use native.Mathlib.Omega.{arith}
use mathlib.Core.Path.{◌≡◌, refl, sym, ap, ◌∙◌, subst}
use mathlib.Core.Logic.{inl, inr}
use mathlib.Core.Bool.{Bool, true, false}
use mathlib.Core.List.{List, [], ◌∷◌, map, append-nil}
use lib.Dec.{eqb, ltb}
use lib.ListN.{length, drop, length-append, length-take, length-drop}
use borrow.Author.Tests.{ltb-false, eqb-false}
use Rattle.std.specs.Prelude.{Ok, Err}
use Rattle.octets.specs.Octets.{Octets, pick}
use Rattle.model.specs.Kinds.{Header, Reading, Profile, Event}
use Rattle.std.specs.Prelude.{Some}
use Rattle.model.specs.Kinds.way as way
use Rattle.packets.specs.Packet.{packet_of, read_of, payload_of, carrying, credited, Writable}
use Rattle.packets.specs.Reserved.{rfu_by}
use Rattle.packets.specs.Segments.{Segment, body, flag, marked, segment, segments_within, segments, segment_packet}
use Rattle.packets.proofs.RoundTrip.{read_written, carrying_written}
use Rattle.model.specs.Kinds.verdict as verdict
use Rattle.model.specs.Kinds.event.{Found, Poll, Listen, Failed, Sleeps, LinkLost, Releases, Endpoint}
use Rattle.state.specs.Judgement.{Judgement}
use Rattle.state.specs.Conn.{terms_of}
use Rattle.messages.specs.Layout.{reset_ntf, credits_ntf, generic_error_ntf, discover_ntf, activated_ntf, deactivate_ntf, response_of, notice_message}
use Rattle.air.specs.Air.{air_message}
use Rattle.state.proofs.Chains.{on}
use Rattle.model.specs.Connection.{Connection, with_host, with_controller}
use Rattle.packets.specs.Headers.{data_header, control_header}
use Rattle.messages.specs.Packets.{notice_packet, notice_packets}
use Rattle.wires.specs.Meaning.{datum, control, meaning_in, meaning}
use Rattle.wires.proofs.Slots.{meant_data}
use Rattle.model.specs.State.{State, cold}
use Rattle.model.specs.Refusals.{no_conn}
use Rattle.ends.specs.Changes.{Change, stays, opens, closes, gives}
use Rattle.model.specs.Changes.{at_controller, at_host}
use Rattle.model.specs.calls.Down.{answers}
use Rattle.model.specs.Reachable.{WellFormed, GoesDown, GoesUp, Each}
use Rattle.messages.proofs.Lengths.{response_short}
use Rattle.air.proofs.Taken.{Within}
use Rattle.model.proofs.Meanings.{meaning_packet, meaning_data, meaning_command, meaning_response, meaning_notice}
use Rattle.model.proofs.Fine.{conn_small}
use Rattle.model.proofs.Messages.{Answerable, entries_few}

-- ---- a packet as it was written

pub record Formed (p : Octets) : Type 0 where
  pub header : Header
  pub payload : Octets
  pub same : p ≡ packet_of header payload
  pub writable : Writable header
  pub short : length payload ≤ 255

formed_long : (p : Octets) (f : Formed p) → length p ≡ 3 + length f.payload
unfolding packet_of
formed_long p f = let long : length p ≡ suc (suc (suc (length f.payload))) = ap length f.same in omega arith

formed_reads : (p : Octets) (f : Formed p) → read_of p ≡ Some (f.header, length f.payload)
formed_reads p f = ap read_of f.same ∙ (rw append-nil at (read_written f.header f.payload [] f.writable))

pub formed_well : (p : Octets) → Formed p → WellFormed p
formed_well p f =
    record {
      header = f.header;
      size = length f.payload;
      reads = formed_reads p f;
      whole = formed_long p f;
      most = omega (arith, formed_long p f, f.short);
    }

-- it has no reserved bit at 1: going up by its header alone, going down because it carries no credits
pub formed_clear_up : (p : Octets) → Formed p → rfu_by way.Up (read_of p) ≡ 0
formed_clear_up p f = ap (rfu_by way.Up) (formed_reads p f) ∙ f.writable.spare

pub formed_clear_down : (p : Octets) → Formed p → GoesDown (meaning p) → rfu_by way.Down (read_of p) ≡ 0
unfolding meaning
formed_clear_down p f g =
    ap (rfu_by way.Down) (formed_reads p f)
    ∙ go (eqb f.header.mt 0) refl (subst (λ (r : Reading). GoesDown (meaning_in p r)) (formed_reads p f) g)
  where
    none : f.header.credits ≡ 0 → f.header.spare / 4 * 4 + f.header.credits % 4 ≡ 0
    none z = omega (arith, z, f.writable.spare)

    x : Segment
    x = segment f.header.pbf (payload_of p (length f.payload))

    go : (b : Bool) → eqb f.header.mt 0 ≡ b
        → GoesDown (pick b (datum f.header.id f.header.credits x) (control f.header.mt f.header.id f.header.oid x))
        → f.header.spare / 4 * 4 + f.header.credits % 4 ≡ 0
    go true e h = none h.1
    go false e h = none (f.writable.control_credits (eqb-false f.header.mt 0 e))

-- on either wire
abbrev pub DownOk : Octets → Type 0
DownOk p = Formed p × GoesDown (meaning p)

abbrev pub UpOk : Octets → Type 0
UpOk p = Formed p × GoesUp (meaning p)

-- ---- segments of at most 255 octets

abbrev pub Short : List Segment → Type 0
Short [] = Unit {0}
Short (x ∷ ss) = (length (body x) ≤ 255) × Short ss

short_within : (f size : ℕ) (m : Octets) → length m ≤ f → 1 ≤ size → size ≤ 255 → Short (segments_within f size m)
unfolding segments_within
short_within zero size m h low high = (omega arith, tt)
short_within (suc f) size m h low high =
    on Short (ltb size (length m))
    (λ e. (omega (arith, length-take size m), short_within f size (drop size m) (omega (arith, length-drop size m)) low high))
    (λ e. (omega (arith, ltb-false size (length m) e), tt))

pub short_segments : (size : ℕ) (m : Octets) → 1 ≤ size → size ≤ 255 → Short (segments size m)
unfolding segments
short_segments size m low high = short_within (length m) size m (omega arith) low high

-- ---- what each end writes

data_formed : (c n : ℕ) (x : Segment) → c < 16 → n < 4 → length (body x) ≤ 255 → Formed (segment_packet (data_header c n) x)
data_formed c n x low few short =
    record {
      header = marked (data_header c n) (flag x);
      payload = body x;
      same = refl;
      writable = record { mt = omega arith; id = low; oid = omega arith; data_oid = λ e. refl; credits = few; control_credits = λ z. absurd (z refl); spare = refl };
      short = short;
    }

pub data_down_law : (c : ℕ) (x : Segment) → no_conn c ≡ false → length (body x) ≤ 255 → DownOk (segment_packet (data_header c 0) x)
data_down_law c x five short =
    (data_formed c 0 x (conn_small c five) (omega arith) short, rw (meaning_data c 0 x (conn_small c five) (omega arith)) (five, refl))

pub data_up : (c n : ℕ) (x : Segment) → no_conn c ≡ false → n < 4 → length (body x) ≤ 255 → UpOk (segment_packet (data_header c n) x)
data_up c n x five few short = (data_formed c n x (conn_small c five) few short, rw (meaning_data c n x (conn_small c five) few) five)

-- data that is passed on with other credits
module _ (p : Octets) (c m : ℕ) (x : Segment) (means : meaning p ≡ datum c m x) (f : Formed p) where
  is_data : f.header.mt ≡ 0
  is_data =
      meant_data f.header (segment f.header.pbf f.payload) c m x
      (sym (meaning_packet f.header f.payload f.writable) ∙ ap meaning (sym f.same) ∙ means)

  pub carrying_formed : (n : ℕ) → Formed (carrying n p)
  carrying_formed n =
      let w = f.writable in
      record {
        header = credited f.header n;
        payload = f.payload;
        same = ap (carrying n) f.same ∙ carrying_written f.header f.payload n is_data;
        writable = record { mt = w.mt; id = w.id; oid = w.oid; data_oid = w.data_oid; credits = omega arith; control_credits = λ z. absurd (z is_data); spare = w.spare };
        short = f.short;
      }

control_formed : (mt gid oid : ℕ) (b : Bool) (m : Octets) → 1 ≤ mt → mt < 4 → gid < 16 → oid < 64 → length m ≤ 255
    → Formed (packet_of (marked (control_header mt gid oid) b) m)
control_formed mt gid oid b m least most low small short =
    record {
      header = marked (control_header mt gid oid) b;
      payload = m;
      same = refl;
      writable = record { mt = most; id = low; oid = small; data_oid = λ e. absurd (omega arith); credits = omega arith; control_credits = λ z. refl; spare = refl };
      short = short;
    }

pub commands_down : (gid oid : ℕ) (ss : List Segment) → gid < 16 → oid < 64 → Short ss → Each DownOk (map (segment_packet (control_header 1 gid oid)) ss)
commands_down gid oid [] low small short = tt
commands_down gid oid (x ∷ ss) low small short = (
  (control_formed 1 gid oid (flag x) (body x) (omega arith) (omega arith) low small short.0, rw (meaning_command gid oid low small x) refl),
  commands_down gid oid ss low small short.1,
)

pub notice_up : (gid oid : ℕ) (m : Octets) → gid < 16 → oid < 64 → length m ≤ 255 → UpOk (notice_packet (record { gid = gid; oid = oid; payload = m }))
notice_up gid oid m low small short =
    (control_formed 3 gid oid false m (omega arith) (omega arith) low small short, rw (meaning_notice gid oid low small m) (inr refl))

notices_up : (gid oid : ℕ) (m : Octets) → gid < 16 → oid < 64 → length m ≤ 255 → Each UpOk (notice_packets (record { gid = gid; oid = oid; payload = m }))
notices_up gid oid m low small short = on (Each UpOk) (eqb (length m) 0) (λ e. tt) (λ e. (notice_up gid oid m low small short, tt))

after_up : (v : Judgement) → Each UpOk (notice_packets (notice_message v))
unfolding notice_message
after_up (Err status) = tt
after_up (Ok (verdict.Resets type)) = notices_up 0 0 (reset_ntf type) (omega arith) (omega arith) (omega arith)
after_up (Ok verdict.Initialises) = tt
after_up (Ok (verdict.Opens c t)) = tt
after_up (Ok (verdict.Closes c)) = tt
after_up (Ok (verdict.Turns rf)) = tt
after_up (Ok (verdict.Selects pair)) = tt
after_up (Ok (verdict.Deactivates type rf)) = notices_up 1 6 (deactivate_ntf type 0x00) (omega arith) (omega arith) (omega arith)
after_up (Ok verdict.SetsConfig) = tt
after_up (Ok verdict.GetsConfig) = tt

pub answers_up : (gid oid : ℕ) (p : Profile) (b m : Octets) (v : Judgement) → Answerable b m v → gid < 16 → oid < 64 → Each UpOk (answers gid oid p b m v)
answers_up gid oid p b m v a low small = (
  (
    control_formed 2 gid oid false (response_of p b m v) (omega arith) (omega arith) low small (response_short p b m v a.whole),
    rw (meaning_response gid oid low small (response_of p b m v)) (inl refl),
  ),
  after_up v,
)

pub air_up : (p : Profile) (m : Octets) (e : Option Event) → Within m e → Each UpOk (notice_packets (air_message p e m))
unfolding air_message
air_up p m None w = tt
air_up p m (Some (Found a type)) w = notices_up 1 3 (discover_ntf a type (drop 5 m)) (omega arith) (omega arith) (simp length-append (omega (arith, w.4)))
air_up p m (Some (Poll a)) w = notices_up 1 5 (activated_ntf a (terms_of p 0) (drop 4 m)) (omega arith) (omega arith) (simp length-append (omega (arith, w.3)))
air_up p m (Some (Listen a)) w = notices_up 1 5 (activated_ntf a (terms_of p 0) (drop 4 m)) (omega arith) (omega arith) (simp length-append (omega (arith, w.3)))
air_up p m (Some Failed) w = notices_up 0 7 generic_error_ntf (omega arith) (omega arith) (omega arith)
air_up p m (Some Sleeps) w = notices_up 1 6 (deactivate_ntf 0x01 0x01) (omega arith) (omega arith) (omega arith)
air_up p m (Some LinkLost) w = notices_up 1 6 (deactivate_ntf 0x03 0x02) (omega arith) (omega arith) (omega arith)
air_up p m (Some Releases) w = notices_up 1 6 (deactivate_ntf 0x03 0x01) (omega arith) (omega arith) (omega arith)
air_up p m (Some Endpoint) w = tt

pub credit_up : (a b c d e : ℕ) → UpOk (notice_packet (record { gid = 0; oid = 6; payload = credits_ntf (a ∷ b ∷ c ∷ d ∷ e ∷ []) }))
credit_up a b c d e =
    notice_up 0 6 (credits_ntf (a ∷ b ∷ c ∷ d ∷ e ∷ [])) (omega arith) (omega arith) (let few = entries_few 0 (a ∷ b ∷ c ∷ d ∷ e ∷ []) in omega arith)

-- ---- the invariant

pub record ConnShaped (k : Connection) : Type 0 where
  pub store : Each (λ p. Formed p) k.controller.store
  pub hand : Short k.host.hand
  pub speech : Short k.controller.speech

pub record Shaped (s : State) : Type 0 where
  pub down : Each DownOk s.down
  pub up : Each UpOk s.up
  pub conns : (d : ℕ) → ConnShaped (s.conns d)

pub cold_shaped : (p : Profile) → Shaped (cold p)
cold_shaped p = record { down = tt; up = tt; conns = λ d. record { store = tt; hand = tt; speech = tt } }

-- what opens and closes, at either end, holds nothing
pub controller_shaped : (c : Change) (k : Connection) → ConnShaped k → ConnShaped (with_controller (at_controller c k.controller) k)
controller_shaped stays k m = m
controller_shaped (opens t) k m = record { store = tt; hand = m.hand; speech = tt }
controller_shaped closes k m = record { store = tt; hand = m.hand; speech = tt }
controller_shaped (gives n) k m = m

pub host_shaped : (c : Change) (k : Connection) → ConnShaped k → ConnShaped (with_host (at_host c k.host) k)
host_shaped stays k m = m
host_shaped (opens t) k m = record { store = m.store; hand = tt; speech = m.speech }
host_shaped closes k m = record { store = m.store; hand = tt; speech = m.speech }
host_shaped (gives n) k m = record { store = m.store; hand = m.hand; speech = m.speech }
