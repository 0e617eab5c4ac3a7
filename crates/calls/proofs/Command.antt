-- command: the tests of its rules on numbers, what is known where none applies, and that it is the model's command.
-- Assumes nothing.
use Prim.Native.Nat.{ℕ, ◌+◌, ◌≤◌}
use mathlib.Core.Path.{◌≡◌, refl, sym, ap, ◌∙◌}
use mathlib.Core.Bool.{false, ◌||◌}
use mathlib.Core.List.{List, [], ◌∷◌}
use native.Mathlib.Omega.{arith}
use lib.ListN.{length, length-map}
use lib.Dec.{ltb, eqb}
use borrow.Author.Tests.{ltb-false}
use Rattle.octets.specs.Octets.{Octets}
use Rattle.octets.specs.Octal.{Octal}
use Rattle.packets.specs.Segments.{segments, segment_packet}
use Rattle.packets.specs.Headers.{control_header}
use Rattle.calls.specs.Kinds.{Record}
use Rattle.state.specs.Commands.{aim_in}
use Rattle.state.proofs.Chains.{or_left, or_right, on}
use Rattle.dh.specs.Host.{asked_of, is_busy}
use Rattle.dh.specs.Sending.{commanded_host}
use Rattle.area.specs.Map.{message_size, payload_size, wire_slots, down_at}
use Rattle.area.proofs.Puts.{length_puts, octal_puts}
use Rattle.record.specs.Reading.{decode_of}
use Rattle.record.specs.Fit.{Fit}
use Rattle.record.specs.Small.{Small}
use Rattle.record.specs.Plan.{with_host_state}
use Rattle.record.proofs.Small.{small_decode}
use Rattle.record.proofs.Hosts.{host_size_law}
use Rattle.record.proofs.Asked.{asked_octal}
use Rattle.views.specs.View.{down_of, up_of, view}
use Rattle.views.specs.Moves.{Sound}
use Rattle.views.proofs.Whole.{moves}
use Rattle.views.proofs.Tests.{down_full}
use Rattle.model.specs.Effects.{command, taken}
use Rattle.model.specs.Refusals.{Rule, rule, first}
use Rattle.model.specs.calls.Command.{command_rules}
use Rattle.model.specs.Bench.{act}
use Rattle.model.proofs.Order.{need}
use Rattle.calls.specs.Seen.{Puts}
use Rattle.calls.specs.Refines.{Good, Follows, Along, Refines}
use Rattle.calls.specs.calls.Command.{commanded_count, commanded_record, commanded_packets, commanded_slots, commanded, command_call, Commandable}
use Rattle.calls.proofs.Called.{sound_area}
use Rattle.calls.proofs.Refine.{called_refines}
use Rattle.calls.proofs.Taken.{added_none, Took, took_refines}

-- ---- the rules on numbers

abbrev pub command_tests : Record → ℕ → ℕ → Octets → List Rule
command_tests r gid oid m =
    rule 3 (ltb 15 gid || ltb 63 oid || ltb payload_size (length m))
    ∷ rule 4 (ltb wire_slots (r.down.count + commanded_count r m))
    ∷ rule 5 (is_busy r.ends.host.pending)
    ∷ []

pub command_tests_law : (a : Octets) (r : Record) (gid oid : ℕ) (m : Octets) → command_rules gid oid m (view a r) ≡ command_tests r gid oid m
command_tests_law a r gid oid m i =
    rule 3 (ltb 15 gid || ltb 63 oid || ltb payload_size (length m))
    ∷ rule 4 (down_full (commanded_count r m) a r i)
    ∷ rule 5 (is_busy r.ends.host.pending)
    ∷ []

-- ---- what is known where none applies

pub command_facts : (r : Record) (gid oid : ℕ) (m : Octets) → Fit r → first (command_tests r gid oid m) ≡ taken → Commandable r gid oid m
command_facts r gid oid m f t =
    let three = need 3 (command_tests r gid oid m) t in
    let ids = or_left (ltb 15 gid || ltb 63 oid) (ltb payload_size (length m)) three in
    record {
      gid = ltb-false 15 gid (or_left (ltb 15 gid) (ltb 63 oid) ids);
      oid = ltb-false 63 oid (or_right (ltb 15 gid) (ltb 63 oid) ids);
      short = ltb-false payload_size (length m) (or_right (ltb 15 gid || ltb 63 oid) (ltb payload_size (length m)) three);
      free = ltb-false wire_slots (r.down.count + commanded_count r m) (need 4 (command_tests r gid oid m) t);
      ring = f.down;
      size = f.own.size;
    }

-- ---- the record after it is one that row 1 lets pass, of octets

-- the connection that a command names is an octet
aim_octet : (m : Octets) → aim_in m ≤ 255
aim_octet m = on (λ (n : ℕ). n ≤ 255) (eqb (length m) 0) (λ e. omega arith) (λ e. omega arith)

module _ (r : Record) (gid oid : ℕ) (m : Octets) (p : Commandable r gid oid m) where
  -- first the host's own numbers, then the packets
  abbrev between : Record
  between = with_host_state (commanded_host r.ends.host gid oid m) r

  between_fit : Fit r → Fit between
  between_fit f =
      let o = f.own in
      record {
        down = f.down;
        up = f.up;
        own = record { profile = o.profile; size = o.size; hearing = o.hearing; controller = o.controller; asking = o.asking; endpoint = o.endpoint };
        conns = f.conns;
      }

  command_fit : Fit r → Fit (commanded_record r gid oid m)
  command_fit f =
      let b = between_fit f in
      record { down = record { head = p.ring.head; count = p.free }; up = b.up; own = b.own; conns = b.conns }

  command_small : Small r → Small (commanded_record r gid oid m)
  command_small s =
      let o = s.own in
      record {
        own =
            record {
              profile = o.profile;
              host =
                  asked_octal r.ends.host.size (asked_of gid oid m) (host_size_law r.ends.host o.host) (omega (arith, p.gid)) (omega (arith, p.oid)) (aim_octet m);
              hearing = o.hearing;
              controller = o.controller;
              asking = o.asking;
            };
        conns = s.conns;
      }

-- ---- a command that is taken

module _ (a out : Octets) (r : Record) (gid oid : ℕ) (m : Octets) (s : Sound a r) (small : Small r) (p : Commandable r gid oid m) (q : Puts) where
  between_sound : Sound a (between r gid oid m p)
  between_sound = record { room = s.room; fit = between_fit r gid oid m p s.fit; shape = record { pairs = s.shape.pairs; conns = s.shape.conns } }

  least : 1 ≤ r.ends.host.size
  least = omega (arith, p.size)

  most : r.ends.host.size ≤ payload_size
  most = host_size_law r.ends.host small.own.host

  took : Follows q.down r.down → Follows q.up r.up → Octal a → Octal m
      → Took (command gid oid m) q (commanded_slots r gid oid m a) out (commanded_record r gid oid m) false false 0 (commanded_count r m) 0 (act (command gid oid m) (view a r))
  took down up o v =
      record {
        long = omega (arith, s.room, length_puts down_at a r.down (commanded_packets r gid oid m));
        fit = command_fit r gid oid m p s.fit;
        shape = record { pairs = s.shape.pairs; conns = s.shape.conns };
        octal = octal_puts down_at (control_header 1 gid oid) r.ends.host.size least most m a r.down v o;
        small = command_small r gid oid m p small;
        short = omega arith;
        drop = refl;
        rfu = refl;
        message = refl;
        next = (moves a (between r gid oid m p) between_sound).puts_down (control_header 1 gid oid) r.ends.host.size m least most p.free;
        to_down =
            record {
              follows = omega (arith, down);
              before = down_of a r;
              split = refl;
              many = length-map (segments r.ends.host.size m) (segment_packet (control_header 1 gid oid));
            };
        to_up = added_none q.up r.up (up_of a r) up;
      }

-- a command on octets is the model's command
pub command_refines : (gid oid : ℕ) (m : Octets) (q : Puts) (a out : Octets) → Octal m → Good a → message_size ≤ length out → Along q a
    → Refines (command gid oid m) q a (command_call a out gid oid m)
unfolding command_call
command_refines gid oid m q a out v g room al =
    let r : Record = decode_of a in
    let s : Sound a r = sound_area a g.long g.judged in
    called_refines (command gid oid m) (commanded r gid oid m a out) q a out g room al refl
    (λ t.
    let p : Commandable r gid oid m = command_facts r gid oid m s.fit (ap first (sym (command_tests_law a r gid oid m)) ∙ t) in
    took_refines (command gid oid m) q (commanded_slots r gid oid m a) out (commanded_record r gid oid m) false false 0 (commanded_count r m) 0 (act (command gid oid m) (view a r))
    (took a out r gid oid m s (small_decode a g.octal) p q al.down al.up g.octal v) refl)
