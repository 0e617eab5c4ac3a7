-- up of a control packet: its segment joins the run, and a whole message is heard as the model hears it.
-- Assumes nothing.
use Prim.Native.Nat.{ℕ, ◌+◌, ◌≤◌}
use native.Mathlib.Omega.{arith}
use mathlib.Core.Path.{◌≡◌, refl, sym, ◌∙◌, subst}
use mathlib.Core.Bool.{Bool, true, false}
use mathlib.Core.List.{List, [], ◌∷◌}
use lib.ListN.{length}
use Rattle.octets.specs.Octets.{Octets, pick, cut}
use Rattle.octets.specs.Octal.{Octal}
use Rattle.octets.proofs.Octal.{octal_cut}
use Rattle.packets.specs.Segments.{Segment}
use Rattle.packets.proofs.Packet.{read_ranged}
use Rattle.calls.specs.Kinds.{Header, Ends, Record, Heard}
use Rattle.std.specs.Prelude.{Some}
use Rattle.state.specs.Conn.{held_open}
use Rattle.state.specs.Runs.{handed_on, run_for, control_joined}
use Rattle.state.proofs.Progress.{control_fits}
use Rattle.dh.specs.Host.{host_after}
use Rattle.dh.proofs.Limits.{HeardFits, hear_fits}
use Rattle.ends.specs.Changes.{change_heard}
use Rattle.ends.specs.Steps.{ends_heard, heard_in}
use Rattle.ends.proofs.Changes.{length_heard}
use Rattle.area.specs.Map.{area_size, slot_size, control_size, hearing_at}
use Rattle.area.specs.Runs.{run_area}
use Rattle.area.proofs.Moves.{length_run, octal_run}
use Rattle.record.specs.Claims.{saved}
use Rattle.record.specs.Fit.{FitEnds}
use Rattle.record.specs.Small.{Small, SmallEnds}
use Rattle.record.specs.Plan.{with_hearing}
use Rattle.record.proofs.Taken.{control_octal}
use Rattle.views.specs.View.{view}
use Rattle.views.specs.Moves.{Sound}
use Rattle.views.proofs.Whole.{moves}
use Rattle.model.specs.Connection as connection
use Rattle.model.specs.State as bench
use Rattle.model.specs.Changes.{at_host}
use Rattle.model.specs.Effects.{Effect, up, taken}
use Rattle.model.specs.Runs.{run_after, flag_by}
use Rattle.model.specs.calls.Up.{understanding, hearing, heard}
use Rattle.calls.specs.Word.{word_of}
use Rattle.calls.specs.Outcome.{outcome}
use Rattle.calls.specs.Seen.{Puts}
use Rattle.calls.specs.Refines.{Follows, RefinesTo}
use Rattle.calls.specs.calls.Up.{up_slot, up_read, up_payload, up_record, heard_join, joined_ends, heard_area, heard_message, heeded_up, heard_ends, heard_drop, heard_up}
use Rattle.calls.proofs.Quiet.{quiet_refines}
use Rattle.calls.proofs.UpHeard.{heard_conns_law, heard_fits, heard_small, heard_own, heard_octal}
use Rattle.calls.proofs.UpPacket.{up_segment, is_flag, is_body, is_long, heard_whole, heard_flag, up_fit, up_small, up_shape, took_sound}

module _ (a : Octets) (r : Record) (s : Sound a r) (small : Small r) (o : Octal a) (h : Header) (n : ℕ) (e : up_read r a ≡ Some (h, n)) where
  abbrev x : Segment
  x = up_segment a r s h n e

  abbrev b : Octets
  b = heard_area r h n a

  abbrev took : Record
  took = up_record r r.ends

  -- ---- the run after it

  abbrev joined_state : bench.State
  joined_state = bench.with_hearing (run_after (view a took).hearing h.mt h.id h.oid x) (view a took)

  joined_is : view b (up_record r (joined_ends r h n)) ≡ joined_state
  joined_is =
      sym (λ i.
      view (run_area control_size hearing_at a (run_for r.ends.hearing h) (is_body a r s h n e i))
      (with_hearing (control_joined r.ends.hearing h (is_long a r s h n e i)).next took))
      ∙ (moves a took (took_sound a r s)).join_hearing h x (sym (is_flag a r s h n e))

  joined_own : FitEnds (joined_ends r h n)
  joined_own =
      let f = s.fit.own in
      record {
        profile = f.profile;
        size = f.size;
        hearing = control_fits r.ends.hearing h n;
        controller = f.controller;
        asking = f.asking;
        endpoint = f.endpoint;
      }

  joined_octal : SmallEnds (joined_ends r h n)
  joined_octal =
      let f = small.own in
      let k = read_ranged (cut (up_slot r) slot_size a) h n e in
      record {
        profile = f.profile;
        host = f.host;
        hearing = control_octal r.ends.hearing h n (omega (arith, k.mt)) (omega (arith, k.id)) (omega (arith, k.oid));
        controller = f.controller;
        asking = f.asking;
      }

  long : area_size ≤ length b
  long = omega (arith, s.room, length_run control_size hearing_at a (run_for r.ends.hearing h) (up_payload r n a))

  octal : Octal b
  octal = octal_run control_size hearing_at a (run_for r.ends.hearing h) (up_payload r n a) o (octal_cut 3 n (octal_cut (up_slot r) slot_size o))

  -- ---- a whole message

  abbrev m : Octets
  m = heard_message r h n a

  abbrev y : Heard
  y = heard_in r.ends h.mt h.id h.oid m

  fits : HeardFits m y
  fits = hear_fits m (octal_cut hearing_at ((heard_join r h n).base + n) octal) r.ends.host.pending h.mt h.id h.oid

  abbrev understood : bench.State → bench.State
  understood z =
      bench.with_host_state (host_after z.host y)
      (bench.with_conns (λ d. connection.with_host (at_host (change_heard y m d) (z.conns d).host) (z.conns d)) z)

  heard_is : view b (up_record r (ends_heard (joined_ends r h n) m y)) ≡ understood joined_state
  heard_is =
      (λ i.
      bench.with_host_state (host_after r.ends.host y)
      (bench.with_conns (heard_conns_law (joined_ends r h n) s.shape.conns m y fits small.conns b i) (view b (up_record r (joined_ends r h n)))))
      ∙ (λ i. understood (joined_is i))

  -- ---- up

  abbrev effect_of : List Octets → Effect
  effect_of l = hearing h.mt h.id h.oid l (flag_by (view a took).hearing h.mt h.id h.oid x) joined_state

  module _ (q : Puts) (out : Octets) (fd : Follows q.down took.down) (fu : Follows q.up took.up) where
    -- it only joins the run
    joins : RefinesTo up q (outcome (word_of (heard_join r h n).dropped false 0 0 0) (saved b (up_record r (joined_ends r h n))) out) (record { answer = taken; effect = effect_of [] })
    joins =
        quiet_refines b (up_record r (joined_ends r h n)) long
        (up_fit r (joined_ends r h n) s.fit joined_own s.fit.conns)
        (up_shape r (joined_ends r h n) s.shape.pairs s.shape.conns) octal
        (up_small r (joined_ends r h n) joined_octal small.conns) up refl q fd fu
        (heard_join r h n).dropped false 0 out (effect_of []) (omega arith) (heard_flag a r s h n e) refl refl refl refl joined_is

    -- it makes a message whole
    hears : (heard_join r h n).done ≡ true
        → RefinesTo up q (outcome (word_of (heeded_up r h n a).dropped false 0 0 0) (saved b (up_record r (heeded_up r h n a).next)) out) (record { answer = taken; effect = effect_of (m ∷ []) })
    unfolding held_open
    hears d =
        let k : Ends = joined_ends r h n in
        let five = s.shape.conns in
        quiet_refines b (up_record r (ends_heard k m y)) long
        (up_fit r (ends_heard k m y) s.fit (heard_own k five m y fits joined_own joined_octal) (heard_fits k five m y fits small.conns s.fit.conns))
        (up_shape r (ends_heard k m y) s.shape.pairs (length_heard r.ends.conns m y ∙ five)) octal
        (up_small r (ends_heard k m y) (heard_octal k five m y fits joined_own joined_octal) (heard_small k five m y fits small.conns)) up refl q fd fu
        (heeded_up r h n a).dropped false 0 out (understanding y m joined_state) (omega arith) refl refl refl refl refl heard_is

    pub heard_refines : RefinesTo up q (heard_up r h n a out) (record { answer = taken; effect = heard h.mt h.id h.oid x (view a took) })
    unfolding heard_ends heard_drop
    heard_refines =
        subst (λ (l : List Octets). RefinesTo up q (heard_up r h n a out) (record { answer = taken; effect = effect_of l })) (sym (heard_whole a r s h n e))
        (go (heard_join r h n).done refl)
      where
        go : (d : Bool) → (heard_join r h n).done ≡ d
            → RefinesTo up q
            (outcome (word_of (pick d (heeded_up r h n a).dropped (heard_join r h n).dropped) false 0 0 0)
            (saved b (up_record r (pick d (heeded_up r h n a).next (joined_ends r h n)))) out)
            (record { answer = taken; effect = effect_of (handed_on d m) })
        go true d = hears d
        go false d = joins
