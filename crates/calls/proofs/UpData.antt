-- up of a data packet for a connection that is open at the host: the segment joins the run, as the model's does.
-- Assumes nothing.
use Prim.Native.Nat.{ℕ, ◌+◌, ◌≤◌, ◌<◌}
use native.Mathlib.Omega.{arith}
use mathlib.Core.Path.{◌≡◌, refl, sym, ap, ◌∙◌, subst}
use mathlib.Core.Bool.{Bool, true, false}
use mathlib.Core.List.{[], ◌∷◌}
use lib.ListN.{length, set, length-set}
use lib.Seq.{get_or-set_same, set-set}
use Rattle.octets.specs.Octets.{Octets, pick, cut, splice}
use Rattle.octets.specs.Octal.{Octal}
use Rattle.octets.proofs.Octets.{length_cut, cut_same}
use Rattle.octets.proofs.Octal.{octal_cut}
use Rattle.packets.specs.Segments.{Segment, body, flag}
use Rattle.packets.specs.Reassembly.{finished, flagged}
use Rattle.calls.specs.Kinds.{Header, Counts, Record, Joined, Progress}
use Rattle.std.specs.Prelude.{Some}
use Rattle.state.specs.Conn.{place_of, counts_of, closed_counts}
use Rattle.state.specs.Runs.{joined_of, handed_on}
use Rattle.state.proofs.Chains.{on}
use Rattle.state.proofs.Progress.{joined_fits, done_room}
use Rattle.ends.specs.Changes.{gives, counts_at_host}
use Rattle.area.specs.Map.{area_size, slot_size, message_size, places, host_run_at}
use Rattle.area.specs.Runs.{run_area}
use Rattle.area.proofs.Moves.{length_run, octal_run}
use Rattle.record.specs.Fit.{Shape, Fit, FitCounts}
use Rattle.record.specs.Small.{SmallCounts, Small}
use Rattle.record.specs.Plan.{with_conns, with_host_run}
use Rattle.record.proofs.Conns.{conns_set}
use Rattle.views.specs.View.{run_of, view}
use Rattle.views.specs.Moves.{Sound, RunJoined, joined}
use Rattle.views.proofs.Runs.{run_joined}
use Rattle.views.proofs.Whole.{moves}
use Rattle.model.specs.Connection.{Connection, heard_data}
use Rattle.model.specs.Connection as connection
use Rattle.model.specs.State as bench
use Rattle.model.specs.Effects.{Effect, up, taken, flagged_as}
use Rattle.model.specs.calls.Up.{receiving}
use Rattle.calls.specs.Seen.{Puts}
use Rattle.calls.specs.Refines.{Follows, RefinesTo}
use Rattle.calls.specs.calls.Push.{host_side}
use Rattle.calls.specs.calls.Up.{up_slot, up_read, up_payload, up_record, received_join, received_side, received_ends, received_area, received_length, received_message, received_out, received}
use Rattle.calls.proofs.Refine.{at_const, at_twice}
use Rattle.calls.proofs.Quiet.{quiet_refines}
use Rattle.calls.proofs.UpHeard.{changed_small}
use Rattle.calls.proofs.UpPacket.{up_segment, is_flag, is_body, is_long, up_fit, up_small, up_shape, took_sound}

-- what the model's host does with a segment on a connection that it has open
abbrev pub received_by : ℕ → ℕ → Segment → bench.State → Effect
received_by c n x s =
    record {
      drop = flagged message_size (s.conns c).host.run x;
      rfu = 0;
      to_down = [];
      to_up = [];
      message = finished message_size (s.conns c).host.run x;
      next = bench.with_conns (bench.at c (λ k. connection.with_host (heard_data x (connection.credited n k.host)) k) s.conns) s;
    }

module _ (a : Octets) (r : Record) (s : Sound a r) (h : Header) (n : ℕ) (e : up_read r a ≡ Some (h, n)) (l : place_of h.id < places) where
  abbrev x : Segment
  x = up_segment a r s h n e

  abbrev base : ℕ
  base = host_run_at (place_of h.id)

  abbrev before : Progress
  before = (host_side r h.id).run

  -- the record with the packet off the wire
  abbrev took : Record
  took = up_record r r.ends

  -- ---- the run, by the packet layer

  joins : RunJoined message_size base a before x (run_area message_size base a before (body x)) (joined_of message_size before (flag x) (length (body x)))
  joins = run_joined message_size base a before x (s.fit.conns (place_of h.id) l).host_run_law (omega (arith, s.room, l))

  same : joined_of message_size before (flag x) (length (body x)) ≡ received_join r h n
  same i = joined_of message_size before (is_flag a r s h n e i) (is_long a r s h n e i)

  dropped_is : (received_join r h n).dropped ≡ flagged message_size (run_of base a before) x
  dropped_is = sym (ap (λ (j : Joined). j.dropped) same) ∙ joins.drop

  message_is : handed_on (received_join r h n).done (received_message r h n a) ≡ finished message_size (run_of base a before) x
  message_is =
      sym
      (joins.message
      ∙ (λ i. handed_on (same i).done (cut base (before.len + is_long a r s h n e i) (run_area message_size base a before (is_body a r s h n e i)))))

  -- ---- the connection with the packet's credits, and the run still as it was

  abbrev own : Counts
  own = counts_of r.ends.conns h.id

  abbrev paid : Counts
  paid = counts_at_host (gives h.credits) own

  there : place_of h.id < length r.ends.conns
  there = omega (arith, l, s.shape.conns)

  abbrev between : Record
  between = with_conns (set r.ends.conns (place_of h.id) paid) took

  abbrev credits : Connection → Connection
  credits k = connection.with_host (connection.credited h.credits k.host) k

  paid_view : view a between ≡ bench.with_conns (bench.at h.id credits (view a took).conns) (view a took)
  paid_view =
      (moves a took (took_sound a r s)).counts_set h.id paid l
      ∙ (λ i. bench.with_conns (at_const h.id credits (view a took).conns i) (view a took))

  -- ---- the record after it

  abbrev new : Counts
  new = record { host = with_host_run (received_join r h n).next (received_side r h); controller = own.controller }

  shape : Shape (up_record r (received_ends r h n))
  shape = up_shape r (received_ends r h n) s.shape.pairs (length-set r.ends.conns (place_of h.id) new ∙ s.shape.conns)

  -- whatever credits come, its bounds are those of the connection before
  paid_fit : FitCounts paid
  paid_fit =
      let k = s.fit.conns (place_of h.id) l in
      record { payload = k.payload; hand = k.hand; host_run_law = k.host_run_law; store = k.store; controller_run_law = k.controller_run_law }

  between_sound : Sound a between
  between_sound =
      let f = (took_sound a r s).fit in
      record {
        room = s.room;
        fit = record { down = f.down; up = f.up; own = f.own; conns = conns_set FitCounts r.ends.conns (place_of h.id) paid there paid_fit s.fit.conns };
        shape = record { pairs = s.shape.pairs; conns = length-set r.ends.conns (place_of h.id) paid ∙ s.shape.conns };
      }

  fit : Fit (up_record r (received_ends r h n))
  fit =
      up_fit r (received_ends r h n) s.fit s.fit.own
      (conns_set FitCounts r.ends.conns (place_of h.id) new there
      (record {
        payload = paid_fit.payload;
        hand = paid_fit.hand;
        host_run_law = joined_fits message_size before h.pbf n;
        store = paid_fit.store;
        controller_run_law = paid_fit.controller_run_law;
      })
      s.fit.conns)

  small_after : Small r → Small (up_record r (received_ends r h n))
  small_after small =
      let paid-small = changed_small (gives h.credits) own tt (small.conns (place_of h.id) l) in
      up_small r (received_ends r h n) small.own
      (conns_set SmallCounts r.ends.conns (place_of h.id) new there
      (record { payload = paid-small.payload; host_grant_law = paid-small.host_grant_law; held = paid-small.held; grant = paid-small.grant; owed = paid-small.owed })
      small.conns)

  -- ---- the state after it

  next_is : view (received_area r h n a) (up_record r (received_ends r h n)) ≡ (received_by h.id h.credits x (view a took)).next
  next_is =
      let at : ℕ = place_of h.id in
      let mine = get_or-set_same r.ends.conns at paid closed_counts there in
      let hears : Connection → Connection = λ k. connection.with_host (heard_data x k.host) k in
      sym
      ((λ i.
      view (run_area message_size base a (mine i).host.run (body x))
      (with_conns (set between.ends.conns at (record { host = with_host_run (joined message_size (mine i).host.run x) (mine i).host; controller = (mine i).controller })) took))
      ∙ (λ i.
      view (run_area message_size base a before (is_body a r s h n e i))
      (with_conns (set-set r.ends.conns at paid (record { host = with_host_run (same i).next (received_side r h); controller = own.controller }) i) took)))
      ∙ (moves a between between_sound).join_host h.id x l
      ∙ (λ i. bench.with_conns (bench.at h.id hears (paid_view i).conns) (paid_view i))
      ∙ (λ i. bench.with_conns (at_twice h.id credits hears (view a took).conns i) (view a took))

  -- ---- what is handed out

  long : area_size ≤ length (received_area r h n a)
  long = omega (arith, s.room, length_run message_size base a before (up_payload r n a))

  abbrev size : ℕ
  size = pick (received_join r h n).done (received_length r h n) 0

  size_few : size ≤ message_size
  size_few = on (λ (k : ℕ). k ≤ message_size) (received_join r h n).done (λ d. done_room message_size before h.pbf n d) (λ _. omega arith)

  -- it stands at the buffer's front
  out_is : (out : Octets) → message_size ≤ length out
      → pick (received_join r h n).done (cut 0 size (received_out r h n a out) ∷ []) [] ≡ finished message_size (run_of base a before) x
  out_is out room = go (received_join r h n).done refl ∙ message_is
    where
      m : Octets
      m = received_message r h n a

      go : (b : Bool) → (received_join r h n).done ≡ b
          → pick b (cut 0 (pick b (received_length r h n) 0) (pick b (splice out 0 m) out) ∷ []) [] ≡ handed_on b m
      go true d =
          let fits : received_length r h n ≤ message_size = done_room message_size before h.pbf n d in
          let whole : length m ≡ received_length r h n = length_cut base (received_length r h n) (received_area r h n a) (omega (arith, long, l)) in
          ap (λ (o : Octets). o ∷ []) (ap (λ (k : ℕ). cut 0 k (splice out 0 m)) (sym whole) ∙ cut_same out 0 m (omega arith))
      go false d = refl

  pub received_refines : (q : Puts) (out : Octets) → message_size ≤ length out → Octal a → Small r → Follows q.down took.down → Follows q.up took.up
      → (host_side r h.id).opened ≡ true
      → RefinesTo up q (received r h n a out) (record { answer = taken; effect = receiving h.id h.credits x (view a took) })
  received_refines q out room o small fd fu opened =
      let does : Effect = received_by h.id h.credits x (view a took) in
      subst (λ (b : Bool). RefinesTo up q (received r h n a out) (record { answer = taken; effect = pick b does (flagged_as true (view a took)) })) (sym opened)
      (quiet_refines (received_area r h n a) (up_record r (received_ends r h n)) long fit shape
      (octal_run message_size base a before (up_payload r n a) o (octal_cut 3 n (octal_cut (up_slot r) slot_size o))) (small_after small) up refl q fd fu
      (received_join r h n).dropped (received_join r h n).done size (received_out r h n a out) does (omega (arith, size_few)) dropped_is refl refl refl
      (out_is out room) next_is)
