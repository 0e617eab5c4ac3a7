-- A command's segment joins the controller's run on octets as in the model, and a whole command is answered.
-- Assumes nothing.
use Prim.Native.Nat.{ℕ, ◌+◌, ◌≤◌}
use native.Mathlib.Omega.{arith}
use mathlib.Core.Path.{◌≡◌, refl, sym, ap, ◌∙◌, subst}
use mathlib.Core.Bool.{Bool, true, false, false≢true}
use mathlib.Core.List.{List, [], ◌∷◌}
use lib.ListN.{length}
use borrow.Author.Tests.{not-true}
use Rattle.octets.specs.Octets.{Octets, cut}
use Rattle.octets.specs.Octal.{Octal}
use Rattle.octets.proofs.Octets.{cut_short}
use Rattle.octets.proofs.Octal.{octal_cut}
use Rattle.packets.specs.Packet.{payload_of}
use Rattle.packets.specs.Segments.{Segment, segment, body, flag}
use Rattle.packets.proofs.Packet.{Ranged}
use Rattle.packets.proofs.Segments.{flag_segment, body_segment}
use Rattle.calls.specs.Kinds.{Header, Record, ControlRun}
use Rattle.state.specs.Conn.{open_at}
use Rattle.state.specs.Runs.{within, handed_on, run_for, joined_of, control_joined}
use Rattle.state.proofs.Chains.{on}
use Rattle.state.proofs.Progress.{control_fits, control_room, control_base}
use Rattle.nfcc.specs.Controller.{judge_of}
use Rattle.area.specs.Map.{area_size, slot_size, payload_size, control_size, wire_slots, asking_at}
use Rattle.area.specs.Runs.{run_area}
use Rattle.area.proofs.Moves.{length_payload, length_run, octal_run}
use Rattle.record.specs.Fit.{Shape, Fit}
use Rattle.record.specs.Small.{Small}
use Rattle.record.specs.Plan.{with_asking}
use Rattle.record.proofs.Taken.{control_octal}
use Rattle.views.specs.View.{view}
use Rattle.views.specs.Moves.{Sound}
use Rattle.views.proofs.Whole.{moves}
use Rattle.views.proofs.Controls.{control_whole, control_flag}
use Rattle.model.specs.State as bench
use Rattle.model.specs.State.{is_open}
use Rattle.model.specs.Runs.{run_after, whole_by, flag_by}
use Rattle.model.specs.Effects.{Effect, down, taken}
use Rattle.model.specs.calls.Down.{deciding, answering, asked}
use Rattle.calls.specs.Outcome.{Outcome}
use Rattle.calls.specs.Seen.{Puts}
use Rattle.calls.specs.Refines.{Follows, RefinesTo}
use Rattle.calls.specs.calls.Down.{asked_run, asked_record, asked_area, only_joined, command_in, answered, command_down}
use Rattle.calls.proofs.Taken.{added_none, took_refines}
use Rattle.calls.proofs.DownAnswer.{answered_refines}

-- a message is whole with its last packet
pub control_last : (k : ControlRun) (h : Header) (n : ℕ) → (control_joined k h n).done ≡ true → h.pbf ≡ false
unfolding control_joined joined_of
control_last k h n e = go (within control_size (run_for k h) n) refl
  where
    go : (b : Bool) → within control_size (run_for k h) n ≡ b → h.pbf ≡ false
    go true w = not-true h.pbf (rw w at e)
    go false w = absurd (false≢true (rw w at e))

-- and fits its limit
pub command_short : (t : Record) (h : Header) (n : ℕ) → (asked_run t h n).done ≡ true → (b : Octets) → length (command_in ((asked_run t h n).base + n) b) ≤ control_size
command_short t h n e b =
    omega (arith, cut_short asking_at ((asked_run t h n).base + n) b, control_room t.ends.asking h n e, control_base t.ends.asking h n)

module _ (a out : Octets) (t : Record) (s : Sound a t) (small : Small t) (o : Octal a) (slot : ℕ) (h : Header) (n : ℕ) (room : slot + slot_size ≤ length a) (few : n ≤ payload_size) (ranged : Ranged h) (one : h.mt ≡ 1) where
  abbrev v : Octets
  v = payload_of (cut slot slot_size a) n

  abbrev x : Segment
  x = segment h.pbf v

  abbrev after : Record
  after = asked_record t h n

  abbrev b : Octets
  b = asked_area t slot h n a

  is_flag : flag x ≡ h.pbf
  is_flag = flag_segment h.pbf v

  is_body : body x ≡ v
  is_body = body_segment h.pbf v

  is_long : length (body x) ≡ n
  is_long = ap length is_body ∙ length_payload a slot n few room

  -- ---- what the model makes of it

  abbrev asked_state : bench.State
  asked_state = bench.with_asking (run_after (view a t).asking 1 h.id h.oid x) (view a t)

  asked_view : view b after ≡ asked_state
  asked_view =
      sym (λ i. view (run_area control_size asking_at a (run_for t.ends.asking h) (is_body i)) (with_asking (control_joined t.ends.asking h (is_long i)).next t))
      ∙ (moves a t s).join_asking h x (sym is_flag)
      ∙ (λ i. bench.with_asking (run_after (view a t).asking (one i) h.id h.oid x) (view a t))

  asked_room : asking_at + control_size ≤ length a
  asked_room = omega (arith, s.room)

  asked_whole : whole_by (view a t).asking 1 h.id h.oid x ≡ handed_on (asked_run t h n).done (command_in ((asked_run t h n).base + n) b)
  unfolding control_joined
  asked_whole =
      sym (λ i. whole_by (view a t).asking (one i) h.id h.oid x)
      ∙ control_whole asking_at a t.ends.asking h x (sym is_flag) s.fit.own.asking asked_room
      ∙ (λ i.
      handed_on (control_joined t.ends.asking h (is_long i)).done
      (cut asking_at ((run_for t.ends.asking h).len + is_long i) (run_area control_size asking_at a (run_for t.ends.asking h) (is_body i))))

  asked_flag : (asked_run t h n).dropped ≡ flag_by (view a t).asking 1 h.id h.oid x
  asked_flag =
      sym (λ i. (control_joined t.ends.asking h (is_long i)).dropped)
      ∙ control_flag asking_at a t.ends.asking h x (sym is_flag) s.fit.own.asking asked_room
      ∙ (λ i. flag_by (view a t).asking (one i) h.id h.oid x)

  -- ---- the record and the area with the run joined

  after_fit : Fit after
  after_fit =
      let f = s.fit in
      record {
        down = f.down;
        up = f.up;
        own =
            record {
              profile = f.own.profile;
              size = f.own.size;
              hearing = f.own.hearing;
              controller = f.own.controller;
              asking = control_fits t.ends.asking h n;
              endpoint = f.own.endpoint;
            };
        conns = f.conns;
      }

  after_shape : Shape after
  after_shape = record { pairs = s.shape.pairs; conns = s.shape.conns }

  after_small : Small after
  after_small =
      record {
        own =
            record {
              profile = small.own.profile;
              host = small.own.host;
              hearing = small.own.hearing;
              controller = small.own.controller;
              asking = control_octal t.ends.asking h n (omega (arith, ranged.mt)) (omega (arith, ranged.id)) (omega (arith, ranged.oid));
            };
        conns = small.conns;
      }

  after_long : area_size ≤ length b
  after_long = omega (arith, s.room, length_run control_size asking_at a (run_for t.ends.asking h) v)

  after_octal : Octal b
  after_octal = octal_run control_size asking_at a (run_for t.ends.asking h) v o (octal_cut 3 n (octal_cut slot slot_size o))

  module _ (q : Puts) (fd : Follows q.down t.down) (fu : Follows q.up t.up) (two : h.pbf ≡ false → t.up.count + 2 ≤ wire_slots) where
    abbrev Does : Outcome → Effect → Type 0
    Does y e = RefinesTo down q y (record { answer = taken; effect = e })

    -- what the model does, by the message that is whole
    abbrev effect_of : List Octets → Effect
    effect_of l = answering h.id h.oid l (flag_by (view a t).asking 1 h.id h.oid x) asked_state

    only_joins : (asked_run t h n).done ≡ false → Does (only_joined t slot h n a out) (asked h.id h.oid x (view a t))
    only_joins e =
        let none : whole_by (view a t).asking 1 h.id h.oid x ≡ [] = asked_whole ∙ (λ i. handed_on (e i) (command_in ((asked_run t h n).base + n) b)) in
        subst (λ (l : List Octets). Does (only_joined t slot h n a out) (effect_of l)) (sym none)
        (took_refines down q b out after (asked_run t h n).dropped false 0 0 0 (effect_of [])
        (record {
          long = after_long;
          fit = after_fit;
          shape = after_shape;
          octal = after_octal;
          small = after_small;
          short = omega arith;
          drop = asked_flag;
          rfu = refl;
          message = refl;
          next = asked_view;
          to_down = added_none q.down t.down asked_state.down fd;
          to_up = added_none q.up t.up asked_state.up fu;
        })
        refl)

    abbrev m : Octets
    m = command_in ((asked_run t h n).base + n) b

    -- the verdict and what follows, from the state with the run joined
    abbrev deciding_on : bench.State → Effect
    deciding_on z = deciding h.id h.oid m (judge_of z.profile z.controller (is_open z) h.id h.oid m) z

    is_answered : (asked_run t h n).done ≡ true → Does (answered after h m b out) (asked h.id h.oid x (view a t))
    unfolding open_at
    is_answered e =
        let one_message : whole_by (view a t).asking 1 h.id h.oid x ≡ m ∷ [] = asked_whole ∙ (λ i. handed_on (e i) m) in
        let sound : Sound b after = record { room = after_long; fit = after_fit; shape = after_shape } in
        subst (λ (l : List Octets). Does (answered after h m b out) (effect_of l)) (sym one_message)
        (subst (λ (z : bench.State). Does (answered after h m b out) (deciding_on z)) asked_view
        (answered_refines b out after sound after_small after_octal h m (octal_cut asking_at ((asked_run t h n).base + n) after_octal) (command_short t h n e b) (two (control_last t.ends.asking h n e)) q fd fu))

    pub does_command : Does (command_down t slot h n a out) (asked h.id h.oid x (view a t))
    unfolding command_down
    does_command = on (λ (y : Outcome). Does y (asked h.id h.oid x (view a t))) (asked_run t h n).done is_answered only_joins
