-- What every call leaves alone: `RefusalsKeep` and `NothingPast` of `specs/Kept.antt`. Each call that is taken writes parts of the area that end before 36,864,
-- and a message over the front of the buffer.
-- Assumes nothing.
use Prim.Native.Nat.{ℕ, zero, suc, ◌+◌, ◌≤◌, ◌<◌}
use mathlib.Core.Path.{◌≡◌, refl, sym, ap, ◌∙◌}
use mathlib.Core.Bool.{Bool, true, false, false≢true, ◌||◌}
use mathlib.Core.List.{List, [], ◌∷◌, ◌++◌, map}
use native.Mathlib.Omega.{arith}
use lib.ListN.{length, drop, take, length-take, length-drop}
use lib.Dec.{ltb, eqb}
use borrow.Author.Tests.{ltb-true, ltb-false, not-false}
use Rattle.octets.specs.Octets.{Octets, pick, cut, splice}
use Rattle.octets.proofs.Octets.{cut_short, length_splice, drop_splice}
use Rattle.packets.specs.Segments.{Segment, body, flag, segment_at, segment_packet, segments_within, segments, marked}
use Rattle.packets.specs.Headers.{control_header, data_header}
use Rattle.packets.proofs.Packet.{length_packet, length_carrying}
use Rattle.packets.proofs.Segments.{body_segment}
use Rattle.state.specs.Judgement.{Judgement}
use Rattle.state.specs.Conn.{place_of, open_at, carried_by}
use Rattle.state.specs.Runs.{within}
use Rattle.state.proofs.Chains.{and_right, or_right, on}
use Rattle.state.proofs.Progress.{done_room}
use Rattle.nfcc.specs.Controller.{config_by}
use Rattle.messages.specs.Layout.{Message, credits_message}
use Rattle.messages.proofs.Lengths.{credits_short}
use Rattle.ends.specs.Steps.{verdict_of}
use Rattle.air.specs.Air.{event_of, air_message}
use Rattle.air.proofs.Room.{message_short}
use Rattle.air.proofs.Spoken.{spoken_short}
use Rattle.calls.specs.Kinds.{Ring, Progress, Record, Reading, Header}
use Rattle.std.specs.Prelude.{Some, None}
use Rattle.state.proofs.Progress.{within_room}
use Rattle.area.specs.Map.{area_size, record_at, slot_size, wire_slots, message_size, payload_size, control_size, up_at, down_at, hand_at, endpoint_at, asking_at, hearing_at}
use Rattle.area.specs.Ring.{free_at, put_into}
use Rattle.area.specs.Movers.{zeros, puts_all}
use Rattle.area.specs.Runs.{run_area}
use Rattle.area.proofs.Moves.{length_zeros, segment_short}
use Rattle.config.specs.Table.{config_size}
use Rattle.config.specs.Stored.{defaults}
use Rattle.record.specs.Layout.{config_at, config_octets, configured}
use Rattle.record.specs.Reading.{decode_of}
use Rattle.record.specs.Writing.{encode_of}
use Rattle.record.specs.Judge.{judge_of}
use Rattle.record.specs.Claims.{saved}
use Rattle.record.proofs.Claims.{decoded_shape}
use Rattle.record.proofs.Writing.{length_encode}
use Rattle.views.specs.View.{view, view_of}
use Rattle.model.specs.Effects.{Call, fresh, power, command, send, push, down, consume, credit, air, reply, up, report, Result, taken, refused}
use Rattle.model.specs.Refusals.{Rule, first, no_conn}
use Rattle.model.specs.Bench.{rules}
use Rattle.model.specs.Reachable.{Each}
use Rattle.model.specs.calls.Consume.{is_loop}
use Rattle.model.specs.calls.Report.{report_of}
use Rattle.model.proofs.Needs.{need}
use Rattle.calls.specs.Word.{word_of, number_of, answer_in, length_in}
use Rattle.calls.specs.Outcome.{Outcome, outcome, tells, decided, entry_rules, called}
use Rattle.calls.specs.calls.Fresh.{room_rules, fresh_call}
use Rattle.calls.specs.calls.Power.{power_call}
use Rattle.calls.specs.calls.Command.{command_call}
use Rattle.calls.specs.calls.Send.{send_call}
use Rattle.calls.specs.calls.Push.{host_side, pushed_segment, pushed_packet, pushed, push_call}
use Rattle.calls.specs.calls.Down.{took_down, down_slot, down_read, asked_run, asked_record, asked_area, stored_slot, command_in, answered_area, data_down, command_down, arrived, down_call}
use Rattle.calls.specs.calls.Consume.{oldest_at, oldest, oldest_read, controller_side, joined_by, echoed_credits, echoed_slot, consumed_by, consume_call}
use Rattle.calls.specs.calls.Credit.{credit_call}
use Rattle.calls.specs.calls.Reply.{endpoint_hand, replied_segment, replied_packet, replied, reply_call}
use Rattle.calls.specs.calls.Up.{up_read, received_join, received_length, received_up, coming_up, read_up, up_call}
use Rattle.calls.specs.calls.Air.{speaks, aired, air_call}
use Rattle.calls.specs.calls.Report.{reported, report_call}
use Rattle.calls.specs.Demand.{perform}
use Rattle.calls.specs.Kept.{Within, RefusalsKeep, NothingPast}
use Rattle.calls.proofs.Rules.{small, numbered, refused_small, or_else, first_append}
use Rattle.calls.proofs.Called.{sound_area}
use Rattle.calls.proofs.Words.{word_answer, word_handed, word_length, told_answer, told_handed, told_length}
use Rattle.calls.proofs.Refine.{refusal_answer}
use Rattle.calls.proofs.Push.{push_tests_law, push_facts}
use Rattle.calls.proofs.DownConfig.{config_few, verdict_whole, answers_fit}
use Rattle.calls.proofs.DownCommand.{command_short}

-- ---- areas: b is a with parts before 36,864 written over

pub record Reaches (a b : Octets) : Type 0 where
  pub size : length b ≡ length a
  pub beyond : drop area_size b ≡ drop area_size a

reach_none : (a : Octets) → Reaches a a
reach_none a = record { size = refl; beyond = refl }

reach_splice : {a b : Octets} → Reaches a b → (at : ℕ) (v : Octets) → at + length v ≤ area_size → Reaches a (splice b at v)
reach_splice {a} {b} w at v h = record { size = length_splice b at v ∙ w.size; beyond = drop_splice b at v area_size h ∙ w.beyond }

reach_run : {a b : Octets} → Reaches a b → (limit base : ℕ) (p : Progress) (v : Octets) → base + limit ≤ area_size → Reaches a (run_area limit base b p v)
unfolding run_area
reach_run {a} {b} w limit base p v h =
    on (Reaches a) (within limit p (length v)) (λ e. reach_splice w (base + p.len) v (omega (arith, within_room limit p (length v) e))) (λ _. w)

-- packets in the slots of a wire
reach_puts : (base : ℕ) → base ≤ up_at → (ps : List Octets) → Each (λ p. length p ≤ slot_size) ps → (a b : Octets) → Reaches a b → (k : Ring) → Reaches a (puts_all base b k ps)
unfolding puts_all
reach_puts base h [] few a b w k = w
reach_puts base h (p ∷ ps) few a b w k =
    reach_puts base h ps few.1 a (splice b (free_at base wire_slots k) p) (reach_splice w (free_at base wire_slots k) p (omega (arith, few.0))) (put_into k)

-- every parameter at its default
reach_defaults : {a b : Octets} → Reaches a b → Reaches a (configured b defaults)
reach_defaults w = reach_splice w config_at defaults (omega arith)

-- ---- the parts that are written

-- the configuration, of an area of any length
config_short : (a : Octets) → length (config_octets a) ≤ config_size
unfolding config_octets
config_short a = cut_short config_at config_size a

place_few : (c : ℕ) → place_of c ≤ 5
unfolding place_of
place_few c =
    let few : ℕ → Type 0 = λ n. n ≤ 5 in
    on few (eqb c 0) (λ _. omega arith)
    (λ _. on few (eqb c 2) (λ _. omega arith)
    (λ _. on few (eqb c 3) (λ _. omega arith)
    (λ _. on few (eqb c 4) (λ _. omega arith) (λ _. on few (eqb c 5) (λ _. omega arith) (λ _. omega arith)))))

-- a segment is no longer than its message
packets_short : (h : Header) (size f : ℕ) (m : Octets) → length m ≤ payload_size → Each (λ p. length p ≤ slot_size) (map (segment_packet h) (segments_within f size m))
unfolding segments_within
packets_short h size zero m few = (omega (arith, length_packet (marked h false) m), tt)
packets_short h size (suc f) m few =
    on (λ (xs : List Segment). Each (λ p. length p ≤ slot_size) (map (segment_packet h) xs)) (ltb size (length m))
    (λ _. (
      omega (arith, length_packet (marked h true) (take size m), length-take size m),
      packets_short h size f (drop size m) (omega (arith, length-drop size m)),
    ))
    (λ _. (omega (arith, length_packet (marked h false) m), tt))

segment_inside : (size : ℕ) (m : Octets) (at : ℕ) → length (body (segment_at size m at)) ≤ length m
unfolding cut
segment_inside size m at =
    let part : length (take size (drop at m)) ≤ length m = simp (length-take, length-drop) (omega arith) in
    omega (arith, ap length (body_segment (ltb (at + size) (length m)) (cut at size m)), part)

-- ---- a call that is taken

pub record Leaves (a out : Octets) (o : Outcome) : Type 0 where
  pub answers : answer_in o.word ≡ taken
  pub inside : Within a out o

-- it hands out no message
quiet : {a b : Octets} (out : Octets) (d : Bool) (m n : ℕ) (r : Record) → Reaches a b → Leaves a out (outcome (word_of d false 0 m n) (saved b r) out)
quiet {a} {b} out d m n r w =
    let s = reach_splice w record_at (encode_of r) (omega (arith, length_encode r)) in
    record {
      answers = word_answer d false 0 m n;
      inside =
          record {
            size = s.size;
            beyond = s.beyond;
            room = refl;
            rest = refl;
            unhanded = λ _. refl;
            most = omega (arith, word_length d false 0 m n (omega arith));
          };
    }

-- or the message m where h holds, of at most len octets
handing : {a b : Octets} (out : Octets) (d h : Bool) (len n : ℕ) (r : Record) (m : Octets) → (h ≡ true → len ≤ message_size) → length m ≤ len → Reaches a b
    → Leaves a out (outcome (word_of d h (pick h len 0) 0 n) (saved b r) (pick h (splice out 0 m) out))
handing {a} {b} out d true len n r m most few w =
    let s = reach_splice w record_at (encode_of r) (omega (arith, length_encode r)) in
    let long : length_in (word_of d true len 0 n) ≡ len = word_length d true len 0 n (omega (arith, most refl)) in
    record {
      answers = word_answer d true len 0 n;
      inside =
          record {
            size = s.size;
            beyond = s.beyond;
            room = length_splice out 0 m;
            rest = drop_splice out 0 m (length_in (word_of d true len 0 n)) (omega (arith, long));
            unhanded = λ e. absurd (false≢true (sym e ∙ word_handed d true len 0 n));
            most = omega (arith, long, most refl);
          };
    }
handing out d false len n r m most few w = quiet out d 0 n r w

-- the word with reserved bits says the same of a message
telling : {a out : Octets} (n : ℕ) {o : Outcome} → Leaves a out o → Leaves a out (tells n o)
telling {a} {out} n {o} l =
    let i = l.inside in
    let long = told_length n o.word in
    record {
      answers = told_answer n o.word ∙ l.answers;
      inside =
          record {
            size = i.size;
            beyond = i.beyond;
            room = i.room;
            rest = (λ j. drop (long j) o.out) ∙ i.rest ∙ (λ j. drop (sym long j) out);
            unhanded = λ e. i.unhanded (sym (told_handed n o.word) ∙ e);
            most = omega (arith, long, i.most);
          };
    }

-- ---- by call

pub down_leaves : (t : Record) (slot : ℕ) (x : Reading) (a out : Octets) → Leaves a out (arrived t slot x a out)
unfolding arrived data_down command_down
down_leaves t slot (Some (h, n)) a out =
    on (Leaves a out) (eqb h.mt 0)
    (λ _. on (Leaves a out) (open_at t.ends.conns h.id) (λ _. quiet out _ _ _ _ stored) (λ _. quiet out _ _ _ _ (reach_none a)))
    (λ _.
    on (Leaves a out) (eqb h.mt 1)
    (λ _. on (Leaves a out) (asked_run t h n).done (λ e. quiet out _ _ _ _ (answers e)) (λ _. quiet out _ _ _ _ joins))
    (λ _. quiet out _ _ _ _ (reach_none a)))
  where
    stored : Reaches a (stored_slot t slot h.id a)
    stored = reach_splice (reach_none a) _ _ (omega (arith, place_few h.id, cut_short slot slot_size a))

    x : Octets
    x = asked_area t slot h n a

    m : Octets
    m = command_in ((asked_run t h n).base + n) x

    v : Judgement
    v = verdict_of (asked_record t h n).ends h.id h.oid m

    joins : Reaches a (asked_area t slot h n a)
    joins = reach_run (reach_none a) control_size asking_at _ _ (omega arith)

    answers : (asked_run t h n).done ≡ true → Reaches a (answered_area (asked_record t h n) h (config_octets x) m v x)
    answers e =
        reach_splice
        (reach_puts up_at (omega arith) _
        (answers_fit h.id h.oid t.ends.profile (config_octets x) m v (verdict_whole (asked_record t h n).ends h.id h.oid m (command_short t h n e x))) a _ joins _)
        config_at (config_by (config_octets x) m v) (omega (arith, config_few (config_octets x) m v (config_short x)))
down_leaves t slot None a out = quiet out _ _ _ _ (reach_none a)

pub consume_leaves : (r : Record) (c : ℕ) (x : Reading) (a out : Octets) → Leaves a out (consumed_by r c x a out)
consume_leaves r c x a out = go x
  where
    echo : {b : Octets} → Reaches a b → Reaches a (echoed_slot r c b)
    echo {b} w =
        on (Reaches a) (is_loop c)
        (λ _. reach_splice w _ _ (omega (arith, length_carrying (echoed_credits r c) (oldest r c b), cut_short (oldest_at r c) slot_size b)))
        (λ _. w)

    go : (x : Reading) → Leaves a out (consumed_by r c x a out)
    go (Some (h, n)) =
        handing out _ (joined_by r c (Some (h, n))).done ((controller_side r c).run.len + n) _ _ _
        (done_room message_size (controller_side r c).run h.pbf n) (cut_short _ _ _)
        (echo (reach_run (reach_none a) message_size _ _ _ (omega (arith, place_few c))))
    go None = quiet out _ _ _ _ (echo (reach_none a))

pub up_leaves : (r : Record) (x : Reading) (a out : Octets) → Leaves a out (read_up r x a out)
unfolding coming_up received_up
up_leaves r (Some (h, n)) a out =
    on (Leaves a out) (eqb h.mt 0)
    (λ _.
    on (Leaves a out) (host_side r h.id).opened
    (λ _.
    handing out _ (received_join r h n).done (received_length r h n) 0 _ _ (done_room message_size (host_side r h.id).run h.pbf n) (cut_short _ _ _)
    (reach_run (reach_none a) message_size _ _ _ (omega (arith, place_few h.id))))
    (λ _. quiet out _ _ _ _ (reach_none a)))
    (λ _.
    on (Leaves a out) (eqb h.mt 1) (λ _. quiet out _ _ _ _ (reach_none a))
    (λ _. quiet out _ _ _ _ (reach_run (reach_none a) control_size hearing_at _ _ (omega arith))))
up_leaves r None a out = quiet out _ _ _ _ (reach_none a)

push_leaves : (r : Record) (c : ℕ) (a out : Octets) → (host_side r c).hand.len ≤ message_size → Leaves a out (pushed r c a out)
push_leaves r c a out few =
    let message : Octets = cut (hand_at (place_of c)) (host_side r c).hand.len a in
    quiet out _ _ _ _
    (reach_splice (reach_none a) (free_at down_at wire_slots r.down) (pushed_packet r c a)
    (omega (
      arith,
      length_packet (marked (data_header c 0) (flag (pushed_segment r c a))) (body (pushed_segment r c a)),
      segment_inside (host_side r c).payload message (host_side r c).hand.at,
      cut_short (hand_at (place_of c)) (host_side r c).hand.len a,
    )))

reply_leaves : (r : Record) (a out : Octets) → Leaves a out (replied r a out)
reply_leaves r a out =
    let segment : Segment = replied_segment r a in
    quiet out _ _ _ _
    (reach_splice (reach_none a) (free_at up_at wire_slots r.up) (replied_packet r a)
    (omega (
      arith,
      length_packet (marked (data_header 0 (carried_by (controller_side r 0))) (flag segment)) (body segment),
      segment_short payload_size (cut endpoint_at (endpoint_hand r).len a) (endpoint_hand r).at,
    )))

report_leaves : (r : Record) (c : ℕ) (a out : Octets) → Leaves a out (reported r c a out)
report_leaves r c a out =
    let long : length_in (word_of false true 5 0 0) ≡ 5 = word_length false true 5 0 0 (omega arith) in
    record {
      answers = word_answer false true 5 0 0;
      inside =
          record {
            size = refl;
            beyond = refl;
            room = length_splice out 0 (report_of c (view a r));
            rest = drop_splice out 0 (report_of c (view a r)) (length_in (word_of false true 5 0 0)) (omega (arith, long));
            unhanded = λ e. absurd (false≢true (sym e ∙ word_handed false true 5 0 0));
            most = omega (arith, long);
          };
    }

air_leaves : (r : Record) (m a out : Octets) → Leaves a out (aired r m a out)
air_leaves r m a out =
    quiet out _ _ _ _
    (on (Reaches a) (speaks m) (λ k. reach_splice (reach_none a) endpoint_at (drop 1 m) (omega (arith, spoken_short m k)))
    (λ _. reach_splice (reach_none a) _ _ (omega (arith, length_packet (control_header 3 message.gid message.oid) message.payload, message_short r.ends.profile m))))
  where
    message : Message
    message = air_message r.ends.profile (event_of m) m

-- ---- a call that is taken or refused

-- what holds of the effect of a call and of every refusal's number holds of the call
pub decided_by : (P : Outcome → Type 0) (rs : List Rule) (o : Outcome) (a out : Octets) → numbered rs ≡ true → (first rs ≡ taken → P o)
    → ((n : ℕ) → small n ≡ true → P (outcome n a out)) → P (decided (first rs) o a out)
decided_by P rs o a out w p q = go (first rs) refl
  where
    go : (x : Result) → first rs ≡ x → P (decided x o a out)
    go taken e = p e
    go (refused n) e = q n (refused_small rs n w e)

pub called_by : (P : Outcome → Type 0) (rs : List Rule) (o : Outcome) (a out : Octets) → numbered rs ≡ true
    → (first (entry_rules a (length out) ++ rs) ≡ taken → P o) → ((n : ℕ) → small n ≡ true → P (outcome n a out)) → P (called rs o a out)
unfolding called
called_by P rs o a out w p q = decided_by P (entry_rules a (length out) ++ rs) o a out w p q

-- a refusal's word is below 256, so it says nothing of a message
pub below : (n : ℕ) → small n ≡ true → n < 256
below n s = ltb-true n 256 (and_right (ltb 0 n) (ltb n 256) s)

pub taken_refused : {n : ℕ} → taken ≡ refused n → ⊥
taken_refused z = let y : ◌≡◌ {A = ℕ} 0 1 = cc in omega arith

-- where none of all applies, none of the call's own does
own_taken : (es rs : List Rule) → first (es ++ rs) ≡ taken → first rs ≡ taken
own_taken es rs t = go (first es) (sym (first_append es rs) ∙ t)
  where
    go : (x : Result) → or_else x (first rs) ≡ taken → first rs ≡ taken
    go taken e = e
    go (refused n) e = absurd (taken_refused (sym e))

pub record Keeps (a out : Octets) (o : Outcome) : Type 0 where
  pub inside : Within a out o
  pub refusal : (n : ℕ) → answer_in o.word ≡ refused n → o ≡ outcome n a out

abbrev pub is_fresh : Call → Bool
is_fresh (fresh m) = true
is_fresh power = false
is_fresh (command gid oid m) = false
is_fresh (send c m) = false
is_fresh (push c) = false
is_fresh down = false
is_fresh (consume c) = false
is_fresh credit = false
is_fresh (air m) = false
is_fresh reply = false
is_fresh up = false
is_fresh (report c) = false

refused_keeps : (a out : Octets) (n : ℕ) → small n ≡ true → Keeps a out (outcome n a out)
unfolding length_in
refused_keeps a out n s =
    record {
      inside = record { size = refl; beyond = refl; room = refl; rest = refl; unhanded = λ _. refl; most = omega (arith, below n s) };
      refusal = λ m e. λ i. outcome (ap number_of (sym (refusal_answer n s) ∙ e) i) a out;
    }

taken_keeps : (a out : Octets) (o : Outcome) → Leaves a out o → Keeps a out o
taken_keeps a out o l =
    record { inside = l.inside; refusal = λ n e. absurd (taken_refused (sym l.answers ∙ e)) }

module _ (rs : List Rule) (o : Outcome) (a out : Octets) where
  pub called_keeps : numbered rs ≡ true → (first (entry_rules a (length out) ++ rs) ≡ taken → Leaves a out o) → Keeps a out (called rs o a out)
  called_keeps w l = called_by (Keeps a out) rs o a out w (λ t. taken_keeps a out o (l t)) (refused_keeps a out)

perform_keeps : (c : Call) (a out : Octets) → Keeps a out (perform c a out)
unfolding fresh_call power_call command_call send_call push_call down_call consume_call credit_call air_call reply_call up_call report_call segments
perform_keeps (fresh m) a out =
    decided_by (Keeps a out) (room_rules (length a) (length out) ++ rules (fresh m) (view_of a)) _ a out refl
    (λ _. taken_keeps a out _ (quiet out _ _ _ _ (reach_defaults (reach_splice (reach_none a) 0 (zeros area_size) (omega (arith, length_zeros area_size)))))) (refused_keeps a out)
perform_keeps power a out = called_keeps (rules power (view_of a)) _ a out refl (λ _. quiet out _ _ _ _ (reach_defaults (reach_none a)))
perform_keeps (command gid oid m) a out =
    called_keeps _ _ a out refl
    (λ t.
    let three = need 3 (entry_rules a (length out) ++ rules (command gid oid m) (view_of a)) t in
    let few : length m ≤ payload_size = ltb-false 255 (length m) (or_right (ltb 15 gid || ltb 63 oid) (ltb 255 (length m)) three) in
    quiet out _ _ _ _ (reach_puts down_at (omega arith) _ (packets_short (control_header 1 gid oid) (decode_of a).ends.host.size (length m) m few) a a (reach_none a) (decode_of a).down))
perform_keeps (send c m) a out =
    called_keeps _ _ a out refl
    (λ t.
    let three = need 3 (entry_rules a (length out) ++ rules (send c m) (view_of a)) t in
    let few : length m ≤ message_size = ltb-false 1024 (length m) (or_right (no_conn c) (ltb 1024 (length m)) three) in
    quiet out _ _ _ _ (reach_splice (reach_none a) (hand_at (place_of c)) m (omega (arith, place_few c))))
perform_keeps (push c) a out =
    called_keeps _ _ a out refl
    (λ t.
    let all = entry_rules a (length out) ++ rules (push c) (view_of a) in
    let s = sound_area a (ltb-false (length a) area_size (need 2 all t)) (not-false (judge_of a) (need 1 all t)) in
    push_leaves (decode_of a) c a out (push_facts (decode_of a) c s.fit (ap first (sym (push_tests_law a (decode_of a) c)) ∙ own_taken (entry_rules a (length out)) (rules (push c) (view_of a)) t)).hand.len)
perform_keeps down a out = called_keeps _ _ a out refl (λ _. telling _ (down_leaves (took_down (decode_of a)) (down_slot (decode_of a)) (down_read (decode_of a) a) a out))
perform_keeps (consume c) a out = called_keeps _ _ a out refl (λ _. consume_leaves (decode_of a) c (oldest_read (decode_of a) c a) a out)
perform_keeps credit a out =
    called_keeps _ _ a out refl
    (λ _.
    quiet out _ _ _ _
    (reach_splice (reach_none a) _ _
    (omega (arith, length_packet (control_header 3 0 6) (credits_message (decode_of a).ends.conns).payload, credits_short (decode_of a).ends.conns (decoded_shape a).conns))))
perform_keeps (air m) a out = called_keeps _ _ a out refl (λ _. air_leaves (decode_of a) m a out)
perform_keeps reply a out = called_keeps _ _ a out refl (λ _. reply_leaves (decode_of a) a out)
perform_keeps up a out = called_keeps _ _ a out refl (λ _. telling _ (up_leaves (decode_of a) (up_read (decode_of a) a) a out))
perform_keeps (report c) a out = called_keeps _ _ a out refl (λ _. report_leaves (decode_of a) c a out)

-- ---- what is taken

-- any call but fresh is taken only on an area that is long enough, with a record that row 1 lets pass
module _ (rs : List Rule) (o : Outcome) (a out : Octets) where
  called_entered : numbered rs ≡ true → answer_in (called rs o a out).word ≡ taken → (area_size ≤ length a) × (judge_of a ≡ true)
  called_entered w =
      called_by (λ (x : Outcome). answer_in x.word ≡ taken → (area_size ≤ length a) × (judge_of a ≡ true)) rs o a out w
      (λ t _.
      let all = entry_rules a (length out) ++ rs in
      (ltb-false (length a) area_size (need 2 all t), not-false (judge_of a) (need 1 all t)))
      (λ n s e. absurd (taken_refused (sym e ∙ refusal_answer n s)))

pub entered_if_taken : (c : Call) (a out : Octets) → is_fresh c ≡ false → answer_in (perform c a out).word ≡ taken → (area_size ≤ length a) × (judge_of a ≡ true)
unfolding power_call command_call send_call push_call down_call consume_call credit_call air_call reply_call up_call report_call
entered_if_taken (fresh m) a out f e = absurd (false≢true (sym f))
entered_if_taken power a out f e = called_entered _ _ a out refl e
entered_if_taken (command gid oid m) a out f e = called_entered _ _ a out refl e
entered_if_taken (send c m) a out f e = called_entered _ _ a out refl e
entered_if_taken (push c) a out f e = called_entered _ _ a out refl e
entered_if_taken down a out f e = called_entered _ _ a out refl e
entered_if_taken (consume c) a out f e = called_entered _ _ a out refl e
entered_if_taken credit a out f e = called_entered _ _ a out refl e
entered_if_taken (air m) a out f e = called_entered _ _ a out refl e
entered_if_taken reply a out f e = called_entered _ _ a out refl e
entered_if_taken up a out f e = called_entered _ _ a out refl e
entered_if_taken (report c) a out f e = called_entered _ _ a out refl e

-- ---- the statements

pub refusals_keep : RefusalsKeep
refusals_keep k a n e = (perform_keeps k.call a k.out).refusal n e

pub nothing_past : NothingPast
nothing_past k a = (perform_keeps k.call a k.out).inside
