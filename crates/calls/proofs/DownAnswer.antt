-- A whole command is answered on octets as in the model: the verdict, the two ends after it, and the packets that go up.
-- Assumes nothing.
use Rattle.std.specs.Prelude.{Option, Some, None, IfSome}
use Prim.Native.Nat.{ℕ, ◌+◌, ◌≤◌}
use native.Mathlib.Omega.{arith}
use mathlib.Core.Path.{◌≡◌, refl, sym, ap, ◌∙◌, subst}
use mathlib.Core.Bool.{Bool, true, false}
use mathlib.Core.List.{List, [], ◌∷◌, ◌++◌}
use lib.ListN.{length, length-take}
use lib.Dec.{eqb}
use Rattle.std.specs.Prelude.{Ok}
use Rattle.octets.specs.Octets.{Octets, cut, pick}
use Rattle.octets.specs.Octal.{Octal}
use Rattle.octets.proofs.Octets.{cut_same}
use Rattle.packets.specs.Packet.{packet_of}
use Rattle.packets.specs.Headers.{control_header}
use Rattle.calls.specs.Kinds.{Header, Ends, Record, Note, Answered}
use Rattle.calls.specs.Kinds.verdict as verdict
use Rattle.state.specs.Judgement.{Judgement}
use Rattle.state.specs.Runs.{control_limit}
use Rattle.state.proofs.Chains.{on}
use Rattle.nfcc.specs.Controller.{config_by}
use Rattle.messages.specs.Layout.{Message, Put, MayPut, response_of, response_message, notice_message}
use Rattle.messages.specs.Packets.{response_packet, notice_packet, notice_packets}
use Rattle.messages.proofs.Lengths.{response_short, notice_short}
use Rattle.messages.proofs.Small.{response_octal, notice_octal}
use Rattle.ends.specs.Steps.{verdict_of, decided, Answers}
use Rattle.area.specs.Map.{area_size, wire_slots, control_size, up_at}
use Rattle.area.specs.Movers.{puts_all}
use Rattle.config.specs.Table.{config_size}
use Rattle.config.specs.Commands.{count_in, param_at}
use Rattle.record.specs.Layout.{config_octets, configured}
use Rattle.record.specs.Claims.{saved}
use Rattle.record.specs.Fit.{Shape, Fit}
use Rattle.record.specs.Small.{Small}
use Rattle.record.proofs.Configured.{length_config, configured_length, configured_octal}
use Rattle.record.proofs.Small.{profile_control}
use Rattle.views.specs.View.{up_of, view}
use Rattle.views.specs.Moves.{Sound}
use Rattle.area.proofs.Puts.{length_puts}
use Rattle.views.proofs.Whole.{moves}
use Rattle.views.proofs.Answers.{Each, puts_up_law, puts_octal}
use Rattle.model.specs.State as bench
use Rattle.model.specs.Effects.{Effect, down, taken}
use Rattle.model.specs.calls.Down.{answers, deciding}
use Rattle.calls.specs.Word.{word_of}
use Rattle.calls.specs.Outcome.{outcome, ComesTo}
use Rattle.calls.specs.Seen.{Puts}
use Rattle.calls.specs.Refines.{Follows, RefinesTo}
use Rattle.calls.specs.calls.Down.{note_packet, note_packets, answers_to, answered_record, answered_area, answered, more_up}
use Rattle.calls.proofs.Taken.{added_none, took_refines}
use Rattle.calls.proofs.DownConfig.{config_long, config_octal, octal_config, verdict_whole, answers_fit, puts_config}
use Rattle.calls.proofs.DownVerdict.{verdict_small, decided_shape, decided_fit, decided_small, decided_sound, decided_view}

-- ---- messages as packets

-- a message that was written over the front of a buffer with room for it goes as the packet that it is
pub note_packet_law : (mt : ℕ) (out after : Octets) (m : Message) (note : Note) → Put out m note after → length m.payload ≤ length out
    → note_packet mt note after ≡ packet_of (control_header mt m.gid m.oid) m.payload
note_packet_law mt out after m note p room =
    (λ i. note_packet mt (p.head i) (p.octets i))
    ∙ ap (packet_of (control_header mt m.gid m.oid)) (cut_same out 0 m.payload (omega arith))

pub note_length : (out after : Octets) (m : Message) (note : Note) → Put out m note after → note.len ≡ length m.payload
note_length out after m note p = ap (λ (x : Note). x.len) p.head

-- what is noted of a short message is short, and its part of the buffer too
pub cut_few : (at n : ℕ) (l : Octets) → length (cut at n l) ≤ n
unfolding cut
cut_few at n l = simp length-take (omega arith)

-- the answer: the response, and the notification after it where there is one
pub note_packets_law : (out after out' after' : Octets) (m m' : Message) (note : Note) (note' : Option Note) → Put out m note after → MayPut out' m' note' after'
    → length m.payload ≤ length out → length m'.payload ≤ length out'
    → note_packets note after note' after' ≡ response_packet m ∷ notice_packets m'
unfolding note_packets
note_packets_law out after out' after' m m' note note' p q room room' =
    (λ i. note_packets note after (q.head i) after') ∙ go (eqb (length m'.payload) 0)
  where
    said : Note
    said = record { gid = m'.gid; oid = m'.oid; len = length m'.payload }

    go : (b : Bool) → note_packets note after (pick b None (Some said)) after' ≡ response_packet m ∷ pick b [] (notice_packet m' ∷ [])
    go true i = note_packet_law 2 out after m note p room i ∷ []
    go false i =
        note_packet_law 2 out after m note p room i
        ∷ note_packet_law 3 out' after' m' said (record { head = refl; octets = q.octets }) room' i ∷ []

pub notes_few : (response : Note) (notice : Option Note) (rsp ntf : Octets) → length (note_packets response rsp notice ntf) ≤ 2
unfolding note_packets
notes_few response None rsp ntf = omega arith
notes_few response (Some notice) rsp ntf = omega arith

-- what is noted of a message is no longer than the message
abbrev NoteFits : Option Note → Type 0
NoteFits note = IfSome note (λ n. n.len ≤ control_size)

noted_short : (out after : Octets) (m : Message) (note : Option Note) → MayPut out m note after → length m.payload ≤ control_size → NoteFits note
noted_short out after m said p short =
    subst NoteFits (sym p.head) (on NoteFits (eqb (length m.payload) 0) (λ _. tt) (λ _. short))

-- both messages have room in a slot, the command m being short enough for one
pub answers_short : (e : Ends) (gid oid : ℕ) (b m : Octets) (r : Answered) (rsp ntf rsp' ntf' : Octets) → length m ≤ control_size
    → Answers e gid oid b m (decided e gid oid m) r rsp ntf rsp' ntf'
    → (r.response.len ≤ control_size) × IfSome r.notice (λ n. n.len ≤ control_size)
answers_short e gid oid b m r rsp ntf rsp' ntf' few w =
    let v : Judgement = verdict_of e gid oid m in (
      omega (arith, note_length rsp rsp' (response_message gid oid e.profile b m v) r.response w.response, response_short e.profile b m v (verdict_whole e gid oid m few)),
      noted_short ntf ntf' (notice_message v) r.notice w.notice (omega (arith, notice_short v)),
    )

-- what is answered to a command, noted, put up and written with the configuration and the record, is the answer to it: n packets, in two buffers of room
-- for any message. m' is the command in a local array, b the configuration before it; x is the area with the packets, y with the configuration too, and c
-- with the record
pub answer_made : (t : Record) (h : Header) (m m' a b x y c : Octets) (r : Answered) (rsp ntf rsp' ntf' : Octets) (n w : ℕ)
    → m' ≡ m → length m ≤ control_size → b ≡ config_octets a
    → Answers t.ends h.id h.oid b m' (decided t.ends h.id h.oid m') r rsp ntf rsp' ntf'
    → length rsp ≡ control_size → length ntf ≡ control_size
    → n ≡ length (note_packets r.response rsp' r.notice ntf')
    → x ≡ puts_all up_at a t.up (note_packets r.response rsp' r.notice ntf')
    → y ≡ configured x (config_by (config_octets x) m' r.decision.verdict)
    → c ≡ saved y (record { ends = r.decision.next; down = t.down; up = more_up n t.up })
    → w ≡ word_of false false 0 0 n
    → ComesTo w c (answered t h m a)
answer_made t h m m' a b x y c r rsp ntf rsp' ntf' n w same few stored made lr ln many put configures after puts =
    let old : Octets = config_octets a in
    let asks : Octets → Octets → Type 0 = λ l k. Answers t.ends h.id h.oid l k (decided t.ends h.id h.oid k) r rsp ntf rsp' ntf' in
    let told : asks old m = subst (λ (l : Octets). asks l m) stored (subst (asks b) same made) in
    let v : Judgement = verdict_of t.ends h.id h.oid m in
    let whole = verdict_whole t.ends h.id h.oid m few in
    let response : Message = response_message h.id h.oid t.ends.profile old m v in
    let ps : note_packets r.response rsp' r.notice ntf' ≡ answers_to t h old m v =
    note_packets_law rsp rsp' ntf ntf' response (notice_message v) r.response r.notice told.response told.notice
    (omega (arith, response_short t.ends.profile old m v whole)) (omega (arith, notice_short v))
    in
    let count : n ≡ length (answers_to t h old m v) = many ∙ ap length ps in
    let word : w ≡ word_of false false 0 0 (length (answers_to t h old m v)) = puts ∙ ap (word_of false false 0 0) count in
    let up : x ≡ puts_all up_at a t.up (answers_to t h old m v) = put ∙ ap (puts_all up_at a t.up) ps in
    let kept : config_octets x ≡ old = ap config_octets up ∙ puts_config (answers_to t h old m v) (answers_fit h.id h.oid t.ends.profile old m v whole) a t.up in
    let set : y ≡ answered_area t h old m v a = configures ∙ (λ i. configured (up i) (config_by (kept i) (same i) (told.decision i).verdict)) in
    let area : c ≡ saved (answered_area t h old m v a) (answered_record t h old m v) =
    after ∙ (λ i. saved (set i) (record { ends = (told.decision i).next; down = t.down; up = more_up (count i) t.up }))
    in
    λ out i. outcome (word i) (area i) out

-- at most two, each of octets and short enough for a slot
answers_few : (gid oid : ℕ) (t : Record) (b m : Octets) (v : Judgement) → length (answers gid oid t.ends.profile b m v) ≤ 2
answers_few gid oid t b m v =
    on (λ (l : List Octets). length (response_packet (response_message gid oid t.ends.profile b m v) ∷ l) ≤ 2) (eqb (length (notice_message v).payload) 0) (λ _. omega arith) (λ _. omega arith)

-- ---- the command is answered

module _ (a out : Octets) (t : Record) (s : Sound a t) (small : Small t) (o : Octal a) (h : Header) (m : Octets) (om : Octal m) (fits : length m ≤ control_size) (two : t.up.count + 2 ≤ wire_slots) where
  abbrev v : Judgement
  v = verdict_of t.ends h.id h.oid m

  -- the configuration before the command, and after it
  abbrev b : Octets
  b = config_octets a

  abbrev set : Octets
  set = config_by b m v

  abbrev ps : List Octets
  ps = answers_to t h b m v

  -- the area with the packets
  abbrev x : Octets
  x = puts_all up_at a t.up ps

  few : length ps ≤ 2
  few = answers_few h.id h.oid t b m v

  whole : v ≡ Ok verdict.SetsConfig → param_at m (count_in m) ≤ control_limit
  whole = verdict_whole t.ends h.id h.oid m fits

  b_long : length b ≡ config_size
  b_long = length_config a s.room

  writes : Each ps
  writes =
      let w = verdict_small a t s small h.id h.oid m om in (
        record {
          header = control_header 2 h.id h.oid;
          payload = response_of t.ends.profile b m v;
          is = refl;
          short = response_short t.ends.profile b m v whole;
          octal = response_octal t.ends.profile b m v b_long (octal_config o) om whole (profile_control t.ends.profile small.own.profile) w;
        },
        on Each (eqb (length (notice_message v).payload) 0) (λ _. tt)
            (λ _. (
              record {
                header = control_header 3 (notice_message v).gid (notice_message v).oid;
                payload = (notice_message v).payload;
                is = refl;
                short = notice_short v;
                octal = notice_octal v w;
              },
              tt,
            )),
      )

  next_fit : Fit (answered_record t h b m v)
  next_fit =
      let f = decided_fit a t s small h.id h.oid m om in
      record { down = f.down; up = record { head = f.up.head; count = omega (arith, few, two) }; own = f.own; conns = f.conns }

  next_shape : Shape (answered_record t h b m v)
  next_shape = let f = decided_shape a t s small h.id h.oid m om in record { pairs = f.pairs; conns = f.conns }

  next_small : Small (answered_record t h b m v)
  next_small = let f = decided_small a t s small h.id h.oid m om in record { own = f.own; conns = f.conns }

  abbrev effect : Effect
  effect = deciding h.id h.oid m v (view a t)

  up_long : area_size ≤ length x
  up_long = omega (arith, s.room, length_puts up_at a t.up ps)

  up_sound : Sound x (answered_record t h b m v)
  up_sound = record { room = up_long; fit = next_fit; shape = next_shape }

  next_view : view (answered_area t h b m v a) (answered_record t h b m v) ≡ effect.next
  next_view =
      let d = decided_view a t s small h.id h.oid m om in
      let up = puts_up_law ps a _ (decided_sound a t s small h.id h.oid m om) writes (omega (arith, few, two)) in
      (moves x (answered_record t h b m v) up_sound).put_config set (config_long b m v b_long)
      ∙ (λ i. bench.with_config set (up i))
      ∙ (λ i. bench.with_config set (bench.with_up ((d i).up ++ ps) (d i)))

  pub answered_refines : (q : Puts) → Follows q.down t.down → Follows q.up t.up
      → RefinesTo down q (answered t h m a out) (record { answer = taken; effect = effect })
  answered_refines q fd fu =
      took_refines down q (answered_area t h b m v a) out (answered_record t h b m v) false false 0 0 (length ps) effect
      (record {
        long = omega (arith, up_long, configured_length x set);
        fit = next_fit;
        shape = next_shape;
        octal = configured_octal x set (puts_octal ps a t.up writes o) (config_octal b m v (octal_config o) om);
        small = next_small;
        short = omega arith;
        drop = refl;
        rfu = refl;
        message = refl;
        next = next_view;
        to_down = added_none q.down t.down effect.next.down fd;
        to_up = record { follows = omega (arith, fu); before = up_of a t; split = refl; many = refl };
      })
      refl
