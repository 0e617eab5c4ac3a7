-- What a response discards from hand was taken before its command: each call keeps the diary's invariant, and the claim follows from it.
-- Assumes nothing.
use Rattle.std.specs.Prelude.{Option, Some, None}
use Prim.Native.Nat.{ℕ, ◌+◌, ◌<◌}
use native.Mathlib.Omega.{arith}
use mathlib.Core.Path.{◌≡◌, refl, sym, ap, ◌∙◌, subst}
use mathlib.Core.Logic.{◌⊎◌, inl, inr, ◌↔◌}
use mathlib.Core.Bool.{Bool, true, false, ◌&&◌}
use mathlib.Core.List.{List, [], ◌∷◌, head-eq_of_cons-eq, cons≢nil}
use lib.Dec.{eqb}
use lib.ListN.{length, drop}
use borrow.Author.Tests.{not-false}
use Rattle.std.specs.Prelude.{Option, Some, None}
use Rattle.octets.specs.Octets.{Octets, pick}
use Rattle.packets.specs.Segments.{Segment, more, last, segments}
use Rattle.model.specs.Kinds.{Profile, Asked, Heard, Aired}
use Rattle.model.specs.Kinds.heard.{Answered}
use Rattle.model.specs.Kinds.aired.{Goes, Activates, Ends, Speaks}
use Rattle.state.specs.Conn.{flows, terms_of}
use Rattle.state.specs.Profile.{profile_in, profile_octets_ok}
use Rattle.dh.specs.Contents.{written}
use Rattle.dh.specs.Host.{is_closing, host_after}
use Rattle.state.proofs.Chains.{on}
use Rattle.wires.specs.Meaning.{Meaning, datum, control, junk, meaning}
use Rattle.wires.specs.Tally.{says}
use Rattle.ends.specs.Changes.{Change, stays, opens, closes, gives, change_heard}
use Rattle.model.specs.Connection.{HostEnd, Connection, with_host, with_controller, sent, pushed, heard_data, credited, stored, paid, spoken}
use Rattle.model.specs.State.{State, at, cold, is_open, with_down, with_up, with_asking}
use Rattle.model.specs.Effects.{Call, fresh, power, command, send, push, down, consume, credit, air, reply, up, report, Effect, Result, taken, refused}
use Rattle.model.specs.Refusals.{Rule, rule, is_nil, first, no_conn, full, is_held}
use Rattle.model.specs.Runs.{run_after, whole_by, flag_by}
use Rattle.model.specs.Changes.{at_host}
use Rattle.model.specs.calls.Push.{pushing}
use Rattle.model.specs.calls.Down.{answering, arriving, taking_down}
use Rattle.model.specs.calls.Consume.{is_loop, segment_in, echoed, joined_end, consuming}
use Rattle.model.specs.calls.Air.{aired_conns, airing}
use Rattle.model.specs.calls.Reply.{replying}
use Rattle.model.specs.calls.Up.{coming, taking_up}
use Rattle.model.specs.Bench.{rules, act, judged, step}
use Rattle.model.specs.Observer.{Ledger, Event, Account, change_in, event_of, events, after, observe, observed}
use Rattle.model.specs.Discards.{Hand, Diary, nothing, first_page, with_hands, hand_sent, hand_pushed, hand_by, hand_heard, noted, turned, note, diary, diary_of, TakenBefore, DiscardClaim, AllDiscards}
use Rattle.model.specs.invariant.Commands.{Name, named, pending_name, heads, replies}
use Rattle.model.specs.invariant.Bench.{Fine, Kept, SoundIn, account_of}
use Rattle.model.specs.invariant.Hands.{Told, Named, Marked}
use Rattle.model.proofs.Cases.{clash, each}
use Rattle.model.proofs.Needs.{need}
use Rattle.model.proofs.Order.{Only}
use Rattle.model.proofs.Closing.{closing, closed_by, closing_pending}
use Rattle.model.proofs.Fine.{at_keeps}
use Rattle.model.proofs.Up as hearing
use Rattle.model.proofs.Meanings.{hear_notice}
use Rattle.model.proofs.Never.{heard_whole, not_among, answer_first}
use Rattle.model.proofs.Trace.{same_account, reachable, step_keeps}
use Rattle.model.proofs.Always.{Noting, always_noted}

-- ---- one connection

-- what the host reads does the same to both
change_told : (c : Change) {h : HostEnd} {k : Hand} → Told h k → Told (at_host c h) (hand_by c k)
change_told stays t = t
change_told (opens x) t = record { payload = λ e. refl; left = refl }
change_told closes t = record { payload = λ e. refl; left = refl }
change_told (gives n) t = record { payload = t.payload; left = t.left }

-- nothing was taken since: where a message is in hand, it is the one of before
abbrev Older : Hand → Hand → Type 0
Older k' k = 0 < k'.left → (0 < k.left) × (k'.sent_at ≡ k.sent_at)

change_older : (c : Change) (k : Hand) → Older (hand_by c k) k
change_older stays k z = (z, refl)
change_older (opens t) k z = absurd (omega arith)
change_older closes k z = absurd (omega arith)
change_older (gives n) k z = (z, refl)

-- ---- a call that takes nothing in hand

abbrev pub MarkedIn : State → Diary → Type 0
MarkedIn s n = Marked s.host.pending s.conns n

module _ {p p' : Option Asked} {g g' : ℕ → Connection} {n : Diary} (m : Marked p g n) where
  still : (h : ℕ → Hand) → ((d : ℕ) → Told (g' d).host (h d)) → ((d : ℕ) → Older (h d) (n.hand d)) → Named p' n.gid n.oid
      → (is_closing p' ≡ true → is_closing p ≡ true) → Marked p' g' (turned (with_hands h n))
  still h told older latest closing =
      record {
        told = told;
        latest = latest;
        past = λ d z. let o = older d z in omega (arith, o.1, m.past d o.0);
        before = λ e d z. let o = older d z in omega (arith, o.1, m.before (closing e) d o.0);
      }

  -- a call that leaves the host alone
  aside : (p' ≡ p) × ((d : ℕ) → (g' d).host ≡ (g d).host) → Marked p' g' (turned n)
  aside (same, hosts) =
      still n.hand (λ d. subst (λ (h : HostEnd). Told h (n.hand d)) (sym (hosts d)) (m.told d)) (λ d z. (z, refl))
      (subst (λ (q : Option Asked). Named q n.gid n.oid) (sym same) m.latest) (λ e. ap is_closing (sym same) ∙ e)

-- ---- the controller's calls leave the host alone

abbrev Aside : State → Effect → Type 0
Aside s e = (e.next.host.pending ≡ s.host.pending) × ((d : ℕ) → (e.next.conns d).host ≡ (s.conns d).host)

-- one connection changes at the controller
host_kept : (c : ℕ) (f : Connection → Connection) (g : ℕ → Connection) → ((k : Connection) → (f k).host ≡ k.host) → (d : ℕ) → (at c f g d).host ≡ (g d).host
host_kept c f g e = at_keeps c f g (λ k. k.host) e

answering_aside : (gid oid : ℕ) (ms : List Octets) (b : Bool) (s : State) → Aside s (answering gid oid ms b s)
answering_aside gid oid [] b s = (refl, λ d. refl)
answering_aside gid oid (m ∷ ms) b s = (refl, λ d. refl)

arriving_aside : (q : Meaning) (p : Octets) (s : State) → Aside s (arriving q p s)
arriving_aside (datum c n x) p s =
    on (Aside s) (is_open s c)
    (λ e. (refl, host_kept c (λ k. with_controller (stored p k.controller) k) s.conns (λ k. refl)))
    (λ e. (refl, λ d. refl))
arriving_aside (control mt gid oid x) p s =
    on (Aside s) (eqb mt 1)
    (λ e. answering_aside gid oid (whole_by s.asking 1 gid oid x) (flag_by s.asking 1 gid oid x) (with_asking (run_after s.asking 1 gid oid x) s))
    (λ e. (refl, λ d. refl))
arriving_aside junk p s = (refl, λ d. refl)

down_aside : (w : List Octets) (s : State) → Aside s (taking_down w s)
down_aside [] s = (refl, λ d. refl)
down_aside (p ∷ w) s = arriving_aside (meaning p) p (with_down w s)

consume_aside : (c : ℕ) (st : List Octets) (s : State) → Aside s (consuming c st s)
consume_aside c [] s = (refl, λ d. refl)
consume_aside c (p ∷ st) s =
    (refl, host_kept c (λ k. with_controller (echoed (is_loop c) (joined_end (segment_in (meaning p)) st k.controller)) k) s.conns (λ k. refl))

air_hosts : (s : State) (a : Option Aired) (m : Octets) (d : ℕ) → (aired_conns (terms_of s.profile 0) a m s.conns d).host ≡ (s.conns d).host
air_hosts s None m d = refl
air_hosts s (Some (Goes rf l)) m d = refl
air_hosts s (Some (Activates rf l)) m d = refl
air_hosts s (Some (Ends rf)) m d = refl
air_hosts s (Some Speaks) m d = host_kept 0 (λ k. with_controller (spoken (segments 255 (drop 1 m)) k.controller) k) s.conns (λ k. refl) d

reply_aside : (ss : List Segment) (s : State) → Aside s (replying ss s)
reply_aside [] s = (refl, λ d. refl)
reply_aside (x ∷ ss) s = (refl, host_kept 0 (λ k. with_controller (paid (spoken ss k.controller)) k) s.conns (λ k. refl))

-- ---- the host's calls

-- both ends are cold: nothing is in hand
pub cold_marked : (p : Profile) (n : Diary) → MarkedIn (cold p) (with_hands (λ d. nothing) n)
cold_marked p n =
    record { told = λ d. record { payload = λ e. refl; left = refl }; latest = tt; past = λ d z. absurd (omega arith); before = λ e. clash e refl }

module _ (s : State) (n : Diary) (m : MarkedIn s n) where
  command_marked : (gid oid : ℕ) (o : Octets) (a : Account) → MarkedIn (act (command gid oid o) s).next (turned (noted (command gid oid o) a n))
  command_marked gid oid o a =
      record { told = m.told; latest = (refl, refl); past = λ d z. omega (arith, m.past d z); before = λ e d z. m.past d z }

  -- while no RESET and no CONN_CLOSE is unanswered
  send_marked : (c : ℕ) (o : Octets) (a : Account) → first (rules (send c o) s) ≡ taken → MarkedIn (act (send c o) s).next (turned (noted (send c o) a n))
  send_marked c o a t =
      record {
        told =
            each c (λ d b. Told (pick b (with_host (sent o (s.conns d).host) (s.conns d)) (s.conns d)).host (pick b (hand_sent n.calls o (n.hand d)) (n.hand d)))
            (record { payload = (m.told c).payload; left = ap (λ (i : ℕ). length (segments i o)) ((m.told c).payload (not-false _ (need 6 (rules (send c o) s) t))) })
            (λ d. m.told d);
        latest = m.latest;
        past =
            each c (λ d b. 0 < (pick b (hand_sent n.calls o (n.hand d)) (n.hand d)).left → (pick b (hand_sent n.calls o (n.hand d)) (n.hand d)).sent_at < n.calls + 1)
            (λ z. omega arith) (λ d z. omega (arith, m.past d z));
        before = λ e. clash e (need 15 (rules (send c o) s) t);
      }

  push_marked : (c : ℕ) (a : Account) → first (rules (push c) s) ≡ taken → MarkedIn (act (push c) s).next (turned (noted (push c) a n))
  push_marked c a t = go (s.conns c).host.hand refl
    where
      go : (h : List Segment) → (s.conns c).host.hand ≡ h → MarkedIn (pushing c h s).next (turned (noted (push c) a n))
      go [] e = clash (ap is_nil e) (need 8 (rules (push c) s) t)
      go (x ∷ h) e =
          still m (at c hand_pushed n.hand)
          (each c (λ d b. Told (pick b (with_host (pushed h (s.conns d).host) (s.conns d)) (s.conns d)).host (pick b (hand_pushed (n.hand d)) (n.hand d)))
          (record { payload = (m.told c).payload; left = omega (arith, (m.told c).left, ap length e) })
          (λ d. m.told d))
          (each c (λ d b. Older (pick b (hand_pushed (n.hand d)) (n.hand d)) (n.hand d)) (λ z. (omega arith, refl)) (λ d z. (z, refl)))
          m.latest (λ z. z)

-- ---- up

-- where the first packet of the up wire is taken
module _ (s : State) (aim : ℕ) (l : ℕ → Ledger) (p : Octets) (w : List Octets) (f : Fine (with_up (p ∷ w) s) aim l) (n : Diary) (m : MarkedIn s n) where
  -- the diary after a packet of this meaning
  abbrev read : Meaning → Diary
  read q = turned (with_hands (λ d. hand_by (change_in aim d q) (n.hand d)) n)

  -- what the host understood: h, of the contents o, where the packet says so to the diary too
  understood_marked : (q : Meaning) (h : Heard) (o : Octets) → ((d : ℕ) → change_in aim d q ≡ change_heard h o d) → Named (host_after s.host h).pending n.gid n.oid
      → (is_closing (host_after s.host h).pending ≡ true → is_closing s.host.pending ≡ true)
      → Marked (host_after s.host h).pending (λ d. with_host (at_host (change_heard h o d) (s.conns d).host) (s.conns d)) (read q)
  understood_marked q h o same latest closing =
      still m (λ d. hand_by (change_in aim d q) (n.hand d))
      (λ d. subst (λ (c : Change). Told (at_host c (s.conns d).host) (hand_by (change_in aim d q) (n.hand d))) (same d) (change_told (change_in aim d q) (m.told d)))
      (λ d. change_older (change_in aim d q) (n.hand d)) latest closing

  control_marked : (mt gid oid : ℕ) (o : Octets) → meaning p ≡ control mt gid oid (last o) → SoundIn (control mt gid oid (last o))
      → MarkedIn (coming (control mt gid oid (last o)) (with_up w s)).next (read (control mt gid oid (last o)))
  control_marked mt gid oid o means k = go k.0
    where
      Heeded : ℕ → Type 0
      Heeded i = meaning p ≡ control i gid oid (last o) → MarkedIn (coming (control i gid oid (last o)) (with_up w s)).next (read (control i gid oid (last o)))

      -- its command is answered
      response : written 2 gid oid o ≡ true → Heeded 2
      response u e =
          let a = hearing.answer s aim l p w f gid oid o e u in
          let gone = hearing.settles s aim l p w f gid oid o e u s.host a in
          rw (heard_whole s aim l p w f 2 gid oid o k.1, hearing.response_heard s aim l p w f gid oid o e u)
          (understood_marked (control 2 gid oid (last o)) (Answered a) o
          (λ d. ap (λ (h : Heard). change_heard h o d) (hearing.says_answer s aim l p w f gid oid o e u))
          (rw gone tt) (λ z. clash z (ap is_closing gone)))

      -- whatever is unanswered stays so
      notification : Heeded 3
      notification e =
          let same = hearing.said_host s aim l p w f gid oid o e in
          rw (heard_whole s aim l p w f 3 gid oid o k.1, hear_notice s.host.pending aim gid oid o)
          (understood_marked (control 3 gid oid (last o)) (says aim 3 gid oid o) o (λ d. refl) (rw same m.latest) (λ z. rw same at z))

      go : ((mt ≡ 2) × (written 2 gid oid o ≡ true)) ⊎ (mt ≡ 3) → MarkedIn (coming (control mt gid oid (last o)) (with_up w s)).next (read (control mt gid oid (last o)))
      go (inl k) = subst Heeded (sym k.0) (response k.1) means
      go (inr e) = subst Heeded (sym e) notification means

  -- nothing that the diary looks at
  passed_marked : (g : ℕ → Connection) → ((d : ℕ) → Told (g d).host (n.hand d)) → Marked s.host.pending g (turned n)
  passed_marked g told = still m n.hand told (λ d z. (z, refl)) m.latest (λ z. z)

  -- data: its credits are no concern of the diary
  data_marked : (c b : ℕ) (x : Segment) (g : ℕ → Connection) → ((d : ℕ) → Told (g d).host (n.hand d)) → Marked s.host.pending g (read (datum c b x))
  data_marked c b x g told =
      still m (λ d. hand_by (change_in aim d (datum c b x)) (n.hand d)) (λ d. subst (Told (g d).host) (same d) (told d))
      (λ d. change_older (change_in aim d (datum c b x)) (n.hand d)) m.latest (λ z. z)
    where
      same : (d : ℕ) → n.hand d ≡ hand_by (change_in aim d (datum c b x)) (n.hand d)
      same d = elim (eqb c d) as (λ y. n.hand d ≡ hand_by (pick y (gives b) stays) (n.hand d)) [ true ↦ refl | false ↦ refl ]

  coming_marked : (q : Meaning) → meaning p ≡ q → SoundIn q → MarkedIn (coming q (with_up w s)).next (read q)
  coming_marked (datum c b x) means k =
      on (λ (e : Effect). MarkedIn e.next (read (datum c b x))) (is_held s c)
      (λ e.
      data_marked c b x (at c (λ k. with_host (heard_data x (credited b k.host)) k) s.conns)
      (λ d.
      on (λ (k : Connection). Told k.host (n.hand d)) (eqb c d)
      (λ e. record { payload = (m.told d).payload; left = (m.told d).left }) (λ e. m.told d)))
      (λ e. data_marked c b x s.conns m.told)
  coming_marked (control mt gid oid (more b)) means k = absurd k
  coming_marked (control mt gid oid (last o)) means k = control_marked mt gid oid o means k
  coming_marked junk means k = passed_marked s.conns m.told

up_marked : (s : State) (aim : ℕ) (l : ℕ → Ledger) (n : Diary) → first (rules up s) ≡ taken → Fine s aim l → MarkedIn s n
    → MarkedIn (act up s).next (turned (noted up (account_of s aim l) n))
up_marked s aim l n t f m = go s.up (need 8 (rules up s) t) f
  where
    go : (w : List Octets) → is_nil w ≡ false → Fine (with_up w s) aim l
        → MarkedIn (taking_up w s).next (turned (with_hands (λ d. hand_heard aim d w (n.hand d)) n))
    go [] e f = clash refl e
    go (p ∷ w) e f = coming_marked s aim l p w f n m (meaning p) refl f.sound.0

-- ---- every call

call_marked : (c : Call) (s : State) (aim : ℕ) (l : ℕ → Ledger) (n : Diary) → first (rules c s) ≡ taken → Fine s aim l → MarkedIn s n
    → MarkedIn (act c s).next (turned (noted c (account_of s aim l) n))
call_marked (fresh o) s aim l n t f m = cold_marked (profile_in o) (turned n)
call_marked power s aim l n t f m = cold_marked s.profile (turned n)
call_marked (command gid oid o) s aim l n t f m = command_marked s n m gid oid o (account_of s aim l)
call_marked (send c o) s aim l n t f m = send_marked s n m c o (account_of s aim l) t
call_marked (push c) s aim l n t f m = push_marked s n m c (account_of s aim l) t
call_marked down s aim l n t f m = aside m (down_aside s.down s)
call_marked (consume c) s aim l n t f m = aside m (consume_aside c (s.conns c).controller.store s)
call_marked credit s aim l n t f m = aside m (refl, λ d. refl)
call_marked (air o) s aim l n t f m = aside m (refl, air_hosts s (airing s o) o)
call_marked reply s aim l n t f m = aside m (reply_aside (s.conns 0).controller.speech s)
call_marked up s aim l n t f m = up_marked s aim l n t f m
call_marked (report c) s aim l n t f m = aside m (refl, λ d. refl)

-- a refused call only has its place
pub turned_marked : (s : State) (n : Diary) → MarkedIn s n → MarkedIn s (turned n)
turned_marked s n m = aside m (refl, λ d. refl)

pub refused_marked : (e : Event) (i : ℕ) → e.answer ≡ refused i → (s : State) (o : Account) (n : Diary) → Kept s o → MarkedIn s n → MarkedIn s (note e o n)
refused_marked e i r s o n k m = rw r (turned_marked s n m)

pub step_marked : (c : Call) (s : State) (o : Account) (n : Diary) → Kept s o → MarkedIn s n → MarkedIn (step c s).effect.next (note (event_of c (step c s)) o n)
unfolding step
step_marked c s o n k m = go (first (rules c s)) refl
  where
    go : (r : Result) → first (rules c s) ≡ r → MarkedIn (judged r c s).effect.next (note (event_of c (judged r c s)) o n)
    go taken e =
        subst (λ (x : Account). MarkedIn (act c s).next (turned (noted c x n))) (sym (same_account s o k))
        (call_marked c s o.aim o.ledger n e k.fine m)
    go (refused i) e = turned_marked s n m

-- ---- the claim

module _ (s : State) (o : Account) (n : Diary) (k : Kept s o) (m : MarkedIn s n) where
  taken_before : TakenBefore o n
  taken_before p w gid oid x d first-up means shuts =
      record {
        answers = same s.host.pending only.names m.latest;
        closing = closer;
        before = m.before (closing_pending s.host.pending (named gid oid) only.names ∙ closer) d;
      }
    where
      only : Only (heads s.down) (replies w) (named gid oid) s.host.pending
      only =
          hearing.answered_only s o.aim o.ledger p w
          (subst (λ (u : List Octets). Fine (with_up u s) o.aim o.ledger) (sym k.same_up ∙ first-up) k.fine) gid oid x means

      closer : closing (named gid oid) ≡ true
      closer = closed_by d o.aim gid oid x (rw means at shuts)

      same : (q : Option Asked) → pending_name q ≡ named gid oid ∷ [] → Named q n.gid n.oid → (n.gid ≡ gid) × (n.oid ≡ oid)
      same None e l = absurd (cons≢nil (sym e))
      same (Some a) e l =
          let z = head-eq_of_cons-eq e in
          (sym l.0 ∙ ap (λ (i : Name). i.gid) z, sym l.1 ∙ ap (λ (i : Name). i.oid) z)

  module _ (c : ℕ) (known : no_conn c ≡ false) (room : full 1 o.down ≡ false) (there : (o.ledger c).host.opened ≡ true) where
    -- the rules of push behind that of 8
    abbrev later : List Rule
    later = rule 9 (flows (s.conns c).host.grant && eqb (s.conns c).host.held 0) ∷ rule 10 (is_closing s.host.pending) ∷ []

    told_open : (s.conns c).host.opened ≡ true
    told_open = sym (k.fine.good c).numbers.counts.opened ∙ there

    -- those before it do not apply
    push_answer : (step (push c) s).answer ≡ pick (is_nil (s.conns c).host.hand) (refused 8) (first later)
    unfolding step first
    push_answer = answer_first (first (rules (push c) s)) (push c) s ∙ rw (known, rw k.same_down at room, told_open)

    hand_told : ((step (push c) s).answer ≡ refused 8) ↔ ((n.hand c).left ≡ 0)
    hand_told = go (s.conns c).host.hand refl
      where
        go : (h : List Segment) → (s.conns c).host.hand ≡ h → ((step (push c) s).answer ≡ refused 8) ↔ ((n.hand c).left ≡ 0)
        go [] e = (λ z. (m.told c).left ∙ ap length e, λ z. push_answer ∙ rw e)
        go (x ∷ h) e = (
          λ z. absurd (not_among 8 later (omega arith) refl (sym (push_answer ∙ rw e) ∙ z)),
          λ z. absurd (omega (arith, z, (m.told c).left, ap length e)),
        )

  pub marked_claim : DiscardClaim s o n
  marked_claim = record { discards = taken_before; told = hand_told }

calls_marked : (cs : List Call) (s : State) (o : Account) (n : Diary) → Kept s o → MarkedIn s n
    → DiscardClaim (after cs s) (observed (events cs s) o) (diary (events cs s) o n)
unfolding after events observed diary
calls_marked [] s o n k m = marked_claim s o n k m
calls_marked (c ∷ cs) s o n k m =
    calls_marked cs (step c s).effect.next (observe (event_of c (step c s)) o) (note (event_of c (step c s)) o n) (step_keeps c s o k) (step_marked c s o n k m)

-- ---- the list

unfoldable pub hands_noted : Noting Diary
unfolding diary
hands_noted = record { note = note; diary = diary; none = λ o n. refl; more = λ e es o n. refl }

pub all_marked : (profile : Octets) → profile_octets_ok profile ≡ true → (calls : List Call)
    → MarkedIn (after calls (cold (profile_in profile))) (diary_of (events calls (cold (profile_in profile))))
unfolding hands_noted
all_marked = always_noted hands_noted MarkedIn step_marked first_page (λ p l. cold_marked p first_page)

pub all_discards : AllDiscards
all_discards profile ok calls = marked_claim _ _ _ (reachable profile ok calls) (all_marked profile ok calls)
