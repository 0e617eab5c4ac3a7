-- What a get shows is what the diary has: each call keeps the diary's invariant, and the claim follows from it.
-- Assumes nothing.
use Prim.Native.Nat.{ℕ, ◌<◌}
use native.Mathlib.Omega.{arith}
use mathlib.Core.Path.{◌≡◌, refl, sym, ap, ◌∙◌, subst}
use mathlib.Core.Bool.{Bool, true, false, ◌&&◌, false≢true}
use mathlib.Core.List.{List, [], ◌∷◌, ◌++◌, cons≢nil, head-eq_of_cons-eq}
use lib.Dec.{eqb}
use lib.ListN.{length, get_or}
use borrow.Author.Tests.{eqb-true}
use Rattle.std.specs.Prelude.{Ok, Err}
use Rattle.octets.specs.Octets.{Octets, pick}
use Rattle.packets.specs.Segments.{Segment, more, last}
use Rattle.packets.specs.Reassembly.{Run, run, grown, finished, flagged}
use Rattle.packets.proofs.Reassembly.{within}
use Rattle.state.specs.Judgement.{Judgement}
use Rattle.state.specs.Names.{status_ok, invalid_param}
use Rattle.state.specs.Commands.{aim_in}
use Rattle.state.specs.Runs.{control_limit}
use Rattle.state.specs.Profile.{profile_in}
use Rattle.state.proofs.Chains.{on, and_left, and_right}
use Rattle.config.specs.Table.{config_size, row_of, known_row}
use Rattle.config.specs.Stored.{value_of, defaults}
use Rattle.config.specs.Commands.{count_in, invalid_in, set_rsp}
use Rattle.config.specs.Accepted.{all_restored, showing}
use Rattle.config.proofs.Accepted.{set_accepted, get_ok_shows, defaults_restored}
use Rattle.model.specs.Kinds.{Profile, Controller}
use Rattle.model.specs.Kinds.verdict as verdict
use Rattle.nfcc.specs.Controller.{judge_of, config_by}
use Rattle.nfcc.proofs.Verdicts.{Fits, judge_fits}
use Rattle.nfcc.proofs.Judgements.{reset_verdict, set_verdict, get_verdict}
use Rattle.messages.specs.Layout.{response_of, response_message, notice_message}
use Rattle.messages.specs.Packets.{response_packet, notice_packets}
use Rattle.wires.specs.Meaning.{Meaning, datum, control, junk, meaning}
use Rattle.wires.specs.Tally.{contents}
use Rattle.model.specs.State.{ControlRun, State, is_open, cold, with_down, with_up, with_hearing, with_asking}
use Rattle.model.specs.Effects.{Call, fresh, power, command, send, push, down, consume, credit, air, reply, up, report, Effect, Result, taken, refused}
use Rattle.model.specs.Refusals.{first, is_held}
use Rattle.model.specs.Runs.{run_after, whole_by, flag_by}
use Rattle.model.specs.calls.Push.{pushing}
use Rattle.model.specs.calls.Consume.{consuming}
use Rattle.model.specs.calls.Reply.{replying}
use Rattle.model.specs.calls.Up.{coming, taking_up, hearing}
use Rattle.model.specs.calls.Down.{answers, deciding, answering, arriving, taking_down}
use Rattle.model.specs.Bench.{rules, act, judged, step}
use Rattle.model.specs.Observer.{Ledger, Event, Account, event_of, observe, events, after}
use Rattle.model.specs.Config.{Diary, first_page, with_values, set_by, values_by, put_by, put_all, noted, note, diary, is_set, Shows, Lists, Responds, ConfigTold, ConfigClaim, AllConfigs}
use Rattle.model.specs.invariant.Commands.{Name, named, orders_in, OnItsWay}
use Rattle.model.specs.invariant.Bench.{Fine, Kept}
use Rattle.model.specs.invariant.Configured.{Last, Configured}
use Rattle.model.proofs.Cases.{clash}
use Rattle.model.proofs.Needs.{need}
use Rattle.model.proofs.Meanings.{meaning_data}
use Rattle.model.proofs.HostCalls.{commanded}
use Rattle.model.proofs.Messages.{Notices, meaning_answer, notices_verdict}
use Rattle.model.proofs.Order.{no_way, command_way, data_way, other_way, way_run, way_low, way_small, way_more, way_last}
use Rattle.model.proofs.Fine.{conn_small}
use Rattle.model.proofs.Trace.{reachable, step_keeps}
use Rattle.model.proofs.Always.{Noting, always_noted}

-- ---- the values after a verdict are those that its response tells the diary

module _ (p : Profile) (k : Controller) (is_open : ℕ → Bool) (b m : Octets) (n : Diary) (long : length b ≡ config_size) (same : m ≡ n.payload)
    (id : ℕ) (known : known_row (row_of id) ≡ true) (before : value_of b (row_of id) ≡ n.values id) where
  -- where the response to this command says so
  abbrev Tells : ℕ → ℕ → Judgement → Type 0
  Tells gid oid v = value_of (config_by b m v) (row_of id) ≡ values_by gid oid (response_of p b m v) n id

  set_tells : Tells 0 2 (judge_of p k is_open 0 2 m)
  unfolding config_by response_of
  set_tells =
      set_verdict (Tells 0 2) p k is_open m before before
      (set_accepted m b n.values id long known before (count_in m) ∙ ap (λ (x : Octets). set_by status_ok (record { gid = n.gid; oid = n.oid; payload = x; values = n.values }) id) same ∙ told (eqb (length (invalid_in m (count_in m))) 0))
    where
      told : (t : Bool) → set_by status_ok n id ≡ set_by (pick t status_ok invalid_param) n id
      told true = refl
      told false = refl

  reset_tells : Tells 0 0 (judge_of p k is_open 0 0 m)
  unfolding config_by response_of
  reset_tells =
      reset_verdict (Tells 0 0) p k is_open m before before
      (ap (λ (x : Octets). restored (eqb (get_or x 0 0) 1)) same ∙ go (eqb (get_or n.payload 0 0) 1))
    where
      restored : Bool → Octets
      restored t = value_of (pick t defaults b) (row_of id)

      go : (t : Bool) → restored t ≡ pick t all_restored n.values id
      go true = defaults_restored id known
      go false = before

  -- any other command leaves both as they are
  other_tells : (gid oid : ℕ) → (eqb gid 0 && eqb oid 2) ≡ false → (eqb gid 0 && eqb oid 0) ≡ false → (v : Judgement) → (aim : ℕ) → Fits gid oid aim p v → Tells gid oid v
  unfolding config_by response_of
  other_tells gid oid x y (Err status) aim f = rw (x, y) before
  other_tells gid oid x y (Ok (verdict.Resets type)) aim f = clash (rw (f.0, f.1) refl) y
  other_tells gid oid x y (Ok verdict.Initialises) aim f = rw (x, y) before
  other_tells gid oid x y (Ok (verdict.Opens c t)) aim f = rw (x, y) before
  other_tells gid oid x y (Ok (verdict.Closes c)) aim f = rw (x, y) before
  other_tells gid oid x y (Ok (verdict.Turns rf)) aim f = rw (x, y) before
  other_tells gid oid x y (Ok (verdict.Selects pair)) aim f = rw (x, y) before
  other_tells gid oid x y (Ok (verdict.Deactivates type rf)) aim f = rw (x, y) before
  other_tells gid oid x y (Ok verdict.SetsConfig) aim f = clash (rw (f.0, f.1) refl) x
  other_tells gid oid x y (Ok verdict.GetsConfig) aim f = rw (x, y) before

  command_tells : (gid oid : ℕ) → Tells gid oid (judge_of p k is_open gid oid m)
  command_tells gid oid = go (eqb gid 0 && eqb oid 2) refl (eqb gid 0 && eqb oid 0) refl
    where
      go : (x : Bool) → (eqb gid 0 && eqb oid 2) ≡ x → (y : Bool) → (eqb gid 0 && eqb oid 0) ≡ y → Tells gid oid (judge_of p k is_open gid oid m)
      go true x y e =
          subst (λ (g : ℕ). Tells g oid (judge_of p k is_open g oid m)) (sym (eqb-true gid 0 (and_left (eqb gid 0) (eqb oid 2) x)))
          (subst (λ (o : ℕ). Tells 0 o (judge_of p k is_open 0 o m)) (sym (eqb-true oid 2 (and_right (eqb gid 0) (eqb oid 2) x))) set_tells)
      go false x true e =
          subst (λ (g : ℕ). Tells g oid (judge_of p k is_open g oid m)) (sym (eqb-true gid 0 (and_left (eqb gid 0) (eqb oid 0) e)))
          (subst (λ (o : ℕ). Tells 0 o (judge_of p k is_open 0 o m)) (sym (eqb-true oid 0 (and_right (eqb gid 0) (eqb oid 0) e))) reset_tells)
      go false x false e = other_tells gid oid x e (judge_of p k is_open gid oid m) (aim_in m) (judge_fits p k is_open gid oid m)

-- ---- down

-- notifications tell the diary nothing
notices_tell : (ps : List Octets) (n : Diary) → Notices ps → put_all ps n ≡ n
notices_tell [] n t = refl
notices_tell (p ∷ ps) n ((gid, oid, m, e), t) = rw e (notices_tell ps n t)

-- a call that is taken: what it leaves, and the packets that it puts on the up wire
pub record Turn (n : Diary) (e : Effect) : Type 0 where
  pub next : Configured e.next (put_all e.to_up n)
  pub told : ConfigTold e.to_up n

-- the parts of a whole control packet
abbrev gid_in : Meaning → ℕ
gid_in (datum c k x) = 0
gid_in (control mt gid oid x) = gid
gid_in junk = 0

abbrev oid_in : Meaning → ℕ
oid_in (datum c k x) = 0
oid_in (control mt gid oid x) = oid
oid_in junk = 0

-- no packet is put
none_told : (n : Diary) → ConfigTold [] n
none_told n = record { shown = λ p behind b e. absurd (cons≢nil (sym e)); listed = λ p behind b e. absurd (cons≢nil (sym e)) }

-- a whole command is decided on
module _ (s : State) (n : Diary) (long : length s.config ≡ config_size)
    (values : (id : ℕ) → known_row (row_of id) ≡ true → value_of s.config (row_of id) ≡ n.values id) (way : OnItsWay (Last n) s.asking s.down)
    (gid oid : ℕ) (low : gid < 16) (small : oid < 64) (m : Octets) (asked : Last n (named gid oid) m) where
  abbrev v : Judgement
  v = judge_of s.profile s.controller (is_open s) gid oid m

  abbrev response : Octets
  response = response_of s.profile s.config m v

  means : meaning (response_packet (response_message gid oid s.profile s.config m v)) ≡ control 2 gid oid (last response)
  means = meaning_answer gid oid s.profile s.config m v low small

  told : put_all (answers gid oid s.profile s.config m v) n ≡ with_values (values_by gid oid response n) n
  told = ap (λ (q : Meaning). put_all (notice_packets (notice_message v)) (put_by q n)) means ∙ notices_tell (notice_packets (notice_message v)) _ (notices_verdict v)

  decided_next : Configured (deciding gid oid m v s).next (put_all (answers gid oid s.profile s.config m v) n)
  decided_next =
      subst (Configured (deciding gid oid m v s).next) (sym told)
      (record {
        values = λ id known. command_tells s.profile s.controller (is_open s) s.config m n long asked.1 id known (values id known) gid oid;
        way = way;
      })

  -- what is known of a response to a command that is given a name
  responds : (k : ℕ) (P : Octets → Type 0) → (gid ≡ 0 → oid ≡ k → P response) → Responds k (answers gid oid s.profile s.config m v) P
  responds k P f p behind b e q =
      let same : control 2 gid oid (last response) ≡ control 2 0 k (last b) = sym means ∙ ap meaning (head-eq_of_cons-eq e) ∙ q in
      subst P (ap contents same) (f (ap gid_in same) (ap oid_in same))

  -- it answers the last command
  last_gid : (g : ℕ) → gid ≡ g → n.gid ≡ g
  last_gid g e = sym (ap (λ (x : Name). x.gid) asked.0) ∙ e

  last_oid : (o : ℕ) → oid ≡ o → n.oid ≡ o
  last_oid o e = sym (ap (λ (x : Name). x.oid) asked.0) ∙ e

  -- what holds of the response to this command under its own name
  by_name : (Q : Octets → Type 0) (g o : ℕ) → gid ≡ g → oid ≡ o → Q (response_of s.profile s.config m (judge_of s.profile s.controller (is_open s) g o m)) → Q response
  by_name Q g o x y = subst (λ (z : Name). Q (response_of s.profile s.config m (judge_of s.profile s.controller (is_open s) z.gid z.oid m))) (λ i. named (sym x i) (sym y i))

  get_shown : gid ≡ 0 → oid ≡ 3 → get_or response 0 0 ≡ status_ok → Shows n response
  unfolding response_of
  get_shown g o ok =
      record {
        answers = (last_gid 0 g, last_oid 3 o);
        shows =
            by_name Ok 0 3 g o
            (get_verdict (λ x. Ok (response_of s.profile s.config m x)) s.profile s.controller (is_open s) m (λ z. absurd (omega (arith, z))) (λ z. absurd (omega (arith, z)))
            (get_ok_shows s.config m n.values values)) ok
            ∙ (λ i. status_ok ∷ count_in (asked.1 i) ∷ showing n.values (asked.1 i) (count_in (asked.1 i)));
      }
    where
      Ok : Octets → Type 0
      Ok b = get_or b 0 0 ≡ status_ok → b ≡ status_ok ∷ count_in m ∷ showing n.values m (count_in m)

  set_listed : gid ≡ 0 → oid ≡ 2 → is_set (get_or response 0 0) ≡ true → Lists n response
  unfolding response_of
  set_listed g o ok =
      record {
        answers = (last_gid 0 g, last_oid 2 o);
        lists =
            by_name Set 0 2 g o
            (set_verdict (λ x. Set (response_of s.profile s.config m x)) s.profile s.controller (is_open s) m (λ z. absurd (false≢true z)) (λ z. absurd (false≢true z)) (λ z. refl)) ok
            ∙ ap set_rsp asked.1;
      }
    where
      Set : Octets → Type 0
      Set b = is_set (get_or b 0 0) ≡ true → b ≡ set_rsp m

  decided_told : ConfigTold (answers gid oid s.profile s.config m v) n
  decided_told =
      record {
        shown = responds 3 (λ b. get_or b 0 0 ≡ status_ok → Shows n b) get_shown;
        listed = responds 2 (λ b. is_set (get_or b 0 0) ≡ true → Lists n b) set_listed;
      }

  decided_turn : Turn n (deciding gid oid m v s)
  decided_turn = record { next = decided_next; told = decided_told }

module _ (s : State) (long : length s.config ≡ config_size) (p : Octets) (w : List Octets) (n : Diary) (c : Configured (with_down (p ∷ w) s) n) where
  -- a packet that is no command's, whatever becomes of it
  ignored : (t : State) → orders_in (meaning p) ≡ [] → t.config ≡ s.config → t.asking ≡ s.asking → t.down ≡ w → Configured t n
  ignored t e same joins wire =
      record {
        values = λ id known. ap (λ (b : Octets). value_of b (row_of id)) same ∙ c.values id known;
        way = subst (λ (r : ControlRun). OnItsWay (Last n) r t.down) (sym joins) (subst (OnItsWay (Last n) s.asking) (sym wire) (other_way (Last n) s.asking p w c.way e));
      }

  -- what becomes of a packet of a command, where the run that it joins is r
  abbrev asked_as : Run → ℕ → ℕ → Segment → Effect
  asked_as r gid oid x =
      answering gid oid (finished control_limit r x) (flagged control_limit r x)
      (with_asking (record { mt = 1; gid = gid; oid = oid; run = grown control_limit r x }) (with_down w s))

  asked_turn : (mt gid oid : ℕ) → eqb mt 1 ≡ true → (x : Segment) → meaning p ≡ control mt gid oid x → Turn n (asked_as (run c.way.so_far) gid oid x)
  asked_turn mt gid oid order (more b) means =
      record {
        next = record { values = c.values; way = way_more (Last n) s.asking p w mt gid oid b means order c.way };
        told = none_told n;
      }
  asked_turn mt gid oid order (last b) means =
      let whole = way_last (Last n) s.asking p w mt gid oid b means order c.way in
      rw (within control_limit c.way.so_far b whole.short)
      (decided_turn (with_asking (record { mt = 1; gid = gid; oid = oid; run = run [] }) (with_down w s)) n long c.values whole.rest gid oid
      (way_low (Last n) s.asking p w mt gid oid (last b) means order c.way) (way_small (Last n) s.asking p w mt gid oid (last b) means order c.way)
      (c.way.so_far ++ b) whole.as_taken)

  arriving_turn : (q : Meaning) → meaning p ≡ q → Turn n (arriving q p (with_down w s))
  arriving_turn (datum d k x) means =
      on (Turn n) (is_open s d)
      (λ e. record { next = ignored _ (rw means refl) refl refl refl; told = none_told n })
      (λ e. record { next = ignored _ (rw means refl) refl refl refl; told = none_told n })
  arriving_turn (control mt gid oid x) means =
      on (Turn n) (eqb mt 1)
      (λ e. subst (λ (r : Run). Turn n (asked_as r gid oid x)) (sym (way_run (Last n) s.asking p w mt gid oid x means e c.way)) (asked_turn mt gid oid e x means))
      (λ e. record { next = ignored (with_down w s) (rw (means, e)) refl refl refl; told = none_told n })
  arriving_turn junk means = record { next = ignored (with_down w s) (rw means refl) refl refl refl; told = none_told n }

down_turn : (s : State) → length s.config ≡ config_size → (n : Diary) → Configured s n → Turn n (act down s)
down_turn s long n c = let t = go s.down c in record { next = t.next; told = t.told }
  where
    go : (w : List Octets) → Configured (with_down w s) n → Turn n (taking_down w s)
    go [] k = record { next = c; told = none_told n }
    go (p ∷ w) k = arriving_turn s long p w n k (meaning p) refl

-- ---- the other calls

pub cold_configured : (p : Profile) → Configured (cold p) first_page
cold_configured p = record { values = defaults_restored; way = no_way (Last first_page) }

-- a call that leaves the controller's values, its run and the down wire alone
abbrev Aside : State → State → Type 0
Aside s t = (t.config ≡ s.config) × (t.asking ≡ s.asking) × (t.down ≡ s.down)

aside : (s t : State) (n : Diary) → Aside s t → Configured s n → Configured t n
aside s t n (same, joins, wire) c =
    record {
      values = λ id known. ap (λ (b : Octets). value_of b (row_of id)) same ∙ c.values id known;
      way = subst (λ (r : ControlRun). OnItsWay (Last n) r t.down) (sym joins) (subst (OnItsWay (Last n) s.asking) (sym wire) c.way);
    }

receiving_aside : (q : Meaning) (s : State) → Aside s (coming q s).next
receiving_aside (datum c n x) s = on (λ (e : Effect). Aside s e.next) (is_held s c) (λ e. (refl, refl, refl)) (λ e. (refl, refl, refl))
receiving_aside (control mt gid oid x) s =
    on (λ (e : Effect). Aside s e.next) (eqb mt 1) (λ e. (refl, refl, refl))
    (λ e. whole (whole_by s.hearing mt gid oid x))
  where
    whole : (ms : List Octets) → Aside s (hearing mt gid oid ms (flag_by s.hearing mt gid oid x) (with_hearing (run_after s.hearing mt gid oid x) s)).next
    whole [] = (refl, refl, refl)
    whole (m ∷ ms) = (refl, refl, refl)
receiving_aside junk s = (refl, refl, refl)

up_aside : (w : List Octets) (s : State) → Aside s (taking_up w s).next
up_aside [] s = (refl, refl, refl)
up_aside (p ∷ w) s = receiving_aside (meaning p) (with_up w s)

consume_aside : (c : ℕ) (st : List Octets) (s : State) → Aside s (consuming c st s).next
consume_aside c [] s = (refl, refl, refl)
consume_aside c (p ∷ st) s = (refl, refl, refl)

reply_aside : (ss : List Segment) (s : State) → Aside s (replying ss s).next
reply_aside [] s = (refl, refl, refl)
reply_aside (x ∷ ss) s = (refl, refl, refl)

module _ (s : State) (n : Diary) (c : Configured s n) where
  command_configured : (aim : ℕ) (l : ℕ → Ledger) (gid oid : ℕ) (m : Octets) → first (rules (command gid oid m) s) ≡ taken → Fine s aim l
      → Configured (act (command gid oid m) s).next (record { gid = gid; oid = oid; payload = m; values = n.values })
  command_configured aim l gid oid m t f =
      let k = commanded s aim l gid oid m t f in
      let after : Diary = record { gid = gid; oid = oid; payload = m; values = n.values } in
      record {
        values = c.values;
        way = command_way (Last n) (Last after) s.host.size s.asking s.down gid oid m k.low k.small k.means k.short k.no_heads c.way (refl, refl);
      }

  push_configured : (d : ℕ) → first (rules (push d) s) ≡ taken → Configured (act (push d) s).next n
  push_configured d t = go (s.conns d).host.hand
    where
      go : (h : List Segment) → Configured (pushing d h s).next n
      go [] = c
      go (x ∷ h) =
          record {
            values = c.values;
            way = data_way (Last n) s.asking s.down _ d 0 x (meaning_data d 0 x (conn_small d (need 3 (rules (push d) s) t)) (omega arith)) c.way;
          }

-- ---- every call

call_configured : (c : Call) (s : State) (aim : ℕ) (l : ℕ → Ledger) (n : Diary) → first (rules c s) ≡ taken → Fine s aim l → Configured s n
    → Configured (act c s).next (noted c (act c s).to_up n)
call_configured (fresh o) s aim l n t f k = cold_configured (profile_in o)
call_configured power s aim l n t f k = cold_configured s.profile
call_configured (command gid oid o) s aim l n t f k = command_configured s n k aim l gid oid o t f
call_configured (send c o) s aim l n t f k = aside s _ n (refl, refl, refl) k
call_configured (push c) s aim l n t f k = push_configured s n k c t
call_configured down s aim l n t f k = (down_turn s f.config.long n k).next
call_configured (consume c) s aim l n t f k = aside s _ n (consume_aside c (s.conns c).controller.store s) k
call_configured credit s aim l n t f k = aside s _ n (refl, refl, refl) k
call_configured (air o) s aim l n t f k = aside s _ n (refl, refl, refl) k
call_configured reply s aim l n t f k = aside s _ n (reply_aside (s.conns 0).controller.speech s) k
call_configured up s aim l n t f k = aside s _ n (up_aside s.up s) k
call_configured (report c) s aim l n t f k = aside s _ n (refl, refl, refl) k

pub step_configured : (c : Call) (s : State) (o : Account) (n : Diary) → Kept s o → Configured s n
    → Configured (step c s).effect.next (note (event_of c (step c s)) n)
unfolding step
step_configured c s o n k m = go (first (rules c s)) refl
  where
    go : (r : Result) → first (rules c s) ≡ r → Configured (judged r c s).effect.next (note (event_of c (judged r c s)) n)
    go taken e = call_configured c s o.aim o.ledger n e k.fine m
    go (refused i) e = m

pub refused_configured : (e : Event) (i : ℕ) → e.answer ≡ refused i → (s : State) (o : Account) (n : Diary) → Kept s o → Configured s n → Configured s (note e n)
refused_configured e i r s o n k m = rw r m

-- ---- the claim

pub configured_claim : (s : State) (o : Account) (n : Diary) → Kept s o → Configured s n → ConfigClaim s n
unfolding step
configured_claim s o n k c = go (first (rules down s))
  where
    go : (r : Result) → ConfigTold (judged r down s).effect.to_up n
    go taken = (down_turn s k.fine.config.long n c).told
    go (refused i) = none_told n

calls_configured : (cs : List Call) (s : State) (o : Account) (n : Diary) → Kept s o → Configured s n → ConfigClaim (after cs s) (diary (events cs s) n)
unfolding after events diary
calls_configured [] s o n k m = configured_claim s o n k m
calls_configured (c ∷ cs) s o n k m =
    calls_configured cs (step c s).effect.next (observe (event_of c (step c s)) o) (note (event_of c (step c s)) n) (step_keeps c s o k) (step_configured c s o n k m)

-- ---- the list

unfoldable pub values_noted : Noting Diary
unfolding diary
values_noted = record { note = λ e o n. note e n; diary = λ es o n. diary es n; none = λ o n. refl; more = λ e es o n. refl }

pub all_configs : AllConfigs
unfolding values_noted
all_configs profile ok calls =
    configured_claim _ _ _ (reachable profile ok calls)
    (always_noted values_noted Configured step_configured first_page (λ p l. cold_configured p) profile ok calls)
