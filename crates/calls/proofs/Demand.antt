-- Demand 3 on octets: each call on octets is the model's step, so what the model's invariant gives holds after every list of them.
-- Assumes nothing.
use Prim.Native.Nat.{ℕ, ◌≤◌, ◌<◌}
use mathlib.Core.Path.{◌≡◌, refl, sym, ap, ◌∙◌, subst}
use mathlib.Core.Bool.{Bool, true, false, not}
use mathlib.Core.List.{List, [], ◌∷◌, ◌++◌}
use native.Mathlib.Omega.{arith}
use lib.ListN.{length, take, drop}
use lib.Dec.{ltb}
use borrow.Author.Tests.{ltb-true, ltb-false, lt-ltb, le-ltb}
use Rattle.octets.specs.Octets.{Octets, pick, cut}
use Rattle.octets.specs.Octal.{Octal}
use Rattle.octets.proofs.Octets.{cut_same, drop_splice}
use Rattle.state.specs.Profile.{profile_in, profile_octets_ok}
use Rattle.area.specs.Map.{area_size, message_size}
use Rattle.record.specs.Reading.{decode_of}
use Rattle.views.specs.View.{view_of}
use Rattle.model.specs.State.{State}
use Rattle.model.specs.Effects.{Call, fresh, power, command, send, push, down, consume, credit, air, reply, up, report, Result, taken, refused}
use Rattle.model.specs.Refusals.{Rule, first}
use Rattle.model.specs.Bench.{rules, judged, step}
use Rattle.model.specs.Grants.{WithinGrants}
use Rattle.model.specs.calls.Report.{report_of, report_rules}
use Rattle.model.specs.Observer.{Event, Account, opening, observe, observed, event_of}
use Rattle.model.specs.Claim.{numbers_of, Claim}
use Rattle.model.specs.invariant.Bench.{Kept}
use Rattle.model.proofs.Fine.{kept, cold_fine}
use Rattle.state.proofs.Limits.{profile_limits}
use Rattle.model.proofs.Trace.{step_keeps, kept_claim}
use Rattle.model.proofs.Never.{answer_first, kept_within}
use Rattle.calls.specs.Word.{answer_in, down_in, up_in}
use Rattle.calls.specs.Outcome.{Outcome, outcome, decided, entry_rules, lowest}
use Rattle.calls.specs.Seen.{Puts, no_puts, puts_after, seen_by}
use Rattle.calls.specs.Refines.{Good, Along, Refines, AllRefine}
use Rattle.calls.specs.calls.Fresh.{room_rules, freshed, fresh_call}
use Rattle.calls.specs.calls.Power.{power_call}
use Rattle.calls.specs.calls.Command.{command_call}
use Rattle.calls.specs.calls.Send.{send_call}
use Rattle.calls.specs.calls.Push.{push_call}
use Rattle.calls.specs.calls.Down.{down_call}
use Rattle.calls.specs.calls.Consume.{consume_call}
use Rattle.calls.specs.calls.Credit.{credit_call}
use Rattle.calls.specs.calls.Air.{air_call}
use Rattle.calls.specs.calls.Reply.{reply_call}
use Rattle.calls.specs.calls.Up.{up_call}
use Rattle.calls.specs.calls.Report.{reported, report_call}
use Rattle.calls.specs.Demand.{Key, perform, pressed, slice, AllOctal, area_after, puts_in, seen_in, EveryRun, OctetClaim, OctetDemand}
use Rattle.calls.proofs.Called.{enters, called_unentered, called_own}
use Rattle.calls.proofs.Refine.{refined_good}
use Rattle.calls.proofs.FreshPower.{fresh_refused, fresh_refines, fresh_good, fresh_view, fresh_along, power_refines}
use Rattle.calls.proofs.Command.{command_refines}
use Rattle.calls.proofs.Send.{send_refines}
use Rattle.calls.proofs.Push.{push_refines}
use Rattle.calls.proofs.Down.{down_refines}
use Rattle.calls.proofs.Consume.{consume_refines}
use Rattle.calls.proofs.Credit.{credit_refines}
use Rattle.calls.proofs.Air.{air_refines}
use Rattle.calls.proofs.Reply.{reply_refines}
use Rattle.calls.proofs.Up.{up_refines}
use Rattle.calls.proofs.Report.{report_refines}

-- ---- every call is the model's step

pub all_refine : AllRefine
all_refine (fresh m) q a out v g room al = fresh_refines m q a out g room al
all_refine power q a out v g room al = power_refines a out g q room al
all_refine (command gid oid m) q a out v g room al = command_refines gid oid m q a out v g room al
all_refine (send c m) q a out v g room al = send_refines c m q a out v g room al
all_refine (push c) q a out v g room al = push_refines c q a out g room al
all_refine down q a out v g room al = down_refines q a out g room al
all_refine (consume c) q a out v g room al = consume_refines c q a out g room al
all_refine credit q a out v g room al = credit_refines q a out g room al
all_refine (air m) q a out v g room al = air_refines m q a out v g room al
all_refine reply q a out v g room al = reply_refines q a out g room al
all_refine up q a out v g room al = up_refines q a out g room al
all_refine (report c) q a out v g room al = report_refines c q a out g room al

-- ---- with an area or a buffer too short it answers 2 and changes nothing

module _ (a out : Octets) where
  all_refused : 2 ≡ lowest (entry_rules a (length out)) → ((rs : List Rule) → 2 ≡ lowest (room_rules (length a) (length out) ++ rs)) → (c : Call)
      → outcome 2 a out ≡ perform c a out
  unfolding power_call command_call send_call push_call down_call consume_call credit_call air_call reply_call up_call report_call
  all_refused e r (fresh m) = fresh_refused a out m 2 (r (rules (fresh m) (view_of a))) (λ z. omega arith)
  all_refused e r power = called_unentered _ _ a out 2 e (λ z. omega arith)
  all_refused e r (command gid oid m) = called_unentered _ _ a out 2 e (λ z. omega arith)
  all_refused e r (send c m) = called_unentered _ _ a out 2 e (λ z. omega arith)
  all_refused e r (push c) = called_unentered _ _ a out 2 e (λ z. omega arith)
  all_refused e r down = called_unentered _ _ a out 2 e (λ z. omega arith)
  all_refused e r (consume c) = called_unentered _ _ a out 2 e (λ z. omega arith)
  all_refused e r credit = called_unentered _ _ a out 2 e (λ z. omega arith)
  all_refused e r (air m) = called_unentered _ _ a out 2 e (λ z. omega arith)
  all_refused e r reply = called_unentered _ _ a out 2 e (λ z. omega arith)
  all_refused e r up = called_unentered _ _ a out 2 e (λ z. omega arith)
  all_refused e r (report c) = called_unentered _ _ a out 2 e (λ z. omega arith)

  pub short_area : length a < area_size → (c : Call) → outcome 2 a out ≡ perform c a out
  unfolding lowest
  short_area short = let n = lt-ltb (length a) area_size short in all_refused (rw n) (λ rs. rw n)

  pub short_buffer : Good a → length out < message_size → (c : Call) → outcome 2 a out ≡ perform c a out
  unfolding lowest
  short_buffer g short =
      let l = le-ltb (length a) area_size g.long in
      let n = lt-ltb (length out) message_size short in
      all_refused (rw (l, g.judged, n)) (λ rs. rw (l, n))

-- ---- what the model's step keeps, a call on octets keeps

-- after a call: the record is good, and P holds of what was seen and of the state that the area stands for
pub record Presses (P : Event → State → Type 0) (c : Call) (p : Puts) (x : Outcome) : Type 0 where
  pub good : Good x.area
  pub along : Along (puts_after c p x.word) x.area
  pub holds : P (seen_by c p x) (view_of x.area)

module _ (P : Event → State → Type 0) (k : Key) (v : Octal (slice k.call)) (a : Octets) (p : Puts) (g : Good a) (al : Along p a) where
  -- where P holds after refusal 2, which a buffer too short gives, and after the model's step, which leaves credits within the grant
  pub pressed_by : WithinGrants (step k.call (view_of a)).effect.next → P (seen_by k.call p (outcome 2 a k.out)) (view_of a)
      → P (event_of k.call (step k.call (view_of a))) (step k.call (view_of a)).effect.next → Presses P k.call p (pressed k a)
  unfolding answer_in down_in up_in
  pressed_by within refusing stepping = go (ltb (length k.out) message_size) refl
    where
      by : Refines k.call p a (pressed k a) → Presses P k.call p (pressed k a)
      by r =
          record {
            good = refined_good k.call p a (pressed k a) g r within;
            along = r.along;
            holds =
                subst (P (seen_by k.call p (pressed k a))) (sym r.next)
                (subst (λ (e : Event). P e (step k.call (view_of a)).effect.next) (sym r.event) stepping);
          }

      go : (b : Bool) → ltb (length k.out) message_size ≡ b → Presses P k.call p (pressed k a)
      go true e =
          subst (Presses P k.call p) (short_buffer a k.out g (ltb-true (length k.out) message_size e) k.call)
          (record { good = g; along = record { down = omega (arith, al.down); up = omega (arith, al.up) }; holds = refusing })
      go false e = by (all_refine k.call p a k.out v g (ltb-false (length k.out) message_size e) al)

-- ---- the invariant

-- of an area, the packets put so far and the account: its record is good, and the state that it stands for is one that the model's invariant holds of
pub record Stands (a : Octets) (p : Puts) (o : Account) : Type 0 where
  pub good : Good a
  pub along : Along p a
  pub keeps : Kept (view_of a) o

-- so no call on it brings credits past a grant
pub stands_within : (a : Octets) (p : Puts) (o : Account) → Stands a p o → (k : Key) → WithinGrants (step k.call (view_of a)).effect.next
stands_within a p o s k = kept_within _ _ (step_keeps k.call (view_of a) o s.keeps)

pub press : (k : Key) → Octal (slice k.call) → (a : Octets) (p : Puts) (o : Account) → Stands a p o
    → Stands (pressed k a).area (puts_after k.call p (pressed k a).word) (observe (seen_by k.call p (pressed k a)) o)
unfolding answer_in
press k v a p o s =
    let r = pressed_by (λ e x. Kept x (observe e o)) k v a p s.good s.along (stands_within a p o s k) s.keeps (step_keeps k.call (view_of a) o s.keeps) in
    record { good = r.good; along = r.along; keeps = r.holds }

stands_after : (ks : List Key) → AllOctal ks → (a : Octets) (p : Puts) (o : Account) → Stands a p o → Stands (area_after ks a) (puts_in ks p a) (observed (seen_in ks p a) o)
unfolding area_after puts_in seen_in observed
stands_after [] v a p o s = s
stands_after (k ∷ ks) v a p o s =
    stands_after ks v.1 (pressed k a).area (puts_after k.call p (pressed k a).word) (observe (seen_by k.call p (pressed k a)) o) (press k v.0 a p o s)

-- ---- the start

module _ (area out m : Octets) where
  -- where fresh answered 0, the area was long enough and the profile within its limits
  pub record Started : Type 0 where
    pub long : area_size ≤ length area
    pub ok : profile_octets_ok m ≡ true
    pub taking : freshed m area out ≡ fresh_call area out m

  pub started : answer_in (fresh_call area out m).word ≡ taken → Started
  unfolding fresh_call first answer_in
  started e = go (ltb (length area) area_size) refl (ltb (length out) message_size) refl (profile_octets_ok m) refl e
    where
      go : (b : Bool) → ltb (length area) area_size ≡ b → (s : Bool) → ltb (length out) message_size ≡ s → (t : Bool) → profile_octets_ok m ≡ t
          → answer_in (decided (pick b (refused 2) (pick s (refused 2) (pick (not t) (refused 3) taken))) (freshed m area out) area out).word ≡ taken → Started
      go true p s q t u h = absurd (let z : ◌≡◌ {A = ℕ} 0 1 = cc in omega arith)
      go false p true q t u h = absurd (let z : ◌≡◌ {A = ℕ} 0 1 = cc in omega arith)
      go false p false q false u h = absurd (let z : ◌≡◌ {A = ℕ} 0 1 = cc in omega arith)
      go false p false q true u h = record { long = ltb-false (length area) area_size p; ok = u; taking = rw (p, q, u) }

  pub starts_standing : Octal area → answer_in (fresh_call area out m).word ≡ taken → Stands (fresh_call area out m).area no_puts opening
  starts_standing v e =
      let s = started e in
      subst (λ (x : Outcome). Stands x.area no_puts opening) s.taking
      (record {
        good = fresh_good area m s.long v s.ok out;
        along = fresh_along area m s.long v s.ok out;
        keeps =
            subst (λ (x : State). Kept x opening) (sym (fresh_view area m s.long v s.ok out))
            (kept (cold_fine (profile_in m) (profile_limits m s.ok)));
      })

-- the invariant, after every list of calls
pub run_stands : EveryRun Stands
run_stands area out m v e keys w = stands_after keys w (fresh_call area out m).area no_puts opening (starts_standing area out m v e)

-- ---- the claim

-- the first of a list
abbrev front : List Octets → Octets
front [] = []
front (x ∷ xs) = x

module _ (c : ℕ) (a : Octets) (p : Puts) (o : Account) (s : Stands a p o) where
  abbrev claimed : Claim c (view_of a) o
  claimed = kept_claim c (view_of a) o s.keeps

  same_answer : (out : Octets) → message_size ≤ length out → answer_in (report_call a out c).word ≡ (step (report c) (view_of a)).answer
  same_answer out room = ap (λ (x : Event). x.answer) (report_refines c p a out s.good room s.along).event

  module _ (h : (o.ledger c).controller.opened ≡ true) where
    none_applies : first (report_rules c (view_of a)) ≡ taken
    unfolding step
    none_applies = sym (answer_first (first (rules (report c) (view_of a))) (report c) (view_of a)) ∙ claimed.taken_if_open.1 h

    same_numbers : report_of c (view_of a) ≡ numbers_of c o
    unfolding step
    same_numbers = ap front (sym (ap (λ (r : Result). (judged r (report c) (view_of a)).effect.message) none_applies) ∙ claimed.numbers h)

    reports : (out : Octets) → message_size ≤ length out → reported (decode_of a) c a out ≡ report_call a out c
    unfolding report_call
    reports out room =
        (called_own (report_rules c (view_of a)) (reported (decode_of a) c a out) a out taken (enters a (length out) s.good.long s.good.judged room) none_applies)

  octet_claim : OctetClaim c a o
  unfolding cut
  octet_claim =
      record {
        taken_if_open = λ out room. (λ h. claimed.taken_if_open.0 (sym (same_answer out room) ∙ h), λ h. same_answer out room ∙ claimed.taken_if_open.1 h);
        word = λ out room h. ap (λ (x : Outcome). x.word) (sym (reports h out room));
        still = λ out room h. ap (λ (x : Outcome). x.area) (sym (reports h out room));
        numbers =
            λ out room h. ap (λ (x : Outcome). take 5 x.out) (sym (reports h out room)) ∙ cut_same out 0 (report_of c (view_of a)) (omega (arith, room)) ∙ same_numbers h;
        rest = λ out room h. ap (λ (x : Outcome). drop 5 x.out) (sym (reports h out room)) ∙ drop_splice out 0 (report_of c (view_of a)) 5 (omega arith);
        account = claimed.account;
      }

pub octet_demand : OctetDemand
octet_demand area out m v e keys w c =
    octet_claim c _ _ _ (run_stands area out m v e keys w)
