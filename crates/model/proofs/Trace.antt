-- Demand 3: the invariant holds after every list of calls from a fresh bench, and the claim follows from it.
-- Assumes nothing.
use Prim.Native.Nat.{ℕ, ◌+◌, ◌≤◌}
use native.Mathlib.Omega.{arith}
use mathlib.Core.Path.{◌≡◌, refl, sym, ap, ◌∙◌, subst}
use mathlib.Core.Bool.{Bool, true, false, not, ◌&&◌}
use mathlib.Core.List.{List, [], ◌∷◌}
use Rattle.octets.specs.Octets.{Octets, pick}
use Rattle.packets.specs.Reassembly.{Prefix}
use Rattle.packets.proofs.Reassembly.{flow_prefix}
use Rattle.state.specs.Conn.{terms_of, flows}
use Rattle.wires.specs.Tally.{data_count}
use Rattle.wires.proofs.Same.{same_up}
use Rattle.model.specs.Connection.{owed_on}
use Rattle.model.specs.State.{State, cold}
use Rattle.state.specs.Profile.{profile_in, profile_octets_ok}
use Rattle.model.specs.Effects.{Call, fresh, power, command, send, push, down, consume, credit, air, reply, up, report, Result, taken, refused}
use Rattle.model.specs.Refusals.{first, no_conn}
use Rattle.model.specs.calls.Consume.{is_loop}
use Rattle.model.specs.calls.Report.{held_by, report_of}
use Rattle.model.specs.Bench.{rules, act, judged, step}
use Rattle.model.specs.Observer.{Ledger, Account, opening, events, after, observed, observe, seen, event_of}
use Rattle.model.specs.Claim.{held_in, owed_in, numbers_of, total, Claim, Demand}
use Rattle.model.specs.invariant.Items.{items_of, segs_of}
use Rattle.model.specs.invariant.Link.{figures, Balance}
use Rattle.model.specs.invariant.Bench.{Fine, Kept, Keeps, account_of}
use Rattle.model.proofs.Cases.{clash}
use Rattle.model.proofs.Seen.{seen_tallied}
use Rattle.model.proofs.Link.{held_counted, held_shown, stored_counted, owed_counted}
use Rattle.model.proofs.Meanings.{data_count_segs, credits_up_items}
use Rattle.state.proofs.Limits.{profile_limits}
use Rattle.model.proofs.Fine.{kept, cold_fine}
use Rattle.model.proofs.HostCalls.{fresh_keeps, power_keeps, command_keeps, send_keeps, push_keeps, report_keeps}
use Rattle.model.proofs.ControllerCalls.{consume_keeps, credit_keeps, reply_keeps}
use Rattle.model.proofs.Down.{down_keeps}
use Rattle.model.proofs.Air.{air_keeps}
use Rattle.model.proofs.Up.{up_keeps}

-- ---- every call keeps the invariant

call_keeps : (c : Call) (s : State) (aim : ℕ) (l : ℕ → Ledger) → Keeps c s aim l
call_keeps (fresh m) s aim l = fresh_keeps s aim l m
call_keeps power s aim l = power_keeps s aim l
call_keeps (command gid oid m) s aim l = command_keeps s aim l gid oid m
call_keeps (send c m) s aim l = send_keeps s aim l c m
call_keeps (push c) s aim l = push_keeps s aim l c
call_keeps down s aim l = down_keeps s aim l
call_keeps (consume c) s aim l = consume_keeps s aim l c
call_keeps credit s aim l = credit_keeps s aim l
call_keeps (air m) s aim l = air_keeps s aim l m
call_keeps reply s aim l = reply_keeps s aim l
call_keeps up s aim l = up_keeps s aim l
call_keeps (report c) s aim l = report_keeps s aim l c

-- an account whose wires are the bench's is that of the bench
pub same_account : (s : State) (o : Account) → Kept s o → o ≡ account_of s o.aim o.ledger
same_account s o k = λ i. record { down = k.same_down i; up = k.same_up i; aim = o.aim; ledger = o.ledger; stray = k.none_astray i }

pub step_keeps : (c : Call) (s : State) (o : Account) → Kept s o → Kept (step c s).effect.next (observe (event_of c (step c s)) o)
unfolding step
step_keeps c s o k = go (first (rules c s)) refl
  where
    go : (r : Result) → first (rules c s) ≡ r → Kept (judged r c s).effect.next (observe (event_of c (judged r c s)) o)
    go taken e =
        subst (λ (x : Account). Kept (act c s).next (seen c (event_of c (judged taken c s)) x)) (sym (same_account s o k))
        (subst (Kept (act c s).next) (sym (seen_tallied s o.aim o.ledger c)) (call_keeps c s o.aim o.ledger e k.fine))
    go (refused n) e = k

pub calls_keep : (cs : List Call) (s : State) (o : Account) → Kept s o → Kept (after cs s) (observed (events cs s) o)
unfolding after events observed
calls_keep [] s o k = k
calls_keep (c ∷ cs) s o k = calls_keep cs (step c s).effect.next (observe (event_of c (step c s)) o) (step_keeps c s o k)

-- the invariant, after every list of calls
pub reachable : (profile : Octets) → profile_octets_ok profile ≡ true → (calls : List Call)
    → Kept (after calls (cold (profile_in profile))) (observed (events calls (cold (profile_in profile))) opening)
reachable profile ok calls = calls_keep calls (cold (profile_in profile)) opening (kept (cold_fine (profile_in profile) (profile_limits profile ok)))

-- ---- the claim

module _ (c : ℕ) (s : State) (aim : ℕ) (l : ℕ → Ledger) (f : Fine s aim l) where
  same_open : (l c).controller.opened ≡ (s.conns c).controller.opened
  same_open = (f.good c).numbers.opened

  conn_known_law : (s.conns c).controller.opened ≡ true → no_conn c ≡ false
  conn_known_law o = go (no_conn c) refl
    where
      go : (b : Bool) → no_conn c ≡ b → b ≡ false
      go true e = clash o (f.standing.known c e)
      go false e = refl

  open_there : (l c).controller.opened ≡ true → (s.conns c).controller.opened ≡ true
  open_there e = sym same_open ∙ e

  report_taken : (l c).controller.opened ≡ true → (step (report c) s).answer ≡ taken
  unfolding step first
  report_taken e = rw (conn_known_law (open_there e), open_there e)

  open_if_taken : (step (report c) s).answer ≡ taken → (l c).controller.opened ≡ true
  unfolding step first
  open_if_taken e = same_open ∙ go (no_conn c) (s.conns c).controller.opened refl e
    where
      go : (a b : Bool) → (s.conns c).controller.opened ≡ b → (judged (pick a (refused 3) (pick (not b) (refused 6) taken)) (report c) s).answer ≡ taken → (s.conns c).controller.opened ≡ true
      go true b o h = absurd (let z : ◌≡◌ {A = ℕ} 0 1 = cc in omega arith)
      go false true o h = o
      go false false o h = absurd (let z : ◌≡◌ {A = ℕ} 0 1 = cc in omega arith)

  module _ (o : (s.conns c).controller.opened ≡ true) where
    live : Balance (figures (s.conns c) (segs_of c s.down) (l c)) (items_of aim c s.up)
    live = (f.good c).numbers.live o

    counted_held : (b : Bool) → flows (s.conns c).controller.grant ≡ b → pick b (held_by (s.conns c).host) 255 ≡ pick b (held_in (l c)) 255
    counted_held true e = held_shown (f.good c) ∙ sym (held_counted (f.good c) o e)
    counted_held false e = refl

    counted_owed : (b : Bool) → flows (s.conns c).controller.grant ≡ b → pick b (s.conns c).controller.owed 0 ≡ pick b (owed_in (l c)) 0
    counted_owed true e = sym (owed_counted (f.good c) o e)
    counted_owed false e = refl

    -- of a connection that is open, what counts as owed goes by flow control alone
    shown_owed : owed_on (s.conns c).controller ≡ pick (flows (s.conns c).controller.grant) (s.conns c).controller.owed 0
    shown_owed = λ i. pick (o i && flows (s.conns c).controller.grant) (s.conns c).controller.owed 0

    same_numbers : report_of c s ≡ numbers_of c (account_of s aim l)
    same_numbers =
        let g = live.counts.granted in
        let flow = flows (s.conns c).controller.grant in
        rw g
        (λ i.
        counted_held flow refl i ∷ data_count c s.down ∷ sym (stored_counted (f.good c) o) i ∷ (shown_owed ∙ counted_owed flow refl) i
        ∷ pick flow (same_up c s.up i) 0 ∷ [])

    none_applies : first (rules (report c) s) ≡ taken
    unfolding first
    none_applies = rw (conn_known_law o, o)

    reported : (step (report c) s).effect.message ≡ report_of c s ∷ []
    unfolding step
    reported = ap (λ (r : Result). (judged r (report c) s).effect.message) none_applies

    whole_sum : flows (l c).controller.grant ≡ true → total (numbers_of c (account_of s aim l)) ≡ (l c).controller.grant
    whole_sum e =
        let g = live.counts.granted in
        let flow : flows (s.conns c).controller.grant ≡ true = rw g at e in
        let held = held_counted (f.good c) o flow in
        let stored = stored_counted (f.good c) o in
        let owed = owed_counted (f.good c) o flow in
        rw (e, held, stored, owed, g)
        (omega (arith, live.sum flow, data_count_segs c s.down, credits_up_items aim c s.up))

    to_host_law : (b : Bool) → is_loop c ≡ b → Prefix (l c).talk.out_host (pick b (l c).talk.sent (l c).talk.spoken)
    to_host_law b e = rw (← e) (flow_prefix ((f.good c).pipes.to_host o))

  -- what was pushed had been granted or read
  held_whole : (l c).controller.opened ≡ true → flows (l c).controller.grant ≡ true → (l c).host.opened ≡ true
      → (l c).host.pushed ≤ (l c).host.grant + (l c).host.read
  held_whole e y h =
      let v = live (open_there e) in
      let there = sym (f.good c).numbers.counts.opened ∙ h in
      let flow : flows (s.conns c).host.grant ≡ true = rw (v.terms.same there) (rw v.counts.granted at y) in
      omega (arith, (f.good c).numbers.counts.granted there, (f.good c).numbers.counts.flow there flow)

  claim : Claim c s (account_of s aim l)
  claim =
      record {
        taken_if_open = (open_if_taken, report_taken);
        numbers = λ e. reported (open_there e) ∙ ap (λ (n : Octets). n ∷ []) (same_numbers (open_there e));
        account =
            record {
              sum = λ e. whole_sum (open_there e);
              whole_stored = λ e. omega (arith, (live (open_there e)).counts.stored);
              whole_owed = λ e y. omega (arith, (live (open_there e)).counts.owed (rw (live (open_there e)).counts.granted at y));
              whole_held = λ e y h. omega (arith, held_whole e y h);
              at_controller_law = λ e. flow_prefix ((f.good c).pipes.to_controller (open_there e));
              at_host_law = λ e h. to_host_law (open_there e) true h;
              at_host_static = λ e h. to_host_law (open_there e) false h;
              none_astray = refl;
            };
      }

-- the claim follows from the invariant, whatever made it hold
pub kept_claim : (c : ℕ) (s : State) (o : Account) → Kept s o → Claim c s o
kept_claim c s o k = subst (Claim c s) (sym (same_account s o k)) (claim c s o.aim o.ledger k.fine)

-- the grant that the account counts is the profile's for this Conn ID
pub own_grant : (c : ℕ) (s : State) (o : Account) → Kept s o → (o.ledger c).controller.opened ≡ true → (o.ledger c).controller.grant ≡ (terms_of s.profile c).credits
own_grant c s o k e =
    let there = open_there c s o.aim o.ledger k.fine e in
    (live c s o.aim o.ledger k.fine there).counts.granted ∙ k.fine.standing.granted c there

pub demand : Demand
demand profile ok calls c = kept_claim c _ _ (reachable profile ok calls)
