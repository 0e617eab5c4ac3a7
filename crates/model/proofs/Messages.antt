-- What the controller's messages say: its answer to each verdict, the notifications of the air, and the credit notice. A host that
-- reads them does to each connection what the controller did.
-- Assumes nothing.
use Rattle.std.specs.Prelude.{Option, Some, None}
use Prim.Native.Nat.{ℕ, zero, suc, ◌+◌, ◌-◌, ◌*◌, ◌<◌, ◌≤◌}
use native.Mathlib.Omega.{arith}
use mathlib.Core.Path.{◌≡◌, refl, sym, ap, ◌∙◌}
use mathlib.Core.Logic.{◌⊎◌, inl, inr}
use mathlib.Core.Bool.{Bool, true, false, ◌&&◌, ◌||◌, true≢false, or-true}
use mathlib.Core.List.{List, [], ◌∷◌, ◌++◌, map, append-nil}
use lib.Dec.{eqb, ltb, leb, eqb-suc-zero}
use lib.ListN.{length, get_or, drop}
use borrow.Author.Tests.{eqb-true, eqb-false, ne_eqb, ltb-true, leb-true, leb-false}
use Rattle.std.specs.Prelude.{Ok, Err}
use Rattle.octets.specs.Octets.{Octets, pick}
use Rattle.packets.specs.Segments.{last}
use Rattle.model.specs.Kinds.{Terms, Profile, Activation, Pairs, Rf, Controller, Event, Aired, Answer, Heard}
use Rattle.model.specs.Kinds.verdict as verdict
use Rattle.model.specs.Kinds.event.{Found, Poll, Listen, Failed, Sleeps, LinkLost, Releases, Endpoint}
use Rattle.model.specs.Kinds.answer.{Done, ClosesAll, Sized, Opens, Closes}
use Rattle.model.specs.Kinds.heard.{Nothing, Answered, Activated, Deactivated, Credits}
use Rattle.state.specs.Judgement.{Judgement, octet_of}
use Rattle.state.specs.Conn.{place_of, conn_of, terms_of}
use Rattle.state.specs.Commands.{command_of}
use Rattle.messages.specs.Layout.{Message, reset_ntf, credits_ntf, entries_from, generic_error_ntf, discover_ntf, activated_ntf, deactivate_ntf, response_of, response_message, notice_message}
use Rattle.state.specs.Radio.{is_active, is_listening, is_asleep, polls}
use Rattle.state.specs.Profile.{ProfileWithin}
use Rattle.state.specs.Runs.{control_limit}
use Rattle.config.specs.Commands.{count_in, param_at, set_rsp, get_rsp}
use Rattle.dh.specs.Contents.{written, notice_of, entry_id, entry_credits, entry_ok, entries_ok, credits_written}
use Rattle.dh.specs.Host.{answer_of, heard_written, credits_for, credits_in}
use Rattle.air.specs.Air.{air_message, aired_by, is_refused}
use Rattle.ends.specs.RoundTrips.{TermsOk, TargetOk}
use Rattle.state.proofs.Chains.{every_at, on, pick_same}
use Rattle.ends.proofs.RoundTrips.{round_trips}
use Rattle.messages.specs.Packets.{response_packet, notice_packet, notice_packets}
use Rattle.wires.specs.Meaning.{control, meaning}
use Rattle.wires.specs.Tally.{says}
use Rattle.model.specs.Refusals.{no_conn, ids}
use Rattle.ends.specs.Changes.{stays, opens, closes, change_by, change_aired, change_heard, change_answered, given_to}
use Rattle.model.specs.calls.Down.{answers}
use Rattle.model.specs.calls.Credit.{all_zero}
use Rattle.model.specs.invariant.Items.{Item, closed, items_by, items_of}
use Rattle.model.specs.invariant.Bench.{ConfigWithin}
use Rattle.model.proofs.Meanings.{meaning_response, meaning_notice}
use Rattle.nfcc.specs.Controller.{judge_of}
use Rattle.nfcc.proofs.Verdicts.{Fits, judge_whole}
use Rattle.air.proofs.Taken.{Within, found_by_law, poll_by_law, listen_by_law, failed_by_law}

-- ---- a profile within its limits

-- terms that it gives, as the other end reads them
pub terms_within : (p : Profile) (c : ℕ) → ProfileWithin p → TermsOk (terms_of p c)
terms_within p c l = let t = l.terms c in record { payload = t.least; credits = t.credits_ok_law }

-- ---- what the answer to a verdict says

-- what the host makes of the response
abbrev pub answered_by : Profile → Judgement → Answer
answered_by p (Err status) = Done
answered_by p (Ok (verdict.Resets type)) = ClosesAll
answered_by p (Ok verdict.Initialises) = Sized p.control
answered_by p (Ok (verdict.Opens c t)) = Opens c t
answered_by p (Ok (verdict.Closes c)) = Closes c
answered_by p (Ok (verdict.Turns rf)) = Done
answered_by p (Ok (verdict.Selects pair)) = Done
answered_by p (Ok (verdict.Deactivates type rf)) = Done
answered_by p (Ok verdict.SetsConfig) = Done
answered_by p (Ok verdict.GetsConfig) = Done

-- what the answer to a verdict goes by: the configuration b, and the list of a set, which is whole
pub record Answerable (b m : Octets) (v : Judgement) : Type 0 where
  pub config : ConfigWithin b
  pub whole : v ≡ Ok verdict.SetsConfig → param_at m (count_in m) ≤ control_limit

-- so it is of every verdict on a command that fits its run
pub judge_answerable : (p : Profile) (k : Controller) (is_open : ℕ → Bool) (gid oid : ℕ) (b m : Octets) → ConfigWithin b → length m ≤ control_limit
    → Answerable b m (judge_of p k is_open gid oid m)
judge_answerable p k is_open gid oid b m c short = record { config = c; whole = λ e. omega (arith, judge_whole p k is_open gid oid m e) }

-- the host makes of a response what the verdict was
module _ (p : Profile) (limits : ProfileWithin p) (aim : ℕ) (b m : Octets) where
  says_turn : (oid : ℕ) → (oid ≡ 3) ⊎ (oid ≡ 6) → says aim 2 1 oid (0x00 ∷ []) ≡ Answered Done
  unfolding heard_written answer_of command_of
  says_turn oid (inl e) = rw (e, round_trips.rf_written.0)
  says_turn oid (inr e) = rw (e, round_trips.rf_written.2)

  says_config : (oid : ℕ) (r : Octets) → (oid ≡ 2) ⊎ (oid ≡ 3) → written 2 0 oid r ≡ true → says aim 2 0 oid r ≡ Answered Done
  unfolding heard_written answer_of command_of
  says_config oid r (inl e) w = rw (w, e) (ap Answered (pick_same (eqb (get_or r 0 0) 0) Done))
  says_config oid r (inr e) w = rw (w, e) (ap Answered (pick_same (eqb (get_or r 0 0) 0) Done))

  pub says_response : (gid oid : ℕ) (v : Judgement) → Fits gid oid aim p v → Answerable b m v → says aim 2 gid oid (response_of p b m v) ≡ Answered (answered_by p v)
  unfolding response_of heard_written answer_of command_of
  says_response gid oid (Err status) f a = rw (round_trips.status_written gid oid (octet_of status) f, ne_eqb (octet_of status) 0 f)
  says_response gid oid (Ok (verdict.Resets type)) f a = rw (f.0, f.1, round_trips.reset_written_law)
  says_response gid oid (Ok verdict.Initialises) f a = rw (f.0, f.1, round_trips.init_written_law p.control limits.control_least)
  says_response gid oid (Ok (verdict.Opens c t)) f a =
      let ok : TermsOk t = rw f.4 (terms_within p c limits) in
      rw (f.0, f.1, round_trips.create_written_law t c ok f.2 f.3)
  says_response gid oid (Ok (verdict.Closes c)) f a = rw (f.0, f.1, f.2, round_trips.close_written)
  says_response gid oid (Ok (verdict.Turns rf)) f a = rw f.0 (says_turn oid f.1)
  says_response gid oid (Ok (verdict.Selects pair)) f a = rw (f.0, f.1, round_trips.rf_written.1)
  says_response gid oid (Ok (verdict.Deactivates type rf)) f a = rw (f.0, f.1, round_trips.rf_written.2)
  says_response gid oid (Ok verdict.SetsConfig) f a = rw (f.0, f.1) (says_config 2 (set_rsp m) (inl refl) (round_trips.set_written_law m (a.whole refl)))
  says_response gid oid (Ok verdict.GetsConfig) f a = rw (f.0, f.1) (says_config 3 (get_rsp b m) (inr refl) (round_trips.get_written_law b m a.config.long a.config.values))

-- ---- what the notifications say

module _ (aim : ℕ) where
  says_reset : (type : ℕ) → type ≤ 1 → says aim 3 0 0 (reset_ntf type) ≡ Nothing
  unfolding heard_written notice_of
  says_reset type h = rw (round_trips.reset_noted type h)

  says_error : says aim 3 0 7 generic_error_ntf ≡ Nothing
  unfolding heard_written notice_of
  says_error = rw round_trips.error_noted

  says_found : (a : Activation) (type : ℕ) (params : Octets) → written 3 1 3 (discover_ntf a type params) ≡ true
      → says aim 3 1 3 (discover_ntf a type params) ≡ Nothing
  unfolding heard_written notice_of
  says_found a type params w = rw w

  says_activated : (a : Activation) (t : Terms) (params : Octets) → written 3 1 5 (activated_ntf a t params) ≡ true
      → says aim 3 1 5 (activated_ntf a t params) ≡ Activated t
  unfolding heard_written notice_of
  says_activated a t params w = rw w

  says_deactivated : (type reason : ℕ) → written 3 1 6 (deactivate_ntf type reason) ≡ true
      → says aim 3 1 6 (deactivate_ntf type reason) ≡ Deactivated
  unfolding heard_written notice_of
  says_deactivated type reason w = rw w

-- the items of one notification, by what it says, and of a response
items_notice : (aim d gid oid : ℕ) (m : Octets) → gid < 16 → oid < 64
    → (h : Heard) → says aim 3 gid oid m ≡ h
    → items_of aim d (notice_packet (record { gid = gid; oid = oid; payload = m }) ∷ []) ≡ items_by (change_heard h m d)
unfolding items_of
items_notice aim d gid oid m low small h e = rw (meaning_notice gid oid low small m, append-nil, e)

items_response : (aim d gid oid : ℕ) (m : Octets) (ns : List Octets) → gid < 16 → oid < 64
    → items_of aim d (response_packet (record { gid = gid; oid = oid; payload = m }) ∷ ns)
    ≡ items_by (change_heard (says aim 2 gid oid m) m d) ++ items_of aim d ns
unfolding items_of
items_response aim d gid oid m ns low small = rw (meaning_response gid oid low small m)

-- what the controller's answer is for a connection is what its verdict does to the connection
module _ (p : Profile) (limits : ProfileWithin p) (aim d gid oid : ℕ) (b m : Octets) (low : gid < 16) (small : oid < 64) where
  after_response : (v : Judgement) → Fits gid oid aim p v → Answerable b m v
      → items_of aim d (answers gid oid p b m v) ≡ items_by (change_answered (answered_by p v) d) ++ items_of aim d (notice_packets (notice_message v))
  after_response v f a =
      items_response aim d gid oid (response_of p b m v) (notice_packets (notice_message v)) low small
      ∙ ap (λ (h : Heard). items_by (change_heard h (response_of p b m v) d) ++ items_of aim d (notice_packets (notice_message v))) (says_response p limits aim b m gid oid v f a)

  pub items_answers : (v : Judgement) → Fits gid oid aim p v → Answerable b m v → items_of aim d (answers gid oid p b m v) ≡ items_by (change_by v d)
  unfolding notice_message items_of
  items_answers (Err status) f a = after_response (Err status) f a
  items_answers (Ok (verdict.Resets type)) f a =
      after_response (Ok (verdict.Resets type)) f a
      ∙ ap (λ (l : List Item). closed ∷ l)
      (items_notice aim d 0 0 (reset_ntf type) (omega arith) (omega arith) Nothing (says_reset aim type f.2))
  items_answers (Ok verdict.Initialises) f a = after_response (Ok verdict.Initialises) f a
  items_answers (Ok (verdict.Opens c t)) f a = after_response (Ok (verdict.Opens c t)) f a ∙ append-nil (items_by (change_by (Ok (verdict.Opens c t)) d))
  items_answers (Ok (verdict.Closes c)) f a = after_response (Ok (verdict.Closes c)) f a ∙ append-nil (items_by (change_by (Ok (verdict.Closes c)) d))
  items_answers (Ok (verdict.Turns rf)) f a = after_response (Ok (verdict.Turns rf)) f a
  items_answers (Ok (verdict.Selects pair)) f a = after_response (Ok (verdict.Selects pair)) f a
  items_answers (Ok (verdict.Deactivates type rf)) f a =
      after_response (Ok (verdict.Deactivates type rf)) f a
      ∙ items_notice aim d 1 6 (deactivate_ntf type 0x00) (omega arith) (omega arith) Deactivated (says_deactivated aim type 0x00 (round_trips.deactivate_written_law type f.2))
  items_answers (Ok verdict.SetsConfig) f a = after_response (Ok verdict.SetsConfig) f a
  items_answers (Ok verdict.GetsConfig) f a = after_response (Ok verdict.GetsConfig) f a

-- ---- which packets answer a command: the first is the response, and any after it is a notification

pub meaning_answer : (gid oid : ℕ) (p : Profile) (b m : Octets) (v : Judgement) → gid < 16 → oid < 64
    → meaning (response_packet (response_message gid oid p b m v)) ≡ control 2 gid oid (last (response_of p b m v))
meaning_answer gid oid p b m v low small = meaning_response gid oid low small (response_of p b m v)

-- packets that are notifications, each
abbrev pub Notices : List Octets → Type 0
Notices [] = Unit {0}
Notices (p ∷ ps) = ((gid : ℕ) × (oid : ℕ) × (m : Octets) × (meaning p ≡ control 3 gid oid (last m))) × Notices ps

pub notices_message : (m : Message) → m.gid < 16 → m.oid < 64 → Notices (notice_packets m)
notices_message m low small =
    on Notices (eqb (length m.payload) 0) (λ e. tt)
    (λ e. ((m.gid, m.oid, m.payload, meaning_notice m.gid m.oid low small m.payload), tt))

-- the notification after a response
pub notices_verdict : (v : Judgement) → Notices (notice_packets (notice_message v))
unfolding notice_message
notices_verdict (Err status) = tt
notices_verdict (Ok (verdict.Resets type)) = notices_message (record { gid = 0; oid = 0; payload = reset_ntf type }) (omega arith) (omega arith)
notices_verdict (Ok verdict.Initialises) = tt
notices_verdict (Ok (verdict.Opens c t)) = tt
notices_verdict (Ok (verdict.Closes c)) = tt
notices_verdict (Ok (verdict.Turns rf)) = tt
notices_verdict (Ok (verdict.Selects pair)) = tt
notices_verdict (Ok (verdict.Deactivates type rf)) = notices_message (record { gid = 1; oid = 6; payload = deactivate_ntf type 0x00 }) (omega arith) (omega arith)
notices_verdict (Ok verdict.SetsConfig) = tt
notices_verdict (Ok verdict.GetsConfig) = tt

-- the notification of an event
pub notices_air : (p : Profile) (e : Option Event) (m : Octets) → Notices (notice_packets (air_message p e m))
unfolding air_message
notices_air p None m = tt
notices_air p (Some (Found a type)) m = notices_message (air_message p (Some (Found a type)) m) (omega arith) (omega arith)
notices_air p (Some (Poll a)) m = notices_message (air_message p (Some (Poll a)) m) (omega arith) (omega arith)
notices_air p (Some (Listen a)) m = notices_message (air_message p (Some (Listen a)) m) (omega arith) (omega arith)
notices_air p (Some Failed) m = notices_message (air_message p (Some Failed) m) (omega arith) (omega arith)
notices_air p (Some Sleeps) m = notices_message (air_message p (Some Sleeps) m) (omega arith) (omega arith)
notices_air p (Some LinkLost) m = notices_message (air_message p (Some LinkLost) m) (omega arith) (omega arith)
notices_air p (Some Releases) m = notices_message (air_message p (Some Releases) m) (omega arith) (omega arith)
notices_air p (Some Endpoint) m = tt

-- how many they are
pub notices_few : (m : Message) → length (notice_packets m) ≤ 1
notices_few m = on (λ (l : List Octets). length l ≤ 1) (eqb (length m.payload) 0) (λ e. omega arith) (λ e. omega arith)

-- ---- the air: what an event's notification is for a connection is what the event does to the connection

-- a message with an octet is one packet
notice_one : (gid oid x : ℕ) (l : Octets)
    → notice_packets (record { gid = gid; oid = oid; payload = x ∷ l }) ≡ notice_packet (record { gid = gid; oid = oid; payload = x ∷ l }) ∷ []
notice_one gid oid x l = rw (eqb-suc-zero (length l))

module _ (p : Profile) (limits : ProfileWithin p) (aim d : ℕ) where
  -- the packets w say what an event does, unless it is refused
  abbrev Heeded : List Octets → Option Aired → Type 0
  Heeded w a = is_refused a ≡ false → items_of aim d w ≡ items_by (change_aired (terms_of p 0) a d)

  refuse : (w : List Octets) → Heeded w None
  refuse w e = absurd (true≢false e)

  -- an activation opens connection 0, and a deactivation closes it
  activates : (a : Activation) (params : Octets) → TargetOk a → length params ≤ 32
      → items_of aim d (notice_packets (record { gid = 1; oid = 5; payload = activated_ntf a (terms_of p 0) params })) ≡ items_by (pick (eqb 0 d) (opens (terms_of p 0)) stays)
  activates a params target short =
      let t = terms_of p 0 in
      ap (items_of aim d) (notice_one 1 5 a.id _)
      ∙ items_notice aim d 1 5 (activated_ntf a t params) (omega arith) (omega arith) (Activated t)
      (says_activated aim a t params (round_trips.activated_written_law a t params target (terms_within p 0 limits) short))

  ends : (type reason : ℕ) → written 3 1 6 (deactivate_ntf type reason) ≡ true
      → items_of aim d (notice_packets (record { gid = 1; oid = 6; payload = deactivate_ntf type reason })) ≡ items_by (pick (eqb 0 d) closes stays)
  ends type reason w = items_notice aim d 1 6 (deactivate_ntf type reason) (omega arith) (omega arith) Deactivated (says_deactivated aim type reason w)

  pub items_aired : (rf : Rf) (ps : Pairs) (m : Octets) (e : Option Event) → Within m e → is_refused (aired_by rf ps e) ≡ false
      → items_of aim d (notice_packets (air_message p e m)) ≡ items_by (change_aired (terms_of p 0) (aired_by rf ps e) d)
  unfolding air_message aired_by items_of
  items_aired rf ps m None w = λ e. refl
  items_aired rf ps m (Some (Found a type)) w =
      let params = drop 5 m in
      let packets = notice_packets (record { gid = 1; oid = 3; payload = discover_ntf a type params }) in
      let none : items_of aim d packets ≡ [] =
      ap (items_of aim d) (notice_one 1 3 a.id _)
      ∙ items_notice aim d 1 3 (discover_ntf a type params) (omega arith) (omega arith) Nothing
      (says_found aim a type params (round_trips.discover_written_law a type params w.1 w.2 w.3 w.4)) in
      found_by_law (Heeded packets) (refuse packets) rf ps a type (λ h next l k e. none)
  items_aired rf ps m (Some (Poll a)) w =
      let packets = notice_packets (air_message p (Some (Poll a)) m) in
      poll_by_law (Heeded packets) (refuse packets) rf a
      (λ h l e. activates a (drop 4 m) (record { id = w.1; mode = rw w.2 }) w.3)
  items_aired rf ps m (Some (Listen a)) w =
      let packets = notice_packets (air_message p (Some (Listen a)) m) in
      listen_by_law (Heeded packets) (refuse packets) rf a
      (λ h l e. activates a (drop 4 m) (record { id = w.1; mode = rw w.2 (or-true (polls a.mode)) }) w.3)
  items_aired rf ps m (Some Failed) w =
      let packets = notice_packets (air_message p (Some Failed) m) in
      failed_by_law (Heeded packets) (refuse packets) rf
      (λ h next l k e. items_notice aim d 0 7 generic_error_ntf (omega arith) (omega arith) Nothing (says_error aim))
  items_aired rf ps m (Some Sleeps) w =
      let packets = notice_packets (air_message p (Some Sleeps) m) in
      on (Heeded packets) (is_listening rf) (λ h e. ends 0x01 0x01 round_trips.sleeps_written) (λ h. refuse packets)
  items_aired rf ps m (Some LinkLost) w =
      let packets = notice_packets (air_message p (Some LinkLost) m) in
      on (Heeded packets) (is_listening rf || is_asleep rf) (λ h e. ends 0x03 0x02 round_trips.lost_written) (λ h. refuse packets)
  items_aired rf ps m (Some Releases) w =
      let packets = notice_packets (air_message p (Some Releases) m) in
      on (Heeded packets) (is_listening rf) (λ h e. ends 0x03 0x01 round_trips.releases_written) (λ h. refuse packets)
  items_aired rf ps m (Some Endpoint) w = on (Heeded []) (is_active rf) (λ h e. refl) (λ h. refuse [])

-- ---- the credit notice: for each connection it has what was owed

-- two octets a connection at most
pub entries_few : (p : ℕ) (ns : List ℕ) → length (entries_from p ns) ≤ length ns + length ns
unfolding entries_from
entries_few p [] = omega arith
entries_few p (n ∷ ns) =
    let more = entries_few (suc p) ns in
    on (λ (x : Octets). length (x ++ entries_from (suc p) ns) ≤ suc (length ns) + suc (length ns)) (eqb n 0) (λ e. omega arith) (λ e. omega arith)

-- a notice that the host takes for written has no credits for any other Conn ID
other_id : (m : Octets) (c : ℕ) → no_conn c ≡ true → (n : ℕ) → entries_ok m n ≡ true → credits_in m n c ≡ 0
unfolding entries_ok credits_in
other_id m c out zero e = refl
other_id m c out (suc n) e =
    let at = every_at (entries_ok m n) (entry_ok m n ∷ (eqb n 0 || ltb (entry_id m (n - 1)) (entry_id m n)) ∷ []) e in
    let place = every_at (ltb (place_of (entry_id m n)) 5) (leb 1 (entry_credits m n) ∷ leb (entry_credits m n) 8 ∷ []) (at 1) in
    go (other_id m c out n (at 0)) (ltb-true (place_of (entry_id m n)) 5 (place 0)) (eqb (entry_id m n) c) refl
  where
    go : credits_in m n c ≡ 0 → place_of (entry_id m n) < 5 → (b : Bool) → eqb (entry_id m n) c ≡ b
        → credits_in m n c + pick b (entry_credits m n) 0 ≡ 0
    go before low true same =
        let here : place_of (entry_id m n) ≡ place_of c = ap place_of (eqb-true (entry_id m n) c same) in
        let none : 5 ≤ place_of c = leb-true 5 (place_of c) out in
        absurd (omega arith)
    go before low false same = omega arith

-- where not all are zero, one is not
some_owed : (l : List ℕ) → all_zero l ≡ false → (p : ℕ) × (1 ≤ get_or l p 0)
unfolding all_zero
some_owed [] z = absurd (true≢false z)
some_owed (n ∷ l) z = go (some_owed l) (eqb n 0) refl z
  where
    go : (all_zero l ≡ false → (p : ℕ) × (1 ≤ get_or l p 0)) → (b : Bool) → eqb n 0 ≡ b → (b && all_zero l) ≡ false
        → (p : ℕ) × (1 ≤ get_or (n ∷ l) p 0)
    go ih true e z = let q = ih z in (suc q.0, q.1)
    go ih false e z = let some = eqb-false n 0 e in (0, omega arith)

-- `owed` by Conn ID: at most 8 on each connection, and something on one of them
module _ (owed : ℕ → ℕ) (few : (d : ℕ) → no_conn d ≡ false → owed d ≤ 8) (some : all_zero (map owed ids) ≡ false) where
  at_most : (q : ℕ) → get_or (map owed ids) q 0 ≤ 8
  unfolding place_of
  at_most zero = few 0 refl
  at_most (suc zero) = few 2 refl
  at_most (suc (suc zero)) = few 3 refl
  at_most (suc (suc (suc zero))) = few 4 refl
  at_most (suc (suc (suc (suc zero)))) = few 5 refl
  at_most (suc (suc (suc (suc (suc q))))) = omega arith

  notice_written_law : written 3 0 6 (credits_ntf (map owed ids)) ≡ true
  notice_written_law = let q = some_owed (map owed ids) some in round_trips.credits_written_law (map owed ids) q.0 refl at_most q.1

  -- a connection's place in the list
  placed : (d : ℕ) → no_conn d ≡ false → (conn_of (place_of d) ≡ d) × (get_or (map owed ids) (place_of d) 0 ≡ owed d)
  unfolding place_of conn_of
  placed d =
      let Place : ℕ → Type 0 = λ (n : ℕ). leb 5 n ≡ false → (conn_of n ≡ d) × (get_or (map owed ids) n 0 ≡ owed d) in
      let is : (c : ℕ) → eqb d c ≡ true → c ≡ d = λ c e. sym (eqb-true d c e) in
      on Place (eqb d 0) (λ e z. (is 0 e, ap owed (is 0 e)))
      (λ e. on Place (eqb d 2) (λ e z. (is 2 e, ap owed (is 2 e)))
      (λ e. on Place (eqb d 3) (λ e z. (is 3 e, ap owed (is 3 e)))
      (λ e. on Place (eqb d 4) (λ e z. (is 4 e, ap owed (is 4 e)))
      (λ e. on Place (eqb d 5) (λ e z. (is 5 e, ap owed (is 5 e))) (λ e z. absurd (true≢false z))))))

  pub credits_owed : (d : ℕ) → no_conn d ≡ false → credits_for (credits_ntf (map owed ids)) d ≡ owed d
  credits_owed d conn =
      let at = placed d conn in
      ap (credits_for (credits_ntf (map owed ids))) (sym at.0)
      ∙ round_trips.credits_read (map owed ids) (place_of d) refl (leb-false 5 (place_of d) conn)
      ∙ at.1

  pub credits_other : (d : ℕ) → no_conn d ≡ true → credits_for (credits_ntf (map owed ids)) d ≡ 0
  unfolding written notice_of credits_written
  credits_other d out =
      let m = credits_ntf (map owed ids) in
      let k = get_or m 0 0 in
      let at = every_at (leb 1 k) (leb k 5 ∷ eqb (length m) (1 + 2 * k) ∷ entries_ok m k ∷ []) notice_written_law in
      other_id m d out k (at 3)

  pub says_credits : (aim : ℕ) → says aim 3 0 6 (credits_ntf (map owed ids)) ≡ Credits
  unfolding heard_written notice_of
  says_credits aim = rw notice_written_law

  credit_items : (aim d n : ℕ) → credits_for (credits_ntf (map owed ids)) d ≡ n
      → items_of aim d (notice_packet (record { gid = 0; oid = 6; payload = credits_ntf (map owed ids) }) ∷ []) ≡ items_by (given_to n)
  credit_items aim d n e =
      items_notice aim d 0 6 (credits_ntf (map owed ids)) (omega arith) (omega arith) Credits (says_credits aim)
      ∙ ap (λ (k : ℕ). items_by (given_to k)) e

  pub items_credit : (aim d : ℕ) → no_conn d ≡ false
      → items_of aim d (notice_packet (record { gid = 0; oid = 6; payload = credits_ntf (map owed ids) }) ∷ []) ≡ items_by (given_to (owed d))
  items_credit aim d conn = credit_items aim d (owed d) (credits_owed d conn)

  pub items_credit_other : (aim d : ℕ) → no_conn d ≡ true
      → items_of aim d (notice_packet (record { gid = 0; oid = 6; payload = credits_ntf (map owed ids) }) ∷ []) ≡ []
  items_credit_other aim d out = credit_items aim d 0 (credits_other d out)
