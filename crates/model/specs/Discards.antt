-- What a response discards from hand at the host (change 8): a message that the answer to a RESET or a CONN_CLOSE discards was taken
-- before that command. What is in hand is known from a diary of the calls, kept beside demand 3's account and like it: from sends, pushes
-- and what the host read, never from the bench's own numbers.
-- Assumes nothing.
use Rattle.std.specs.Prelude.{ℕ, ◌+◌, ◌-◌, ◌<◌, ◌≡◌, ◌↔◌, true, false, List, [], ◌∷◌, length}
use Rattle.octets.specs.Octets.{Octets}
use Rattle.packets.specs.Types.{mt_response}
use Rattle.packets.specs.Segments.{Segment, segments}
use Rattle.state.specs.Profile.{profile_in, profile_octets_ok}
use Rattle.dh.specs.Host.{is_closer}
use Rattle.wires.specs.Meaning.{control, meaning}
use Rattle.ends.specs.Changes.{Change, stays, opens, closes, gives}
use Rattle.model.specs.State.{State, at, cold}
use Rattle.model.specs.Effects.{Call, fresh, power, command, send, push, down, consume, credit, air, reply, up, report, Result, taken, refused}
use Rattle.model.specs.Refusals.{no_conn, full}
use Rattle.model.specs.Bench.{step}
use Rattle.model.specs.Observer.{Event, Account, opening, observe, observed, change_in, events, after}

-- ---- the diary

-- of a connection at the host: the payload that the host read with its opening, the segments of the message in hand that are still to be
-- pushed, and the place in the list of the send that took it
pub record Hand : Type 0 where
  pub payload : ℕ
  pub left : ℕ
  pub sent_at : ℕ

pub record Diary : Type 0 where
  -- how many calls there were, refused ones too: the place of the next
  pub calls : ℕ
  -- the last command that was taken: its place in the list, its GID and its OID
  pub command_at : ℕ
  pub gid : ℕ
  pub oid : ℕ
  -- by Conn ID
  pub hand : ℕ → Hand

abbrev pub nothing : Hand
nothing = record { payload = 0; left = 0; sent_at = 0 }

abbrev pub first_page : Diary
first_page = record { calls = 0; command_at = 0; gid = 0; oid = 0; hand = λ d. nothing }

abbrev pub with_hands : (ℕ → Hand) → Diary → Diary
with_hands g n = record { calls = n.calls; command_at = n.command_at; gid = n.gid; oid = n.oid; hand = g }

-- the message m is taken by the send at this place: all its segments are still to go
abbrev pub hand_sent : ℕ → Octets → Hand → Hand
hand_sent place m h = record { payload = h.payload; left = length (segments h.payload m); sent_at = place }

abbrev pub hand_pushed : Hand → Hand
hand_pushed h = record { payload = h.payload; left = h.left - 1; sent_at = h.sent_at }

-- what the host reads: an opening states the payload, a closing discards what is in hand
abbrev pub hand_by : Change → Hand → Hand
hand_by stays h = h
hand_by (opens t) h = record { payload = t.payload; left = 0; sent_at = 0 }
hand_by closes h = nothing
hand_by (gives n) h = h

abbrev pub hand_heard : ℕ → ℕ → List Octets → Hand → Hand
hand_heard aim d [] h = h
hand_heard aim d (p ∷ w) h = hand_by (change_in aim d (meaning p)) h

-- a call that is taken, where o is the account of those before it
abbrev pub noted : Call → Account → Diary → Diary
noted (fresh m) o n = with_hands (λ d. nothing) n
noted power o n = with_hands (λ d. nothing) n
noted (command gid oid m) o n = record { calls = n.calls; command_at = n.calls; gid = gid; oid = oid; hand = n.hand }
noted (send c m) o n = with_hands (at c (hand_sent n.calls m) n.hand) n
noted (push c) o n = with_hands (at c hand_pushed n.hand) n
noted down o n = n
noted (consume c) o n = n
noted credit o n = n
noted (air m) o n = n
noted reply o n = n
noted up o n = with_hands (λ d. hand_heard o.aim d o.up (n.hand d)) n
noted (report c) o n = n

abbrev pub noted_as : Result → Call → Account → Diary → Diary
noted_as taken c o n = noted c o n
noted_as (refused k) c o n = n

-- every call has its place, taken or not
abbrev pub turned : Diary → Diary
turned n = record { calls = n.calls + 1; command_at = n.command_at; gid = n.gid; oid = n.oid; hand = n.hand }

abbrev pub note : Event → Account → Diary → Diary
note e o n = turned (noted_as e.answer e.call o n)

unfoldable pub diary : List Event → Account → Diary → Diary
diary [] o n = n
diary (e ∷ es) o n = diary es (observe e o) (note e o n)

-- the diary of a list from fresh on
abbrev pub diary_of : List Event → Diary
diary_of es = diary es opening first_page

-- ---- the claim

-- of the diary n of a list of calls, and of the connection d that the packet which `up` reads next, a response with this GID and OID,
-- closes at the host
pub record Discards (n : Diary) (gid oid d : ℕ) : Type 0 where
  -- the last command that was taken is the one that it answers, a RESET or a CONN_CLOSE
  pub answers : (n.gid ≡ gid) × (n.oid ≡ oid)
  pub closing : is_closer gid oid ≡ true
  -- a message that is in hand there was taken before that command
  pub before : 0 < (n.hand d).left → (n.hand d).sent_at < n.command_at

-- with o the account of the calls: p is first on the up wire
abbrev pub TakenBefore : Account → Diary → Type 0
TakenBefore o n =
    (p : Octets) (w : List Octets) (gid oid : ℕ) (x : Segment) (d : ℕ)
    → o.up ≡ p ∷ w → meaning p ≡ control mt_response gid oid x → change_in o.aim d (meaning p) ≡ closes → Discards n gid oid d

-- the diary is true of a bench on which push answers so: where a connection is open at the host and the down wire has room, it finds
-- nothing to move exactly where the diary has nothing in hand
abbrev pub HandsTold : (ℕ → Result) → Account → Diary → Type 0
HandsTold pushing o n =
    (c : ℕ) → no_conn c ≡ false → full 1 o.down ≡ false → (o.ledger c).host.opened ≡ true → (pushing c ≡ refused 8) ↔ ((n.hand c).left ≡ 0)

-- with s the bench after the calls
pub record DiscardClaim (s : State) (o : Account) (n : Diary) : Type 0 where
  pub discards : TakenBefore o n
  pub told : HandsTold (λ c. (step (push c) s).answer) o n

-- for every profile that fresh takes and every list of calls
abbrev pub AllDiscards : Type 0
AllDiscards =
    (profile : Octets) → profile_octets_ok profile ≡ true → (calls : List Call)
    → DiscardClaim (after calls (cold (profile_in profile))) (observed (events calls (cold (profile_in profile))) opening)
    (diary_of (events calls (cold (profile_in profile))))
