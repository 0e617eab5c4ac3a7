-- What opens and closes a connection at either end, what gives it credits, and its counts after it.
-- Assumes nothing.
use Rattle.std.specs.Prelude.{ℕ, eqb, Option, Some, None, Ok, Err}
use Rattle.octets.specs.Octets.{Octets, pick}
use Rattle.ends.specs.Kinds.{Terms, Hand, HostSide, ControllerSide, Counts, Aired, Answer, Heard}
use Rattle.ends.specs.Kinds.verdict as verdict
use Rattle.ends.specs.Kinds.aired.{Goes, Activates, Ends, Speaks}
use Rattle.ends.specs.Kinds.answer.{Done, ClosesAll, Sized, Opens, Closes}
use Rattle.ends.specs.Kinds.heard.{Nothing, Dropped, Answered, Activated, Deactivated, Credits}
use Rattle.state.specs.Judgement.{Judgement}
use Rattle.state.specs.Conn.{empty, hand_with, closed_host, opened_host, closed_controller, opened_controller}
use Rattle.dh.specs.Host.{credits_for, credited}

-- what happens to a connection: nothing, it opens with terms, it closes, or credits are given
pub data Change : Type 0 where
  stays : Change
  opens : Terms → Change
  closes : Change
  gives : ℕ → Change

-- ---- what changes it

-- at the controller, by its verdict on a command
abbrev pub change_by : Judgement → ℕ → Change
change_by (Err status) d = stays
change_by (Ok (verdict.Resets type)) d = closes
change_by (Ok verdict.Initialises) d = stays
change_by (Ok (verdict.Opens c t)) d = pick (eqb c d) (opens t) stays
change_by (Ok (verdict.Closes c)) d = pick (eqb c d) closes stays
change_by (Ok (verdict.Turns rf)) d = stays
change_by (Ok (verdict.Selects pair)) d = stays
change_by (Ok (verdict.Deactivates type rf)) d = pick (eqb 0 d) closes stays
change_by (Ok verdict.SetsConfig) d = stays
change_by (Ok verdict.GetsConfig) d = stays

-- at the controller, by an event of the air: an activation opens connection 0 with the profile's terms
abbrev pub change_aired : Terms → Option Aired → ℕ → Change
change_aired t None d = stays
change_aired t (Some (Goes rf l)) d = stays
change_aired t (Some (Activates rf l)) d = pick (eqb 0 d) (opens t) stays
change_aired t (Some (Ends rf)) d = pick (eqb 0 d) closes stays
change_aired t (Some Speaks) d = stays

-- at the host, by what it heard
abbrev pub change_answered : Answer → ℕ → Change
change_answered Done d = stays
change_answered ClosesAll d = closes
change_answered (Sized n) d = stays
change_answered (Opens c t) d = pick (eqb c d) (opens t) stays
change_answered (Closes c) d = pick (eqb c d) closes stays

-- the credits of a notice for a connection
abbrev pub given_to : ℕ → Change
given_to n = pick (eqb n 0) stays (gives n)

abbrev pub change_heard : Heard → Octets → ℕ → Change
change_heard Nothing m d = stays
change_heard Dropped m d = stays
change_heard (Answered a) m d = change_answered a d
change_heard (Activated t) m d = pick (eqb 0 d) (opens t) stays
change_heard Deactivated m d = pick (eqb 0 d) closes stays
change_heard Credits m d = given_to (credits_for m d)

abbrev pub credits_of : Change → ℕ
credits_of stays = 0
credits_of (opens t) = 0
credits_of closes = 0
credits_of (gives n) = n

-- ---- its counts after a change

abbrev pub changed_controller : Change → ControllerSide → ControllerSide
changed_controller stays k = k
changed_controller (opens t) k = opened_controller t
changed_controller closes k = closed_controller
changed_controller (gives n) k = k

abbrev pub changed_host : Change → HostSide → HostSide
changed_host stays h = h
changed_host (opens t) h = opened_host t
changed_host closes h = closed_host
changed_host (gives n) h = credited h n

-- the counts of both ends after a change at one of them
abbrev pub counts_at_controller : Change → Counts → Counts
counts_at_controller x c = record { host = c.host; controller = changed_controller x c.controller }

abbrev pub counts_at_host : Change → Counts → Counts
counts_at_host x c = record { host = changed_host x c.host; controller = c.controller }

-- the endpoint's message in hand, by what happens to connection 0 at the controller: it opens and closes with none
abbrev pub endpoint_by : Change → Hand → Hand
endpoint_by stays h = h
endpoint_by (opens t) h = empty
endpoint_by closes h = empty
endpoint_by (gives n) h = h

-- and what the endpoint says, n octets
abbrev pub spoken_by : Option Aired → ℕ → Hand → Hand
spoken_by None n h = h
spoken_by (Some (Goes rf l)) n h = h
spoken_by (Some (Activates rf l)) n h = h
spoken_by (Some (Ends rf)) n h = h
spoken_by (Some Speaks) n h = hand_with n
