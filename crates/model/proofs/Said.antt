-- What the messages on the up wire say: the terms of an opening are the profile's for that connection, and the payload size of an INIT response is within
-- its limits.
-- Assumes nothing.
use Rattle.std.specs.Prelude.{Option, Some, None}
use Prim.Native.Nat.{ℕ, ◌≤◌, ◌<◌}
use native.Mathlib.Omega.{arith}
use mathlib.Core.Path.{◌≡◌, refl, sym, subst}
use mathlib.Core.Bool.{true, false}
use mathlib.Core.List.{List, [], ◌∷◌, ◌++◌}
use lib.Dec.{eqb}
use lib.ListN.{length, get_or, drop}
use Rattle.std.specs.Prelude.{Option, Ok, Err}
use Rattle.octets.specs.Octets.{Octets, pick}
use Rattle.packets.specs.Segments.{Segment, more, last}
use Rattle.model.specs.Kinds.{Profile, Asked, Command, Event, Answer, Heard}
use Rattle.model.specs.Kinds.command.{Reset, Init, ConnCreate, ConnClose, Discover, Select, Deactivate, Unknown, SetConfig, GetConfig}
use Rattle.model.specs.Kinds.verdict as verdict
use Rattle.model.specs.Kinds.event.{Found, Poll, Listen, Failed, Sleeps, LinkLost, Releases, Endpoint}
use Rattle.model.specs.Kinds.answer.{Done, ClosesAll, Sized, Opens, Closes}
use Rattle.model.specs.Kinds.heard.{Nothing, Dropped, Answered, Activated, Deactivated, Credits}
use Rattle.state.specs.Judgement.{Judgement}
use Rattle.state.specs.Conn.{place_of, terms_of}
use Rattle.state.specs.Commands.{command_of}
use Rattle.state.specs.Profile.{ProfileWithin}
use Rattle.messages.specs.Layout.{reset_ntf, credits_ntf, generic_error_ntf, discover_ntf, activated_ntf, deactivate_ntf, response_of, notice_message}
use Rattle.dh.specs.Contents.{written, notice_of}
use Rattle.dh.specs.Host.{answer_of, ok_answer, aim_of, noticed, heard_written, expected, hear_of, credits_for}
use Rattle.air.specs.Air.{air_message}
use Rattle.state.proofs.Chains.{on}
use Rattle.wires.specs.Meaning.{Meaning, datum, control, junk, meaning}
use Rattle.wires.specs.Tally.{aimed_at, says}
use Rattle.messages.specs.Packets.{notice_packet, notice_packets}
use Rattle.model.specs.Refusals.{no_conn}
use Rattle.ends.specs.Changes.{stays, opens, change_heard}
use Rattle.model.specs.calls.Down.{answers}
use Rattle.nfcc.proofs.Verdicts.{Fits}
use Rattle.model.proofs.Meanings.{meaning_notice}
use Rattle.model.proofs.Messages.{answered_by, Answerable, says_response, meaning_answer}
use Rattle.model.proofs.Cases.{each}
use Rattle.model.proofs.Fine.{ChangeOk}
use Rattle.model.proofs.DownAnswer.{dynamic_conn}

-- ---- what is heard

abbrev DueAnswer : Profile → Answer → Type 0
DueAnswer p Done = Unit {0}
DueAnswer p ClosesAll = Unit {0}
DueAnswer p (Sized n) = (32 ≤ n) × (n ≤ 255)
DueAnswer p (Opens c t) = (no_conn c ≡ false) × (t ≡ terms_of p c)
DueAnswer p (Closes c) = Unit {0}

abbrev pub Due : Profile → Heard → Type 0
Due p Nothing = Unit {0}
Due p Dropped = Unit {0}
Due p (Answered a) = DueAnswer p a
Due p (Activated t) = t ≡ terms_of p 0
Due p Deactivated = Unit {0}
Due p Credits = Unit {0}

abbrev SaidIn : Profile → Meaning → Type 0
SaidIn p (datum c n x) = Unit {0}
SaidIn p (control mt gid oid (more b)) = Unit {0}
SaidIn p (control mt gid oid (last m)) = Due p (says 0 mt gid oid m)
SaidIn p junk = Unit {0}

unfoldable pub Said : Profile → List Octets → Type 0
Said p [] = Unit {0}
Said p (o ∷ w) = SaidIn p (meaning o) × Said p w

pub said_append : (p : Profile) (a b : List Octets) → Said p a → Said p b → Said p (a ++ b)
unfolding Said
said_append p [] b h k = k
said_append p (o ∷ a) b h k = (h.0, said_append p a b h.1 k)

-- ---- which connection a CONN_CLOSE named makes no difference

ok_due : (r : Profile) (c : Command) (a b : ℕ) (m : Octets) → DueAnswer r (ok_answer c a m) → DueAnswer r (ok_answer c b m)
ok_due r Reset a b m h = h
ok_due r Init a b m h = h
ok_due r ConnCreate a b m h = h
ok_due r ConnClose a b m h = h
ok_due r Discover a b m h = h
ok_due r Select a b m h = h
ok_due r Deactivate a b m h = h
ok_due r Unknown a b m h = h
ok_due r SetConfig a b m h = h
ok_due r GetConfig a b m h = h

written_due : (r : Profile) (p q : Option Asked) (mt gid oid : ℕ) (m : Octets) → Due r (heard_written p mt gid oid m) → Due r (heard_written q mt gid oid m)
unfolding heard_written answer_of
written_due r p q mt gid oid m =
    elim (eqb mt 2) as (λ b. Due r (pick b (Answered (answer_of (command_of gid oid) (aim_of p) m)) (noticed (notice_of gid oid) m))
    → Due r (pick b (Answered (answer_of (command_of gid oid) (aim_of q) m)) (noticed (notice_of gid oid) m))) [
      | true ↦ elim (eqb (get_or m 0 0) 0) as (λ b. DueAnswer r (pick b (ok_answer (command_of gid oid) (aim_of p) m) Done)
          → DueAnswer r (pick b (ok_answer (command_of gid oid) (aim_of q) m) Done)) [ true ↦ ok_due r (command_of gid oid) (aim_of p) (aim_of q) m | false ↦ λ h. h ]
      | false ↦ λ h. h
    ]

understood_due : (r : Profile) (p q : Option Asked) (mt gid oid : ℕ) (m : Octets) → Due r (pick (written mt gid oid m) (heard_written p mt gid oid m) Nothing)
    → Due r (pick (written mt gid oid m) (heard_written q mt gid oid m) Nothing)
understood_due r p q mt gid oid m =
    elim (written mt gid oid m) as (λ b. Due r (pick b (heard_written p mt gid oid m) Nothing) → Due r (pick b (heard_written q mt gid oid m) Nothing))
    [ true ↦ written_due r p q mt gid oid m | false ↦ λ h. h ]

-- what the host hears is what the packet says
pub hear_due : (r : Profile) (p : Option Asked) (mt gid oid : ℕ) (m : Octets) → Due r (says 0 mt gid oid m) → Due r (hear_of p mt gid oid m)
unfolding hear_of
hear_due r p mt gid oid m h = on (Due r) (expected p mt gid oid) (λ e. understood_due r (aimed_at 0) p mt gid oid m h) (λ e. tt)

-- ---- what the controller puts up

verdict_due : (p : Profile) (gid oid aim : ℕ) (v : Judgement) → ProfileWithin p → Fits gid oid aim p v → DueAnswer p (answered_by p v)
verdict_due p gid oid aim (Err status) l f = tt
verdict_due p gid oid aim (Ok (verdict.Resets type)) l f = tt
verdict_due p gid oid aim (Ok verdict.Initialises) l f = (l.control_least, l.control_most)
verdict_due p gid oid aim (Ok (verdict.Opens c t)) l f = (dynamic_conn c f.2 f.3, f.4)
verdict_due p gid oid aim (Ok (verdict.Closes c)) l f = tt
verdict_due p gid oid aim (Ok (verdict.Turns rf)) l f = tt
verdict_due p gid oid aim (Ok (verdict.Selects pair)) l f = tt
verdict_due p gid oid aim (Ok (verdict.Deactivates type rf)) l f = tt
verdict_due p gid oid aim (Ok verdict.SetsConfig) l f = tt
verdict_due p gid oid aim (Ok verdict.GetsConfig) l f = tt

notice_said : (p : Profile) (gid oid : ℕ) (m : Octets) → gid < 16 → oid < 64 → Due p (noticed (notice_of gid oid) m)
    → Said p (notice_packet (record { gid = gid; oid = oid; payload = m }) ∷ [])
unfolding Said heard_written
notice_said p gid oid m low small h =
    rw (meaning_notice gid oid low small m) (on (Due p) (written 3 gid oid m) (λ e. h) (λ e. tt), tt)

notices_said : (p : Profile) (gid oid : ℕ) (m : Octets) → gid < 16 → oid < 64 → Due p (noticed (notice_of gid oid) m)
    → Said p (notice_packets (record { gid = gid; oid = oid; payload = m }))
unfolding Said
notices_said p gid oid m low small h = on (Said p) (eqb (length m) 0) (λ e. tt) (λ e. notice_said p gid oid m low small h)

after_said : (p : Profile) (v : Judgement) → Said p (notice_packets (notice_message v))
unfolding notice_message notice_of Said
after_said p (Err status) = tt
after_said p (Ok (verdict.Resets type)) = notices_said p 0 0 (reset_ntf type) (omega arith) (omega arith) tt
after_said p (Ok verdict.Initialises) = tt
after_said p (Ok (verdict.Opens c t)) = tt
after_said p (Ok (verdict.Closes c)) = tt
after_said p (Ok (verdict.Turns rf)) = tt
after_said p (Ok (verdict.Selects pair)) = tt
after_said p (Ok (verdict.Deactivates type rf)) = notices_said p 1 6 (deactivate_ntf type 0x00) (omega arith) (omega arith) tt
after_said p (Ok verdict.SetsConfig) = tt
after_said p (Ok verdict.GetsConfig) = tt

pub answers_said : (p : Profile) (gid oid aim : ℕ) (b m : Octets) (v : Judgement) → ProfileWithin p → Fits gid oid aim p v → Answerable b m v → gid < 16 → oid < 64
    → Said p (answers gid oid p b m v)
unfolding Said
answers_said p gid oid aim b m v l f a low small = (
  rw (meaning_answer gid oid p b m v low small)
      (understood_due p (aimed_at aim) (aimed_at 0) 2 gid oid (response_of p b m v)
      (subst (Due p) (sym (says_response p l aim b m gid oid v f a)) (verdict_due p gid oid aim v l f))),
  after_said p v,
)

pub air_said : (p : Profile) (m : Octets) (e : Option Event) → Said p (notice_packets (air_message p e m))
unfolding air_message notice_of Said
air_said p m None = tt
air_said p m (Some (Found a type)) = notices_said p 1 3 (discover_ntf a type (drop 5 m)) (omega arith) (omega arith) tt
air_said p m (Some (Poll a)) = notices_said p 1 5 (activated_ntf a (terms_of p 0) (drop 4 m)) (omega arith) (omega arith) refl
air_said p m (Some (Listen a)) = notices_said p 1 5 (activated_ntf a (terms_of p 0) (drop 4 m)) (omega arith) (omega arith) refl
air_said p m (Some Failed) = notices_said p 0 7 generic_error_ntf (omega arith) (omega arith) tt
air_said p m (Some Sleeps) = notices_said p 1 6 (deactivate_ntf 0x01 0x01) (omega arith) (omega arith) tt
air_said p m (Some LinkLost) = notices_said p 1 6 (deactivate_ntf 0x03 0x02) (omega arith) (omega arith) tt
air_said p m (Some Releases) = notices_said p 1 6 (deactivate_ntf 0x03 0x01) (omega arith) (omega arith) tt
air_said p m (Some Endpoint) = tt

pub credit_said : (p : Profile) (ns : List ℕ) → Said p (notice_packet (record { gid = 0; oid = 6; payload = credits_ntf ns }) ∷ [])
unfolding notice_of
credit_said p ns = notice_said p 0 6 (credits_ntf ns) (omega arith) (omega arith) tt

pub data_said : (p : Profile) (o : Octets) (c n : ℕ) (x : Segment) → meaning o ≡ datum c n x → Said p (o ∷ [])
unfolding Said
data_said p o c n x means = rw means (tt, tt)

-- ---- what it does at the host

answered_opens : (p : Profile) (a : Answer) (m : Octets) (d : ℕ) → DueAnswer p a → ChangeOk p d (change_heard (Answered a) m d)
answered_opens p Done m d h = tt
answered_opens p ClosesAll m d h = tt
answered_opens p (Sized n) m d h = tt
answered_opens p (Opens c t) m d h = each c (λ d b. ChangeOk p d (pick b (opens t) stays)) h (λ d. tt) d
answered_opens p (Closes c) m d h = on (ChangeOk p d) (eqb c d) (λ e. tt) (λ e. tt)

pub heard_opens : (p : Profile) (h : Heard) (m : Octets) (d : ℕ) → Due p h → ChangeOk p d (change_heard h m d)
unfolding place_of
heard_opens p Nothing m d b = tt
heard_opens p Dropped m d b = tt
heard_opens p (Answered a) m d b = answered_opens p a m d b
heard_opens p (Activated t) m d b = each 0 (λ d b. ChangeOk p d (pick b (opens t) stays)) (refl, b) (λ d. tt) d
heard_opens p Deactivated m d b = on (ChangeOk p d) (eqb 0 d) (λ e. tt) (λ e. tt)
heard_opens p Credits m d b = on (ChangeOk p d) (eqb (credits_for m d) 0) (λ e. tt) (λ e. tt)
