-- The laws of `specs/RoundTrips.antt`: octets that were made from fields are taken for written and read back as those fields, and octets that
-- are taken for written are made from the fields that are read.
-- Assumes nothing.
use Rattle.std.specs.Prelude.{Some}
use Prim.Native.Nat.{ℕ, suc, ◌+◌, ◌≤◌}
use mathlib.Core.Path.{◌≡◌, refl, sym, ap, ◌∙◌}
use mathlib.Core.Bool.{true}
use mathlib.Core.List.{[], ◌∷◌, ◌++◌}
use native.Mathlib.Omega.{arith}
use lib.ListN.{length, get_or, take, drop, length-take, length-drop, take-append-drop, drop_of_length-le}
use lib.Seq.{get_or-append-add, drop-drop}
use lib.Dec.{eqb}
use borrow.Author.Tests.{le-leb, eq-eqb, ne_eqb, eqb-true}
use Rattle.octets.specs.Octets.{Octets, cut}
use Rattle.ends.specs.Kinds.{Terms, Activation, Command}
use Rattle.ends.specs.Kinds.command as command
use Rattle.ends.specs.Kinds.notice as notice
use Rattle.ends.specs.Kinds.answer.{Done, ClosesAll, Sized, Opens, Closes}
use Rattle.ends.specs.Kinds.heard.{Nothing, Activated, Deactivated}
use Rattle.ends.specs.Kinds.event.{Found, Poll, Listen}
use Rattle.state.specs.Commands.{command_of}
use Rattle.state.specs.Radio.{polls, listens, id_ok}
use Rattle.messages.specs.Layout.{reset_ntf, init_rsp, create_rsp, generic_error_ntf, discover_ntf, activated_ntf, deactivate_ntf}
use Rattle.dh.specs.Contents.{notice_of, zeros, init_written, create_written, discover_written, activated_written, deactivate_written, written}
use Rattle.dh.specs.Host.{answer_of, noticed}
use Rattle.dh.proofs.Limits.{create_tests, activated_tests}
use Rattle.air.specs.Air.{found_in, poll_in, listen_in, event_of}
use Rattle.messages.proofs.Messages.{length_discover, length_activated}
use Rattle.state.proofs.Chains.{every_at, elements, elements_are}
use Rattle.ends.proofs.CreditNotice.{credits_written_law, credits_read}
use Rattle.ends.proofs.ConfigResponses.{set_written_law, set_listed, set_heard, get_written_law, get_shown, get_unavailable, get_heard}
use Rattle.ends.specs.RoundTrips.{TermsOk, TargetOk, create_terms, activated_target, activated_terms, activated_params, found_octets, active_octets, RoundTrips}

-- ---- responses of one octet

pub status_written : (gid oid status : ℕ) → (status ≡ 0 → ⊥) → written 2 gid oid (status ∷ []) ≡ true
unfolding written
status_written gid oid status h = rw (ne_eqb status 0 h)

pub status_read : (c : Command) (aim status : ℕ) → (status ≡ 0 → ⊥) → answer_of c aim (status ∷ []) ≡ Done
unfolding answer_of
status_read c aim status h = rw (ne_eqb status 0 h)

pub reset_written_law : written 2 0 0 (0x00 ∷ []) ≡ true
unfolding written command_of
reset_written_law = refl

pub reset_read : (aim : ℕ) → answer_of command.Reset aim (0x00 ∷ []) ≡ ClosesAll
unfolding answer_of
reset_read aim = refl

pub close_written : written 2 0 5 (0x00 ∷ []) ≡ true
unfolding written command_of
close_written = refl

pub close_read : (aim : ℕ) → answer_of command.ConnClose aim (0x00 ∷ []) ≡ Closes aim
unfolding answer_of
close_read aim = refl

pub rf_written : (written 2 1 3 (0x00 ∷ []) ≡ true) × (written 2 1 4 (0x00 ∷ []) ≡ true) × (written 2 1 6 (0x00 ∷ []) ≡ true)
unfolding written command_of
rf_written = (refl, refl, refl)

-- ---- CORE_INIT_RSP

pub init_written_law : (control : ℕ) → 32 ≤ control → written 2 0 1 (init_rsp control) ≡ true
unfolding written command_of init_written zeros
init_written_law control h = rw (le-leb 32 control h)

pub init_read : (control aim : ℕ) → answer_of command.Init aim (init_rsp control) ≡ Sized control
unfolding answer_of
init_read control aim = refl

-- ---- CORE_CONN_CREATE_RSP

pub create_written_law : (t : Terms) (id : ℕ) → TermsOk t → 2 ≤ id → id ≤ 5 → written 2 0 4 (create_rsp t id) ≡ true
unfolding written command_of create_written
create_written_law t id ok low high = rw (le-leb 1 t.payload ok.payload, ok.credits, le-leb 2 id low, le-leb id 5 high)

pub create_read : (t : Terms) (id aim : ℕ) → answer_of command.ConnCreate aim (create_rsp t id) ≡ Opens id t
unfolding answer_of
create_read t id aim = refl

-- the octets that are taken for written are those of the fields
pub create_back : (m : Octets) → create_written m ≡ true → create_rsp (create_terms m) (get_or m 3 0) ≡ m
create_back m h =
    let at = create_tests m h in
    let long : length m ≡ 4 = eqb-true (length m) 4 (at 0) in
    let ok : get_or m 0 0 ≡ 0 = eqb-true (get_or m 0 0) 0 (at 1) in
    let none : drop 4 m ≡ [] = drop_of_length-le m {i = 4} (omega arith) in
    (λ i. sym ok i ∷ get_or m 1 0 ∷ get_or m 2 0 ∷ get_or m 3 0 ∷ sym none i) ∙ elements_are m 4 0 (omega arith)

-- ---- notifications without effect

pub reset_noted : (type : ℕ) → type ≤ 1 → written 3 0 0 (reset_ntf type) ≡ true
unfolding written notice_of zeros
reset_noted type h = rw (le-leb type 1 h)

pub reset_heard : (type : ℕ) → noticed (Some notice.Reset) (reset_ntf type) ≡ Nothing
reset_heard type = refl

pub error_noted : written 3 0 7 generic_error_ntf ≡ true
unfolding written notice_of
error_noted = refl

pub error_heard : noticed (Some notice.GenericError) generic_error_ntf ≡ Nothing
error_heard = refl

-- ---- RF_DEACTIVATE_NTF

pub deactivate_written_law : (type : ℕ) → type ≤ 3 → written 3 1 6 (deactivate_ntf type 0x00) ≡ true
unfolding written notice_of deactivate_written
deactivate_written_law type h = rw (le-leb type 3 h)

pub sleeps_written : written 3 1 6 (deactivate_ntf 0x01 0x01) ≡ true
unfolding written notice_of deactivate_written
sleeps_written = refl

pub lost_written : written 3 1 6 (deactivate_ntf 0x03 0x02) ≡ true
unfolding written notice_of deactivate_written
lost_written = refl

pub releases_written : written 3 1 6 (deactivate_ntf 0x03 0x01) ≡ true
unfolding written notice_of deactivate_written
releases_written = refl

pub deactivate_heard : (type reason : ℕ) → noticed (Some notice.Deactivate) (deactivate_ntf type reason) ≡ Deactivated
deactivate_heard type reason = refl

-- ---- RF_DISCOVER_NTF and RF_INTF_ACTIVATED_NTF: fixed fields around the parameters

-- what stands after the parameters
tail_at : (head params tail : Octets) (k i : ℕ) → i ≡ length head + (length params + k) → get_or (head ++ (params ++ tail)) i 0 ≡ get_or tail k 0
tail_at head params tail k i e =
    ap (λ (j : ℕ). get_or (head ++ (params ++ tail)) j 0) e
    ∙ get_or-append-add head (params ++ tail) (length params + k) 0
    ∙ get_or-append-add params tail k 0

pub discover_written_law : (a : Activation) (type : ℕ) (params : Octets) → id_ok a.id ≡ true → polls a.mode ≡ true → type ≤ 2
    → length params ≤ 32 → written 3 1 3 (discover_ntf a type params) ≡ true
unfolding written notice_of discover_written
discover_written_law a type params named polling kind short =
    let head : Octets = a.id ∷ a.protocol ∷ a.mode ∷ length params ∷ [] in
    let last : get_or (discover_ntf a type params) (4 + length params) 0 ≡ type = tail_at head params (type ∷ []) 0 (4 + length params) (omega arith) in
    rw (named, polling, le-leb (length params) 32 short, eq-eqb _ _ (length_discover a type params), last, le-leb type 2 kind)

pub activated_written_law : (a : Activation) (t : Terms) (params : Octets) → TargetOk a → TermsOk t → length params ≤ 32
    → written 3 1 5 (activated_ntf a t params) ≡ true
unfolding written notice_of activated_written zeros
activated_written_law a t params target terms short =
    let head : Octets = a.id ∷ 0x01 ∷ a.protocol ∷ a.mode ∷ t.payload ∷ t.credits ∷ length params ∷ [] in
    let tail : Octets = a.mode ∷ 0x00 ∷ 0x00 ∷ 0x00 ∷ [] in
    let m = activated_ntf a t params in
    let n = length params in
    let mode : get_or m (7 + n) 0 ≡ a.mode = tail_at head params tail 0 (7 + n) (omega arith) in
    let first : get_or m (8 + n + 0) 0 ≡ 0 = tail_at head params tail 1 (8 + n + 0) (omega arith) in
    let second : get_or m (8 + n + 1) 0 ≡ 0 = tail_at head params tail 2 (8 + n + 1) (omega arith) in
    let third : get_or m (8 + n + 2) 0 ≡ 0 = tail_at head params tail 3 (8 + n + 2) (omega arith) in
    rw (
      target.id,
      target.mode,
      le-leb 1 t.payload terms.payload,
      terms.credits,
      le-leb n 32 short,
      eq-eqb _ _ (length_activated a t params),
      eq-eqb _ _ mode,
      first,
      second,
      third,
    )

pub activated_heard : (a : Activation) (t : Terms) (params : Octets) → noticed (Some notice.Activated) (activated_ntf a t params) ≡ Activated t
activated_heard a t params = refl

pub activated_back : (m : Octets) → activated_written m ≡ true
    → activated_ntf (activated_target m) (activated_terms m) (activated_params m) ≡ m
unfolding zeros cut
activated_back m h =
    let n = get_or m 6 0 in
    let at = activated_tests m h in
    let rest =
    every_at true
    (eqb (get_or m (8 + n + 0) 0) 0x00 ∷ eqb (get_or m (8 + n + 1) 0) 0x00 ∷ eqb (get_or m (8 + n + 2) 0) 0x00 ∷ []) (at 8) in
    let interface : get_or m 1 0 ≡ 1 = eqb-true (get_or m 1 0) 1 (at 1) in
    let long : length m ≡ 11 + n = eqb-true (length m) (11 + n) (at 6) in
    let mode : get_or m (7 + n) 0 ≡ get_or m 3 0 = eqb-true (get_or m (7 + n) 0) (get_or m 3 0) (at 7) in
    let count : length (take n (drop 7 m)) ≡ n = simp (length-take, length-drop) (omega arith) in
    let place : (i j : ℕ) → i ≡ j → get_or m i 0 ≡ get_or m j 0 = λ i j e. ap (λ (k : ℕ). get_or m k 0) e in
    let second : get_or m (suc (7 + n)) 0 ≡ 0 = place (suc (7 + n)) (8 + n + 0) (omega arith) ∙ eqb-true (get_or m (8 + n + 0) 0) 0 (rest 1) in
    let third : get_or m (suc (suc (7 + n))) 0 ≡ 0 = place (suc (suc (7 + n))) (8 + n + 1) (omega arith) ∙ eqb-true (get_or m (8 + n + 1) 0) 0 (rest 2) in
    let fourth : get_or m (suc (suc (suc (7 + n)))) 0 ≡ 0 = place (suc (suc (suc (7 + n)))) (8 + n + 2) (omega arith) ∙ eqb-true (get_or m (8 + n + 2) 0) 0 (rest 3) in
    let none : drop (7 + n + 4) m ≡ [] = drop_of_length-le m {i = 7 + n + 4} (omega arith) in
    let tail : (get_or m 3 0 ∷ 0x00 ∷ 0x00 ∷ 0x00 ∷ []) ≡ drop n (drop 7 m) =
    (λ i. sym mode i ∷ sym second i ∷ sym third i ∷ sym fourth i ∷ sym none i)
    ∙ elements_are m 4 (7 + n) (omega arith)
    ∙ sym (drop-drop n 7 m) in
    (λ i.
    get_or m 0 0 ∷ sym interface i ∷ get_or m 2 0 ∷ get_or m 3 0 ∷ get_or m 4 0 ∷ get_or m 5 0 ∷ count i ∷ (take n (drop 7 m) ++ tail i))
    ∙ ap (λ (t : Octets). elements m 0 7 ++ t) (take-append-drop n (drop 7 m))
    ∙ elements_are m 7 0 (omega arith)

-- ---- the events of the air

pub found_read : (a : Activation) (type : ℕ) (params : Octets) → id_ok a.id ≡ true → polls a.mode ≡ true → type ≤ 2
    → length params ≤ 32 → event_of (found_octets a type params) ≡ Some (Found a type)
unfolding event_of found_in
found_read a type params named polling kind short =
    rw (le-leb 5 (length (found_octets a type params)) (omega arith), le-leb (length (found_octets a type params)) 37 (omega arith), named, polling, le-leb type 2 kind)

pub poll_read : (a : Activation) (params : Octets) → id_ok a.id ≡ true → polls a.mode ≡ true → length params ≤ 32
    → event_of (active_octets 2 a params) ≡ Some (Poll a)
unfolding event_of poll_in
poll_read a params named polling short =
    rw (le-leb 4 (length (active_octets 2 a params)) (omega arith), le-leb (length (active_octets 2 a params)) 36 (omega arith), named, polling)

pub listen_read : (a : Activation) (params : Octets) → id_ok a.id ≡ true → listens a.mode ≡ true → length params ≤ 32
    → event_of (active_octets 3 a params) ≡ Some (Listen a)
unfolding event_of listen_in
listen_read a params named listening short =
    rw (le-leb 4 (length (active_octets 3 a params)) (omega arith), le-leb (length (active_octets 3 a params)) 36 (omega arith), named, listening)

-- ---- all of them

pub round_trips : RoundTrips
round_trips =
    record {
      status_written = status_written;
      status_read = status_read;
      reset_written_law = reset_written_law;
      reset_read = reset_read;
      close_written = close_written;
      close_read = close_read;
      rf_written = rf_written;
      init_written_law = init_written_law;
      init_read = init_read;
      create_written_law = create_written_law;
      create_read = create_read;
      create_back = create_back;
      set_written_law = set_written_law;
      set_listed = set_listed;
      set_read = set_heard;
      get_written_law = get_written_law;
      get_shown = get_shown;
      get_unavailable = get_unavailable;
      get_read = get_heard;
      reset_noted = reset_noted;
      reset_heard = reset_heard;
      error_noted = error_noted;
      error_heard = error_heard;
      credits_written_law = credits_written_law;
      credits_read = credits_read;
      discover_written_law = discover_written_law;
      activated_written_law = activated_written_law;
      activated_heard = activated_heard;
      activated_back = activated_back;
      deactivate_written_law = deactivate_written_law;
      sleeps_written = sleeps_written;
      lost_written = lost_written;
      releases_written = releases_written;
      deactivate_heard = deactivate_heard;
      found_read = found_read;
      poll_read = poll_read;
      listen_read = listen_read;
    }
