-- No set or get of the configuration changes any credits, on any bench: no packet of theirs is data or says credits, what is decided on them opens and closes
-- nothing, and what the host makes of their responses is that the command is answered.
-- Assumes nothing.
use Prim.Native.Nat.{ℕ, ◌<◌}
use native.Mathlib.Omega.{arith}
use mathlib.Core.Path.{◌≡◌, refl, sym, ap, ◌∙◌, subst}
use mathlib.Core.Logic.{◌⊎◌, inl, inr}
use mathlib.Core.Bool.{Bool, true, false, ◌||◌}
use mathlib.Core.List.{List, [], ◌∷◌, ◌++◌}
use lib.Dec.{eqb}
use lib.ListN.{length, get_or}
use borrow.Author.Tests.{eqb-true}
use Rattle.std.specs.Prelude.{Option, Ok, Err, None}
use Rattle.octets.specs.Octets.{Octets, pick}
use Rattle.packets.specs.Segments.{Segment, more, last, packets_of}
use Rattle.packets.specs.Headers.{control_header}
use Rattle.state.specs.Judgement.{Judgement}
use Rattle.state.specs.Conn.{flows}
use Rattle.state.specs.Commands.{command_of, aim_in}
use Rattle.state.proofs.Chains.{on, pick_same, and_left, and_right}
use Rattle.nfcc.specs.Controller.{judge_of}
use Rattle.nfcc.proofs.Verdicts.{Fits, judge_fits}
use Rattle.messages.specs.Layout.{response_of, response_message, notice_message}
use Rattle.messages.specs.Packets.{response_packet, notice_packets}
use Rattle.dh.specs.Contents.{notice_of, written}
use Rattle.dh.specs.Host.{answer_of, aim_of, heard_written, expected, hear_of}
use Rattle.ends.specs.Changes.{stays, change_by, change_heard}
use Rattle.wires.specs.Meaning.{Meaning, control, meaning}
use Rattle.wires.specs.Tally.{data_count, aimed_at, credits_said, credits_meant, credits_up}
use Rattle.wires.specs.Counted.{counted_up}
use Rattle.wires.proofs.Same.{same_up}
use Rattle.model.specs.Kinds.{Profile, Asked, Heard}
use Rattle.model.specs.Kinds.verdict as verdict
use Rattle.model.specs.Kinds.answer.{Done}
use Rattle.model.specs.Kinds.heard.{Nothing}
use Rattle.model.specs.Connection.{with_host, with_controller, owed_on}
use Rattle.model.specs.Changes.{at_controller, at_host}
use Rattle.model.specs.State.{State, is_open, with_down, with_up, with_asking, with_hearing}
use Rattle.model.specs.Effects.{command, down, up, Effect, Result, taken, refused}
use Rattle.model.specs.Refusals.{first}
use Rattle.model.specs.Runs.{run_after, whole_by, flag_by}
use Rattle.model.specs.calls.Report.{held_by, report_of}
use Rattle.model.specs.calls.Down.{answers, answering, arriving, taking_down}
use Rattle.model.specs.calls.Up.{hearing, coming, taking_up}
use Rattle.model.specs.Bench.{rules, judged, step}
use Rattle.model.specs.ConfigCredits.{is_config, AllCreditsKept}
use Rattle.model.proofs.Meanings.{meaning_response, data_count_append, data_count_segs, credits_up_append, segs_of_command}

-- ---- what is known of the two commands

-- what is heard changes no connection and has no credits
abbrev Still : Heard → Type 0
Still h = (m : Octets) (d : ℕ) → (change_heard h m d ≡ stays) × (credits_said d m h ≡ 0)

record Config (gid oid : ℕ) : Type 0 where
  low : gid < 16
  small : oid < 64
  -- a response answers its command and does nothing else, and no notification has their names
  answered : (aim : ℕ) (m : Octets) → answer_of (command_of gid oid) aim m ≡ Done
  notified : notice_of gid oid ≡ None
  -- neither of them opens or closes, and nothing follows the response
  still : (aim : ℕ) (p : Profile) (v : Judgement) → Fits gid oid aim p v → (d : ℕ) → change_by v d ≡ stays
  alone : (aim : ℕ) (p : Profile) (v : Judgement) → Fits gid oid aim p v → notice_packets (notice_message v) ≡ []

verdict_still : (oid aim : ℕ) (p : Profile) (v : Judgement) → (oid ≡ 2) ⊎ (oid ≡ 3) → Fits 0 oid aim p v → (d : ℕ) → change_by v d ≡ stays
verdict_still oid aim p (Err status) e f d = refl
verdict_still oid aim p (Ok (verdict.Resets type)) (inl e) f d = absurd (omega (arith, f.1))
verdict_still oid aim p (Ok (verdict.Resets type)) (inr e) f d = absurd (omega (arith, f.1))
verdict_still oid aim p (Ok verdict.Initialises) e f d = refl
verdict_still oid aim p (Ok (verdict.Opens c t)) (inl e) f d = absurd (omega (arith, f.1))
verdict_still oid aim p (Ok (verdict.Opens c t)) (inr e) f d = absurd (omega (arith, f.1))
verdict_still oid aim p (Ok (verdict.Closes c)) (inl e) f d = absurd (omega (arith, f.1))
verdict_still oid aim p (Ok (verdict.Closes c)) (inr e) f d = absurd (omega (arith, f.1))
verdict_still oid aim p (Ok (verdict.Turns rf)) e f d = refl
verdict_still oid aim p (Ok (verdict.Selects pair)) e f d = refl
verdict_still oid aim p (Ok (verdict.Deactivates type rf)) e f d = absurd (omega (arith, f.0))
verdict_still oid aim p (Ok verdict.SetsConfig) e f d = refl
verdict_still oid aim p (Ok verdict.GetsConfig) e f d = refl

verdict_alone : (oid aim : ℕ) (p : Profile) (v : Judgement) → (oid ≡ 2) ⊎ (oid ≡ 3) → Fits 0 oid aim p v → notice_packets (notice_message v) ≡ []
unfolding notice_message
verdict_alone oid aim p (Err status) e f = refl
verdict_alone oid aim p (Ok (verdict.Resets type)) (inl e) f = absurd (omega (arith, f.1))
verdict_alone oid aim p (Ok (verdict.Resets type)) (inr e) f = absurd (omega (arith, f.1))
verdict_alone oid aim p (Ok verdict.Initialises) e f = refl
verdict_alone oid aim p (Ok (verdict.Opens c t)) e f = refl
verdict_alone oid aim p (Ok (verdict.Closes c)) e f = refl
verdict_alone oid aim p (Ok (verdict.Turns rf)) e f = refl
verdict_alone oid aim p (Ok (verdict.Selects pair)) e f = refl
verdict_alone oid aim p (Ok (verdict.Deactivates type rf)) e f = absurd (omega (arith, f.0))
verdict_alone oid aim p (Ok verdict.SetsConfig) e f = refl
verdict_alone oid aim p (Ok verdict.GetsConfig) e f = refl

set_config : Config 0 2
unfolding answer_of command_of notice_of
set_config =
    record {
      low = omega arith;
      small = omega arith;
      answered = λ aim m. pick_same (eqb (get_or m 0 0) 0) Done;
      notified = refl;
      still = λ aim p v f d. verdict_still 2 aim p v (inl refl) f d;
      alone = λ aim p v f. verdict_alone 2 aim p v (inl refl) f;
    }

get_config : Config 0 3
unfolding answer_of command_of notice_of
get_config =
    record {
      low = omega arith;
      small = omega arith;
      answered = λ aim m. pick_same (eqb (get_or m 0 0) 0) Done;
      notified = refl;
      still = λ aim p v f d. verdict_still 3 aim p v (inr refl) f d;
      alone = λ aim p v f. verdict_alone 3 aim p v (inr refl) f;
    }

is_config_law : (gid oid : ℕ) → is_config gid oid ≡ true → Config gid oid
is_config_law gid oid e = go (eqb oid 2) refl (and_right (eqb gid 0) _ e)
  where
    core : gid ≡ 0
    core = eqb-true gid 0 (and_left (eqb gid 0) _ e)

    go : (b : Bool) → eqb oid 2 ≡ b → (b || eqb oid 3) ≡ true → Config gid oid
    go true o h = rw (core, eqb-true oid 2 o) set_config
    go false o h = rw (core, eqb-true oid 3 h) get_config

-- ---- what is heard of them

module _ (gid oid : ℕ) (k : Config gid oid) where
  written_still : (p : Option Asked) (mt : ℕ) (m : Octets) → Still (pick (written mt gid oid m) (heard_written p mt gid oid m) Nothing)
  unfolding heard_written
  written_still p mt m =
      on Still (written mt gid oid m)
      (λ _. on Still (eqb mt 2) (λ _. rw (k.answered (aim_of p) m) (λ n d. (refl, refl))) (λ _. rw k.notified (λ n d. (refl, refl))))
      (λ _ n d. (refl, refl))

  hear_still : (p : Option Asked) (mt : ℕ) (m : Octets) → Still (hear_of p mt gid oid m)
  unfolding hear_of
  hear_still p mt m = on Still (expected p mt gid oid) (λ _. written_still p mt m) (λ _ n d. (refl, refl))

  no_credits : (c mt : ℕ) (x : Segment) → credits_meant c (control mt gid oid x) ≡ 0
  no_credits c mt (more b) = refl
  no_credits c mt (last m) = on (λ (h : Heard). credits_said c m h ≡ 0) (eqb mt 1) (λ _. refl) (λ _. (written_still (aimed_at 0) mt m m c).1)

-- ---- what the five numbers go by

record Same (c : ℕ) (s t : State) : Type 0 where
  conn : t.conns c ≡ s.conns c
  on_down : data_count c t.down ≡ data_count c s.down
  on_up : counted_up c t.up ≡ counted_up c s.up

same_numbers : (c : ℕ) (s t : State) → Same c s t → report_of c t ≡ report_of c s
same_numbers c s t r =
    λ i.
    pick (flows (r.conn i).controller.grant) (held_by (r.conn i).host) 255
    ∷ r.on_down i
    ∷ length (r.conn i).controller.store
    ∷ owed_on (r.conn i).controller
    ∷ pick (flows (r.conn i).controller.grant) (r.on_up i) 0
    ∷ []

-- ---- the three calls, taken

module _ (s : State) (c gid oid : ℕ) (k : Config gid oid) where
  -- the packets of a command are no data
  put_same : (m : Octets) → Same c s (judged taken (command gid oid m) s).effect.next
  put_same m =
      let ps = packets_of (control_header 1 gid oid) s.host.size m in
      let none : data_count c ps ≡ 0 = data_count_segs c ps ∙ ap length (segs_of_command gid oid k.low k.small c s.host.size m) in
      record { conn = refl; on_down = omega (arith, data_count_append c s.down ps, none); on_up = refl }

  module _ (p : Octets) (w : List Octets) (mt : ℕ) (x : Segment) (means : meaning p ≡ control mt gid oid x) where
    -- a packet is taken from the down wire
    off_down : data_count c w ≡ data_count c (p ∷ w)
    unfolding data_count
    off_down = rw means (omega arith)

    -- the response has no credits in it
    answers_none : (b m : Octets) (v : Judgement) → Fits gid oid (aim_in m) s.profile v → counted_up c (s.up ++ answers gid oid s.profile b m v) ≡ counted_up c s.up
    unfolding credits_up
    answers_none b m v f =
        let r = response_packet (response_message gid oid s.profile b m v) in
        let rsp = response_of s.profile b m v in
        let none : credits_meant c (meaning r) ≡ 0 = rw (meaning_response gid oid k.low k.small rsp) (no_credits gid oid k c 2 (last rsp)) in
        let behind : credits_up c (s.up ++ (r ∷ [])) ≡ credits_up c s.up = omega (arith, credits_up_append c s.up (r ∷ []), none) in
        ap (λ (ns : List Octets). counted_up c (s.up ++ (r ∷ ns))) (k.alone (aim_in m) s.profile v f)
        ∙ same_up c (s.up ++ (r ∷ []))
        ∙ behind
        ∙ sym (same_up c s.up)

    abbrev Left : Effect → Type 0
    Left e = Same c (with_down (p ∷ w) s) e.next

    answering_same : (ms : List Octets) (b : Bool) → Left (answering gid oid ms b (with_asking (run_after s.asking 1 gid oid x) (with_down w s)))
    answering_same [] b = record { conn = refl; on_down = off_down; on_up = refl }
    answering_same (m ∷ ms) b =
        let v = judge_of s.profile s.controller (is_open s) gid oid m in
        let f = judge_fits s.profile s.controller (is_open s) gid oid m in
        let none = k.still (aim_in m) s.profile v f c in
        record {
          conn = λ i. with_controller (at_controller (none i) (s.conns c).controller) (s.conns c);
          on_down = off_down;
          on_up = answers_none s.config m v f;
        }

    down_same : Left (taking_down (p ∷ w) s)
    down_same =
        subst (λ (q : Meaning). Left (arriving q p (with_down w s))) (sym means)
        (on Left (eqb mt 1) (λ _. answering_same (whole_by s.asking 1 gid oid x) (flag_by s.asking 1 gid oid x)) (λ _. record { conn = refl; on_down = off_down; on_up = refl }))

    -- a packet is read from the up wire
    off_up : counted_up c w ≡ counted_up c (p ∷ w)
    unfolding credits_up
    off_up =
        let none : credits_meant c (meaning p) ≡ 0 = rw means (no_credits gid oid k c mt x) in
        let ahead : credits_up c w ≡ credits_up c (p ∷ w) = omega (arith, none) in
        same_up c w ∙ ahead ∙ sym (same_up c (p ∷ w))

    abbrev Read : Effect → Type 0
    Read e = Same c (with_up (p ∷ w) s) e.next

    hearing_same : (ms : List Octets) (b : Bool) → Read (hearing mt gid oid ms b (with_hearing (run_after s.hearing mt gid oid x) (with_up w s)))
    hearing_same [] b = record { conn = refl; on_down = refl; on_up = off_up }
    hearing_same (m ∷ ms) b =
        let none = (hear_still gid oid k s.host.pending mt m m c).0 in
        record { conn = λ i. with_host (at_host (none i) (s.conns c).host) (s.conns c); on_down = refl; on_up = off_up }

    up_same : Read (taking_up (p ∷ w) s)
    up_same =
        subst (λ (q : Meaning). Read (coming q (with_up w s))) (sym means)
        (on Read (eqb mt 1) (λ _. record { conn = refl; on_down = refl; on_up = off_up }) (λ _. hearing_same (whole_by s.hearing mt gid oid x) (flag_by s.hearing mt gid oid x)))

-- ---- every call of the three, on every bench

module _ (s : State) (c : ℕ) where
  put_kept : (gid oid : ℕ) (m : Octets) → is_config gid oid ≡ true → report_of c (step (command gid oid m) s).effect.next ≡ report_of c s
  unfolding step
  put_kept gid oid m e = go (first (rules (command gid oid m) s))
    where
      go : (r : Result) → report_of c (judged r (command gid oid m) s).effect.next ≡ report_of c s
      go taken = same_numbers c s _ (put_same s c gid oid (is_config_law gid oid e) m)
      go (refused n) = refl

  answered_kept : (p : Octets) (w : List Octets) (mt gid oid : ℕ) (x : Segment) → s.down ≡ p ∷ w → meaning p ≡ control mt gid oid x
      → is_config gid oid ≡ true → report_of c (step down s).effect.next ≡ report_of c s
  unfolding step
  answered_kept p w mt gid oid x there means e = go (first (rules down s))
    where
      here : Same c s (taking_down s.down s).next
      here = subst (λ (u : List Octets). Same c (with_down u s) (taking_down u s).next) (sym there) (down_same s c gid oid (is_config_law gid oid e) p w mt x means)

      go : (r : Result) → report_of c (judged r down s).effect.next ≡ report_of c s
      go taken = same_numbers c s _ here
      go (refused n) = refl

  heard_kept : (p : Octets) (w : List Octets) (mt gid oid : ℕ) (x : Segment) → s.up ≡ p ∷ w → meaning p ≡ control mt gid oid x
      → is_config gid oid ≡ true → report_of c (step up s).effect.next ≡ report_of c s
  unfolding step
  heard_kept p w mt gid oid x there means e = go (first (rules up s))
    where
      here : Same c s (taking_up s.up s).next
      here = subst (λ (u : List Octets). Same c (with_up u s) (taking_up u s).next) (sym there) (up_same s c gid oid (is_config_law gid oid e) p w mt x means)

      go : (r : Result) → report_of c (judged r up s).effect.next ≡ report_of c s
      go taken = same_numbers c s _ here
      go (refused n) = refl

pub all_credits_kept : AllCreditsKept
all_credits_kept s c = record { put = put_kept s c; answered = answered_kept s c; heard = heard_kept s c }
