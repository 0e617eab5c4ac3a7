-- Counted by headers or by what every message says, packets have the same credits.
-- Assumes nothing.
use Prim.Native.Nat.{ℕ, zero, suc, ◌+◌, ◌<◌}
use native.Mathlib.Omega.{arith}
use mathlib.Core.Path.{◌≡◌, refl, sym, ap, ◌∙◌}
use mathlib.Core.Bool.{Bool, true, false, ◌&&◌, ◌||◌, not, false≢true}
use mathlib.Core.List.{List, [], ◌∷◌}
use lib.ListN.{length, get_or}
use lib.Dec.{eqb}
use borrow.Author.Tests.{eqb-true, eq-eqb}
use Rattle.octets.specs.Octets.{Octets, pick}
use Rattle.octets.proofs.Octets.{length_cut}
use Rattle.packets.specs.declared.Header.{Header}
use Rattle.std.specs.Prelude.{Some, None, Option}
use Rattle.packets.specs.Packet.{Reading, read_of, payload_of}
use Rattle.packets.specs.Segments.{segment}
use Rattle.packets.proofs.Packet.{read_facts, read_ranged}
use Rattle.state.specs.declared.commands.Command.{Command}
use Rattle.state.specs.declared.commands.Command.TheVariants as command
use Rattle.state.specs.Commands.{command_of}
use Rattle.state.proofs.Chains.{on}
use Rattle.dh.specs.declared.contents.Notice.{Notice}
use Rattle.dh.specs.declared.contents.Notice.TheVariants as notice
use Rattle.dh.specs.declared.host.Answer.TheVariants.{Done}
use Rattle.dh.specs.declared.host.Heard.TheVariants.{Nothing, Answered}
use Rattle.dh.specs.Contents.{notice_of, create_written, notice_written, status_alone, ok_written, written}
use Rattle.dh.specs.Host.{ok_answer, answer_of, noticed, heard_written}
use Rattle.dh.proofs.Limits.{create_tests}
use Rattle.wires.specs.declared.up.Inside.{Inside}
use Rattle.wires.specs.declared.up.Inside.TheVariants.{CreditsNtf, ActivatedNtf, CreateRsp}
use Rattle.wires.specs.Meaning.{datum, control, meaning_in, meaning}
use Rattle.wires.specs.Tally.{says, credits_said, credits_meant, credits_on, credits_up}
use Rattle.wires.specs.Counted.{is_named, inside_of, credits_inside, counted_in, counted_on, counted_up}

-- ---- what is inside, by the names of commands and notifications

abbrev inside_response : Command → ℕ → Option Inside
inside_response command.Reset n = None
inside_response command.Init n = None
inside_response command.ConnCreate n = pick (eqb n 4) (Some CreateRsp) None
inside_response command.ConnClose n = None
inside_response command.Discover n = None
inside_response command.Select n = None
inside_response command.Deactivate n = None
inside_response command.Unknown n = None
inside_response command.SetConfig n = None
inside_response command.GetConfig n = None

abbrev inside_notice : Option Notice → Option Inside
inside_notice (Some notice.Reset) = None
inside_notice (Some notice.Credits) = Some CreditsNtf
inside_notice (Some notice.GenericError) = None
inside_notice (Some notice.Discover) = None
inside_notice (Some notice.Activated) = Some ActivatedNtf
inside_notice (Some notice.Deactivate) = None
inside_notice None = None

module _ (gid oid : ℕ) where
  response_named : (n : ℕ) → pick (eqb gid 0 && eqb oid 4 && eqb n 4) (Some CreateRsp) None ≡ inside_response (command_of gid oid) n
  unfolding command_of
  response_named n = go (eqb gid 0) (eqb oid 4) refl
    where
      none : Command → Type 0
      none x = None ≡ inside_response x n

      go : (g b : Bool) → eqb oid 4 ≡ b → pick (g && b && eqb n 4) (Some CreateRsp) None
          ≡ inside_response
          (pick g
          (pick (eqb oid 0) command.Reset
          (pick (eqb oid 1) command.Init
          (pick b command.ConnCreate
          (pick (eqb oid 5) command.ConnClose (pick (eqb oid 2) command.SetConfig (pick (eqb oid 3) command.GetConfig command.Unknown))))))
          (pick (eqb gid 1) (pick (eqb oid 3) command.Discover (pick b command.Select (pick (eqb oid 6) command.Deactivate command.Unknown))) command.Unknown)) n
      go true true e = rw (eqb-true oid 4 e) refl
      go true false e =
          on none (eqb oid 0) (λ _. refl)
          (λ _. on none (eqb oid 1) (λ _. refl)
          (λ _. on none (eqb oid 5) (λ _. refl) (λ _. on none (eqb oid 2) (λ _. refl) (λ _. on none (eqb oid 3) (λ _. refl) (λ _. refl)))))
      go false b e =
          on none (eqb gid 1)
          (λ _. on none (eqb oid 3) (λ _. refl) (λ _. on none b (λ _. refl) (λ _. on none (eqb oid 6) (λ _. refl) (λ _. refl))))
          (λ _. refl)

  notice_named : pick (eqb gid 0 && eqb oid 6) (Some CreditsNtf) (pick (eqb gid 1 && eqb oid 5) (Some ActivatedNtf) None) ≡ inside_notice (notice_of gid oid)
  unfolding notice_of
  notice_named = go (eqb gid 0) refl (eqb oid 6) refl
    where
      none : Option Notice → Type 0
      none x = None ≡ inside_notice x

      rf : (g s f : Bool) → eqb oid 5 ≡ f → pick (g && f) (Some ActivatedNtf) None
          ≡ inside_notice (pick g (pick (eqb oid 3) (Some notice.Discover) (pick f (Some notice.Activated) (pick s (Some notice.Deactivate) None))) None)
      rf true s true e = rw (eqb-true oid 5 e) refl
      rf true s false e = on none (eqb oid 3) (λ _. refl) (λ _. on none s (λ _. refl) (λ _. refl))
      rf false s f e = refl

      go : (g : Bool) → eqb gid 0 ≡ g → (s : Bool) → eqb oid 6 ≡ s → pick (g && s) (Some CreditsNtf) (pick (eqb gid 1 && eqb oid 5) (Some ActivatedNtf) None)
          ≡ inside_notice
          (pick g
          (pick (eqb oid 0) (Some notice.Reset) (pick s (Some notice.Credits) (pick (eqb oid 7) (Some notice.GenericError) None)))
          (pick (eqb gid 1) (pick (eqb oid 3) (Some notice.Discover) (pick (eqb oid 5) (Some notice.Activated) (pick s (Some notice.Deactivate) None))) None))
      go true z true e = rw (eqb-true oid 6 e) refl
      go true z false e = rw (eqb-true gid 0 z) (on none (eqb oid 0) (λ _. refl) (λ _. on none (eqb oid 7) (λ _. refl) (λ _. refl)))
      go false z s e = rf (eqb gid 1) s (eqb oid 5) refl

-- ---- one message

module _ (c : ℕ) (m : Octets) where
  -- a response without a grant in it, whether it is written here or not
  no_grant : (x : Command) → credits_said c m (Answered (ok_answer x 0 m)) ≡ 0
      → 0 ≡ credits_said c m (pick (status_alone m || ok_written x m) (Answered (answer_of x 0 m)) Nothing)
  unfolding answer_of
  no_grant x e = go (status_alone m || ok_written x m) (eqb (get_or m 0 0) 0x00)
    where
      go : (w ok : Bool) → 0 ≡ credits_said c m (pick w (Answered (pick ok (ok_answer x 0 m) Done)) Nothing)
      go true true = sym e
      go true false = refl
      go false ok = refl

  -- the one of four octets that opens, and no other create response
  created : (n : ℕ) → length m ≡ n
      → credits_inside c m (pick (eqb n 4) (Some CreateRsp) None)
      ≡ credits_said c m (pick (status_alone m || create_written m) (Answered (answer_of command.ConnCreate 0 m)) Nothing)
  unfolding answer_of
  created n l = go (create_written m) refl
    where
      alone : (one ok : Bool) → 0 ≡ credits_said c m (pick ((one && not ok) || false) (Answered (pick ok (ok_answer command.ConnCreate 0 m) Done)) Nothing)
      alone true true = refl
      alone true false = refl
      alone false ok = refl

      go : (w : Bool) → create_written m ≡ w → credits_inside c m (pick (eqb n 4) (Some CreateRsp) None)
          ≡ credits_said c m (pick (status_alone m || create_written m) (Answered (pick (eqb (get_or m 0 0) 0x00) (ok_answer command.ConnCreate 0 m) Done)) Nothing)
      go true w =
          let four : length m ≡ 4 = eqb-true (length m) 4 (create_tests m w 0) in
          rw (eq-eqb n 4 (sym l ∙ four), w, create_tests m w 1, four) refl
      go false w =
          on (λ (x : Option Inside). credits_inside c m x ≡ 0) (eqb n 4) (λ _. rw w refl) (λ _. refl)
          ∙ rw w (alone (eqb (length m) 1) (eqb (get_or m 0 0) 0x00))

  response_same : (x : Command) (n : ℕ) → length m ≡ n → credits_inside c m (inside_response x n)
      ≡ credits_said c m (pick (status_alone m || ok_written x m) (Answered (answer_of x 0 m)) Nothing)
  response_same command.Reset n l = no_grant command.Reset refl
  response_same command.Init n l = no_grant command.Init refl
  response_same command.ConnCreate n l = created n l
  response_same command.ConnClose n l = no_grant command.ConnClose refl
  response_same command.Discover n l = no_grant command.Discover refl
  response_same command.Select n l = no_grant command.Select refl
  response_same command.Deactivate n l = no_grant command.Deactivate refl
  response_same command.Unknown n l = no_grant command.Unknown refl
  response_same command.SetConfig n l = no_grant command.SetConfig refl
  response_same command.GetConfig n l = no_grant command.GetConfig refl

  -- what a notification says where it is written here, and nothing where it is not
  noticed_so : (x : Option Notice) → pick (notice_written x m) (credits_said c m (noticed x m)) 0 ≡ credits_said c m (pick (notice_written x m) (noticed x m) Nothing)
  noticed_so x = go (notice_written x m)
    where
      go : (w : Bool) → pick w (credits_said c m (noticed x m)) 0 ≡ credits_said c m (pick w (noticed x m) Nothing)
      go true = refl
      go false = refl

  -- of one without credits the test makes no difference
  quiet : (x : Option Notice) → credits_said c m (noticed x m) ≡ 0 → 0 ≡ credits_said c m (pick (notice_written x m) (noticed x m) Nothing)
  quiet x e = on (λ (k : ℕ). 0 ≡ k) (notice_written x m) (λ w. sym e) (λ w. refl) ∙ noticed_so x

  notice_same : (x : Option Notice) → credits_inside c m (inside_notice x) ≡ credits_said c m (pick (notice_written x m) (noticed x m) Nothing)
  notice_same (Some notice.Reset) = quiet (Some notice.Reset) refl
  notice_same (Some notice.Credits) = noticed_so (Some notice.Credits)
  notice_same (Some notice.GenericError) = quiet (Some notice.GenericError) refl
  notice_same (Some notice.Discover) = quiet (Some notice.Discover) refl
  notice_same (Some notice.Activated) = noticed_so (Some notice.Activated)
  notice_same (Some notice.Deactivate) = quiet (Some notice.Deactivate) refl
  notice_same None = quiet None refl

  -- a whole message, by its MT
  whole_same : (mt gid oid n : ℕ) → length m ≡ n → mt < 4 → eqb mt 0 ≡ false
      → credits_inside c m
      (pick (eqb mt 3 && eqb gid 0 && eqb oid 6) (Some CreditsNtf)
      (pick (eqb mt 3 && eqb gid 1 && eqb oid 5) (Some ActivatedNtf)
      (pick (eqb mt 2 && eqb gid 0 && eqb oid 4 && eqb n 4) (Some CreateRsp) None)))
      ≡ credits_said c m (pick (eqb mt 1) Nothing (says 0 mt gid oid m))
  unfolding written heard_written
  whole_same zero gid oid n l k z = absurd (false≢true (sym z))
  whole_same (suc zero) gid oid n l k z = refl
  whole_same (suc (suc zero)) gid oid n l k z = ap (credits_inside c m) (response_named gid oid n) ∙ response_same (command_of gid oid) n l
  whole_same (suc (suc (suc zero))) gid oid n l k z = ap (credits_inside c m) (notice_named gid oid) ∙ notice_same (notice_of gid oid)
  whole_same (suc (suc (suc (suc mt)))) gid oid n l k z = absurd (omega arith)

-- ---- any packet, and any wire

pub same_count : (c : ℕ) (p : Octets) → counted_on c p ≡ credits_on c p
unfolding meaning inside_of
same_count c p = go (read_of p) refl
  where
    headed : (h : Header) (n : ℕ) → read_of p ≡ Some (h, n) → (b : Bool) → eqb h.mt 0 ≡ b
        → pick b (pick (eqb h.id c) h.credits 0) (credits_inside c (payload_of p n) (inside_of h n))
        ≡ credits_meant c (pick b (datum h.id h.credits (segment h.pbf (payload_of p n))) (control h.mt h.id h.oid (segment h.pbf (payload_of p n))))
    headed h n e true z = refl
    headed h n e false z = segmented h.pbf
      where
        long : length (payload_of p n) ≡ n
        long = let f = read_facts p h n e in length_cut 3 n p (omega arith)

        segmented : (b : Bool)
            → credits_inside c (payload_of p n)
            (pick b None
            (pick (is_named h 3 0 6) (Some CreditsNtf)
            (pick (is_named h 3 1 5) (Some ActivatedNtf)
            (pick (is_named h 2 0 4 && eqb n 4) (Some CreateRsp) None))))
            ≡ credits_meant c (control h.mt h.id h.oid (segment b (payload_of p n)))
        segmented true = refl
        segmented false = whole_same c (payload_of p n) h.mt h.id h.oid n long (read_ranged p h n e).mt z

    go : (r : Reading) → read_of p ≡ r → counted_in c p r ≡ credits_meant c (meaning_in p r)
    go (Some (h, n)) e = headed h n e (eqb h.mt 0) refl
    go None e = refl

pub same_up : (c : ℕ) (w : List Octets) → counted_up c w ≡ credits_up c w
unfolding counted_up credits_up
same_up c [] = refl
same_up c (p ∷ w) = λ i. same_count c p i + same_up c w i
