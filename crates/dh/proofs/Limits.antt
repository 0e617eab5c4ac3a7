-- What the host hears is within limits, since only written contents are heard: terms, the size of commands, the entries of a notice.
-- Assumes nothing.
use Prim.Native.Nat.{ℕ, zero, suc, ◌+◌, ◌*◌, ◌-◌, ◌≤◌, ◌<◌}
use native.Mathlib.Omega.{arith}
use mathlib.Core.Path.{◌≡◌, sym, ap, refl, subst}
use mathlib.Core.Bool.{Bool, true, false, not, ◌&&◌, ◌||◌, false≢true}
use mathlib.Core.List.{[], ◌∷◌}
use native.Mathlib.Decide.{dec_lt}
use lib.ListN.{length, get_or}
use lib.Dec.{eqb, ltb, leb}
use borrow.Author.Tests.{leb-true, ltb-true, eqb-true}
use Rattle.std.specs.Prelude.{Option, Some, None}
use Rattle.octets.specs.Octets.{Octets, pick}
use Rattle.octets.specs.Octal.{Octal}
use Rattle.octets.proofs.Octal.{octal_at}
use Rattle.dh.specs.Kinds.{Terms, Asked, Host, Command, Notice, Answer, Heard}
use Rattle.dh.specs.Kinds.command as command
use Rattle.dh.specs.Kinds.notice as notice
use Rattle.dh.specs.Kinds.answer.{Done, ClosesAll, Sized, Opens, Closes}
use Rattle.dh.specs.Kinds.heard.{Nothing, Dropped, Answered, Activated, Deactivated, Credits}
use Rattle.state.specs.Conn.{place_of}
use Rattle.state.specs.Radio.{polls, listens, id_ok}
use Rattle.state.specs.Commands.{command_of}
use Rattle.state.specs.Profile.{least_size, credits_ok, TermsWithin}
use Rattle.state.proofs.Chains.{on, every_at}
use Rattle.dh.specs.Contents.{notice_of, status_alone, zeros, init_written, create_written, ok_written, entry_id, entry_credits, entry_ok, entries_ok, credits_written, activated_written, notice_written, written}
use Rattle.dh.specs.Host.{ok_answer, answer_of, aim_of, noticed, heard_written, expected, hear_of, host_after}

-- ---- the limits

-- the payload at which commands are cut
pub record SizeFits (n : ℕ) : Type 0 where
  pub least : least_size ≤ n
  pub most : n ≤ 255

abbrev pub TermsFit : Terms → Type 0
TermsFit t = TermsWithin t.payload t.credits

-- a dynamic connection
pub record OpensFit (id : ℕ) (t : Terms) : Type 0 where
  pub least : 2 ≤ id
  pub most : id ≤ 5
  pub terms : TermsFit t

-- entry i of a credit notice
pub record EntryFits (m : Octets) (i : ℕ) : Type 0 where
  pub conn : place_of (entry_id m i) < 5
  pub least : 1 ≤ entry_credits m i
  pub most : entry_credits m i ≤ 8

pub record NoticeFits (m : Octets) : Type 0 where
  pub least : 1 ≤ get_or m 0 0
  pub most : get_or m 0 0 ≤ 5
  pub long : length m ≡ 1 + 2 * get_or m 0 0
  pub entries : (i : ℕ) → i < get_or m 0 0 → EntryFits m i

abbrev pub AnswerFits : Answer → Type 0
AnswerFits Done = Unit {0}
AnswerFits ClosesAll = Unit {0}
AnswerFits (Sized n) = SizeFits n
AnswerFits (Opens id t) = OpensFit id t
AnswerFits (Closes id) = Unit {0}

-- what was heard in the message m
abbrev pub HeardFits : Octets → Heard → Type 0
HeardFits m Nothing = Unit {0}
HeardFits m Dropped = Unit {0}
HeardFits m (Answered a) = AnswerFits a
HeardFits m (Activated t) = TermsFit t
HeardFits m Deactivated = Unit {0}
HeardFits m Credits = NoticeFits m

-- ---- written contents are within them

-- a status of 00 is not alone
or_other : (a b : Bool) → (a || b) ≡ true → a ≡ false → b ≡ true
or_other true b h e = absurd (false≢true (sym e))
or_other false b h e = h

-- the tests of what opens a connection, one by one
module _ (m : Octets) where
  pub create_tests : create_written m ≡ true → (i : ℕ)
      → get_or (eqb (length m) 4 ∷ eqb (get_or m 0 0) 0x00 ∷ leb 1 (get_or m 1 0) ∷ credits_ok (get_or m 2 0) ∷ leb 2 (get_or m 3 0) ∷ leb (get_or m 3 0) 5 ∷ []) i true ≡ true
  unfolding create_written
  create_tests w = every_at (eqb (length m) 4) (_ ∷ _ ∷ _ ∷ _ ∷ _ ∷ []) w

  pub activated_tests : activated_written m ≡ true → (i : ℕ)
      → get_or
      (id_ok (get_or m 0 0)
      ∷ eqb (get_or m 1 0) 0x01
      ∷ (polls (get_or m 3 0) || listens (get_or m 3 0))
      ∷ leb 1 (get_or m 4 0)
      ∷ credits_ok (get_or m 5 0)
      ∷ leb (get_or m 6 0) 32
      ∷ eqb (length m) (11 + get_or m 6 0)
      ∷ eqb (get_or m (7 + get_or m 6 0) 0) (get_or m 3 0)
      ∷ zeros m (8 + get_or m 6 0) 3
      ∷ []) i true ≡ true
  unfolding activated_written
  activated_tests w = every_at (id_ok (get_or m 0 0)) (_ ∷ _ ∷ _ ∷ _ ∷ _ ∷ _ ∷ _ ∷ _ ∷ []) w

module _ (m : Octets) (octal : Octal m) where
  init_fits : init_written m ≡ true → SizeFits (get_or m 8 0)
  unfolding init_written
  init_fits w =
      let at =
      every_at (eqb (length m) 16)
      (zeros m 0 5
      ∷ eqb (get_or m 5 0) 0x04
      ∷ zeros m 6 2
      ∷ leb least_size (get_or m 8 0)
      ∷ zeros m 9 4
      ∷ eqb (get_or m 13 0) 0x01
      ∷ eqb (get_or m 14 0) 0x01
      ∷ zeros m 15 1
      ∷ []) w in
      record { least = leb-true least_size (get_or m 8 0) (at 4); most = octal_at octal 8 }

  create_fits : create_written m ≡ true → OpensFit (get_or m 3 0) (record { payload = get_or m 1 0; credits = get_or m 2 0 })
  create_fits w =
      let at = create_tests m w in
      record {
        least = leb-true 2 (get_or m 3 0) (at 4);
        most = leb-true (get_or m 3 0) 5 (at 5);
        terms = record { least = leb-true 1 (get_or m 1 0) (at 2); most = octal_at octal 1; credits_ok_law = at 3 };
      }

  activated_fits : activated_written m ≡ true → TermsFit (record { payload = get_or m 4 0; credits = get_or m 5 0 })
  activated_fits w =
      let at = activated_tests m w in
      record { least = leb-true 1 (get_or m 4 0) (at 3); most = octal_at octal 4; credits_ok_law = at 4 }

  entry_fits : (i : ℕ) → entry_ok m i ≡ true → EntryFits m i
  entry_fits i w =
      let at = every_at (ltb (place_of (entry_id m i)) 5) (leb 1 (entry_credits m i) ∷ leb (entry_credits m i) 8 ∷ []) w in
      record {
        conn = ltb-true (place_of (entry_id m i)) 5 (at 0);
        least = leb-true 1 (entry_credits m i) (at 1);
        most = leb-true (entry_credits m i) 8 (at 2);
      }

  entries_fit : (n i : ℕ) → entries_ok m n ≡ true → i < n → EntryFits m i
  unfolding entries_ok
  entries_fit zero i w h = absurd (omega arith)
  entries_fit (suc n) i w h =
      let at = every_at (entries_ok m n) (entry_ok m n ∷ (eqb n 0 || ltb (entry_id m (n - 1)) (entry_id m n)) ∷ []) w in
      go (λ l. entries_fit n i (at 0) l) (entry_fits n (at 1)) (dec_lt i n)
    where
      go : (i < n → EntryFits m i) → EntryFits m n → Dec (i < n) → EntryFits m i
      go before last (yes l) = before l
      go before last (no l) = let e : n ≡ i = omega arith in subst (EntryFits m) e last

  notice_fits : credits_written m ≡ true → NoticeFits m
  unfolding credits_written
  notice_fits w =
      let n = get_or m 0 0 in
      let at = every_at (leb 1 n) (leb n 5 ∷ eqb (length m) (1 + 2 * n) ∷ entries_ok m n ∷ []) w in
      record {
        least = leb-true 1 n (at 0);
        most = leb-true n 5 (at 1);
        long = eqb-true (length m) (1 + 2 * n) (at 2);
        entries = λ i h. entries_fit n i (at 3) h;
      }

  ok_fits : (c : Command) (aim : ℕ) → ok_written c m ≡ true → AnswerFits (ok_answer c aim m)
  ok_fits command.Reset aim w = tt
  ok_fits command.Init aim w = init_fits w
  ok_fits command.ConnCreate aim w = create_fits w
  ok_fits command.ConnClose aim w = tt
  ok_fits command.Discover aim w = tt
  ok_fits command.Select aim w = tt
  ok_fits command.Deactivate aim w = tt
  ok_fits command.Unknown aim w = tt
  ok_fits command.SetConfig aim w = tt
  ok_fits command.GetConfig aim w = tt

  not_alone : eqb (get_or m 0 0) 0x00 ≡ true → status_alone m ≡ false
  not_alone e = go (eqb (length m) 1)
    where
      go : (b : Bool) → (b && not (eqb (get_or m 0 0) 0x00)) ≡ false
      go true = ap not e
      go false = refl

  answer_fits : (c : Command) (aim : ℕ) → (status_alone m || ok_written c m) ≡ true → AnswerFits (answer_of c aim m)
  unfolding answer_of
  answer_fits c aim w =
      on AnswerFits (eqb (get_or m 0 0) 0x00) (λ e. ok_fits c aim (or_other (status_alone m) (ok_written c m) w (not_alone e))) (λ e. tt)

  noticed_fits : (n : Option Notice) → notice_written n m ≡ true → HeardFits m (noticed n m)
  noticed_fits (Some notice.Reset) w = tt
  noticed_fits (Some notice.Credits) w = notice_fits w
  noticed_fits (Some notice.GenericError) w = tt
  noticed_fits (Some notice.Discover) w = tt
  noticed_fits (Some notice.Activated) w = activated_fits w
  noticed_fits (Some notice.Deactivate) w = tt
  noticed_fits None w = tt

  written_fits : (p : Option Asked) (mt gid oid : ℕ) → written mt gid oid m ≡ true → HeardFits m (heard_written p mt gid oid m)
  unfolding heard_written written
  written_fits p mt gid oid w = go (eqb mt 2) w
    where
      go : (b : Bool) → pick b (status_alone m || ok_written (command_of gid oid) m) (notice_written (notice_of gid oid) m) ≡ true
          → HeardFits m (pick b (Answered (answer_of (command_of gid oid) (aim_of p) m)) (noticed (notice_of gid oid) m))
      go true v = answer_fits (command_of gid oid) (aim_of p) v
      go false v = noticed_fits (notice_of gid oid) v

  -- what is heard is within limits
  pub hear_fits : (p : Option Asked) (mt gid oid : ℕ) → HeardFits m (hear_of p mt gid oid m)
  unfolding hear_of
  hear_fits p mt gid oid =
      on (HeardFits m) (expected p mt gid oid) (λ e. on (HeardFits m) (written mt gid oid m) (λ w. written_fits p mt gid oid w) (λ e. tt)) (λ e. tt)

-- ---- the host's own number

pub size_after_law : (m : Octets) (x : Heard) (h : Host) → HeardFits m x → SizeFits h.size → SizeFits (host_after h x).size
unfolding host_after
size_after_law m Nothing h f s = s
size_after_law m Dropped h f s = s
size_after_law m (Answered Done) h f s = s
size_after_law m (Answered ClosesAll) h f s = record { least = omega arith; most = omega arith }
size_after_law m (Answered (Sized n)) h f s = f
size_after_law m (Answered (Opens id t)) h f s = s
size_after_law m (Answered (Closes id)) h f s = s
size_after_law m (Activated t) h f s = s
size_after_law m Deactivated h f s = s
size_after_law m Credits h f s = s
