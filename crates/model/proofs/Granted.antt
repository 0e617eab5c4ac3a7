-- What opens a connection grants an octet of credits: the host takes nothing else for written.
-- Assumes nothing.
use Prim.Native.Nat.{ℕ, ◌≤◌}
use mathlib.Core.Path.{◌≡◌, refl}
use mathlib.Core.Bool.{Bool, true, false, ◌&&◌, ◌||◌, not}
use lib.Dec.{eqb}
use lib.ListN.{length, get_or}
use Rattle.std.specs.Prelude.{Option, Some, None}
use Rattle.octets.specs.Octets.{Octets, pick}
use Rattle.model.specs.Kinds.{Terms, Command, Notice}
use Rattle.model.specs.Kinds.command.{Reset, Init, ConnCreate, ConnClose, Discover, Select, Deactivate, Unknown, SetConfig, GetConfig}
use Rattle.model.specs.Kinds.notice as notice
use Rattle.model.specs.Kinds.answer.{Done}
use Rattle.model.specs.Kinds.heard.{Nothing, Answered}
use Rattle.state.specs.Commands.{command_of}
use Rattle.state.proofs.Chains.{on}
use Rattle.state.specs.Profile.{credits_ok}
use Rattle.state.proofs.Limits.{credits_small}
use Rattle.dh.specs.Contents.{status_alone, ok_written, notice_written, notice_of, written}
use Rattle.dh.specs.Host.{heard_written, answer_of, ok_answer, noticed, credits_for}
use Rattle.dh.proofs.Limits.{create_tests, activated_tests}
use Rattle.wires.specs.Tally.{aimed_at, says}
use Rattle.ends.specs.Changes.{Change, stays, opens, closes, gives, change_heard}

abbrev pub GrantsOctet : Change → Type 0
GrantsOctet stays = Unit {0}
GrantsOctet (opens t) = t.credits ≤ 255
GrantsOctet closes = Unit {0}
GrantsOctet (gives n) = Unit {0}

module _ (m : Octets) (d : ℕ) where
  opens_octet : (c : ℕ) (t : Terms) → credits_ok t.credits ≡ true → GrantsOctet (pick (eqb c d) (opens t) stays)
  opens_octet c t h = on GrantsOctet (eqb c d) (λ e. credits_small t.credits h) (λ e. tt)

  closes_octet : (c : ℕ) → GrantsOctet (pick (eqb c d) closes stays)
  closes_octet c = on GrantsOctet (eqb c d) (λ e. tt) (λ e. tt)

  answer_octet : (c : Command) (aim : ℕ) → ok_written c m ≡ true → GrantsOctet (change_heard (Answered (ok_answer c aim m)) m d)
  answer_octet Reset aim h = tt
  answer_octet Init aim h = tt
  answer_octet ConnCreate aim h =
      opens_octet (get_or m 3 0) _ (create_tests m h 3)
  answer_octet ConnClose aim h = closes_octet aim
  answer_octet Discover aim h = tt
  answer_octet Select aim h = tt
  answer_octet Deactivate aim h = tt
  answer_octet Unknown aim h = tt
  answer_octet SetConfig aim h = tt
  answer_octet GetConfig aim h = tt

  response_octet : (c : Command) (aim : ℕ) → (status_alone m || ok_written c m) ≡ true → GrantsOctet (change_heard (Answered (answer_of c aim m)) m d)
  unfolding answer_of
  response_octet c aim = go (eqb (length m) 1) (eqb (get_or m 0 0) 0x00)
    where
      go : (a b : Bool) → ((a && not b) || ok_written c m) ≡ true → GrantsOctet (change_heard (Answered (pick b (ok_answer c aim m) Done)) m d)
      go true true h = answer_octet c aim h
      go false true h = answer_octet c aim h
      go a false h = tt

  notice_octet : (n : Option Notice) → notice_written n m ≡ true → GrantsOctet (change_heard (noticed n m) m d)
  notice_octet (Some notice.Reset) h = tt
  notice_octet (Some notice.Credits) h = on GrantsOctet (eqb (credits_for m d) 0) (λ e. tt) (λ e. tt)
  notice_octet (Some notice.GenericError) h = tt
  notice_octet (Some notice.Discover) h = tt
  notice_octet (Some notice.Activated) h =
      opens_octet 0 _ (activated_tests m h 4)
  notice_octet (Some notice.Deactivate) h = closes_octet 0
  notice_octet None h = tt

  says_it : (aim mt gid oid : ℕ) → GrantsOctet (change_heard (says aim mt gid oid m) m d)
  unfolding written heard_written
  says_it aim mt gid oid = go (written mt gid oid m) refl
    where
      alone : (b : Bool) → pick b (status_alone m || ok_written (command_of gid oid) m) (notice_written (notice_of gid oid) m) ≡ true
          → GrantsOctet (change_heard (pick b (Answered (answer_of (command_of gid oid) aim m)) (noticed (notice_of gid oid) m)) m d)
      alone true h = response_octet (command_of gid oid) aim h
      alone false h = notice_octet (notice_of gid oid) h

      go : (b : Bool) → written mt gid oid m ≡ b → GrantsOctet (change_heard (pick b (heard_written (aimed_at aim) mt gid oid m) Nothing) m d)
      go true e = alone (eqb mt 2) e
      go false e = tt

pub says_octet : (aim mt gid oid : ℕ) (m : Octets) (d : ℕ) → GrantsOctet (change_heard (says aim mt gid oid m) m d)
says_octet aim mt gid oid m d = says_it m d aim mt gid oid
