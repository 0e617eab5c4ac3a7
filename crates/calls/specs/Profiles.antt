-- A profile for each connection (document 02, item 4): the two forms that fresh takes, and what the profile says of every run.
-- Assumes nothing.
use Rattle.std.specs.Prelude.{ℕ, ◌≡◌, true, [], ◌∷◌, length}
use Rattle.octets.specs.Octets.{Octets}
use Rattle.calls.specs.Kinds.{Profile}
use Rattle.state.specs.Conn.{terms_of}
use Rattle.state.specs.Profile.{profile_in}
use Rattle.record.specs.Writing.{profile_octets}
use Rattle.views.specs.View.{view_of}
use Rattle.model.specs.Observer.{Account}
use Rattle.model.specs.Reachable.{OwnTerms}
use Rattle.calls.specs.calls.Fresh.{fresh_call}
use Rattle.calls.specs.Demand.{EveryRun}

-- "The old five-octet profile stays valid and means four equal pairs": the word, every octet of the area and the buffer are those of the eleven octets
-- that repeat its pair, where it is taken and where it is not
abbrev pub FiveMeanEleven : Type 0
FiveMeanEleven =
    (area out : Octets) (control payload credits fixedPayload fixedCredits : ℕ)
    → fresh_call area out (control ∷ payload ∷ credits ∷ fixedPayload ∷ fixedCredits ∷ [])
    ≡ fresh_call area out
    (control ∷ payload ∷ credits ∷ payload ∷ credits ∷ payload ∷ credits ∷ payload ∷ credits ∷ fixedPayload ∷ fixedCredits ∷ [])

-- the record has the form of eleven, octet for octet as fresh is given it
pub record OneForm : Type 0 where
  pub read_written : (p : Profile) → profile_in (profile_octets p) ≡ p
  pub written_read : (m : Octets) → length m ≡ 11 → profile_octets (profile_in m) ≡ m

-- of the area that a run has left, and the account of it
pub record Own (a : Octets) (o : Account) : Type 0 where
  -- each open connection has its own grant, at either end, and at the host its own payload
  pub terms : OwnTerms (view_of a)
  -- so the grant that the five numbers sum to, as it was counted from the create response or the activation, is its own
  pub counted : (c : ℕ) → (o.ledger c).controller.opened ≡ true → (o.ledger c).controller.grant ≡ (terms_of (view_of a).profile c).credits

abbrev pub AlwaysOwn : Type 0
AlwaysOwn = EveryRun (λ a p o. Own a o)
