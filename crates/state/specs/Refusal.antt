-- Why a call is not taken: each reason with its number, which is the word of the call (document 01, "Numbers for a call not taken").
-- Assumes nothing.
use Rattle.std.specs.Prelude.{ℕ, Bool, ⊤, Result, Ok, Err}
use Rattle.octets.specs.Octets.{pick}
use Rattle.state.specs.Kinds.{Refusal}
use Rattle.state.specs.Kinds.refusal as refusal

abbrev pub number_of : Refusal → ℕ
number_of refusal.RecordDamaged = 1
number_of refusal.TooShort = 2
number_of refusal.OutsideLimit = 3
number_of refusal.TooFewSlots = 4
number_of refusal.Unanswered = 5
number_of refusal.NotOpen = 6
number_of refusal.InHand = 7
number_of refusal.NothingToMove = 8
number_of refusal.NoCredit = 9
number_of refusal.Closing = 10
number_of refusal.NotInThisState = 11
number_of refusal.StoreFull = 12
number_of refusal.WiresNotEmpty = 14
number_of refusal.SendClosing = 15

-- what comes of a step that can be refused
abbrev pub Attempt : Type 0 → Type 0
Attempt A = Result A Refusal

-- the number for which it is not taken, 0 for none
abbrev pub number_in : {A : Type 0} → Attempt A → ℕ
number_in (Ok x) = 0
number_in (Err e) = number_of e

-- the word of a call, which is its own where nothing refuses it
abbrev pub word_in : Attempt ℕ → ℕ
word_in (Ok w) = w
word_in (Err e) = number_of e

-- a rule of a call as the code asks it
abbrev pub when : Refusal → Bool → Attempt ⊤
when e test = pick test (Err e) (Ok tt)
