-- Lists of keys in which Run to rest is pressed too: a press stands for the moves that it made (document 02, item 1, on demand 3).
-- Assumes nothing.
use Rattle.std.specs.Prelude.{ℕ, ◌≡◌, List, [], ◌∷◌, ◌++◌, map}
use Rattle.octets.specs.Octets.{Octets}
use Rattle.octets.specs.Octal.{Octal}
use Rattle.views.specs.View.{view_of}
use Rattle.model.specs.Effects.{Call, taken}
use Rattle.model.specs.Reachable.{LoopbacksPaid}
use Rattle.model.specs.Discards as discards
use Rattle.model.specs.Config as config
use Rattle.model.specs.Observer.{Account, opening, observed}
use Rattle.calls.specs.Word.{answer_in, rfu_in}
use Rattle.calls.specs.Outcome.{Outcome}
use Rattle.calls.specs.Seen.{Puts, no_puts}
use Rattle.calls.specs.calls.Fresh.{fresh_call}
use Rattle.calls.specs.Demand.{Key, perform, pressed, slice, area_after, puts_in, seen_in, OctetClaim}
use Rattle.calls.specs.Reached.{Reached, Displayed}
use Rattle.calls.specs.Checked.{pressed_checked, outcomes}
use Rattle.calls.specs.Profiles.{Own}
use Rattle.calls.specs.Discards.{OctetDiscardClaim}
use Rattle.calls.specs.Config.{OctetConfigClaim}
use Rattle.calls.specs.Run.{moves_on, run_call}

-- ---- a key

-- a call with its buffer, or Run to rest with the buffer lent to it
pub data Stroke : Type 0 where
  calls : Key → Stroke
  runs : Octets → Stroke

abbrev pub struck : Stroke → Octets → Outcome
struck (calls k) a = pressed k a
struck (runs out) a = run_call a out

-- calls one after the other, each with the buffer that the one before it left
unfoldable pub keys_of : List Call → Octets → Octets → List Key
keys_of [] a out = []
keys_of (c ∷ cs) a out = record { call = c; out = out } ∷ keys_of cs (perform c a out).area (perform c a out).out

-- the calls that a key stands for
abbrev pub stands_for : Stroke → Octets → List Key
stands_for (calls k) a = k ∷ []
stands_for (runs out) a = keys_of (moves_on a out) a out

-- ---- a list of keys

-- the slices of all of them are of octets; a press is given none
abbrev pub AllOctalIn : List Stroke → Type 0
AllOctalIn [] = Unit {0}
AllOctalIn (calls k ∷ xs) = Octal (slice k.call) × AllOctalIn xs
AllOctalIn (runs out ∷ xs) = AllOctalIn xs

-- each gets the area that the one before it left
unfoldable pub area_through : List Stroke → Octets → Octets
area_through [] a = a
area_through (x ∷ xs) a = area_through xs (struck x a).area

-- the calls that they stand for
unfoldable pub keys_in : List Stroke → Octets → List Key
keys_in [] a = []
keys_in (x ∷ xs) a = stands_for x a ++ keys_in xs (struck x a).area

-- a statement of every list of keys from a fresh bench: of the calls that they stand for, the area on which these start, and the area that the keys leave. It starts
-- from any area on which fresh, with any buffer and any profile octets, answered 0
abbrev pub EveryList : (List Key → Octets → Octets → Type 0) → Type 0
EveryList P =
    (area out profile : Octets) → Octal area → answer_in (fresh_call area out profile).word ≡ taken → (strokes : List Stroke) → AllOctalIn strokes
    → P (keys_in strokes (fresh_call area out profile).area) (fresh_call area out profile).area (area_through strokes (fresh_call area out profile).area)

-- as `EveryRun`: of the area that they leave, and of the packets and the account of the calls
abbrev pub EveryStroke : (Octets → Puts → Account → Type 0) → Type 0
EveryStroke P = EveryList (λ ks a b. P b (puts_in ks no_puts a) (observed (seen_in ks no_puts a) opening))

-- ---- demand 3, and the other statements of every run, where Run to rest is pressed too

abbrev pub StrokeDemand : Type 0
StrokeDemand = EveryStroke (λ a p o. (c : ℕ) → OctetClaim c a o)

pub record StrokesToo : Type 0 where
  pub demand : StrokeDemand
  pub reached : EveryStroke (λ a p o. Reached a)
  pub paid : EveryStroke (λ a p o. LoopbacksPaid (view_of a))
  pub displayed : EveryStroke (λ a p o. Displayed a p)
  pub own : EveryStroke (λ a p o. Own a o)
  pub clear : EveryStroke (λ a p o. (k : Key) → Octal (slice k.call) → rfu_in (pressed k a).word ≡ 0)
  pub discards : EveryList (λ ks a b. OctetDiscardClaim b (observed (seen_in ks no_puts a) opening) (discards.diary_of (seen_in ks no_puts a)))
  pub configs : EveryList (λ ks a b. OctetConfigClaim b (puts_in ks no_puts a) (config.diary_of (seen_in ks no_puts a)))
  pub checked : EveryList (λ ks a b. outcomes pressed_checked ks a ≡ outcomes pressed ks a)
  -- the keys leave what the calls leave that they stand for, whatever the area
  pub left : (xs : List Stroke) (a : Octets) → area_through xs a ≡ area_after (keys_in xs a) a
  -- and where none is a press they are those calls
  pub plain : (ks : List Key) (a : Octets) → keys_in (map calls ks) a ≡ ks
