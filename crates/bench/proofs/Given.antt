-- What a call answers where one of its steps is refused.
-- Assumes nothing.
use Prim.Native.Nat.{ℕ}
use mathlib.Core.Path.{◌≡◌, ap}
use Rattle.std.specs.Prelude.{Ok, Err, IsErr}
use Rattle.std.specs.Result.{IsErrAnd}
use Rattle.state.specs.declared.refusal.Refusal.{Refusal}
use Rattle.state.specs.Refusal.{Attempt, number_of, word_in}

pub given : (r : Attempt ℕ) (e : Refusal) → IsErr r × IsErrAnd r (λ (x : Refusal). x ≡ e) → word_in r ≡ number_of e
given (Ok w) e h = let z = h.0 in cc
given (Err x) e h = ap number_of h.1
