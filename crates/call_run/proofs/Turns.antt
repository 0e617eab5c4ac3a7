-- A turn of the press's loop: a move was made, or none is left; and what the press comes to from there.
-- Assumes nothing.
use Prim.Native.Nat.{ℕ, suc, ◌+◌, ◌-◌, ◌≤◌, ◌<◌}
use native.Mathlib.Omega.{arith}
use mathlib.Core.Path.{◌≡◌, refl, sym, ap, ◌∙◌}
use mathlib.Core.Bool.{Bool, true, false, ◌||◌}
use lib.Dec.{eqb}
use Rattle.octets.specs.Octets.{Octets}
use Rattle.record.specs.Layout.{bit}
use Rattle.model.specs.Effects.{Call}
use Rattle.model.specs.Press.{rests, plays}
use Rattle.calls.specs.Word.{dropped_in, handed_in}
use Rattle.calls.specs.Outcome.{Outcome, outcome}
use Rattle.calls.specs.Demand.{perform}
use Rattle.calls.specs.Run.{move_on, moves_within, Ran, moved, all_moved}
use Rattle.calls.proofs.Run.{ran_rests, ran_hands, ran_goes, ran_cut}

-- ---- the drop flag as the code reads it

pub bit_one : (b : Bool) → eqb (bit b) 1 ≡ b
unfolding bit
bit_one true = refl
bit_one false = refl

-- ---- the press after it

abbrev pub so : ℕ → Bool → ℕ → Octets → Octets → Ran
so n d last a out = record { made = n; dropped = d; last = outcome last a out }

-- after n moves, as many are left as the word counts
abbrev pub press_from : ℕ → Bool → ℕ → Octets → Octets → Ran
press_from n d last a out = all_moved (moves_within (65535 - n) a out) (so n d last a out)

module _ (n last : ℕ) (d : Bool) (a out : Octets) (h : n < 65535) where
  one_less : suc (65535 - (n + 1)) ≡ 65535 - n
  one_less = omega arith

  after_one : all_moved (moves_within (suc (65535 - (n + 1))) a out) (so n d last a out) ≡ press_from n d last a out
  after_one = ap (λ (k : ℕ). all_moved (moves_within k a out) (so n d last a out)) one_less

  -- none was left
  pub turn_ends : move_on a out ≡ rests → so n d last a out ≡ press_from n d last a out
  turn_ends v = sym (ran_rests (65535 - (n + 1)) a out (so n d last a out) v) ∙ after_one

  -- the call c was made
  module _ (w : ℕ) (b new : Octets) (c : Call) (v : move_on a out ≡ plays c) (x : outcome w b new ≡ perform c a out) where
    -- the moves so far, with this one
    abbrev next : Ran
    next = so (n + 1) (d || dropped_in w) w b new

    same_next : next ≡ moved c (so n d last a out)
    same_next = ap (λ (o : Outcome). record { made = n + 1; dropped = d || dropped_in o.word; last = o }) x

    -- it handed a message out
    pub turn_hands : handed_in w ≡ true → next ≡ press_from n d last a out
    turn_hands y =
        same_next
        ∙ sym (ran_hands (65535 - (n + 1)) a out (so n d last a out) c v (ap (λ (o : Outcome). handed_in o.word) (sym x) ∙ y)) ∙ after_one

    -- it did not
    pub turn_goes : handed_in w ≡ false → press_from (n + 1) (d || dropped_in w) w b new ≡ press_from n d last a out
    turn_goes y =
        (λ i. all_moved (moves_within (65535 - (n + 1)) (x i).area (x i).out) (same_next i))
        ∙ sym (ran_goes (65535 - (n + 1)) a out (so n d last a out) c v (ap (λ (o : Outcome). handed_in o.word) (sym x) ∙ y)) ∙ after_one

-- the limit
pub turn_limit : (n last : ℕ) (d : Bool) (a out : Octets) → 65535 ≤ n → so n d last a out ≡ press_from n d last a out
turn_limit n last d a out h =
    let z : 0 ≡ 65535 - n = omega arith in
    sym (ran_cut a out (so n d last a out)) ∙ ap (λ (k : ℕ). all_moved (moves_within k a out) (so n d last a out)) z
