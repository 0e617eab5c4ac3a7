-- The laws of `specs/invariant/Phases.antt`: what may come first and last on the up wire, and what is then known of the ends.
-- Assumes nothing.
use Prim.Native.Nat.{ℕ, ◌+◌, ◌≤◌}
use native.Mathlib.Omega.{arith}
use mathlib.Core.Bool.{Bool, true, false}
use mathlib.Core.List.{List, [], ◌∷◌, ◌++◌}
use mathlib.Core.Path.{◌≡◌, refl, subst}
use Rattle.model.specs.Kinds.{Terms}
use Rattle.state.specs.Conn.{flows}
use Rattle.model.specs.invariant.Items.{Load, Item, carry, credit, opened, closed, up_credits, up_returned}
use Rattle.model.specs.invariant.Phases.{Phase, shut, live, over, bad, enter, walk, start, Ends}
use Rattle.model.specs.invariant.Link.{AllOpened}
use Rattle.model.proofs.Cases.{clash}
use Rattle.model.proofs.Items.{returned_le}

pub walk_append : (p : Phase) (a b : List Item) → walk p (a ++ b) ≡ walk (walk p a) b
walk_append p [] b = refl
walk_append p (i ∷ a) b = walk_append (enter p i) a b

pub walk_bad : (is : List Item) → walk bad is ≡ bad
walk_bad [] = refl
walk_bad (carry x ∷ is) = walk_bad is
walk_bad (credit n ∷ is) = walk_bad is
walk_bad (opened t ∷ is) = walk_bad is
walk_bad (closed ∷ is) = walk_bad is

pub bad_walk : {A : Type 0} (b : Bool) (is : List Item) → Ends (walk bad is) b → A
bad_walk b is e = absurd (subst (λ p. Ends p b) (walk_bad is) e)

-- past a closing nothing but closings follows
over_shut : (b : Bool) (is : List Item) → Ends (walk over is) b → Ends (walk shut is) b × (b ≡ false) × (up_returned is ≡ 0)
over_shut b [] e = (e, e, refl)
over_shut b (carry x ∷ is) e = bad_walk b is e
over_shut b (credit n ∷ is) e = bad_walk b is e
over_shut b (opened t ∷ is) e = bad_walk b is e
over_shut b (closed ∷ is) e = over_shut b is e

-- ---- what the host reads first

-- data or credits: the host has the connection open
pub carry_first : (b c : Bool) (x : Load) (u : List Item) → Ends (walk (start b) (carry x ∷ u)) c → (b ≡ true) × Ends (walk (start b) u) c
carry_first true c x u e = (refl, e)
carry_first false c x u e = bad_walk c u e

pub credit_first : (b c : Bool) (n : ℕ) (u : List Item) → Ends (walk (start b) (credit n ∷ u)) c → (b ≡ true) × Ends (walk (start b) u) c
credit_first true c n u e = (refl, e)
credit_first false c n u e = bad_walk c u e

-- an opening: it has not
pub opened_first : (b c : Bool) (t : Terms) (u : List Item) → Ends (walk (start b) (opened t ∷ u)) c → (b ≡ false) × Ends (walk live u) c
opened_first true c t u e = bad_walk c u e
opened_first false c t u e = (refl, e)

-- a closing: it has not, unless the controller has closed it too, and then nothing comes back
pub closed_first : (b c : Bool) (u : List Item) → Ends (walk (start b) (closed ∷ u)) c → Ends (walk shut u) c × (c ≡ true → b ≡ false) × (b ≡ true → up_returned u ≡ 0)
closed_first true c u e = let p = over_shut c u e in (p.0, (λ a. clash a p.1), (λ a. p.2))
closed_first false c u e = (e, (λ a. refl), (λ a. clash a refl))

-- while the host has yet to read of the opening, the whole grant is under way
pub has_grant : (g : ℕ) (u : List Item) → flows g ≡ true → Ends (walk shut u) true → AllOpened g u → g + up_returned u ≤ up_credits u
has_grant g [] y e a = clash refl e
has_grant g (carry x ∷ u) y e a = bad_walk true u e
has_grant g (credit n ∷ u) y e a = bad_walk true u e
has_grant g (opened t ∷ u) y e a =
    let flow : flows t.credits ≡ true = rw a.0 y in
    rw flow (omega (arith, returned_le u, a.0))
has_grant g (closed ∷ u) y e a = has_grant g u y e a

-- ---- what the controller puts last

-- an item that the controller may put while the connection is open at it
pub phase_put : (h : Bool) (u : List Item) (i : Item) (b : Bool) → Ends (walk (start h) u) true → Ends (enter live i) b
    → Ends (walk (start h) (u ++ (i ∷ []))) b
phase_put h u i b e f = rw walk_append (go (walk (start h) u) e)
  where
    go : (p : Phase) → Ends p true → Ends (enter p i) b
    go shut x = clash refl x
    go live x = f
    go over x = clash refl x
    go bad x = absurd x

-- after a closing it is closed, whatever went before
pub closed_ends : (p : Phase) (b : Bool) → Ends p b → Ends (enter p closed) false
closed_ends shut b e = refl
closed_ends live b e = refl
closed_ends over b e = refl
closed_ends bad b e = e
