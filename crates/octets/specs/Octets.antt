-- Lists of octets: a part that is read and a part that is written over. Both are total, and writing over keeps the length always.
-- Assumes nothing.
use Rattle.std.specs.Prelude.{ℕ, zero, suc, Bool, true, false, List, [], ◌∷◌, take, drop}

-- one of two values, by a test
abbrev pub pick : {A : Type 0} → Bool → A → A → A
pick true a b = a
pick false a b = b

-- octets of a packet, a message or an area
abbrev pub Octets : Type 0
Octets = List ℕ

-- the n octets of l from index at on, or as many as there are
unfoldable pub cut : ℕ → ℕ → Octets → Octets
cut at n l = take n (drop at l)

-- l with its front written over by vs; what would stand past the end of l is left out
unfoldable pub over : Octets → Octets → Octets
over [] vs = []
over (x ∷ l) [] = x ∷ l
over (x ∷ l) (v ∷ vs) = v ∷ over l vs

-- l written over by vs from index at on; what would stand past the end of l is left out
unfoldable pub splice : Octets → ℕ → Octets → Octets
splice l zero vs = over l vs
splice [] (suc n) vs = []
splice (x ∷ l) (suc n) vs = x ∷ splice l n vs
