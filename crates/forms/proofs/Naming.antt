-- The laws of `specs/Names.antt`: a word against a list of names.
-- Assumes nothing.
use Prim.Native.Nat.{◌≤◌}
use mathlib.Core.Path.{◌≡◌, refl, sym, ap, ◌∙◌}
use mathlib.Core.Bool.{Bool, true, false, cond}
use mathlib.Core.List.{List, [], ◌∷◌}
use native.Mathlib.Omega.{arith}
use lib.ListN.{length}
use Rattle.std.specs.Prelude.{Option, Some, None}
use Rattle.std.specs.Option.{unwrap_or, option_map}
use Rattle.std.specs.List.{find}
use Rattle.octets.specs.Octets.{Octets, pick}
use Rattle.ascii.specs.Words.{same_as}
use Rattle.forms.specs.Kinds.{Name}
use Rattle.forms.specs.Kinds.name.{Fresh, Power, Command, Send, Push, Down, Consume, Credit, Air, Reply, Up, Report, Read, Bad, Run}
use Rattle.forms.specs.Names.{text_of, among}

-- the search of a list
among_find : (xs : List Name) (l : Octets) → unwrap_or (find (λ x. same_as l (text_of x)) xs) Bad ≡ among xs l
unfolding among
among_find [] l = refl
among_find (x ∷ xs) l = go (same_as l (text_of x)) (among_find xs l)
  where
    go : (t : Bool) → unwrap_or (find (λ y. same_as l (text_of y)) xs) Bad ≡ among xs l
        → unwrap_or (cond t (Some x) (find (λ y. same_as l (text_of y)) xs)) Bad ≡ pick t x (among xs l)
    go true e = refl
    go false e = e

as_found : (r : Option Name) → option_map (λ x. x) r ≡ r
as_found None = refl
as_found (Some x) = refl

pub found_among : (r : Option Name) (xs : List Name) (l : Octets) → option_map (λ x. x) r ≡ find (λ x. same_as l (text_of x)) xs
    → unwrap_or r Bad ≡ among xs l
found_among r xs l e = ap (λ (o : Option Name). unwrap_or o Bad) (sym (as_found r) ∙ e) ∙ among_find xs l

pub name_short : (x : Name) → length (text_of x) ≤ 7
name_short Fresh = omega arith
name_short Power = omega arith
name_short Command = omega arith
name_short Send = omega arith
name_short Push = omega arith
name_short Down = omega arith
name_short Consume = omega arith
name_short Credit = omega arith
name_short Air = omega arith
name_short Reply = omega arith
name_short Up = omega arith
name_short Report = omega arith
name_short Read = omega arith
name_short Bad = omega arith
name_short Run = omega arith
