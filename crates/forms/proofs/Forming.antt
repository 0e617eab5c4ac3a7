-- The laws of `specs/Form.antt`.
-- Assumes nothing.
use Prim.Native.Nat.{ℕ, ◌+◌, ◌%◌, ◌≤◌, ◌<◌}
use mathlib.Core.Path.{◌≡◌, refl, sym, ap, subst, ◌∙◌}
use mathlib.Core.Bool.{Bool, true, false, ◌&&◌, false≢true}
use mathlib.Core.List.{[], ◌∷◌, ◌++◌}
use native.Mathlib.Omega.{arith}
use borrow.Author.Tests.{leb-true, le-leb, eqb-true}
use lib.ListN.{length, length-drop}
use lib.Dec.{leb, ltb, eqb}
use Rattle.octets.specs.Octets.{Octets, pick, cut, splice}
use Rattle.octets.specs.Octal.{Octal, octal_nil}
use Rattle.octets.proofs.Octets.{cut_same}
use Rattle.ascii.specs.Letters as letter
use Rattle.ascii.specs.Words.{up_to}
use Rattle.ascii.specs.Fields.{field_of, after_field, has_field, only_field, value_in}
use Rattle.ascii.specs.Digits.{value_of, all_digits, is_hex, octets_in}
use Rattle.ascii.proofs.Words.{both}
use Rattle.ascii.proofs.Lines.{after_short, value_short, line_more, line_only, field_last, field_has, field_value, field_after}
use Rattle.ascii.proofs.Digits.{length_octets, octets_octal}
use Rattle.forms.specs.Kinds.{Name}
use Rattle.forms.specs.Kinds.name.{Bad}
use Rattle.forms.specs.Names.{name_in}
use Rattle.forms.specs.Form.{ev_name, arg_name, word_in, digits_in, formed, args_of, fits, fitting, asks}

-- ---- a line that has the form

module _ (l : Octets) (e : formed l ≡ true) where
  parts : (leb (length l) 2100 && has_field ev_name l && only_field arg_name (after_field l) && is_hex (digits_in l)) ≡ true
  unfolding formed
  parts = e

  pub formed_hex : is_hex (digits_in l) ≡ true
  formed_hex = (both (leb (length l) 2100 && has_field ev_name l && only_field arg_name (after_field l)) (is_hex (digits_in l)) parts).1

  short : length l ≤ 2100
  short =
      let three = (both (leb (length l) 2100 && has_field ev_name l && only_field arg_name (after_field l)) (is_hex (digits_in l)) parts).0 in
      let two = (both (leb (length l) 2100 && has_field ev_name l) (only_field arg_name (after_field l)) three).0 in
      leb-true _ _ (both (leb (length l) 2100) (has_field ev_name l) two).0

  named : (has_field ev_name l ≡ true) × (only_field arg_name (after_field l) ≡ true)
  named =
      let three = (both (leb (length l) 2100 && has_field ev_name l && only_field arg_name (after_field l)) (is_hex (digits_in l)) parts).0 in
      let two = both (leb (length l) 2100 && has_field ev_name l) (only_field arg_name (after_field l)) three in
      ((both (leb (length l) 2100) (has_field ev_name l) two.0).1, two.1)

  -- it is `ev=NAME arg=HEX`, and nothing else
  pub formed_line : l ≡ (ev_name ++ (letter.equals ∷ word_in l)) ++ (letter.blank ∷ (arg_name ++ (letter.equals ∷ digits_in l)))
  formed_line =
      let last : after_field l ≡ arg_name ++ (letter.equals ∷ digits_in l) = line_only arg_name (after_field l) named.1 in
      let more : length (field_of l) < length l = omega (arith, ap length last, length-drop (length (field_of l) + 1) l) in
      line_more ev_name l named.0 more ∙ (λ i. (ev_name ++ (letter.equals ∷ word_in l)) ++ (letter.blank ∷ last i))

  pub formed_args : args_of l ≡ octets_in (digits_in l)
  unfolding args_of
  formed_args = ap (λ (t : Bool). pick t (octets_in (digits_in l)) []) e

  pub formed_asks : asks l ≡ fitting (name_in (word_in l)) (args_of l)
  unfolding asks
  formed_asks = ap (λ (t : Bool). pick t (fitting (name_in (word_in l)) (args_of l)) Bad) e

  -- the buffer for arguments has room
  pub args_short : length (octets_in (digits_in l)) ≤ 1050
  args_short = omega (arith, length_octets (digits_in l), value_short arg_name (after_field l), after_short l, short)

-- digits are no blanks
digits_solid : (h : Octets) → all_digits h ≡ true → field_of h ≡ h
unfolding all_digits up_to value_of
digits_solid [] e = refl
digits_solid (x ∷ h) e =
    let t = both (ltb (value_of x) 16) (all_digits h) e in
    go (eqb x 32) refl t.0 (digits_solid h t.1)
  where
    go : (b : Bool) → eqb x 32 ≡ b → ltb (value_of x) 16 ≡ true → field_of h ≡ h → pick b [] (x ∷ field_of h) ≡ x ∷ h
    go true q d k = absurd (false≢true (ap (λ (y : ℕ). ltb (value_of y) 16) (sym (eqb-true x 32 q)) ∙ d))
    go false q d k = ap (λ (m : Octets). x ∷ m) k

-- a line that is written so has the form: a name without a blank, and pairs of digits
module _ (name h : Octets) (solid : field_of name ≡ name) (hex : is_hex h ≡ true) where
  ev_solid : field_of (ev_name ++ (letter.equals ∷ name)) ≡ ev_name ++ (letter.equals ∷ name)
  unfolding up_to
  ev_solid = ap (λ (m : Octets). ev_name ++ (letter.equals ∷ m)) solid

  arg_solid : field_of (arg_name ++ (letter.equals ∷ h)) ≡ arg_name ++ (letter.equals ∷ h)
  unfolding up_to is_hex
  arg_solid = ap (λ (m : Octets). arg_name ++ (letter.equals ∷ m)) (digits_solid h (both (eqb (length h % 2) 0) (all_digits h) hex).1)

  pub line_word : word_in ((ev_name ++ (letter.equals ∷ name)) ++ (letter.blank ∷ (arg_name ++ (letter.equals ∷ h)))) ≡ name
  line_word = field_value ev_name name ev_solid (arg_name ++ (letter.equals ∷ h))

  pub line_digits : digits_in ((ev_name ++ (letter.equals ∷ name)) ++ (letter.blank ∷ (arg_name ++ (letter.equals ∷ h)))) ≡ h
  line_digits = (λ i. value_in arg_name (field_after ev_name name ev_solid (arg_name ++ (letter.equals ∷ h)) i)) ∙ (field_last arg_name h arg_solid).1

  pub line_formed : length ((ev_name ++ (letter.equals ∷ name)) ++ (letter.blank ∷ (arg_name ++ (letter.equals ∷ h)))) ≤ 2100
      → formed ((ev_name ++ (letter.equals ∷ name)) ++ (letter.blank ∷ (arg_name ++ (letter.equals ∷ h)))) ≡ true
  unfolding formed
  line_formed few =
      λ i.
      le-leb _ _ few i
      && field_has ev_name name ev_solid (arg_name ++ (letter.equals ∷ h)) i
      && ((λ j. only_field arg_name (field_after ev_name name ev_solid (arg_name ++ (letter.equals ∷ h)) j)) ∙ (field_last arg_name h arg_solid).0) i
      && ((λ j. is_hex (line_digits j)) ∙ hex) i

pub unformed_args : (l : Octets) → formed l ≡ false → args_of l ≡ []
unfolding args_of
unformed_args l e = ap (λ (t : Bool). pick t (octets_in (digits_in l)) []) e

-- the buffer has room whatever the line
pub args_few : (l : Octets) → length (args_of l) ≤ 1050
args_few l = go (formed l) refl
  where
    go : (b : Bool) → formed l ≡ b → length (args_of l) ≤ 1050
    go true e = omega (arith, ap length (formed_args l e), args_short l e)
    go false e = omega (arith, ap length (unformed_args l e))

-- they are octets
pub args_octal : (l : Octets) → Octal (args_of l)
args_octal l = go (formed l) refl
  where
    go : (b : Bool) → formed l ≡ b → Octal (args_of l)
    go true e = subst Octal (sym (formed_args l e)) (octets_octal (digits_in l) (formed_hex l e))
    go false e = subst Octal (sym (unformed_args l e)) octal_nil

pub unformed_asks : (l : Octets) → formed l ≡ false → asks l ≡ Bad
unfolding asks
unformed_asks l e = ap (λ (t : Bool). pick t (fitting (name_in (word_in l)) (args_of l)) Bad) e

-- ---- a line that has the form, read: win is the part of the buffer with its octets, x the name that its word is

module _ (line args after win : Octets) (n : ℕ) (x : Name) (e : formed line ≡ true) (room : length args ≡ 1050) (count : n ≡ length (args_of line))
    (octets : after ≡ splice args 0 (args_of line)) (part : win ≡ cut 0 n after) (named : x ≡ name_in (word_in line)) where
  whole : win ≡ args_of line
  whole =
      part
      ∙ (λ i. cut 0 (count i) (octets i))
      ∙ cut_same args 0 (args_of line) (omega (arith, room, ap length (formed_args line e), args_short line e))

  judged : (b : Bool) → fits x win ≡ b → pick b x Bad ≡ asks line
  judged b f =
      (λ i. pick (sym f i) x Bad)
      ∙ (λ i. fitting (named i) (whole i))
      ∙ sym (formed_asks line e)

  pub asked_name : fits x win ≡ true → x ≡ asks line
  asked_name f = judged true f

  pub asked_bad : fits x win ≡ false → Bad ≡ asks line
  asked_bad f = judged false f
