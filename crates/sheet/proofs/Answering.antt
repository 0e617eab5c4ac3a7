-- What a line comes to, from the text that was written.
-- Assumes nothing.
use Prim.Native.Nat.{ℕ}
use mathlib.Core.Path.{◌≡◌, refl, sym, ap, subst, ◌∙◌}
use mathlib.Core.Bool.{Bool, true, false}
use mathlib.Core.List.{[], ◌∷◌}
use native.Mathlib.Omega.{arith}
use lib.ListN.{length}
use Rattle.octets.specs.Octets.{Octets, pick}
use Rattle.calls.specs.Word.{answer_in}
use Rattle.calls.specs.Outcome.{Outcome}
use Rattle.ascii.specs.Digits.{leading_in, decimal_of}
use Rattle.ascii.specs.Writing.{Wrote}
use Rattle.ascii.proofs.Writing.{wrote_length}
use Rattle.sheet.specs.Kinds.{Name}
use Rattle.forms.specs.Names.{is_bad}
use Rattle.forms.specs.Form.{args_of, asks}
use Rattle.sheet.specs.Play.{played}
use Rattle.sheet.specs.Sheet.{Answer, bad_line, refused_line, shown, answer_to, Answers}
use Rattle.sheet.proofs.Fitting.{answer_short}

module _ (l a out : Octets) where
  -- the text has room for every answer, so all of it is written
  pub answers : (t after : Octets) (n : ℕ) (x : Answer) → answer_to l a out ≡ x → length t ≡ 18624 → Wrote t 0 x.line n after
      → Answers (answer_to l a out) t n after x.area x.out
  answers t after n x e long w =
      let short = ap (λ (y : Answer). length y.line) e in
      let count : n ≡ length x.line = omega (arith, w.next, long, short, answer_short l a out) in
      subst (λ (y : Answer). Answers y t n after x.area x.out) (sym e)
      (record {
        count = count;
        room = omega (arith, count, long, short, answer_short l a out, wrote_length w);
        text = w.octets;
        area = refl;
        buffer = refl;
      })

  -- a line of another form
  pub answer_bad : (x : Name) → x ≡ asks l → is_bad x ≡ true → answer_to l a out ≡ refused_line a out
  unfolding answer_to
  answer_bad x e b = ap (λ (t : Bool). pick t (refused_line a out) (shown (asks l) (played (asks l) (args_of l) a out))) (ap is_bad (sym e) ∙ b)

  -- a call
  pub answer_call : (x : Name) (m : Octets) (o : Outcome) → x ≡ asks l → is_bad x ≡ false → m ≡ args_of l → o ≡ played x m a out
      → answer_to l a out ≡ shown x o
  unfolding answer_to
  answer_call x m o e b k p =
      ap (λ (t : Bool). pick t (refused_line a out) (shown (asks l) (played (asks l) (args_of l) a out))) (ap is_bad (sym e) ∙ b)
      ∙ sym ((λ i. shown x (p i)) ∙ (λ i. shown (e i) (played (e i) (k i) a out)))

pub bad_text : {t after : Octets} {n : ℕ} → Wrote t 0 (101 ∷ 118 ∷ 61 ∷ 98 ∷ 97 ∷ 100 ∷ 32 ∷ 97 ∷ 110 ∷ 115 ∷ 61 ∷ 51 ∷ []) n after → Wrote t 0 bad_line n after
unfolding leading_in decimal_of answer_in
bad_text w = w
