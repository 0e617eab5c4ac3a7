-- `forms::form::read_line` meets its contract: another form, octets that fit, octets that do not.
use mathlib.Core.Path.{◌≡◌, sym, ap, subst, ◌∙◌}
use Prim.Native.Nat.{◌/◌}
use mathlib.Core.Bool.{true}
use native.Mathlib.Omega.{arith}
use lib.ListN.{length}
use Rattle.octets.specs.Octets.{Octets, splice}
use Rattle.octets.proofs.Octets.{splice_nil}
use Rattle.ascii.specs.Digits.{is_hex, octets_in}
use Rattle.ascii.proofs.Digits.{length_octets}
use Rattle.forms.specs.Names.{name_in}
use Rattle.forms.specs.Form.{digits_in}
use Rattle.forms.proofs.Forming.{formed_hex, formed_args, args_short, unformed_args, unformed_asks, asked_name, asked_bad}
use Rattle.forms.proofs.form.read_line.Goals as goal

pub returns-then-not-formed : goal.returns-then-not-formed
returns-then-not-formed c =
    let line = c.args.line.now in
    let unformed = sym c.formed.ensures ∙ c.if-not-formed.true in
    record {
      name = sym (unformed_asks line unformed);
      count = ap length (sym (unformed_args line unformed));
      octets = sym (ap (splice c.args.args.now 0) (unformed_args line unformed) ∙ splice_nil c.args.args.now 0);
    }

pub decode-requires : goal.decode-requires
decode-requires c =
    let line = c.args.line.now in
    let good = sym c.formed.ensures ∙ c.if-not-formed.false in
    let digits = c.digits-2.ensures in (
      subst (λ (l : Octets). is_hex l ≡ true) (sym digits) (formed_hex line good),
      omega (arith, ap (λ (l : Octets). length (octets_in l)) digits, args_short line good),
    )

pub returns-then-fits : goal.returns-then-fits
returns-then-fits c =
    let a = c.args in
    let line = a.line.now in
    let good = sym c.formed.ensures ∙ c.if-not-formed.false in
    let count =
    ap (λ (l : Octets). length l / 2) c.digits.ensures
    ∙ sym (length_octets (digits_in line))
    ∙ ap length (sym (formed_args line good)) in
    let octets = c.decode.ensures ∙ ap (splice a.args.now 0) (ap octets_in c.digits-2.ensures ∙ sym (formed_args line good)) in
    let named = c.name_in-name.ensures ∙ ap name_in c.value.ensures in
    record {
      name = asked_name line a.args.now _ _ _ _ good (omega arith) count octets c.window.ensures named (sym c.fits.ensures ∙ c.if-fits.true);
      count = count;
      octets = octets;
    }

pub returns : goal.returns
returns c =
    let a = c.args in
    let line = a.line.now in
    let good = sym c.formed.ensures ∙ c.if-not-formed.false in
    let count =
    ap (λ (l : Octets). length l / 2) c.digits.ensures
    ∙ sym (length_octets (digits_in line))
    ∙ ap length (sym (formed_args line good)) in
    let octets = c.decode.ensures ∙ ap (splice a.args.now 0) (ap octets_in c.digits-2.ensures ∙ sym (formed_args line good)) in
    let named = c.name_in-name.ensures ∙ ap name_in c.value.ensures in
    record {
      name = asked_bad line a.args.now _ _ _ _ good (omega arith) count octets c.window.ensures named (sym c.fits.ensures ∙ c.if-fits.false);
      count = count;
      octets = octets;
    }
