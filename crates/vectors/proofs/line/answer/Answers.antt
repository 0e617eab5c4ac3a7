-- `vectors::line::answer` is safe: a line of 600 characters has at most 300 octets.
use mathlib.Core.Path.{sym, ap, ◌∙◌}
use mathlib.Core.List.{[], ◌∷◌}
use native.Mathlib.Omega.{arith}
use lib.ListN.{length}
use Rattle.ascii.proofs.Digits.{length_octets}
use Rattle.ascii.proofs.Lines.{after_short, value_short}
use Rattle.vectors.proofs.line.answer.Goals as goal

pub decode-requires : goal.decode-requires
decode-requires c =
    let digits = c.value-digits.result.now in (
      sym c.is_hex.ensures ∙ c.if-not-is_hex.false,
      omega (arith, length_octets digits, ap length c.value-digits.ensures, value_short (112 ∷ 107 ∷ 116 ∷ []) c.after.result.now, ap length c.after.ensures, after_short c.args.line.now, c.if-line-gt-LONGEST.false),
    )
