-- `ascii::write::put_octet` meets its contract: where both digits have room all of the text fits.
use native.Mathlib.Omega.{arith}
use mathlib.Core.List.{[], ◌∷◌}
use Rattle.ascii.specs.Digits.{hex_of}
use Rattle.ascii.proofs.Writing.{wrote_fitting, wrote_text}
use Rattle.ascii.proofs.write.put_octet.Goals as goal

pub returns-then-out-at-ge2 : goal.returns-then-out-at-ge2
unfolding hex_of
returns-then-out-at-ge2 c =
    let a = c.args in
    wrote_text (λ i. c.digit.ensures i ∷ c.digit-2.ensures i ∷ [])
    (wrote_fitting a.out.now (c.digit.result ∷ c.digit-2.result ∷ []) c.put.new.dst a.at 2 c.requires (omega (arith, c.if-out-at-ge2.true)) c.put.ensures)

pub returns-else-out-at-ge2 : goal.returns-else-out-at-ge2
unfolding hex_of
returns-else-out-at-ge2 c = wrote_text (λ i. c.digit.ensures i ∷ c.digit-2.ensures i ∷ []) c.put-else-out-at-ge2.ensures
