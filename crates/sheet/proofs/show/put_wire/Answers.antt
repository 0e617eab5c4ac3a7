-- `sheet::show::put_wire` meets its contract. The invariant: what is still to be written makes the whole.
use Prim.Native.Nat.{ℕ, suc, ◌+◌, ◌-◌}
use mathlib.Core.Path.{◌≡◌, refl, ap, ◌∙◌}
use native.Mathlib.Omega.{arith}
use Rattle.ascii.specs.Digits.{hex_of}
use Rattle.sheet.specs.Show.{wire_shown}
use Rattle.sheet.proofs.Showing.{wire_more, wire_none}
use Rattle.ascii.proofs.Writing.{wrote_text, wrote_length, wrote_then, wrote_nothing}
use Rattle.sheet.proofs.show.put_wire.Goals as goal

pub loop-i-init : goal.loop-i-init
loop-i-init c =
    let s = c.args in
    let all : s.n - 0 ≡ s.n = omega arith in
    (c.requires, refl, λ e k w. wrote_text (ap (λ (n : ℕ). hex_of (wire_shown s.wire n s.area.now)) all) w)

pub loop-i-preserved : goal.loop-i-preserved
loop-i-preserved c =
    let l = c.loop-i in
    let s = c.args in
    let w = c.put_packet-next.ensures in
    let back = s.n - 1 - l.i in
    let one : suc back ≡ s.n - l.i = omega arith in
    let left : s.n - (l.i + 1) ≡ back = omega arith in (
      w.room,
      wrote_length w ∙ l.invariant.1,
      λ e k v. l.invariant.2 e k (wrote_text (wire_more s.wire back s.area.now ∙ ap (λ (n : ℕ). hex_of (wire_shown s.wire n s.area.now)) one) (wrote_then _ _ w (wrote_text (ap (λ (n : ℕ). hex_of (wire_shown s.wire n s.area.now)) left) v))),
    )

pub returns : goal.returns
returns c =
    let l = c.loop-i in
    let s = c.args in
    let none : 0 ≡ s.n - l.i = omega arith in
    l.invariant.2 l.next l.text
    (wrote_text (wire_none s.wire s.area.now ∙ ap (λ (n : ℕ). hex_of (wire_shown s.wire n s.area.now)) none) (wrote_nothing l.text l.next l.invariant.0))
