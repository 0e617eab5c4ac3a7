-- `ascii::hex::decode` meets its contract.
use Prim.Native.Nat.{ℕ, ◌+◌, ◌*◌, ◌/◌}
use mathlib.Core.Path.{◌≡◌, refl, sym, ap, ◌∙◌}
use native.Mathlib.Omega.{arith}
use native.Mathlib.Numerals.{add-one}
use lib.ListN.{length, take, set, get_or}
use lib.Seq.{take_all}
use Rattle.octets.specs.Octets.{splice}
use Rattle.octets.proofs.Octets.{splice_nil, splice_more, length_splice}
use Rattle.ascii.specs.Digits.{value_of, octets_in}
use Rattle.ascii.proofs.Digits.{digit_at, length_octets, octets_at}
use Rattle.ascii.proofs.hex.decode.Goals as goal

pub loop-i-init : goal.loop-i-init
loop-i-init c = sym (splice_nil _ _)

pub bounds-buffer-i : goal.bounds-buffer-i
bounds-buffer-i c =
    omega (arith, c.requires.1, length_octets c.args.text.now, ap length c.loop-i.invariant, length_splice c.args.buffer.now 0 (take c.loop-i.i (octets_in c.args.text.now)))

pub loop-i-preserved : goal.loop-i-preserved
loop-i-preserved c =
    let l = c.loop-i in
    let i = l.i in
    let text = c.args.text.now in
    let all = octets_in text in
    let size : length all ≡ length text / 2 = length_octets text in
    let high : c.unwrap_or-high.result ≡ value_of (get_or text (2 * i) 0) = rw (c.unwrap_or-high.ensures, c.value.ensures, digit_at text c.requires.0 (2 * i) (omega arith)) refl in
    let low : c.unwrap_or-low.result ≡ value_of (get_or text (2 * i + 1) 0) = rw (c.unwrap_or-low.ensures, c.value-in-loop-i.ensures, digit_at text c.requires.0 (2 * i + 1) (omega arith)) refl in
    let octet : c.unwrap_or-high.result * 16 + c.unwrap_or-low.result ≡ get_or all i 0 =
    (λ j. high j * 16 + low j) ∙ sym (octets_at text i (omega arith)) in
    let start : i ≡ 0 + i = omega arith in
    (λ j. set (l.invariant j) (start j) (octet j))
    ∙ splice_more c.args.buffer.now 0 all i (omega arith) (omega (arith, c.requires.1))
    ∙ ap (λ (n : ℕ). splice c.args.buffer.now 0 (take n all)) (sym (add-one i))

pub returns : goal.returns
returns c =
    let l = c.loop-i in
    let all = octets_in c.args.text.now in
    l.invariant ∙ ap (splice c.args.buffer.now 0) (take_all l.i all (omega (arith, length_octets c.args.text.now)))
