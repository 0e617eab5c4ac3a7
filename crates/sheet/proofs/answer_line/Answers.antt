-- `sheet::answer_line` meets its contract: a line of another form, or a call.
use Prim.Native.Nat.{ℕ}
use mathlib.Core.Path.{sym, ap, ◌∙◌}
use native.Mathlib.Omega.{arith}
use lib.ListN.{length, replicate, length-replicate}
use Rattle.calls.specs.Outcome.{outcome}
use Rattle.octets.proofs.Octets.{cut_copied, length_splice}
use Rattle.forms.specs.Form.{args_of}
use Rattle.sheet.specs.Sheet.{refused_line, shown}
use Rattle.forms.proofs.Forming.{args_few}
use Rattle.sheet.proofs.Answering.{answers, answer_bad, answer_call, bad_text}
use Rattle.sheet.proofs.answer_line.Goals as goal

pub returns-then-is_bad : goal.returns-then-is_bad
returns-then-is_bad c =
    let s = c.args in
    let q = c.read_line-asked in
    answers s.line.now s.area.now s.out.now s.text.now _ _ (refused_line s.area.now s.out.now)
    (answer_bad _ _ _ q.result.name q.ensures.name (sym c.is_bad.ensures ∙ c.if-is_bad.true))
    (omega arith)
    (bad_text c.put.ensures)

pub slice_bounds-play-end : goal.slice_bounds-play-end
slice_bounds-play-end c =
    let q = c.read_line-asked.ensures in
    let line = c.args.line.now in
    omega (arith, q.count, args_few line, ap length q.octets ∙ length_splice (replicate 1050 0) 0 (args_of line), length-replicate {A = ℕ} 1050 0)

pub returns : goal.returns
returns c =
    let s = c.args in
    let q = c.read_line-asked in
    let line = s.line.now in
    let few = args_few line in
    let args = cut_copied (replicate 1050 0) _ _ q.result.count (sym q.ensures.count) (omega (arith, q.ensures.count, few, length-replicate {A = ℕ} 1050 0)) q.ensures.octets in
    answers line s.area.now s.out.now s.text.now _ _ (shown q.result.name (outcome c.play-w.result c.play-w.new.area c.play-w.new.out))
    (answer_call line s.area.now s.out.now q.result.name _ _ q.ensures.name (sym c.is_bad.ensures ∙ c.if-is_bad.false) args c.play-w.ensures)
    (omega arith)
    c.put_outcome.ensures
