-- `sheet::show::put_moves` meets its contract: a press, or any other event.
use Prim.Native.Nat.{ℕ}
use mathlib.Core.Path.{sym, ap, ◌∙◌}
use mathlib.Core.List.{◌++◌}
use native.Mathlib.Omega.{arith}
use Rattle.calls.specs.Word.{moves_in}
use Rattle.ascii.specs.Digits.{decimal_of}
use Rattle.ascii.proofs.Writing.{wrote_nothing, wrote_text}
use Rattle.sheet.specs.Show.{moves_label}
use Rattle.sheet.proofs.Showing.{press_moves, call_moves, moves_fit}
use Rattle.sheet.proofs.show.put_moves.Goals as goal

pub overflow_cast-moves : goal.overflow_cast-moves
overflow_cast-moves c = omega (arith, c.moves.ensures, moves_fit c.args.w)

pub returns-then-is_run : goal.returns-then-is_run
returns-then-is_run c =
    let s = c.args in
    let press = sym c.is_run.ensures ∙ c.if-is_run.true in
    wrote_text (ap (λ (n : ℕ). moves_label ++ decimal_of n) c.moves.ensures ∙ press_moves s.name (moves_in s.w) press) c.put_number.ensures

pub returns : goal.returns
returns c =
    let s = c.args in
    wrote_text (call_moves s.name (moves_in s.w) (sym c.is_run.ensures ∙ c.if-is_run.false))
    (wrote_nothing _ _ c.requires)
