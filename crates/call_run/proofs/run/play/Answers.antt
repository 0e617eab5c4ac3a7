-- `call_run::run::play` meets its contract: not loaded, a move, none left.
use Prim.Native.Nat.{ℕ}
use mathlib.Core.Path.{◌≡◌, refl, sym, ap, ◌∙◌, subst}
use lib.ListN.{length}
use Rattle.std.specs.Prelude.{Option, IfOk}
use Rattle.state.specs.declared.kinds.Record.{Record}
use Rattle.state.specs.Refusal.{number_in, Attempt}
use Rattle.record.specs.Reading.{decode_of}
use Rattle.calls.specs.Outcome.{lowest, entry_rules}
use Rattle.calls.specs.Run.{move_on}
use Rattle.call_run.specs.Moves.{call_of, Played}
use Rattle.call_run.proofs.Made.{loaded_in, none_shut, inside, own_ring, same_move}
use Rattle.call_run.proofs.run.play.Goals as goal
use Rattle.call_run.proofs.run.play.Goals.{In_ok-r}

-- what is known of the record that was loaded
own : (c : In_ok-r) → c.in_ok-r.r ≡ decode_of c.args.area.now
own c = subst (λ (l : Attempt Record). IfOk l (λ (r : Record). r ≡ decode_of c.args.area.now)) (loaded_in c.enter.result c.in_ok-r.r c.in_ok-r.ensures.value) c.enter.ensures.loads

none : (c : In_ok-r) → 0 ≡ lowest (entry_rules c.args.area.now (length c.args.out.now))
none c = ap number_in (sym (loaded_in c.enter.result c.in_ok-r.r c.in_ok-r.ensures.value)) ∙ c.enter.ensures.answer

pub returns-in_err-r : goal.returns-in_err-r
returns-in_err-r c =
    let a = c.args.area.now in
    let out = c.args.out.now in
    subst (λ (x : Option ℕ). Played (move_on a out) a out x a out) (sym c.from_residual.ensures)
    (none_shut a out c.enter.result c.in_err-r.ensures.value c.enter.ensures.answer, refl, refl)

pub next-requires : goal.next-requires
next-requires c =
    let l = (goal.at.next-requires c).In_ok-r in own_ring c.args.area.now c.args.out.now c.in_ok-r.r (own l) (none l)

pub returns-in_err-m : goal.returns-in_err-m
returns-in_err-m c =
    let a = c.args.area.now in
    let out = c.args.out.now in
    let l = (goal.at.returns-in_err-m c).In_ok-r in
    subst (λ (x : Option ℕ). Played (move_on a out) a out x a out) (sym c.from_residual-in_err-m.ensures)
    (sym (same_move a out c.in_ok-r.r (own l) (none l)) ∙ sym c.in_err-m.ensures.result_value, refl, refl)

pub make-requires : goal.make-requires
make-requires c =
    let l = (goal.at.make-requires c).In_ok-r in
    let x = inside c.args.area.now c.args.out.now c.in_ok-r.r (own l) (none l) in
    record { long = x.long; judged = x.judged; room = x.room; own = own l; none = c.in_ok-m.ensures.possible }

pub returns : goal.returns
returns c =
    let l = (goal.at.returns c).In_ok-r in
    (call_of c.in_ok-m.m, sym (same_move c.args.area.now c.args.out.now c.in_ok-r.r (own l) (none l)) ∙ sym c.in_ok-m.ensures.result_value, c.make.ensures)
