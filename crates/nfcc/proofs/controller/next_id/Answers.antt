-- `nfcc::controller::next_id` meets its contract. The loop's invariant: what is sought from id on, with the tries that are left,
-- is the answer.
use Rattle.std.proofs.Common.{◌≡◌, ℕ, zero, suc, ◌+◌, ◌-◌, ◌<◌, Bool, true, false, Some, None, sym, ◌∙◌, add-one, arith}
use Rattle.state.specs.Conn.{open_at}
use Rattle.nfcc.specs.Controller.{after, seek, next_id}
use Rattle.nfcc.proofs.controller.next_id.Goals as goal

-- an ID that is not open is found at once, an open one is passed, and without a try left there is none
seek_free : (is_open : ℕ → Bool) (n id : ℕ) → 0 < n → is_open id ≡ false → seek is_open n id ≡ Some id
unfolding seek
seek_free is_open zero id h e = absurd (omega arith)
seek_free is_open (suc n) id h e = rw e

seek_open : (is_open : ℕ → Bool) (n left id : ℕ) → n ≡ left + 1 → is_open id ≡ true → seek is_open n id ≡ seek is_open left (after id)
unfolding seek
seek_open is_open n left id h e = rw (h, add-one left, e)

seek_spent : (is_open : ℕ → Bool) (n id : ℕ) → n ≡ 0 → seek is_open n id ≡ None
unfolding seek
seek_spent is_open n id h = rw h

pub loop-init : goal.loop-init
unfolding next_id
loop-init c = rw c.after-id.ensures

pub returns-then-not-open_at : goal.returns-then-not-open_at
returns-then-not-open_at c =
    let free = sym c.open_at.ensures ∙ c.if-not-open_at.true in
    sym (seek_free (open_at c.args.conns) (4 - c.loop.counter) c.loop.id (omega arith) free) ∙ c.loop.invariant

pub loop-preserved : goal.loop-preserved
loop-preserved c =
    let passed = sym c.open_at.ensures ∙ c.if-not-open_at.false in
    rw c.after-id-in-loop.ensures
    (sym (seek_open (open_at c.args.conns) (4 - c.loop.counter) (4 - (c.loop.counter + 1)) c.loop.id (omega arith) passed)
    ∙ c.loop.invariant)

pub returns : goal.returns
returns c = sym (seek_spent (open_at c.args.conns) (4 - c.loop.counter) c.loop.id (omega arith)) ∙ c.loop.invariant
