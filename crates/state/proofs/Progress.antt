-- The laws of `specs/Runs.antt`: the numbers of a run are those of the packet layer's reassembly.
-- Assumes nothing.
use Prim.Native.Nat.{ℕ, ◌+◌, ◌-◌, ◌≤◌}
use native.Mathlib.Decide.{dec_le}
use native.Mathlib.Omega.{arith}
use mathlib.Core.Path.{◌≡◌, refl, sym, ◌∙◌}
use mathlib.Core.Bool.{Bool, true, false, not, ◌&&◌, false≢true}
use lib.ListN.{length, length-append}
use lib.Dec.{leb, ltb}
use borrow.Author.Tests.{le-leb, lt-leb, leb-true, lt-ltb, le-ltb}
use Rattle.packets.specs.Segments.{Segment, more, last}
use Rattle.packets.specs.Reassembly.{Run, run, lost}
use Rattle.state.specs.Kinds.{Header, Progress, ControlRun, Joined}
use Rattle.state.specs.Runs.{control_limit, within, same_run, run_for, joined_of, control_joined, JoinsAs}
use Rattle.state.proofs.Chains.{on}

-- ---- within

pub within_room : (limit : ℕ) (p : Progress) (n : ℕ) → within limit p n ≡ true → p.len + n ≤ limit
within_room limit p n e = go p.lost e
  where
    go : (b : Bool) → (not b && leb (p.len + n) limit) ≡ true → p.len + n ≤ limit
    go true h = absurd (let z : ◌≡◌ {A = ℕ} 0 1 = cc in omega arith)
    go false h = leb-true _ _ h

pub leb_from : (a n limit : ℕ) → n ≤ limit → leb a (limit - n) ≡ leb (a + n) limit
leb_from a n limit h = go (dec_le (a + n) limit)
  where
    go : Dec (a + n ≤ limit) → leb a (limit - n) ≡ leb (a + n) limit
    go (yes e) = le-leb a (limit - n) (omega arith) ∙ sym (le-leb (a + n) limit e)
    go (no e) = lt-leb a (limit - n) (omega arith) ∙ sym (lt-leb (a + n) limit (omega arith))

-- ---- joined_of and the packet layer's reassembly

-- the two tests on a segment's end agree
pub record Test (limit n : ℕ) (past : Bool) : Type 0 where
  pub longer : ltb limit n ≡ past
  pub shorter : leb n limit ≡ not past

tested : (limit n : ℕ) → Test limit n (ltb limit n)
tested limit n = go (dec_le n limit)
  where
    go : Dec (n ≤ limit) → Test limit n (ltb limit n)
    go (yes e) = record { longer = refl; shorter = rw (le-leb n limit e, le-ltb limit n e) }
    go (no e) = record { longer = refl; shorter = rw (lt-leb n limit (omega arith), lt-ltb limit n (omega arith)) }

-- the numbers after a segment are those of the run after it, it is done where a message is handed out, and the flag is the same
pub joins : (limit : ℕ) (q : Run) (s : Segment) → JoinsAs limit q s
unfolding joined_of
joins limit (run r) (more b) = go (ltb limit (length r + length b)) (tested limit (length r + length b))
  where
    go : (t : Bool) → Test limit (length r + length b) t → JoinsAs limit (run r) (more b)
    go true e = record { next = rw (e.shorter, e.longer); done = rw e.shorter; dropped = rw (e.shorter, e.longer) }
    go false e = record { next = rw (e.shorter, e.longer, ← length-append r b); done = rw e.shorter; dropped = rw (e.shorter, e.longer) }
joins limit (run r) (last b) = go (ltb limit (length r + length b)) (tested limit (length r + length b))
  where
    go : (t : Bool) → Test limit (length r + length b) t → JoinsAs limit (run r) (last b)
    go true e = record { next = rw e.shorter; done = rw (e.shorter, e.longer); dropped = rw (e.shorter, e.longer) }
    go false e = record { next = rw e.shorter; done = rw (e.shorter, e.longer); dropped = rw (e.shorter, e.longer) }
joins limit lost (more b) = record { next = refl; done = refl; dropped = refl }
joins limit lost (last b) = record { next = refl; done = refl; dropped = refl }

-- ---- limits of a run after a segment

module _ (limit : ℕ) (p : Progress) (b : Bool) (n : ℕ) where
  -- a run within its limit stays within it
  pub joined_fits : (joined_of limit p b n).next.len ≤ limit
  unfolding joined_of
  joined_fits =
      on (λ (j : Joined). j.next.len ≤ limit) (within limit p n)
      (λ e. on (λ (q : Progress). q.len ≤ limit) b (λ _. within_room limit p n e) (λ _. omega arith))
      (λ _. omega arith)

  -- a message that is whole is within it
  pub done_within : (joined_of limit p b n).done ≡ true → within limit p n ≡ true
  unfolding joined_of
  done_within e = go (within limit p n) refl
    where
      go : (w : Bool) → within limit p n ≡ w → w ≡ true
      go true q = refl
      go false q = absurd (false≢true (rw q at e))

  pub done_room : (joined_of limit p b n).done ≡ true → p.len + n ≤ limit
  done_room e = within_room limit p n (done_within e)

-- and so with control runs
module _ (k : ControlRun) (h : Header) (n : ℕ) where
  pub run_fits : k.run.len ≤ control_limit → (run_for k h).len ≤ control_limit
  run_fits e = on (λ (p : Progress). p.len ≤ control_limit) (same_run k h) (λ _. e) (λ _. omega arith)

  pub control_fits : (control_joined k h n).next.run.len ≤ control_limit
  unfolding control_joined
  control_fits = joined_fits control_limit (run_for k h) h.pbf n

  control_within : (control_joined k h n).done ≡ true → within control_limit (run_for k h) n ≡ true
  unfolding control_joined
  control_within e = done_within control_limit (run_for k h) h.pbf n e

  pub control_room : (control_joined k h n).done ≡ true → (run_for k h).len + n ≤ control_limit
  control_room e = within_room control_limit (run_for k h) n (control_within e)

  pub control_base : (control_joined k h n).base ≡ (run_for k h).len
  unfolding control_joined
  control_base = refl
