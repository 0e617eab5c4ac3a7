-- A segment joins a run: the octets in the area are those of the packet layer's reassembly.
-- Assumes nothing.
use Prim.Native.Nat.{ℕ, ◌+◌, ◌≤◌, ◌<◌}
use native.Mathlib.Omega.{arith}
use native.Mathlib.Decide.{dec_le}
use mathlib.Core.Path.{◌≡◌, refl, sym, ap}
use mathlib.Core.Bool.{Bool, true, false}
use mathlib.Core.List.{[], ◌∷◌, ◌++◌}
use lib.ListN.{length}
use borrow.Author.Tests.{le-leb, lt-leb, lt-ltb, le-ltb}
use Rattle.octets.specs.Octets.{Octets, pick, cut, splice}
use Rattle.octets.proofs.Octets.{length_cut, cut_grown}
use Rattle.packets.specs.Segments.{Segment, more, last, body, flag}
use Rattle.packets.specs.Reassembly.{run}
use Rattle.views.specs.Kinds.{Progress}
use Rattle.state.specs.Runs.{within, joined_of}
use Rattle.state.proofs.Progress.{within_room}
use Rattle.area.specs.Runs.{run_area}
use Rattle.views.specs.View.{run_of}
use Rattle.views.specs.Moves.{RunJoined}
use Rattle.views.proofs.Frames.{Outside, outside_splice, outside_none}

module _ (limit base n : ℕ) (a : Octets) (h : n ≤ limit) (room : base + limit ≤ length a) where
  abbrev so_far : Progress
  so_far = record { len = n; lost = false }

  -- the octets so far, and a segment after them
  after : (v : Octets) → n + length v ≤ limit → cut base (n + length v) (splice a (base + n) v) ≡ cut base n a ++ v
  after v e = cut_grown a base n v (omega arith)

  long : length (cut base n a) ≡ n
  long = length_cut base n a (omega arith)

  joins_more : (v : Octets) → Dec (n + length v ≤ limit)
      → RunJoined limit base a so_far (more v) (run_area limit base a so_far v) (joined_of limit so_far true (length v))
  unfolding joined_of run_area run_of
  joins_more v (yes e) =
      record {
        next = rw (le-leb _ _ e, long, le-ltb _ _ e) (ap run (after v e));
        message = rw (le-leb _ _ e);
        drop = rw (le-leb _ _ e, long, le-ltb _ _ e);
      }
  joins_more v (no e) =
      let g : limit < n + length v = omega arith in
      record {
        next = rw (lt-leb _ _ g, long, lt-ltb _ _ g);
        message = rw (lt-leb _ _ g);
        drop = rw (lt-leb _ _ g, long, lt-ltb _ _ g);
      }

  joins_last : (v : Octets) → Dec (n + length v ≤ limit)
      → RunJoined limit base a so_far (last v) (run_area limit base a so_far v) (joined_of limit so_far false (length v))
  unfolding joined_of run_area run_of cut
  joins_last v (yes e) =
      record {
        next = rw (le-leb _ _ e);
        message = rw (le-leb _ _ e, long, le-ltb _ _ e) (ap (λ (m : Octets). m ∷ []) (sym (after v e)));
        drop = rw (le-leb _ _ e, long, le-ltb _ _ e);
      }
  joins_last v (no e) =
      let g : limit < n + length v = omega arith in
      record {
        next = rw (lt-leb _ _ g);
        message = rw (lt-leb _ _ g, long, lt-ltb _ _ g);
        drop = rw (lt-leb _ _ g, long, lt-ltb _ _ g);
      }

  joins_so_far : (x : Segment) → RunJoined limit base a so_far x (run_area limit base a so_far (body x)) (joined_of limit so_far (flag x) (length (body x)))
  joins_so_far (more v) = joins_more v (dec_le (n + length v) limit)
  joins_so_far (last v) = joins_last v (dec_le (n + length v) limit)

-- a run that is lost stays lost up to its last segment
joins_lost : (limit base n : ℕ) (a : Octets) (x : Segment)
    → RunJoined limit base a (record { len = n; lost = true }) x (run_area limit base a (record { len = n; lost = true }) (body x)) (joined_of limit (record { len = n; lost = true }) (flag x) (length (body x)))
unfolding joined_of run_area run_of cut
joins_lost limit base n a (more v) = record { next = refl; message = refl; drop = refl }
joins_lost limit base n a (last v) = record { next = refl; message = refl; drop = refl }

pub run_joined : (limit base : ℕ) (a : Octets) (p : Progress) (x : Segment) → p.len ≤ limit → base + limit ≤ length a
    → RunJoined limit base a p x (run_area limit base a p (body x)) (joined_of limit p (flag x) (length (body x)))
run_joined limit base a p x h room = go p.lost
  where
    go : (b : Bool) → RunJoined limit base a (record { len = p.len; lost = b }) x (run_area limit base a (record { len = p.len; lost = b }) (body x)) (joined_of limit (record { len = p.len; lost = b }) (flag x) (length (body x)))
    go true = joins_lost limit base p.len a x
    go false = joins_so_far limit base p.len a h room x

-- and only octets from base up to the limit are written
pub run_outside : (limit base : ℕ) (a : Octets) (p : Progress) (v : Octets) → Outside base (base + limit) a (run_area limit base a p v)
unfolding run_area
run_outside limit base a p v = go (within limit p (length v)) refl
  where
    go : (t : Bool) → within limit p (length v) ≡ t → Outside base (base + limit) a (pick t (splice a (base + p.len) v) a)
    go true e = let h = within_room limit p (length v) e in outside_splice base (base + limit) a (base + p.len) v (omega arith) (omega arith)
    go false e = outside_none base (base + limit) a
