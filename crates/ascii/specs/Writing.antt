-- Text written into the caller's buffer.
-- Assumes nothing.
use Rattle.std.specs.Prelude.{ℕ, ◌+◌, ◌≤◌, min, ◌≡◌, length}
use Rattle.octets.specs.Octets.{Octets, splice}

-- a text is written over a buffer from index at on, as far as there is room; end is the index after it
pub record Wrote (buffer : Octets) (at : ℕ) (text : Octets) (end : ℕ) (after : Octets) : Type 0 where
  pub octets : after ≡ splice buffer at text
  pub next : end ≡ min (at + length text) (length buffer)
  pub room : end ≤ length after
