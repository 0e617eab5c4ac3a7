-- The laws of `load_of`: an area that is too short, one whose record cannot be, and one whose record is loaded.
-- Assumes nothing.
use Prim.Native.Nat.{◌≤◌, ◌<◌}
use mathlib.Core.Path.{◌≡◌}
use mathlib.Core.Bool.{true, false}
use borrow.Author.Tests.{lt-ltb, le-ltb}
use lib.ListN.{length}
use Rattle.std.specs.Prelude.{Ok, Err}
use Rattle.octets.specs.Octets.{Octets}
use Rattle.area.specs.Map.{area_size}
use Rattle.record.specs.Kinds.refusal as refusal
use Rattle.record.specs.Reading.{decode_of}
use Rattle.record.specs.Judge.{judge_of}
use Rattle.record.specs.Load.{blank, unsound, load_of}

pub short_load : (area : Octets) → length area < area_size → load_of area ≡ Err (unsound refusal.TooShort blank)
unfolding load_of
short_load area h = rw (lt-ltb (length area) area_size h)

module _ (area : Octets) (long : area_size ≤ length area) where
  pub long_load : judge_of area ≡ true → load_of area ≡ Ok (decode_of area)
  unfolding load_of
  long_load h = rw (le-ltb (length area) area_size long, h)

  pub bad_load : judge_of area ≡ false → load_of area ≡ Err (unsound refusal.RecordDamaged (decode_of area))
  unfolding load_of
  bad_load h = rw (le-ltb (length area) area_size long, h)
