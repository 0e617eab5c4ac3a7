-- What is proved of the record and its octets, apart from the functions' own contracts. The proofs are in proofs/Claims.antt.
-- Assumes nothing.
use Rattle.std.specs.Prelude.{ℕ, ◌+◌, ◌≤◌, ◌<◌, ◌≡◌, true, false, length, get_or, Ok, Err}
use Rattle.octets.specs.Octets.{Octets, cut, splice}
use Rattle.config.specs.Table.{config_size}
use Rattle.config.specs.Stored.{parameters_ok}
use Rattle.record.specs.Kinds.{Record}
use Rattle.record.specs.Kinds.refusal as refusal
use Rattle.record.specs.Layout.{record_octets, record_end, config_octets, configured}
use Rattle.area.specs.Map.{area_size, record_at, record_room}
use Rattle.record.specs.Reading.{decode_of}
use Rattle.record.specs.Writing.{encode_of}
use Rattle.record.specs.Judge.{record_ok, judge_of}
use Rattle.record.specs.Fit.{Shape, Fit, Granted}
use Rattle.record.specs.Load.{blank, unsound, load_of}

-- the area after a record is written into it
abbrev pub saved : Octets → Record → Octets
saved area r = splice area record_at (encode_of r)

-- ---- the claims

pub record Claims : Type 0 where
  -- octet k of the record is octet 36,352 + k of the area
  pub record_octet : (area : Octets) (k : ℕ) → k < record_room → get_or (record_octets area) k 0 ≡ get_or area (record_at + k) 0
  -- what was written is read back, whatever its credits, and judged good, for every record whose numbers are within row 1
  pub reads_back : (area : Octets) (r : Record) → area_size ≤ length area → Shape r → Fit r → decode_of (saved area r) ≡ r
  pub judged_back : (area : Octets) (r : Record) → area_size ≤ length area → Shape r → record_ok r ≡ true
      → parameters_ok (config_octets area) ≡ true → judge_of (saved area r) ≡ true
  -- a record that is judged good has all its bounds, and one that has them has numbers within row 1
  pub judged_fits : (area : Octets) → judge_of area ≡ true → area_size ≤ length area → Fit (decode_of area)
  pub judged_granted : (area : Octets) → judge_of area ≡ true → Granted (decode_of area)
  pub fits_judged : (r : Record) → Fit r → Granted r → record_ok r ≡ true
  -- and so has its configuration, which writing a record leaves alone
  pub judged_parameters : (area : Octets) → judge_of area ≡ true → parameters_ok (config_octets area) ≡ true
  pub same_config : (area : Octets) (r : Record) → config_octets (saved area r) ≡ config_octets area
  -- values written behind a record are read back, and leave it alone
  pub configured_back : (area b : Octets) → area_size ≤ length area → length b ≡ config_size → config_octets (configured area b) ≡ b
  pub configured_record : (area b : Octets) → decode_of (configured area b) ≡ decode_of area
  pub decoded_shape : (area : Octets) → Shape (decode_of area)
  -- octets outside the record's 160 are untouched by writing it, and the area's length is kept
  pub outside_before : (area : Octets) (r : Record) (i n : ℕ) → i + n ≤ record_at → cut i n (saved area r) ≡ cut i n area
  pub outside_after : (area : Octets) (r : Record) (i n : ℕ) → record_at + record_end ≤ i → cut i n (saved area r) ≡ cut i n area
  pub outside_length : (area : Octets) (r : Record) → length (saved area r) ≡ length area
  -- what is written before the record's place leaves the record and its judgement
  pub same_record : (area : Octets) (i : ℕ) (v : Octets) → i + length v ≤ record_at → decode_of (splice area i v) ≡ decode_of area
  pub same_judgement : (area : Octets) (i : ℕ) (v : Octets) → i + length v ≤ record_at → judge_of (splice area i v) ≡ judge_of area
  -- what is loaded
  pub short_load : (area : Octets) → length area < area_size → load_of area ≡ Err (unsound refusal.TooShort blank)
  pub bad_load : (area : Octets) → area_size ≤ length area → judge_of area ≡ false → load_of area ≡ Err (unsound refusal.RecordDamaged (decode_of area))
  pub long_load : (area : Octets) → area_size ≤ length area → judge_of area ≡ true → load_of area ≡ Ok (decode_of area)
