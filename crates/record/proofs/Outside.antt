-- Octets outside the record and the record itself leave each other alone.
-- Assumes nothing.
use Prim.Native.Nat.{ℕ, ◌+◌, ◌≤◌, ◌<◌}
use mathlib.Core.Path.{◌≡◌, sym, ap, ◌∙◌}
use mathlib.Core.Bool.{◌&&◌}
use native.Mathlib.Omega.{arith}
use lib.ListN.{length, get_or}
use Rattle.octets.specs.Octets.{Octets, cut, splice}
use Rattle.octets.proofs.Octets.{octet_cut, cut_cut, length_splice, cut_before, cut_after}
use Rattle.record.specs.Kinds.{Record}
use Rattle.area.specs.Map.{record_at, record_room}
use Rattle.config.specs.Table.{config_size}
use Rattle.config.specs.Stored.{parameters_ok}
use Rattle.record.specs.Layout.{record_octets, record_end, config_at, config_octets}
use Rattle.record.specs.Reading.{record_of, decode_of}
use Rattle.record.specs.Writing.{encode_of}
use Rattle.record.specs.Judge.{record_ok, tags_ok, judge_of}
use Rattle.record.specs.Claims.{saved}
use Rattle.record.proofs.Writing.{length_encode}

pub record_octet : (area : Octets) (k : ℕ) → k < record_room → get_or (record_octets area) k 0 ≡ get_or area (record_at + k) 0
unfolding record_octets
record_octet area k h = octet_cut record_at record_room area k h

-- the configuration stands in the record's room
config_octets_law : (area : Octets) → config_octets area ≡ cut record_end config_size (record_octets area)
unfolding config_octets record_octets
config_octets_law area = sym (cut_cut record_end config_size record_at record_room area (omega arith))

-- the record, its configuration and their judgement go by the octets of that room
module _ (a b : Octets) (same : record_octets a ≡ record_octets b) where
  pub record_by_octets : decode_of a ≡ decode_of b
  unfolding decode_of
  record_by_octets = ap record_of same

  pub config_by_octets : config_octets a ≡ config_octets b
  config_by_octets = config_octets_law a ∙ ap (cut record_end config_size) same ∙ sym (config_octets_law b)

  pub judged_by_octets : judge_of a ≡ judge_of b
  unfolding judge_of
  judged_by_octets = λ i. tags_ok (same i) && record_ok (record_by_octets i) && parameters_ok (config_by_octets i)

-- ---- writing the record

module _ (area : Octets) (r : Record) where
  pub outside_before : (i n : ℕ) → i + n ≤ record_at → cut i n (saved area r) ≡ cut i n area
  outside_before i n h = cut_before area record_at (encode_of r) i n h

  pub outside_after : (i n : ℕ) → record_at + record_end ≤ i → cut i n (saved area r) ≡ cut i n area
  outside_after i n h =
      let past : record_at + length (encode_of r) ≤ i = rw (length_encode r) (omega arith) in
      cut_after area record_at (encode_of r) i n past

  pub same_config : config_octets (saved area r) ≡ config_octets area
  unfolding config_octets
  same_config = outside_after config_at config_size (omega arith)

  pub outside_length : length (saved area r) ≡ length area
  outside_length = length_splice area record_at (encode_of r)

-- ---- writing before the record

module _ (area : Octets) (i : ℕ) (v : Octets) (before : i + length v ≤ record_at) where
  same_octets_law : record_octets (splice area i v) ≡ record_octets area
  unfolding record_octets
  same_octets_law = cut_after area i v record_at record_room before

  pub same_record : decode_of (splice area i v) ≡ decode_of area
  same_record = record_by_octets (splice area i v) area same_octets_law

  pub same_judgement : judge_of (splice area i v) ≡ judge_of area
  same_judgement = judged_by_octets (splice area i v) area same_octets_law
