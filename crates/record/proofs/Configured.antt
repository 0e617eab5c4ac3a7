-- The configuration behind the record: its length, its own octets after it is written, and the record, which that leaves alone.
-- Assumes nothing.
use Prim.Native.Nat.{ℕ, zero, suc, ◌+◌, ◌≤◌, ◌<◌}
use mathlib.Core.Path.{◌≡◌, refl, sym, ap, ◌∙◌}
use mathlib.Core.List.{◌∷◌}
use native.Mathlib.Omega.{arith}
use lib.ListN.{length, get_or}
use Rattle.octets.specs.Octets.{Octets, cut}
use Rattle.octets.specs.Octal.{Octal}
use Rattle.octets.proofs.Octal.{octal_splice}
use Rattle.octets.proofs.Octets.{length_cut, length_splice, octet_cut, cut_same, cut_before}
use Rattle.state.proofs.Chains.{elements}
use Rattle.area.specs.Map.{area_size, record_at, record_room}
use Rattle.config.specs.Table.{config_size}
use Rattle.record.specs.Layout.{record_octets, record_end, config_at, config_octets, configured}
use Rattle.record.specs.Reading.{wide_at, profile_at, progress_at, control_run_at, hand_at, ring_at, host_at, pair_at, pairs_at, controller_at, host_side_at, controller_side_at, counts_at, conns_at, ends_of, record_of, decode_of}

pub length_config : (area : Octets) → area_size ≤ length area → length (config_octets area) ≡ config_size
unfolding config_octets
length_config area long = length_cut config_at config_size area (omega arith)

-- ---- a record goes by its own octets alone

elements_agree : (s t : Octets) (n i : ℕ) → ((k : ℕ) → k < i + n → get_or s k 0 ≡ get_or t k 0) → elements s i n ≡ elements t i n
elements_agree s t zero i h = refl
elements_agree s t (suc n) i h = λ j. h i (omega arith) j ∷ elements_agree s t n (suc i) (λ k less. h k (omega arith)) j

record_of_elements : (s : Octets) → record_of (elements s 0 record_end) ≡ record_of s
unfolding record_of ends_of conns_at counts_at controller_side_at host_side_at controller_at pairs_at pair_at host_at ring_at hand_at control_run_at progress_at profile_at wide_at
record_of_elements s = refl

module _ (a b : Octets) (same : cut record_at record_end a ≡ cut record_at record_end b) where
  octet_agrees : (k : ℕ) → k < record_end → get_or (record_octets a) k 0 ≡ get_or (record_octets b) k 0
  unfolding record_octets
  octet_agrees k less = at a ∙ ap (λ (l : Octets). get_or l k 0) same ∙ sym (at b)
    where
      at : (l : Octets) → get_or (cut record_at record_room l) k 0 ≡ get_or (cut record_at record_end l) k 0
      at l = octet_cut record_at record_room l k (omega arith) ∙ sym (octet_cut record_at record_end l k less)

  pub record_by_its_octets : decode_of a ≡ decode_of b
  unfolding decode_of
  record_by_its_octets =
      sym (record_of_elements (record_octets a))
      ∙ ap record_of (elements_agree (record_octets a) (record_octets b) record_end 0 (λ k less. octet_agrees k (omega arith)))
      ∙ record_of_elements (record_octets b)

-- ---- values written

module _ (area b : Octets) where
  pub configured_length : length (configured area b) ≡ length area
  configured_length = length_splice area config_at b

  pub configured_octal : Octal area → Octal b → Octal (configured area b)
  configured_octal o v = octal_splice config_at o v

  pub configured_record : decode_of (configured area b) ≡ decode_of area
  configured_record = record_by_its_octets (configured area b) area (cut_before area config_at b record_at record_end (omega arith))

  pub configured_back : area_size ≤ length area → length b ≡ config_size → config_octets (configured area b) ≡ b
  unfolding config_octets
  configured_back long size =
      ap (λ (n : ℕ). cut config_at n (configured area b)) (sym size)
      ∙ cut_same area config_at b (rw size (omega arith))
