-- What every call has of the record that it writes last: it is what the next call loads, judged good where credits are within the grant and the
-- configuration has values that a set leaves, from an area as long.
-- Assumes nothing.
use Prim.Native.Nat.{◌≤◌}
use native.Mathlib.Omega.{arith}
use mathlib.Core.Path.{◌≡◌}
use mathlib.Core.Bool.{true}
use lib.ListN.{length}
use Rattle.octets.specs.Octets.{Octets}
use Rattle.octets.specs.Octal.{Octal}
use Rattle.octets.proofs.Octal.{octal_splice}
use Rattle.octets.proofs.Octets.{length_splice}
use Rattle.record.specs.Kinds.{Record}
use Rattle.area.specs.Map.{area_size, record_at}
use Rattle.config.specs.Stored.{parameters_ok}
use Rattle.record.specs.Layout.{config_octets}
use Rattle.record.specs.Reading.{decode_of}
use Rattle.record.specs.Writing.{encode_of}
use Rattle.record.specs.Judge.{judge_of}
use Rattle.record.specs.Fit.{Shape, Fit, Granted}
use Rattle.record.specs.Small.{Small}
use Rattle.record.specs.Claims.{saved}
use Rattle.record.proofs.Fits.{fits_judged}
use Rattle.record.proofs.ReadsBack.{reads_back, judged_back}
use Rattle.record.proofs.Small.{octal_encode}

module _ (area : Octets) (r : Record) (long : area_size ≤ length area) where
  pub saved_long : area_size ≤ length (saved area r)
  saved_long = omega (arith, long, length_splice area record_at (encode_of r))

  module _ (fit : Fit r) (shape : Shape r) where
    pub saved_record : decode_of (saved area r) ≡ r
    saved_record = reads_back area r long shape fit

    pub saved_judged : Granted r → parameters_ok (config_octets area) ≡ true → judge_of (saved area r) ≡ true
    saved_judged g = judged_back area r long shape (fits_judged r fit g)

pub saved_octal : (area : Octets) (r : Record) → Octal area → Small r → Octal (saved area r)
saved_octal area r o s = octal_splice record_at o (octal_encode r s)
