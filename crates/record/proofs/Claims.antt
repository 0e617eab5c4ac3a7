-- All that `specs/Claims.antt` claims.
-- Assumes nothing.
use mathlib.Core.Path.{refl}
use Rattle.octets.specs.Octets.{Octets}
use Rattle.record.specs.Reading.{pairs_at, controller_at, conns_at, ends_of, record_of, decode_of}
use Rattle.record.specs.Fit.{Shape}
use Rattle.record.specs.Claims.{Claims}
use Rattle.record.proofs.Loads.{short_load, bad_load, long_load}
use Rattle.record.proofs.Fits.{judged_fits, judged_granted, judged_parameters, fits_judged}
use Rattle.record.proofs.ReadsBack.{reads_back, judged_back}
use Rattle.record.proofs.Configured.{configured_back, configured_record}
use Rattle.record.proofs.Outside.{record_octet, outside_before, outside_after, outside_length, same_config, same_record, same_judgement}

pub decoded_shape : (area : Octets) → Shape (decode_of area)
unfolding decode_of record_of ends_of controller_at pairs_at conns_at
decoded_shape area = record { pairs = refl; conns = refl }

pub claims : Claims
claims =
    record {
      record_octet = record_octet;
      reads_back = reads_back;
      judged_back = judged_back;
      judged_fits = judged_fits;
      judged_granted = judged_granted;
      fits_judged = fits_judged;
      judged_parameters = judged_parameters;
      same_config = same_config;
      configured_back = configured_back;
      configured_record = configured_record;
      decoded_shape = decoded_shape;
      outside_before = outside_before;
      outside_after = outside_after;
      outside_length = outside_length;
      same_record = same_record;
      same_judgement = same_judgement;
      short_load = short_load;
      bad_load = bad_load;
      long_load = long_load;
    }
