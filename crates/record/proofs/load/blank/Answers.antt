-- `record::load::blank` meets its contract.
use Rattle.record.specs.Reading.{wide_at, pending_of, phase_of, rf_of, profile_at, progress_at, control_run_at, hand_at, ring_at, host_at, pair_at, pairs_at, controller_at, host_side_at, controller_side_at, counts_at, conns_at, ends_of, record_of, decode_of}
use Rattle.record.specs.Load.{blank}
use Rattle.record.specs.Layout.{record_octets}
use Rattle.octets.specs.Octets.{cut}
use Rattle.record.proofs.load.blank.Goals as goal

pub returns : goal.returns
unfolding blank record_octets cut wide_at pending_of phase_of rf_of profile_at progress_at control_run_at hand_at ring_at host_at pair_at pairs_at controller_at host_side_at controller_side_at counts_at conns_at ends_of record_of decode_of
returns c = c.record_of.ensures
