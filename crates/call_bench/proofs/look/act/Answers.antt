-- `call_bench::look::act` meets its contract: the parts one after another over the front of the buffer.
use mathlib.Core.Path.{refl}
use native.Mathlib.Omega.{arith}
use Rattle.octets.specs.Octets.{cut}
use Rattle.record.specs.Layout.{bit}
use Rattle.calls.specs.Word.{word_of}
use Rattle.calls.proofs.Look.{pending_part_law, look_stored}
use Rattle.call_bench.proofs.Looked.{conns_flat}
use Rattle.call_bench.proofs.look.act.Goals as goal

pub returns : goal.returns
unfolding word_of bit cut
returns c =
    let r = c.args.r in (
      refl,
      rw (
        c.put-5.ensures,
        c.put-4.ensures,
        c.put-3.ensures,
        c.put-2.ensures,
        c.put.ensures,
        c.as_flattened.ensures.value,
        c.conns_octets.ensures,
        c.traffic_octets.ensures,
        c.host_octets-host.ensures,
        c.rf_octets.ensures,
        c.phase_octet.ensures,
        pending_part_law r.ends.host,
        conns_flat r.ends.conns (omega (arith, c.well_formed)),
      )
          (look_stored c.args.out.now r),
    )
