-- The lists in which a response discards a message from hand, by computation.
-- Assumes nothing.
use mathlib.Core.Path.{refl}
use Rattle.octets.specs.Octets.{cut}
use Rattle.packets.specs.Packet.{octet0, octet1, packet_of, oid_of, carried_of, spare_of, header_of, read_of}
use Rattle.packets.specs.Segments.{segments_within, segments}
use Rattle.state.specs.Conn.{place_of, conn_of, terms_of}
use Rattle.state.specs.Commands.{command_of}
use Rattle.nfcc.specs.Controller.{shortest, allowed, reset_by, after, seek, next_id, create_by, close_by, judge_of, controller_after}
use Rattle.messages.specs.Layout.{response_of, notice_message}
use Rattle.dh.specs.Contents.{notice_of, zeros, init_written, create_written, written}
use Rattle.dh.specs.Host.{answer_of, heard_written, hear_of, host_after, drop_heard}
use Rattle.wires.specs.Meaning.{meaning}
use Rattle.model.specs.Refusals.{first}
use Rattle.model.specs.Bench.{step}
use Rattle.model.specs.Observer.{events, observed}
use Rattle.model.specs.Table.{Plays}
use Rattle.model.specs.Discards.{diary}
use Rattle.model.specs.Discarded.{Discarded}

pub discarded : Discarded Plays
unfolding cut octet0 octet1 packet_of oid_of carried_of spare_of header_of read_of segments_within segments place_of conn_of terms_of command_of shortest allowed reset_by after seek next_id create_by close_by judge_of controller_after response_of notice_message notice_of zeros init_written create_written written answer_of heard_written hear_of host_after drop_heard meaning first step events observed diary
discarded =
    record {
      close = record { played = λ s. refl; behind = _; next_read = refl; response = refl; shuts = refl; left = refl; sent_at = refl; command_at = refl };
      reset = record { played = λ s. refl; behind = _; next_read = refl; response = refl; shuts = refl; left = refl; sent_at = refl; command_at = refl };
      close_read = λ s. refl;
      reset_read = λ s. refl;
      late = λ s. refl;
      refused_close = λ s. refl;
      beside_create = λ s. refl;
    }
