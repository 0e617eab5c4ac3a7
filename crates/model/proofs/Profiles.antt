-- The lists with a tight and a loose connection, by computation.
-- Assumes nothing.
use mathlib.Core.Path.{refl}
use Rattle.octets.specs.Octets.{cut}
use Rattle.packets.specs.Packet.{octet0, octet1, packet_of, oid_of, carried_of, spare_of, header_of, read_of}
use Rattle.packets.specs.Segments.{segments_within, segments}
use Rattle.state.specs.Conn.{place_of, terms_of}
use Rattle.state.specs.Commands.{command_of}
use Rattle.nfcc.specs.Controller.{shortest, allowed, reset_by, after, seek, next_id, create_by, close_by, configs_ok, discover_by, judge_of, controller_after}
use Rattle.messages.specs.Layout.{response_of, notice_message}
use Rattle.air.specs.Air.{poll_in, event_of, poll_by, aired_by, air_message, controller_aired}
use Rattle.dh.specs.Contents.{notice_of, zeros, init_written, create_written, activated_written, written}
use Rattle.dh.specs.Host.{answer_of, heard_written, hear_of, host_after, drop_heard}
use Rattle.wires.specs.Meaning.{meaning}
use Rattle.wires.specs.Tally.{data_count}
use Rattle.wires.specs.Counted.{inside_of, counted_up}
use Rattle.model.specs.Refusals.{first}
use Rattle.model.specs.Bench.{step}
use Rattle.model.specs.Observer.{events}
use Rattle.model.specs.Table.{Plays}
use Rattle.model.specs.Profiles.{Profiles}

pub profiles : Profiles Plays
unfolding cut octet0 octet1 packet_of oid_of carried_of spare_of header_of read_of segments_within segments place_of terms_of command_of shortest allowed reset_by after seek next_id create_by close_by configs_ok discover_by judge_of controller_after response_of notice_message poll_in event_of poll_by aired_by air_message controller_aired notice_of zeros init_written create_written activated_written written answer_of heard_written hear_of host_after drop_heard meaning data_count inside_of counted_up first step events
profiles =
    record {
      each = λ s. refl;
      after_close = λ s. refl;
      static = λ s. refl;
      side_by_side = λ s. refl;
      nine_credits = λ s. refl;
      no_payload = λ s. refl;
      nine_octets = λ s. refl;
    }
