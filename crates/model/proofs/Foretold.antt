-- The lists after which nothing is under way, and what is foretold of them, by computation.
-- Assumes nothing.
use mathlib.Core.Path.{refl}
use Rattle.octets.specs.Octets.{cut}
use Rattle.packets.specs.Packet.{octet0, octet1, packet_of, oid_of, carried_of, spare_of, header_of, read_of, carrying}
use Rattle.packets.specs.Segments.{segments_within, segments}
use Rattle.state.specs.Conn.{place_of, conn_of, terms_of, carriable}
use Rattle.state.specs.Commands.{command_of}
use Rattle.nfcc.specs.Controller.{shortest, allowed, reset_by, after, seek, next_id, create_by, configs_ok, discover_by, deactivate_by, judge_of, controller_after}
use Rattle.messages.specs.Layout.{response_of, notice_message}
use Rattle.air.specs.Air.{poll_in, event_of, poll_by, aired_by, air_message, controller_aired}
use Rattle.dh.specs.Contents.{notice_of, zeros, init_written, create_written, activated_written, deactivate_written, written}
use Rattle.dh.specs.Host.{answer_of, heard_written, hear_of, host_after, drop_heard}
use Rattle.wires.specs.Meaning.{meaning}
use Rattle.wires.specs.Tally.{data_count}
use Rattle.wires.specs.Counted.{inside_of, counted_up}
use Rattle.model.specs.Refusals.{first}
use Rattle.model.specs.calls.Credit.{all_zero}
use Rattle.model.specs.Bench.{step}
use Rattle.model.specs.Observer.{events, observed}
use Rattle.model.specs.Table.{Plays}
use Rattle.model.specs.Discards.{diary}
use Rattle.model.specs.Exact.{speech}
use Rattle.model.specs.Foretold.{Foretold}

pub foretold : Foretold Plays
unfolding cut octet0 octet1 packet_of oid_of carried_of spare_of header_of read_of carrying segments_within segments place_of conn_of terms_of carriable command_of shortest allowed reset_by after seek next_id create_by configs_ok discover_by deactivate_by judge_of controller_after response_of notice_message poll_in event_of poll_by aired_by air_message controller_aired notice_of zeros init_written create_written activated_written deactivate_written written answer_of heard_written hear_of host_after drop_heard meaning data_count inside_of counted_up first all_zero step events observed diary speech
foretold =
    record {
      none = record { played = λ s. refl; number = refl };
      all = record { played = λ s. refl; number = refl };
      all_unlimited = record { played = λ s. refl; number = refl };
      empty = record { played = λ s. refl; number = refl };
      one_gone = record { played = λ s. refl; number = refl };
      deactivated = record { played = λ s. refl; number = refl };
    }
