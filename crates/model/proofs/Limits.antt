-- The limits that document 01 names hold, by computation.
-- Assumes nothing.
use mathlib.Core.Path.{refl}
use Rattle.octets.specs.Octets.{cut}
use Rattle.packets.specs.Packet.{octet0, octet1, packet_of, oid_of, carried_of, spare_of, header_of, read_of, carrying}
use Rattle.packets.specs.Segments.{segments_within, segments}
use Rattle.state.specs.Conn.{place_of, conn_of, terms_of, carriable}
use Rattle.state.specs.Commands.{command_of}
use Rattle.nfcc.specs.Controller.{shortest, allowed, reset_by, after, seek, next_id, create_by, close_by, configs_ok, discover_by, deactivate_by, judge_of, controller_after}
use Rattle.messages.specs.Layout.{entries_from, entry_count, response_of, notice_message}
use Rattle.air.specs.Air.{poll_in, event_of, poll_by, aired_by, air_message, controller_aired}
use Rattle.dh.specs.Contents.{notice_of, zeros, init_written, create_written, entries_ok, credits_written, activated_written, written}
use Rattle.dh.specs.Host.{answer_of, heard_written, hear_of, credits_in, names_closed, host_after, drop_heard}
use Rattle.wires.specs.Meaning.{meaning}
use Rattle.wires.specs.Tally.{data_count}
use Rattle.wires.specs.Counted.{inside_of, counted_up}
use Rattle.model.specs.Refusals.{first}
use Rattle.model.specs.calls.Credit.{all_zero}
use Rattle.model.specs.Bench.{step}
use Rattle.model.specs.Observer.{events}
use Rattle.model.specs.Observer as observer
use Rattle.model.specs.Table.{Plays}
use Rattle.model.specs.Limits.{Limits}

pub limits : Limits Plays
unfolding cut octet0 octet1 packet_of oid_of carried_of spare_of header_of read_of carrying segments_within segments place_of conn_of terms_of carriable command_of shortest allowed reset_by after seek next_id create_by close_by configs_ok discover_by deactivate_by judge_of controller_after entries_from entry_count response_of notice_message poll_in event_of poll_by aired_by air_message controller_aired notice_of zeros init_written create_written entries_ok credits_written activated_written written answer_of heard_written hear_of credits_in names_closed host_after drop_heard meaning data_count inside_of counted_up first all_zero step events observer.after
limits =
    record {
      send_1024 = λ s. refl;
      send_1025 = λ s. refl;
      push_at_15 = λ s. refl;
      push_at_16 = λ s. refl;
      eighth_stored = λ s. refl;
      ninth_stored = λ s. refl;
      command_at_14 = λ s. refl;
      command_at_15 = λ s. refl;
      answer_at_14 = λ s. refl;
      answer_at_15 = λ s. refl;
    }
