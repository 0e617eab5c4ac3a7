-- Sets and gets, by computation.
-- Assumes nothing.
use mathlib.Core.Path.{refl}
use Rattle.octets.specs.Octets.{cut, over, splice}
use Rattle.packets.specs.Packet.{octet0, octet1, packet_of, oid_of, carried_of, spare_of, header_of, read_of}
use Rattle.packets.specs.Segments.{segments_within, segments}
use Rattle.state.specs.Conn.{place_of, conn_of, terms_of}
use Rattle.state.specs.Commands.{command_of}
use Rattle.nfcc.specs.Controller.{shortest, allowed, reset_by, after, seek, next_id, create_by, close_by, judge_of, controller_after}
use Rattle.messages.specs.Layout.{response_of, notice_message}
use Rattle.dh.specs.Contents.{notice_of, zeros, init_written, create_written, written}
use Rattle.dh.specs.Host.{answer_of, heard_written, hear_of, host_after, drop_heard}
use Rattle.wires.specs.Meaning.{meaning}
use Rattle.model.specs.Refusals.{first}
use Rattle.model.specs.Bench.{step}
use Rattle.model.specs.Observer.{events}
use Rattle.model.specs.Table.{Plays}
use Rattle.nfcc.specs.Controller.{discover_by, configs_ok, set_by, config_by}
use Rattle.config.specs.Table.{table, row_of, all_allowed, acceptable}
use Rattle.config.specs.Stored.{value_in, with_value}
use Rattle.config.specs.Commands.{param_at, set_first, invalid_in, names_known, shown_in, unavailable_in, unavailable_count}
use Rattle.config.specs.Accepted.{last_accepted}
use Rattle.config.specs.Written.{set_written, values_written, unavailable_written, get_written}
use Rattle.model.specs.Config.{diary}
use Rattle.model.specs.ConfigPlayed.{ConfigPlayed}

pub config_played : ConfigPlayed Plays
unfolding cut octet0 octet1 packet_of oid_of carried_of spare_of header_of read_of segments_within segments place_of conn_of terms_of command_of shortest allowed reset_by after seek next_id create_by close_by judge_of controller_after response_of notice_message notice_of zeros init_written create_written written answer_of heard_written hear_of host_after drop_heard meaning first step events diary discover_by configs_ok set_by config_by table row_of all_allowed acceptable value_in with_value param_at set_first invalid_in names_known shown_in unavailable_in unavailable_count last_accepted set_written values_written unavailable_written get_written over splice
config_played =
    record {
      in_order = λ s. refl;
      others_set = λ s. refl;
      restored = λ s. refl;
      varying = λ s. refl;
      unavailable = λ s. refl;
      cut_short = λ s. refl;
      none = λ s. refl;
      kept = λ s. refl;
      all_restored_law = λ s. refl;
      powered = λ s. refl;
      early = λ s. refl;
      discovering = λ s. refl;
      set_told = refl;
      default_told = refl;
    }
