-- Document 01's table holds, by computation.
-- Assumes nothing.
use mathlib.Core.Path.{◌≡◌, refl, ap, ◌∙◌}
use mathlib.Core.Bool.{false}
use mathlib.Core.List.{[], ◌∷◌}
use Rattle.octets.specs.Octets.{cut}
use Rattle.packets.specs.Packet.{octet0, octet1, packet_of, oid_of, carried_of, spare_of, header_of, read_of, carrying}
use Rattle.packets.specs.Segments.{segments_within, segments}
use Rattle.state.specs.Conn.{place_of, conn_of, terms_of, carriable}
use Rattle.state.specs.Commands.{command_of}
use Rattle.nfcc.specs.Controller.{shortest, allowed, reset_by, after, seek, next_id, create_by, close_by, configs_ok, discover_by, deactivate_by, judge_of, controller_after}
use Rattle.messages.specs.Layout.{entries_from, entry_count, credits_ntf, response_of, notice_message}
use Rattle.messages.specs.Packets.{notice_packet}
use Rattle.air.specs.Air.{poll_in, event_of, poll_by, aired_by, air_message, controller_aired}
use Rattle.dh.specs.Contents.{notice_of, zeros, init_written, create_written, entries_ok, credits_written, activated_written, written}
use Rattle.dh.specs.Host.{answer_of, heard_written, hear_of, credits_in, names_closed, host_after, drop_heard}
use Rattle.wires.specs.Meaning.{meaning}
use Rattle.wires.specs.Tally.{data_count}
use Rattle.wires.specs.Counted.{inside_of, counted_up}
use Rattle.model.specs.State.{State}
use Rattle.model.specs.Effects.{Result, credit}
use Rattle.model.specs.Refusals.{rule, first, full}
use Rattle.model.specs.calls.Credit.{owed_by, all_zero}
use Rattle.model.specs.Bench.{judged, step}
use Rattle.model.specs.Observer.{events}
use Rattle.model.specs.Observer as observer
use Rattle.model.specs.Table.{goes_up, on_model, Table}

-- what is owed decides the notice, whatever else the bench holds
two_credits : (s : State) → owed_by s ≡ 0 ∷ 2 ∷ 0 ∷ 0 ∷ 0 ∷ [] → full 1 s.up ≡ false
    → observer.event_of credit (step credit s) ≡ goes_up credit (0x60 ∷ 0x06 ∷ 0x03 ∷ 0x01 ∷ 0x02 ∷ 0x02 ∷ [])
unfolding octet0 octet1 packet_of conn_of entries_from entry_count first all_zero step
two_credits s e room =
    ap (λ (r : Result). observer.event_of credit (judged r credit s)) (λ i. first (rule 4 (room i) ∷ rule 8 (all_zero (e i)) ∷ []))
    ∙ (λ i. goes_up credit (notice_packet (record { gid = 0; oid = 6; payload = credits_ntf (e i) })))

pub table : Table on_model
unfolding cut octet0 octet1 packet_of oid_of carried_of spare_of header_of read_of carrying segments_within segments place_of conn_of terms_of carriable command_of shortest allowed reset_by after seek next_id create_by close_by configs_ok discover_by deactivate_by judge_of controller_after entries_from entry_count response_of notice_message poll_in event_of poll_by aired_by air_message controller_aired notice_of zeros init_written create_written entries_ok credits_written activated_written written answer_of heard_written hear_of credits_in names_closed host_after drop_heard meaning data_count inside_of counted_up first all_zero step events observer.after
table =
    record {
      start = λ s. refl;
      empty = λ s. refl;
      nine = λ s. refl;
      eight = λ s. refl;
      create = record { called = λ s. refl; taken_first = λ s w. refl };
      credits = two_credits;
      credits_zero = λ s. refl;
      unknown = record { called = λ s. refl; taken_first = λ s w. refl };
      deactivate = λ type. record { called = λ s. refl; taken_first = λ s w. refl };
      close_closed = record { called = λ s. refl; taken_first = λ s w. refl };
      close_open = record { called = λ s. refl; taken_first = λ s w. refl };
    }
