-- A list of calls as the paper sheet shows it: for each call its answer, the drop flag, the reserved bits, the octets put on wires and the message; and for each press of
-- Run to rest its moves.
-- Assumes nothing.
use Rattle.std.specs.Prelude.{ℕ, Bool, false, List, [], ◌∷◌, ◌++◌}
use Rattle.octets.specs.Octets.{Octets, cut, over, splice}
use Rattle.octets.specs.Hex.{hex}
use Rattle.packets.specs.Packet.{octet0, octet1, packet_of, oid_of, carried_of, spare_of, header_of, read_of, carrying}
use Rattle.packets.specs.Segments.{segments_within, segments}
use Rattle.state.specs.Conn.{place_of, conn_of, terms_of, carriable}
use Rattle.state.specs.Radio.{listed_in, added_to}
use Rattle.state.specs.Commands.{command_of}
use Rattle.state.specs.Profile.{profile_in}
use Rattle.nfcc.specs.Controller.{shortest, allowed, reset_by, after, seek, next_id, create_by, close_by, configs_ok, discover_by, deactivate_by, set_by, judge_of, controller_after, config_by}
use Rattle.config.specs.Table.{table, row_of, all_allowed, acceptable}
use Rattle.config.specs.Stored.{value_in, with_value}
use Rattle.config.specs.Commands.{param_at, set_first, invalid_in, names_known, shown_in, unavailable_in, unavailable_count}
use Rattle.config.specs.Written.{set_written, values_written, unavailable_written, get_written}
use Rattle.messages.specs.Layout.{entries_from, entry_count, response_of, notice_message}
use Rattle.air.specs.Air.{found_in, poll_in, listen_in, event_of, found_by, poll_by, listen_by, failed_by, aired_by, air_message, controller_aired}
use Rattle.dh.specs.Contents.{notice_of, zeros, init_written, create_written, entries_ok, credits_written, discover_written, activated_written, deactivate_written, written}
use Rattle.dh.specs.Host.{answer_of, heard_written, hear_of, credits_in, names_closed, host_after, drop_heard}
use Rattle.wires.specs.Meaning.{meaning}
use Rattle.wires.specs.Tally.{data_count}
use Rattle.wires.specs.Counted.{inside_of, counted_up}
use Rattle.model.specs.State.{State, cold}
use Rattle.model.specs.Effects.{Call, Result, taken, refused, Outcome}
use Rattle.model.specs.Refusals.{first}
use Rattle.model.specs.calls.Credit.{all_zero}
use Rattle.model.specs.Bench.{step}
use Rattle.model.specs.Observer as observer
use Rattle.model.specs.Observer.{events}
use Rattle.model.specs.Press.{first_of, press_within, press, Pressed, pressed}

-- ---- lines

pub record Line : Type 0 where
  pub answer : ℕ
  pub drop : Bool
  pub rfu : ℕ
  pub packets : Octets
  -- none or one
  pub message : List Octets
  -- of a press
  pub moves : ℕ

-- of a list of calls none has a reserved bit to show
abbrev pub line : ℕ → Bool → Octets → List Octets → Line
line a d p m = record { answer = a; drop = d; rfu = 0; packets = p; message = m; moves = 0 }

-- the lines that are met most: not taken; taken with nothing to show, with packets put, with a message handed out
abbrev pub refusal : ℕ → Line
refusal n = line n false [] []

abbrev pub done : Line
done = line 0 false [] []

abbrev pub puts : Octets → Line
puts p = line 0 false p []

abbrev pub hands : Octets → Line
hands m = line 0 false [] (m ∷ [])

-- a press: how many moves it made, whether one's drop flag was set, and the message of the last
abbrev pub ran : ℕ → Bool → List Octets → Line
ran n d m = record { answer = 0; drop = d; rfu = 0; packets = []; message = m; moves = n }

-- ---- what the model shows

abbrev pub number_of : Result → ℕ
number_of taken = 0
number_of (refused n) = n

abbrev pub joined : List Octets → Octets
joined [] = []
joined (p ∷ ps) = p ++ joined ps

abbrev pub line_of : Outcome → Line
line_of o =
    let e = o.effect in
    record { answer = number_of o.answer; drop = e.drop; rfu = e.rfu; packets = joined e.to_down ++ joined e.to_up; message = e.message; moves = 0 }

abbrev pub press_line : Pressed → Line
press_line p = ran p.moves p.dropped p.message

-- the profile and the bench that a sheet starts with
abbrev pub profile : Octets
profile = hex 5 0x2004020401

abbrev pub start : State
start = cold (profile_in profile)

-- each call's line. What is named below unfolds wherever `lines` does, so that a list of calls computes.
unfoldable pub lines : List Call → State → List Line
unfolding cut over splice octet0 octet1 packet_of oid_of carried_of spare_of header_of read_of carrying segments_within segments place_of conn_of terms_of carriable listed_in added_to command_of shortest allowed reset_by after seek next_id create_by close_by configs_ok discover_by deactivate_by set_by judge_of controller_after config_by entries_from entry_count response_of notice_message table row_of all_allowed acceptable value_in with_value param_at set_first invalid_in names_known shown_in unavailable_in unavailable_count set_written values_written unavailable_written get_written found_in poll_in listen_in event_of found_by poll_by listen_by failed_by aired_by air_message controller_aired notice_of zeros init_written create_written entries_ok credits_written discover_written activated_written deactivate_written written answer_of heard_written hear_of credits_in names_closed host_after drop_heard meaning data_count inside_of counted_up first all_zero step
lines [] s = []
lines (c ∷ cs) s = line_of (step c s) ∷ lines cs (step c s).effect.next

-- ---- lists in which Run to rest is pressed too

pub data Stroke : Type 0 where
  calls : Call → Stroke
  runs : Stroke

-- each stroke's line. It computes as `lines` does.
unfoldable pub stroke_lines : List Stroke → State → List Line
unfolding lines events observer.after first_of press_within press
stroke_lines [] s = []
stroke_lines (calls c ∷ xs) s = line_of (step c s) ∷ stroke_lines xs (step c s).effect.next
stroke_lines (runs ∷ xs) s = press_line (pressed s) ∷ stroke_lines xs (pressed s).next
