-- Document 01's three lines, lines that read packets, a first paper, and one with Run to rest: `FirstPapers` of `specs/FirstPapers.antt`. What the model shows is computed; what is printed is that.
-- Assumes nothing.
use mathlib.Core.Path.{◌≡◌, refl, ◌∙◌}
use Rattle.octets.specs.Octets.{cut}
use Rattle.packets.specs.Packet.{octet0, octet1, packet_of, oid_of, carried_of, spare_of, header_of, read_of, carrying}
use Rattle.packets.specs.Segments.{segments_within, segments}
use Rattle.state.specs.Conn.{place_of, conn_of, terms_of, carriable}
use Rattle.state.specs.Commands.{command_of}
use Rattle.state.specs.Profile.{profile_in}
use Rattle.nfcc.specs.Controller.{shortest, allowed, reset_by, after, seek, next_id, create_by, judge_of, controller_after}
use Rattle.messages.specs.Layout.{entries_from, entry_count, response_of, notice_message}
use Rattle.dh.specs.Contents.{notice_of, zeros, init_written, create_written, entries_ok, credits_written, written}
use Rattle.dh.specs.Host.{answer_of, heard_written, hear_of, credits_in, names_closed, host_after, drop_heard}
use Rattle.record.specs.Layout.{bit}
use Rattle.wires.specs.Meaning.{meaning}
use Rattle.wires.specs.Tally.{data_count}
use Rattle.wires.specs.Counted.{inside_of, counted_up}
use Rattle.model.specs.State.{cold}
use Rattle.model.specs.Refusals.{first}
use Rattle.model.specs.calls.Credit.{all_zero}
use Rattle.model.specs.Bench.{step}
use Rattle.model.specs.Observer as observer
use Rattle.model.specs.Observer.{events}
use Rattle.model.specs.Press.{first_of, press_within, press}
use Rattle.calls.specs.Word.{answer_in}
use Rattle.calls.specs.Read.{found_of}
use Rattle.ascii.specs.Digits.{digit_of, value_of, hex_of, all_digits, is_hex, octets_in, leading_in, decimal_of}
use Rattle.ascii.specs.Words.{same_as, starts_with, up_to}
use Rattle.forms.specs.Names.{among}
use Rattle.forms.specs.Form.{formed, args_of, asks}
use Rattle.sheet.specs.Show.{joined}
use Rattle.sheet.specs.Paper.{modelled, first_profile}
use Rattle.sheet.specs.FirstPapers.{three_lines, three_answers, read_lines, read_answers, first_paper, first_answers, run_paper, run_answers, FirstPapers}
use Rattle.sheet.proofs.Playing.{papers}

three_lines_law : modelled three_lines (cold (profile_in first_profile)) ≡ three_answers
unfolding three_lines three_answers modelled asks args_of formed among joined digit_of value_of hex_of all_digits is_hex octets_in leading_in decimal_of same_as starts_with up_to bit cut octet0 octet1 packet_of oid_of carried_of spare_of header_of read_of segments_within segments place_of conn_of terms_of command_of shortest allowed reset_by judge_of controller_after response_of notice_message meaning first step
three_lines_law = refl

read_lines_law : modelled read_lines (cold (profile_in first_profile)) ≡ read_answers
unfolding read_lines read_answers modelled asks args_of formed among joined digit_of value_of hex_of all_digits is_hex octets_in leading_in decimal_of same_as starts_with up_to bit cut oid_of carried_of spare_of header_of read_of found_of
read_lines_law = refl

first_paper_law : modelled first_paper (cold (profile_in first_profile)) ≡ first_answers
unfolding first_paper first_answers modelled asks args_of formed among joined digit_of value_of hex_of all_digits is_hex octets_in leading_in decimal_of same_as starts_with up_to bit cut octet0 octet1 packet_of oid_of carried_of spare_of header_of read_of carrying segments_within segments place_of conn_of terms_of carriable command_of shortest allowed reset_by after seek next_id create_by judge_of controller_after entries_from entry_count response_of notice_message notice_of zeros init_written create_written entries_ok credits_written written answer_of heard_written hear_of credits_in names_closed host_after drop_heard meaning data_count inside_of counted_up first all_zero step
first_paper_law = refl

run_paper_law : modelled run_paper (cold (profile_in first_profile)) ≡ run_answers
unfolding run_paper run_answers answer_in modelled asks args_of formed among joined digit_of value_of hex_of all_digits is_hex octets_in leading_in decimal_of same_as starts_with up_to bit cut octet0 octet1 packet_of oid_of carried_of spare_of header_of read_of carrying segments_within segments place_of conn_of terms_of carriable command_of shortest allowed reset_by after seek next_id create_by judge_of controller_after entries_from entry_count response_of notice_message notice_of zeros init_written create_written entries_ok credits_written written answer_of heard_written hear_of credits_in names_closed host_after drop_heard meaning data_count inside_of counted_up first all_zero step events observer.after first_of press_within press
run_paper_law = refl

pub first_papers : FirstPapers
first_papers =
    record {
      three = λ a out o long room. papers.from_fresh three_lines a out o long room ∙ three_lines_law;
      reads = λ a out o long room. papers.from_fresh read_lines a out o long room ∙ read_lines_law;
      paper = λ a out o long room. papers.from_fresh first_paper a out o long room ∙ first_paper_law;
      runs = λ a out o long room. papers.from_fresh run_paper a out o long room ∙ run_paper_law;
    }
