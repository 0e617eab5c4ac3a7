-- The first paper on octets: what is seen of its calls, on any area on which fresh was taken, whatever the buffers that have room.
-- Assumes nothing.
use Rattle.std.specs.Prelude.{◌≡◌, List, ◌++◌, map}
use Rattle.octets.specs.Octets.{Octets}
use Rattle.octets.specs.Octal.{Octal}
use Rattle.model.specs.Effects.{taken}
use Rattle.model.specs.Observer.{Event}
use Rattle.calls.specs.Word.{answer_in}
use Rattle.calls.specs.Seen.{no_puts}
use Rattle.calls.specs.calls.Fresh.{fresh_call}
use Rattle.calls.specs.Demand.{Key, AllOctal, seen_in}
use Rattle.calls.specs.Played.{calls_in, AllRoom}
use Rattle.opinions.specs.Shown.{Line, number_of, joined, profile}
use Rattle.opinions.specs.FirstPaper.{paper, paper_shows}

-- the line of what is seen of a call
abbrev pub seen_line : Event → Line
seen_line e = record { answer = number_of e.answer; drop = e.dropped; rfu = e.rfu; packets = joined e.to_down ++ joined e.to_up; message = e.message; moves = 0 }

abbrev pub PaperOnOctets : Type 0
PaperOnOctets =
    (area out : Octets) → Octal area → answer_in (fresh_call area out profile).word ≡ taken → (keys : List Key) → AllOctal keys → AllRoom keys → calls_in keys ≡ paper
    → map seen_line (seen_in keys no_puts (fresh_call area out profile).area) ≡ paper_shows
