-- Document 01's three lines and a first paper, computed on the model; so the paper shows the same on octets.
-- Assumes nothing.
use mathlib.Core.Path.{◌≡◌, refl, sym, ap, ◌∙◌}
use mathlib.Core.List.{List, [], ◌∷◌, map}
use Rattle.model.specs.State.{State}
use Rattle.model.specs.Effects.{Call, command, push, down}
use Rattle.model.specs.Bench.{step}
use Rattle.model.specs.Observer.{events}
use Rattle.calls.proofs.Played.{as_model}
use Rattle.octets.specs.Hex.{hex}
use Rattle.opinions.specs.Shown.{Line, refusal, puts, line_of, profile, start, lines}
use Rattle.opinions.specs.FirstPaper.{paper, paper_shows}
use Rattle.opinions.specs.OnOctets.{seen_line, PaperOnOctets}

-- the sheet's three lines
three_lines_law :
    lines
    (command 0 0 (hex 1 0x01)
    ∷ down
    ∷ push 2
    ∷ [])
    start
    ≡ puts (hex 4 0x20000101)
    ∷ puts (hex 12 0x400001006000050201200000)
    ∷ refusal 6
    ∷ []
unfolding lines
three_lines_law = refl

-- the paper, on the model
first_paper_law : lines paper start ≡ paper_shows
unfolding lines
first_paper_law = refl

-- ---- on octets

lines_seen : (cs : List Call) (s : State) → lines cs s ≡ map seen_line (events cs s)
unfolding lines events
lines_seen [] s = refl
lines_seen (c ∷ cs) s = ap (λ (ls : List Line). line_of (step c s) ∷ ls) (lines_seen cs (step c s).effect.next)

paper_on_octets : PaperOnOctets
paper_on_octets area out v e keys w r same =
    ap (map seen_line) (as_model area out profile v e keys w r ∙ ap (λ (cs : List Call). events cs start) same) ∙ sym (lines_seen paper start) ∙ first_paper_law
