-- fresh on octets: a profile of five octets or eleven; all octets of the area are zeroed, and the record of a cold bench is written, with every parameter
-- at its default. The record that was
-- there is not judged.
-- Assumes nothing.
use Rattle.std.specs.Prelude.{ℕ, false, List, [], ◌∷◌, ◌++◌, length, ltb}
use Rattle.octets.specs.Octets.{Octets, splice}
use Rattle.state.specs.Profile.{profile_in}
use Rattle.area.specs.Map.{area_size, message_size}
use Rattle.area.specs.Movers.{zeros}
use Rattle.config.specs.Stored.{defaults}
use Rattle.record.specs.Layout.{configured}
use Rattle.record.specs.Claims.{saved}
use Rattle.record.specs.Plan.{cold_record}
use Rattle.views.specs.View.{view_of}
use Rattle.model.specs.Effects.{fresh}
use Rattle.model.specs.Refusals.{Rule, rule, first}
use Rattle.model.specs.Bench.{rules}
use Rattle.calls.specs.Word.{word_of}
use Rattle.calls.specs.Outcome.{Outcome, outcome, decided}

-- a call that neither puts a packet nor hands out a message
abbrev pub quiet_word : ℕ
quiet_word = word_of false false 0 0 0

-- an area too short, a message buffer too short
abbrev pub room_rules : ℕ → ℕ → List Rule
room_rules n room = rule 2 (ltb n area_size) ∷ rule 2 (ltb room message_size) ∷ []

abbrev pub freshed : Octets → Octets → Octets → Outcome
freshed m a out = outcome quiet_word (saved (configured (splice a 0 (zeros area_size)) defaults) (cold_record (profile_in m))) out

unfoldable pub fresh_call : Octets → Octets → Octets → Outcome
fresh_call a out m = decided (first (room_rules (length a) (length out) ++ rules (fresh m) (view_of a))) (freshed m a out) a out
