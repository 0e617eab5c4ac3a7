-- The bench: which refusals each of the twelve calls has, what a call that is taken does, and a step (document 01, "Calls"). Each call
-- is in a file of its own, in calls/.
-- Assumes nothing.
use Rattle.std.specs.Prelude.{not, List, [], ◌∷◌}
use Rattle.state.specs.Profile.{profile_in, profile_octets_ok}
use Rattle.air.specs.Air.{event_of}
use Rattle.model.specs.Kinds.way.{Down, Up}
use Rattle.model.specs.State.{State, cold}
use Rattle.model.specs.Effects.{Call, Result, Effect, Outcome, quiet, first_rfu, telling, fresh, power, command, send, push, down, consume, credit, air, reply, up, report, taken, refused}
use Rattle.model.specs.Refusals.{Rule, rule, first}
use Rattle.model.specs.calls.Command.{commanding, command_rules}
use Rattle.model.specs.calls.Send.{sending, send_rules}
use Rattle.model.specs.calls.Push.{pushing, push_rules}
use Rattle.model.specs.calls.Down.{taking_down, down_rules}
use Rattle.model.specs.calls.Consume.{consuming, consume_rules}
use Rattle.model.specs.calls.Credit.{crediting, credit_rules}
use Rattle.model.specs.calls.Air.{airing, airing_as, air_rules}
use Rattle.model.specs.calls.Reply.{replying, reply_rules}
use Rattle.model.specs.calls.Up.{taking_up, up_rules}
use Rattle.model.specs.calls.Report.{reporting, report_rules}

abbrev pub rules : Call → State → List Rule
rules (fresh m) s = rule 3 (not (profile_octets_ok m)) ∷ []
rules power s = []
rules (command gid oid m) s = command_rules gid oid m s
rules (send c m) s = send_rules c m s
rules (push c) s = push_rules c s
rules down s = down_rules s
rules (consume c) s = consume_rules c s
rules credit s = credit_rules s
rules (air m) s = air_rules m s
rules reply s = reply_rules s
rules up s = up_rules s
rules (report c) s = report_rules c s

abbrev pub act : Call → State → Effect
act (fresh m) s = quiet (cold (profile_in m))
act power s = quiet (cold s.profile)
act (command gid oid m) s = commanding gid oid m s
act (send c m) s = sending c m s
act (push c) s = pushing c (s.conns c).host.hand s
act down s = telling (first_rfu Down s.down) (taking_down s.down s)
act (consume c) s = consuming c (s.conns c).controller.store s
act credit s = crediting s
act (air m) s = airing_as (event_of m) (airing s m) m s
act reply s = replying (s.conns 0).controller.speech s
act up s = telling (first_rfu Up s.up) (taking_up s.up s)
act (report c) s = reporting c s

-- a refusal changes nothing
abbrev pub judged : Result → Call → State → Outcome
judged taken c s = record { answer = taken; effect = act c s }
judged (refused n) c s = record { answer = refused n; effect = quiet s }

unfoldable pub step : Call → State → Outcome
step c s = judged (first (rules c s)) c s
