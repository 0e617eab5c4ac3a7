-- A call, or a press of Run to rest, by its name and the octets of its arguments: fixed fields first, an octet each.
-- Assumes nothing.
use Rattle.std.specs.Prelude.{get_or, drop}
use Rattle.octets.specs.Octets.{Octets}
use Rattle.sheet.specs.Kinds.{Name}
use Rattle.sheet.specs.Kinds.name.{Fresh, Power, Command, Send, Push, Down, Consume, Credit, Air, Reply, Up, Report, Read, Bad, Run}
use Rattle.calls.specs.Outcome.{Outcome, outcome}
use Rattle.calls.specs.Read.{read_call}
use Rattle.calls.specs.Run.{run_call}
use Rattle.calls.specs.calls.Fresh.{fresh_call}
use Rattle.calls.specs.calls.Power.{power_call}
use Rattle.calls.specs.calls.Command.{command_call}
use Rattle.calls.specs.calls.Send.{send_call}
use Rattle.calls.specs.calls.Push.{push_call}
use Rattle.calls.specs.calls.Down.{down_call}
use Rattle.calls.specs.calls.Consume.{consume_call}
use Rattle.calls.specs.calls.Credit.{credit_call}
use Rattle.calls.specs.calls.Reply.{reply_call}
use Rattle.calls.specs.calls.Up.{up_call}
use Rattle.calls.specs.calls.Air.{air_call}
use Rattle.calls.specs.calls.Report.{report_call}

abbrev pub played : Name → Octets → Octets → Octets → Outcome
played Fresh m a out = fresh_call a out m
played Power m a out = power_call a out
played Command m a out = command_call a out (get_or m 0 0) (get_or m 1 0) (drop 2 m)
played Send m a out = send_call a out (get_or m 0 0) (drop 1 m)
played Push m a out = push_call a out (get_or m 0 0)
played Down m a out = down_call a out
played Consume m a out = consume_call a out (get_or m 0 0)
played Credit m a out = credit_call a out
played Air m a out = air_call a out m
played Reply m a out = reply_call a out
played Up m a out = up_call a out
played Report m a out = report_call a out (get_or m 0 0)
played Read m a out = outcome (read_call m) a out
played Bad m a out = outcome 3 a out
played Run m a out = run_call a out
