-- `sheet::play::play` meets its contract, name by name.
use mathlib.Core.Path.{sym, ap, ◌∙◌}
use Rattle.octets.proofs.Octets.{cut_rest}
use Rattle.calls.specs.Outcome.{outcome}
use Rattle.calls.specs.calls.Command.{command_call}
use Rattle.calls.specs.calls.Send.{send_call}
use Rattle.calls.specs.calls.Push.{push_call}
use Rattle.calls.specs.calls.Consume.{consume_call}
use Rattle.calls.specs.calls.Report.{report_call}
use Rattle.sheet.specs.Kinds.{Name}
use Rattle.sheet.specs.Play.{played}
use Rattle.sheet.proofs.play.play.Goals as goal

pub returns-in-Fresh : goal.returns-in-Fresh
returns-in-Fresh c =
    let s = c.args in
    let a = s.area.now in
    let out = s.out.now in
    let m = s.args.now in
    c.nci_fresh.ensures ∙ ap (λ (x : Name). played x m a out) (sym c.in-Fresh.is)

pub returns-in-Power : goal.returns-in-Power
returns-in-Power c =
    let s = c.args in
    let a = s.area.now in
    let out = s.out.now in
    let m = s.args.now in
    c.nci_power.ensures ∙ ap (λ (x : Name). played x m a out) (sym c.in-Power.is)

pub returns-in-Command : goal.returns-in-Command
returns-in-Command c =
    let s = c.args in
    let a = s.area.now in
    let out = s.out.now in
    let m = s.args.now in
    c.nci_command.ensures
    ∙ (λ i. command_call a out (c.octet_at-first.ensures i) (c.octet_at.ensures i) ((c.window.ensures ∙ cut_rest 2 m) i))
    ∙ ap (λ (x : Name). played x m a out) (sym c.in-Command.is)

pub returns-in-Send : goal.returns-in-Send
returns-in-Send c =
    let s = c.args in
    let a = s.area.now in
    let out = s.out.now in
    let m = s.args.now in
    c.nci_send.ensures
    ∙ (λ i. send_call a out (c.octet_at-first.ensures i) ((c.window-in-Send.ensures ∙ cut_rest 1 m) i))
    ∙ ap (λ (x : Name). played x m a out) (sym c.in-Send.is)

pub returns-in-Push : goal.returns-in-Push
returns-in-Push c =
    let s = c.args in
    let a = s.area.now in
    let out = s.out.now in
    let m = s.args.now in
    c.nci_push.ensures ∙ (λ i. push_call a out (c.octet_at-first.ensures i)) ∙ ap (λ (x : Name). played x m a out) (sym c.in-Push.is)

pub returns-in-Down : goal.returns-in-Down
returns-in-Down c =
    let s = c.args in
    let a = s.area.now in
    let out = s.out.now in
    let m = s.args.now in
    c.nci_down.ensures ∙ ap (λ (x : Name). played x m a out) (sym c.in-Down.is)

pub returns-in-Consume : goal.returns-in-Consume
returns-in-Consume c =
    let s = c.args in
    let a = s.area.now in
    let out = s.out.now in
    let m = s.args.now in
    c.nci_consume.ensures ∙ (λ i. consume_call a out (c.octet_at-first.ensures i)) ∙ ap (λ (x : Name). played x m a out) (sym c.in-Consume.is)

pub returns-in-Credit : goal.returns-in-Credit
returns-in-Credit c =
    let s = c.args in
    let a = s.area.now in
    let out = s.out.now in
    let m = s.args.now in
    c.nci_credit.ensures ∙ ap (λ (x : Name). played x m a out) (sym c.in-Credit.is)

pub returns-in-Air : goal.returns-in-Air
returns-in-Air c =
    let s = c.args in
    let a = s.area.now in
    let out = s.out.now in
    let m = s.args.now in
    c.nci_air.ensures ∙ ap (λ (x : Name). played x m a out) (sym c.in-Air.is)

pub returns-in-Reply : goal.returns-in-Reply
returns-in-Reply c =
    let s = c.args in
    let a = s.area.now in
    let out = s.out.now in
    let m = s.args.now in
    c.nci_reply.ensures ∙ ap (λ (x : Name). played x m a out) (sym c.in-Reply.is)

pub returns-in-Up : goal.returns-in-Up
returns-in-Up c =
    let s = c.args in
    let a = s.area.now in
    let out = s.out.now in
    let m = s.args.now in
    c.nci_up.ensures ∙ ap (λ (x : Name). played x m a out) (sym c.in-Up.is)

pub returns-in-Report : goal.returns-in-Report
returns-in-Report c =
    let s = c.args in
    let a = s.area.now in
    let out = s.out.now in
    let m = s.args.now in
    c.nci_report.ensures ∙ (λ i. report_call a out (c.octet_at-first.ensures i)) ∙ ap (λ (x : Name). played x m a out) (sym c.in-Report.is)

pub returns-in-Read : goal.returns-in-Read
returns-in-Read c =
    let s = c.args in
    let a = s.area.now in
    let out = s.out.now in
    let m = s.args.now in
    (λ i. outcome (c.nci_read.ensures i) a out) ∙ ap (λ (x : Name). played x m a out) (sym c.in-Read.is)

pub returns-in-Bad : goal.returns-in-Bad
returns-in-Bad c =
    let s = c.args in
    let a = s.area.now in
    let out = s.out.now in
    let m = s.args.now in
    ap (λ (x : Name). played x m a out) (sym c.in-Bad.is)

pub returns-in-Run : goal.returns-in-Run
returns-in-Run c =
    let s = c.args in
    let a = s.area.now in
    let out = s.out.now in
    let m = s.args.now in
    c.nci_run.ensures ∙ ap (λ (x : Name). played x m a out) (sym c.in-Run.is)
