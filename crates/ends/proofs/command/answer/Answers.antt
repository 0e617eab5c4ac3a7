-- `ends::command::answer` meets its contract: both messages are those of the verdict that was decided, and a set that is taken has a
-- whole list.
use native.Mathlib.Omega.{arith}
use mathlib.Core.Path.{sym, subst, ◌∙◌}
use Rattle.state.specs.Conn.{open_at}
use Rattle.messages.specs.Layout.{Put, MayPut, response_message, notice_message}
use Rattle.nfcc.proofs.Verdicts.{judge_whole}
use Rattle.ends.specs.Kinds.{Decision}
use Rattle.ends.proofs.command.answer.Goals as goal

pub response-response-requires : goal.response-response-requires
response-response-requires c =
    let a = c.args in
    let e = a.e in
    let d = c.decide-decision.ensures in
    λ v. omega (arith, c.requires, judge_whole e.profile e.controller (open_at e.conns) a.gid a.oid a.m.now ((λ i. (sym d i).verdict) ∙ v))

pub returns : goal.returns
returns c =
    let a = c.args in
    let d = c.decide-decision.ensures in
    record {
      decision = d;
      response =
          subst (λ (x : Decision). Put a.rsp.now (response_message a.gid a.oid a.e.profile a.b.now a.m.now x.verdict) c.response-response.result c.response-response.new.out) d
          c.response-response.ensures;
      notice = subst (λ (x : Decision). MayPut a.ntf.now (notice_message x.verdict) c.notice-notice.result c.notice-notice.new.out) d c.notice-notice.ensures;
    }
