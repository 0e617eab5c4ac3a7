-- `call_run::choice::make` meets its contract: each move is its call, and no rule refuses it.
use mathlib.Core.Path.{sym, ap, subst, ◌∙◌}
use Rattle.model.specs.Effects.{push, down, consume, credit, reply, up}
use Rattle.calls.specs.Outcome.{outcome}
use Rattle.calls.specs.Demand.{perform}
use Rattle.calls.proofs.Able.{up_able, down_able, consume_able, credit_able, reply_able}
use Rattle.calls.proofs.Push.{push_able}
use Rattle.call_run.specs.declared.choice.Move.{Move}
use Rattle.call_run.specs.Moves.{call_of, Playable}
use Rattle.call_run.proofs.Made.{sound, made_up, made_down, made_consume, made_credit, made_push, made_reply}
use Rattle.call_run.proofs.choice.make.Goals as goal

pub act-requires : goal.act-requires
act-requires c =
    let a = c.args.area.now in
    let out = c.args.out.now in
    let r = c.args.r in
    let p = subst (λ (m : Move). Playable a out r (call_of m)) c.in-Up.is c.requires in
    (p.long, p.room, up_able a r (sound a out r up p) p.none)

pub returns-in-Up : goal.returns-in-Up
returns-in-Up c =
    let a = c.args.area.now in
    let out = c.args.out.now in
    let r = c.args.r in
    let p = subst (λ (m : Move). Playable a out r (call_of m)) c.in-Up.is c.requires in
    c.act.ensures ∙ made_up a out r p ∙ ap (λ (m : Move). perform (call_of m) a out) (sym c.in-Up.is)

pub act-requires-in-Down : goal.act-requires-in-Down
act-requires-in-Down c =
    let a = c.args.area.now in
    let out = c.args.out.now in
    let r = c.args.r in
    let p = subst (λ (m : Move). Playable a out r (call_of m)) c.in-Down.is c.requires in
    (p.long, down_able a r (sound a out r down p) p.none)

pub returns-in-Down : goal.returns-in-Down
returns-in-Down c =
    let a = c.args.area.now in
    let out = c.args.out.now in
    let r = c.args.r in
    let p = subst (λ (m : Move). Playable a out r (call_of m)) c.in-Down.is c.requires in
    c.act-in-Down.ensures out ∙ made_down a out r p ∙ ap (λ (m : Move). perform (call_of m) a out) (sym c.in-Down.is)

pub act-requires-in-Consume : goal.act-requires-in-Consume
act-requires-in-Consume c =
    let a = c.args.area.now in
    let out = c.args.out.now in
    let r = c.args.r in
    let p = subst (λ (m : Move). Playable a out r (call_of m)) c.in-Consume.is c.requires in
    (p.long, p.room, consume_able a r _ (sound a out r (consume _) p).fit p.none)

pub returns-in-Consume : goal.returns-in-Consume
returns-in-Consume c =
    let a = c.args.area.now in
    let out = c.args.out.now in
    let r = c.args.r in
    let p = subst (λ (m : Move). Playable a out r (call_of m)) c.in-Consume.is c.requires in
    c.act-in-Consume.ensures ∙ made_consume a out r _ p ∙ ap (λ (m : Move). perform (call_of m) a out) (sym c.in-Consume.is)

pub act-requires-in-Credit : goal.act-requires-in-Credit
act-requires-in-Credit c =
    let a = c.args.area.now in
    let out = c.args.out.now in
    let r = c.args.r in
    let p = subst (λ (m : Move). Playable a out r (call_of m)) c.in-Credit.is c.requires in
    (p.long, credit_able a r (sound a out r credit p).fit (sound a out r credit p).shape.conns p.none)

pub returns-in-Credit : goal.returns-in-Credit
returns-in-Credit c =
    let a = c.args.area.now in
    let out = c.args.out.now in
    let r = c.args.r in
    let p = subst (λ (m : Move). Playable a out r (call_of m)) c.in-Credit.is c.requires in
    (λ i. outcome (c.act-in-Credit.ensures.0 i) (c.act-in-Credit.ensures.1 i) out) ∙ made_credit a out r p ∙ ap (λ (m : Move). perform (call_of m) a out) (sym c.in-Credit.is)

pub act-requires-in-Push : goal.act-requires-in-Push
act-requires-in-Push c =
    let a = c.args.area.now in
    let out = c.args.out.now in
    let r = c.args.r in
    let p = subst (λ (m : Move). Playable a out r (call_of m)) c.in-Push.is c.requires in
    (p.long, push_able a r _ (sound a out r (push _) p).fit p.none)

pub returns-in-Push : goal.returns-in-Push
returns-in-Push c =
    let a = c.args.area.now in
    let out = c.args.out.now in
    let r = c.args.r in
    let p = subst (λ (m : Move). Playable a out r (call_of m)) c.in-Push.is c.requires in
    (λ i. outcome (c.act-in-Push.ensures.0 i) (c.act-in-Push.ensures.1 i) out) ∙ made_push a out r _ p ∙ ap (λ (m : Move). perform (call_of m) a out) (sym c.in-Push.is)

pub act-requires-in-Reply : goal.act-requires-in-Reply
act-requires-in-Reply c =
    let a = c.args.area.now in
    let out = c.args.out.now in
    let r = c.args.r in
    let p = subst (λ (m : Move). Playable a out r (call_of m)) c.in-Reply.is c.requires in
    (p.long, reply_able a r (sound a out r reply p).fit p.none)

pub returns-in-Reply : goal.returns-in-Reply
returns-in-Reply c =
    let a = c.args.area.now in
    let out = c.args.out.now in
    let r = c.args.r in
    let p = subst (λ (m : Move). Playable a out r (call_of m)) c.in-Reply.is c.requires in
    (λ i. outcome (c.act-in-Reply.ensures.0 i) (c.act-in-Reply.ensures.1 i) out) ∙ made_reply a out r p ∙ ap (λ (m : Move). perform (call_of m) a out) (sym c.in-Reply.is)
