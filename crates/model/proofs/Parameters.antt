-- The configuration has values that a set leaves, on every bench and whatever is called: a set keeps them so, fresh, power and a RESET of type 1 restore the
-- defaults, and all else leaves the configuration alone.
-- Assumes nothing.
use Prim.Native.Nat.{ℕ}
use mathlib.Core.Path.{◌≡◌, refl, ◌∙◌}
use mathlib.Core.Bool.{Bool, true}
use mathlib.Core.List.{List, [], ◌∷◌}
use lib.Dec.{eqb}
use lib.ListN.{length}
use Rattle.octets.specs.Octets.{Octets}
use Rattle.packets.specs.Segments.{Segment}
use Rattle.state.specs.Judgement.{Judgement}
use Rattle.state.proofs.Chains.{on}
use Rattle.config.specs.Table.{config_size}
use Rattle.config.specs.Stored.{defaults, parameters_ok}
use Rattle.config.specs.Commands.{count_in, config_after}
use Rattle.config.proofs.Lists.{set_long}
use Rattle.config.proofs.Samples.{samples}
use Rattle.config.proofs.Accepted.{set_ok, parameters_each, each_parameters}
use Rattle.nfcc.specs.Controller.{judge_of, config_by}
use Rattle.nfcc.proofs.Judgements.{after_verdict}
use Rattle.wires.specs.Meaning.{Meaning, datum, control, junk, meaning}
use Rattle.model.specs.State.{State, is_open, with_down, with_up, with_asking, with_hearing}
use Rattle.model.specs.Effects.{Call, fresh, power, command, send, push, down, consume, credit, air, reply, up, report, Effect, Result, taken, refused}
use Rattle.model.specs.Refusals.{first, is_held}
use Rattle.model.specs.Runs.{run_after, whole_by, flag_by}
use Rattle.model.specs.calls.Push.{pushing}
use Rattle.model.specs.calls.Down.{answering, arriving, taking_down}
use Rattle.model.specs.calls.Consume.{consuming}
use Rattle.model.specs.calls.Reply.{replying}
use Rattle.model.specs.calls.Up.{hearing, coming, taking_up}
use Rattle.model.specs.Bench.{rules, act, judged, step}
use Rattle.model.specs.invariant.Bench.{ConfigWithin}

-- ---- what the defaults have and a set keeps, every call keeps

module _ (P : Octets → Type 0) (start : P defaults) (set : (b m : Octets) → P b → P (config_after b m)) where
  abbrev Leaves : Effect → Type 0
  Leaves e = P e.next.config

  verdict_keeps : (b m : Octets) (v : Judgement) → P b → P (config_by b m v)
  verdict_keeps b m v h = after_verdict P b m start h (set b m h) v

  answering_keeps : (s : State) (gid oid : ℕ) (ms : List Octets) (b : Bool) → P s.config → Leaves (answering gid oid ms b s)
  answering_keeps s gid oid [] b h = h
  answering_keeps s gid oid (m ∷ ms) b h = verdict_keeps s.config m (judge_of s.profile s.controller (is_open s) gid oid m) h

  arriving_keeps : (s : State) (q : Meaning) (p : Octets) → P s.config → Leaves (arriving q p s)
  arriving_keeps s (datum c n x) p h = on Leaves (is_open s c) (λ _. h) (λ _. h)
  arriving_keeps s (control mt gid oid x) p h =
      on Leaves (eqb mt 1)
      (λ _. answering_keeps (with_asking (run_after s.asking 1 gid oid x) s) gid oid (whole_by s.asking 1 gid oid x) (flag_by s.asking 1 gid oid x) h)
      (λ _. h)
  arriving_keeps s junk p h = h

  down_keeps : (s : State) (w : List Octets) → P s.config → Leaves (taking_down w s)
  down_keeps s [] h = h
  down_keeps s (p ∷ w) h = arriving_keeps (with_down w s) (meaning p) p h

  push_keeps : (s : State) (c : ℕ) (ss : List Segment) → P s.config → Leaves (pushing c ss s)
  push_keeps s c [] h = h
  push_keeps s c (x ∷ ss) h = h

  consume_keeps : (s : State) (c : ℕ) (st : List Octets) → P s.config → Leaves (consuming c st s)
  consume_keeps s c [] h = h
  consume_keeps s c (p ∷ st) h = h

  reply_keeps : (s : State) (ss : List Segment) → P s.config → Leaves (replying ss s)
  reply_keeps s [] h = h
  reply_keeps s (x ∷ ss) h = h

  hearing_keeps : (s : State) (mt gid oid : ℕ) (ms : List Octets) (b : Bool) → P s.config → Leaves (hearing mt gid oid ms b s)
  hearing_keeps s mt gid oid [] b h = h
  hearing_keeps s mt gid oid (m ∷ ms) b h = h

  coming_keeps : (s : State) (q : Meaning) → P s.config → Leaves (coming q s)
  coming_keeps s (datum c n x) h = on Leaves (is_held s c) (λ _. h) (λ _. h)
  coming_keeps s (control mt gid oid x) h =
      on Leaves (eqb mt 1) (λ _. h)
      (λ _. hearing_keeps (with_hearing (run_after s.hearing mt gid oid x) s) mt gid oid (whole_by s.hearing mt gid oid x) (flag_by s.hearing mt gid oid x) h)
  coming_keeps s junk h = h

  up_keeps : (s : State) (w : List Octets) → P s.config → Leaves (taking_up w s)
  up_keeps s [] h = h
  up_keeps s (p ∷ w) h = coming_keeps (with_up w s) (meaning p) h

  act_keeps : (c : Call) (s : State) → P s.config → Leaves (act c s)
  act_keeps (fresh m) s h = start
  act_keeps power s h = start
  act_keeps (command gid oid m) s h = h
  act_keeps (send c m) s h = h
  act_keeps (push c) s h = push_keeps s c (s.conns c).host.hand h
  act_keeps down s h = down_keeps s s.down h
  act_keeps (consume c) s h = consume_keeps s c (s.conns c).controller.store h
  act_keeps credit s h = h
  act_keeps (air m) s h = h
  act_keeps reply s h = reply_keeps s (s.conns 0).controller.speech h
  act_keeps up s h = up_keeps s s.up h
  act_keeps (report c) s h = h

  pub config_keeps : (c : Call) (s : State) → P s.config → P (step c s).effect.next.config
  unfolding step
  config_keeps c s h = go (first (rules c s))
    where
      go : (r : Result) → Leaves (judged r c s).effect
      go taken = act_keeps c s h
      go (refused n) = h

-- ---- its octets and its values

-- the defaults are values that a set leaves
pub defaults_within : ConfigWithin defaults
defaults_within = record { long = refl; values = samples.row_defaults }

set_within : (b m : Octets) → ConfigWithin b → ConfigWithin (config_after b m)
set_within b m c =
    record {
      long = set_long b m (count_in m) ∙ c.long;
      values = each_parameters (config_after b m) (set_ok m b c.long (parameters_each b c.values) (count_in m));
    }

-- after a verdict on the command m
pub after_within : (b m : Octets) (v : Judgement) → ConfigWithin b → ConfigWithin (config_by b m v)
after_within b m v = verdict_keeps (λ b. ConfigWithin b) defaults_within set_within b m v

pub step_within : (c : Call) (s : State) → ConfigWithin s.config → ConfigWithin (step c s).effect.next.config
step_within c s = config_keeps (λ b. ConfigWithin b) defaults_within set_within c s

pub step_config_long : (c : Call) (s : State) → length s.config ≡ config_size → length (step c s).effect.next.config ≡ config_size
step_config_long c s = config_keeps (λ b. length b ≡ config_size) refl (λ b m l. set_long b m (count_in m) ∙ l) c s

pub step_parameters : (c : Call) (s : State) → length s.config ≡ config_size → parameters_ok s.config ≡ true
    → parameters_ok (step c s).effect.next.config ≡ true
step_parameters c s l e = (step_within c s (record { long = l; values = e })).values
