-- The verdicts that the configuration commands and RESET can have, for every payload: too short, in the wrong state, or taken; and the values after a verdict.
-- Assumes nothing.
use Prim.Native.Nat.{ℕ}
use mathlib.Core.Bool.{Bool, not, ◌||◌}
use lib.Dec.{eqb, ltb}
use lib.ListN.{length, get_or}
use Rattle.std.specs.Prelude.{Ok, Err}
use Rattle.octets.specs.Octets.{Octets}
use Rattle.nfcc.specs.Kinds.{Profile, Controller, Command}
use Rattle.nfcc.specs.Kinds.status.{SyntaxError, SemanticError}
use Rattle.nfcc.specs.Kinds.command as command
use Rattle.nfcc.specs.Kinds.verdict.{Resets, Initialises, Opens, Closes, Turns, Selects, Deactivates, SetsConfig, GetsConfig}
use Rattle.state.specs.Judgement.{Judgement}
use Rattle.state.specs.Radio.{is_idle}
use Rattle.state.specs.Commands.{command_of}
use Rattle.state.proofs.Chains.{on}
use Rattle.config.specs.Stored.{defaults}
use Rattle.config.specs.Commands.{count_in, names_known, config_after}
use Rattle.nfcc.specs.Controller.{shortest, allowed, reset_by, set_by, values_of, judge_as, judge_of, config_by}

module _ (Q : Judgement → Type 0) (p : Profile) (k : Controller) (is_open : ℕ → Bool) (m : Octets) (short : Q (Err SyntaxError)) (early : Q (Err SemanticError)) where
  judged : (c : Command) → Q (values_of p k is_open c m) → Q (judge_as p k is_open c m)
  judged c q = on Q (ltb (length m) (shortest c m)) (λ e. short) (λ e. on Q (allowed k.phase c) (λ a. q) (λ a. early))

  pub reset_verdict : Q (Ok (Resets (get_or m 0 0))) → Q (judge_of p k is_open 0 0 m)
  unfolding judge_of command_of reset_by
  reset_verdict q = judged command.Reset (on Q (ltb 1 (get_or m 0 0)) (λ e. short) (λ e. q))

  pub set_verdict : Q (Ok SetsConfig) → Q (judge_of p k is_open 0 2 m)
  unfolding judge_of command_of set_by
  set_verdict q = judged command.SetConfig (on Q (is_idle k.rf || not (names_known m (count_in m))) (λ e. q) (λ e. early))

  pub get_verdict : Q (Ok GetsConfig) → Q (judge_of p k is_open 0 3 m)
  unfolding judge_of command_of
  get_verdict q = judged command.GetConfig q

-- the values after a verdict on the command m: they are restored, or set, or as they were
module _ (P : Octets → Type 0) (b m : Octets) (restored : P defaults) (kept : P b) (set : P (config_after b m)) where
  pub after_verdict : (v : Judgement) → P (config_by b m v)
  unfolding config_by
  after_verdict (Err status) = kept
  after_verdict (Ok (Resets type)) = on P (eqb type 1) (λ _. restored) (λ _. kept)
  after_verdict (Ok Initialises) = kept
  after_verdict (Ok (Opens c t)) = kept
  after_verdict (Ok (Closes c)) = kept
  after_verdict (Ok (Turns rf)) = kept
  after_verdict (Ok (Selects pair)) = kept
  after_verdict (Ok (Deactivates type rf)) = kept
  after_verdict (Ok SetsConfig) = set
  after_verdict (Ok GetsConfig) = kept
