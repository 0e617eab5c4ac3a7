-- Octets stay octets: what a verdict says of the radio, and the controller's numbers after it.
-- Assumes nothing.
use Prim.Native.Nat.{ℕ, ◌%◌}
use mathlib.Core.Bool.{Bool, not, ◌&&◌, ◌||◌}
use lib.ListN.{length, get_or}
use lib.Dec.{eqb, ltb, leb}
use Rattle.std.specs.Prelude.{Some, None, Option, Ok, Err}
use Rattle.octets.specs.Octets.{Octets}
use Rattle.octets.specs.Octal.{Octal}
use Rattle.octets.proofs.Octal.{octal_at}
use Rattle.nfcc.specs.Kinds.{Profile, Controller, Pair, Pairs, Rf, Command}
use Rattle.nfcc.specs.Kinds.rf.{Idle, Discovery, W4AllDiscoveries, W4HostSelect, PollActive, ListenActive, ListenSleep}
use Rattle.nfcc.specs.Kinds.command as command
use Rattle.nfcc.specs.Kinds.verdict as verdict
use Rattle.state.specs.Judgement.{Judgement}
use Rattle.state.specs.Commands.{command_of}
use Rattle.state.specs.Radio.{is_idle, listed}
use Rattle.state.proofs.Chains.{on}
use Rattle.state.proofs.Small.{PairSmall, RfSmall, PairsSmall, RadioSmall, nones_small}
use Rattle.config.specs.Commands.{count_in, names_known}
use Rattle.nfcc.specs.Controller.{shortest, allowed, reset_by, next_id, opens_as, create_by, close_by, configs_ok, discover_by, select_by, sleep_rejected, rest_state, deactivate_by, set_by, values_of, judge_of, turned, controller_after}

abbrev pub VerdictSmall : Judgement → Type 0
VerdictSmall (Err status) = Unit {0}
VerdictSmall (Ok (verdict.Resets type)) = Unit {0}
VerdictSmall (Ok verdict.Initialises) = Unit {0}
VerdictSmall (Ok (verdict.Opens c t)) = Unit {0}
VerdictSmall (Ok (verdict.Closes c)) = Unit {0}
VerdictSmall (Ok (verdict.Turns rf)) = RfSmall rf
VerdictSmall (Ok (verdict.Selects pair)) = PairSmall pair
VerdictSmall (Ok (verdict.Deactivates type rf)) = RfSmall rf
VerdictSmall (Ok verdict.SetsConfig) = Unit {0}
VerdictSmall (Ok verdict.GetsConfig) = Unit {0}

-- ---- the verdict

select_small : (rf : Rf) (ps : Pairs) (x : Pair) (interface : ℕ) → PairSmall x → VerdictSmall (select_by rf ps x interface)
select_small Idle ps x interface s = tt
select_small Discovery ps x interface s = tt
select_small W4AllDiscoveries ps x interface s = tt
select_small (W4HostSelect c) ps x interface s = on VerdictSmall (listed ps x && eqb interface 0x01) (λ e. s) (λ e. tt)
select_small (PollActive a) ps x interface s = tt
select_small (ListenActive a) ps x interface s = tt
select_small ListenSleep ps x interface s = tt

rest_small : (type : ℕ) (asleep : Rf) → RfSmall asleep → RfSmall (rest_state type asleep)
rest_small type asleep s = on RfSmall (eqb type 0) (λ e. tt) (λ e. on RfSmall (eqb type 3) (λ e. tt) (λ e. s))

deactivate_small : (rf : Rf) (type : ℕ) → VerdictSmall (deactivate_by rf type)
unfolding deactivate_by
deactivate_small Idle type = tt
deactivate_small Discovery type = tt
deactivate_small W4AllDiscoveries type = tt
deactivate_small (W4HostSelect s) type = tt
deactivate_small (PollActive a) type = on VerdictSmall (ltb 3 type) (λ e. tt) (λ e. rest_small type (W4HostSelect None) tt)
deactivate_small (ListenActive a) type =
    on VerdictSmall (ltb 3 type) (λ e. tt) (λ e. on VerdictSmall (sleep_rejected a type) (λ r. tt) (λ r. rest_small type ListenSleep tt))
deactivate_small ListenSleep type = on VerdictSmall (ltb 3 type) (λ e. tt) (λ e. on VerdictSmall (eqb type 0) (λ z. tt) (λ z. tt))

module _ (p : Profile) (k : Controller) (is_open : ℕ → Bool) (m : Octets) (octal : Octal m) where
  opens_small : (id : Option ℕ) → VerdictSmall (opens_as p id)
  opens_small None = tt
  opens_small (Some id) = tt

  values_small : (c : Command) → VerdictSmall (values_of p k is_open c m)
  unfolding reset_by create_by close_by discover_by set_by
  values_small command.Reset = on VerdictSmall (ltb 1 (get_or m 0 0)) (λ e. tt) (λ e. tt)
  values_small command.Init = tt
  values_small command.ConnCreate =
      on VerdictSmall (eqb (get_or m 0 0) 0x01 && eqb (get_or m 1 0) 0x00)
      (λ e. opens_small (next_id is_open k.given)) (λ e. tt)
  values_small command.ConnClose =
      let id = get_or m 0 0 % 16 in on VerdictSmall (not (eqb id 0) && is_open id) (λ e. tt) (λ e. tt)
  values_small command.Discover =
      on VerdictSmall (is_idle k.rf)
      (λ i. on VerdictSmall (leb (get_or m 0 0) 8 && configs_ok m (get_or m 0 0)) (λ e. tt) (λ e. tt)) (λ i. tt)
  values_small command.Select =
      select_small k.rf k.pairs (record { id = get_or m 0 0; protocol = get_or m 1 0 }) (get_or m 2 0)
      (record { id = octal_at octal 0; protocol = octal_at octal 1 })
  values_small command.Deactivate = deactivate_small k.rf (get_or m 0 0)
  values_small command.Unknown = tt
  values_small command.SetConfig = on VerdictSmall (is_idle k.rf || not (names_known m (count_in m))) (λ e. tt) (λ e. tt)
  values_small command.GetConfig = tt

  pub judge_small : (gid oid : ℕ) → VerdictSmall (judge_of p k is_open gid oid m)
  unfolding judge_of
  judge_small gid oid =
      let c = command_of gid oid in
      on VerdictSmall (ltb (length m) (shortest c m)) (λ e. tt)
      (λ e. on VerdictSmall (allowed k.phase c) (λ a. values_small c) (λ a. tt))

-- ---- the controller's numbers after it

turned_small : (k : Controller) (rf : Rf) → RfSmall rf → RadioSmall k → RadioSmall (turned k rf)
turned_small k rf s h =
    record { rf = s; pairs = on (λ (ps : Pairs). PairsSmall ps.list) (is_idle rf) (λ e. nones_small) (λ e. h.pairs) }

pub after_small : (k : Controller) (v : Judgement) → VerdictSmall v → RadioSmall k → RadioSmall (controller_after k v)
unfolding controller_after
after_small k (Err status) s h = h
after_small k (Ok (verdict.Resets type)) s h = record { rf = tt; pairs = nones_small }
after_small k (Ok verdict.Initialises) s h = record { rf = h.rf; pairs = h.pairs }
after_small k (Ok (verdict.Opens c t)) s h = record { rf = h.rf; pairs = h.pairs }
after_small k (Ok (verdict.Closes c)) s h = h
after_small k (Ok (verdict.Turns rf)) s h = turned_small k rf s h
after_small k (Ok (verdict.Selects pair)) s h = turned_small k (W4HostSelect (Some pair)) s h
after_small k (Ok (verdict.Deactivates type rf)) s h = turned_small k rf s h
after_small k (Ok verdict.SetsConfig) s h = h
after_small k (Ok verdict.GetsConfig) s h = h
