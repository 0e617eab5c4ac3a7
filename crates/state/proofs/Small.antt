-- The controller's own numbers are octets: what its RF state names, and the pairs.
-- Assumes nothing.
use Prim.Native.Nat.{ℕ, zero, suc, ◌≤◌}
use native.Mathlib.Omega.{arith}
use mathlib.Core.List.{List, [], ◌∷◌}
use lib.ListN.{get_or, set}
use Rattle.std.specs.Prelude.{Some, None}
use Rattle.state.specs.Kinds.{Pair, Activation, Rf, Controller}
use Rattle.state.specs.Kinds.rf.{Idle, Discovery, W4AllDiscoveries, W4HostSelect, PollActive, ListenActive, ListenSleep}
use Rattle.state.specs.Radio.{no_pair, no_pairs}

pub record PairSmall (p : Pair) : Type 0 where
  pub id : p.id ≤ 255
  pub protocol : p.protocol ≤ 255

pub record TargetSmall (a : Activation) : Type 0 where
  pub id : a.id ≤ 255
  pub protocol : a.protocol ≤ 255
  pub mode : a.mode ≤ 255

abbrev pub RfSmall : Rf → Type 0
RfSmall Idle = Unit {0}
RfSmall Discovery = Unit {0}
RfSmall W4AllDiscoveries = Unit {0}
RfSmall (W4HostSelect None) = Unit {0}
RfSmall (W4HostSelect (Some p)) = PairSmall p
RfSmall (PollActive a) = TargetSmall a
RfSmall (ListenActive a) = TargetSmall a
RfSmall ListenSleep = Unit {0}

abbrev pub PairsSmall : List Pair → Type 0
PairsSmall [] = Unit {0}
PairsSmall (p ∷ l) = PairSmall p × PairsSmall l

pub record RadioSmall (k : Controller) : Type 0 where
  pub rf : RfSmall k.rf
  pub pairs : PairsSmall k.pairs.list

-- ---- the pairs

pub none_small : PairSmall no_pair
none_small = record { id = omega arith; protocol = omega arith }

pub nones_small : PairsSmall no_pairs.list
nones_small =
    let n = none_small in
    (n, (n, (n, (n, (n, (n, (n, (n, tt))))))))

pub pair_small : (l : List Pair) (i : ℕ) → PairsSmall l → PairSmall (get_or l i no_pair)
pair_small [] i h = none_small
pair_small (p ∷ l) zero h = h.0
pair_small (p ∷ l) (suc i) h = pair_small l i h.1

pub set_small : (l : List Pair) (i : ℕ) (p : Pair) → PairSmall p → PairsSmall l → PairsSmall (set l i p)
set_small [] i p s h = tt
set_small (q ∷ l) zero p s h = (s, h.1)
set_small (q ∷ l) (suc i) p s h = (h.0, set_small l i p s h.1)
