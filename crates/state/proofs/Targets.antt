-- What the radio's states and the list of pairs carry is octets.
-- Assumes nothing.
use Prim.Native.Nat.{◌≤◌}
use Rattle.std.specs.Prelude.{Some, None}
use Rattle.state.specs.Kinds.{Pair, Activation, Rf}
use Rattle.state.specs.Kinds.rf.{Idle, Discovery, W4AllDiscoveries, W4HostSelect, PollActive, ListenActive, ListenSleep}

abbrev pub SmallPair : Pair → Type 0
SmallPair p = (p.id ≤ 255) × (p.protocol ≤ 255)

pub record SmallTarget (a : Activation) : Type 0 where
  pub id : a.id ≤ 255
  pub protocol : a.protocol ≤ 255
  pub mode : a.mode ≤ 255

abbrev pub SmallRf : Rf → Type 0
SmallRf Idle = Unit {0}
SmallRf Discovery = Unit {0}
SmallRf W4AllDiscoveries = Unit {0}
SmallRf (W4HostSelect None) = Unit {0}
SmallRf (W4HostSelect (Some p)) = SmallPair p
SmallRf (PollActive a) = SmallTarget a
SmallRf (ListenActive a) = SmallTarget a
SmallRf ListenSleep = Unit {0}
