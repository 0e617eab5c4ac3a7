-- What a verdict carries is octets.
-- Assumes nothing.
use Prim.Native.Nat.{◌≤◌}
use Rattle.std.specs.Prelude.{Some, None, Ok, Err}
use Rattle.state.specs.Kinds.{Terms, Rf}
use Rattle.state.specs.Judgement.{Judgement, octet_of}
use Rattle.state.specs.Kinds.rf.{Idle, Discovery, W4AllDiscoveries, W4HostSelect, PollActive, ListenActive, ListenSleep}
use Rattle.state.specs.Kinds.verdict as verdict

-- an RF state that carries no octet
abbrev pub Bare : Rf → Type 0
Bare Idle = Unit {0}
Bare Discovery = Unit {0}
Bare W4AllDiscoveries = Unit {0}
Bare (W4HostSelect None) = Unit {0}
Bare (W4HostSelect (Some p)) = ⊥
Bare (PollActive a) = ⊥
Bare (ListenActive a) = ⊥
Bare ListenSleep = Unit {0}

pub record SmallTerms (t : Terms) : Type 0 where
  pub payload : t.payload ≤ 255
  pub credits : t.credits ≤ 255

abbrev pub SmallVerdict : Judgement → Type 0
SmallVerdict (Err status) = octet_of status ≤ 255
SmallVerdict (Ok (verdict.Resets type)) = type ≤ 255
SmallVerdict (Ok verdict.Initialises) = Unit {0}
SmallVerdict (Ok (verdict.Opens c t)) = (c ≤ 255) × SmallTerms t
SmallVerdict (Ok (verdict.Closes c)) = Unit {0}
SmallVerdict (Ok (verdict.Turns rf)) = Bare rf
SmallVerdict (Ok (verdict.Selects pair)) = (pair.id ≤ 255) × (pair.protocol ≤ 255)
SmallVerdict (Ok (verdict.Deactivates type rf)) = (type ≤ 255) × Bare rf
SmallVerdict (Ok verdict.SetsConfig) = Unit {0}
SmallVerdict (Ok verdict.GetsConfig) = Unit {0}
