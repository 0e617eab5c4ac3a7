-- Where a connection is open it has the profile's terms for its Conn ID: at the host by what Small keeps of messages, at the controller by the
-- invariant of demand 3.
-- Assumes nothing.
use Prim.Native.Nat.{ℕ}
use Rattle.model.specs.State.{State}
use Rattle.model.specs.Observer.{Ledger}
use Rattle.model.specs.Reachable.{Always, OwnTerms}
use Rattle.model.specs.invariant.Bench.{Fine}
use Rattle.model.proofs.Trace.{reachable}
use Rattle.model.proofs.Always.{always}
use Rattle.model.proofs.Small.{Small, cold_small}
use Rattle.model.proofs.Sizes.{act_small}

pub own_terms : (s : State) (aim : ℕ) (l : ℕ → Ledger) → Fine s aim l → Small s → OwnTerms s
own_terms s aim l f m = record { payload = λ d. (m.conns d).host.payload; host_grant_law = λ d. (m.conns d).host.grant; grant = f.standing.granted }

pub terms_reachable : Always OwnTerms
terms_reachable profile ok calls =
    own_terms _ _ _ (reachable profile ok calls).fine (always Small act_small (λ p l. cold_small p) profile ok calls)
