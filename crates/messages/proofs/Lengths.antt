-- A response, the notification after it and a credit notice each fit a buffer for a control message.
-- Assumes nothing.
use Prim.Native.Nat.{ℕ, ◌≤◌}
use native.Mathlib.Omega.{arith}
use mathlib.Core.Path.{◌≡◌, refl}
use mathlib.Core.Bool.{Bool, true, false}
use mathlib.Core.List.{List, [], ◌∷◌}
use lib.ListN.{length, length-map}
use lib.Dec.{eqb}
use Rattle.std.specs.Prelude.{Ok, Err}
use Rattle.octets.specs.Octets.{Octets, pick}
use Rattle.state.specs.Judgement.{Judgement}
use Rattle.state.specs.declared.kinds.Profile.{Profile}
use Rattle.state.specs.declared.kinds.Counts.{Counts}
use Rattle.state.specs.declared.verdict.Verdict.TheVariants.{Resets, Initialises, Opens, Closes, Turns, Selects, Deactivates, SetsConfig, GetsConfig}
use Rattle.state.specs.Runs.{control_limit}
use Rattle.messages.specs.Layout.{entry_count, owed_on, owed_of, credits_message, response_of, notice_message}
use Rattle.messages.proofs.Messages.{entries_length}
use Rattle.config.specs.Commands.{count_in, param_at}
use Rattle.config.proofs.Lists.{param_far, invalid_few, get_short}

-- a set's list is whole
pub response_short : (p : Profile) (b m : Octets) (v : Judgement) → (v ≡ Ok SetsConfig → param_at m (count_in m) ≤ control_limit)
    → length (response_of p b m v) ≤ control_limit
unfolding response_of
response_short p b m (Err status) w = omega arith
response_short p b m (Ok (Resets type)) w = omega arith
response_short p b m (Ok Initialises) w = omega arith
response_short p b m (Ok (Opens id t)) w = omega arith
response_short p b m (Ok (Closes id)) w = omega arith
response_short p b m (Ok (Turns rf)) w = omega arith
response_short p b m (Ok (Selects pair)) w = omega arith
response_short p b m (Ok (Deactivates type rf)) w = omega arith
response_short p b m (Ok SetsConfig) w = omega (arith, w refl, param_far m (count_in m), invalid_few m (count_in m))
response_short p b m (Ok GetsConfig) w = get_short b m

pub notice_short : (v : Judgement) → length (notice_message v).payload ≤ control_limit
unfolding notice_message
notice_short (Err status) = omega arith
notice_short (Ok (Resets type)) = omega arith
notice_short (Ok Initialises) = omega arith
notice_short (Ok (Opens id t)) = omega arith
notice_short (Ok (Closes id)) = omega arith
notice_short (Ok (Turns rf)) = omega arith
notice_short (Ok (Selects pair)) = omega arith
notice_short (Ok (Deactivates type rf)) = omega arith
notice_short (Ok SetsConfig) = omega arith
notice_short (Ok GetsConfig) = omega arith

-- an entry a connection at most
entry_count_law : (owed : List ℕ) → entry_count owed ≤ length owed
unfolding entry_count
entry_count_law [] = omega arith
entry_count_law (n ∷ ns) = omega (arith, one (eqb n 0), entry_count_law ns)
  where
    one : (b : Bool) → pick b 0 1 ≤ 1
    one true = omega arith
    one false = omega arith

pub credits_short : (conns : List Counts) → length conns ≡ 5 → length (credits_message conns).payload ≤ control_limit
credits_short conns five =
    let long : length (owed_of conns) ≡ length conns = length-map conns (λ (c : Counts). owed_on c.controller) in
    omega (arith, entries_length 0 (owed_of conns), entry_count_law (owed_of conns))
