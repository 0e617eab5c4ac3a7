-- A connection after a change at the controller, and the endpoint's message in hand with it: within their limits, and octets.
-- Assumes nothing.
use Prim.Native.Nat.{◌≤◌}
use native.Mathlib.Omega.{arith}
use Rattle.calls.specs.Kinds.{Hand, Counts}
use Rattle.ends.specs.Changes.{Change, stays, opens, closes, gives, counts_at_controller, endpoint_by}
use Rattle.record.specs.Fit.{FitHand, FitCounts}
use Rattle.record.specs.Small.{SmallCounts}

pub changed_fit : (x : Change) (c : Counts) → FitCounts c → FitCounts (counts_at_controller x c)
changed_fit stays c f = f
changed_fit (opens t) c f =
    record {
      payload = f.payload;
      hand = f.hand;
      host_run_law = f.host_run_law;
      store = record { head = omega arith; count = omega arith };
      controller_run_law = omega arith;
    }
changed_fit closes c f =
    record {
      payload = f.payload;
      hand = f.hand;
      host_run_law = f.host_run_law;
      store = record { head = omega arith; count = omega arith };
      controller_run_law = omega arith;
    }
changed_fit (gives n) c f = f

-- the terms that it opens with are octets
abbrev pub SmallChange : Change → Type 0
SmallChange stays = Unit {0}
SmallChange (opens t) = t.credits ≤ 255
SmallChange closes = Unit {0}
SmallChange (gives n) = Unit {0}

pub changed_small : (x : Change) (c : Counts) → SmallChange x → SmallCounts c → SmallCounts (counts_at_controller x c)
changed_small stays c w s = s
changed_small (opens t) c w s = record { payload = s.payload; host_grant_law = s.host_grant_law; held = s.held; grant = w; owed = omega arith }
changed_small closes c w s = record { payload = s.payload; host_grant_law = s.host_grant_law; held = s.held; grant = omega arith; owed = omega arith }
changed_small (gives n) c w s = s

pub endpoint_fit : (x : Change) (h : Hand) → FitHand h → FitHand (endpoint_by x h)
endpoint_fit stays h f = f
endpoint_fit (opens t) h f = record { len = omega arith; at = omega arith }
endpoint_fit closes h f = record { len = omega arith; at = omega arith }
endpoint_fit (gives n) h f = f
