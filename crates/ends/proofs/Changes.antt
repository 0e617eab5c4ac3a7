-- The array of connections changes as each connection does: after a verdict, an event of the air, what the host heard, and a credit notice.
-- Of an ID that no connection has, `past_five` of state: it has the counts of a closed one before and after.
-- Assumes nothing.
use Rattle.std.specs.Prelude.{Option, Some, None}
use Prim.Native.Nat.{ℕ, ◌+◌, ◌%◌, ◌<◌, ◌≤◌}
use native.Mathlib.Omega.{arith}
use mathlib.Core.Path.{◌≡◌, refl, sym, ◌∙◌}
use mathlib.Core.Bool.{Bool, true, false, ◌&&◌}
use mathlib.Core.List.{List}
use lib.ListN.{length}
use lib.Dec.{eqb}
use borrow.Author.Tests.{eqb-true}
use Rattle.std.specs.Prelude.{Ok, Err}
use Rattle.octets.specs.Octets.{Octets, pick}
use Rattle.ends.specs.Kinds.{Terms, Profile, Hand, HostSide, ControllerSide, Counts, Aired, Heard}
use Rattle.ends.specs.Kinds.verdict as verdict
use Rattle.ends.specs.Kinds.aired.{Goes, Activates, Ends, Speaks}
use Rattle.ends.specs.Kinds.answer.{Done, ClosesAll, Sized, Opens, Closes}
use Rattle.ends.specs.Kinds.heard.{Nothing, Dropped, Answered, Activated, Deactivated, Credits}
use Rattle.state.specs.Judgement.{Judgement}
use Rattle.state.specs.Conn.{place_of, terms_of, flows, credit_sum, counts_of, empty, closed_controller, opened_controller, closed_host, opened_host, noticed_side, all_noticed}
use Rattle.state.proofs.Conns.{changed_at, length_one, length_all, one_at, all_at}
use Rattle.nfcc.specs.Controller.{conns_after, endpoint_after}
use Rattle.air.specs.Air.{conns_aired, endpoint_aired}
use Rattle.dh.specs.Host.{credits_for, credited, conns_heard}
use Rattle.ends.specs.Changes.{Change, stays, opens, closes, gives, change_by, change_aired, given_to, change_heard, changed_host, counts_at_controller, counts_at_host, endpoint_by, spoken_by}

-- ---- one side of a connection's counts

abbrev with_controller : ControllerSide → ℕ → Counts → Counts
with_controller k c n = record { host = n.host; controller = k }

abbrev with_host : HostSide → ℕ → Counts → Counts
with_host h c n = record { host = h; controller = n.controller }

controller_pick : (b : Bool) (x : Change) (n : Counts) → pick b (counts_at_controller x n) n ≡ counts_at_controller (pick b x stays) n
controller_pick true x n = refl
controller_pick false x n = refl

host_pick : (b : Bool) (x : Change) (n : Counts) → pick b (counts_at_host x n) n ≡ counts_at_host (pick b x stays) n
host_pick true x n = refl
host_pick false x n = refl

-- credits of a notice are given, or there are none
given_credits : (h : HostSide) (n : ℕ) → h.held ≤ 255 → credited h n ≡ changed_host (given_to n) h
given_credits h n low = go (eqb n 0) refl
  where
    none : (b : Bool) → n ≡ 0 → pick b (credit_sum h.held n) h.held ≡ h.held
    none true e = (λ i. (h.held + e i) % 256) ∙ omega arith
    none false e = refl

    go : (b : Bool) → eqb n 0 ≡ b → credited h n ≡ changed_host (pick b stays (gives n)) h
    go true e =
        λ i. record {
          opened = h.opened;
          payload = h.payload;
          grant = h.grant;
          held = none (h.opened && flows h.grant) (eqb-true n 0 e) i;
          hand = h.hand;
          run = h.run;
        }
    go false e = refl

module _ (conns : List Counts) (d : ℕ) (five : length conns ≡ 5) (one : place_of d < 5) where
  -- a connection opens or closes at an end
  opens_controller : (c : ℕ) (t : Terms) → counts_of (changed_at (with_controller (opened_controller t)) conns c) d ≡ counts_at_controller (pick (eqb c d) (opens t) stays) (counts_of conns d)
  opens_controller c t = one_at (with_controller (opened_controller t)) conns c d five one ∙ controller_pick (eqb c d) (opens t) (counts_of conns d)

  closes_controller : (c : ℕ) → counts_of (changed_at (with_controller closed_controller) conns c) d ≡ counts_at_controller (pick (eqb c d) closes stays) (counts_of conns d)
  closes_controller c = one_at (with_controller closed_controller) conns c d five one ∙ controller_pick (eqb c d) closes (counts_of conns d)

  opens_host : (c : ℕ) (t : Terms) → counts_of (changed_at (with_host (opened_host t)) conns c) d ≡ counts_at_host (pick (eqb c d) (opens t) stays) (counts_of conns d)
  opens_host c t = one_at (with_host (opened_host t)) conns c d five one ∙ host_pick (eqb c d) (opens t) (counts_of conns d)

  closes_host : (c : ℕ) → counts_of (changed_at (with_host closed_host) conns c) d ≡ counts_at_host (pick (eqb c d) closes stays) (counts_of conns d)
  closes_host c = one_at (with_host closed_host) conns c d five one ∙ host_pick (eqb c d) closes (counts_of conns d)

  -- ---- each connection after a verdict

  pub counts_after : (v : Judgement) → counts_of (conns_after conns v) d ≡ counts_at_controller (change_by v d) (counts_of conns d)
  unfolding conns_after
  counts_after (Err status) = refl
  counts_after (Ok (verdict.Resets type)) = all_at (with_controller closed_controller) conns d five one
  counts_after (Ok verdict.Initialises) = refl
  counts_after (Ok (verdict.Opens c t)) = opens_controller c t
  counts_after (Ok (verdict.Closes c)) = closes_controller c
  counts_after (Ok (verdict.Turns rf)) = refl
  counts_after (Ok (verdict.Selects pair)) = refl
  counts_after (Ok (verdict.Deactivates type rf)) = closes_controller 0
  counts_after (Ok verdict.SetsConfig) = refl
  counts_after (Ok verdict.GetsConfig) = refl

  -- ---- after an event of the air

  pub counts_aired : (p : Profile) (a : Option Aired) → counts_of (conns_aired p conns a) d ≡ counts_at_controller (change_aired (terms_of p 0) a d) (counts_of conns d)
  unfolding conns_aired
  counts_aired p None = refl
  counts_aired p (Some (Goes rf l)) = refl
  counts_aired p (Some (Activates rf l)) = opens_controller 0 (terms_of p 0)
  counts_aired p (Some (Ends rf)) = closes_controller 0
  counts_aired p (Some Speaks) = refl

  -- ---- after what the host heard; the credits held are an octet

  pub counts_heard : (m : Octets) (x : Heard) → (counts_of conns d).host.held ≤ 255
      → counts_of (conns_heard conns m x) d ≡ counts_at_host (change_heard x m d) (counts_of conns d)
  unfolding conns_heard
  counts_heard m Nothing low = refl
  counts_heard m Dropped low = refl
  counts_heard m (Answered Done) low = refl
  counts_heard m (Answered ClosesAll) low = all_at (with_host closed_host) conns d five one
  counts_heard m (Answered (Sized n)) low = refl
  counts_heard m (Answered (Opens c t)) low = opens_host c t
  counts_heard m (Answered (Closes c)) low = closes_host c
  counts_heard m (Activated t) low = opens_host 0 t
  counts_heard m Deactivated low = closes_host 0
  counts_heard m Credits low =
      all_at (λ c n. with_host (credited n.host (credits_for m c)) c n) conns d five one
      ∙ (λ i. with_host (given_credits (counts_of conns d).host (credits_for m d) low i) d (counts_of conns d))

  -- ---- after a credit notice

  pub counts_noticed : counts_of (all_noticed conns) d ≡ record { host = (counts_of conns d).host; controller = noticed_side (counts_of conns d).controller }
  counts_noticed = all_at (λ c n. with_controller (noticed_side n.controller) c n) conns d five one

-- ---- there are as many as before

pub length_after : (conns : List Counts) (v : Judgement) → length (conns_after conns v) ≡ length conns
unfolding conns_after
length_after conns (Err status) = refl
length_after conns (Ok (verdict.Resets type)) = length_all (with_controller closed_controller) conns
length_after conns (Ok verdict.Initialises) = refl
length_after conns (Ok (verdict.Opens c t)) = length_one (with_controller (opened_controller t)) conns c
length_after conns (Ok (verdict.Closes c)) = length_one (with_controller closed_controller) conns c
length_after conns (Ok (verdict.Turns rf)) = refl
length_after conns (Ok (verdict.Selects pair)) = refl
length_after conns (Ok (verdict.Deactivates type rf)) = length_one (with_controller closed_controller) conns 0
length_after conns (Ok verdict.SetsConfig) = refl
length_after conns (Ok verdict.GetsConfig) = refl

pub length_aired : (p : Profile) (conns : List Counts) (a : Option Aired) → length (conns_aired p conns a) ≡ length conns
unfolding conns_aired
length_aired p conns None = refl
length_aired p conns (Some (Goes rf l)) = refl
length_aired p conns (Some (Activates rf l)) = length_one (with_controller (opened_controller (terms_of p 0))) conns 0
length_aired p conns (Some (Ends rf)) = length_one (with_controller closed_controller) conns 0
length_aired p conns (Some Speaks) = refl

pub length_heard : (conns : List Counts) (m : Octets) (x : Heard) → length (conns_heard conns m x) ≡ length conns
unfolding conns_heard
length_heard conns m Nothing = refl
length_heard conns m Dropped = refl
length_heard conns m (Answered Done) = refl
length_heard conns m (Answered ClosesAll) = length_all (with_host closed_host) conns
length_heard conns m (Answered (Sized n)) = refl
length_heard conns m (Answered (Opens c t)) = length_one (with_host (opened_host t)) conns c
length_heard conns m (Answered (Closes c)) = length_one (with_host closed_host) conns c
length_heard conns m (Activated t) = length_one (with_host (opened_host t)) conns 0
length_heard conns m Deactivated = length_one (with_host closed_host) conns 0
length_heard conns m Credits = length_all (λ c n. with_host (credited n.host (credits_for m c)) c n) conns

pub length_noticed : (conns : List Counts) → length (all_noticed conns) ≡ length conns
length_noticed conns = length_all (λ c n. with_controller (noticed_side n.controller) c n) conns

-- ---- the endpoint's message in hand follows connection 0

empty_pick : (b : Bool) (x : Change) (h : Hand) → endpoint_by x h ≡ empty → pick b empty h ≡ endpoint_by (pick b x stays) h
empty_pick true x h e = sym e
empty_pick false x h e = refl

pub endpoint_after_law : (h : Hand) (v : Judgement) → endpoint_after h v ≡ endpoint_by (change_by v 0) h
unfolding endpoint_after
endpoint_after_law h (Err status) = refl
endpoint_after_law h (Ok (verdict.Resets type)) = refl
endpoint_after_law h (Ok verdict.Initialises) = refl
endpoint_after_law h (Ok (verdict.Opens c t)) = empty_pick (eqb c 0) (opens t) h refl
endpoint_after_law h (Ok (verdict.Closes c)) = empty_pick (eqb c 0) closes h refl
endpoint_after_law h (Ok (verdict.Turns rf)) = refl
endpoint_after_law h (Ok (verdict.Selects pair)) = refl
endpoint_after_law h (Ok (verdict.Deactivates type rf)) = refl
endpoint_after_law h (Ok verdict.SetsConfig) = refl
endpoint_after_law h (Ok verdict.GetsConfig) = refl

pub endpoint_aired_law : (t : Terms) (h : Hand) (a : Option Aired) (n : ℕ) → endpoint_aired h a n ≡ spoken_by a n (endpoint_by (change_aired t a 0) h)
unfolding endpoint_aired
endpoint_aired_law t h None n = refl
endpoint_aired_law t h (Some (Goes rf l)) n = refl
endpoint_aired_law t h (Some (Activates rf l)) n = refl
endpoint_aired_law t h (Some (Ends rf)) n = refl
endpoint_aired_law t h (Some Speaks) n = refl
