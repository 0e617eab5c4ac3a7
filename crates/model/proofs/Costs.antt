-- Run to rest, to the move: what a segment still costs, by where it is, how many moves are left, and what it is that one thing at most is under way.
-- Assumes nothing.
use Prim.Native.Nat.{ℕ, suc, ◌+◌, ◌*◌, ◌≤◌}
use native.Mathlib.Omega.{arith}
use native.Mathlib.Nat.{mul-zero, mul-suc}
use mathlib.Core.Path.{◌≡◌, refl, ap, ◌∙◌}
use mathlib.Core.Bool.{Bool, true, false}
use mathlib.Core.List.{List, [], ◌∷◌}
use lib.Dec.{eqb}
use lib.ListN.{length}
use Rattle.octets.specs.Octets.{Octets, pick}
use Rattle.wires.specs.Meaning.{Meaning, datum, control, junk, meaning}
use Rattle.state.specs.Conn.{flows}
use Rattle.model.specs.Connection.{ControllerEnd, Connection}
use Rattle.model.specs.State.{State}
use Rattle.model.specs.Refusals.{no_conn}
use Rattle.model.specs.calls.Consume.{is_loop}
use Rattle.model.specs.Reachable.{Each}
use Rattle.model.specs.Press.{in_speech, debt}
use Rattle.model.proofs.Sums.{sum_of, sum_same, sum_at}

-- ---- a number for each connection, and the sum by their weights

unfoldable pub weighed : (ℕ → ℕ) → (ℕ → ℕ) → ℕ
weighed w n = sum_of (λ d. w d * n d)

module _ (w n m : ℕ → ℕ) where
  pub weighed_same : ((d : ℕ) → m d ≡ n d) → weighed w m ≡ weighed w n
  unfolding weighed
  weighed_same e = sum_same (λ d. w d * n d) (λ d. w d * m d) (λ d. ap (λ (i : ℕ). w d * i) (e d))

  -- one of the five has one less
  pub weighed_falls : (c : ℕ) → no_conn c ≡ false → ((d : ℕ) → eqb c d ≡ false → m d ≡ n d) → n c ≡ suc (m c) → weighed w n ≡ w c + weighed w m
  unfolding weighed
  weighed_falls c five beside less =
      by (λ d. w d * n d) (λ d. w d * m d) (λ d z. ap (λ (i : ℕ). w d * i) (beside d z)) (ap (λ (i : ℕ). w c * i) less ∙ mul-suc (w c) (m c))
    where
      by : (h k : ℕ → ℕ) → ((d : ℕ) → eqb c d ≡ false → k d ≡ h d) → h c ≡ k c + w c → sum_of h ≡ w c + sum_of k
      by h k e z = omega (arith, sum_at h k c five e)

pub weighed_none : (w n : ℕ → ℕ) → ((d : ℕ) → n d ≡ 0) → weighed w n ≡ 0
unfolding weighed
weighed_none w n e = sum_same (λ d. 0) (λ d. w d * n d) (λ d. ap (λ (i : ℕ). w d * i) (e d) ∙ mul-zero (w d))

-- ---- what is under way, and how many moves are left; b is whether connection 0 is flow-controlled

-- the moves of a segment: in hand it is still to be pushed,
abbrev pub hand_cost : Bool → ℕ → ℕ
hand_cost b c = pick (is_loop c) 4 (pick b 5 3)

-- on the down wire to be taken,
abbrev pub down_cost : Bool → ℕ → ℕ
down_cost b c = pick (is_loop c) 3 (pick b 4 2)

-- stored to be consumed; and then it is read on a loopback, and on connection 0 its credit is put up and read
abbrev pub store_cost : Bool → ℕ → ℕ
store_cost b c = pick (is_loop c) 2 (pick b 3 1)

pub pushed_cost : (b : Bool) (c : ℕ) → hand_cost b c ≡ suc (down_cost b c)
pushed_cost true c = elim (is_loop c) as (λ l. pick l 4 5 ≡ suc (pick l 3 4)) [ true ↦ refl | false ↦ refl ]
pushed_cost false c = elim (is_loop c) as (λ l. pick l 4 3 ≡ suc (pick l 3 2)) [ true ↦ refl | false ↦ refl ]

pub taken_cost : (b : Bool) (c : ℕ) → down_cost b c ≡ suc (store_cost b c)
taken_cost true c = elim (is_loop c) as (λ l. pick l 3 4 ≡ suc (pick l 2 3)) [ true ↦ refl | false ↦ refl ]
taken_cost false c = elim (is_loop c) as (λ l. pick l 3 2 ≡ suc (pick l 2 1)) [ true ↦ refl | false ↦ refl ]

-- by whether a packet goes up, and whether a credit is owed
abbrev pub goes_up : ℕ → ℕ
goes_up c = pick (is_loop c) 1 0

abbrev pub leaves_owed : Bool → ℕ → ℕ
leaves_owed b c = pick (is_loop c) 0 (pick b 1 0)

pub consumed_cost : (b : Bool) (c : ℕ) → store_cost b c ≡ suc (goes_up c + 2 * leaves_owed b c)
consumed_cost true c = elim (is_loop c) as (λ l. pick l 2 3 ≡ suc (pick l 1 0 + 2 * pick l 0 1)) [ true ↦ refl | false ↦ refl ]
consumed_cost false c = elim (is_loop c) as (λ l. pick l 2 1 ≡ suc (pick l 1 0 + 2 * pick l 0 0)) [ true ↦ refl | false ↦ refl ]

-- the segments in hand at the host, and the packets stored where the connection is open, by connection
abbrev pub hands : (ℕ → Connection) → ℕ → ℕ
hands g d = length (g d).host.hand

abbrev pub stored_on : ControllerEnd → ℕ
stored_on k = pick k.opened (length k.store) 0

abbrev pub stores : (ℕ → Connection) → ℕ → ℕ
stores g d = stored_on (g d).controller

-- data going down
abbrev pub cost_in : Bool → Meaning → ℕ
cost_in b (datum c n x) = down_cost b c
cost_in b (control mt gid oid x) = 0
cost_in b junk = 0

abbrev pub down_costs : Bool → List Octets → ℕ
down_costs b [] = 0
down_costs b (p ∷ w) = cost_in b (meaning p) + down_costs b w

abbrev pub left : Bool → State → ℕ
left b s =
    weighed (hand_cost b) (hands s.conns) + down_costs b s.down + weighed (store_cost b) (stores s.conns) + 2 * debt s + length s.up + 2 * in_speech s

-- data for a connection that is open
abbrev pub Going : (ℕ → Connection) → Meaning → Type 0
Going g (datum c n x) = (no_conn c ≡ false) × ((g c).controller.opened ≡ true)
Going g (control mt gid oid x) = ⊥
Going g junk = ⊥

-- going up: data or a credit notice, nothing that touches what is in hand
abbrev pub Coming : Meaning → Type 0
Coming (datum c n x) = Unit {0}
Coming (control mt gid oid x) = (mt ≡ 3) × (gid ≡ 0) × (oid ≡ 6)
Coming junk = Unit {0}

-- one thing at most is under way
pub record One (b : Bool) (s : State) : Type 0 where
  pub few : length s.down + length s.up + sum_of (stores s.conns) + debt s ≤ 1
  pub going : Each (λ p. Going s.conns (meaning p)) s.down
  pub coming_up_law : Each (λ p. Coming (meaning p)) s.up
  pub flow : flows (s.conns 0).controller.grant ≡ b

-- a move brings the end nearer by one, and leaves one thing under way at most
abbrev pub Nearer : Bool → State → State → Type 0
Nearer b s s' = (left b s ≡ suc (left b s')) × One b s'
