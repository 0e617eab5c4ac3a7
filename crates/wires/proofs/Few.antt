-- A packet has at most eight credits for a connection, whatever packet it is: a notice names a connection once, and a grant without flow
-- control counts for nothing. So what a wire has for one fits an octet.
-- Assumes nothing.
use Prim.Native.Nat.{ℕ, zero, suc, ◌+◌, ◌*◌, ◌-◌, ◌≤◌, ◌<◌}
use native.Mathlib.Omega.{arith}
use mathlib.Core.Path.{◌≡◌, refl, sym, ◌∙◌, subst}
use mathlib.Core.Logic.{◌⊎◌, inl, inr}
use mathlib.Core.Bool.{Bool, true, false, ◌||◌, not, false≢true}
use mathlib.Core.List.{List, [], ◌∷◌}
use lib.Dec.{eqb, ltb, leb}
use lib.ListN.{length, get_or}
use borrow.Author.Tests.{eqb-true, ltb-true, leb-true, eq-eqb}
use Rattle.octets.specs.Octets.{Octets, pick}
use Rattle.std.specs.Prelude.{Some, None, Option}
use Rattle.packets.specs.Packet.{Reading, read_of, payload_of}
use Rattle.packets.proofs.Packet.{read_ranged}
use Rattle.state.specs.Conn.{place_of, metered}
use Rattle.state.specs.Profile.{credits_ok}
use Rattle.state.proofs.Chains.{on, every_at}
use Rattle.state.proofs.Limits.{credits_few}
use Rattle.dh.specs.Contents.{entry_id, entry_credits, entries_ok, credits_written, create_written, activated_written}
use Rattle.dh.specs.Host.{credits_in, credits_for}
use Rattle.dh.proofs.Limits.{create_tests, activated_tests}
use Rattle.wires.specs.declared.up.Inside.{Inside}
use Rattle.wires.specs.declared.up.Inside.TheVariants.{CreditsNtf, CreateRsp, ActivatedNtf}
use Rattle.wires.specs.Tally.{data_count}
use Rattle.wires.specs.Counted.{inside_of, credits_inside, counted_in, counted_on, counted_up}
use Rattle.wires.proofs.Counting.{data_one_small}

-- ---- a grant

metered_few : (n : ℕ) → credits_ok n ≡ true → metered n ≤ 8
metered_few n ok = go (eqb n 255) refl
  where
    go : (b : Bool) → eqb n 255 ≡ b → pick (not b) n 0 ≤ 8
    go true e = omega arith
    go false e = credits_few n ok (λ h. false≢true (sym e ∙ eq-eqb n 255 h))

-- ---- a notice: its Conn IDs ascend, so one of them is the connection's at most once

module _ (m : Octets) (c : ℕ) where
  -- of the first n entries: none is the connection's, or one is and the last is not before it
  Once : ℕ → Type 0
  Once n = (credits_in m n c ≡ 0) ⊎ ((credits_in m n c ≤ 8) × (1 ≤ n) × (c ≤ entry_id m (n - 1)))

  once : (n : ℕ) → entries_ok m n ≡ true → Once n
  unfolding Once credits_in entries_ok
  once zero e = inl refl
  once (suc n) e =
      let ok = every_at (entries_ok m n) (_ ∷ (eqb n 0 || ltb (entry_id m (n - 1)) (entry_id m n)) ∷ []) e in
      let entry = every_at (ltb (place_of (entry_id m n)) 5) (leb 1 (entry_credits m n) ∷ leb (entry_credits m n) 8 ∷ []) (ok 1) in
      let back : n ≡ suc n - 1 = omega arith in
      subst (λ (k : ℕ). (credits_in m (suc n) c ≡ 0) ⊎ ((credits_in m (suc n) c ≤ 8) × (1 ≤ suc n) × (c ≤ entry_id m k))) back
      (go (leb-true _ _ (entry 2)) (follows (ok 2)) (once n (ok 0)) (eqb (entry_id m n) c) refl)
    where
      follows : (eqb n 0 || ltb (entry_id m (n - 1)) (entry_id m n)) ≡ true → (n ≡ 0) ⊎ (entry_id m (n - 1) < entry_id m n)
      follows = first (eqb n 0) refl
        where
          first : (b : Bool) → eqb n 0 ≡ b → (b || ltb (entry_id m (n - 1)) (entry_id m n)) ≡ true → (n ≡ 0) ⊎ (entry_id m (n - 1) < entry_id m n)
          first true z h = inl (eqb-true n 0 z)
          first false z h = inr (ltb-true _ _ h)

      go : entry_credits m n ≤ 8 → (n ≡ 0) ⊎ (entry_id m (n - 1) < entry_id m n)
          → (credits_in m n c ≡ 0) ⊎ ((credits_in m n c ≤ 8) × (1 ≤ n) × (c ≤ entry_id m (n - 1)))
          → (b : Bool) → eqb (entry_id m n) c ≡ b
          → (credits_in m n c + pick b (entry_credits m n) 0 ≡ 0)
          ⊎ ((credits_in m n c + pick b (entry_credits m n) 0 ≤ 8) × (1 ≤ suc n) × (c ≤ entry_id m n))
      go few order (inl none) true e = let same = eqb-true (entry_id m n) c e in inr (omega arith, omega arith, omega arith)
      go few order (inl none) false e = inl (omega arith)
      go few (inl z) (inr some) b e = absurd (omega (arith, some.1))
      go few (inr above) (inr some) true e = let same = eqb-true (entry_id m n) c e in absurd (omega (arith, some.2))
      go few (inr above) (inr some) false e = inr (omega (arith, some.0), omega arith, omega (arith, some.2))

  pub notice_few : credits_written m ≡ true → credits_for m c ≤ 8
  unfolding credits_written Once
  notice_few e = go (once (get_or m 0 0) (every_at (leb 1 (get_or m 0 0)) (_ ∷ _ ∷ entries_ok m (get_or m 0 0) ∷ []) e 3))
    where
      go : (credits_for m c ≡ 0) ⊎ ((credits_for m c ≤ 8) × (1 ≤ get_or m 0 0) × (c ≤ entry_id m (get_or m 0 0 - 1))) → credits_for m c ≤ 8
      go (inl none) = omega arith
      go (inr some) = some.0

  -- ---- what is inside

  opens_few : (d n : ℕ) → credits_ok n ≡ true → pick (eqb d c) (metered n) 0 ≤ 8
  opens_few d n h = on (λ (k : ℕ). k ≤ 8) (eqb d c) (λ e. metered_few n h) (λ e. omega arith)

  create_few : create_written m ≡ true → pick (eqb (get_or m 3 0) c) (metered (get_or m 2 0)) 0 ≤ 8
  create_few h = opens_few (get_or m 3 0) (get_or m 2 0) (create_tests m h 3)

  activated_few : activated_written m ≡ true → pick (eqb 0 c) (metered (get_or m 5 0)) 0 ≤ 8
  activated_few h = opens_few 0 (get_or m 5 0) (activated_tests m h 4)

  inside_few : (x : Option Inside) → credits_inside c m x ≤ 8
  inside_few (Some CreditsNtf) = on (λ (k : ℕ). k ≤ 8) (credits_written m) notice_few (λ e. omega arith)
  inside_few (Some CreateRsp) = on (λ (k : ℕ). k ≤ 8) (create_written m) create_few (λ e. omega arith)
  inside_few (Some ActivatedNtf) = on (λ (k : ℕ). k ≤ 8) (activated_written m) activated_few (λ e. omega arith)
  inside_few None = omega arith

-- ---- a packet, and a wire

-- the field of a data packet holds at most 3
packet_few : (c : ℕ) (p : Octets) → counted_on c p ≤ 8
packet_few c p = go (read_of p) refl
  where
    go : (r : Reading) → read_of p ≡ r → counted_in c p r ≤ 8
    go (Some (h, n)) e =
        on (λ (k : ℕ). k ≤ 8) (eqb h.mt 0)
        (λ z. on (λ (k : ℕ). k ≤ 8) (eqb h.id c) (λ y. omega (arith, (read_ranged p h n e).credits)) (λ y. omega arith))
        (λ z. inside_few (payload_of p n) c (inside_of h n))
    go None e = omega arith

pub counted_up_few : (c : ℕ) (w : List Octets) → counted_up c w ≤ 8 * length w
unfolding counted_up
counted_up_few c [] = omega arith
counted_up_few c (p ∷ w) = omega (arith, packet_few c p, counted_up_few c w)

pub data_count_few : (c : ℕ) (w : List Octets) → data_count c w ≤ length w
unfolding data_count
data_count_few c [] = omega arith
data_count_few c (p ∷ w) = omega (arith, data_one_small c p, data_count_few c w)
