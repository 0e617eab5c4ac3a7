-- The radio's state and the pairs found are written as octets where what they carry is octets; a list of pairs that grew too.
-- Assumes nothing.
use Prim.Native.Nat.{ℕ, zero, suc, ◌<◌}
use native.Mathlib.Omega.{arith}
use mathlib.Core.Path.{◌≡◌, refl, sym, subst}
use mathlib.Core.Bool.{Bool, true, false}
use mathlib.Core.List.{List, [], ◌∷◌}
use lib.ListN.{length, get_or, set}
use lib.Seq.{get_or-set_same, get_or-set_other}
use lib.Dec.{eqb, ltb}
use borrow.Author.Tests.{eqb-true, eqb-false, ltb-true}
use Rattle.std.specs.Prelude.{Some, None}
use Rattle.octets.specs.Octets.{Octets}
use Rattle.octets.specs.Octal.{Octal, octal_nil, octal_cons}
use Rattle.octets.proofs.Octal.{octal_at}
use Rattle.record.specs.Kinds.{Activation, Pair, Pairs, Rf}
use Rattle.record.specs.Kinds.rf.{Idle, Discovery, W4AllDiscoveries, W4HostSelect, PollActive, ListenActive, ListenSleep}
use Rattle.state.specs.Radio.{no_pair, no_pairs, started_with, added_to}
use Rattle.state.proofs.Chains.{on}
use Rattle.state.proofs.Targets.{SmallPair, SmallTarget, SmallRf}
use Rattle.record.specs.Layout.{pairs_room, low}
use Rattle.record.specs.Writing.{rf_octets, pairs_octets}
use Rattle.record.proofs.Small.{case, none_octal}

-- ---- the radio's state

active_octal : (n : ℕ) (a : Activation) → n < 7 → SmallTarget a → Octal (n ∷ a.id ∷ a.protocol ∷ a.mode ∷ [])
active_octal n a h s = octal_cons {x = n} (omega arith) (octal_cons s.id (octal_cons s.protocol (octal_cons s.mode octal_nil)))

pub rf_octal : (rf : Rf) → SmallRf rf → Octal (rf_octets rf)
unfolding rf_octets
rf_octal Idle s = case 0 (omega arith)
rf_octal Discovery s = case 1 (omega arith)
rf_octal W4AllDiscoveries s = case 2 (omega arith)
rf_octal (W4HostSelect None) s = case 3 (omega arith)
rf_octal (W4HostSelect (Some p)) s = octal_cons {x = 3} (omega arith) (octal_cons {x = 1} (omega arith) (octal_cons s.0 (octal_cons s.1 octal_nil)))
rf_octal (PollActive a) s = active_octal 4 a (omega arith) s
rf_octal (ListenActive a) s = active_octal 5 a (omega arith) s
rf_octal ListenSleep s = case 6 (omega arith)

-- ---- pairs, by place

abbrev SmallPairs : List Pair → Type 0
SmallPairs l = (i : ℕ) → i < pairs_room → SmallPair (get_or l i no_pair)

pairs_at_law : (ps : Pairs) → Octal (pairs_octets ps) → SmallPairs ps.list
unfolding pairs_octets
pairs_at_law ps o zero h = (octal_at o 0, octal_at o 1)
pairs_at_law ps o (suc zero) h = (octal_at o 2, octal_at o 3)
pairs_at_law ps o (suc (suc zero)) h = (octal_at o 4, octal_at o 5)
pairs_at_law ps o (suc (suc (suc zero))) h = (octal_at o 6, octal_at o 7)
pairs_at_law ps o (suc (suc (suc (suc zero)))) h = (octal_at o 8, octal_at o 9)
pairs_at_law ps o (suc (suc (suc (suc (suc zero))))) h = (octal_at o 10, octal_at o 11)
pairs_at_law ps o (suc (suc (suc (suc (suc (suc zero)))))) h = (octal_at o 12, octal_at o 13)
pairs_at_law ps o (suc (suc (suc (suc (suc (suc (suc zero))))))) h = (octal_at o 14, octal_at o 15)
pairs_at_law ps o (suc (suc (suc (suc (suc (suc (suc (suc n)))))))) h = absurd (omega arith)

pairs_octal : (ps : Pairs) → SmallPairs ps.list → Octal (pairs_octets ps)
unfolding pairs_octets
pairs_octal ps f =
    two 0 (omega arith) (two 1 (omega arith) (two 2 (omega arith) (two 3 (omega arith)
    (two 4 (omega arith) (two 5 (omega arith) (two 6 (omega arith) (two 7 (omega arith) (octal_cons {x = low ps.count} (omega arith) octal_nil))))))))
  where
    two : (i : ℕ) → i < pairs_room → {l : Octets} → Octal l → Octal ((get_or ps.list i no_pair).id ∷ (get_or ps.list i no_pair).protocol ∷ l)
    two i h t = let p = f i h in octal_cons p.0 (octal_cons p.1 t)

-- one more
set_small : (l : List Pair) (n : ℕ) (p : Pair) → n < length l → SmallPair p → SmallPairs l → SmallPairs (set l n p)
set_small l n p room s f i h = go (eqb i n) refl
  where
    go : (b : Bool) → eqb i n ≡ b → SmallPair (get_or (set l n p) i no_pair)
    go true e = subst (λ (x : ℕ). SmallPair (get_or (set l n p) x no_pair)) (sym (eqb-true i n e)) (subst SmallPair (sym (get_or-set_same l n p no_pair room)) s)
    go false e = subst SmallPair (sym (get_or-set_other l n i p no_pair (eqb-false i n e))) (f i h)

pub started_octal : (p : Pair) → SmallPair p → Octal (pairs_octets (started_with p))
started_octal p s = pairs_octal (started_with p) (set_small no_pairs.list 0 p (omega arith) s (pairs_at_law no_pairs none_octal))

pub added_octal : (ps : Pairs) (p : Pair) → length ps.list ≡ pairs_room → SmallPair p → Octal (pairs_octets ps) → Octal (pairs_octets (added_to ps p))
unfolding added_to
added_octal ps p n s o =
    on (λ (x : Pairs). Octal (pairs_octets x)) (ltb ps.count 8)
    (λ e. pairs_octal _ (set_small ps.list ps.count p (omega (arith, ltb-true ps.count 8 e, n)) s (pairs_at_law ps o))) (λ _. o)
