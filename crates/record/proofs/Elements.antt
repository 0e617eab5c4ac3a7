-- Arrays read element by element are the definitions' lists.
-- Assumes nothing.
use Prim.Native.Nat.{ℕ, zero, suc, ◌+◌, ◌*◌, ◌<◌}
use native.Mathlib.Omega.{arith}
use mathlib.Core.Path.{◌≡◌, refl, ap, ◌∙◌}
use mathlib.Core.List.{List}
use lib.ListN.{length, get_or}
use Rattle.std.proofs.lemmas.List.{ext_get_or}
use Rattle.octets.specs.Octets.{Octets}
use Rattle.state.specs.Conn.{closed_counts}
use Rattle.state.specs.Radio.{no_pair}
use Rattle.record.specs.Kinds.{Pair, Counts}
use Rattle.record.specs.Layout.{counts_part}
use Rattle.record.specs.Reading.{pair_at, pairs_at, counts_at, conns_at}

module _ (s : Octets) (at : ℕ) where
  pair_place : (k : ℕ) → k < 8 → pair_at s (at + 2 * k) ≡ get_or (pairs_at s at).list k no_pair
  unfolding pairs_at
  pair_place zero l = let e : at + 2 * 0 ≡ at = omega arith in ap (λ (n : ℕ). pair_at s n) e
  pair_place (suc zero) l = refl
  pair_place (suc (suc zero)) l = refl
  pair_place (suc (suc (suc zero))) l = refl
  pair_place (suc (suc (suc (suc zero)))) l = refl
  pair_place (suc (suc (suc (suc (suc zero))))) l = refl
  pair_place (suc (suc (suc (suc (suc (suc zero)))))) l = refl
  pair_place (suc (suc (suc (suc (suc (suc (suc zero))))))) l = refl
  pair_place (suc (suc (suc (suc (suc (suc (suc (suc k)))))))) l = absurd (omega arith)

  pub pairs_each : (ys : List Pair) → length ys ≡ 8 → ((k : ℕ) → k < 8 → get_or ys k no_pair ≡ pair_at s (at + 2 * k)) → ys ≡ (pairs_at s at).list
  unfolding pairs_at
  pairs_each ys n h =
      ext_get_or no_pair ys (pairs_at s at).list n (λ k l. let low : k < 8 = omega (arith, n, l) in h k low ∙ pair_place k low)

  conn_place : (k : ℕ) → k < 5 → counts_at s (at + counts_part k) ≡ get_or (conns_at s at) k closed_counts
  unfolding conns_at
  conn_place zero l = let e : at + counts_part 0 ≡ at = omega arith in ap (λ (n : ℕ). counts_at s n) e
  conn_place (suc zero) l = refl
  conn_place (suc (suc zero)) l = refl
  conn_place (suc (suc (suc zero))) l = refl
  conn_place (suc (suc (suc (suc zero)))) l = refl
  conn_place (suc (suc (suc (suc (suc k))))) l = absurd (omega arith)

  pub conns_each : (ys : List Counts) → length ys ≡ 5 → ((k : ℕ) → k < 5 → get_or ys k closed_counts ≡ counts_at s (at + counts_part k)) → ys ≡ conns_at s at
  unfolding conns_at
  conns_each ys n h =
      ext_get_or closed_counts ys (conns_at s at) n (λ k l. let low : k < 5 = omega (arith, n, l) in h k low ∙ conn_place k low)
