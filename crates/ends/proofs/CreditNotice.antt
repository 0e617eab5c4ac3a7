-- A credit notice, both ways: what `credits_ntf` makes is taken for written, and each connection's credits are those that were owed on it.
-- The proofs go entry by entry.
-- Assumes nothing.
use Prim.Native.Nat.{ℕ, zero, suc, ◌+◌, ◌-◌, ◌*◌, ◌≤◌, ◌<◌}
use mathlib.Core.Path.{◌≡◌, refl, sym, ap, ◌∙◌}
use mathlib.Core.Bool.{true, ◌||◌, or-true}
use mathlib.Core.List.{List, [], ◌∷◌, ◌++◌, append_assoc}
use native.Mathlib.Nat.{not-suc-le-zero}
use native.Mathlib.Omega.{arith}
use lib.ListN.{length, get_or, length-append}
use lib.Seq.{get_or-append-add}
use lib.Dec.{eqb, ltb, eqb-suc-zero}
use borrow.Author.Tests.{le-leb, lt-ltb, eq-eqb, ne_eqb}
use Rattle.octets.specs.Octets.{Octets}
use Rattle.state.specs.Conn.{conn_of}
use Rattle.messages.specs.Layout.{entries_from, entry_count, credits_ntf}
use Rattle.dh.specs.Contents.{notice_of, entry_id, entry_credits, entries_ok, credits_written, written}
use Rattle.dh.specs.Host.{credits_in, credits_for}
use Rattle.state.proofs.Places.{place_conn, conn_suc}
use Rattle.messages.proofs.Messages.{entries_length}

-- ---- Conn IDs and places

-- Conn IDs ascend with their places
conn_less : (p q : ℕ) → p < q → q < 5 → conn_of p < conn_of q
unfolding conn_of
conn_less p zero h k = absurd (not-suc-le-zero h)
conn_less zero (suc q) h k = rw (conn_suc q (omega arith)) (omega arith)
conn_less (suc p) (suc q) h k = rw (conn_suc p (omega arith), conn_suc q (omega arith)) (omega arith)

-- ---- entries

entries_suc : (p n : ℕ) (l : List ℕ) → entries_from p (suc n ∷ l) ≡ conn_of p ∷ suc n ∷ entries_from (suc p) l
unfolding entries_from
entries_suc p n l = rw (eqb-suc-zero n)

count_suc : (n : ℕ) (l : List ℕ) → entry_count (suc n ∷ l) ≡ 1 + entry_count l
unfolding entry_count
count_suc n l = rw (eqb-suc-zero n)

-- k entries stand in the notice m before those for l, which are of the places from p on
record Noticed (m : Octets) (p k : ℕ) (l : List ℕ) : Type 0 where
  front : Octets
  octets : m ≡ front ++ entries_from p l
  long : length front ≡ 1 + 2 * k

noticed_zero : (m : Octets) (p k : ℕ) (l : List ℕ) → Noticed m p k (0 ∷ l) → Noticed m (suc p) k l
unfolding entries_from
noticed_zero m p k l h = record { front = h.front; octets = h.octets; long = h.long }

module _ (m : Octets) (p k n : ℕ) (l : List ℕ) (h : Noticed m p k (suc n ∷ l)) where
  shown : m ≡ h.front ++ (conn_of p ∷ suc n ∷ entries_from (suc p) l)
  shown = h.octets ∙ ap (λ (e : Octets). h.front ++ e) (entries_suc p n l)

  noticed_suc : Noticed m (suc p) (suc k) l
  noticed_suc =
      record {
        front = h.front ++ (conn_of p ∷ suc n ∷ []);
        octets = shown ∙ sym (append_assoc h.front (conn_of p ∷ suc n ∷ []) (entries_from (suc p) l));
        long = simp length-append (omega (arith, h.long));
      }

  entry_at : (i j : ℕ) → i ≡ length h.front + j → get_or m i 0 ≡ get_or (conn_of p ∷ suc n ∷ entries_from (suc p) l) j 0
  entry_at i j e = (λ x. get_or (shown x) (e x) 0) ∙ get_or-append-add h.front _ j 0

  entry_id_law : entry_id m k ≡ conn_of p
  entry_id_law = entry_at (1 + 2 * k) 0 (omega (arith, h.long))

  entry_credits_law : entry_credits m k ≡ suc n
  entry_credits_law = entry_at (2 + 2 * k) 1 (omega (arith, h.long))

-- ---- written

-- one more entry
next : (m : Octets) (p k n : ℕ) → p < 5 → suc n ≤ 8 → entry_id m k ≡ conn_of p → entry_credits m k ≡ suc n → entries_ok m k ≡ true
    → (eqb k 0 || ltb (entry_id m (k - 1)) (conn_of p)) ≡ true → entries_ok m (suc k) ≡ true
unfolding entries_ok
next m p k n place most id credits ok low =
    let one : 1 ≤ suc n = omega arith in
    rw (ok, id, credits, place_conn p place, lt-ltb p 5 place, le-leb 1 (suc n) one, le-leb (suc n) 8 most, low)

-- the entries are in order, and within their limits
entries_ok_law : (l : List ℕ) (m : Octets) (p k : ℕ) → Noticed m p k l → p + length l ≤ 5 → ((q : ℕ) → get_or l q 0 ≤ 8) → entries_ok m k ≡ true
    → ((q : ℕ) → p ≤ q → q < 5 → (eqb k 0 || ltb (entry_id m (k - 1)) (conn_of q)) ≡ true)
    → entries_ok m (k + entry_count l) ≡ true
unfolding entry_count
entries_ok_law [] m p k h five most ok low =
    let e : k + 0 ≡ k = omega arith in ap (entries_ok m) e ∙ ok
entries_ok_law (zero ∷ l) m p k h five most ok low =
    let e : k + (0 + entry_count l) ≡ k + entry_count l = omega arith in
    ap (entries_ok m) e
    ∙ entries_ok_law l m (suc p) k (noticed_zero m p k l h) (omega arith) (λ q. most (suc q)) ok (λ q i j. low q (omega arith) j)
entries_ok_law (suc n ∷ l) m p k h five most ok low =
    let e : k + entry_count (suc n ∷ l) ≡ suc k + entry_count l = omega (arith, count_suc n l) in
    let id = entry_id_law m p k n l h in
    let credits = entry_credits_law m p k n l h in
    let eight : suc n ≤ 8 = most 0 in
    let one : entries_ok m (suc k) ≡ true = next m p k n (omega arith) eight id credits ok (low p (omega arith) (omega arith)) in
    let back : suc k - 1 ≡ k = omega arith in
    let same : entry_id m (suc k - 1) ≡ conn_of p = ap (entry_id m) back ∙ id in
    ap (entries_ok m) e
    ∙ entries_ok_law l m (suc p) (suc k) (noticed_suc m p k n l h) (omega arith) (λ q. most (suc q)) one
    (λ q i j. rw (same, lt-ltb _ _ (conn_less p q i j), or-true (eqb (suc k) 0)))

count_most : (l : List ℕ) → entry_count l ≤ length l
unfolding entry_count
count_most [] = omega arith
count_most (zero ∷ l) = omega (arith, count_most l)
count_most (suc n ∷ l) = omega (arith, count_suc n l, count_most l)

count_some : (l : List ℕ) (p : ℕ) → 1 ≤ get_or l p 0 → 1 ≤ entry_count l
unfolding entry_count
count_some [] p h = absurd (not-suc-le-zero h)
count_some (zero ∷ l) zero h = absurd (not-suc-le-zero h)
count_some (suc n ∷ l) zero h = omega (arith, count_suc n l)
count_some (n ∷ l) (suc p) h = omega (arith, count_some l p h)

-- no entry stands before the first
noticed_all : (owed : List ℕ) → Noticed (credits_ntf owed) 0 0 owed
noticed_all owed = record { front = entry_count owed ∷ []; octets = refl; long = refl }

pub credits_written_law : (owed : List ℕ) (p : ℕ) → length owed ≡ 5 → ((q : ℕ) → get_or owed q 0 ≤ 8) → 1 ≤ get_or owed p 0
    → written 3 0 6 (credits_ntf owed) ≡ true
unfolding written notice_of credits_written entries_ok
credits_written_law owed p five most some =
    let m = credits_ntf owed in
    let count = entry_count owed in
    let e : count ≡ 0 + count = omega arith in
    let ok : entries_ok m count ≡ true =
    ap (entries_ok m) e ∙ entries_ok_law owed m 0 0 (noticed_all owed) (omega arith) most refl (λ q i j. refl) in
    let five_most : count ≤ 5 = omega (arith, count_most owed) in
    let long : length m ≡ 1 + 2 * count = omega (arith, entries_length 0 owed) in
    rw (le-leb 1 count (count_some owed p some), le-leb count 5 five_most, eq-eqb (length m) (1 + 2 * count) long, ok)

-- ---- read

-- an entry for another connection adds nothing
other : (m : Octets) (k c d : ℕ) → entry_id m k ≡ c → (c ≡ d → ⊥) → credits_in m (suc k) d ≡ credits_in m k d
unfolding credits_in
other m k c d id h =
    let zero_more : credits_in m k d + 0 ≡ credits_in m k d = omega arith in
    rw (id, ne_eqb c d h) zero_more

own : (m : Octets) (k c : ℕ) → entry_id m k ≡ c → credits_in m (suc k) c ≡ credits_in m k c + entry_credits m k
unfolding credits_in
own m k c id = rw (id, eq-eqb c c refl)

-- entries for later places add nothing
credits_past : (l : List ℕ) (m : Octets) (p k q : ℕ) → Noticed m p k l → p + length l ≤ 5 → q < p
    → credits_in m (k + entry_count l) (conn_of q) ≡ credits_in m k (conn_of q)
unfolding entry_count
credits_past [] m p k q h five less =
    let e : k + 0 ≡ k = omega arith in ap (λ (i : ℕ). credits_in m i (conn_of q)) e
credits_past (zero ∷ l) m p k q h five less =
    let e : k + (0 + entry_count l) ≡ k + entry_count l = omega arith in
    ap (λ (i : ℕ). credits_in m i (conn_of q)) e
    ∙ credits_past l m (suc p) k q (noticed_zero m p k l h) (omega arith) (omega arith)
credits_past (suc n ∷ l) m p k q h five less =
    let e : k + entry_count (suc n ∷ l) ≡ suc k + entry_count l = omega (arith, count_suc n l) in
    let apart = conn_less q p less (omega arith) in
    ap (λ (i : ℕ). credits_in m i (conn_of q)) e
    ∙ credits_past l m (suc p) (suc k) q (noticed_suc m p k n l h) (omega arith) (omega arith)
    ∙ other m k (conn_of p) (conn_of q) (entry_id_law m p k n l h) (λ x. omega (arith, apart, x))

-- the entry of a place adds what is owed there
credits_at : (l : List ℕ) (m : Octets) (p k j : ℕ) → Noticed m p k l → p + length l ≤ 5 → p + j < 5
    → credits_in m (k + entry_count l) (conn_of (p + j)) ≡ credits_in m k (conn_of (p + j)) + get_or l j 0
unfolding entry_count
credits_at [] m p k j h five place =
    let e : k + 0 ≡ k = omega arith in
    let none : credits_in m k (conn_of (p + j)) ≡ credits_in m k (conn_of (p + j)) + 0 = omega arith in
    ap (λ (i : ℕ). credits_in m i (conn_of (p + j))) e ∙ none
credits_at (zero ∷ l) m p k zero h five place =
    let e : k + (0 + entry_count l) ≡ k + entry_count l = omega arith in
    let none : credits_in m k (conn_of (p + 0)) ≡ credits_in m k (conn_of (p + 0)) + 0 = omega arith in
    ap (λ (i : ℕ). credits_in m i (conn_of (p + 0))) e
    ∙ credits_past l m (suc p) k (p + 0) (noticed_zero m p k l h) (omega arith) (omega arith)
    ∙ none
credits_at (suc n ∷ l) m p k zero h five place =
    let e : k + entry_count (suc n ∷ l) ≡ suc k + entry_count l = omega (arith, count_suc n l) in
    let here : p + 0 ≡ p = omega arith in
    let id : entry_id m k ≡ conn_of (p + 0) = entry_id_law m p k n l h ∙ ap conn_of (sym here) in
    ap (λ (i : ℕ). credits_in m i (conn_of (p + 0))) e
    ∙ credits_past l m (suc p) (suc k) (p + 0) (noticed_suc m p k n l h) (omega arith) (omega arith)
    ∙ own m k (conn_of (p + 0)) id
    ∙ ap (λ (c : ℕ). credits_in m k (conn_of (p + 0)) + c) (entry_credits_law m p k n l h)
credits_at (zero ∷ l) m p k (suc j) h five place =
    let e : k + (0 + entry_count l) ≡ k + entry_count l = omega arith in
    let there : p + suc j ≡ suc p + j = omega arith in
    (λ i. credits_in m (e i) (conn_of (there i)))
    ∙ credits_at l m (suc p) k j (noticed_zero m p k l h) (omega arith) (omega arith)
    ∙ (λ i. credits_in m k (conn_of (sym there i)) + get_or l j 0)
credits_at (suc n ∷ l) m p k (suc j) h five place =
    let e : k + entry_count (suc n ∷ l) ≡ suc k + entry_count l = omega (arith, count_suc n l) in
    let there : p + suc j ≡ suc p + j = omega arith in
    let apart = conn_less p (p + suc j) (omega arith) place in
    (λ i. credits_in m (e i) (conn_of (there i)))
    ∙ credits_at l m (suc p) (suc k) j (noticed_suc m p k n l h) (omega arith) (omega arith)
    ∙ (λ i. credits_in m (suc k) (conn_of (sym there i)) + get_or l j 0)
    ∙ ap (λ (x : ℕ). x + get_or l j 0) (other m k (conn_of p) (conn_of (p + suc j)) (entry_id_law m p k n l h) (λ x. omega (arith, apart, x)))

pub credits_read : (owed : List ℕ) (p : ℕ) → length owed ≡ 5 → p < 5 → credits_for (credits_ntf owed) (conn_of p) ≡ get_or owed p 0
unfolding credits_in
credits_read owed p five place =
    let m = credits_ntf owed in
    let e : entry_count owed ≡ 0 + entry_count owed = omega arith in
    let there : p ≡ 0 + p = omega arith in
    let none : 0 + get_or owed p 0 ≡ get_or owed p 0 = omega arith in
    (λ i. credits_in m (e i) (conn_of (there i))) ∙ credits_at owed m 0 0 p (noticed_all owed) (omega arith) (omega arith) ∙ none
