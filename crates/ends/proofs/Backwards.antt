-- The laws of `specs/Backwards.antt`: octets that are taken for written are made from the fields that are read. A list of known length is its
-- elements, and the tests say which of them are fixed. A credit notice goes place by place: at each, the next entry is for it, or none is.
-- Assumes nothing.
use Prim.Native.Nat.{ℕ, zero, suc, ◌+◌, ◌-◌, ◌*◌, ◌≤◌, ◌<◌}
use mathlib.Core.Path.{◌≡◌, refl, sym, ap, ◌∙◌}
use mathlib.Core.Bool.{Bool, true, false, ◌&&◌, ◌||◌}
use mathlib.Core.List.{List, [], ◌∷◌, ◌++◌, map}
use native.Mathlib.Nat.{not-suc-le-zero}
use native.Mathlib.Omega.{arith}
use lib.ListN.{length, get_or, take, drop, length-take, length-drop, take-append-drop, drop_of_length-le}
use lib.Seq.{get_or-append-add, drop-cons, take-append_seam, drop-drop}
use lib.Dec.{eqb, ltb, leb, eqb-suc-zero}
use borrow.Author.Tests.{ltb-true, ltb-false, leb-true, eqb-true, eq-eqb, ne_eqb}
use Rattle.std.specs.Prelude.{Some}
use Rattle.octets.specs.Octets.{Octets, pick, cut}
use Rattle.ends.specs.Kinds.{Activation}
use Rattle.ends.specs.Kinds.notice as notice
use Rattle.state.specs.Names.{activation_failed}
use Rattle.state.specs.Conn.{place_of, conn_of}
use Rattle.state.specs.Radio.{polls, id_ok}
use Rattle.messages.specs.Layout.{reset_ntf, init_rsp, entries_from, entry_count, credits_ntf, generic_error_ntf, discover_ntf, deactivate_ntf}
use Rattle.dh.specs.Contents.{zeros, init_written, reset_written, entry_id, entry_credits, entry_ok, entries_ok, credits_written, discover_written, deactivate_written, notice_written}
use Rattle.dh.specs.Host.{credits_in, credits_for}
use Rattle.state.proofs.Places.{place_conn, conn_place, conn_suc}
use Rattle.state.proofs.Chains.{every_at, elements, elements_are}
use Rattle.ends.proofs.ConfigResponses.{set_back, get_back}
use Rattle.ends.specs.Backwards.{discover_target, discover_type, discover_params, Backwards}

-- an octet that was tested stands there
fixed : (m : Octets) (i n : ℕ) → eqb (get_or m i 0) n ≡ true → n ≡ get_or m i 0
fixed m i n h = sym (eqb-true (get_or m i 0) n h)

-- nothing stands past the end
ended : (m : Octets) (n : ℕ) → eqb (length m) n ≡ true → [] ≡ drop n m
ended m n h =
    let long : length m ≡ n = eqb-true (length m) n h in
    sym (drop_of_length-le m {i = n} (omega arith))

-- ---- CORE_INIT_RSP

pub init_back : (m : Octets) → init_written m ≡ true → init_rsp (get_or m 8 0) ≡ m
unfolding init_written zeros
init_back m h =
    let at =
    every_at (eqb (length m) 16)
    (zeros m 0 5
    ∷ eqb (get_or m 5 0) 0x04
    ∷ zeros m 6 2
    ∷ leb 32 (get_or m 8 0)
    ∷ zeros m 9 4
    ∷ eqb (get_or m 13 0) 0x01
    ∷ eqb (get_or m 14 0) 0x01
    ∷ zeros m 15 1
    ∷ []) h in
    let long : length m ≡ 16 = eqb-true (length m) 16 (at 0) in
    let front =
    every_at true
    (eqb (get_or m 0 0) 0 ∷ eqb (get_or m 1 0) 0 ∷ eqb (get_or m 2 0) 0 ∷ eqb (get_or m 3 0) 0 ∷ eqb (get_or m 4 0) 0 ∷ []) (at 1) in
    let routing = every_at true (eqb (get_or m 6 0) 0 ∷ eqb (get_or m 7 0) 0 ∷ []) (at 3) in
    let frames = every_at true (eqb (get_or m 9 0) 0 ∷ eqb (get_or m 10 0) 0 ∷ eqb (get_or m 11 0) 0 ∷ eqb (get_or m 12 0) 0 ∷ []) (at 5) in
    let last = every_at true (eqb (get_or m 15 0) 0 ∷ []) (at 8) in
    (λ i.
    fixed m 0 0 (front 1) i ∷ fixed m 1 0 (front 2) i ∷ fixed m 2 0 (front 3) i ∷ fixed m 3 0 (front 4) i ∷ fixed m 4 0 (front 5) i
    ∷ fixed m 5 4 (at 2) i ∷ fixed m 6 0 (routing 1) i ∷ fixed m 7 0 (routing 2) i ∷ get_or m 8 0
    ∷ fixed m 9 0 (frames 1) i ∷ fixed m 10 0 (frames 2) i ∷ fixed m 11 0 (frames 3) i ∷ fixed m 12 0 (frames 4) i
    ∷ fixed m 13 1 (at 6) i ∷ fixed m 14 1 (at 7) i ∷ fixed m 15 0 (last 1) i ∷ ended m 16 (at 0) i)
    ∙ elements_are m 16 0 (omega arith)

-- ---- CORE_RESET_NTF and CORE_GENERIC_ERROR_NTF

pub reset_back : (m : Octets) → reset_written m ≡ true → reset_ntf (get_or m 1 0) ≡ m
unfolding zeros
reset_back m h =
    let at =
    every_at (eqb (length m) 5) (eqb (get_or m 0 0) 0x02 ∷ leb (get_or m 1 0) 1 ∷ eqb (get_or m 2 0) 0x20 ∷ zeros m 3 2 ∷ []) h in
    let long : length m ≡ 5 = eqb-true (length m) 5 (at 0) in
    let maker = every_at true (eqb (get_or m 3 0) 0 ∷ eqb (get_or m 4 0) 0 ∷ []) (at 4) in
    (λ i.
    fixed m 0 0x02 (at 1) i ∷ get_or m 1 0 ∷ fixed m 2 0x20 (at 3) i ∷ fixed m 3 0 (maker 1) i ∷ fixed m 4 0 (maker 2) i
    ∷ ended m 5 (at 0) i)
    ∙ elements_are m 5 0 (omega arith)

pub error_back : (m : Octets) → notice_written (Some notice.GenericError) m ≡ true → generic_error_ntf ≡ m
error_back m h =
    let at = every_at (eqb (length m) 1) (eqb (get_or m 0 0) activation_failed ∷ []) h in
    let long : length m ≡ 1 = eqb-true (length m) 1 (at 0) in
    (λ i. fixed m 0 activation_failed (at 1) i ∷ ended m 1 (at 0) i) ∙ elements_are m 1 0 (omega arith)

-- ---- RF_DISCOVER_NTF: fixed fields around the parameters

pub discover_target_law : (a : Activation) (type : ℕ) (params : Octets) → discover_target (discover_ntf a type params) ≡ a
discover_target_law a type params = refl

pub discover_type_law : (a : Activation) (type : ℕ) (params : Octets) → discover_type (discover_ntf a type params) ≡ type
discover_type_law a type params =
    let head : Octets = a.id ∷ a.protocol ∷ a.mode ∷ length params ∷ [] in
    let tail : Octets = type ∷ [] in
    let past : 4 + length params ≡ length head + (length params + 0) = omega arith in
    ap (λ (i : ℕ). get_or (discover_ntf a type params) i 0) past
    ∙ get_or-append-add head (params ++ tail) (length params + 0) 0
    ∙ get_or-append-add params tail 0 0

pub discover_params_law : (a : Activation) (type : ℕ) (params : Octets) → discover_params (discover_ntf a type params) ≡ params
unfolding cut
discover_params_law a type params = take-append_seam params (type ∷ [])

pub discover_back : (m : Octets) → discover_written m ≡ true
    → discover_ntf (discover_target m) (discover_type m) (discover_params m) ≡ m
unfolding discover_written cut
discover_back m h =
    let n = get_or m 3 0 in
    let at =
    every_at (id_ok (get_or m 0 0)) (polls (get_or m 2 0) ∷ leb n 32 ∷ eqb (length m) (5 + n) ∷ leb (get_or m (4 + n) 0) 2 ∷ []) h in
    let long : length m ≡ 5 + n = eqb-true (length m) (5 + n) (at 3) in
    let count : length (take n (drop 4 m)) ≡ n = simp (length-take, length-drop) (omega arith) in
    let none : drop (4 + n + 1) m ≡ [] = drop_of_length-le m {i = 4 + n + 1} (omega arith) in
    let tail : (get_or m (4 + n) 0 ∷ []) ≡ drop n (drop 4 m) =
    (λ i. get_or m (4 + n) 0 ∷ sym none i) ∙ elements_are m 1 (4 + n) (omega arith) ∙ sym (drop-drop n 4 m) in
    (λ i. get_or m 0 0 ∷ get_or m 1 0 ∷ get_or m 2 0 ∷ count i ∷ (take n (drop 4 m) ++ tail i))
    ∙ ap (λ (t : Octets). elements m 0 4 ++ t) (take-append-drop n (drop 4 m))
    ∙ elements_are m 4 0 (omega arith)

-- ---- RF_DEACTIVATE_NTF

pub deactivate_back : (m : Octets) → deactivate_written m ≡ true → deactivate_ntf (get_or m 0 0) (get_or m 1 0) ≡ m
unfolding deactivate_written
deactivate_back m h =
    let at =
    every_at (eqb (length m) 2)
    (((leb (get_or m 0 0) 3 && eqb (get_or m 1 0) 0x00) || (eqb (get_or m 0 0) 1 && eqb (get_or m 1 0) 0x01)
    || (eqb (get_or m 0 0) 3 && leb 1 (get_or m 1 0) && leb (get_or m 1 0) 2))
    ∷ []) h in
    let long : length m ≡ 2 = eqb-true (length m) 2 (at 0) in
    (λ i. get_or m 0 0 ∷ get_or m 1 0 ∷ ended m 2 (at 0) i) ∙ elements_are m 2 0 (omega arith)

-- ---- CORE_CONN_CREDITS_NTF

-- less or the same; less or not
by_less : {P : Type 0} (i n : ℕ) → i < suc n → (i < n → P) → (i ≡ n → P) → P
by_less {P} i n h f g = go (ltb i n) refl
  where
    go : (b : Bool) → ltb i n ≡ b → P
    go true t = f (ltb-true i n t)
    go false t =
        let k : n ≤ i = ltb-false i n t in g (omega arith)

by_case : {P : Type 0} (i n : ℕ) → (i < n → P) → (n ≤ i → P) → P
by_case {P} i n f g = go (ltb i n) refl
  where
    go : (b : Bool) → ltb i n ≡ b → P
    go true t = f (ltb-true i n t)
    go false t = g (ltb-false i n t)

-- Conn IDs ascend with their places, so places ascend with their Conn IDs
conn_zero : conn_of 0 ≡ 0
unfolding conn_of
conn_zero = refl

conn_most : (p q : ℕ) → p ≤ q → q < 5 → conn_of p ≤ conn_of q
conn_most zero q h k = omega (arith, conn_zero)
conn_most (suc p) zero h k = absurd (not-suc-le-zero h)
conn_most (suc p) (suc q) h k = omega (arith, conn_suc p (omega arith), conn_suc q (omega arith))

place_less : (c d : ℕ) → place_of c < 5 → place_of d < 5 → c < d → place_of c < place_of d
place_less c d h k less = go (ltb (place_of c) (place_of d)) refl
  where
    go : (b : Bool) → ltb (place_of c) (place_of d) ≡ b → place_of c < place_of d
    go true t = ltb-true (place_of c) (place_of d) t
    go false t =
        let most = conn_most (place_of d) (place_of c) (ltb-false (place_of c) (place_of d) t) h in
        absurd (omega (arith, most, conn_place c h, conn_place d k, less))

-- each entry is 01's
entry_ok_law : (m : Octets) (n i : ℕ) → entries_ok m n ≡ true → i < n → entry_ok m i ≡ true
unfolding entries_ok
entry_ok_law m zero i h less = absurd (not-suc-le-zero less)
entry_ok_law m (suc n) i h less =
    let at = every_at (entries_ok m n) (entry_ok m n ∷ (eqb n 0 || ltb (entry_id m (n - 1)) (entry_id m n)) ∷ []) h in
    by_less i n less (λ l. entry_ok_law m n i (at 0) l) (λ e. ap (λ (j : ℕ). entry_ok m j) e ∙ at 1)

-- their Conn IDs ascend
ascend : (m : Octets) (n i j : ℕ) → entries_ok m n ≡ true → i < j → j < n → entry_id m i < entry_id m j
unfolding entries_ok
ascend m zero i j h a b = absurd (not-suc-le-zero b)
ascend m (suc zero) i j h a b = absurd (not-suc-le-zero {n = i} (omega arith))
ascend m (suc (suc n)) i j h a b =
    let at =
    every_at (entries_ok m (suc n)) (entry_ok m (suc n) ∷ (eqb (suc n) 0 || ltb (entry_id m (suc n - 1)) (entry_id m (suc n))) ∷ []) h in
    let back : n ≡ suc n - 1 = omega arith in
    let test : ltb (entry_id m n) (entry_id m (suc n)) ≡ true =
    (λ x. sym (eqb-suc-zero n) x || ltb (entry_id m (back x)) (entry_id m (suc n))) ∙ at 2 in
    let next = ltb-true (entry_id m n) (entry_id m (suc n)) test in
    by_less j (suc n) b (λ l. ascend m (suc n) i j (at 0) a l)
    (λ e.
    let last : entry_id m j ≡ entry_id m (suc n) = ap (λ (x : ℕ). entry_id m x) e in
    by_less i n (omega (arith, a, e))
    (λ l. let before = ascend m (suc n) i n (at 0) l (omega arith) in omega (arith, before, next, last))
    (λ f. let same : entry_id m i ≡ entry_id m n = ap (λ (x : ℕ). entry_id m x) f in omega (arith, same, next, last)))

-- no entry for a connection: no credits
none_in : (m : Octets) (n c : ℕ) → ((i : ℕ) → i < n → entry_id m i ≡ c → ⊥) → credits_in m n c ≡ 0
unfolding credits_in
none_in m zero c f = refl
none_in m (suc n) c f =
    let rest : credits_in m n c ≡ 0 = none_in m n c (λ i l. f i (omega arith)) in
    let off : eqb (entry_id m n) c ≡ false = ne_eqb (entry_id m n) c (f n (omega arith)) in
    λ x. rest x + pick (off x) (entry_credits m n) 0

-- one entry for a connection: its credits
one_in : (m : Octets) (n k c : ℕ) → k < n → entry_id m k ≡ c → ((i : ℕ) → i < n → (i ≡ k → ⊥) → entry_id m i ≡ c → ⊥)
    → credits_in m n c ≡ entry_credits m k
unfolding credits_in
one_in m zero k c less e f = absurd (not-suc-le-zero less)
one_in m (suc n) k c less e f =
    by_less k n less
    (λ l.
    let rest : credits_in m n c ≡ entry_credits m k = one_in m n k c l e (λ i s. f i (omega arith)) in
    let off : eqb (entry_id m n) c ≡ false = ne_eqb (entry_id m n) c (f n (omega arith) (λ q. omega (arith, l, q))) in
    let none : entry_credits m k + 0 ≡ entry_credits m k = omega arith in
    (λ x. rest x + pick (off x) (entry_credits m n) 0) ∙ none)
    (λ q.
    let rest : credits_in m n c ≡ 0 = none_in m n c (λ i s. f i (omega arith) (λ z. omega (arith, s, q, z))) in
    let id : entry_id m n ≡ c = ap (λ (x : ℕ). entry_id m x) (sym q) ∙ e in
    let none : 0 + entry_credits m n ≡ entry_credits m n = omega arith in
    (λ x. rest x + pick (eq-eqb (entry_id m n) c id x) (entry_credits m n) 0) ∙ none ∙ ap (λ (x : ℕ). entry_credits m x) (sym q))

-- k entries stand in m before those for l, which are of the places from p on, and no others stand there
record Told (m : Octets) (p k : ℕ) (l : List ℕ) : Type 0 where
  count : entry_count l + k ≡ get_or m 0 0
  octets : entries_from p l ≡ drop (1 + 2 * k) m

told_none : (m : Octets) (p k n : ℕ) (l : List ℕ) → n ≡ 0 → Told m (suc p) k l → Told m p k (n ∷ l)
unfolding entries_from entry_count
told_none m p k n l e h =
    let none : 0 + entry_count l + k ≡ entry_count l + k = omega arith in
    record {
      count = (λ x. pick (eq-eqb n 0 e x) 0 1 + entry_count l + k) ∙ none ∙ h.count;
      octets = (λ x. pick (eq-eqb n 0 e x) [] (conn_of p ∷ n ∷ []) ++ entries_from (suc p) l) ∙ h.octets;
    }

told_some : (m : Octets) (p k n : ℕ) (l : List ℕ) → n ≡ entry_credits m k → 1 ≤ n → conn_of p ≡ entry_id m k → 3 + 2 * k ≤ length m
    → Told m (suc p) (suc k) l → Told m p k (n ∷ l)
unfolding entries_from entry_count
told_some m p k n l e some id room h =
    let off : eqb n 0 ≡ false = ne_eqb n 0 (λ z. omega (arith, some, z)) in
    let one : 1 + entry_count l + k ≡ entry_count l + suc k = omega arith in
    let place : 1 + 2 * suc k ≡ suc (2 + 2 * k) = omega arith in
    let here : suc (1 + 2 * k) ≡ 2 + 2 * k = omega arith in
    let first : drop (1 + 2 * k) m ≡ entry_id m k ∷ drop (suc (1 + 2 * k)) m = drop-cons m (1 + 2 * k) 0 (omega arith) in
    let second : drop (2 + 2 * k) m ≡ entry_credits m k ∷ drop (suc (2 + 2 * k)) m = drop-cons m (2 + 2 * k) 0 (omega arith) in
    record {
      count = (λ x. pick (off x) 0 1 + entry_count l + k) ∙ one ∙ h.count;
      octets =
          (λ x. pick (off x) [] (conn_of p ∷ n ∷ []) ++ entries_from (suc p) l)
          ∙ (λ x. id x ∷ e x ∷ h.octets x)
          ∙ (λ x. entry_id m k ∷ entry_credits m k ∷ drop (place x) m)
          ∙ (λ x. entry_id m k ∷ sym second x)
          ∙ (λ x. entry_id m k ∷ drop (sym here x) m)
          ∙ sym first;
    }

-- the credits of the r connections from place p on
abbrev credits_from : Octets → ℕ → ℕ → List ℕ
credits_from m p zero = []
credits_from m p (suc r) = credits_for m (conn_of p) ∷ credits_from m (suc p) r

module _ (m : Octets) (ok : entries_ok m (get_or m 0 0) ≡ true) (long : length m ≡ 1 + 2 * get_or m 0 0) where
  entry : (i : ℕ) → i < get_or m 0 0 → (place_of (entry_id m i) < 5) × (1 ≤ entry_credits m i)
  entry i h =
      let at =
      every_at (ltb (place_of (entry_id m i)) 5) (leb 1 (entry_credits m i) ∷ leb (entry_credits m i) 8 ∷ []) (entry_ok_law m (get_or m 0 0) i ok h) in
      (ltb-true (place_of (entry_id m i)) 5 (at 0), leb-true 1 (entry_credits m i) (at 1))

  -- another place is another Conn ID
  apart : (p i : ℕ) → p < 5 → (place_of (entry_id m i) ≡ p → ⊥) → entry_id m i ≡ conn_of p → ⊥
  apart p i h f e = f (ap place_of e ∙ place_conn p h)

  -- the first k entries are for places below p, the others for places from p on
  told : (r p k : ℕ) → p + r ≡ 5 → k ≤ get_or m 0 0 → ((i : ℕ) → i < k → place_of (entry_id m i) < p)
      → ((i : ℕ) → k ≤ i → i < get_or m 0 0 → p ≤ place_of (entry_id m i)) → Told m p k (credits_from m p r)
  unfolding entries_from entry_count
  told zero p k five most below above =
      by_less k (get_or m 0 0) (omega arith)
      (λ l. let low = above k (omega arith) l in absurd (omega (arith, low, (entry k l).0, five)))
      (λ e.
      let none : drop (1 + 2 * k) m ≡ [] = drop_of_length-le m {i = 1 + 2 * k} (omega (arith, long, e)) in
      record { count = omega (arith, e); octets = sym none })
  told (suc r) p k five most below above =
      let past : ((i : ℕ) → k ≤ i → i < get_or m 0 0 → suc p ≤ place_of (entry_id m i)) → Told m p k (credits_from m p (suc r)) =
      λ more.
      told_none m p k (credits_for m (conn_of p)) (credits_from m (suc p) r)
      (none_in m (get_or m 0 0) (conn_of p)
      (λ i s.
      apart p i (omega arith)
      (λ z.
      by_less i (get_or m 0 0) (omega (arith, s))
      (λ t.
      by_case i k (λ u. let b = below i u in omega (arith, b, z)) (λ u. let b = more i u t in omega (arith, b, z)))
      (λ t. omega (arith, s, t)))))
      (told r (suc p) k (omega arith) most (λ i s. let b = below i s in omega (arith, b)) more) in
      by_less k (get_or m 0 0) (omega arith)
      (λ l.
      let low = above k (omega arith) l in
      by_less p (place_of (entry_id m k)) (omega (arith, low))
      (λ less. past (λ i s t. higher k i l s t (omega (arith, less))))
      (λ same.
      let id : conn_of p ≡ entry_id m k = ap conn_of same ∙ conn_place (entry_id m k) (entry k l).0 in
      let credits : credits_for m (conn_of p) ≡ entry_credits m k =
      one_in m (get_or m 0 0) k (conn_of p) l (sym id)
      (λ i s z.
      apart p i (omega arith)
      (λ w.
      by_case i k (λ u. let b = below i u in omega (arith, b, w))
      (λ u. by_less k i (omega (arith, u)) (λ v. let b = rising k i v s in omega (arith, b, w, same)) (λ v. z (sym v))))) in
      told_some m p k (credits_for m (conn_of p)) (credits_from m (suc p) r) credits (omega (arith, credits, (entry k l).1)) id
      (omega (arith, long, l))
      (told r (suc p) (suc k) (omega arith) (omega (arith, l))
      (λ i s.
      by_less i k s (λ u. let b = below i u in omega (arith, b))
      (λ u. let b : place_of (entry_id m i) ≡ place_of (entry_id m k) = ap (λ (x : ℕ). place_of (entry_id m x)) u in omega (arith, b, same)))
      (λ i s t. let b = rising k i (omega (arith, s)) t in omega (arith, b, same)))))
      (λ e. past (λ i s t. absurd (omega (arith, s, t, e))))
    where
      rising : (i j : ℕ) → i < j → j < get_or m 0 0 → place_of (entry_id m i) < place_of (entry_id m j)
      rising i j a b =
          place_less (entry_id m i) (entry_id m j) (entry i (omega arith)).0 (entry j b).0 (ascend m (get_or m 0 0) i j ok a b)

      higher : (i j : ℕ) → i < get_or m 0 0 → i ≤ j → j < get_or m 0 0 → suc p ≤ place_of (entry_id m i) → suc p ≤ place_of (entry_id m j)
      higher i j a b c h =
          by_less i j (omega arith) (λ l. let up = rising i j l c in omega (arith, up, h))
          (λ e. let same : place_of (entry_id m i) ≡ place_of (entry_id m j) = ap (λ (x : ℕ). place_of (entry_id m x)) e in omega (arith, same, h))

pub credits_back : (m : Octets) → credits_written m ≡ true → credits_ntf (map (credits_for m) (0 ∷ 2 ∷ 3 ∷ 4 ∷ 5 ∷ [])) ≡ m
unfolding credits_written conn_of
credits_back m h =
    let n = get_or m 0 0 in
    let at = every_at (leb 1 n) (leb n 5 ∷ eqb (length m) (1 + 2 * n) ∷ entries_ok m n ∷ []) h in
    let long : length m ≡ 1 + 2 * n = eqb-true (length m) (1 + 2 * n) (at 2) in
    let all : Told m 0 0 (credits_from m 0 5) =
    told m (at 3) long 5 0 0 refl (omega arith) (λ i s. absurd (not-suc-le-zero s)) (λ i s t. omega arith) in
    let none : entry_count (credits_from m 0 5) ≡ n = omega (arith, all.count) in
    (λ x. none x ∷ all.octets x) ∙ elements_are m 1 0 (omega (arith, long))

-- ---- all of them

pub backwards : Backwards
backwards =
    record {
      init_back = init_back;
      set_back = set_back;
      get_back = get_back;
      reset_back = reset_back;
      error_back = error_back;
      discover_target_law = discover_target_law;
      discover_type_law = discover_type_law;
      discover_params_law = discover_params_law;
      discover_back = discover_back;
      deactivate_back = deactivate_back;
      credits_back = credits_back;
    }
