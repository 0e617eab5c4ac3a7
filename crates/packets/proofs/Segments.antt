-- The laws of `specs/Segments.antt`, in the order of its definitions, for every payload size and every message.
-- Assumes nothing.
use Prim.Native.Nat.{ℕ, zero, suc, ◌+◌, ◌*◌, ◌-◌, ◌/◌, ◌<◌, ◌≤◌, max}
use native.Mathlib.Nat.{not-suc-le-zero, le_of_suc-le-suc, suc-mul, zero-mul, div-lt_iff_lt-mul, le-div_iff_mul-le, add-div_right}
use native.Mathlib.Decide.{dec_le}
use native.Mathlib.Omega.{arith}
use mathlib.Core.Path.{◌≡◌, refl, sym, ap, ◌∙◌}
use mathlib.Core.List.{List, [], ◌∷◌, ◌++◌, append_assoc}
use mathlib.Core.Bool.{Bool, true, false}
use lib.ListN.{length, take, drop, length-drop, length-take, take-append-drop}
use lib.Seq.{take_all, drop-drop}
use lib.Dec.{ltb}
use borrow.Author.Tests.{lt-ltb, le-ltb}
use Rattle.octets.specs.Octets.{Octets, pick, cut}
use Rattle.packets.specs.Segments.{Segment, more, last, segment, body, flag, segments_within, segments, segment_at, parse, left, nth, SegmentFacts}

-- ---- segment, body, flag

pub flag_segment : (b : Bool) (o : Octets) → flag (segment b o) ≡ b
flag_segment true o = refl
flag_segment false o = refl

pub body_segment : (b : Bool) (o : Octets) → body (segment b o) ≡ o
body_segment true o = refl
body_segment false o = refl

-- ---- parse, left

pub parse_append : (r : Octets) (a b : List Segment) → parse r (a ++ b) ≡ parse r a ++ parse (left r a) b
unfolding parse left
parse_append r [] b = refl
parse_append r (more x ∷ a) b = parse_append (r ++ x) a b
parse_append r (last x ∷ a) b = ap (λ (l : List Octets). (r ++ x) ∷ l) (parse_append [] a b)

pub left_append : (r : Octets) (a b : List Segment) → left r (a ++ b) ≡ left (left r a) b
unfolding left
left_append r [] b = refl
left_append r (more x ∷ a) b = left_append (r ++ x) a b
left_append r (last x ∷ a) b = left_append [] a b

-- ---- segments_within, at every size, 0 too

parse_within : (f size : ℕ) (r m : Octets) → parse r (segments_within f size m) ≡ (r ++ m) ∷ []
unfolding parse segments_within
parse_within zero size r m = refl
parse_within (suc f) size r m =
    elim (ltb size (length m)) as (λ b. parse r (pick b (more (take size m) ∷ segments_within f size (drop size m)) (last m ∷ [])) ≡ (r ++ m) ∷ [])
    [ true ↦ rw (parse_within f size (r ++ take size m) (drop size m), append_assoc, take-append-drop) | false ↦ refl ]

left_within : (f size : ℕ) (r m : Octets) → left r (segments_within f size m) ≡ []
unfolding left segments_within
left_within zero size r m = refl
left_within (suc f) size r m =
    elim (ltb size (length m)) as (λ b. left r (pick b (more (take size m) ∷ segments_within f size (drop size m)) (last m ∷ [])) ≡ [])
    [ true ↦ left_within f size (r ++ take size m) (drop size m) | false ↦ refl ]

within_one : (f size : ℕ) (m : Octets) → length m ≤ size → segments_within f size m ≡ last m ∷ []
unfolding segments_within
within_one zero size m h = refl
within_one (suc f) size m h = rw (le-ltb size (length m) h, segments_within)

within_more : (f size : ℕ) (m : Octets) → size < length m
    → segments_within (suc f) size m ≡ more (take size m) ∷ segments_within f size (drop size m)
unfolding segments_within
within_more f size m h = rw (lt-ltb size (length m) h, segments_within)

-- ---- segments

-- joined after whatever came before, the segments of a message end it and leave nothing
pub parse_segments : (size : ℕ) (r m : Octets) → parse r (segments size m) ≡ (r ++ m) ∷ []
unfolding segments
parse_segments size r m = parse_within (length m) size r m

pub left_segments : (size : ℕ) (r m : Octets) → left r (segments size m) ≡ []
unfolding segments
left_segments size r m = left_within (length m) size r m

pub segments_one : (size : ℕ) (m : Octets) → length m ≤ size → segments size m ≡ last m ∷ []
unfolding segments
segments_one size m h = within_one (length m) size m h

module _ (size : ℕ) (pos : 1 ≤ size) where
  by_length : (P : Octets → Type 0) → ((m : Octets) → length m ≤ size → P m) → ((m : Octets) → size < length m → P (drop size m) → P m)
      → (f : ℕ) (m : Octets) → length m ≤ f → P m
  by_length P one step zero m h = one m (omega arith)
  by_length P one step (suc f) m h = go (dec_le (length m) size) (by_length P one step f (drop size m))
    where
      go : Dec (length m ≤ size) → (length (drop size m) ≤ f → P (drop size m)) → P m
      go (yes e) rest = one m e
      go (no e) rest = step m (omega arith) (rest (simp length-drop (omega arith)))

  -- how a fact is shown of every message: of one that fits a segment, and of one from what is left after its first segment
  pub segments_ind : (P : Octets → Type 0) → ((m : Octets) → length m ≤ size → P m) → ((m : Octets) → size < length m → P (drop size m) → P m)
      → (m : Octets) → P m
  segments_ind P one step m = by_length P one step (length m) m (omega arith)

  -- enough steps are enough
  within_enough : (f g : ℕ) (m : Octets) → length m ≤ f → length m ≤ g → segments_within f size m ≡ segments_within g size m
  within_enough f zero m hf hg = within_one f size m (omega arith) ∙ sym (within_one zero size m (omega arith))
  within_enough zero (suc g) m hf hg = within_one zero size m (omega arith) ∙ sym (within_one (suc g) size m (omega arith))
  within_enough (suc f) (suc g) m hf hg = go (dec_le (length m) size) (within_enough f g (drop size m))
    where
      go : Dec (length m ≤ size)
          → (length (drop size m) ≤ f → length (drop size m) ≤ g → segments_within f size (drop size m) ≡ segments_within g size (drop size m))
          → segments_within (suc f) size m ≡ segments_within (suc g) size m
      go (yes e) rest = within_one (suc f) size m e ∙ sym (within_one (suc g) size m e)
      go (no e) rest =
          within_more f size m (omega arith)
          ∙ ap (λ (l : List Segment). more (take size m) ∷ l) (rest (simp length-drop (omega arith)) (simp length-drop (omega arith)))
          ∙ sym (within_more g size m (omega arith))

  pub segments_more : (m : Octets) → size < length m → segments size m ≡ more (take size m) ∷ segments size (drop size m)
  unfolding segments
  segments_more m h = go (length m) refl
    where
      go : (n : ℕ) → length m ≡ n → segments_within n size m ≡ more (take size m) ∷ segments_within (length (drop size m)) size (drop size m)
      go zero e = absurd (omega arith)
      go (suc n) e =
          within_more n size m h
          ∙ ap (λ (l : List Segment). more (take size m) ∷ l)
          (within_enough n (length (drop size m)) (drop size m) (simp length-drop (omega arith)) (omega arith))

  -- one segment at a time: what is left of a message from an offset is the segment there, and what is left after it
  pub segments_step : (m : Octets) (at : ℕ)
      → segments size (drop at m) ≡ segment_at size m at ∷ pick (ltb (at + size) (length m)) (segments size (drop (at + size) m)) []
  unfolding cut
  segments_step m at = go (dec_le (length m) (at + size))
    where
      go : Dec (length m ≤ at + size)
          → segments size (drop at m) ≡ segment_at size m at ∷ pick (ltb (at + size) (length m)) (segments size (drop (at + size) m)) []
      go (yes e) =
          rw (le-ltb (at + size) (length m) e)
          (segments_one size (drop at m) (simp length-drop (omega arith))
          ∙ ap (λ (l : Octets). last l ∷ []) (sym (take_all size (drop at m) (simp length-drop (omega arith)))))
      go (no e) =
          rw (lt-ltb (at + size) (length m) (omega arith))
          (segments_more (drop at m) (simp length-drop (omega arith))
          ∙ ap (λ (l : Octets). more (take size (drop at m)) ∷ segments size l) (drop-drop size at m))

  -- ---- the facts of `SegmentFacts`

  from_offset : (m : Octets) (k at : ℕ) → k < length (segments size (drop at m)) → nth (segments size (drop at m)) k ≡ segment_at size m (at + k * size)
  from_offset m zero at h = rw (segments_step m at) (ap (segment_at size m) (simp zero-mul (omega arith)))
  from_offset m (suc k) at h =
      rw (segments_step m at)
      (go (dec_le (length m) (at + size)) (rw (segments_step m at) at h) (from_offset m k (at + size)))
    where
      go : Dec (length m ≤ at + size)
          → suc k < length (segment_at size m at ∷ pick (ltb (at + size) (length m)) (segments size (drop (at + size) m)) [])
          → (k < length (segments size (drop (at + size) m)) → nth (segments size (drop (at + size) m)) k ≡ segment_at size m (at + size + k * size))
          → nth (pick (ltb (at + size) (length m)) (segments size (drop (at + size) m)) []) k ≡ segment_at size m (at + suc k * size)
      go (yes e) h ih = absurd (not-suc-le-zero (le_of_suc-le-suc (rw (le-ltb (at + size) (length m) e) at h)))
      go (no e) h ih =
          let t = lt-ltb (at + size) (length m) (omega arith) in
          rw t (ih (le_of_suc-le-suc (rw t at h)) ∙ ap (segment_at size m) (simp suc-mul (omega arith)))

  pub segments_each : (m : Octets) (k : ℕ) → k < length (segments size m) → nth (segments size m) k ≡ segment_at size m (k * size)
  segments_each m k h = from_offset m k 0 h ∙ ap (segment_at size m) (omega arith)

  pub segments_count : (m : Octets) → length (segments size m) ≡ max 1 ((length m + (size - 1)) / size)
  segments_count =
      segments_ind (λ m. length (segments size m) ≡ max 1 ((length m + (size - 1)) / size))
      (λ m h.
      rw (segments_one size m h)
      (let q : (length m + (size - 1)) / size < 2 = (div-lt_iff_lt-mul pos).1 (omega arith) in
      omega arith))
      (λ m h ih.
      let y = length m - size + (size - 1) in
      let low : 1 ≤ y / size = (le-div_iff_mul-le pos).1 (omega arith) in
      let sum : length m + (size - 1) ≡ y + size = omega arith in
      let one : (y + size) / size ≡ y / size + 1 = add-div_right y pos in
      rw (segments_more m h, sum, one)
      (let eq : length (segments size (drop size m)) ≡ max 1 (y / size) = rw length-drop at ih in
      omega arith))

  pub segments_fulls : (m : Octets) (k : ℕ) → suc k < length (segments size m)
      → (length (body (nth (segments size m) k)) ≡ size) × (flag (nth (segments size m) k) ≡ true)
  unfolding cut
  segments_fulls m k h =
      let n = segments_count m in
      let many : suc (suc k) ≤ (length m + (size - 1)) / size = omega arith in
      let room : suc (suc k) * size ≤ length m + (size - 1) = (le-div_iff_mul-le pos).0 many in
      let inside : k * size + size < length m = omega (arith, simp suc-mul at room) in
      rw (segments_each m k (omega arith), lt-ltb (k * size + size) (length m) inside) (simp (length-take, length-drop) (omega arith), refl)

  pub segments_final : (m : Octets) (k : ℕ) → suc k ≡ length (segments size m)
      → (flag (nth (segments size m) k) ≡ false) × (0 < k → 0 < length (body (nth (segments size m) k)))
  unfolding cut
  segments_final m k h =
      let n = segments_count m in
      let few : (length m + (size - 1)) / size < suc (suc k) = omega arith in
      let past : length m + (size - 1) < suc (suc k) * size = (div-lt_iff_lt-mul pos).0 few in
      let ends : length m ≤ k * size + size = omega (arith, simp suc-mul at past) in
      rw (segments_each m k (omega arith), le-ltb (k * size + size) (length m) ends) (
        refl,
        (λ (some : 0 < k).
            let many : suc k ≤ (length m + (size - 1)) / size = omega arith in
            let room : suc k * size ≤ length m + (size - 1) = (le-div_iff_mul-le pos).0 many in
            simp (length-take, length-drop) (omega (arith, simp suc-mul at room))),
      )

  pub segments_exact : (m : Octets) (k : ℕ) → length m ≡ suc k * size → length (segments size m) ≡ suc k
  segments_exact m k e =
      let low : suc k ≤ (length m + (size - 1)) / size = (le-div_iff_mul-le pos).1 (omega arith) in
      let high : (length m + (size - 1)) / size < suc (suc k) = (div-lt_iff_lt-mul pos).1 (simp suc-mul (omega (arith, simp suc-mul at e))) in
      omega (arith, segments_count m)

  pub segment_facts : (m : Octets) → SegmentFacts size m
  segment_facts m =
      record {
        whole = parse_segments size [] m;
        complete = left_segments size [] m;
        count = segments_count m;
        each = segments_each m;
        fulls = segments_fulls m;
        final = segments_final m;
        exact = segments_exact m;
      }
