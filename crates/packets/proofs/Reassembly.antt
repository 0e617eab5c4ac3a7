-- The laws of `specs/Reassembly.antt`: what becomes of segments on their way, for every limit, payload size and message.
-- Assumes nothing.
use Prim.Native.Nat.{ℕ, zero, suc, ◌+◌, ◌≤◌, ◌<◌}
use native.Mathlib.Decide.{dec_le}
use native.Mathlib.Omega.{arith}
use mathlib.Core.Path.{◌≡◌, refl, sym, ap, ◌∙◌}
use mathlib.Core.List.{List, [], ◌∷◌, ◌++◌, append_assoc, append-nil}
use mathlib.Core.Bool.{Bool, true, false}
use lib.ListN.{length, take, drop, length-append, length-take, length-drop}
use lib.Dec.{ltb}
use borrow.Author.Tests.{le-ltb, lt-ltb, ltb-true}
use Rattle.octets.specs.Octets.{Octets, pick}
use Rattle.packets.specs.Segments.{Segment, more, last, segments_within, segments, parse, left}
use Rattle.packets.specs.Reassembly.{Run, run, lost, grown, finished, grown_by, finished_by, flagged_by, past, Fit, Flow, Prefix, Reassembled}
use Rattle.packets.proofs.Segments.{parse_append, left_append, parse_segments, left_segments}

-- ---- Fit

fit_append : (limit : ℕ) (a b : List Octets) → Fit limit a → Fit limit b → Fit limit (a ++ b)
unfolding Fit
fit_append limit [] b p q = q
fit_append limit (m ∷ a) b p q = (p.0, fit_append limit a b p.1 q)

-- what is in reassembly is a part of a message that fits
pub run_fits : (limit : ℕ) (r : Octets) (ss : List Segment) → left r ss ≡ [] → Fit limit (parse r ss) → length r ≤ limit
unfolding Fit left parse
run_fits limit r [] e f = rw e (omega arith)
run_fits limit r (more b ∷ ss) e f = omega (arith, run_fits limit (r ++ b) ss e f, length-append r b)
run_fits limit r (last b ∷ ss) e f = omega (arith, f.0, length-append r b)

pub within : (limit : ℕ) (r b : Octets) → length (r ++ b) ≤ limit → ltb limit (length r + length b) ≡ false
within limit r b h = le-ltb limit (length r + length b) (rw length-append at h)

-- ---- Flow

pub flow_start : (limit : ℕ) → Flow limit (run []) [] [] []
unfolding Fit left parse
flow_start limit = record { so_far = []; kept = refl; rest = refl; whole = refl; fits = tt }

module _ {limit : ℕ} {q : Run} {ss : List Segment} {t o : List Octets} where
  -- segments that change their place, and not their order
  pub flow_same : {ss' : List Segment} → ss ≡ ss' → Flow limit q ss t o → Flow limit q ss' t o
  flow_same e f = rw e at f

  -- a message is taken, and its segments join the others
  pub flow_send : (size : ℕ) (m : Octets) → length m ≤ limit → Flow limit q ss t o → Flow limit q (ss ++ segments size m) (t ++ (m ∷ [])) o
  unfolding Fit
  flow_send size m h f =
      record {
        so_far = f.so_far;
        kept = f.kept;
        rest = rw (parse_append, f.whole, parse_segments size [] m, ← append_assoc, ← f.rest) refl;
        whole = rw (left_append, left_segments) refl;
        fits = rw (parse_append, f.whole, parse_segments size [] m) (fit_append limit (parse f.so_far ss) (m ∷ []) f.fits (h, tt));
      }

  -- what was handed out is the first of what was taken
  pub flow_prefix : Flow limit q ss t o → Prefix o t
  flow_prefix f = record { others = parse f.so_far ss; split = f.rest }

-- a segment is read into reassembly
pub flow_read : {limit : ℕ} {q : Run} (s : Segment) {ss : List Segment} {t o : List Octets}
    → Flow limit q (s ∷ ss) t o → Flow limit (grown limit q s) ss t (o ++ finished limit q s)
unfolding Fit left parse
flow_read {limit} (more b) {ss} f =
    rw (f.kept, within limit f.so_far b (run_fits limit (f.so_far ++ b) ss f.whole f.fits), append-nil)
    record { so_far = f.so_far ++ b; kept = refl; rest = f.rest; whole = f.whole; fits = f.fits }
flow_read {limit} (last b) f =
    rw (f.kept, within limit f.so_far b f.fits.0)
    record { so_far = []; kept = refl; rest = rw append_assoc f.rest; whole = f.whole; fits = f.fits.1 }

-- all segments under way are read
pub flow_all : {limit : ℕ} {q : Run} (ss : List Segment) {t o : List Octets}
    → Flow limit q ss t o → Flow limit (grown_by limit q ss) [] t (o ++ finished_by limit q ss)
unfolding grown_by finished_by
flow_all [] {t} {o} f = rw (append-nil o) f
flow_all {limit} {q} (s ∷ ss) {t} {o} f = rw (← append_assoc o (finished limit q s)) (flow_all {q = grown limit q s} ss (flow_read s f))

-- ---- what reassembly makes of the segments of a message

-- a run that is lost stays lost up to its last segment
lost_segments : (limit f size : ℕ) (m : Octets)
    → (finished_by limit lost (segments_within f size m) ≡ []) × (grown_by limit lost (segments_within f size m) ≡ run [])
unfolding segments_within grown_by finished_by
lost_segments limit zero size m = (refl, refl)
lost_segments limit (suc f) size m =
    elim (ltb size (length m))
    as (λ b.
    let ss = pick b (more (take size m) ∷ segments_within f size (drop size m)) (last m ∷ []) in
    (finished_by limit lost ss ≡ []) × (grown_by limit lost ss ≡ run []))
    [ true ↦ lost_segments limit f size (drop size m) | false ↦ (refl, refl) ]

-- a message past the limit, after the octets r
long_segments : (limit f size : ℕ) (r m : Octets) → limit < length r + length m
    → (finished_by limit (run r) (segments_within f size m) ≡ []) × (grown_by limit (run r) (segments_within f size m) ≡ run [])
unfolding segments_within grown_by finished_by
long_segments limit zero size r m h = rw (lt-ltb limit (length r + length m) h) (refl, refl)
long_segments limit (suc f) size r m h =
    elim (ltb size (length m))
    as (λ b.
    let ss = pick b (more (take size m) ∷ segments_within f size (drop size m)) (last m ∷ []) in
    (finished_by limit (run r) ss ≡ []) × (grown_by limit (run r) ss ≡ run [])) [
      | true ↦
          elim (ltb limit (length r + length (take size m)))
          as (λ b.
          let q = pick b lost (run (r ++ take size m)) in
          (finished_by limit q (segments_within f size (drop size m)) ≡ []) × (grown_by limit q (segments_within f size (drop size m)) ≡ run [])) [
            | true ↦ lost_segments limit f size (drop size m)
            | false ↦ long_segments limit f size (r ++ take size m) (drop size m) (rw (length-append, length-take, length-drop) (omega arith))
          ]
      | false ↦ rw (lt-ltb limit (length r + length m) h) (refl, refl)
    ]

-- the flags of a run that is lost
lost_flags : (limit f size n : ℕ) (m : Octets) → limit < n
    → flagged_by limit lost (segments_within f size m) ≡ past limit n (segments_within f size m)
unfolding segments_within flagged_by past
lost_flags limit zero size n m h = rw (lt-ltb limit (n + length m) (omega arith))
lost_flags limit (suc f) size n m h =
    elim (ltb size (length m))
    as (λ b.
    let ss = pick b (more (take size m) ∷ segments_within f size (drop size m)) (last m ∷ []) in
    flagged_by limit lost ss ≡ past limit n ss) [
      | true ↦
          rw (lt-ltb limit (n + length (take size m)) (omega arith))
          (ap (λ (l : List Bool). true ∷ l) (lost_flags limit f size (n + length (take size m)) (drop size m) (omega arith)))
      | false ↦ rw (lt-ltb limit (n + length m) (omega arith))
    ]

run_flags : (limit f size : ℕ) (r m : Octets)
    → flagged_by limit (run r) (segments_within f size m) ≡ past limit (length r) (segments_within f size m)
unfolding segments_within flagged_by past
run_flags limit zero size r m = refl
run_flags limit (suc f) size r m =
    elim (ltb size (length m))
    as (λ b.
    let ss = pick b (more (take size m) ∷ segments_within f size (drop size m)) (last m ∷ []) in
    flagged_by limit (run r) ss ≡ past limit (length r) ss) [
      | true ↦ ap (λ (l : List Bool). ltb limit (length r + length (take size m)) ∷ l) (go (ltb limit (length r + length (take size m))) refl (run_flags limit f size (r ++ take size m) (drop size m)))
      | false ↦ refl
    ]
  where
    go : (b : Bool) → ltb limit (length r + length (take size m)) ≡ b
        → flagged_by limit (run (r ++ take size m)) (segments_within f size (drop size m)) ≡ past limit (length (r ++ take size m)) (segments_within f size (drop size m))
        → flagged_by limit (pick b lost (run (r ++ take size m))) (segments_within f size (drop size m))
        ≡ past limit (length r + length (take size m)) (segments_within f size (drop size m))
    go true e rest = lost_flags limit f size (length r + length (take size m)) (drop size m) (ltb-true _ _ e)
    go false e rest = rest ∙ ap (λ (n : ℕ). past limit n (segments_within f size (drop size m))) (length-append r (take size m))

module _ (limit size : ℕ) (m : Octets) where
  whole_message : length m ≤ limit
      → Flow limit (grown_by limit (run []) (segments size m)) [] (m ∷ []) (finished_by limit (run []) (segments size m))
  whole_message h = flow_all (segments size m) (flow_send size m h (flow_start limit))

  pub reassembled : Reassembled limit (segments size m) m
  unfolding segments parse left
  reassembled =
      record {
        handed = (λ h. let f = whole_message h in sym (f.rest ∙ append-nil _));
        dropped = (λ h. (long_segments limit (length m) size [] m (omega arith)).0);
        flags = run_flags limit (length m) size [] m;
        anew = go (dec_le (length m) limit);
      }
    where
      go : Dec (length m ≤ limit) → grown_by limit (run []) (segments size m) ≡ run []
      go (yes h) = let f = whole_message h in f.kept ∙ ap run f.whole
      go (no h) = (long_segments limit (length m) size [] m (omega arith)).1
