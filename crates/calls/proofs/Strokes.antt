-- Lists of keys in which Run to rest is pressed too: the keys leave what the calls leave that they stand for, so what holds of every list of calls from a fresh bench
-- holds of every list of keys.
-- Assumes nothing.
use Prim.Native.Nat.{ℕ, zero, suc}
use mathlib.Core.Path.{◌≡◌, refl, sym, ap, ◌∙◌, subst}
use mathlib.Core.List.{List, [], ◌∷◌, ◌++◌, map}
use Rattle.octets.specs.Octets.{Octets}
use Rattle.octets.specs.Octal.{Octal}
use Rattle.state.proofs.Chains.{on}
use Rattle.views.specs.View.{view_of}
use Rattle.model.specs.Effects.{Call, taken}
use Rattle.model.specs.Reachable.{LoopbacksPaid}
use Rattle.model.specs.Discards as discards
use Rattle.model.specs.Config as config
use Rattle.model.specs.Observer.{Account, opening, observed}
use Rattle.model.specs.Press.{Move, rests, plays}
use Rattle.model.proofs.Falling.{IsMove}
use Rattle.model.proofs.Press.{Every, is_move}
use Rattle.calls.specs.Word.{answer_in, handed_in, rfu_in}
use Rattle.calls.specs.Outcome.{Outcome}
use Rattle.calls.specs.Seen.{Puts, no_puts}
use Rattle.calls.specs.calls.Fresh.{fresh_call}
use Rattle.calls.specs.Demand.{Key, perform, pressed, slice, AllOctal, area_after, puts_in, seen_in, EveryRun, OctetClaim}
use Rattle.calls.specs.Reached.{Reached, Displayed}
use Rattle.calls.specs.Checked.{pressed_checked, outcomes}
use Rattle.calls.specs.Profiles.{Own}
use Rattle.calls.specs.Discards.{OctetDiscardClaim}
use Rattle.calls.specs.Config.{OctetConfigClaim}
use Rattle.calls.specs.Run.{move_on, moves_by, moves_within, moves_most, moves_on, Ran, unmoved, moved, all_moved, run_call}
use Rattle.calls.specs.Strokes.{Stroke, calls, runs, struck, keys_of, stands_for, AllOctalIn, area_through, keys_in, EveryList, EveryStroke, StrokesToo}
use Rattle.calls.proofs.Demand.{octet_demand}
use Rattle.calls.proofs.Reached.{always_reached}
use Rattle.calls.proofs.EveryRun.{always_paid}
use Rattle.calls.proofs.Displayed.{always_displayed}
use Rattle.calls.proofs.Profiles.{always_own}
use Rattle.calls.proofs.Reserved.{always_clear}
use Rattle.calls.proofs.Discards.{always_discards}
use Rattle.calls.proofs.Config.{always_configs}
use Rattle.calls.proofs.Checked.{same_as_checked}
use Rattle.calls.proofs.Moves.{octal_of}
use Rattle.calls.proofs.Run.{move_shut, Entry, open_to, shut_for, entry, run_shut, run_entered, none_moved, moves_model}

-- ---- a press and its moves

-- what they leave, one after the other
moved_area : (cs : List Call) (r : Ran) → (all_moved cs r).last.area ≡ area_after (keys_of cs r.last.area r.last.out) r.last.area
unfolding all_moved keys_of area_after
moved_area [] r = refl
moved_area (c ∷ cs) r = moved_area cs (moved c r)

-- of any area, with any buffer
press_area : (a out : Octets) → (run_call a out).area ≡ area_after (stands_for (runs out) a) a
unfolding keys_of area_after
press_area a out = go (entry a out)
  where
    go : Entry a out → (run_call a out).area ≡ area_after (keys_of (moves_on a out) a out) a
    go (open_to s) = ap (λ (o : Outcome). o.area) (sym (run_entered a out s)) ∙ moved_area (moves_on a out) (unmoved a out)
    go (shut_for n e ne) =
        ap (λ (o : Outcome). o.area) (sym (run_shut a out n e ne))
        ∙ sym (ap (λ (cs : List Call). area_after (keys_of cs a out) a) (none_moved a out (move_shut a out n e ne)))

-- they are given no slices
keys_octal : (cs : List Call) (a out : Octets) → Every IsMove cs → AllOctal (keys_of cs a out)
unfolding keys_of
keys_octal [] a out v = tt
keys_octal (c ∷ cs) a out v = (octal_of c v.0, keys_octal cs (perform c a out).area (perform c a out).out v.1)

within_moves : (n : ℕ) (a out : Octets) → Every IsMove (moves_within n a out)
unfolding moves_within
within_moves zero a out = tt
within_moves (suc n) a out = go (within_moves n) (move_on a out) refl
  where
    go : ((b o : Octets) → Every IsMove (moves_within n b o)) → (m : Move) → move_on a out ≡ m → Every IsMove (moves_by (moves_within n) m a out)
    go ih rests e = tt
    go ih (plays c) e = (
      (is_move c (view_of a) (moves_model a out c e)).0,
      on (Every IsMove) (handed_in (perform c a out).word) (λ _. tt) (λ _. ih (perform c a out).area (perform c a out).out),
    )

press_octal : (a out : Octets) → AllOctal (stands_for (runs out) a)
unfolding moves_on
press_octal a out = keys_octal (moves_on a out) a out (within_moves moves_most a out)

-- ---- lists of keys

area_append : (j k : List Key) (a : Octets) → area_after (j ++ k) a ≡ area_after k (area_after j a)
unfolding area_after
area_append [] k a = refl
area_append (x ∷ j) k a = area_append j k (pressed x a).area

octal_append : (j k : List Key) → AllOctal j → AllOctal k → AllOctal (j ++ k)
octal_append [] k v w = w
octal_append (x ∷ j) k v w = (v.0, octal_append j k v.1 w)

stroke_area : (x : Stroke) (a : Octets) → (struck x a).area ≡ area_after (stands_for x a) a
unfolding area_after
stroke_area (calls k) a = refl
stroke_area (runs out) a = press_area a out

pub left : (xs : List Stroke) (a : Octets) → area_through xs a ≡ area_after (keys_in xs a) a
unfolding area_through keys_in area_after
left [] a = refl
left (x ∷ xs) a =
    left xs (struck x a).area ∙ ap (area_after (keys_in xs (struck x a).area)) (stroke_area x a)
    ∙ sym (area_append (stands_for x a) (keys_in xs (struck x a).area) a)

pub plain : (ks : List Key) (a : Octets) → keys_in (map calls ks) a ≡ ks
unfolding keys_in
plain [] a = refl
plain (k ∷ ks) a = ap (λ (l : List Key). k ∷ l) (plain ks (pressed k a).area)

pub strokes_octal : (xs : List Stroke) (a : Octets) → AllOctalIn xs → AllOctal (keys_in xs a)
unfolding keys_in
strokes_octal [] a v = tt
strokes_octal (calls k ∷ xs) a v = (v.0, strokes_octal xs (pressed k a).area v.1)
strokes_octal (runs out ∷ xs) a v = octal_append (stands_for (runs out) a) _ (press_octal a out) (strokes_octal xs (run_call a out).area v)

-- ---- what holds of every list of calls holds of every list of keys

pub carried : (P : List Key → Octets → Octets → Type 0)
    → ((area out profile : Octets) → Octal area → answer_in (fresh_call area out profile).word ≡ taken → (keys : List Key) → AllOctal keys
    → P keys (fresh_call area out profile).area (area_after keys (fresh_call area out profile).area))
    → EveryList P
carried P every area out profile v e xs w =
    let a : Octets = (fresh_call area out profile).area in
    subst (P (keys_in xs a) a) (sym (left xs a)) (every area out profile v e (keys_in xs a) (strokes_octal xs a w))

-- of the area that they leave, and of the packets and the account
pub carried_run : (P : Octets → Puts → Account → Type 0) → EveryRun P → EveryStroke P
carried_run P every = carried (λ ks a b. P b (puts_in ks no_puts a) (observed (seen_in ks no_puts a) opening)) every

pub strokes_too : StrokesToo
strokes_too =
    record {
      demand = carried_run (λ a p o. (c : ℕ) → OctetClaim c a o) octet_demand;
      reached = carried_run (λ a p o. Reached a) always_reached;
      paid = carried_run (λ a p o. LoopbacksPaid (view_of a)) always_paid;
      displayed = carried_run (λ a p o. Displayed a p) always_displayed;
      own = carried_run (λ a p o. Own a o) always_own;
      clear = carried_run (λ a p o. (k : Key) → Octal (slice k.call) → rfu_in (pressed k a).word ≡ 0) always_clear;
      discards =
          carried (λ ks a b. OctetDiscardClaim b (observed (seen_in ks no_puts a) opening) (discards.diary_of (seen_in ks no_puts a))) always_discards;
      configs = carried (λ ks a b. OctetConfigClaim b (puts_in ks no_puts a) (config.diary_of (seen_in ks no_puts a))) always_configs;
      checked = carried (λ ks a b. outcomes pressed_checked ks a ≡ outcomes pressed ks a) same_as_checked;
      left = left;
      plain = plain;
    }
