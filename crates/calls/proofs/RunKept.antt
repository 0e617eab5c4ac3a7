-- What Run to rest leaves alone: `RunRefusalKeeps` and `RunNothingPast` of `specs/Kept.antt`. Each move leaves what every call leaves, and none but the last hands a
-- message out, so the buffer is as it was until then.
-- Assumes nothing.
use Prim.Native.Nat.{ℕ, zero, suc}
use native.Mathlib.Omega.{arith}
use mathlib.Core.Path.{◌≡◌, refl, sym, ap, ◌∙◌}
use mathlib.Core.Bool.{Bool, true, false}
use mathlib.Core.List.{[]}
use lib.ListN.{drop}
use Rattle.octets.specs.Octets.{Octets, pick}
use Rattle.model.specs.Effects.{Call}
use Rattle.model.specs.Press.{Move, rests, plays}
use Rattle.calls.specs.Word.{handed_in, length_in}
use Rattle.calls.specs.Outcome.{outcome}
use Rattle.calls.specs.Kept.{Within, RunRefusalKeeps, RunNothingPast}
use Rattle.calls.specs.Run.{move_on, moves_by, moves_within, moves_most, moves_on, Ran, unmoved, moved, all_moved, run_word, told, ran, run_call}
use Rattle.calls.proofs.Words.{word_answer, word_handed, word_length}
use Rattle.calls.proofs.Kept.{Leaves, Keeps, called_keeps, nothing_past}
use Rattle.calls.proofs.Run.{length_short}

-- ---- moves one after the other

module _ (a out : Octets) where
  -- one more, where the buffer is still as it was
  next_inside : (c : Call) (r : Ran) → Within a out r.last → r.last.out ≡ out → Within a out (moved c r).last
  next_inside c r w e =
      let n = nothing_past (record { call = c; out = r.last.out }) r.last.area in
      let len : ℕ = length_in (moved c r).last.word in
      record {
        size = n.size ∙ w.size;
        beyond = n.beyond ∙ w.beyond;
        room = n.room ∙ w.room;
        rest = n.rest ∙ ap (drop len) e;
        unhanded = λ h. n.unhanded h ∙ e;
        most = n.most;
      }

  all_inside : (n : ℕ) (r : Ran) → Within a out r.last → r.last.out ≡ out → Within a out (all_moved (moves_within n r.last.area r.last.out) r).last
  unfolding moves_within all_moved
  all_inside zero r w e = w
  all_inside (suc n) r w e = go (all_inside n) (move_on r.last.area r.last.out)
    where
      go : ((q : Ran) → Within a out q.last → q.last.out ≡ out → Within a out (all_moved (moves_within n q.last.area q.last.out) q).last)
          → (m : Move) → Within a out (all_moved (moves_by (moves_within n) m r.last.area r.last.out) r).last
      go ih rests = w
      go ih (plays c) = by (handed_in (moved c r).last.word) refl
        where
          then : Within a out (moved c r).last
          then = next_inside c r w e

          by : (b : Bool) → handed_in (moved c r).last.word ≡ b
              → Within a out (all_moved (pick b [] (moves_within n (moved c r).last.area (moved c r).last.out)) (moved c r)).last
          by true h = then
          by false h = ih (moved c r) then (then.unhanded h)

  none_inside : Within a out (outcome 0 a out)
  unfolding length_in
  none_inside = record { size = refl; beyond = refl; room = refl; rest = refl; unhanded = λ _. refl; most = omega arith }

  -- the word of a press says of a message what the last move's says
  told_inside : (r : Ran) → Within a out r.last → Within a out (told r)
  told_inside r w =
      let h : Bool = handed_in r.last.word in
      let n : ℕ = length_in r.last.word in
      let long : length_in (run_word r) ≡ n = word_length r.dropped h n r.made 0 (length_short r.last.word) in
      record {
        size = w.size;
        beyond = w.beyond;
        room = w.room;
        rest = ap (λ (k : ℕ). drop k r.last.out) long ∙ w.rest ∙ ap (λ (k : ℕ). drop k out) (sym long);
        unhanded = λ e. w.unhanded (sym (word_handed r.dropped h n r.made 0) ∙ e);
        most = omega (arith, long, w.most);
      }

  run_leaves : Leaves a out (ran a out)
  unfolding moves_on
  run_leaves = record { answers = word_answer _ _ _ _ _; inside = told_inside _ (all_inside moves_most (unmoved a out) none_inside refl) }

  run_keeps : Keeps a out (run_call a out)
  unfolding run_call
  run_keeps = called_keeps [] (ran a out) a out refl (λ _. run_leaves)

-- ---- the statements

pub run_refused : RunRefusalKeeps
run_refused a out n e = (run_keeps a out).refusal n e

pub run_kept : RunNothingPast
run_kept a out = (run_keeps a out).inside
