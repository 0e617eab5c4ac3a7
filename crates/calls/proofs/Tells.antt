-- Run to rest on octets is the model's press: the same moves, and what its word tells, its message and its area are what the model's press comes to.
-- Assumes nothing.
use Prim.Native.Nat.{ℕ, zero, suc, ◌≤◌, ◌<◌}
use native.Mathlib.Omega.{arith}
use mathlib.Core.Path.{◌≡◌, refl, sym, ap, ◌∙◌, subst}
use mathlib.Core.Bool.{Bool, true, false, ◌||◌}
use mathlib.Core.List.{List, [], ◌∷◌, ◌++◌, cons≢nil, append-nil}
use lib.ListN.{length}
use Rattle.octets.specs.Octets.{Octets, pick, cut}
use Rattle.area.specs.Map.{message_size}
use Rattle.views.specs.View.{view_of}
use Rattle.model.specs.State.{State}
use Rattle.model.specs.Effects.{Call}
use Rattle.model.specs.Bench.{act, step}
use Rattle.model.specs.Observer.{Event, events, after}
use Rattle.model.specs.Press.{Move, rests, plays, move, most, goes_on, press_by, press_within, press, any_dropped, handed_out}
use Rattle.model.proofs.Press.{enough, step_next, step_message}
use Rattle.calls.specs.Word.{answer_in, dropped_in, handed_in, length_in, rfu_in, moves_in}
use Rattle.calls.specs.Outcome.{Outcome}
use Rattle.calls.specs.Packet.{handed_by}
use Rattle.calls.specs.Refines.{Good, Refines}
use Rattle.calls.specs.Demand.{perform}
use Rattle.calls.specs.Run.{move_on, moves_by, moves_within, moves_most, moves_on, Ran, unmoved, moved, all_moved, run_word, told, run_call}
use Rattle.calls.specs.Rest.{Tells, MovesWithin}
use Rattle.calls.proofs.Called.{sound_area}
use Rattle.calls.proofs.Words.{word_answer, word_dropped, word_handed, word_length}
use Rattle.calls.proofs.Refine.{refined_good, ring_puts}
use Rattle.calls.proofs.Kept.{nothing_past}
use Rattle.calls.proofs.Few.{good_few}
use Rattle.calls.proofs.Run.{move_entered, run_entered, moves_model, moves_refines, moves_few_law, length_short, made_all, word_moves, word_clear}

-- ---- the moves of a press, as the model's

-- what comes of these calls after r, where s is what r's area stands for
record Comes (cs : List Call) (r : Ran) (s : State) : Type 0 where
  drops : (all_moved cs r).dropped ≡ (r.dropped || any_dropped (events cs s))
  hands : handed_by (all_moved cs r).last ≡ handed_out (events cs s)
  next : view_of (all_moved cs r).last.area ≡ after cs s
  good : Good (all_moved cs r).last.area
  room : length (all_moved cs r).last.out ≡ length r.last.out

or_false : (d : Bool) → d ≡ (d || false)
or_false true = refl
or_false false = refl

or_or : (d e f : Bool) → ((d || e) || f) ≡ (d || (e || f))
or_or true e f = refl
or_or false e f = refl

none_come : (r : Ran) → Good r.last.area → handed_by r.last ≡ [] → Comes [] r (view_of r.last.area)
unfolding all_moved events after
none_come r g h = record { drops = or_false r.dropped; hands = h; next = refl; good = g; room = refl }

-- a press that is cut off after n: its moves are the model's, where s is what r's area stands for, and so is what comes of them, where t is
abbrev Same : ℕ → Ran → State → State → Type 0
Same n r s t = (moves_within n r.last.area r.last.out ≡ press_within n s) × Comes (press_within n s) r t

abbrev Pressing : ℕ → Type 0
Pressing n =
    (r : Ran) → Good r.last.area → message_size ≤ length r.last.out → handed_by r.last ≡ []
    → MovesWithin (press_within n (view_of r.last.area)) (view_of r.last.area) → Same n r (view_of r.last.area) (view_of r.last.area)

-- a move of r's area
module _ (r : Ran) (g : Good r.last.area) (room : message_size ≤ length r.last.out) where
  abbrev a : Octets
  a = r.last.area

  abbrev out : Octets
  out = r.last.out

  abbrev s : State
  s = view_of a

  module _ (c : Call) (e : move_on a out ≡ plays c) where
    abbrev x : Outcome
    x = perform c a out

    refines : Refines c (ring_puts a) a x
    refines = moves_refines a out c e (λ _ _. g)

    same_drop : dropped_in x.word ≡ (step c s).effect.drop
    same_drop = ap (λ (e : Event). e.dropped) refines.event

    same_message : handed_by x ≡ (step c s).effect.message
    unfolding handed_by
    same_message = ap (λ (e : Event). e.message) refines.event

    sized : length x.out ≡ length out
    sized = (nothing_past (record { call = c; out = out }) a).room

    -- the last
    last_comes : Good x.area → Comes (c ∷ []) r s
    unfolding all_moved events after
    last_comes better =
        record {
          drops = ap (λ (d : Bool). r.dropped || d) (same_drop ∙ or_false (step c s).effect.drop);
          hands = same_message ∙ sym (append-nil (step c s).effect.message);
          next = refines.next;
          good = better;
          room = sized;
        }

    -- one that hands nothing out, with those after it
    more_come : (cs : List Call) → handed_by x ≡ [] → Comes cs (moved c r) (step c s).effect.next → Comes (c ∷ cs) r s
    unfolding all_moved events after
    more_come cs m k =
        let es : List Event = events cs (step c s).effect.next in
        record {
          drops =
              k.drops ∙ or_or r.dropped (dropped_in x.word) (any_dropped es)
              ∙ ap (λ (d : Bool). r.dropped || (d || any_dropped es)) same_drop;
          hands = k.hands ∙ ap (λ (ms : List Octets). ms ++ handed_out es) (sym m ∙ same_message);
          next = k.next;
          good = k.good;
          room = k.room ∙ sized;
        }

    model_plays : move s ≡ plays c
    model_plays = moves_model a out c e

    -- by whether it hands a message out, which is what the model's does
    abbrev By : ℕ → Bool → List Octets → Type 0
    By n b ms =
        let cs : List Call = c ∷ goes_on ms (press_within n (act c s).next) in
        (c ∷ pick b [] (moves_within n x.area x.out) ≡ cs) × Comes cs r s

    goes_as : (n : ℕ) → Pressing n → handed_by x ≡ [] → MovesWithin (c ∷ press_within n (act c s).next) s → By n false []
    goes_as n ih h v =
        let acts : (step c s).effect.next ≡ (act c s).next = step_next c s model_plays in
        let better : Good x.area = refined_good c (ring_puts a) a x g refines v.0 in
        let w = subst (λ (t : State). MovesWithin (press_within n t) (step c s).effect.next) (sym acts) v.1 in
        let k = ih (moved c r) better (omega (arith, sized)) h (subst (λ (t : State). MovesWithin (press_within n t) t) (sym refines.next) w) in
        let l = subst (λ (t : State). Same n (moved c r) t t) refines.next k in
        let j = subst (λ (t : State). Same n (moved c r) t (step c s).effect.next) acts l in
        (ap (λ (cs : List Call). c ∷ cs) j.0, more_come (press_within n (act c s).next) h j.1)

    plays_as : (n : ℕ) → Pressing n → MovesWithin (press_by (press_within n) (plays c) s) s → By n (handed_in x.word) (act c s).message
    unfolding handed_by
    plays_as n ih v = go (handed_in x.word) refl (act c s).message (same_message ∙ step_message c s model_plays) v
      where
        go : (b : Bool) → handed_in x.word ≡ b → (ms : List Octets) → handed_by x ≡ ms → MovesWithin (c ∷ goes_on ms (press_within n (act c s).next)) s → By n b ms
        go true h [] m w = absurd (cons≢nil (ap (λ (b : Bool). pick b (cut 0 (length_in x.word) x.out ∷ []) []) (sym h) ∙ m))
        go true h (y ∷ ms) m w = (refl, last_comes (refined_good c (ring_puts a) a x g refines w.0))
        go false h [] m w = goes_as n ih m w
        go false h (y ∷ ms) m w = absurd (cons≢nil (sym m ∙ ap (λ (b : Bool). pick b (cut 0 (length_in x.word) x.out ∷ []) []) h))

  move_as : (n : ℕ) → Pressing n → handed_by r.last ≡ [] → (m : Move) → move_on a out ≡ m → MovesWithin (press_by (press_within n) m s) s
      → (moves_by (moves_within n) m a out ≡ press_by (press_within n) m s) × Comes (press_by (press_within n) m s) r s
  move_as n ih h rests e w = (refl, none_come r g h)
  move_as n ih h (plays c) e w = plays_as c e n ih w

press_as : (n : ℕ) → Pressing n
unfolding moves_within press_within
press_as zero r g room h w = (refl, none_come r g h)
press_as (suc n) r g room h w =
    let e = move_entered r.last.area r.last.out g.long g.judged room in
    let k = move_as r g room n (press_as n) h (move (view_of r.last.area)) e w in
    (ap (λ (m : Move). moves_by (moves_within n) m r.last.area r.last.out) e ∙ k.0, k.1)

-- ---- the call

-- the message is that of the last move
told_hands : (r : Ran) → handed_by (told r) ≡ handed_by r.last
unfolding handed_by
told_hands r =
    let d : Bool = r.dropped in
    let h : Bool = handed_in r.last.word in
    let n : ℕ = length_in r.last.word in
    let long : length_in (run_word r) ≡ n = word_length d h n r.made 0 (length_short r.last.word) in
    λ i. pick (word_handed d h n r.made 0 i) (cut 0 (long i) r.last.out ∷ []) []

module _ (a out : Octets) (g : Good a) (room : message_size ≤ length out) (w : MovesWithin (press (view_of a)) (view_of a)) where
  no_limit : press_within moves_most (view_of a) ≡ press (view_of a)
  unfolding press
  no_limit = let few = good_few a g.long g.judged in enough moves_most (most (view_of a)) (view_of a) (omega arith) (omega arith)

  whole : Same moves_most (unmoved a out) (view_of a) (view_of a)
  unfolding handed_by handed_in
  whole = press_as moves_most (unmoved a out) g room refl (subst (λ (cs : List Call). MovesWithin cs (view_of a)) (sym no_limit) w)

  same_moves : moves_on a out ≡ press (view_of a)
  unfolding moves_on
  same_moves = whole.0 ∙ no_limit

  -- the press, by the model's moves
  abbrev ends : Ran
  ends = all_moved (press (view_of a)) (unmoved a out)

  comes : Comes (press (view_of a)) (unmoved a out) (view_of a)
  comes = subst (λ (cs : List Call). Comes cs (unmoved a out) (view_of a)) no_limit whole.1

  same_run_law : told ends ≡ run_call a out
  same_run_law =
      ap (λ (cs : List Call). told (all_moved cs (unmoved a out))) (sym same_moves)
      ∙ run_entered a out (record { long = g.long; judged = g.judged; room = room; sound = sound_area a g.long g.judged })

  few_made : ends.made < 65536
  few_made = omega (arith, made_all (press (view_of a)) (unmoved a out), ap length same_moves, moves_few_law a out g.octal)

  pub tells_all : Tells a out
  tells_all =
      let word : (run_call a out).word ≡ run_word ends = ap (λ (o : Outcome). o.word) (sym same_run_law) in
      let area : (run_call a out).area ≡ ends.last.area = ap (λ (o : Outcome). o.area) (sym same_run_law) in
      record {
        answers = ap answer_in word ∙ word_answer _ _ _ _ _;
        plays = same_moves;
        counts = ap moves_in word ∙ word_moves ends few_made ∙ omega (arith, made_all (press (view_of a)) (unmoved a out));
        drops = ap dropped_in word ∙ word_dropped _ _ _ _ _ ∙ comes.drops;
        clear = ap rfu_in word ∙ word_clear ends few_made;
        hands = ap handed_by (sym same_run_law) ∙ told_hands ends ∙ comes.hands;
        next = ap view_of area ∙ comes.next;
        good = subst Good (sym area) comes.good;
        room = ap (λ (o : Outcome). length o.out) (sym same_run_law) ∙ comes.room;
      }
