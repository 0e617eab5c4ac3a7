-- Run to rest, to the move: from a bench with nothing under way each move brings the end nearer by exactly one, and the moves that are left there are those counted from
-- the calls.
-- Assumes nothing.
use Prim.Native.Nat.{ℕ, zero, suc, ◌+◌, ◌*◌, ◌<◌}
use native.Mathlib.Omega.{arith}
use native.Mathlib.Nat.{mul-zero}
use mathlib.Core.Path.{◌≡◌, refl, sym, ap, ◌∙◌, subst}
use mathlib.Core.Logic.{◌⊎◌, inl, inr}
use mathlib.Core.Bool.{Bool, true, false, not}
use mathlib.Core.List.{List, [], ◌∷◌, ◌++◌, map}
use lib.ListN.{length, length-append}
use Rattle.octets.specs.Octets.{Octets, pick}
use Rattle.state.specs.Conn.{place_of, flows}
use Rattle.model.specs.State.{State}
use Rattle.model.specs.Effects.{Call, push, down, consume, credit, up, Result, refused, is_taken}
use Rattle.model.specs.Refusals.{rule, is_nil, first, no_conn}
use Rattle.model.specs.calls.Down.{too_tight, first_full}
use Rattle.model.specs.calls.Consume.{is_loop}
use Rattle.model.specs.Bench.{rules, act, step}
use Rattle.model.specs.Observer.{Event, Ledger, Account, opening, observe, observed, event_of, after}
use Rattle.model.specs.Claim.{total}
use Rattle.model.specs.Press.{passing, starting, moves, possible, rests, plays, press, presses, move, in_speech}
use Rattle.model.specs.Rest.{Silent}
use Rattle.model.specs.Discards.{diary_of}
use Rattle.model.specs.Exact.{Clear, loopbacks, speech, said, speech_left, exactly, Exact, AlwaysExact}
use Rattle.model.specs.invariant.Bench.{Fine, Kept}
use Rattle.model.proofs.Cases.{clash}
use Rattle.model.proofs.Never.{answer_first}
use Rattle.model.proofs.Trace.{step_keeps, calls_keep, reachable}
use Rattle.model.proofs.Always.{Noting, always_noted}
use Rattle.model.proofs.Discards.{MarkedIn, all_marked}
use Rattle.model.proofs.Falling.{IsMove}
use Rattle.model.proofs.Press.{Every, Chosen, NoneOf, chosen, chosen_append, one_of, none_left, none_of, no_move, resting, Played, presses_played, after_move, after_append, step_next}
use Rattle.model.proofs.Silent.{and_false, up_empty, store_empty, down_empty, all_paid, open_here, silent}
use Rattle.model.proofs.Costs.{weighed, weighed_none, hand_cost, hands, left, One, Nearer}
use Rattle.model.proofs.Speech.{Counted, step_counted}
use Rattle.model.proofs.Nearer.{up_nearer, down_nearer, consume_nearer, credit_nearer}
use Rattle.model.proofs.Starting.{none_one, in_hand_law, push_nearer, reply_nearer}

-- ---- each move

module _ (b : Bool) (s : State) (aim : ℕ) (l : ℕ → Ledger) (fine : Fine s aim l) (o : One b s) where
  -- the call, where it is possible, brings the end nearer
  abbrev Brings : Call → Type 0
  Brings c = possible c s ≡ true → Nearer b s (act c s).next

  eats : (c : ℕ) → Brings (consume c)
  eats c t = consume_nearer b s aim l fine c t o

  passing_brings : Every Brings passing
  passing_brings =
      ((λ t. up_nearer b s t o), ((λ t. down_nearer b s t o), (eats 0, (eats 2, (eats 3, (eats 4, (eats 5, ((λ t. credit_nearer b s t o), tt))))))))

  starting_brings : NoneOf passing s → Every Brings starting
  starting_brings n = (pushes 0, (pushes 2, (pushes 3, (pushes 4, (pushes 5, (reply_nearer s aim l fine n b o, tt))))))
    where
      pushes : (c : ℕ) → Brings (push c)
      pushes c t = push_nearer s aim l fine n b o c t

  move_nearer : (c : Call) → move s ≡ plays c → Nearer b s (act c s).next
  move_nearer c m = go (chosen_append passing starting c s (chosen moves c s m))
    where
      go : Chosen passing c s ⊎ (NoneOf passing s × Chosen starting c s) → Nearer b s (act c s).next
      go (inl h) = let k = one_of Brings passing c s passing_brings h in k.0 k.1
      go (inr h) = let k = one_of Brings starting c s (starting_brings h.0) h.1 in k.0 k.1

-- ---- all moves

played_nearer : (b : Bool) (cs : List Call) (s : State) (o : Account) → Played cs s → Kept s o → One b s
    → (length cs + left b (after cs s) ≡ left b s) × One b (after cs s)
unfolding after
played_nearer b [] s o p k u = (omega arith, u)
played_nearer b (c ∷ cs) s o p k u =
    let near = move_nearer b s o.aim o.ledger k.fine u c p.0 in
    let kept = subst (λ (z : State). Kept z (observe (event_of c (step c s)) o)) (step_next c s p.0) (step_keeps c s o k) in
    let rest = played_nearer b cs (act c s).next (observe (event_of c (step c s)) o) p.1 kept near.1 in
    (omega (arith, near.0, rest.0, ap (left b) (after_move c cs s p.0)), subst (One b) (sym (after_move c cs s p.0)) rest.1)

-- nothing is left at rest
rest_left : (b : Bool) (s : State) (aim : ℕ) (l : ℕ → Ledger) → Fine s aim l → move s ≡ rests → left b s ≡ 0
rest_left b s aim l fine still =
    let quiet : Silent s = silent s aim l fine still in
    omega (
      arith,
      in_hand_law s aim l fine (none_left passing starting s (none_of moves s still)) b,
      weighed_none (hand_cost b) (hands s.conns) (λ d. ap length (quiet.host d)),
      ap length quiet.endpoint,
    )

-- after n presses the next makes none, or there were more than n moves
at_rest_or_more : (n : ℕ) (s : State) → (press (after (presses n s) s) ≡ []) ⊎ (n < length (presses (suc n) s))
unfolding presses after
at_rest_or_more zero s = go (press s) refl
  where
    go : (cs : List Call) → press s ≡ cs → (press s ≡ []) ⊎ (0 < length (press s ++ []))
    go [] e = inl e
    go (c ∷ cs) e = inr (omega (arith, ap length e, length-append (press s) []))
at_rest_or_more (suc n) s = go (at_rest_or_more n (after (press s) s)) (press s) refl
  where
    s₁ : State
    s₁ = after (press s) s

    go : (press (after (presses n s₁) s₁) ≡ []) ⊎ (n < length (presses (suc n) s₁)) → (cs : List Call) → press s ≡ cs
        → (press (after (press s ++ presses n s₁) s) ≡ []) ⊎ (suc n < length (press s ++ presses (suc n) s₁))
    go (inl h) cs e = inl (ap press (after_append (press s) (presses n s₁) s) ∙ h)
    go (inr h) [] e = inl (rw (e, resting n s e) e)
    go (inr h) (c ∷ cs) e = inr (omega (arith, h, ap length e, length-append (press s) (presses (suc n) s₁)))

-- ---- what is counted from the calls

unfoldable pub speech_noted : Noting ℕ
unfolding speech
speech_noted = record { note = said; diary = speech; none = λ o n. refl; more = λ e es o n. refl }

-- none of the calls that take on what is under way is possible, where calls answer as their rules say
pub clear_none : (s : State) (answer : Call → Result) → ((c : Call) → IsMove c → answer c ≡ first (rules c s)) → Clear answer → NoneOf passing s
unfolding place_of
clear_none s answer same clear = (
  off up 8 tt clear.none_up,
  (
    off down 8 tt clear.none_down,
    (eaten 0 refl, (eaten 2 refl, (eaten 3 refl, (eaten 4 refl, (eaten 5 refl, (off credit 8 tt clear.none_owed, tt)))))),
  ),
)
  where
    off : (c : Call) (n : ℕ) → IsMove c → answer c ≡ refused n → possible c s ≡ false
    off c n v e = ap is_taken (sym (same c v) ∙ e)

    eaten : (c : ℕ) → no_conn c ≡ false → possible (consume c) s ≡ false
    eaten c n = go (clear.none_stored c n)
      where
        go : (answer (consume c) ≡ refused 6) ⊎ (answer (consume c) ≡ refused 8) → possible (consume c) s ≡ false
        go (inl e) = off (consume c) 6 tt e
        go (inr e) = off (consume c) 8 tt e

-- and the other way: where no move is possible nothing is under way, by what the rules say
pub rest_clear : (s : State) (aim : ℕ) (l : ℕ → Ledger) → Fine s aim l → move s ≡ rests → Clear (λ c. first (rules c s))
unfolding first
rest_clear s aim l fine still =
    record {
      none_down = ap (λ (w : List Octets). first (rule 4 (too_tight s w) ∷ rule 8 (is_nil w) ∷ rule 12 (first_full s w) ∷ [])) (down_empty s aim l fine none);
      none_up = rw empty refl;
      none_owed = rw (empty, all_paid s aim l fine none) refl;
      none_stored = λ c five. rw (five, empty, and_false (is_loop c)) (go c (s.conns c).controller.opened refl);
    }
  where
    none : NoneOf passing s
    none = none_left passing starting s (none_of moves s still)

    empty : s.up ≡ []
    empty = up_empty s aim l fine none

    -- the rules that are left of consume
    left_of : ℕ → Result
    left_of c = first (rule 6 (not (s.conns c).controller.opened) ∷ rule 8 (is_nil (s.conns c).controller.store) ∷ [])

    go : (c : ℕ) (b : Bool) → (s.conns c).controller.opened ≡ b → (left_of c ≡ refused 6) ⊎ (left_of c ≡ refused 8)
    go c true o = inr (rw (o, store_empty s aim l fine none c o) refl)
    go c false o = inl (rw o refl)

-- what is known of the bench s that calls have left, of which es was seen
pub record Known (s : State) (es : List Event) : Type 0 where
  pub keeps : Kept s (observed es opening)
  pub marked : MarkedIn s (diary_of es)
  pub counted : Counted s (speech_left es)

module _ (s : State) (es : List Event) (k : Known s es) (none : NoneOf passing s) where
  abbrev o : Account
  o = observed es opening

  abbrev flow : Bool
  flow = flows (s.conns 0).controller.grant

  hands_cost : (b : Bool) → weighed (hand_cost b) (hands s.conns) ≡ 4 * total (map (hands s.conns) loopbacks) + pick b 5 3 * hands s.conns 0
  unfolding weighed
  hands_cost true = omega arith
  hands_cost false = omega arith

  -- where connection 0 is closed at the controller, it is at the host, and nothing is in hand there
  shut_hand : (s.conns 0).controller.opened ≡ false → hands s.conns 0 ≡ 0
  shut_hand e = go (s.conns 0).host.opened refl
    where
      go : (y : Bool) → (s.conns 0).host.opened ≡ y → hands s.conns 0 ≡ 0
      go true z = clash (open_here s o.aim o.ledger k.keeps.fine none 0 z) e
      go false z = ap length ((k.keeps.fine.good 0).pipes.hand z)

  -- and where it is open the account has its grant
  static_same : pick (flows (o.ledger 0).controller.grant) 5 3 * ((diary_of es).hand 0).left ≡ pick flow 5 3 * hands s.conns 0
  static_same = go (s.conns 0).controller.opened refl
    where
      go : (y : Bool) → (s.conns 0).controller.opened ≡ y → pick (flows (o.ledger 0).controller.grant) 5 3 * ((diary_of es).hand 0).left ≡ pick flow 5 3 * hands s.conns 0
      go true e =
          let given = ((k.keeps.fine.good 0).numbers.live e).counts.granted in
          λ i. pick (flows (given i)) 5 3 * (k.marked.told 0).left i
      go false e =
          let none_held : (w : ℕ) → w * hands s.conns 0 ≡ 0 = λ w. ap (λ (i : ℕ). w * i) (shut_hand e) ∙ mul-zero w in
          (λ i. pick (flows (o.ledger 0).controller.grant) 5 3 * (k.marked.told 0).left i) ∙ none_held _ ∙ sym (none_held _)

  left_exactly : exactly es ≡ left flow s
  left_exactly =
      (λ i. 4 * total (map (λ (c : ℕ). (k.marked.told c).left i) loopbacks) + static_same i + 2 * k.counted i)
      ∙ (λ i. sym (hands_cost flow) i + 2 * in_speech s)
      ∙ sym (in_hand_law s o.aim o.ledger k.keeps.fine none flow)

  -- after any moves, what they were and what is left
  after_moves : (cs : List Call) → Played cs s → length cs + left flow (after cs s) ≡ exactly es
  after_moves cs p =
      (played_nearer flow cs s o p k.keeps (none_one s o.aim o.ledger k.keeps.fine none)).0 ∙ sym left_exactly

  pub known_exact : Exact s es
  known_exact =
      record {
        moves =
            λ n e.
            let rested = rest_left flow (after (presses n s) s) _ _ (calls_keep (presses n s) s o k.keeps).fine (no_move (after (presses n s) s) e) in
            omega (arith, after_moves (presses n s) (presses_played n s));
        ends = go (at_rest_or_more (exactly es) s);
      }
    where
      go : (press (after (presses (exactly es) s) s) ≡ []) ⊎ (exactly es < length (presses (suc (exactly es)) s)) → press (after (presses (exactly es) s) s) ≡ []
      go (inl e) = e
      go (inr h) = absurd (omega (arith, after_moves (presses (suc (exactly es)) s) (presses_played (suc (exactly es)) s)))

pub always_exact : AlwaysExact
unfolding speech_noted step
always_exact profile ok calls clear =
    known_exact _ _
    (record {
      keeps = reachable profile ok calls;
      marked = all_marked profile ok calls;
      counted = always_noted speech_noted Counted step_counted 0 (λ p l. refl) profile ok calls;
    })
    (clear_none _ _ (λ c v. answer_first (first (rules c _)) c _) clear)
