-- A press on octets is the model's press, on every bench that keys have made: so presses come to an end, and where one makes no move no message is in hand.
-- Assumes nothing.
use Prim.Native.Nat.{ℕ, zero, suc, ◌≤◌}
use native.Mathlib.Omega.{arith}
use mathlib.Core.Path.{◌≡◌, refl, sym, ap, ◌∙◌, subst}
use mathlib.Core.Bool.{Bool, true, false, ◌&&◌, ◌||◌}
use mathlib.Core.List.{List, [], ◌∷◌}
use lib.ListN.{length, length-append}
use lib.Dec.{eqb}
use borrow.Author.Tests.{eq-eqb}
use Rattle.octets.specs.Octets.{Octets, pick}
use Rattle.octets.specs.Octal.{Octal, octal_nil}
use Rattle.state.proofs.Chains.{or_left, or_right}
use Rattle.area.specs.Map.{message_size}
use Rattle.views.specs.View.{view_of}
use Rattle.model.specs.State.{State}
use Rattle.model.specs.Effects.{Call, send, push, air, reply, refused}
use Rattle.model.specs.Refusals.{Rule, first}
use Rattle.model.specs.Bench.{rules, step}
use Rattle.model.specs.Observer.{Event, Account, event_of, observe, events, after, observed}
use Rattle.model.specs.Press.{passing, starting, moves, rests, move, press, presses}
use Rattle.model.specs.Rest.{bound, Silent}
use Rattle.model.specs.invariant.Bench.{Kept}
use Rattle.model.proofs.Cases.{clash, no_length}
use Rattle.model.proofs.Trace.{step_keeps, calls_keep}
use Rattle.model.proofs.Never.{answer_first, kept_within}
use Rattle.model.proofs.Press.{NoneOf, none_of, none_left, after_append, no_move}
use Rattle.model.proofs.Silent.{up_empty, down_empty, known, open_here, silent, kept_rests, kept_delivered}
use Rattle.calls.specs.Word.{number_of, answer_in, moves_in}
use Rattle.calls.specs.Refines.{Good}
use Rattle.calls.specs.calls.Air.{speaks}
use Rattle.calls.specs.Demand.{perform, slice}
use Rattle.calls.specs.Run.{run_call}
use Rattle.calls.specs.Strokes.{EveryStroke}
use Rattle.calls.specs.Rest.{Tells, MovesWithin, AllTell, AlwaysTell, moves_over, area_over, out_over, OctetRests, AlwaysOctetRests, OctetSilent, AlwaysSilent}
use Rattle.calls.proofs.Refine.{ring_puts, ring_along}
use Rattle.calls.proofs.Demand.{all_refine, Stands, run_stands}
use Rattle.calls.proofs.Strokes.{carried_run}
use Rattle.calls.proofs.Tells.{tells_all}

pub all_tell : AllTell
all_tell a out g room w = tells_all a out g room w

-- ---- on a bench that keys have made

-- no call brings credits past a grant
kept_moves : (cs : List Call) (s : State) (o : Account) → Kept s o → MovesWithin cs s
kept_moves [] s o k = tt
kept_moves (c ∷ cs) s o k =
    let later = step_keeps c s o k in
    (kept_within _ _ later, kept_moves cs (step c s).effect.next (observe (event_of c (step c s)) o) later)

pub kept_tells : (a out : Octets) (o : Account) → Good a → Kept (view_of a) o → message_size ≤ length out → Tells a out
kept_tells a out o g k room = all_tell a out g room (kept_moves (press (view_of a)) (view_of a) o k)

pub strokes_stand : EveryStroke Stands
strokes_stand = carried_run Stands run_stands

pub always_tell : AlwaysTell
always_tell area out profile v e xs w buffer room =
    let s = strokes_stand area out profile v e xs w in
    kept_tells _ buffer _ s.good s.keeps room

-- ---- presses one after the other are the model's

pub record Over (n : ℕ) (a out : Octets) : Type 0 where
  pub made : moves_over n a out ≡ length (presses n (view_of a))
  pub next : view_of (area_over n a out) ≡ after (presses n (view_of a)) (view_of a)
  pub good : Good (area_over n a out)
  pub room : message_size ≤ length (out_over n a out)

pub over : (n : ℕ) (a out : Octets) (o : Account) → Good a → Kept (view_of a) o → message_size ≤ length out → Over n a out
unfolding moves_over area_over out_over presses after
over zero a out o g k room = record { made = refl; next = refl; good = g; room = room }
over (suc n) a out o g k room =
    let s : State = view_of a in
    let t = kept_tells a out o g k room in
    let kept = calls_keep (press s) s o k in
    let z = over n (run_call a out).area (run_call a out).out _ t.good (subst (λ (x : State). Kept x (observed (events (press s) s) o)) (sym t.next) kept) (omega (arith, t.room)) in
    let later : presses n (view_of (run_call a out).area) ≡ presses n (after (press s) s) = ap (presses n) t.next in
    record {
      made = omega (arith, t.counts, z.made, ap length later, length-append (press s) (presses n (after (press s) s)));
      next = z.next ∙ (λ i. after (later i) (t.next i)) ∙ sym (after_append (press s) (presses n (after (press s) s)) s);
      good = z.good;
      room = z.room;
    }

module _ (a out : Octets) (o : Account) (g : Good a) (k : Kept (view_of a) o) (room : message_size ≤ length out) where
  -- what the press after n presses makes
  pub then_made : (n : ℕ) → moves_in (run_call (area_over n a out) (out_over n a out)).word ≡ length (press (after (presses n (view_of a)) (view_of a)))
  then_made n =
      let z = over n a out o g k room in
      let kept = calls_keep (presses n (view_of a)) (view_of a) o k in
      (kept_tells (area_over n a out) (out_over n a out) _ z.good (subst (λ (x : State). Kept x (observed (events (presses n (view_of a)) (view_of a)) o)) (sym z.next) kept) z.room).counts
      ∙ ap (λ (x : State). length (press x)) z.next

  octet_rests : OctetRests a out
  octet_rests =
      let q = kept_rests (view_of a) o k in
      record {
        within = λ n. omega (arith, (over n a out o g k room).made, q.within n);
        ends = then_made (bound (view_of a)) ∙ ap length q.ends;
      }

pub always_octet_rests : AlwaysOctetRests
always_octet_rests area out profile v e xs w buffer room =
    let s = strokes_stand area out profile v e xs w in
    octet_rests _ buffer _ s.good s.keeps room

-- ---- what calls answer

-- with room in the buffer, what the model's rules say of the state that the area stands for
pub same_answer : (a : Octets) → Good a → (c : Call) → Octal (slice c) → (out : Octets) → message_size ≤ length out
    → answer_in (perform c a out).word ≡ first (rules c (view_of a))
unfolding step
same_answer a g c v out room =
    ap (λ (e : Event). e.answer) (all_refine c (ring_puts a) a out v g room (ring_along a)).event ∙ answer_first (first (rules c (view_of a))) c (view_of a)

-- ---- where a press makes no move

-- a number whose rules do not apply is not the answer
abbrev applies : ℕ → List Rule → Bool
applies n [] = false
applies n (r ∷ rs) = (eqb r.number n && r.test) || applies n rs

not_applied : (n : ℕ) (rs : List Rule) → applies (suc n) rs ≡ false → first rs ≡ refused (suc n) → ⊥
unfolding first
not_applied n [] h e = let z : 0 ≡ suc n = ap number_of e in absurd (omega arith)
not_applied n (r ∷ rs) h e = go (not_applied n rs (or_right (eqb r.number (suc n) && r.test) (applies (suc n) rs) h)) r.test refl e
  where
    go : (first rs ≡ refused (suc n) → ⊥) → (b : Bool) → r.test ≡ b → pick b (refused r.number) (first rs) ≡ refused (suc n) → ⊥
    go ih true t x =
        let both : (eqb r.number (suc n) && r.test) ≡ true = rw (eq-eqb r.number (suc n) (ap number_of x), t) refl in
        clash both (or_left (eqb r.number (suc n) && r.test) (applies (suc n) rs) h)
    go ih false t x = ih x

not_both : (b : Bool) → ((b && false) || false) ≡ false
not_both true = refl
not_both false = refl

module _ (a : Octets) (o : Account) (g : Good a) (k : Kept (view_of a) o) (still : move (view_of a) ≡ rests) where
  passed : NoneOf passing (view_of a)
  passed = none_left passing starting (view_of a) (none_of moves (view_of a) still)

  quiet : Silent (view_of a)
  quiet = silent (view_of a) o.aim o.ledger k.fine still

  nothing_to_push : (c : ℕ) → (o.ledger c).host.opened ≡ true → first (rules (push c) (view_of a)) ≡ refused 8
  unfolding first
  nothing_to_push c h =
      let there : ((view_of a).conns c).host.opened ≡ true = sym (k.fine.good c).numbers.counts.opened ∙ h in
      let here = open_here (view_of a) o.aim o.ledger k.fine passed c there in
      rw (known (view_of a) o.aim o.ledger k.fine passed c here, down_empty (view_of a) o.aim o.ledger k.fine passed, there, quiet.host c) refl

  nothing_to_reply : first (rules reply (view_of a)) ≡ refused 8
  unfolding first
  nothing_to_reply = rw (up_empty (view_of a) o.aim o.ledger k.fine passed, quiet.endpoint) refl

  octet_silent : OctetSilent a o
  octet_silent =
      record {
        send = λ out room c m v e. not_applied 6 (rules (send c m) (view_of a)) (rw (quiet.host c) refl) (sym (same_answer a g (send c m) v out room) ∙ e);
        air = λ out room m v e. not_applied 6 (rules (air m) (view_of a)) (rw quiet.endpoint (not_both (speaks m))) (sym (same_answer a g (air m) v out room) ∙ e);
        push = λ out room c h. same_answer a g (push c) octal_nil out room ∙ nothing_to_push c h;
        reply = λ out room. same_answer a g reply octal_nil out room ∙ nothing_to_reply;
        delivered = kept_delivered (view_of a) o k still;
      }

none_pressed : (cs : List Call) → length cs ≡ 0 → cs ≡ []
none_pressed [] h = refl
none_pressed (c ∷ cs) h = absurd (omega arith)

pub always_silent : AlwaysSilent
always_silent area out profile v e xs w buffer room none =
    let s = strokes_stand area out profile v e xs w in
    let t = kept_tells _ buffer _ s.good s.keeps room in
    octet_silent _ _ s.good s.keeps (no_move _ (no_length _ (sym t.counts ∙ none)))
