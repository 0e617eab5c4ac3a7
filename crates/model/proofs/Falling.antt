-- Each move that is taken lowers `most`, on every state: whatever order they come in, moves end.
-- Assumes nothing.
use Prim.Native.Nat.{ℕ, suc, ◌+◌, ◌*◌, ◌-◌, ◌%◌, ◌≤◌, ◌<◌}
use native.Mathlib.Omega.{arith}
use native.Mathlib.Nat.{mod-le}
use mathlib.Core.Path.{◌≡◌, refl, ap}
use mathlib.Core.Bool.{Bool, true, false, ◌&&◌}
use mathlib.Core.List.{List, [], ◌∷◌}
use lib.Dec.{eqb, ltb}
use lib.ListN.{length, length-append}
use borrow.Author.Tests.{eq-eqb}
use Rattle.octets.specs.Octets.{Octets, pick}
use Rattle.packets.specs.Segments.{Segment, segment_packet}
use Rattle.packets.specs.Headers.{data_header}
use Rattle.state.specs.Judgement.{Judgement}
use Rattle.state.specs.Conn.{flows, carriable}
use Rattle.state.proofs.Chains.{on}
use Rattle.nfcc.specs.Controller.{judge_of}
use Rattle.dh.specs.Host.{hear_of}
use Rattle.messages.specs.Layout.{notice_message}
use Rattle.ends.specs.Changes.{Change, stays, opens, closes, gives, change_by, change_heard}
use Rattle.wires.specs.Meaning.{Meaning, datum, control, junk, meaning}
use Rattle.model.specs.Kinds.{Profile}
use Rattle.model.specs.Connection.{HostEnd, ControllerEnd, Connection, with_host, with_controller, pushed, heard_data, credited, stored, owed_on, carried_on, noticed, paid, spoken}
use Rattle.model.specs.State.{State, is_open, at, with_conns, with_down, with_up, with_asking, with_hearing}
use Rattle.model.specs.Effects.{Call, Effect, fresh, power, command, send, air, report, push, down, consume, credit, reply, up, taken}
use Rattle.model.specs.Refusals.{first, is_nil, is_held, ids}
use Rattle.model.specs.Changes.{at_controller, at_host}
use Rattle.model.specs.Runs.{run_after, whole_by, flag_by}
use Rattle.model.specs.calls.Push.{pushing}
use Rattle.model.specs.calls.Down.{answers, answering, arriving, taking_down}
use Rattle.model.specs.calls.Consume.{is_loop, echo, echoed, segment_in, joined_end, consuming}
use Rattle.model.specs.calls.Credit.{owed_by, all_zero}
use Rattle.model.specs.calls.Reply.{replying}
use Rattle.model.specs.calls.Up.{hearing, coming, taking_up}
use Rattle.model.specs.Bench.{rules, act}
use Rattle.model.specs.Press.{in_hand, in_store, in_speech, debt, most}
use Rattle.model.proofs.Cases.{clash}
use Rattle.model.proofs.Needs.{need}
use Rattle.model.proofs.Fine.{at_keeps}
use Rattle.model.proofs.Sums.{sum_le, sum_same, sum_at, sum_one_more, some_one, all_zero_law, some_le}

-- ---- the numbers of two states

module _ (s s' : State) where
  pub hands_same : ((d : ℕ) → (s'.conns d).host.hand ≡ (s.conns d).host.hand) → in_hand s' ≡ in_hand s
  hands_same e = sum_same (λ d. length (s.conns d).host.hand) (λ d. length (s'.conns d).host.hand) (λ d. ap length (e d))

  pub stores_same : ((d : ℕ) → (s'.conns d).controller.store ≡ (s.conns d).controller.store) → in_store s' ≡ in_store s
  stores_same e = sum_same (λ d. length (s.conns d).controller.store) (λ d. length (s'.conns d).controller.store) (λ d. ap length (e d))

  pub debt_le : ((d : ℕ) → owed_on (s'.conns d).controller ≤ owed_on (s.conns d).controller) → debt s' ≤ debt s
  debt_le e = some_le (λ d. owed_on (s.conns d).controller) (λ d. owed_on (s'.conns d).controller) ids e

pub debt_one : (s : State) → debt s ≤ 1
debt_one s = some_one (owed_by s)

same_le : {m n : ℕ} → m ≡ n → m ≤ n
same_le e = omega arith

-- one connection changes, and keeps a part of it
module _ (c : ℕ) (f : Connection → Connection) (g : ℕ → Connection) where
  keeps_hand : ((k : Connection) → (f k).host ≡ k.host) → (d : ℕ) → (at c f g d).host.hand ≡ (g d).host.hand
  keeps_hand e = at_keeps c f g (λ k. k.host.hand) (λ k. ap (λ (h : HostEnd). h.hand) (e k))

  keeps_controller : ((k : Connection) → (f k).controller ≡ k.controller) → (d : ℕ) → (at c f g d).controller ≡ (g d).controller
  keeps_controller e = at_keeps c f g (λ k. k.controller) e

  -- its number, among those of the others
  beside : (n : Connection → ℕ) (d : ℕ) → eqb c d ≡ false → n (at c f g d) ≡ n (g d)
  beside n d e = rw e refl

  itself : (n : Connection → ℕ) → n (at c f g c) ≡ n (f (g c))
  itself n = rw (eq-eqb c c refl) refl

-- a call leaves the controllers
controllers_same : (s s' : State) → ((d : ℕ) → (s'.conns d).controller ≡ (s.conns d).controller)
    → 3 * in_store s' + 2 * in_speech s' + 2 * debt s' ≤ 3 * in_store s + 2 * in_speech s + 2 * debt s
controllers_same s s' e =
    omega (
      arith,
      stores_same s s' (λ d. ap (λ (k : ControllerEnd). k.store) (e d)),
      ap (λ (k : ControllerEnd). length k.speech) (e 0),
      debt_le s s' (λ d. same_le (ap owed_on (e d))),
    )

-- ---- push

push_falls : (s : State) (c : ℕ) → first (rules (push c) s) ≡ taken → most (act (push c) s).next < most s
push_falls s c t = go (s.conns c).host.hand refl
  where
    go : (h : List Segment) → (s.conns c).host.hand ≡ h → most (pushing c h s).next < most s
    go [] e = clash (ap is_nil e) (need 8 (rules (push c) s) t)
    go (x ∷ h) e =
        let f : Connection → Connection = λ k. with_host (pushed h k.host) k in
        let hand : Connection → ℕ = λ k. length k.host.hand in
        omega (
          arith,
          sum_at (λ d. hand (s.conns d)) (λ d. hand (at c f s.conns d)) c (need 3 (rules (push c) s) t) (beside c f s.conns hand),
          itself c f s.conns hand,
          ap length e,
          length-append s.down (segment_packet (data_header c 0) x ∷ []),
          controllers_same s (pushing c (x ∷ h) s).next (keeps_controller c f s.conns (λ k. refl)),
        )

-- ---- up

-- what the host hears of a connection leaves what is in hand, or discards it
heard_hand : (x : Change) (h : HostEnd) → length (at_host x h).hand ≤ length h.hand
heard_hand stays h = omega arith
heard_hand (opens t) h = omega arith
heard_hand closes h = omega arith
heard_hand (gives n) h = omega arith

hearing_most : (s : State) (mt gid oid : ℕ) (ms : List Octets) (b : Bool) → most (hearing mt gid oid ms b s).next ≤ most s
hearing_most s mt gid oid [] b = omega arith
hearing_most s mt gid oid (m ∷ ms) b =
    let x : ℕ → Change = change_heard (hear_of s.host.pending mt gid oid m) m in
    omega (arith, sum_le (λ d. length (s.conns d).host.hand) (λ d. length (at_host (x d) (s.conns d).host).hand) (λ d. heard_hand (x d) (s.conns d).host))

-- what is read of a packet adds nothing
coming_most : (q : Meaning) (s : State) → most (coming q s).next ≤ most s
coming_most (datum c n x) s =
    on (λ (e : Effect). most e.next ≤ most s) (is_held s c)
    (λ _.
    let f : Connection → Connection = λ k. with_host (heard_data x (credited n k.host)) k in
    let s' : State = with_conns (at c f s.conns) s in
    omega (arith, hands_same s s' (at_keeps c f s.conns (λ k. k.host.hand) (λ k. refl)), controllers_same s s' (keeps_controller c f s.conns (λ k. refl))))
    (λ _. omega arith)
coming_most (control mt gid oid x) s =
    on (λ (e : Effect). most e.next ≤ most s) (eqb mt 1) (λ _. omega arith)
    (λ _. hearing_most (with_hearing (run_after s.hearing mt gid oid x) s) mt gid oid (whole_by s.hearing mt gid oid x) (flag_by s.hearing mt gid oid x))
coming_most junk s = omega arith

up_falls : (s : State) → first (rules up s) ≡ taken → most (act up s).next < most s
up_falls s t = go s.up refl
  where
    go : (w : List Octets) → s.up ≡ w → most (taking_up w s).next < most s
    go [] e = clash (ap is_nil e) (need 8 (rules up s) t)
    go (p ∷ w) e = omega (arith, coming_most (meaning p) (with_up w s), ap length e)

-- ---- down

-- what a connection has at the controller after a change of it
change_store : (x : Change) (k : ControllerEnd) → length (at_controller x k).store ≤ length k.store
change_store stays k = omega arith
change_store (opens t) k = omega arith
change_store closes k = omega arith
change_store (gives n) k = omega arith

change_speech : (x : Change) (k : ControllerEnd) → length (at_controller x k).speech ≤ length k.speech
change_speech stays k = omega arith
change_speech (opens t) k = omega arith
change_speech closes k = omega arith
change_speech (gives n) k = omega arith

change_owed : (x : Change) (k : ControllerEnd) → owed_on (at_controller x k) ≤ owed_on k
change_owed stays k = omega arith
change_owed (opens t) k = on (λ (n : ℕ). n ≤ owed_on k) (flows t.credits) (λ _. omega arith) (λ _. omega arith)
change_owed closes k = omega arith
change_owed (gives n) k = omega arith

-- a command is answered by two packets at most
answers_two : (gid oid : ℕ) (p : Profile) (b m : Octets) (v : Judgement) → length (answers gid oid p b m v) ≤ 2
answers_two gid oid p b m v =
    on (λ (w : List Octets). suc (length w) ≤ 2) (eqb (length (notice_message v).payload) 0) (λ _. omega arith) (λ _. omega arith)

answering_most : (s : State) (gid oid : ℕ) (ms : List Octets) (b : Bool) → most (answering gid oid ms b s).next ≤ 2 + most s
answering_most s gid oid [] b = omega arith
answering_most s gid oid (m ∷ ms) b =
    let v : Judgement = judge_of s.profile s.controller (is_open s) gid oid m in
    omega (
      arith,
      sum_le (λ d. length (s.conns d).controller.store) (λ d. length (at_controller (change_by v d) (s.conns d).controller).store) (λ d. change_store (change_by v d) (s.conns d).controller),
      change_speech (change_by v 0) (s.conns 0).controller,
      some_le (λ d. owed_on (s.conns d).controller) (λ d. owed_on (at_controller (change_by v d) (s.conns d).controller)) ids (λ d. change_owed (change_by v d) (s.conns d).controller),
      length-append s.up (answers gid oid s.profile s.config m v),
      answers_two gid oid s.profile s.config m v,
    )

arriving_most : (q : Meaning) (p : Octets) (s : State) → most (arriving q p s).next ≤ 3 + most s
arriving_most (datum c n x) p s =
    on (λ (e : Effect). most e.next ≤ 3 + most s) (is_open s c)
    (λ _.
    let f : Connection → Connection = λ k. with_controller (stored p k.controller) k in
    let store : Connection → ℕ = λ k. length k.controller.store in
    let s' : State = with_conns (at c f s.conns) s in
    omega (
      arith,
      sum_one_more (λ d. store (s.conns d)) (λ d. store (at c f s.conns d)) c (beside c f s.conns store)
          (omega (arith, itself c f s.conns store, length-append (s.conns c).controller.store (p ∷ []))),
      hands_same s s' (keeps_hand c f s.conns (λ k. refl)),
      at_keeps c f s.conns (λ k. length k.controller.speech) (λ k. refl) 0,
      debt_le s s' (λ d. same_le (at_keeps c f s.conns (λ k. owed_on k.controller) (λ k. refl) d)),
    ))
    (λ _. omega arith)
arriving_most (control mt gid oid x) p s =
    on (λ (e : Effect). most e.next ≤ 3 + most s) (eqb mt 1)
    (λ _.
    omega (arith, answering_most (with_asking (run_after s.asking 1 gid oid x) s) gid oid (whole_by s.asking 1 gid oid x) (flag_by s.asking 1 gid oid x)))
    (λ _. omega arith)
arriving_most junk p s = omega arith

down_falls : (s : State) → first (rules down s) ≡ taken → most (act down s).next < most s
down_falls s t = go s.down refl
  where
    go : (w : List Octets) → s.down ≡ w → most (taking_down w s).next < most s
    go [] e = clash (ap is_nil e) (need 8 (rules down s) t)
    go (p ∷ w) e = omega (arith, arriving_most (meaning p) p (with_down w s), ap length e)

-- ---- consume

-- on a loopback the credit goes up at once: no more is owed than before
pub looped_owed : (xs : List Segment) (rest : List Octets) (k : ControllerEnd) → owed_on (echoed true (joined_end xs rest k)) ≤ owed_on k
unfolding carriable
looped_owed xs rest k = go k.opened (flows k.grant)
  where
    left : (n : ℕ) → n ≤ suc k.owed → n - pick (ltb 3 n) 3 n ≤ k.owed
    left n h = on (λ (x : ℕ). n - x ≤ k.owed) (ltb 3 n) (λ _. omega arith) (λ _. omega arith)

    go : (o y : Bool)
        → pick (o && y) (pick y ((k.owed + 1) % 256) k.owed - carriable (pick (o && y) (pick y ((k.owed + 1) % 256) k.owed) 0)) 0 ≤ pick (o && y) k.owed 0
    go true true = left ((k.owed + 1) % 256) (omega (arith, mod-le (k.owed + 1) 256))
    go true false = omega arith
    go false y = omega arith

consume_falls : (s : State) (c : ℕ) → first (rules (consume c) s) ≡ taken → most (act (consume c) s).next < most s
consume_falls s c t = go (s.conns c).controller.store refl
  where
    go : (w : List Octets) → (s.conns c).controller.store ≡ w → most (consuming c w s).next < most s
    go [] e = clash (ap is_nil e) (need 8 (rules (consume c) s) t)
    go (p ∷ w) e = loops (is_loop c) refl
      where
        xs : List Segment
        xs = segment_in (meaning p)

        f : Connection → Connection
        f k = with_controller (echoed (is_loop c) (joined_end xs w k.controller)) k

        store : Connection → ℕ
        store k = length k.controller.store

        s' : State
        s' = (consuming c (p ∷ w) s).next

        fewer : suc (in_store s') ≡ in_store s
        fewer =
            omega (
              arith,
              sum_at (λ d. store (s.conns d)) (λ d. store (at c f s.conns d)) c (need 3 (rules (consume c) s) t) (beside c f s.conns store),
              itself c f s.conns store,
              ap length e,
            )

        put : List Octets
        put = echo c (carried_on (joined_end xs w (s.conns c).controller)) p

        others : (b : Bool) → length put ≡ pick b 1 0 → 2 * debt s' ≤ 2 * debt s + pick b 0 2 → most s' < most s
        others true u d =
            omega (arith, fewer, length-append s.up put, hands_same s s' (keeps_hand c f s.conns (λ k. refl)), at_keeps c f s.conns (λ k. length k.controller.speech) (λ k. refl) 0)
        others false u d =
            omega (arith, fewer, length-append s.up put, hands_same s s' (keeps_hand c f s.conns (λ k. refl)), at_keeps c f s.conns (λ k. length k.controller.speech) (λ k. refl) 0)

        loops : (b : Bool) → is_loop c ≡ b → most s' < most s
        loops true l =
            others true (rw l refl)
            (omega (
              arith,
              debt_le s s'
                  (λ d. on (λ (k : Connection). owed_on k.controller ≤ owed_on (s.conns d).controller) (eqb c d) (λ _. rw l (looped_owed xs w (s.conns d).controller)) (λ _. omega arith)),
            ))
        loops false l = others false (rw l refl) (omega (arith, debt_one s'))

-- ---- credit

noticed_owed : (k : ControllerEnd) → owed_on (noticed k) ≡ 0
noticed_owed k = elim (k.opened && flows k.grant) as (λ b. pick b (pick b 0 k.owed) 0 ≡ 0) [ true ↦ refl | false ↦ refl ]

-- one notice has all that is owed
pub credit_paid : (s : State) → debt (act credit s).next ≡ 0
credit_paid s =
    let gone : all_zero (owed_by (act credit s).next) ≡ true = all_zero_law (λ d. owed_on (noticed (s.conns d).controller)) ids (λ d. noticed_owed (s.conns d).controller) in
    rw gone refl

credit_falls : (s : State) → first (rules credit s) ≡ taken → most (act credit s).next < most s
credit_falls s t =
    let owed : debt s ≡ 1 = rw (need 8 (rules credit s) t) refl in
    omega (arith, credit_paid s, length-append s.up (act credit s).to_up)

-- ---- reply

paid_owed : (k : ControllerEnd) → owed_on (paid k) ≤ owed_on k
paid_owed k = elim (k.opened && flows k.grant) as (λ b. pick b (k.owed - carriable (pick b k.owed 0)) 0 ≤ pick b k.owed 0) [ true ↦ omega arith | false ↦ omega arith ]

pub reply_debt : (s : State) (x : Segment) (ss : List Segment) → debt (replying (x ∷ ss) s).next ≤ debt s
reply_debt s x ss =
    debt_le s (replying (x ∷ ss) s).next
    (λ d.
    on (λ (k : Connection). owed_on k.controller ≤ owed_on (s.conns d).controller) (eqb 0 d)
    (λ _. paid_owed (spoken ss (s.conns d).controller)) (λ _. omega arith))

reply_falls : (s : State) → first (rules reply s) ≡ taken → most (act reply s).next < most s
reply_falls s t = go (s.conns 0).controller.speech refl
  where
    go : (ss : List Segment) → (s.conns 0).controller.speech ≡ ss → most (replying ss s).next < most s
    go [] e = clash (ap is_nil e) (need 8 (rules reply s) t)
    go (x ∷ ss) e = omega (arith, ap length e, length-append s.up (replying (x ∷ ss) s).to_up, reply_debt s x ss)

-- ---- every move

-- the calls that are moves
abbrev pub IsMove : Call → Type 0
IsMove (fresh m) = ⊥
IsMove power = ⊥
IsMove (command gid oid m) = ⊥
IsMove (send c m) = ⊥
IsMove (push c) = Unit {0}
IsMove down = Unit {0}
IsMove (consume c) = Unit {0}
IsMove credit = Unit {0}
IsMove (air m) = ⊥
IsMove reply = Unit {0}
IsMove up = Unit {0}
IsMove (report c) = ⊥

pub move_falls : (c : Call) (s : State) → IsMove c → first (rules c s) ≡ taken → most (act c s).next < most s
move_falls (fresh m) s v t = absurd v
move_falls power s v t = absurd v
move_falls (command gid oid m) s v t = absurd v
move_falls (send c m) s v t = absurd v
move_falls (push c) s v t = push_falls s c t
move_falls down s v t = down_falls s t
move_falls (consume c) s v t = consume_falls s c t
move_falls credit s v t = credit_falls s t
move_falls (air m) s v t = absurd v
move_falls reply s v t = reply_falls s t
move_falls up s v t = up_falls s t
move_falls (report c) s v t = absurd v
