-- What closes a connection on the up wire: while no RESET or CONN_CLOSE is answered there, no dynamic connection closes.
-- Assumes nothing.
use Prim.Native.Nat.{ℕ}
use mathlib.Core.Path.{◌≡◌, refl, sym, ap, subst}
use mathlib.Core.Bool.{Bool, true, false, ◌||◌}
use mathlib.Core.List.{List, [], ◌∷◌, ◌++◌, cons≢nil}
use lib.Dec.{eqb}
use lib.ListN.{get_or}
use borrow.Author.Tests.{eq-eqb}
use Rattle.std.specs.Prelude.{Option, Some, None}
use Rattle.octets.specs.Octets.{Octets, pick}
use Rattle.packets.specs.Segments.{Segment, more, last}
use Rattle.model.specs.Kinds.{Asked, Command, Notice, Answer, Heard}
use Rattle.model.specs.Kinds.command as command
use Rattle.model.specs.Kinds.notice as notice
use Rattle.model.specs.Kinds.answer.{Done}
use Rattle.model.specs.Kinds.heard.{Nothing, Answered}
use Rattle.state.specs.Commands.{command_of}
use Rattle.dh.specs.Contents.{notice_of, written}
use Rattle.dh.specs.Host.{ok_answer, answer_of, noticed, heard_written, credits_for, is_closer, is_closing}
use Rattle.state.proofs.Chains.{on}
use Rattle.wires.specs.Meaning.{Meaning, datum, control, junk, meaning}
use Rattle.wires.specs.Tally.{says}
use Rattle.ends.specs.Changes.{Change, stays, opens, closes, change_heard}
use Rattle.model.specs.Observer.{change_in}
use Rattle.model.specs.invariant.Items.{Item, carry, credit, opened, closed, items_by, items_in, items_of}
use Rattle.model.specs.invariant.Phases.{walk, start, live, Ends}
use Rattle.model.specs.invariant.Commands.{Name, named, pending_name, replies_in, replies}
use Rattle.model.proofs.Cases.{clash, left_nil, right_nil}
use Rattle.model.proofs.Phases.{bad_walk}
use Rattle.nfcc.proofs.Verdicts.{Named, command_named}

-- ---- items that do not close

abbrev pub NoClose : List Item → Type 0
NoClose [] = Unit {0}
NoClose (carry l ∷ is) = NoClose is
NoClose (credit n ∷ is) = NoClose is
NoClose (opened t ∷ is) = NoClose is
NoClose (closed ∷ is) = ⊥

no_close_append : (a b : List Item) → NoClose a → NoClose b → NoClose (a ++ b)
no_close_append [] b p q = q
no_close_append (carry l ∷ a) b p q = no_close_append a b p q
no_close_append (credit n ∷ a) b p q = no_close_append a b p q
no_close_append (opened t ∷ a) b p q = no_close_append a b p q
no_close_append (closed ∷ a) b p q = absurd p

-- ---- commands that close

abbrev pub closing : Name → Bool
closing n = is_closer n.gid n.oid

abbrev pub AllFree : List Name → Type 0
AllFree [] = Unit {0}
AllFree (n ∷ ns) = (closing n ≡ false) × AllFree ns

pub free_left : (a b : List Name) → AllFree (a ++ b) → AllFree a
free_left [] b f = tt
free_left (n ∷ a) b f = (f.0, free_left a b f.1)

pub free_right : (a b : List Name) → AllFree (a ++ b) → AllFree b
free_right [] b f = f
free_right (n ∷ a) b f = free_right a b f.1

pub free_pending : (p : Option Asked) → is_closing p ≡ false → AllFree (pending_name p)
free_pending None e = tt
free_pending (Some a) e = (e, tt)

-- the unanswered command closes where its name does
pub closing_pending : (p : Option Asked) (n : Name) → pending_name p ≡ n ∷ [] → is_closing p ≡ closing n
closing_pending None n e = absurd (cons≢nil (sym e))
closing_pending (Some a) n e = ap head_closing e
  where
    head_closing : List Name → Bool
    head_closing [] = false
    head_closing (k ∷ ks) = closing k

or_true : (b : Bool) → (b || true) ≡ true
or_true true = refl
or_true false = refl

pub closing_reset : (gid oid : ℕ) → gid ≡ 0 → oid ≡ 0 → closing (named gid oid) ≡ true
closing_reset gid oid g o = rw (eq-eqb gid 0 g, eq-eqb oid 0 o)

pub closing_close : (gid oid : ℕ) → gid ≡ 0 → oid ≡ 5 → closing (named gid oid) ≡ true
closing_close gid oid g o = rw (eq-eqb gid 0 g, eq-eqb oid 5 o) (or_true (eqb oid 0))

-- ---- an answer closes nothing, unless it is to a RESET or a CONN_CLOSE

module _ (d : ℕ) where
  abbrev Keeps : Octets → Heard → Type 0
  Keeps m h = NoClose (items_by (change_heard h m d))

  opens_keeps : (b : Bool) (x : Change) → NoClose (items_by x) → NoClose (items_by (pick b x stays))
  opens_keeps true x n = n
  opens_keeps false x n = tt

  answer_keeps : (gid oid : ℕ) → closing (named gid oid) ≡ false → (c : Command) → Named gid oid c → (aim : ℕ) (m : Octets)
      → Keeps m (Answered (ok_answer c aim m))
  answer_keeps gid oid f command.Reset n aim m = clash (closing_reset gid oid n.0 n.1) f
  answer_keeps gid oid f command.Init n aim m = tt
  answer_keeps gid oid f command.ConnCreate n aim m = opens_keeps (eqb _ d) (opens _) tt
  answer_keeps gid oid f command.ConnClose n aim m = clash (closing_close gid oid n.0 n.1) f
  answer_keeps gid oid f command.Discover n aim m = tt
  answer_keeps gid oid f command.Select n aim m = tt
  answer_keeps gid oid f command.Deactivate n aim m = tt
  answer_keeps gid oid f command.Unknown n aim m = tt
  answer_keeps gid oid f command.SetConfig n aim m = tt
  answer_keeps gid oid f command.GetConfig n aim m = tt

  answered_keeps : (gid oid : ℕ) → closing (named gid oid) ≡ false → (aim : ℕ) (m : Octets)
      → Keeps m (Answered (answer_of (command_of gid oid) aim m))
  unfolding answer_of
  answered_keeps gid oid f aim m =
      on (λ (a : Answer). Keeps m (Answered a)) (eqb (get_or m 0 0) 0x00) {x = ok_answer (command_of gid oid) aim m} {y = Done}
      (λ z. answer_keeps gid oid f (command_of gid oid) (command_named gid oid) aim m) (λ z. tt)

  -- so a response that closes a connection answers one of these two
  pub closed_by : (aim gid oid : ℕ) (x : Segment) → change_in aim d (control 2 gid oid x) ≡ closes → closing (named gid oid) ≡ true
  unfolding heard_written
  closed_by aim gid oid (more b) e = absurd (subst (λ (c : Change). NoClose (items_by c)) e tt)
  closed_by aim gid oid (last m) e = go (closing (named gid oid)) refl
    where
      go : (b : Bool) → closing (named gid oid) ≡ b → b ≡ true
      go true f = refl
      go false f =
          absurd
          (subst (λ (c : Change). NoClose (items_by c)) e
          (on (Keeps m) (written 2 gid oid m) (λ w. answered_keeps gid oid f aim m) (λ w. tt)))

  -- ---- and a notification closes no dynamic connection

  module _ (dynamic : eqb 0 d ≡ false) where
    noticed_keeps : (n : Option Notice) (m : Octets) → Keeps m (noticed n m)
    noticed_keeps (Some notice.Reset) m = tt
    noticed_keeps (Some notice.Credits) m = on (λ (c : Change). NoClose (items_by c)) (eqb (credits_for m d) 0) (λ e. tt) (λ e. tt)
    noticed_keeps (Some notice.GenericError) m = tt
    noticed_keeps (Some notice.Discover) m = tt
    noticed_keeps (Some notice.Activated) m = opens_keeps (eqb 0 d) (opens _) tt
    noticed_keeps (Some notice.Deactivate) m = rw dynamic tt
    noticed_keeps None m = tt

    says_keeps : (aim mt gid oid : ℕ) (m : Octets) → AllFree (pick (eqb mt 2) (named gid oid ∷ []) []) → Keeps m (says aim mt gid oid m)
    unfolding heard_written
    says_keeps aim mt gid oid m f =
        on (Keeps m) (written mt gid oid m)
        (λ w. on (Keeps m) (eqb mt 2)
        (λ e. answered_keeps gid oid (go (eqb mt 2) e f) aim m)
        (λ e. noticed_keeps (notice_of gid oid) m))
        (λ w. tt)
      where
        go : (b : Bool) → b ≡ true → AllFree (pick b (named gid oid ∷ []) []) → closing (named gid oid) ≡ false
        go true e f = f.0
        go false e f = clash e refl

    no_close_in : (aim : ℕ) (q : Meaning) → AllFree (replies_in q) → NoClose (items_in aim d q)
    no_close_in aim (datum c n x) f = on NoClose (eqb c d) (λ e. tt) (λ e. tt)
    no_close_in aim (control mt gid oid (more b)) f = tt
    no_close_in aim (control mt gid oid (last m)) f = on (Keeps m) (eqb mt 1) (λ e. tt) (λ e. says_keeps aim mt gid oid m f)
    no_close_in aim junk f = tt

    pub no_close : (aim : ℕ) (w : List Octets) → AllFree (replies w) → NoClose (items_of aim d w)
    unfolding items_of replies
    no_close aim [] f = tt
    no_close aim (p ∷ w) f =
        no_close_append (items_in aim d (meaning p)) (items_of aim d w)
        (no_close_in aim (meaning p) (free_left (replies_in (meaning p)) (replies w) f))
        (no_close aim w (free_right (replies_in (meaning p)) (replies w) f))

-- ---- the order of items where nothing closes

pub live_stays : {A : Type 0} (is : List Item) → NoClose is → Ends (walk live is) false → A
live_stays [] n e = clash e refl
live_stays (carry l ∷ is) n e = live_stays is n e
live_stays (credit c ∷ is) n e = live_stays is n e
live_stays (opened t ∷ is) n e = bad_walk false is e
live_stays (closed ∷ is) n e = absurd n

pub shut_now : (h : Bool) (is : List Item) → NoClose is → Ends (walk (start h) is) false → (h ≡ false) × (is ≡ [])
shut_now true is n e = live_stays is n e
shut_now false [] n e = (refl, refl)
shut_now false (carry l ∷ is) n e = bad_walk false is e
shut_now false (credit c ∷ is) n e = bad_walk false is e
shut_now false (opened t ∷ is) n e = live_stays is n e
shut_now false (closed ∷ is) n e = absurd n

-- ---- which connection a CONN_CLOSE named matters to its response alone

says_aim : (a b mt gid oid : ℕ) (m : Octets) → eqb mt 2 ≡ false → says a mt gid oid m ≡ says b mt gid oid m
unfolding heard_written
says_aim a b mt gid oid m e = rw e

items_aim_in : (a b d : ℕ) (q : Meaning) → replies_in q ≡ [] → items_in a d q ≡ items_in b d q
items_aim_in a b d (datum c n x) e = refl
items_aim_in a b d (control mt gid oid (more x)) e = refl
items_aim_in a b d (control mt gid oid (last m)) e = go (eqb mt 2) refl e
  where
    go : (t : Bool) → eqb mt 2 ≡ t → pick t (named gid oid ∷ []) [] ≡ [] → items_in a d (control mt gid oid (last m)) ≡ items_in b d (control mt gid oid (last m))
    go true z h = absurd (cons≢nil h)
    go false z h = ap (λ (x : Heard). items_by (change_heard (pick (eqb mt 1) Nothing x) m d)) (says_aim a b mt gid oid m z)
items_aim_in a b d junk e = refl

pub items_aim : (a b d : ℕ) (w : List Octets) → replies w ≡ [] → items_of a d w ≡ items_of b d w
unfolding items_of replies
items_aim a b d [] e = refl
items_aim a b d (p ∷ w) e =
    (λ i. items_aim_in a b d (meaning p) (left_nil (replies_in (meaning p)) (replies w) e) i ++ items_aim a b d w (right_nil (replies_in (meaning p)) e) i)
