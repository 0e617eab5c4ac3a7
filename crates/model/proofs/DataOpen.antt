-- Data on the up wire is for a connection that is open at the host when it comes: it follows from the order of what lies on the wire.
-- Assumes nothing.
use Prim.Native.Nat.{ℕ}
use mathlib.Core.Path.{◌≡◌, refl, sym, ap, ◌∙◌, subst}
use mathlib.Core.Logic.{◌⊎◌, inl, inr}
use mathlib.Core.Bool.{Bool, true, false, ◌||◌}
use mathlib.Core.List.{List, [], ◌∷◌, ◌++◌}
use lib.Dec.{eqb}
use borrow.Author.Tests.{eq-eqb}
use Rattle.std.specs.Prelude.{Option, Some, None}
use Rattle.octets.specs.Octets.{Octets, pick}
use Rattle.packets.specs.Segments.{Segment}
use Rattle.model.specs.Kinds.{Asked}
use Rattle.dh.specs.Host.{aim_of}
use Rattle.wires.specs.Meaning.{Meaning, datum, control, junk, meaning}
use Rattle.model.specs.State.{State}
use Rattle.ends.specs.Changes.{Change, stays, opens, closes, gives}
use Rattle.model.specs.Observer.{Ledger, change_in}
use Rattle.model.specs.Reachable.{Always, opened_by, open_after, is_opening, opens_in, DataOpen}
use Rattle.model.specs.invariant.Items.{Item, loaded, items_by, items_in, items_of}
use Rattle.model.specs.invariant.Phases.{Phase, shut, live, over, bad, walk, start, Ends}
use Rattle.model.specs.invariant.Commands.{heads, replies}
use Rattle.model.specs.invariant.Bench.{Fine, Aimed}
use Rattle.model.proofs.Cases.{clash, right_nil}
use Rattle.model.proofs.Phases.{walk_append, bad_walk}
use Rattle.model.proofs.Meanings.{items_of_append}
use Rattle.model.proofs.Closing.{items_aim}
use Rattle.model.proofs.Trace.{reachable}

-- ---- the phase is that of the host

-- a phase in which the connection is open at the host, or is not
abbrev Shows : Phase → Bool → Type 0
Shows shut b = b ≡ false
Shows live b = b ≡ true
Shows over b = b ≡ false
Shows bad b = Unit {0}

start_shows : (b : Bool) → Shows (start b) b
start_shows true = refl
start_shows false = refl

change_shows : (h : Phase) (b : Bool) (c : Change) → Shows h b → Shows (walk h (items_by c)) (opened_by c b)
change_shows h b stays e = e
change_shows shut b (opens t) e = refl
change_shows live b (opens t) e = tt
change_shows over b (opens t) e = tt
change_shows bad b (opens t) e = tt
change_shows shut b closes e = refl
change_shows live b closes e = refl
change_shows over b closes e = refl
change_shows bad b closes e = tt
change_shows shut b (gives n) e = tt
change_shows live b (gives n) e = e
change_shows over b (gives n) e = tt
change_shows bad b (gives n) e = tt

data_shows : (h : Phase) (b : Bool) (n : ℕ) (x : Segment) → Shows h b → Shows (walk h (loaded n x ∷ [])) b
data_shows shut b n x e = tt
data_shows live b n x e = e
data_shows over b n x e = tt
data_shows bad b n x e = tt

packet_shows : (aim c : ℕ) (h : Phase) (b : Bool) (q : Meaning) → Shows h b → Shows (walk h (items_in aim c q)) (opened_by (change_in aim c q) b)
packet_shows aim c h b (datum d n x) e =
    elim (eqb d c) as (λ y. Shows (walk h (pick y (loaded n x ∷ []) [])) (opened_by (pick y (gives n) stays) b)) [ true ↦ data_shows h b n x e | false ↦ e ]
packet_shows aim c h b (control mt gid oid x) e = change_shows h b (change_in aim c (control mt gid oid x)) e
packet_shows aim c h b junk e = e

wire_shows : (aim c : ℕ) (h : Phase) (b : Bool) (w : List Octets) → Shows h b → Shows (walk h (items_of aim c w)) (open_after aim c b w)
unfolding items_of
wire_shows aim c h b [] e = e
wire_shows aim c h b (p ∷ w) e =
    rw walk_append
    (wire_shows aim c (walk h (items_in aim c (meaning p))) (opened_by (change_in aim c (meaning p)) b) w (packet_shows aim c h b (meaning p) e))

-- ---- data comes while it is live

live_data : (h : Phase) (n : ℕ) (x : Segment) (is : List Item) (b o : Bool) → Ends (walk h (loaded n x ∷ is)) b → Shows h o → o ≡ true
live_data shut n x is b o e s = bad_walk b is e
live_data live n x is b o e s = s
live_data over n x is b o e s = bad_walk b is e
live_data bad n x is b o e s = bad_walk b is e

-- what is open after packets that open nothing was open before them
opened_by_law : (c : Change) (b : Bool) → opened_by c b ≡ true → (b ≡ true) ⊎ (is_opening c ≡ true)
opened_by_law stays b e = inl e
opened_by_law (opens t) b e = inr refl
opened_by_law closes b e = clash e refl
opened_by_law (gives n) b e = inl e

open_or : (aim c : ℕ) (b : Bool) (w : List Octets) → open_after aim c b w ≡ true → (b ≡ true) ⊎ (opens_in aim c w ≡ true)
open_or aim c b [] e = inl e
open_or aim c b (p ∷ w) e = go (open_or aim c (opened_by (change_in aim c (meaning p)) b) w e)
  where
    later : (x y : Bool) → y ≡ true → (x || y) ≡ true
    later true y h = refl
    later false y h = h

    here : (b ≡ true) ⊎ (is_opening (change_in aim c (meaning p)) ≡ true) → (b ≡ true) ⊎ (opens_in aim c (p ∷ w) ≡ true)
    here (inl h) = inl h
    here (inr h) = inr (rw h refl)

    go : (opened_by (change_in aim c (meaning p)) b ≡ true) ⊎ (opens_in aim c w ≡ true) → (b ≡ true) ⊎ (opens_in aim c (p ∷ w) ≡ true)
    go (inl h) = here (opened_by_law (change_in aim c (meaning p)) b h)
    go (inr h) = inr (later (is_opening (change_in aim c (meaning p))) (opens_in aim c w) h)

-- ---- on the bench

-- the connection that the host's unanswered command named is the one that the answers are about
host_aim : (p : Option Asked) (aim c : ℕ) (w : List Octets) → Aimed p aim → (p ≡ None → replies w ≡ []) → items_of aim c w ≡ items_of (aim_of p) c w
host_aim None aim c w a none = items_aim aim 0 c w (none refl)
host_aim (Some k) aim c w a none = ap (λ (n : ℕ). items_of n c w) (sym a)

module _ (s : State) (aim : ℕ) (l : ℕ → Ledger) (f : Fine s aim l) where
  no_replies : s.host.pending ≡ None → replies s.up ≡ []
  no_replies e = right_nil (heads s.down) (rw e at f.order.single)

  phase_of_law : (c : ℕ) → Ends (walk (start (s.conns c).host.opened) (items_of (aim_of s.host.pending) c s.up)) (s.conns c).controller.opened
  phase_of_law c = rw (host_aim s.host.pending aim c s.up f.aimed no_replies) at (f.good c).numbers.phase

  comes_open : (before : List Octets) (p : Octets) (behind : List Octets) (c n : ℕ) (x : Segment) → s.up ≡ before ++ (p ∷ behind) → meaning p ≡ datum c n x
      → open_after (aim_of s.host.pending) c (s.conns c).host.opened before ≡ true
  unfolding items_of
  comes_open before p behind c n x split means =
      let a = aim_of s.host.pending in
      let h = start (s.conns c).host.opened in
      let items : items_of a c s.up ≡ items_of a c before ++ (loaded n x ∷ items_of a c behind) =
      ap (items_of a c) split ∙ items_of_append a c before (p ∷ behind) ∙ rw (means, eq-eqb c c refl) refl in
      live_data (walk h (items_of a c before)) n x (items_of a c behind) (s.conns c).controller.opened (open_after a c (s.conns c).host.opened before)
      (subst (λ (q : Phase). Ends q (s.conns c).controller.opened) (ap (walk h) items ∙ walk_append h (items_of a c before) (loaded n x ∷ items_of a c behind)) (phase_of_law c))
      (wire_shows a c h (s.conns c).host.opened before (start_shows (s.conns c).host.opened))

  all_open : DataOpen s
  all_open =
      record {
        then_open = comes_open;
        open_or_opening =
            λ before p behind c n x split means.
            open_or (aim_of s.host.pending) c (s.conns c).host.opened before (comes_open before p behind c n x split means);
      }

pub data_open : Always DataOpen
data_open profile ok calls = all_open _ _ _ (reachable profile ok calls).fine
