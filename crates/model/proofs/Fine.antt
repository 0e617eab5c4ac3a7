-- The laws of `specs/invariant/Bench.antt`: what changes are as items, what keeps a wire sound, a store and the controller's connections in
-- order, and that a cold bench is fine.
-- Assumes nothing.
use Prim.Native.Nat.{ℕ, ◌≤◌, ◌<◌}
use native.Mathlib.Omega.{arith}
use mathlib.Core.Path.{◌≡◌, refl, sym, ap, ◌∙◌, subst}
use mathlib.Core.Logic.{◌⊎◌}
use mathlib.Core.Bool.{Bool, true, false}
use mathlib.Core.List.{List, [], ◌∷◌, ◌++◌}
use lib.Dec.{eqb}
use lib.ListN.{length}
use borrow.Author.Tests.{eqb-true, leb-false}
use Rattle.std.specs.Prelude.{Option}
use Rattle.octets.specs.Octets.{Octets, pick}
use Rattle.packets.specs.Segments.{Segment, last}
use Rattle.model.specs.Kinds.{Terms, Profile, Asked}
use Rattle.state.specs.Conn.{place_of, terms_of}
use Rattle.state.specs.Runs.{control_limit}
use Rattle.dh.specs.Contents.{written}
use Rattle.state.proofs.Chains.{on}
use Rattle.model.specs.Connection.{Connection, ControllerEnd, with_host, with_controller}
use Rattle.wires.specs.Meaning.{Meaning, datum, control, junk, meaning}
use Rattle.model.specs.State.{State, cold, at}
use Rattle.model.specs.Refusals.{no_conn}
use Rattle.ends.specs.Changes.{Change, stays, opens, closes, gives}
use Rattle.model.specs.Changes.{at_controller, at_host}
use Rattle.model.specs.calls.Consume.{is_loop}
use Rattle.model.specs.Observer.{Ledger, blank, put_by, read_by, put_all, change_in}
use Rattle.model.specs.invariant.Items.{Item, loaded, items_by, items_in, items_of, segs_of, puts_k, reads_k, puts_l, reads_l}
use Rattle.model.specs.invariant.Commands.{heads, replies, Tidy, Name, Aims}
use Rattle.model.specs.invariant.Bench.{Order, SoundIn, Sound, StoredIn, StoredFor, Standing, Fine, Kept, account_of}
use Rattle.model.proofs.Cases.{clash, each, each_append}
use Rattle.model.proofs.Acts.{cold_good}
use Rattle.model.proofs.Parameters.{defaults_within}
use Rattle.model.proofs.Order.{no_way}
use Rattle.state.specs.Profile.{ProfileWithin}

-- where the wires are the same by computation
pub kept : {s : State} {aim : ℕ} {l : ℕ → Ledger} → Fine s aim l → Kept s (account_of s aim l)
kept f = record { same_down = refl; same_up = refl; none_astray = refl; fine = f }

-- ---- changes and items

-- a change that the controller's numbers show
abbrev pub Plain : Change → Type 0
Plain stays = Unit {0}
Plain (opens t) = Unit {0}
Plain closes = Unit {0}
Plain (gives n) = ⊥

pub puts_change : (c : Change) (k : Connection) → Plain c → puts_k (items_by c) k ≡ with_controller (at_controller c k.controller) k
puts_change stays k p = refl
puts_change (opens t) k p = refl
puts_change closes k p = refl
puts_change (gives n) k p = absurd p

pub reads_change : (c : Change) (k : Connection) → reads_k (items_by c) k ≡ with_host (at_host c k.host) k
reads_change stays k = refl
reads_change (opens t) k = refl
reads_change closes k = refl
reads_change (gives n) k = refl

pub puts_l_change : (c : Change) (l : Ledger) → puts_l (items_by c) l ≡ put_by c l
puts_l_change stays l = refl
puts_l_change (opens t) l = refl
puts_l_change closes l = refl
puts_l_change (gives n) l = refl

pub reads_l_change : (c : Change) (ms : List Octets) (l : Ledger) → reads_l (items_by c) ms l ≡ read_by c l
reads_l_change stays ms l = refl
reads_l_change (opens t) ms l = refl
reads_l_change closes ms l = refl
reads_l_change (gives n) ms l = refl

puts_l_append : (a b : List Item) (l : Ledger) → puts_l (a ++ b) l ≡ puts_l b (puts_l a l)
puts_l_append [] b l = refl
puts_l_append (i ∷ a) b l = puts_l_append a b _

puts_l_in : (aim d : ℕ) (q : Meaning) (l : Ledger) → puts_l (items_in aim d q) l ≡ put_by (change_in aim d q) l
puts_l_in aim d (datum c n x) l =
    elim (eqb c d) as (λ b. puts_l (pick b (loaded n x ∷ []) []) l ≡ put_by (pick b (gives n) stays) l) [ true ↦ refl | false ↦ refl ]
puts_l_in aim d (control mt gid oid x) l = puts_l_change (change_in aim d (control mt gid oid x)) l
puts_l_in aim d junk l = refl

-- what the observer counts of packets put up is what their items say
pub put_all_law : (aim d : ℕ) (ps : List Octets) (l : Ledger) → put_all aim d ps l ≡ puts_l (items_of aim d ps) l
unfolding items_of
put_all_law aim d [] l = refl
put_all_law aim d (p ∷ ps) l =
    put_all_law aim d ps _
    ∙ ap (puts_l (items_of aim d ps)) (sym (puts_l_in aim d (meaning p) l))
    ∙ sym (puts_l_append (items_in aim d (meaning p)) (items_of aim d ps) l)

-- ---- small laws

pub sound_append : (a b : List Octets) → Sound a → Sound b → Sound (a ++ b)
sound_append = each_append (λ p. SoundIn (meaning p))

pub sound_data : (w : List Octets) (p : Octets) (c n : ℕ) (x : Segment) → meaning p ≡ datum c n x → Sound w → Sound (w ++ (p ∷ []))
sound_data w p c n x means h = sound_append w (p ∷ []) h (rw means (tt, tt))

pub sound_control : (p : Octets) (mt gid oid : ℕ) (m : Octets) → meaning p ≡ control mt gid oid (last m)
    → ((mt ≡ 2) × (written 2 gid oid m ≡ true)) ⊎ (mt ≡ 3) → length m ≤ control_limit → Sound (p ∷ [])
sound_control p mt gid oid m means e h = rw means ((e, h), tt)

-- the observer counts the credits of a data packet put up
pub put_data : (aim d : ℕ) (p : Octets) (c n : ℕ) (x : Segment) (l : Ledger) → meaning p ≡ datum c n x
    → put_all aim d (p ∷ []) l ≡ put_by (pick (eqb c d) (gives n) stays) l
put_data aim d p c n x l means = rw means refl

pub stored_append : (d : ℕ) (a b : List Octets) → StoredFor d a → StoredFor d b → StoredFor d (a ++ b)
stored_append d = each_append (λ p. StoredIn d (meaning p))

-- a Conn ID of the five is small
pub conn_small : (c : ℕ) → no_conn c ≡ false → c < 16
unfolding place_of
conn_small c e = small (leb-false 5 (place_of c) e)
  where
    Low : ℕ → Type 0
    Low n = n < 5 → c < 16

    is : (n : ℕ) → n < 16 → eqb c n ≡ true → c < 16
    is n h t = subst (λ (x : ℕ). x < 16) (sym (eqb-true c n t)) h

    small : place_of c < 5 → c < 16
    small =
        on Low (eqb c 0) (λ t h. is 0 (omega arith) t)
        (λ f. on Low (eqb c 2) (λ t h. is 2 (omega arith) t)
        (λ f. on Low (eqb c 3) (λ t h. is 3 (omega arith) t)
        (λ f. on Low (eqb c 4) (λ t h. is 4 (omega arith) t)
        (λ f. on Low (eqb c 5) (λ t h. is 5 (omega arith) t) (λ f h. absurd (omega arith))))))

-- connections that are open at the controller where others were
pub order_open : {g g' : ℕ → Connection} {w : List Octets} {ks : List Name} {p : Option Asked}
    → ((d : ℕ) → eqb 0 d ≡ false → (g' d).controller.opened ≡ (g d).controller.opened) → Order g w ks p → Order g' w ks p
order_open e r = record { clear = λ d z c. r.clear d z (sym (e d z) ∙ c); single = r.single; tidy = r.tidy; empty = r.empty }

pub at_keeps : {A : Type 0} (c : ℕ) (f : Connection → Connection) (g : ℕ → Connection) (r : Connection → A)
    → ((k : Connection) → r (f k) ≡ r k) → (d : ℕ) → r (at c f g d) ≡ r (g d)
at_keeps c f g r h d = on (λ (k : Connection). r k ≡ r (g d)) (eqb c d) (λ e. h (g d)) (λ e. refl)

-- what the host does leaves the controller's connections
pub standing_same : {g g' : ℕ → Connection} {active : Bool} {p : Profile}
    → ((d : ℕ) → (g' d).controller ≡ (g d).controller) → Standing g active p → Standing g' active p
standing_same e h =
    record {
      stores = λ d. subst (λ (k : ControllerEnd). StoredFor d k.store) (sym (e d)) (h.stores d);
      air = h.air ∙ ap (λ (k : ControllerEnd). k.opened) (sym (e 0));
      known = λ d z. ap (λ (k : ControllerEnd). k.opened) (e d) ∙ h.known d z;
      granted = λ d z. ap (λ (k : ControllerEnd). k.grant) (e d) ∙ h.granted d (ap (λ (k : ControllerEnd). k.opened) (sym (e d)) ∙ z);
    }

-- one connection's store changes, and nothing opens or closes
pub standing_at : (c : ℕ) (f : ControllerEnd → ControllerEnd) {g : ℕ → Connection} {active : Bool} {p : Profile}
    → ((k : ControllerEnd) → (f k).opened ≡ k.opened) → ((k : ControllerEnd) → (f k).grant ≡ k.grant)
    → StoredFor c (f (g c).controller).store
    → Standing g active p → Standing (at c (λ k. with_controller (f k.controller) k) g) active p
standing_at c f {g} o r st h =
    record {
      stores = each c (λ d b. StoredFor d (pick b (with_controller (f (g d).controller) (g d)) (g d)).controller.store) st h.stores;
      air = h.air ∙ sym (opened 0);
      known = λ d z. opened d ∙ h.known d z;
      granted = λ d z. at_keeps c (λ k. with_controller (f k.controller) k) g (λ k. k.controller.grant) (λ k. r k.controller) d ∙ h.granted d (sym (opened d) ∙ z);
    }
  where
    opened : (d : ℕ) → (at c (λ k. with_controller (f k.controller) k) g d).controller.opened ≡ (g d).controller.opened
    opened d = at_keeps c (λ k. with_controller (f k.controller) k) g (λ k. k.controller.opened) (λ k. o k.controller) d

-- what opens is one of the five, with the profile's terms for it
abbrev pub ChangeOk : Profile → ℕ → Change → Type 0
ChangeOk p d stays = Unit {0}
ChangeOk p d (opens t) = (no_conn d ≡ false) × (t ≡ terms_of p d)
ChangeOk p d closes = Unit {0}
ChangeOk p d (gives n) = Unit {0}

-- connections open and close
pub standing_change : {g : ℕ → Connection} {active : Bool} {p : Profile} (change : ℕ → Change) (active' : Bool)
    → ((d : ℕ) → ChangeOk p d (change d)) → active' ≡ (at_controller (change 0) (g 0).controller).opened
    → Standing g active p → Standing (λ d. with_controller (at_controller (change d) (g d).controller) (g d)) active' p
standing_change {g} {active} {p} change active' ok air h =
    record {
      stores = λ d. stored d (change d);
      air = air;
      known = λ d e. shut d e (change d) (ok d);
      granted = λ d. grants d (change d) (ok d);
    }
  where
    stored : (d : ℕ) (c : Change) → StoredFor d (at_controller c (g d).controller).store
    stored d stays = h.stores d
    stored d (opens t) = tt
    stored d closes = tt
    stored d (gives n) = h.stores d

    shut : (d : ℕ) → no_conn d ≡ true → (c : Change) → ChangeOk p d c → (at_controller c (g d).controller).opened ≡ false
    shut d e stays o = h.known d e
    shut d e (opens t) o = clash e o.0
    shut d e closes o = refl
    shut d e (gives n) o = h.known d e

    grants : (d : ℕ) (c : Change) → ChangeOk p d c → (at_controller c (g d).controller).opened ≡ true
        → (at_controller c (g d).controller).grant ≡ (terms_of p d).credits
    grants d stays o e = h.granted d e
    grants d (opens t) o e = ap (λ (x : Terms). x.credits) o.1
    grants d closes o e = clash e refl
    grants d (gives n) o e = h.granted d e

-- ---- fresh and power

pub cold_fine : (p : Profile) → ProfileWithin p → Fine (cold p) 0 (λ d. blank)
unfolding segs_of items_of heads replies Tidy
cold_fine p h =
    record {
      good = λ d. cold_good (is_loop d);
      order = record { clear = λ d z c. refl; single = refl; tidy = λ b. tt; empty = λ b e. tt };
      way = no_way (Aims 0);
      aimed = tt;
      sound = tt;
      heard = refl;
      standing = record { stores = λ d. tt; air = refl; known = λ d e. refl; granted = λ d e. clash e refl };
      limits = h;
      config = defaults_within;
    }
