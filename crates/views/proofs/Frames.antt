-- What a write leaves alone of the view: each part of the area has its own octets.
-- Assumes nothing.
use Prim.Native.Nat.{ℕ, ◌+◌, ◌≤◌, ◌<◌}
use native.Mathlib.Decide.{dec_lt}
use native.Mathlib.Omega.{arith}
use mathlib.Core.Path.{◌≡◌, refl, sym, ap, ◌∙◌, subst}
use mathlib.Core.Logic.{◌⊎◌, inl, inr}
use mathlib.Core.Bool.{Bool, true, false}
use mathlib.Core.List.{List, []}
use lib.ListN.{length, get_or, set}
use lib.Seq.{get_or-set_same, get_or-set_other}
use lib.Dec.{eqb}
use borrow.Author.Tests.{eqb-true, eqb-false}
use Rattle.octets.specs.Octets.{Octets, pick, cut, splice}
use Rattle.packets.specs.Segments.{Segment}
use Rattle.views.specs.Kinds.{Hand, Counts}
use Rattle.state.specs.Conn.{place_of, closed_counts, counts_of}
use Rattle.state.proofs.Places.{places_differ}
use Rattle.state.proofs.Conns.{past_five}
use Rattle.config.specs.Table.{config_size}
use Rattle.record.specs.Layout.{config_at, config_octets}
use Rattle.record.specs.Fit.{FitCounts}
use Rattle.area.specs.Map.{payload_size, store_slots, store_size, message_size, places, store_at, hand_at, endpoint_at, host_run_at, controller_run_at}
use Rattle.area.specs.Ring.{tab, packets_from}
use Rattle.area.proofs.Rings.{apart, store}
use Rattle.model.specs.Connection.{Connection}
use Rattle.model.specs.State.{at}
use Rattle.views.specs.View.{hand_of, run_of, connection_of, speech_of, conns_of}
use Rattle.views.proofs.Parts.{Same, hand_same, run_same, packets_same}

-- ---- two areas that agree outside some octets

abbrev pub Outside : ℕ → ℕ → Octets → Octets → Type 0
Outside lo hi a b = (i k : ℕ) → (i + k ≤ lo) ⊎ (hi ≤ i) → cut i k b ≡ cut i k a

pub outside_splice : (lo hi : ℕ) (a : Octets) (at : ℕ) (v : Octets) → lo ≤ at → at + length v ≤ hi → Outside lo hi a (splice a at v)
outside_splice lo hi a at v l m i k (inl h) = apart a at v i k (inl (omega arith))
outside_splice lo hi a at v l m i k (inr h) = apart a at v i k (inr (omega arith))

pub outside_none : (lo hi : ℕ) (a : Octets) → Outside lo hi a a
outside_none lo hi a i k h = refl

pub outside_then : (lo hi : ℕ) (a b c : Octets) → Outside lo hi a b → Outside lo hi b c → Outside lo hi a c
outside_then lo hi a b c f g i k h = g i k h ∙ f i k h

pub same_outside : (lo hi at n : ℕ) (a b : Octets) → (at + n ≤ lo) ⊎ (hi ≤ at) → Outside lo hi a b → Same at n a b
same_outside lo hi at n a b (inl h) o i k l m = o i k (inl (omega arith))
same_outside lo hi at n a b (inr h) o i k l m = o i k (inr (omega arith))

-- the configuration, behind the record
pub config_outside : (lo hi : ℕ) (a b : Octets) → hi ≤ config_at → Outside lo hi a b → config_octets b ≡ config_octets a
unfolding config_octets
config_outside lo hi a b h o = o config_at config_size (inr h)

-- ---- one connection

-- a place's store, message in hand and runs are kept
pub record KeptAt (p : ℕ) (a b : Octets) : Type 0 where
  pub store : Same (store_at p) store_size a b
  pub hand : Same (hand_at p) message_size a b
  pub host_run_law : Same (host_run_at p) message_size a b
  pub controller_run_law : Same (controller_run_at p) message_size a b

pub connection_kept : (p : ℕ) (a b : Octets) (k : Counts) (s : List Segment) → FitCounts k → KeptAt p a b → connection_of p b k s ≡ connection_of p a k s
connection_kept p a b k s f kept i =
    record {
      host =
          record {
            opened = k.host.opened;
            payload = k.host.payload;
            grant = k.host.grant;
            held = k.host.held;
            hand = hand_same (hand_at p) k.host.payload a b k.host.hand f.hand.at f.hand.len kept.hand i;
            run = run_same (host_run_at p) message_size a b k.host.run f.host_run_law kept.host_run_law i;
          };
      controller =
          record {
            opened = k.controller.opened;
            grant = k.controller.grant;
            owed = k.controller.owed;
            store = packets_same (store_at p) store_slots store a b k.controller.store kept.store i;
            run = run_same (controller_run_at p) message_size a b k.controller.run f.controller_run_law kept.controller_run_law i;
            speech = s;
          };
    }

-- an ID that no connection has stands for a closed one, whatever the octets
none_kept : (p : ℕ) (a b : Octets) (s : List Segment) → connection_of p b closed_counts s ≡ connection_of p a closed_counts s
unfolding hand_of run_of packets_from tab cut
none_kept p a b s = refl

-- ---- all connections

module _ (a b : Octets) (conns : List Counts) (n : length conns ≡ 5) (fits : (p : ℕ) → p < places → FitCounts (get_or conns p closed_counts)) where
  -- one whose place is kept
  pub conn_kept : (d : ℕ) (s : List Segment) → (place_of d < places → KeptAt (place_of d) a b) → connection_of (place_of d) b (counts_of conns d) s ≡ connection_of (place_of d) a (counts_of conns d) s
  conn_kept d s kept = go (dec_lt (place_of d) 5)
    where
      go : Dec (place_of d < places) → connection_of (place_of d) b (counts_of conns d) s ≡ connection_of (place_of d) a (counts_of conns d) s
      go (yes l) = connection_kept (place_of d) a b (counts_of conns d) s (fits (place_of d) l) (kept l)
      go (no l) =
          let e : counts_of conns d ≡ closed_counts = past_five conns (place_of d) n l in
          ap (λ (k : Counts). connection_of (place_of d) b k s) e ∙ none_kept (place_of d) a b s ∙ ap (λ (k : Counts). connection_of (place_of d) a k s) (sym e)

  -- all of them
  pub conns_kept : (h : Hand) → ((p : ℕ) → p < places → KeptAt p a b) → hand_of endpoint_at payload_size b h ≡ hand_of endpoint_at payload_size a h → conns_of b h conns ≡ conns_of a h conns
  conns_kept h kept e i d =
      ((λ j. connection_of (place_of d) b (counts_of conns d) (pick (eqb 0 d) (e j) []))
      ∙ conn_kept d (speech_of a h d) (kept (place_of d))) i

  -- all but one, which is changed
  pub conns_changed : (c : ℕ) → place_of c < places → (g h : Hand) (k : Counts) (f : Connection → Connection)
      → connection_of (place_of c) b k (speech_of b g c) ≡ f (connection_of (place_of c) a (counts_of conns c) (speech_of a h c))
      → ((p : ℕ) → p < places → (place_of c ≡ p → ⊥) → KeptAt p a b)
      → ((d : ℕ) → (c ≡ d → ⊥) → speech_of b g d ≡ speech_of a h d)
      → conns_of b g (set conns (place_of c) k) ≡ at c f (conns_of a h conns)
  conns_changed c l g h k f e kept speech i d = go (eqb c d) refl i
    where
      go : (t : Bool) → eqb c d ≡ t → conns_of b g (set conns (place_of c) k) d ≡ pick t (f (conns_of a h conns d)) (conns_of a h conns d)
      go true q =
          subst (λ (x : ℕ). conns_of b g (set conns (place_of c) k) x ≡ f (conns_of a h conns x)) (eqb-true c d q)
          ((λ j. connection_of (place_of c) b (get_or-set_same conns (place_of c) k closed_counts (omega arith) j) (speech_of b g c)) ∙ e)
      go false q =
          let ne : c ≡ d → ⊥ = eqb-false c d q in
          (λ j. connection_of (place_of d) b (get_or-set_other conns (place_of c) (place_of d) k closed_counts (λ q. places_differ c d l ne (sym q)) j) (speech d ne j))
          ∙ conn_kept d (speech_of a h d) (λ m. kept (place_of d) m (places_differ c d l ne))
