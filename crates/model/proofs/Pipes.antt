-- Each act on one connection keeps its pipes: send, push, what down does to data, consume, reply, air 8, the items that the controller
-- puts up and those that the host reads. What is not here, as credits that the host reads, leaves them as they are.
-- Assumes nothing.
use Prim.Native.Nat.{ℕ, ◌≤◌}
use mathlib.Core.Bool.{Bool, true, false}
use mathlib.Core.List.{List, [], ◌∷◌, ◌++◌, append_assoc, append-nil}
use mathlib.Core.Path.{◌≡◌, refl, ap, ◌∙◌}
use lib.ListN.{length}
use Rattle.octets.specs.Octets.{Octets, pick}
use Rattle.packets.specs.Segments.{Segment, segments}
use Rattle.packets.specs.Reassembly.{Run, run, grown, finished, Flow}
use Rattle.packets.proofs.Reassembly.{flow_start, flow_same, flow_send, flow_read}
use Rattle.state.specs.Runs.{data_limit}
use Rattle.model.specs.Connection.{Connection, with_host, with_controller, sent, pushed, stored, consumed, spoken}
use Rattle.wires.specs.Meaning.{meaning}
use Rattle.model.specs.calls.Consume.{segment_in}
use Rattle.model.specs.Observer.{Ledger, pushed_l, arrived_l, consumed_l, sent_l, spoken_l}
use Rattle.model.specs.invariant.Items.{Item, carry, credit, opened, closed, loaded, store_segs, put_k, put_l, read_k, read_l, up_segs}
use Rattle.model.specs.invariant.Phases.{walk, start, Ends}
use Rattle.model.specs.invariant.Link.{Ways, ways, below, source, Pipes}
use Rattle.model.proofs.Cases.{clash}
use Rattle.model.proofs.Items.{up_segs_append, store_first, store_last}
use Rattle.model.proofs.Phases.{carry_first, opened_first, closed_first}
use Rattle.model.proofs.Numbers.{Allowed, Handed}

-- ---- flows

none_yet : (loop : Bool) → Flow data_limit (run []) (pick loop [] []) (pick loop [] []) []
none_yet true = flow_start data_limit
none_yet false = flow_start data_limit

-- a message taken at the source of the way up
up_send : (loop : Bool) (size : ℕ) (m : Octets) → length m ≤ data_limit → (q : Run) (x a b a' : List Segment) (t c o : List Octets) → a ++ segments size m ≡ a'
    → Flow data_limit q (x ++ pick loop a b) (pick loop t c) o → Flow data_limit q (x ++ pick loop a' b) (pick loop (t ++ (m ∷ [])) c) o
up_send true size m fit q x a b a' t c o e f =
    flow_same (append_assoc x a (segments size m) ∙ ap (λ (ss : List Segment). x ++ ss) e) (flow_send size m fit f)
up_send false size m fit q x a b a' t c o e f = f

-- ---- any ways

-- where it is not open at the controller nothing flows
pub still : {loop : Bool} {w : Ways} → w.here ≡ false → (w.there ≡ false → w.hand ≡ []) → (w.there ≡ false → w.host_run ≡ run []) → w.speech ≡ [] → Pipes loop w
still c h r s = record { hand = h; reassembly = r; speech = (λ a. s); to_controller = (λ a. clash a c); to_host = (λ a. clash a c) }

-- segments in hand, on the down wire and stored: h, d, s
abbrev spread : List Segment → List Segment → List Segment → Ways → Ways
spread h d s w =
    record { there = w.there; hand = h; host_run = w.host_run; down = d; here = w.here; stored = s; controller_run = w.controller_run; speech = w.speech; up = w.up; talk = w.talk }

-- the same segments, further on their way down
further : {loop : Bool} {w : Ways} (h d s : List Segment) → (w.there ≡ false → h ≡ []) → below w ≡ s ++ (d ++ h) → Pipes loop w → Pipes loop (spread h d s w)
further {loop} {w} h d s none e g =
    record {
      hand = none;
      reassembly = g.reassembly;
      speech = g.speech;
      to_controller = (λ a. flow_same e (g.to_controller a));
      to_host = (λ a. flow_same (ap (λ (ss : List Segment). w.up ++ pick loop ss w.speech) e) (g.to_host a));
    }

module _ {loop : Bool} (k : Connection) (d : List Segment) (u : List Item) (l : Ledger) where
  -- ---- the host sends and pushes

  pub send_pipes : (m : Octets) → length m ≤ data_limit → k.host.opened ≡ true → k.host.hand ≡ [] → Pipes loop (ways k d u l)
      → Pipes loop (ways (with_host (sent m k.host) k) d u (sent_l m l))
  send_pipes m fit h e g =
      record {
        hand = (λ a. clash h a);
        reassembly = g.reassembly;
        speech = g.speech;
        to_controller = (λ a. flow_same same_list (flow_send k.host.payload m fit (g.to_controller a)));
        to_host = (λ a. up_send loop k.host.payload m fit _ (up_segs u) (below (ways k d u l)) k.controller.speech _ _ l.talk.spoken _ same_list (g.to_host a));
      }
    where
      same_list : (store_segs k.controller.store ++ (d ++ k.host.hand)) ++ segments k.host.payload m ≡ store_segs k.controller.store ++ (d ++ segments k.host.payload m)
      same_list = rw e (simp (append-nil, append_assoc))

  pub push_pipes : (x : Segment) (rest : List Segment) → k.host.opened ≡ true → k.host.hand ≡ x ∷ rest → Pipes loop (ways k d u l)
      → Pipes loop (ways (with_host (pushed rest k.host) k) (d ++ (x ∷ [])) u (pushed_l l))
  push_pipes x rest h e = further rest (d ++ (x ∷ [])) (store_segs k.controller.store) (λ a. clash h a) (rw e (simp append_assoc))

  -- ---- the controller takes a packet off the down wire, and stores it where the connection is open

  pub deliver_pipes : (p : Octets) (x : Segment) → segment_in (meaning p) ≡ x ∷ [] → Pipes loop (ways k (x ∷ d) u l)
      → Pipes loop (ways (with_controller (stored p k.controller) k) d u (arrived_l l))
  deliver_pipes p x e g =
      further k.host.hand d (store_segs (k.controller.store ++ (p ∷ []))) g.hand (rw (store_last k.controller.store p x e, append_assoc)) g

  -- ---- the controller puts an item up: what it owes, an opening, a closing

  pub put_pipes : (i : Item) → Allowed k d u i → Pipes loop (ways k d u l) → Pipes loop (ways (put_k i k) d (u ++ (i ∷ [])) (put_l i l))
  unfolding store_segs
  put_pipes (carry x) m g = absurd m
  put_pipes (credit n) m g = rw (up_segs_append, append-nil (up_segs u)) g
  put_pipes (opened t) m g =
      record {
        hand = g.hand;
        reassembly = g.reassembly;
        speech = (λ a. refl);
        to_controller = (λ a. rw (m.1, g.hand m.0) (flow_start data_limit));
        to_host = (λ a. rw (m.1, m.2, g.hand m.0, g.reassembly m.0) (none_yet loop));
      }
  put_pipes closed m g = still refl g.hand g.reassembly refl

  -- ---- the host reads an item

  -- where nothing was in hand, nothing is lost
  emptied : (b : Bool) (p n m : ℕ) → (k.controller.opened ≡ true → k.host.opened ≡ false) → Pipes loop (ways k d u l)
      → Pipes loop (ways (with_host (record { opened = b; payload = p; grant = n; held = m; hand = []; run = run [] }) k) d u l)
  emptied b p n m h g =
      record {
        hand = (λ a. refl);
        reassembly = (λ a. refl);
        speech = g.speech;
        to_controller = (λ a. rw (g.hand (h a)) at (g.to_controller a));
        to_host = (λ a. rw (g.hand (h a), g.reassembly (h a)) at (g.to_host a));
      }

  pub read_pipes : (i : Item) (ms : List Octets) → Handed k i ms → Ends (walk (start k.host.opened) (i ∷ u)) k.controller.opened
      → Pipes loop (ways k d (i ∷ u) l) → Pipes loop (ways (read_k i k) d u (read_l i ms l))
  read_pipes (carry x) ms h e g =
      record {
        hand = g.hand;
        reassembly = (λ a. clash (carry_first k.host.opened k.controller.opened x u e).0 a);
        speech = g.speech;
        to_controller = g.to_controller;
        to_host = (λ a. rw h (flow_read x.segment (g.to_host a)));
      }
  read_pipes (credit n) ms h e g = g
  read_pipes (opened t) ms h e g = emptied true t.payload t.credits t.credits (λ a. (opened_first k.host.opened k.controller.opened t u e).0) g
  read_pipes closed ms h e g = emptied false 0 0 0 (closed_first k.host.opened k.controller.opened u e).1 g

  -- ---- the controller consumes a stored packet, and the items going up are v; on a loopback the packet is put up again

  pub consume_pipes : (p : Octets) (rest : List Octets) (x : Segment) → segment_in (meaning p) ≡ x ∷ [] → k.controller.store ≡ p ∷ rest → (v : List Item)
      → up_segs u ++ source loop (ways k d u l) ≡ up_segs v ++ pick loop (store_segs rest ++ (d ++ k.host.hand)) k.controller.speech → Pipes loop (ways k d u l)
      → Pipes loop (ways (with_controller (consumed rest (grown data_limit k.controller.run x) k.controller) k) d v (consumed_l (finished data_limit k.controller.run x) l))
  consume_pipes p rest x m e v same g =
      record {
        hand = g.hand;
        reassembly = g.reassembly;
        speech = g.speech;
        to_controller = (λ a. flow_read x (rw (e, store_first p rest x m) at (g.to_controller a)));
        to_host = (λ a. flow_same same (g.to_host a));
      }

module _ (k : Connection) (d : List Segment) (u : List Item) (l : Ledger) where
  pub echoed : (p : Octets) (rest : List Octets) (n : ℕ) (x : Segment) → segment_in (meaning p) ≡ x ∷ [] → k.controller.store ≡ p ∷ rest
      → up_segs u ++ below (ways k d u l) ≡ up_segs (u ++ (loaded n x ∷ [])) ++ (store_segs rest ++ (d ++ k.host.hand))
  echoed p rest n x m e = rw (e, store_first p rest x m, up_segs_append) (simp append_assoc)

  -- ---- the endpoint speaks, where there is no loopback

  pub reply_pipes : (n : ℕ) (x : Segment) (rest : List Segment) → k.controller.opened ≡ true → k.controller.speech ≡ x ∷ rest → Pipes false (ways k d u l)
      → Pipes false (ways (with_controller (spoken rest k.controller) k) d (u ++ (loaded n x ∷ [])) l)
  reply_pipes n x rest c e g =
      record {
        hand = g.hand;
        reassembly = g.reassembly;
        speech = (λ a. clash c a);
        to_controller = g.to_controller;
        to_host = (λ a. flow_same (rw (e, up_segs_append) (simp append_assoc)) (g.to_host a));
      }

  pub air_pipes : (m : Octets) → length m ≤ data_limit → k.controller.opened ≡ true → k.controller.speech ≡ [] → Pipes false (ways k d u l)
      → Pipes false (ways (with_controller (spoken (segments 255 m) k.controller) k) d u (spoken_l m l))
  air_pipes m fit c e g =
      record {
        hand = g.hand;
        reassembly = g.reassembly;
        speech = (λ a. clash c a);
        to_controller = g.to_controller;
        to_host = (λ a. flow_same (rw e (simp append-nil)) (flow_send 255 m fit (g.to_host a)));
      }
