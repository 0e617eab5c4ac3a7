-- Every mover's equation, in one result.
-- Assumes nothing.
use Prim.Native.Nat.{ℕ, ◌≤◌, ◌<◌}
use native.Mathlib.Omega.{arith}
use mathlib.Core.Path.{◌≡◌}
use mathlib.Core.Bool.{true}
use mathlib.Core.List.{◌∷◌}
use Rattle.octets.specs.Octets.{Octets, cut}
use Rattle.packets.specs.Segments.{segment_at}
use Rattle.views.specs.Kinds.{Record}
use Rattle.state.specs.Conn.{place_of, counts_of, hand_after}
use Rattle.area.specs.Map.{payload_size, store_slots, places, store_at, hand_at, endpoint_at}
use Rattle.area.proofs.Rings.{store, packets_took}
use Rattle.views.specs.View.{hand_of, view}
use Rattle.views.specs.Moves.{Sound, Moves, Cold}
use Rattle.views.proofs.Parts.{hand_gone}
use Rattle.views.proofs.Moved.{put_down, put_up, echo_up, took_down_law, took_up}
use Rattle.views.proofs.Places.{put_store, put_hand, join_host, join_controller, counts_set}
use Rattle.views.proofs.Others.{put_endpoint, join_hearing, join_asking, past_runs, put_config, cold_view}
use Rattle.views.proofs.Commands.{puts_down}

pub moves : (a : Octets) (r : Record) → Sound a r → Moves a r
moves a r s =
    record {
      put_down = put_down a r s;
      put_up = put_up a r s;
      echo_up = echo_up a r s;
      took_down_law = took_down_law a r s;
      took_up = took_up a r s;
      put_store = λ c from l. put_store a r s c l from;
      took_store = λ c l. packets_took (store_at (place_of c)) store_slots store a (counts_of r.ends.conns c).controller.store (s.fit.conns (place_of c) l).store.head;
      put_hand = λ c m l. put_hand a r s c l m;
      put_endpoint = put_endpoint a r s;
      gone_hand = gone_hand;
      gone_endpoint = λ f. hand_gone endpoint_at payload_size a r.ends.endpoint (omega arith) f s.fit.own.endpoint.at (omega (arith, s.room, s.fit.own.endpoint));
      join_host = λ c x l. join_host a r s c l x;
      join_controller = λ c x l. join_controller a r s c l x;
      join_hearing = join_hearing a r s;
      join_asking = join_asking a r s;
      puts_down = puts_down a r s;
      counts_set = λ c k l. counts_set a r s c l k;
      past_runs = past_runs a r s;
      put_config = put_config a r s;
    }
  where
    gone_hand : (c : ℕ) → place_of c < places → (counts_of r.ends.conns c).host.hand.full ≡ true → 1 ≤ (counts_of r.ends.conns c).host.payload
        → ((view a r).conns c).host.hand
        ≡ segment_at (counts_of r.ends.conns c).host.payload (cut (hand_at (place_of c)) (counts_of r.ends.conns c).host.hand.len a) (counts_of r.ends.conns c).host.hand.at
        ∷ hand_of (hand_at (place_of c)) (counts_of r.ends.conns c).host.payload a (hand_after (counts_of r.ends.conns c).host.payload (counts_of r.ends.conns c).host.hand)
    gone_hand c l f pos =
        let k = (s.fit.conns (place_of c) l).hand in
        hand_gone (hand_at (place_of c)) (counts_of r.ends.conns c).host.payload a (counts_of r.ends.conns c).host.hand pos f k.at (omega (arith, s.room, k))

pub cold : Cold
cold = cold_view
