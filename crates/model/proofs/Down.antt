-- down keeps the invariant: the controller takes the first packet of the down wire.
-- Assumes nothing.
use Prim.Native.Nat.{ℕ}
use mathlib.Core.Path.{◌≡◌, refl, sym, subst}
use mathlib.Core.Bool.{true, false}
use mathlib.Core.List.{List, [], ◌∷◌, ◌++◌, append-nil}
use lib.Dec.{eqb}
use Rattle.octets.specs.Octets.{Octets, pick}
use Rattle.packets.specs.Segments.{Segment, more, last}
use Rattle.packets.specs.Reassembly.{Run, run, grown, finished, flagged}
use Rattle.packets.proofs.Reassembly.{within}
use Rattle.state.specs.Runs.{control_limit}
use Rattle.nfcc.specs.Controller.{judge_of}
use Rattle.state.proofs.Chains.{on}
use Rattle.model.specs.Connection.{with_controller, stored}
use Rattle.wires.specs.Meaning.{Meaning, datum, control, junk, meaning}
use Rattle.model.specs.State.{State, is_open, at, with_down, with_conns, with_asking}
use Rattle.model.specs.Effects.{Effect, taken, down}
use Rattle.model.specs.Refusals.{is_nil}
use Rattle.model.specs.calls.Down.{answering, arriving, taking_down, needs_two}
use Rattle.model.specs.Bench.{rules}
use Rattle.model.specs.Observer.{Ledger, Account, arrived_l, arrival, puts_up, event_of}
use Rattle.model.specs.invariant.Items.{items_of, segs_in, segs_of}
use Rattle.model.specs.invariant.Commands.{named, heads_in, heads, orders_in, replies, NoDatum, Tidy, Aims}
use Rattle.model.specs.invariant.Bench.{Order, Fine, Kept, Keeps, GoodAt, account_of, tallied}
use Rattle.model.proofs.Cases.{clash, each, right_nil}
use Rattle.model.proofs.Needs.{need}
use Rattle.model.proofs.Acts.{deliver_good, drop_good}
use Rattle.nfcc.proofs.Verdicts.{Fits, judge_fits, judge_legal}
use Rattle.model.proofs.Order.{one_only, other_way, way_run, way_more, way_last, way_low, way_small}
use Rattle.model.proofs.Fine.{stored_append, order_open, at_keeps, standing_at}
use Rattle.model.proofs.Messages.{judge_answerable}
use Rattle.model.proofs.DownAnswer.{Behind, decided_keeps}

-- what is seen of a packet that the controller takes
abbrev counted : List Octets → State → ℕ → (ℕ → Ledger) → Meaning → List Octets → Account
counted w s aim l q ps = puts_up ps (record { down = w; up = s.up; aim = aim; ledger = λ d. arrival d q (l d); stray = [] })

module _ (s : State) (aim : ℕ) (l : ℕ → Ledger) (p : Octets) (w : List Octets) (f : Fine (with_down (p ∷ w) s) aim l) where
  -- ---- a packet that is nothing to the controller

  pub record Ignored (q : Meaning) : Type 0 where
    pub segs : (d : ℕ) → segs_in d q ≡ []
    pub head : heads_in q ≡ []
    pub order : orders_in q ≡ []
    pub ends : needs_two q ≡ false
    pub bare : NoDatum q
    pub counts : (d : ℕ) (x : Ledger) → arrival d q x ≡ x

  ignored_keeps : (q : Meaning) → meaning p ≡ q → Ignored q → Kept (with_down w s) (counted w s aim l q [])
  unfolding segs_of heads Tidy
  ignored_keeps q means i =
      record {
        same_down = refl;
        same_up = append-nil s.up;
        none_astray = refl;
        fine =
            record {
              good = λ d. rw (i.counts d (l d)) (rw (means, i.segs d) at (f.good d));
              order =
                  record {
                    clear = λ d z o. rw (means, i.segs d) at (f.order.clear d z o);
                    single = rw (means, i.head) at f.order.single;
                    tidy = λ x. rw (means, i.ends) at (f.order.tidy x);
                    empty = λ x e. (f.order.empty x (rw (means, i.head) e)).1;
                  };
              way = other_way (Aims aim) s.asking p w f.way (rw means i.order);
              aimed = f.aimed;
              sound = f.sound;
              heard = f.heard;
              standing = f.standing;
              limits = f.limits;
              config = f.config;
            };
      }

  not_asked : (mt gid oid : ℕ) (x : Segment) → eqb mt 1 ≡ false → Ignored (control mt gid oid x)
  not_asked mt gid oid (more b) e =
      record { segs = λ d. refl; head = refl; order = rw e; ends = refl; bare = tt; counts = λ d x. refl }
  not_asked mt gid oid (last b) e =
      record { segs = λ d. refl; head = rw e; order = rw e; ends = e; bare = tt; counts = λ d x. refl }

  junk_ignored : Ignored junk
  junk_ignored = record { segs = λ d. refl; head = refl; order = refl; ends = refl; bare = tt; counts = λ d x. refl }

  -- ---- data

  module _ (c n : ℕ) (x : Segment) (means : meaning p ≡ datum c n x) where
    data_good : (d : ℕ) → GoodAt d (s.conns d) (pick (eqb c d) (x ∷ []) [] ++ segs_of d w) (items_of aim d s.up) (l d)
    unfolding segs_of
    data_good d = rw means at (f.good d)

    data_clear : (d : ℕ) → eqb 0 d ≡ false → (s.conns d).controller.opened ≡ false → segs_of d w ≡ []
    unfolding segs_of
    data_clear d z o = right_nil (segs_in d (meaning p)) (f.order.clear d z o)

    data_order : Order s.conns w (replies s.up) s.host.pending
    unfolding heads Tidy
    data_order =
        record {
          clear = data_clear;
          single = rw means at f.order.single;
          tidy = λ y. rw means at (f.order.tidy y);
          empty = λ y e. absurd (rw means at (f.order.empty y (rw means e)).0);
        }

    stored_keeps : (s.conns c).controller.opened ≡ true
        → Kept (with_conns (at c (λ k. with_controller (stored p k.controller) k) s.conns) (with_down w s)) (counted w s aim l (datum c n x) [])
    stored_keeps here =
        record {
          same_down = refl;
          same_up = append-nil s.up;
          none_astray = refl;
          fine =
              record {
                good =
                    λ d.
                    each c
                    (λ d b.
                    GoodAt d (s.conns d) (pick b (x ∷ []) [] ++ segs_of d w) (items_of aim d s.up) (l d)
                    → GoodAt d (pick b (with_controller (stored p (s.conns d).controller) (s.conns d)) (s.conns d)) (segs_of d w) (items_of aim d s.up) (pick b (pick (l d).controller.opened (arrived_l (l d)) (l d)) (l d)))
                    (λ g. deliver_good p x (rw means refl) here g) (λ d g. g) d (data_good d);
                order = order_open (λ d z. at_keeps c (λ k. with_controller (stored p k.controller) k) s.conns (λ k. k.controller.opened) (λ k. refl) d) data_order;
                way = other_way (Aims aim) s.asking p w f.way (rw means refl);
                aimed = f.aimed;
                sound = f.sound;
                heard = f.heard;
                standing = standing_at c (stored p) (λ k. refl) (λ k. refl) (stored_append c (s.conns c).controller.store (p ∷ []) (f.standing.stores c) (rw means (refl, tt))) f.standing;
                limits = f.limits;
                config = f.config;
              };
        }

    dropped_keeps : (s.conns c).controller.opened ≡ false → Kept (with_down w s) (counted w s aim l (datum c n x) [])
    dropped_keeps shut =
        record {
          same_down = refl;
          same_up = append-nil s.up;
          none_astray = refl;
          fine =
              record {
                good =
                    λ d.
                    each c
                    (λ d b.
                    GoodAt d (s.conns d) (pick b (x ∷ []) [] ++ segs_of d w) (items_of aim d s.up) (l d)
                    → GoodAt d (s.conns d) (segs_of d w) (items_of aim d s.up) (pick b (pick (l d).controller.opened (arrived_l (l d)) (l d)) (l d)))
                    (λ g. drop_good x shut g) (λ d g. g) d (data_good d);
                order = data_order;
                way = other_way (Aims aim) s.asking p w f.way (rw means refl);
                aimed = f.aimed;
                sound = f.sound;
                heard = f.heard;
                standing = f.standing;
                limits = f.limits;
                config = f.config;
              };
        }

  -- ---- a packet of a command

  -- what becomes of it, where the run that it joins is r
  abbrev asked_as : Run → ℕ → ℕ → Segment → Effect
  asked_as r gid oid x =
      answering gid oid (finished control_limit r x) (flagged control_limit r x)
      (with_asking (record { mt = 1; gid = gid; oid = oid; run = grown control_limit r x }) (with_down w s))

  module _ (mt gid oid : ℕ) (order : eqb mt 1 ≡ true) where
    more_keeps : (b : Octets) → meaning p ≡ control mt gid oid (more b)
        → Kept (asked_as (run f.way.so_far) gid oid (more b)).next (counted w s aim l (control mt gid oid (more b)) [])
    unfolding segs_of heads Tidy
    more_keeps b means =
        record {
          same_down = refl;
          same_up = append-nil s.up;
          none_astray = refl;
          fine =
              record {
                good = λ d. rw means at (f.good d);
                order =
                    record {
                      clear = λ d z o. rw means at (f.order.clear d z o);
                      single = rw means at f.order.single;
                      tidy = λ x. rw means at (f.order.tidy x);
                      empty = λ x e. (f.order.empty x (rw means e)).1;
                    };
                way = way_more (Aims aim) s.asking p w mt gid oid b means order f.way;
                aimed = f.aimed;
                sound = f.sound;
                heard = f.heard;
                standing = f.standing;
                limits = f.limits;
                config = f.config;
              };
        }

    module _ (b : Octets) (means : meaning p ≡ control mt gid oid (last b)) where
      after_last : State
      after_last = with_asking (record { mt = 1; gid = gid; oid = oid; run = run [] }) (with_down w s)

      last_head : heads (p ∷ w) ≡ named gid oid ∷ heads w
      unfolding heads
      last_head = rw (means, order)

      last_behind : Behind after_last aim l gid oid
      unfolding after_last segs_of Tidy
      last_behind =
          let q = one_only [] (heads w ++ replies s.up) (named gid oid) s.host.pending (rw last_head at f.order.single) in
          let whole = way_last (Aims aim) s.asking p w mt gid oid b means order f.way in
          record {
            good = λ d. rw means at (f.good d);
            clear = λ d z o. rw means at (f.order.clear d z o);
            alone = q.behind;
            asked = q.names;
            bare = λ x. rw (means, order) at (f.order.tidy x);
            standing = f.standing;
            limits = f.limits;
            config = f.config;
            way = whole.rest;
            aimed = f.aimed;
            sound = f.sound;
            heard = f.heard;
            low = way_low (Aims aim) s.asking p w mt gid oid (last b) means order f.way;
            small = way_small (Aims aim) s.asking p w mt gid oid (last b) means order f.way;
          }

      whole_command : finished control_limit (run f.way.so_far) (last b) ≡ (f.way.so_far ++ b) ∷ []
      whole_command =
          let whole = way_last (Aims aim) s.asking p w mt gid oid b means order f.way in
          rw (within control_limit f.way.so_far b whole.short)

      last_keeps : Kept (asked_as (run f.way.so_far) gid oid (last b)).next (counted w s aim l (control mt gid oid (last b)) (asked_as (run f.way.so_far) gid oid (last b)).to_up)
      unfolding after_last
      last_keeps =
          let whole = way_last (Aims aim) s.asking p w mt gid oid b means order f.way in
          let m = f.way.so_far ++ b in
          let v = judge_of s.profile s.controller (is_open after_last) gid oid m in
          rw whole_command
          (decided_keeps after_last aim l gid oid last_behind m v
          (subst (λ (n : ℕ). Fits gid oid n s.profile v) whole.as_taken (judge_fits s.profile s.controller (is_open after_last) gid oid m))
          (judge_legal (is_open after_last) s.profile s.controller gid oid m)
          (judge_answerable s.profile s.controller (is_open after_last) gid oid s.config m f.config whole.short))

  asked_keeps : (mt gid oid : ℕ) → eqb mt 1 ≡ true → (x : Segment) → meaning p ≡ control mt gid oid x
      → Kept (asked_as (run f.way.so_far) gid oid x).next (counted w s aim l (control mt gid oid x) (asked_as (run f.way.so_far) gid oid x).to_up)
  asked_keeps mt gid oid order (more b) means = more_keeps mt gid oid order b means
  asked_keeps mt gid oid order (last b) means = last_keeps mt gid oid order b means

  -- ---- any packet

  abbrev Arrives : Meaning → Effect → Type 0
  Arrives q e = Kept e.next (counted w s aim l q e.to_up)

  arriving_keeps : (q : Meaning) → meaning p ≡ q → Arrives q (arriving q p (with_down w s))
  arriving_keeps (datum c n x) means = on (Arrives (datum c n x)) (is_open s c) (λ e. stored_keeps c n x means e) (λ e. dropped_keeps c n x means e)
  arriving_keeps (control mt gid oid x) means =
      on (Arrives (control mt gid oid x)) (eqb mt 1)
      (λ e. subst (λ (r : Run). Arrives (control mt gid oid x) (asked_as r gid oid x)) (sym (way_run (Aims aim) s.asking p w mt gid oid x means e f.way)) (asked_keeps mt gid oid e x means))
      (λ e. ignored_keeps (control mt gid oid x) means (not_asked mt gid oid x e))
  arriving_keeps junk means = ignored_keeps junk means junk_ignored

pub down_keeps : (s : State) (aim : ℕ) (l : ℕ → Ledger) → Keeps down s aim l
down_keeps s aim l t f = go s.down (need 8 (rules down s) t) f
  where
    go : (w : List Octets) → is_nil w ≡ false → Fine (with_down w s) aim l
        → Kept (taking_down w s).next (tallied down (event_of down (record { answer = taken; effect = taking_down w s })) (account_of (with_down w s) aim l))
    go [] e f = clash refl e
    go (p ∷ w) e f = arriving_keeps s aim l p w f (meaning p) refl
