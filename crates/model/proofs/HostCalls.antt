-- Each call that is taken keeps the invariant: fresh, power and report, and those of the host.
-- Assumes nothing.
use Prim.Native.Nat.{ℕ, ◌≤◌, ◌<◌}
use native.Mathlib.Omega.{arith}
use mathlib.Core.Path.{◌≡◌, refl, ap, ◌∙◌}
use mathlib.Core.Bool.{true, false, ◌||◌}
use mathlib.Core.List.{List, [], ◌∷◌, ◌++◌, append-nil, cons≢nil}
use lib.Dec.{eqb, ltb}
use lib.ListN.{length}
use borrow.Author.Tests.{ltb-false, not-false}
use Rattle.octets.specs.Octets.{Octets, pick}
use Rattle.state.specs.Commands.{aim_in}
use Rattle.packets.specs.Segments.{Segment, segments, segment_packet, packets_of}
use Rattle.state.specs.Runs.{control_limit}
use Rattle.state.specs.Profile.{profile_in}
use Rattle.state.proofs.Chains.{or_left, or_right}
use Rattle.model.specs.Connection.{with_host, sent, pushed}
use Rattle.packets.specs.Headers.{data_header, control_header}
use Rattle.wires.specs.Meaning.{datum, control, meaning}
use Rattle.model.specs.State.{State}
use Rattle.model.specs.Effects.{taken, fresh, power, command, send, push, report}
use Rattle.model.specs.Refusals.{is_nil, no_conn, first}
use Rattle.dh.specs.Host.{is_closing}
use Rattle.model.specs.calls.Push.{pushing}
use Rattle.model.specs.Bench.{rules}
use Rattle.model.specs.Observer.{Ledger, sent_l, pushed_l, event_of}
use Rattle.model.specs.invariant.Items.{items_of, segs_of}
use Rattle.model.specs.invariant.Commands.{heads, replies, Aims}
use Rattle.model.specs.invariant.Bench.{account_of, Fine, Kept, Keeps, GoodAt, tallied}
use Rattle.model.proofs.Cases.{clash, each, nil_of, left_nil, right_nil}
use Rattle.model.proofs.Needs.{need}
use Rattle.model.proofs.Link.{credit_left}
use Rattle.model.proofs.Acts.{send_good, push_good}
use Rattle.model.proofs.Meanings.{meaning_data, meaning_command, segs_of_append, segs_of_command, segs_of_data}
use Rattle.state.proofs.Limits.{profile_limits}
use Rattle.model.proofs.Order.{heads_append, idle_pending, no_data_tidy, tidy_append, ordered_heads, ordered_no_data, command_way, data_way, heads_data}
use Rattle.model.proofs.Closing.{no_close, free_right, free_pending, live_stays, items_aim}
use Rattle.model.proofs.Fine.{kept, cold_fine, conn_small, order_open, at_keeps, standing_same}

module _ (s : State) (aim : ℕ) (l : ℕ → Ledger) where
  pub fresh_keeps : (m : Octets) → Keeps (fresh m) s aim l
  fresh_keeps m t f = kept (cold_fine (profile_in m) (profile_limits m (not-false _ (need 3 (rules (fresh m) s) t))))

  pub power_keeps : Keeps power s aim l
  power_keeps t f = kept (cold_fine s.profile f.limits)

  pub report_keeps : (c : ℕ) → Keeps (report c) s aim l
  report_keeps c t f = kept f

  -- what is known of a command that is taken: it fits its packets, and none is under way
  pub record Commanded (gid oid : ℕ) (m : Octets) : Type 0 where
    pub low : gid < 16
    pub small : oid < 64
    pub short : length m ≤ control_limit
    pub means : (x : Segment) → meaning (segment_packet (control_header 1 gid oid) x) ≡ control 1 gid oid x
    pub no_heads : heads s.down ≡ []
    pub no_replies : replies s.up ≡ []

  pub commanded : (gid oid : ℕ) (m : Octets) → first (rules (command gid oid m) s) ≡ taken → Fine s aim l → Commanded gid oid m
  commanded gid oid m t f =
      record {
        low = low;
        small = small;
        short = ltb-false _ _ (or_right (ltb 15 gid || ltb 63 oid) (ltb 255 (length m)) third);
        means = meaning_command gid oid low small;
        no_heads = left_nil (heads s.down) (replies s.up) idle;
        no_replies = right_nil (heads s.down) idle;
      }
    where
      third : (ltb 15 gid || ltb 63 oid || ltb 255 (length m)) ≡ false
      third = need 3 (rules (command gid oid m) s) t

      low : gid < 16
      low = let h : gid ≤ 15 = ltb-false 15 gid (or_left (ltb 15 gid) (ltb 63 oid) (or_left (ltb 15 gid || ltb 63 oid) (ltb 255 (length m)) third)) in omega arith

      small : oid < 64
      small = let h : oid ≤ 63 = ltb-false 63 oid (or_right (ltb 15 gid) (ltb 63 oid) (or_left (ltb 15 gid || ltb 63 oid) (ltb 255 (length m)) third)) in omega arith

      idle : heads s.down ++ replies s.up ≡ []
      idle = f.order.single ∙ idle_pending s.host.pending (need 5 (rules (command gid oid m) s) t)

  pub command_keeps : (gid oid : ℕ) (m : Octets) → Keeps (command gid oid m) s aim l
  command_keeps gid oid m t f =
      kept
      record {
        good = λ d. rw (segs d, items_aim (aim_in m) aim d s.up k.no_replies) (f.good d);
        order =
            record {
              clear = λ d z c. rw (segs d) (f.order.clear d z c);
              single = rw (heads_append s.down ps, ordered_heads gid oid k.means s.host.size m, k.no_heads, k.no_replies);
              tidy = λ b. tidy_append s.down ps k.no_heads (no_data_tidy ps (ordered_no_data gid oid k.means (segments s.host.size m)));
              empty = λ b e. absurd (cons≢nil (right_nil (heads s.down) (rw (heads_append s.down ps, ordered_heads gid oid k.means s.host.size m) at e)));
            };
        way = command_way (Aims aim) (Aims (aim_in m)) s.host.size s.asking s.down gid oid m k.low k.small k.means k.short k.no_heads f.way refl;
        aimed = refl;
        sound = f.sound;
        heard = f.heard;
        standing = f.standing;
        limits = f.limits;
        config = f.config;
      }
    where
      k : Commanded gid oid m
      k = commanded gid oid m t f

      ps : List Octets
      ps = packets_of (control_header 1 gid oid) s.host.size m

      segs : (d : ℕ) → segs_of d (s.down ++ ps) ≡ segs_of d s.down
      segs d = segs_of_append d s.down ps ∙ ap (λ (x : List Segment). segs_of d s.down ++ x) (segs_of_command gid oid k.low k.small d s.host.size m) ∙ append-nil (segs_of d s.down)

  pub send_keeps : (c : ℕ) (m : Octets) → Keeps (send c m) s aim l
  send_keeps c m t f =
      kept
      record {
        good =
            each c
            (λ d b. GoodAt d (pick b (with_host (sent m (s.conns d).host) (s.conns d)) (s.conns d)) (segs_of d s.down) (items_of aim d s.up) (pick b (sent_l m (l d)) (l d)))
            (send_good m (ltb-false _ _ (or_right (no_conn c) (ltb 1024 (length m)) (need 3 (rules (send c m) s) t)))
            (not-false _ (need 6 (rules (send c m) s) t))
            (nil_of _ (not-false _ (need 7 (rules (send c m) s) t)))
            (f.good c))
            f.good;
        order = order_open (λ d z. at_keeps c (λ k. with_host (sent m k.host) k) s.conns (λ k. k.controller.opened) (λ k. refl) d) f.order;
        way = f.way;
        aimed = f.aimed;
        sound = f.sound;
        heard = f.heard;
        standing = standing_same (at_keeps c (λ k. with_host (sent m k.host) k) s.conns (λ k. k.controller) (λ k. refl)) f.standing;
        limits = f.limits;
        config = f.config;
      }

  pub push_keeps : (c : ℕ) → Keeps (push c) s aim l
  push_keeps c t f = go (s.conns c).host.hand refl
    where
      held_open_law : (s.conns c).host.opened ≡ true
      held_open_law = not-false _ (need 6 (rules (push c) s) t)

      free : is_closing s.host.pending ≡ false
      free = need 10 (rules (push c) s) t

      small : c < 16
      small = conn_small c (need 3 (rules (push c) s) t)

      -- while nothing closes, a dynamic connection open at the host is open at the controller
      open_there : {A : Type 0} → eqb 0 c ≡ false → (s.conns c).controller.opened ≡ false → A
      open_there z e =
          live_stays (items_of aim c s.up)
          (no_close c z aim s.up (free_right (heads s.down) (replies s.up) (rw f.order.single (free_pending s.host.pending free))))
          (rw (held_open_law, e) at (f.good c).numbers.phase)

      go : (h : List Segment) → (s.conns c).host.hand ≡ h
          → Kept (pushing c h s).next (tallied (push c) (event_of (push c) (record { answer = taken; effect = pushing c h s })) (account_of s aim l))
      go [] e = clash (ap is_nil e) (need 8 (rules (push c) s) t)
      go (x ∷ h) e =
          kept
          record {
            good =
                λ d.
                rw (segs d)
                (each c
                (λ d b. GoodAt d (pick b (with_host (pushed h (s.conns d).host) (s.conns d)) (s.conns d)) (segs_of d s.down ++ pick b (x ∷ []) []) (items_of aim d s.up) (pick b (pushed_l (l d)) (l d)))
                (push_good x h held_open_law (credit_left (s.conns c).host.grant (s.conns c).host.held (need 9 (rules (push c) s) t)) e (f.good c))
                (λ d. rw append-nil (f.good d)) d);
            order =
                record {
                  clear =
                      λ d.
                      rw (segs d)
                      (each c
                      (λ d b. eqb 0 d ≡ false → (pick b (with_host (pushed h (s.conns d).host) (s.conns d)) (s.conns d)).controller.opened ≡ false → segs_of d s.down ++ pick b (x ∷ []) [] ≡ [])
                      (λ z o. open_there z o) (λ d z o. rw append-nil (f.order.clear d z o)) d);
                  single = rw (heads_append s.down (p ∷ []), no_head, append-nil (heads s.down)) f.order.single;
                  tidy = λ b. clash b free;
                  empty = λ b. clash b free;
                };
            way = data_way (Aims aim) s.asking s.down p c 0 x means f.way;
            aimed = f.aimed;
            sound = f.sound;
            heard = f.heard;
            standing = standing_same (at_keeps c (λ k. with_host (pushed h k.host) k) s.conns (λ k. k.controller) (λ k. refl)) f.standing;
            limits = f.limits;
            config = f.config;
          }
        where
          p : Octets
          p = segment_packet (data_header c 0) x

          means : meaning p ≡ datum c 0 x
          means = meaning_data c 0 x small (omega arith)

          segs : (d : ℕ) → segs_of d (s.down ++ (p ∷ [])) ≡ segs_of d s.down ++ pick (eqb c d) (x ∷ []) []
          segs d = segs_of_append d s.down (p ∷ []) ∙ ap (λ (y : List Segment). segs_of d s.down ++ y) (segs_of_data p c 0 x means d)

          no_head : heads (p ∷ []) ≡ []
          no_head = heads_data p c 0 x means
