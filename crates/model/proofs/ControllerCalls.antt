-- Each call that is taken keeps the invariant: those by which credits come back, consume, credit and reply.
-- Assumes nothing.
use Prim.Native.Nat.{ℕ, ◌%◌, ◌≤◌, ◌<◌}
use native.Mathlib.Omega.{arith}
use mathlib.Core.Path.{◌≡◌, refl, sym, ap, ◌∙◌}
use mathlib.Core.Logic.{inr}
use mathlib.Core.Bool.{Bool, true, false, not, ◌&&◌, false≢true}
use mathlib.Core.List.{List, [], ◌∷◌, ◌++◌, append-nil, cons≢nil}
use lib.ListN.{length}
use borrow.Author.Tests.{eq-eqb, not-false}
use Rattle.octets.specs.Octets.{Octets, pick}
use Rattle.packets.specs.Packet.{carrying}
use Rattle.packets.specs.Segments.{Segment, last, segment_packet}
use Rattle.packets.specs.Reassembly.{finished}
use Rattle.state.specs.Conn.{flows, owing}
use Rattle.messages.specs.Layout.{credits_ntf}
use Rattle.state.specs.Runs.{data_limit, control_limit}
use Rattle.state.specs.Profile.{credits_ok}
use Rattle.state.proofs.Chains.{on}
use Rattle.state.proofs.Credits.{carriable_few}
use Rattle.model.specs.Connection.{ControllerEnd, with_controller, owed_on, carried_on, paid, spoken}
use Rattle.messages.specs.Packets.{notice_packet}
use Rattle.packets.specs.Headers.{data_header}
use Rattle.wires.specs.Meaning.{Meaning, datum, control, junk, meaning}
use Rattle.model.specs.State.{State, with_conns, with_up, at}
use Rattle.state.proofs.Limits.{credits_few}
use Rattle.model.specs.Effects.{taken, consume, credit, reply}
use Rattle.model.specs.Refusals.{is_nil, no_conn}
use Rattle.ends.specs.Changes.{stays, gives, given_to}
use Rattle.model.specs.calls.Consume.{is_loop, echoed, consuming, consumed_as, segment_in}
use Rattle.model.specs.calls.Credit.{owed_by, all_zero}
use Rattle.model.specs.calls.Reply.{replying}
use Rattle.model.specs.Bench.{rules}
use Rattle.model.specs.Observer.{Account, Ledger, put_by, consumed_l, event_of, puts_up}
use Rattle.model.specs.invariant.Items.{loaded, items_by, items_of, segs_of}
use Rattle.model.specs.invariant.Bench.{account_of, Fine, Kept, Keeps, GoodAt, StoredFor, StoredIn, tallied}
use Rattle.model.proofs.Cases.{clash, each}
use Rattle.model.proofs.Needs.{need}
use Rattle.model.proofs.Link.{owed_le}
use Rattle.wires.proofs.Slots.{meaning_carrying}
use Rattle.model.proofs.Acts.{afterwards, consume_loop, consume_plain, reply_good, notice_good}
use Rattle.model.proofs.Meanings.{meaning_notice, meaning_data, items_of_append, items_of_data}
use Rattle.model.proofs.Messages.{terms_within, entries_few, items_credit, items_credit_other}
use Rattle.model.proofs.Order.{replies_notice, replies_data}
use Rattle.model.proofs.Fine.{sound_control, sound_data, put_data, kept, put_all_law, sound_append, order_open, at_keeps, standing_at}

-- ---- what is owed is at most eight

module _ (s : State) (aim : ℕ) (l : ℕ → Ledger) (f : Fine s aim l) where
  -- credits within their limits are at most eight, under flow control
  few_credits : (n : ℕ) → credits_ok n ≡ true → flows n ≡ true → n ≤ 8
  few_credits n ok flow = credits_few n ok (λ e. false≢true (sym (ap not (eq-eqb n 255 e)) ∙ flow))

  few_owed : (d : ℕ) → (s.conns d).controller.owed ≤ 8
  few_owed d = go (s.conns d).controller.opened refl (flows (s.conns d).controller.grant) refl
    where
      go : (o : Bool) → (s.conns d).controller.opened ≡ o → (b : Bool) → flows (s.conns d).controller.grant ≡ b → (s.conns d).controller.owed ≤ 8
      go false e b h = let z = (f.good d).numbers.debts.asleep e in omega arith
      go true e false h = let z = (f.good d).numbers.debts.spare h in omega arith
      go true e true h =
          let same = f.standing.granted d e in
          let most = few_credits (s.conns d).controller.grant (rw same (terms_within s.profile d f.limits).credits) h in
          omega (arith, owed_le (f.good d).numbers)

-- ---- consume

module _ (s : State) (aim : ℕ) (l : ℕ → Ledger) (c : ℕ) (p : Octets) (st : List Octets) (m : ℕ) (x : Segment)
    (open_here : (s.conns c).controller.opened ≡ true) (first-stored : (s.conns c).controller.store ≡ p ∷ st) (means : meaning p ≡ datum c m x)
    (f : Fine s aim l) where
  -- the connection after it, the credits that it then returns on a loopback, and the message that it finishes
  eaten : ControllerEnd → ControllerEnd
  eaten k = afterwards st x k

  back : ℕ
  back = carried_on (eaten (s.conns c).controller)

  whole : List Octets
  whole = finished data_limit (s.conns c).controller.run x

  rest_stored : StoredFor c st
  rest_stored = (rw first-stored at (f.standing.stores c)).1

  one_segment : segment_in (meaning p) ≡ x ∷ []
  one_segment = rw means

  octet : flows (s.conns c).controller.grant ≡ true → (s.conns c).controller.owed < 255
  octet y = omega (arith, few_owed s aim l f c)

  next : (ControllerEnd → ControllerEnd) → List Octets → State
  next g ps = with_up (s.up ++ ps) (with_conns (at c (λ k. with_controller (g k.controller) k) s.conns) s)

  returned : Octets
  returned = carrying back p

  returns : meaning returned ≡ datum c back x
  unfolding returned back
  returns =
      let few = carriable_few (owed_on (eaten (s.conns c).controller)) in
      let small : back % 4 ≡ back = omega arith in
      meaning_carrying back p c m x means ∙ ap (λ (n : ℕ). datum c n x) small

  counted : List Octets → Account
  counted ps = puts_up ps (record { down = s.down; up = s.up; aim = aim; ledger = at c (consumed_l whole) l; stray = [] })

  looped : is_loop c ≡ true → Kept (next (λ k. paid (eaten k)) (returned ∷ [])) (counted (returned ∷ []))
  unfolding eaten back whole next counted
  looped loop =
      kept
      record {
        good =
            λ d.
            rw (put_data aim d returned c back x (at c (consumed_l whole) l d) returns, items_of_append aim d s.up (returned ∷ []), items_of_data returned c back x returns aim d)
            (each c
            (λ d b. GoodAt d (pick b (with_controller (paid (eaten (s.conns d).controller)) (s.conns d)) (s.conns d)) (segs_of d s.down) (items_of aim d s.up ++ pick b (loaded back x ∷ []) []) (put_by (pick b (gives back) stays) (pick b (consumed_l whole (l d)) (l d))))
            (rw loop (consume_loop p st x one_segment open_here first-stored octet (rw loop at (f.good c))))
            (λ d. rw append-nil (f.good d)) d);
        order = rw (replies_data returned c back x returns s.up) (order_open (λ d z. at_keeps c (λ k. with_controller (paid (eaten k.controller)) k) s.conns (λ k. k.controller.opened) (λ k. refl) d) f.order);
        way = f.way;
        aimed = f.aimed;
        sound = sound_data s.up returned c back x returns f.sound;
        heard = f.heard;
        standing = standing_at c (λ k. paid (eaten k)) (λ k. refl) (λ k. refl) rest_stored f.standing;
        limits = f.limits;
        config = f.config;
      }

  plain : is_loop c ≡ false → Kept (next eaten []) (counted [])
  unfolding eaten whole next counted
  plain loop =
      rw (append-nil s.up)
      (kept
      record {
        good =
            each c
            (λ d b. GoodAt d (pick b (with_controller (eaten (s.conns d).controller) (s.conns d)) (s.conns d)) (segs_of d s.down) (items_of aim d s.up) (pick b (consumed_l whole (l d)) (l d)))
            (rw loop (consume_plain p st x one_segment open_here first-stored octet (rw loop at (f.good c))))
            f.good;
        order = order_open (λ d z. at_keeps c (λ k. with_controller (eaten k.controller) k) s.conns (λ k. k.controller.opened) (λ k. refl) d) f.order;
        way = f.way;
        aimed = f.aimed;
        sound = f.sound;
        heard = f.heard;
        standing = standing_at c eaten (λ k. refl) (λ k. refl) rest_stored f.standing;
        limits = f.limits;
        config = f.config;
      })

  consumed_fine : Kept (consumed_as c (x ∷ []) p st s).next (tallied (consume c) (event_of (consume c) (record { answer = taken; effect = consumed_as c (x ∷ []) p st s })) (account_of s aim l))
  unfolding eaten back whole next returned counted
  consumed_fine = go (is_loop c) refl
    where
      go : (b : Bool) → is_loop c ≡ b → Kept (next (λ k. echoed b (eaten k)) (pick b (returned ∷ []) [])) (counted (pick b (returned ∷ []) []))
      go true e = looped e
      go false e = plain e

-- ---- credit

module _ (s : State) (aim : ℕ) (l : ℕ → Ledger) (f : Fine s aim l) where
  owed : ℕ → ℕ
  owed d = owed_on (s.conns d).controller

  few : (d : ℕ) → owed d ≤ 8
  unfolding owed
  few d =
      on (λ (n : ℕ). n ≤ 8) ((s.conns d).controller.opened && flows (s.conns d).controller.grant)
      (λ e. few_owed s aim l f d) (λ e. omega arith)

  -- a notice has for each connection what it is owed
  notice_items : all_zero (owed_by s) ≡ false → (d : ℕ)
      → items_of aim d (notice_packet (record { gid = 0; oid = 6; payload = credits_ntf (owed_by s) }) ∷ []) ≡ items_by (given_to (owed_on (s.conns d).controller))
  unfolding owed
  notice_items some d = go (no_conn d) refl
    where
      none : (o : Bool) → o ≡ false → 0 ≡ owing o (s.conns d).controller.grant (s.conns d).controller.owed
      none true h = clash refl h
      none false h = refl

      go : (b : Bool) → no_conn d ≡ b
          → items_of aim d (notice_packet (record { gid = 0; oid = 6; payload = credits_ntf (owed_by s) }) ∷ []) ≡ items_by (given_to (owed_on (s.conns d).controller))
      go false e = items_credit owed (λ d h. few d) some aim d e
      go true e =
          items_credit_other owed (λ d h. few d) some aim d e
          ∙ ap (λ (n : ℕ). items_by (given_to n)) (none (s.conns d).controller.opened (f.standing.known d e))

module _ (s : State) (aim : ℕ) (l : ℕ → Ledger) where
  pub consume_keeps : (c : ℕ) → Keeps (consume c) s aim l
  consume_keeps c t f = go (s.conns c).controller.store refl
    where
      open_here : (s.conns c).controller.opened ≡ true
      open_here = not-false _ (need 6 (rules (consume c) s) t)

      go : (st : List Octets) → (s.conns c).controller.store ≡ st
          → Kept (consuming c st s).next (tallied (consume c) (event_of (consume c) (record { answer = taken; effect = consuming c st s })) (account_of s aim l))
      go [] e = clash (ap is_nil e) (need 8 (rules (consume c) s) t)
      go (p ∷ st) e = with_meaning (meaning p) refl (rw e at (f.standing.stores c)).0
        where
          with_meaning : (q : Meaning) → meaning p ≡ q → StoredIn c q
              → Kept (consumed_as c (segment_in q) p st s).next (tallied (consume c) (event_of (consume c) (record { answer = taken; effect = consumed_as c (segment_in q) p st s })) (account_of s aim l))
          with_meaning (datum b n x) m h = consumed_fine s aim l c p st n x open_here e (m ∙ ap (λ (a : ℕ). datum a n x) h) f
          with_meaning (control mt gid oid x) m h = absurd h
          with_meaning junk m h = absurd h

  pub credit_keeps : Keeps credit s aim l
  credit_keeps t f =
      kept
      record {
        good =
            λ d.
            rw (put_all_law aim d (note ∷ []) (l d), items_of_append aim d s.up (note ∷ []), notice_items s aim l f some d)
            (notice_good (f.good d));
        order = rw (replies_notice s.up note 0 6 _ means) (order_open (λ d z. refl) f.order);
        way = f.way;
        aimed = f.aimed;
        sound = sound_append s.up (note ∷ []) f.sound (sound_control note 3 0 6 _ means (inr refl) short);
        heard = f.heard;
        standing = record { stores = f.standing.stores; air = f.standing.air; known = f.standing.known; granted = f.standing.granted };
        limits = f.limits;
        config = f.config;
      }
    where
      note : Octets
      note = notice_packet (record { gid = 0; oid = 6; payload = credits_ntf (owed_by s) })

      some : all_zero (owed_by s) ≡ false
      some = need 8 (rules credit s) t

      means : meaning note ≡ control 3 0 6 (last (credits_ntf (owed_by s)))
      means = meaning_notice 0 6 (omega arith) (omega arith) (credits_ntf (owed_by s))

      short : length (credits_ntf (owed_by s)) ≤ control_limit
      short = let few = entries_few 0 (owed_by s) in omega arith

  pub reply_keeps : Keeps reply s aim l
  reply_keeps t f = go (s.conns 0).controller.speech refl
    where
      open_here : (x : Segment) (h : List Segment) → (s.conns 0).controller.speech ≡ x ∷ h → (b : Bool) → (s.conns 0).controller.opened ≡ b → b ≡ true
      open_here x h e true z = refl
      open_here x h e false z = absurd (cons≢nil (sym e ∙ (f.good 0).pipes.speech z))

      go : (h : List Segment) → (s.conns 0).controller.speech ≡ h
          → Kept (replying h s).next (tallied reply (event_of reply (record { answer = taken; effect = replying h s })) (account_of s aim l))
      go [] e = clash (ap is_nil e) (need 8 (rules reply s) t)
      go (x ∷ h) e =
          kept
          record {
            good =
                λ d.
                rw (put_data aim d p 0 back x (l d) means, items_of_append aim d s.up (p ∷ []), items_of_data p 0 back x means aim d)
                (each 0
                (λ d b. GoodAt d (pick b (with_controller (paid (spoken h (s.conns d).controller)) (s.conns d)) (s.conns d)) (segs_of d s.down) (items_of aim d s.up ++ pick b (loaded back x ∷ []) []) (put_by (pick b (gives back) stays) (l d)))
                (reply_good x h (open_here x h e (s.conns 0).controller.opened refl) e (f.good 0))
                (λ d. rw append-nil (f.good d)) d);
            order = rw (replies_data p 0 back x means s.up) (order_open (λ d z. at_keeps 0 (λ k. with_controller (paid (spoken h k.controller)) k) s.conns (λ k. k.controller.opened) (λ k. refl) d) f.order);
            way = f.way;
            aimed = f.aimed;
            sound = sound_data s.up p 0 back x means f.sound;
            heard = f.heard;
            standing = standing_at 0 (λ k. paid (spoken h k)) (λ k. refl) (λ k. refl) (f.standing.stores 0) f.standing;
            limits = f.limits;
            config = f.config;
          }
        where
          back : ℕ
          back = carried_on (s.conns 0).controller

          p : Octets
          p = segment_packet (data_header 0 back) x

          means : meaning p ≡ datum 0 back x
          means = meaning_data 0 back x (omega arith) (omega (arith, carriable_few (owed_on (s.conns 0).controller)))
