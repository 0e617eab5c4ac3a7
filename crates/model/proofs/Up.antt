-- up keeps the invariant: the host takes the first packet of the up wire.
-- Assumes nothing.
use Prim.Native.Nat.{ℕ, ◌≤◌}
use mathlib.Core.Path.{◌≡◌, refl, sym, ap, ◌∙◌, subst}
use mathlib.Core.Logic.{◌⊎◌, inl, inr}
use mathlib.Core.Bool.{true, false}
use mathlib.Core.List.{List, [], ◌∷◌, ◌++◌, cons≢nil, head-eq_of_cons-eq}
use lib.Dec.{eqb}
use lib.ListN.{length}
use borrow.Author.Tests.{eq-eqb}
use Rattle.std.specs.Prelude.{Option, Some, None}
use Rattle.octets.specs.Octets.{Octets, pick}
use Rattle.packets.specs.Segments.{Segment, more, last}
use Rattle.packets.specs.Reassembly.{Run, run, grown, finished, flagged}
use Rattle.model.specs.Kinds.{Asked, Host, Answer, Heard, Notice}
use Rattle.model.specs.Kinds.answer.{Done, ClosesAll, Sized, Opens, Closes}
use Rattle.model.specs.Kinds.heard.{Answered}
use Rattle.state.specs.Runs.{data_limit, control_limit}
use Rattle.state.specs.Commands.{command_of}
use Rattle.dh.specs.Contents.{written, notice_of}
use Rattle.dh.specs.Host.{noticed, answer_of, heard_written, hear_of, host_after}
use Rattle.model.specs.Kinds.notice as notice
use Rattle.packets.proofs.Reassembly.{within}
use Rattle.state.proofs.Chains.{on}
use Rattle.model.specs.Connection.{Connection, with_host, heard_data, credited}
use Rattle.wires.specs.Meaning.{Meaning, datum, control, junk, meaning}
use Rattle.wires.specs.Tally.{says}
use Rattle.model.specs.State.{State, at, with_up, with_conns, with_hearing}
use Rattle.model.specs.Effects.{Effect, taken, up}
use Rattle.model.specs.Refusals.{is_nil}
use Rattle.model.specs.Runs.{run_for, same_run}
use Rattle.ends.specs.Changes.{Change, stays, opens, closes, gives, change_heard}
use Rattle.model.specs.calls.Up.{understanding, hearing, coming, taking_up}
use Rattle.model.specs.Bench.{rules}
use Rattle.model.specs.Observer.{Ledger, Account, given_l, read_by, change_in, heard_as, event_of}
use Rattle.model.specs.invariant.Items.{loaded, items_by, items_of, segs_of, reads_k}
use Rattle.model.specs.invariant.Commands.{Name, named, pending_name, replies, heads}
use Rattle.model.specs.invariant.Bench.{Order, Fine, Kept, Keeps, GoodAt, Aimed, Sound, SoundIn, account_of, tallied}
use Rattle.model.proofs.Cases.{clash, each}
use Rattle.model.proofs.Needs.{need}
use Rattle.model.proofs.Phases.{carry_first}
use Rattle.model.proofs.Acts.{Reads, reads_good, read_good}
use Rattle.model.proofs.Meanings.{hear_response, hear_notice}
use Rattle.model.proofs.Granted.{GrantsOctet, says_octet}
use Rattle.model.proofs.Order.{Only, one_only}
use Rattle.model.proofs.Fine.{reads_change, reads_l_change, standing_same, order_open, at_keeps}

-- what is seen of a packet that the host takes
abbrev counted : List Octets → State → ℕ → (ℕ → Ledger) → Meaning → List Octets → Account
counted w s aim l q ms = record { down = s.down; up = w; aim = aim; ledger = λ d. heard_as aim d q ms (l d); stray = [] }

module _ (s : State) (aim : ℕ) (l : ℕ → Ledger) (p : Octets) (w : List Octets) (f : Fine (with_up (p ∷ w) s) aim l) where
  abbrev Comes : Meaning → Effect → Type 0
  Comes q e = Kept e.next (counted w s aim l q e.message)

  -- what is left of the up wire is sound
  rest_sound : Sound w
  rest_sound = f.sound.1

  -- ---- a packet that is nothing to the host

  junk_keeps : meaning p ≡ junk → Kept (with_up w s) (counted w s aim l junk [])
  unfolding items_of replies
  junk_keeps means =
      record {
        same_down = refl;
        same_up = refl;
        none_astray = refl;
        fine =
            record {
              good = λ d. rw means at (f.good d);
              order = rw means at f.order;
              way = f.way;
              aimed = f.aimed;
              sound = rest_sound;
              heard = f.heard;
              standing = f.standing;
              limits = f.limits;
              config = f.config;
            };
      }

  -- ---- data

  module _ (c n : ℕ) (x : Segment) (means : meaning p ≡ datum c n x) where
    data_good : (d : ℕ) → GoodAt d (s.conns d) (segs_of d s.down) (pick (eqb c d) (loaded n x ∷ []) [] ++ items_of aim d w) (l d)
    unfolding items_of
    data_good d = rw means at (f.good d)

    data_order : Order s.conns s.down (replies w) s.host.pending
    unfolding replies
    data_order = rw means at f.order

    -- data under way is for a connection that is open at the host when it comes
    held_open_law : (s.conns c).host.opened ≡ true
    held_open_law = (carry_first (s.conns c).host.opened (s.conns c).controller.opened _ (items_of aim c w) (rw (eq-eqb c c refl) at (data_good c)).numbers.phase).0

    data_keeps : Kept (with_conns (at c (λ k. with_host (heard_data x (credited n k.host)) k) s.conns) (with_up w s))
        (counted w s aim l (datum c n x) (finished data_limit (s.conns c).host.run x))
    data_keeps =
        record {
          same_down = refl;
          same_up = refl;
          none_astray = refl;
          fine =
              record {
                good =
                    λ d.
                    each c
                    (λ d b.
                    GoodAt d (s.conns d) (segs_of d s.down) (pick b (loaded n x ∷ []) [] ++ items_of aim d w) (l d)
                    → GoodAt d (pick b (with_host (heard_data x (credited n (s.conns d).host)) (s.conns d)) (s.conns d)) (segs_of d s.down) (items_of aim d w) (pick b (given_l (finished data_limit (s.conns c).host.run x) (read_by (gives n) (l d))) (l d)))
                    (λ g. read_good (loaded n x) (finished data_limit (s.conns c).host.run x) refl g)
                    (λ d g. g) d (data_good d);
                order = order_open (λ d z. at_keeps c (λ k. with_host (heard_data x (credited n k.host)) k) s.conns (λ k. k.controller.opened) (λ k. refl) d) data_order;
                way = f.way;
                aimed = f.aimed;
                sound = rest_sound;
                heard = f.heard;
                standing = standing_same (at_keeps c (λ k. with_host (heard_data x (credited n k.host)) k) s.conns (λ k. k.controller) (λ k. refl)) f.standing;
                limits = f.limits;
                config = f.config;
              };
        }

  -- ---- a control message

  -- the state once the packet has been taken
  abbrev taken_off : ℕ → ℕ → ℕ → State
  taken_off mt gid oid = with_hearing (record { mt = mt; gid = gid; oid = oid; run = run [] }) (with_up w s)

  reads_by : (c : Change) (k : Connection) (ms : List Octets) → GrantsOctet c → Reads k (items_by c) ms
  reads_by stays k ms o = tt
  reads_by (opens t) k ms o = (o, tt)
  reads_by closes k ms o = (tt, tt)
  reads_by (gives n) k ms o = (tt, tt)

  -- what the host understood: h, of the contents m, where the packet says so to the observer too
  understood_keeps : (mt gid oid : ℕ) (m : Octets) (h : Heard) → ((d : ℕ) → change_in aim d (control mt gid oid (last m)) ≡ change_heard h m d)
      → ((d : ℕ) → GrantsOctet (change_heard h m d)) → meaning p ≡ control mt gid oid (last m)
      → Order s.conns s.down (replies w) (host_after s.host h).pending → Aimed (host_after s.host h).pending aim
      → Kept (understanding h m (taken_off mt gid oid)).next (counted w s aim l (control mt gid oid (last m)) [])
  unfolding items_of
  understood_keeps mt gid oid m h same octets means order aimed =
      record {
        same_down = refl;
        same_up = refl;
        none_astray = refl;
        fine =
            record {
              good =
                  λ d.
                  let c = change_heard h m d in
                  let old : GoodAt d (s.conns d) (segs_of d s.down) (items_by c ++ items_of aim d w) (l d) =
                  subst (λ (x : Change). GoodAt d (s.conns d) (segs_of d s.down) (items_by x ++ items_of aim d w) (l d)) (same d) (rw means at (f.good d)) in
                  rw (same d)
                  (subst (λ (k : Connection). GoodAt d k (segs_of d s.down) (items_of aim d w) (read_by c (l d))) (reads_change c (s.conns d))
                  (subst (λ (x : Ledger). GoodAt d (reads_k (items_by c) (s.conns d)) (segs_of d s.down) (items_of aim d w) x) (reads_l_change c [] (l d))
                  (reads_good (items_by c) [] (reads_by c (s.conns d) [] (octets d)) old)));
              order = order_open (λ d z. refl) order;
              way = f.way;
              aimed = aimed;
              sound = rest_sound;
              heard = refl;
              standing = standing_same (λ d. refl) f.standing;
              limits = f.limits;
              config = f.config;
            };
      }

  -- the command that a response answers is the only one under way, and the one that is unanswered
  pub answered_only : (gid oid : ℕ) (x : Segment) → meaning p ≡ control 2 gid oid x → Only (heads s.down) (replies w) (named gid oid) s.host.pending
  unfolding replies
  answered_only gid oid x means = one_only (heads s.down) (replies w) (named gid oid) s.host.pending (rw means at f.order.single)

  -- a response: its command is now answered
  module _ (gid oid : ℕ) (m : Octets) (means : meaning p ≡ control 2 gid oid (last m)) (understood : written 2 gid oid m ≡ true) where
    answered : Only (heads s.down) (replies w) (named gid oid) s.host.pending
    answered = answered_only gid oid (last m) means

    pub answer : Answer
    answer = answer_of (command_of gid oid) aim m

    pub says_answer : says aim 2 gid oid m ≡ Answered answer
    unfolding heard_written answer
    says_answer = rw understood

    -- the unanswered command awaits it, and named `aim`
    hears : (q : Option Asked) → Aimed q aim → pending_name q ≡ named gid oid ∷ [] → hear_of q 2 gid oid m ≡ Answered answer
    hears None a e = absurd (cons≢nil (sym e))
    hears (Some k) a e =
        let same = head-eq_of_cons-eq e in
        hear_response k gid oid m (ap (λ (n : Name). n.gid) same) (ap (λ (n : Name). n.oid) same)
        ∙ ap (λ (n : ℕ). says n 2 gid oid m) a ∙ says_answer

    pub settles : (h : Host) (a : Answer) → (host_after h (Answered a)).pending ≡ None
    unfolding host_after
    settles h Done = refl
    settles h ClosesAll = refl
    settles h (Sized n) = refl
    settles h (Opens c t) = refl
    settles h (Closes c) = refl

    pub response_heard : hear_of s.host.pending 2 gid oid m ≡ Answered answer
    response_heard = hears s.host.pending f.aimed answered.names

    response_keeps : Kept (understanding (hear_of s.host.pending 2 gid oid m) m (taken_off 2 gid oid)).next (counted w s aim l (control 2 gid oid (last m)) [])
    response_keeps =
        rw response_heard
        (understood_keeps 2 gid oid m (Answered answer) (λ d. ap (λ (h : Heard). change_heard h m d) says_answer)
        (λ d. subst (λ (h : Heard). GrantsOctet (change_heard h m d)) says_answer (says_octet aim 2 gid oid m d)) means
        (rw (settles s.host answer)
        record { clear = f.order.clear; single = rw (answered.before, answered.behind); tidy = λ b. clash b refl; empty = λ b. clash b refl })
        (rw (settles s.host answer) tt))

  -- a notification: whatever is unanswered stays so
  module _ (gid oid : ℕ) (m : Octets) (means : meaning p ≡ control 3 gid oid (last m)) where
    keeps_host : (h : Host) (n : Option Notice) → host_after h (noticed n m) ≡ h
    unfolding host_after
    keeps_host h (Some notice.Reset) = refl
    keeps_host h (Some notice.Credits) = refl
    keeps_host h (Some notice.GenericError) = refl
    keeps_host h (Some notice.Discover) = refl
    keeps_host h (Some notice.Activated) = refl
    keeps_host h (Some notice.Deactivate) = refl
    keeps_host h None = refl

    pub said_host : host_after s.host (says aim 3 gid oid m) ≡ s.host
    unfolding heard_written host_after
    said_host = on (λ (h : Heard). host_after s.host h ≡ s.host) (written 3 gid oid m) (λ e. keeps_host s.host (notice_of gid oid)) (λ e. refl)

    notice_order : Order s.conns s.down (replies w) s.host.pending
    unfolding replies
    notice_order = rw means at f.order

    notice_keeps : Kept (understanding (hear_of s.host.pending 3 gid oid m) m (taken_off 3 gid oid)).next (counted w s aim l (control 3 gid oid (last m)) [])
    notice_keeps =
        rw (hear_notice s.host.pending aim gid oid m)
        (understood_keeps 3 gid oid m (says aim 3 gid oid m) (λ d. refl) (says_octet aim 3 gid oid m) means (rw said_host notice_order) (rw said_host f.aimed))

  -- ---- any packet

  -- the host's run is at its start, so the packet is the whole message
  abbrev heard_with : Run → ℕ → ℕ → ℕ → Octets → Effect
  heard_with r mt gid oid m =
      hearing mt gid oid (finished control_limit r (last m)) (flagged control_limit r (last m))
      (with_hearing (record { mt = mt; gid = gid; oid = oid; run = grown control_limit r (last m) }) (with_up w s))

  run_start : (mt gid oid : ℕ) → run [] ≡ run_for s.hearing mt gid oid
  run_start mt gid oid =
      on (λ (r : Run). run [] ≡ r) (same_run s.hearing mt gid oid) (λ e. sym f.heard) (λ e. refl)

  whole_message : (m : Octets) → length m ≤ control_limit → finished control_limit (run []) (last m) ≡ m ∷ []
  whole_message m short = rw (within control_limit [] m short)

  control_keeps : (mt gid oid : ℕ) (m : Octets) → meaning p ≡ control mt gid oid (last m)
      → (((mt ≡ 2) × (written 2 gid oid m ≡ true)) ⊎ (mt ≡ 3)) → length m ≤ control_limit
      → Comes (control mt gid oid (last m)) (coming (control mt gid oid (last m)) (with_up w s))
  control_keeps mt gid oid m means kind short = go kind
    where
      Heeded : ℕ → Type 0
      Heeded n = meaning p ≡ control n gid oid (last m) → Comes (control n gid oid (last m)) (coming (control n gid oid (last m)) (with_up w s))

      response : written 2 gid oid m ≡ true → Heeded 2
      response u e =
          subst (λ (r : Run). Comes (control 2 gid oid (last m)) (heard_with r 2 gid oid m)) (run_start 2 gid oid)
          (rw (whole_message m short) (response_keeps gid oid m e u))

      notification : Heeded 3
      notification e =
          subst (λ (r : Run). Comes (control 3 gid oid (last m)) (heard_with r 3 gid oid m)) (run_start 3 gid oid)
          (rw (whole_message m short) (notice_keeps gid oid m e))

      go : ((mt ≡ 2) × (written 2 gid oid m ≡ true)) ⊎ (mt ≡ 3) → Comes (control mt gid oid (last m)) (coming (control mt gid oid (last m)) (with_up w s))
      go (inl k) = subst Heeded (sym k.0) (response k.1) means
      go (inr e) = subst Heeded (sym e) notification means

  coming_keeps : (q : Meaning) → meaning p ≡ q → SoundIn q → Comes q (coming q (with_up w s))
  coming_keeps (datum c n x) means k = rw (held_open_law c n x means) (data_keeps c n x means)
  coming_keeps (control mt gid oid (more b)) means k = absurd k
  coming_keeps (control mt gid oid (last m)) means k = control_keeps mt gid oid m means k.0 k.1
  coming_keeps junk means k = junk_keeps means

pub up_keeps : (s : State) (aim : ℕ) (l : ℕ → Ledger) → Keeps up s aim l
up_keeps s aim l t f = go s.up (need 8 (rules up s) t) f
  where
    go : (w : List Octets) → is_nil w ≡ false → Fine (with_up w s) aim l
        → Kept (taking_up w s).next (tallied up (event_of up (record { answer = taken; effect = taking_up w s })) (account_of (with_up w s) aim l))
    go [] e f = clash refl e
    go (p ∷ w) e f = coming_keeps s aim l p w f (meaning p) refl f.sound.0
