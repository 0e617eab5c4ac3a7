-- What a packet that an end puts on a wire means to the end that takes it, and how the projections of the wires go over lists of packets.
-- Assumes nothing.
use Prim.Native.Nat.{ℕ, ◌+◌, ◌<◌}
use native.Mathlib.Omega.{arith}
use mathlib.Core.Path.{◌≡◌, refl, sym, ap, ◌∙◌}
use mathlib.Core.Bool.{Bool, true, false}
use mathlib.Core.List.{List, [], ◌∷◌, ◌++◌, map, append_assoc, append-nil}
use lib.Dec.{eqb}
use lib.ListN.{length, get_or, length-append}
use borrow.Author.Tests.{eqb-true, eq-eqb}
use Rattle.std.specs.Prelude.{Option, Some}
use Rattle.octets.specs.Octets.{Octets, pick}
use Rattle.model.specs.Kinds.{Header, Asked, Command, Heard}
use Rattle.packets.specs.Packet.{packet_of, read_of, payload_of, Writable}
use Rattle.packets.specs.Segments.{Segment, more, last, segment, body, flag, marked, segments, segment_packet, packets_of}
use Rattle.packets.proofs.RoundTrip.{read_written, payload_written}
use Rattle.model.specs.Kinds.command.{Reset, Init, ConnCreate, ConnClose, Discover, Select, Deactivate, Unknown, SetConfig, GetConfig}
use Rattle.model.specs.Kinds.answer.{Done, ClosesAll, Sized, Opens, Closes}
use Rattle.model.specs.Kinds.heard.{Nothing, Dropped, Answered, Activated, Deactivated, Credits}
use Rattle.state.specs.Conn.{metered}
use Rattle.state.specs.Commands.{command_of}
use Rattle.dh.specs.Contents.{written, notice_of}
use Rattle.dh.specs.Host.{heard_written, hear_of, answer_of, ok_answer, noticed, credits_for}
use Rattle.packets.specs.Headers.{data_header, control_header}
use Rattle.messages.specs.Packets.{response_packet, notice_packet}
use Rattle.wires.specs.Meaning.{Meaning, datum, control, junk, meant, meaning}
use Rattle.wires.specs.Tally.{is_data_for, data_count, aimed_at, says, credits_said, credits_meant, credits_up}
use Rattle.ends.specs.Changes.{stays, opens, closes, gives, change_heard}
use Rattle.model.specs.invariant.Items.{loaded, items_by, items_in, items_of, segs_in, segs_of, store_segs, up_credits}
use Rattle.model.proofs.Items.{up_credits_append}

-- ---- what a packet means that was written with a header in range

pub meaning_packet : (h : Header) (m : Octets) → Writable h → meaning (packet_of h m) ≡ meant h (segment h.pbf m)
unfolding meaning
meaning_packet h m w =
    let read : read_of (packet_of h m) ≡ Some (h, length m) = rw append-nil at (read_written h m [] w) in
    let load : payload_of (packet_of h m) (length m) ≡ m = rw append-nil at (payload_written h m [] w) in
    rw (read, load)

-- the segment that its packet's flag and payload make is the segment itself
segment_flagged : (x : Segment) → segment (flag x) (body x) ≡ x
segment_flagged (more b) = refl
segment_flagged (last b) = refl

-- data that an end puts on a wire
pub meaning_data : (c n : ℕ) (x : Segment) → c < 16 → n < 4 → meaning (segment_packet (data_header c n) x) ≡ datum c n x
meaning_data c n x low few =
    meaning_packet (marked (data_header c n) (flag x)) (body x)
    (record { mt = omega arith; id = low; oid = omega arith; data_oid = λ e. refl; credits = few; control_credits = λ z. absurd (z refl); spare = refl })
    ∙ ap (datum c n) (segment_flagged x)

module _ (gid oid : ℕ) (low : gid < 16) (small : oid < 64) where
  -- a segment of a command
  pub meaning_command : (x : Segment) → meaning (segment_packet (control_header 1 gid oid) x) ≡ control 1 gid oid x
  meaning_command x =
      meaning_packet (marked (control_header 1 gid oid) (flag x)) (body x)
      (record { mt = omega arith; id = low; oid = small; data_oid = λ e. absurd (omega arith); credits = omega arith; control_credits = λ z. refl; spare = refl })
      ∙ ap (control 1 gid oid) (segment_flagged x)

  -- a response and a notification, each one packet
  pub meaning_response : (m : Octets) → meaning (response_packet (record { gid = gid; oid = oid; payload = m })) ≡ control 2 gid oid (last m)
  meaning_response m =
      meaning_packet (control_header 2 gid oid) m
      (record { mt = omega arith; id = low; oid = small; data_oid = λ e. absurd (omega arith); credits = omega arith; control_credits = λ z. refl; spare = refl })

  pub meaning_notice : (m : Octets) → meaning (notice_packet (record { gid = gid; oid = oid; payload = m })) ≡ control 3 gid oid (last m)
  meaning_notice m =
      meaning_packet (control_header 3 gid oid) m
      (record { mt = omega arith; id = low; oid = small; data_oid = λ e. absurd (omega arith); credits = omega arith; control_credits = λ z. refl; spare = refl })

-- ---- the projections of one list after another

pub segs_of_append : (d : ℕ) (a b : List Octets) → segs_of d (a ++ b) ≡ segs_of d a ++ segs_of d b
unfolding segs_of
segs_of_append d [] b = refl
segs_of_append d (p ∷ a) b = rw (segs_of_append d a b, append_assoc)

pub items_of_append : (aim d : ℕ) (a b : List Octets) → items_of aim d (a ++ b) ≡ items_of aim d a ++ items_of aim d b
unfolding items_of
items_of_append aim d [] b = refl
items_of_append aim d (p ∷ a) b = rw (items_of_append aim d a b, append_assoc)

pub store_segs_append : (a b : List Octets) → store_segs (a ++ b) ≡ store_segs a ++ store_segs b
unfolding store_segs
store_segs_append [] b = refl
store_segs_append (p ∷ a) b = rw (store_segs_append a b, append_assoc)

pub data_count_append : (c : ℕ) (a b : List Octets) → data_count c (a ++ b) ≡ data_count c a + data_count c b
unfolding data_count
data_count_append c [] b = omega arith
data_count_append c (p ∷ a) b = omega (arith, data_count_append c a b)

pub credits_up_append : (c : ℕ) (a b : List Octets) → credits_up c (a ++ b) ≡ credits_up c a + credits_up c b
unfolding credits_up
credits_up_append c [] b = omega arith
credits_up_append c (p ∷ a) b = omega (arith, credits_up_append c a b)

-- ---- data on the down wire is counted by its segments

data_one_law : (c : ℕ) (q : Meaning) → pick (is_data_for c q) 1 0 ≡ length (segs_in c q)
data_one_law c (datum d n x) = elim (eqb d c) as (λ b. pick b 1 0 ≡ length (pick b (x ∷ []) [])) [ true ↦ refl | false ↦ refl ]
data_one_law c (control mt gid oid x) = refl
data_one_law c junk = refl

pub data_count_segs : (c : ℕ) (w : List Octets) → data_count c w ≡ length (segs_of c w)
unfolding data_count segs_of
data_count_segs c [] = refl
data_count_segs c (p ∷ w) =
    (λ i. data_one_law c (meaning p) i + data_count_segs c w i) ∙ sym (length-append (segs_in c (meaning p)) (segs_of c w))

-- ---- credits on the up wire are counted by its items, whichever connection a CONN_CLOSE named

credits_change : (h : Heard) (m : Octets) (d : ℕ) → up_credits (items_by (change_heard h m d)) ≡ credits_said d m h
credits_change Nothing m d = refl
credits_change Dropped m d = refl
credits_change (Answered Done) m d = refl
credits_change (Answered ClosesAll) m d = refl
credits_change (Answered (Sized n)) m d = refl
credits_change (Answered (Opens c t)) m d =
    elim (eqb c d) as (λ b. up_credits (items_by (pick b (opens t) stays)) ≡ pick b (metered t.credits) 0) [ true ↦ omega arith | false ↦ refl ]
credits_change (Answered (Closes c)) m d = elim (eqb c d) as (λ b. up_credits (items_by (pick b closes stays)) ≡ 0) [ true ↦ refl | false ↦ refl ]
credits_change (Activated t) m d =
    elim (eqb 0 d) as (λ b. up_credits (items_by (pick b (opens t) stays)) ≡ pick b (metered t.credits) 0) [ true ↦ omega arith | false ↦ refl ]
credits_change Deactivated m d = elim (eqb 0 d) as (λ b. up_credits (items_by (pick b closes stays)) ≡ 0) [ true ↦ refl | false ↦ refl ]
credits_change Credits m d = go (eqb (credits_for m d) 0) refl
  where
    go : (b : Bool) → eqb (credits_for m d) 0 ≡ b → up_credits (items_by (pick b stays (gives (credits_for m d)))) ≡ credits_for m d
    go true e = sym (eqb-true (credits_for m d) 0 e)
    go false e = omega arith

ok_aimless : (c : Command) (aim : ℕ) (d : ℕ) (m n : Octets) → credits_said d m (Answered (ok_answer c aim n)) ≡ credits_said d m (Answered (ok_answer c 0 n))
ok_aimless Reset aim d m n = refl
ok_aimless Init aim d m n = refl
ok_aimless ConnCreate aim d m n = refl
ok_aimless ConnClose aim d m n = refl
ok_aimless Discover aim d m n = refl
ok_aimless Select aim d m n = refl
ok_aimless Deactivate aim d m n = refl
ok_aimless Unknown aim d m n = refl
ok_aimless SetConfig aim d m n = refl
ok_aimless GetConfig aim d m n = refl

heard_aimless : (aim mt gid oid d : ℕ) (m n : Octets)
    → credits_said d m (heard_written (aimed_at aim) mt gid oid n) ≡ credits_said d m (heard_written (aimed_at 0) mt gid oid n)
unfolding heard_written answer_of
heard_aimless aim mt gid oid d m n =
    elim (eqb mt 2) as (λ b. credits_said d m (pick b (Answered (answer_of (command_of gid oid) aim n)) (noticed (notice_of gid oid) n))
    ≡ credits_said d m (pick b (Answered (answer_of (command_of gid oid) 0 n)) (noticed (notice_of gid oid) n))) [
      | true ↦ elim (eqb (get_or n 0 0) 0) as (λ b. credits_said d m (Answered (pick b (ok_answer (command_of gid oid) aim n) Done))
          ≡ credits_said d m (Answered (pick b (ok_answer (command_of gid oid) 0 n) Done))) [ true ↦ ok_aimless (command_of gid oid) aim d m n | false ↦ refl ]
      | false ↦ refl
    ]

says_aimless : (aim mt gid oid d : ℕ) (m n : Octets) → credits_said d m (says aim mt gid oid n) ≡ credits_said d m (says 0 mt gid oid n)
says_aimless aim mt gid oid d m n =
    elim (written mt gid oid n) as (λ b. credits_said d m (pick b (heard_written (aimed_at aim) mt gid oid n) Nothing)
    ≡ credits_said d m (pick b (heard_written (aimed_at 0) mt gid oid n) Nothing)) [ true ↦ heard_aimless aim mt gid oid d m n | false ↦ refl ]

credits_one : (aim d : ℕ) (q : Meaning) → credits_meant d q ≡ up_credits (items_in aim d q)
credits_one aim d (datum c n x) = elim (eqb c d) as (λ b. pick b n 0 ≡ up_credits (pick b (loaded n x ∷ []) [])) [ true ↦ omega arith | false ↦ refl ]
credits_one aim d (control mt gid oid (more b)) = refl
credits_one aim d (control mt gid oid (last m)) =
    sym (credits_change (pick (eqb mt 1) Nothing (says aim mt gid oid m)) m d
    ∙ elim (eqb mt 1) as (λ b. credits_said d m (pick b Nothing (says aim mt gid oid m)) ≡ credits_said d m (pick b Nothing (says 0 mt gid oid m)))
    [ true ↦ refl | false ↦ says_aimless aim mt gid oid d m m ])
credits_one aim d junk = refl

pub credits_up_items : (aim d : ℕ) (w : List Octets) → credits_up d w ≡ up_credits (items_of aim d w)
unfolding credits_up items_of
credits_up_items aim d [] = refl
credits_up_items aim d (p ∷ w) =
    (λ i. credits_one aim d (meaning p) i + credits_up_items aim d w i) ∙ sym (up_credits_append (items_in aim d (meaning p)) (items_of aim d w))

-- ---- the packets that an end puts on a wire, projected

-- one packet of data
module _ (p : Octets) (c n : ℕ) (x : Segment) (means : meaning p ≡ datum c n x) where
  pub segs_of_data : (d : ℕ) → segs_of d (p ∷ []) ≡ pick (eqb c d) (x ∷ []) []
  unfolding segs_of
  segs_of_data d = rw (means, append-nil)

  pub items_of_data : (aim d : ℕ) → items_of aim d (p ∷ []) ≡ pick (eqb c d) (loaded n x ∷ []) []
  unfolding items_of
  items_of_data aim d = rw (means, append-nil)

  pub store_segs_data : store_segs (p ∷ []) ≡ x ∷ []
  unfolding store_segs
  store_segs_data = rw means

-- a command, cut into segments: it holds no data
module _ (gid oid : ℕ) (low : gid < 16) (small : oid < 64) where
  pub meanings_command : (ss : List Segment) → map meaning (map (segment_packet (control_header 1 gid oid)) ss) ≡ map (control 1 gid oid) ss
  meanings_command [] = refl
  meanings_command (x ∷ ss) = λ i. meaning_command gid oid low small x i ∷ meanings_command ss i

  no_data : (d : ℕ) (ss : List Segment) → segs_of d (map (segment_packet (control_header 1 gid oid)) ss) ≡ []
  unfolding segs_of
  no_data d [] = refl
  no_data d (x ∷ ss) = rw (meaning_command gid oid low small x) (no_data d ss)

  pub segs_of_command : (d size : ℕ) (m : Octets) → segs_of d (packets_of (control_header 1 gid oid) size m) ≡ []
  segs_of_command d size m = no_data d (segments size m)

-- which connection the last command named makes a difference to responses alone
pub items_aimless : (a b d mt gid oid : ℕ) (x : Segment) → eqb mt 2 ≡ false
    → items_in a d (control mt gid oid x) ≡ items_in b d (control mt gid oid x)
unfolding heard_written
items_aimless a b d mt gid oid (more o) e = refl
items_aimless a b d mt gid oid (last m) e = rw e

-- ---- the host hears what the packet says

-- a response to the unanswered command
pub hear_response : (a : Asked) (gid oid : ℕ) (m : Octets) → a.gid ≡ gid → a.oid ≡ oid
    → hear_of (Some a) 2 gid oid m ≡ says a.aim 2 gid oid m
unfolding hear_of heard_written
hear_response a gid oid m g o = rw (eq-eqb a.gid gid g, eq-eqb a.oid oid o)

-- a notification, whatever is unanswered
pub hear_notice : (p : Option Asked) (aim gid oid : ℕ) (m : Octets) → hear_of p 3 gid oid m ≡ says aim 3 gid oid m
unfolding hear_of heard_written
hear_notice p aim gid oid m = refl
