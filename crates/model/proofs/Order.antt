-- The laws of `specs/invariant/Commands.antt`: one command at a time, no data behind one that closes, and a command on its way.
-- Assumes nothing.
use Prim.Native.Nat.{ℕ, zero, suc, ◌≤◌, ◌<◌}
use native.Mathlib.Omega.{arith}
use mathlib.Core.Path.{◌≡◌, refl, sym, ap, ◌∙◌, subst}
use mathlib.Core.Bool.{Bool, true, false}
use mathlib.Core.List.{List, [], ◌∷◌, ◌++◌, map, append_assoc, append-nil, cons≢nil, tail-eq_of_cons-eq}
use lib.Dec.{eqb, ltb}
use lib.ListN.{length, take, drop}
use borrow.Author.Tests.{eq-eqb}
use Rattle.std.specs.Prelude.{Option, Some, None}
use Rattle.octets.specs.Octets.{Octets, pick}
use Rattle.state.proofs.Chains.{pick_same}
use Rattle.packets.specs.Segments.{Segment, more, last, segments_within, segments, parse, left, segment_packet}
use Rattle.packets.specs.Reassembly.{Run, run, grown, Fit}
use Rattle.packets.proofs.Reassembly.{run_fits, within}
use Rattle.packets.proofs.Segments.{parse_segments, left_segments}
use Rattle.model.specs.Kinds.{Asked}
use Rattle.state.specs.Runs.{control_limit}
use Rattle.packets.specs.Headers.{control_header}
use Rattle.wires.specs.Meaning.{Meaning, datum, control, junk, meaning}
use Rattle.model.specs.State.{no_run, ControlRun}
use Rattle.dh.specs.Host.{is_busy}
use Rattle.model.specs.Runs.{run_for, same_run}
use Rattle.model.specs.invariant.Items.{segs_in, segs_of}
use Rattle.model.specs.Reachable.{Each}
use Rattle.model.specs.invariant.Commands.{Name, named, heads_in, heads, replies_in, replies, pending_name, Which, NoDatum, NoData, Tidy, orders_in, orders, NonEmpty, Complete, NamedIn, AllNamed, OnItsWay}
use Rattle.model.specs.calls.Down.{needs_two}
-- `need` can be named from here too
pub use Rattle.model.proofs.Needs.{need}
use Rattle.model.proofs.Cases.{clash, left_nil, right_nil, each_append}

-- ---- commands under way

pub heads_append : (a b : List Octets) → heads (a ++ b) ≡ heads a ++ heads b
unfolding heads
heads_append [] b = refl
heads_append (p ∷ a) b = ap (λ l. heads_in (meaning p) ++ l) (heads_append a b) ∙ sym (append_assoc (heads_in (meaning p)) (heads a) (heads b))

pub orders_append : (a b : List Octets) → orders (a ++ b) ≡ orders a ++ orders b
unfolding orders
orders_append [] b = refl
orders_append (p ∷ a) b = ap (λ l. orders_in (meaning p) ++ l) (orders_append a b) ∙ sym (append_assoc (orders_in (meaning p)) (orders a) (orders b))

pub replies_append : (a b : List Octets) → replies (a ++ b) ≡ replies a ++ replies b
unfolding replies
replies_append [] b = refl
replies_append (p ∷ a) b = ap (λ l. replies_in (meaning p) ++ l) (replies_append a b) ∙ sym (append_assoc (replies_in (meaning p)) (replies a) (replies b))

no_middle : {A : Type 0} (a b : List Name) (k : Name) → a ++ (k ∷ b) ≡ [] → A
no_middle [] b k e = absurd (cons≢nil e)
no_middle (x ∷ a) b k e = absurd (cons≢nil e)

-- a command under way is the only one, and it is the one that is unanswered
pub record Only (a b : List Name) (k : Name) (p : Option Asked) : Type 0 where
  pub before : a ≡ []
  pub behind : b ≡ []
  pub names : pending_name p ≡ k ∷ []

pub one_only : (a b : List Name) (k : Name) (p : Option Asked) → a ++ (k ∷ b) ≡ pending_name p → Only a b k p
one_only a b k None e = no_middle a b k e
one_only [] b k (Some j) e = record { before = refl; behind = tail-eq_of_cons-eq e; names = sym e ∙ ap (λ l. k ∷ l) (tail-eq_of_cons-eq e) }
one_only (x ∷ a) b k (Some j) e = no_middle a b k (tail-eq_of_cons-eq e)

pub idle_pending : (p : Option Asked) → is_busy p ≡ false → pending_name p ≡ []
idle_pending None e = refl
idle_pending (Some k) e = clash refl e

-- ---- no data behind a command that closes

no_segs_in : (d : ℕ) (q : Meaning) → NoDatum q → segs_in d q ≡ []
no_segs_in d (datum c m x) n = absurd n
no_segs_in d (control mt gid oid x) n = refl
no_segs_in d junk n = refl

pub no_segs : (d : ℕ) (w : List Octets) → NoData w → segs_of d w ≡ []
unfolding segs_of
no_segs d [] n = refl
no_segs d (p ∷ w) n = rw (no_segs_in d (meaning p) n.0) (no_segs d w n.1)

pub no_data_tidy : (w : List Octets) → NoData w → Tidy w
unfolding Tidy
no_data_tidy [] n = tt
no_data_tidy (p ∷ w) n = go (needs_two (meaning p)) (no_data_tidy w n.1)
  where
    go : (b : Bool) → Tidy w → Which b (NoData w) (Tidy w)
    go true t = n.1
    go false t = t

no_head_end : (q : Meaning) → heads_in q ≡ [] → needs_two q ≡ false
no_head_end (datum c n x) e = refl
no_head_end (control mt gid oid (more b)) e = refl
no_head_end (control mt gid oid (last b)) e = go (eqb mt 1) e
  where
    go : (t : Bool) → pick t (named gid oid ∷ []) [] ≡ [] → t ≡ false
    go true h = absurd (cons≢nil h)
    go false h = refl
no_head_end junk e = refl

pub tidy_append : (w x : List Octets) → heads w ≡ [] → Tidy x → Tidy (w ++ x)
unfolding heads Tidy
tidy_append [] x e t = t
tidy_append (p ∷ w) x e t =
    rw (no_head_end (meaning p) (left_nil (heads_in (meaning p)) (heads w) e))
    (tidy_append w x (right_nil (heads_in (meaning p)) e) t)

-- ---- segments of commands

abbrev NoLast : List Segment → Type 0
NoLast [] = Unit {0}
NoLast (more b ∷ ss) = NoLast ss
NoLast (last b ∷ ss) = ⊥

complete_no_last : (ss : List Segment) → Complete ss → NoLast ss → ss ≡ []
complete_no_last [] c n = refl
complete_no_last (more b ∷ ss) c n = absurd (subst NonEmpty (complete_no_last ss c.1 n) c.0)
complete_no_last (last b ∷ ss) c n = absurd n

no_last_in : (q : Meaning) (ss : List Segment) → heads_in q ≡ [] → NoLast ss → NoLast (orders_in q ++ ss)
no_last_in (datum c m x) ss e n = n
no_last_in (control mt gid oid (more b)) ss e n = elim (eqb mt 1) as (λ t. NoLast (pick t (more b ∷ []) [] ++ ss)) [ true ↦ n | false ↦ n ]
no_last_in (control mt gid oid (last b)) ss e n = go (eqb mt 1) e
  where
    go : (t : Bool) → pick t (named gid oid ∷ []) [] ≡ [] → NoLast (pick t (last b ∷ []) [] ++ ss)
    go true h = absurd (cons≢nil h)
    go false h = n
no_last_in junk ss e n = n

no_lasts : (w : List Octets) → heads w ≡ [] → NoLast (orders w)
unfolding heads orders
no_lasts [] e = tt
no_lasts (p ∷ w) e =
    no_last_in (meaning p) (orders w) (left_nil (heads_in (meaning p)) (heads w) e) (no_lasts w (right_nil (heads_in (meaning p)) e))

-- no last packet of a command, so no packet of one
pub no_orders : (w : List Octets) → heads w ≡ [] → Complete (orders w) → orders w ≡ []
no_orders w e c = complete_no_last (orders w) c (no_lasts w e)

within_some : (f size : ℕ) (m : Octets) → NonEmpty (segments_within f size m)
unfolding segments_within
within_some zero size m = tt
within_some (suc f) size m =
    elim (ltb size (length m)) as (λ b. NonEmpty (pick b (more (take size m) ∷ segments_within f size (drop size m)) (last m ∷ []))) [ true ↦ tt | false ↦ tt ]

within_complete : (f size : ℕ) (m : Octets) → Complete (segments_within f size m)
unfolding segments_within
within_complete zero size m = tt
within_complete (suc f) size m =
    elim (ltb size (length m)) as (λ b. Complete (pick b (more (take size m) ∷ segments_within f size (drop size m)) (last m ∷ [])))
    [ true ↦ (within_some f size (drop size m), within_complete f size (drop size m)) | false ↦ tt ]

pub segments_complete : (size : ℕ) (m : Octets) → Complete (segments size m)
unfolding segments
segments_complete size m = within_complete (length m) size m

-- ---- the packets of a command

abbrev pub ordered : ℕ → ℕ → List Segment → List Octets
ordered gid oid ss = map (segment_packet (control_header 1 gid oid)) ss

abbrev names_of : Name → List Segment → List Name
names_of n [] = []
names_of n (more b ∷ ss) = names_of n ss
names_of n (last b ∷ ss) = n ∷ names_of n ss

within_names : (n : Name) (f size : ℕ) (m : Octets) → names_of n (segments_within f size m) ≡ n ∷ []
unfolding segments_within
within_names n zero size m = refl
within_names n (suc f) size m =
    elim (ltb size (length m)) as (λ b. names_of n (pick b (more (take size m) ∷ segments_within f size (drop size m)) (last m ∷ [])) ≡ n ∷ [])
    [ true ↦ within_names n f size (drop size m) | false ↦ refl ]

pub named_append : (n : Name) (a b : List Octets) → AllNamed n a → AllNamed n b → AllNamed n (a ++ b)
named_append n = each_append (λ p. NamedIn n (meaning p))

unordered_in : (n : Name) (q : Meaning) → orders_in q ≡ [] → NamedIn n q
unordered_in n (datum c m x) e = tt
unordered_in n (control mt gid oid x) e = λ t. absurd (cons≢nil (rw t at e))
unordered_in n junk e = tt

-- a wire without command packets
pub unordered : (n : Name) (w : List Octets) → orders w ≡ [] → AllNamed n w
unfolding orders
unordered n [] e = tt
unordered n (p ∷ w) e = (unordered_in n (meaning p) (left_nil (orders_in (meaning p)) (orders w) e), unordered n w (right_nil (orders_in (meaning p)) e))

module _ (gid oid : ℕ) (means : (x : Segment) → meaning (segment_packet (control_header 1 gid oid) x) ≡ control 1 gid oid x) where
  heads_names : (ss : List Segment) → heads (ordered gid oid ss) ≡ names_of (named gid oid) ss
  unfolding heads
  heads_names [] = refl
  heads_names (more b ∷ ss) = rw (means (more b)) (heads_names ss)
  heads_names (last b ∷ ss) = rw (means (last b)) (ap (λ l. named gid oid ∷ l) (heads_names ss))

  pub ordered_heads : (size : ℕ) (m : Octets) → heads (ordered gid oid (segments size m)) ≡ named gid oid ∷ []
  unfolding segments
  ordered_heads size m = heads_names (segments size m) ∙ within_names (named gid oid) (length m) size m

  pub ordered_orders : (ss : List Segment) → orders (ordered gid oid ss) ≡ ss
  unfolding orders
  ordered_orders [] = refl
  ordered_orders (x ∷ ss) = rw (means x) (ap (λ l. x ∷ l) (ordered_orders ss))

  pub ordered_named : (ss : List Segment) → AllNamed (named gid oid) (ordered gid oid ss)
  ordered_named [] = tt
  ordered_named (x ∷ ss) = rw (means x) (λ e. refl, ordered_named ss)

  pub ordered_no_data : (ss : List Segment) → NoData (ordered gid oid ss)
  ordered_no_data [] = tt
  ordered_no_data (x ∷ ss) = rw (means x) (tt, ordered_no_data ss)

-- ---- the command that is on its way to the controller

-- a new command, where none is under way
pub command_way : (P Q : Name → Octets → Type 0) (size : ℕ) (r : ControlRun) (w : List Octets) (gid oid : ℕ) (m : Octets) → gid < 16 → oid < 64
    → ((x : Segment) → meaning (segment_packet (control_header 1 gid oid) x) ≡ control 1 gid oid x)
    → length m ≤ control_limit → heads w ≡ [] → OnItsWay P r w → Q (named gid oid) m
    → OnItsWay Q r (w ++ ordered gid oid (segments size m))
unfolding left parse Fit
command_way P Q size r w gid oid m low small means short e q known =
    let none = no_orders w e q.complete in
    let start : q.so_far ≡ [] = rw none at q.whole in
    let list : orders (w ++ ordered gid oid (segments size m)) ≡ segments size m = orders_append w _ ∙ (λ i. none i ++ ordered_orders gid oid means (segments size m) i) in
    record {
      name = named gid oid;
      low = low;
      small = small;
      so_far = [];
      kept = q.kept ∙ ap run start;
      mine = ap (λ (x : Run). pick (same_run r 1 gid oid) x (run [])) (q.kept ∙ ap run start) ∙ pick_same (same_run r 1 gid oid) (run []);
      of_one = named_append (named gid oid) w (ordered gid oid (segments size m)) (unordered (named gid oid) w none) (ordered_named gid oid means (segments size m));
      complete = rw list (segments_complete size m);
      whole = rw (list, left_segments size [] m);
      as_taken = rw (list, parse_segments size [] m) (known, tt);
      fits = rw (list, parse_segments size [] m) (short, tt);
    }

-- no command under way
pub no_way : (P : Name → Octets → Type 0) → OnItsWay P no_run []
unfolding orders left parse Fit
no_way P =
    record {
      name = named 0 0;
      low = omega arith;
      small = omega arith;
      so_far = [];
      kept = refl;
      mine = refl;
      of_one = tt;
      complete = tt;
      whole = refl;
      as_taken = tt;
      fits = tt;
    }

-- a data packet is no command's
module _ (p : Octets) (c m : ℕ) (x : Segment) (means : meaning p ≡ datum c m x) where
  pub heads_data : heads (p ∷ []) ≡ []
  unfolding heads
  heads_data = rw means

  pub replies_data : (w : List Octets) → replies (w ++ (p ∷ [])) ≡ replies w
  unfolding replies
  replies_data w = replies_append w (p ∷ []) ∙ rw means (append-nil (replies w))

  orders_data : (w : List Octets) → orders (w ++ (p ∷ [])) ≡ orders w
  unfolding orders
  orders_data w = orders_append w (p ∷ []) ∙ rw means (append-nil (orders w))

  named_data : (n : Name) (w : List Octets) → AllNamed n w → AllNamed n (w ++ (p ∷ []))
  named_data n w h = named_append n w (p ∷ []) h (rw means (tt, tt))

pub data_way : (P : Name → Octets → Type 0) (r : ControlRun) (w : List Octets) (p : Octets) (c m : ℕ) (x : Segment) → meaning p ≡ datum c m x
    → OnItsWay P r w → OnItsWay P r (w ++ (p ∷ []))
data_way P r w p c m x means q =
    let same = orders_data p c m x means w in
    record {
      name = q.name;
      low = q.low;
      small = q.small;
      so_far = q.so_far;
      kept = q.kept;
      mine = q.mine;
      of_one = named_data p c m x means q.name w q.of_one;
      complete = rw same q.complete;
      whole = rw same q.whole;
      as_taken = rw same q.as_taken;
      fits = rw same q.fits;
    }

-- a notification answers no command
pub replies_notice : (w : List Octets) (p : Octets) (gid oid : ℕ) (m : Octets) → meaning p ≡ control 3 gid oid (last m) → replies (w ++ (p ∷ [])) ≡ replies w
unfolding replies
replies_notice w p gid oid m means = replies_append w (p ∷ []) ∙ rw means (append-nil (replies w))

-- ---- the controller takes a packet of the command

module _ (P : Name → Octets → Type 0) (r : ControlRun) (p : Octets) (w : List Octets) (q : OnItsWay P r (p ∷ w)) where
  -- one that is no command's
  pub other_way : orders_in (meaning p) ≡ [] → OnItsWay P r w
  unfolding orders
  other_way e =
      record {
        name = q.name;
        low = q.low;
        small = q.small;
        so_far = q.so_far;
        kept = q.kept;
        mine = q.mine;
        of_one = q.of_one.1;
        complete = rw e at q.complete;
        whole = rw e at q.whole;
        as_taken = rw e at q.as_taken;
        fits = rw e at q.fits;
      }

module _ (P : Name → Octets → Type 0) (r : ControlRun) (p : Octets) (w : List Octets) (mt gid oid : ℕ) (x : Segment)
    (means : meaning p ≡ control mt gid oid x) (order : eqb mt 1 ≡ true) (q : OnItsWay P r (p ∷ w)) where
  -- it joins the run of its own command
  pub way_name : named gid oid ≡ q.name
  way_name = (rw means at q.of_one.0) order

  pub way_run : run_for r 1 gid oid ≡ run q.so_far
  way_run = ap (λ (n : Name). run_for r 1 n.gid n.oid) way_name ∙ q.mine

  way_orders : orders (p ∷ w) ≡ x ∷ orders w
  unfolding orders
  way_orders = rw (means, order)

  way_named : AllNamed (named gid oid) w
  way_named = rw way_name q.of_one.1

  pub way_low : gid < 16
  way_low = subst (λ (n : Name). n.gid < 16) (sym way_name) q.low

  pub way_small : oid < 64
  way_small = subst (λ (n : Name). n.oid < 64) (sym way_name) q.small

  -- the run after it is that of the same command
  same_again : (so_far : Octets) → run_for (record { mt = 1; gid = gid; oid = oid; run = run so_far }) 1 gid oid ≡ run so_far
  same_again so_far = rw (eq-eqb gid gid refl, eq-eqb oid oid refl)

-- a segment that is followed by more
pub way_more : (P : Name → Octets → Type 0) (r : ControlRun) (p : Octets) (w : List Octets) (mt gid oid : ℕ) (b : Octets)
    → meaning p ≡ control mt gid oid (more b) → eqb mt 1 ≡ true → (q : OnItsWay P r (p ∷ w))
    → OnItsWay P (record { mt = 1; gid = gid; oid = oid; run = grown control_limit (run q.so_far) (more b) }) w
unfolding left parse
way_more P r p w mt gid oid b means order q =
    let list = way_orders P r p w mt gid oid (more b) means order q in
    let whole : left (q.so_far ++ b) (orders w) ≡ [] = rw list at q.whole in
    let fits : Fit control_limit (parse (q.so_far ++ b) (orders w)) = rw list at q.fits in
    let kept : grown control_limit (run q.so_far) (more b) ≡ run (q.so_far ++ b) =
    rw (within control_limit q.so_far b (run_fits control_limit (q.so_far ++ b) (orders w) whole fits)) in
    record {
      name = named gid oid;
      low = way_low P r p w mt gid oid (more b) means order q;
      small = way_small P r p w mt gid oid (more b) means order q;
      so_far = q.so_far ++ b;
      kept = kept;
      mine = ap (λ (x : Run). run_for (record { mt = 1; gid = gid; oid = oid; run = x }) 1 gid oid) kept ∙ same_again P r p w mt gid oid (more b) means order q (q.so_far ++ b);
      of_one = way_named P r p w mt gid oid (more b) means order q;
      complete = (rw list at q.complete).1;
      whole = whole;
      as_taken = subst (λ (n : Name). Each (P n) (parse (q.so_far ++ b) (orders w))) (sym (way_name P r p w mt gid oid (more b) means order q)) (rw list at q.as_taken);
      fits = fits;
    }

-- the last segment: what is known of the whole command, and what is then under way
pub record Whole (P : Name → Octets → Type 0) (r : ControlRun) (w : List Octets) (gid oid : ℕ) (m : Octets) : Type 0 where
  pub as_taken : P (named gid oid) m
  pub short : length m ≤ control_limit
  pub rest : OnItsWay P (record { mt = 1; gid = gid; oid = oid; run = run [] }) w

pub way_last : (P : Name → Octets → Type 0) (r : ControlRun) (p : Octets) (w : List Octets) (mt gid oid : ℕ) (b : Octets)
    → meaning p ≡ control mt gid oid (last b) → eqb mt 1 ≡ true → (q : OnItsWay P r (p ∷ w))
    → Whole P r w gid oid (q.so_far ++ b)
unfolding left parse Fit
way_last P r p w mt gid oid b means order q =
    let list = way_orders P r p w mt gid oid (last b) means order q in
    let here : P (named gid oid) (q.so_far ++ b) × Each (P (named gid oid)) (parse [] (orders w)) =
    subst (λ (n : Name). P n (q.so_far ++ b) × Each (P n) (parse [] (orders w))) (sym (way_name P r p w mt gid oid (last b) means order q)) (rw list at q.as_taken) in
    record {
      as_taken = here.0;
      short = (rw list at q.fits).0;
      rest =
          record {
            name = named gid oid;
            low = way_low P r p w mt gid oid (last b) means order q;
            small = way_small P r p w mt gid oid (last b) means order q;
            so_far = [];
            kept = refl;
            mine = same_again P r p w mt gid oid (last b) means order q [];
            of_one = way_named P r p w mt gid oid (last b) means order q;
            complete = rw list at q.complete;
            whole = rw list at q.whole;
            as_taken = here.1;
            fits = (rw list at q.fits).1;
          };
    }
