-- Laws of the messages that the controller sends: their lengths, and the entries of a credit notice one after another.
-- Assumes nothing.
use Rattle.std.specs.Prelude.{Option, Some, None, is_some}
use Rattle.std.specs.Option.{unwrap_or}
use Prim.Native.Nat.{ℕ, suc, ◌+◌, ◌*◌, ◌/◌, ◌≤◌}
use mathlib.Core.Path.{◌≡◌, refl, sym, ap, subst, ◌∙◌}
use mathlib.Core.Bool.{Bool, true, false, false≢true}
use mathlib.Core.List.{List, [], ◌∷◌, ◌++◌}
use native.Mathlib.Numerals.{add-one}
use native.Mathlib.Omega.{arith}
use lib.ListN.{length, drop, get_or, set, length-append, drop_of_length-le}
use lib.Seq.{drop-cons}
use lib.Dec.{eqb}
use borrow.Author.Tests.{ne_eqb}
use Rattle.octets.specs.Octets.{Octets, pick, splice}
use Rattle.octets.proofs.Octets.{length_splice, splice_nil, splice_next, splice_ahead}
use Rattle.state.specs.declared.kinds.Terms.{Terms}
use Rattle.state.specs.declared.kinds.Activation.{Activation}
use Rattle.messages.specs.declared.layout.Note.{Note}
use Rattle.state.specs.declared.kinds.Counts.{Counts}
use Rattle.state.specs.Conn.{conn_of}
use Rattle.messages.specs.Layout.{Message, Put, MayPut, nothing, entries_from, entry_count, owed_of, credits_message, discover_ntf, activated_ntf}

-- ---- no message

pub put_nothing : (out : Octets) → MayPut out nothing None out
put_nothing out = record { head = refl; octets = sym (splice_nil out 0) }

-- a message that has octets is noted
pub put_some : {out after : Octets} {m : Message} {r : Note} → 1 ≤ length m.payload → Put out m r after → MayPut out m (Some r) after
put_some {out} {after} {m} {r} n p =
    record {
      head = (λ i. Some (p.head i)) ∙ (λ i. pick (sym (ne_eqb (length m.payload) 0 (λ e. omega arith)) i) None (Some (record { gid = m.gid; oid = m.oid; len = length m.payload })));
      octets = p.octets;
    }

-- and the other way: what was noted is the message that was put
pub put_noted : {out after : Octets} {m : Message} {r : Note} → MayPut out m (Some r) after → Put out m r after
put_noted {out} {after} {m} {r} p = record { head = go (eqb (length m.payload) 0) p.head; octets = p.octets }
  where
    said : Note
    said = record { gid = m.gid; oid = m.oid; len = length m.payload }

    go : (b : Bool) → Some r ≡ pick b None (Some said) → r ≡ said
    go true e = absurd (false≢true (sym (ap is_some e)))
    go false e = ap (λ (o : Option Note). unwrap_or o said) e

pub none_noted : {out after : Octets} {m : Message} → MayPut out m None after → eqb (length m.payload) 0 ≡ true
none_noted {out} {after} {m} p = go (eqb (length m.payload) 0) (record { gid = m.gid; oid = m.oid; len = length m.payload }) p.head
  where
    go : (b : Bool) (said : Note) → None ≡ pick b None (Some said) → b ≡ true
    go true said e = refl
    go false said e = absurd (false≢true (ap is_some e))

-- ---- lengths: fixed fields around the parameters

pub length_discover : (a : Activation) (type : ℕ) (params : Octets) → length (discover_ntf a type params) ≡ 5 + length params
length_discover a type params = simp length-append (omega arith)

pub length_activated : (a : Activation) (t : Terms) (params : Octets) → length (activated_ntf a t params) ≡ 11 + length params
length_activated a t params = simp length-append (omega arith)

-- ---- the same octets, otherwise made

pub put_same : {out x y after : Octets} {gid oid : ℕ} {r : Note} → x ≡ y
    → Put out (record { gid = gid; oid = oid; payload = x }) r after
    → Put out (record { gid = gid; oid = oid; payload = y }) r after
put_same {out} {x} {y} {after} {gid} {oid} {r} e h =
    subst (λ (o : Octets). Put out (record { gid = gid; oid = oid; payload = o }) r after) e h

-- ---- the entries of a credit notice

-- one entry, or nothing where no credit is owed
abbrev pub entry_of : ℕ → ℕ → Octets
entry_of conn n = pick (eqb n 0) [] (conn ∷ n ∷ [])

-- the entries from place i on are that of place i and the others
pub entries_step : (l : List ℕ) (i : ℕ) → suc i ≤ length l
    → entries_from i (drop i l) ≡ entry_of (conn_of i) (get_or l i 0) ++ entries_from (suc i) (drop (suc i) l)
unfolding entries_from
entries_step l i h = rw (drop-cons l i 0 h) refl

two : (b : Bool) (x y : ℕ) → length (pick b [] (x ∷ y ∷ [])) ≡ 2 * pick b 0 1
two true x y = refl
two false x y = refl

-- two octets for each entry
pub entries_length : (p : ℕ) (l : List ℕ) → length (entries_from p l) ≡ 2 * entry_count l
unfolding entries_from entry_count
entries_length p [] = refl
entries_length p (n ∷ ns) =
    length-append (entry_of (conn_of p) n) (entries_from (suc p) ns)
    ∙ (λ i. two (eqb n 0) (conn_of p) n i + entries_length (suc p) ns i)
    ∙ omega arith

two_most : (b : Bool) (x y : ℕ) → length (pick b [] (x ∷ y ∷ [])) ≤ 2
two_most true x y = omega arith
two_most false x y = omega arith

-- ---- a credit notice that is written entry by entry

-- the entries before place i stand in the buffer, up to index at: what is still to be written makes them all
pub record Entries (owed : List ℕ) (out₀ out : Octets) (at i : ℕ) : Type 0 where
  pub places : i ≤ 5
  pub room : at ≤ 1 + 2 * i
  pub long : length out ≡ length out₀
  pub count : at + length (entries_from i (drop i owed)) ≡ 1 + length (entries_from 0 owed)
  pub octets : splice out at (entries_from i (drop i owed)) ≡ splice out₀ 1 (entries_from 0 owed)

pub entries_none : (owed : List ℕ) (out : Octets) → Entries owed out out 1 0
entries_none owed out = record { places = omega arith; room = omega arith; long = refl; count = refl; octets = refl }

module _ (owed : List ℕ) (five : length owed ≡ 5) where
  -- the entry of place i is written
  pub entries_turn : (out₀ out out' : Octets) (at at' i conn n : ℕ) → suc i ≤ 5 → Entries owed out₀ out at i
      → conn ≡ conn_of i → n ≡ get_or owed i 0 → out' ≡ splice out at (entry_of conn n) → at' ≡ at + length (entry_of conn n)
      → Entries owed out₀ out' at' (i + 1)
  entries_turn out₀ out out' at at' i conn n low h who much put next =
      let entry = entry_of (conn_of i) (get_or owed i 0) in
      let rest = entries_from (suc i) (drop (suc i) owed) in
      let same : entry_of conn n ≡ entry = (λ j. entry_of (who j) (much j)) in
      let there : at' ≡ at + length entry = next ∙ ap (λ (e : Octets). at + length e) same in
      let here : out' ≡ splice out at entry = put ∙ ap (splice out at) same in
      let step : entries_from i (drop i owed) ≡ entry ++ rest = entries_step owed i (omega arith) in
      record {
        places = omega arith;
        room = omega (arith, h.room, two_most (eqb (get_or owed i 0) 0) (conn_of i) (get_or owed i 0));
        long = ap length here ∙ length_splice out at entry ∙ h.long;
        count = rw (add-one i) (omega (arith, h.count, ap length step ∙ length-append entry rest));
        octets =
            rw (add-one i)
            ((λ j. splice (here j) (there j) rest)
            ∙ splice_next out at entry rest
            ∙ ap (splice out at) (sym step)
            ∙ h.octets);
      }

-- all five places are passed: the count goes to the front
module _ (conns : List Counts) (five : length (owed_of conns) ≡ 5) where
  none_left : (i : ℕ) → i ≡ 5 → entries_from i (drop i (owed_of conns)) ≡ []
  unfolding entries_from
  none_left i e = ap (entries_from i) (drop_of_length-le (owed_of conns) {i = i} (omega arith))

  pub entries_all : (out₀ out : Octets) (at i : ℕ) → 5 ≤ i → Entries (owed_of conns) out₀ out at i
      → Put out₀ (credits_message conns) (record { gid = 0; oid = 6; len = at }) (set out 0 (at / 2))
  entries_all out₀ out at i past h =
      let none = none_left i (omega arith) in
      let long : at ≡ suc (length (entries_from 0 (owed_of conns))) = omega (arith, h.count, ap length none) in
      let count : at / 2 ≡ entry_count (owed_of conns) = omega (arith, long, entries_length 0 (owed_of conns)) in
      let written : out ≡ splice out₀ 1 (entries_from 0 (owed_of conns)) =
      sym (splice_nil out at) ∙ ap (splice out at) (sym none) ∙ h.octets in
      record {
        head = λ j. record { gid = 0; oid = 6; len = long j };
        octets = (λ j. set (written j) 0 (count j)) ∙ splice_ahead out₀ (entry_count (owed_of conns)) (entries_from 0 (owed_of conns));
      }
