-- The invariant of demand 3, first part: what one connection sees of the wires, segments going down and items going up. A reader of the
-- claim does not need it; the proofs stand on it.
-- Assumes nothing.
use Rattle.std.specs.Prelude.{ℕ, ◌+◌, List, [], ◌∷◌, ◌++◌, eqb}
use Rattle.octets.specs.Octets.{Octets, pick}
use Rattle.packets.specs.Segments.{Segment}
use Rattle.model.specs.Kinds.{Terms}
use Rattle.state.specs.Conn.{metered}
use Rattle.model.specs.Connection.{Connection, less_owed, with_host, with_controller, closed_host, opened_host, closed_controller, opened_controller, heard_data, credited}
use Rattle.wires.specs.Meaning.{Meaning, datum, control, junk, meaning}
use Rattle.ends.specs.Changes.{Change, stays, opens, closes, gives}
use Rattle.model.specs.calls.Consume.{segment_in}
use Rattle.model.specs.Observer.{Ledger, put_by, read_by, given_l, change_in}

-- what a data packet carries: a segment, and the credits inside the packet
pub record Load : Type 0 where
  pub credits : ℕ
  pub segment : Segment

-- what a packet on the up wire is for one connection
pub data Item : Type 0 where
  -- it carries data
  carry : Load → Item
  -- it gives credits back
  credit : ℕ → Item
  -- it opens the connection, on these terms
  opened : Terms → Item
  -- it closes it
  closed : Item

abbrev pub loaded : ℕ → Segment → Item
loaded n x = carry (record { credits = n; segment = x })

-- ---- packets to items and segments

-- a change of the connection, as an item
abbrev pub items_by : Change → List Item
items_by stays = []
items_by (opens t) = opened t ∷ []
items_by closes = closed ∷ []
items_by (gives n) = credit n ∷ []

-- the items of one packet, and of the packets on the up wire, for the connection d; `aim` is the one that the last command named
abbrev pub items_in : ℕ → ℕ → Meaning → List Item
items_in aim d (datum c n x) = pick (eqb c d) (loaded n x ∷ []) []
items_in aim d (control mt gid oid x) = items_by (change_in aim d (control mt gid oid x))
items_in aim d junk = []

unfoldable pub items_of : ℕ → ℕ → List Octets → List Item
items_of aim d [] = []
items_of aim d (p ∷ w) = items_in aim d (meaning p) ++ items_of aim d w

-- the segments of one packet, and of the packets on the down wire, for the connection d
abbrev pub segs_in : ℕ → Meaning → List Segment
segs_in d (datum c n x) = pick (eqb c d) (x ∷ []) []
segs_in d (control mt gid oid x) = []
segs_in d junk = []

unfoldable pub segs_of : ℕ → List Octets → List Segment
segs_of d [] = []
segs_of d (p ∷ w) = segs_in d (meaning p) ++ segs_of d w

-- the segments of stored packets
unfoldable pub store_segs : List Octets → List Segment
store_segs [] = []
store_segs (p ∷ ps) = segment_in (meaning p) ++ store_segs ps

-- ---- what putting and reading an item does: to the connection, and to its ledger

abbrev pub put_k : Item → Connection → Connection
put_k (carry l) k = with_controller (less_owed l.credits k.controller) k
put_k (credit n) k = with_controller (less_owed n k.controller) k
put_k (opened t) k = with_controller (opened_controller t) k
put_k closed k = with_controller closed_controller k

abbrev pub puts_k : List Item → Connection → Connection
puts_k [] k = k
puts_k (i ∷ is) k = puts_k is (put_k i k)

abbrev pub read_k : Item → Connection → Connection
read_k (carry l) k = with_host (heard_data l.segment (credited l.credits k.host)) k
read_k (credit n) k = with_host (credited n k.host) k
read_k (opened t) k = with_host (opened_host t) k
read_k closed k = with_host closed_host k

abbrev pub reads_k : List Item → Connection → Connection
reads_k [] k = k
reads_k (i ∷ is) k = reads_k is (read_k i k)

abbrev pub put_l : Item → Ledger → Ledger
put_l (carry x) l = put_by (gives x.credits) l
put_l (credit n) l = put_by (gives n) l
put_l (opened t) l = put_by (opens t) l
put_l closed l = put_by closes l

abbrev pub puts_l : List Item → Ledger → Ledger
puts_l [] l = l
puts_l (i ∷ is) l = puts_l is (put_l i l)

abbrev pub read_l : Item → List Octets → Ledger → Ledger
read_l (carry x) ms l = given_l ms (read_by (gives x.credits) l)
read_l (credit n) ms l = read_by (gives n) l
read_l (opened t) ms l = read_by (opens t) l
read_l closed ms l = read_by closes l

abbrev pub reads_l : List Item → List Octets → Ledger → Ledger
reads_l [] ms l = l
reads_l (i ∷ is) ms l = reads_l is ms (read_l i ms l)

-- ---- counted on the up wire

-- the segments carried
abbrev pub up_segs : List Item → List Segment
up_segs [] = []
up_segs (carry l ∷ is) = l.segment ∷ up_segs is
up_segs (credit n ∷ is) = up_segs is
up_segs (opened t ∷ is) = up_segs is
up_segs (closed ∷ is) = up_segs is

-- the credits on their way to the host, those of an opening too
abbrev pub up_credits : List Item → ℕ
up_credits [] = 0
up_credits (carry l ∷ is) = l.credits + up_credits is
up_credits (credit n ∷ is) = n + up_credits is
up_credits (opened t ∷ is) = metered t.credits + up_credits is
up_credits (closed ∷ is) = up_credits is

-- those that are given back
abbrev pub up_returned : List Item → ℕ
up_returned [] = 0
up_returned (carry l ∷ is) = l.credits + up_returned is
up_returned (credit n ∷ is) = n + up_returned is
up_returned (opened t ∷ is) = up_returned is
up_returned (closed ∷ is) = up_returned is
