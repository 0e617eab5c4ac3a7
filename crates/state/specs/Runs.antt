-- Runs in reassembly, by their numbers: control runs of up to 255 octets, data runs of up to 1,024 (document 01, "Packets").
-- The octets follow the packet layer's reassembly; these are their lengths.
-- Assumes nothing.
use Rattle.std.specs.Prelude.{ℕ, ◌+◌, Bool, true, false, ◌&&◌, not, ◌≡◌, List, [], ◌∷◌, ◌++◌, length, eqb, leb}
use Rattle.octets.specs.Octets.{Octets, pick}
use Rattle.packets.specs.Segments.{Segment, body, flag}
use Rattle.packets.specs.Reassembly.{Run, run, lost, grown, finished, flagged}
use Rattle.state.specs.Kinds.{Header, Progress, ControlRun, Joined, ControlJoined}
use Rattle.state.specs.Conn.{start}

-- the longest message of each kind
abbrev pub data_limit : ℕ
data_limit = 1024

abbrev pub control_limit : ℕ
control_limit = 255

-- ---- a run and a segment

-- how far a run is
abbrev pub progress_of : Run → Progress
progress_of (run r) = record { len = length r; lost = false }
progress_of lost = record { len = 0; lost = true }

-- a segment of n octets is within the limit
abbrev pub within : ℕ → Progress → ℕ → Bool
within limit p n = not p.lost && leb (p.len + n) limit

-- the run after a segment with the boundary flag more: grown, lost up to its last segment, or at its start again
unfoldable pub joined_of : ℕ → Progress → Bool → ℕ → Joined
joined_of limit p more n =
    pick (within limit p n)
    (record { next = pick more (record { len = p.len + n; lost = false }) start; done = not more; dropped = false })
    (record { next = record { len = 0; lost = more }; done = false; dropped = true })

-- what the numbers have to do with the octets: they are the lengths in the packet layer's reassembly, whose messages are handed on
-- where the run is done, and whose flag is the drop flag
abbrev pub handed_on : Bool → Octets → List Octets
handed_on true m = m ∷ []
handed_on false m = []

abbrev pub octets_of : Run → Octets
octets_of (run r) = r
octets_of lost = []

pub record JoinsAs (limit : ℕ) (q : Run) (s : Segment) : Type 0 where
  pub next : (joined_of limit (progress_of q) (flag s) (length (body s))).next ≡ progress_of (grown limit q s)
  pub done : finished limit q s ≡ handed_on (joined_of limit (progress_of q) (flag s) (length (body s))).done (octets_of q ++ body s)
  pub dropped : (joined_of limit (progress_of q) (flag s) (length (body s))).dropped ≡ flagged limit q s

-- ---- control runs

-- another MT, GID or OID starts a new run
abbrev pub same_run : ControlRun → Header → Bool
same_run r h = eqb r.mt h.mt && eqb r.gid h.id && eqb r.oid h.oid

abbrev pub run_for : ControlRun → Header → Progress
run_for r h = pick (same_run r h) r.run start

-- base: the octets that stand before this packet's in the run
unfoldable pub control_joined : ControlRun → Header → ℕ → ControlJoined
control_joined r h n =
    record {
      next = record { mt = h.mt; gid = h.id; oid = h.oid; run = (joined_of control_limit (run_for r h) h.pbf n).next };
      base = (run_for r h).len;
      done = (joined_of control_limit (run_for r h) h.pbf n).done;
      dropped = (joined_of control_limit (run_for r h) h.pbf n).dropped;
    }
