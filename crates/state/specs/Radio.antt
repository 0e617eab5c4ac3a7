-- The radio: RF states, technology and mode, and the pairs found (003, 5.2; document 01, "The air").
-- Assumes nothing.
use Rattle.std.specs.Prelude.{ℕ, zero, suc, ◌+◌, Bool, true, false, ◌&&◌, ◌||◌, [], ◌∷◌, get_or, set, eqb, ltb, leb}
use Rattle.octets.specs.Octets.{pick}
use Rattle.state.specs.Names.{poll_active, poll_v, listen_a, listen_active}
use Rattle.state.specs.Kinds.{Pair, Pairs, Activation, Rf}
use Rattle.state.specs.Kinds.rf.{Idle, Discovery, W4AllDiscoveries, W4HostSelect, PollActive, ListenActive, ListenSleep}

-- ---- states

abbrev pub is_idle : Rf → Bool
is_idle Idle = true
is_idle Discovery = false
is_idle W4AllDiscoveries = false
is_idle (W4HostSelect s) = false
is_idle (PollActive a) = false
is_idle (ListenActive a) = false
is_idle ListenSleep = false

abbrev pub is_listening : Rf → Bool
is_listening Idle = false
is_listening Discovery = false
is_listening W4AllDiscoveries = false
is_listening (W4HostSelect s) = false
is_listening (PollActive b) = false
is_listening (ListenActive b) = true
is_listening ListenSleep = false

abbrev pub is_asleep : Rf → Bool
is_asleep Idle = false
is_asleep Discovery = false
is_asleep W4AllDiscoveries = false
is_asleep (W4HostSelect s) = false
is_asleep (PollActive b) = false
is_asleep (ListenActive b) = false
is_asleep ListenSleep = true

abbrev pub is_active : Rf → Bool
is_active Idle = false
is_active Discovery = false
is_active W4AllDiscoveries = false
is_active (W4HostSelect s) = false
is_active (PollActive b) = true
is_active (ListenActive b) = true
is_active ListenSleep = false

-- ---- modes

-- technology and mode (003, Table 131): those that poll, and those that listen
abbrev pub polls : ℕ → Bool
polls mode = leb mode poll_active || eqb mode poll_v

abbrev pub listens : ℕ → Bool
listens mode = leb listen_a mode && leb mode listen_active

-- an RF discovery ID (003, Table 67): 1-254
abbrev pub id_ok : ℕ → Bool
id_ok id = leb 1 id && leb id 254

-- ---- pairs

abbrev pub pair_of : Activation → Pair
pair_of a = record { id = a.id; protocol = a.protocol }

abbrev pub no_pair : Pair
no_pair = record { id = 0; protocol = 0 }

abbrev pub no_pairs : Pairs
no_pairs =
    record {
      list = no_pair ∷ no_pair ∷ no_pair ∷ no_pair ∷ no_pair ∷ no_pair ∷ no_pair ∷ no_pair ∷ [];
      count = 0;
    }

abbrev pub same_pair : Pair → Pair → Bool
same_pair a b = eqb a.id b.id && eqb a.protocol b.protocol

-- the pair stands among the first n places of the list, and among the pairs found
unfoldable pub listed_in : Pairs → ℕ → Pair → Bool
listed_in ps zero p = false
listed_in ps (suc n) p = listed_in ps n p || (ltb n ps.count && same_pair (get_or ps.list n no_pair) p)

abbrev pub listed : Pairs → Pair → Bool
listed ps p = listed_in ps 8 p

abbrev pub started_with : Pair → Pairs
started_with p = record { list = set no_pairs.list 0 p; count = 1 }

unfoldable pub added_to : Pairs → Pair → Pairs
added_to ps p = pick (ltb ps.count 8) (record { list = set ps.list ps.count p; count = ps.count + 1 }) ps
