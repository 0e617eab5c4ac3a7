-- Each command of document 01 as octets, made from its fields, and read back by the controller's judgement.
-- Assumes nothing.
use Rattle.std.specs.Prelude.{ℕ, zero, suc, ◌<◌, ◌≤◌, ◌≡◌, Bool, true, false, ◌&&◌, List, [], ◌∷◌, ◌++◌, length, get_or, eqb, Option, Ok}
use Rattle.octets.specs.Octets.{Octets}
use Rattle.nfcc.specs.Kinds.{Profile, Pair, Controller}
use Rattle.nfcc.specs.Kinds.phase as phase
use Rattle.nfcc.specs.Kinds.rf.{Idle, W4HostSelect, Discovery}
use Rattle.nfcc.specs.Kinds.verdict.{Resets, Initialises, Closes, Turns, Selects, SetsConfig, GetsConfig}
use Rattle.state.specs.Radio.{listed}
use Rattle.config.specs.Commands.{count_in, param_at, id_in, param_in, asked_in}
use Rattle.nfcc.specs.Controller.{next_id, opens_as, config_ok, deactivate_by, judge_of}

-- ---- fields to octets

abbrev pub reset_cmd : ℕ → Octets
reset_cmd type = type ∷ []

abbrev pub init_cmd : ℕ → ℕ → Octets
init_cmd low high = low ∷ high ∷ []

-- the loopback, without parameters
abbrev pub create_cmd : Octets
create_cmd = 0x01 ∷ 0x00 ∷ []

abbrev pub close_cmd : ℕ → Octets
close_cmd id = id ∷ []

-- technology and mode, and how often it is discovered
pub record Config : Type 0 where
  pub mode : ℕ
  pub frequency : ℕ

unfoldable pub config_octets : List Config → Octets
config_octets [] = []
config_octets (c ∷ cs) = c.mode ∷ c.frequency ∷ config_octets cs

abbrev pub discover_cmd : List Config → Octets
discover_cmd cs = length cs ∷ config_octets cs

unfoldable pub all_ok : List Config → Bool
all_ok [] = true
all_ok (c ∷ cs) = config_ok c.mode c.frequency && all_ok cs

abbrev pub select_cmd : Pair → ℕ → Octets
select_cmd p interface = p.id ∷ p.protocol ∷ interface ∷ []

abbrev pub deactivate_cmd : ℕ → Octets
deactivate_cmd type = type ∷ []

-- a configuration parameter: ID and value
pub record Param : Type 0 where
  pub id : ℕ
  pub value : Octets

unfoldable pub param_octets : List Param → Octets
param_octets [] = []
param_octets (p ∷ ps) = p.id ∷ length p.value ∷ (p.value ++ param_octets ps)

abbrev pub set_cmd : List Param → Octets
set_cmd ps = length ps ∷ param_octets ps

abbrev pub get_cmd : Octets → Octets
get_cmd ids = length ids ∷ ids

-- the first n parameters that are read in a list, and all of them
unfoldable pub first_params : Octets → ℕ → List Param
first_params m zero = []
first_params m (suc n) = first_params m n ++ (record { id = id_in m n; value = param_in m n } ∷ [])

abbrev pub params_in : Octets → List Param
params_in m = first_params m (count_in m)

-- ---- octets to fields: what the controller reads in each, in a state that takes it

pub record CommandTrips : Type 0 where
  pub reset : (p : Profile) (k : Controller) (is_open : ℕ → Bool) (type : ℕ) → type ≤ 1 → judge_of p k is_open 0 0 (reset_cmd type) ≡ Ok (Resets type)
  pub init : (p : Profile) (k : Controller) (is_open : ℕ → Bool) (low high : ℕ) → k.phase ≡ phase.Reset
      → judge_of p k is_open 0 1 (init_cmd low high) ≡ Ok Initialises
  pub create : (p : Profile) (k : Controller) (is_open : ℕ → Bool) → k.phase ≡ phase.Ready
      → judge_of p k is_open 0 4 create_cmd ≡ opens_as p (next_id is_open k.given)
  pub close : (p : Profile) (k : Controller) (is_open : ℕ → Bool) (id : ℕ) → k.phase ≡ phase.Ready → id < 16 → eqb id 0 ≡ false
      → is_open id ≡ true → judge_of p k is_open 0 5 (close_cmd id) ≡ Ok (Closes id)
  pub discover : (p : Profile) (k : Controller) (is_open : ℕ → Bool) (cs : List Config) → k.phase ≡ phase.Ready → k.rf ≡ Idle
      → length cs ≤ 8 → all_ok cs ≡ true → judge_of p k is_open 1 3 (discover_cmd cs) ≡ Ok (Turns Discovery)
  pub select : (p : Profile) (k : Controller) (is_open : ℕ → Bool) (s : Option Pair) (x : Pair) → k.phase ≡ phase.Ready → k.rf ≡ W4HostSelect s
      → listed k.pairs x ≡ true → judge_of p k is_open 1 4 (select_cmd x 0x01) ≡ Ok (Selects x)
  pub deactivate : (p : Profile) (k : Controller) (is_open : ℕ → Bool) (type : ℕ) → k.phase ≡ phase.Ready
      → judge_of p k is_open 1 6 (deactivate_cmd type) ≡ deactivate_by k.rf type
  -- every list is taken in IDLE, ends with its payload and is read back; on a wire its count and its lengths are octets, up to 255
  pub set : (p : Profile) (k : Controller) (is_open : ℕ → Bool) (ps : List Param) → k.phase ≡ phase.Ready → k.rf ≡ Idle
      → judge_of p k is_open 0 2 (set_cmd ps) ≡ Ok SetsConfig
  pub set_whole_law : (ps : List Param) → param_at (set_cmd ps) (length ps) ≡ length (set_cmd ps)
  pub set_read : (ps : List Param) → params_in (set_cmd ps) ≡ ps
  pub get : (p : Profile) (k : Controller) (is_open : ℕ → Bool) (ids : Octets) → k.phase ≡ phase.Ready
      → judge_of p k is_open 0 3 (get_cmd ids) ≡ Ok GetsConfig
  pub get_read : (ids : Octets) (n : ℕ) → n < count_in (get_cmd ids) → asked_in (get_cmd ids) n ≡ get_or ids n 0
