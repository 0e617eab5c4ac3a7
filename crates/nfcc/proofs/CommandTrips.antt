-- Each command is read back from its octets.
-- Assumes nothing.
use Prim.Native.Nat.{ℕ, zero, suc, ◌+◌, ◌*◌, ◌<◌, ◌≤◌}
use native.Mathlib.Nat.{mod-eq_of_lt}
use native.Mathlib.Omega.{arith}
use mathlib.Core.Path.{◌≡◌, refl, sym, ap, ◌∙◌}
use mathlib.Core.Bool.{true, false}
use mathlib.Core.List.{List, [], ◌∷◌, ◌++◌, append_assoc}
use lib.ListN.{length, get_or, take, drop, length-append}
use lib.Seq.{take-suc, take-length, split_at}
use lib.Dec.{ltb}
use borrow.Author.Tests.{le-leb, le-ltb}
use Rattle.octets.specs.Octets.{Octets, cut}
use Rattle.state.specs.Commands.{command_of}
use Rattle.config.specs.Commands.{param_at, id_in, param_in}
use Rattle.config.proofs.Spoken.{list, entry_id_law, entry_length, entry_value}
use Rattle.nfcc.specs.Controller.{shortest, allowed, reset_by, create_by, close_by, config_ok, configs_ok, discover_by, set_by, judge_of}
use Rattle.nfcc.specs.CommandTrips.{Config, config_octets, all_ok, discover_cmd, Param, param_octets, set_cmd, first_params, params_in, CommandTrips}
use Rattle.state.proofs.Chains.{and_left, and_right}

-- ---- RF_DISCOVER: as many octets as it says, and each configuration in its place

length_configs : (cs : List Config) → length (config_octets cs) ≡ 2 * length cs
unfolding config_octets
length_configs [] = refl
length_configs (c ∷ cs) = omega (arith, length_configs cs)

-- the configuration of index i stands at octets 2 i and 2 i + 1
config_at_law : (cs : List Config) (i : ℕ) → all_ok cs ≡ true → i < length cs
    → config_ok (get_or (config_octets cs) (2 * i) 0) (get_or (config_octets cs) (suc (2 * i)) 0) ≡ true
unfolding config_octets all_ok
config_at_law [] i ok h = absurd (omega arith)
config_at_law (c ∷ cs) zero ok h = and_left (config_ok c.mode c.frequency) (all_ok cs) ok
config_at_law (c ∷ cs) (suc i) ok h =
    let next : 2 * suc i ≡ suc (suc (2 * i)) = omega arith in
    rw next (config_at_law cs i (and_right (config_ok c.mode c.frequency) (all_ok cs) ok) (omega arith))

configs_ok_law : (cs : List Config) (n : ℕ) → all_ok cs ≡ true → n ≤ length cs → configs_ok (discover_cmd cs) n ≡ true
unfolding configs_ok
configs_ok_law cs zero ok h = refl
configs_ok_law cs (suc n) ok h =
    let one : 1 + 2 * n ≡ suc (2 * n) = omega arith in
    let two : 2 + 2 * n ≡ suc (suc (2 * n)) = omega arith in
    rw (configs_ok_law cs n ok (omega arith), one, two) (config_at_law cs n ok (omega arith))

long_enough : (cs : List Config) → ltb (length (discover_cmd cs)) (1 + 2 * length cs) ≡ false
long_enough cs = le-ltb (length (discover_cmd cs)) (1 + 2 * length cs) (omega (arith, length_configs cs))

-- ---- CORE_SET_CONFIG: each parameter where the list says

pub params_append : (ps qs : List Param) → param_octets (ps ++ qs) ≡ param_octets ps ++ param_octets qs
unfolding param_octets
params_append [] qs = refl
params_append (p ∷ ps) qs =
    λ i. p.id ∷ length p.value ∷ ((λ j. p.value ++ params_append ps qs j) ∙ sym (append_assoc p.value (param_octets ps) (param_octets qs))) i

abbrev none : Param
none = record { id = 0; value = [] }

module _ (ps : List Param) where
  -- the octets before parameter n
  abbrev before : ℕ → Octets
  before n = length ps ∷ param_octets (take n ps)

  split : (n : ℕ) → n < length ps → set_cmd ps ≡ list (before n) (get_or ps n none).id (get_or ps n none).value (param_octets (drop (suc n) ps))
  unfolding param_octets
  split n h =
      ap (λ (l : List Param). length ps ∷ param_octets l) (split_at ps n none h)
      ∙ ap (λ (l : Octets). length ps ∷ l) (params_append (take n ps) (get_or ps n none ∷ drop (suc n) ps))

  -- what is read of it
  record Read (n : ℕ) : Type 0 where
    id : id_in (set_cmd ps) n ≡ (get_or ps n none).id
    value : param_in (set_cmd ps) n ≡ (get_or ps n none).value
    next : param_at (set_cmd ps) (suc n) ≡ length (before (suc n))

  read : (n : ℕ) → n < length ps → param_at (set_cmd ps) n ≡ length (before n) → Read n
  unfolding param_at param_octets
  read n h place =
      let q = get_or ps n none in
      let rest = param_octets (drop (suc n) ps) in
      let l = split n h in
      let size : get_or (set_cmd ps) (param_at (set_cmd ps) n + 1) 0 ≡ length q.value =
      (λ i. get_or (l i) (place i + 1) 0) ∙ entry_length (before n) q.id q.value rest in
      let grown : length (param_octets (take (suc n) ps)) ≡ length (param_octets (take n ps)) + length (param_octets (q ∷ [])) =
      ap (λ (x : List Param). length (param_octets x)) (take-suc ps n none h)
      ∙ ap length (params_append (take n ps) (q ∷ []))
      ∙ length-append (param_octets (take n ps)) (param_octets (q ∷ [])) in
      record {
        id = (λ i. get_or (l i) (place i) 0) ∙ entry_id_law (before n) q.id q.value rest;
        value = (λ i. cut (place i + 2) (size i) (l i)) ∙ entry_value (before n) q.id q.value rest;
        next = omega (arith, place, size, grown, length-append q.value []);
      }

  places : (n : ℕ) → n ≤ length ps → param_at (set_cmd ps) n ≡ length (before n)
  unfolding param_at param_octets
  places zero h = refl
  places (suc n) h = (read n (omega arith) (places n (omega arith))).next

  params : (n : ℕ) → n ≤ length ps → first_params (set_cmd ps) n ≡ take n ps
  unfolding first_params
  params zero h = refl
  params (suc n) h =
      let r = read n (omega arith) (places n (omega arith)) in
      (λ i. params n (omega arith) i ++ (record { id = r.id i; value = r.value i } ∷ []))
      ∙ sym (take-suc ps n none (omega arith))

  pub set_whole_law : param_at (set_cmd ps) (length ps) ≡ length (set_cmd ps)
  set_whole_law = places (length ps) (omega arith) ∙ ap (λ (x : List Param). length (set_cmd x)) (take-length ps)

  pub set_read : params_in (set_cmd ps) ≡ ps
  set_read = params (length ps) (omega arith) ∙ take-length ps

one : (n : ℕ) → 1 + n ≡ suc n
one n = omega arith

pub command_trips : CommandTrips
unfolding command_of shortest allowed reset_by create_by close_by discover_by set_by judge_of
command_trips =
    record {
      reset = λ p k o type h. rw (le-ltb 1 type h);
      init = λ p k o low high e. rw e;
      create = λ p k o e. rw e;
      close = λ p k o id e low nz here. rw (e, mod-eq_of_lt low, nz, here);
      discover = λ p k o cs e i few ok. rw (long_enough cs, e, i, le-leb (length cs) 8 few, configs_ok_law cs (length cs) ok (omega arith));
      select = λ p k o s x e r l. rw (e, r, l);
      deactivate = λ p k o type e. rw e;
      set = λ p k o ps e i. rw (le-ltb (length (set_cmd ps)) (param_at (set_cmd ps) (length ps)) (omega (arith, set_whole_law ps)), e, i);
      set_whole_law = set_whole_law;
      set_read = set_read;
      get = λ p k o ids e. rw (le-ltb (length (length ids ∷ ids)) (1 + length ids) (omega arith), e);
      get_read = λ ids n h. ap (λ (i : ℕ). get_or (length ids ∷ ids) i 0) (one n);
    }
