-- The responses of the configuration commands, both ways. What is listed is read back since a list is (`set_read` of the commands); a list
-- that ends with its octets is made of what is read in it.
-- Assumes nothing.
use Prim.Native.Nat.{ℕ, zero, suc, ◌+◌, ◌*◌, ◌≤◌}
use native.Mathlib.Omega.{arith}
use mathlib.Core.Path.{◌≡◌, refl, sym, ap, ◌∙◌}
use mathlib.Core.Bool.{Bool, true, false, not, ◌&&◌, ◌||◌}
use mathlib.Core.List.{List, [], ◌∷◌, ◌++◌, append-nil}
use lib.ListN.{length, get_or, take, drop, length-append, length-drop}
use lib.Seq.{take_all, take-length, take-suc, take-add, get_or-drop}
use lib.Dec.{eqb, leb}
use borrow.Author.Tests.{eqb-true, eqb-false}
use Rattle.octets.specs.Octets.{Octets, pick, cut}
use Rattle.octets.proofs.Octets.{length_cut}
use Rattle.ends.specs.Kinds.command as command
use Rattle.ends.specs.Kinds.answer.{Done}
use Rattle.state.specs.Names.{status_ok, invalid_param, size_exceeded}
use Rattle.state.specs.Commands.{command_of}
use Rattle.state.proofs.Chains.{on, pick_same, every_at, and_left, and_right, elements_are}
use Rattle.config.specs.Table.{config_size, row_of, known_row}
use Rattle.config.specs.Stored.{value_of, parameters_ok}
use Rattle.config.specs.Commands.{count_in, param_at, id_in, length_in, param_in, invalid_in, set_rsp, asked_in, shown_in, unavailable_in, unavailable_count, get_rsp}
use Rattle.config.specs.Written.{set_written, values_written, list_written, unavailable_written, get_written}
use Rattle.config.proofs.Lists.{param_far}
use Rattle.config.proofs.Accepted.{parameters_each}
use Rattle.config.proofs.Spoken.{set_is_written, get_is_written, unavailable_is_written}
use Rattle.nfcc.specs.CommandTrips.{Param, param_octets, set_cmd, first_params, params_in}
use Rattle.nfcc.proofs.CommandTrips.{params_append, set_read}
use Rattle.dh.specs.Contents.{status_alone, written}
use Rattle.dh.specs.Host.{answer_of}
use Rattle.ends.specs.RoundTrips.{listed_ids, listed_params, shown_params, unavailable_params}
use Rattle.ends.specs.Backwards.{listing_of}

-- ---- what is written is taken for written

or_true : (b : Bool) → (b || true) ≡ true
or_true true = refl
or_true false = refl

pub set_written_law : (m : Octets) → param_at m (count_in m) ≤ 255 → written 2 0 2 (set_rsp m) ≡ true
unfolding written command_of
set_written_law m h = rw (set_is_written m h) (or_true (status_alone (set_rsp m)))

module _ (b m : Octets) where
  abbrev all : Octets
  all = status_ok ∷ count_in m ∷ shown_in b m (count_in m)

  abbrev some : Octets
  some = invalid_param ∷ unavailable_count m (count_in m) ∷ unavailable_in m (count_in m)

  -- a get's, by its three statuses
  by_status : (P : Octets → Type 0) → (unavailable_count m (count_in m) ≡ 0 → P all) → ((unavailable_count m (count_in m) ≡ 0 → ⊥) → P some)
      → P (size_exceeded ∷ []) → P (get_rsp b m)
  by_status P x y z =
      let n = unavailable_count m (count_in m) in
      on P (leb (length (pick (eqb n 0) all some)) 255) (λ _. on P (eqb n 0) (λ e. x (eqb-true n 0 e)) (λ e. y (eqb-false n 0 e))) (λ _. z)

  pub get_written_law : length b ≡ config_size → parameters_ok b ≡ true → written 2 0 3 (get_rsp b m) ≡ true
  unfolding written command_of
  get_written_law long ok =
      by_status (λ (r : Octets). written 2 0 3 r ≡ true)
      (λ e. rw (get_is_written b m long (parameters_each b ok) e) (or_true (status_alone all)))
      (λ e. rw (unavailable_is_written m e) (or_true (status_alone some)))
      refl

pub set_heard : (aim : ℕ) (m : Octets) → answer_of command.SetConfig aim m ≡ Done
unfolding answer_of
set_heard aim m = pick_same (eqb (get_or m 0 0) status_ok) Done

pub get_heard : (aim : ℕ) (m : Octets) → answer_of command.GetConfig aim m ≡ Done
unfolding answer_of
get_heard aim m = pick_same (eqb (get_or m 0 0) status_ok) Done

-- ---- what is listed is read back

pub set_listed : (m : Octets) → listed_ids (set_rsp m) ≡ invalid_in m (count_in m)
unfolding cut
set_listed m = take-length (invalid_in m (count_in m))

listed_params_law : (status : ℕ) (ps : List Param) → listed_params (status ∷ set_cmd ps) ≡ ps
unfolding cut
listed_params_law status ps = ap params_in (take_all (suc (length (set_cmd ps))) (set_cmd ps) (omega arith)) ∙ set_read ps

-- a get's lists as parameters
shown_list_law : (b m : Octets) (n : ℕ) → (length (shown_params b m n) ≡ n) × (shown_in b m n ≡ param_octets (shown_params b m n))
unfolding shown_params shown_in param_octets
shown_list_law b m zero = (refl, refl)
shown_list_law b m (suc n) =
    let before = shown_list_law b m n in
    let one : List Param = record { id = asked_in m n; value = value_of b (row_of (asked_in m n)) } ∷ [] in
    let v = value_of b (row_of (asked_in m n)) in (
      omega (arith, before.0, length-append (shown_params b m n) one),
      (λ i. before.1 i ++ (asked_in m n ∷ length v ∷ sym (append-nil v) i)) ∙ sym (params_append (shown_params b m n) one),
    )

-- one that is asked for: nothing, or its ID without a value
abbrev lacking : ℕ → Bool → List Param
lacking id known = pick known [] (record { id = id; value = [] } ∷ [])

lacking_count : (id : ℕ) (known : Bool) → pick known 0 1 ≡ length (lacking id known)
lacking_count id true = refl
lacking_count id false = refl

lacking_octets : (id : ℕ) (known : Bool) → pick known [] (id ∷ 0x00 ∷ []) ≡ param_octets (lacking id known)
unfolding param_octets
lacking_octets id true = refl
lacking_octets id false = refl

unavailable_list : (m : Octets) (n : ℕ)
    → (unavailable_count m n ≡ length (unavailable_params m n)) × (unavailable_in m n ≡ param_octets (unavailable_params m n))
unfolding unavailable_params unavailable_in unavailable_count param_octets
unavailable_list m zero = (refl, refl)
unavailable_list m (suc n) =
    let before = unavailable_list m n in
    let id = asked_in m n in
    let known = known_row (row_of id) in (
      omega (arith, before.0, lacking_count id known, length-append (unavailable_params m n) (lacking id known)),
      (λ i. before.1 i ++ lacking_octets id known i) ∙ sym (params_append (unavailable_params m n) (lacking id known)),
    )

module _ (b m : Octets) where
  all_listed : listed_params (all b m) ≡ shown_params b m (count_in m)
  all_listed =
      let l = shown_list_law b m (count_in m) in
      ap listed_params (λ i. status_ok ∷ sym l.0 i ∷ l.1 i) ∙ listed_params_law status_ok (shown_params b m (count_in m))

  some_listed : listed_params (some b m) ≡ unavailable_params m (count_in m)
  some_listed =
      let l = unavailable_list m (count_in m) in
      ap listed_params (λ i. invalid_param ∷ l.0 i ∷ l.1 i) ∙ listed_params_law invalid_param (unavailable_params m (count_in m))

  pub get_shown : get_or (get_rsp b m) 0 0 ≡ status_ok → listed_params (get_rsp b m) ≡ shown_params b m (count_in m)
  get_shown =
      by_status b m (λ (r : Octets). get_or r 0 0 ≡ status_ok → listed_params r ≡ shown_params b m (count_in m))
      (λ _ e. all_listed) (λ _ e. absurd (omega (arith, e))) (λ e. absurd (omega (arith, e)))

  pub get_unavailable : get_or (get_rsp b m) 0 0 ≡ invalid_param → listed_params (get_rsp b m) ≡ unavailable_params m (count_in m)
  get_unavailable =
      by_status b m (λ (r : Octets). get_or r 0 0 ≡ invalid_param → listed_params r ≡ unavailable_params m (count_in m))
      (λ _ e. absurd (omega (arith, e))) (λ _ e. some_listed) (λ e. absurd (omega (arith, e)))

-- ---- what is taken for written is made of what is listed

pub set_back : (m : Octets) → set_written m ≡ true → listing_of (listed_ids m) ≡ m
unfolding set_written cut
set_back m h =
    let k = get_or m 1 0 in
    let at =
    every_at (eqb (length m) (2 + k)) (leb k 127 ∷ eqb (get_or m 0 0) (pick (eqb k 0) status_ok invalid_param) ∷ []) h in
    let long : length m ≡ 2 + k = eqb-true (length m) (2 + k) (at 0) in
    let status : get_or m 0 0 ≡ pick (eqb k 0) status_ok invalid_param = eqb-true (get_or m 0 0) (pick (eqb k 0) status_ok invalid_param) (at 2) in
    let rest : take k (drop 2 m) ≡ drop 2 m = take_all k (drop 2 m) (omega (arith, long, length-drop 2 m)) in
    let count : length (take k (drop 2 m)) ≡ k = omega (arith, ap length rest, long, length-drop 2 m) in
    (λ i. pick (eqb (count i) 0) status_ok invalid_param ∷ count i ∷ rest i)
    ∙ (λ i. sym status i ∷ k ∷ drop 2 m)
    ∙ elements_are m 2 0 (omega (arith, long))

module _ (t : Octets) where
  first_long : (n : ℕ) → length (first_params t n) ≡ n
  unfolding first_params
  first_long zero = refl
  first_long (suc n) = omega (arith, first_long n, length-append (first_params t n) (record { id = id_in t n; value = param_in t n } ∷ []))

  -- parameter n as it stands in a list
  one_back : (n : ℕ) → param_at t (suc n) ≤ length t
      → take (suc (suc (length_in t n))) (drop (param_at t n) t) ≡ param_octets (record { id = id_in t n; value = param_in t n } ∷ [])
  unfolding param_at param_octets cut
  one_back n h =
      let at = param_at t n in
      let v = param_in t n in
      let next : suc at ≡ at + 1 = omega arith in
      let size : length v ≡ length_in t n = length_cut (at + 2) (length_in t n) t (omega arith) in
      ap (take (suc (suc (length_in t n)))) (sym (elements_are t 2 at (omega arith)))
      ∙ (λ i. id_in t n ∷ get_or t (next i) 0 ∷ v)
      ∙ (λ i. id_in t n ∷ sym size i ∷ sym (append-nil v) i)

  front_back : (n : ℕ) → param_at t n ≤ length t → take (param_at t n) t ≡ get_or t 0 0 ∷ param_octets (first_params t n)
  unfolding param_at first_params param_octets
  front_back zero h = take-suc t 0 0 h
  front_back (suc n) h =
      let at = param_at t n in
      let one : List Param = record { id = id_in t n; value = param_in t n } ∷ [] in
      let split : at + 2 + length_in t n ≡ at + suc (suc (length_in t n)) = omega arith in
      ap (λ (k : ℕ). take k t) split
      ∙ take-add at (suc (suc (length_in t n))) t
      ∙ (λ i. front_back n (omega arith) i ++ one_back n h i)
      ∙ ap (λ (l : Octets). get_or t 0 0 ∷ l) (sym (params_append (first_params t n) one))

  -- a list that ends with its octets
  list_back : param_at t (count_in t) ≡ length t → set_cmd (params_in t) ≡ t
  list_back e =
      (λ i. first_long (count_in t) i ∷ param_octets (params_in t))
      ∙ sym (front_back (count_in t) (omega (arith, e)))
      ∙ (λ i. take (e i) t)
      ∙ take-length t

module _ (m : Octets) where
  abbrev tail : Octets
  tail = cut 1 (length m) m

  tail_is : tail ≡ drop 1 m
  unfolding cut
  tail_is = take_all (length m) (drop 1 m) (omega (arith, length-drop 1 m))

  -- IDs without values stand two octets apart
  twice : (n : ℕ) → unavailable_written m n ≡ true → param_at tail n ≡ 1 + 2 * n
  unfolding unavailable_written param_at
  twice zero h = refl
  twice (suc n) h =
      let here = and_right (unavailable_written m n) _ h in
      let none : get_or m (3 + 2 * n) 0 ≡ 0 = eqb-true _ 0 (and_right (not (known_row (row_of (get_or m (2 + 2 * n) 0)))) _ here) in
      let before : param_at tail n ≡ 1 + 2 * n = twice n (and_left (unavailable_written m n) _ h) in
      let place : 1 + (param_at tail n + 1) ≡ 3 + 2 * n = omega (arith, before) in
      let size : get_or tail (param_at tail n + 1) 0 ≡ 0 =
      ap (λ (l : Octets). get_or l (param_at tail n + 1) 0) tail_is
      ∙ get_or-drop 1 m (param_at tail n + 1) 0
      ∙ ap (λ (i : ℕ). get_or m i 0) place
      ∙ none in
      omega (arith, before, size)

  count_is : count_in tail ≡ get_or m 1 0
  count_is = ap count_in tail_is ∙ get_or-drop 1 m 0 0

  -- the list ends with the payload, whichever it is
  list_ends : get_written m ≡ true → param_at tail (count_in tail) ≡ length tail
  unfolding get_written
  list_ends h = go (eqb (get_or m 0 0) status_ok) h
    where
      go : (s : Bool)
          → pick s (leb 2 (length m) && list_written tail)
          (eqb (get_or m 0 0) invalid_param && leb 1 (get_or m 1 0) && eqb (length m) (2 + 2 * get_or m 1 0) && unavailable_written m (get_or m 1 0)) ≡ true
          → param_at tail (count_in tail) ≡ length tail
      go true e =
          eqb-true (param_at tail (count_in tail)) (length tail)
          (and_left _ (values_written tail (count_in tail)) (and_right (leb 2 (length m)) (list_written tail) e))
      go false e =
          let k = get_or m 1 0 in
          let at = every_at (eqb (get_or m 0 0) invalid_param) (leb 1 k ∷ eqb (length m) (2 + 2 * k) ∷ unavailable_written m k ∷ []) e in
          let long : length m ≡ 2 + 2 * k = eqb-true (length m) (2 + 2 * k) (at 2) in
          ap (param_at tail) count_is ∙ omega (arith, twice k (at 3), long, length-drop 1 m, ap length tail_is)

  pub get_back : get_written m ≡ true → (get_or m 0 0 ∷ set_cmd (listed_params m)) ≡ m
  get_back h =
      let some : 1 ≤ length m = omega (arith, list_ends h, param_far tail (count_in tail), ap length tail_is, length-drop 1 m) in
      ap (λ (l : Octets). get_or m 0 0 ∷ l) (list_back tail (list_ends h) ∙ tail_is) ∙ elements_are m 1 0 some
