-- How each verdict is tied to its command and to the state that it was reached in, and that the controller's numbers after it are within limits.
-- Assumes nothing.
use Prim.Native.Nat.{ℕ, zero, suc, ◌%◌, ◌≤◌}
use native.Mathlib.Omega.{arith}
use mathlib.Core.Path.{◌≡◌, refl, sym, ap, subst}
use mathlib.Core.Logic.{◌⊎◌, inl, inr}
use mathlib.Core.Bool.{Bool, true, false, not, ◌&&◌, ◌||◌, false≢true}
use lib.Dec.{eqb, ltb, leb}
use lib.ListN.{length, get_or}
use borrow.Author.Tests.{eqb-true, ltb-true, ltb-false, leb-true, not-true, ne_eqb}
use Rattle.std.specs.Prelude.{None, Option, Some, Ok, Err}
use Rattle.octets.specs.Octets.{Octets, pick}
use Rattle.octets.specs.Octal.{Octal}
use Rattle.octets.proofs.Octal.{octal_at}
use Rattle.nfcc.specs.Kinds.{Profile, Controller, Pair, Pairs, Rf, Command}
use Rattle.nfcc.specs.Kinds.rf.{Idle, Discovery, W4AllDiscoveries, W4HostSelect, PollActive, ListenActive, ListenSleep}
use Rattle.nfcc.specs.Kinds.command as command
use Rattle.nfcc.specs.Kinds.status.{SyntaxError, SemanticError}
use Rattle.nfcc.specs.Kinds.verdict as verdict
use Rattle.state.specs.Judgement.{Judgement, octet_of}
use Rattle.state.specs.Conn.{terms_of}
use Rattle.state.specs.Commands.{command_of, aim_in}
use Rattle.state.specs.Radio.{is_idle, is_active, listed}
use Rattle.state.proofs.Chains.{on, and_left, and_right}
use Rattle.state.proofs.Steady.{Steady}
use Rattle.state.proofs.SmallVerdicts.{Bare, SmallTerms, SmallVerdict}
use Rattle.config.specs.Commands.{count_in, param_at, names_known}
use Rattle.nfcc.specs.Controller.{shortest, allowed, reset_by, after, seek, next_id, opens_as, create_by, close_by, configs_ok, discover_by, select_by, sleep_rejected, rest_state, deactivate_by, set_by, values_of, judge_of, turned, controller_after}

-- ---- which command a GID and an OID name

abbrev pub Named : ℕ → ℕ → Command → Type 0
Named gid oid command.Reset = (gid ≡ 0) × (oid ≡ 0)
Named gid oid command.Init = (gid ≡ 0) × (oid ≡ 1)
Named gid oid command.ConnCreate = (gid ≡ 0) × (oid ≡ 4)
Named gid oid command.ConnClose = (gid ≡ 0) × (oid ≡ 5)
Named gid oid command.Discover = (gid ≡ 1) × (oid ≡ 3)
Named gid oid command.Select = (gid ≡ 1) × (oid ≡ 4)
Named gid oid command.Deactivate = (gid ≡ 1) × (oid ≡ 6)
Named gid oid command.Unknown = Unit {0}
Named gid oid command.SetConfig = (gid ≡ 0) × (oid ≡ 2)
Named gid oid command.GetConfig = (gid ≡ 0) × (oid ≡ 3)

pub command_named : (gid oid : ℕ) → Named gid oid (command_of gid oid)
unfolding command_of
command_named gid oid =
    let is : (n : ℕ) → eqb oid n ≡ true → oid ≡ n = (λ n e. eqb-true oid n e) in
    on (Named gid oid) (eqb gid 0)
    (λ g. let z = eqb-true gid 0 g in
    on (Named gid oid) (eqb oid 0) (λ o. (z, is 0 o))
    (λ x. on (Named gid oid) (eqb oid 1) (λ o. (z, is 1 o))
    (λ x. on (Named gid oid) (eqb oid 4) (λ o. (z, is 4 o))
    (λ x. on (Named gid oid) (eqb oid 5) (λ o. (z, is 5 o))
    (λ x. on (Named gid oid) (eqb oid 2) (λ o. (z, is 2 o))
    (λ x. on (Named gid oid) (eqb oid 3) (λ o. (z, is 3 o)) (λ x. tt)))))))
    (λ g. on (Named gid oid) (eqb gid 1)
    (λ g. let z = eqb-true gid 1 g in
    on (Named gid oid) (eqb oid 3) (λ o. (z, is 3 o))
    (λ x. on (Named gid oid) (eqb oid 4) (λ o. (z, is 4 o))
    (λ x. on (Named gid oid) (eqb oid 6) (λ o. (z, is 6 o)) (λ x. tt))))
    (λ x. tt))

-- ---- what ties a verdict to its command, where the command's first octet names the connection `aim`

abbrev pub Fits : ℕ → ℕ → ℕ → Profile → Judgement → Type 0
Fits gid oid aim p (Err status) = octet_of status ≡ 0 → ⊥
Fits gid oid aim p (Ok (verdict.Resets type)) = (gid ≡ 0) × (oid ≡ 0) × (type ≤ 1)
Fits gid oid aim p (Ok verdict.Initialises) = (gid ≡ 0) × (oid ≡ 1)
Fits gid oid aim p (Ok (verdict.Opens c t)) = (gid ≡ 0) × (oid ≡ 4) × (2 ≤ c) × (c ≤ 5) × (t ≡ terms_of p c)
Fits gid oid aim p (Ok (verdict.Closes c)) = (gid ≡ 0) × (oid ≡ 5) × (c ≡ aim)
Fits gid oid aim p (Ok (verdict.Turns rf)) = (gid ≡ 1) × ((oid ≡ 3) ⊎ (oid ≡ 6))
Fits gid oid aim p (Ok (verdict.Selects pair)) = (gid ≡ 1) × (oid ≡ 4)
Fits gid oid aim p (Ok (verdict.Deactivates type rf)) = (gid ≡ 1) × (oid ≡ 6) × (type ≤ 3)
Fits gid oid aim p (Ok verdict.SetsConfig) = (gid ≡ 0) × (oid ≡ 2)
Fits gid oid aim p (Ok verdict.GetsConfig) = (gid ≡ 0) × (oid ≡ 3)

-- the Conn ID that is given is 2-5 and not open, where there is one
abbrev Given : (ℕ → Bool) → Option ℕ → Type 0
Given is_open None = Unit {0}
Given is_open (Some id) = (2 ≤ id) × (id ≤ 5) × (is_open id ≡ false)

after_range : (id : ℕ) → (2 ≤ after id) × (after id ≤ 5)
unfolding after
after_range id =
    on (λ (n : ℕ). (2 ≤ n) × (n ≤ 5)) (leb 2 id && ltb id 5)
    (λ e. let low = leb-true 2 id (and_left (leb 2 id) (ltb id 5) e) in
    let high = ltb-true id 5 (and_right (leb 2 id) (ltb id 5) e) in
    omega arith)
    (λ e. omega arith)

seek_given : (is_open : ℕ → Bool) (n id : ℕ) → 2 ≤ id → id ≤ 5 → Given is_open (seek is_open n id)
unfolding seek
seek_given is_open zero id low high = tt
seek_given is_open (suc n) id low high =
    let next = after_range id in
    let ih = seek_given is_open n (after id) next.0 next.1 in
    on (Given is_open) (is_open id) (λ e. ih) (λ e. (low, high, e))

next_given : (is_open : ℕ → Bool) (given : ℕ) → Given is_open (next_id is_open given)
unfolding next_id
next_given is_open given = let next = after_range given in seek_given is_open 4 (after given) next.0 next.1

module _ (p : Profile) (k : Controller) (is_open : ℕ → Bool) (gid oid : ℕ) where
  reset_fits : (aim type : ℕ) → Named gid oid command.Reset → Fits gid oid aim p (reset_by type)
  unfolding reset_by
  reset_fits aim type n = on (Fits gid oid aim p) (ltb 1 type) (λ e. omega arith) (λ e. (n.0, n.1, ltb-false 1 type e))

  create_fits : (aim : ℕ) (m : Octets) → Named gid oid command.ConnCreate → Fits gid oid aim p (create_by p is_open k.given m)
  unfolding create_by
  create_fits aim m n =
      on (Fits gid oid aim p) (eqb (get_or m 0 0) 0x01 && eqb (get_or m 1 0) 0x00)
      (λ e. opens (next_id is_open k.given) (next_given is_open k.given))
      (λ e. omega arith)
    where
      opens : (id : Option ℕ) → Given is_open id → Fits gid oid aim p (opens_as p id)
      opens None r = omega arith
      opens (Some id) r = (n.0, n.1, r.0, r.1, refl)

  close_fits : (octet : ℕ) → Named gid oid command.ConnClose → Fits gid oid (octet % 16) p (close_by is_open octet)
  unfolding close_by
  close_fits octet n =
      on (Fits gid oid (octet % 16) p) (not (eqb (octet % 16) 0) && is_open (octet % 16)) (λ e. (n.0, n.1, refl)) (λ e. omega arith)

  discover_fits : (aim : ℕ) (m : Octets) → Named gid oid command.Discover → Fits gid oid aim p (discover_by k.rf m)
  unfolding discover_by
  discover_fits aim m n =
      on (Fits gid oid aim p) (is_idle k.rf)
      (λ e. on (Fits gid oid aim p) (leb (get_or m 0 0) 8 && configs_ok m (get_or m 0 0)) (λ e. (n.0, inl n.1)) (λ e. omega arith))
      (λ e. omega arith)

  select_fits : (aim : ℕ) (rf : Rf) (ps : Pairs) (x : Pair) (interface : ℕ) → Named gid oid command.Select → Fits gid oid aim p (select_by rf ps x interface)
  select_fits aim Idle ps x interface n = omega arith
  select_fits aim Discovery ps x interface n = omega arith
  select_fits aim W4AllDiscoveries ps x interface n = omega arith
  select_fits aim (W4HostSelect s) ps x interface n = on (Fits gid oid aim p) (listed ps x && eqb interface 0x01) (λ e. n) (λ e. omega arith)
  select_fits aim (PollActive a) ps x interface n = omega arith
  select_fits aim (ListenActive a) ps x interface n = omega arith
  select_fits aim ListenSleep ps x interface n = omega arith

  deactivate_fits : (aim : ℕ) (rf : Rf) (type : ℕ) → Named gid oid command.Deactivate → Fits gid oid aim p (deactivate_by rf type)
  unfolding deactivate_by
  deactivate_fits aim Idle type n = omega arith
  deactivate_fits aim Discovery type n = (n.0, inr n.1)
  deactivate_fits aim W4AllDiscoveries type n = (n.0, inr n.1)
  deactivate_fits aim (W4HostSelect s) type n = (n.0, inr n.1)
  deactivate_fits aim (PollActive a) type n =
      on (Fits gid oid aim p) (ltb 3 type) (λ e. omega arith) (λ e. (n.0, n.1, ltb-false 3 type e))
  deactivate_fits aim (ListenActive a) type n =
      on (Fits gid oid aim p) (ltb 3 type) (λ e. omega arith)
      (λ e. on (Fits gid oid aim p) (sleep_rejected a type) (λ r. omega arith) (λ r. (n.0, n.1, ltb-false 3 type e)))
  deactivate_fits aim ListenSleep type n =
      on (Fits gid oid aim p) (ltb 3 type) (λ e. omega arith)
      (λ e. on (Fits gid oid aim p) (eqb type 0) (λ z. (n.0, inr n.1)) (λ z. omega arith))

  set_fits : (aim : ℕ) (m : Octets) → Named gid oid command.SetConfig → Fits gid oid aim p (set_by k.rf m)
  unfolding set_by
  set_fits aim m n = on (Fits gid oid aim p) (is_idle k.rf || not (names_known m (count_in m))) (λ e. n) (λ e. omega arith)

  -- a CONN_CLOSE that is long enough names a connection
  names_one : (m : Octets) → 1 ≤ length m → get_or m 0 0 % 16 ≡ aim_in m
  names_one m h = ap (λ (b : Bool). pick b 1 (get_or m 0 0 % 16)) (sym (ne_eqb (length m) 0 (λ z. omega (arith, h))))

  values_fit : (c : Command) (m : Octets) → shortest c m ≤ length m → Named gid oid c → Fits gid oid (aim_in m) p (values_of p k is_open c m)
  unfolding shortest
  values_fit command.Reset m h n = reset_fits (aim_in m) (get_or m 0 0) n
  values_fit command.Init m h n = n
  values_fit command.ConnCreate m h n = create_fits (aim_in m) m n
  values_fit command.ConnClose m h n =
      subst (λ (aim : ℕ). Fits gid oid aim p (values_of p k is_open command.ConnClose m)) (names_one m h) (close_fits (get_or m 0 0) n)
  values_fit command.Discover m h n = discover_fits (aim_in m) m n
  values_fit command.Select m h n = select_fits (aim_in m) k.rf k.pairs (record { id = get_or m 0 0; protocol = get_or m 1 0 }) (get_or m 2 0) n
  values_fit command.Deactivate m h n = deactivate_fits (aim_in m) k.rf (get_or m 0 0) n
  values_fit command.Unknown m h n = omega arith
  values_fit command.SetConfig m h n = set_fits (aim_in m) m n
  values_fit command.GetConfig m h n = n

  -- every verdict fits its command
  pub judge_fits : (m : Octets) → Fits gid oid (aim_in m) p (judge_of p k is_open gid oid m)
  unfolding judge_of
  judge_fits m =
      let c = command_of gid oid in
      let aim = aim_in m in
      on (Fits gid oid aim p) (ltb (length m) (shortest c m)) (λ e. omega arith)
      (λ e. on (Fits gid oid aim p) (allowed k.phase c) (λ a. values_fit c m (ltb-false (length m) (shortest c m) e) (command_named gid oid)) (λ a. omega arith))

  -- a set that is taken is whole: its list is not cut short
  pub judge_whole : (m : Octets) → judge_of p k is_open gid oid m ≡ Ok verdict.SetsConfig → param_at m (count_in m) ≤ length m
  unfolding judge_of command_of shortest
  judge_whole m e =
      let named = subst (Fits gid oid (aim_in m) p) e (judge_fits m) in
      go (ltb (length m) (param_at m (count_in m))) refl (rw (named.0, named.1) at e)
    where
      go : (b : Bool) → ltb (length m) (param_at m (count_in m)) ≡ b
          → pick b (Err SyntaxError) (pick (allowed k.phase command.SetConfig) (set_by k.rf m) (Err SemanticError)) ≡ Ok verdict.SetsConfig
          → param_at m (count_in m) ≤ length m
      go true l e = absurd (let z : ◌≡◌ {A = ℕ} 0 1 = cc in omega arith)
      go false l e = ltb-false (length m) (param_at m (count_in m)) l

-- ---- what a verdict says of the state that it was reached in, by the RF state and the connections open at the controller

abbrev pub Legal : Rf → (ℕ → Bool) → Judgement → Type 0
Legal rf is_open (Err status) = Unit {0}
Legal rf is_open (Ok (verdict.Resets type)) = Unit {0}
Legal rf is_open (Ok verdict.Initialises) = Unit {0}
Legal rf is_open (Ok (verdict.Opens c t)) = is_open c ≡ false
Legal rf is_open (Ok (verdict.Closes c)) = (eqb c 0 ≡ false) × (is_open c ≡ true)
Legal rf is_open (Ok (verdict.Turns next)) = (is_active rf ≡ false) × (is_active next ≡ false)
Legal rf is_open (Ok (verdict.Selects pair)) = is_active rf ≡ false
Legal rf is_open (Ok (verdict.Deactivates type next)) = (is_active rf ≡ true) × (is_active next ≡ false)
Legal rf is_open (Ok verdict.SetsConfig) = Unit {0}
Legal rf is_open (Ok verdict.GetsConfig) = Unit {0}

idle_inactive : (rf : Rf) → is_idle rf ≡ true → is_active rf ≡ false
idle_inactive Idle e = refl
idle_inactive Discovery e = refl
idle_inactive W4AllDiscoveries e = refl
idle_inactive (W4HostSelect s) e = refl
idle_inactive (PollActive a) e = absurd (false≢true e)
idle_inactive (ListenActive a) e = absurd (false≢true e)
idle_inactive ListenSleep e = refl

rest_inactive : (type : ℕ) (asleep : Rf) → is_active asleep ≡ false → is_active (rest_state type asleep) ≡ false
rest_inactive type asleep h =
    let Quiet : Rf → Type 0 = λ (rf : Rf). is_active rf ≡ false in
    on Quiet (eqb type 0) (λ e. refl) (λ e. on Quiet (eqb type 3) (λ e. refl) (λ e. h))

module _ (is_open : ℕ → Bool) where
  reset_legal : (rf : Rf) (type : ℕ) → Legal rf is_open (reset_by type)
  unfolding reset_by
  reset_legal rf type = on (Legal rf is_open) (ltb 1 type) (λ e. tt) (λ e. tt)

  create_legal : (p : Profile) (rf : Rf) (given : ℕ) (m : Octets) → Legal rf is_open (create_by p is_open given m)
  unfolding create_by
  create_legal p rf given m =
      on (Legal rf is_open) (eqb (get_or m 0 0) 0x01 && eqb (get_or m 1 0) 0x00)
      (λ e. opens (next_id is_open given) (next_given is_open given))
      (λ e. tt)
    where
      opens : (id : Option ℕ) → Given is_open id → Legal rf is_open (opens_as p id)
      opens None r = tt
      opens (Some id) r = r.2

  close_legal : (rf : Rf) (octet : ℕ) → Legal rf is_open (close_by is_open octet)
  unfolding close_by
  close_legal rf octet =
      let named = not (eqb (octet % 16) 0) in
      on (Legal rf is_open) (named && is_open (octet % 16))
      (λ e. (not-true (eqb (octet % 16) 0) (and_left named (is_open (octet % 16)) e), and_right named (is_open (octet % 16)) e)) (λ e. tt)

  discover_legal : (rf : Rf) (m : Octets) → Legal rf is_open (discover_by rf m)
  unfolding discover_by
  discover_legal rf m =
      on (Legal rf is_open) (is_idle rf)
      (λ i. on (Legal rf is_open) (leb (get_or m 0 0) 8 && configs_ok m (get_or m 0 0)) (λ e. (idle_inactive rf i, refl)) (λ e. tt))
      (λ i. tt)

  select_legal : (rf : Rf) (ps : Pairs) (x : Pair) (interface : ℕ) → Legal rf is_open (select_by rf ps x interface)
  select_legal Idle ps x interface = tt
  select_legal Discovery ps x interface = tt
  select_legal W4AllDiscoveries ps x interface = tt
  select_legal (W4HostSelect s) ps x interface = on (Legal (W4HostSelect s) is_open) (listed ps x && eqb interface 0x01) (λ e. refl) (λ e. tt)
  select_legal (PollActive a) ps x interface = tt
  select_legal (ListenActive a) ps x interface = tt
  select_legal ListenSleep ps x interface = tt

  deactivate_legal : (rf : Rf) (type : ℕ) → Legal rf is_open (deactivate_by rf type)
  unfolding deactivate_by
  deactivate_legal Idle type = tt
  deactivate_legal Discovery type = (refl, refl)
  deactivate_legal W4AllDiscoveries type = (refl, refl)
  deactivate_legal (W4HostSelect s) type = (refl, refl)
  deactivate_legal (PollActive a) type =
      on (Legal (PollActive a) is_open) (ltb 3 type) (λ e. tt) (λ e. (refl, rest_inactive type (W4HostSelect None) refl))
  deactivate_legal (ListenActive a) type =
      on (Legal (ListenActive a) is_open) (ltb 3 type) (λ e. tt)
      (λ e. on (Legal (ListenActive a) is_open) (sleep_rejected a type) (λ r. tt) (λ r. (refl, rest_inactive type ListenSleep refl)))
  deactivate_legal ListenSleep type =
      on (Legal ListenSleep is_open) (ltb 3 type) (λ e. tt)
      (λ e. on (Legal ListenSleep is_open) (eqb type 0) (λ z. (refl, refl)) (λ z. tt))

  set_legal : (rf : Rf) (m : Octets) → Legal rf is_open (set_by rf m)
  unfolding set_by
  set_legal rf m = on (Legal rf is_open) (is_idle rf || not (names_known m (count_in m))) (λ e. tt) (λ e. tt)

  values_legal : (p : Profile) (k : Controller) (c : Command) (m : Octets) → Legal k.rf is_open (values_of p k is_open c m)
  values_legal p k command.Reset m = reset_legal k.rf (get_or m 0 0)
  values_legal p k command.Init m = tt
  values_legal p k command.ConnCreate m = create_legal p k.rf k.given m
  values_legal p k command.ConnClose m = close_legal k.rf (get_or m 0 0)
  values_legal p k command.Discover m = discover_legal k.rf m
  values_legal p k command.Select m = select_legal k.rf k.pairs (record { id = get_or m 0 0; protocol = get_or m 1 0 }) (get_or m 2 0)
  values_legal p k command.Deactivate m = deactivate_legal k.rf (get_or m 0 0)
  values_legal p k command.Unknown m = tt
  values_legal p k command.SetConfig m = set_legal k.rf m
  values_legal p k command.GetConfig m = tt

  pub judge_legal : (p : Profile) (k : Controller) (gid oid : ℕ) (m : Octets) → Legal k.rf is_open (judge_of p k is_open gid oid m)
  unfolding judge_of
  judge_legal p k gid oid m =
      let c = command_of gid oid in
      on (Legal k.rf is_open) (ltb (length m) (shortest c m)) (λ e. tt)
      (λ e. on (Legal k.rf is_open) (allowed k.phase c) (λ a. values_legal p k c m) (λ a. tt))

-- ---- the controller's numbers after a verdict

turned_steady : (k : Controller) (rf : Rf) → Steady k → Steady (turned k rf)
turned_steady k rf m =
    record {
      given = m.given;
      pairs = on (λ (ps : Pairs). ps.count ≤ 8) (is_idle rf) (λ e. omega arith) (λ e. m.pairs);
      places = on (λ (ps : Pairs). length ps.list ≡ 8) (is_idle rf) (λ e. refl) (λ e. m.places);
    }

pub after_steady : (gid oid aim : ℕ) (p : Profile) (k : Controller) (v : Judgement) → Fits gid oid aim p v → Steady k → Steady (controller_after k v)
unfolding controller_after
after_steady gid oid aim p k (Err status) f m = m
after_steady gid oid aim p k (Ok (verdict.Resets type)) f m = record { given = inl refl; pairs = omega arith; places = refl }
after_steady gid oid aim p k (Ok verdict.Initialises) f m = record { given = m.given; pairs = m.pairs; places = m.places }
after_steady gid oid aim p k (Ok (verdict.Opens c t)) f m = record { given = inr (f.2, f.3); pairs = m.pairs; places = m.places }
after_steady gid oid aim p k (Ok (verdict.Closes c)) f m = m
after_steady gid oid aim p k (Ok (verdict.Turns rf)) f m = turned_steady k rf m
after_steady gid oid aim p k (Ok (verdict.Selects pair)) f m = turned_steady k _ m
after_steady gid oid aim p k (Ok (verdict.Deactivates type rf)) f m = turned_steady k rf m
after_steady gid oid aim p k (Ok verdict.SetsConfig) f m = m
after_steady gid oid aim p k (Ok verdict.GetsConfig) f m = m

-- ---- what a verdict carries is octets, where the command's and the profile's are

rest_bare : (type : ℕ) (asleep : Rf) → Bare asleep → Bare (rest_state type asleep)
rest_bare type asleep h = on Bare (eqb type 0) (λ e. tt) (λ e. on Bare (eqb type 3) (λ e. tt) (λ e. h))

select_small : (rf : Rf) (ps : Pairs) (x : Pair) (interface : ℕ) → (x.id ≤ 255) × (x.protocol ≤ 255) → SmallVerdict (select_by rf ps x interface)
select_small Idle ps x interface h = omega arith
select_small Discovery ps x interface h = omega arith
select_small W4AllDiscoveries ps x interface h = omega arith
select_small (W4HostSelect s) ps x interface h = on SmallVerdict (listed ps x && eqb interface 0x01) (λ e. h) (λ e. omega arith)
select_small (PollActive a) ps x interface h = omega arith
select_small (ListenActive a) ps x interface h = omega arith
select_small ListenSleep ps x interface h = omega arith

deactivate_small : (rf : Rf) (type : ℕ) → type ≤ 255 → SmallVerdict (deactivate_by rf type)
unfolding deactivate_by
deactivate_small Idle type h = omega arith
deactivate_small Discovery type h = tt
deactivate_small W4AllDiscoveries type h = tt
deactivate_small (W4HostSelect s) type h = tt
deactivate_small (PollActive a) type h = on SmallVerdict (ltb 3 type) (λ e. omega arith) (λ e. (h, rest_bare type (W4HostSelect None) tt))
deactivate_small (ListenActive a) type h =
    on SmallVerdict (ltb 3 type) (λ e. omega arith)
    (λ e. on SmallVerdict (sleep_rejected a type) (λ r. omega arith) (λ r. (h, rest_bare type ListenSleep tt)))
deactivate_small ListenSleep type h =
    on SmallVerdict (ltb 3 type) (λ e. omega arith) (λ e. on SmallVerdict (eqb type 0) (λ z. tt) (λ z. omega arith))

module _ (p : Profile) (k : Controller) (is_open : ℕ → Bool) (m : Octets) (o : Octal m) (terms : (c : ℕ) → SmallTerms (terms_of p c)) where
  opens_small : (id : Option ℕ) → Given is_open id → SmallVerdict (opens_as p id)
  opens_small None r = omega arith
  opens_small (Some id) r = (omega (arith, r.1), terms id)

  values_small : (c : Command) → SmallVerdict (values_of p k is_open c m)
  unfolding reset_by create_by close_by discover_by set_by
  values_small command.Reset = on SmallVerdict (ltb 1 (get_or m 0 0)) (λ e. omega arith) (λ e. octal_at o 0)
  values_small command.Init = tt
  values_small command.ConnCreate =
      on SmallVerdict (eqb (get_or m 0 0) 0x01 && eqb (get_or m 1 0) 0x00)
      (λ e. opens_small (next_id is_open k.given) (next_given is_open k.given))
      (λ e. omega arith)
  values_small command.ConnClose =
      on SmallVerdict (not (eqb (get_or m 0 0 % 16) 0) && is_open (get_or m 0 0 % 16)) (λ e. tt) (λ e. omega arith)
  values_small command.Discover =
      on SmallVerdict (is_idle k.rf)
      (λ e. on SmallVerdict (leb (get_or m 0 0) 8 && configs_ok m (get_or m 0 0)) (λ e. tt) (λ e. omega arith)) (λ e. omega arith)
  values_small command.Select =
      select_small k.rf k.pairs (record { id = get_or m 0 0; protocol = get_or m 1 0 }) (get_or m 2 0) (octal_at o 0, octal_at o 1)
  values_small command.Deactivate = deactivate_small k.rf (get_or m 0 0) (octal_at o 0)
  values_small command.Unknown = omega arith
  values_small command.SetConfig = on SmallVerdict (is_idle k.rf || not (names_known m (count_in m))) (λ e. tt) (λ e. omega arith)
  values_small command.GetConfig = tt

  pub judge_small : (gid oid : ℕ) → SmallVerdict (judge_of p k is_open gid oid m)
  unfolding judge_of
  judge_small gid oid =
      let c = command_of gid oid in
      on SmallVerdict (ltb (length m) (shortest c m)) (λ e. omega arith)
      (λ e. on SmallVerdict (allowed k.phase c) (λ a. values_small c) (λ a. omega arith))
