-- air keeps the invariant.
-- Assumes nothing.
use Rattle.std.specs.Prelude.{Option, Some, None}
use Prim.Native.Nat.{ℕ, ◌≤◌}
use native.Mathlib.Omega.{arith}
use mathlib.Core.Path.{◌≡◌, refl, sym, ap, ◌∙◌, subst}
use mathlib.Core.Bool.{Bool, true, false, not, ◌&&◌, ◌||◌}
use mathlib.Core.List.{List, [], ◌++◌, append-nil}
use lib.Dec.{eqb, leb}
use lib.ListN.{length, get_or, drop, length-append}
use borrow.Author.Tests.{not-false}
use Rattle.octets.specs.Octets.{Octets, pick}
use Rattle.packets.specs.Segments.{segments}
use Rattle.model.specs.Kinds.{Terms, Profile, Pairs, Rf, Controller, Event, Aired}
use Rattle.model.specs.Kinds.event.{Found, Poll, Listen, Failed, Sleeps, LinkLost, Releases, Endpoint}
use Rattle.model.specs.Kinds.aired.{Goes, Activates, Ends, Speaks}
use Rattle.state.specs.Conn.{place_of, terms_of}
use Rattle.state.specs.Radio.{is_active, is_listening, is_asleep}
use Rattle.state.specs.Runs.{data_limit}
use Rattle.messages.specs.Layout.{nothing, generic_error_ntf, discover_ntf, activated_ntf, deactivate_ntf}
use Rattle.air.specs.Air.{event_of, kind_of, aired_by, is_refused, air_message, controller_aired}
use Rattle.state.proofs.Chains.{on, or_left, or_right}
use Rattle.model.specs.Connection.{Connection, with_controller, spoken}
use Rattle.messages.specs.Packets.{notice_packets}
use Rattle.model.specs.State.{State, with_conns, with_up, with_controller_state, at}
use Rattle.model.specs.Effects.{air}
use Rattle.model.specs.Refusals.{is_nil}
use Rattle.ends.specs.Changes.{Change, stays, opens, change_aired}
use Rattle.model.specs.Changes.{at_controller}
use Rattle.model.specs.calls.Air.{airing_as, airing}
use Rattle.model.specs.Bench.{rules}
use Rattle.model.specs.Observer.{Ledger, spoken_l, aired_l, puts_up}
use Rattle.model.specs.invariant.Items.{items_by, items_of, segs_of, puts_l}
use Rattle.model.specs.invariant.Commands.{replies}
use Rattle.model.specs.invariant.Bench.{Fine, Kept, Keeps, GoodAt, Sound, account_of}
use Rattle.model.proofs.Cases.{clash, each, nil_of}
use Rattle.model.proofs.Needs.{need}
use Rattle.model.proofs.Acts.{MayPut, puts_good, air_good}
use Rattle.air.proofs.Taken.{Within, event_within, found_by_law, poll_by_law, listen_by_law, failed_by_law, AirLegal, aired_legal}
use Rattle.model.proofs.Meanings.{items_of_append}
use Rattle.model.proofs.Messages.{items_aired, Notices, notices_air}
use Rattle.model.proofs.Order.{replies_append}
use Rattle.model.proofs.Closing.{shut_now}
use Rattle.model.proofs.Fine.{kept, Plain, puts_change, put_all_law, sound_append, ChangeOk, standing_change, standing_at, order_open, at_keeps}
use Rattle.model.proofs.DownAnswer.{notices_replies, notice_sound}

-- ---- the kinds that the rules name

abbrev pub is_bad : Option Event → Bool
is_bad e = eqb (kind_of e) 0

abbrev pub notifies : Option Event → Bool
notifies e = leb 1 (kind_of e) && leb (kind_of e) 7

abbrev pub activates : Option Event → Bool
activates e = eqb (kind_of e) 2 || eqb (kind_of e) 3

abbrev pub is_endpoint : Option Event → Bool
is_endpoint e = eqb (kind_of e) 8

-- ---- an event and what it does

-- only an activation opens, only kind 8 speaks
abbrev pub Suits : Option Event → Option Aired → Type 0
Suits e None = Unit {0}
Suits e (Some (Goes rf l)) = is_endpoint e ≡ false
Suits e (Some (Activates rf l)) = (is_endpoint e ≡ false) × (activates e ≡ true)
Suits e (Some (Ends rf)) = is_endpoint e ≡ false
Suits e (Some Speaks) = is_endpoint e ≡ true

pub aired_suits : (rf : Rf) (ps : Pairs) (e : Option Event) → Suits e (aired_by rf ps e)
unfolding aired_by
aired_suits rf ps None = tt
aired_suits rf ps (Some (Found a type)) = found_by_law (Suits (Some (Found a type))) tt rf ps a type (λ h next l k. refl)
aired_suits rf ps (Some (Poll a)) = poll_by_law (Suits (Some (Poll a))) tt rf a (λ h l. (refl, refl))
aired_suits rf ps (Some (Listen a)) = listen_by_law (Suits (Some (Listen a))) tt rf a (λ h l. (refl, refl))
aired_suits rf ps (Some Failed) = failed_by_law (Suits (Some Failed)) tt rf (λ h next l k. refl)
aired_suits rf ps (Some Sleeps) = on (Suits (Some Sleeps)) (is_listening rf) (λ e. refl) (λ e. tt)
aired_suits rf ps (Some LinkLost) = on (Suits (Some LinkLost)) (is_listening rf || is_asleep rf) (λ e. refl) (λ e. tt)
aired_suits rf ps (Some Releases) = on (Suits (Some Releases)) (is_listening rf) (λ e. refl) (λ e. tt)
aired_suits rf ps (Some Endpoint) = on (Suits (Some Endpoint)) (is_active rf) (λ e. refl) (λ e. tt)

-- the observer tells kind 8 by the first octet
pub kind_other : (m : Octets) (e : Option Event) → Within m e → is_bad e ≡ false → is_endpoint e ≡ false → eqb (get_or m 0 0) 8 ≡ false
kind_other m None w b n = clash refl b
kind_other m (Some (Found a type)) w b n = w.0
kind_other m (Some (Poll a)) w b n = w.0
kind_other m (Some (Listen a)) w b n = w.0
kind_other m (Some Failed) w b n = w
kind_other m (Some Sleeps) w b n = w
kind_other m (Some LinkLost) w b n = w
kind_other m (Some Releases) w b n = w
kind_other m (Some Endpoint) w b n = clash refl n

pub kind_eight : (m : Octets) (e : Option Event) → Within m e → is_endpoint e ≡ true → (eqb (get_or m 0 0) 8 ≡ true) × (length (drop 1 m) ≤ data_limit)
kind_eight m None w n = clash n refl
kind_eight m (Some (Found a type)) w n = clash n refl
kind_eight m (Some (Poll a)) w n = clash n refl
kind_eight m (Some (Listen a)) w n = clash n refl
kind_eight m (Some Failed) w n = clash n refl
kind_eight m (Some Sleeps) w n = clash n refl
kind_eight m (Some LinkLost) w n = clash n refl
kind_eight m (Some Releases) w n = clash n refl
kind_eight m (Some Endpoint) w n = w

-- a notification of the air is one short packet
air_sound : (p : Profile) (m : Octets) (e : Option Event) → Within m e → Sound (notice_packets (air_message p e m))
unfolding air_message
air_sound p m None w = tt
air_sound p m (Some (Found a type)) w = notice_sound 1 3 (discover_ntf a type (drop 5 m)) (omega arith) (omega arith) (simp length-append (omega (arith, w.4)))
air_sound p m (Some (Poll a)) w = notice_sound 1 5 (activated_ntf a (terms_of p 0) (drop 4 m)) (omega arith) (omega arith) (simp length-append (omega (arith, w.3)))
air_sound p m (Some (Listen a)) w = notice_sound 1 5 (activated_ntf a (terms_of p 0) (drop 4 m)) (omega arith) (omega arith) (simp length-append (omega (arith, w.3)))
air_sound p m (Some Failed) w = notice_sound 0 7 generic_error_ntf (omega arith) (omega arith) (omega arith)
air_sound p m (Some Sleeps) w = notice_sound 1 6 (deactivate_ntf 0x01 0x01) (omega arith) (omega arith) (omega arith)
air_sound p m (Some LinkLost) w = notice_sound 1 6 (deactivate_ntf 0x03 0x02) (omega arith) (omega arith) (omega arith)
air_sound p m (Some Releases) w = notice_sound 1 6 (deactivate_ntf 0x03 0x01) (omega arith) (omega arith) (omega arith)
air_sound p m (Some Endpoint) w = tt

endpoint_message : (p : Profile) (m : Octets) (e : Option Event) → is_endpoint e ≡ true → air_message p e m ≡ nothing
unfolding air_message
endpoint_message p m None n = clash n refl
endpoint_message p m (Some (Found a type)) n = clash n refl
endpoint_message p m (Some (Poll a)) n = clash n refl
endpoint_message p m (Some (Listen a)) n = clash n refl
endpoint_message p m (Some Failed) n = clash n refl
endpoint_message p m (Some Sleeps) n = clash n refl
endpoint_message p m (Some LinkLost) n = clash n refl
endpoint_message p m (Some Releases) n = clash n refl
endpoint_message p m (Some Endpoint) n = refl

aired_plain : (t : Terms) (a : Option Aired) (d : ℕ) → Plain (change_aired t a d)
aired_plain t None d = tt
aired_plain t (Some (Goes rf l)) d = tt
aired_plain t (Some (Activates rf l)) d = on Plain (eqb 0 d) (λ e. tt) (λ e. tt)
aired_plain t (Some (Ends rf)) d = on Plain (eqb 0 d) (λ e. tt) (λ e. tt)
aired_plain t (Some Speaks) d = tt

-- an event says nothing of the dynamic connections
aired_dynamic : (t : Terms) (a : Option Aired) (d : ℕ) → eqb 0 d ≡ false → change_aired t a d ≡ stays
aired_dynamic t None d z = refl
aired_dynamic t (Some (Goes rf l)) d z = refl
aired_dynamic t (Some (Activates rf l)) d z = rw z
aired_dynamic t (Some (Ends rf)) d z = rw z
aired_dynamic t (Some Speaks) d z = refl

pub aired_ok : (p : Profile) (a : Option Aired) (d : ℕ) → ChangeOk p d (change_aired (terms_of p 0) a d)
unfolding place_of
aired_ok p None d = tt
aired_ok p (Some (Goes rf l)) d = tt
aired_ok p (Some (Activates rf l)) d = each 0 (λ d b. ChangeOk p d (pick b (opens (terms_of p 0)) stays)) (refl, refl) (λ d. tt) d
aired_ok p (Some (Ends rf)) d = on (ChangeOk p d) (eqb 0 d) (λ e. tt) (λ e. tt)
aired_ok p (Some Speaks) d = tt

-- ---- an event that opens or closes connection 0, or neither

module _ (s : State) (aim : ℕ) (l : ℕ → Ledger) (ps : List Octets) (a : Option Aired) (k : Controller)
    (items : (d : ℕ) → items_of aim d ps ≡ items_by (change_aired (terms_of s.profile 0) a d)) (notes : Notices ps) (sound : Sound ps)
    (may : (d : ℕ) → MayPut (s.conns d) (segs_of d s.down) (items_of aim d s.up) (items_by (change_aired (terms_of s.profile 0) a d)))
    (there : is_active k.rf ≡ (at_controller (change_aired (terms_of s.profile 0) a 0) (s.conns 0).controller).opened)
    (f : Fine s aim l) where
  change : ℕ → Change
  change d = change_aired (terms_of s.profile 0) a d

  aired_next : State
  aired_next = with_up (s.up ++ ps) (with_controller_state k (with_conns (λ d. with_controller (at_controller (change d) (s.conns d).controller) (s.conns d)) s))

  aired_keeps : Kept aired_next (puts_up ps (account_of s aim l))
  unfolding change aired_next
  aired_keeps =
      kept
      record {
        good =
            λ d.
            rw (put_all_law aim d ps (l d), items_of_append aim d s.up ps, items d)
            (subst (λ (x : Connection). GoodAt d x (segs_of d s.down) (items_of aim d s.up ++ items_by (change d)) (puts_l (items_by (change d)) (l d)))
            (puts_change (change d) (s.conns d) (aired_plain (terms_of s.profile 0) a d))
            (puts_good (items_by (change d)) (may d) (f.good d)));
        order =
            rw (replies_append s.up ps, notices_replies ps notes, append-nil (replies s.up))
            (order_open (λ d z. ap (λ (c : Change). (at_controller c (s.conns d).controller).opened) (aired_dynamic (terms_of s.profile 0) a d z)) f.order);
        way = f.way;
        aimed = f.aimed;
        sound = sound_append s.up ps f.sound sound;
        heard = f.heard;
        standing = standing_change change (is_active k.rf) (aired_ok s.profile a) there f.standing;
        limits = f.limits;
        config = f.config;
      }

-- ---- a message of the endpoint

speaks_keeps : (s : State) (aim : ℕ) (l : ℕ → Ledger) (m : Octets) → length m ≤ data_limit
    → is_active s.controller.rf ≡ true → (s.conns 0).controller.speech ≡ [] → Fine s aim l
    → Kept (with_up (s.up ++ []) (with_conns (at 0 (λ k. with_controller (spoken (segments 255 m) k.controller) k) s.conns) s))
    (puts_up [] (record { down = s.down; up = s.up; aim = aim; ledger = at 0 (spoken_l m) l; stray = [] }))
speaks_keeps s aim l m short active silent f =
    record {
      same_down = refl;
      same_up = refl;
      none_astray = refl;
      fine =
          record {
            good =
                λ d.
                rw (append-nil s.up)
                (each 0
                (λ d b. GoodAt d (pick b (with_controller (spoken (segments 255 m) (s.conns d).controller) (s.conns d)) (s.conns d)) (segs_of d s.down) (items_of aim d s.up) (pick b (spoken_l m (l d)) (l d)))
                (air_good m short (sym f.standing.air ∙ active) silent (f.good 0)) f.good d);
            order = rw (append-nil s.up) (order_open (λ d z. at_keeps 0 (λ k. with_controller (spoken (segments 255 m) k.controller) k) s.conns (λ k. k.controller.opened) (λ k. refl) d) f.order);
            way = f.way;
            aimed = f.aimed;
            sound = rw (append-nil s.up) f.sound;
            heard = f.heard;
            standing = standing_at 0 (spoken (segments 255 m)) (λ k. refl) (λ k. refl) (f.standing.stores 0) f.standing;
            limits = f.limits;
            config = f.config;
          };
    }

-- ---- the call

module _ (s : State) (aim : ℕ) (l : ℕ → Ledger) (m : Octets) (f : Fine s aim l) where
  abbrev e : Option Event
  e = event_of m

  abbrev Aims : Option Aired → Type 0
  Aims a = Kept (airing_as e a m s).next (puts_up (notice_packets (air_message s.profile e m)) (record { down = s.down; up = s.up; aim = aim; ledger = aired_l m l; stray = [] }))

  -- where an activation comes, both wires are empty and connection 0 is closed
  empty_wires : activates e ≡ true → (activates e && (not (is_nil s.down) || not (is_nil s.up))) ≡ false → (s.down ≡ []) × (s.up ≡ [])
  empty_wires y h =
      let none = rw y at h in (
        nil_of s.down (not-false _ (or_left (not (is_nil s.down)) (not (is_nil s.up)) none)),
        nil_of s.up (not-false _ (or_right (not (is_nil s.down)) (not (is_nil s.up)) none)),
      )

  opens_may : is_active s.controller.rf ≡ false → (s.down ≡ []) × (s.up ≡ []) → (t : Terms) (d : ℕ)
      → MayPut (s.conns d) (segs_of d s.down) (items_of aim d s.up) (items_by (pick (eqb 0 d) (opens t) stays))
  unfolding segs_of items_of
  opens_may idle w t d =
      each 0 (λ d b. MayPut (s.conns d) (segs_of d s.down) (items_of aim d s.up) (items_by (pick b (opens t) stays)))
      (let shut = sym f.standing.air ∙ idle in
      let items : items_of aim 0 s.up ≡ [] = rw w.1 in
      let q = shut_now (s.conns 0).host.opened (items_of aim 0 s.up) (rw items tt) (rw shut at (f.good 0).numbers.phase) in
      (q.0, rw w.0 refl, q.1))
      (λ d. tt) d

  other : is_bad e ≡ false → is_endpoint e ≡ false → (ps : List Octets) {n : State}
      → Kept n (puts_up ps (account_of s aim l))
      → Kept n (puts_up ps (record { down = s.down; up = s.up; aim = aim; ledger = aired_l m l; stray = [] }))
  other b n ps h = rw (kind_other m e (event_within m) b n) h

  items : (a : Option Aired) → airing s m ≡ a → is_refused a ≡ false → (d : ℕ)
      → items_of aim d (notice_packets (air_message s.profile e m)) ≡ items_by (change_aired (terms_of s.profile 0) a d)
  items a q r d = rw (← q) (items_aired s.profile f.limits aim d s.controller.rf s.controller.pairs m e (event_within m) (rw q r))

  aims : (a : Option Aired) → airing s m ≡ a → is_bad e ≡ false → is_refused a ≡ false → AirLegal s.controller.rf a → Suits e a
      → (is_endpoint e && not (is_nil (s.conns 0).controller.speech)) ≡ false
      → (activates e && (not (is_nil s.down) || not (is_nil s.up))) ≡ false
      → Aims a
  unfolding controller_aired aired_next change
  aims None q b r g t i h = clash refl r
  aims (Some (Goes rf ls)) q b r g t i h =
      other b t (notice_packets (air_message s.profile e m))
      (aired_keeps s aim l (notice_packets (air_message s.profile e m)) (Some (Goes rf ls)) (controller_aired s.controller (Some (Goes rf ls)))
      (items (Some (Goes rf ls)) q r) (notices_air s.profile e m) (air_sound s.profile m e (event_within m)) (λ d. tt) (g.1 ∙ sym g.0 ∙ f.standing.air) f)
  aims (Some (Activates rf ls)) q b r g t i h =
      other b t.0 (notice_packets (air_message s.profile e m))
      (aired_keeps s aim l (notice_packets (air_message s.profile e m)) (Some (Activates rf ls)) (controller_aired s.controller (Some (Activates rf ls)))
      (items (Some (Activates rf ls)) q r) (notices_air s.profile e m) (air_sound s.profile m e (event_within m)) (opens_may g.0 (empty_wires t.1 h) (terms_of s.profile 0)) g.1 f)
  aims (Some (Ends rf)) q b r g t i h =
      other b t (notice_packets (air_message s.profile e m))
      (aired_keeps s aim l (notice_packets (air_message s.profile e m)) (Some (Ends rf)) (controller_aired s.controller (Some (Ends rf)))
      (items (Some (Ends rf)) q r) (notices_air s.profile e m) (air_sound s.profile m e (event_within m))
      (λ d. on (λ (c : Change). MayPut (s.conns d) (segs_of d s.down) (items_of aim d s.up) (items_by c)) (eqb 0 d) (λ y. tt) (λ y. tt)) g f)
  aims (Some Speaks) q b r g t i h =
      let eight = kind_eight m e (event_within m) t in
      let silent : (s.conns 0).controller.speech ≡ [] = nil_of _ (not-false _ (rw t at i)) in
      rw (endpoint_message s.profile m e t, eight.0) (speaks_keeps s aim l (drop 1 m) eight.1 g silent f)

pub air_keeps : (s : State) (aim : ℕ) (l : ℕ → Ledger) (m : Octets) → Keeps (air m) s aim l
air_keeps s aim l m t f =
    aims s aim l m f (airing s m) refl (need 3 (rules (air m) s) t) (need 11 (rules (air m) s) t)
    (aired_legal s.controller.rf s.controller.pairs (event_of m))
    (aired_suits s.controller.rf s.controller.pairs (event_of m))
    (need 7 (rules (air m) s) t) (need 14 (rules (air m) s) t)
