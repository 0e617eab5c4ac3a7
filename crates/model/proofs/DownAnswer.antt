-- The controller answers a whole command, and the invariant is kept.
-- Assumes nothing.
use Prim.Native.Nat.{ℕ, ◌≤◌, ◌<◌}
use native.Mathlib.Omega.{arith}
use mathlib.Core.Path.{◌≡◌, refl, sym, ap, ◌∙◌, subst}
use mathlib.Core.Logic.{inl, inr}
use mathlib.Core.Bool.{Bool, true, false}
use mathlib.Core.List.{List, [], ◌∷◌, ◌++◌, append_assoc}
use lib.Dec.{eqb}
use lib.ListN.{length}
use borrow.Author.Tests.{ne_eqb, eqb-false, lt-leb}
use Rattle.std.specs.Prelude.{Ok, Err}
use Rattle.octets.specs.Octets.{Octets, pick}
use Rattle.model.specs.Kinds.{Profile, Answer}
use Rattle.packets.specs.Reassembly.{run}
use Rattle.model.specs.Kinds.verdict as verdict
use Rattle.model.specs.Kinds.heard.{Nothing, Answered}
use Rattle.dh.specs.Contents.{written}
use Rattle.dh.specs.Host.{heard_written, is_closing}
use Rattle.state.specs.Judgement.{Judgement}
use Rattle.state.specs.Conn.{place_of}
use Rattle.state.specs.Radio.{is_active}
use Rattle.state.specs.Runs.{control_limit}
use Rattle.nfcc.specs.Controller.{controller_after}
use Rattle.messages.specs.Layout.{response_of, response_message, notice_message, reset_ntf, deactivate_ntf}
use Rattle.state.proofs.Chains.{on}
use Rattle.state.proofs.Places.{dynamic_place}
use Rattle.messages.proofs.Lengths.{response_short}
use Rattle.model.specs.Connection.{Connection}
use Rattle.wires.specs.Tally.{aimed_at, says}
use Rattle.messages.specs.Packets.{response_packet, notice_packet, notice_packets}
use Rattle.model.specs.State.{State, is_open}
use Rattle.model.specs.Refusals.{no_conn}
use Rattle.ends.specs.Changes.{Change, stays, opens, closes, change_by}
use Rattle.model.specs.Changes.{at_controller}
use Rattle.model.specs.calls.Down.{answers, deciding}
use Rattle.model.specs.Observer.{Ledger, puts_up}
use Rattle.model.specs.invariant.Items.{puts_l, Item, items_by, items_of, segs_of}
use Rattle.model.specs.invariant.Commands.{Aims, OnItsWay, Name, named, heads, replies, pending_name, NoData}
use Rattle.model.specs.invariant.Bench.{Aimed, Kept, GoodAt, Sound, Standing, ConfigWithin, account_of}
use Rattle.model.proofs.Cases.{clash, each, right_nil}
use Rattle.model.proofs.Acts.{MayPut, puts_good}
use Rattle.nfcc.proofs.Verdicts.{Fits, Legal}
use Rattle.model.proofs.Meanings.{items_of_append, meaning_notice}
use Rattle.model.proofs.Parameters.{after_within}
use Rattle.model.proofs.Messages.{answered_by, Answerable, says_response, items_answers, Notices, notices_verdict, meaning_answer}
use Rattle.model.proofs.Order.{replies_append, no_segs, no_data_tidy}
use Rattle.model.proofs.Closing.{closing_reset, closing_close, closing, closing_pending, no_close, shut_now}
use Rattle.model.proofs.Fine.{ChangeOk, standing_change, sound_control, kept, Plain, puts_change, put_all_law, sound_append}
use Rattle.state.specs.Profile.{ProfileWithin}

-- every verdict opens or closes, or does nothing
verdict_plain : (v : Judgement) (d : ℕ) → Plain (change_by v d)
verdict_plain (Err status) d = tt
verdict_plain (Ok (verdict.Resets type)) d = tt
verdict_plain (Ok verdict.Initialises) d = tt
verdict_plain (Ok (verdict.Opens c t)) d = on Plain (eqb c d) (λ e. tt) (λ e. tt)
verdict_plain (Ok (verdict.Closes c)) d = on Plain (eqb c d) (λ e. tt) (λ e. tt)
verdict_plain (Ok (verdict.Turns rf)) d = tt
verdict_plain (Ok (verdict.Selects pair)) d = tt
verdict_plain (Ok (verdict.Deactivates type rf)) d = on Plain (eqb 0 d) (λ e. tt) (λ e. tt)
verdict_plain (Ok verdict.SetsConfig) d = tt
verdict_plain (Ok verdict.GetsConfig) d = tt

-- a dynamic Conn ID is one of the five
pub dynamic_conn : (c : ℕ) → 2 ≤ c → c ≤ 5 → no_conn c ≡ false
dynamic_conn c low high = lt-leb 5 (place_of c) (dynamic_place c low high)

-- ---- the packets of an answer

pub notices_replies : (ps : List Octets) → Notices ps → replies ps ≡ []
unfolding replies
notices_replies [] n = refl
notices_replies (p ∷ ps) n = rw n.0.3 (notices_replies ps n.1)

answers_replies : (gid oid : ℕ) (p : Profile) (b m : Octets) (v : Judgement) → gid < 16 → oid < 64 → replies (answers gid oid p b m v) ≡ named gid oid ∷ []
unfolding replies
answers_replies gid oid p b m v low small =
    rw (meaning_answer gid oid p b m v low small) (ap (λ (ns : List Name). named gid oid ∷ ns) (notices_replies (notice_packets (notice_message v)) (notices_verdict v)))

pub notice_sound : (gid oid : ℕ) (m : Octets) → gid < 16 → oid < 64 → length m ≤ control_limit
    → Sound (notice_packets (record { gid = gid; oid = oid; payload = m }))
notice_sound gid oid m low small short =
    on Sound (eqb (length m) 0) (λ e. tt) (λ e. sound_control (notice_packet (record { gid = gid; oid = oid; payload = m })) 3 gid oid m (meaning_notice gid oid low small m) (inr refl) short)

verdict_sound : (v : Judgement) → Sound (notice_packets (notice_message v))
unfolding notice_message
verdict_sound (Err status) = tt
verdict_sound (Ok (verdict.Resets type)) = notice_sound 0 0 (reset_ntf type) (omega arith) (omega arith) (omega arith)
verdict_sound (Ok verdict.Initialises) = tt
verdict_sound (Ok (verdict.Opens c t)) = tt
verdict_sound (Ok (verdict.Closes c)) = tt
verdict_sound (Ok (verdict.Turns rf)) = tt
verdict_sound (Ok (verdict.Selects pair)) = tt
verdict_sound (Ok (verdict.Deactivates type rf)) = notice_sound 1 6 (deactivate_ntf type 0x00) (omega arith) (omega arith) (omega arith)
verdict_sound (Ok verdict.SetsConfig) = tt
verdict_sound (Ok verdict.GetsConfig) = tt

-- a response that says something was written
answered_written : (aim gid oid : ℕ) (m : Octets) (a : Answer) → says aim 2 gid oid m ≡ Answered a → written 2 gid oid m ≡ true
answered_written aim gid oid m a e = go (written 2 gid oid m) refl e
  where
    go : (b : Bool) → written 2 gid oid m ≡ b → pick b (heard_written (aimed_at aim) 2 gid oid m) Nothing ≡ Answered a → written 2 gid oid m ≡ true
    go true w h = w
    go false w h = absurd (let z : ◌≡◌ {A = ℕ} 0 1 = cc in omega arith)

answers_sound : (aim gid oid : ℕ) (p : Profile) (b m : Octets) (v : Judgement) → ProfileWithin p → Fits gid oid aim p v → Answerable b m v → gid < 16 → oid < 64
    → Sound (answers gid oid p b m v)
answers_sound aim gid oid p b m v limits f a low small =
    let r = response_of p b m v in
    sound_append (response_packet (response_message gid oid p b m v) ∷ []) (notice_packets (notice_message v))
    (sound_control (response_packet (response_message gid oid p b m v)) 2 gid oid r (meaning_answer gid oid p b m v low small)
    (inl (refl, answered_written aim gid oid r (answered_by p v) (says_response p limits aim b m gid oid v f a))) (response_short p b m v a.whole))
    (verdict_sound v)

-- what a verdict opens is the profile's
pub verdict_ok : (gid oid aim : ℕ) (p : Profile) (v : Judgement) → Fits gid oid aim p v → (d : ℕ) → ChangeOk p d (change_by v d)
verdict_ok gid oid aim p (Err status) f d = tt
verdict_ok gid oid aim p (Ok (verdict.Resets type)) f d = tt
verdict_ok gid oid aim p (Ok verdict.Initialises) f d = tt
verdict_ok gid oid aim p (Ok (verdict.Opens c t)) f d = each c (λ d b. ChangeOk p d (pick b (opens t) stays)) (dynamic_conn c f.2 f.3, f.4) (λ d. tt) d
verdict_ok gid oid aim p (Ok (verdict.Closes c)) f d = on (ChangeOk p d) (eqb c d) (λ e. tt) (λ e. tt)
verdict_ok gid oid aim p (Ok (verdict.Turns rf)) f d = tt
verdict_ok gid oid aim p (Ok (verdict.Selects pair)) f d = tt
verdict_ok gid oid aim p (Ok (verdict.Deactivates type rf)) f d = on (ChangeOk p d) (eqb 0 d) (λ e. tt) (λ e. tt)
verdict_ok gid oid aim p (Ok verdict.SetsConfig) f d = tt
verdict_ok gid oid aim p (Ok verdict.GetsConfig) f d = tt

-- the state behind the command's last packet: no other command is under way, and nothing was pushed behind one that closes
pub record Behind (s : State) (aim : ℕ) (l : ℕ → Ledger) (gid oid : ℕ) : Type 0 where
  pub good : (d : ℕ) → GoodAt d (s.conns d) (segs_of d s.down) (items_of aim d s.up) (l d)
  pub clear : (d : ℕ) → eqb 0 d ≡ false → (s.conns d).controller.opened ≡ false → segs_of d s.down ≡ []
  pub alone : heads s.down ++ replies s.up ≡ []
  pub asked : pending_name s.host.pending ≡ named gid oid ∷ []
  pub bare : is_closing s.host.pending ≡ true → NoData s.down
  pub standing : Standing s.conns (is_active s.controller.rf) s.profile
  pub limits : ProfileWithin s.profile
  pub config : ConfigWithin s.config
  pub way : OnItsWay (Aims aim) s.asking s.down
  pub aimed : Aimed s.host.pending aim
  pub sound : Sound s.up
  pub heard : s.hearing.run ≡ run []
  pub low : gid < 16
  pub small : oid < 64

module _ (s : State) (aim : ℕ) (l : ℕ → Ledger) (gid oid : ℕ) (b : Behind s aim l gid oid) where
  abbrev May : ℕ → List Item → Type 0
  May d is = MayPut (s.conns d) (segs_of d s.down) (items_of aim d s.up) is

  -- a RESET or a CONN_CLOSE has no data behind it
  behind : closing (named gid oid) ≡ true → (d : ℕ) → segs_of d s.down ≡ []
  behind e d = no_segs d s.down (b.bare (closing_pending s.host.pending (named gid oid) b.asked ∙ e))

  no_replies : replies s.up ≡ []
  no_replies = right_nil (heads s.down) b.alone

  -- a dynamic connection that is not open at the controller is not open at the host either, and nothing of it is under way
  shut_there : (c : ℕ) → eqb 0 c ≡ false → (s.conns c).controller.opened ≡ false
      → ((s.conns c).host.opened ≡ false) × (items_of aim c s.up ≡ [])
  shut_there c z e = shut_now (s.conns c).host.opened (items_of aim c s.up) (no_close c z aim s.up (rw no_replies tt)) (rw e at (b.good c).numbers.phase)

  not_zero : (c : ℕ) → 2 ≤ c → eqb 0 c ≡ false
  not_zero c h = ne_eqb 0 c (λ (z : 0 ≡ c). omega arith)

  verdict_may : (v : Judgement) → Fits gid oid aim s.profile v → Legal s.controller.rf (is_open s) v → (d : ℕ) → May d (items_by (change_by v d))
  verdict_may (Err status) f g d = tt
  verdict_may (Ok (verdict.Resets type)) f g d = tt
  verdict_may (Ok verdict.Initialises) f g d = tt
  verdict_may (Ok (verdict.Opens c t)) f g d =
      each c (λ d b. May d (items_by (pick b (opens t) stays)))
      (let q = shut_there c (not_zero c f.2) g in (q.0, b.clear c (not_zero c f.2) g, q.1))
      (λ d. tt) d
  verdict_may (Ok (verdict.Closes c)) f g d = each c (λ d b. May d (items_by (pick b closes stays))) tt (λ d. tt) d
  verdict_may (Ok (verdict.Turns rf)) f g d = tt
  verdict_may (Ok (verdict.Selects pair)) f g d = tt
  verdict_may (Ok (verdict.Deactivates type rf)) f g d = each 0 (λ d b. May d (items_by (pick b closes stays))) tt (λ d. tt) d
  verdict_may (Ok verdict.SetsConfig) f g d = tt
  verdict_may (Ok verdict.GetsConfig) f g d = tt

  abbrev Clear : ℕ → Change → Type 0
  Clear d c = (at_controller c (s.conns d).controller).opened ≡ false → segs_of d s.down ≡ []

  verdict_clear : (v : Judgement) → Fits gid oid aim s.profile v → (d : ℕ) → eqb 0 d ≡ false → Clear d (change_by v d)
  verdict_clear (Err status) f d z = b.clear d z
  verdict_clear (Ok (verdict.Resets type)) f d z = λ x. behind (closing_reset gid oid f.0 f.1) d
  verdict_clear (Ok verdict.Initialises) f d z = b.clear d z
  verdict_clear (Ok (verdict.Opens c t)) f d z = on (Clear d) (eqb c d) (λ e x. clash refl x) (λ e. b.clear d z)
  verdict_clear (Ok (verdict.Closes c)) f d z = λ x. behind (closing_close gid oid f.0 f.1) d
  verdict_clear (Ok (verdict.Turns rf)) f d z = b.clear d z
  verdict_clear (Ok (verdict.Selects pair)) f d z = b.clear d z
  verdict_clear (Ok (verdict.Deactivates type rf)) f d z = rw z (b.clear d z)
  verdict_clear (Ok verdict.SetsConfig) f d z = b.clear d z
  verdict_clear (Ok verdict.GetsConfig) f d z = b.clear d z

  swap : (c : ℕ) → eqb 0 c ≡ false → eqb c 0 ≡ false
  swap c e = ne_eqb c 0 (λ (z : c ≡ 0). eqb-false 0 c e (sym z))

  verdict_air : (v : Judgement) → Fits gid oid aim s.profile v → Legal s.controller.rf (is_open s) v
      → is_active (controller_after s.controller v).rf ≡ (at_controller (change_by v 0) (s.conns 0).controller).opened
  unfolding controller_after
  verdict_air (Err status) f g = b.standing.air
  verdict_air (Ok (verdict.Resets type)) f g = refl
  verdict_air (Ok verdict.Initialises) f g = b.standing.air
  verdict_air (Ok (verdict.Opens c t)) f g = rw (swap c (not_zero c f.2)) b.standing.air
  verdict_air (Ok (verdict.Closes c)) f g = rw g.0 b.standing.air
  verdict_air (Ok (verdict.Turns rf)) f g = g.1 ∙ sym g.0 ∙ b.standing.air
  verdict_air (Ok (verdict.Selects pair)) f g = sym g ∙ b.standing.air
  verdict_air (Ok (verdict.Deactivates type rf)) f g = g.1
  verdict_air (Ok verdict.SetsConfig) f g = b.standing.air
  verdict_air (Ok verdict.GetsConfig) f g = b.standing.air

  pub decided_keeps : (m : Octets) (v : Judgement) → Fits gid oid aim s.profile v → Legal s.controller.rf (is_open s) v
      → Answerable s.config m v → Kept (deciding gid oid m v s).next (puts_up (answers gid oid s.profile s.config m v) (account_of s aim l))
  decided_keeps m v f g a =
      kept
      record {
        good =
            λ d.
            rw (put_all_law aim d ps (l d), items_of_append aim d s.up ps, items_answers s.profile b.limits aim d gid oid s.config m b.low b.small v f a)
            (subst (λ (k : Connection). GoodAt d k (segs_of d s.down) (items_of aim d s.up ++ items_by (change_by v d)) (puts_l (items_by (change_by v d)) (l d)))
            (puts_change (change_by v d) (s.conns d) (verdict_plain v d))
            (puts_good (items_by (change_by v d)) (verdict_may v f g d) (b.good d)));
        order =
            record {
              clear = verdict_clear v f;
              single = rw (replies_append s.up ps, answers_replies gid oid s.profile s.config m v b.low b.small, ← append_assoc, b.alone) (sym b.asked);
              tidy = λ x. no_data_tidy s.down (b.bare x);
              empty = λ x e. b.bare x;
            };
        way = b.way;
        aimed = b.aimed;
        sound = sound_append s.up ps b.sound (answers_sound aim gid oid s.profile s.config m v b.limits f a b.low b.small);
        heard = b.heard;
        standing = standing_change (change_by v) (is_active (controller_after s.controller v).rf) (verdict_ok gid oid aim s.profile v f) (verdict_air v f g) b.standing;
        limits = b.limits;
        config = after_within s.config m v b.config;
      }
    where
      ps : List Octets
      ps = answers gid oid s.profile s.config m v
