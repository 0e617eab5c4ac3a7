-- What a get shows is what was last accepted, on octets: each call keeps the model's invariant of what the area stands for.
-- Assumes nothing.
use mathlib.Core.List.{List, [], ◌∷◌}
use Rattle.octets.specs.Octal.{Octal}
use Rattle.calls.specs.Word.{answer_in}
use Rattle.calls.specs.Demand.{Key, pressed, slice, AllOctal, area_after, puts_in, seen_in}
use mathlib.Core.Path.{sym, subst}
use Rattle.octets.specs.Octets.{Octets}
use Rattle.views.specs.View.{view_of}
use Rattle.model.specs.Observer.{Event, Account, observe}
use Rattle.model.specs.Config.{Diary, first_page, ConfigTold, note, diary}
use Rattle.model.specs.ConfigPlayed.{ConfigPlayed}
use Rattle.model.specs.invariant.Configured.{Configured}
use Rattle.model.proofs.Config.{cold_configured, refused_configured, step_configured, configured_claim, values_noted}
use Rattle.model.proofs.ConfigPlayed.{config_played}
use Rattle.calls.specs.Seen.{Puts, seen_by, puts_after}
use Rattle.calls.specs.Played.{OctetPlays}
use Rattle.calls.specs.Config.{OctetConfigClaim, AlwaysConfigs}
use Rattle.calls.proofs.Down.{down_refines}
use Rattle.calls.proofs.Demand.{Stands, run_stands, pressed_by, stands_within, press}
use Rattle.calls.proofs.EveryRun.{run_noted}
use Rattle.calls.proofs.Played.{plays}

press_configured : (k : Key) → Octal (slice k.call) → (a : Octets) (p : Puts) (o : Account) → Stands a p o → (n : Diary) → Configured (view_of a) n
    → Configured (view_of (pressed k a).area) (note (seen_by k.call p (pressed k a)) n)
unfolding answer_in
press_configured k v a p o s n m =
    (pressed_by (λ e x. Configured x (note e n)) k v a p s.good s.along (stands_within a p o s k) m (step_configured k.call (view_of a) o n s.keeps m)).holds

-- ---- the claim

octet_config_claim : (a : Octets) (p : Puts) (o : Account) → Stands a p o → (n : Diary) → Configured (view_of a) n → OctetConfigClaim a p n
octet_config_claim a p o s n m out room =
    subst (λ (x : Event). ConfigTold x.to_up n) (sym (down_refines p a out s.good room s.along).event) (configured_claim (view_of a) o n s.keeps m)

keys_configured : (ks : List Key) → AllOctal ks → (a : Octets) (p : Puts) (o : Account) → Stands a p o → (n : Diary) → Configured (view_of a) n
    → OctetConfigClaim (area_after ks a) (puts_in ks p a) (diary (seen_in ks p a) n)
unfolding area_after puts_in seen_in diary
keys_configured [] v a p o s n m = octet_config_claim a p o s n m
keys_configured (k ∷ ks) v a p o s n m =
    keys_configured ks v.1 (pressed k a).area (puts_after k.call p (pressed k a).word) (observe (seen_by k.call p (pressed k a)) o) (press k v.0 a p o s)
    (note (seen_by k.call p (pressed k a)) n) (press_configured k v.0 a p o s n m)

pub always_configs : AlwaysConfigs
unfolding values_noted
always_configs area out profile v e keys w =
    octet_config_claim _ _ _ (run_stands area out profile v e keys w) _
    (run_noted values_noted Configured step_configured refused_configured first_page (λ p l. cold_configured p) area out profile v e keys w)

-- ---- lists with sets and gets

pub octet_config_played : ConfigPlayed OctetPlays
octet_config_played =
    record {
      in_order = plays _ config_played.in_order;
      others_set = plays _ config_played.others_set;
      restored = plays _ config_played.restored;
      varying = plays _ config_played.varying;
      unavailable = plays _ config_played.unavailable;
      cut_short = plays _ config_played.cut_short;
      none = plays _ config_played.none;
      kept = plays _ config_played.kept;
      all_restored_law = plays _ config_played.all_restored_law;
      powered = plays _ config_played.powered;
      early = plays _ config_played.early;
      discovering = plays _ config_played.discovering;
      set_told = config_played.set_told;
      default_told = config_played.default_told;
    }
