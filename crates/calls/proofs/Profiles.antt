-- The two forms of a profile are one bench, and the grants of every run are the profile's, each by its Conn ID.
-- Assumes nothing.
use native.Mathlib.Omega.{arith}
use mathlib.Core.Path.{◌≡◌, refl, sym, ap, ◌∙◌}
use mathlib.Core.List.{[], ◌++◌}
use lib.ListN.{drop, drop_of_length-le}
use Rattle.octets.specs.Octets.{Octets}
use Rattle.state.proofs.Chains.{elements, elements_are}
use Rattle.record.specs.Writing.{profile_octets}
use Rattle.model.specs.Profiles.{Profiles}
use Rattle.model.proofs.Profiles.{profiles}
use Rattle.model.proofs.Trace.{own_grant}
use Rattle.model.proofs.Small.{Small, cold_small}
use Rattle.model.proofs.Sizes.{act_small}
use Rattle.model.proofs.Terms.{own_terms}
use Rattle.calls.specs.calls.Fresh.{fresh_call}
use Rattle.calls.specs.Played.{OctetPlays}
use Rattle.calls.specs.Profiles.{FiveMeanEleven, OneForm, AlwaysOwn}
use Rattle.calls.proofs.Demand.{run_stands}
use Rattle.calls.proofs.EveryRun.{every_run}
use Rattle.calls.proofs.Played.{plays}

pub five_mean_eleven : FiveMeanEleven
unfolding fresh_call
five_mean_eleven area out control payload credits fixedPayload fixedCredits = refl

pub one_form : OneForm
unfolding profile_octets
one_form =
    record {
      read_written = λ p. refl;
      written_read =
          λ m long.
          let none : drop 11 m ≡ [] = drop_of_length-le m {i = 11} (omega (arith, long)) in
          rw long (ap (λ (t : Octets). elements m 0 11 ++ t) (sym none) ∙ elements_are m 11 0 (omega (arith, long)));
    }

pub always_own : AlwaysOwn
always_own area out m v e keys w =
    let kept = (run_stands area out m v e keys w).keeps in
    record {
      terms = own_terms _ _ _ kept.fine (every_run Small act_small (λ p l. cold_small p) area out m v e keys w);
      counted = λ c. own_grant c _ _ kept;
    }

pub octet_profiles : Profiles OctetPlays
octet_profiles =
    record {
      each = plays _ profiles.each;
      after_close = plays _ profiles.after_close;
      static = plays _ profiles.static;
      side_by_side = plays _ profiles.side_by_side;
      nine_credits = plays _ profiles.nine_credits;
      no_payload = plays _ profiles.no_payload;
      nine_octets = plays _ profiles.nine_octets;
    }
