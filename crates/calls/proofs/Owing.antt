-- An area that owes two credits to 2 and none to any other, as the table's notice asks for one.
-- Assumes nothing.
use Prim.Native.Nat.{◌≤◌}
use native.Mathlib.Omega.{arith}
use mathlib.Core.Path.{◌≡◌, refl, sym, ap, ◌∙◌, subst}
use mathlib.Core.Bool.{true, false, false≢true}
use mathlib.Core.List.{List, [], ◌∷◌}
use lib.ListN.{length, set}
use Rattle.octets.specs.Octets.{Octets}
use Rattle.state.specs.Conn.{place_of, closed_host, empty_ring, start}
use Rattle.state.specs.Profile.{profile_in, ProfileWithin}
use Rattle.state.proofs.Limits.{profile_limits}
use Rattle.area.specs.Map.{area_size}
use Rattle.area.specs.Ring.{packets_from, tab}
use Rattle.area.specs.Movers.{zeros}
use Rattle.area.proofs.Moves.{length_zeros}
use Rattle.config.specs.Stored.{defaults, parameters_ok}
use Rattle.config.proofs.SetOctets.{defaults_octal}
use Rattle.record.specs.Layout.{config_octets, configured}
use Rattle.record.specs.Claims.{saved}
use Rattle.record.specs.Plan.{with_conns, cold_record}
use Rattle.record.specs.Fit.{Shape, Fit, FitCounts, Granted, GrantedCounts}
use Rattle.record.specs.Small.{Small, SmallCounts}
use Rattle.record.proofs.Conns.{conns_set}
use Rattle.record.proofs.Configured.{configured_length, configured_octal, configured_back}
use Rattle.record.proofs.Saved.{saved_record}
use Rattle.views.specs.View.{view, view_of}
use Rattle.views.proofs.Saved.{saved_view}
use Rattle.views.proofs.Credits.{granted_view}
use Rattle.model.specs.State.{State}
use Rattle.model.specs.Refusals.{full}
use Rattle.model.specs.Table.{profile}
use Rattle.model.specs.calls.Credit.{owed_by}
use Rattle.model.proofs.Parameters.{defaults_within}
use Rattle.calls.specs.Kinds.{Counts, Profile, Record}
use Rattle.calls.specs.Seen.{no_puts}
use Rattle.calls.specs.Refines.{Follows}
use Rattle.calls.specs.Played.{Owes}
use Rattle.calls.proofs.Refine.{saved_good}
use Rattle.calls.proofs.FreshPower.{closed_all, zero_octets, cold_fit, cold_small}

-- the table's bench, cold but for connection 2: open at the controller, its two credits owed
abbrev terms : Profile
terms = profile_in profile

within : ProfileWithin terms
within = profile_limits profile refl

abbrev owing : Counts
owing = record { host = closed_host; controller = record { opened = true; grant = 2; owed = 2; store = empty_ring; run = start } }

abbrev before : List Counts
before = (cold_record terms).ends.conns

abbrev r : Record
r = with_conns (set before 1 owing) (cold_record terms)

fit : Fit r
fit =
    let f = cold_fit terms within in
    record {
      down = f.down;
      up = f.up;
      own = f.own;
      conns =
          conns_set FitCounts before 1 owing (omega arith)
          (record {
            payload = λ e. absurd (false≢true e);
            hand = record { len = omega arith; at = omega arith };
            host_run_law = omega arith;
            store = record { head = omega arith; count = omega arith };
            controller_run_law = omega arith;
          })
          f.conns;
    }

shape : Shape r
shape = record { pairs = refl; conns = refl }

small : Small r
small =
    let s = cold_small terms within in
    record {
      own = s.own;
      conns =
          conns_set SmallCounts before 1 owing (omega arith)
          (record { payload = omega arith; host_grant_law = omega arith; held = omega arith; grant = omega arith; owed = omega arith }) s.conns;
    }

granted : Granted r
granted =
    conns_set GrantedCounts before 1 owing (omega arith) (record { held = omega arith; owed = omega arith })
    (closed_all GrantedCounts terms (record { held = omega arith; owed = omega arith }))

-- every parameter at its default, and 0 elsewhere
abbrev blank : Octets
blank = configured (zeros area_size) defaults

zeros_long : area_size ≤ length (zeros area_size)
zeros_long = omega (arith, length_zeros area_size)

long : area_size ≤ length blank
long = omega (arith, zeros_long, configured_length (zeros area_size) defaults)

-- they are values that a set leaves
values : parameters_ok (config_octets blank) ≡ true
values = ap parameters_ok (configured_back (zeros area_size) defaults zeros_long refl) ∙ defaults_within.values

stands : view_of (saved blank r) ≡ view blank r
stands = saved_view blank r long fit shape

two_owed_law : owed_by (view blank r) ≡ 0 ∷ 2 ∷ 0 ∷ 0 ∷ 0 ∷ []
unfolding place_of
two_owed_law = refl

no_packets : full 1 (view blank r).up ≡ false
unfolding packets_from tab
no_packets = refl

pub owes_two : Owes (0 ∷ 2 ∷ 0 ∷ 0 ∷ 0 ∷ [])
owes_two =
    let e = saved_record blank r long fit shape in
    record {
      area = saved blank r;
      puts = no_puts;
      good = saved_good blank r long fit shape (configured_octal (zeros area_size) defaults (zero_octets area_size) defaults_octal) small (granted_view blank r granted) values;
      along = record { down = subst (λ (y : Record). Follows 0 y.down) (sym e) refl; up = subst (λ (y : Record). Follows 0 y.up) (sym e) refl };
      owing = ap owed_by stands ∙ two_owed_law;
      free = ap (λ (s : State). full 1 s.up) stands ∙ no_packets;
    }
