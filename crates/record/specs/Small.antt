-- What the types of the code say of a record: its octets are octets. Row 1 does not say it, since a record that is read has
-- no others.
-- Assumes nothing.
use Rattle.std.specs.Prelude.{◌≤◌}
use Rattle.octets.specs.Octal.{Octal}
use Rattle.record.specs.Kinds.{Profile, ControlRun, Controller, Host, Counts, Ends, Record}
use Rattle.record.specs.Writing.{profile_octets, host_octets, control_run_octets, controller_octets}
use Rattle.record.specs.Fit.{Each}

-- a connection
pub record SmallCounts (k : Counts) : Type 0 where
  pub payload : k.host.payload ≤ 255
  pub host_grant_law : k.host.grant ≤ 255
  pub held : k.host.held ≤ 255
  pub grant : k.controller.grant ≤ 255
  pub owed : k.controller.owed ≤ 255

-- what both ends have besides connections, said of the parts as in Fit
pub record SmallParts (p : Profile) (h : Host) (hears : ControlRun) (k : Controller) (asks : ControlRun) : Type 0 where
  pub profile : Octal (profile_octets p)
  pub host : Octal (host_octets h)
  pub hearing : Octal (control_run_octets hears)
  pub controller : Octal (controller_octets k)
  pub asking : Octal (control_run_octets asks)

abbrev pub SmallEnds : Ends → Type 0
SmallEnds e = SmallParts e.profile e.host e.hearing e.controller e.asking

pub record Small (r : Record) : Type 0 where
  pub own : SmallEnds r.ends
  pub conns : Each SmallCounts r.ends.conns
