-- `nfcc::controller::configs_ok` meets its contract: one pair more is the definition's next step.
use Rattle.std.proofs.Common.{add-one}
use Rattle.nfcc.specs.Controller.{configs_ok}
use Rattle.nfcc.proofs.controller.configs_ok.Goals as goal

pub loop-i-preserved : goal.loop-i-preserved
unfolding configs_ok
loop-i-preserved c =
    rw (
      add-one c.loop-i.i,
      c.loop-i.invariant,
      c.config_ok-ok.ensures,
      c.octet_at-frequency.ensures,
      c.octet_at-mode.ensures,
    )
