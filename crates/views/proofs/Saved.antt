-- An area into which a record was written stands for what the record and the area stood for.
-- Assumes nothing.
use Prim.Native.Nat.{◌≤◌}
use native.Mathlib.Omega.{arith}
use mathlib.Core.Path.{◌≡◌, ◌∙◌}
use lib.ListN.{length}
use Rattle.octets.specs.Octets.{Octets}
use Rattle.views.specs.Kinds.{Record}
use Rattle.area.specs.Map.{area_size, record_at}
use Rattle.record.specs.Writing.{encode_of}
use Rattle.record.specs.Fit.{Shape, Fit}
use Rattle.record.specs.Claims.{saved}
use Rattle.record.proofs.Writing.{length_encode}
use Rattle.record.proofs.Saved.{saved_record}
use Rattle.views.specs.View.{view, view_of}
use Rattle.views.proofs.Others.{past_runs}

pub saved_view : (area : Octets) (r : Record) → area_size ≤ length area → Fit r → Shape r → view_of (saved area r) ≡ view area r
saved_view area r long fit shape =
    (λ i. view (saved area r) (saved_record area r long fit shape i))
    ∙ past_runs area r (record { room = long; fit = fit; shape = shape }) record_at (encode_of r) (omega arith) (omega (arith, length_encode r))
