-- A call that puts no packet: from its word, the state after it and the message handed out to its refinement.
-- Assumes nothing.
use Prim.Native.Nat.{ℕ, ◌≤◌, ◌<◌}
use mathlib.Core.Path.{◌≡◌, subst}
use mathlib.Core.Bool.{Bool, false}
use mathlib.Core.List.{[], ◌∷◌}
use lib.ListN.{length}
use Rattle.octets.specs.Octets.{Octets, pick, cut}
use Rattle.octets.specs.Octal.{Octal}
use Rattle.calls.specs.Kinds.{Record}
use Rattle.area.specs.Map.{area_size}
use Rattle.record.specs.Claims.{saved}
use Rattle.record.specs.Fit.{Shape, Fit}
use Rattle.record.specs.Small.{Small}
use Rattle.views.specs.View.{view}
use Rattle.model.specs.Effects.{Call, Effect, taken}
use Rattle.calls.specs.Word.{word_of}
use Rattle.calls.specs.Outcome.{outcome}
use Rattle.calls.specs.Seen.{Puts, starts}
use Rattle.calls.specs.Refines.{Follows, RefinesTo}
use Rattle.calls.proofs.Taken.{Added, added_none, took_refines}

-- the record after the call, and the octets into which it is written
module _ (x : Octets) (r : Record) (long : area_size ≤ length x) (fit : Fit r) (shape : Shape r) (octal : Octal x) (small : Small r) where
  pub quiet_refines : (c : Call) → starts c ≡ false → (q : Puts) → Follows q.down r.down → Follows q.up r.up
      → (d h : Bool) (len : ℕ) (out : Octets) (e : Effect) → len < 65536 → d ≡ e.drop → 0 ≡ e.rfu → [] ≡ e.to_down → [] ≡ e.to_up
      → pick h (cut 0 len out ∷ []) [] ≡ e.message → view x r ≡ e.next
      → RefinesTo c q (outcome (word_of d h len 0 0) (saved x r) out) (record { answer = taken; effect = e })
  quiet_refines c goes_on q down up d h len out e few dr rf td tu ms nx =
      took_refines c q x out r d h len 0 0 e
      (record {
        long = long;
        fit = fit;
        shape = shape;
        octal = octal;
        small = small;
        short = few;
        drop = dr;
        rfu = rf;
        message = ms;
        next = nx;
        to_down = subst (Added q.down 0 r.down e.next.down) td (added_none q.down r.down e.next.down down);
        to_up = subst (Added q.up 0 r.up e.next.up) tu (added_none q.up r.up e.next.up up);
      })
      goes_on
