-- What else holds of every run of calls on octets from a fresh bench: which refusals never come, that a loopback owes nothing, and that a front end reads the packets that the observer sees.
-- Assumes nothing.
use Rattle.std.specs.Prelude.{ℕ, ◌≤◌, ◌≡◌, true, false, length}
use Rattle.octets.specs.Octets.{Octets}
use Rattle.octets.specs.Octal.{Octal}
use Rattle.area.specs.Map.{area_size, message_size}
use Rattle.record.specs.Judge.{judge_of}
use Rattle.views.specs.View.{view_of}
use Rattle.model.specs.Effects.{taken, refused}
use Rattle.model.specs.Grants.{past_grant}
use Rattle.model.specs.Reachable.{LoopbacksPaid}
use Rattle.calls.specs.Word.{answer_in, down_in, up_in}
use Rattle.calls.specs.Seen.{Puts, seen_by}
use Rattle.calls.specs.Packet.{last_packets}
use Rattle.calls.specs.Demand.{Key, pressed, slice, EveryRun}

-- of the area that a run has left, whatever call comes next
pub record Reached (a : Octets) : Type 0 where
  -- row 1 lets its record pass, so no call answers 1
  pub long : area_size ≤ length a
  pub judged : judge_of a ≡ true
  pub never_1 : (k : Key) → Octal (slice k.call) → answer_in (pressed k a).word ≡ refused 1 → ⊥
  -- with room for a message in the buffer no call answers 2: only arguments and state refuse
  pub never_2 : (k : Key) → Octal (slice k.call) → message_size ≤ length k.out → answer_in (pressed k a).word ≡ refused 2 → ⊥
  -- no call that is taken brings credits past a grant, which is what number 13 asked
  pub never_past : (k : Key) → Octal (slice k.call) → answer_in (pressed k a).word ≡ taken → past_grant k.call (view_of a) ≡ false

abbrev pub AlwaysReached : Type 0
AlwaysReached = EveryRun (λ a p o. Reached a)

-- a loopback owes nothing between calls
abbrev pub AlwaysPaid : Type 0
AlwaysPaid = EveryRun (λ a p o. LoopbacksPaid (view_of a))

-- of the area a that a run has left, with p packets put on each wire: what is seen of the packets that the next call puts is what the packet reader
-- hands out for them, counted from the wire's end, each into a buffer with room
pub record Displayed (a : Octets) (p : Puts) : Type 0 where
  pub down : (k : Key) → Octal (slice k.call) → (outs : ℕ → Octets) → ((i : ℕ) → message_size ≤ length (outs i))
      → last_packets (pressed k a).area outs 0 (down_in (pressed k a).word) ≡ (seen_by k.call p (pressed k a)).to_down
  pub up : (k : Key) → Octal (slice k.call) → (outs : ℕ → Octets) → ((i : ℕ) → message_size ≤ length (outs i))
      → last_packets (pressed k a).area outs 1 (up_in (pressed k a).word) ≡ (seen_by k.call p (pressed k a)).to_up

abbrev pub AlwaysDisplayed : Type 0
AlwaysDisplayed = EveryRun (λ a p o. Displayed a p)
