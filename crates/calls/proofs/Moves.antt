-- The moves of Run to rest as calls: each goes by the model's rules, and is given no slice.
-- Assumes nothing.
use mathlib.Core.Path.{◌≡◌, refl, ◌∙◌}
use mathlib.Core.Bool.{true}
use Rattle.octets.specs.Octets.{Octets}
use Rattle.octets.specs.Octal.{Octal, octal_nil}
use Rattle.record.specs.Reading.{decode_of}
use Rattle.views.specs.View.{view_of}
use Rattle.model.specs.Effects.{Call, fresh, power, command, send, push, down, consume, credit, air, reply, up, report, taken}
use Rattle.model.specs.Bench.{rules}
use Rattle.model.proofs.Falling.{IsMove}
use Rattle.calls.specs.Word.{answer_in}
use Rattle.calls.specs.Outcome.{Outcome, called}
use Rattle.calls.specs.calls.Push.{pushed, push_call}
use Rattle.calls.specs.calls.Down.{took_down, down_slot, down_read, downed, down_call}
use Rattle.calls.specs.calls.Consume.{oldest_read, consumed, consume_call}
use Rattle.calls.specs.calls.Credit.{credited, credit_call}
use Rattle.calls.specs.calls.Reply.{replied, reply_call}
use Rattle.calls.specs.calls.Up.{up_read, upped, up_call}
use Rattle.calls.specs.Demand.{perform, slice}
use Rattle.calls.proofs.Rules.{numbered}
use Rattle.calls.proofs.Words.{word_answer, told_answer}
use Rattle.calls.proofs.Kept.{down_leaves, consume_leaves, up_leaves}

-- ---- a move as C makes it

-- it goes by the model's rules, and what it does where none applies has the answer 0 in its word
pub record AsCalled (c : Call) (a out : Octets) : Type 0 where
  pub does : Outcome
  pub same : called (rules c (view_of a)) does a out ≡ perform c a out
  pub numbers : numbered (rules c (view_of a)) ≡ true
  pub answers : answer_in does.word ≡ taken

pub as_called : (c : Call) (a out : Octets) → IsMove c → AsCalled c a out
unfolding push_call down_call consume_call credit_call reply_call up_call
as_called (fresh m) a out v = absurd v
as_called power a out v = absurd v
as_called (command gid oid m) a out v = absurd v
as_called (send c m) a out v = absurd v
as_called (push c) a out v = record { does = pushed (decode_of a) c a out; same = refl; numbers = refl; answers = word_answer _ _ _ _ _ }
as_called down a out v =
    let told = down_leaves (took_down (decode_of a)) (down_slot (decode_of a)) (down_read (decode_of a) a) a out in
    record { does = downed (decode_of a) a out; same = refl; numbers = refl; answers = told_answer _ _ ∙ told.answers }
as_called (consume c) a out v =
    record { does = consumed (decode_of a) c a out; same = refl; numbers = refl; answers = (consume_leaves (decode_of a) c (oldest_read (decode_of a) c a) a out).answers }
as_called credit a out v = record { does = credited (decode_of a) a out; same = refl; numbers = refl; answers = word_answer _ _ _ _ _ }
as_called (air m) a out v = absurd v
as_called reply a out v = record { does = replied (decode_of a) a out; same = refl; numbers = refl; answers = word_answer _ _ _ _ _ }
as_called up a out v =
    let told = up_leaves (decode_of a) (up_read (decode_of a) a) a out in
    record { does = upped (decode_of a) a out; same = refl; numbers = refl; answers = told_answer _ _ ∙ told.answers }
as_called (report c) a out v = absurd v

-- ---- its slice has no octets

pub octal_of : (c : Call) → IsMove c → Octal (slice c)
octal_of (fresh m) v = absurd v
octal_of power v = absurd v
octal_of (command gid oid m) v = absurd v
octal_of (send c m) v = absurd v
octal_of (push c) v = octal_nil
octal_of down v = octal_nil
octal_of (consume c) v = octal_nil
octal_of credit v = octal_nil
octal_of (air m) v = absurd v
octal_of reply v = octal_nil
octal_of up v = octal_nil
octal_of (report c) v = absurd v
