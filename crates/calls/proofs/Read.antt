-- What the word of reading alone says: `ReadSays` of `specs/Read.antt`.
-- Assumes nothing.
use Prim.Native.Nat.{ℕ, ◌<◌}
use native.Mathlib.Omega.{arith}
use mathlib.Core.Path.{refl, ◌∙◌}
use mathlib.Core.Bool.{Bool, true, false}
use lib.ListN.{length}
use lib.Dec.{ltb}
use Rattle.octets.specs.Octets.{pick}
use Rattle.packets.specs.Packet.{read_of}
use Rattle.packets.specs.Reserved.{rfu_of, rfu_by}
use Rattle.packets.proofs.Reserved.{rfu_octet}
use Rattle.state.proofs.Chains.{on}
use Rattle.calls.specs.Kinds.{Reading}
use Rattle.std.specs.Prelude.{Some, None}
use Rattle.calls.specs.Kinds.way.{Up}
use Rattle.area.specs.Map.{slot_size}
use Rattle.model.specs.Effects.{taken, refused}
use Rattle.calls.specs.Word.{word_of, word_telling, answer_in, dropped_in, handed_in, down_in, up_in, rfu_in}
use Rattle.calls.specs.Read.{Found, found_in, found_of, found_word, Says, ReadSays}
use Rattle.calls.proofs.Words.{word_answer, word_dropped, word_handed, word_down, word_up, told_answer, told_dropped, told_handed, told_down, told_up, told_rfu}

long_says : Says 3 (record { answer = refused 3; dropped = false; rfu = 0 })
unfolding answer_in dropped_in handed_in down_in up_in rfu_in
long_says = record { answers = refl; drops = refl; tells = refl; hands = refl; puts_down = refl; puts_up_law = refl }

taken_says : (d : Bool) (n : ℕ) → n < 256 → Says (word_telling n (word_of d false 0 0 0)) (record { answer = taken; dropped = d; rfu = pick d 0 n })
taken_says d n small =
    let w = word_of d false 0 0 0 in
    let few : 0 < 256 = omega arith in
    let short : 0 < 65536 = omega arith in
    record {
      answers = told_answer n w ∙ word_answer d false 0 0 0;
      drops = told_dropped n w ∙ word_dropped d false 0 0 0;
      tells = told_rfu n w small ∙ (λ i. pick (word_dropped d false 0 0 0 i) 0 n);
      hands = told_handed n w ∙ word_handed d false 0 0 0;
      puts_down = told_down n w ∙ word_down d false 0 0 0 short few;
      puts_up_law = told_up n w ∙ word_up d false 0 0 0 short few few;
    }

found_says : (r : Reading) → rfu_by Up r < 256 → Says (found_word (found_in r)) (found_in r)
found_says (Some (h, n)) small = taken_says false (rfu_of Up h) small
found_says None small = taken_says true 0 small

pub read_says : ReadSays
unfolding found_of
read_says p o =
    on (λ (f : Found). Says (found_word f) f) (ltb slot_size (length p)) (λ _. long_says) (λ _. found_says (read_of p) (rfu_octet Up p o))
