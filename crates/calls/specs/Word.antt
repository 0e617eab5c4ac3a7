-- The one number that a call answers (the C interface). A refusal is its number alone; of a call that is taken:
--   bits 0-7    0
--   bit 8       the drop flag
--   bit 9       whether a message was handed out
--   bits 16-31  its length
--   bits 32-39  packets put on the down wire
--   bits 40-47  packets put on the up wire
--   bits 48-55  the reserved bits of octet 1 that the packet taken had at 1
-- Run to rest has the number of its moves in bits 32-47: it counts no packets.
-- Assumes nothing.
use Rattle.std.specs.Prelude.{ℕ, ◌+◌, ◌*◌, ◌/◌, ◌%◌, Bool, eqb}
use Rattle.octets.specs.Octets.{pick}
use Rattle.record.specs.Layout.{bit}
use Rattle.model.specs.Effects.{Result, taken, refused}

-- what one of each counts for
abbrev pub drop_bit : ℕ
drop_bit = 256

abbrev pub handed_bit : ℕ
handed_bit = 512

abbrev pub length_unit : ℕ
length_unit = 65536

abbrev pub down_unit : ℕ
down_unit = 4294967296

abbrev pub up_unit : ℕ
up_unit = 1099511627776

abbrev pub rfu_unit : ℕ
rfu_unit = 281474976710656

-- of a call that is taken: the drop flag, whether a message was handed out, its length, packets put down and up
unfoldable pub word_of : Bool → Bool → ℕ → ℕ → ℕ → ℕ
word_of dropped handed len down up = bit dropped * drop_bit + bit handed * handed_bit + len * length_unit + down * down_unit + up * up_unit

-- ---- what a word says

-- the answer as a number: 0 for a call that is taken
abbrev pub number_of : Result → ℕ
number_of taken = 0
number_of (refused n) = n

unfoldable pub answer_in : ℕ → Result
answer_in w = pick (eqb (w % 256) 0) taken (refused (w % 256))

unfoldable pub dropped_in : ℕ → Bool
dropped_in w = eqb (w / drop_bit % 2) 1

unfoldable pub handed_in : ℕ → Bool
handed_in w = eqb (w / handed_bit % 2) 1

unfoldable pub length_in : ℕ → ℕ
length_in w = w / length_unit % 65536

unfoldable pub down_in : ℕ → ℕ
down_in w = w / down_unit % 256

unfoldable pub up_in : ℕ → ℕ
up_in w = w / up_unit % 256

unfoldable pub rfu_in : ℕ → ℕ
rfu_in w = w / rfu_unit % 256

-- of Run to rest: how many moves it made
unfoldable pub moves_in : ℕ → ℕ
moves_in w = w / down_unit % 65536

-- ---- the word of a call that takes a packet

-- the word w with the packet's reserved bits n; where the drop flag is set it shows none
unfoldable pub word_telling : ℕ → ℕ → ℕ
word_telling n w = w % rfu_unit + pick (dropped_in w) 0 n * rfu_unit
