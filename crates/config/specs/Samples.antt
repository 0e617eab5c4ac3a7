-- Lists and what becomes of them, computed: each line is what a table and functions in another language, made from 003 alone, gave for the same payload.
-- Assumes nothing.
use Rattle.std.specs.Prelude.{ℕ, zero, suc, ◌+◌, ◌≡◌, Bool, true, false, [], ◌∷◌, ◌++◌, length, leb, replicate}
use Rattle.octets.specs.Octets.{Octets}
use Rattle.octets.specs.Hex.{hex}
use Rattle.config.specs.Table.{table}
use Rattle.config.specs.Stored.{defaults, restored, parameters_ok}
use Rattle.config.specs.Commands.{param_at, count_in, config_after, set_rsp, get_rsp}

-- a list that is not cut short, by the octets that a command must have
abbrev set_whole : Octets → Bool
set_whole m = leb (param_at m (count_in m)) (length m)

abbrev get_whole : Octets → Bool
get_whole m = leb (1 + count_in m) (length m)

-- v n times
abbrev repeated : ℕ → Octets → Octets
repeated zero v = []
repeated (suc n) v = v ++ repeated n v

pub record Samples : Type 0 where
  pub all_restored_law : restored table (replicate 30 0x00) ≡ defaults
  pub set_two : config_after defaults (hex 7 0x02080101180102) ≡ hex 30 0x010800000008020008000000000000000000000000000000000000300801
  pub set_two_rsp : set_rsp (hex 7 0x02080101180102) ≡ 0x00 ∷ 0x00 ∷ []
  pub set_invalid : config_after defaults (hex 9 0x03080102180102FF00) ≡ hex 30 0x000800000008020008000000000000000000000000000000000000300801
  pub set_invalid_rsp : set_rsp (hex 9 0x03080102180102FF00) ≡ hex 4 0x090208FF
  pub set_lengths : config_after defaults (hex 28 0x04080200012010000102030405060708090A0B0C0D0E0F0900030100) ≡ hex 30 0x000800000008010008000000000000000000000000000000000000300801
  pub set_lengths_rsp : set_rsp (hex 28 0x04080200012010000102030405060708090A0B0C0D0E0F0900030100) ≡ hex 5 0x0903082003
  pub set_info : config_after defaults (hex 18 0x01200F0102030405060708090A0B0C0D0E0F) ≡ hex 30 0x0008000000080100080F0102030405060708090A0B0C0D0E0F0000300801
  pub set_info_rsp : set_rsp (hex 18 0x01200F0102030405060708090A0B0C0D0E0F) ≡ 0x00 ∷ 0x00 ∷ []
  pub set_shorter : config_after defaults (hex 9 0x0220030A0B0C2001FF) ≡ hex 30 0x00080000000801000801FF00000000000000000000000000000000300801
  pub set_shorter_rsp : set_rsp (hex 9 0x0220030A0B0C2001FF) ≡ 0x00 ∷ 0x00 ∷ []
  pub set_repeated : config_after defaults (hex 13 0x04180102180103180101180100) ≡ hex 30 0x000800000008010008000000000000000000000000000000000000300801
  pub set_repeated_rsp : set_rsp (hex 13 0x04180102180103180101180100) ≡ hex 4 0x09021818
  pub set_restored : config_after defaults (hex 9 0x032A01FF2A00680180) ≡ hex 30 0x000800000008010008000000000000000000000000000000000000300880
  pub set_restored_rsp : set_rsp (hex 9 0x032A01FF2A00680180) ≡ 0x00 ∷ 0x00 ∷ []
  pub set_rates : config_after defaults (hex 16 0x056801066801076801206801FE6801FF) ≡ hex 30 0x0008000000080100080000000000000000000000000000000000003008FE
  pub set_rates_rsp : set_rsp (hex 16 0x056801066801076801206801FE6801FF) ≡ hex 4 0x09026868
  pub set_none : config_after defaults (0x00 ∷ []) ≡ hex 30 0x000800000008010008000000000000000000000000000000000000300801
  pub set_none_rsp : set_rsp (0x00 ∷ []) ≡ 0x00 ∷ 0x00 ∷ []
  pub set_past : config_after defaults (hex 6 0x01210103FFFF) ≡ hex 30 0x000800000008010008000000000000000000000000000000000300300801
  pub set_past_rsp : set_rsp (hex 6 0x01210103FFFF) ≡ 0x00 ∷ 0x00 ∷ []
  pub set_unknown : config_after defaults (hex 8 0x0312010029000300) ≡ hex 30 0x000800000008010008000000000000000000000000000000000000300801
  pub set_unknown_rsp : set_rsp (hex 8 0x0312010029000300) ≡ hex 5 0x0903122903
  pub get_default : get_rsp defaults (hex 16 0x0F08091011131418191A2021282A2F68) ≡ hex 46 0x000F0801000901081001001101001301001401081801011901001A010820002101002801002A01302F0108680101
  pub get_default_set : get_rsp (hex 30 0x0008000000080100080F0102030405060708090A0B0C0D0E0F0000300801) (hex 16 0x0F08091011131418191A2021282A2F68) ≡ hex 61 0x000F0801000901081001001101001301001401081801011901001A0108200F0102030405060708090A0B0C0D0E0F2101002801002A01302F0108680101
  pub get_repeated : get_rsp defaults (hex 4 0x03200820) ≡ hex 9 0x000320000801002000
  pub get_repeated_set : get_rsp (hex 30 0x0008000000080100080F0102030405060708090A0B0C0D0E0F0000300801) (hex 4 0x03200820) ≡ hex 39 0x0003200F0102030405060708090A0B0C0D0E0F080100200F0102030405060708090A0B0C0D0E0F
  pub get_unavailable : get_rsp defaults (hex 5 0x04081220FF) ≡ hex 6 0x09021200FF00
  pub get_unavailable_set : get_rsp (hex 30 0x0008000000080100080F0102030405060708090A0B0C0D0E0F0000300801) (hex 5 0x04081220FF) ≡ hex 6 0x09021200FF00
  pub get_none : get_rsp defaults (0x00 ∷ []) ≡ 0x00 ∷ 0x00 ∷ []
  pub get_none_set : get_rsp (hex 30 0x0008000000080100080F0102030405060708090A0B0C0D0E0F0000300801) (0x00 ∷ []) ≡ 0x00 ∷ 0x00 ∷ []
  -- 127 times 20, empty
  pub get_long : get_rsp defaults (0x7F ∷ repeated 127 (0x20 ∷ [])) ≡ 0x0A ∷ []
  -- 126 times 20, empty
  pub get_longest : get_rsp defaults (0x7E ∷ repeated 126 (0x20 ∷ [])) ≡ (0x00 ∷ 0x7E ∷ repeated 126 (0x20 ∷ 0x00 ∷ []))
  -- 85 times 08
  pub get_over : get_rsp defaults (0x55 ∷ repeated 85 (0x08 ∷ [])) ≡ 0x0A ∷ []
  -- 127 times 12
  pub get_unavailable_over : get_rsp defaults (0x7F ∷ repeated 127 (0x12 ∷ [])) ≡ 0x0A ∷ []
  pub whole_empty : set_whole ([]) ≡ false
  pub whole_one : set_whole (0x01 ∷ []) ≡ false
  pub whole_head : set_whole (0x01 ∷ 0x08 ∷ []) ≡ false
  pub whole_value : set_whole (hex 3 0x010801) ≡ false
  pub whole_whole : set_whole (hex 4 0x01080100) ≡ true
  pub whole_count : set_whole (hex 4 0x02080100) ≡ false
  pub whole_lenfc : set_whole (hex 4 0x0108FC00) ≡ false
  pub whole_big : set_whole (hex 5 0xFF08000800) ≡ false
  pub whole_zero : set_whole (0x00 ∷ []) ≡ true
  pub whole_more : set_whole (hex 4 0x010800FF) ≡ true
  pub asked_empty : get_whole ([]) ≡ false
  pub asked_none : get_whole (0x00 ∷ []) ≡ true
  pub asked_cut : get_whole (0x02 ∷ 0x08 ∷ []) ≡ false
  pub asked_all : get_whole (hex 3 0x020809) ≡ true
  pub asked_past : get_whole (hex 3 0x010809) ≡ true
  pub row_defaults : parameters_ok (hex 30 0x000800000008010008000000000000000000000000000000000000300801) ≡ true
  pub row_bail : parameters_ok (hex 30 0x020800000008010008000000000000000000000000000000000000300801) ≡ false
  pub row_rate_0 : parameters_ok (hex 30 0x000800000008000008000000000000000000000000000000000000300801) ≡ false
  pub row_rate_2 : parameters_ok (hex 30 0x000800000008020008000000000000000000000000000000000000300801) ≡ true
  pub row_rate_3 : parameters_ok (hex 30 0x000800000008030008000000000000000000000000000000000000300801) ≡ false
  pub row_pi : parameters_ok (hex 30 0x000800000008010008000000000000000000000000000000000400300801) ≡ false
  pub row_pacm_7 : parameters_ok (hex 30 0x000800000008010008000000000000000000000000000000000000300807) ≡ false
  pub row_pacm_fe : parameters_ok (hex 30 0x0008000000080100080000000000000000000000000000000000003008FE) ≡ true
  pub row_pacm_ff : parameters_ok (hex 30 0x0008000000080100080000000000000000000000000000000000003008FF) ≡ false
  pub row_len_16 : parameters_ok (hex 30 0x000800000008010008100000000000000000000000000000000000300801) ≡ false
  pub row_len_200 : parameters_ok (hex 30 0x000800000008010008C80000000000000000000000000000000000300801) ≡ false
  pub row_len_15 : parameters_ok (hex 30 0x0008000000080100080F0100000000000000000000000000090000300801) ≡ true
  pub row_past : parameters_ok (hex 30 0x0008000000080100080E0000000000000000000000000000090000300801) ≡ false
  pub row_limit : parameters_ok (hex 30 0x00FF00000008010008000000000000000000000000000000000000300801) ≡ true
