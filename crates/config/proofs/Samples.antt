-- Every sample is computed.
-- Assumes nothing.
use mathlib.Core.Path.{refl}
use Rattle.octets.specs.Octets.{cut, over, splice}
use Rattle.config.specs.Table.{table, row_at, row_of, all_allowed, acceptable}
use Rattle.config.specs.Stored.{value_in, with_value, restored, zeros, row_ok, rows_ok}
use Rattle.config.specs.Commands.{param_at, set_first, invalid_in, shown_in, unavailable_in, unavailable_count}
use Rattle.config.specs.Samples.{Samples}

pub samples : Samples
unfolding table row_at row_of all_allowed acceptable value_in with_value restored zeros row_ok rows_ok param_at set_first invalid_in shown_in unavailable_in unavailable_count cut over splice
samples =
    record {
      all_restored_law = refl;
      set_two = refl;
      set_two_rsp = refl;
      set_invalid = refl;
      set_invalid_rsp = refl;
      set_lengths = refl;
      set_lengths_rsp = refl;
      set_info = refl;
      set_info_rsp = refl;
      set_shorter = refl;
      set_shorter_rsp = refl;
      set_repeated = refl;
      set_repeated_rsp = refl;
      set_restored = refl;
      set_restored_rsp = refl;
      set_rates = refl;
      set_rates_rsp = refl;
      set_none = refl;
      set_none_rsp = refl;
      set_past = refl;
      set_past_rsp = refl;
      set_unknown = refl;
      set_unknown_rsp = refl;
      get_default = refl;
      get_default_set = refl;
      get_repeated = refl;
      get_repeated_set = refl;
      get_unavailable = refl;
      get_unavailable_set = refl;
      get_none = refl;
      get_none_set = refl;
      get_long = refl;
      get_longest = refl;
      get_over = refl;
      get_unavailable_over = refl;
      whole_empty = refl;
      whole_one = refl;
      whole_head = refl;
      whole_value = refl;
      whole_whole = refl;
      whole_count = refl;
      whole_lenfc = refl;
      whole_big = refl;
      whole_zero = refl;
      whole_more = refl;
      asked_empty = refl;
      asked_none = refl;
      asked_cut = refl;
      asked_all = refl;
      asked_past = refl;
      row_defaults = refl;
      row_bail = refl;
      row_rate_0 = refl;
      row_rate_2 = refl;
      row_rate_3 = refl;
      row_pi = refl;
      row_pacm_7 = refl;
      row_pacm_fe = refl;
      row_pacm_ff = refl;
      row_len_16 = refl;
      row_len_200 = refl;
      row_len_15 = refl;
      row_past = refl;
      row_limit = refl;
    }
