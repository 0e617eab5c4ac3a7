-- Message types (003, Table 2).
-- Assumes nothing.
use Rattle.std.specs.Prelude.{ℕ}

abbrev pub mt_data : ℕ
mt_data = 0

abbrev pub mt_command : ℕ
mt_command = 1

abbrev pub mt_response : ℕ
mt_response = 2

abbrev pub mt_notification : ℕ
mt_notification = 3

-- from here on RFU
abbrev pub mt_rfu : ℕ
mt_rfu = 4
