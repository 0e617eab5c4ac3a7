-- The headers of data and of control messages; the boundary flag is each segment's own.
-- Assumes nothing.
use Rattle.std.specs.Prelude.{ℕ, false}
use Rattle.packets.specs.Types.{mt_data}
use Rattle.packets.specs.declared.Header.{Header}

-- data of a connection, that carries n credits: going down always 0
abbrev pub data_header : ℕ → ℕ → Header
data_header c n = record { mt = mt_data; pbf = false; id = c; oid = 0; credits = n; spare = 0 }

abbrev pub control_header : ℕ → ℕ → ℕ → Header
control_header mt gid oid = record { mt = mt; pbf = false; id = gid; oid = oid; credits = 0; spare = 0 }
