-- A first paper, and what it shows: reset, INIT, two loopbacks, messages there and back on a loopback and on connection 0, an activation, a reply and a
-- deactivation, with reports before, between and after. A bench that moves nothing, one that hands out the first message and then swallows, and one whose push
-- pleads no credit at the first key, show something else.
-- Assumes nothing.
use Rattle.std.specs.Prelude.{false, List, [], ◌∷◌}
use Rattle.model.specs.Effects.{Call, command, send, push, down, consume, credit, air, reply, up, report}
use Rattle.octets.specs.Hex.{hex}
use Rattle.opinions.specs.Shown.{Line, line, refusal, done, puts, hands}

abbrev pub paper : List Call
paper =
    command 0 0 (hex 1 0x01)
    ∷ down
    ∷ push 2
    ∷ up
    ∷ up
    ∷ command 0 1 (hex 2 0x0000)
    ∷ down
    ∷ up
    ∷ report 2
    ∷ command 0 4 (hex 2 0x0100)
    ∷ down
    ∷ report 2
    ∷ up
    ∷ report 2
    ∷ command 0 4 (hex 2 0x0100)
    ∷ down
    ∷ up
    ∷ send 2 (hex 9 0x010203040506070809)
    ∷ push 2
    ∷ push 2
    ∷ push 2
    ∷ report 2
    ∷ down
    ∷ down
    ∷ report 2
    ∷ consume 2
    ∷ report 2
    ∷ credit
    ∷ up
    ∷ report 2
    ∷ push 2
    ∷ down
    ∷ consume 2
    ∷ consume 2
    ∷ up
    ∷ up
    ∷ send 2 (hex 1 0x0A)
    ∷ push 2
    ∷ down
    ∷ consume 2
    ∷ up
    ∷ report 2
    ∷ send 3 (hex 2 0xAABB)
    ∷ push 3
    ∷ down
    ∷ consume 3
    ∷ up
    ∷ command 1 3 (hex 2 0x0100)
    ∷ command 1 3 (hex 3 0x010001)
    ∷ down
    ∷ up
    ∷ command 1 3 (hex 3 0x010001)
    ∷ down
    ∷ up
    ∷ air (hex 4 0x02010400)
    ∷ report 0
    ∷ up
    ∷ send 0 (hex 2 0x3000)
    ∷ push 0
    ∷ down
    ∷ consume 0
    ∷ air (hex 5 0x0811223344)
    ∷ reply
    ∷ up
    ∷ send 0 (hex 1 0x31)
    ∷ push 0
    ∷ down
    ∷ consume 0
    ∷ report 0
    ∷ credit
    ∷ up
    ∷ report 0
    ∷ command 1 6 (hex 1 0x00)
    ∷ down
    ∷ up
    ∷ up
    ∷ report 0
    ∷ []

-- a line a call
abbrev pub paper_shows : List Line
paper_shows =
    puts (hex 4 0x20000101)
    ∷ puts (hex 12 0x400001006000050201200000)
    ∷ refusal 6
    ∷ done
    ∷ done
    ∷ puts (hex 5 0x2001020000)
    ∷ puts (hex 19 0x40011000000000000400002000000000010100)
    ∷ done
    ∷ refusal 6
    ∷ puts (hex 5 0x2004020100)
    ∷ puts (hex 7 0x40040400040202)
    ∷ hands (hex 5 0x0000000002)
    ∷ done
    ∷ hands (hex 5 0x0200000000)
    ∷ puts (hex 5 0x2004020100)
    ∷ puts (hex 7 0x40040400040203)
    ∷ done
    ∷ done
    ∷ puts (hex 7 0x12000401020304)
    ∷ puts (hex 7 0x12000405060708)
    ∷ refusal 9
    ∷ hands (hex 5 0x0002000000)
    ∷ done
    ∷ done
    ∷ hands (hex 5 0x0000020000)
    ∷ puts (hex 7 0x12010401020304)
    ∷ hands (hex 5 0x0000010001)
    ∷ refusal 8
    ∷ done
    ∷ hands (hex 5 0x0100010000)
    ∷ puts (hex 4 0x02000109)
    ∷ done
    ∷ puts (hex 7 0x12010405060708)
    ∷ line 0 false (hex 4 0x02010109) ((hex 9 0x010203040506070809) ∷ [])
    ∷ done
    ∷ hands (hex 9 0x010203040506070809)
    ∷ done
    ∷ puts (hex 4 0x0200010A)
    ∷ done
    ∷ line 0 false (hex 4 0x0201010A) ((hex 1 0x0A) ∷ [])
    ∷ hands (hex 1 0x0A)
    ∷ hands (hex 5 0x0200000000)
    ∷ done
    ∷ puts (hex 5 0x030002AABB)
    ∷ done
    ∷ line 0 false (hex 5 0x030102AABB) ((hex 2 0xAABB) ∷ [])
    ∷ hands (hex 2 0xAABB)
    ∷ puts (hex 5 0x2103020100)
    ∷ refusal 5
    ∷ puts (hex 4 0x41030105)
    ∷ done
    ∷ puts (hex 6 0x210303010001)
    ∷ puts (hex 4 0x41030100)
    ∷ done
    ∷ puts (hex 14 0x61050B0101040004010000000000)
    ∷ hands (hex 5 0x0000000001)
    ∷ done
    ∷ done
    ∷ puts (hex 5 0x0000023000)
    ∷ done
    ∷ hands (hex 2 0x3000)
    ∷ done
    ∷ puts (hex 7 0x00010411223344)
    ∷ hands (hex 4 0x11223344)
    ∷ done
    ∷ puts (hex 4 0x00000131)
    ∷ done
    ∷ hands (hex 1 0x31)
    ∷ hands (hex 5 0x0000000100)
    ∷ puts (hex 6 0x600603010001)
    ∷ done
    ∷ hands (hex 5 0x0100000000)
    ∷ puts (hex 4 0x21060100)
    ∷ puts (hex 9 0x410601006106020000)
    ∷ done
    ∷ done
    ∷ refusal 6
    ∷ []
