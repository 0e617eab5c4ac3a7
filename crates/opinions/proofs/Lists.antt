-- Papers that meet every call and every refusal, with the second implementation's answers.
-- Made by tests/lists.py.
-- Assumes nothing.
use mathlib.Core.Path.{◌≡◌, refl}
use mathlib.Core.Bool.{true, false}
use mathlib.Core.List.{[], ◌∷◌}
use Rattle.octets.specs.Hex.{hex}
use Rattle.model.specs.Effects.{fresh, power, command, send, push, down, consume, credit, air, reply, up, report}
use Rattle.opinions.specs.Shown.{line, refusal, done, puts, hands, ran, start, lines, calls, runs, stroke_lines}

-- Payload 4 and two credits on connection 0: consume returns no packet there, so that a message of three packets waits
-- for a notice; before and after it the five numbers of report come to the grant.
last_credit :
    lines
    (fresh (hex 5 0x2004020402) ∷ command 0 0 (hex 1 0x01) ∷ down ∷ up ∷ up ∷ command 0 1 (hex 2 0x0000) ∷ down ∷ up
    ∷ command 1 3 (hex 3 0x010001) ∷ down ∷ up ∷ air (hex 4 0x02010400) ∷ up ∷ report 0 ∷ credit ∷ push 0
    ∷ send 0 (hex 9 0x010203040506070809) ∷ send 0 (hex 1 0xAA) ∷ push 0 ∷ push 0 ∷ push 0 ∷ report 0 ∷ consume 0 ∷ down
    ∷ report 0 ∷ consume 0 ∷ report 0 ∷ credit ∷ report 0 ∷ push 0 ∷ down ∷ report 0 ∷ up ∷ report 0 ∷ push 0 ∷ push 0
    ∷ down ∷ consume 0 ∷ consume 0 ∷ report 0 ∷ credit ∷ report 0 ∷ up ∷ report 0 ∷ up ∷ credit ∷ [])
    start
    ≡ done ∷ puts (hex 4 0x20000101) ∷ puts (hex 12 0x400001006000050201200000) ∷ done ∷ done
    ∷ puts (hex 5 0x2001020000) ∷ puts (hex 19 0x40011000000000000400002000000000010100) ∷ done
    ∷ puts (hex 6 0x210303010001) ∷ puts (hex 4 0x41030100) ∷ done ∷ puts (hex 14 0x61050B0101040004020000000000) ∷ done
    ∷ hands (hex 5 0x0200000000) ∷ refusal 8 ∷ refusal 8 ∷ done ∷ refusal 7 ∷ puts (hex 7 0x10000401020304)
    ∷ puts (hex 7 0x10000405060708) ∷ refusal 9 ∷ hands (hex 5 0x0002000000) ∷ refusal 8 ∷ done
    ∷ hands (hex 5 0x0001010000) ∷ done ∷ hands (hex 5 0x0001000100) ∷ puts (hex 6 0x600603010001)
    ∷ hands (hex 5 0x0001000001) ∷ refusal 9 ∷ done ∷ hands (hex 5 0x0000010001) ∷ done ∷ hands (hex 5 0x0100010000)
    ∷ puts (hex 4 0x00000109) ∷ refusal 8 ∷ done ∷ done ∷ hands (hex 9 0x010203040506070809)
    ∷ hands (hex 5 0x0000000200) ∷ puts (hex 6 0x600603010002) ∷ hands (hex 5 0x0000000002) ∷ done
    ∷ hands (hex 5 0x0200000000) ∷ refusal 8 ∷ refusal 8 ∷ []
unfolding lines
last_credit = refl

-- An empty message and one of exactly two packets, there and back.
empty_message :
    lines
    (fresh (hex 5 0x2004020401) ∷ command 0 0 (hex 1 0x01) ∷ down ∷ up ∷ up ∷ command 0 1 (hex 2 0x0000) ∷ down ∷ up
    ∷ command 0 4 (hex 2 0x0100) ∷ down ∷ up ∷ send 2 [] ∷ push 2 ∷ down ∷ consume 2 ∷ up
    ∷ send 2 (hex 8 0x0102030405060708) ∷ push 2 ∷ push 2 ∷ push 2 ∷ down ∷ down ∷ consume 2 ∷ consume 2 ∷ up ∷ up
    ∷ report 2 ∷ [])
    start
    ≡ done ∷ puts (hex 4 0x20000101) ∷ puts (hex 12 0x400001006000050201200000) ∷ done ∷ done
    ∷ puts (hex 5 0x2001020000) ∷ puts (hex 19 0x40011000000000000400002000000000010100) ∷ done
    ∷ puts (hex 5 0x2004020100) ∷ puts (hex 7 0x40040400040202) ∷ done ∷ done ∷ puts (hex 3 0x020000) ∷ done
    ∷ line 0 false (hex 3 0x020100) ([] ∷ []) ∷ hands [] ∷ done ∷ puts (hex 7 0x12000401020304)
    ∷ puts (hex 7 0x02000405060708) ∷ refusal 8 ∷ done ∷ done ∷ puts (hex 7 0x12010401020304)
    ∷ line 0 false (hex 7 0x02010405060708) ((hex 8 0x0102030405060708) ∷ []) ∷ done ∷ hands (hex 8 0x0102030405060708)
    ∷ hands (hex 5 0x0200000000) ∷ []
unfolding lines
empty_message = refl

-- Payload 4 and two credits: a message of five packets goes to a loopback and comes back without a notice, since each
-- packet that comes up carries the credit for itself.
credits_in_data :
    lines
    (fresh (hex 5 0x2004020401) ∷ command 0 0 (hex 1 0x01) ∷ down ∷ up ∷ up ∷ command 0 1 (hex 2 0x0000) ∷ down ∷ up
    ∷ command 0 4 (hex 2 0x0100) ∷ down ∷ up ∷ send 2 (hex 17 0x0102030405060708090A0B0C0D0E0F1011) ∷ push 2 ∷ push 2
    ∷ push 2 ∷ report 2 ∷ down ∷ consume 2 ∷ report 2 ∷ credit ∷ push 2 ∷ up ∷ report 2 ∷ push 2 ∷ down ∷ down
    ∷ consume 2 ∷ consume 2 ∷ report 2 ∷ up ∷ up ∷ report 2 ∷ push 2 ∷ push 2 ∷ push 2 ∷ report 2 ∷ down ∷ down
    ∷ consume 2 ∷ consume 2 ∷ report 2 ∷ credit ∷ up ∷ up ∷ report 2 ∷ [])
    start
    ≡ done ∷ puts (hex 4 0x20000101) ∷ puts (hex 12 0x400001006000050201200000) ∷ done ∷ done
    ∷ puts (hex 5 0x2001020000) ∷ puts (hex 19 0x40011000000000000400002000000000010100) ∷ done
    ∷ puts (hex 5 0x2004020100) ∷ puts (hex 7 0x40040400040202) ∷ done ∷ done ∷ puts (hex 7 0x12000401020304)
    ∷ puts (hex 7 0x12000405060708) ∷ refusal 9 ∷ hands (hex 5 0x0002000000) ∷ done ∷ puts (hex 7 0x12010401020304)
    ∷ hands (hex 5 0x0001000001) ∷ refusal 8 ∷ refusal 9 ∷ done ∷ hands (hex 5 0x0101000000)
    ∷ puts (hex 7 0x120004090A0B0C) ∷ done ∷ done ∷ puts (hex 7 0x12010405060708) ∷ puts (hex 7 0x120104090A0B0C)
    ∷ hands (hex 5 0x0000000002) ∷ done ∷ done ∷ hands (hex 5 0x0200000000) ∷ puts (hex 7 0x1200040D0E0F10)
    ∷ puts (hex 4 0x02000111) ∷ refusal 8 ∷ hands (hex 5 0x0002000000) ∷ done ∷ done ∷ puts (hex 7 0x1201040D0E0F10)
    ∷ line 0 false (hex 4 0x02010111) ((hex 17 0x0102030405060708090A0B0C0D0E0F1011) ∷ []) ∷ hands (hex 5 0x0000000002)
    ∷ refusal 8 ∷ done ∷ hands (hex 17 0x0102030405060708090A0B0C0D0E0F1011) ∷ hands (hex 5 0x0200000000) ∷ []
unfolding lines
credits_in_data = refl

-- Five credits are owed on connection 0: the first reply carries three of them, the second the other two, the third
-- none; the host holds them as it reads the replies.
credits_in_replies :
    lines
    (fresh (hex 5 0x2004020105) ∷ command 0 0 (hex 1 0x01) ∷ down ∷ up ∷ up ∷ command 0 1 (hex 2 0x0000) ∷ down ∷ up
    ∷ command 1 3 (hex 3 0x010001) ∷ down ∷ up ∷ air (hex 4 0x02010400) ∷ up ∷ send 0 (hex 5 0x0102030405) ∷ push 0
    ∷ push 0 ∷ push 0 ∷ push 0 ∷ push 0 ∷ report 0 ∷ down ∷ down ∷ down ∷ down ∷ down ∷ consume 0 ∷ consume 0 ∷ report 0
    ∷ consume 0 ∷ consume 0 ∷ consume 0 ∷ report 0 ∷ air (hex 2 0x08A1) ∷ reply ∷ report 0 ∷ air (hex 2 0x08A2) ∷ reply
    ∷ report 0 ∷ air (hex 2 0x08A3) ∷ reply ∷ report 0 ∷ credit ∷ up ∷ report 0 ∷ up ∷ report 0 ∷ up ∷ report 0 ∷ [])
    start
    ≡ done ∷ puts (hex 4 0x20000101) ∷ puts (hex 12 0x400001006000050201200000) ∷ done ∷ done
    ∷ puts (hex 5 0x2001020000) ∷ puts (hex 19 0x40011000000000000400002000000000010100) ∷ done
    ∷ puts (hex 6 0x210303010001) ∷ puts (hex 4 0x41030100) ∷ done ∷ puts (hex 14 0x61050B0101040001050000000000) ∷ done
    ∷ done ∷ puts (hex 4 0x10000101) ∷ puts (hex 4 0x10000102) ∷ puts (hex 4 0x10000103) ∷ puts (hex 4 0x10000104)
    ∷ puts (hex 4 0x00000105) ∷ hands (hex 5 0x0005000000) ∷ done ∷ done ∷ done ∷ done ∷ done ∷ done ∷ done
    ∷ hands (hex 5 0x0000030200) ∷ done ∷ done ∷ hands (hex 5 0x0102030405) ∷ hands (hex 5 0x0000000500) ∷ done
    ∷ puts (hex 4 0x000301A1) ∷ hands (hex 5 0x0000000203) ∷ done ∷ puts (hex 4 0x000201A2) ∷ hands (hex 5 0x0000000005)
    ∷ done ∷ puts (hex 4 0x000001A3) ∷ hands (hex 5 0x0000000005) ∷ refusal 8 ∷ hands (hex 1 0xA1)
    ∷ hands (hex 5 0x0300000002) ∷ hands (hex 1 0xA2) ∷ hands (hex 5 0x0500000000) ∷ hands (hex 1 0xA3)
    ∷ hands (hex 5 0x0500000000) ∷ []
unfolding lines
credits_in_replies = refl

-- Without flow control nothing but the store's eight places holds the host back.
full_store :
    lines
    (fresh (hex 5 0x2001FF01FF) ∷ command 0 0 (hex 1 0x01) ∷ down ∷ up ∷ up ∷ command 0 1 (hex 2 0x0000) ∷ down ∷ up
    ∷ command 0 4 (hex 2 0x0100) ∷ down ∷ up ∷ report 2 ∷ send 2 (hex 10 0x01020304050607080910) ∷ push 2 ∷ down
    ∷ push 2 ∷ down ∷ push 2 ∷ down ∷ push 2 ∷ down ∷ push 2 ∷ down ∷ push 2 ∷ down ∷ push 2 ∷ down ∷ push 2 ∷ down
    ∷ push 2 ∷ down ∷ report 2 ∷ consume 2 ∷ down ∷ up ∷ push 2 ∷ down ∷ consume 2 ∷ credit ∷ report 2 ∷ [])
    start
    ≡ done ∷ puts (hex 4 0x20000101) ∷ puts (hex 12 0x400001006000050201200000) ∷ done ∷ done
    ∷ puts (hex 5 0x2001020000) ∷ puts (hex 19 0x40011000000000000400002000000000010100) ∷ done
    ∷ puts (hex 5 0x2004020100) ∷ puts (hex 7 0x4004040001FF02) ∷ done ∷ hands (hex 5 0xFF00000000) ∷ done
    ∷ puts (hex 4 0x12000101) ∷ done ∷ puts (hex 4 0x12000102) ∷ done ∷ puts (hex 4 0x12000103) ∷ done
    ∷ puts (hex 4 0x12000104) ∷ done ∷ puts (hex 4 0x12000105) ∷ done ∷ puts (hex 4 0x12000106) ∷ done
    ∷ puts (hex 4 0x12000107) ∷ done ∷ puts (hex 4 0x12000108) ∷ done ∷ puts (hex 4 0x12000109) ∷ refusal 12
    ∷ hands (hex 5 0xFF01080000) ∷ puts (hex 4 0x12000101) ∷ done ∷ done ∷ puts (hex 4 0x02000110) ∷ refusal 12
    ∷ puts (hex 4 0x12000102) ∷ refusal 8 ∷ hands (hex 5 0xFF01070000) ∷ []
unfolding lines
full_store = refl

-- Sixteen packets on the way down: neither a seventeenth nor a command has a slot.
full_down_wire :
    lines
    (fresh (hex 5 0x2001FF01FF) ∷ command 0 0 (hex 1 0x01) ∷ down ∷ up ∷ up ∷ command 0 1 (hex 2 0x0000) ∷ down ∷ up
    ∷ command 0 4 (hex 2 0x0100) ∷ down ∷ up ∷ send 2 (hex 17 0x0102030405060708090A0B0C0D0E0F1011) ∷ push 2 ∷ push 2
    ∷ push 2 ∷ push 2 ∷ push 2 ∷ push 2 ∷ push 2 ∷ push 2 ∷ push 2 ∷ push 2 ∷ push 2 ∷ push 2 ∷ push 2 ∷ push 2 ∷ push 2
    ∷ push 2 ∷ push 2 ∷ command 0 5 (hex 1 0xFF) ∷ report 2 ∷ down ∷ push 2 ∷ command 0 5 (hex 1 0xFF) ∷ down
    ∷ command 0 5 (hex 1 0xFF) ∷ push 2 ∷ [])
    start
    ≡ done ∷ puts (hex 4 0x20000101) ∷ puts (hex 12 0x400001006000050201200000) ∷ done ∷ done
    ∷ puts (hex 5 0x2001020000) ∷ puts (hex 19 0x40011000000000000400002000000000010100) ∷ done
    ∷ puts (hex 5 0x2004020100) ∷ puts (hex 7 0x4004040001FF02) ∷ done ∷ done ∷ puts (hex 4 0x12000101)
    ∷ puts (hex 4 0x12000102) ∷ puts (hex 4 0x12000103) ∷ puts (hex 4 0x12000104) ∷ puts (hex 4 0x12000105)
    ∷ puts (hex 4 0x12000106) ∷ puts (hex 4 0x12000107) ∷ puts (hex 4 0x12000108) ∷ puts (hex 4 0x12000109)
    ∷ puts (hex 4 0x1200010A) ∷ puts (hex 4 0x1200010B) ∷ puts (hex 4 0x1200010C) ∷ puts (hex 4 0x1200010D)
    ∷ puts (hex 4 0x1200010E) ∷ puts (hex 4 0x1200010F) ∷ puts (hex 4 0x12000110) ∷ refusal 4 ∷ refusal 4
    ∷ hands (hex 5 0xFF10000000) ∷ done ∷ puts (hex 4 0x02000111) ∷ refusal 4 ∷ done ∷ puts (hex 4 0x200501FF)
    ∷ refusal 4 ∷ []
unfolding lines
full_down_wire = refl

-- Sixteen packets on the way up: what needs a slot there waits, and the last packet of a command needs two.
full_up_wire :
    lines
    (fresh (hex 5 0x2001FF01FF) ∷ command 0 0 (hex 1 0x01) ∷ down ∷ up ∷ up ∷ command 0 1 (hex 2 0x0000) ∷ down ∷ up
    ∷ command 0 4 (hex 2 0x0100) ∷ down ∷ up ∷ send 2 (hex 17 0x0102030405060708090A0B0C0D0E0F1011) ∷ push 2 ∷ down
    ∷ consume 2 ∷ push 2 ∷ down ∷ consume 2 ∷ push 2 ∷ down ∷ consume 2 ∷ push 2 ∷ down ∷ consume 2 ∷ push 2 ∷ down
    ∷ consume 2 ∷ push 2 ∷ down ∷ consume 2 ∷ push 2 ∷ down ∷ consume 2 ∷ push 2 ∷ down ∷ consume 2 ∷ push 2 ∷ down
    ∷ consume 2 ∷ push 2 ∷ down ∷ consume 2 ∷ push 2 ∷ down ∷ consume 2 ∷ push 2 ∷ down ∷ consume 2 ∷ push 2 ∷ down
    ∷ consume 2 ∷ push 2 ∷ down ∷ consume 2 ∷ push 2 ∷ down ∷ consume 2 ∷ push 2 ∷ down ∷ consume 2 ∷ push 2 ∷ down
    ∷ consume 2 ∷ credit ∷ reply ∷ air (hex 1 0x04) ∷ command 0 4 (hex 2 0x0100) ∷ down ∷ report 2 ∷ up ∷ consume 2
    ∷ down ∷ up ∷ up ∷ down ∷ up ∷ [])
    start
    ≡ done ∷ puts (hex 4 0x20000101) ∷ puts (hex 12 0x400001006000050201200000) ∷ done ∷ done
    ∷ puts (hex 5 0x2001020000) ∷ puts (hex 19 0x40011000000000000400002000000000010100) ∷ done
    ∷ puts (hex 5 0x2004020100) ∷ puts (hex 7 0x4004040001FF02) ∷ done ∷ done ∷ puts (hex 4 0x12000101) ∷ done
    ∷ puts (hex 4 0x12000101) ∷ puts (hex 4 0x12000102) ∷ done ∷ puts (hex 4 0x12000102) ∷ puts (hex 4 0x12000103)
    ∷ done ∷ puts (hex 4 0x12000103) ∷ puts (hex 4 0x12000104) ∷ done ∷ puts (hex 4 0x12000104)
    ∷ puts (hex 4 0x12000105) ∷ done ∷ puts (hex 4 0x12000105) ∷ puts (hex 4 0x12000106) ∷ done
    ∷ puts (hex 4 0x12000106) ∷ puts (hex 4 0x12000107) ∷ done ∷ puts (hex 4 0x12000107) ∷ puts (hex 4 0x12000108)
    ∷ done ∷ puts (hex 4 0x12000108) ∷ puts (hex 4 0x12000109) ∷ done ∷ puts (hex 4 0x12000109)
    ∷ puts (hex 4 0x1200010A) ∷ done ∷ puts (hex 4 0x1200010A) ∷ puts (hex 4 0x1200010B) ∷ done
    ∷ puts (hex 4 0x1200010B) ∷ puts (hex 4 0x1200010C) ∷ done ∷ puts (hex 4 0x1200010C) ∷ puts (hex 4 0x1200010D)
    ∷ done ∷ puts (hex 4 0x1200010D) ∷ puts (hex 4 0x1200010E) ∷ done ∷ puts (hex 4 0x1200010E)
    ∷ puts (hex 4 0x1200010F) ∷ done ∷ puts (hex 4 0x1200010F) ∷ puts (hex 4 0x12000110) ∷ done
    ∷ puts (hex 4 0x12000110) ∷ puts (hex 4 0x02000111) ∷ done ∷ refusal 4 ∷ refusal 4 ∷ refusal 4 ∷ refusal 4
    ∷ puts (hex 5 0x2004020100) ∷ refusal 4 ∷ hands (hex 5 0xFF00010000) ∷ done
    ∷ line 0 false (hex 4 0x02000111) ((hex 17 0x0102030405060708090A0B0C0D0E0F1011) ∷ []) ∷ refusal 4 ∷ done ∷ done
    ∷ puts (hex 7 0x4004040001FF03) ∷ done ∷ []
unfolding lines
full_up_wire = refl

-- Two tags are found; one is selected, fails, is selected again, activated, spoken with, put to sleep and released.
tag :
    lines
    (fresh (hex 5 0x2004020401) ∷ command 0 0 (hex 1 0x01) ∷ down ∷ up ∷ up ∷ command 0 1 (hex 2 0x0000) ∷ down ∷ up
    ∷ command 1 3 (hex 5 0x020001020A) ∷ down ∷ up ∷ air (hex 7 0x0101040002AABB) ∷ up ∷ air (hex 5 0x0101040000)
    ∷ air (hex 5 0x0102040000) ∷ up ∷ air (hex 4 0x02010400) ∷ command 1 4 (hex 3 0x030401) ∷ down ∷ up
    ∷ command 1 4 (hex 3 0x010401) ∷ down ∷ up ∷ air (hex 1 0x04) ∷ up ∷ command 1 4 (hex 3 0x010401) ∷ down ∷ up
    ∷ air (hex 5 0x02010400CC) ∷ up ∷ air (hex 5 0x0811223344) ∷ air (hex 1 0x08) ∷ reply ∷ reply ∷ up
    ∷ send 0 (hex 2 0x3000) ∷ push 0 ∷ down ∷ push 0 ∷ consume 0 ∷ report 0 ∷ credit ∷ up ∷ report 0 ∷ air (hex 1 0x05)
    ∷ command 1 6 (hex 1 0x01) ∷ down ∷ up ∷ up ∷ report 0 ∷ command 1 4 (hex 3 0x020401) ∷ down ∷ up
    ∷ air (hex 4 0x02020400) ∷ up ∷ command 1 6 (hex 1 0x00) ∷ down ∷ up ∷ up ∷ air (hex 1 0x04) ∷ [])
    start
    ≡ done ∷ puts (hex 4 0x20000101) ∷ puts (hex 12 0x400001006000050201200000) ∷ done ∷ done
    ∷ puts (hex 5 0x2001020000) ∷ puts (hex 19 0x40011000000000000400002000000000010100) ∷ done
    ∷ puts (hex 8 0x210305020001020A) ∷ puts (hex 4 0x41030100) ∷ done ∷ puts (hex 10 0x61030701040002AABB02) ∷ done
    ∷ refusal 11 ∷ puts (hex 8 0x6103050204000000) ∷ done ∷ refusal 11 ∷ puts (hex 6 0x210403030401)
    ∷ puts (hex 4 0x41040101) ∷ done ∷ puts (hex 6 0x210403010401) ∷ puts (hex 4 0x41040100) ∷ done
    ∷ puts (hex 4 0x600701A1) ∷ done ∷ puts (hex 6 0x210403010401) ∷ puts (hex 4 0x41040100) ∷ done
    ∷ puts (hex 15 0x61050C01010400040101CC00000000) ∷ done ∷ done ∷ refusal 7 ∷ puts (hex 7 0x00000411223344)
    ∷ refusal 8 ∷ hands (hex 4 0x11223344) ∷ done ∷ puts (hex 5 0x0000023000) ∷ done ∷ refusal 8 ∷ hands (hex 2 0x3000)
    ∷ hands (hex 5 0x0000000100) ∷ puts (hex 6 0x600603010001) ∷ done ∷ hands (hex 5 0x0100000000) ∷ refusal 11
    ∷ puts (hex 4 0x21060101) ∷ puts (hex 9 0x410601006106020100) ∷ done ∷ done ∷ refusal 6
    ∷ puts (hex 6 0x210403020401) ∷ puts (hex 4 0x41040100) ∷ done ∷ puts (hex 14 0x61050B0201040004010000000000) ∷ done
    ∷ puts (hex 4 0x21060100) ∷ puts (hex 9 0x410601006106020000) ∷ done ∷ done ∷ refusal 11 ∷ []
unfolding lines
tag = refl

-- The bench listens: no activation over a packet on a wire, no Sleep for NFC-F; a packet that the host sends after the
-- link was lost is dropped.
listener :
    lines
    (fresh (hex 5 0x2004020401) ∷ command 0 0 (hex 1 0x01) ∷ down ∷ up ∷ up ∷ command 0 1 (hex 2 0x0000) ∷ down ∷ up
    ∷ command 1 3 (hex 5 0x0282018001) ∷ down ∷ up ∷ command 0 5 (hex 1 0xFF) ∷ air (hex 4 0x03010482) ∷ down ∷ up
    ∷ air (hex 4 0x03010482) ∷ up ∷ command 1 6 (hex 1 0x01) ∷ down ∷ up ∷ air (hex 1 0x05) ∷ up
    ∷ air (hex 4 0x03020480) ∷ up ∷ send 0 (hex 2 0x0102) ∷ air (hex 1 0x06) ∷ push 0 ∷ down ∷ up
    ∷ air (hex 4 0x03030483) ∷ up ∷ air (hex 3 0x08A1A2) ∷ reply ∷ air (hex 1 0x07) ∷ up ∷ up ∷ air (hex 1 0x07)
    ∷ command 1 6 (hex 1 0x00) ∷ down ∷ up ∷ [])
    start
    ≡ done ∷ puts (hex 4 0x20000101) ∷ puts (hex 12 0x400001006000050201200000) ∷ done ∷ done
    ∷ puts (hex 5 0x2001020000) ∷ puts (hex 19 0x40011000000000000400002000000000010100) ∷ done
    ∷ puts (hex 8 0x2103050282018001) ∷ puts (hex 4 0x41030100) ∷ done ∷ puts (hex 4 0x200501FF) ∷ refusal 14
    ∷ puts (hex 4 0x40050101) ∷ done ∷ puts (hex 14 0x61050B0101048204010082000000) ∷ done ∷ puts (hex 4 0x21060101)
    ∷ puts (hex 4 0x41060101) ∷ done ∷ puts (hex 5 0x6106020101) ∷ done ∷ puts (hex 14 0x61050B0201048004010080000000)
    ∷ done ∷ done ∷ puts (hex 5 0x6106020302) ∷ puts (hex 5 0x0000020102) ∷ line 0 true [] [] ∷ done
    ∷ puts (hex 14 0x61050B0301048304010083000000) ∷ done ∷ done ∷ puts (hex 5 0x000002A1A2) ∷ puts (hex 5 0x6106020301)
    ∷ hands (hex 2 0xA1A2) ∷ done ∷ refusal 11 ∷ puts (hex 4 0x21060100) ∷ puts (hex 4 0x41060100) ∷ done ∷ []
unfolding lines
listener = refl

-- A connection is closed with half a message on its way; its number is not given again at once, and the next holder
-- starts with nothing.
close :
    lines
    (fresh (hex 5 0x2004020401) ∷ command 0 0 (hex 1 0x01) ∷ down ∷ up ∷ up ∷ command 0 1 (hex 2 0x0000) ∷ down ∷ up
    ∷ command 0 4 (hex 2 0x0100) ∷ down ∷ up ∷ command 0 4 (hex 2 0x0100) ∷ down ∷ up ∷ send 2 (hex 6 0x010203040506)
    ∷ push 2 ∷ down ∷ command 0 5 (hex 1 0x02) ∷ push 2 ∷ push 3 ∷ command 0 4 (hex 2 0x0100) ∷ down ∷ report 2
    ∷ send 2 (hex 1 0xAA) ∷ up ∷ report 2 ∷ send 2 (hex 1 0xAA) ∷ consume 2 ∷ push 2 ∷ command 0 4 (hex 2 0x0100) ∷ down
    ∷ up ∷ command 0 4 (hex 2 0x0100) ∷ down ∷ up ∷ command 0 4 (hex 2 0x0100) ∷ down ∷ up ∷ send 2 (hex 1 0xAA)
    ∷ push 2 ∷ down ∷ consume 2 ∷ up ∷ report 2 ∷ command 0 5 (hex 1 0x00) ∷ down ∷ up ∷ [])
    start
    ≡ done ∷ puts (hex 4 0x20000101) ∷ puts (hex 12 0x400001006000050201200000) ∷ done ∷ done
    ∷ puts (hex 5 0x2001020000) ∷ puts (hex 19 0x40011000000000000400002000000000010100) ∷ done
    ∷ puts (hex 5 0x2004020100) ∷ puts (hex 7 0x40040400040202) ∷ done ∷ puts (hex 5 0x2004020100)
    ∷ puts (hex 7 0x40040400040203) ∷ done ∷ done ∷ puts (hex 7 0x12000401020304) ∷ done ∷ puts (hex 4 0x20050102)
    ∷ refusal 10 ∷ refusal 8 ∷ refusal 5 ∷ puts (hex 4 0x40050100) ∷ refusal 6 ∷ refusal 15 ∷ done ∷ refusal 6
    ∷ refusal 6 ∷ refusal 6 ∷ refusal 6 ∷ puts (hex 5 0x2004020100) ∷ puts (hex 7 0x40040400040204) ∷ done
    ∷ puts (hex 5 0x2004020100) ∷ puts (hex 7 0x40040400040205) ∷ done ∷ puts (hex 5 0x2004020100)
    ∷ puts (hex 7 0x40040400040202) ∷ done ∷ done ∷ puts (hex 4 0x020001AA) ∷ done
    ∷ line 0 false (hex 4 0x020101AA) ((hex 1 0xAA) ∷ []) ∷ hands (hex 1 0xAA) ∷ hands (hex 5 0x0200000000)
    ∷ puts (hex 4 0x20050100) ∷ puts (hex 4 0x40050101) ∷ done ∷ []
unfolding lines
close = refl

-- A loopback closes with credits on their way: the host reads them with the packets that came before the response, and
-- cannot spend them any more; the next connection starts with its own.
credits_during_close :
    lines
    (fresh (hex 5 0x2004020401) ∷ command 0 0 (hex 1 0x01) ∷ down ∷ up ∷ up ∷ command 0 1 (hex 2 0x0000) ∷ down ∷ up
    ∷ command 0 4 (hex 2 0x0100) ∷ down ∷ up ∷ send 2 (hex 9 0x010203040506070809) ∷ push 2 ∷ push 2 ∷ push 2 ∷ down
    ∷ down ∷ consume 2 ∷ report 2 ∷ command 0 5 (hex 1 0x02) ∷ consume 2 ∷ report 2 ∷ down ∷ report 2 ∷ consume 2
    ∷ push 2 ∷ up ∷ push 2 ∷ up ∷ push 2 ∷ up ∷ push 2 ∷ credit ∷ command 0 4 (hex 2 0x0100) ∷ down ∷ up ∷ report 3
    ∷ [])
    start
    ≡ done ∷ puts (hex 4 0x20000101) ∷ puts (hex 12 0x400001006000050201200000) ∷ done ∷ done
    ∷ puts (hex 5 0x2001020000) ∷ puts (hex 19 0x40011000000000000400002000000000010100) ∷ done
    ∷ puts (hex 5 0x2004020100) ∷ puts (hex 7 0x40040400040202) ∷ done ∷ done ∷ puts (hex 7 0x12000401020304)
    ∷ puts (hex 7 0x12000405060708) ∷ refusal 9 ∷ done ∷ done ∷ puts (hex 7 0x12010401020304)
    ∷ hands (hex 5 0x0000010001) ∷ puts (hex 4 0x20050102) ∷ puts (hex 7 0x12010405060708) ∷ hands (hex 5 0x0000000002)
    ∷ puts (hex 4 0x40050100) ∷ refusal 6 ∷ refusal 6 ∷ refusal 9 ∷ done ∷ refusal 10 ∷ done ∷ refusal 10 ∷ done
    ∷ refusal 6 ∷ refusal 8 ∷ puts (hex 5 0x2004020100) ∷ puts (hex 7 0x40040400040203) ∷ done
    ∷ hands (hex 5 0x0200000000) ∷ []
unfolding lines
credits_during_close = refl

-- While a close or a reset is under way every send is turned away, on any connection; what the response discards was in
-- hand before the command.
send_during_close :
    lines
    (fresh (hex 5 0x2004020401) ∷ command 0 0 (hex 1 0x01) ∷ down ∷ up ∷ up ∷ command 0 1 (hex 2 0x0000) ∷ down ∷ up
    ∷ command 0 4 (hex 2 0x0100) ∷ down ∷ up ∷ command 0 4 (hex 2 0x0100) ∷ down ∷ up
    ∷ send 2 (hex 9 0x010203040506070809) ∷ push 2 ∷ command 0 5 (hex 1 0x02) ∷ send 2 (hex 1 0xAA)
    ∷ send 3 (hex 1 0xAA) ∷ send 4 (hex 1 0xAA) ∷ send 1 (hex 1 0xAA) ∷ down ∷ down ∷ send 3 (hex 1 0xAA) ∷ up
    ∷ send 2 (hex 1 0xAA) ∷ send 3 (hex 5 0x0102030405) ∷ command 0 0 (hex 1 0x00) ∷ send 3 (hex 1 0xAA)
    ∷ send 2 (hex 1 0xAA) ∷ down ∷ send 3 (hex 1 0xAA) ∷ up ∷ send 3 (hex 1 0xAA) ∷ up ∷ [])
    start
    ≡ done ∷ puts (hex 4 0x20000101) ∷ puts (hex 12 0x400001006000050201200000) ∷ done ∷ done
    ∷ puts (hex 5 0x2001020000) ∷ puts (hex 19 0x40011000000000000400002000000000010100) ∷ done
    ∷ puts (hex 5 0x2004020100) ∷ puts (hex 7 0x40040400040202) ∷ done ∷ puts (hex 5 0x2004020100)
    ∷ puts (hex 7 0x40040400040203) ∷ done ∷ done ∷ puts (hex 7 0x12000401020304) ∷ puts (hex 4 0x20050102) ∷ refusal 15
    ∷ refusal 15 ∷ refusal 15 ∷ refusal 3 ∷ done ∷ puts (hex 4 0x40050100) ∷ refusal 15 ∷ done ∷ refusal 6 ∷ done
    ∷ puts (hex 4 0x20000100) ∷ refusal 15 ∷ refusal 15 ∷ puts (hex 12 0x400001006000050200200000) ∷ refusal 15 ∷ done
    ∷ refusal 6 ∷ done ∷ []
unfolding lines
send_during_close = refl

-- A close and a reset that are refused turn sends away too, until their answers are read, and discard nothing; another
-- command turns none away.
send_during_refused_close :
    lines
    (fresh (hex 5 0x2004020401) ∷ command 0 0 (hex 1 0x01) ∷ down ∷ up ∷ up ∷ command 0 1 (hex 2 0x0000) ∷ down ∷ up
    ∷ command 0 4 (hex 2 0x0100) ∷ down ∷ up ∷ send 2 (hex 5 0x0102030405) ∷ push 2 ∷ command 0 5 (hex 1 0x05)
    ∷ send 2 (hex 1 0xAA) ∷ send 5 (hex 1 0xAA) ∷ down ∷ down ∷ send 2 (hex 1 0xAA) ∷ up ∷ send 2 (hex 1 0xAA) ∷ push 2
    ∷ down ∷ send 2 (hex 1 0xAA) ∷ command 0 0 (hex 1 0x07) ∷ send 2 (hex 1 0xBB) ∷ down ∷ send 5 (hex 1 0xBB) ∷ up
    ∷ send 2 (hex 1 0xBB) ∷ command 0 1 (hex 2 0x0000) ∷ send 2 (hex 1 0xBB) ∷ send 5 (hex 1 0xBB) ∷ [])
    start
    ≡ done ∷ puts (hex 4 0x20000101) ∷ puts (hex 12 0x400001006000050201200000) ∷ done ∷ done
    ∷ puts (hex 5 0x2001020000) ∷ puts (hex 19 0x40011000000000000400002000000000010100) ∷ done
    ∷ puts (hex 5 0x2004020100) ∷ puts (hex 7 0x40040400040202) ∷ done ∷ done ∷ puts (hex 7 0x12000401020304)
    ∷ puts (hex 4 0x20050105) ∷ refusal 15 ∷ refusal 15 ∷ done ∷ puts (hex 4 0x40050101) ∷ refusal 15 ∷ done ∷ refusal 7
    ∷ puts (hex 4 0x02000105) ∷ done ∷ done ∷ puts (hex 4 0x20000107) ∷ refusal 15 ∷ puts (hex 4 0x40000105)
    ∷ refusal 15 ∷ done ∷ refusal 7 ∷ puts (hex 5 0x2001020000) ∷ refusal 7 ∷ refusal 6 ∷ []
unfolding lines
send_during_refused_close = refl

-- A reset in the middle of traffic, and the power key.
reset_and_power :
    lines
    (fresh (hex 5 0x2004020401) ∷ command 0 0 (hex 1 0x01) ∷ down ∷ up ∷ up ∷ command 0 1 (hex 2 0x0000) ∷ down ∷ up
    ∷ command 0 4 (hex 2 0x0100) ∷ down ∷ up ∷ send 2 (hex 5 0x0102030405) ∷ push 2 ∷ down ∷ command 0 0 (hex 1 0x00)
    ∷ push 2 ∷ down ∷ consume 2 ∷ report 2 ∷ up ∷ up ∷ push 2 ∷ command 0 1 (hex 2 0x0000) ∷ down ∷ up
    ∷ command 0 4 (hex 2 0x0100) ∷ down ∷ up ∷ send 2 (hex 1 0xAA) ∷ push 2 ∷ power ∷ down ∷ up ∷ report 2 ∷ push 2
    ∷ command 0 0 (hex 1 0x01) ∷ down ∷ up ∷ up ∷ command 0 1 (hex 2 0x0000) ∷ down ∷ up ∷ report 2
    ∷ command 0 4 (hex 2 0x0100) ∷ down ∷ up ∷ report 2 ∷ [])
    start
    ≡ done ∷ puts (hex 4 0x20000101) ∷ puts (hex 12 0x400001006000050201200000) ∷ done ∷ done
    ∷ puts (hex 5 0x2001020000) ∷ puts (hex 19 0x40011000000000000400002000000000010100) ∷ done
    ∷ puts (hex 5 0x2004020100) ∷ puts (hex 7 0x40040400040202) ∷ done ∷ done ∷ puts (hex 7 0x12000401020304) ∷ done
    ∷ puts (hex 4 0x20000100) ∷ refusal 10 ∷ puts (hex 12 0x400001006000050200200000) ∷ refusal 6 ∷ refusal 6 ∷ done
    ∷ done ∷ refusal 6 ∷ puts (hex 5 0x2001020000) ∷ puts (hex 19 0x40011000000000000400002000000000010100) ∷ done
    ∷ puts (hex 5 0x2004020100) ∷ puts (hex 7 0x40040400040202) ∷ done ∷ done ∷ puts (hex 4 0x020001AA) ∷ done
    ∷ refusal 8 ∷ refusal 8 ∷ refusal 6 ∷ refusal 6 ∷ puts (hex 4 0x20000101) ∷ puts (hex 12 0x400001006000050201200000)
    ∷ done ∷ done ∷ puts (hex 5 0x2001020000) ∷ puts (hex 19 0x40011000000000000400002000000000010100) ∷ done
    ∷ refusal 6 ∷ puts (hex 5 0x2004020100) ∷ puts (hex 7 0x40040400040202) ∷ done ∷ hands (hex 5 0x0200000000) ∷ []
unfolding lines
reset_and_power = refl

-- Arguments outside their limits, and commands that are unknown, too short or too early.
limits :
    lines
    (fresh (hex 5 0x2004020401) ∷ fresh (hex 5 0x1F04020401) ∷ fresh (hex 5 0x2004090401) ∷ command 16 0 (hex 1 0x00)
    ∷ command 0 64 (hex 1 0x00) ∷ send 1 (hex 1 0x01) ∷ push 6 ∷ consume 1 ∷ report 255 ∷ air (hex 1 0x00)
    ∷ air (hex 5 0x0200040000) ∷ send 2 (hex 1 0x01) ∷ push 2 ∷ consume 2 ∷ report 2 ∷ down ∷ up ∷ reply ∷ credit
    ∷ command 0 63 [] ∷ command 0 0 [] ∷ down ∷ up ∷ command 0 0 [] ∷ down ∷ up ∷ command 0 0 (hex 1 0x02) ∷ down ∷ up
    ∷ command 0 4 (hex 2 0x0100) ∷ down ∷ up ∷ command 0 1 (hex 1 0x01) ∷ down ∷ up ∷ command 0 0 (hex 1 0x00) ∷ down
    ∷ up ∷ up ∷ command 0 1 (hex 2 0x0000) ∷ down ∷ up ∷ air (hex 1 0x09) ∷ air (hex 1 0x08) ∷ air (hex 5 0x0101040003)
    ∷ air (hex 5 0x0101040002) ∷ [])
    start
    ≡ done ∷ refusal 3 ∷ refusal 3 ∷ refusal 3 ∷ refusal 3 ∷ refusal 3 ∷ refusal 3 ∷ refusal 3 ∷ refusal 3 ∷ refusal 3
    ∷ refusal 3 ∷ refusal 6 ∷ refusal 6 ∷ refusal 6 ∷ refusal 6 ∷ refusal 8 ∷ refusal 8 ∷ refusal 8 ∷ refusal 8
    ∷ puts (hex 3 0x203F00) ∷ refusal 5 ∷ puts (hex 4 0x403F0105) ∷ done ∷ puts (hex 3 0x200000)
    ∷ puts (hex 4 0x40000105) ∷ done ∷ puts (hex 4 0x20000102) ∷ puts (hex 4 0x40000105) ∷ done
    ∷ puts (hex 5 0x2004020100) ∷ puts (hex 4 0x40040106) ∷ done ∷ puts (hex 4 0x20010101) ∷ puts (hex 4 0x40010105)
    ∷ done ∷ puts (hex 4 0x20000100) ∷ puts (hex 12 0x400001006000050200200000) ∷ done ∷ done
    ∷ puts (hex 5 0x2001020000) ∷ puts (hex 19 0x40011000000000000400002000000000010100) ∷ done ∷ refusal 3 ∷ refusal 11
    ∷ refusal 3 ∷ refusal 11 ∷ []
unfolding lines
limits = refl

-- Connection 2 has packets of one octet and one credit, connection 3 packets of 255 and eight credits: the one waits
-- for every credit while the other goes on, and the five numbers of each come to its own grant.
tight_and_loose :
    lines
    (fresh (hex 11 0x200101FF08040204020401) ∷ command 0 0 (hex 1 0x01) ∷ down ∷ up ∷ up ∷ command 0 1 (hex 2 0x0000)
    ∷ down ∷ up ∷ command 0 4 (hex 2 0x0100) ∷ down ∷ up ∷ report 2 ∷ command 0 4 (hex 2 0x0100) ∷ down ∷ up ∷ report 3
    ∷ send 2 (hex 2 0x0102) ∷ send 3 (hex 10 0x0102030405060708090A) ∷ push 2 ∷ push 2 ∷ report 2 ∷ push 3 ∷ report 3
    ∷ send 3 (hex 2 0xAABB) ∷ push 3 ∷ push 2 ∷ report 3 ∷ down ∷ report 2 ∷ consume 2 ∷ report 2 ∷ push 2 ∷ down ∷ down
    ∷ report 3 ∷ consume 3 ∷ report 3 ∷ consume 3 ∷ up ∷ report 2 ∷ push 2 ∷ up ∷ up ∷ report 3 ∷ push 3 ∷ down
    ∷ consume 2 ∷ up ∷ report 2 ∷ credit ∷ [])
    start
    ≡ done ∷ puts (hex 4 0x20000101) ∷ puts (hex 12 0x400001006000050201200000) ∷ done ∷ done
    ∷ puts (hex 5 0x2001020000) ∷ puts (hex 19 0x40011000000000000400002000000000010100) ∷ done
    ∷ puts (hex 5 0x2004020100) ∷ puts (hex 7 0x40040400010102) ∷ done ∷ hands (hex 5 0x0100000000)
    ∷ puts (hex 5 0x2004020100) ∷ puts (hex 7 0x40040400FF0803) ∷ done ∷ hands (hex 5 0x0800000000) ∷ done ∷ done
    ∷ puts (hex 4 0x12000101) ∷ refusal 9 ∷ hands (hex 5 0x0001000000) ∷ puts (hex 13 0x03000A0102030405060708090A)
    ∷ hands (hex 5 0x0701000000) ∷ done ∷ puts (hex 5 0x030002AABB) ∷ refusal 9 ∷ hands (hex 5 0x0602000000) ∷ done
    ∷ hands (hex 5 0x0000010000) ∷ puts (hex 4 0x12010101) ∷ hands (hex 5 0x0000000001) ∷ refusal 9 ∷ done ∷ done
    ∷ hands (hex 5 0x0600020000)
    ∷ line 0 false (hex 13 0x03010A0102030405060708090A) ((hex 10 0x0102030405060708090A) ∷ [])
    ∷ hands (hex 5 0x0600010001) ∷ line 0 false (hex 5 0x030102AABB) ((hex 2 0xAABB) ∷ []) ∷ done
    ∷ hands (hex 5 0x0100000000) ∷ puts (hex 4 0x02000102) ∷ hands (hex 10 0x0102030405060708090A)
    ∷ hands (hex 2 0xAABB) ∷ hands (hex 5 0x0800000000) ∷ refusal 8 ∷ done
    ∷ line 0 false (hex 4 0x02010102) ((hex 2 0x0102) ∷ []) ∷ hands (hex 2 0x0102) ∷ hands (hex 5 0x0100000000)
    ∷ refusal 8 ∷ []
unfolding lines
tight_and_loose = refl

-- A profile is refused for a pair outside its limits, whichever ID it is for. Each of 2 to 5 opens with the pair of its
-- own ID, and again with it when the ID is given again; the last pair is that of connection 0.
own_pairs :
    lines
    (fresh (hex 11 0x2004000402040204020401) ∷ fresh (hex 11 0x2004020409040204020401)
    ∷ fresh (hex 11 0x2004020402000204020401) ∷ fresh (hex 11 0x2004020402040204FE0401)
    ∷ fresh (hex 11 0x2004020402040204020001) ∷ fresh (hex 11 0x200101FF08640208FF0303) ∷ command 0 0 (hex 1 0x01)
    ∷ down ∷ up ∷ up ∷ command 0 1 (hex 2 0x0000) ∷ down ∷ up ∷ command 0 4 (hex 2 0x0100) ∷ down ∷ up ∷ report 2
    ∷ command 0 4 (hex 2 0x0100) ∷ down ∷ up ∷ report 3 ∷ command 0 4 (hex 2 0x0100) ∷ down ∷ up ∷ report 4
    ∷ command 0 4 (hex 2 0x0100) ∷ down ∷ up ∷ report 5 ∷ command 0 5 (hex 1 0x04) ∷ down ∷ up
    ∷ command 0 4 (hex 2 0x0100) ∷ down ∷ up ∷ report 4 ∷ command 1 3 (hex 3 0x010001) ∷ down ∷ up
    ∷ air (hex 4 0x02010400) ∷ report 0 ∷ up ∷ report 0 ∷ [])
    start
    ≡ refusal 3 ∷ refusal 3 ∷ refusal 3 ∷ refusal 3 ∷ refusal 3 ∷ done ∷ puts (hex 4 0x20000101)
    ∷ puts (hex 12 0x400001006000050201200000) ∷ done ∷ done ∷ puts (hex 5 0x2001020000)
    ∷ puts (hex 19 0x40011000000000000400002000000000010100) ∷ done ∷ puts (hex 5 0x2004020100)
    ∷ puts (hex 7 0x40040400010102) ∷ done ∷ hands (hex 5 0x0100000000) ∷ puts (hex 5 0x2004020100)
    ∷ puts (hex 7 0x40040400FF0803) ∷ done ∷ hands (hex 5 0x0800000000) ∷ puts (hex 5 0x2004020100)
    ∷ puts (hex 7 0x40040400640204) ∷ done ∷ hands (hex 5 0x0200000000) ∷ puts (hex 5 0x2004020100)
    ∷ puts (hex 7 0x4004040008FF05) ∷ done ∷ hands (hex 5 0xFF00000000) ∷ puts (hex 4 0x20050104)
    ∷ puts (hex 4 0x40050100) ∷ done ∷ puts (hex 5 0x2004020100) ∷ puts (hex 7 0x40040400640204) ∷ done
    ∷ hands (hex 5 0x0200000000) ∷ puts (hex 6 0x210303010001) ∷ puts (hex 4 0x41030100) ∷ done
    ∷ puts (hex 14 0x61050B0101040003030000000000) ∷ hands (hex 5 0x0000000003) ∷ done ∷ hands (hex 5 0x0300000000) ∷ []
unfolding lines
own_pairs = refl

-- Sets and gets: before INIT, of every parameter, in two segments, with invalid, unknown and repeated ones, without
-- octets, cut short and with octets to spare; a response that would pass 255 octets. The numbers of report stay.
set_and_get :
    lines
    (fresh (hex 5 0x2004020401) ∷ command 0 2 (hex 3 0x010801) ∷ down ∷ up ∷ command 0 2 (hex 4 0x01080101) ∷ down ∷ up
    ∷ command 0 3 (hex 2 0x0108) ∷ down ∷ up ∷ command 0 0 (hex 1 0x01) ∷ down ∷ up ∷ up ∷ command 0 1 (hex 2 0x0000)
    ∷ down ∷ up ∷ command 0 3 (hex 16 0x0F08091011131418191A2021282A2F68) ∷ down ∷ up ∷ command 0 4 (hex 2 0x0100)
    ∷ down ∷ up ∷ send 2 (hex 5 0x0102030405) ∷ push 2 ∷ down ∷ report 2
    ∷ command 0 2 (hex 14 0x040801012002ABCD180103120100) ∷ down ∷ up ∷ command 0 3 (hex 4 0x03200818) ∷ down ∷ up
    ∷ command 0 2 (hex 48 0x0F08010109010310015A1101011301E01401001801021901011A01FF20030102032101032801012A01CF2F01096801FE)
    ∷ down ∷ down ∷ up ∷ command 0 3 (hex 16 0x0F08091011131418191A2021282A2F68) ∷ down ∷ up ∷ report 2
    ∷ command 0 2 (hex 13 0x042F01042F0205052F01062F00) ∷ down ∷ up ∷ command 0 3 (hex 2 0x012F) ∷ down ∷ up
    ∷ command 0 2 (hex 7 0x022F0107680107) ∷ down ∷ up ∷ command 0 3 (hex 4 0x032F682F) ∷ down ∷ up
    ∷ command 0 2 (hex 5 0x0220000800) ∷ down ∷ up ∷ command 0 3 (hex 3 0x022008) ∷ down ∷ up
    ∷ command 0 2 (hex 4 0x00080101) ∷ down ∷ up ∷ command 0 3 (hex 1 0x00) ∷ down ∷ up
    ∷ command 0 2 (hex 5 0x0108010108) ∷ down ∷ up ∷ command 0 2 (hex 5 0x0209010409) ∷ down ∷ up
    ∷ command 0 3 (hex 3 0x030809) ∷ down ∷ up ∷ command 0 2 [] ∷ down ∷ up ∷ command 0 3 (hex 3 0x020809) ∷ down ∷ up
    ∷ command 0 3 (hex 5 0x0412080312) ∷ down ∷ up ∷ command 0 2 (hex 18 0x01200FA0A1A2A3A4A5A6A7A8A9AAABACADAE) ∷ down
    ∷ up ∷ command 0 3 (hex 16 0x0F202020202020202020202020202020) ∷ down ∷ up ∷ command 0 3 (hex 2 0x0120) ∷ down ∷ up
    ∷ consume 2 ∷ up ∷ report 2 ∷ [])
    start
    ≡ done ∷ puts (hex 6 0x200203010801) ∷ puts (hex 4 0x40020105) ∷ done ∷ puts (hex 7 0x20020401080101)
    ∷ puts (hex 4 0x40020106) ∷ done ∷ puts (hex 5 0x2003020108) ∷ puts (hex 4 0x40030106) ∷ done
    ∷ puts (hex 4 0x20000101) ∷ puts (hex 12 0x400001006000050201200000) ∷ done ∷ done ∷ puts (hex 5 0x2001020000)
    ∷ puts (hex 19 0x40011000000000000400002000000000010100) ∷ done
    ∷ puts (hex 19 0x2003100F08091011131418191A2021282A2F68)
    ∷ puts (hex 49 0x40032E000F0801000901081001001101001301001401081801011901001A010820002101002801002A01302F0108680101)
    ∷ done ∷ puts (hex 5 0x2004020100) ∷ puts (hex 7 0x40040400040202) ∷ done ∷ done ∷ puts (hex 7 0x12000401020304)
    ∷ done ∷ hands (hex 5 0x0100010000) ∷ puts (hex 17 0x20020E040801012002ABCD180103120100)
    ∷ puts (hex 7 0x40020409021812) ∷ done ∷ puts (hex 7 0x20030403200818)
    ∷ puts (hex 15 0x40030C00032002ABCD080101180101) ∷ done
    ∷ puts (hex 54 0x3002200F08010109010310015A1101011301E01401001801021901011A01FF20030102200210032101032801012A01CF2F01096801FE)
    ∷ done ∷ puts (hex 5 0x4002020000) ∷ done ∷ puts (hex 19 0x2003100F08091011131418191A2021282A2F68)
    ∷ puts (hex 52 0x400331000F08010109010310015A1101011301E01401001801021901011A01FF20030102032101032801012A01CF2F01096801FE)
    ∷ done ∷ hands (hex 5 0x0100010000) ∷ puts (hex 16 0x20020D042F01042F0205052F01062F00) ∷ puts (hex 6 0x40020309012F)
    ∷ done ∷ puts (hex 5 0x200302012F) ∷ puts (hex 8 0x40030500012F0108) ∷ done ∷ puts (hex 10 0x200207022F0107680107)
    ∷ puts (hex 6 0x400203090168) ∷ done ∷ puts (hex 7 0x200304032F682F) ∷ puts (hex 14 0x40030B00032F01076801FE2F0107)
    ∷ done ∷ puts (hex 8 0x2002050220000800) ∷ puts (hex 5 0x4002020000) ∷ done ∷ puts (hex 6 0x200303022008)
    ∷ puts (hex 10 0x40030700022000080100) ∷ done ∷ puts (hex 7 0x20020400080101) ∷ puts (hex 5 0x4002020000) ∷ done
    ∷ puts (hex 4 0x20030100) ∷ puts (hex 5 0x4003020000) ∷ done ∷ puts (hex 8 0x2002050108010108)
    ∷ puts (hex 5 0x4002020000) ∷ done ∷ puts (hex 8 0x2002050209010409) ∷ puts (hex 4 0x40020105) ∷ done
    ∷ puts (hex 6 0x200303030809) ∷ puts (hex 4 0x40030105) ∷ done ∷ puts (hex 3 0x200200) ∷ puts (hex 4 0x40020105)
    ∷ done ∷ puts (hex 6 0x200303020809) ∷ puts (hex 11 0x4003080002080101090103) ∷ done
    ∷ puts (hex 8 0x2003050412080312) ∷ puts (hex 11 0x4003080903120003001200) ∷ done
    ∷ puts (hex 21 0x20021201200FA0A1A2A3A4A5A6A7A8A9AAABACADAE) ∷ puts (hex 5 0x4002020000) ∷ done
    ∷ puts (hex 19 0x2003100F202020202020202020202020202020) ∷ puts (hex 4 0x4003010A) ∷ done
    ∷ puts (hex 5 0x2003020120) ∷ puts (hex 22 0x4003130001200FA0A1A2A3A4A5A6A7A8A9AAABACADAE) ∷ done
    ∷ puts (hex 7 0x12010401020304) ∷ done ∷ hands (hex 5 0x0200000000) ∷ []
unfolding lines
set_and_get = refl

-- A set that names a parameter is refused elsewhere than in IDLE, a get is not; a reset of type 0 keeps the values, one
-- of type 1, power and fresh restore the defaults.
values_kept :
    lines
    (fresh (hex 5 0x2004020401) ∷ command 0 0 (hex 1 0x01) ∷ down ∷ up ∷ up ∷ command 0 1 (hex 2 0x0000) ∷ down ∷ up
    ∷ command 0 2 (hex 11 0x030901032002ABCD680120) ∷ down ∷ up ∷ command 0 3 (hex 4 0x03682009) ∷ down ∷ up
    ∷ command 1 3 (hex 3 0x010001) ∷ down ∷ up ∷ command 0 2 (hex 4 0x01090105) ∷ down ∷ up
    ∷ command 0 2 (hex 4 0x01120100) ∷ down ∷ up ∷ command 0 2 (hex 5 0x0212000900) ∷ down ∷ up
    ∷ command 0 3 (hex 3 0x020912) ∷ down ∷ up ∷ command 0 3 (hex 3 0x020918) ∷ down ∷ up ∷ air (hex 4 0x02010400) ∷ up
    ∷ report 0 ∷ command 0 2 (hex 4 0x01090105) ∷ down ∷ up ∷ command 0 2 (hex 1 0x00) ∷ down ∷ up
    ∷ command 0 3 (hex 2 0x0109) ∷ down ∷ up ∷ report 0 ∷ command 1 6 (hex 1 0x00) ∷ down ∷ up ∷ up
    ∷ command 0 2 (hex 4 0x01090105) ∷ down ∷ up ∷ command 0 3 (hex 2 0x0109) ∷ down ∷ up ∷ command 0 0 (hex 1 0x00)
    ∷ down ∷ up ∷ up ∷ command 0 1 (hex 2 0x0000) ∷ down ∷ up ∷ command 0 3 (hex 16 0x0F08091011131418191A2021282A2F68)
    ∷ down ∷ up ∷ command 0 0 (hex 1 0x02) ∷ down ∷ up ∷ command 0 3 (hex 2 0x0109) ∷ down ∷ up
    ∷ command 0 0 (hex 1 0x01) ∷ down ∷ up ∷ up ∷ command 0 1 (hex 2 0x0000) ∷ down ∷ up
    ∷ command 0 3 (hex 16 0x0F08091011131418191A2021282A2F68) ∷ down ∷ up ∷ command 0 2 (hex 4 0x01180102) ∷ down ∷ up
    ∷ command 0 3 (hex 2 0x0118) ∷ down ∷ up ∷ power ∷ command 0 0 (hex 1 0x00) ∷ down ∷ up ∷ up
    ∷ command 0 1 (hex 2 0x0000) ∷ down ∷ up ∷ command 0 3 (hex 2 0x0118) ∷ down ∷ up ∷ command 0 2 (hex 4 0x01180102)
    ∷ down ∷ up ∷ fresh (hex 5 0x2004020401) ∷ command 0 0 (hex 1 0x00) ∷ down ∷ up ∷ up ∷ command 0 1 (hex 2 0x0000)
    ∷ down ∷ up ∷ command 0 3 (hex 2 0x0118) ∷ down ∷ up ∷ [])
    start
    ≡ done ∷ puts (hex 4 0x20000101) ∷ puts (hex 12 0x400001006000050201200000) ∷ done ∷ done
    ∷ puts (hex 5 0x2001020000) ∷ puts (hex 19 0x40011000000000000400002000000000010100) ∷ done
    ∷ puts (hex 14 0x20020B030901032002ABCD680120) ∷ puts (hex 5 0x4002020000) ∷ done ∷ puts (hex 7 0x20030403682009)
    ∷ puts (hex 15 0x40030C00036801202002ABCD090103) ∷ done ∷ puts (hex 6 0x210303010001) ∷ puts (hex 4 0x41030100)
    ∷ done ∷ puts (hex 7 0x20020401090105) ∷ puts (hex 4 0x40020106) ∷ done ∷ puts (hex 7 0x20020401120100)
    ∷ puts (hex 6 0x400203090112) ∷ done ∷ puts (hex 8 0x2002050212000900) ∷ puts (hex 4 0x40020106) ∷ done
    ∷ puts (hex 6 0x200303020912) ∷ puts (hex 7 0x40030409011200) ∷ done ∷ puts (hex 6 0x200303020918)
    ∷ puts (hex 11 0x4003080002090103180101) ∷ done ∷ puts (hex 14 0x61050B0101040004010000000000) ∷ done
    ∷ hands (hex 5 0x0100000000) ∷ puts (hex 7 0x20020401090105) ∷ puts (hex 4 0x40020106) ∷ done
    ∷ puts (hex 4 0x20020100) ∷ puts (hex 5 0x4002020000) ∷ done ∷ puts (hex 5 0x2003020109)
    ∷ puts (hex 8 0x4003050001090103) ∷ done ∷ hands (hex 5 0x0100000000) ∷ puts (hex 4 0x21060100)
    ∷ puts (hex 9 0x410601006106020000) ∷ done ∷ done ∷ puts (hex 7 0x20020401090105) ∷ puts (hex 5 0x4002020000) ∷ done
    ∷ puts (hex 5 0x2003020109) ∷ puts (hex 8 0x4003050001090105) ∷ done ∷ puts (hex 4 0x20000100)
    ∷ puts (hex 12 0x400001006000050200200000) ∷ done ∷ done ∷ puts (hex 5 0x2001020000)
    ∷ puts (hex 19 0x40011000000000000400002000000000010100) ∷ done
    ∷ puts (hex 19 0x2003100F08091011131418191A2021282A2F68)
    ∷ puts (hex 51 0x400330000F0801000901051001001101001301001401081801011901001A01082002ABCD2101002801002A01302F0108680120)
    ∷ done ∷ puts (hex 4 0x20000102) ∷ puts (hex 4 0x40000105) ∷ done ∷ puts (hex 5 0x2003020109)
    ∷ puts (hex 8 0x4003050001090105) ∷ done ∷ puts (hex 4 0x20000101) ∷ puts (hex 12 0x400001006000050201200000) ∷ done
    ∷ done ∷ puts (hex 5 0x2001020000) ∷ puts (hex 19 0x40011000000000000400002000000000010100) ∷ done
    ∷ puts (hex 19 0x2003100F08091011131418191A2021282A2F68)
    ∷ puts (hex 49 0x40032E000F0801000901081001001101001301001401081801011901001A010820002101002801002A01302F0108680101)
    ∷ done ∷ puts (hex 7 0x20020401180102) ∷ puts (hex 5 0x4002020000) ∷ done ∷ puts (hex 5 0x2003020118)
    ∷ puts (hex 8 0x4003050001180102) ∷ done ∷ done ∷ puts (hex 4 0x20000100) ∷ puts (hex 12 0x400001006000050200200000)
    ∷ done ∷ done ∷ puts (hex 5 0x2001020000) ∷ puts (hex 19 0x40011000000000000400002000000000010100) ∷ done
    ∷ puts (hex 5 0x2003020118) ∷ puts (hex 8 0x4003050001180101) ∷ done ∷ puts (hex 7 0x20020401180102)
    ∷ puts (hex 5 0x4002020000) ∷ done ∷ done ∷ puts (hex 4 0x20000100) ∷ puts (hex 12 0x400001006000050200200000)
    ∷ done ∷ done ∷ puts (hex 5 0x2001020000) ∷ puts (hex 19 0x40011000000000000400002000000000010100) ∷ done
    ∷ puts (hex 5 0x2003020118) ∷ puts (hex 8 0x4003050001180101) ∷ done ∷ []
unfolding lines
values_kept = refl

-- Two credits on each connection, and presses of Run to rest: commands to their ends, messages there and back on two
-- loopbacks and on connection 0, with a notice of credits there, and a reply that waits for what the host sends. A
-- press ends with a message that is handed out, and some make no move; one drops what was under way when the field went
-- off.
run_to_rest :
    stroke_lines
    (calls (fresh (hex 5 0x2004020402)) ∷ runs ∷ calls (command 0 0 (hex 1 0x01)) ∷ runs
    ∷ calls (command 0 1 (hex 2 0x0000)) ∷ runs ∷ calls (command 0 4 (hex 2 0x0100)) ∷ runs
    ∷ calls (send 2 (hex 9 0x010203040506070809)) ∷ runs ∷ calls (report 2) ∷ runs ∷ runs ∷ calls (report 2)
    ∷ calls (command 0 4 (hex 2 0x0100)) ∷ calls (command 1 3 (hex 5 0x0200018001)) ∷ calls down ∷ runs
    ∷ calls (command 1 3 (hex 5 0x0200018001)) ∷ runs ∷ calls (air (hex 4 0x03010480)) ∷ runs
    ∷ calls (send 0 (hex 9 0xA1A2A3A4A5A6A7A8A9)) ∷ runs ∷ calls (report 0) ∷ runs ∷ calls (report 0)
    ∷ calls (air (hex 6 0x08B1B2B3B4B5)) ∷ calls (send 2 []) ∷ calls (send 3 (hex 5 0xC1C2C3C4C5)) ∷ runs
    ∷ calls (push 3) ∷ runs ∷ runs ∷ runs ∷ runs ∷ runs ∷ calls (send 0 (hex 6 0xD1D2D3D4D5D6)) ∷ calls (push 0)
    ∷ calls (air (hex 3 0x08E1E2)) ∷ calls (send 3 (hex 1 0xF1)) ∷ calls (air (hex 1 0x07)) ∷ runs ∷ runs ∷ runs
    ∷ calls (report 0) ∷ calls (report 3) ∷ calls (send 2 (hex 1 0xAB)) ∷ calls (push 2)
    ∷ calls (command 0 5 (hex 1 0x02)) ∷ runs ∷ runs ∷ calls power ∷ runs ∷ [])
    start
    ≡ done ∷ ran 0 false [] ∷ puts (hex 4 0x20000101) ∷ ran 3 false [] ∷ puts (hex 5 0x2001020000) ∷ ran 2 false []
    ∷ puts (hex 5 0x2004020100) ∷ ran 2 false [] ∷ done ∷ ran 11 false ((hex 9 0x010203040506070809) ∷ [])
    ∷ hands (hex 5 0x0100000001) ∷ ran 1 false ((hex 9 0x010203040506070809) ∷ []) ∷ ran 0 false []
    ∷ hands (hex 5 0x0200000000) ∷ puts (hex 5 0x2004020100) ∷ refusal 5 ∷ puts (hex 7 0x40040400040203)
    ∷ ran 1 false [] ∷ puts (hex 8 0x2103050200018001) ∷ ran 2 false [] ∷ puts (hex 14 0x61050B0101048004020080000000)
    ∷ ran 1 false [] ∷ done ∷ ran 13 false ((hex 9 0xA1A2A3A4A5A6A7A8A9) ∷ []) ∷ hands (hex 5 0x0100000100)
    ∷ ran 2 false [] ∷ hands (hex 5 0x0200000000) ∷ done ∷ done ∷ done ∷ ran 3 false ([] ∷ [])
    ∷ puts (hex 7 0x130004C1C2C3C4) ∷ ran 1 false ([] ∷ []) ∷ ran 6 false ((hex 5 0xC1C2C3C4C5) ∷ [])
    ∷ ran 1 false ((hex 5 0xC1C2C3C4C5) ∷ []) ∷ ran 2 false ((hex 5 0xB1B2B3B4B5) ∷ []) ∷ ran 0 false [] ∷ done
    ∷ puts (hex 7 0x100004D1D2D3D4) ∷ done ∷ done ∷ puts (hex 5 0x6106020301) ∷ ran 5 true ((hex 1 0xF1) ∷ [])
    ∷ ran 1 false ((hex 1 0xF1) ∷ []) ∷ ran 0 false [] ∷ refusal 6 ∷ hands (hex 5 0x0200000000) ∷ done
    ∷ puts (hex 4 0x020001AB) ∷ puts (hex 4 0x20050102) ∷ ran 3 false [] ∷ ran 0 false [] ∷ done ∷ ran 0 false [] ∷ []
unfolding stroke_lines
run_to_rest = refl

-- Presses whose moves can be foretold, since nothing is under way: three segments on a loopback, three on connection 0
-- and one of the endpoint take 12, 15 and 2 moves, 29 in four presses, and empty messages 4, 5 and 2. Without flow
-- control three segments on connection 0 take 9, and of two on a loopback the one that is left takes 4.
moves_foretold :
    stroke_lines
    (calls (fresh (hex 5 0x2004020401)) ∷ calls (command 0 0 (hex 1 0x01)) ∷ runs ∷ calls (command 0 1 (hex 2 0x0000))
    ∷ runs ∷ calls (command 0 4 (hex 2 0x0100)) ∷ runs ∷ calls (command 1 3 (hex 3 0x010001)) ∷ runs
    ∷ calls (air (hex 4 0x02010400)) ∷ runs ∷ calls (send 2 (hex 9 0x010203040506070809))
    ∷ calls (send 0 (hex 9 0xA1A2A3A4A5A6A7A8A9)) ∷ calls (air (hex 2 0x08B1)) ∷ calls down ∷ calls up ∷ calls credit
    ∷ calls (consume 0) ∷ calls (consume 2) ∷ calls (consume 3) ∷ calls (consume 4) ∷ calls (consume 5) ∷ runs ∷ runs
    ∷ runs ∷ runs ∷ runs ∷ calls (send 2 []) ∷ calls (send 0 []) ∷ calls (air (hex 1 0x08)) ∷ runs ∷ runs ∷ runs ∷ runs
    ∷ runs ∷ calls (fresh (hex 5 0x2004FF04FF)) ∷ calls (command 0 0 (hex 1 0x01)) ∷ runs
    ∷ calls (command 0 1 (hex 2 0x0000)) ∷ runs ∷ calls (command 0 4 (hex 2 0x0100)) ∷ runs
    ∷ calls (command 1 3 (hex 3 0x010001)) ∷ runs ∷ calls (air (hex 4 0x02010400)) ∷ runs
    ∷ calls (send 0 (hex 9 0xA1A2A3A4A5A6A7A8A9)) ∷ calls (send 2 (hex 5 0xC1C2C3C4C5)) ∷ calls (push 2) ∷ calls down
    ∷ calls (consume 2) ∷ calls up ∷ calls down ∷ calls up ∷ calls credit ∷ calls (consume 0) ∷ calls (consume 2)
    ∷ calls (consume 3) ∷ calls (consume 4) ∷ calls (consume 5) ∷ runs ∷ runs ∷ runs ∷ runs ∷ [])
    start
    ≡ done ∷ puts (hex 4 0x20000101) ∷ ran 3 false [] ∷ puts (hex 5 0x2001020000) ∷ ran 2 false []
    ∷ puts (hex 5 0x2004020100) ∷ ran 2 false [] ∷ puts (hex 6 0x210303010001) ∷ ran 2 false []
    ∷ puts (hex 14 0x61050B0101040004010000000000) ∷ ran 1 false [] ∷ done ∷ done ∷ done ∷ refusal 8 ∷ refusal 8
    ∷ refusal 8 ∷ refusal 8 ∷ refusal 8 ∷ refusal 6 ∷ refusal 6 ∷ refusal 6
    ∷ ran 13 false ((hex 9 0xA1A2A3A4A5A6A7A8A9) ∷ []) ∷ ran 13 false ((hex 9 0x010203040506070809) ∷ [])
    ∷ ran 1 false ((hex 9 0x010203040506070809) ∷ []) ∷ ran 2 false ((hex 1 0xB1) ∷ []) ∷ ran 0 false [] ∷ done ∷ done
    ∷ done ∷ ran 3 false ([] ∷ []) ∷ ran 5 false ([] ∷ []) ∷ ran 1 false ([] ∷ []) ∷ ran 2 false ([] ∷ [])
    ∷ ran 0 false [] ∷ done ∷ puts (hex 4 0x20000101) ∷ ran 3 false [] ∷ puts (hex 5 0x2001020000) ∷ ran 2 false []
    ∷ puts (hex 5 0x2004020100) ∷ ran 2 false [] ∷ puts (hex 6 0x210303010001) ∷ ran 2 false []
    ∷ puts (hex 14 0x61050B0101040004FF0000000000) ∷ ran 1 false [] ∷ done ∷ done ∷ puts (hex 7 0x120004C1C2C3C4) ∷ done
    ∷ puts (hex 7 0x120004C1C2C3C4) ∷ done ∷ refusal 8 ∷ refusal 8 ∷ refusal 8 ∷ refusal 8 ∷ refusal 8 ∷ refusal 6
    ∷ refusal 6 ∷ refusal 6 ∷ ran 9 false ((hex 9 0xA1A2A3A4A5A6A7A8A9) ∷ []) ∷ ran 3 false ((hex 5 0xC1C2C3C4C5) ∷ [])
    ∷ ran 1 false ((hex 5 0xC1C2C3C4C5) ∷ []) ∷ ran 0 false [] ∷ []
unfolding stroke_lines
moves_foretold = refl
