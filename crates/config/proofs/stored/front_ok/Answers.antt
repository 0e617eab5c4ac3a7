-- `config::stored::front_ok` meets its contract. Each test is row 1 of its row.
use native.Mathlib.Omega.{arith}
use mathlib.Core.Path.{sym, ◌∙◌}
use mathlib.Core.Bool.{◌&&◌}
use Rattle.config.specs.declared.table.Values.TheVariants.{Range}
use Rattle.config.specs.Table.{table, row_at}
use Rattle.config.specs.Stored.{rows_ok}
use Rattle.config.proofs.Kept.{octet_row}
use Rattle.config.proofs.stored.front_ok.Goals as goal

pub returns : goal.returns
unfolding table row_at rows_ok
returns c =
    let b = c.args.b.now in
    let e0 = c.octet_ok.ensures ∙ sym (octet_row 0x08 0 0x00 (Range 0x00 0x01) b (omega arith)) in
    let e1 = c.octet_ok-2.ensures ∙ sym (octet_row 0x09 1 0x08 (Range 0x00 0xFF) b (omega arith)) in
    let e2 = c.octet_ok-3.ensures ∙ sym (octet_row 0x10 2 0x00 (Range 0x00 0xFF) b (omega arith)) in
    let e3 = c.octet_ok-4.ensures ∙ sym (octet_row 0x11 3 0x00 (Range 0x00 0x01) b (omega arith)) in
    let e4 = c.octet_ok-5.ensures ∙ sym (octet_row 0x13 4 0x00 (Range 0x00 0xFF) b (omega arith)) in
    let e5 = c.octet_ok-6.ensures ∙ sym (octet_row 0x14 5 0x08 (Range 0x00 0xFF) b (omega arith)) in
    let e6 = c.octet_ok-7.ensures ∙ sym (octet_row 0x18 6 0x01 (Range 0x01 0x02) b (omega arith)) in
    let e7 = c.octet_ok-8.ensures ∙ sym (octet_row 0x19 7 0x00 (Range 0x00 0x01) b (omega arith)) in
    let e8 = c.octet_ok-9.ensures ∙ sym (octet_row 0x1A 8 0x08 (Range 0x00 0xFF) b (omega arith)) in
    λ i. e0 i && e1 i && e2 i && e3 i && e4 i && e5 i && e6 i && e7 i && e8 i
