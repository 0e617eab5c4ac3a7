-- `config::stored::parameters_ok` meets its contract. Each test is row 1 of its row.
use native.Mathlib.Omega.{arith}
use mathlib.Core.Path.{sym, ◌∙◌, ap}
use mathlib.Core.Bool.{◌&&◌}
use Rattle.config.specs.declared.table.Values.TheVariants.{Range, BitRates}
use Rattle.config.specs.Table.{table, row_at}
use Rattle.config.specs.Stored.{row_ok, rows_ok}
use Rattle.config.proofs.Kept.{octet_row}
use Rattle.config.proofs.Rows.{row_fits}
use Rattle.config.proofs.stored.parameters_ok.Goals as goal

pub row_ok-info-requires : goal.row_ok-info-requires
row_ok-info-requires c = rw c.row_at.ensures (row_fits 9 (omega arith))

pub returns : goal.returns
unfolding table row_at rows_ok
returns c =
    let b = c.args.b.now in
    let info = c.row_ok-info.ensures ∙ ap (row_ok b) c.row_at.ensures in
    let e0 = c.octet_ok.ensures ∙ sym (octet_row 0x21 25 0x00 (Range 0x00 0x03) b (omega arith)) in
    let e1 = c.octet_ok-2.ensures ∙ sym (octet_row 0x28 26 0x00 (Range 0x00 0x01) b (omega arith)) in
    let e2 = c.octet_ok-3.ensures ∙ sym (octet_row 0x2A 27 0x30 (Range 0x00 0xFF) b (omega arith)) in
    let e3 = c.octet_ok-4.ensures ∙ sym (octet_row 0x2F 28 0x08 (Range 0x00 0xFF) b (omega arith)) in
    let e4 = c.octet_ok-5.ensures ∙ sym (octet_row 0x68 29 0x01 (BitRates) b (omega arith)) in
    λ i. c.front_ok.ensures i && info i && e0 i && e1 i && e2 i && e3 i && e4 i
