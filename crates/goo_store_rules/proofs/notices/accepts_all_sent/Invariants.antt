use Rattle.std.proofs.Common.{◌≡◌, drop}
use Rattle.std.specs.List.{list_all}
use Rattle.goo_tables_rows.specs.Rows.{notice_out_in}
use Rattle.goo_spec_tables.specs.Readable.{is_notice_out}
use Rattle.goo_store_rules.proofs.notices.accepts_all_sent.Given as goal

abbrev pub invariant-loop-row : goal.invariant-loop-row
invariant-loop-row l = list_all (λ row. is_notice_out l.fn.own (notice_out_in row)) l.rows ≡ list_all (λ row. is_notice_out l.fn.own (notice_out_in row)) (drop l.row-index l.rows)
