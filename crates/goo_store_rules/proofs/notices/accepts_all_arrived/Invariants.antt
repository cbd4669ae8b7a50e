use Rattle.std.proofs.Common.{◌≡◌, pos, drop}
use Rattle.std.specs.List.{list_all}
use Rattle.goo_tables_rows.specs.Rows.{notice_in_in}
use Rattle.goo_spec_tables.specs.Readable.{is_notice_in}
use Rattle.goo_store_rules.proofs.notices.accepts_all_arrived.Given as goal

abbrev pub invariant-loop-row : goal.invariant-loop-row
invariant-loop-row l = list_all (λ row. is_notice_in (pos 0, notice_in_in row)) l.rows ≡ list_all (λ row. is_notice_in (pos 0, notice_in_in row)) (drop l.row-index l.rows)
