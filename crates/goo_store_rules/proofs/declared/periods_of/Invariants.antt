use Rattle.std.proofs.Common.{◌≡◌, ◌&&◌, String, string_bytes, take, map}
use Rattle.std.specs.BTreeSet.{contains}
use Rattle.std.specs.declared.alloc.Global.{Global}
use Rattle.goo_tables_rows.specs.Rows.{declaration_in}
use Rattle.goo_store_rules.specs.WellKept.{has_declaration, has_text, text_pair_cmp, bytes_pair}
use Rattle.goo_store_rules.proofs.declared.periods_of.Given as goal

abbrev pub invariant-loop-row : goal.invariant-loop-row
invariant-loop-row l = (device first_day : String Global) → contains (λ a b. text_pair_cmp (bytes_pair a) (bytes_pair b)) l.set (device, first_day) ≡ (has_text l.fn.devices (string_bytes device) && has_declaration (map declaration_in (take l.row-index l.rows)) (string_bytes device) (string_bytes first_day))
