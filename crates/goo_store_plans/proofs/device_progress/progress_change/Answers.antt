use Rattle.std.proofs.Common.{◌≡◌, ap, sym, subst, rules}
use Rattle.std.specs.Prelude.{string_bytes, filter}
use Rattle.sqlite_typed.specs.Tests.{bytes_eq}
use Rattle.std.proofs.lemmas.List.Elements.{All-filter}
use Rattle.goo_tables_rows.specs.Once.{IsOnce}
use Rattle.goo_tables_rows.specs.Refused.{CanBeKept}
use Rattle.goo_tables_rows.specs.Rows.{device_row}
use Rattle.goo_tables_accounts.specs.Changes.{progressed, with_progress}
use Rattle.goo_store_plans.proofs.device_progress.progress_change.Goals as goal

pub returns-clause-sets : goal.returns-clause-sets
returns-clause-sets c =
    let device : string_bytes c.in_ok-device.device ≡ c.args.device.now = search rules in
    record {
      last_day = string_bytes c.in_ok-last_day.last_day;
      made_is = λ t. ap (λ d. with_progress t d (string_bytes c.in_ok-last_day.last_day) c.args.carry) device;
      for = λ t once. subst (λ d. IsOnce (filter (λ k. bytes_eq k.1.gsrn d) t.devices)) (sym device) once;
      free = λ t once. subst (λ d. IsOnce (filter (λ k. bytes_eq k.1.gsrn d) t.devices)) (sym device) once;
      room = λ t all. All-filter (λ k. bytes_eq k.1.gsrn (string_bytes c.in_ok-device.device)) (λ k. CanBeKept (device_row (progressed (string_bytes c.in_ok-last_day.last_day) c.args.carry k))) t.devices all;
      ends = c.in_ok-last_day.ensures.states;
      ends_read = c.in_ok-last_day.ensures.reads;
    }
