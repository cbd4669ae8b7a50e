use Rattle.std.proofs.Common.{rules, ◌≡◌, ◌+◌, ◌&&◌, true, false, cond, arith, map, refl, sym, ap, ◌∙◌, string_bytes, take}
use Rattle.std.specs.Ordering.{eq_by_cmp}
use Rattle.goo_tables_rows.specs.Rows.{declaration_in}
use Rattle.std.specs.BTreeSet.{contains}
use Rattle.goo_store_rules.specs.WellKept.{has_declaration, has_text, text_pair_cmp, bytes_pair}
use Rattle.goo_store_rules.proofs.Keying.{key_noted, text_pair_total}
use Rattle.goo_store_rules.proofs.InTurn.{kept_of, same_device}
use Rattle.goo_store_rules.proofs.declared.periods_of.Goals as goal
use Rattle.goo_store_rules.proofs.declared.periods_of.Goals.{then-has+in_ok-clone+in_ok-clone-2+in_ok-insert, else-has}

pub loop-row-preserved : goal.loop-row-preserved
loop-row-preserved c = λ device first_day.
    let rows = c.args.rows.now in
    let i = c.loop-row.row-index in
    let row = declaration_in c.row-item.result in
    let d = string_bytes device in
    let f = string_bytes first_day in
    let test = eq_by_cmp text_pair_cmp (row.device, row.first_day) (d, f) in
    let among = has_text c.args.devices.now d in
    let before = has_declaration (map declaration_in (take i rows)) d f in
    let more : cond test true before ≡ has_declaration (map declaration_in (take (i + 1) rows)) d f =
    key_noted text_pair_total declaration_in (λ x. (x.device, x.first_day)) rows i c.row-item.result (d, f) before (cond test true before) (omega (arith, c.loop-row-test.true)) c.row-item.is refl refl in
    let same : test ≡ true → among ≡ c.has.result = λ is. ap (has_text c.args.devices.now) (same_device row.device row.first_day d f is) ∙ sym c.has.ensures in
    elim c.if-has.branch [
      | then-has+in_ok-clone+in_ok-clone-2+in_ok-insert w ↦
          let yes : c.has.result ≡ true = search rules in
          let one : string_bytes w.in_ok-clone.field-0 ≡ row.device = w.in_ok-clone.ensures.cases in
          let two : string_bytes w.in_ok-clone-2.field-0 ≡ row.first_day = w.in_ok-clone-2.ensures.cases in
          ap (λ s. contains (λ a b. text_pair_cmp (bytes_pair a) (bytes_pair b)) s (device, first_day)) w.set-is ∙ rw (one, two) at (w.in_ok-insert.ensures.updates.0 (device, first_day))
          ∙ ap (cond test true) (c.loop-row.invariant device first_day) ∙ kept_of true test among before (λ is. same is ∙ yes) ∙ ap (λ b. among && b) more
      | else-has w ↦
          let no : c.has.result ≡ false = search rules in
          ap (λ s. contains (λ a b. text_pair_cmp (bytes_pair a) (bytes_pair b)) s (device, first_day)) w.set-is ∙ c.loop-row.invariant device first_day
          ∙ kept_of false test among before (λ is. same is ∙ no) ∙ ap (λ b. among && b) more
    ]
