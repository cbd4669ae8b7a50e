use Rattle.std.proofs.Common.{rules, ◌≡◌, ◌==◌, ◌&&◌, ◌%◌, ℕ, List, Bool, true, false, nat_le, true≢false, refl, pos, option_map, IsTrue, sym, ap, ◌∙◌}
use Rattle.std.specs.BTreeMap.{get}
use Rattle.std.proofs.lemmas.Bool.{eq-eqb, eqb-true}
use Rattle.goo_types.specs.Gsrn.{gsrn_reading}
use Rattle.goo_types.specs.Day.{CalendarDay}
use Rattle.goo_spec.specs.State.{text_cmp}
use Rattle.goo_tables_rows.specs.Rows.{Kept, Device, device_in}
use Rattle.goo_spec_tables.specs.Readable.{is_device, is_maybe_day, reads, is_act, is_plant, is_maybe_other}
use Rattle.goo_spec_tables.specs.Texts.{day_of}
use Rattle.goo_store_rules.specs.Production.{HasProgress}
use Rattle.goo_store_rules.specs.Summing.{left_at}
use Rattle.goo_store_rules.proofs.progress.keeps_progress.Goals as goal

module _ (ends : List ℕ → Rattle.std.specs.Prelude.Option CalendarDay) (sums : List ℕ → ℕ) (d : Device) (gsrn : List ℕ) (same : gsrn ≡ d.gsrn) (last : option_map day_of d.last_day ≡ ends gsrn) (carry rest : ℕ) (is : carry ≡ d.carry) (left : rest ≡ sums gsrn % 1000000) where
  decided : (IsTrue (carry == rest) → HasProgress ends sums d) × (HasProgress ends sums d → IsTrue (carry == rest))
  decided = (
    λ yes. record { last_day = last ∙ ap ends same; carry = sym is ∙ eqb-true carry rest yes ∙ left ∙ ap (λ g. sums g % 1000000) same },
    λ it. eq-eqb carry rest (is ∙ it.carry ∙ ap (λ g. sums g % 1000000) (sym same) ∙ sym left),
  )

-- the texts of a device's row are read
fourth : (a b c d e : Bool) → a && (b && (c && (d && e))) ≡ true → d ≡ true
fourth true true true true e good = refl
fourth true true true false e good = good
fourth true true false d e good = absurd (true≢false (sym good))
fourth true false c d e good = absurd (true≢false (sym good))
fourth false b c d e good = absurd (true≢false (sym good))

last_read : (k : Kept Device) → is_device k ≡ true → is_maybe_day k.1.last_day ≡ true
last_read k good = fourth (reads (gsrn_reading k.1.gsrn)) (is_act k.1.account) (is_plant k.1.plant) (is_maybe_day k.1.last_day) (nat_le k.1.carry 999999 && is_maybe_other k.1.carrier) good

pub returns-then-states_last : goal.returns-then-states_last
returns-then-states_last c = λ good.
    let d = device_in c.args.row.now in
    let stated : IsTrue c.states_last.result = search rules in
    let last = (c.states_last.ensures (last_read (pos 0, d) good)).0 stated in
    decided (get text_cmp c.args.ends.now) (left_at c.args.energy.now) d c.in-Some.device (search rules) (last ∙ c.last_day_of.ensures) c.from.result (c.left_for.result % 1000000) (search rules) (ap (λ n. n % 1000000) c.left_for.ensures)
