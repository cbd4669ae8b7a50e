-- What is accepted of all is accepted of the rows of production.
use Rattle.std.proofs.Common.{◌≡◌, ◌&&◌, Bool, true, false, pos, refl, sym, true≢false}
use Rattle.std.specs.List.{list_all}
use Rattle.sqlite_keyed.proofs.RuleLemmas.{first_of_both}
use Rattle.goo_tables_rows.specs.Rows.{meta_in, holder_in, account_in, device_in, declaration_in, correction_in, device_carrier_in, lot_carrier_in, lot_in, withdrawal_in}
use Rattle.goo_spec_tables.specs.Readable.{is_meta, is_holder, is_account, is_device, is_declaration, is_lot, is_piece, is_peer, is_withdrawal, is_correction, is_device_carrier, is_lot_carrier}
use Rattle.goo_store_open.specs.declared.finding.Found.{Found}
use Rattle.goo_store_rules.specs.Keeping.{has_good_values, has_good_corrections}
use Rattle.goo_store_rules.specs.Production.{IsProductionAccepted}

behind_four : (a b c d e : Bool) → a && (b && (c && (d && e))) ≡ true → e ≡ true
behind_four true true true true e h = h
behind_four true true true false e h = absurd (true≢false (sym h))
behind_four true true false d e h = absurd (true≢false (sym h))
behind_four true false c d e h = absurd (true≢false (sym h))
behind_four false b c d e h = absurd (true≢false (sym h))

first_three : (a b c d : Bool) → a && (b && (c && d)) ≡ true → (a ≡ true) × (b ≡ true) × (c ≡ true)
first_three true true true d h = (refl, refl, refl)
first_three true true false d h = absurd (true≢false (sym h))
first_three true false c d h = absurd (true≢false (sym h))
first_three false b c d h = absurd (true≢false (sym h))

pub production_accepted : (x : Found) → has_good_values x ≡ true → has_good_corrections x ≡ true → IsProductionAccepted x.rows.production
production_accepted x good corrected =
    let devices = list_all (λ row. is_device (pos 0, device_in row)) x.rows.production.devices.items in
    let declarations = list_all (λ row. is_declaration (declaration_in row)) x.rows.production.declarations.items in
    let lots = list_all (λ row. is_lot (lot_in row)) x.rows.production.lots.items in
    let others = list_all is_piece x.rows.production.pieces.items && (list_all (λ row. row.is_good) x.rows.acts.receipts.items
    && (list_all (λ row. row.is_good) x.rows.acts.cancellations.items && list_all (λ row. is_withdrawal (withdrawal_in row)) x.rows.acts.withdrawals.items)) in
    let them = first_three devices declarations lots others (behind_four (is_meta (meta_in x.meta)) (list_all (λ row. is_holder (pos 0, holder_in row)) x.rows.members.holders.items) (list_all (λ row. is_account (account_in row)) x.rows.members.accounts.items)
    (list_all (λ row. is_peer (pos 0, row)) x.rows.members.peers.items) (devices && (declarations && (lots && others))) good) in
    let corrections = first_of_both (list_all (λ row. is_correction (correction_in row)) x.rows.production.corrections.items) (list_all (λ row. is_device_carrier (pos 0, device_carrier_in row)) x.rows.carriers.devices.items && list_all (λ row. is_lot_carrier (lot_carrier_in row)) x.rows.carriers.lots.items) corrected in
    record { devices = them.0; declarations = them.1; corrections = corrections; lots = them.2 }
