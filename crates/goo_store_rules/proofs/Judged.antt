-- The parts that are judged over rows, taken apart into the rules on names and those on pieces, and put together.
use Rattle.std.proofs.Common.{◌≡◌, true, None, map}
use Rattle.std.specs.List.{list_all}
use Rattle.std.proofs.lemmas.Bool.{and_parts, and_from}
use Rattle.goo_tables_rows.specs.Rows.{account_in}
use Rattle.goo_store_open.specs.declared.finding.Found.{Found}
use Rattle.goo_store_rules.specs.Keeping.{has_its_numbers, has_its_names, has_its_declarations}
use Rattle.goo_store_rules.specs.WellKept.{are_apart, is_issued, has_account}
use Rattle.goo_store_rules.proofs.ByName.{KeepsNames}

-- the rules on pieces that are judged with those on names
pub record KeepsPieces (x : Found) : Type 0 where
  pub apart : are_apart None x.rows.production.pieces.items ≡ true
  pub issued : list_all (is_issued x.meta.code x.meta.next_serial) x.rows.production.pieces.items ≡ true
  pub accounts : list_all (λ r. has_account (map account_in x.rows.members.accounts.items) r.account) x.rows.production.pieces.items ≡ true

pub judged : (x : Found) → has_its_numbers x ≡ true → has_its_names x ≡ true → has_its_declarations x ≡ true → KeepsNames x × KeepsPieces x
judged x numbers names declarations =
    let issuer = and_parts _ _ numbers in
    let others = and_parts _ _ issuer.1 in
    let aux = and_parts _ _ others.1 in
    let apart = and_parts _ _ aux.1 in
    let issued = and_parts _ _ apart.1 in
    let accounts = and_parts _ _ issued.1 in
    let cancelled = and_parts _ _ accounts.1 in
    let withdrawn = and_parts _ _ cancelled.1 in
    let holders = and_parts _ _ names in
    let declared = and_parts _ _ holders.1 in
    let there = and_parts _ _ declared.1 in
    let devices = and_parts _ _ there.0 in
    let acts = and_parts _ _ there.1 in
    let corrections = and_parts _ _ declarations in
    let own = and_parts _ _ corrections.0 in (
      record {
        no_issuer = issuer.0;
        others = others.0;
        aux = aux.0;
        accounts_given = accounts.0;
        cancellations_given = cancelled.0;
        withdrawals_given = withdrawn.0;
        notices_given = withdrawn.1;
        holders = holders.0;
        declared = declared.0;
        devices = devices.0;
        cancellations = acts.0;
        notices = acts.1;
        own_lots = own.0;
        corrected = own.1;
        withdrawn = corrections.1;
      },
      record { apart = apart.0; issued = issued.0; accounts = devices.1 },
    )

module _ (x : Found) (names : KeepsNames x) (pieces : KeepsPieces x) where
  pub numbers_are : has_its_numbers x ≡ true
  numbers_are =
      and_from _ _ names.no_issuer (and_from _ _ names.others (and_from _ _ names.aux (and_from _ _ pieces.apart (and_from _ _ pieces.issued
      (and_from _ _ names.accounts_given (and_from _ _ names.cancellations_given (and_from _ _ names.withdrawals_given names.notices_given)))))))

  pub names_are : has_its_names x ≡ true
  names_are =
      and_from _ _ names.holders (and_from _ _ names.declared (and_from _ _ (and_from _ _ names.devices pieces.accounts) (and_from _ _ names.cancellations names.notices)))

  pub declarations_are : has_its_declarations x ≡ true
  declarations_are = and_from _ _ (and_from _ _ names.own_lots names.corrected) names.withdrawn
