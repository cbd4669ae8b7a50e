use Rattle.std.proofs.Common.{None, refl, sym, subst}
use Rattle.goo_tables_rows.specs.Rows.{correction_in, correction_key, declaration_in, declaration_key, lot_in, lot_key}
use Rattle.goo_store_changes.specs.Changes.{made}
use Rattle.goo_store_plans.specs.Found.{IsBasisOf, IsNext}
use Rattle.goo_store_plans.proofs.Numbered.{next_after, others}
use Rattle.goo_store_plans.proofs.known_basis.after_change.Goals as goal

pub returns-in-AddDeclaration : goal.returns-in-AddDeclaration
returns-in-AddDeclaration c t numbered known =
    let row = c.in-AddDeclaration.row in
    subst (λ change. IsBasisOf (record { device = None; number = c.number_after.result; next_lot = c.args.known.next_lot; correction = c.args.known.correction }) (made t change)) (sym c.in-AddDeclaration.is) (record {
      device = tt;
      number = next_after declaration_key t.declarations (declaration_in row) row.id c.args.known.number c.number_after.result refl numbered.declarations known.number c.number_after.ensures.next;
      next_lot = known.next_lot;
      correction = known.correction;
    })

pub returns-in-AddLot : goal.returns-in-AddLot
returns-in-AddLot c t numbered known =
    let row = c.in-AddLot.row in
    subst (λ change. IsBasisOf (record { device = None; number = c.args.known.number; next_lot = c.number_after-in-AddLot.result; correction = c.args.known.correction }) (made t change)) (sym c.in-AddLot.is) (record {
      device = tt;
      number = known.number;
      next_lot = next_after lot_key t.lots (lot_in row) row.id c.args.known.next_lot c.number_after-in-AddLot.result refl numbered.lots known.next_lot c.number_after-in-AddLot.ensures.next;
      correction = known.correction;
    })

pub returns-in-AddCorrection : goal.returns-in-AddCorrection
returns-in-AddCorrection c t numbered known =
    let row = c.in-AddCorrection.row in
    subst (λ change. IsBasisOf (record { device = None; number = c.args.known.number; next_lot = c.args.known.next_lot; correction = c.number_after-in-AddCorrection.result }) (made t change)) (sym c.in-AddCorrection.is) (record {
      device = tt;
      number = known.number;
      next_lot = known.next_lot;
      correction = next_after correction_key t.corrections (correction_in row) row.id c.args.known.correction c.number_after-in-AddCorrection.result refl numbered.corrections known.correction c.number_after-in-AddCorrection.ensures.next;
    })

pub returns-in_default : goal.returns-in_default
returns-in_default c t numbered known =
    let same = others t c.args.change.now c.in_default.not-AddDeclaration c.in_default.not-AddLot c.in_default.not-AddCorrection in record {
      device = tt;
      number = subst (IsNext c.args.known.number declaration_key) (sym same.0) known.number;
      next_lot = subst (IsNext c.args.known.next_lot lot_key) (sym same.1) known.next_lot;
      correction = subst (IsNext c.args.known.correction correction_key) (sym same.2) known.correction;
    }
