use Rattle.std.proofs.Common.{◌≡◌, ◌<◌, ◌∙◌, All, Ok, Err, IsErr, IsOkUnless, ap, length, map, sym, subst, take_all, arith, rules}
use Rattle.sqlite.specs.Held.{state}
use Rattle.std.proofs.lemmas.List.Elements.{All-nil, All-push}
use Rattle.goo_store_plans.specs.LotNumbers.{IsNumberOf, AreNumbered}
use Rattle.goo_store_plans.proofs.LookUps.{looks_failed, looks_made, looks_none, looks_then}
use Rattle.goo_tables_rows.specs.Rows.{Tables}
use Rattle.goo_store_values.specs.declared.statement_fault.StatementFault.TheVariants.{Memory}
use Rattle.goo_store_plans.specs.AtHand.{IsAtHand}
use Rattle.goo_store_plans.proofs.Refusing.{blames_err, blames_made, blames_none, blames_then}
use Rattle.goo_store_plans.proofs.Failing.{none_made}
use Rattle.goo_store_plans.proofs.Taking.{one_more}
use Rattle.goo_store_plans.proofs.lot_numbers.numbers_of.Goals as goal

pub loop-lot-preserved : goal.loop-lot-preserved
loop-lot-preserved g c =
    let s0 = state g.S.Store c.args.conn.now in
    let s1 = state g.S.Store c.loop-lot.conn in
    let s2 = state g.S.Store c.number_of.new.conn in
    let lots = c.args.lots.now in
    let i = c.loop-lot.lot-index in
    let low : i < length lots = omega (arith, c.loop-lot-test.true) in
    let Needs : Tables → Type 0 = λ t. All (IsAtHand c.args.added.now t) lots in
    record {
      looks = looks_made s0 s2 c.in_ok-number.number (Ok c.extend_from_slice.new.self) _ _ (looks_then s0 s1 s2 c.loop-lot.found (Ok c.in_ok-number.number) _ _ c.loop-lot.invariant.looks c.in_ok-number.ensures.looks)
          (λ t it both lots with. subst (AreNumbered lots) (sym c.in_ok-extend_from_slice.ensures.items) (All-push (λ x. IsNumberOf lots x.number x.lot) c.loop-lot.found.items _ (both.0 lots with) (both.1 lots with)));
      blames = blames_made s0 s2 c.in_ok-number.number _ (looks_then s0 s1 s2 c.loop-lot.found (Ok c.in_ok-number.number) _ _ c.loop-lot.invariant.looks c.in_ok-number.ensures.looks)
          Needs (blames_then s0 s1 s2 c.loop-lot.found _ c.loop-lot.invariant.looks _ c.loop-lot.invariant.blames (Ok c.in_ok-number.number) _ c.in_ok-number.ensures.looks _ c.in_ok-number.ensures.blames Needs
          (λ t stands kept all first. subst (IsAtHand c.args.added.now t) (sym c.lot-item.is) (all i c.lot-item.result low)))
          (Ok c.extend_from_slice.new.self) _ (λ t stands kept all first. tt);
      each = ap (map (λ x. x.lot)) c.in_ok-extend_from_slice.ensures.items ∙ one_more (λ x. x.lot) c.loop-lot.found.items lots i _ low c.lot-item.is c.loop-lot.invariant.each;
      outside = λ none. c.number_of.ensures.outside (c.loop-lot.invariant.outside none);
    }

pub returns-in_err-number-clause-blames : goal.returns-in_err-number-clause-blames
returns-in_err-number-clause-blames g c =
    let s0 = state g.S.Store c.args.conn.now in
    let s1 = state g.S.Store c.loop-lot.conn in
    let s2 = state g.S.Store c.number_of.new.conn in
    let lots = c.args.lots.now in
    let i = c.loop-lot.lot-index in
    let low : i < length lots = omega (arith, c.loop-lot-test.true) in
    let same : c.from_residual.result ≡ Err c.in_err-number.field-0.0 = search rules in
    blames_err s0 s2 c.in_err-number.field-0.0 c.from_residual.result _ same
    (blames_then s0 s1 s2 c.loop-lot.found _ c.loop-lot.invariant.looks _ c.loop-lot.invariant.blames (Err c.in_err-number.field-0.0) _ c.in_err-number.ensures.looks _ c.in_err-number.ensures.blames _
    (λ t stands kept all first. subst (IsAtHand c.args.added.now t) (sym c.lot-item.is) (all i c.lot-item.result low)))

pub returns-in_err-extend_from_slice-clause-blames : goal.returns-in_err-extend_from_slice-clause-blames
returns-in_err-extend_from_slice-clause-blames g c =
    let s0 = state g.S.Store c.args.conn.now in
    let s1 = state g.S.Store c.loop-lot.conn in
    let s2 = state g.S.Store c.number_of.new.conn in
    let lots = c.args.lots.now in
    let i = c.loop-lot.lot-index in
    let low : i < length lots = omega (arith, c.loop-lot-test.true) in
    let Needs : Tables → Type 0 = λ t. All (IsAtHand c.args.added.now t) lots in
    let memory : IsOkUnless c.from_residual-in_err-extend_from_slice.result Memory = search rules in
    blames_made s0 s2 c.in_ok-number.number _ (looks_then s0 s1 s2 c.loop-lot.found (Ok c.in_ok-number.number) _ _ c.loop-lot.invariant.looks c.in_ok-number.ensures.looks)
    Needs (blames_then s0 s1 s2 c.loop-lot.found _ c.loop-lot.invariant.looks _ c.loop-lot.invariant.blames (Ok c.in_ok-number.number) _ c.in_ok-number.ensures.looks _ c.in_ok-number.ensures.blames Needs
    (λ t stands kept all first. subst (IsAtHand c.args.added.now t) (sym c.lot-item.is) (all i c.lot-item.result low)))
    c.from_residual-in_err-extend_from_slice.result _ (λ t stands kept all first. memory)

pub returns-clause-each : goal.returns-clause-each
returns-clause-each g c = c.loop-lot.invariant.each ∙ take_all c.loop-lot.lot-index c.args.lots.now c.loop-lot-test.false

pub loop-lot-init : goal.loop-lot-init
loop-lot-init g c = record {
  looks = looks_none (state g.S.Store c.args.conn.now) (Ok c.new-found.result) _ (λ t it lots with. subst (AreNumbered lots) (sym c.new-found.ensures.items) (All-nil (λ x. IsNumberOf lots x.number x.lot)));
  blames = blames_none (state g.S.Store c.args.conn.now) (Ok c.new-found.result) _ (λ t stands kept needs. tt);
  each = ap (map (λ x. x.lot)) c.new-found.ensures.items;
  outside = λ none. none;
}

pub returns-in_err-number-clause-looks : goal.returns-in_err-number-clause-looks
returns-in_err-number-clause-looks g c =
    let s0 = state g.S.Store c.args.conn.now in
    let s1 = state g.S.Store c.loop-lot.conn in
    let s2 = state g.S.Store c.number_of.new.conn in
    let bad : IsErr c.from_residual.result = search rules in
    looks_failed s0 s2 (Err c.in_err-number.field-0.0) c.from_residual.result _ _ bad (looks_then s0 s1 s2 c.loop-lot.found (Err c.in_err-number.field-0.0) _ _ c.loop-lot.invariant.looks c.in_err-number.ensures.looks)

pub returns-in_err-extend_from_slice-clause-looks : goal.returns-in_err-extend_from_slice-clause-looks
returns-in_err-extend_from_slice-clause-looks g c =
    let s0 = state g.S.Store c.args.conn.now in
    let s1 = state g.S.Store c.loop-lot.conn in
    let s2 = state g.S.Store c.number_of.new.conn in
    let bad : IsErr c.from_residual-in_err-extend_from_slice.result = search rules in
    looks_failed s0 s2 (Ok c.in_ok-number.number) c.from_residual-in_err-extend_from_slice.result _ _ bad (looks_then s0 s1 s2 c.loop-lot.found (Ok c.in_ok-number.number) _ _ c.loop-lot.invariant.looks c.in_ok-number.ensures.looks)

pub returns-clause-looks : goal.returns-clause-looks
returns-clause-looks g c = c.loop-lot.invariant.looks

pub returns-clause-blames : goal.returns-clause-blames
returns-clause-blames g c = c.loop-lot.invariant.blames

pub returns-in_err-number-clause-each : goal.returns-in_err-number-clause-each
returns-in_err-number-clause-each g c =
    let bad : IsErr c.from_residual.result = search rules in
    none_made c.from_residual.result (λ found. map (λ x. x.lot) found.items ≡ c.args.lots.now) bad

pub returns-in_err-extend_from_slice-clause-each : goal.returns-in_err-extend_from_slice-clause-each
returns-in_err-extend_from_slice-clause-each g c =
    let bad : IsErr c.from_residual-in_err-extend_from_slice.result = search rules in
    none_made c.from_residual-in_err-extend_from_slice.result (λ found. map (λ x. x.lot) found.items ≡ c.args.lots.now) bad

pub returns-in_err-number-clause-outside : goal.returns-in_err-number-clause-outside
returns-in_err-number-clause-outside g c = λ none. c.number_of.ensures.outside (c.loop-lot.invariant.outside none)

pub returns-in_err-extend_from_slice-clause-outside : goal.returns-in_err-extend_from_slice-clause-outside
returns-in_err-extend_from_slice-clause-outside g c = λ none. c.number_of.ensures.outside (c.loop-lot.invariant.outside none)

pub returns-clause-outside : goal.returns-clause-outside
returns-clause-outside g c = c.loop-lot.invariant.outside
