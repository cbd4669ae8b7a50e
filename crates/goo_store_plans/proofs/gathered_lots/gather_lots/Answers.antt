use Rattle.std.proofs.Common.{◌≡◌, ◌+◌, ◌<◌, ◌∷◌, Ok, Err, IsErr, All, drop, length, ap, sym, subst, ◌∙◌, arith, rules}
use Rattle.sqlite.specs.Held.{state}
use Rattle.std.proofs.lemmas.List.{drop_all, drop_more}
use Rattle.std.proofs.lemmas.List.Elements.{All-nil}
use Rattle.sqlite_keyed.specs.Keyed.{next_key}
use Rattle.goo_tables_rows.specs.Rows.{Tables, lot_key}
use Rattle.goo_store_plans.specs.AtHand.{HasRoom}
use Rattle.goo_store_changes.specs.Changes.{ChangeFits}
use Rattle.goo_store_plans.specs.Found.{AreLots, IsNext}
use Rattle.goo_store_plans.specs.GatheredLots.{ArePutIn}
use Rattle.goo_store_plans.specs.LookingUp.{LooksUp}
use Rattle.goo_store_plans.proofs.LookUps.{looks_failed, looks_made, looks_then}
use Rattle.goo_store_plans.proofs.Failing.{none_made}
use Rattle.goo_store_plans.proofs.PutIn.{put_none}
use Rattle.goo_store_plans.proofs.Refusing.{blames_err, blames_made, blames_so, blames_then, low_next, one_number}
use Rattle.goo_store_plans.proofs.gathered_lots.gather_lots.Goals as goal

pub loop-part-init : goal.loop-part-init
loop-part-init g c = record {
  looks = looks_made (state g.S.Store c.args.conn.now) (state g.S.Store c.next_lot_number.new.conn) c.in_ok-next.next (Ok (record { changes = c.new-changes.result; added = c.new-added.result; next = c.in_ok-next.next })) _ _ c.in_ok-next.ensures.looks
      (λ t it says next are. put_none t.lots c.args.parts.now (record { changes = c.new-changes.result; added = c.new-added.result; next = c.in_ok-next.next }) it.lots.rise c.new-changes.ensures.items c.new-added.ensures.items (says next));
  next = looks_made (state g.S.Store c.args.conn.now) (state g.S.Store c.next_lot_number.new.conn) c.in_ok-next.next (Ok (record { changes = c.new-changes.result; added = c.new-added.result; next = c.in_ok-next.next })) _ _ c.in_ok-next.ensures.looks
      (λ t it says next n same. omega (arith, one_number c.in_ok-next.next n (next_key lot_key t.lots) (says next) same));
  blames = blames_made (state g.S.Store c.args.conn.now) (state g.S.Store c.next_lot_number.new.conn) c.in_ok-next.next _ c.in_ok-next.ensures.looks _ c.in_ok-next.ensures.blames
      (Ok (record { changes = c.new-changes.result; added = c.new-added.result; next = c.in_ok-next.next })) _ (λ t stands kept room first. tt);
  outside = c.in_ok-next.ensures.outside;
  fits = subst (All ChangeFits) (sym c.new-changes.ensures.items) (All-nil ChangeFits);
}

pub loop-part-preserved : goal.loop-part-preserved
loop-part-preserved g c =
    let s0 = state g.S.Store c.args.conn.now in
    let s1 = state g.S.Store c.loop-part.conn in
    let s2 = state g.S.Store c.gather_lot.new.conn in
    let parts = c.args.parts.now in
    let i = c.loop-part.part-index in
    let low : i < length parts = omega (arith, c.loop-part-test.true) in
    let Needs : Tables → Type 0 = λ t. IsNext c.args.known lot_key t.lots × HasRoom (length parts) lot_key t.lots in
    record {
      looks = looks_made s0 s2 c.in_ok-gather_lot.field-0 (Ok c.gather_lot.new.gathered) _ _
          (looks_then s0 s1 s2 c.loop-part.gathered (Ok c.in_ok-gather_lot.field-0) _ _ c.loop-part.invariant.looks c.in_ok-gather_lot.ensures.looks)
          (λ t it both next are. both.1 are parts (drop (i + 1) parts) (subst (λ ps. ArePutIn t.lots parts ps c.loop-part.gathered) (drop_more parts i c.part-item.result low ∙ ap (λ p. p ∷ drop (i + 1) parts) (sym c.part-item.is)) (both.0 next are)));
      next = looks_made s0 s2 c.in_ok-gather_lot.field-0 (Ok c.gather_lot.new.gathered) _ _
          (looks_then s0 s1 s2 c.loop-part.gathered (Ok c.in_ok-gather_lot.field-0) _ _ c.loop-part.invariant.next c.in_ok-gather_lot.ensures.looks)
          (λ t it both next n is. omega (arith, both.0 next n is, c.in_ok-gather_lot.ensures.counts));
      blames = blames_made s0 s2 c.in_ok-gather_lot.field-0 _ (looks_then s0 s1 s2 c.loop-part.gathered (Ok c.in_ok-gather_lot.field-0) _ _ c.loop-part.invariant.next c.in_ok-gather_lot.ensures.looks)
          Needs (blames_then s0 s1 s2 c.loop-part.gathered _ c.loop-part.invariant.next _ c.loop-part.invariant.blames (Ok c.in_ok-gather_lot.field-0) _ c.in_ok-gather_lot.ensures.looks _ c.in_ok-gather_lot.ensures.blames Needs
          (λ t stands kept can first. low_next t.lots c.loop-part.gathered.next i (length parts) low can.1 (first can.0)))
          (Ok c.gather_lot.new.gathered) _ (λ t stands kept room first. tt);
      outside = λ none. c.in_ok-gather_lot.ensures.outside (c.loop-part.invariant.outside none);
      fits = c.in_ok-gather_lot.ensures.fits c.loop-part.invariant.fits;
    }

pub returns-clause-looks : goal.returns-clause-looks
returns-clause-looks g c =
    subst (λ left. LooksUp (state g.S.Store c.args.conn.now) (state g.S.Store c.loop-part.conn) (Ok c.loop-part.gathered) (λ t gathered. IsNext c.args.known lot_key t.lots → AreLots t.lots c.args.kept.now → ArePutIn t.lots c.args.parts.now left gathered))
    (drop_all c.loop-part.part-index c.args.parts.now (omega (arith, c.loop-part-test.false)))
    c.loop-part.invariant.looks

pub returns-in_err-next-clause-blames : goal.returns-in_err-next-clause-blames
returns-in_err-next-clause-blames g c =
    let s0 = state g.S.Store c.args.conn.now in
    let s1 = state g.S.Store c.next_lot_number.new.conn in
    let same : c.from_residual.result ≡ Err c.in_err-next.field-0.0 = search rules in
    blames_err s0 s1 c.in_err-next.field-0.0 c.from_residual.result _ same (blames_so s0 s1 (Err c.in_err-next.field-0.0) _ _ c.in_err-next.ensures.blames (λ t stands kept can n is. let left = can.1 n is in omega (arith, left)))

pub returns-in_err-gather_lot-clause-blames : goal.returns-in_err-gather_lot-clause-blames
returns-in_err-gather_lot-clause-blames g c =
    let s0 = state g.S.Store c.args.conn.now in
    let s1 = state g.S.Store c.loop-part.conn in
    let s2 = state g.S.Store c.gather_lot.new.conn in
    let parts = c.args.parts.now in
    let i = c.loop-part.part-index in
    let low : i < length parts = omega (arith, c.loop-part-test.true) in
    let same : c.from_residual-in_err-gather_lot.result ≡ Err c.in_err-gather_lot.field-0.0 = search rules in
    blames_err s0 s2 c.in_err-gather_lot.field-0.0 c.from_residual-in_err-gather_lot.result _ same
    (blames_then s0 s1 s2 c.loop-part.gathered _ c.loop-part.invariant.next _ c.loop-part.invariant.blames (Err c.in_err-gather_lot.field-0.0) _ c.in_err-gather_lot.ensures.looks _ c.in_err-gather_lot.ensures.blames _
    (λ t stands kept can first. low_next t.lots c.loop-part.gathered.next i (length parts) low can.1 (first can.0)))

pub returns-in_err-next-clause-looks : goal.returns-in_err-next-clause-looks
returns-in_err-next-clause-looks g c =
    let bad : IsErr c.from_residual.result = search rules in
    looks_failed (state g.S.Store c.args.conn.now) (state g.S.Store c.next_lot_number.new.conn) (Err c.in_err-next.field-0.0) c.from_residual.result _ _ bad c.in_err-next.ensures.looks

pub returns-in_err-next-clause-outside : goal.returns-in_err-next-clause-outside
returns-in_err-next-clause-outside g c = c.in_err-next.ensures.outside

pub returns-in_err-next-clause-fits : goal.returns-in_err-next-clause-fits
returns-in_err-next-clause-fits g c =
    let bad : IsErr c.from_residual.result = search rules in
    none_made c.from_residual.result (λ gathered. All ChangeFits gathered.changes.items) bad

pub returns-in_err-gather_lot-clause-looks : goal.returns-in_err-gather_lot-clause-looks
returns-in_err-gather_lot-clause-looks g c =
    let s0 = state g.S.Store c.args.conn.now in
    let s1 = state g.S.Store c.loop-part.conn in
    let s2 = state g.S.Store c.gather_lot.new.conn in
    let bad : IsErr c.from_residual-in_err-gather_lot.result = search rules in
    looks_failed s0 s2 (Err c.in_err-gather_lot.field-0.0) c.from_residual-in_err-gather_lot.result _ _ bad (looks_then s0 s1 s2 c.loop-part.gathered (Err c.in_err-gather_lot.field-0.0) _ _ c.loop-part.invariant.looks c.in_err-gather_lot.ensures.looks)

pub returns-in_err-gather_lot-clause-outside : goal.returns-in_err-gather_lot-clause-outside
returns-in_err-gather_lot-clause-outside g c = λ none. c.in_err-gather_lot.ensures.outside (c.loop-part.invariant.outside none)

pub returns-in_err-gather_lot-clause-fits : goal.returns-in_err-gather_lot-clause-fits
returns-in_err-gather_lot-clause-fits g c =
    let bad : IsErr c.from_residual-in_err-gather_lot.result = search rules in
    none_made c.from_residual-in_err-gather_lot.result (λ gathered. All ChangeFits gathered.changes.items) bad

pub returns-clause-blames : goal.returns-clause-blames
returns-clause-blames g c = c.loop-part.invariant.blames

pub returns-clause-outside : goal.returns-clause-outside
returns-clause-outside g c = c.loop-part.invariant.outside

pub returns-clause-fits : goal.returns-clause-fits
returns-clause-fits g c = c.loop-part.invariant.fits
