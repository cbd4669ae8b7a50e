use Rattle.std.proofs.Common.{rules, ◌≡◌, ◌∙◌, ◌+◌, ℕ, Err, ap, arith, get_or, subst, sym, take}
use Rattle.sqlite.specs.Held.{state}
use Rattle.goo_tables_rows.specs.Refused.{IsFault}
use Rattle.goo_tables_rows.specs.Stands.{Sees}
use Rattle.goo_tables_rows.proofs.Inside.{fold_more}
use Rattle.goo_store_changes.specs.Changes.{made, made_all, ChangeFits, IsFor, HaveRoom}
use Rattle.goo_store_changes.specs.declared.table_change.TableChange.TheVariants.{DeletePiece, InsertPiece}
use Rattle.goo_store_changes.proofs.Endings.{or_full}
use Rattle.goo_store_changes.proofs.Pairing.{after_both, are_free, have_room}
use Rattle.goo_store_changes.proofs.table_change.make_at.Goals as goal

pub replace_piece-requires : goal.replace_piece-requires
replace_piece-requires g c =
    let d = InsertPiece c.in-Some.row in
    let met = c.in-Some.ensures d in
    subst ChangeFits met.2 (c.requires.fits (c.args.at + 1) d met.1)

pub returns-in-Some-clause-step : goal.returns-in-Some-clause-step
returns-in-Some-clause-step g c =
    let met = c.in-Some.ensures (InsertPiece c.in-Some.row) in
    (omega (arith), omega (arith, met.1))

pub returns-in-Some-clause-changed : goal.returns-in-Some-clause-changed
returns-in-Some-clause-changed g c clean t it for =
    let xs = c.args.changes.now in
    let at = c.args.at in
    let d = InsertPiece c.in-Some.row in
    let met = c.in-Some.ensures d in
    let before = made_all t (take at xs) in
    let after = made (made before (DeletePiece c.in-Some.row.first)) d in
    let both : after ≡ made (made before (get_or xs at d)) (get_or xs (at + 1) d) = ap (λ x. made (made before x) d) (sym met.0) ∙ ap (made (made before (get_or xs at d))) (sym met.2) in
    let there = ap (λ u. made u (get_or xs (at + 1) d)) (fold_more made t xs at d c.requires.here) ∙ fold_more made t xs (at + 1) d met.1 in
    let seen : Sees (state g.S.Store c.replace_piece.new.tx.conn.now) after = c.in_ok-replace_piece.ensures.changed clean before it in
    let two : at + 1 + 1 ≡ at + 2 = omega (arith) in
    subst (λ n. Sees (state g.S.Store c.replace_piece.new.tx.conn.now) (made_all t (take n xs))) two (subst (Sees (state g.S.Store c.replace_piece.new.tx.conn.now)) (both ∙ there) seen)

pub insert_two_pieces-requires-clause-first_fits : goal.insert_two_pieces-requires-clause-first_fits
insert_two_pieces-requires-clause-first_fits g c =
    let d = InsertPiece c.in-Some-inserted_pair.first in
    subst ChangeFits (c.in-Some-inserted_pair.ensures d).0 (c.requires.fits c.args.at d c.requires.here)

pub insert_two_pieces-requires-clause-second_fits : goal.insert_two_pieces-requires-clause-second_fits
insert_two_pieces-requires-clause-second_fits g c =
    let d = InsertPiece c.in-Some-inserted_pair.second in
    let met = c.in-Some-inserted_pair.ensures d in
    subst ChangeFits met.2 (c.requires.fits (c.args.at + 1) d met.1)

pub returns-in_err-insert_two_pieces-in-Some-inserted_pair-clause-refused : goal.returns-in_err-insert_two_pieces-in-Some-inserted_pair-clause-refused
returns-in_err-insert_two_pieces-in-Some-inserted_pair-clause-refused g c clean live unlimited t it free =
    let xs = c.args.changes.now in
    let at = c.args.at in
    let x = c.in-Some-inserted_pair.first in
    let y = c.in-Some-inserted_pair.second in
    let d = InsertPiece x in
    let met = c.in-Some-inserted_pair.ensures d in
    let failed = c.in_err-insert_two_pieces-in-Some-inserted_pair.ensures.refused clean live unlimited (made_all t (take at xs)) it (are_free t xs at x y d c.requires.here met free.1) in
    let told = or_full {X = ℕ} (IsFault (state g.S.Store c.args.tx.now.conn.now) (state g.S.Store c.insert_two_pieces.new.tx.conn.now)) (Err (c.in_err-insert_two_pieces-in-Some-inserted_pair).field-0.0) (HaveRoom t xs) _
    (have_room t xs at x y d c.requires.here met) failed in
    search rules

pub returns-in_ok-insert_two_pieces-in-Some-inserted_pair-clause-step : goal.returns-in_ok-insert_two_pieces-in-Some-inserted_pair-clause-step
returns-in_ok-insert_two_pieces-in-Some-inserted_pair-clause-step g c =
    let met = c.in-Some-inserted_pair.ensures (InsertPiece c.in-Some-inserted_pair.first) in
    (omega (arith), omega (arith, met.1))

pub returns-in_ok-insert_two_pieces-in-Some-inserted_pair-clause-changed : goal.returns-in_ok-insert_two_pieces-in-Some-inserted_pair-clause-changed
returns-in_ok-insert_two_pieces-in-Some-inserted_pair-clause-changed g c clean t it for =
    let xs = c.args.changes.now in
    let at = c.args.at in
    let x = c.in-Some-inserted_pair.first in
    let y = c.in-Some-inserted_pair.second in
    let d = InsertPiece x in
    subst (Sees (state g.S.Store c.insert_two_pieces.new.tx.conn.now)) (after_both t xs at x y d c.requires.here (c.in-Some-inserted_pair.ensures d))
    (c.in_ok-insert_two_pieces-in-Some-inserted_pair.ensures.changed clean (made_all t (take at xs)) it)

pub returns-in_ok-make-in-None-clause-changed : goal.returns-in_ok-make-in-None-clause-changed
returns-in_ok-make-in-None-clause-changed g c clean t it for =
    let xs = c.args.changes.now in
    let at = c.args.at in
    let item = c.index-changes-at.result in
    let before = made_all t (take at xs) in
    let fits = subst (IsFor before) (sym c.index-changes-at.is) (for at item c.requires.here) in
    subst (Sees (state g.S.Store c.make.new.tx.conn.now)) (ap (made before) c.index-changes-at.is ∙ fold_more made t xs at item c.requires.here) (c.in_ok-make-in-None.ensures.changed clean before it fits)
