-- That the rows of a table are in the order of their keys.
use Rattle.std.proofs.Common.{◌<ℤ◌, ◌≡◌, ℕ, ℤ, pos, List, [], ◌∷◌, map, IsTrue, refl, sym, ap, subst, ◌∙◌, Less}
use Rattle.std.specs.List.{AllByRecursion}
use Rattle.sqlite_value.specs.declared.value.Value.TheVariants.{Null, Int, Real, Text, Blob}
use Rattle.sqlite_value.specs.Order.{Row, value_cmp}
use Rattle.sqlite_value.proofs.OrderLemmas.{value_cmp-Int}
use Rattle.sqlite_trees.specs.declared.store.Shape.{Shape}
use Rattle.sqlite_trees.specs.declared.store.Shape.TheVariants as shape
use Rattle.sqlite_trees.specs.Tree.{Trees, rowid, IsTable}
use Rattle.sqlite_trees.specs.View.{IsShaped, IsOrdered, is_int}
use Rattle.sqlite_trees.specs.Objects.{catalog_tree, IsListed}
use Rattle.sqlite_schema.specs.declared.schema.Schema.{Schema}
use Rattle.sqlite_schema.specs.declared.schema.Table.{Table}
use Rattle.sqlite_catalog.specs.Listing.{IsSound}
use Rattle.sqlite_catalog.proofs.LayoutLemmas.{laid_out}
use Rattle.sqlite_keyed.specs.Keyed.{IsKeyedBy}
use Rattle.sqlite_keyed.proofs.KeyedLemmas.{lt_from_Less, Less-from_lt}
use Rattle.sqlite_keyed.proofs.ListLemmas.{all_weaker, all-map, ascending-map, ascending_weaker}
use Rattle.sqlite.specs.Effect.{Database}
use Rattle.goo_tables_rows.specs.Rows.{Tables, kept_key, meta_row, holder_row, account_row, account_key, device_row, declaration_row, declaration_key, lot_row, lot_key, piece_row, piece_key, peer_row, receipt_row, cancellation_row, cancellation_key, withdrawal_row, withdrawal_key, notice_out_row, notice_out_key, notice_in_row, correction_row, correction_key, device_carrier_row, lot_carrier_row, lot_carrier_key}
use Rattle.goo_tables_rows.specs.Stands.{Stands, Keeps}
use Rattle.goo_tables_rows.specs.Met.{IsInKeyOrder, Keyed, whole, keyed_of}

-- Trees that are listed and ordered as a store keeps them, which `listed` and `ordered`, laws of `Alter` and `Store`, say of any store that is not broken.
pub in_key_order : (shapes : ℕ → Shape) (reals : ℕ → ℕ) (trees : Trees) (schema : Schema) → IsListed (trees catalog_tree) shapes reals → IsOrdered shapes trees → IsSound schema trees
    → IsInKeyOrder (record { schema = schema; trees = trees })
in_key_order shapes reals trees schema listed ordered sound =
    all_weaker (λ (t : Table). shapes t.tree ≡ shape.Table) (λ t. IsShaped shape.Table (trees t.tree)) (λ t is. subst (λ s. IsShaped s (trees t.tree)) is (ordered t.tree))
    schema.tables (laid_out listed (subst (λ s. IsShaped s (trees catalog_tree)) listed.itself.0 (ordered catalog_tree)) sound.lists.listed).tables

wholes : (rows : List Row) → AllByRecursion (λ r. IsTrue (is_int (rowid r))) rows → rows ≡ map whole (map keyed_of rows)
wholes [] all = refl
wholes ([] ∷ rows) all = absurd (let e = all.0 in cc)
wholes ((Int n ∷ vs) ∷ rows) all = ap (λ l. (Int n ∷ vs) ∷ l) (wholes rows all.1)
wholes ((Null ∷ vs) ∷ rows) all = absurd (let e = all.0 in cc)
wholes ((Real x ∷ vs) ∷ rows) all = absurd (let e = all.0 in cc)
wholes ((Text x ∷ vs) ∷ rows) all = absurd (let e = all.0 in cc)
wholes ((Blob x ∷ vs) ∷ rows) all = absurd (let e = all.0 in cc)

below : Keyed → Keyed → Type 0
below a b = value_cmp (Int a.0) (Int b.0) ≡ Less

rising_wholes : (ks : List Keyed) → IsTable (map whole ks) → IsKeyedBy (λ k. k.0) ks
rising_wholes [] up = tt
rising_wholes (k ∷ ks) up = (go ks up.0, rising_wholes ks up.1)
  where
    go : (js : List Keyed) → AllByRecursion (λ r. value_cmp (rowid (whole k)) (rowid r) ≡ Less) (map whole js) → AllByRecursion (λ (j : Keyed). k.0 <ℤ j.0) js
    go [] all = tt
    go (j ∷ js) all = (lt_from_Less k.0 j.0 (sym (value_cmp-Int k.0 j.0) ∙ all.0), go js all.1)

-- the rows of a table, each as its rowid and its columns
pub keyed_rows : (rows : List Row) → IsShaped shape.Table rows → (rows ≡ map whole (map keyed_of rows)) × IsKeyedBy (λ k. k.0) (map keyed_of rows)
keyed_rows rows shaped =
    let same = wholes rows shaped.1 in
    (same, rising_wholes (map keyed_of rows) (subst IsTable same shaped.0))

-- ---- tables that stand for lists are in that order

module _ {X : Type 0} (to_row : X → Row) (key : X → ℤ) (ids : (x : X) → rowid (to_row x) ≡ Int (key x)) where
  shaped_list : (xs : List X) → IsKeyedBy key xs → IsShaped shape.Table (map to_row xs)
  shaped_list xs up = (
    ascending-map (λ a b. value_cmp (rowid a) (rowid b) ≡ Less) to_row xs
        (ascending_weaker _ (λ a b. value_cmp (rowid (to_row a)) (rowid (to_row b)) ≡ Less) (λ a b h. rw (ids a, ids b) (value_cmp-Int (key a) (key b) ∙ Less-from_lt (key a) (key b) h)) xs up),
    all-map (λ r. IsTrue (is_int (rowid r))) to_row (λ x. rw (ids x) refl) xs,
  )

  shaped_kept : (rows : List Row) (xs : List X) → Keeps rows to_row key xs → IsShaped shape.Table rows
  shaped_kept rows xs it = subst (IsShaped shape.Table) (sym it.are) (shaped_list xs it.rise)

pub in_key_order_kept : (db : Database) (t : Tables) → Stands db t → IsInKeyOrder db
in_key_order_kept db t it =
    subst (λ (s : Schema). AllByRecursion (λ (u : Table). IsShaped shape.Table (db.trees u.tree)) s.tables) (sym it.schema)
    (subst (IsShaped shape.Table) (sym it.meta) (shaped_list meta_row (λ _. pos 1) (λ _. refl) (t.meta ∷ []) (tt, tt)), (shaped_kept holder_row kept_key (λ _. refl) (db.trees 1) t.holders it.holders, (shaped_kept account_row account_key (λ _. refl) (db.trees 3) t.accounts it.accounts, (shaped_kept device_row kept_key (λ _. refl) (db.trees 4) t.devices it.devices, (shaped_kept declaration_row declaration_key (λ _. refl) (db.trees 6) t.declarations it.declarations, (shaped_kept lot_row lot_key (λ _. refl) (db.trees 8) t.lots it.lots, (shaped_kept piece_row piece_key (λ _. refl) (db.trees 10) t.pieces it.pieces, (shaped_kept peer_row kept_key (λ _. refl) (db.trees 11) t.peers it.peers, (shaped_kept receipt_row kept_key (λ _. refl) (db.trees 13) t.receipts it.receipts, (shaped_kept cancellation_row cancellation_key (λ _. refl) (db.trees 15) t.cancellations it.cancellations, (shaped_kept withdrawal_row withdrawal_key (λ _. refl) (db.trees 16) t.withdrawals it.withdrawals, (shaped_kept notice_out_row notice_out_key (λ _. refl) (db.trees 17) t.notices_out it.notices_out, (shaped_kept notice_in_row kept_key (λ _. refl) (db.trees 18) t.notices_in it.notices_in, (shaped_kept correction_row correction_key (λ _. refl) (db.trees 22) t.corrections it.corrections, (shaped_kept device_carrier_row kept_key (λ _. refl) (db.trees 23) t.device_carriers it.device_carriers, (shaped_kept lot_carrier_row lot_carrier_key (λ _. refl) (db.trees 25) t.lot_carriers it.lot_carriers, tt))))))))))))))))
