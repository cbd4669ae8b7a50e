-- The rows of both kinds of tables together.
use Rattle.std.proofs.Common.{◌≡◌, ℤ, List, [], map, Ok, Err, refl, sym, subst}
use Rattle.sqlite.specs.State.{State}
use Rattle.sqlite.specs.Order.{Row}
use Rattle.sqlite.specs.declared.error.Error.{Error}
use Rattle.goo_tables_rows.specs.Rows.{Kept}
use Rattle.goo_tables_rows.specs.Stands.{Keeps}
use Rattle.goo_tables_rows.specs.Met.{KeepsSome}
use Rattle.goo_store_open.specs.Reading.{OnlyReads}
use Rattle.goo_store_open.specs.Shown.{ShowsCommon, ShowsLater, ShowsAll, rows_of_both}
use Rattle.goo_store_open.specs.declared.layout.Layout.{Layout}
use Rattle.goo_store_open.specs.declared.layout.Layout.TheVariants.{First, Ours}
use Rattle.goo_store_open.specs.declared.reading.Common.{Common}
use Rattle.goo_store_open.specs.declared.reading.Later.{Later}
use Rattle.goo_store_open.specs.declared.rows.AllRows.{AllRows}
use Rattle.goo_store_open.proofs.Chaining.{reads_then, reads_failed, reads_made}

-- a table without a row
none_kept : {X Y : Type 0} (to_row : X → Row) (key : X → ℤ) (value : Y → X) (ys : List Y) → ys ≡ [] → Keeps [] to_row key (map value ys)
none_kept to_row key value ys none = subst (λ (l : List _). Keeps [] to_row key (map value l)) (sym none) (record { are = refl; rise = tt })

none_some : {X Y : Type 0} (to_row : Kept X → Row) (value : Y → X) (ys : List Y) → ys ≡ [] → KeepsSome [] to_row (map value ys)
none_some to_row value ys none = subst (λ (l : List _). KeepsSome [] to_row (map value l)) (sym none) ([], record { are = refl; rise = tt }, refl)

module _ (layout : Layout) (a b : State) (x : Common) (later : Later) (all : AllRows) (same : all ≡ rows_of_both x later) where
  -- tables of version 1 have none of the later rows
  pub first_rows : layout ≡ First → OnlyReads layout a b (Ok x) ShowsCommon → later.corrections.items ≡ [] → later.carriers.devices.items ≡ [] → later.carriers.lots.items ≡ [] → OnlyReads layout a b (Ok all) ShowsAll
  first_rows is reads corrections devices lots = subst (λ (l : Layout). OnlyReads l a b (Ok all) ShowsAll) (sym is)
      (subst (λ (z : AllRows). OnlyReads First a b (Ok z) ShowsAll) (sym same)
      (reads_made First a b x (rows_of_both x later) ShowsCommon ShowsAll (subst (λ (l : Layout). OnlyReads l a b (Ok x) ShowsCommon) is reads) (λ db h. record {
        members = h.members;
        production = record { devices = h.issued.devices; bare_devices = h.issued.bare_devices; declarations = h.issued.declarations; corrections = none_kept _ _ _ later.corrections.items corrections; lots = h.issued.lots; bare_lots = h.issued.bare_lots; pieces = h.issued.pieces };
        acts = h.acts;
        notices = h.notices;
        carriers = record { devices = none_some _ _ later.carriers.devices.items devices; lots = none_kept _ _ _ later.carriers.lots.items lots };
      })))

  pub all_read : (c : State) → layout ≡ Ours → OnlyReads layout a b (Ok x) ShowsCommon → OnlyReads Ours b c (Ok later) ShowsLater → OnlyReads layout a c (Ok all) ShowsAll
  all_read c is one two = subst (λ (l : Layout). OnlyReads l a c (Ok all) ShowsAll) (sym is)
      (subst (λ (z : AllRows). OnlyReads Ours a c (Ok z) ShowsAll) (sym same)
      (reads_made Ours a c later (rows_of_both x later) _ ShowsAll (reads_then Ours a b c x (Ok later) ShowsCommon ShowsLater (subst (λ (l : Layout). OnlyReads l a b (Ok x) ShowsCommon) is one) two) (λ db h. record {
        members = h.0.members;
        production = record { devices = h.0.issued.devices; bare_devices = h.0.issued.bare_devices; declarations = h.0.issued.declarations; corrections = h.1.corrections; lots = h.0.issued.lots; bare_lots = h.0.issued.bare_lots; pieces = h.0.issued.pieces };
        acts = h.0.acts;
        notices = h.0.notices;
        carriers = h.1.carriers;
      })))

-- the later rows weren't read
pub later_failed : (layout : Layout) (a b c : State) (x : Common) (e : Error) → layout ≡ Ours → OnlyReads layout a b (Ok x) ShowsCommon → OnlyReads Ours b c (Err e) ShowsLater → OnlyReads layout a c (Err e) ShowsAll
later_failed layout a b c x e is one two = subst (λ (l : Layout). OnlyReads l a c (Err e) ShowsAll) (sym is)
    (reads_failed Ours a c e _ ShowsAll (reads_then Ours a b c x (Err e) ShowsCommon ShowsLater (subst (λ (l : Layout). OnlyReads l a b (Ok x) ShowsCommon) is one) two))
