-- That own lots and corrections were declared, judged over texts of days, as a test on what the tables make known.
use Rattle.std.proofs.Common.{◌≡◌, ℕ, true, not, ◌&&◌, ◌||◌, List, map, string_bytes, refl, sym, ap, ◌∙◌, ◌==◌}
use Rattle.std.specs.declared.cmp.Ordering.{Ordering}
use Rattle.std.specs.declared.cmp.Ordering.TheVariants.{Less, Equal, Greater}
use Rattle.std.specs.List.{list_any, list_all}
use Rattle.std.specs.Ordering.{eq_by_cmp, is_eq, ordering_then}
use Rattle.std.specs.Bool.{one_answer}
use Rattle.std.proofs.lemmas.Bool.{and_parts}
use Rattle.std.proofs.lemmas.List.Folds.{list_all-map}
use Rattle.sqlite_keyed.proofs.ListLemmas.{all_weaker, all_from_test}
use Rattle.sqlite_keyed.proofs.SliceLemmas.{list_all_same, list_any_same}
use Rattle.goo_types.specs.Day.{day_reading}
use Rattle.goo_types.specs.Gsrn.{gsrn_reading}
use Rattle.goo_types.proofs.LotLemmas.{Decides-same_day}
use Rattle.goo_spec.specs.Lots.{same_day}
use Rattle.goo_spec.specs.State.{text_cmp}
use Rattle.goo_spec.specs.Energy.{begins, corrects}
use Rattle.goo_spec.specs.Sound.{declares}
use Rattle.goo_tables_rows.specs.Rows.{Tables, Declaration, Correction, lot_in, declaration_in, correction_in}
use Rattle.goo_store_open.specs.Found.{AreOf}
use Rattle.goo_store_open.specs.declared.finding.Found.{Found}
use Rattle.goo_spec_tables.specs.Devices.{declaration_of}
use Rattle.goo_spec_tables.specs.Places.{lot_of}
use Rattle.goo_spec_tables.specs.Readable.{reads, is_lot, is_declaration, is_correction}
use Rattle.goo_spec_tables.specs.Records.{correction_of}
use Rattle.goo_spec_tables.specs.Texts.{day_of}
use Rattle.goo_spec_tables.proofs.Known.{text_same, text_itself}
use Rattle.goo_store_rules.specs.WellKept.{has_declaration, is_declared, text_pair_cmp}
use Rattle.goo_store_rules.proofs.EachRow.{list_any-map}
use Rattle.goo_store_rules.proofs.KeptValues.{rows_same, lots_same}
use Rattle.goo_store_rules.proofs.KeptKeys.{one_day, first_day_reads}
use Rattle.goo_store_rules.proofs.NamesRead.{str_test}

pub both_equal : (r s : Ordering) → is_eq (ordering_then r s) ≡ (is_eq r && is_eq s)
both_equal Less s = refl
both_equal Equal s = refl
both_equal Greater s = refl

-- days are the same just where their texts are
days_test : (a b : List ℕ) → reads (day_reading a) ≡ true → reads (day_reading b) ≡ true → eq_by_cmp text_cmp b a ≡ same_day (day_of a) (day_of b)
days_test a b is other =
    one_answer {P = day_of a ≡ day_of b} (eq_by_cmp text_cmp b a) (same_day (day_of a) (day_of b))
    (λ same. ap day_of (sym (text_same b a same)), λ same. text_itself b a (sym (one_day a b is other same)))
    (Decides-same_day (day_of a) (day_of b))

begins_readable : (d : Declaration) → is_declaration d ≡ true → reads (day_reading d.first_day) ≡ true
begins_readable d is = (and_parts (reads (day_reading d.first_day)) _ (and_parts (reads (gsrn_reading d.device)) _ is).1).0

module _ (device first_day : List ℕ) (is : reads (day_reading first_day) ≡ true) where
  begins_test : (d : Declaration) → is_declaration d ≡ true → eq_by_cmp text_pair_cmp (device, first_day) (d.device, d.first_day) ≡ begins device (day_of first_day) (declaration_of d)
  begins_test d read =
      both_equal (text_cmp device d.device) (text_cmp first_day d.first_day)
      ∙ (λ i. sym (str_test d.device device) i && days_test d.first_day first_day (begins_readable d read) is i)

  declared_test : (ds : List Declaration) → list_all is_declaration ds ≡ true → has_declaration ds device first_day ≡ list_any (begins device (day_of first_day)) (map declaration_of ds)
  declared_test ds all =
      list_any_same (λ d. eq_by_cmp text_pair_cmp (device, first_day) (d.device, d.first_day)) (λ d. begins device (day_of first_day) (declaration_of d)) ds
      (all_weaker _ _ begins_test ds (all_from_test is_declaration ds all))
      ∙ sym (list_any-map (begins device (day_of first_day)) declaration_of ds)

-- each own lot was declared
pub declared_rule : (t : Tables) (x : Found) → AreOf t x → list_all is_lot t.lots ≡ true → list_all is_declaration t.declarations ≡ true
    → list_all (λ r. is_declared (has_declaration (map declaration_in x.rows.production.declarations.items)) x.meta.code (lot_in r)) x.rows.production.lots.items
    ≡ list_all (λ l. not (l.origin == t.meta.code) || list_any (declares (lot_of l)) (map declaration_of t.declarations)) t.lots
declared_rule t x are lots declarations =
    lots_same (is_declared (has_declaration (map declaration_in x.rows.production.declarations.items)) x.meta.code) x.rows.production.lots.items t.lots are.lots
    ∙ (λ i. list_all (is_declared (has_declaration (are.declarations i)) (are.meta i).code) t.lots)
    ∙ list_all_same (is_declared (has_declaration t.declarations) t.meta.code) (λ l. not (l.origin == t.meta.code) || list_any (declares (lot_of l)) (map declaration_of t.declarations)) t.lots
    (all_weaker _ _ (λ l read. ap (λ b. not (l.origin == t.meta.code) || b) (declared_test l.device l.first_day (first_day_reads l read) t.declarations declarations)) t.lots (all_from_test is_lot t.lots lots))

corrected_day : (c : Correction) → is_correction c ≡ true → reads (day_reading c.first_day) ≡ true
corrected_day c is = (and_parts (reads (day_reading c.first_day)) _ (and_parts (reads (gsrn_reading c.device)) _ is).1).0

-- each correction is of a declaration
pub corrected_rule : (t : Tables) (x : Found) → AreOf t x → list_all is_correction t.corrections ≡ true → list_all is_declaration t.declarations ≡ true
    → list_all (λ r. has_declaration (map declaration_in x.rows.production.declarations.items) (string_bytes r.device) (string_bytes r.first_day)) x.rows.production.corrections.items
    ≡ list_all (λ c. list_any (λ x. corrects x c) (map declaration_of t.declarations)) (map correction_of t.corrections)
corrected_rule t x are corrections declarations =
    rows_same (λ c. has_declaration (map declaration_in x.rows.production.declarations.items) c.device c.first_day) correction_in x.rows.production.corrections.items t.corrections are.corrections
    ∙ (λ i. list_all (λ c. has_declaration (are.declarations i) c.device c.first_day) t.corrections)
    ∙ list_all_same (λ c. has_declaration t.declarations c.device c.first_day) (λ c. list_any (λ x. corrects x (correction_of c)) (map declaration_of t.declarations)) t.corrections
    (all_weaker _ _ (λ c read. declared_test c.device c.first_day (corrected_day c read) t.declarations declarations) t.corrections (all_from_test is_correction t.corrections corrections))
    ∙ sym (list_all-map (λ c. list_any (λ x. corrects x c) (map declaration_of t.declarations)) correction_of t.corrections)
