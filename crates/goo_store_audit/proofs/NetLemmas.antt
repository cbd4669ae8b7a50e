-- The declarations are added up page by page.
use Rattle.std.proofs.Common.{◌≡◌, ◌≤◌, ◌<◌, ◌+◌, ◌*◌, ◌-◌, ◌^◌, ◌++◌, ◌<ℤ◌, ℕ, ℤ, pos, Bool, true, cond, IsTrue, All, List, [], ◌∷◌, map, take, refl, sym, ap, subst, ◌∙◌, arith}
use Rattle.std.specs.Prelude.{sum_by}
use Rattle.std.specs.BTreeMap.{BTreeMap}
use Rattle.std.specs.List.{AllByRecursion, list_all}
use Rattle.std.specs.Str.{bytes_eq}
use Rattle.std.proofs.lemmas.Int.{ints}
use Rattle.std.proofs.lemmas.List.Elements.{All-nil, All-cons, All-head, All-tail, All-take, All-filter}
use Rattle.std.proofs.lemmas.List.Sums.{sum_by-cons, sum_by-append}
use Rattle.sqlite_keyed.specs.Keyed.{IsKeyedBy}
use Rattle.sqlite_keyed.proofs.ListLemmas.{all_weaker}
use Rattle.sqlite_keyed.proofs.RuleLemmas.{first_of_both, second_of_both}
use Rattle.goo_types.specs.Gsrn.{gsrn_reading}
use Rattle.goo_spec.specs.Energy.{net_of}
use Rattle.goo_spec_tables.specs.Devices.{declaration_of}
use Rattle.goo_spec_tables.specs.Readable.{reads, is_declaration}
use Rattle.goo_spec_tables.specs.States.{state_of}
use Rattle.goo_store_audit.specs.NetCounting.{net_by, AreNets, end_of_nets, AreNetsAdded, declared_from, net_of_row, IsNetPageAdded, IsDeclaredTo}
use Rattle.goo_store_audit.specs.Summing.{AreDeclaredBy}
use Rattle.goo_store_audit.proofs.CountingLemmas.{cond_most}
use Rattle.goo_store_audit.proofs.Paging.{IsSpacedFrom, above, ending, from_spaced, none_left, page_sum, sum_by-map, taken_spaced}
use Rattle.goo_store_rules.specs.Summing.{sum_at}
use Rattle.goo_tables_pages.specs.NetRows.{Net, net_in, net_part, net_columns, net_readable}
use Rattle.goo_tables_pages.specs.declared.net.NetRow.{NetRow}
use Rattle.goo_tables_rows.specs.Readable.{declaration_readable}
use Rattle.goo_tables_rows.specs.Rows.{Tables, Declaration, declaration_columns, declaration_key}

-- ---- one row

pub sum_below : (old new low next more : ℕ) (b : Bool) → old ≤ 2 ^ 64 * low → more < 2 ^ 64 → low + 1 ≤ next → new ≡ old + cond b more 0 → new ≤ 2 ^ 64 * next
sum_below old new low next more b before small up is = let few = cond_most b more in omega (arith, before, small, up, is, few)

pub net_alone : (n : Net) (q : List ℕ) (old new more : ℕ) → more ≡ n.gross - n.aux → new ≡ old + cond (bytes_eq n.device q) more 0 → new ≡ old + sum_by (net_by q) (n ∷ [])
net_alone n q old new more counts is =
    let one = sum_by-cons (net_by q) n [] in
    let more_is = is ∙ ap (λ m. old + cond (bytes_eq n.device q) m 0) counts in
    omega (arith, one, more_is)

-- ---- rows, one after another

nets_push : (rows : List NetRow) (row : NetRow) → map net_in (rows ++ row ∷ []) ≡ map net_in rows ++ net_in row ∷ []
nets_push [] row = refl
nets_push (x ∷ rows) row = ap (λ l. net_in x ∷ l) (nets_push rows row)

pub no_nets : (sums : BTreeMap (List ℕ) ℕ) → AreNetsAdded [] sums sums
no_nets sums q = omega arith

pub nets_added : (rows : List NetRow) (row : NetRow) (old mid new : BTreeMap (List ℕ) ℕ) → AreNetsAdded (map net_in rows) old mid → AreNetsAdded (net_in row ∷ []) mid new → AreNetsAdded (map net_in (rows ++ row ∷ [])) old new
nets_added rows row old mid new first second = subst (λ l. AreNetsAdded l old new) (sym (nets_push rows row)) (λ q.
    let both = sum_by-append (net_by q) (map net_in rows) (net_in row ∷ []) in
    let one = first q in
    let two = second q in
    omega (arith, both, one, two))

-- ---- the declarations of a page, and those after it

abbrev number : Declaration → ℕ
number d = d.id

beyond : (a b : ℕ) → pos a <ℤ pos b → a + 1 ≤ b
beyond a b below = omega (arith, ints, below)

spaced_from : (low : ℕ) (ds : List Declaration) → AllByRecursion (λ d. low ≤ d.id) ds → IsKeyedBy declaration_key ds → IsSpacedFrom number number low ds
spaced_from low [] all keyed = tt
spaced_from low (d ∷ ds) all keyed =
    (all.0, omega arith, spaced_from (d.id + 1) ds (all_weaker (λ e. declaration_key d <ℤ declaration_key e) (λ e. d.id + 1 ≤ e.id) (λ e h. beyond d.id e.id h) ds keyed.0) keyed.1)

all_from_0 : (ds : List Declaration) → AllByRecursion (λ d. 0 ≤ d.id) ds
all_from_0 [] = tt
all_from_0 (d ∷ ds) = (omega arith, all_from_0 ds)

pub spaced : (ds : List Declaration) → IsKeyedBy declaration_key ds → IsSpacedFrom number number 0 ds
spaced ds keyed = spaced_from 0 ds (all_from_0 ds) keyed

ends_same : (low : ℕ) (ds : List Declaration) → end_of_nets low (map net_part ds) ≡ ending number number low ds
ends_same low [] = refl
ends_same low (d ∷ ds) = ends_same (d.id + 1) ds

module _ (ds : List Declaration) (keyed : IsKeyedBy declaration_key ds) (low : ℕ) where
  abbrev shown : List Declaration
  shown = take 256 (declared_from low ds)

  abbrev next : ℕ
  next = ending number number low shown

  page_is_added : (old new : BTreeMap (List ℕ) ℕ) → AreNetsAdded (map net_part shown) old new → IsNetPageAdded ds low next old new
  page_is_added old new it = record {
    sums = λ q.
        let parts = page_sum number number low ds (spaced ds keyed) (net_of_row q) in
        let same = sum_by-map (net_by q) net_part shown in
        let more = it q in
        omega (arith, parts, same, more);
    none_left = none_left number number low ds (spaced ds keyed);
  }

  pub net_page_added : (old new : BTreeMap (List ℕ) ℕ) (nets : List Net) (last : ℕ) → nets ≡ map net_part shown → last ≡ end_of_nets low nets → AreNetsAdded nets old new → IsNetPageAdded ds low last old new
  net_page_added old new nets last are is it =
      subst (λ n. IsNetPageAdded ds low n old new) (sym (is ∙ ap (end_of_nets low) are ∙ ends_same low shown)) (page_is_added old new (subst (λ l. AreNetsAdded l old new) are it))

-- ---- what the rules of the tables say of the rows that are shown

of_device : (d : Declaration) → is_declaration d ≡ true → IsTrue (reads (gsrn_reading d.device))
of_device d good = first_of_both (reads (gsrn_reading d.device)) _ good

nets_of : (low : ℕ) (ds : List Declaration) → All (λ d. is_declaration d ≡ true) ds → IsSpacedFrom number number low ds → AreNets low (map net_part ds)
nets_of low [] all spaced = tt
nets_of low (d ∷ ds) all spaced =
    ((of_device d (All-head (λ e. is_declaration e ≡ true) d ds all), omega (arith, spaced.0)), nets_of (d.id + 1) ds (All-tail (λ e. is_declaration e ≡ true) d ds all) spaced.2)

each_good : (ds : List Declaration) → list_all is_declaration ds ≡ true → All (λ d. is_declaration d ≡ true) ds
each_good [] good = All-nil (λ d. is_declaration d ≡ true)
each_good (d ∷ ds) good = All-cons (λ e. is_declaration e ≡ true) d ds (first_of_both (is_declaration d) (list_all is_declaration ds) good) (each_good ds (second_of_both (is_declaration d) (list_all is_declaration ds) good))

pub nets_shown : (ds : List Declaration) → IsKeyedBy declaration_key ds → list_all is_declaration ds ≡ true → (low : ℕ) (rows : List NetRow) → map net_in rows ≡ map net_part (take 256 (declared_from low ds)) → AreNets low (map net_in rows)
nets_shown ds keyed good low rows is =
    subst (AreNets low) (sym is)
    (nets_of low (take 256 (declared_from low ds)) (All-take (λ d. is_declaration d ≡ true) 256 (declared_from low ds) (All-filter _ (λ d. is_declaration d ≡ true) ds (each_good ds good)))
    (taken_spaced number number 256 low (declared_from low ds) (from_spaced number number low 0 ds (spaced ds keyed))))

net_read : (d : Declaration) → declaration_readable (declaration_columns d) → net_readable (net_columns (net_part d))
net_read d can = (omega arith, (pos d.id, refl), can.2, can.5, can.6)

pub nets_read : (ds : List Declaration) → All declaration_readable (map (λ (d : Declaration). declaration_columns d) ds) → All net_readable (map (λ (d : Declaration). net_columns (net_part d)) ds)
nets_read [] all = All-nil net_readable
nets_read (d ∷ ds) all =
    All-cons net_readable (net_columns (net_part d)) (map (λ (e : Declaration). net_columns (net_part e)) ds) (net_read d (All-head declaration_readable (declaration_columns d) (map (λ (e : Declaration). declaration_columns e) ds) all))
    (nets_read ds (All-tail declaration_readable (declaration_columns d) (map (λ (e : Declaration). declaration_columns e) ds) all))

-- ---- page after page

module _ (ds : List Declaration) where
  pub declaring_begins : IsKeyedBy declaration_key ds → (next : ℕ) (old new : BTreeMap (List ℕ) ℕ) → ((q : List ℕ) → sum_at old q ≡ 0) → IsNetPageAdded ds 0 next old new → IsDeclaredTo ds 0 next new
  declaring_begins keyed next old new nothing it =
      let all = above number number 0 0 ds (omega arith) (spaced ds keyed) in record {
        sums_to = λ q.
            let more = it.sums q in
            let none = nothing q in
            let whole = ap (sum_by (net_of_row q)) all in
            omega (arith, more, none, whole);
        none_left = it.none_left;
      }

  pub declaring_goes : (before low next : ℕ) (old new : BTreeMap (List ℕ) ℕ) → IsDeclaredTo ds before low old → IsNetPageAdded ds low next old new → IsDeclaredTo ds low next new
  declaring_goes before low next old new so it = record {
    sums_to = λ q.
        let more = it.sums q in
        let until = so.sums_to q in
        omega (arith, more, until);
    none_left = it.none_left;
  }

pub declaring_ends : (t : Tables) (low next : ℕ) (sums : BTreeMap (List ℕ) ℕ) → next ≤ low → IsDeclaredTo t.declarations low next sums → AreDeclaredBy (state_of t).declarations sums
unfolding state_of
declaring_ends t low next sums few so q =
    let until = so.sums_to q in
    let rest = ap (sum_by (net_of_row q)) (so.none_left few) in
    let same = sum_by-map (net_of q) declaration_of t.declarations in
    omega (arith, until, rest, same)
