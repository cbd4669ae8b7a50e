-- What an import changes in the tables.
use Rattle.std.proofs.Common.{◌≡◌, ℕ, ℤ, suc, ◌+◌, ◌-◌, List, [], ◌∷◌, ◌++◌, Bool, true, false, cond, map, find, fold, is_some, Option, Some, None, refl, ap, sym, subst, ◌∙◌, arith, true≢false, drop, ⊎_elim, inl, inr}
use Rattle.std.specs.Prelude.{get_or, slice_index, All, AllPairs}
use Rattle.std.specs.FinMap.{FinMap, get, insert, from_entries, get-insert, same_map}
use Rattle.std.specs.Ordering.{eq_by_cmp}
use Rattle.std.specs.Cmp.Lexicographic.{nat_list_cmp_total}
use Rattle.std.proofs.lemmas.Bool.{or_parts, not-false}
use Rattle.std.proofs.lemmas.List.Elements.{All-cons, All-head, All-tail}
use Rattle.sqlite_keyed.specs.Keyed.{IsKeyedBy, next_key, insert_by}
use Rattle.sqlite_keyed.proofs.KeyedLemmas.{next_key_is_free}
use Rattle.goo_types.specs.Lot.{IsKnownAs}
use Rattle.goo_types.specs.Notice.{NoticeContents, IsWhole}
use Rattle.goo_types.specs.Part.{GoesBefore}
use Rattle.goo_types.specs.Range.{IsRange}
use Rattle.goo_types.specs.declared.command.Import.{Import}
use Rattle.goo_types.specs.declared.lot_fields.LotFields.{LotFields}
use Rattle.goo_types.specs.declared.part.Part.{Part}
use Rattle.goo_types.proofs.LotLemmas.{Decides-same_lot}
use Rattle.goo_spec.specs.Import.{numbered, number_of, least_where, same_notice, is_other, is_arrived, is_other_lot, differs, import_checks, import_refusal, import_reply, arrived_reply, import_repeats, with_lots, with_import}
use Rattle.goo_spec.specs.Lots.{key_of, same_lot}
use Rattle.goo_spec.specs.Maps.{numbers_from, count_of, each}
use Rattle.goo_spec.specs.State.{State, text_cmp, notice_cmp}
use Rattle.goo_spec.proofs.Checking.{none_fail, passes, unfound}
use Rattle.goo_spec.proofs.Keys.{notices_same}
use Rattle.goo_spec.proofs.Mapping.{inside, get_inserted}
use Rattle.goo_ranges_rows.specs.Certificates.{beside}
use Rattle.goo_tables_rows.specs.Rows.{Tables, Lot, LotCarrier, lot_key, lot_in, kept_key}
use Rattle.goo_tables_rows.specs.Rows as row
use Rattle.goo_tables_rows.specs.declared.lot.LotRow.{LotRow}
use Rattle.goo_tables_accounts.specs.Changes as change
use Rattle.goo_tables_accounts.specs.Changes.{added}
use Rattle.goo_store_plans.specs.Acted.{IsActed}
use Rattle.goo_store_changes.specs.Changes.{made_all}
use Rattle.goo_spec_tables.specs.Kept.{AreKept}
use Rattle.goo_store_plans.specs.NewLots.{known_lots, AreNewLots}
use Rattle.goo_spec_tables.specs.Readable.{is_notice_in}
use Rattle.goo_spec_tables.specs.States.{state_of, known_lot, known_arrival}
use Rattle.goo_store_changes.specs.declared.table_change.TableChange.TheVariants.{AddLot}
use Rattle.goo_store_plans.proofs.CommandsActed.{progress_same, texts_apart}
use Rattle.goo_spec_tables.proofs.Inserted.{all_inserted, map_inserted}
use Rattle.goo_spec_tables.proofs.Known.{notice_total, text_same}
use Rattle.goo_store_plans.proofs.LotsAdded.{AreLotsOf, lots_before, lot_more}

abbrev Lots : Type 0
Lots = FinMap text_cmp LotFields

-- a lot that is known, put in again, is the same map
insert_known : (m : Lots) (k : List ℕ) (lot : LotFields) → get m k ≡ Some lot → insert m k lot ≡ m
insert_known m k lot is = same_map nat_list_cmp_total texts_apart (insert m k lot) m (λ q. get-insert nat_list_cmp_total m k lot q ∙ go q (eq_by_cmp text_cmp q k) refl)
  where
    go : (q : List ℕ) (b : Bool) → eq_by_cmp text_cmp q k ≡ b → cond b (Some lot) (get m q) ≡ get m q
    go q true here = sym is ∙ ap (get m) (sym (text_same q k here))
    go q false there = refl

-- ---- a part's lot is known with the part's contents or not at all

abbrev KnowsNoOther : Lots → Part → Type 0
KnowsNoOther m p = (l : LotFields) → get m (key_of p.lot) ≡ Some l → l ≡ p.lot

pub known_as : (a b : LotFields) → key_of a ≡ key_of b → IsKnownAs a b
known_as a b e = record {
  origin = ap (λ k. slice_index k 0) e;
  device = ap (drop 4) e;
  first_day = λ i. record { year = slice_index (e i) 1; month = slice_index (e i) 2; day = slice_index (e i) 3 };
}

-- so it is after an earlier part's lot was put in
later_knows : (m : Lots) (p q : Part) → KnowsNoOther m q → GoesBefore p q → KnowsNoOther (insert m (key_of p.lot) p.lot) q
later_knows m p q knows before l h = ⊎_elim
    (λ (set : (key_of q.lot ≡ key_of p.lot) × (p.lot ≡ l)). sym set.1 ∙ before.one_lot (known_as p.lot q.lot (sym set.0)))
    (λ (old : get m (key_of q.lot) ≡ Some l). knows l old)
    (get_inserted nat_list_cmp_total texts_apart m (key_of p.lot) p.lot (key_of q.lot) l h)

-- a test that finds none of the parts' numbers fails at the first of each
first_fails : (test : ℕ × LotFields → Bool) (lot : LotFields) (n count k : ℕ) → count ≡ suc k → (rest : List (ℕ × LotFields)) → find test (map (λ m. (m, lot)) (numbers_from n count) ++ rest) ≡ None → test (n, lot) ≡ false
first_fails test lot n count k is rest none =
    go (test (n, lot)) (ap (λ c. find test (map (λ m. (m, lot)) (numbers_from n c) ++ rest)) (sym is) ∙ none)
  where
    go : (b : Bool) → cond b (Some (n, lot)) (find test (map (λ m. (m, lot)) (numbers_from (n + 1) k) ++ rest)) ≡ None → b ≡ false
    go true found = absurd cc
    go false found = refl

rest_none : {X : Type 0} (test : X → Bool) (xs rest : List X) → find test (xs ++ rest) ≡ None → find test rest ≡ None
rest_none test [] rest none = none
rest_none test (x ∷ xs) rest none = go (test x) none (rest_none test xs rest)
  where
    go : (b : Bool) → cond b (Some x) (find test (xs ++ rest)) ≡ None → (find test (xs ++ rest) ≡ None → find test rest ≡ None) → find test rest ≡ None
    go true found later = absurd cc
    go false found later = later found

firsts_fail : (test : ℕ × LotFields → Bool) (ps : List Part) → find test (numbered ps) ≡ None → All (λ p. IsRange p.range) ps → All (λ p. test (p.range.first, p.lot) ≡ false) ps
firsts_fail test [] none ranges = λ k d h. absurd (omega (arith, h))
firsts_fail test (p ∷ ps) none ranges =
    let forward = (All-head (λ q. IsRange q.range) p ps ranges).rising in
    All-cons (λ q. test (q.range.first, q.lot) ≡ false) p ps
    (first_fails test p.lot p.range.first (count_of p.range) (p.range.last - p.range.first) (omega (arith, forward)) (numbered ps) none)
    (firsts_fail test ps (rest_none test (map (λ n. (n, p.lot)) (each p.range)) (numbered ps) none) (All-tail (λ q. IsRange q.range) p ps ranges))

no_number : (o : Option (ℕ × LotFields)) → number_of o ≡ None → o ≡ None
no_number None h = refl
no_number (Some e) h = absurd cc

same_known : (lot : LotFields) (o : Option LotFields) (l : LotFields) → is_other_lot lot o ≡ false → o ≡ Some l → l ≡ lot
same_known lot None l h is = absurd cc
same_known lot (Some k) l h is = sym (inside k l is) ∙ (Decides-same_lot k lot).0 (not-false (same_lot k lot) h)

-- ---- the lots of all parts

-- the carriers with those of the lots that are put in
abbrev pub with_words : List LotCarrier → List Lot → List LotCarrier
with_words carriers new = fold (λ cs l. change.with_lot_word cs l.id l.carrier) carriers new

-- what lots that are put in leave
abbrev Grown : Tables → List Part → List Lot → List Lot → List LotCarrier → Type 0
Grown t ps new lots carriers =
    AreLotsOf t (fold (insert_by lot_key) lots new) (with_words carriers new) × (known_lots (fold (insert_by lot_key) lots new) ≡ with_lots ps (known_lots lots))

grown : (t : Tables) (ps : List Part) (new lots : List Lot) (carriers : List LotCarrier) → AreNewLots lots ps new → All (KnowsNoOther (known_lots lots)) ps → AllPairs GoesBefore ps → AreLotsOf t lots carriers → Grown t ps new lots carriers
grown t [] new lots carriers are knows order of = (subst (λ ls. AreLotsOf t (fold (insert_by lot_key) lots ls) (with_words carriers ls)) (sym are) of, ap (λ ls. known_lots (fold (insert_by lot_key) lots ls)) are)
grown t (p ∷ ps) new lots carriers are knows order of =
    go are (λ rest more others here. grown t ps rest more others here) (All-head (KnowsNoOther (known_lots lots)) p ps knows) (All-tail (KnowsNoOther (known_lots lots)) p ps knows)
    (λ k d h. order 0 (suc k) d (omega arith) (omega (arith, h))) (λ i j d l h. order (suc i) (suc j) d (omega (arith, l)) (omega (arith, h)))
  where
    again : (o : Option LotFields) → get (known_lots lots) (key_of p.lot) ≡ o → is_some o ≡ true → KnowsNoOther (known_lots lots) p → insert (known_lots lots) (key_of p.lot) p.lot ≡ known_lots lots
    again None is there first = absurd (true≢false (sym there))
    again (Some l) is there first = insert_known (known_lots lots) (key_of p.lot) p.lot (is ∙ ap (λ k. Some k) (first l is))

    go : AreNewLots lots (p ∷ ps) new
        → ((rest more : List Lot) (others : List LotCarrier) → AreNewLots more ps rest → All (KnowsNoOther (known_lots more)) ps → AllPairs GoesBefore ps → AreLotsOf t more others → Grown t ps rest more others)
        → KnowsNoOther (known_lots lots) p → All (KnowsNoOther (known_lots lots)) ps → All (GoesBefore p) ps → AllPairs GoesBefore ps
        → AreLotsOf t (fold (insert_by lot_key) lots new) (with_words carriers new) × (known_lots (fold (insert_by lot_key) lots new) ≡ with_lots ps (insert (known_lots lots) (key_of p.lot) p.lot))
    go (inl known) later first knows before order =
        let rest = later new lots carriers known.1 knows order of in
        (rest.0, rest.1 ∙ ap (with_lots ps) (sym (again (get (known_lots lots) (key_of p.lot)) refl known.0 first)))
    go (inr put) later first knows before order =
        let l = put.0 in
        let it = put.3 in
        let more : known_lots (insert_by lot_key lots l) ≡ insert (known_lots lots) (key_of p.lot) p.lot =
        map_inserted nat_list_cmp_total lot_key known_lot l texts_apart lots it.fresh (ap (λ k. get (known_lots lots) (key_of k)) it.states ∙ it.unknown) ∙ ap (λ k. insert (known_lots lots) (key_of k) k) it.states in
        let rest = later put.1 (insert_by lot_key lots l) (change.with_lot_word carriers l.id l.carrier) put.4 (subst (λ m. All (KnowsNoOther m) ps) (sym more) (λ k d h. later_knows (known_lots lots) p _ (knows k d h) (before k d h))) order (lot_more lots l it.fresh t carriers of it.reads it.kept) in (
          subst (λ ls. AreLotsOf t (fold (insert_by lot_key) lots ls) (with_words carriers ls)) (sym put.2) rest.0,
          ap (λ ls. known_lots (fold (insert_by lot_key) lots ls)) put.2 ∙ rest.1 ∙ ap (with_lots ps) more,
        )

-- the changes that put lots in
pub lots_made : (rows : List LotRow) (t : Tables) → made_all t (map (λ r. AddLot r) rows) ≡ fold change.with_lot t (map lot_in rows)
lots_made [] t = refl
lots_made (r ∷ rows) t = lots_made rows (change.with_lot t (lot_in r))

pub lots_put : (new : List Lot) (t : Tables) → fold change.with_lot t new ≡ record t { lots = fold (insert_by lot_key) t.lots new; lot_carriers = with_words t.lot_carriers new }
lots_put [] t = refl
lots_put (l ∷ new) t = lots_put new (change.with_lot t l)

-- ---- the import

not_arrived : (notice : NoticeContents) (o : Option NoticeContents) → is_other notice o ≡ false → is_arrived notice o ≡ false → o ≡ None
not_arrived notice None other arrived = refl
not_arrived notice (Some k) other arrived = absurd (true≢false (sym (not-false (same_notice k notice) other) ∙ arrived))

module _ (t : Tables) (kept : AreKept t) (caller : List ℕ) (x : Import) (whole : IsWhole x.notice) (accepted : import_refusal (state_of t) caller x ≡ None) (new_one : import_repeats (state_of t) caller x ≡ None)
    (new : List Lot) (lots : AreNewLots t.lots x.notice.parts new)
    (n : row.NoticeIn) (states : (k : ℤ) → known_arrival (k, n) ≡ ((x.notice.sender, x.notice.number), x.notice)) (reads : (k : ℤ) → is_notice_in (k, n) ≡ true) (rise : IsKeyedBy kept_key t.notices_in) where
  abbrev s : State
  s = state_of t

  none_apart : find (differs s) (numbered x.notice.parts) ≡ None
  unfolding import_refusal
  none_apart = no_number (find (differs s) (numbered x.notice.parts)) (unfound _ (least_where (differs s) x.notice.parts) (none_fail (import_checks s caller x) accepted).1.1.1.1.1.1.0)

  knows : All (KnowsNoOther s.lots) x.notice.parts
  knows k d h l is =
      let part = get_or x.notice.parts k d in
      same_known part.lot (get s.lots (key_of part.lot)) l (or_parts _ _ (firsts_fail (differs s) x.notice.parts none_apart whole.ranges k d h)).1 is

  -- no notice of this sender has this number
  pub absent : get s.arrived (x.notice.sender, x.notice.number) ≡ None
  unfolding import_refusal import_repeats
  absent =
      let met = none_fail (import_checks s caller x) accepted in
      not_arrived x.notice (get s.arrived (x.notice.sender, x.notice.number)) (passes _ _ met.1.0)
      (go (is_arrived x.notice (get s.arrived (x.notice.sender, x.notice.number))) (ap (λ o. arrived_reply o (is_arrived x.notice (get s.arrived (x.notice.sender, x.notice.number))) (import_reply s x)) (sym met.0) ∙ new_one))
    where
      go : (b : Bool) → arrived_reply None b (import_reply s x) ≡ None → b ≡ false
      go true is = absurd cc
      go false is = refl

  abbrev all_lots : List Lot
  all_lots = fold (insert_by lot_key) t.lots new

  of : Grown t x.notice.parts new t.lots t.lot_carriers
  unfolding state_of
  of = grown t x.notice.parts new t.lots t.lot_carriers lots knows whole.notice.order (lots_before t kept)

  abbrev placed : row.Kept row.NoticeIn
  placed = (next_key kept_key t.notices_in, n)

  arrived_after : from_entries {R = notice_cmp} (map known_arrival (added t.notices_in n)) ≡ insert s.arrived (x.notice.sender, x.notice.number) x.notice
  unfolding state_of
  arrived_after =
      map_inserted notice_total kept_key known_arrival placed notices_same t.notices_in (next_key_is_free kept_key t.notices_in rise)
      (ap (λ e. get (from_entries {R = notice_cmp} (map known_arrival t.notices_in)) e.0) (states placed.0) ∙ absent)
      ∙ ap (λ e. insert (from_entries {R = notice_cmp} (map known_arrival t.notices_in)) e.0 e.1) (states placed.0)

  with_both : IsActed t (record t { lots = all_lots; lot_carriers = with_words t.lot_carriers new; notices_in = added t.notices_in n }) (with_import s x)
  unfolding state_of with_import
  with_both = record {
    pieces = refl;
    receipts = refl;
    state = λ at i. record (beside at s) { lots = of.1 i; arrived = arrived_after i };
    readable = record {
      version = kept.readable.version;
      meta = kept.readable.meta;
      holders = kept.readable.holders;
      accounts = kept.readable.accounts;
      devices = kept.readable.devices;
      declarations = kept.readable.declarations;
      lots = of.0.read;
      pieces = kept.readable.pieces;
      peers = kept.readable.peers;
      receipts = kept.readable.receipts;
      cancellations = kept.readable.cancellations;
      withdrawals = kept.readable.withdrawals;
      notices_out = kept.readable.notices_out;
      notices_in = all_inserted kept_key is_notice_in placed (reads placed.0) t.notices_in kept.readable.notices_in;
      corrections = kept.readable.corrections;
      device_carriers = kept.readable.device_carriers;
      lot_carriers = of.0.carriers_read;
    };
    have = of.0.have;
    rows = of.0.rows;
    lots = of.0.lots_kept;
    devices = kept.devices;
    progress = λ q. kept.progress q ∙ progress_same s (with_import s x) refl refl q;
    carried_devices = kept.carried_devices_there;
    carried_lots = of.0.carried;
  }

  -- the lots that weren't known, and the notice
  pub importing_acted : IsActed t (change.with_notice_in (fold change.with_lot t new) n) (with_import s x)
  importing_acted = subst (λ u. IsActed t (change.with_notice_in u n) (with_import s x)) (sym (lots_put new t)) with_both
