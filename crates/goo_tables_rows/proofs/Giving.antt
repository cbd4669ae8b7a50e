-- What is known of a query whose rows are read as they come.
use Rattle.std.proofs.Common.{◌≡◌, inl, inr, IsTrue, ℕ, List, [], ◌∷◌, ◌++◌, ◌≤◌, All, false, Some, None, Result, Ok, Err, Vec, IfOk, IfErr, sym, subst, refl, arith}
use Rattle.std.specs.List.{AllZip}
use Rattle.std.proofs.lemmas.List.Elements.{All-pop}
use Rattle.std.specs.declared.alloc.Global.{Global}
use Rattle.sqlite_trees.specs.declared.store.Store.{Ghosts}
use Rattle.sqlite.specs.Order.{Row}
use Rattle.sqlite_resolve.specs.declared.compiled.Compiled.{Compiled}
use Rattle.sqlite.specs.Listing.{understood, reads_listing, IsSourceOf}
use Rattle.sqlite.specs.Clock.{timed}
use Rattle.sqlite.specs.State.{State, HasCleanDisk, IsUnchanged, IsStatement, Shown, ShowsRows, FailsToQuery, FailsToShow, IsNotRun, Survives, CommitsShowing}
use Rattle.sqlite.specs.Effect.{Database, RefusesToRead}
use Rattle.sqlite.specs.Held.{Held, state}
use Rattle.sqlite.specs.Given.{IsPlain, HasGiven, HasBegun, Advances, FailsToAdvance}
use Rattle.sqlite.specs.declared.error.Error.{Error}
use Rattle.sqlite.proofs.Callers.{unchanged_then, begun_plain}
use Rattle.sqlite.proofs.StreamLemmas.{fails_since}
use Rattle.sqlite.proofs.StateLemmas.{survives_then}
use Rattle.goo_tables_rows.specs.Asked.{AreRead, Gave, FailsToGive, IsReadThrough}
use Rattle.goo_tables_rows.specs.Readable.{IsUnread}
use Rattle.goo_tables_rows.proofs.Reading.{was_open_shown, open_shown, was_open_failed}

-- ---- what was read of rows, and of one more

all_but_last : {X : Type 0} (P : X → Type 0) (xs : List X) (x : X) → All P (xs ++ x ∷ []) → All P xs × P x
all_but_last P xs x = All-pop P (xs ++ x ∷ []) xs (Some x) refl

pub one_unread : (readable : Row → Type 0) (rows : List Row) (row : Row) (e : Error) → IsUnread (All readable rows) e → IsUnread (All readable (rows ++ row ∷ [])) e
one_unread readable rows row e (inl memory) = inl memory
one_unread readable rows row e (inr bad) = inr (bad.0, λ all. bad.1 (all_but_last readable rows row all).0)

pub row_unread : (readable : Row → Type 0) (rows : List Row) (row : Row) (e : Error) → IsUnread (readable row) e → IsUnread (All readable (rows ++ row ∷ [])) e
row_unread readable rows row e (inl memory) = inl memory
row_unread readable rows row e (inr bad) = inr (bad.0, λ all. bad.1 (all_but_last readable rows row all).1)

-- ---- from a state that nothing changed since

module _ (sql : List ℕ) (params : Row) (old mid new : State) (same : IsUnchanged old mid) (counts : old.faults ≤ mid.faults) (limit : mid.step_limit ≡ old.step_limit) (plain : IsPlain (understood old.now.schema sql)) where
  abbrev since : (c : Compiled) → IsStatement mid sql params c → IsStatement old sql params c
  since c h = record { is = subst (λ (d : Database). understood d.schema sql ≡ Ok c) same.0.now_is h.is; whole = h.whole; given = h.given; now = h.now }

  none : (c : Compiled) → IsStatement old sql params c → c.returning ≡ None
  none c h = (subst IsPlain h.is plain).0

  source_since : (db : Database) → IsSourceOf (reads_listing mid.now.schema sql) mid.now db → IsSourceOf (reads_listing old.now.schema sql) old.now db
  source_since db = subst (λ (d : Database). IsSourceOf (reads_listing d.schema sql) d db) same.0.now_is

  pub shown_since : (rows : List Row) → Shown sql params mid new rows → Shown sql params old new rows × IsUnchanged mid new
  unfolding Shown
  shown_since rows h =
      let ends = none h.0 (since h.0 h.1) in
      let full = timed params h.0.formats h.1.now in
      let it = subst (ShowsRows mid new sql h.0 full rows) ends h.2 in
      ((h.0, since h.0 h.1, subst (ShowsRows old new sql h.0 full rows) (sym ends) (it.0, source_since it.0 it.1, it.2, unchanged_then old mid new same it.3)), it.3)

  pub fails_to_query_since : (e : Error) → FailsToQuery sql params mid new e → FailsToQuery sql params old new e
  unfolding FailsToQuery IsNotRun
  fails_to_query_since e (inl (inl h)) = inl (inl (rw (← same.0.now_is) h.0, unchanged_then old mid new same h.1))
  fails_to_query_since e (inl (inr h)) = inl (inr (fails_since old mid new same counts e h))
  fails_to_query_since e (inr h) =
      let ends = none h.0 (since h.0 h.1) in
      let full = timed params h.0.formats h.1.now in
      let it = subst (FailsToShow mid new sql h.0 full e) ends h.2 in
      inr (
        h.0,
        since h.0 h.1,
        subst (FailsToShow old new sql h.0 full e) (sym ends)
            (it.0, source_since it.0 it.1, subst (λ l. RefusesToRead l h.0.command it.0 full e) limit it.2, unchanged_then old mid new same it.3),
      )

-- ---- a query whose rows are read as they come

-- The query was begun at the start. Of a text that only reads, these rows were given since, and this was read of them.
pub record IsAsking {S T : Type 0} (g : Ghosts S) (sql : List ℕ) (params : Row) (reads : Row → T → Type 0) (readable : Row → Type 0) (start now : Held S) (found : Result (Vec T Global) Error) : Type 0 where
  pub mode : start.in_transaction ≡ false → now.in_transaction ≡ false
  pub survives : Survives (state g start) (state g now) (CommitsShowing sql params (state g start))
  pub works : HasCleanDisk (state g now) → IsTrue (state g start).is_open × IsTrue (state g now).is_open
  pub given : HasCleanDisk (state g now) → IsPlain (understood start.schema sql) → IsUnchanged (state g start) (state g now) × ((rows : List Row) × HasGiven g sql params now rows × AreRead reads readable rows found)

begun_open : {S : Type 0} (g : Ghosts S) (sql : List ℕ) (params : Row) (start now : Held S) → HasBegun g sql params start now → IsTrue (state g start).is_open × IsTrue (state g now).is_open
unfolding Shown
begun_open g sql params start now (inl h) = (h.1.0.was_open, h.1.0.is_open)
begun_open g sql params start now (inr h) =
    let shown = h.1 in (was_open_shown sql _ (state g start) (state g now) shown.0 _ shown.0.returning shown.2, open_shown sql _ (state g start) (state g now) shown.0 _ shown.0.returning shown.2)

module _ {S T : Type 0} (g : Ghosts S) (sql : List ℕ) (params : Row) (reads : Row → T → Type 0) (readable : Row → Type 0) (start : Held S) where
  abbrev Asking : Held S → Result (Vec T Global) Error → Type 0
  Asking = IsAsking g sql params reads readable start

  -- nothing is read yet
  pub asking_begins : (now : Held S) (found : Result (Vec T Global) Error) → AreRead reads readable [] found → (start.in_transaction ≡ false → now.in_transaction ≡ false)
      → Survives (state g start) (state g now) (CommitsShowing sql params (state g start)) → (HasCleanDisk (state g now) → HasBegun g sql params start now) → Asking now found
  asking_begins now found none mode survives begun = record {
    mode = mode;
    survives = survives;
    works = λ clean. begun_open g sql params start now (begun clean);
    given = λ clean plain. let h = begun_plain g sql params start now plain (begun clean) in (h.1, ([], h.0, none));
  }

  module _ (mid new : Held S) (found : Result (Vec T Global) Error) (it : Asking mid found) (survives : Survives (state g mid) (state g new) (λ _. ⊥)) where
    was : HasCleanDisk (state g new) → HasCleanDisk (state g mid)
    was clean = omega (arith, survives.clean)

    pub asked_on : Survives (state g start) (state g new) (CommitsShowing sql params (state g start))
    asked_on = survives_then (state g start) (state g mid) (state g new) (CommitsShowing sql params (state g start)) (λ _. ⊥) (CommitsShowing sql params (state g start)) (λ _ db made. made) (λ _ db none. absurd none) it.survives survives

    -- one more row is read
    pub asking_goes_on : (row : Row) (next : Result (Vec T Global) Error) → (mid.in_transaction ≡ false → new.in_transaction ≡ false) → (HasCleanDisk (state g new) → Advances g mid new (Some row))
        → (HasCleanDisk (state g new) → IsUnchanged (state g mid) (state g new)) → ((rows : List Row) → AreRead reads readable rows found → AreRead reads readable (rows ++ row ∷ []) next) → Asking new next
    asking_goes_on row next mode moved same more = record {
      mode = λ h. mode (it.mode h);
      survives = asked_on;
      works = λ clean. ((it.works (was clean)).0, (same clean).0.is_open);
      given = λ clean plain.
          let h = it.given (was clean) plain in
          (unchanged_then (state g start) (state g mid) (state g new) h.0 (same clean), (h.1.0 ++ row ∷ [], moved clean sql params h.1.0 h.1.1, more h.1.0 h.1.2));
    }

    -- no row is left
    module _ (clean : HasCleanDisk (state g new)) (moved : Advances g mid new None) (same : IsUnchanged (state g mid) (state g new)) where
      given_all : IsPlain (understood start.schema sql) → (rows : List Row) × Shown sql params (state g start) (state g new) rows × AreRead reads readable rows found
      given_all plain =
          let h = it.given (was clean) plain in
          let shown = shown_since sql params (state g start) (state g mid) (state g new) h.0 it.survives.counts it.survives.limit plain h.1.0 (moved sql params h.1.0 h.1.1) in
          (h.1.0, shown.0, h.1.2)

      pub ran_through : IsReadThrough sql params (state g start) (state g new)
      ran_through = (λ _. (it.works (was clean)).0, λ plain. inl (unchanged_then (state g start) (state g mid) (state g new) (it.given (was clean) plain).0 same))

      module _ (all : IsPlain (understood start.schema sql) → (rows : List Row) × Shown sql params (state g start) (state g new) rows × AreRead reads readable rows found) where
        pub gave_of : (is : Result (Vec T Global) Error) → found ≡ is → IfOk is (λ xs. Gave sql params (state g start) (state g new) (λ rows. AllZip reads rows xs.items))
        gave_of (Ok xs) is = (same.0.is_open, λ plain. let h = all plain in (h.0, h.1, subst (AreRead reads readable h.0) is h.2))
        gave_of (Err e) is = tt

        pub failed_of : (is : Result (Vec T Global) Error) → found ≡ is → IfErr is (FailsToGive sql params (state g start) (state g new) readable)
        failed_of (Ok xs) is = tt
        failed_of (Err e) is = λ plain. let h = all plain in elim (subst (AreRead reads readable h.0) is h.2) [ inl memory ↦ inl memory | inr bad ↦ inr (inr (h.0, h.1, bad)) ]

      pub gave_all : IfOk found (λ xs. Gave sql params (state g start) (state g new) (λ rows. AllZip reads rows xs.items))
      gave_all = gave_of given_all found refl

      pub failed_all : IfErr found (FailsToGive sql params (state g start) (state g new) readable)
      failed_all = failed_of given_all found refl

    -- the query failed at the next row
    module _ (clean : HasCleanDisk (state g new)) (e : Error) (moved : FailsToAdvance g mid new e) where
      failed_since : IsPlain (understood start.schema sql) → FailsToQuery sql params (state g start) (state g new) e
      failed_since plain =
          let h = it.given (was clean) plain in
          fails_to_query_since sql params (state g start) (state g mid) (state g new) h.0 it.survives.counts it.survives.limit plain e (moved sql params h.1.0 h.1.1)

      pub failed_then : FailsToGive sql params (state g start) (state g new) readable e
      failed_then plain = inr (inl (failed_since plain))

      pub ran_then : IsReadThrough sql params (state g start) (state g new)
      ran_then = (λ _. (it.works (was clean)).0, λ plain. inr (e, failed_since plain))

  -- the query did not begin
  module _ (new : Held S) (e : Error) (h : FailsToQuery sql params (state g start) (state g new) e) where
    pub never_gave : FailsToGive sql params (state g start) (state g new) readable e
    never_gave plain = inr (inl h)

    pub never_ran : IsReadThrough sql params (state g start) (state g new)
    never_ran = (was_open_failed sql params (state g start) (state g new) e h, λ plain. inr (e, h))

  -- more rows came than are counted
  module _ (now : Held S) (found : Result (Vec T Global) Error) (it : Asking now found) (clean : HasCleanDisk (state g now)) where
    pub ran_on : IsReadThrough sql params (state g start) (state g now)
    ran_on = (λ _. (it.works clean).0, λ plain. inl (it.given clean plain).0)
