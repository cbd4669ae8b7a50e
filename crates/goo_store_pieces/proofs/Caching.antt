-- What is kept over commits: still so after a statement, told without one, and left by changes.
use Rattle.std.proofs.Common.{◌≡◌, ◌≢◌, ℕ, Bool, false, IsTrue, refl, sym, ap, subst, ◌∙◌, arith, true≢false, Ok, Err, Result, OnOk, Option, IfOk}
use Rattle.std.specs.Prelude.{is_ok}
use Rattle.std.specs.FinMap.{get}
use Rattle.sqlite.specs.State.{State, HasCleanDisk}
use Rattle.sqlite.specs.declared.error.Error.{Error}
use Rattle.goo_types.specs.declared.fault.Fault.{Fault}
use Rattle.goo_spec.specs.State as registry
use Rattle.goo_core_shelf.specs.Shelf as shelf
use Rattle.goo_spec_tables.specs.States.{state_of}
use Rattle.goo_tables_rows.specs.Rows.{Tables}
use Rattle.goo_tables_rows.specs.Stands.{Looks, defects}
use Rattle.goo_tables_rows.specs.declared.account.AccountRow.{AccountRow}
use Rattle.goo_store_changes.specs.Changes.{made}
use Rattle.goo_store_changes.specs.declared.table_change.TableChange.{TableChange}
use Rattle.goo_store_changes.specs.declared.table_change.TableChange.TheVariants.{AddHolder, AddAccount, CloseAccount, AddDevice, AddDeclaration, SetProgress, AddLot, DeletePiece, InsertPiece, AddPeer, AddReceipt, AddCancellation, AddWithdrawal, AddNoticeOut, AddNoticeIn, AddCorrection, SetToday, SetCounters}
use Rattle.goo_store_judge.specs.Holding.{is_sure, LeavesCommit, safe}
use Rattle.goo_store_judge.specs.Moments.{tables_in, count, moment, IsWell}
use Rattle.goo_store_judge.specs.StoreFaults.{BlamesStore}
use Rattle.goo_store_judge.proofs.Looking.{before, so_still}
use Rattle.goo_core_shelf.proofs.Looking.{stays_still}
use Rattle.goo_store_pieces.specs.Ahead.{AreAhead}
use Rattle.goo_store_pieces.specs.Caching.{AreAccountsOf, AreLeft, IsCacheOf, HoldsCache}
use Rattle.goo_store_pieces.specs.declared.cache.Cache.{Cache}

-- what is kept is so after a statement too
pub so_on : (old new : State) (it : IsWell old) {T : Type 0} (r : Result T Error) (right : Tables → T → Type 0) → Looks old new r right → (cache : Cache) → HoldsCache old cache
    → defects new ≡ 0 → IsCacheOf cache (tables_in new)
so_on old new it r right looks cache cached none = so_still old new it r right looks (IsCacheOf cache) none (cached.so (before old new it r right looks none))

-- the database is open where a statement was answered
pub opened : {T E : Type 0} (new : State) (r : Result T E) (b : Bool) → b ≡ is_ok r → OnOk r (HasCleanDisk new → IsTrue new.is_open) → IsTrue b → HasCleanDisk new → IsTrue new.is_open
opened new (Ok x) b same works is = works
opened new (Err e) b same works is = absurd (true≢false (sym is ∙ same))

-- so it cached over a statement
pub lasts_on : (old new : State) (it : IsWell old) {T : Type 0} (r : Result T Error) (right : Tables → T → Type 0) → Looks old new r right → (cache : Cache) (b : Bool) → b ≡ is_ok r → HoldsCache old cache
    → HoldsCache new (record { answered = b; accounts = cache.accounts; ahead = cache.ahead })
lasts_on old new it r right looks cache b same cached = record {
  so = λ none. let still = so_on old new it r right looks cache cached none in record { accounts = still.accounts; ahead = still.ahead };
  is_open = opened new r b same looks.works;
}

-- nothing is kept at first
pub lasts_first : (s : State) (cache : Cache) → cache.answered ≡ false → ((t : Tables) → IsCacheOf cache t) → HoldsCache s cache
lasts_first s cache unanswered is = record {
  so = λ none. is (tables_in s);
  is_open = λ answered _. absurd (true≢false (sym answered ∙ unanswered));
}

-- the account that was looked up, if it was found
pub lasts_with_account : (old new : State) (a b : Bool) (number : ℕ) (r : Result (Option registry.Account) Fault) → shelf.Looks (moment old a) (moment new b) r (λ found. found ≡ get (moment old a).state.accounts number) → (first last : Cache)
    → last.answered ≡ first.answered → last.ahead ≡ first.ahead
    → ((s : registry.State) → IfOk r (λ found. found ≡ get s.accounts number) → AreAccountsOf s first.accounts.items → AreAccountsOf s last.accounts.items) → HoldsCache new first → HoldsCache new last
lasts_with_account old new a b number r looks first last answered same keeps cached = record {
  so = λ none. record {
    accounts = keeps (state_of (tables_in new)) (subst (λ (s : registry.State). IfOk r (λ found. found ≡ get s.accounts number)) (sym (looks.same none)) (looks.found none)) (cached.so none).accounts;
    ahead = subst (λ xs. AreAhead (tables_in new) xs.items) (sym same) (cached.so none).ahead;
  };
  is_open = λ is. cached.is_open (sym answered ∙ is);
}

-- after calls of which it is known whether they were answered
pub lasts_answered : (old new : State) {T E : Type 0} (r : Result T E) → OnOk r (HasCleanDisk new → IsTrue new.is_open) → (cache : Cache) (b : Bool) → b ≡ is_ok r → (defects new ≡ 0 → (defects old ≡ 0) × (tables_in new ≡ tables_in old)) → HoldsCache old cache
    → HoldsCache new (record { answered = b; accounts = cache.accounts; ahead = cache.ahead })
lasts_answered old new r works cache b is same cached = record {
  so = λ none. let still = subst (IsCacheOf cache) (sym (same none).1) (cached.so (same none).0) in record { accounts = still.accounts; ahead = still.ahead };
  is_open = opened new r b is works;
}

-- after calls of which it is not known whether they were answered
pub lasts_unanswered : (old new : State) (cache : Cache) → (defects new ≡ 0 → (defects old ≡ 0) × (tables_in new ≡ tables_in old)) → HoldsCache old cache → HoldsCache new (record { answered = false; accounts = cache.accounts; ahead = cache.ahead })
lasts_unanswered old new cache same cached = record {
  so = λ none. let still = subst (IsCacheOf cache) (sym (same none).1) (cached.so (same none).0) in record { accounts = still.accounts; ahead = still.ahead };
  is_open = λ is _. absurd (true≢false (sym is));
}

-- what is kept is an answer without a statement, while the database is open
pub kept_look : (old : State) → IsWell old → (a : Bool) → a ≡ false → LeavesCommit old → {U : Type 0} (P : U → Type 0) (x : U) → (HasCleanDisk old → IsTrue old.is_open) → (defects old ≡ 0 → P x)
    → shelf.Looks (moment old a) (moment old a) (Ok x) P
kept_look old it a down law P x live is = record {
  found = is;
  same = λ _. refl;
  rows_same = λ _. refl;
  defects_stay = λ none. none;
  corruptions_stay = λ late. late;
  kept = omega arith;
  told = ap count down;
  works = λ late. is_sure old late (live late);
  stays = λ late none. stays_still (moment old a) none;
  crash = λ late none. safe old it law none a;
}

pub kept_blames : {U : Type 0} (old : State) (a : Bool) (x : U) → BlamesStore old old a (Ok x)
kept_blames old a x = record {
  limit = λ _ _. refl;
  counts = λ _ _. omega arith;
  store = λ _ _ _ _. tt;
}

-- ---- what changes leave

-- the accounts are changed by two alone
pub left : (t : Tables) (change : TableChange) → ((row : AccountRow) → change ≢ AddAccount row) → ((number : ℕ) → change ≢ CloseAccount number) → AreLeft (state_of t) (state_of (made t change))
unfolding state_of
left t (AddHolder row) account closing = refl
left t (AddAccount row) account closing = absurd (account row refl)
left t (CloseAccount number) account closing = absurd (closing number refl)
left t (AddDevice row) account closing = refl
left t (AddDeclaration row) account closing = refl
left t (SetProgress device last_day carry) account closing = refl
left t (AddLot row) account closing = refl
left t (DeletePiece first) account closing = refl
left t (InsertPiece row) account closing = refl
left t (AddPeer row) account closing = refl
left t (AddReceipt row) account closing = refl
left t (AddCancellation row) account closing = refl
left t (AddWithdrawal row) account closing = refl
left t (AddNoticeOut row) account closing = refl
left t (AddNoticeIn row) account closing = refl
left t (AddCorrection row) account closing = refl
left t (SetToday day) account closing = refl
left t (SetCounters counters) account closing = refl
