-- What a shelf keeps of its look-ups until a commit may change it.
use Rattle.std.specs.Prelude.{◌≡◌, ◌==◌, ℕ, Bool, true, List, All, Option, Some, IsTrue}
use Rattle.std.specs.List.{list_any}
use Rattle.std.specs.FinMap.{get}
use Rattle.std.proofs.Props.{props}
use Rattle.sqlite.specs.State.{HasCleanDisk}
use Rattle.sqlite.specs.State as database
use Rattle.goo_spec.specs.State.{State, Account}
use Rattle.goo_types.specs.declared.piece.Piece.{Piece}
use Rattle.goo_spec_tables.specs.Places.{rows_of}
use Rattle.goo_spec_tables.specs.States.{state_of}
use Rattle.goo_tables_rows.specs.Rows.{Tables}
use Rattle.goo_tables_rows.specs.Stands.{defects}
use Rattle.goo_store_judge.specs.Moments.{tables_in}
use Rattle.goo_store_pieces.specs.Ahead.{AreAhead, IsAhead}
use Rattle.goo_store_pieces.specs.declared.ahead.Ahead.{Ahead}
use Rattle.goo_store_pieces.specs.declared.ahead.RowAhead.{RowAhead}
use Rattle.goo_store_pieces.specs.declared.cache.Cache.{Cache}
use Rattle.goo_store_pieces.specs.declared.cache.NumberedAccount.{NumberedAccount}

-- each account that is kept is there under its number
abbrev pub AreAccountsOf : State → List NumberedAccount → Type 0
AreAccountsOf s xs = All (λ x. get s.accounts x.number ≡ Some x.account) xs

-- all that is kept is so in the tables
pub record IsCacheOf (cache : Cache) (t : Tables) : Type 0 where
  pub accounts : AreAccountsOf (state_of t) cache.accounts.items
  pub ahead : AreAhead t cache.ahead.items

-- it is so while there is no defect, and the database is open where the last statement was answered
pub record HoldsCache (s : database.State) (cache : Cache) : Type 0 where
  pub so : defects s ≡ 0 → IsCacheOf cache (tables_in s)
  pub is_open : IsTrue cache.answered → HasCleanDisk s → IsTrue s.is_open

-- one state has the accounts of another
abbrev pub AreLeft : State → State → Type 0
AreLeft old new = new.accounts ≡ old.accounts

-- ---- it has one proof at most, so it may be a ghost field

account-prop : (a b : Option Account) → IsProp (a ≡ b)
account-prop a b = Prim.hlevel props

accounts-prop : (s : State) (xs : List NumberedAccount) → IsProp (AreAccountsOf s xs)
accounts-prop s xs a b = λ i k d low. account-prop _ _ (a k d low) (b k d low) i

row-prop : (a b : Option Piece) → IsProp (a ≡ b)
row-prop a b = Prim.hlevel props

same-prop : (a b : Bool) → IsProp (a ≡ b)
same-prop a b = Prim.hlevel props

is_ahead-prop : (t : Tables) (account after : ℕ) (row : Option Ahead) → IsProp (IsAhead t account after row)
is_ahead-prop t account after row a b = λ i. record { edge = same-prop (list_any (λ p. p.last == after) (rows_of t)) true a.edge b.edge i; next = row-prop _ _ a.next b.next i }

ahead-prop : (t : Tables) (xs : List RowAhead) → IsProp (AreAhead t xs)
ahead-prop t xs a b = λ i k d low. is_ahead-prop t _ _ _ (a k d low) (b k d low) i

pub HoldsCache-prop : (s : database.State) (cache : Cache) → IsProp (HoldsCache s cache)
HoldsCache-prop s cache a b = λ i. record {
  so = λ none. record {
    accounts = accounts-prop (state_of (tables_in s)) cache.accounts.items (a.so none).accounts (b.so none).accounts i;
    ahead = ahead-prop (tables_in s) cache.ahead.items (a.so none).ahead (b.so none).ahead i;
  };
  is_open = λ is clean. same-prop s.is_open true (a.is_open is clean) (b.is_open is clean) i;
}
