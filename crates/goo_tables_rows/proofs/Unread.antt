-- Why a row isn't read: memory fails, or one of its columns can't be read.
use Rattle.std.proofs.Common.{◌≡◌, ◌<◌, inl, inr, ℕ, Result, Ok, Err, IsErrAnd, IfErr, refl, sym, ◌∙◌}
use Rattle.sqlite.specs.declared.types.Value.{Value}
use Rattle.sqlite.specs.declared.error.ErrorCode.TheVariants.{OutOfMemory}
use Rattle.sqlite.specs.declared.error.Error.{Error}
use Rattle.sqlite.specs.declared.error.Error.TheVariants.{SqliteFailure}
use Rattle.sqlite.specs.Reading.{IsReadError}
use Rattle.goo_tables_rows.specs.Readable.{IsUnread}

module _ (IsReadable IsValue : Type 0) (at width : ℕ) (parts : IsReadable → (at < width) × IsValue) (v : Value) where
  of_column : (e : Error) → IsReadError at v e → (¬ (e ≡ SqliteFailure OutOfMemory) → at < width → ¬ IsValue) → IsUnread IsReadable e
  of_column e (inl is) kind = inr (rw is refl, λ h. kind (λ memory. let same = sym is ∙ memory in cc) (parts h).0 (parts h).1)
  of_column e (inr (inl is)) kind = inr (rw is refl, λ h. kind (λ memory. let same = sym is ∙ memory in cc) (parts h).0 (parts h).1)
  of_column e (inr (inr (inl is))) kind = inr (rw is refl, λ h. kind (λ memory. let same = sym is ∙ memory in cc) (parts h).0 (parts h).1)
  of_column e (inr (inr (inr (inl is)))) kind = inr (rw is refl, λ h. kind (λ memory. let same = sym is ∙ memory in cc) (parts h).0 (parts h).1)
  of_column e (inr (inr (inr (inr memory)))) kind = inl memory

  -- the error of a column is that of the row
  pub unread : {X : Type 0} (result : Result X Error) (e : Error) → IsErrAnd result (λ f. f ≡ e) → IsReadError at v e → (¬ (e ≡ SqliteFailure OutOfMemory) → at < width → ¬ IsValue) → IfErr result (IsUnread IsReadable)
  unread (Ok x) e is named kind = tt
  unread (Err f) e is named kind = rw is (of_column e named kind)
