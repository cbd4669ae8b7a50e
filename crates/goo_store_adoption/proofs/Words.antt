-- The word for tables in another form.
use Rattle.std.proofs.Common.{◌≡◌, ◌⊎◌, inl, inr, refl, subst, sym, List, Result, Err, Ok, IfErr}
use Rattle.std.specs.List.{AllZip}
use Rattle.sqlite.specs.Effect.{Database}
use Rattle.sqlite.specs.Order.{Row}
use Rattle.sqlite.specs.declared.error.Error.{Error}
use Rattle.sqlite.specs.declared.error.Error.TheVariants.{SqliteFailure, SqlInputError, InvalidColumnIndex, InvalidColumnType, IntegralValueOutOfRange, Utf8Error}
use Rattle.sqlite.specs.declared.error.ErrorCode.TheVariants.{OutOfMemory}
use Rattle.goo_tables_rows.specs.Reads.{numbered_meta_reads}
use Rattle.goo_tables_rows.specs.declared.meta.MetaRow.{MetaRow}
use Rattle.goo_store_open.specs.Found.{word_of, IsOutside}
use Rattle.goo_store_open.specs.declared.fault.OpenFault.{OpenFault}
use Rattle.goo_store_open.specs.declared.fault.OpenFault.TheVariants.{NotARegistry, Version}
use Rattle.goo_store_anew.specs.Answered.{rows_at, IsErrorOf, Shows}
use Rattle.goo_store_anew.specs.declared.answers.Answer.{Answer}
use Rattle.goo_store_adoption.specs.Judged.{ReadsMeta}
use Rattle.goo_store_adoption.specs.Refused.{HasMeta, HaveNoOnly, IsBroken, IsMetaWord, RowsTell, TellsForm}

outside_tells : (rows : List Row) (f : OpenFault) → IsOutside f → RowsTell rows f
outside_tells rows f (inl is) = subst (RowsTell rows) (sym is) tt
outside_tells rows f (inr is) = subst (RowsTell rows) (sym is) tt

broken_tells : (rows : List Row) (f : OpenFault) → IsBroken f → RowsTell rows f
broken_tells rows f (inl outside) = outside_tells rows f outside
broken_tells rows f (inr is) = subst (RowsTell rows) (sym is) tt

pub tells_broken : (db : Database) (f : OpenFault) → IsBroken f → HasMeta db → TellsForm db f
tells_broken db f broken meta = inr (inr (meta.0, meta.1, broken_tells meta.0 f broken))

-- the question for `meta` failed
pub tells_error : (db : Database) (e : Error) (f : OpenFault) → f ≡ word_of NotARegistry e → IsErrorOf db 0 e → TellsForm db f
tells_error db e f is wrong = subst (TellsForm db) (sym is) (go e wrong)
  where
    go : (e : Error) → IsErrorOf db 0 e → TellsForm db (word_of NotARegistry e)
    go (SqliteFailure OutOfMemory) wrong = inr (inl (inr refl))
    go (SqliteFailure _) wrong = inr (inl (inl refl))
    go (SqlInputError cause) wrong = inl (refl, wrong)
    go (InvalidColumnIndex at) wrong = absurd wrong
    go (InvalidColumnType at kind) wrong = absurd wrong
    go (IntegralValueOutOfRange at) wrong = absurd wrong
    go (Utf8Error at) wrong = absurd wrong
    go _ wrong = inr (inl (inl refl))

module _ (rows : List Row) (answers : List Answer) (same : rows_at answers 0 ≡ rows) where
  pub meta_tells : (f : OpenFault) → IsMetaWord answers f → RowsTell rows f
  meta_tells f (inl broken) = broken_tells rows f broken
  meta_tells f (inr (is, none)) = subst (RowsTell rows) (sym is) (subst HaveNoOnly same none)

  pub version_tells : (m : MetaRow) (f : OpenFault) → ReadsMeta answers m → (f ≡ Version m.version) × (¬ (m.version ≡ 1)) × (¬ (m.version ≡ 2)) → RowsTell rows f
  version_tells m f read (is, first, ours) =
      subst (RowsTell rows) (sym is) ((read.0, subst (λ (xs : List Row). AllZip numbered_meta_reads xs read.0) same read.1, m, read.2, refl), first, ours)
