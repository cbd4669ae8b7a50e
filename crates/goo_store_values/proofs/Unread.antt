-- A row that is refused though memory is there can't be read.
use Rattle.std.proofs.Common.{◌≡◌, true, ◌&&◌, Ok, Err, Some, Option, Result, IsErrAnd, IsOk, sym, subst, ◌∙◌, true≢false}
use Rattle.std.specs.Result.{IsOkUnless}
use Rattle.sqlite.specs.declared.error.Error.{Error}
use Rattle.sqlite_keyed.proofs.RuleLemmas.{second_of_both}
use Rattle.goo_types.specs.Codes.{holder_reading, key_reading}
use Rattle.goo_tables_rows.specs.Rows.{Kept, Receipt}
use Rattle.goo_spec_tables.specs.Readable.{reads, is_receipt, is_reply}
use Rattle.goo_store_values.specs.Passing.{Accepts}
use Rattle.goo_store_values.specs.declared.statement_fault.StatementFault.{StatementFault}
use Rattle.goo_store_values.specs.declared.statement_fault.StatementFault.TheVariants.{Memory}

pub unread : {X U : Type 0} (found : Result (Option X) Error) (row : X) (read : Result U StatementFault) (IsReadable : Option X → Type 0) → found ≡ Ok (Some row) → (IsReadable (Some row) → ⊥) → Accepts found read IsReadable
unread {X} found row read IsReadable is bad = subst (λ (f : Result (Option X) Error). Accepts f read IsReadable) (sym is) (λ fits. absurd (bad fits))

no_error : {U : Type 0} (read : Result U StatementFault) → IsOk read → IsOkUnless read Memory
no_error (Ok x) is = tt
no_error (Err e) is = absurd (true≢false (sym is))

-- a row that is read where it can be
pub is_read : {X U : Type 0} (found : Result (Option X) Error) (row : X) (read : Result U StatementFault) (IsReadable : Option X → Type 0) → found ≡ Ok (Some row) → (IsReadable (Some row) → IsOk read) → Accepts found read IsReadable
is_read {X} found row read IsReadable is can = subst (λ (f : Result (Option X) Error). Accepts f read IsReadable) (sym is) (λ fits. no_error read (can fits))

-- an error that is handed on
pub same_fault : {U : Type 0} (read : Result U StatementFault) (e : StatementFault) → IsErrAnd read (λ f. f ≡ e) → e ≡ Memory → IsOkUnless read Memory
same_fault (Ok x) e is memory = tt
same_fault (Err f) e is memory = is ∙ memory

pub reply_of_receipt : (k : Kept Receipt) → is_receipt k ≡ true → is_reply k.1.kind k.1.n1 k.1.n2 k.1.n3 ≡ true
reply_of_receipt k h =
    second_of_both (reads (key_reading k.1.key)) (is_reply k.1.kind k.1.n1 k.1.n2 k.1.n3)
    (second_of_both (reads (holder_reading k.1.caller)) (reads (key_reading k.1.key) && is_reply k.1.kind k.1.n1 k.1.n2 k.1.n3) h)
