-- What an ending tells of a text, and of an import.
use Rattle.std.proofs.Common.{arith, inl, inr, refl, ◌≡◌, ◌∙◌, ℕ, List, Bool, true, false, true≢false, Result, Ok, Err, Option, Some, None, is_ok, OnOk, IsTrue}
use Rattle.std.specs.Io.KnownBytes.{Appends, Keeps}
use Rattle.goo_core_shelf.specs.Shelf.{Moment}
use Rattle.goo_spec.specs.State.{Account}
use Rattle.goo_spec.specs.Checks.{issuer}
use Rattle.goo_core_reads.specs.declared.denial.Denial.{Denial}
use Rattle.goo_registry.specs.Reads.{account_denial}
use Rattle.goo_files.specs.declared.text_fault.ShowFault.{ShowFault}
use Rattle.goo_files.specs.declared.text_fault.ShowFault.TheVariants as text
use Rattle.goo_files.specs.Writes.{Began, Writes, Wrote}
use Rattle.goo_files_streams.proofs.AppendsFacts.{prefix-whole}
use Rattle.goo_files_import.specs.declared.cause.Cause.{Cause}
use Rattle.goo_files_import.specs.declared.cause.Cause.TheVariants as cause
use Rattle.goo_cli_ending.specs.Endings.{status_of}
use Rattle.goo_cli_texts.specs.Endings.{ending_of_import, ending_of_text, IsOfImport, IsOfText}

-- what was appended stands behind what was there, after a flush too
kept : (had between has : Option (List ℕ)) (text : List ℕ) → Appends had between text → Keeps between has → Appends had has text
kept None between has text appended same = tt
kept (Some xs) None has text appended same = absurd appended
kept (Some xs) (Some ys) None text appended same = absurd same
kept (Some xs) (Some ys) (Some zs) text appended same = rw same appended

keeps_on : (had between has : Option (List ℕ)) → Keeps had between → Keeps between has → Keeps had has
keeps_on None between has a b = tt
keeps_on (Some xs) None has a b = absurd a
keeps_on (Some xs) (Some ys) None a b = absurd b
keeps_on (Some xs) (Some ys) (Some zs) a b = b ∙ a

module _ (old new : Moment) (before mid after : Option (List ℕ)) (denial : Option Denial) (right : List ℕ → Type 0) where
  pub shown : (result : Result (Unit {0}) ShowFault) (out : Bool) → Writes old new before mid result denial (λ u given. right given) → Keeps mid after → new.corruptions ≡ 0 → status_of (ending_of_text result out) ≡ 0 → Wrote before after right
  shown (Ok done) true writes keeps clean status =
      let text = writes.whole (writes.looks.works clean) in
      (text.0, text.1, kept before mid after text.0 text.2 keeps)
  shown (Ok done) false writes keeps clean status = absurd (omega (arith, status))
  shown (Err text.NotAllowed) out writes keeps clean status = absurd (omega (arith, status))
  shown (Err text.Unknown) out writes keeps clean status = absurd (omega (arith, status))
  shown (Err text.Write) out writes keeps clean status = absurd (omega (arith, status))
  shown (Err text.Store) out writes keeps clean status = absurd (omega (arith, status))
  shown (Err text.Memory) out writes keeps clean status = absurd (omega (arith, status))

  pub silent : (result : Result (Unit {0}) ShowFault) (out : Bool) → Writes old new before mid result denial (λ u given. right given) → Keeps mid after → new.corruptions ≡ 0 → status_of (ending_of_text result out) ≡ 1 → Keeps before after
  silent (Ok done) true writes keeps clean status = absurd (omega (arith, status))
  silent (Ok done) false writes keeps clean status = absurd (omega (arith, status))
  silent (Err text.NotAllowed) out writes keeps clean status = keeps_on before mid after (writes.silent (writes.looks.works clean) tt) keeps
  silent (Err text.Unknown) out writes keeps clean status = keeps_on before mid after (writes.silent (writes.looks.works clean) tt) keeps
  silent (Err text.Write) out writes keeps clean status = absurd (omega (arith, status))
  silent (Err text.Store) out writes keeps clean status = absurd (omega (arith, status))
  silent (Err text.Memory) out writes keeps clean status = absurd (omega (arith, status))

-- a beginning that was written stands, after a flush too
began_on : (before mid after : Option (List ℕ)) (right : List ℕ → Type 0) → Began before mid (λ given. (x : Unit {0}) × right given) → Keeps mid after → Began before after right
began_on before mid after right (inl same) keeps = inl (keeps_on before mid after same keeps)
began_on before mid after right (inr (given, is, (count, appended))) keeps = inr (given, is.1, (count, kept before mid after _ appended keeps))

module _ (old new : Moment) (before mid after : Option (List ℕ)) (denial : Option Denial) (right : List ℕ → Type 0) where
  pub begun : (result : Result (Unit {0}) ShowFault) (out : Bool) → Writes old new before mid result denial (λ u given. right given) → Keeps mid after → new.corruptions ≡ 0 → old.defects ≡ 0 → status_of (ending_of_text result out) ≡ 3 → Began before after right
  begun (Ok done) true writes keeps clean sure status = absurd (omega (arith, status))
  begun (Ok done) false writes keeps clean sure status =
      let text = writes.whole (writes.looks.works clean) in
      inr (text.0, text.1, prefix-whole before after text.0 (kept before mid after text.0 text.2 keeps))
  begun (Err text.NotAllowed) out writes keeps clean sure status = absurd (omega (arith, status))
  begun (Err text.Unknown) out writes keeps clean sure status = absurd (omega (arith, status))
  begun (Err text.Write) out writes keeps clean sure status = began_on before mid after right (writes.begun clean sure tt) keeps
  begun (Err text.Store) out writes keeps clean sure status = began_on before mid after right (writes.begun clean sure tt) keeps
  begun (Err text.Memory) out writes keeps clean sure status = began_on before mid after right (writes.begun clean sure tt) keeps

absent : (caller : List ℕ) → caller ≡ issuer → (row : Option Account) (why : Denial) → account_denial caller row ≡ Some why → row ≡ None
absent caller same None why e = refl
absent caller same (Some account) why e = cc (rw same at e)

module _ (old new : Moment) (before mid : Option (List ℕ)) (caller : List ℕ) (same : caller ≡ issuer) (row : Option Account) (right : List ℕ → Type 0) where
  pub unknown : (result : Result (Unit {0}) ShowFault) (out : Bool) → Writes old new before mid result (account_denial caller row) (λ u given. right given) → new.corruptions ≡ 0 → status_of (ending_of_text result out) ≡ 1 → row ≡ None
  unknown (Ok done) true writes clean status = absurd (omega (arith, status))
  unknown (Ok done) false writes clean status = absurd (omega (arith, status))
  unknown (Err text.NotAllowed) out writes clean status = absent caller same row _ (writes.denied (writes.looks.works clean))
  unknown (Err text.Unknown) out writes clean status = absent caller same row _ (writes.denied (writes.looks.works clean))
  unknown (Err text.Write) out writes clean status = absurd (omega (arith, status))
  unknown (Err text.Store) out writes clean status = absurd (omega (arith, status))
  unknown (Err text.Memory) out writes clean status = absurd (omega (arith, status))

-- what a flush leaves holds with status 0
pub flushed : {T E : Type 0} (Holds : Type 0) (result : Result (Unit {0}) ShowFault) (out : Bool) (flush : Result T E) → out ≡ is_ok flush → OnOk flush Holds → status_of (ending_of_text result out) ≡ 0 → Holds
flushed Holds result out (Ok x) same told status = told
flushed Holds (Ok done) true (Err e) same told status = absurd (true≢false same)
flushed Holds (Ok done) false (Err e) same told status = absurd (omega (arith, status))
flushed Holds (Err text.NotAllowed) out (Err e) same told status = absurd (omega (arith, status))
flushed Holds (Err text.Unknown) out (Err e) same told status = absurd (omega (arith, status))
flushed Holds (Err text.Write) out (Err e) same told status = absurd (omega (arith, status))
flushed Holds (Err text.Store) out (Err e) same told status = absurd (omega (arith, status))
flushed Holds (Err text.Memory) out (Err e) same told status = absurd (omega (arith, status))

pub emptied : (Holds : Type 0) (why : Option Cause) (all out : Bool) → (IsTrue out → Holds) → status_of (ending_of_import why all out) ≡ 0 → Holds
emptied Holds None all true told status = told refl
emptied Holds None all false told status = absurd (omega (arith, status))
emptied Holds (Some cause.Header) all out told status = absurd (omega (arith, status))
emptied Holds (Some cause.Read) all out told status = absurd (omega (arith, status))
emptied Holds (Some cause.Store) all out told status = absurd (omega (arith, status))
emptied Holds (Some cause.Memory) all out told status = absurd (omega (arith, status))

-- how a text, and an import, may end
pub of_text : (written : Result (Unit {0}) ShowFault) (out : Bool) → IsOfText (ending_of_text written out)
of_text (Ok done) true = tt
of_text (Ok done) false = tt
of_text (Err text.NotAllowed) out = tt
of_text (Err text.Unknown) out = tt
of_text (Err text.Write) out = tt
of_text (Err text.Store) out = tt
of_text (Err text.Memory) out = tt

pub of_import : (why : Option Cause) (all out : Bool) → IsOfImport (ending_of_import why all out)
of_import None all false = tt
of_import None true true = tt
of_import None false true = tt
of_import (Some cause.Header) all out = tt
of_import (Some cause.Read) all out = tt
of_import (Some cause.Store) all out = tt
of_import (Some cause.Memory) all out = tt
