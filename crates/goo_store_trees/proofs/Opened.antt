-- That a store which is not broken is open, and two things that are so of an error.
use Rattle.std.proofs.Common.{◌≡◌, ◌∙◌, Bool, true, false, IsTrue, refl, sym, true≢false, Result, Ok, Err, IfErr}

pub open_if_whole : (is_open is_broken : Bool) → (is_open ≡ false → IsTrue is_broken) → is_broken ≡ false → IsTrue is_open
open_if_whole true is_broken law whole = refl
open_if_whole false is_broken law whole = absurd (true≢false (sym (law refl) ∙ whole))

pub err_both : {X E : Type 0} {P Q R : E → Type 0} (r : Result X E) → ((e : E) → P e → Q e → R e) → IfErr r P → IfErr r Q → IfErr r R
err_both (Ok x) both p q = tt
err_both (Err e) both p q = both e p q
