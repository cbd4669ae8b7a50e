-- What a reader of a whole input was given.
use Rattle.std.proofs.Common.{◌≡◌, ◌≤◌, ◌<◌, ◌-◌, ◌++◌, ℕ, List, length, take, length-append, Option, Some, None, Result, Ok, Err, arith, refl, IsErrAnd, sym, subst}
use Rattle.std.proofs.lemmas.List.{length-take-le}
use Rattle.std.specs.Global.{Global}
use Rattle.std.specs.Prelude.{Vec}
use Rattle.std.specs.Io.KnownBytes.{Consumes}
use Rattle.std.proofs.KnownBytes.{Consumes-trans, Consumes-whole}
use Rattle.goo_files_streams.specs.Streams.{IsBroken, IsWhole, IsWholeOf, ReadsWhole}
use Rattle.goo_files_streams.specs.declared.InputFault.{InputFault}
use Rattle.goo_files_streams.specs.declared.InputFault.TheVariants.{TooLong, Memory}

-- one read more is over the limit
pub broken_over : (a b c : Option (List ℕ)) (limit : ℕ) (items chunk : List ℕ) (count : ℕ) → Consumes a b items → Consumes b c (take count chunk) → count ≤ length chunk → length items ≤ limit → limit - length items < count
    → IsBroken a c limit TooLong
broken_over a b c limit items chunk count had next whole within over = record {
  begun = items ++ take count chunk;
  given = Consumes-trans a b c items (take count chunk) had next;
  over = λ _. omega (arith, length-append items (take count chunk), length-take-le count chunk whole, over, within);
  within = λ other. absurd (other refl);
}

-- there was no room for one read more
pub broken_full : (a b c : Option (List ℕ)) (limit : ℕ) (items chunk : List ℕ) (count : ℕ) (r : Result (Vec ℕ Global) InputFault) → IsErrAnd r (λ e. e ≡ Memory) → Consumes a b items → Consumes b c (take count chunk)
    → count ≤ length chunk → length items ≤ limit → count ≤ limit - length items → ReadsWhole a c limit r
broken_full a b c limit items chunk count (Ok x) is had next whole within fits = absurd is
broken_full a b c limit items chunk count (Err e) is had next whole within fits = subst (λ f. ReadsWhole a c limit (Err f)) (sym is) (record {
  begun = items ++ take count chunk;
  given = Consumes-trans a b c items (take count chunk) had next;
  over = λ same. absurd cc;
  within = λ other. omega (arith, length-append items (take count chunk), length-take-le count chunk whole, fits, within);
})

-- all that the reader had, where that is known
pub whole_of : (before after : Option (List ℕ)) (limit : ℕ) (input : List ℕ) → IsWhole before after limit input → IsWholeOf before input
whole_of None after limit input whole = tt
whole_of (Some all) after limit input whole = Consumes-whole (Some all) after input (λ bytes. input ≡ bytes) whole.given whole.end refl
