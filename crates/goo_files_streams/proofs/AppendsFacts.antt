-- Two writes in turn.
use Rattle.std.proofs.Common.{◌≡◌, ◌∷◌, zero, suc, ap, ℕ, List, ◌+◌, ◌++◌, take, drop, length, ◌-◌, arith, refl, [], append_assoc, Option, Some, None}
use Rattle.std.proofs.Math.Seq.{take-add, take-length, take-append-add}
use Rattle.std.proofs.lemmas.List.{append-nil}
use Rattle.goo_files_streams.specs.Streams.{AppendsPrefix}
use Rattle.std.proofs.lemmas.Grind.{common_steps}
use Rattle.std.specs.Io.KnownBytes.{Appends, Keeps}

pub appends-more : (a b c : Option (List ℕ)) (xs ys : List ℕ) → Appends a b xs → Appends b c ys → Appends a c (xs ++ ys)
appends-more None b c xs ys p q = tt
appends-more (Some a) None c xs ys p q = absurd p
appends-more (Some a) (Some b) None xs ys p q = absurd q
appends-more (Some a) (Some b) (Some c) xs ys p q = rw (q, p) (append_assoc a xs ys)

-- the first part of a text, and then the next part
pub appends-next : (a b c : Option (List ℕ)) (text : List ℕ) (done count : ℕ) → Appends a b (take done text) → Appends b c (take count (drop done text)) → Appends a c (take (done + count) text)
appends-next a b c text done count p q = rw (take-add done count text) (appends-more a b c _ _ p q)

-- the part of a text from a place to its end
pub rest-whole : (at : ℕ) (text : List ℕ) → take (length text - at) (drop at text) ≡ drop at text
rest-whole at text = grind (arith, common_steps)

pub appends-none : (a : Option (List ℕ)) → Appends a a []
appends-none None = tt
appends-none (Some a) = rw append-nil refl

-- a text, and then nothing more
pub appends-kept : (a b c : Option (List ℕ)) (xs : List ℕ) → Appends a b xs → Keeps b c → Appends a c xs
appends-kept None b c xs p q = tt
appends-kept (Some a) None c xs p q = absurd p
appends-kept (Some a) (Some b) None xs p q = absurd q
appends-kept (Some a) (Some b) (Some c) xs p q = rw q p

-- a text, and then a beginning of another
pub prefix-more : (a b c : Option (List ℕ)) (xs ys : List ℕ) → Appends a b xs → AppendsPrefix b c ys → AppendsPrefix a c (xs ++ ys)
prefix-more a b c xs ys p (count, q) = (length xs + count, rw (take-append-add xs ys count) (appends-more a b c xs _ p q))

-- a whole text is a beginning of it
pub prefix-whole : (a b : Option (List ℕ)) (xs : List ℕ) → Appends a b xs → AppendsPrefix a b xs
prefix-whole a b xs p = (length xs, rw (take-length xs) p)

front : (count : ℕ) (xs ys : List ℕ) → (c : ℕ) × (take c (xs ++ ys) ≡ take count xs)
front zero xs ys = (0, refl)
front (suc count) [] ys = (0, refl)
front (suc count) (x ∷ xs) ys = let rest = front count xs ys in (suc rest.0, ap (λ t. x ∷ t) rest.1)

-- a beginning of a text is one of the text with more after it
pub prefix-front : (a b : Option (List ℕ)) (xs ys : List ℕ) → AppendsPrefix a b xs → AppendsPrefix a b (xs ++ ys)
prefix-front a b xs ys (count, p) = let same = front count xs ys in (same.0, rw same.1 p)
