-- A digest is of bytes.
use Rattle.std.proofs.Common.{◌<◌, ◌%◌, ◌++◌, ℕ, zero, suc, List, [], ◌∷◌, arith}
use Rattle.std.specs.Int.{w32, to_be_bytes, bytes_high_first, byte_at}
use Rattle.std.specs.Prelude.{slice_index}
use Rattle.hex.specs.Hex.{IsBytes}
use Rattle.sha2.specs.Sha256.{digest_bytes, final_hash, initial_hash_256, sha256}

small : (x : ℕ) → x % 256 < 256
small x = omega arith

byte_small : (k n : ℕ) → byte_at k n < 256
byte_small zero n = small n
byte_small (suc k) n = small _

high : (k n : ℕ) → IsBytes (bytes_high_first k n)
high zero n i = omega arith
high (suc k) n zero = byte_small k n
high (suc k) n (suc i) = high k n i

IsBytes-append : (xs ys : List ℕ) → IsBytes xs → IsBytes ys → IsBytes (xs ++ ys)
IsBytes-append [] ys h k i = k i
IsBytes-append (x ∷ xs) ys h k zero = h 0
IsBytes-append (x ∷ xs) ys h k (suc i) = IsBytes-append xs ys (λ j. h (suc j)) k i

of_words : (h : List ℕ) (n : ℕ) → IsBytes (digest_bytes h n)
unfolding digest_bytes
of_words h zero i = omega arith
of_words h (suc n) i = IsBytes-append (digest_bytes h n) (to_be_bytes w32 (slice_index h n)) (of_words h n) (high 4 (slice_index h n)) i

pub IsBytes-sha256 : (m : List ℕ) → IsBytes (sha256 m)
unfolding sha256
IsBytes-sha256 m = of_words (final_hash initial_hash_256 m) 8
