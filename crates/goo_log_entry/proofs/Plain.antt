-- Which bodies stand as text.
use Rattle.std.proofs.Common.{◌≡◌, ◌<◌, ◌≤◌, ◌+◌, ◌/◌, true, false, List, ℕ, length, refl, nat_lt}
use Rattle.std.specs.Prelude.{not, ◌&&◌, ◌||◌}
use Rattle.std.specs.Str.{IsUtf8, is_utf8}
use Rattle.std.proofs.lemmas.Bool.{lt-ltb, le-ltb}
use Rattle.std.proofs.lemmas.Str.{IsUtf8-from_is_utf8, is_utf8-from_IsUtf8}
use Rattle.json.specs.Print.{quoted}
use Rattle.goo_log_entry.specs.Body.{is_plain}

pub not_utf8 : (body : List ℕ) → ¬ (IsUtf8 body) → is_plain body ≡ false
unfolding is_plain
not_utf8 body h =
    elim (is_utf8 body) as (λ b. is_utf8 body ≡ b → (b && (nat_lt (length body) 4096 || not (nat_lt (length body + length body / 3) (length (quoted body))))) ≡ false) [
      | true ↦ λ e. absurd (h (IsUtf8-from_is_utf8 body e))
      | false ↦ λ e. refl
    ] refl

pub short_is_plain : (body : List ℕ) → IsUtf8 body → length body < 4096 → is_plain body ≡ true
unfolding is_plain
short_is_plain body u h = rw (is_utf8-from_IsUtf8 body u, lt-ltb (length body) 4096 h) refl

pub long_is_plain : (body : List ℕ) → IsUtf8 body → 4096 ≤ length body → length (quoted body) ≤ length body + length body / 3 → is_plain body ≡ true
unfolding is_plain
long_is_plain body u h k = rw (is_utf8-from_IsUtf8 body u, le-ltb (length body) 4096 h, le-ltb (length body + length body / 3) (length (quoted body)) k) refl
