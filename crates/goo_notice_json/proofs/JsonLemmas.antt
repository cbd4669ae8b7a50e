-- Which JSON value bytes spell.
use Rattle.std.proofs.Common.{◌≡◌, ℕ, List, Bool, true, false, Some, None, refl}
use Rattle.std.specs.Str.{IsUtf8, is_utf8}
use Rattle.std.proofs.lemmas.Str.{is_utf8-from_IsUtf8, IsUtf8-from_is_utf8}
use Rattle.serde_json.specs.Data.{Data}
use Rattle.serde_json.specs.Read.{read}
use Rattle.goo_notice_json.specs.Json.{json_in}

pub json_in_read : (bytes : List ℕ) (d : Data) → IsUtf8 bytes → read bytes ≡ Some d → json_in bytes ≡ Some d
unfolding json_in
json_in_read bytes d utf8 e = rw (is_utf8-from_IsUtf8 bytes utf8, e) refl

refused : (b : Bool) (bytes : List ℕ) → is_utf8 bytes ≡ b → (IsUtf8 bytes → read bytes ≡ None) → json_in bytes ≡ None
unfolding json_in
refused true bytes is none = rw (is, none (IsUtf8-from_is_utf8 bytes is)) refl
refused false bytes is none = rw is refl

pub json_in_refused : (bytes : List ℕ) → (IsUtf8 bytes → read bytes ≡ None) → json_in bytes ≡ None
json_in_refused bytes none = refused (is_utf8 bytes) bytes refl none
