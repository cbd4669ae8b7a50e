-- HMAC (RFC 2104) over SHA-256, whose blocks are of 64 bytes.
use Rattle.std.specs.Prelude.{ℕ, ◌-◌, List, ◌++◌, map, length, replicate, nat_lt, if◌then◌else◌, bit_xor}
use Rattle.sha2.specs.Sha256.{sha256}

-- a key with zeros behind it, a block in all
abbrev pub filled : List ℕ → List ℕ
filled key = key ++ replicate (64 - length key) 0

-- the block of a key; of a key longer than a block, that of its digest
abbrev pub key_block : List ℕ → List ℕ
key_block key = if nat_lt 64 (length key) then filled (sha256 key) else filled key

-- each byte of a block, mixed with one byte
abbrev pub masked : ℕ → List ℕ → List ℕ
masked byte block = map (λ b. bit_xor b byte) block

-- the keyed hash of a text, by the key's block
unfoldable pub hash_by : List ℕ → List ℕ → List ℕ
hash_by block text = sha256 (masked 0x5c block ++ sha256 (masked 0x36 block ++ text))

-- the keyed hash of a text, by the key
abbrev pub hmac : List ℕ → List ℕ → List ℕ
hmac key text = hash_by (key_block key) text
