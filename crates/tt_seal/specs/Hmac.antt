-- HMAC with SHA-256 (RFC 2104, section 2; FIPS 198-1, section 4). A key, a text and a digest are lists of bytes.
use Rattle.std.specs.Prelude.{ℕ, ◌-◌, List, ◌++◌, length, map, replicate, nat_lt, bit_xor, if◌then◌else◌}
use Rattle.sha2.specs.Sha256.{sha256}

-- the length of a block of SHA-256, in bytes
abbrev pub block_len : ℕ
block_len = 64

-- a key of at most a block as it is, and the hash of a longer one
abbrev pub short_key : List ℕ → List ℕ
short_key key = if nat_lt block_len (length key) then sha256 key else key

-- the key as a block: zeros stand behind it
unfoldable pub block_key : List ℕ → List ℕ
block_key key = short_key key ++ replicate (block_len - length (short_key key)) 0

-- the block of the key, each byte exclusive-ored with this one
abbrev pub padded_key : ℕ → List ℕ → List ℕ
padded_key byte key = map (bit_xor byte) (block_key key)

-- the block of the key with ipad, the byte 0x36
abbrev pub inner_pad : List ℕ → List ℕ
inner_pad key = padded_key 0x36 key

-- the block of the key with opad, the byte 0x5C
abbrev pub outer_pad : List ℕ → List ℕ
outer_pad key = padded_key 0x5C key

-- the hash of the outer pad, and behind it the hash of the inner pad and the text
abbrev pub hmac_sha256 : List ℕ → List ℕ → List ℕ
hmac_sha256 key text = sha256 (outer_pad key ++ sha256 (inner_pad key ++ text))
