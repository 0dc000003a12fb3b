-- chrony's file of keys: a line for each, with its number, its type and the key.
use Rattle.std.specs.Prelude.{ℕ, ◌/◌, ◌||◌, Bool, not, nat_lt, ◌==◌, if◌then◌else◌, ◌≢◌, unwrap_or, List, [], ◌∷◌, length, take, drop, Option, Some, None, Result, Ok, Err}
use Rattle.std.specs.Fmt.{decimal}
use Rattle.std.specs.List.{AllByRecursion, prefix_len, slice_split}
use Rattle.std.specs.Str.{bytes_eq}
use Rattle.hex.specs.Hex.{decode_sized}
use Rattle.hex.specs.declared.error.FromHexError.{FromHexError}
use Rattle.tt_ntp.specs.Keyed.{PacketKey}
use Rattle.tt_ntp.specs.declared.keys.KeyHash.{KeyHash}
use Rattle.tt_ntp.specs.declared.keys.KeyHash.TheVariants.{Sha1, Sha256}
use Rattle.tt_upstream.specs.declared.key_files.NtpKeyFault.{NtpKeyFault}
use Rattle.tt_upstream.specs.declared.key_files.NtpKeyFault.TheVariants.{NoKey, BadLine, OtherType, BadKey}

-- the number of each reason why a text gives no key
abbrev pub key_fault_number : NtpKeyFault → ℕ
key_fault_number NoKey = 2411
key_fault_number BadLine = 2412
key_fault_number OtherType = 2413
key_fault_number BadKey = 2414

-- the lines of a text: what stands before, between and behind its line feeds
abbrev pub lines_of : List ℕ → List (List ℕ)
lines_of text = slice_split (λ byte. byte == 10) text

-- whether a byte is a blank: a space, a tab, or a carriage return
abbrev pub is_blank : ℕ → Bool
is_blank byte = byte == 32 || byte == 9 || byte == 13

-- whether a byte is of a word
abbrev pub is_mark : ℕ → Bool
is_mark byte = not (is_blank byte)

-- a line without the blanks at its front
abbrev pub trimmed : List ℕ → List ℕ
trimmed line = drop (prefix_len is_blank line) line

-- the first word of a line, empty where there is none
abbrev pub word_of : List ℕ → List ℕ
word_of line = take (prefix_len is_mark (trimmed line)) (trimmed line)

-- what stands behind the first word
abbrev pub behind : List ℕ → List ℕ
behind line = drop (prefix_len is_mark (trimmed line)) (trimmed line)

-- the hash that a type names, in upper or in lower case
abbrev pub hash_named : List ℕ → Option KeyHash
hash_named name =
    if bytes_eq name (83 ∷ 72 ∷ 65 ∷ 49 ∷ []) || bytes_eq name (115 ∷ 104 ∷ 97 ∷ 49 ∷ []) then Some Sha1
    else if bytes_eq name (83 ∷ 72 ∷ 65 ∷ 50 ∷ 53 ∷ 54 ∷ []) || bytes_eq name (115 ∷ 104 ∷ 97 ∷ 50 ∷ 53 ∷ 54 ∷ []) then Some Sha256
    else None

-- the most bytes of a key
abbrev pub max_key_len : ℕ
max_key_len = 64

-- a key of these bytes, of which there are 1 to 64; its number is not 0
abbrev pub key_made : ℕ → KeyHash → List ℕ → Result PacketKey NtpKeyFault
key_made number hash bytes =
    if number == 0 || length bytes == 0 || nat_lt max_key_len (length bytes) then Err BadKey
    else Ok (record { number = number; hash = hash; bytes = bytes })

-- a key of what digits were read as
abbrev pub key_decoded : ℕ → KeyHash → Result (List ℕ) FromHexError → Result PacketKey NtpKeyFault
key_decoded number hash (Ok bytes) = key_made number hash bytes
key_decoded number hash (Err fault) = Err BadKey

-- a key in hexadecimal digits, of either case
abbrev pub key_of_digits : ℕ → KeyHash → List ℕ → Result PacketKey NtpKeyFault
key_of_digits number hash digits =
    if nat_lt max_key_len (length digits / 2) then Err BadKey else key_decoded number hash (decode_sized digits (length digits / 2))

-- the bytes of `HEX:` and of `ASCII:`
abbrev pub hex_front : List ℕ
hex_front = 72 ∷ 69 ∷ 88 ∷ 58 ∷ []

abbrev pub ascii_front : List ℕ
ascii_front = 65 ∷ 83 ∷ 67 ∷ 73 ∷ 73 ∷ 58 ∷ []

-- a key as a word: digits behind `HEX:`, a text behind `ASCII:`, or a text alone
abbrev pub key_of_word : ℕ → KeyHash → List ℕ → Result PacketKey NtpKeyFault
key_of_word number hash word =
    if bytes_eq (take 4 word) hex_front then key_of_digits number hash (drop 4 word)
    else if bytes_eq (take 6 word) ascii_front then key_made number hash (drop 6 word)
    else key_made number hash word

-- a key of a type that is read, as this word
abbrev pub key_typed : ℕ → Option KeyHash → List ℕ → Result PacketKey NtpKeyFault
key_typed number None word = Err OtherType
key_typed number (Some hash) word = key_of_word number hash word

-- whether nothing but blanks stands in a line
abbrev pub is_bare : List ℕ → Bool
is_bare line = length (trimmed line) == 0

-- the key in what stands behind its number: a type, the key, and no more words
abbrev pub key_behind : ℕ → List ℕ → Result PacketKey NtpKeyFault
key_behind number rest =
    if is_bare (behind rest) || not (is_bare (behind (behind rest))) then Err BadLine
    else key_typed number (hash_named (word_of rest)) (word_of (behind rest))

-- the key of a line, if its first word is the number
abbrev pub key_if_asked : ℕ → List ℕ → Option (Result PacketKey NtpKeyFault)
key_if_asked number line = if bytes_eq (word_of line) (decimal number) then Some (key_behind number (behind line)) else None

-- the key of the first line that is asked for
abbrev pub key_among : ℕ → List (List ℕ) → Result PacketKey NtpKeyFault
key_among number [] = Err NoKey
key_among number (line ∷ lines) = unwrap_or (key_if_asked number line) (key_among number lines)

-- no byte is a line feed
abbrev pub HasNoFeed : List ℕ → Type 0
HasNoFeed bytes = AllByRecursion (λ byte. byte ≢ 10) bytes
