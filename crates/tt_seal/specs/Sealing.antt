-- Envelopes: a message, the number of a key, and a tag under this key.
use Rattle.std.specs.Prelude.{◌≡◌, ◌≢◌, ℕ, ◌+◌, ◌-◌, ◌^◌, ◌<◌, ◌≤◌, List, [], ◌∷◌, ◌++◌, length, take, drop, nat_lt, ◌||◌, ◌==◌, slice_index, if◌then◌else◌, Option, Some, None, Result, Ok, Err}
use Rattle.std.specs.Int.{w32, to_be_bytes, from_be_bytes}
use Rattle.std.specs.List.{AllByRecursion}
use Rattle.std.specs.Str.{bytes_eq}
use Rattle.tt_seal.specs.Hmac.{hmac_sha256}
use Rattle.tt_seal.specs.declared.faults.SealFault.{SealFault}
use Rattle.tt_seal.specs.declared.faults.SealFault.TheVariants.{Length, UnknownKey, WrongTag}
use Rattle.tt_seal.specs.declared.sealing.Opened.{Opened}

-- a key: its number, and its bytes
pub record SealKey : Type 0 where
  pub number : ℕ
  pub bytes : List ℕ

-- a key in range: a number of 32 bits, and 32 bytes
pub record IsKey (key : SealKey) : Type 0 where
  pub number_fits : key.number < 2 ^ 32
  pub whole : length key.bytes ≡ 32

-- each element is a byte
abbrev pub IsBytes : List ℕ → Type 0
IsBytes bytes = (place : ℕ) → slice_index bytes place < 256

-- the most bytes of a message
abbrev pub max_message : ℕ
max_message = 40

-- the bytes of the number of a key
abbrev pub number_len : ℕ
number_len = 4

-- the bytes of a tag
abbrev pub tag_len : ℕ
tag_len = 16

-- how many bytes an envelope has more than its message
abbrev pub extra_len : ℕ
extra_len = number_len + tag_len

-- what the tag is of: the message, and the number of the key, the highest byte first
abbrev pub tagged_part : List ℕ → ℕ → List ℕ
tagged_part message number = message ++ to_be_bytes w32 number

-- the tag: the first sixteen bytes of HMAC-SHA256 under the key
unfoldable pub tag_of : List ℕ → List ℕ → List ℕ
tag_of bytes part = take tag_len (hmac_sha256 bytes part)

-- the sealing of a message under a key
unfoldable pub sealing_of : List ℕ → SealKey → List ℕ
sealing_of message key = tagged_part message key.number ++ tag_of key.bytes (tagged_part message key.number)

-- the key with this number: the first of the list that has it
abbrev pub key_with : List SealKey → ℕ → Option SealKey
key_with [] number = None
key_with (key ∷ others) number = if key.number == number then Some key else key_with others number

-- no key has the number of a later one
abbrev pub HaveOwnNumbers : List SealKey → Type 0
HaveOwnNumbers [] = Unit {0}
HaveOwnNumbers (key ∷ others) = AllByRecursion (λ other. key.number ≢ other.number) others × HaveOwnNumbers others

-- how long the message of an envelope is
abbrev pub message_len : List ℕ → ℕ
message_len bytes = length bytes - extra_len

-- the message of an envelope
abbrev pub message_in : List ℕ → List ℕ
message_in bytes = take (message_len bytes) bytes

-- the number of the key of an envelope
abbrev pub number_in : List ℕ → ℕ
number_in bytes = from_be_bytes w32 (take number_len (drop (message_len bytes) bytes))

-- what the tag of an envelope is of
abbrev pub part_in : List ℕ → List ℕ
part_in bytes = take (message_len bytes + number_len) bytes

-- the tag of an envelope
abbrev pub tag_in : List ℕ → List ℕ
tag_in bytes = drop (message_len bytes + number_len) bytes

-- what opens: the message, and the number of its key
abbrev pub opened_as : List ℕ → ℕ → Opened
opened_as message number = record { number = number; message = record { items = message } }

-- what an envelope is under the key that was found, if one was found
abbrev pub opened_under : Option SealKey → List ℕ → Result Opened SealFault
opened_under None bytes = Err UnknownKey
opened_under (Some key) bytes =
    if bytes_eq (tag_in bytes) (tag_of key.bytes (part_in bytes)) then Ok (opened_as (message_in bytes) (number_in bytes)) else Err WrongTag

-- what the bytes are under these keys: the message and the number of its key, or the first refusal that applies
unfoldable pub opened_of : List ℕ → List SealKey → Result Opened SealFault
opened_of bytes keys =
    if nat_lt (length bytes) extra_len || nat_lt (max_message + extra_len) (length bytes) then Err Length
    else opened_under (key_with keys (number_in bytes)) bytes

-- the bytes are the sealing of this message under the key of the list with this number
pub record IsOpened (bytes : List ℕ) (keys : List SealKey) (opened : Opened) : Type 0 where
  pub key : SealKey
  pub known : key_with keys opened.number ≡ Some key
  pub numbered : key.number ≡ opened.number
  pub fits : length opened.message.items ≤ max_message
  pub sealed : bytes ≡ sealing_of opened.message.items key
