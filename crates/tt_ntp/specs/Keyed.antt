-- Packets under a symmetric key: behind the packet stand the number of the key and a digest.
use Rattle.std.specs.Prelude.{◌≡◌, ℕ, ◌+◌, ◌^◌, ◌<◌, ◌≤◌, List, ◌++◌, length, take, drop, not, ◌==◌, if◌then◌else◌, slice_index, Result, Ok, Err}
use Rattle.std.specs.Int.{w32, to_be_bytes}
use Rattle.std.specs.Str.{bytes_eq}
use Rattle.sha1.specs.Sha1.{sha1}
use Rattle.sha2.specs.Sha256.{sha256}
use Rattle.tt_ntp.specs.declared.faults.NtpFault.{NtpFault}
use Rattle.tt_ntp.specs.declared.faults.NtpFault.TheVariants.{Length, OtherKey, WrongDigest}
use Rattle.tt_ntp.specs.declared.keys.KeyHash.{KeyHash}
use Rattle.tt_ntp.specs.declared.keys.KeyHash.TheVariants.{Sha1, Sha256}
use Rattle.tt_ntp.specs.declared.queries.Query.{Query}
use Rattle.tt_ntp.specs.declared.replies.Reply.{Reply}
use Rattle.tt_ntp.specs.Packet.{packet_len, short_at}
use Rattle.tt_ntp.specs.Reading.{read_of}

-- a key: its number, the hash that it is for, and its bytes
pub record PacketKey : Type 0 where
  pub number : ℕ
  pub hash : KeyHash
  pub bytes : List ℕ

-- a key in range: a number of 32 bits that is not 0, and 1 to 64 bytes
pub record IsPacketKey (key : PacketKey) : Type 0 where
  pub number_from : 1 ≤ key.number
  pub number_fits : key.number < 2 ^ 32
  pub bytes_from : 1 ≤ length key.bytes
  pub bytes_to : length key.bytes ≤ 64

-- each element is a byte
abbrev pub IsBytes : List ℕ → Type 0
IsBytes bytes = (place : ℕ) → slice_index bytes place < 256

-- the bytes of a digest, however long the hash is
abbrev pub digest_len : ℕ
digest_len = 20

-- the length of a packet under a key, in bytes
abbrev pub keyed_len : ℕ
keyed_len = packet_len + 4 + digest_len

-- the hash of a text, cut to the length of a digest
abbrev pub cut_hash : KeyHash → List ℕ → List ℕ
cut_hash Sha1 text = sha1 text
cut_hash Sha256 text = take digest_len (sha256 text)

-- the digest of a packet: the cut hash of the key and, behind it, the packet
unfoldable pub digest_of : PacketKey → List ℕ → List ℕ
digest_of key packet = cut_hash key.hash (key.bytes ++ packet)

-- the packet under the key: the packet, the number of the key, the highest byte first, and the digest
unfoldable pub keyed_of : List ℕ → PacketKey → List ℕ
keyed_of packet key = packet ++ to_be_bytes w32 key.number ++ digest_of key packet

-- the packet that stands in the bytes
abbrev pub packet_in : List ℕ → List ℕ
packet_in bytes = take packet_len bytes

-- the number of a key that stands behind it
abbrev pub number_in : List ℕ → ℕ
number_in bytes = short_at bytes packet_len

-- the digest that stands behind both
abbrev pub digest_in : List ℕ → List ℕ
digest_in bytes = drop (packet_len + 4) bytes

-- what the bytes say as the reply to the query under this key
unfoldable pub keyed_read_of : Query → PacketKey → List ℕ → Result Reply NtpFault
keyed_read_of query key bytes =
    if not (length bytes == keyed_len) then Err Length
    else if not (number_in bytes == key.number) then Err OtherKey
    else if not (bytes_eq (digest_in bytes) (digest_of key (packet_in bytes))) then Err WrongDigest
    else read_of query (packet_in bytes)

-- the bytes are a packet under the key, and the reply is what that packet says
pub record IsKeyedReply (query : Query) (key : PacketKey) (bytes : List ℕ) (reply : Reply) : Type 0 where
  pub keyed : bytes ≡ keyed_of (packet_in bytes) key
  pub said : read_of query (packet_in bytes) ≡ Ok reply
