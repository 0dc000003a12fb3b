-- What is read under a key is a packet under it, and a packet under it is read.
use Rattle.std.proofs.Common.{◌≡◌, ℕ, ◌+◌, ◌<◌, ◌^◌, List, ◌++◌, length, take, drop, Bool, true, false, cond, eqb, not, Result, Ok, Err, refl, ap, ◌∙◌, sym, arith, inl, inr, lit<, append_assoc, length-append}
use Rattle.std.specs.Prelude.{IfOk, zero, suc, ◌*◌, slice_index}
use Rattle.std.specs.Int.{w32, to_be_bytes, from_be_bytes}
use Rattle.std.specs.Str.{bytes_eq}
use Rattle.std.proofs.lemmas.Bool.{eqb-true, eq-eqb, cases_lt}
use Rattle.std.proofs.lemmas.List.{get_or-drop, get_or-take, get_or_past, length-take, length-take-le, length-drop, take-append-drop, take_at, drop_at}
use Rattle.std.proofs.lemmas.Nat.{be_bytes_4, from_be_bytes-to_be_bytes_4}
use Rattle.std.proofs.lemmas.Slice.Eq.{bytes_eq-Decides}
use Rattle.std.proofs.Math.Seq.{take-add}
use Rattle.sha1.specs.Sha1.{sha1, digest_bytes}
use Rattle.sha2.specs.Sha256.{sha256}
use Rattle.sha2.proofs.Facts256.{length-sha256}
use Rattle.tt_ntp.specs.declared.faults.NtpFault.{NtpFault}
use Rattle.tt_ntp.specs.declared.faults.NtpFault.TheVariants.{Length, OtherKey, WrongDigest}
use Rattle.tt_ntp.specs.declared.keys.KeyHash.{KeyHash}
use Rattle.tt_ntp.specs.declared.keys.KeyHash.TheVariants.{Sha1, Sha256}
use Rattle.tt_ntp.specs.declared.queries.Query.{Query}
use Rattle.tt_ntp.specs.declared.replies.Reply.{Reply}
use Rattle.tt_ntp.specs.Packet.{packet_len}
use Rattle.tt_ntp.specs.Reading.{read_of}
use Rattle.tt_ntp.specs.Keyed.{PacketKey, IsPacketKey, IsBytes, keyed_len, cut_hash, digest_of, keyed_of, packet_in, number_in, digest_in, keyed_read_of, IsKeyedReply}

-- ---- what is read is a packet under the key

passes : (b : Bool) (fault : NtpFault) (rest : Result Reply NtpFault) (reply : Reply) → cond (not b) (Err fault) rest ≡ Ok reply → (b ≡ true) × (rest ≡ Ok reply)
passes true fault rest reply h = (refl, h)
passes false fault rest reply h = cc

small_take : (n : ℕ) (bytes : List ℕ) → IsBytes bytes → IsBytes (take n bytes)
small_take n bytes h i =
    elim (cases_lt i n) [
      | inl lt ↦ rw (get_or-take n bytes i 0 lt) (h i)
      | inr le ↦ rw (get_or_past (take n bytes) i 0 (omega (arith, length-take n bytes))) (lit< tt)
    ]

small_drop : (n : ℕ) (bytes : List ℕ) → IsBytes bytes → IsBytes (drop n bytes)
small_drop n bytes h i = rw get_or-drop (h (n + i))

-- the four bytes of the number are its spelling
number_spelled : (bytes : List ℕ) → IsBytes bytes → length bytes ≡ keyed_len → to_be_bytes w32 (number_in bytes) ≡ take 4 (drop packet_len bytes)
number_spelled bytes small whole =
    let four : length (take 4 (drop packet_len bytes)) ≡ 4 = length-take-le 4 (drop packet_len bytes) (omega (arith, length-drop packet_len bytes)) in
    be_bytes_4 (take 4 (drop packet_len bytes)) (number_in bytes) four (small_take 4 (drop packet_len bytes) (small_drop packet_len bytes small)) refl

is_keyed : (key : PacketKey) (bytes : List ℕ) → IsBytes bytes → length bytes ≡ keyed_len → number_in bytes ≡ key.number → digest_in bytes ≡ digest_of key (packet_in bytes)
    → bytes ≡ keyed_of (packet_in bytes) key
unfolding keyed_of
is_keyed key bytes small whole numbered same =
    let spelled : to_be_bytes w32 key.number ≡ take 4 (drop packet_len bytes) = ap (λ (k : ℕ). to_be_bytes w32 k) (sym numbered) ∙ number_spelled bytes small whole in
    let front : packet_in bytes ++ to_be_bytes w32 key.number ≡ take (packet_len + 4) bytes = ap (λ (t : List ℕ). packet_in bytes ++ t) spelled ∙ sym (take-add packet_len 4 bytes) in
    sym (take-append-drop (packet_len + 4) bytes)
    ∙ ap (λ (t : List ℕ). take (packet_len + 4) bytes ++ t) same
    ∙ ap (λ (p : List ℕ). p ++ digest_of key (packet_in bytes)) (sym front)

pub keyed_read_of-found : (query : Query) (key : PacketKey) (bytes : List ℕ) (reply : Reply) → IsBytes bytes → keyed_read_of query key bytes ≡ Ok reply → IsKeyedReply query key bytes reply
unfolding keyed_read_of
keyed_read_of-found query key bytes reply small h =
    let same = bytes_eq (digest_in bytes) (digest_of key (packet_in bytes)) in
    let said = read_of query (packet_in bytes) in
    let with_digest = cond (not same) (Err WrongDigest) said in
    let with_number = cond (not (eqb (number_in bytes) key.number)) (Err OtherKey) with_digest in
    let long = passes (eqb (length bytes) keyed_len) Length with_number reply h in
    let numbered = passes (eqb (number_in bytes) key.number) OtherKey with_digest reply long.1 in
    let signed = passes same WrongDigest said reply numbered.1 in
    record {
      keyed = is_keyed key bytes small (eqb-true (length bytes) keyed_len long.0) (eqb-true (number_in bytes) key.number numbered.0) ((bytes_eq-Decides (digest_in bytes) (digest_of key (packet_in bytes))).0 signed.0);
      said = signed.1;
    }

pub found_as : (query : Query) (key : PacketKey) (bytes : List ℕ) (r : Result Reply NtpFault) → IsBytes bytes → r ≡ keyed_read_of query key bytes → IfOk r (IsKeyedReply query key bytes)
found_as query key bytes (Ok reply) small given = keyed_read_of-found query key bytes reply small (sym given)
found_as query key bytes (Err fault) small given = tt

-- ---- a packet under the key is read

digest_bytes-length : (h : List ℕ) (n : ℕ) → length (digest_bytes h n) ≡ n * 4
unfolding digest_bytes
digest_bytes-length h zero = refl
digest_bytes-length h (suc n) =
    let last : length (to_be_bytes w32 (slice_index h n)) ≡ 4 = refl in
    omega (arith, digest_bytes-length h n, last, length-append (digest_bytes h n) (to_be_bytes w32 (slice_index h n)))

length-sha1 : (text : List ℕ) → length (sha1 text) ≡ 20
unfolding sha1
length-sha1 text = digest_bytes-length _ 5

length-cut_hash : (hash : KeyHash) (text : List ℕ) → length (cut_hash hash text) ≡ 20
length-cut_hash Sha1 text = length-sha1 text
length-cut_hash Sha256 text = length-take-le 20 (sha256 text) (rw (length-sha256 text) (omega arith))

length-digest_of : (key : PacketKey) (packet : List ℕ) → length (digest_of key packet) ≡ 20
unfolding digest_of
length-digest_of key packet = length-cut_hash key.hash (key.bytes ++ packet)

-- the parts of a packet under a key are what it was made of
record IsMadeOf (packet : List ℕ) (key : PacketKey) (bytes : List ℕ) : Type 0 where
  whole : length bytes ≡ 72
  packet_is : packet_in bytes ≡ packet
  number_is : number_in bytes ≡ key.number
  digest_is : digest_in bytes ≡ digest_of key packet

made_of : (packet : List ℕ) (key : PacketKey) → length packet ≡ 48 → key.number < 2 ^ 32 → IsMadeOf packet key (keyed_of packet key)
unfolding keyed_of
made_of packet key len fits =
    let four = to_be_bytes w32 key.number in
    let part = packet ++ four in
    let digest = digest_of key packet in
    let bytes = part ++ digest in
    let part_len : length part ≡ 52 = omega (arith, length-append packet four, len) in
    let split : bytes ≡ packet ++ (four ++ digest) = append_assoc packet four digest in
    let rest : drop packet_len bytes ≡ four ++ digest = rw split (drop_at packet (four ++ digest) packet_len len) in
    record {
      whole = omega (arith, length-append part digest, length-digest_of key packet, part_len);
      packet_is = rw split (take_at packet (four ++ digest) packet_len len);
      number_is = ap (λ (r : List ℕ). from_be_bytes w32 (take 4 r)) rest ∙ from_be_bytes-to_be_bytes_4 key.number fits;
      digest_is = drop_at part digest (packet_len + 4) part_len;
    }

read_on : (b : Bool) (fault : NtpFault) (rest : Result Reply NtpFault) → b ≡ true → cond (not b) (Err fault) rest ≡ rest
read_on true fault rest h = refl
read_on false fault rest h = cc

pub keyed_read_of-same : (query : Query) (key : PacketKey) (packet : List ℕ) → IsPacketKey key → length packet ≡ 48 → keyed_read_of query key (keyed_of packet key) ≡ read_of query packet
unfolding keyed_read_of
keyed_read_of-same query key packet is len =
    let bytes = keyed_of packet key in
    let made = made_of packet key len is.number_fits in
    let same = bytes_eq (digest_in bytes) (digest_of key (packet_in bytes)) in
    let said = read_of query (packet_in bytes) in
    let with_digest = cond (not same) (Err WrongDigest) said in
    let with_number = cond (not (eqb (number_in bytes) key.number)) (Err OtherKey) with_digest in
    let signed : digest_in bytes ≡ digest_of key (packet_in bytes) = made.digest_is ∙ ap (digest_of key) (sym made.packet_is) in
    read_on (eqb (length bytes) keyed_len) Length with_number (eq-eqb (length bytes) keyed_len made.whole)
    ∙ read_on (eqb (number_in bytes) key.number) OtherKey with_digest (eq-eqb (number_in bytes) key.number made.number_is)
    ∙ read_on same WrongDigest said ((bytes_eq-Decides (digest_in bytes) (digest_of key (packet_in bytes))).1 signed)
    ∙ ap (read_of query) made.packet_is
