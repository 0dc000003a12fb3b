-- Which lists are bytes.
use Rattle.std.proofs.Common.{ℕ, zero, suc, ◌+◌, ◌%◌, ◌<◌, List, [], ◌∷◌, ◌++◌, take, drop, arith, inl, inr, lit<}
use Rattle.std.specs.Int.{w64, to_be_bytes, bytes_high_first}
use Rattle.std.proofs.lemmas.Bool.{cases_lt}
use Rattle.std.proofs.lemmas.List.{length-take, get_or-drop, get_or-take, get_or_past}
use Rattle.std.proofs.lemmas.Nat.{mod_below}
use Rattle.tt_poll.specs.declared.messages.Message.{Message}
use Rattle.tt_poll.specs.declared.messages.Message.TheVariants.{Request, Answer}
use Rattle.tt_poll.specs.declared.messages.Message2.{Message2}
use Rattle.tt_poll.specs.declared.messages.Message2.TheVariants as two
use Rattle.tt_span.specs.Interval.{Interval}
use Rattle.tt_poll.specs.declared.format.Format.{Format}
use Rattle.tt_poll.specs.declared.format.Format.TheVariants.{Ttp1, Ttp2}
use Rattle.tt_poll.specs.Format.{magic_of}
use Rattle.tt_poll.specs.Message.{IsPoll}
use Rattle.tt_poll.specs.Spelling.{IsMessage, IsMessage2, head_of, ends_of, spelling_of, spelling_of2}
use Rattle.tt_poll.specs.Reading.{IsBytes}

pub IsBytes-drop : (n : ℕ) (bytes : List ℕ) → IsBytes bytes → IsBytes (drop n bytes)
IsBytes-drop n bytes h i = rw get_or-drop (h (n + i))

pub IsBytes-take : (n : ℕ) (bytes : List ℕ) → IsBytes bytes → IsBytes (take n bytes)
IsBytes-take n bytes h i =
    elim (cases_lt i n) [
      | inl lt ↦ rw (get_or-take n bytes i 0 lt) (h i)
      | inr le ↦ rw (get_or_past (take n bytes) i 0 (omega (arith, length-take n bytes))) (omega arith)
    ]

IsBytes-cons : (b : ℕ) (bytes : List ℕ) → b < 256 → IsBytes bytes → IsBytes (b ∷ bytes)
IsBytes-cons b bytes lt h zero = lt
IsBytes-cons b bytes lt h (suc i) = h i

IsBytes-append : (front back : List ℕ) → IsBytes front → IsBytes back → IsBytes (front ++ back)
IsBytes-append [] back f h = h
IsBytes-append (b ∷ front) back f h = IsBytes-cons b (front ++ back) (f 0) (IsBytes-append front back (λ i. f (suc i)) h)

pub IsBytes-high_first : (k n : ℕ) → IsBytes (bytes_high_first k n)
IsBytes-high_first zero n = λ i. lit< tt
IsBytes-high_first (suc zero) n = IsBytes-cons (n % 256) [] (omega arith) (IsBytes-high_first zero n)
IsBytes-high_first (suc (suc k)) n = IsBytes-cons _ (bytes_high_first (suc k) n) (mod_below _ 256 (lit< tt)) (IsBytes-high_first (suc k) n)

IsBytes-four : (a b c d : ℕ) → a < 256 → b < 256 → c < 256 → d < 256 → IsBytes (a ∷ b ∷ c ∷ d ∷ [])
IsBytes-four a b c d la lb lc ld =
    IsBytes-cons a (b ∷ c ∷ d ∷ []) la (IsBytes-cons b (c ∷ d ∷ []) lb (IsBytes-cons c (d ∷ []) lc (IsBytes-cons d [] ld (λ i. lit< tt))))

IsBytes-magic_of : (format : Format) → IsBytes (magic_of format)
IsBytes-magic_of Ttp1 = IsBytes-four 84 84 80 49 (lit< tt) (lit< tt) (lit< tt) (lit< tt)
IsBytes-magic_of Ttp2 = IsBytes-four 84 84 80 50 (lit< tt) (lit< tt) (lit< tt) (lit< tt)

IsBytes-head_of : (format : Format) (kind machine source nonce : ℕ) → kind < 256 → IsPoll machine source nonce → IsBytes (head_of format kind machine source nonce)
IsBytes-head_of format kind machine source nonce k poll =
    let fields = IsBytes-four kind machine source 0 k (omega (arith, poll.machine_in)) (omega (arith, poll.source_in)) (lit< tt) in
    let rest = IsBytes-append (kind ∷ machine ∷ source ∷ 0 ∷ []) (to_be_bytes w64 nonce) fields (IsBytes-high_first 8 nonce) in
    IsBytes-append (magic_of format) (kind ∷ machine ∷ source ∷ 0 ∷ to_be_bytes w64 nonce) (IsBytes-magic_of format) rest

IsBytes-ends_of : (span : Interval) → IsBytes (ends_of span)
IsBytes-ends_of span = IsBytes-append (to_be_bytes w64 span.lo) (to_be_bytes w64 span.hi) (IsBytes-high_first 8 span.lo) (IsBytes-high_first 8 span.hi)

-- the spelling of a message in range is bytes
pub IsBytes-spelling_of : (m : Message) → IsMessage m → IsBytes (spelling_of m)
unfolding spelling_of
IsBytes-spelling_of (Request r) h = IsBytes-head_of Ttp1 1 r.machine r.source r.nonce (lit< tt) h
IsBytes-spelling_of (Answer a) h =
    IsBytes-append (head_of Ttp1 2 a.machine a.source a.nonce) (ends_of a.span) (IsBytes-head_of Ttp1 2 a.machine a.source a.nonce (lit< tt) h.poll) (IsBytes-ends_of a.span)

pub IsBytes-spelling_of2 : (m : Message2) → IsMessage2 m → IsBytes (spelling_of2 m)
unfolding spelling_of2
IsBytes-spelling_of2 (two.Request r) h =
    IsBytes-append (head_of Ttp2 1 r.machine r.source r.nonce) (to_be_bytes w64 r.epoch) (IsBytes-head_of Ttp2 1 r.machine r.source r.nonce (lit< tt) h.poll) (IsBytes-high_first 8 r.epoch)
IsBytes-spelling_of2 (two.Answer a) h =
    let rest = IsBytes-append (to_be_bytes w64 a.epoch) (ends_of a.span) (IsBytes-high_first 8 a.epoch) (IsBytes-ends_of a.span) in
    IsBytes-append (head_of Ttp2 2 a.machine a.source a.nonce) (to_be_bytes w64 a.epoch ++ ends_of a.span) (IsBytes-head_of Ttp2 2 a.machine a.source a.nonce (lit< tt) h.poll) rest
