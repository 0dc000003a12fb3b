-- What is spelled so is read.
use Rattle.std.proofs.Common.{◌≡◌, ℕ, ◌<◌, ◌≤◌, false, ltb, eqb, ◌||◌, Result, Ok, Err, refl, ap, ◌∙◌, arith}
use Rattle.std.proofs.lemmas.Bool.{or_from, le-ltb, ne_eqb}
use Rattle.std.proofs.lemmas.Nat.{from_be_bytes-to_be_bytes_8}
use Rattle.tt_span.specs.Time.{max_time}
use Rattle.tt_span.specs.Interval.{Interval, IsInterval}
use Rattle.tt_poll.specs.declared.faults.PollFault.{PollFault}
use Rattle.tt_poll.specs.declared.faults.PollFault.TheVariants.{Length}
use Rattle.tt_poll.specs.declared.messages.Message.{Message}
use Rattle.tt_poll.specs.declared.messages.Message.TheVariants.{Request, Answer}
use Rattle.tt_poll.specs.declared.messages.Message2.{Message2}
use Rattle.tt_poll.specs.declared.messages.Message2.TheVariants as two
use Rattle.tt_poll.specs.Message.{max_machine, max_source, PollRequest, IsRequest, PollAnswer, IsAnswer, PollRequest2, IsRequest2, PollAnswer2, IsAnswer2}
use Rattle.tt_poll.specs.declared.format.Format.TheVariants.{Ttp1, Ttp2}
use Rattle.tt_poll.specs.Format.{format_of}
use Rattle.tt_poll.specs.Spelling.{IsMessage, IsMessage2, spelling_of, spelling_of2}
use Rattle.tt_poll.specs.Reading.{number_at, ends_at, are_no_span, first_poll_fault, first_poll_fault2, read_of, read_of2}
use Rattle.tt_poll.proofs.Refusing.{read_of-fields, read_of2-fields}

-- machine and source in range are not refused
numbers_pass : (machine source : ℕ) → machine ≤ max_machine → source ≤ max_source → (ltb max_machine machine || ltb max_source source) ≡ false
numbers_pass machine source m s = or_from _ _ (le-ltb _ _ m) (le-ltb _ _ s)

-- nor is a nonce or an epoch that is not 0
number_passes : (n m : ℕ) → m ≡ n → 0 < n → eqb m 0 ≡ false
number_passes n m e h = ne_eqb m 0 (λ z. omega arith)

-- nor a span
ends_pass : (span ends : Interval) → ends ≡ span → IsInterval span → are_no_span ends ≡ false
ends_pass span ends same h = rw same (or_from _ _ (le-ltb span.hi span.lo h.ordered) (le-ltb max_time span.hi h.in_time))

-- two numbers that are the ends of an interval are read back as it
ends_back : (span : Interval) (x y : ℕ) → x ≡ span.lo → y ≡ span.hi → record { lo = x; hi = y } ≡ span
ends_back span x y lo hi = ap (λ (z : ℕ). record { lo = z; hi = y }) lo ∙ ap (λ (z : ℕ). record { lo = span.lo; hi = z }) hi

request_taken : (r : PollRequest) → IsRequest r → read_of (spelling_of (Request r)) ≡ Ok (Request r)
unfolding spelling_of
request_taken r h =
    let bytes = spelling_of (Request r) in
    let nonce : number_at bytes 8 ≡ r.nonce = from_be_bytes-to_be_bytes_8 r.nonce h.nonce_fits in
    let numbers = numbers_pass r.machine r.source h.machine_in h.source_in in
    read_of-fields bytes (refl, (refl, (refl, (refl, (numbers, (number_passes r.nonce (number_at bytes 8) nonce h.nonce_in, (refl, tt)))))))
    ∙ ap (λ (n : ℕ). Ok (Request (record { machine = r.machine; source = r.source; nonce = n }))) nonce

answer_taken : (a : PollAnswer) → IsAnswer a → read_of (spelling_of (Answer a)) ≡ Ok (Answer a)
unfolding spelling_of
answer_taken a h =
    let bytes = spelling_of (Answer a) in
    let nonce : number_at bytes 8 ≡ a.nonce = from_be_bytes-to_be_bytes_8 a.nonce h.poll.nonce_fits in
    let lo : number_at bytes 16 ≡ a.span.lo = from_be_bytes-to_be_bytes_8 a.span.lo (omega (arith, h.span_in.ordered, h.span_in.in_time)) in
    let hi : number_at bytes 24 ≡ a.span.hi = from_be_bytes-to_be_bytes_8 a.span.hi (omega (arith, h.span_in.in_time)) in
    let span : ends_at bytes 16 ≡ a.span = ends_back a.span (number_at bytes 16) (number_at bytes 24) lo hi in
    let numbers = numbers_pass a.machine a.source h.poll.machine_in h.poll.source_in in
    read_of-fields bytes (refl, (refl, (refl, (refl, (numbers, (number_passes a.nonce (number_at bytes 8) nonce h.poll.nonce_in, (ends_pass a.span (ends_at bytes 16) span h.span_in, tt)))))))
    ∙ ap (λ (n : ℕ). Ok (Answer (record { machine = a.machine; source = a.source; nonce = n; span = ends_at bytes 16 }))) nonce
    ∙ ap (λ (i : Interval). Ok (Answer (record { machine = a.machine; source = a.source; nonce = a.nonce; span = i }))) span

-- the spelling of a message in range is read as it
pub read_of-spelling_of : (m : Message) → IsMessage m → read_of (spelling_of m) ≡ Ok m
read_of-spelling_of (Request r) h = request_taken r h
read_of-spelling_of (Answer a) h = answer_taken a h

request_taken2 : (r : PollRequest2) → IsRequest2 r → read_of2 (spelling_of2 (two.Request r)) ≡ Ok (two.Request r)
unfolding spelling_of2
request_taken2 r h =
    let bytes = spelling_of2 (two.Request r) in
    let nonce : number_at bytes 8 ≡ r.nonce = from_be_bytes-to_be_bytes_8 r.nonce h.poll.nonce_fits in
    let epoch : number_at bytes 16 ≡ r.epoch = from_be_bytes-to_be_bytes_8 r.epoch h.epoch_in.fits in
    let numbers = numbers_pass r.machine r.source h.poll.machine_in h.poll.source_in in
    read_of2-fields bytes (refl, (refl, (refl, (refl, (numbers, (number_passes r.nonce (number_at bytes 8) nonce h.poll.nonce_in, (number_passes r.epoch (number_at bytes 16) epoch h.epoch_in.from_one, (refl, tt))))))))
    ∙ ap (λ (n : ℕ). Ok (two.Request (record { machine = r.machine; source = r.source; nonce = n; epoch = number_at bytes 16 }))) nonce
    ∙ ap (λ (n : ℕ). Ok (two.Request (record { machine = r.machine; source = r.source; nonce = r.nonce; epoch = n }))) epoch

answer_taken2 : (a : PollAnswer2) → IsAnswer2 a → read_of2 (spelling_of2 (two.Answer a)) ≡ Ok (two.Answer a)
unfolding spelling_of2
answer_taken2 a h =
    let bytes = spelling_of2 (two.Answer a) in
    let nonce : number_at bytes 8 ≡ a.nonce = from_be_bytes-to_be_bytes_8 a.nonce h.poll.nonce_fits in
    let epoch : number_at bytes 16 ≡ a.epoch = from_be_bytes-to_be_bytes_8 a.epoch h.epoch_in.fits in
    let lo : number_at bytes 24 ≡ a.span.lo = from_be_bytes-to_be_bytes_8 a.span.lo (omega (arith, h.span_in.ordered, h.span_in.in_time)) in
    let hi : number_at bytes 32 ≡ a.span.hi = from_be_bytes-to_be_bytes_8 a.span.hi (omega (arith, h.span_in.in_time)) in
    let span : ends_at bytes 24 ≡ a.span = ends_back a.span (number_at bytes 24) (number_at bytes 32) lo hi in
    let numbers = numbers_pass a.machine a.source h.poll.machine_in h.poll.source_in in
    read_of2-fields bytes (refl, (refl, (refl, (refl, (numbers, (number_passes a.nonce (number_at bytes 8) nonce h.poll.nonce_in, (number_passes a.epoch (number_at bytes 16) epoch h.epoch_in.from_one, (ends_pass a.span (ends_at bytes 24) span h.span_in, tt))))))))
    ∙ ap (λ (n : ℕ). Ok (two.Answer (record { machine = a.machine; source = a.source; nonce = n; epoch = number_at bytes 16; span = ends_at bytes 24 }))) nonce
    ∙ ap (λ (n : ℕ). Ok (two.Answer (record { machine = a.machine; source = a.source; nonce = a.nonce; epoch = n; span = ends_at bytes 24 }))) epoch
    ∙ ap (λ (i : Interval). Ok (two.Answer (record { machine = a.machine; source = a.source; nonce = a.nonce; epoch = a.epoch; span = i }))) span

pub read_of2-spelling_of2 : (m : Message2) → IsMessage2 m → read_of2 (spelling_of2 m) ≡ Ok m
read_of2-spelling_of2 (two.Request r) h = request_taken2 r h
read_of2-spelling_of2 (two.Answer a) h = answer_taken2 a h

same_message : {M : Type 0} (m n : M) (r : Result M PollFault) → r ≡ Ok m → r ≡ Ok n → m ≡ n
same_message m n r e f = cc

-- messages in range with one spelling are one
pub same_from_spelling : (m n : Message) → IsMessage m → IsMessage n → spelling_of m ≡ spelling_of n → m ≡ n
same_from_spelling m n hm hn e = same_message m n (read_of (spelling_of m)) (read_of-spelling_of m hm) (ap read_of e ∙ read_of-spelling_of n hn)

pub same_from_spelling2 : (m n : Message2) → IsMessage2 m → IsMessage2 n → spelling_of2 m ≡ spelling_of2 n → m ≡ n
same_from_spelling2 m n hm hn e = same_message m n (read_of2 (spelling_of2 m)) (read_of2-spelling_of2 m hm) (ap read_of2 e ∙ read_of2-spelling_of2 n hn)

-- the messages of one format are longer or shorter than those of the other
pub read_of2-spelling_of : (m : Message) → read_of2 (spelling_of m) ≡ Err Length
unfolding spelling_of read_of2 first_poll_fault2
read_of2-spelling_of (Request r) = refl
read_of2-spelling_of (Answer a) = refl

pub read_of-spelling_of2 : (m : Message2) → read_of (spelling_of2 m) ≡ Err Length
unfolding spelling_of2 read_of first_poll_fault
read_of-spelling_of2 (two.Request r) = refl
read_of-spelling_of2 (two.Answer a) = refl

-- the spelling of a message is read in its format
pub format_of-spelling_of : (m : Message) → format_of (spelling_of m) ≡ Ttp1
unfolding spelling_of
format_of-spelling_of (Request r) = refl
format_of-spelling_of (Answer a) = refl

pub format_of-spelling_of2 : (m : Message2) → format_of (spelling_of2 m) ≡ Ttp2
unfolding spelling_of2
format_of-spelling_of2 (two.Request r) = refl
format_of-spelling_of2 (two.Answer a) = refl
