-- The answers of a twin.
use Rattle.std.proofs.Common.{◌≡◌, ℕ, zero, suc, ◌+◌, ◌<◌, ◌≤◌, not, List, [], ◌∷◌, ◌++◌, length, map, slice_get, Option, Some, None, inl, inr, refl, ap, sym, ◌∙◌, arith}
use Rattle.std.specs.List.{range_with_len}
use Rattle.std.proofs.lemmas.Bool.{cases_eq}
use Rattle.std.proofs.lemmas.List.{append_assoc, append-nil, length-append}
use Rattle.std.proofs.lemmas.List.FromFn.{length-map-range_with_len}
use Rattle.tt_daemon.specs.Config.{Configuration}
use Rattle.tt_world.specs.Life.{Life}
use Rattle.tt_world.specs.declared.packets.Packet.{Packet}
use Rattle.tt_world.specs.declared.packets.Packet.TheVariants.{Answered}
use Rattle.tt_world.specs.Packet.{answer_to}
use Rattle.tt_world.specs.Past.{packets_of}
use Rattle.tt_world.specs.Sources.{outstanding_poll, statement_of}
use Rattle.tt_world.specs.Bad.{is_request}
use Rattle.tt_world.specs.Assumptions.{origin_of, packet_of_statement}
use Rattle.tt_world.proofs.Simulation.Ranges.{slice_get-made}
use Rattle.tt_world.proofs.Histories.Places.{get_front, get_back}
use Rattle.tt_world.proofs.Histories.Origins.{origin-old, origin-new}
use Rattle.tt_world.proofs.Histories.Judging.{AreGood}
use Rattle.tt_twin.proofs.Worth.Quiet.{still-time}
use Rattle.tt_twin.proofs.Worth.Planning.{Plan, IsPlan, reply, polled, answered, more_made, still-answered}
use Rattle.tt_twin.proofs.Worth.Polling.{request, polled-packets, polled-statement, polled-packet, polled-good}

-- the packet of an answer
abbrev pub answer : Plan → ℕ → Packet
answer p k = Answered (record { machine = p.machine; source = p.source k; nonce = k + 1; epoch = 1; span = p.span k })

-- the requests
abbrev pub requests : Plan → List Packet
requests p = map (request p) (range_with_len 0 p.count)

length-requests : (p : Plan) → length (requests p) ≡ p.count
length-requests p = length-map-range_with_len (request p) 0 p.count

-- a request among the packets
pub request_there : (p : Plan) (more : List Packet) (k : ℕ) → k < p.count → slice_get (requests p ++ more) k ≡ Some (request p k)
request_there p more k h = let len = length-requests p in get_front (requests p) more k (omega arith) ∙ slice_get-made (request p) p.count k h

-- the requests, and then the answers in their order
pub answered-packets : (p : Plan) (j : ℕ) → j ≤ p.count → packets_of (answered p j) ≡ requests p ++ map (answer p) (range_with_len 0 j)
answered-packets p zero few = polled-packets p p.count ∙ sym (append-nil (requests p))
answered-packets p (suc j) few =
    let before = answered-packets p j (omega arith) in
    ap (λ (l : List Packet). l ++ answer_to (slice_get l j) (p.span j)) before
    ∙ ap (λ (o : Option Packet). (requests p ++ map (answer p) (range_with_len 0 j)) ++ answer_to o (p.span j)) (request_there p (map (answer p) (range_with_len 0 j)) j (omega arith))
    ∙ append_assoc (requests p) (map (answer p) (range_with_len 0 j)) (answer p j ∷ [])
    ∙ ap (λ (l : List Packet). requests p ++ l) (sym (more_made (answer p) j))

pub length-answered : (p : Plan) (j : ℕ) → j ≤ p.count → length (packets_of (answered p j)) ≡ p.count + j
length-answered p j few =
    let both = length-append (requests p) (map (answer p) (range_with_len 0 j)) in
    let one = length-requests p in
    let two = length-map-range_with_len (answer p) 0 j in
    ap (λ (l : List Packet). length l) (answered-packets p j few) ∙ omega arith

-- an answer among the packets
pub answer_there : (p : Plan) (k : ℕ) → k < p.count → slice_get (packets_of (answered p p.count)) (p.count + k) ≡ Some (answer p k)
answer_there p k h =
    let len = length-requests p in
    ap (λ (l : List Packet). slice_get l (p.count + k)) (answered-packets p p.count (omega arith))
    ∙ get_back (requests p) (map (answer p) (range_with_len 0 p.count)) (p.count + k) k (omega arith) ∙ slice_get-made (answer p) p.count k h

pub answered-waits : (p : Plan) (j : ℕ) (life : Life) (i : ℕ) → outstanding_poll (answered p j) life i ≡ outstanding_poll (polled p p.count) life i
answered-waits p zero life i = refl
answered-waits p (suc j) life i = answered-waits p j life i

pub answered-statement : (p : Plan) (j : ℕ) (life : Life) (i : ℕ) → statement_of (answered p j) life i ≡ None
answered-statement p zero life i = polled-statement p p.count life i
answered-statement p (suc j) life i = answered-statement p j life i

pub answered-packet : (p : Plan) (j : ℕ) (life : Life) (i : ℕ) → packet_of_statement (answered p j) life i ≡ None
answered-packet p zero life i = polled-packet p p.count life i
answered-packet p (suc j) life i = answered-packet p j life i

-- each answer was put by its event
pub answered-origin : (p : Plan) (j : ℕ) → j ≤ p.count → (k : ℕ) → k < j → origin_of (answered p j) (p.count + k) ≡ Some (reply p k)
answered-origin p zero few k h = absurd (omega arith)
answered-origin p (suc j) few k h =
    let before = length-answered p j (omega arith) in
    let after = length-answered p (suc j) few in
    elim (cases_eq k j) [
      | inl here ↦ origin-new (answered p j) (reply p j) (p.count + k) (omega arith) (omega arith) ∙ ap (λ (n : ℕ). Some (reply p n)) (sym here)
      | inr other ↦ origin-old (answered p j) (reply p j) (p.count + k) (omega arith) ∙ answered-origin p j (omega arith) k (omega arith)
    ]

-- no answer is bad
pub answered-good : (configs : List Configuration) (p : Plan) → IsPlan configs p → (j : ℕ) → j ≤ p.count → AreGood configs (answered p j)
answered-good configs p plan zero few = polled-good configs p plan p.count (omega arith)
answered-good configs p plan (suc j) few = (
  record {
    not_before = still-time p.clock p.time (answered p j) (still-answered p j);
    in_time = plan.time_in;
    named = refl;
    packet_there = ap (λ (l : List Packet). not (is_request (slice_get l j))) (answered-packets p j (omega arith)) ∙ ap (λ (o : Option Packet). not (is_request o)) (request_there p (map (answer p) (range_with_len 0 j)) j (omega arith));
    clock_on = refl;
    publication_there = refl;
    thing_there = refl;
    life_left = refl;
  },
  answered-good configs p plan j (omega arith),
)
