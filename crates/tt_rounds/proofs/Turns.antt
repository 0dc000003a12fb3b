-- What a master's turns do.
use Rattle.std.proofs.Common.{◌≡◌, ℕ, ◌+◌, ◌≤◌, List, Option, Some, None, Result, Ok, Err, IfOk, IfErr, Bool, true, false, refl, ap, arith, add-one}
use Rattle.tt_span.specs.Interval.{Interval}
use Rattle.tt_master.specs.Act.{IsTimed, span_played}
use Rattle.tt_master.specs.Packet.{garbage}
use Rattle.tt_master.specs.Master.{MasterState, AnswersByTime}
use Rattle.tt_master.specs.declared.acts.Act.{Act}
use Rattle.tt_master.specs.declared.acts.Act.TheVariants.{Honest, Ahead, Behind, Silent, Garbage, Repeat}
use Rattle.tt_master.specs.declared.faults.MasterFault.{MasterFault}
use Rattle.tt_rounds.specs.Link.{Call, Gift}
use Rattle.tt_rounds.specs.Turns.{ActsOn, TakesTurn, TakesTurns, act_at, counted}

-- what a master's `play` ensures is what the act does
pub acts-made : {Q R : Type 0} (gives : R → Option ℕ → R → Type 0) (to : Q → Interval → List ℕ) (len : ℕ) (played : Option (List ℕ)) (act : Act) (request : Result Q MasterFault)
    (before after : MasterState R) (answer : Result (Option (List ℕ)) MasterFault)
    → IfErr request (λ fault. (answer ≡ Err fault) × (after ≡ before))
    → (IsTimed act → IfOk request (λ request. AnswersByTime (λ time. gives before.reference time after.reference) (λ time. Some (to request (span_played before.uncertainty act time))) answer))
    → (act ≡ Silent → IfOk request (λ _. answer ≡ Ok None))
    → (act ≡ Garbage → IfOk request (λ _. answer ≡ Ok (Some (garbage len))))
    → (act ≡ Repeat → IfOk request (λ _. answer ≡ Ok played))
    → (¬ IsTimed act → after.reference ≡ before.reference)
    → ActsOn gives to len before.uncertainty played act request before.reference answer after.reference
acts-made gives to len played act (Err fault) before after answer refused timed silent garbles repeats unread = (refused.0, ap (λ m. m.reference) refused.1)
acts-made gives to len played Honest (Ok request) before after answer refused timed silent garbles repeats unread = timed tt
acts-made gives to len played (Ahead k) (Ok request) before after answer refused timed silent garbles repeats unread = timed tt
acts-made gives to len played (Behind k) (Ok request) before after answer refused timed silent garbles repeats unread = timed tt
acts-made gives to len played Silent (Ok request) before after answer refused timed silent garbles repeats unread = (silent refl, unread (λ is. is))
acts-made gives to len played Garbage (Ok request) before after answer refused timed silent garbles repeats unread = (garbles refl, unread (λ is. is))
acts-made gives to len played Repeat (Ok request) before after answer refused timed silent garbles repeats unread = (repeats refl, unread (λ is. is))

-- one act more, at most
pub counted-few : (played n : ℕ) (did : Bool) → played ≤ n → counted played did ≤ n + 1
counted-few played n true few = omega (arith, few)
counted-few played n false few = omega (arith, few)

-- one more turn
pub turns-more : {L R : Type 0} (gives : R → Option ℕ → R → Type 0) (does : L → Call → Gift → L → Type 0) (acts : List Act) (n : ℕ) (link mid link' : L) (master known master' : MasterState R) (before played : ℕ) (did : Bool)
    → TakesTurns gives does acts n link master before mid known → TakesTurn gives does (act_at acts before) mid known (Ok did) link' master' → played ≡ counted before did
    → TakesTurns gives does acts (n + 1) link master played link' master'
turns-more gives does acts n link mid link' master known master' before played did turns one is = rw add-one (mid, known, before, did, turns, one, is)
