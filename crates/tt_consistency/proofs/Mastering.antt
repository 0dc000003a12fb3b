-- Where a link hands up what its daemon takes, few bad masters make few faulty sources.
use Rattle.std.proofs.Common.{◌≡◌, ℕ, ◌<◌, ◌^◌, Bool, true, false, List, [], ◌∷◌, ◌++◌, Some, None, Result, Ok, Err, Contains, refl, sym, ap, subst, ◌∙◌, arith}
use Rattle.std.specs.Prelude.{if◌then◌else◌}
use Rattle.std.specs.List.{AllByRecursion}
use Rattle.tt_seal.specs.Sealing.{SealKey, IsBytes, key_with, opened_of}
use Rattle.tt_seal.specs.declared.faults.SealFault.{SealFault}
use Rattle.tt_seal.specs.declared.sealing.Opened.{Opened}
use Rattle.tt_seal.proofs.Opening.{opened_of-found}
use Rattle.tt_wire.specs.Moving.{moved_back}
use Rattle.tt_wire.specs.Wire.{Wiring, IsWiring, came_under, handed_up, incoming_as, incoming_of, keys_of}
use Rattle.tt_wire.specs.declared.wires.Incoming.{Incoming}
use Rattle.tt_wire.proofs.Moving.{IsBytes-moved_back}
use Rattle.tt_wire.proofs.Sealing.{IsBytes-sealed}
use Rattle.tt_daemon.specs.Config.{Configuration}
use Rattle.tt_rounds.specs.Awaiting.{is_handed, slot_at}
use Rattle.tt_rounds.specs.Hearing.{heard_as}
use Rattle.tt_rounds.specs.Link.{Came, Gift, Packet}
use Rattle.tt_rounds.specs.RoundLinks.{HandsUp}
use Rattle.tt_rounds.specs.declared.awaiting.PeerTable.{PeerTable}
use Rattle.tt_rounds.proofs.Hearing.{heard-came_sealed}
use Rattle.tt_world.specs.Life.{Life}
use Rattle.tt_world.proofs.Histories.Places.{all_append}
use Rattle.tt_consistency.specs.Calls.{RoundsCall, calls_steps}
use Rattle.tt_consistency.specs.Coming.{AreHeard, CameAmong}
use Rattle.tt_consistency.specs.CourseSteps.{rounds_steps}
use Rattle.tt_consistency.specs.Faulty.{FewFaulty}
use Rattle.tt_consistency.specs.Masters.{AllHandedUp, HasFewBadMasters, HasGoodMaster, IsHandedUp, WasHandedUp}
use Rattle.tt_consistency.specs.Sealed.{AllCameSealed, CameSealedFrom, Comes, Deed, Did, Done, Hears, IsSafe, Makes, Seals, timeline_of, told_of}
use Rattle.tt_consistency.specs.Steps.{Fuses, Polls, Step, Takes}
use Rattle.tt_consistency.specs.Timeline.{steps_told}
use Rattle.tt_consistency.proofs.Coming.{takes-came}
use Rattle.tt_consistency.proofs.Sealing.{few-bad}

-- ---- what was handed up came sealed
module _ (wire : Wiring) (valid : IsWiring wire) (source : ℕ) (first : SealKey) (others : List SealKey) (keys : keys_of wire source ≡ first ∷ others) where
  opened-small : (bytes : List ℕ) (incoming : Incoming) (r : Result Opened SealFault) → IsBytes bytes → r ≡ opened_of bytes (first ∷ others) → handed_up wire.ahead r ≡ Ok incoming → IsBytes incoming.message.items
  opened-small bytes incoming (Err fault) small is given = cc
  opened-small bytes incoming (Ok opened) small is given =
      let fits : wire.ahead < 2 ^ 64 = omega (arith, valid.ahead_fits) in
      let found = opened_of-found bytes (first ∷ others) opened small (sym is) in
      let same : incoming_as (Some opened.number) (moved_back wire.ahead opened.message.items) ≡ incoming = cc in
      subst (λ (i : Incoming). IsBytes i.message.items) same
      (IsBytes-moved_back wire.ahead opened.message.items fits (IsBytes-sealed opened.message.items found.key (subst IsBytes found.sealed small)))

  packet-small : (handed : Bool) (one other : Packet) → IsBytes one.bytes → (if handed then Some one else None) ≡ Some other → IsBytes other.bytes
  packet-small true one other small is = let same : one ≡ other = cc in subst (λ (p : Packet). IsBytes p.bytes) same small
  packet-small false one other small is = cc

  heard-small : (table : PeerTable) (bytes : List ℕ) (packet : Packet) (r : Result Incoming SealFault) → IsBytes bytes → r ≡ came_under (first ∷ others) wire.ahead bytes
      → (heard_as table source r).handed ≡ Some packet → IsBytes packet.bytes
  heard-small table bytes packet (Err fault) small is handed = cc
  heard-small table bytes packet (Ok incoming) small is handed =
      packet-small (is_handed incoming.message.items (slot_at table.slots source)) (record { peer = source; bytes = incoming.message.items }) packet
      (opened-small bytes incoming (opened_of bytes (first ∷ others)) small refl (sym is)) handed

  under-keys : (bytes : List ℕ) → incoming_of wire source bytes ≡ came_under (first ∷ others) wire.ahead bytes
  unfolding incoming_of
  under-keys bytes = ap (λ (ks : List SealKey). came_under ks wire.ahead bytes) keys

  up-sealed : (message : List ℕ) (before : List Done) → WasHandedUp wire source message before → CameSealedFrom wire source message before
  up-sealed message before up =
      let packet : Packet = record { peer = source; bytes = message } in
      let came = heard-came_sealed wire up.table source first others up.bytes packet (incoming_of wire source up.bytes) valid up.small keys refl up.heard in
      record {
        later = up.later;
        at = up.at;
        bytes = up.bytes;
        before = up.before;
        did = up.did;
        key = came.key;
        known = ap (λ (ks : List SealKey). key_with ks came.key.number) keys ∙ came.known;
        small = heard-small up.table up.bytes packet (incoming_of wire source up.bytes) up.small (under-keys up.bytes) up.heard;
        is = came.sealed;
      }

pub came-sealed : (wire : Wiring) (all : List Done) (source : ℕ) (first : SealKey) (others : List SealKey) → IsWiring wire → keys_of wire source ≡ first ∷ others
    → AllHandedUp wire source all → AllCameSealed wire source all
came-sealed wire all source first others valid keys up later before at clock message did =
    up-sealed wire valid source first others keys message before (up later before at clock message did)

-- ---- few bad masters make few faulty sources
good-safe : (config : Configuration) (life : Life) (wire : Wiring) (all : List Done) (source : ℕ) → IsWiring wire → AllHandedUp wire source all
    → HasGoodMaster config life wire all source → IsSafe config life wire all source
good-safe config life wire all source valid up good =
    record { came = came-sealed wire all source good.first good.others valid good.keys up; tags = good.tags; requests = good.requests; master = good.master }

pub few-bad_masters : (config : Configuration) (life : Life) (wire : Wiring) (all : List Done) → IsWiring wire → ((source : ℕ) → AllHandedUp wire source all)
    → HasFewBadMasters config life wire all → FewFaulty config life (timeline_of all)
few-bad_masters config life wire all valid up has =
    few-bad config life wire all valid
    (record { bad = has.bad; few = has.few; others = λ source out. good-safe config life wire all source valid (up source) (has.others source out) })

-- ---- what calls take was handed up
module _ (wire : Wiring) where
  step-up : (gifts : List Gift) → ((packet : Packet) → Contains gifts (Came packet) → HandsUp wire (Came packet)) → (step : Step) → CameAmong gifts step → IsHandedUp wire step
  step-up gifts heard (Takes source message clock) came = heard (record { peer = source; bytes = message }) came
  step-up gifts heard (Polls source clock) came = tt
  step-up gifts heard (Fuses clock) came = tt

  steps-up : (gifts : List Gift) → ((packet : Packet) → Contains gifts (Came packet) → HandsUp wire (Came packet)) → (steps : List Step) → AllByRecursion (CameAmong gifts) steps → AllByRecursion (IsHandedUp wire) steps
  steps-up gifts heard [] came = tt
  steps-up gifts heard (step ∷ steps) came = (step-up gifts heard step came.0, steps-up gifts heard steps came.1)

  calls-up : (calls : List RoundsCall) → AreHeard wire calls → AllByRecursion (IsHandedUp wire) (calls_steps calls)
  calls-up [] heard = tt
  calls-up (call ∷ calls) heard =
      let steps : List Step = rounds_steps call.rounds call.turns (call.from []) call.given in
      all_append (IsHandedUp wire) steps (calls_steps calls)
      (steps-up call.given.gifts heard.0 steps (takes-came call.rounds call.turns (call.from []) call.given))
      (calls-up calls heard.1)

  -- a step that was made is among those of the timeline
  after-deed : (at : ℕ) (deed : Deed) (all : List Done) → AllByRecursion (IsHandedUp wire) (steps_told (told_of at deed ++ timeline_of all)) → AllByRecursion (IsHandedUp wire) (steps_told (timeline_of all))
  after-deed at (Makes step) all up = up.1
  after-deed at (Comes source bytes) all up = up
  after-deed at (Hears source bytes) all up = up
  after-deed at (Seals source key request span) all up = up

  made-up : (later : List Done) (at : ℕ) (step : Step) (before : List Done) → AllByRecursion (IsHandedUp wire) (steps_told (timeline_of (later ++ record { at = at; deed = Makes step } ∷ before))) → IsHandedUp wire step
  made-up [] at step before up = up.0
  made-up (done ∷ later) at step before up = made-up later at step before (after-deed done.at done.deed (later ++ record { at = at; deed = Makes step } ∷ before) up)

pub calls-handed : (wire : Wiring) (calls : List RoundsCall) (all later before : List Done) (at : ℕ) (step : Step) → AreHeard wire calls → steps_told (timeline_of all) ≡ calls_steps calls
    → Did all later at (Makes step) before → IsHandedUp wire step
calls-handed wire calls all later before at step heard told did =
    made-up wire later at step before
    (subst (λ (list : List Done). AllByRecursion (IsHandedUp wire) (steps_told (timeline_of list))) did (subst (AllByRecursion (IsHandedUp wire)) (sym told) (calls-up wire calls heard)))
