-- The calls of the daemon's rounds, one after another.
use Rattle.std.proofs.Common.{◌≡◌, ℕ, ◌≤◌, List, [], ◌∷◌, map, Option, Some, None, Result, Contains, ⊎_elim, arith, refl, sym, ap, subst, ◌∙◌}
use Rattle.tt_daemon.specs.Daemon.{DaemonState}
use Rattle.tt_daemon.specs.Publication.{Publication}
use Rattle.tt_publish.specs.Reading.{fused_span_of}
use Rattle.tt_publish.specs.declared.readings.FusedSpan.{FusedSpan}
use Rattle.tt_clock.specs.Clock.{ClockState, MachineGives}
use Rattle.tt_rounds.specs.Course.{rounds_of}
use Rattle.tt_rounds.specs.Fusing.{fusions_in}
use Rattle.tt_rounds.specs.Link.{Packet, Call, Exchange, Gift, Came, ClockGives, LinkDoes, gifts_in}
use Rattle.tt_rounds.specs.RoundLinks.{DoesOver, HandsUp, LinkEnd}
use Rattle.tt_rounds.specs.Sockets.{SocketStep}
use Rattle.tt_stamp.proofs.Ids.{Contains-cases, Contains-nil}
use Rattle.tt_wire.specs.Wire.{Wiring}
use Rattle.tt_rounds.specs.Making.{stand_of}
use Rattle.tt_rounds.specs.Reports.{PartEvents, Report, Reports}
use Rattle.tt_rounds.specs.declared.faults.NodeFault.{NodeFault}
use Rattle.tt_rounds.specs.declared.tallies.Tally.{Tally}
use Rattle.tt_consistency.specs.Calls.{Rise, RiseIn, RoundsCall}
use Rattle.tt_consistency.specs.CourseSteps.{kept_in}
use Rattle.tt_consistency.specs.Steps.{Kept, fused_span}
use Rattle.tt_server.specs.Round.{CallsInTurn, MakesCall, MakesHeardCall, kept_with}

-- ---- what is kept

pub spans-of : (items : List Publication) → map fused_span (fusions_in items) ≡ map fused_span_of items
spans-of [] = refl
spans-of (item ∷ items) = ap (λ (spans : List FusedSpan). fused_span_of item ∷ spans) (spans-of items)

pub kept_in-stand : (daemon : DaemonState) (items : List Publication) (tally : Tally) (exchanges : List Exchange) → kept_in (stand_of daemon (fusions_in items) tally exchanges) ≡ kept_with daemon items
kept_in-stand daemon items tally exchanges = ap (λ (spans : List FusedSpan). record { daemon = daemon; published = spans }) (spans-of items)

-- ---- readings of a machine's clock

-- none that it gave is below one before it
pub rises : (before after : ClockState) (readings : List (Option ℕ)) → ClockGives MachineGives before readings after → Rise before.last readings after.last
rises before after [] gave = sym (ap (λ (c : ClockState). c.last) gave)
rises before after (None ∷ readings) gave =
    let (mid, one, more) = gave in subst (λ (n : ℕ). Rise n readings after.last) one (rises mid after readings more)
rises before after (Some clock ∷ readings) gave =
    let (mid, one, more) = gave in (one.0, subst (λ (n : ℕ). Rise n readings after.last) one.1 (rises mid after readings more))

-- the clock may show more after the calls
pub RiseIn-later : (from to later : ℕ) (calls : List RoundsCall) → RiseIn from calls to → to ≤ later → RiseIn from calls later
RiseIn-later from to later [] rise le = omega (arith, rise, le)
RiseIn-later from to later (call ∷ calls) rise le =
    let (before, after, first, last, most) = rise in (before, after, first, last, omega (arith, most, le))

-- ---- what a link handed up

module _ {L S : Type 0} (does : S → SocketStep → S → Type 0) (end_of : L → LinkEnd S) where
  abbrev pub DoesBy : L → Call → Gift → L → Type 0
  DoesBy before call gift after = DoesOver does (end_of before) call gift (end_of after)

  -- each packet that the link gave was handed up over its wire
  pub gave-up : (exchanges : List Exchange) (link link' : L) → LinkDoes DoesBy link exchanges link' → (packet : Packet) → Contains (gifts_in exchanges) (Came packet) → HandsUp (end_of link).wire (Came packet)
  gave-up [] link link' did packet there = absurd (Contains-nil (Came packet) there)
  gave-up (exchange ∷ exchanges) link link' (mid, one, more) packet there =
      ⊎_elim
      (λ here. subst (HandsUp (end_of link).wire) here one.0)
      (λ later. subst (λ (wire : Wiring). HandsUp wire (Came packet)) (ap (λ (e : LinkEnd S). e.wire) one.2) (gave-up exchanges mid link' more packet later))
      (Contains-cases exchange.gift (gifts_in exchanges) (Came packet) there)

  -- and the wire stays
  pub wire-stays : (exchanges : List Exchange) (link link' : L) → LinkDoes DoesBy link exchanges link' → (end_of link').wire ≡ (end_of link).wire
  wire-stays [] link link' same = ap (λ (l : L). (end_of l).wire) same
  wire-stays (exchange ∷ exchanges) link link' (mid, one, more) = wire-stays exchanges mid link' more ∙ ap (λ (e : LinkEnd S). e.wire) one.2

-- ---- one call

-- a call of rounds, by the clock of a machine
pub reported-call : {L : Type 0} (does : L → Call → Gift → L → Type 0) (rounds turns : ℕ) (events : PartEvents) (clock clock' : ClockState) (link link' : L)
    (daemon daemon' : DaemonState) (items items' : List Publication) (tally tally' : Tally) (answer : Result (Unit {0}) NodeFault) (old new : Report)
    → Reports MachineGives does (rounds_of rounds turns) events clock clock' link link' (stand_of daemon (fusions_in items) tally) (stand_of daemon' (fusions_in items') tally') answer old new
    → MakesCall (kept_with daemon items) (kept_with daemon' items') clock.last clock'.last
reported-call does rounds turns events clock clock' link link' daemon daemon' items items' tally tally' answer old new made = record {
  call = record {
    rounds = rounds;
    turns = turns;
    given = record { readings = made.readings; gifts = gifts_in made.exchanges; grants = made.grants };
    exchanges = made.exchanges;
    from = stand_of daemon (fusions_in items) tally;
    to = stand_of daemon' (fusions_in items') tally';
    answer = answer;
  };
  leads = made.course;
  begins = kept_in-stand daemon items tally [];
  ends = kept_in-stand daemon' items' tally' made.exchanges;
  rises = (clock.last, clock'.last, omega arith, rises clock clock' made.readings made.gave, omega arith);
}

-- the same over a link that hands up over a wire
pub heard-call : {L S : Type 0} (does : S → SocketStep → S → Type 0) (end_of : L → LinkEnd S) (rounds turns : ℕ) (events : PartEvents) (clock clock' : ClockState) (link link' : L)
    (daemon daemon' : DaemonState) (items items' : List Publication) (tally tally' : Tally) (answer : Result (Unit {0}) NodeFault) (old new : Report)
    → Reports MachineGives (λ before call gift after. DoesOver does (end_of before) call gift (end_of after)) (rounds_of rounds turns) events clock clock' link link' (stand_of daemon (fusions_in items) tally) (stand_of daemon' (fusions_in items') tally') answer old new
    → MakesHeardCall (end_of link).wire (kept_with daemon items) (kept_with daemon' items') clock.last clock'.last
unfolding reported-call
heard-call does end_of rounds turns events clock clock' link link' daemon daemon' items items' tally tally' answer old new made = record {
  made = reported-call _ rounds turns events clock clock' link link' daemon daemon' items items' tally tally' answer old new made;
  heard = gave-up does end_of made.exchanges link link' made.did;
}

-- the clock may have shown less before the call, and show more after it
pub MakesHeardCall-wider : (wire : Wiring) (before after : Kept) (shown shown' first last : ℕ) → first ≤ shown → shown' ≤ last → MakesHeardCall wire before after shown shown' → MakesHeardCall wire before after first last
MakesHeardCall-wider wire before after shown shown' first last from to did =
    let made = did.made in
    let (low, high, least, rise, most) = made.rises in record {
      made = record {
        call = made.call;
        leads = made.leads;
        begins = made.begins;
        ends = made.ends;
        rises = (low, high, omega (arith, least, from), rise, omega (arith, most, to));
      };
      heard = did.heard;
    }

-- the wire, and the daemon before the call and after it, may be told by others that are the same
pub MakesHeardCall-same : (over wire : Wiring) (before after daemon daemon' : DaemonState) (items items' : List Publication) (shown shown' : ℕ) → over ≡ wire → before ≡ daemon → daemon' ≡ after
    → MakesHeardCall over (kept_with before items) (kept_with after items') shown shown' → MakesHeardCall wire (kept_with daemon items) (kept_with daemon' items') shown shown'
MakesHeardCall-same over wire before after daemon daemon' items items' shown shown' same from to did =
    subst (λ (w : Wiring). MakesHeardCall w (kept_with daemon items) (kept_with daemon' items') shown shown') same
    (subst (λ (d : DaemonState). MakesHeardCall over (kept_with d items) (kept_with daemon' items') shown shown') from
    (subst (λ (d : DaemonState). MakesHeardCall over (kept_with before items) (kept_with d items') shown shown') (sym to) did))

-- ---- all calls

-- no call was made
pub no-calls : (wire : Wiring) (begun : Kept) (from to : ℕ) → from ≤ to → CallsInTurn wire begun begun from to
no-calls wire begun from to le = ([], tt, refl, le, tt)

-- one more call was made, over the same wire
pub one-more : (over wire : Wiring) (begun before after : Kept) (from shown shown' : ℕ) → over ≡ wire → CallsInTurn wire begun before from shown → MakesHeardCall over before after shown shown' → CallsInTurn wire begun after from shown'
one-more over wire begun before after from shown shown' same did more =
    let (calls, turn, kept, rise, heard) = did in
    let made = more.made in
    let (low, high, least, rises, most) = made.rises in
    let hears : (packet : Packet) → Contains made.call.given.gifts (Came packet) → HandsUp wire (Came packet) =
    λ packet there. subst (λ (w : Wiring). HandsUp w (Came packet)) same (more.heard packet there) in
    (made.call ∷ calls, (made.leads, made.begins ∙ sym kept, turn), made.ends, (low, high, RiseIn-later from shown low calls rise least, rises, most), (hears, heard))

-- the clock may show more after the calls
pub calls-later : (wire : Wiring) (begun after : Kept) (from shown shown' : ℕ) → CallsInTurn wire begun after from shown → shown ≤ shown' → CallsInTurn wire begun after from shown'
calls-later wire begun after from shown shown' did le =
    let (calls, turn, kept, rise, heard) = did in (calls, turn, kept, RiseIn-later from shown shown' calls rise le, heard)
