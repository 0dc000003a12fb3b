-- A break ends what a daemon publishes, and nothing else of what it compares does.
use Rattle.std.proofs.Common.{◌≡◌, ◌⊎◌, inl, inr, ℕ, List, [], ◌∷◌, ◌++◌, map, Option, Some, None, Result, refl, sym, ap, subst, ◌∙◌}
use Rattle.std.specs.Prelude.{option_map}
use Rattle.tt_daemon.specs.Publication.{Publication}
use Rattle.tt_daemon.specs.declared.faults.DaemonFault.{DaemonFault}
use Rattle.tt_publish.specs.Known.{last_of}
use Rattle.tt_publish.specs.Reading.{fused_span_of}
use Rattle.tt_publish.specs.declared.readings.FusedSpan.{FusedSpan}
use Rattle.tt_rounds.specs.declared.faults.NodeFault.{NodeFault}
use Rattle.tt_rounds.specs.declared.reports.RoundReport.{RoundReport}
use Rattle.tt_rounds.specs.declared.rounds.Rounds.{Rounds}
use Rattle.tt_health.specs.Break.{IsUnmet}
use Rattle.tt_settings.specs.declared.forms.OnBreak.{OnBreak}
use Rattle.tt_settings.specs.declared.forms.OnBreak.TheVariants.{End, Warn, Stay}
use Rattle.tt_status.specs.declared.breaks.BreakReason.{BreakReason}
use Rattle.tt_status.specs.declared.breaks.BreakReason.TheVariants.{Unmet, Slept, Disrupted}
use Rattle.tt_status.specs.declared.lines.LogEvent.{LogEvent}
use Rattle.tt_status.specs.Reason.{reason_told}
use Rattle.tt_telemetry.specs.Notice.{TellsUnmet, event_of_unmet}
use Rattle.tt_telemetry.specs.Records.{Shows, published_in}
use Rattle.tt_telemetry.specs.declared.notices.Unmet.{Unmet as Found}
use Rattle.tt_telemetry.specs.declared.records.Shown.{Shown}
use Rattle.tt_server.specs.Break.{AllMeet, AreUnmet, Compares, EndsBy, EndsUnmet, GoesRound, LooksAtHost, MayBreak, Settles, TellsOfMeeting, broken_by, came_in, last_with, seen_in, with_came}

-- ---- one more publication

-- it meets the last one
meets-behind : (drift : ℕ) (spans : List FusedSpan) (span : FusedSpan) → AllMeet drift spans → (¬ AreUnmet drift (last_of spans) (Some span)) → AllMeet drift (spans ++ span ∷ [])
meets-behind drift [] span all meets = tt
meets-behind drift (only ∷ []) span all meets = (meets, tt)
meets-behind drift (earlier ∷ later ∷ more) span all meets = (all.0, meets-behind drift (later ∷ more) span all.1 meets)

-- it does not
unmet-behind : (drift : ℕ) (spans : List FusedSpan) (span : FusedSpan) → AllMeet drift spans → AreUnmet drift (last_of spans) (Some span) → EndsUnmet drift (spans ++ span ∷ [])
unmet-behind drift [] span all unmet = absurd unmet
unmet-behind drift (only ∷ []) span all unmet = unmet
unmet-behind drift (earlier ∷ later ∷ []) span all unmet = (all.0, unmet)
unmet-behind drift (earlier ∷ later ∷ next ∷ more) span all unmet = (all.0, unmet-behind drift (later ∷ next ∷ more) span all.1 unmet)

last-behind : (spans : List FusedSpan) (span : FusedSpan) → last_of (spans ++ span ∷ []) ≡ Some span
last-behind [] span = refl
last-behind (only ∷ []) span = refl
last-behind (earlier ∷ later ∷ more) span = last-behind (later ∷ more) span

-- what was compared with is the last publication, also after the round
pub last-stays : (spans spans' : List FusedSpan) (last last' came : Option FusedSpan) → last ≡ last_of spans → spans' ≡ with_came spans came → last' ≡ last_with last came → last' ≡ last_of spans'
last-stays spans spans' last last' None is published shown = shown ∙ is ∙ ap last_of (sym published)
last-stays spans spans' last last' (Some span) is published shown = shown ∙ sym (last-behind spans span) ∙ ap last_of (sym published)

came-meets : (drift : ℕ) (spans : List FusedSpan) (came : Option FusedSpan) → AllMeet drift spans → (¬ AreUnmet drift (last_of spans) came) → AllMeet drift (with_came spans came)
came-meets drift spans None all meets = all
came-meets drift spans (Some span) all meets = meets-behind drift spans span all meets

nothing-unmet : (drift : ℕ) (last : Option FusedSpan) → AreUnmet drift last None → ⊥
nothing-unmet drift None unmet = unmet
nothing-unmet drift (Some last) unmet = unmet

came-unmet : (drift : ℕ) (spans : List FusedSpan) (came : Option FusedSpan) → AllMeet drift spans → AreUnmet drift (last_of spans) came → EndsUnmet drift (with_came spans came)
came-unmet drift spans None all unmet = absurd (nothing-unmet drift (last_of spans) unmet)
came-unmet drift spans (Some span) all unmet = unmet-behind drift spans span all unmet

-- ---- one more round

-- the publications meet, and no reason says that they do not
abbrev Meeting : ℕ → List FusedSpan → Option BreakReason → Type 0
Meeting drift spans broken = AllMeet drift spans × (¬ (broken ≡ Some Unmet))

-- as a daemon goes on: no reason is told where a break is only logged
abbrev pub Goes : OnBreak → ℕ → List FusedSpan → Option BreakReason → Type 0
Goes End drift spans broken = Meeting drift spans broken
Goes Stay drift spans broken = Meeting drift spans broken
Goes Warn drift spans broken = broken ≡ None

-- what it compares with is the last publication, and it goes on
pub record Stands (on_break : OnBreak) (drift : ℕ) (spans : List FusedSpan) (last : Option FusedSpan) (broken : Option BreakReason) : Type 0 where
  pub last_is : last ≡ last_of spans
  pub goes : Goes on_break drift spans broken

meeting-tells : (drift : ℕ) (spans : List FusedSpan) (broken : Option BreakReason) → Meeting drift spans broken → TellsOfMeeting drift spans broken
meeting-tells drift spans None meeting = meeting.0
meeting-tells drift spans (Some Unmet) meeting = absurd (meeting.1 refl)
meeting-tells drift spans (Some Slept) meeting = inl meeting.0
meeting-tells drift spans (Some Disrupted) meeting = inl meeting.0

-- they meet, or the last one does not, and this is the reason
abbrev MeetsOrNot : ℕ → List FusedSpan → Option BreakReason → Type 0
MeetsOrNot drift spans broken = Meeting drift spans broken ⊎ (EndsUnmet drift spans × (broken ≡ Some Unmet))

either-way : (drift : ℕ) (spans : List FusedSpan) (broken : Option BreakReason) → MeetsOrNot drift spans broken → AllMeet drift spans ⊎ EndsUnmet drift spans
either-way drift spans broken (inl meeting) = inl meeting.0
either-way drift spans broken (inr unmet) = inr unmet.0

told-either : (drift : ℕ) (spans : List FusedSpan) (broken : Option BreakReason) → MeetsOrNot drift spans broken → TellsOfMeeting drift spans broken
told-either drift spans broken (inl meeting) = meeting-tells drift spans broken meeting
told-either drift spans broken (inr unmet) = subst (TellsOfMeeting drift spans) (sym unmet.1) unmet.0

compared-either : (drift : ℕ) (spans : List FusedSpan) (came : Option FusedSpan) (before compared : Option BreakReason) → Meeting drift spans before
    → (AreUnmet drift (last_of spans) came × (compared ≡ Some Unmet)) ⊎ ((¬ AreUnmet drift (last_of spans) came) × (compared ≡ before))
    → MeetsOrNot drift (with_came spans came) compared
compared-either drift spans came before compared meeting (inl unmet) = inr (came-unmet drift spans came meeting.0 unmet.0, unmet.1)
compared-either drift spans came before compared meeting (inr meets) = inl (came-meets drift spans came meeting.0 meets.0, λ is. meeting.1 (sym meets.1 ∙ is))

looked-tells : (drift : ℕ) (spans : List FusedSpan) (compared slept after : Option BreakReason) → MeetsOrNot drift spans compared
    → (slept ≡ Some Slept) ⊎ (slept ≡ compared) → (after ≡ Some Disrupted) ⊎ (after ≡ slept) → TellsOfMeeting drift spans after
looked-tells drift spans compared slept after either look (inl disrupted) = subst (TellsOfMeeting drift spans) (sym disrupted) (either-way drift spans compared either)
looked-tells drift spans compared slept after either (inl asleep) (inr same) = subst (TellsOfMeeting drift spans) (sym (same ∙ asleep)) (either-way drift spans compared either)
looked-tells drift spans compared slept after either (inr awake) (inr same) = subst (TellsOfMeeting drift spans) (sym (same ∙ awake)) (told-either drift spans compared either)

-- a reason that is only logged is none
warned : (reason : BreakReason) (before after : Option BreakReason) → MayBreak Warn reason before after → before ≡ None → after ≡ None
warned reason before after (inl same) none = same ∙ none
warned reason before after (inr same) none = same ∙ none

compared-warned : (drift : ℕ) (last came : Option FusedSpan) (before after : Option BreakReason) → Compares Warn drift last came before after → before ≡ None → after ≡ None
compared-warned drift last came before after (inl unmet) none = unmet.1 ∙ none
compared-warned drift last came before after (inr meets) none = meets.1 ∙ none

settled : (on_break : OnBreak) (drift : ℕ) (spans : List FusedSpan) (came : Option FusedSpan) (before after : Option BreakReason) → Goes on_break drift spans before → Settles on_break drift (last_of spans) came before after
    → EndsBy on_break drift (with_came spans came) after
settled End drift spans came before after goes settles =
    let (slept, asleep, disrupted) = settles.looks in
    looked-tells drift (with_came spans came) settles.compared slept after (compared-either drift spans came before settles.compared goes settles.compares) asleep disrupted
settled Stay drift spans came before after goes settles =
    let (slept, asleep, disrupted) = settles.looks in
    looked-tells drift (with_came spans came) settles.compared slept after (compared-either drift spans came before settles.compared goes settles.compares) asleep disrupted
settled Warn drift spans came before after goes settles =
    let (slept, asleep, disrupted) = settles.looks in
    warned Disrupted slept after disrupted (warned Slept settles.compared slept asleep (compared-warned drift (last_of spans) came before settles.compared settles.compares goes))

-- a life that ends after a round tells why
pub round-ends : (on_break : OnBreak) (drift : ℕ) (spans spans' : List FusedSpan) (last last' : Option FusedSpan) (before after : Option BreakReason)
    → Stands on_break drift spans last before → GoesRound on_break drift spans spans' last last' before after → EndsBy on_break drift spans' after
round-ends on_break drift spans spans' last last' before after stands made =
    subst (λ (s : List FusedSpan). EndsBy on_break drift s after) (sym made.published)
    (settled on_break drift spans made.came before after stands.goes (subst (λ (l : Option FusedSpan). Settles on_break drift l made.came before after) stands.last_is made.settles))

abbrev IsOfUnmet : Option BreakReason → Type 0
IsOfUnmet None = ⊥
IsOfUnmet (Some Unmet) = Unit {0}
IsOfUnmet (Some Slept) = ⊥
IsOfUnmet (Some Disrupted) = ⊥

none-unmet : (broken : Option BreakReason) → broken ≡ None → ¬ (broken ≡ Some Unmet)
none-unmet broken none unmet = subst IsOfUnmet (sym unmet ∙ none) tt

ended-goes : (on_break : OnBreak) (drift : ℕ) (spans : List FusedSpan) (broken : Option BreakReason) → EndsBy on_break drift spans broken → broken ≡ None → Goes on_break drift spans broken
ended-goes End drift spans broken ends none = (subst (TellsOfMeeting drift spans) none ends, none-unmet broken none)
ended-goes Stay drift spans broken ends none = (subst (TellsOfMeeting drift spans) none ends, none-unmet broken none)
ended-goes Warn drift spans broken ends none = none

-- a life that is not broken goes on
pub round-goes : (on_break : OnBreak) (drift : ℕ) (spans spans' : List FusedSpan) (last last' : Option FusedSpan) (before after : Option BreakReason)
    → Stands on_break drift spans last before → GoesRound on_break drift spans spans' last last' before after → after ≡ None → Stands on_break drift spans' last' after
round-goes on_break drift spans spans' last last' before after stands made none = record {
  last_is = last-stays spans spans' last last' made.came stands.last_is made.published made.shown;
  goes = ended-goes on_break drift spans' after (round-ends on_break drift spans spans' last last' before after stands made) none;
}

-- ---- the start

looked-first : (slept after : Option BreakReason) → (slept ≡ Some Slept) ⊎ (slept ≡ None) → (after ≡ Some Disrupted) ⊎ (after ≡ slept) → ¬ (after ≡ Some Unmet)
looked-first slept after look (inl disrupted) unmet = subst IsOfUnmet (sym unmet ∙ disrupted) tt
looked-first slept after (inl asleep) (inr same) unmet = subst IsOfUnmet (sym unmet ∙ same ∙ asleep) tt
looked-first slept after (inr awake) (inr same) unmet = none-unmet after (same ∙ awake) unmet

begun : (on_break : OnBreak) (drift : ℕ) (after : Option BreakReason) → LooksAtHost on_break None after → Goes on_break drift [] after
begun End drift after (slept, asleep, disrupted) = (tt, looked-first slept after asleep disrupted)
begun Stay drift after (slept, asleep, disrupted) = (tt, looked-first slept after asleep disrupted)
begun Warn drift after (slept, asleep, disrupted) = warned Disrupted slept after disrupted (warned Slept None slept asleep refl)

-- a daemon that has published nothing, after a look at the host
pub begins : (on_break : OnBreak) (drift : ℕ) (last : Option FusedSpan) (before after : Option BreakReason) → last ≡ None → before ≡ None → LooksAtHost on_break before after → Stands on_break drift [] last after
begins on_break drift last before after nothing unbroken looks = record {
  last_is = nothing;
  goes = begun on_break drift after (subst (λ (b : Option BreakReason). LooksAtHost on_break b after) unbroken looks);
}

-- ---- what is shown

-- what is shown of the publication of a round
pub shown-seen : (published : Option Publication) (shown : Option Shown) → Shows published shown → seen_in shown ≡ option_map fused_span_of published
shown-seen None shown shows = ap seen_in shows
shown-seen (Some p) None shows = absurd shows
shown-seen (Some p) (Some shown) shows = ap Some shows.0

-- what is found of two that are shown
pub found-unmet : (drift : ℕ) (last shown : Option Shown) (unmet : Found) → TellsUnmet drift last shown unmet → AreUnmet drift (seen_in last) (seen_in shown)
found-unmet drift (Some last) (Some shown) unmet tells = tells.apart
found-unmet drift (Some last) None unmet tells = absurd tells
found-unmet drift None shown unmet tells = absurd tells

-- and where nothing is found of them
pub found-none : (drift : ℕ) (last shown : Option Shown) → ((unmet : Found) → TellsUnmet drift last shown unmet → ⊥) → ¬ AreUnmet drift (seen_in last) (seen_in shown)
found-none drift (Some last) (Some shown) none apart = none _ (record { apart = apart; is = refl })
found-none drift (Some last) None none apart = apart
found-none drift None shown none apart = apart

-- nothing is found of them, and nothing is told
pub compared-met : (on_break : OnBreak) (drift bound : ℕ) (last shown : Option Shown) (before after : Option BreakReason) → bound ≡ drift → ((unmet : Found) → TellsUnmet bound last shown unmet → ⊥) → after ≡ before
    → Compares on_break drift (seen_in last) (seen_in shown) before after
compared-met on_break drift bound last shown before after by none same =
    subst (λ (ppm : ℕ). Compares on_break ppm (seen_in last) (seen_in shown) before after) by (inr (found-none bound last shown none, same))

-- they do not meet, and this is told
pub compared-unmet : (on_break : OnBreak) (drift bound : ℕ) (last shown : Option Shown) (before after : Option BreakReason) (unmet : Found) (event : LogEvent) → bound ≡ drift → TellsUnmet bound last shown unmet → event ≡ event_of_unmet unmet
    → after ≡ broken_by on_break (reason_told event) before → Compares on_break drift (seen_in last) (seen_in shown) before after
compared-unmet on_break drift bound last shown before after unmet event by tells is told =
    subst (λ (ppm : ℕ). Compares on_break ppm (seen_in last) (seen_in shown) before after) by
    (inl (found-unmet bound last shown unmet tells, told ∙ ap (λ (e : LogEvent). broken_by on_break (reason_told e) before) is))

-- the publication of a round was compared, and the host looked at, each as it was shown
pub settles : (on_break : OnBreak) (drift : ℕ) (last seen came : Option FusedSpan) (before compared after : Option BreakReason) → seen ≡ came
    → Compares on_break drift last seen before compared → LooksAtHost on_break compared after → Settles on_break drift last came before after
settles on_break drift last seen came before compared after same compares looks =
    record { compared = compared; compares = subst (λ (s : Option FusedSpan). Compares on_break drift last s before compared) same compares; looks = looks }

-- a round from what was published, shown and told before it; what comes right before it and right after it changes nothing of this
pub goes-round : (on_break : OnBreak) (drift : ℕ) (spans spans' : List FusedSpan) (came last last' first final : Option FusedSpan) (before after begun ended : Option BreakReason) → first ≡ last → begun ≡ before → last' ≡ final → ended ≡ after
    → spans' ≡ with_came spans came → final ≡ last_with first came → Settles on_break drift first came begun after → GoesRound on_break drift spans spans' last last' before ended
goes-round on_break drift spans spans' came last last' first final before after begun ended same since still yet published shown settles = record {
  came = came;
  published = published;
  shown = still ∙ shown ∙ ap (λ (l : Option FusedSpan). last_with l came) same;
  settles = subst (λ (b : Option BreakReason). Settles on_break drift last came before b) (sym yet)
      (subst (λ (b : Option BreakReason). Settles on_break drift last came b after) since (subst (λ (l : Option FusedSpan). Settles on_break drift l came begun after) same settles));
}

-- ---- the loop of rounds

-- before the first round
pub begun-so : (on_break : OnBreak) (drift : ℕ) (items : List Publication) (shown shown' : Option Shown) (before after broken : Option BreakReason) → items ≡ [] → shown ≡ None → before ≡ None → shown' ≡ shown → broken ≡ after
    → LooksAtHost on_break before after → Stands on_break drift (map fused_span_of items) (seen_in shown') broken
begun-so on_break drift items shown shown' before after broken nothing unseen unbroken same still looks =
    subst (λ (i : List Publication). Stands on_break drift (map fused_span_of i) (seen_in shown') broken) (sym nothing)
    (subst (λ (b : Option BreakReason). Stands on_break drift [] (seen_in shown') b) (sym still) (begins on_break drift (seen_in shown') before after (ap seen_in (same ∙ unseen)) unbroken looks))

-- after one more
pub goes-so : (on_break : OnBreak) (drift : ℕ) (spans spans' : List FusedSpan) (last : Option FusedSpan) (shown shown' : Option Shown) (before after broken : Option BreakReason) → Stands on_break drift spans last before
    → GoesRound on_break drift spans spans' last (seen_in shown) before after → shown' ≡ shown → broken ≡ after → after ≡ None → Stands on_break drift spans' (seen_in shown') broken
goes-so on_break drift spans spans' last shown shown' before after broken stands made same still none =
    subst (λ (b : Option BreakReason). Stands on_break drift spans' (seen_in shown') b) (sym still)
    (subst (λ (s : Option Shown). Stands on_break drift spans' (seen_in s) after) (sym same) (round-goes on_break drift spans spans' last (seen_in shown) before after stands made none))

-- after the last one
pub ends-so : (on_break : OnBreak) (drift : ℕ) (spans spans' : List FusedSpan) (last last' : Option FusedSpan) (before after broken : Option BreakReason) → Stands on_break drift spans last before
    → GoesRound on_break drift spans spans' last last' before after → broken ≡ after → EndsBy on_break drift spans' broken
ends-so on_break drift spans spans' last last' before after broken stands made still =
    subst (EndsBy on_break drift spans') (sym still) (round-ends on_break drift spans spans' last last' before after stands made)

-- the end of a life tells what the daemon left
pub told-so : (on_break : OnBreak) (drift : ℕ) (items told : List Publication) (before broken : Option BreakReason) → told ≡ items → broken ≡ before → EndsBy on_break drift (map fused_span_of items) before → EndsBy on_break drift (map fused_span_of told) broken
told-so on_break drift items told before broken same still ends =
    subst (λ (b : Option BreakReason). EndsBy on_break drift (map fused_span_of told) b) (sym still)
    (subst (λ (i : List Publication). EndsBy on_break drift (map fused_span_of i) before) (sym same) ends)

-- ---- what follows a round

-- what is shown after it is what it published, or what was shown before
pub shown-so : (did : Result Rounds NodeFault) (report report' : RoundReport) (seen : Option Shown) (first before handed after : Option Shown) → report' ≡ report → Shows (published_in did report'.fusion) seen
    → before ≡ first → seen_in handed ≡ last_with (seen_in before) (seen_in seen) → after ≡ handed → seen_in after ≡ last_with (seen_in first) (came_in did report.fusion)
shown-so did report report' seen first before handed after kept shows same shown still =
    ap seen_in still ∙ shown ∙ ap (λ (l : Option Shown). last_with (seen_in l) (seen_in seen)) same
    ∙ ap (last_with (seen_in first)) (shown-seen (published_in did report'.fusion) seen shows ∙ ap (λ (r : RoundReport). came_in did r.fusion) kept)

-- why it is broken after it
pub settled-so : (on_break : OnBreak) (drift : ℕ) (did : Result Rounds NodeFault) (report report' : RoundReport) (seen first shown : Option Shown) (first_broken before compared looked after : Option BreakReason) → report' ≡ report → Shows (published_in did report'.fusion) seen
    → shown ≡ first → before ≡ first_broken → Compares on_break drift (seen_in shown) (seen_in seen) before compared → LooksAtHost on_break compared looked → after ≡ looked → Settles on_break drift (seen_in first) (came_in did report.fusion) first_broken after
settled-so on_break drift did report report' seen first shown first_broken before compared looked after kept shows same since compares looks still =
    subst (λ (b : Option BreakReason). Settles on_break drift (seen_in first) (came_in did report.fusion) first_broken b) (sym still)
    (settles on_break drift (seen_in first) (seen_in seen) (came_in did report.fusion) first_broken compared looked
    (shown-seen (published_in did report'.fusion) seen shows ∙ ap (λ (r : RoundReport). came_in did r.fusion) kept)
    (subst (λ (b : Option BreakReason). Compares on_break drift (seen_in first) (seen_in seen) b compared) since (subst (λ (l : Option Shown). Compares on_break drift (seen_in l) (seen_in seen) before compared) same compares)) looks)
