-- What a machine fuses: intervals, and the true time is possible by them where few statements are false.
use Rattle.std.proofs.Common.{◌≡◌, ℕ, ◌-◌, ◌<◌, ◌≤◌, Bool, true, false, cond, ltb, List, ◌∷◌, length, map, get_or, Option, Some, None, Result, Ok, Err, refl, ap, subst, sym, ◌∙◌, arith}
use Rattle.std.specs.Prelude.{◌↔◌}
use Rattle.std.specs.List.{AllByRecursion, All, range_with_len}
use Rattle.std.proofs.lemmas.Bool.{le-ltb}
use Rattle.std.proofs.lemmas.List.FromFn.{length-map-range_with_len, get_or-map-range_with_len}
use Rattle.tt_span.specs.Time.{max_time}
use Rattle.tt_span.specs.Interval.{Interval, IsInterval, Holds}
use Rattle.tt_span.specs.Drift.{Moment, AgreesWith, KeepsDrift}
use Rattle.tt_source.specs.Statement.{Statement}
use Rattle.tt_source.specs.Table.{stated_at}
use Rattle.tt_fuse.specs.Fusion.{IsFusion, HasNoPossibleTime, IsPossibleTime}
use Rattle.tt_fuse.specs.Depth.{slow_fusion}
use Rattle.tt_fuse.proofs.Slowly.{fusion-found_slowly, none-found_slowly}
use Rattle.tt_world.specs.Life.{Life}
use Rattle.tt_world.specs.declared.events.Event.{Event}
use Rattle.tt_publish.specs.declared.readings.FusedSpan.{FusedSpan}
use Rattle.tt_daemon.specs.Config.{Configuration, IsConfiguration}
use Rattle.tt_world.specs.Past.{clock_reading, time_of, clock_of, moments_of}
use Rattle.tt_world.specs.Sources.{statement_of}
use Rattle.tt_world.specs.Publications.{spans_of, known_of, publication_from, fusion_of}
use Rattle.tt_world.specs.Assumptions.{is_false_statement, false_count}
use Rattle.tt_world.specs.Headline.{IsAction}
use Rattle.tt_world.proofs.Histories.Places.{holds_in, count_by-map}
use Rattle.tt_world.proofs.Histories.Ageing.{statement_holds, statement_valid}
use Rattle.tt_world.proofs.Histories.Judging.{IsGood, AreGood}
use Rattle.tt_world.proofs.Histories.Clocks.{reading_on, reading_of}
use Rattle.tt_world.proofs.Histories.Stating.{IsStated, statement_known}

-- one span for each source
pub length-spans_of : (config : Configuration) (past : List Event) (life : Life) (clock : ℕ) → length (spans_of config past life clock) ≡ config.sources
length-spans_of config past life clock = length-map-range_with_len (λ i. stated_at config.drift (statement_of past life i) clock) 0 config.sources

span_at : (config : Configuration) (past : List Event) (life : Life) (clock k : ℕ) (d : Interval) → k < config.sources → get_or (spans_of config past life clock) k d ≡ stated_at config.drift (statement_of past life k) clock
span_at config past life clock k d h = get_or-map-range_with_len (λ i. stated_at config.drift (statement_of past life i) clock) 0 config.sources k k d h (omega arith)

stated_valid : (drift : ℕ) (past : List Event) (life : Life) (i clock : ℕ) (stated : Option Statement) → ((s : Statement) → stated ≡ Some s → IsStated past life i s) → IsInterval (stated_at drift stated clock)
stated_valid drift past life i clock None h = record { ordered = omega arith; in_time = omega arith }
stated_valid drift past life i clock (Some s) h =
    let facts = h s refl in
    statement_valid drift s clock facts.valid facts.ordered

-- the spans of the sources are intervals
pub spans_valid : (configs : List Configuration) (past : List Event) (config : Configuration) (life : Life) (clock : ℕ) → AreGood configs past → All IsInterval (spans_of config past life clock)
spans_valid configs past config life clock good k d h =
    subst IsInterval (sym (span_at config past life clock k d (omega (arith, length-spans_of config past life clock))))
    (stated_valid config.drift past life k clock (statement_of past life k) (statement_known configs past good life k))

stated_holds : (drift : ℕ) (past : List Event) (life : Life) (i clock at : ℕ) (stated : Option Statement) → ((s : Statement) → stated ≡ Some s → IsStated past life i s) → clock_of past life ≤ clock → time_of past ≤ at → at ≤ max_time →
    AllByRecursion (AgreesWith drift (record { clock = clock; time = at })) (moments_of past life) → AllByRecursion (λ (e : Event). IsAction e.action) past → is_false_statement past life i ≡ false → Holds (stated_at drift stated clock) at
stated_holds drift past life i clock at None h on later in_time agree valid honest = (omega arith, in_time)
stated_holds drift past life i clock at (Some s) h on later in_time agree valid honest =
    let facts = h s refl in
    let was = facts.true_unless_false valid honest in
    let got : s.got ≤ clock_of past life = facts.by_now in
    let ordered : s.sent ≤ s.got = facts.ordered in
    let now : was.receipt ≤ time_of past = was.by_now in
    statement_holds drift s clock at was.sending was.giving was.receipt (omega arith) (omega arith) was.given_after_sending was.received_after_giving (omega arith) in_time
    (holds_in (AgreesWith drift (record { clock = clock; time = at })) (record { clock = s.sent; time = was.sending }) (moments_of past life) agree was.sent)
    (holds_in (AgreesWith drift (record { clock = clock; time = at })) (record { clock = s.got; time = was.receipt }) (moments_of past life) agree was.got)
    was.held

-- which statements are false
abbrev wrong_of : Configuration → List Event → Life → List Bool
wrong_of config past life = map (λ i. is_false_statement past life i) (range_with_len 0 config.sources)

-- where an event reads the clock of machine life, its clock keeps its drift bound and few of its statements are false, the true time is possible by what it knows
pub true_time_possible : (configs : List Configuration) (past : List Event) (event : Event) (config : Configuration) (life : Life) (clock : ℕ) → AreGood configs past → AllByRecursion (λ (e : Event). IsAction e.action) past → IsGood configs past event →
    clock_reading past event.action ≡ reading_on life clock → KeepsDrift config.drift (moments_of (event ∷ past) life) → false_count config past life ≤ config.faulty → IsPossibleTime (spans_of config past life clock) config.faulty event.at
true_time_possible configs past event config life clock all_good valid good reads drift few =
    let reading = reading_of configs past event life clock good reads in
    let agree = (subst (λ (ms : List Moment). KeepsDrift config.drift ms) reading.moment drift).0 in
    let wrong_len : length (wrong_of config past life) ≡ config.sources = length-map-range_with_len (λ i. is_false_statement past life i) 0 config.sources in
    record {
      in_time = good.in_time;
      wrong = wrong_of config past life;
      few_wrong = record {
        one_flag_each = wrong_len ∙ sym (length-spans_of config past life clock);
        few = subst (λ (n : ℕ). n ≤ config.faulty) (sym (count_by-map (λ i. is_false_statement past life i) (range_with_len 0 config.sources))) few;
      };
      others_hold = λ k outside d.
          let within : k < config.sources = omega (arith, outside.0, wrong_len) in
          let honest : is_false_statement past life k ≡ false = sym (get_or-map-range_with_len (λ i. is_false_statement past life i) 0 config.sources k k true within (omega arith)) ∙ outside.1 in
          subst (λ (span : Interval). Holds span event.at) (sym (span_at config past life clock k d within))
          (stated_holds config.drift past life k clock event.at (statement_of past life k) (statement_known configs past all_good life k) reading.not_before good.not_before good.in_time agree valid honest);
    }

abbrev as_made : FusedSpan → Result FusedSpan ℕ
as_made p = Ok p

same_made : (a b : FusedSpan) → as_made a ≡ as_made b → a ≡ b
same_made a b e = cc

-- what is known of what was made
made_of : (few : Bool) (clock : ℕ) (fused : Option Interval) (publication : FusedSpan) → cond few (Err 701) (publication_from clock fused) ≡ Ok publication → (fused ≡ Some publication.span) × (publication.clock ≡ clock)
made_of true clock fused publication h = absurd cc
made_of false clock None publication h = absurd cc
made_of false clock (Some span) publication h =
    let same : record { clock = clock; span = span } ≡ publication = same_made (record { clock = clock; span = span }) publication h in
    (ap (λ (p : FusedSpan). Some p.span) same, sym (ap (λ (p : FusedSpan). p.clock) same))

few_faulty : (config : Configuration) → IsConfiguration config → config.faulty < config.sources
few_faulty config h = omega (arith, h.enough)

-- what a fusion publishes is the least span that holds every possible time
pub made_is_fusion : (configs : List Configuration) (past : List Event) (config : Configuration) (life : Life) (clock : ℕ) (publication : FusedSpan) → IsConfiguration config → AreGood configs past →
    fusion_of config past life clock ≡ Ok publication → IsFusion (spans_of config past life clock) config.faulty publication.span × (publication.clock ≡ clock)
made_is_fusion configs past config life clock publication configuration good h =
    let facts = made_of (ltb (known_of config past life) (config.sources - config.faulty)) clock (slow_fusion (spans_of config past life clock) config.faulty) publication h in
    let few = few_faulty config configuration in (
      (fusion-found_slowly (spans_of config past life clock) config.faulty publication.span (spans_valid configs past config life clock good) (omega (arith, length-spans_of config past life clock))).1 facts.0,
      facts.1,
    )

-- a fusion, made or not
made_unless : (clock : ℕ) (fused : Option Interval) → (fused ≡ None → ⊥) → (publication : FusedSpan) × (publication_from clock fused ≡ Ok publication)
made_unless clock None h = absurd (h refl)
made_unless clock (Some span) h = (record { clock = clock; span = span }, refl)

-- where enough sources are known and some time is possible, there is a fusion
pub fusion_made : (configs : List Configuration) (past : List Event) (config : Configuration) (life : Life) (clock x : ℕ) → IsConfiguration config → AreGood configs past →
    config.sources - config.faulty ≤ known_of config past life → IsPossibleTime (spans_of config past life clock) config.faulty x → (publication : FusedSpan) × (fusion_of config past life clock ≡ Ok publication)
fusion_made configs past config life clock x configuration good known possible =
    let few = few_faulty config configuration in
    let spans : List Interval = spans_of config past life clock in
    let some : slow_fusion spans config.faulty ≡ None → ⊥ = λ none.
    (none-found_slowly spans config.faulty (spans_valid configs past config life clock good) (omega (arith, length-spans_of config past life clock))).1 none x possible in
    let made = made_unless clock (slow_fusion spans config.faulty) some in
    let enough : ltb (known_of config past life) (config.sources - config.faulty) ≡ false = le-ltb (known_of config past life) (config.sources - config.faulty) known in
    (made.0, ap (λ (b : Bool). cond b (Err 701) (publication_from clock (slow_fusion spans config.faulty))) enough ∙ made.1)
