-- The fusion of a twin.
use Rattle.std.proofs.Common.{◌≡◌, ℕ, ◌+◌, ◌-◌, ◌<◌, ◌≤◌, Bool, true, false, cond, ltb, leb, not, List, length, map, get_or, Option, Some, Result, Ok, Err, inl, inr, refl, ap, subst, sym, ◌∙◌, arith}
use Rattle.std.specs.Prelude.{is_some, ◌⊎◌}
use Rattle.std.specs.List.{range_with_len, count_by}
use Rattle.std.specs.Option.{option_and_then}
use Rattle.std.proofs.lemmas.Bool.{le-leb, le-ltb}
use Rattle.std.proofs.lemmas.List.{same_lists, get_or_default}
use Rattle.std.proofs.lemmas.List.FromFn.{length-map-range_with_len}
use Rattle.tt_span.specs.Time.{max_time, cut}
use Rattle.tt_span.specs.Interval.{Interval, IsInterval, whole}
use Rattle.tt_span.specs.Drift.{widening}
use Rattle.tt_span.proofs.Widening.{zero-widening}
use Rattle.tt_fuse.specs.Depth.{holds, slow_fusion}
use Rattle.tt_source.specs.Statement.{Statement, statement_at}
use Rattle.tt_source.specs.Table.{stated_at}
use Rattle.tt_daemon.specs.Config.{Configuration}
use Rattle.tt_world.specs.Config.{config_at}
use Rattle.tt_world.specs.declared.events.Event.{Event}
use Rattle.tt_publish.specs.declared.readings.FusedSpan.{FusedSpan}
use Rattle.tt_world.specs.Sources.{statement_of}
use Rattle.tt_world.specs.Publications.{spans_of, known_of, publication_from, fusion_of}
use Rattle.tt_world.specs.Assumptions.{origin_of, packet_of_statement, is_lying, is_false_statement, false_count}
use Rattle.tt_world.proofs.Simulation.Ranges.{get_or-made, count_by-map}
use Rattle.tt_twin.specs.declared.twins.Side.{Side}
use Rattle.tt_twin.specs.Twin.{end_of}
use Rattle.tt_twin.proofs.Worth.Fitting.{few_miss}
use Rattle.tt_twin.proofs.Worth.Planning.{Plan, IsPlan, home, delivered}
use Rattle.tt_twin.proofs.Worth.Delivering.{statement, IsDelivered, delivered-origin, delivered-all}

-- a source that is polled, and its span, or one that is not known, which stands as the whole
abbrev pub IsSource : Plan → List Interval → (ℕ → Bool) → ℕ → Type 0
IsSource p spans knew i =
    ((k : ℕ) × (k < p.count) × (p.source k ≡ i) × (get_or spans i whole ≡ p.span k) × (knew i ≡ true))
    ⊎ (((k : ℕ) → k < p.count → p.source k ≡ i → ⊥) × (get_or spans i whole ≡ whole) × (knew i ≡ false))

-- the plan is that for these spans, of which so many may be false, by what was known, and for their fusion on this side
pub record IsPlanFor (configs : List Configuration) (p : Plan) (side : Side) (spans : List Interval) (knew : ℕ → Bool) (fusion : Interval) : Type 0 where
  pub plan : IsPlan configs p
  pub time : p.time ≡ end_of side fusion
  pub each : (i : ℕ) → i < (config_at configs p.machine).sources → IsSource p spans knew i
  pub spans_each : length spans ≡ (config_at configs p.machine).sources
  pub enough : (config_at configs p.machine).sources - (config_at configs p.machine).faulty ≤ count_by knew (range_with_len 0 (config_at configs p.machine).sources)
  pub fused : slow_fusion spans (config_at configs p.machine).faulty ≡ Some fusion

-- ---- lists that a function makes of the numbers below n

pub made-same : {X : Type 0} (f g : ℕ → X) (n : ℕ) → ((i : ℕ) → i < n → f i ≡ g i) → map f (range_with_len 0 n) ≡ map g (range_with_len 0 n)
made-same f g n same =
    same_lists _ _ (length-map-range_with_len f 0 n ∙ sym (length-map-range_with_len g 0 n))
    (λ k d below.
    let within : k < n = omega (arith, length-map-range_with_len f 0 n) in
    get_or-made f n k d within ∙ same k within ∙ sym (get_or-made g n k d within))

pub made-list : {X : Type 0} (xs : List X) (d : X) (n : ℕ) → length xs ≡ n → map (λ i. get_or xs i d) (range_with_len 0 n) ≡ xs
made-list xs d n len =
    same_lists _ _ (length-map-range_with_len (λ i. get_or xs i d) 0 n ∙ sym len)
    (λ k e below.
    let within : k < n = omega (arith, length-map-range_with_len (λ i. get_or xs i d) 0 n) in
    get_or-made (λ i. get_or xs i d) n k e within ∙ get_or_default xs k d e (omega arith))

pub counted-same : (f g : ℕ → Bool) (n : ℕ) → ((i : ℕ) → i < n → f i ≡ g i) → count_by f (range_with_len 0 n) ≡ count_by g (range_with_len 0 n)
counted-same f g n same =
    sym (count_by-map (λ b. b) f (range_with_len 0 n)) ∙ ap (λ (l : List Bool). count_by (λ b. b) l) (made-same f g n same) ∙ count_by-map (λ b. b) g (range_with_len 0 n)

-- ---- what is fused

-- at no distance a statement is its span
fresh : (ppm c : ℕ) (span : Interval) → IsInterval span → statement_at ppm (record { span = span; sent = c; got = c }) c ≡ span
fresh ppm c span valid =
    let none : c - c ≡ 0 = omega arith in
    let zero_wide : widening ppm 0 ≡ 0 = zero-widening ppm in
    let ordered = valid.ordered in
    let in_time = valid.in_time in
    let lo : cut (span.lo + 0 - 0) ≡ span.lo = omega arith in
    let hi : cut (span.hi + 0 + 0) ≡ span.hi = omega arith in
    let aged_to : ℕ → ℕ → Interval = λ d w. record { lo = cut (span.lo + d - w); hi = cut (span.hi + d + w) } in
    let from_ends : ℕ → ℕ → Interval = λ a b. record { lo = a; hi = b } in
    ap (λ d. aged_to d (widening ppm d)) none ∙ ap (λ w. aged_to 0 w) zero_wide
    ∙ ap (λ a. from_ends a (cut (span.hi + 0 + 0))) lo ∙ ap (λ b. from_ends span.lo b) hi

module _ (configs : List Configuration) (p : Plan) (side : Side) (spans : List Interval) (knew : ℕ → Bool) (fusion : Interval) where
  abbrev config : Configuration
  config = config_at configs p.machine

  abbrev all_in : List Event
  all_in = delivered p p.count

  known_all : IsPlanFor configs p side spans knew fusion → IsDelivered p p.count
  known_all h = delivered-all configs p h.plan p.count (omega arith)

  stated_same : (h : IsPlanFor configs p side spans knew fusion) (i : ℕ) → IsSource p spans knew i → stated_at config.drift (statement_of all_in (home p) i) p.clock ≡ get_or spans i whole
  stated_same h i (inl s) =
      let d = known_all h in
      let is : statement_of all_in (home p) i ≡ Some (statement p s.0) = ap (λ j. statement_of all_in (home p) j) (sym s.2) ∙ d.states s.0 s.1 in
      ap (λ (o : Option Statement). stated_at config.drift o p.clock) is ∙ fresh config.drift p.clock (p.span s.0) (h.plan.span_is s.0 s.1) ∙ sym s.3
  stated_same h i (inr s) =
      let d = known_all h in
      ap (λ (o : Option Statement). stated_at config.drift o p.clock) (d.no_statement i s.0) ∙ sym s.1

  knew_same : (h : IsPlanFor configs p side spans knew fusion) (i : ℕ) → IsSource p spans knew i → is_some (statement_of all_in (home p) i) ≡ knew i
  knew_same h i (inl s) =
      let d = known_all h in
      let is : statement_of all_in (home p) i ≡ Some (statement p s.0) = ap (λ j. statement_of all_in (home p) j) (sym s.2) ∙ d.states s.0 s.1 in
      ap (λ (o : Option Statement). is_some o) is ∙ sym s.4
  knew_same h i (inr s) =
      let d = known_all h in
      ap (λ (o : Option Statement). is_some o) (d.no_statement i s.0) ∙ sym s.2

  -- the spans are the same
  pub same_spans : IsPlanFor configs p side spans knew fusion → spans_of config all_in (home p) p.clock ≡ spans
  same_spans h =
      made-same (λ i. stated_at config.drift (statement_of all_in (home p) i) p.clock) (λ i. get_or spans i whole) config.sources (λ i below. stated_same h i (h.each i below))
      ∙ made-list spans whole config.sources h.spans_each

  same_known : IsPlanFor configs p side spans knew fusion → known_of config all_in (home p) ≡ count_by knew (range_with_len 0 config.sources)
  same_known h = counted-same (λ i. is_some (statement_of all_in (home p) i)) knew config.sources (λ i below. knew_same h i (h.each i below))

  -- and so is their fusion
  pub same_fusion : IsPlanFor configs p side spans knew fusion → fusion_of config all_in (home p) p.clock ≡ Ok (record { clock = p.clock; span = fusion })
  same_fusion h =
      let known = same_known h in
      let enough = h.enough in
      let not_few : ltb (known_of config all_in (home p)) (config.sources - config.faulty) ≡ false = le-ltb _ _ (omega arith) in
      let after : Option Interval → Result FusedSpan ℕ = λ o. publication_from p.clock o in
      ap (λ (b : Bool). cond b (Err 701) (publication_from p.clock (slow_fusion (spans_of config all_in (home p) p.clock) config.faulty))) not_few
      ∙ ap (λ (l : List Interval). after (slow_fusion l config.faulty)) (same_spans h) ∙ ap after h.fused

  -- ---- few statements are false

  false_same : (h : IsPlanFor configs p side spans knew fusion) (i : ℕ) → IsSource p spans knew i → is_false_statement all_in (home p) i ≡ not (holds p.time (get_or spans i whole))
  false_same h i (inl s) =
      let d = known_all h in
      let packet : packet_of_statement all_in (home p) i ≡ Some (p.count + s.0) = ap (λ j. packet_of_statement all_in (home p) j) (sym s.2) ∙ d.packets s.0 s.1 in
      ap (λ (o : Option ℕ). is_lying (option_and_then (origin_of all_in) o)) packet
      ∙ ap (λ (o : Option Event). is_lying o) (delivered-origin p p.count s.0 s.1)
      ∙ ap (λ (span : Interval). not (holds p.time span)) (sym s.3)
  false_same h i (inr s) =
      let d = known_all h in
      let from : leb 0 p.time ≡ true = le-leb 0 p.time (omega arith) in
      let to : leb p.time max_time ≡ true = le-leb p.time max_time h.plan.time_in in
      let held : not (holds p.time whole) ≡ false = rw (from, to) refl in
      ap (λ (o : Option ℕ). is_lying (option_and_then (origin_of all_in) o)) (d.no_packet i s.0)
      ∙ sym held ∙ ap (λ (span : Interval). not (holds p.time span)) (sym s.1)

  pub few_false : IsPlanFor configs p side spans knew fusion → false_count config all_in (home p) ≤ config.faulty
  few_false h =
      let miss : Interval → Bool = λ span. not (holds p.time span) in
      let same : false_count config all_in (home p) ≡ count_by miss spans =
      counted-same (λ i. is_false_statement all_in (home p) i) (λ i. miss (get_or spans i whole)) config.sources (λ i below. false_same h i (h.each i below))
      ∙ sym (count_by-map miss (λ i. get_or spans i whole) (range_with_len 0 config.sources))
      ∙ ap (λ (l : List Interval). count_by miss l) (made-list spans whole config.sources h.spans_each) in
      let few : count_by miss spans ≤ config.faulty = subst (λ (t : ℕ). count_by (λ span. not (holds t span)) spans ≤ config.faulty) (sym h.time) (few_miss side spans config.faulty fusion h.fused) in
      omega arith
