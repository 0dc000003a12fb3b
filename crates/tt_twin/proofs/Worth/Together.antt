-- What a twin is worth, put together.
use Rattle.std.proofs.Common.{◌≡◌, ℕ, zero, suc, ◌-◌, ◌<◌, ◌≤◌, Bool, List, [], ◌∷◌, ◌++◌, length, map, reverse, inl, inr, refl, ap, subst, sym, ◌∙◌, arith}
use Rattle.std.specs.List.{AllByRecursion, All}
use Rattle.std.proofs.lemmas.Bool.{cases_eq}
use Rattle.std.proofs.lemmas.List.{reverse-append, reverse-reverse}
use Rattle.std.proofs.lemmas.List.Elements.{All-from_recursion}
use Rattle.tt_span.specs.Time.{max_time, cut}
use Rattle.tt_span.specs.Interval.{Interval, IsInterval, Holds}
use Rattle.tt_span.specs.Drift.{max_drift, Moment, KeepsDrift}
use Rattle.tt_daemon.specs.Config.{Configuration}
use Rattle.tt_world.specs.Config.{config_at}
use Rattle.tt_world.specs.Life.{life_at}
use Rattle.tt_world.specs.declared.events.Event.{Event}
use Rattle.tt_world.specs.Past.{clock_of, time_of, moments_of}
use Rattle.tt_world.specs.Bad.{accepted}
use Rattle.tt_world.specs.State.{knows}
use Rattle.tt_world.specs.Reply.{replies_from}
use Rattle.tt_world.specs.Assumptions.{FewLie, MeetsAssumptions, ClocksKeepDrift}
use Rattle.tt_world.specs.Headline.{IsAction, AreEvents, AreConfigurations}
use Rattle.tt_world.proofs.Simulation.Ranges.{map-map}
use Rattle.tt_world.proofs.Histories.Places.{all_append}
use Rattle.tt_twin.specs.declared.twins.Side.{Side}
use Rattle.tt_twin.specs.Twin.{end_of, end_after, twin_from}
use Rattle.tt_twin.specs.Looks.{Making, Look, Sight, looks_of, clocks_of, sights_of}
use Rattle.tt_twin.specs.Alike.{IsGranted, ShowsAlike, IsTwin, IsRightForLook}
use Rattle.tt_twin.proofs.Worth.Paths.{path-keeps, end_after-rises, end_after-zero}
use Rattle.tt_twin.proofs.Worth.Accepting.{accepted-all}
use Rattle.tt_twin.proofs.Worth.Planning.{Plan, polled, answered, delivered}
use Rattle.tt_twin.proofs.Worth.Merging.{IsPlanFor}
use Rattle.tt_twin.proofs.Worth.Beginning.{showing, Stands, fused-granted}
use Rattle.tt_twin.proofs.Worth.Looking.{last_of, AreLooks, reads, stands-reads, look_in_twin, looks-next, same-sights}
use Rattle.tt_twin.proofs.Worth.Granting.{AreGranted, granted-good, replies-granted, delivered-granted}
use Rattle.tt_twin.proofs.Worth.Finding.{IsFound}
use Rattle.tt_twin.proofs.Worth.Planned.{plan_of, planned}
use Rattle.tt_twin.proofs.Worth.Elsewhere.{reads-elsewhere}
use Rattle.tt_twin.proofs.Worth.Turning.{turned}

all_reverse : (P : Event → Type 0) (events : List Event) → AllByRecursion P events → AllByRecursion P (reverse events)
all_reverse P [] h = tt
all_reverse P (event ∷ events) h = subst (AllByRecursion P) (sym (reverse-append (event ∷ []) events)) (all_append P (reverse events) (event ∷ []) (all_reverse P events h.1) (h.0, tt))

-- the clock readings are among what the machine is told
clocks-of-sights : (looks : List Look) → map (λ (s : Sight). s.clock) (sights_of looks) ≡ clocks_of looks
clocks-of-sights looks = map-map (λ (s : Sight). s.clock) (λ (l : Look). record { worker = l.worker; clock = l.clock; reading = l.reading }) looks

module _ (p : Plan) where
  valid-polled : (j : ℕ) → AllByRecursion (λ (e : Event). IsAction e.action) (polled p j)
  valid-polled zero = tt
  valid-polled (suc j) = (tt, valid-polled j)

  valid-answered : ((k : ℕ) → k < p.count → IsInterval (p.span k)) → (j : ℕ) → j ≤ p.count → AllByRecursion (λ (e : Event). IsAction e.action) (answered p j)
  valid-answered h zero few = valid-polled p.count
  valid-answered h (suc j) few = (h j (omega arith), valid-answered h j (omega arith))

  valid-delivered : ((k : ℕ) → k < p.count → IsInterval (p.span k)) → (j : ℕ) → AllByRecursion (λ (e : Event). IsAction e.action) (delivered p j)
  valid-delivered h zero = valid-answered h p.count (omega arith)
  valid-delivered h (suc j) = (tt, valid-delivered h j)

module _ (configs : List Configuration) (p : Plan) (side : Side) (spans : List Interval) (knew : ℕ → Bool) (fusion : Interval) (h : IsPlanFor configs p side spans knew fusion) (few : (config_at configs p.machine).drift ≤ max_drift) where
  abbrev run : List Look → List Event
  run looks = reads configs p side spans knew fusion h few looks

  valid-reads : (looks : List Look) → AllByRecursion (λ (e : Event). IsAction e.action) (run looks)
  valid-reads [] = (tt, valid-delivered p h.plan.span_is p.count)
  valid-reads (look ∷ looks) = (tt, valid-reads looks)

  -- the clocks keep their bounds
  drift-kept : (looks : List Look) (last : ℕ) → Stands configs p side spans fusion (run looks) last → ClocksKeepDrift configs (run looks)
  drift-kept looks last s life there =
      elim (cases_eq p.machine life.machine) [
        | inl same ↦
            let P : ℕ → Type 0 = λ m. KeepsDrift (config_at configs m).drift (moments_of (run looks) life) in
            subst P same (path-keeps side (config_at configs p.machine).drift p.clock p.time few (moments_of (run looks) life) (s.path life))
        | inr other ↦
            let P : List Moment → Type 0 = λ moments. KeepsDrift (config_at configs life.machine).drift moments in
            subst P (sym (reads-elsewhere configs p side spans knew fusion h few life other looks)) tt
      ]

  assumptions : (looks : List Look) (last : ℕ) → Stands configs p side spans fusion (run looks) last → MeetsAssumptions configs (run looks)
  assumptions looks last s =
      let same = accepted-all configs (run looks) s.good in
      record {
        clocks = subst (λ (past : List Event). ClocksKeepDrift configs past) (sym same) (drift-kept looks last s);
        sources = subst (λ (past : List Event). FewLie configs past) (sym same) s.few;
      }

  granted-reads : (d : ℕ) → d ≤ max_time → end_after side (config_at configs p.machine).drift p.time (d - p.clock) ≤ max_time → (looks : List Look) → AreLooks (config_at configs p.machine).workers p.clock d looks → AreGranted configs (run looks)
  granted-reads d in_time not_cut [] all = (fused-granted configs p side spans knew fusion h few, delivered-granted configs p h.plan p.count (omega arith))
  granted-reads d in_time not_cut (look ∷ looks) all = (
    granted-good configs (run looks) _ (stands-reads configs p side spans knew fusion h few d in_time not_cut (look ∷ looks) all).good tt,
    granted-reads d in_time not_cut looks all.3,
  )

-- what is known of the reading that the twin is of
pub record IsLast (configs : List Configuration) (past : List Event) (side : Side) (m k : ℕ) (found : IsFound configs past m k) (clock : ℕ) : Type 0 where
  pub look : Look
  pub looks : List Look
  pub newest : reverse (looks_of configs past m k) ≡ look ∷ looks
  pub now : look.clock ≡ clock
  pub shows : clock_of past (life_at past m) ≡ clock
  pub in_time : clock ≤ max_time
  pub not_cut : end_after side (config_at configs m).drift (end_of side found.making.showing.span) (clock - found.making.showing.clock) ≤ max_time

module _ (configs : List Configuration) (past : List Event) (side : Side) (m k clock : ℕ) (found : IsFound configs past m k) (configurations : AreConfigurations configs) (few_machines : length configs ≤ 8) (there : m < length configs) (last : IsLast configs past side m k found clock) where
  abbrev config : Configuration
  config = config_at configs m

  abbrev making : Making
  making = found.making

  abbrev x : ℕ
  x = end_of side making.showing.span

  abbrev p : Plan
  p = plan_of side configs m making

  abbrev knew : ℕ → Bool
  knew i = knows configs making.before m i

  abbrev the_end : ℕ
  the_end = end_after side config.drift x (clock - making.showing.clock)

  abbrev twin : List Event
  twin = twin_from side configs m making (looks_of configs past m k)

  few : config.drift ≤ max_drift
  few = (configurations m there).drift_in

  begins_in_time : x ≤ max_time
  begins_in_time =
      let rises : end_after side config.drift x 0 ≤ the_end = end_after-rises side config.drift x 0 (clock - making.showing.clock) few (omega arith) in
      let start : end_after side config.drift x 0 ≡ x = end_after-zero side config.drift x in
      let not_cut = last.not_cut in
      omega arith

  plan_is : IsPlanFor configs p side making.showing.spans knew making.showing.span
  plan_is = planned configs m making k found.facts there side few_machines (configurations m there) begins_in_time

  abbrev run_of : List Look → List Event
  run_of looks = reads configs p side making.showing.spans knew making.showing.span plan_is few looks

  abbrev ls : List Look
  ls = reverse (looks_of configs past m k)

  all_looks : AreLooks config.workers making.showing.clock clock ls
  all_looks = subst (λ (d : ℕ). AreLooks config.workers making.showing.clock d ls) last.shows found.looks

  turned_is : reverse twin ≡ run_of ls
  turned_is = turned configs side m making plan_is few (looks_of configs past m k)

  stands : Stands configs p side making.showing.spans making.showing.span (run_of ls) (last_of making.showing.clock ls)
  stands = stands-reads configs p side making.showing.spans knew making.showing.span plan_is few clock last.in_time last.not_cut ls all_looks

  all_accepted : accepted configs (run_of ls) ≡ run_of ls
  all_accepted = accepted-all configs (run_of ls) stands.good

  accepted_twin : accepted configs (reverse twin) ≡ run_of ls
  accepted_twin = ap (λ (l : List Event). accepted configs l) turned_is ∙ all_accepted

  same_sights_here : sights_of (looks_of configs (run_of ls) m 1) ≡ sights_of (looks_of configs past m k)
  same_sights_here =
      same-sights configs p side making.showing.spans knew making.showing.span plan_is few clock last.in_time last.not_cut ls all_looks found.readings
      ∙ ap (λ (l : List Look). sights_of l) (reverse-reverse {A = Look} (looks_of configs past m k))

  last_is : last_of making.showing.clock ls ≡ clock
  last_is = ap (λ (l : List Look). last_of making.showing.clock l) last.newest ∙ last.now

  at_the_end : time_of (run_of ls) ≡ the_end
  at_the_end = stands.time ∙ ap (λ (c : ℕ). end_after side config.drift x (c - making.showing.clock)) last_is

  alike_here : ShowsAlike configs past (run_of ls) m k 1
  alike_here = record {
    one = making;
    two = record { showing = showing configs p making.showing.spans making.showing.span; before = delivered p p.count };
    made = found.is;
    made_too = stands.making;
    spans = refl;
    faulty = sym found.facts.faulty;
    clock = refl;
    clocks = sym (clocks-of-sights (looks_of configs (run_of ls) m 1)) ∙ ap (λ (l : List Sight). map (λ (s : Sight). s.clock) l) same_sights_here ∙ clocks-of-sights (looks_of configs past m k);
  }

  can_be_here : AreEvents twin
  can_be_here =
      let P : Event → Type 0 = λ e. IsAction e.action in
      let back : reverse (run_of ls) ≡ twin = ap (λ (l : List Event). reverse l) (sym turned_is) ∙ reverse-reverse {A = Event} twin in
      All-from_recursion P twin (subst (λ (l : List Event). AllByRecursion P l) back (all_reverse P (run_of ls) (valid-reads configs p side making.showing.spans knew making.showing.span plan_is few ls)))

  can_be_turned : AreEvents (reverse twin)
  can_be_turned =
      let P : Event → Type 0 = λ e. IsAction e.action in
      All-from_recursion P (reverse twin) (subst (λ (l : List Event). AllByRecursion P l) (sym turned_is) (valid-reads configs p side making.showing.spans knew making.showing.span plan_is few ls))

  -- the twin is what it is said to be
  pub worth : IsTwin configs past m k the_end twin
  worth =
      let back : reverse (run_of ls) ≡ twin = ap (λ (l : List Event). reverse l) (sym turned_is) ∙ reverse-reverse {A = Event} twin in
      record {
        can_be = can_be_here;
        none_refused = subst (λ (l : List Event). All IsGranted (replies_from configs [] l)) back (replies-granted configs (run_of ls) (granted-reads configs p side making.showing.spans knew making.showing.span plan_is few clock last.in_time last.not_cut ls all_looks));
        assumed = subst (λ (l : List Event). MeetsAssumptions configs l) (sym turned_is) (assumptions configs p side making.showing.spans knew making.showing.span plan_is few ls (last_of making.showing.clock ls) stands);
        alike = subst (λ (l : List Event). ShowsAlike configs past l m k 1) (sym accepted_twin) alike_here;
        same_sights = subst (λ (l : List Event). sights_of (looks_of configs l m 1) ≡ sights_of (looks_of configs past m k)) (sym accepted_twin) same_sights_here;
        time = ap (λ (l : List Event). time_of l) turned_is ∙ at_the_end;
      }

  -- an interval that is right whichever run it is holds the end
  pub not-narrower : (span : Interval) → IsRightForLook configs past m k span → Holds span the_end
  not-narrower span right =
      let look = look_in_twin configs p side making.showing.spans knew making.showing.span plan_is few last.looks last.look in
      let stays : looks_of configs (run_of ls) m 1 ≡ looks_of configs (run_of last.looks) m 1 ++ look ∷ [] =
      ap (λ (l : List Look). looks_of configs (run_of l) m 1) last.newest ∙ looks-next configs p side making.showing.spans knew making.showing.span plan_is few last.looks last.look in
      let held : Holds span look.at =
      right (reverse twin) 1 (looks_of configs (run_of last.looks) m 1) look can_be_turned worth.assumed worth.alike (ap (λ (l : List Event). looks_of configs l m 1) accepted_twin ∙ stays) in
      let not_cut = last.not_cut in
      let is : look.at ≡ the_end = ap (λ (c : ℕ). cut (end_after side config.drift x (c - making.showing.clock))) last.now ∙ uncut the_end not_cut in
      subst (λ (t : ℕ). Holds span t) is held
    where
      uncut : (e : ℕ) → e ≤ max_time → cut e ≡ e
      uncut e le = omega arith
