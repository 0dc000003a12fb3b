-- The looks of a twin.
use Rattle.std.proofs.Common.{◌≡◌, ℕ, ◌-◌, ◌<◌, ◌≤◌, Bool, true, cond, eqb, ◌&&◌, List, [], ◌∷◌, ◌++◌, reverse, Option, refl, ap, sym, ◌∙◌, arith, eq-eqb}
use Rattle.std.specs.Prelude.{is_some}
use Rattle.std.specs.List.{AllByRecursion}
use Rattle.std.proofs.lemmas.List.{map-append, reverse-append}
use Rattle.tt_span.specs.Time.{max_time, cut}
use Rattle.tt_span.specs.Interval.{Interval}
use Rattle.tt_span.specs.Drift.{max_drift}
use Rattle.tt_daemon.specs.Config.{Configuration}
use Rattle.tt_world.specs.Config.{config_at}
use Rattle.tt_world.specs.Life.{Life, life_at}
use Rattle.tt_world.specs.declared.events.Event.{Event}
use Rattle.tt_publish.specs.declared.readings.FusedSpan.{FusedSpan}
use Rattle.tt_world.specs.Publications.{publications_of, publication_at, reading_at}
use Rattle.tt_twin.specs.declared.twins.Side.{Side}
use Rattle.tt_twin.specs.Twin.{end_after, look_again}
use Rattle.tt_twin.specs.Looks.{Making, Look, Sight, looks_of, sights_of}
use Rattle.tt_twin.proofs.Worth.Paths.{end_after-rises}
use Rattle.tt_twin.proofs.Worth.Planning.{Plan, home, delivered}
use Rattle.tt_twin.proofs.Worth.Merging.{IsPlanFor}
use Rattle.tt_twin.proofs.Worth.Beginning.{fused, publication, Stands, stands-fused, stands-read, makes}

-- what the clock showed at the newest of the looks, which come newest first, or at the fusion
abbrev pub last_of : ℕ → List Look → ℕ
last_of c [] = c
last_of c (look ∷ looks) = look.clock

-- looks, the newest first, that workers of whom there are so many may have taken since clock reading c, up to clock reading d
abbrev pub AreLooks : ℕ → ℕ → ℕ → List Look → Type 0
AreLooks workers c d [] = Unit {0}
AreLooks workers c d (look ∷ looks) = (look.worker < workers) × (last_of c looks ≤ look.clock) × (look.clock ≤ d) × AreLooks workers c d looks

-- each of them gives the reading of this publication
abbrev pub AreReadings : ℕ → FusedSpan → List Look → Type 0
AreReadings drift publication looks = AllByRecursion (λ (look : Look). look.reading ≡ reading_at drift publication look.clock) looks

-- one more look of which the machine is told the same
sights-push : (before others : List Look) (look other : Look) → sights_of before ≡ sights_of others → look.worker ≡ other.worker → look.clock ≡ other.clock → look.reading ≡ other.reading → sights_of (before ++ look ∷ []) ≡ sights_of (others ++ other ∷ [])
sights-push before others look other same worker clock reading =
    let told : Look → Sight = λ l. record { worker = l.worker; clock = l.clock; reading = l.reading } in
    let sight : ℕ → ℕ → Interval → Sight = λ w c r. record { worker = w; clock = c; reading = r } in
    let is : told look ≡ told other = ap (λ w. sight w look.clock look.reading) worker ∙ ap (λ c. sight other.worker c look.reading) clock ∙ ap (λ r. sight other.worker other.clock r) reading in
    map-append told before (look ∷ []) ∙ ap (λ (l : List Sight). l ++ told look ∷ []) same ∙ ap (λ (s : Sight). sights_of others ++ s ∷ []) is ∙ sym (map-append told others (other ∷ []))

module _ (configs : List Configuration) (p : Plan) (side : Side) (spans : List Interval) (knew : ℕ → Bool) (fusion : Interval) (h : IsPlanFor configs p side spans knew fusion) (few : (config_at configs p.machine).drift ≤ max_drift) where
  abbrev config : Configuration
  config = config_at configs p.machine

  -- the looks are taken again after the fusion
  abbrev pub reads : List Look → List Event
  reads [] = fused p
  reads (look ∷ looks) = look_again side config.drift p.machine p.clock p.time look ∷ reads looks

  uncut : (e : ℕ) → e ≤ max_time → cut e ≡ e
  uncut e le = omega arith

  -- the run goes on with each of them
  pub stands-reads : (d : ℕ) → d ≤ max_time → end_after side config.drift p.time (d - p.clock) ≤ max_time → (looks : List Look) → AreLooks config.workers p.clock d looks →
      Stands configs p side spans fusion (reads looks) (last_of p.clock looks)
  stands-reads d in_time not_cut [] all = stands-fused configs p side spans knew fusion h few
  stands-reads d in_time not_cut (look ∷ looks) all =
      let before = stands-reads d in_time not_cut looks all.3 in
      let up : look.clock ≤ d = all.2 in
      let rises : end_after side config.drift p.time (look.clock - p.clock) ≤ end_after side config.drift p.time (d - p.clock) = end_after-rises side config.drift p.time (look.clock - p.clock) (d - p.clock) few (omega arith) in
      let within : end_after side config.drift p.time (look.clock - p.clock) ≤ max_time = omega arith in
      let same : cut (end_after side config.drift p.time (look.clock - p.clock)) ≡ end_after side config.drift p.time (look.clock - p.clock) = uncut _ within in
      stands-read configs p side spans knew fusion h few (reads looks) (last_of p.clock looks) look.worker look.clock (cut (end_after side config.drift p.time (look.clock - p.clock))) before all.0 all.1 (omega arith) same (omega arith)

  -- the look that the twin has in place of another
  abbrev pub look_in_twin : List Look → Look → Look
  look_in_twin looks look = record {
    worker = look.worker;
    clock = look.clock;
    reading = reading_at config.drift (publication_at (publications_of config (reads looks) (life_at (reads looks) p.machine)) 1) look.clock;
    at = cut (end_after side config.drift p.time (look.clock - p.clock));
  }

  pub looks-next : (looks : List Look) (look : Look) → looks_of configs (reads (look ∷ looks)) p.machine 1 ≡ looks_of configs (reads looks) p.machine 1 ++ look_in_twin looks look ∷ []
  looks-next looks look =
      let own : eqb p.machine p.machine ≡ true = eq-eqb _ _ refl in
      ap (λ (b : Bool). looks_of configs (reads looks) p.machine 1 ++ cond (b && eqb 1 1) (look_in_twin looks look ∷ []) []) own

  looks-none : looks_of configs (fused p) p.machine 1 ≡ []
  looks-none = ap (λ (o : Option Making). cond (is_some o) [] (looks_of configs (delivered p p.count) p.machine 1 ++ [])) (makes configs p side spans knew fusion h few)

  -- the machine sees the same at each of them
  pub same-sights : (d : ℕ) → d ≤ max_time → end_after side config.drift p.time (d - p.clock) ≤ max_time → (looks : List Look) → AreLooks config.workers p.clock d looks → AreReadings config.drift (publication p fusion) looks →
      sights_of (looks_of configs (reads looks) p.machine 1) ≡ sights_of (reverse looks)
  same-sights d in_time not_cut [] all readings = ap (λ (l : List Look). sights_of l) looks-none
  same-sights d in_time not_cut (look ∷ looks) all readings =
      let s = stands-reads d in_time not_cut looks all.3 in
      let here : life_at (reads looks) p.machine ≡ home p = ap (λ (n : ℕ). record { machine = p.machine; number = n }) (s.life p.machine) in
      let made : publications_of config (reads looks) (life_at (reads looks) p.machine) ≡ publication p fusion ∷ [] = ap (λ (life : Life). publications_of config (reads looks) life) here ∙ s.publications in
      let reading : reading_at config.drift (publication_at (publications_of config (reads looks) (life_at (reads looks) p.machine)) 1) look.clock ≡ look.reading =
      ap (λ (l : List FusedSpan). reading_at config.drift (publication_at l 1) look.clock) made ∙ sym readings.0 in
      ap (λ (l : List Look). sights_of l) (looks-next looks look)
      ∙ sights-push (looks_of configs (reads looks) p.machine 1) (reverse looks) (look_in_twin looks look) look (same-sights d in_time not_cut looks all.3 readings.1) refl refl reading
      ∙ ap (λ (l : List Look). sights_of l) (sym (reverse-append (look ∷ []) looks))
