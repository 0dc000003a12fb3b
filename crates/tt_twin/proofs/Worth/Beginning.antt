-- A twin from its fusion on.
use Rattle.std.proofs.Common.{◌≡◌, ℕ, ◌+◌, ◌-◌, ◌<◌, ◌≤◌, Bool, true, false, cond, eqb, ltb, ◌&&◌, not, max, List, [], ◌∷◌, ◌++◌, length, Option, Some, None, Result, refl, ap, subst, sym, ◌∙◌, arith, eq-eqb, append-nil}
use Rattle.std.specs.List.{AllByRecursion}
use Rattle.std.specs.Option.{option_or}
use Rattle.std.proofs.lemmas.Bool.{lt-ltb, le-ltb}
use Rattle.tt_span.specs.Time.{max_time}
use Rattle.tt_span.specs.Interval.{Interval}
use Rattle.tt_span.specs.Drift.{max_drift, Moment}
use Rattle.tt_daemon.specs.Config.{Configuration}
use Rattle.tt_world.specs.Config.{config_at}
use Rattle.tt_world.specs.Life.{Life, life_of, life_at, same_life, is_of}
use Rattle.tt_world.specs.declared.events.Event.{Event}
use Rattle.tt_world.specs.declared.events.Action.TheVariants as does
use Rattle.tt_publish.specs.declared.readings.FusedSpan.{FusedSpan}
use Rattle.tt_world.specs.Past.{time_of, clock_of, moment_at, moments_of}
use Rattle.tt_world.specs.Publications.{Showing, showing_of, shown_by, spans_of, fusion_of, one_if_made, published_at, publications_of, seen_of}
use Rattle.tt_world.specs.Assumptions.{false_count, FewLie}
use Rattle.tt_world.specs.Reply.{fusion_reply, reply_of}
use Rattle.tt_twin.specs.Alike.{IsGranted}
use Rattle.tt_twin.proofs.Worth.Granting.{granted-good}
use Rattle.tt_world.specs.Bad.{is_unreadable}
use Rattle.tt_world.proofs.Histories.Places.{all_append, all_weaker}
use Rattle.tt_world.proofs.Histories.Judging.{IsGood, AreGood}
use Rattle.tt_twin.specs.declared.twins.Side.{Side}
use Rattle.tt_twin.specs.Twin.{end_after}
use Rattle.tt_twin.specs.Looks.{Making, making_in, making_by, making_of}
use Rattle.tt_twin.proofs.Worth.Paths.{IsOnPath, end_after-rises, end_after-zero}
use Rattle.tt_twin.proofs.Worth.Quiet.{AreStill, still-life, still-publications, still-seen, still-few, still-clock, still-time, still-moments}
use Rattle.tt_twin.proofs.Worth.Planning.{Plan, home, delivered, still-delivered, at_home, is_home}
use Rattle.tt_twin.proofs.Worth.Polling.{clock_stays}
use Rattle.tt_twin.proofs.Worth.Delivering.{delivered-good}
use Rattle.tt_twin.proofs.Worth.Merging.{IsPlanFor, same_spans, same_fusion, few_false}

-- the fusion of a plan, and what it shows
abbrev pub fusing : Plan → Event
fusing p = record { at = p.time; action = does.Fuse p.machine p.clock }

abbrev pub fused : Plan → List Event
fused p = fusing p ∷ delivered p p.count

abbrev pub publication : Plan → Interval → FusedSpan
publication p fusion = record { clock = p.clock; span = fusion }

abbrev pub showing : List Configuration → Plan → List Interval → Interval → Showing
showing configs p spans fusion = record {
  machine = p.machine;
  life = 1;
  number = 1;
  clock = p.clock;
  span = fusion;
  spans = spans;
  faulty = (config_at configs p.machine).faulty;
}

-- a reading of the only publication
abbrev pub reading : Plan → ℕ → ℕ → ℕ → Event
reading p at w clock = record { at = at; action = does.Read p.machine w clock 1 }

-- what is known of a run that has gone on from the fusion, where the clock showed this last
pub record Stands (configs : List Configuration) (p : Plan) (side : Side) (spans : List Interval) (fusion : Interval) (past : List Event) (last : ℕ) : Type 0 where
  pub good : AreGood configs past
  pub life : (m : ℕ) → life_of past m ≡ 1
  pub publications : publications_of (config_at configs p.machine) past (home p) ≡ publication p fusion ∷ []
  pub seen : (w : ℕ) → seen_of past (home p) w ≤ 1
  pub clock : clock_of past (home p) ≤ last
  pub on : p.clock ≤ last
  pub time : time_of past ≡ end_after side (config_at configs p.machine).drift p.time (last - p.clock)
  pub path : (life : Life) → AllByRecursion (IsOnPath side (config_at configs p.machine).drift p.clock p.time) (moments_of past life)
  pub few : FewLie configs past
  pub making : making_of configs past p.machine 1 ≡ Some (record { showing = showing configs p spans fusion; before = delivered p p.count })

live_at : (p : Plan) (past : List Event) → ((m : ℕ) → life_of past m ≡ 1) → life_at past p.machine ≡ home p
live_at p past h = ap (λ (n : ℕ). record { machine = p.machine; number = n }) (h p.machine)

reach : (b : Bool) (c before last : ℕ) → c ≤ last → before ≤ last → cond b c before ≤ last
reach true c before last h k = h
reach false c before last h k = k

moment_on : (side : Side) (ppm c x : ℕ) (b : Bool) (moment : Moment) → IsOnPath side ppm c x moment → AllByRecursion (IsOnPath side ppm c x) (cond b (moment ∷ []) [])
moment_on side ppm c x true moment h = (h, tt)
moment_on side ppm c x false moment h = tt

machine_named : (configs : List Configuration) (m : ℕ) → m < length configs → not (ltb m (length configs)) ≡ false
machine_named configs m h = let a : ltb m (length configs) ≡ true = lt-ltb m (length configs) h in rw a refl

module _ (configs : List Configuration) (p : Plan) (side : Side) (spans : List Interval) (knew : ℕ → Bool) (fusion : Interval) (h : IsPlanFor configs p side spans knew fusion) (few : (config_at configs p.machine).drift ≤ max_drift) where
  abbrev config : Configuration
  config = config_at configs p.machine

  abbrev front_part : List Event
  front_part = delivered p p.count

  quiet : AreStill p.clock p.time front_part
  quiet = still-delivered p p.count

  fused-good : IsGood configs front_part (fusing p)
  fused-good = record {
    not_before = still-time p.clock p.time front_part quiet;
    in_time = h.plan.time_in;
    named = machine_named configs p.machine h.plan.machine_there;
    packet_there = refl;
    clock_on = clock_stays (clock_of front_part (life_at front_part p.machine)) p.clock (still-clock p.clock p.time front_part (life_at front_part p.machine) quiet) h.plan.clock_in;
    publication_there = refl;
    thing_there = refl;
    life_left = refl;
  }

  none_before : publications_of config front_part (home p) ≡ []
  none_before = still-publications p.clock p.time config front_part (home p) quiet

  fused-publications : publications_of config (fused p) (home p) ≡ publication p fusion ∷ []
  fused-publications =
      ap (λ (l : List FusedSpan). l ++ published_at config front_part (home p) (cond (is_of front_part (home p) p.machine) (Some p.clock) None)) none_before
      ∙ ap (λ (b : Bool). published_at config front_part (home p) (cond b (Some p.clock) None)) (is_home p front_part quiet)
      ∙ ap (λ (r : Result FusedSpan ℕ). one_if_made r) (same_fusion configs p side spans knew fusion h)

  fused-shows : shown_by configs front_part (does.Fuse p.machine p.clock) ≡ showing configs p spans fusion ∷ []
  fused-shows =
      ap (λ (life : Life). showing_of life (length (publications_of config front_part life) + 1) (spans_of config front_part life p.clock) config.faulty (fusion_of config front_part life p.clock)) (at_home p front_part quiet)
      ∙ ap (λ (l : List FusedSpan). showing_of (home p) (length l + 1) (spans_of config front_part (home p) p.clock) config.faulty (fusion_of config front_part (home p) p.clock)) none_before
      ∙ ap (λ (l : List Interval). showing_of (home p) 1 l config.faulty (fusion_of config front_part (home p) p.clock)) (same_spans configs p side spans knew fusion h)
      ∙ ap (λ (r : Result FusedSpan ℕ). showing_of (home p) 1 spans config.faulty r) (same_fusion configs p side spans knew fusion h)

  pub makes : making_by configs front_part p.machine 1 (does.Fuse p.machine p.clock) ≡ Some (record { showing = showing configs p spans fusion; before = front_part })
  makes =
      let own : eqb p.machine p.machine ≡ true = eq-eqb _ _ refl in
      ap (λ (l : List Showing). making_in front_part p.machine 1 l) fused-shows
      ∙ ap (λ (b : Bool). cond (b && eqb 1 1) (Some (record { showing = showing configs p spans fusion; before = front_part })) None) own

  -- right after the fusion
  pub stands-fused : Stands configs p side spans fusion (fused p) p.clock
  stands-fused = record {
    good = (fused-good, delivered-good configs p h.plan p.count (omega arith));
    life = λ m. still-life p.clock p.time front_part m quiet;
    publications = fused-publications;
    seen = λ w. let none = still-seen p.clock p.time front_part (home p) w quiet in omega arith;
    clock = reach (same_life (life_at front_part p.machine) (home p)) p.clock (clock_of front_part (home p)) p.clock (omega arith) (still-clock p.clock p.time front_part (home p) quiet);
    on = omega arith;
    time = sym (end_after-zero side config.drift p.time) ∙ ap (λ (d : ℕ). end_after side config.drift p.time d) (omega arith);
    path = λ life.
        all_append (IsOnPath side config.drift p.clock p.time) (moment_at life p.time (Some (record { life = life_at front_part p.machine; clock = p.clock }))) (moments_of front_part life)
        (moment_on side config.drift p.clock p.time (same_life (life_at front_part p.machine) life) (record { clock = p.clock; time = p.time }) begins)
        (all_weaker (λ (moment : Moment). moment ≡ record { clock = p.clock; time = p.time }) (IsOnPath side config.drift p.clock p.time) (λ moment is. subst (IsOnPath side config.drift p.clock p.time) (sym is) begins) (moments_of front_part life) (still-moments p.clock p.time front_part life quiet));
    few = (subst (λ (life : Life). false_count config front_part life ≤ config.faulty) (sym (at_home p front_part quiet)) (few_false configs p side spans knew fusion h), still-few p.clock p.time configs front_part quiet);
    making = ap (λ (o : Option Making). option_or o (making_of configs front_part p.machine 1)) makes;
  }
    where
      begins : IsOnPath side config.drift p.clock p.time (record { clock = p.clock; time = p.time })
      begins =
          let at : ℕ → ℕ → Moment = λ c t. record { clock = c; time = t } in
          let still : p.clock ≡ p.clock + 0 = omega arith in
          (0, ap (λ c. at c p.time) still ∙ ap (λ t. at (p.clock + 0) t) (sym (end_after-zero side config.drift p.time)))

  -- ---- one more reading

  readable : (count seen : ℕ) → count ≡ 1 → seen ≤ 1 → is_unreadable count seen 1 ≡ false
  readable count seen one few_seen =
      let a : ltb count 1 ≡ false = le-ltb count 1 (omega arith) in
      let b : ltb 1 seen ≡ false = le-ltb 1 seen few_seen in
      rw (a, b) refl

  worker_named : (w : ℕ) → w < config.workers → not (ltb p.machine (length configs) && ltb w config.workers) ≡ false
  worker_named w there =
      let a : ltb p.machine (length configs) ≡ true = lt-ltb p.machine (length configs) h.plan.machine_there in
      let b : ltb w config.workers ≡ true = lt-ltb w config.workers there in
      rw (a, b) refl

  seen_one : (b : Bool) (before : ℕ) → before ≤ 1 → cond b (max 1 before) before ≤ 1
  seen_one true before k = omega arith
  seen_one false before k = k

  pub stands-read : (past : List Event) (last w clock at : ℕ) → Stands configs p side spans fusion past last → w < config.workers → last ≤ clock → clock ≤ max_time →
      at ≡ end_after side config.drift p.time (clock - p.clock) → at ≤ max_time → Stands configs p side spans fusion (reading p at w clock ∷ past) clock
  stands-read past last w clock at s there later in_time is at_in =
      let on : p.clock ≤ last = s.on in
      let here = live_at p past s.life in
      let rises : end_after side config.drift p.time (last - p.clock) ≤ end_after side config.drift p.time (clock - p.clock) = end_after-rises side config.drift p.time (last - p.clock) (clock - p.clock) few (omega arith) in
      let was : time_of past ≡ end_after side config.drift p.time (last - p.clock) = s.time in
      let shows : clock_of past (life_at past p.machine) ≤ last = subst (λ (life : Life). clock_of past life ≤ last) (sym here) s.clock in
      let count : length (publications_of config past (life_at past p.machine)) ≡ 1 = ap (λ (life : Life). length (publications_of config past life)) here ∙ ap (λ (l : List FusedSpan). length l) s.publications in
      let seen : seen_of past (life_at past p.machine) w ≤ 1 = subst (λ (life : Life). seen_of past life w ≤ 1) (sym here) (s.seen w) in
      record {
        good = (
          record {
            not_before = omega arith;
            in_time = at_in;
            named = worker_named w there;
            packet_there = refl;
            clock_on = clock_stays (clock_of past (life_at past p.machine)) clock (omega arith) in_time;
            publication_there = readable _ _ count seen;
            thing_there = refl;
            life_left = refl;
          },
          s.good,
        );
        life = λ m. s.life m;
        publications = append-nil (publications_of config past (home p)) ∙ s.publications;
        seen = λ v. seen_one (is_of past (home p) p.machine && eqb w v) (seen_of past (home p) v) (s.seen v);
        clock = reach (same_life (life_at past p.machine) (home p)) clock (clock_of past (home p)) clock (omega arith) (omega (arith, s.clock));
        on = omega arith;
        time = is;
        path = λ life.
            all_append (IsOnPath side config.drift p.clock p.time) (moment_at life at (Some (record { life = life_at past p.machine; clock = clock }))) (moments_of past life)
            (moment_on side config.drift p.clock p.time (same_life (life_at past p.machine) life) (record { clock = clock; time = at }) (goes_on clock at (omega arith) is))
            (s.path life);
        few = (tt, s.few);
        making = s.making;
      }
    where
      goes_on : (clock at : ℕ) → p.clock ≤ clock → at ≡ end_after side config.drift p.time (clock - p.clock) → IsOnPath side config.drift p.clock p.time (record { clock = clock; time = at })
      goes_on clock at later is =
          let moment : ℕ → ℕ → Moment = λ c t. record { clock = c; time = t } in
          let there : clock ≡ p.clock + (clock - p.clock) = omega arith in
          (clock - p.clock, ap (λ c. moment c at) there ∙ ap (λ t. moment (p.clock + (clock - p.clock)) t) is)

  -- the fusion is published
  pub fused-granted : IsGranted (reply_of configs front_part (fusing p))
  fused-granted =
      granted-good configs front_part (fusing p) (fused-good, delivered-good configs p h.plan p.count (omega arith))
      (subst (λ (life : Life). IsGranted (fusion_reply (length (publications_of config front_part life)) (fusion_of config front_part life p.clock))) (sym (at_home p front_part quiet))
      (subst (λ (r : Result FusedSpan ℕ). IsGranted (fusion_reply (length (publications_of config front_part (home p))) r)) (sym (same_fusion configs p side spans knew fusion h)) tt))
