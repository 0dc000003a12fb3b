-- The plan of a twin can be carried out.
use Rattle.std.proofs.Common.{◌≡◌, ℕ, ◌-◌, ◌<◌, ◌≤◌, Bool, true, false, ltb, List, length, map, get_or, Option, Some, None, inl, inr, refl, ap, subst, sym, ◌∙◌, arith}
use Rattle.std.specs.Prelude.{is_some}
use Rattle.std.specs.List.{range_with_len, count_by}
use Rattle.std.proofs.lemmas.Bool.{lt-ltb, ltb-false}
use Rattle.std.proofs.lemmas.List.{get_or-map}
use Rattle.tt_span.specs.Time.{max_time}
use Rattle.tt_span.specs.Interval.{Interval, IsInterval, whole}
use Rattle.tt_fuse.specs.Depth.{slow_fusion}
use Rattle.tt_source.specs.Statement.{Statement}
use Rattle.tt_source.specs.Table.{stated_at}
use Rattle.tt_daemon.specs.Config.{Configuration, IsConfiguration}
use Rattle.tt_world.specs.Config.{config_at}
use Rattle.tt_world.specs.Life.{Life, life_at}
use Rattle.tt_world.specs.State.{knows}
use Rattle.tt_world.specs.Sources.{statement_of}
use Rattle.tt_world.specs.Publications.{spans_of, known_of}
use Rattle.tt_world.proofs.Simulation.Ranges.{get_or-made}
use Rattle.tt_world.proofs.Histories.Fusing.{length-spans_of, spans_valid}
use Rattle.tt_twin.specs.declared.twins.Side.{Side}
use Rattle.tt_twin.specs.Twin.{end_of}
use Rattle.tt_twin.specs.Looks.{Making, known_sources}
use Rattle.tt_twin.proofs.Worth.Choosing.{chosen-passes, chosen-below, length-chosen, chosen-once, StandsIn, chosen-there}
use Rattle.tt_twin.proofs.Worth.Planning.{Plan}
use Rattle.tt_twin.proofs.Worth.Merging.{IsSource, IsPlanFor, counted-same}
use Rattle.tt_twin.proofs.Worth.Finding.{IsMaking, made_so, made_at}

-- the spans of the known sources
abbrev pub chosen_spans : List Configuration → ℕ → Making → List Interval
chosen_spans configs m making = map (λ i. get_or making.showing.spans i whole) (known_sources configs making.before m)

-- the plan of a twin
abbrev pub plan_of : Side → List Configuration → ℕ → Making → Plan
plan_of side configs m making = record {
  machine = m;
  clock = making.showing.clock;
  time = end_of side making.showing.span;
  count = length (known_sources configs making.before m);
  source = λ k. get_or (known_sources configs making.before m) k 0;
  span = λ k. get_or (chosen_spans configs m making) k whole;
}

true_not_false : {P : Type 0} (b : Bool) → b ≡ true → b ≡ false → P
true_not_false b h k = absurd cc

module _ (configs : List Configuration) (m : ℕ) (making : Making) (k : ℕ) (facts : IsMaking configs m k making) (there : m < length configs) where
  abbrev config : Configuration
  config = config_at configs m

  abbrev life : Life
  life = life_at making.before m

  abbrev knew : ℕ → Bool
  knew i = knows configs making.before m i

  abbrev known : List ℕ
  known = known_sources configs making.before m

  -- a source that is there is known where it has made a statement
  knew-is : (i : ℕ) → i < config.sources → knew i ≡ is_some (statement_of making.before life i)
  knew-is i below =
      let a : ltb m (length configs) ≡ true = lt-ltb m (length configs) there in
      let b : ltb i config.sources ≡ true = lt-ltb i config.sources below in
      rw (a, b) refl

  span-is : (i : ℕ) → i < config.sources → get_or making.showing.spans i whole ≡ stated_at config.drift (statement_of making.before life i) making.showing.clock
  span-is i below =
      ap (λ (l : List Interval). get_or l i whole) facts.spans
      ∙ get_or-made (λ j. stated_at config.drift (statement_of making.before life j) making.showing.clock) config.sources i whole below

  unstated : (o : Option Statement) → is_some o ≡ false → stated_at config.drift o making.showing.clock ≡ whole
  unstated None h = refl
  unstated (Some s) h = absurd cc

  span-valid : (i : ℕ) → i < config.sources → IsInterval (get_or making.showing.spans i whole)
  span-valid i below =
      subst (λ (l : List Interval). IsInterval (get_or l i whole)) (sym facts.spans)
      (spans_valid configs making.before config life making.showing.clock facts.good i whole (omega (arith, length-spans_of config making.before life making.showing.clock)))

  chosen-span : (j : ℕ) → j < length known → get_or (chosen_spans configs m making) j whole ≡ get_or making.showing.spans (get_or known j 0) whole
  chosen-span j below = get_or-map (λ i. get_or making.showing.spans i whole) known j 0 whole below

  source_by : (side : Side) (i : ℕ) → i < config.sources → (b : Bool) → knew i ≡ b → IsSource (plan_of side configs m making) making.showing.spans knew i
  source_by side i below true e =
      let s : StandsIn i known = chosen-there knew config.sources i below e in
      inl (s.0, s.1, s.2, ap (λ (n : ℕ). get_or making.showing.spans n whole) (sym s.2) ∙ sym (chosen-span s.0 s.1), e)
  source_by side i below false e =
      inr (
        λ j within is. true_not_false (knew i) (ap knew (sym is) ∙ chosen-passes knew config.sources j within) e,
        span-is i below ∙ unstated (statement_of making.before life i) (sym (knew-is i below) ∙ e),
        e,
      )

  pub planned : (side : Side) → length configs ≤ 8 → IsConfiguration config → end_of side making.showing.span ≤ max_time → IsPlanFor configs (plan_of side configs m making) side making.showing.spans knew making.showing.span
  planned side few configuration in_time =
      let made = made_at (ltb (known_of config making.before life) (config.sources - config.faulty)) making.showing.clock (slow_fusion (spans_of config making.before life making.showing.clock) config.faulty) (made_so making) facts.fusion in
      let count = length-chosen knew config.sources in
      let sixteen = configuration.not_too_many in
      let enough : config.sources - config.faulty ≤ known_of config making.before life = ltb-false (known_of config making.before life) (config.sources - config.faulty) made.2 in
      let same : count_by knew (range_with_len 0 config.sources) ≡ known_of config making.before life = counted-same knew (λ i. is_some (statement_of making.before life i)) config.sources knew-is in
      record {
        plan = record {
          machine_there = there;
          machine_in = omega arith;
          count_in = omega arith;
          clock_in = facts.clock_in;
          time_in = in_time;
          sources_in = sixteen;
          source_there = λ j below. chosen-below knew config.sources j below;
          apart = λ i j below_i below_j e. chosen-once knew config.sources i j below_i below_j e;
          span_is = λ j below. subst IsInterval (sym (chosen-span j below)) (span-valid (get_or known j 0) (chosen-below knew config.sources j below));
        };
        time = refl;
        each = λ i below. source_by side i below (knew i) refl;
        spans_each = ap (λ (l : List Interval). length l) facts.spans ∙ length-spans_of config making.before life making.showing.clock;
        enough = omega arith;
        fused = ap (λ (l : List Interval). slow_fusion l config.faulty) facts.spans ∙ made.0;
      }
