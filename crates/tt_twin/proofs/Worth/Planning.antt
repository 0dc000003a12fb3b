-- The beginning of a twin: which sources are polled, and what they answer. The newest event comes first.
use Rattle.std.proofs.Common.{◌≡◌, ℕ, zero, suc, ◌+◌, ◌<◌, ◌≤◌, true, List, [], ◌∷◌, ◌++◌, length, map, reverse, refl, ap, subst, ◌∙◌, arith}
use Rattle.std.specs.List.{range_with_len}
use Rattle.std.proofs.lemmas.List.{reverse-append}
use Rattle.std.proofs.lemmas.List.FromFn.{map-range_with_len_more}
use Rattle.tt_span.specs.Time.{max_time}
use Rattle.tt_span.specs.Interval.{Interval, IsInterval}
use Rattle.tt_daemon.specs.Config.{Configuration}
use Rattle.tt_world.specs.Config.{config_at}
use Rattle.tt_world.specs.Life.{Life, life_at, is_of}
use Rattle.tt_world.specs.declared.events.Event.{Event}
use Rattle.tt_world.specs.declared.events.Action.TheVariants as does
use Rattle.tt_world.proofs.Simulation.Lives.{is_of-own}
use Rattle.tt_twin.proofs.Worth.Quiet.{IsStill, AreStill, still-life}

-- the machine, its clock, the true time, how many sources are polled, which they are, and their spans
pub record Plan : Type 0 where
  pub machine : ℕ
  pub clock : ℕ
  pub time : ℕ
  pub count : ℕ
  pub source : ℕ → ℕ
  pub span : ℕ → Interval

-- the plan can be carried out
pub record IsPlan (configs : List Configuration) (p : Plan) : Type 0 where
  pub machine_there : p.machine < length configs
  pub machine_in : p.machine ≤ 7
  pub count_in : p.count ≤ 16
  pub clock_in : p.clock ≤ max_time
  pub time_in : p.time ≤ max_time
  pub sources_in : (config_at configs p.machine).sources ≤ 16
  pub source_there : (k : ℕ) → k < p.count → p.source k < (config_at configs p.machine).sources
  pub apart : (j k : ℕ) → j < p.count → k < p.count → p.source j ≡ p.source k → j ≡ k
  pub span_is : (k : ℕ) → k < p.count → IsInterval (p.span k)

-- the life that the machine is in
abbrev pub home : Plan → Life
home p = record { machine = p.machine; number = 1 }

-- the first j events that a function gives, after a past
abbrev pub built : (ℕ → Event) → List Event → ℕ → List Event
built f past zero = past
built f past (suc j) = f j ∷ built f past j

-- the three kinds of events
abbrev pub poll : Plan → ℕ → Event
poll p k = record { at = p.time; action = does.Send p.machine (p.source k) p.clock }

abbrev pub reply : Plan → ℕ → Event
reply p k = record { at = p.time; action = does.Answer k (p.span k) }

abbrev pub delivery : Plan → ℕ → Event
delivery p k = record { at = p.time; action = does.Deliver (p.count + k) p.clock }

-- the run after j of each
abbrev pub polled : Plan → ℕ → List Event
polled p j = built (poll p) [] j

abbrev pub answered : Plan → ℕ → List Event
answered p j = built (reply p) (polled p p.count) j

abbrev pub delivered : Plan → ℕ → List Event
delivered p j = built (delivery p) (answered p p.count) j

-- one more number
pub more_made : {X : Type 0} (f : ℕ → X) (j : ℕ) → map f (range_with_len 0 (suc j)) ≡ map f (range_with_len 0 j) ++ f j ∷ []
more_made f j =
    let same : suc j ≡ j + 1 = omega arith in
    ap (λ n. map f (range_with_len 0 n)) same ∙ map-range_with_len_more f 0 j j (omega arith)

-- the oldest first, turned round
pub reverse-made : (f : ℕ → Event) (past : List Event) (j : ℕ) → reverse (map f (range_with_len 0 j)) ++ past ≡ built f past j
reverse-made f past zero = refl
reverse-made f past (suc j) =
    ap (λ l. reverse l ++ past) (more_made f j) ∙ ap (λ l. l ++ past) (reverse-append (map f (range_with_len 0 j)) (f j ∷ [])) ∙ ap (λ l. f j ∷ l) (reverse-made f past j)

still-built : (c x : ℕ) (f : ℕ → Event) (past : List Event) → ((k : ℕ) → IsStill c x (f k)) → AreStill c x past → (j : ℕ) → AreStill c x (built f past j)
still-built c x f past each h zero = h
still-built c x f past each h (suc j) = (each j, still-built c x f past each h j)

pub still-polled : (p : Plan) (j : ℕ) → AreStill p.clock p.time (polled p j)
still-polled p j = still-built p.clock p.time (poll p) [] (λ k. (refl, refl)) tt j

pub still-answered : (p : Plan) (j : ℕ) → AreStill p.clock p.time (answered p j)
still-answered p j = still-built p.clock p.time (reply p) (polled p p.count) (λ k. (refl, tt)) (still-polled p p.count) j

pub still-delivered : (p : Plan) (j : ℕ) → AreStill p.clock p.time (delivered p j)
still-delivered p j = still-built p.clock p.time (delivery p) (answered p p.count) (λ k. (refl, refl)) (still-answered p p.count) j

-- the machine is in its first life
pub at_home : (p : Plan) (past : List Event) → AreStill p.clock p.time past → life_at past p.machine ≡ home p
at_home p past h = ap (λ (n : ℕ). record { machine = p.machine; number = n }) (still-life p.clock p.time past p.machine h)

pub is_home : (p : Plan) (past : List Event) → AreStill p.clock p.time past → is_of past (home p) p.machine ≡ true
is_home p past h = subst (λ (k : Life). is_of past k p.machine ≡ true) (at_home p past h) (is_of-own past p.machine)
