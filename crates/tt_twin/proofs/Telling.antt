-- What a observation tells of the twin.
use Rattle.std.proofs.Common.{◌≡◌, ℕ, zero, suc, ◌+◌, ◌-◌, ◌<◌, ◌≤◌, ◌||◌, ◌&&◌, ◌≢◌, ne_eqb, le-ltb, inl, inr, Global, length-take-le, Bool, true, false, cond, ltb, eqb, List, [], ◌∷◌, ◌++◌, length, map, take, reverse, get_or, slice_get, Option, Some, None, Result, Ok, Err, refl, ap, subst, sym, ◌∙◌, arith}
use Rattle.std.specs.Prelude.{is_some, nat_lt, ◌⊎◌, Vec, IfOk, IfErr}
use Rattle.std.specs.List.{All}
use Rattle.std.proofs.lemmas.List.{take_more, reverse-append, map-append}
use Rattle.std.proofs.lemmas.List.Elements.{All-nil, All-cons, All-append}
use Rattle.std.proofs.lemmas.Option.{slice_get_within, get_or_from_slice_get, same_Some, slice_get-get_or}
use Rattle.tt_span.specs.Time.{max_time}
use Rattle.tt_span.specs.Interval.{Interval}
use Rattle.tt_daemon.specs.Config.{Configuration}
use Rattle.tt_world.specs.declared.faults.WorldFault.{WorldFault}
use Rattle.tt_world.specs.declared.events.Event.{Event}
use Rattle.tt_world.specs.declared.events.Action.{Action}
use Rattle.tt_world.specs.declared.events.Action.TheVariants as does
use Rattle.tt_world.specs.declared.events.Reply.{Reply}
use Rattle.tt_world.specs.declared.events.Reply.TheVariants as replies
use Rattle.tt_world.specs.Config.{config_at}
use Rattle.tt_world.specs.Life.{life_at}
use Rattle.tt_world.specs.Bad.{first_bad, accepted}
use Rattle.tt_world.specs.Reply.{reply_unless_bad, reply_to, reply_of, replies_from}
use Rattle.tt_world.specs.Publications.{Showing, shown_of, shown_by, publications_of, publication_at, reading_at}
use Rattle.tt_world.proofs.Simulation.Ranges.{map-map}
use Rattle.tt_world.proofs.Headline.Running.{reply_at}
use Rattle.tt_world.proofs.Headline.Promises.{machine_of_worker}
use Rattle.tt_world.proofs.Histories.Judging.{IsGood, AreGood, good_of, good_accepted}
use Rattle.tt_world.proofs.Histories.Clocks.{reading_of}
use Rattle.tt_twin.specs.declared.twins.Side.{Side}
use Rattle.tt_twin.specs.declared.twins.Asked.{Asked}
use Rattle.tt_twin.specs.declared.twin_faults.TwinFault.{TwinFault}
use Rattle.tt_twin.specs.declared.twin_faults.TwinFault.TheVariants.{Machines, NotAReading, Cut, Memory}
use Rattle.tt_twin.specs.declared.observations.Glance.{Glance}
use Rattle.tt_twin.specs.declared.observations.Made.{Made}
use Rattle.tt_twin.specs.declared.observations.Observation.{Observation}
use Rattle.tt_twin.specs.Looks.{Making, making_in, making_of, Look, look_by, looks_of, known_sources}
use Rattle.tt_twin.specs.Twin.{end_of, end_after, fused_again, look_again, twin_from, twin_unless_cut, twin_of_action, twin_of_reply, twin_of_event, twin_of}
use Rattle.tt_twin.specs.Observation.{glance_of, glance_again, IsMade, IsObservation, asked_in, is_read, twin_of_asked}

-- ---- the twin of a observation

-- how the publication was made, by what the observation kept of it
record IsTold (configs : List Configuration) (m : ℕ) (making : Option Making) (made : Made) (showing : Showing) : Type 0 where
  before : List Event
  is : making ≡ Some (record { showing = showing; before = before })
  known : made.known.items ≡ known_sources configs before m

told_by : (configs : List Configuration) (m : ℕ) (shown : List Showing) (making : Option Making) (made : Made) (showing : Showing) → IsMade configs m shown making (Some made) → slice_get shown made.place ≡ Some showing → IsTold configs m making made showing
told_by configs m shown None made showing h there = absurd h
told_by configs m shown (Some making) made showing h there =
    let same : making.showing ≡ showing = same_Some making.showing showing (sym h.0 ∙ there) in
    record { before = making.before; is = ap (λ (s : Showing). Some (record { showing = s; before = making.before })) same; known = h.1 }

told : (configs : List Configuration) (past : List Event) (m k : ℕ) (observation : Observation) (shown : List Showing) (made : Made) (showing : Showing) → shown ≡ shown_of configs past → IsObservation configs past m k observation → observation.made ≡ Some made → slice_get shown made.place ≡ Some showing →
    IsTold configs m (making_of configs past m k) made showing
told configs past m k observation shown made showing is w kept there =
    told_by configs m (shown_of configs past) (making_of configs past m k) made showing (subst (λ (o : Option Made). IsMade configs m (shown_of configs past) (making_of configs past m k) o) kept w.made)
    (ap (λ (l : List Showing). slice_get l made.place) (sym is) ∙ there)

pub told_cut : (side : Side) (configs : List Configuration) (past : List Event) (asked : Asked) (config : Configuration) (shown : List Showing) (observation : Observation) (made : Made) (showing : Showing) → config_at configs asked.machine ≡ config → shown ≡ shown_of configs past →
    IsObservation configs past asked.machine asked.publication observation → observation.made ≡ Some made → slice_get shown made.place ≡ Some showing →
    nat_lt max_time (end_after side config.drift (end_of side showing.span) (asked.clock - showing.clock)) ≡ true → twin_of_asked side configs past asked ≡ Err Cut
told_cut side configs past asked config shown observation made showing same is w kept there is_cut =
    let t = told configs past asked.machine asked.publication observation shown made showing is w kept there in
    let cuts : nat_lt max_time (end_after side (config_at configs asked.machine).drift (end_of side showing.span) (asked.clock - showing.clock)) ≡ true =
    ap (λ (c : Configuration). nat_lt max_time (end_after side c.drift (end_of side showing.span) (asked.clock - showing.clock))) same ∙ is_cut in
    ap (λ (o : Option Making). twin_unless_cut side configs asked.machine asked.clock o (looks_of configs past asked.machine asked.publication)) t.is
    ∙ ap (λ (b : Bool). cond b (Err Cut) (Ok (twin_from side configs asked.machine (record { showing = showing; before = t.before }) (looks_of configs past asked.machine asked.publication)))) cuts

pub told_value : (side : Side) (configs : List Configuration) (past : List Event) (asked : Asked) (config : Configuration) (shown : List Showing) (observation : Observation) (made : Made) (showing : Showing) (front twin : List Event) → config_at configs asked.machine ≡ config → shown ≡ shown_of configs past →
    IsObservation configs past asked.machine asked.publication observation → observation.made ≡ Some made → slice_get shown made.place ≡ Some showing →
    nat_lt max_time (end_after side config.drift (end_of side showing.span) (asked.clock - showing.clock)) ≡ false →
    front ≡ fused_again (end_of side showing.span) asked.machine showing.clock made.known.items showing.spans →
    twin ≡ front ++ map (glance_again side config.drift asked.machine showing.clock (end_of side showing.span)) observation.glances.items → twin_of_asked side configs past asked ≡ Ok twin
told_value side configs past asked config shown observation made showing front twin same is w kept there not_cut fused looked =
    let t = told configs past asked.machine asked.publication observation shown made showing is w kept there in
    let x = end_of side showing.span in
    let looks = looks_of configs past asked.machine asked.publication in
    let goes_on : nat_lt max_time (end_after side (config_at configs asked.machine).drift (end_of side showing.span) (asked.clock - showing.clock)) ≡ false =
    ap (λ (c : Configuration). nat_lt max_time (end_after side c.drift (end_of side showing.span) (asked.clock - showing.clock))) same ∙ not_cut in
    let again : map (glance_again side config.drift asked.machine showing.clock x) observation.glances.items ≡ map (look_again side (config_at configs asked.machine).drift asked.machine showing.clock x) looks =
    ap (λ (l : List Glance). map (glance_again side config.drift asked.machine showing.clock x) l) w.glances
    ∙ map-map (glance_again side config.drift asked.machine showing.clock x) glance_of looks
    ∙ ap (λ (c : Configuration). map (look_again side c.drift asked.machine showing.clock x) looks) (sym same) in
    let all : twin ≡ twin_from side configs asked.machine (record { showing = showing; before = t.before }) looks =
    looked ∙ ap (λ (l : List Event). l ++ map (glance_again side config.drift asked.machine showing.clock x) observation.glances.items) (fused ∙ ap (λ (l : List ℕ). fused_again x asked.machine showing.clock l showing.spans) t.known)
    ∙ ap (λ (l : List Event). fused_again x asked.machine showing.clock (known_sources configs t.before asked.machine) showing.spans ++ l) again in
    ap (λ (o : Option Making). twin_unless_cut side configs asked.machine asked.clock o looks) t.is
    ∙ ap (λ (b : Bool). cond b (Err Cut) (Ok (twin_from side configs asked.machine (record { showing = showing; before = t.before }) looks))) goes_on
    ∙ ap (λ (l : List Event). Ok l) (sym all)

-- ---- the event

-- the event at a place, and what went before it
pub past_at : (events : List Event) (k : ℕ) (event : Event) → slice_get events k ≡ Some event → reverse (take (k + 1) events) ≡ event ∷ reverse (take k events)
past_at events k event there =
    ap (λ (l : List Event). reverse l) (take_more events k event (slice_get_within events k event there) ∙ ap (λ (e : Event). take k events ++ e ∷ []) (get_or_from_slice_get events k event event there))
    ∙ reverse-append (take k events) (event ∷ [])

-- the reply to it
pub replied_there : (configs : List Configuration) (events : List Event) (k : ℕ) (event : Event) → slice_get events k ≡ Some event → slice_get (replies_from configs [] (take (k + 1) events)) k ≡ Some (reply_of configs (reverse (take k events)) event)
replied_there configs events k event there =
    let within : k < length events = slice_get_within events k event there in
    let long : length (take k events) ≡ k = length-take-le k events (omega arith) in
    let split : take (k + 1) events ≡ take k events ++ event ∷ [] = take_more events k event within ∙ ap (λ (e : Event). take k events ++ e ∷ []) (get_or_from_slice_get events k event event there) in
    subst (λ (n : ℕ). slice_get (replies_from configs [] (take (k + 1) events)) n ≡ Some (reply_of configs (reverse (take k events)) event)) long
    (reply_at configs (take (k + 1) events) (take k events) event [] split)

not_asked : (side : Side) (configs : List Configuration) (past : List Event) (action : Action) → asked_in action ≡ None → twin_of_action side configs past action ≡ Err NotAReading
not_asked side configs past (does.Read machine worker clock publication) h = absurd cc
not_asked side configs past _ h = refl

is_asked : (side : Side) (configs : List Configuration) (past : List Event) (action : Action) (asked : Asked) → asked_in action ≡ Some asked → twin_of_action side configs past action ≡ twin_of_asked side configs past asked
is_asked side configs past (does.Read machine worker clock publication) asked h =
    ap (λ (a : Asked). twin_of_asked side configs past a) (same_Some (record { machine = machine; clock = clock; publication = publication }) asked h)
is_asked side configs past _ asked h = absurd cc

not_read : (side : Side) (configs : List Configuration) (past : List Event) (action : Action) (reply : Reply) → is_read reply ≡ false → twin_of_reply side configs past action reply ≡ Err NotAReading
not_read side configs past action (replies.Read reading) h = absurd cc
not_read side configs past action _ h = refl

was_read : (side : Side) (configs : List Configuration) (past : List Event) (action : Action) (reply : Reply) → is_read reply ≡ true → twin_of_reply side configs past action reply ≡ twin_of_action side configs past action
was_read side configs past action (replies.Read reading) h = refl
was_read side configs past action _ h = absurd cc

either_way : (side : Side) (configs : List Configuration) (past : List Event) (action : Action) (reply : Reply) (b : Bool) → is_read reply ≡ b → asked_in action ≡ None → twin_of_reply side configs past action reply ≡ Err NotAReading
either_way side configs past action reply true e h = was_read side configs past action reply e ∙ not_asked side configs past action h
either_way side configs past action reply false e h = not_read side configs past action reply e

-- what stands for the twin where there are machines, and the event is there
twin_there : (side : Side) (configs : List Configuration) (events : List Event) (k : ℕ) (event : Event) → length configs ≢ 0 → length configs ≤ 8 → slice_get events k ≡ Some event →
    twin_of configs events k side ≡ twin_of_reply side configs (accepted configs (event ∷ reverse (take k events))) event.action (reply_of configs (reverse (take k events)) event)
twin_there side configs events k event some few there =
    let none : eqb (length configs) 0 ≡ false = ne_eqb (length configs) 0 some in
    let more : ltb 8 (length configs) ≡ false = le-ltb 8 (length configs) few in
    ap (λ (b : Bool). cond b (Err Machines) (twin_of_event side configs (reverse (take k events)) (slice_get events k))) (ap (λ (b : Bool). b || ltb 8 (length configs)) none ∙ more)
    ∙ ap (λ (o : Option Event). twin_of_event side configs (reverse (take k events)) o) there

pub twin-not_there : (side : Side) (configs : List Configuration) (events : List Event) (k : ℕ) → length configs ≢ 0 → length configs ≤ 8 → slice_get events k ≡ None → twin_of configs events k side ≡ Err NotAReading
twin-not_there side configs events k some few there =
    let none : eqb (length configs) 0 ≡ false = ne_eqb (length configs) 0 some in
    let more : ltb 8 (length configs) ≡ false = le-ltb 8 (length configs) few in
    ap (λ (b : Bool). cond b (Err Machines) (twin_of_event side configs (reverse (take k events)) (slice_get events k))) (ap (λ (b : Bool). b || ltb 8 (length configs)) none ∙ more)
    ∙ ap (λ (o : Option Event). twin_of_event side configs (reverse (take k events)) o) there

pub twin-not_asked : (side : Side) (configs : List Configuration) (events : List Event) (k : ℕ) (event : Event) → length configs ≢ 0 → length configs ≤ 8 → slice_get events k ≡ Some event → asked_in event.action ≡ None → twin_of configs events k side ≡ Err NotAReading
twin-not_asked side configs events k event some few there h =
    twin_there side configs events k event some few there
    ∙ either_way side configs (accepted configs (event ∷ reverse (take k events))) event.action (reply_of configs (reverse (take k events)) event) (is_read (reply_of configs (reverse (take k events)) event)) refl h

pub twin-not_read : (side : Side) (configs : List Configuration) (events : List Event) (k : ℕ) (event : Event) → length configs ≢ 0 → length configs ≤ 8 → slice_get events k ≡ Some event → is_read (reply_of configs (reverse (take k events)) event) ≡ false → twin_of configs events k side ≡ Err NotAReading
twin-not_read side configs events k event some few there h =
    twin_there side configs events k event some few there ∙ not_read side configs (accepted configs (event ∷ reverse (take k events))) event.action (reply_of configs (reverse (take k events)) event) h

pub twin-read : (side : Side) (configs : List Configuration) (events : List Event) (k : ℕ) (event : Event) (asked : Asked) → length configs ≢ 0 → length configs ≤ 8 → slice_get events k ≡ Some event → is_read (reply_of configs (reverse (take k events)) event) ≡ true →
    asked_in event.action ≡ Some asked → twin_of configs events k side ≡ twin_of_asked side configs (accepted configs (reverse (take (k + 1) events))) asked
twin-read side configs events k event asked some few there read h =
    twin_there side configs events k event some few there
    ∙ was_read side configs (accepted configs (event ∷ reverse (take k events))) event.action (reply_of configs (reverse (take k events)) event) read
    ∙ is_asked side configs (accepted configs (event ∷ reverse (take k events))) event.action asked h
    ∙ ap (λ (past : List Event). twin_of_asked side configs (accepted configs past) asked) (sym (past_at events k event there))

-- ---- a reading was not bad

good_if_read : (reason : Option WorldFault) (reply : Reply) → is_read (reply_unless_bad reason reply) ≡ true → reason ≡ None
good_if_read None reply h = refl
good_if_read (Some fault) reply h = absurd cc

-- what is known of what was asked for
pub record IsAsked (configs : List Configuration) (asked : Asked) : Type 0 where
  pub machine_there : asked.machine < length configs
  pub in_time : asked.clock ≤ max_time

asked_good : (configs : List Configuration) (past : List Event) (at : ℕ) (action : Action) (asked : Asked) → asked_in action ≡ Some asked → IsGood configs past (record { at = at; action = action }) → IsAsked configs asked
asked_good configs past at (does.Read machine worker clock publication) asked h good =
    let facts = reading_of configs past (record { at = at; action = does.Read machine worker clock publication }) (life_at past machine) clock good refl in
    subst (λ (a : Asked). IsAsked configs a) (same_Some (record { machine = machine; clock = clock; publication = publication }) asked h) (record {
      machine_there = machine_of_worker configs machine worker good.named;
      in_time = facts.in_time;
    })
asked_good configs past at _ asked h good = absurd cc

pub asked_there : (configs : List Configuration) (past : List Event) (event : Event) (asked : Asked) → is_read (reply_of configs past event) ≡ true → asked_in event.action ≡ Some asked → IsAsked configs asked
asked_there configs past event asked read h =
    let good = good_of configs (accepted configs past) event (good_if_read (first_bad configs (accepted configs past) event) (reply_to configs (accepted configs past) event.action) read) in
    asked_good configs (accepted configs past) event.at event.action asked h good

-- ---- the clock readings of looks are in time

abbrev look_there : List Configuration → List Event → ℕ → ℕ → ℕ → ℕ → ℕ → Look
look_there configs past m k at worker clock = record {
  worker = worker;
  clock = clock;
  reading = reading_at (config_at configs m).drift (publication_at (publications_of (config_at configs m) past (life_at past m)) k) clock;
  at = at;
}

look_in_time : (configs : List Configuration) (past : List Event) (m k at : ℕ) (action : Action) → IsGood configs past (record { at = at; action = action }) → All (λ (g : Glance). g.clock ≤ max_time) (map glance_of (look_by configs past m k at action))
look_in_time configs past m k at (does.Read machine worker clock publication) good =
    let facts = reading_of configs past (record { at = at; action = does.Read machine worker clock publication }) (life_at past machine) clock good refl in
    one_if (eqb machine m && eqb publication k) (look_there configs past m k at worker clock) facts.in_time
  where
    one_if : (b : Bool) (look : Look) → look.clock ≤ max_time → All (λ (g : Glance). g.clock ≤ max_time) (map glance_of (cond b (look ∷ []) []))
    one_if true look h = All-cons (λ (g : Glance). g.clock ≤ max_time) (glance_of look) [] h (All-nil (λ (g : Glance). g.clock ≤ max_time))
    one_if false look h = All-nil (λ (g : Glance). g.clock ≤ max_time)
look_in_time configs past m k at _ good = All-nil (λ (g : Glance). g.clock ≤ max_time)

looks_in_time : (configs : List Configuration) (past : List Event) (m k : ℕ) → AreGood configs past → All (λ (g : Glance). g.clock ≤ max_time) (map glance_of (looks_of configs past m k))
looks_in_time configs [] m k good = All-nil (λ (g : Glance). g.clock ≤ max_time)
looks_in_time configs (event ∷ past) m k good =
    unless (is_some (making_in past m k (shown_by configs past event.action))) (looks_of configs past m k) (look_by configs past m k event.at event.action)
    (looks_in_time configs past m k good.1) (look_in_time configs past m k event.at event.action good.0)
  where
    unless : (b : Bool) (looks more : List Look) → All (λ (g : Glance). g.clock ≤ max_time) (map glance_of looks) → All (λ (g : Glance). g.clock ≤ max_time) (map glance_of more) → All (λ (g : Glance). g.clock ≤ max_time) (map glance_of (cond b [] (looks ++ more)))
    unless true looks more h j = All-nil (λ (g : Glance). g.clock ≤ max_time)
    unless false looks more h j =
        subst (λ (l : List Glance). All (λ (g : Glance). g.clock ≤ max_time) l) (sym (map-append glance_of looks more)) (All-append (λ (g : Glance). g.clock ≤ max_time) (map glance_of looks) (map glance_of more) h j)

pub glances_in_time : (configs : List Configuration) (past : List Event) (m k : ℕ) (observation : Observation) → IsObservation configs (accepted configs past) m k observation → All (λ (g : Glance). g.clock ≤ max_time) observation.glances.items
glances_in_time configs past m k observation w = subst (λ (l : List Glance). All (λ (g : Glance). g.clock ≤ max_time) l) (sym w.glances) (looks_in_time configs (accepted configs past) m k (good_accepted configs past))

-- ---- equations of the body

pub cut_as : (side : Side) (p ppm x y d e : ℕ) (b : Bool) → b ≡ nat_lt max_time (end_after side p x d) → p ≡ ppm → x ≡ y → d ≡ e → nat_lt max_time (end_after side ppm y e) ≡ b
cut_as side p ppm x y d e b h one two three =
    ap (λ v. nat_lt max_time (end_after side v y e)) (sym one) ∙ ap (λ v. nat_lt max_time (end_after side p v e)) (sym two) ∙ ap (λ v. nat_lt max_time (end_after side p x v)) (sym three) ∙ sym h

pub there_too : {X Y : Type 0} (f : X → Y) (xs : List X) (i : ℕ) (x : X) → slice_get xs i ≡ Some x → slice_get (map f xs) i ≡ Some (f x)
there_too f [] i x h = absurd cc
there_too f (y ∷ xs) zero x h = ap (λ z. Some (f z)) (same_Some y x h)
there_too f (y ∷ xs) (suc i) x h = there_too f xs i x h

pub fused_as : (x y m c d : ℕ) (known kept : List ℕ) (spans others : List Interval) (front : List Event) → front ≡ fused_again x m c known spans → known ≡ kept → x ≡ y → c ≡ d → spans ≡ others → front ≡ fused_again y m d kept others
fused_as x y m c d known kept spans others front h zeroth one two three =
    h ∙ ap (λ v. fused_again x m c v spans) zeroth ∙ ap (λ v. fused_again v m c kept spans) one ∙ ap (λ v. fused_again y m v kept spans) two ∙ ap (λ v. fused_again y m d kept v) three

pub looked_as : (side : Side) (p ppm m c d x y : ℕ) (seen glances : List Glance) (front twin : List Event) → twin ≡ front ++ map (glance_again side p m c x) seen → seen ≡ glances → p ≡ ppm → c ≡ d → x ≡ y → twin ≡ front ++ map (glance_again side ppm m d y) glances
looked_as side p ppm m c d x y seen glances front twin h zeroth one two three =
    h ∙ ap (λ v. front ++ map (glance_again side p m c x) v) zeroth ∙ ap (λ v. front ++ map (glance_again side v m c x) glances) one ∙ ap (λ v. front ++ map (glance_again side ppm m v x) glances) two ∙ ap (λ v. front ++ map (glance_again side ppm m d v) glances) three

pub got : {X : Type 0} (xs : List X) (k : ℕ) (x : X) → k < length xs → x ≡ get_or xs k x → slice_get xs k ≡ Some x
got xs k x inside is = slice_get-get_or xs k x inside ∙ ap (λ y. Some y) (sym is)

pub same_place : {X : Type 0} (xs ys : List X) (k : ℕ) (x y : X) → xs ≡ ys → k < length xs → x ≡ get_or xs k x → slice_get ys k ≡ Some y → x ≡ y
same_place xs ys k x y same inside is there = same_Some x y (sym (got xs k x inside is) ∙ ap (λ l. slice_get l k) same ∙ there)

-- what the twin of a read reports
pub told-ok : (d e : Result (List Event) TwinFault) (r : Result (Vec Event Global) TwinFault) → d ≡ e → IfOk r (λ twin. e ≡ Ok twin.items) → IfOk r (λ twin. d ≡ Ok twin.items)
told-ok d e (Ok twin) same h = same ∙ h
told-ok d e (Err fault) same h = tt

pub told-err : (d e : Result (List Event) TwinFault) (r : Result (Vec Event Global) TwinFault) → d ≡ e → IfErr r (λ fault. (fault ≡ Memory) ⊎ (e ≡ Err fault)) → IfErr r (λ fault. (fault ≡ Memory) ⊎ (d ≡ Err fault))
told-err d e (Ok twin) same h = tt
told-err d e (Err fault) same (inl h) = inl h
told-err d e (Err fault) same (inr h) = inr (same ∙ h)
