-- A observation of a publication goes on as the run does.
use Rattle.std.proofs.Common.{◌≡◌, ℕ, ◌+◌, Bool, true, false, cond, eqb, ◌&&◌, List, [], ◌∷◌, ◌++◌, length, map, slice_get, Option, Some, None, Result, Ok, Err, refl, ap, subst, sym, ◌∙◌, arith, append-nil, ne_eqb, inl, inr, ◌⊎◌}
use Rattle.std.specs.Prelude.{is_some}
use Rattle.std.specs.Option.{option_or}
use Rattle.std.proofs.lemmas.Bool.{eq-eqb}
use Rattle.std.proofs.lemmas.List.{length_push, map-append}
use Rattle.std.proofs.lemmas.Option.{slice_get_within}
use Rattle.tt_daemon.specs.Config.{Configuration}
use Rattle.tt_world.specs.declared.faults.WorldFault.{WorldFault}
use Rattle.tt_world.specs.declared.events.Event.{Event}
use Rattle.tt_world.specs.declared.events.Action.{Action}
use Rattle.tt_world.specs.declared.events.Action.TheVariants as does
use Rattle.tt_publish.specs.declared.readings.FusedSpan.{FusedSpan}
use Rattle.tt_world.specs.Config.{config_at}
use Rattle.tt_world.specs.Life.{life_at}
use Rattle.tt_world.specs.Bad.{first_bad, accepted}
use Rattle.tt_world.specs.Reply.{reply_unless_bad, reply_to, reply_of, fusion_reply}
use Rattle.tt_world.specs.Publications.{Showing, showing_of, shown_by, shown_of, spans_of, fusion_of, publications_of, publication_at, reading_at}
use Rattle.tt_world.proofs.Histories.Places.{get_front, get_back}
use Rattle.tt_twin.specs.declared.observations.Glance.{Glance}
use Rattle.tt_twin.specs.declared.observations.Made.{Made}
use Rattle.tt_twin.specs.declared.observations.Observation.{Observation}
use Rattle.tt_twin.specs.declared.observations.News.{News}
use Rattle.tt_twin.specs.declared.observations.News.TheVariants.{Nothing, Published, Looked}
use Rattle.tt_twin.specs.Looks.{Making, making_in, making_of, Look, look_by, looks_of, known_sources}
use Rattle.tt_twin.specs.Observation.{glance_of, IsMade, IsObservation, news_of_fusion, news_in}

-- ---- what the news tell

-- an action published
record IsPublishing (configs : List Configuration) (past : List Event) (action : Action) (m number : ℕ) : Type 0 where
  clock : ℕ
  publication : FusedSpan
  does_so : action ≡ does.Fuse m clock
  makes : fusion_of (config_at configs m) past (life_at past m) clock ≡ Ok publication
  counts : number ≡ length (publications_of (config_at configs m) past (life_at past m)) + 1

-- an action read
record IsLooking (action : Action) (m number : ℕ) (glance : Glance) : Type 0 where
  does_so : action ≡ does.Read m glance.worker glance.clock number

-- an action neither published nor read
record IsNeither (configs : List Configuration) (past : List Event) (at : ℕ) (action : Action) (m k : ℕ) : Type 0 where
  shows_none : shown_by configs past action ≡ []
  looks_at_none : look_by configs past m k at action ≡ []

published_if : (configs : List Configuration) (past : List Event) (machine clock m number : ℕ) (made : Result FusedSpan ℕ) → fusion_of (config_at configs machine) past (life_at past machine) clock ≡ made →
    news_of_fusion machine (fusion_reply (length (publications_of (config_at configs machine) past (life_at past machine))) made) ≡ Published m number → IsPublishing configs past (does.Fuse machine clock) m number
published_if configs past machine clock m number (Err refusal) is h = absurd cc
published_if configs past machine clock m number (Ok publication) is h =
    let P : ℕ → Type 0 = λ n. IsPublishing configs past (does.Fuse machine clock) n number in
    let same : machine ≡ m = cc in
    subst P same (record { clock = clock; publication = publication; does_so = refl; makes = is; counts = cc })

published : (configs : List Configuration) (past : List Event) (action : Action) (m number : ℕ) (reason : Option WorldFault) → news_in action (reply_unless_bad reason (reply_to configs past action)) ≡ Published m number → (reason ≡ None) × IsPublishing configs past action m number
published configs past (does.Fuse machine clock) m number None h =
    (refl, published_if configs past machine clock m number (fusion_of (config_at configs machine) past (life_at past machine) clock) refl h)
published configs past (does.Fuse machine clock) m number (Some fault) h = absurd cc
published configs past (does.Read machine worker clock k) m number None h = absurd cc
published configs past (does.Read machine worker clock k) m number (Some fault) h = absurd cc
published configs past _ m number reason h = absurd cc

-- the action of a look
abbrev as_read : News → Action
as_read (Looked m k glance) = does.Read m glance.worker glance.clock k
as_read _ = does.Fuse 0 0

looked : (configs : List Configuration) (past : List Event) (action : Action) (m number : ℕ) (glance : Glance) (reason : Option WorldFault) → news_in action (reply_unless_bad reason (reply_to configs past action)) ≡ Looked m number glance → (reason ≡ None) × IsLooking action m number glance
looked configs past (does.Fuse machine clock) m number glance None h = absurd (looked_not machine (length (publications_of (config_at configs machine) past (life_at past machine))) m number glance (fusion_of (config_at configs machine) past (life_at past machine) clock) h)
  where
    looked_not : (machine count m number : ℕ) (glance : Glance) (made : Result FusedSpan ℕ) → news_of_fusion machine (fusion_reply count made) ≡ Looked m number glance → ⊥
    looked_not machine count m number glance (Ok p) h = cc
    looked_not machine count m number glance (Err e) h = cc
looked configs past (does.Fuse machine clock) m number glance (Some fault) h = absurd cc
looked configs past (does.Read machine worker clock k) m number glance None h = (refl, record { does_so = ap as_read h })
looked configs past (does.Read machine worker clock k) m number glance (Some fault) h = absurd cc
looked configs past _ m number glance reason h = absurd cc

none_shown : (configs : List Configuration) (past : List Event) (machine clock : ℕ) (made : Result FusedSpan ℕ) → fusion_of (config_at configs machine) past (life_at past machine) clock ≡ made →
    news_of_fusion machine (fusion_reply (length (publications_of (config_at configs machine) past (life_at past machine))) made) ≡ Nothing → shown_by configs past (does.Fuse machine clock) ≡ []
none_shown configs past machine clock (Ok publication) is h = absurd cc
none_shown configs past machine clock (Err refusal) is h =
    ap (λ made. showing_of (life_at past machine) (length (publications_of (config_at configs machine) past (life_at past machine)) + 1) (spans_of (config_at configs machine) past (life_at past machine) clock) (config_at configs machine).faulty made) is

neither : (configs : List Configuration) (past : List Event) (at : ℕ) (action : Action) (m k : ℕ) → news_in action (reply_to configs past action) ≡ Nothing → IsNeither configs past at action m k
neither configs past at (does.Fuse machine clock) m k h = record {
  shows_none = none_shown configs past machine clock (fusion_of (config_at configs machine) past (life_at past machine) clock) refl h;
  looks_at_none = refl;
}
neither configs past at (does.Read machine worker clock n) m k h = absurd cc
neither configs past at _ m k h = record { shows_none = refl; looks_at_none = refl }

-- ---- what becomes of a observation

-- an event that publishes nothing, and is no look at the publication
unchanged : (configs : List Configuration) (past : List Event) (event : Event) (m k : ℕ) (observation : Observation) → IsNeither configs past event.at event.action m k → IsObservation configs past m k observation → IsObservation configs (event ∷ past) m k observation
unchanged configs past event m k observation n w =
    let none = n.shows_none in
    let no_look = n.looks_at_none in
    record {
      counted = w.counted ∙ ap (λ (l : List Showing). length l) (sym (ap (λ (l : List Showing). shown_of configs past ++ l) none ∙ append-nil (shown_of configs past)));
      made = subst (λ (l : List Showing). IsMade configs m (shown_of configs past ++ l) (option_or (making_in past m k l) (making_of configs past m k)) observation.made) (sym none)
          (subst (λ (l : List Showing). IsMade configs m l (making_of configs past m k) observation.made) (sym (append-nil (shown_of configs past))) w.made);
      glances = w.glances ∙ ap (λ (l : List Look). map glance_of l) (sym (looks_on none no_look));
    }
  where
    looks_on : shown_by configs past event.action ≡ [] → look_by configs past m k event.at event.action ≡ [] → looks_of configs (event ∷ past) m k ≡ looks_of configs past m k
    looks_on none no_look =
        ap (λ (l : List Showing). cond (is_some (making_in past m k l)) [] (looks_of configs past m k ++ look_by configs past m k event.at event.action)) none
        ∙ ap (λ (l : List Look). looks_of configs past m k ++ l) no_look ∙ append-nil (looks_of configs past m k)

-- an event that is bad, or tells nothing
nothing_if : (configs : List Configuration) (past : List Event) (event : Event) (m k : ℕ) (observation : Observation) (reason : Option WorldFault) → news_in event.action (reply_unless_bad reason (reply_to configs past event.action)) ≡ Nothing →
    IsObservation configs past m k observation → IsObservation configs (cond (is_some reason) past (event ∷ past)) m k observation
nothing_if configs past event m k observation None h w = unchanged configs past event m k observation (neither configs past event.at event.action m k h) w
nothing_if configs past event m k observation (Some fault) h w = w

pub nothing_seen : (configs : List Configuration) (past : List Event) (event : Event) (m k : ℕ) (observation : Observation) → news_in event.action (reply_of configs past event) ≡ Nothing →
    IsObservation configs (accepted configs past) m k observation → IsObservation configs (accepted configs (event ∷ past)) m k observation
nothing_seen configs past event m k observation h w = nothing_if configs (accepted configs past) event m k observation (first_bad configs (accepted configs past) event) h w

-- what a publication shows
abbrev showing_made : List Configuration → List Event → ℕ → ℕ → FusedSpan → Showing
showing_made configs past m clock p = record {
  machine = m;
  life = (life_at past m).number;
  number = length (publications_of (config_at configs m) past (life_at past m)) + 1;
  clock = p.clock;
  span = p.span;
  spans = spans_of (config_at configs m) past (life_at past m) clock;
  faulty = (config_at configs m).faulty;
}

shown_made : (configs : List Configuration) (past : List Event) (action : Action) (m number : ℕ) (p : IsPublishing configs past action m number) → shown_by configs past action ≡ showing_made configs past m p.clock p.publication ∷ []
shown_made configs past action m number p =
    ap (λ (a : Action). shown_by configs past a) p.does_so
    ∙ ap (λ made. showing_of (life_at past m) (length (publications_of (config_at configs m) past (life_at past m)) + 1) (spans_of (config_at configs m) past (life_at past m) p.clock) (config_at configs m).faulty made) p.makes

no_look_made : (configs : List Configuration) (past : List Event) (action : Action) (at m k own number : ℕ) (p : IsPublishing configs past action own number) → look_by configs past m k at action ≡ []
no_look_made configs past action at m k own number p = ap (λ (a : Action). look_by configs past m k at a) p.does_so

-- the parts of a observation after an event that shows this
more_shown : (configs : List Configuration) (past : List Event) (event : Event) (m k : ℕ) (observation new : Observation) (showing : Showing) → shown_by configs past event.action ≡ showing ∷ [] → look_by configs past m k event.at event.action ≡ [] →
    (eqb showing.machine m && eqb showing.number k) ≡ false → IsObservation configs past m k observation → new.shown ≡ observation.shown + 1 → new.made ≡ observation.made → new.glances.items ≡ observation.glances.items → IsObservation configs (event ∷ past) m k new
more_shown configs past event m k observation new showing shows no_look other w shown made glances =
    record {
      counted = shown ∙ ap (λ n. n + 1) w.counted ∙ sym (length_push (shown_of configs past) showing) ∙ ap (λ (l : List Showing). length (shown_of configs past ++ l)) (sym shows);
      made = subst (λ (l : List Showing). IsMade configs m (shown_of configs past ++ l) (option_or (making_in past m k l) (making_of configs past m k)) new.made) (sym shows)
          (rw other (subst (λ (o : Option Made). IsMade configs m (shown_of configs past ++ showing ∷ []) (making_of configs past m k) o) (sym made) (still_made configs m showing (shown_of configs past) (making_of configs past m k) observation.made w.made)));
      glances = glances ∙ w.glances ∙ ap (λ (l : List Look). map glance_of l) (sym looks_on);
    }
  where
    looks_on : looks_of configs (event ∷ past) m k ≡ looks_of configs past m k
    looks_on =
        ap (λ (l : List Showing). cond (is_some (making_in past m k l)) [] (looks_of configs past m k ++ look_by configs past m k event.at event.action)) shows
        ∙ ap (λ (b : Bool). cond (is_some {T = Making} (cond b (Some (record { showing = showing; before = past })) None)) [] (looks_of configs past m k ++ look_by configs past m k event.at event.action)) other
        ∙ ap (λ (l : List Look). looks_of configs past m k ++ l) no_look ∙ append-nil (looks_of configs past m k)

    get_still : (showing : Showing) (shown : List Showing) (place : ℕ) (x : Showing) → slice_get shown place ≡ Some x → slice_get (shown ++ showing ∷ []) place ≡ Some x
    get_still showing shown place x h = get_front shown (showing ∷ []) place (slice_get_within shown place x h) ∙ h

    still_made : (configs : List Configuration) (m : ℕ) (showing : Showing) (shown : List Showing) (making : Option Making) (made : Option Made) → IsMade configs m shown making made → IsMade configs m (shown ++ showing ∷ []) making made
    still_made configs m showing shown None None h = tt
    still_made configs m showing shown None (Some made) h = h
    still_made configs m showing shown (Some making) None h = h
    still_made configs m showing shown (Some making) (Some made) h = (get_still showing shown made.place making.showing h.0, h.1)

-- the same after an event that was published with another number, or on another machine
published_if_good : (configs : List Configuration) (past : List Event) (event : Event) (m k own number : ℕ) (observation new : Observation) (reason : Option WorldFault) → (reason ≡ None) × IsPublishing configs past event.action own number →
    (eqb own m && eqb number k) ≡ false → IsObservation configs past m k observation → new.shown ≡ observation.shown + 1 → new.made ≡ observation.made → new.glances.items ≡ observation.glances.items → IsObservation configs (cond (is_some reason) past (event ∷ past)) m k new
published_if_good configs past event m k own number observation new reason h other w shown made glances =
    let p = h.1 in
    let Q : Option WorldFault → Type 0 = λ reason. IsObservation configs (cond (is_some reason) past (event ∷ past)) m k new in
    let R : ℕ → Type 0 = λ n. (eqb own m && eqb n k) ≡ false in
    subst Q (sym h.0)
    (more_shown configs past event m k observation new (showing_made configs past own p.clock p.publication) (shown_made configs past event.action own number p) (no_look_made configs past event.action event.at m k own number p)
    (subst R p.counts other) w shown made glances)

pub published_other : (configs : List Configuration) (past : List Event) (event : Event) (m k own number : ℕ) (observation new : Observation) → news_in event.action (reply_of configs past event) ≡ Published own number →
    (eqb own m && eqb number k) ≡ false → IsObservation configs (accepted configs past) m k observation → new.shown ≡ observation.shown + 1 → new.made ≡ observation.made → new.glances.items ≡ observation.glances.items → IsObservation configs (accepted configs (event ∷ past)) m k new
published_other configs past event m k own number observation new h other w shown made glances =
    published_if_good configs (accepted configs past) event m k own number observation new (first_bad configs (accepted configs past) event)
    (published configs (accepted configs past) event.action own number (first_bad configs (accepted configs past) event) h) other w shown made glances

-- what the machine knows does not change as it fuses
known_still : (configs : List Configuration) (past : List Event) (event : Event) (m own number : ℕ) → IsPublishing configs past event.action own number → known_sources configs (event ∷ past) m ≡ known_sources configs past m
known_still configs past event m own number p =
    ap (λ (a : Action). known_sources configs (record { at = event.at; action = a } ∷ past) m) p.does_so

-- after the publication that is watched
this_made : (configs : List Configuration) (past : List Event) (event : Event) (k own number : ℕ) (observation new : Observation) (made : Made) → (p : IsPublishing configs past event.action own number) → number ≡ k →
    IsObservation configs past own k observation → new.shown ≡ observation.shown + 1 → new.made ≡ Some made → made.place ≡ observation.shown → made.known.items ≡ known_sources configs past own → new.glances.items ≡ [] → IsObservation configs (event ∷ past) own k new
this_made configs past event k own number observation new made p here w shown is place known glances =
    let showing = showing_made configs past own p.clock p.publication in
    let shows = shown_made configs past event.action own number p in
    let own_is : eqb own own ≡ true = eq-eqb own own refl in
    let number_is : eqb showing.number k ≡ true = eq-eqb showing.number k (sym p.counts ∙ here) in
    let makes : making_in past own k (showing ∷ []) ≡ Some (record { showing = showing; before = past }) = rw (own_is, number_is) refl in
    record {
      counted = shown ∙ ap (λ n. n + 1) w.counted ∙ sym (length_push (shown_of configs past) showing) ∙ ap (λ (l : List Showing). length (shown_of configs past ++ l)) (sym shows);
      made = subst (λ (l : List Showing). IsMade configs own (shown_of configs past ++ l) (option_or (making_in past own k l) (making_of configs past own k)) new.made) (sym shows)
          (subst (λ (o : Option Made). IsMade configs own (shown_of configs past ++ showing ∷ []) (option_or (making_in past own k (showing ∷ [])) (making_of configs past own k)) o) (sym is)
          (subst (λ (o : Option Making). IsMade configs own (shown_of configs past ++ showing ∷ []) (option_or o (making_of configs past own k)) (Some made)) (sym makes)
          (get_back (shown_of configs past) (showing ∷ []) made.place 0 (omega (arith, place, w.counted)), known)));
      glances = glances ∙ ap (λ (l : List Look). map glance_of l) (sym (
          ap (λ (l : List Showing). cond (is_some (making_in past own k l)) [] (looks_of configs past own k ++ look_by configs past own k event.at event.action)) shows
          ∙ ap (λ (o : Option Making). cond (is_some o) [] (looks_of configs past own k ++ look_by configs past own k event.at event.action)) makes
          ));
    }

this_if_good : (configs : List Configuration) (past : List Event) (event : Event) (m k own number : ℕ) (observation new : Observation) (made : Made) (reason : Option WorldFault) → (reason ≡ None) × IsPublishing configs past event.action own number →
    own ≡ m → number ≡ k → IsObservation configs past m k observation → new.shown ≡ observation.shown + 1 → new.made ≡ Some made → made.place ≡ observation.shown → made.known.items ≡ known_sources configs (cond (is_some reason) past (event ∷ past)) m →
    new.glances.items ≡ [] → IsObservation configs (cond (is_some reason) past (event ∷ past)) m k new
this_if_good configs past event m k own number observation new made reason h same here w shown is place known glances =
    let p = h.1 in
    let Q : Option WorldFault → Type 0 = λ reason. made.known.items ≡ known_sources configs (cond (is_some reason) past (event ∷ past)) m → IsObservation configs (cond (is_some reason) past (event ∷ past)) m k new in
    let R : ℕ → Type 0 = λ n. IsObservation configs past n k observation → made.known.items ≡ known_sources configs (event ∷ past) n → IsObservation configs (event ∷ past) n k new in
    subst Q (sym h.0)
    (subst R same (λ w known. this_made configs past event k own number observation new made p here w shown is place (known ∙ known_still configs past event own own number p) glances) w) known

pub published_this : (configs : List Configuration) (past : List Event) (event : Event) (m k own number : ℕ) (observation new : Observation) (made : Made) → news_in event.action (reply_of configs past event) ≡ Published own number →
    own ≡ m → number ≡ k → IsObservation configs (accepted configs past) m k observation → new.shown ≡ observation.shown + 1 → new.made ≡ Some made → made.place ≡ observation.shown → made.known.items ≡ known_sources configs (accepted configs (event ∷ past)) m →
    new.glances.items ≡ [] → IsObservation configs (accepted configs (event ∷ past)) m k new
published_this configs past event m k own number observation new made h same here w shown is place known glances =
    this_if_good configs (accepted configs past) event m k own number observation new made (first_bad configs (accepted configs past) event)
    (published configs (accepted configs past) event.action own number (first_bad configs (accepted configs past) event) h) same here w shown is place known glances

-- ---- looks

-- an event that shows nothing, and is this look or none
more_looks : (configs : List Configuration) (past : List Event) (event : Event) (m k : ℕ) (observation new : Observation) (more : List Look) → shown_by configs past event.action ≡ [] → look_by configs past m k event.at event.action ≡ more →
    IsObservation configs past m k observation → new.shown ≡ observation.shown → new.made ≡ observation.made → new.glances.items ≡ observation.glances.items ++ map glance_of more → IsObservation configs (event ∷ past) m k new
more_looks configs past event m k observation new more none look w shown made glances = record {
  counted = shown ∙ w.counted ∙ ap (λ (l : List Showing). length l) (sym (ap (λ (l : List Showing). shown_of configs past ++ l) none ∙ append-nil (shown_of configs past)));
  made = subst (λ (l : List Showing). IsMade configs m (shown_of configs past ++ l) (option_or (making_in past m k l) (making_of configs past m k)) new.made) (sym none)
      (subst (λ (l : List Showing). IsMade configs m l (making_of configs past m k) new.made) (sym (append-nil (shown_of configs past)))
      (subst (λ (o : Option Made). IsMade configs m (shown_of configs past) (making_of configs past m k) o) (sym made) w.made));
  glances = glances ∙ ap (λ (l : List Glance). l ++ map glance_of more) w.glances ∙ sym (map-append glance_of (looks_of configs past m k) more)
      ∙ ap (λ (l : List Look). map glance_of l) (sym (
      ap (λ (l : List Showing). cond (is_some (making_in past m k l)) [] (looks_of configs past m k ++ look_by configs past m k event.at event.action)) none
      ∙ ap (λ (l : List Look). looks_of configs past m k ++ l) look
      ));
}

-- the look that an action takes
abbrev look_at : List Configuration → List Event → ℕ → ℕ → ℕ → Glance → Look
look_at configs past m k at glance = record {
  worker = glance.worker;
  clock = glance.clock;
  reading = reading_at (config_at configs m).drift (publication_at (publications_of (config_at configs m) past (life_at past m)) k) glance.clock;
  at = at;
}

look_made : (configs : List Configuration) (past : List Event) (action : Action) (m k at own number : ℕ) (glance : Glance) (b : Bool) → IsLooking action own number glance → (eqb own m && eqb number k) ≡ b →
    look_by configs past m k at action ≡ cond b (look_at configs past m k at glance ∷ []) []
look_made configs past action m k at own number glance b looks e =
    ap (λ (a : Action). look_by configs past m k at a) looks.does_so
    ∙ ap (λ (b : Bool). cond b (look_at configs past m k at glance ∷ []) []) e

looked_if_good : (configs : List Configuration) (past : List Event) (event : Event) (m k own number : ℕ) (glance : Glance) (b : Bool) (observation new : Observation) (reason : Option WorldFault) → (reason ≡ None) × IsLooking event.action own number glance →
    (eqb own m && eqb number k) ≡ b → IsObservation configs past m k observation → new.shown ≡ observation.shown → new.made ≡ observation.made → new.glances.items ≡ observation.glances.items ++ cond b (glance ∷ []) [] → IsObservation configs (cond (is_some reason) past (event ∷ past)) m k new
looked_if_good configs past event m k own number glance b observation new reason h is w shown made glances =
    let looks = h.1 in
    let Q : Option WorldFault → Type 0 = λ reason. IsObservation configs (cond (is_some reason) past (event ∷ past)) m k new in
    subst Q (sym h.0)
    (more_looks configs past event m k observation new (cond b (look_at configs past m k event.at glance ∷ []) []) (ap (λ (a : Action). shown_by configs past a) looks.does_so)
    (look_made configs past event.action m k event.at own number glance b looks is) w shown made
    (glances ∙ ap (λ (l : List Glance). observation.glances.items ++ l) (mapped b)))
  where
    mapped : (b : Bool) → cond b (glance ∷ []) [] ≡ map glance_of (cond b (look_at configs past m k event.at glance ∷ []) [])
    mapped true = refl
    mapped false = refl

pub looked_on : (configs : List Configuration) (past : List Event) (event : Event) (m k own number : ℕ) (glance : Glance) (b : Bool) (observation new : Observation) → news_in event.action (reply_of configs past event) ≡ Looked own number glance →
    (eqb own m && eqb number k) ≡ b → IsObservation configs (accepted configs past) m k observation → new.shown ≡ observation.shown → new.made ≡ observation.made → new.glances.items ≡ observation.glances.items ++ cond b (glance ∷ []) [] → IsObservation configs (accepted configs (event ∷ past)) m k new
looked_on configs past event m k own number glance b observation new h is w shown made glances =
    looked_if_good configs (accepted configs past) event m k own number glance b observation new (first_bad configs (accepted configs past) event)
    (looked configs (accepted configs past) event.action own number glance (first_bad configs (accepted configs past) event) h) is w shown made glances

-- a observation of a run before anything has happened
pub nothing_yet : (configs : List Configuration) (m k : ℕ) (observation : Observation) → observation.shown ≡ 0 → observation.made ≡ None → observation.glances.items ≡ [] → IsObservation configs [] m k observation
nothing_yet configs m k observation shown made glances = record {
  counted = shown;
  made = subst (λ (o : Option Made). IsMade configs m [] None o) (sym made) tt;
  glances = glances;
}

-- whether two pairs of numbers are the same
pub both_equal : (a b c d : ℕ) → a ≡ b → c ≡ d → (eqb a b && eqb c d) ≡ true
both_equal a b c d e h = let p : eqb a b ≡ true = eq-eqb a b e in let q : eqb c d ≡ true = eq-eqb c d h in rw (p, q) refl

no_and : (p : Bool) → (p && false) ≡ false
no_and true = refl
no_and false = refl

pub one_differs : (a b c d : ℕ) → ((a ≡ b) × (c ≡ d → ⊥)) ⊎ (a ≡ b → ⊥) → (eqb a b && eqb c d) ≡ false
one_differs a b c d (inl h) = let q : eqb c d ≡ false = ne_eqb c d h.1 in rw q (no_and (eqb a b))
one_differs a b c d (inr h) = let q : eqb a b ≡ false = ne_eqb a b h in rw q refl
