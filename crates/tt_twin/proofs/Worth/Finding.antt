-- The publication that a reading is from: how it was made, and the looks at it.
use Rattle.std.proofs.Common.{◌≡◌, ℕ, ◌+◌, ◌-◌, ◌<◌, ◌≤◌, Bool, true, false, cond, eqb, ltb, ◌&&◌, not, List, [], ◌∷◌, ◌++◌, length, reverse, get_or, Option, Some, None, Result, Ok, Err, inl, inr, refl, ap, subst, sym, ◌∙◌, arith, eq-eqb, ne_eqb, append-nil}
use Rattle.std.specs.Prelude.{is_some}
use Rattle.std.specs.Option.{option_or}
use Rattle.std.proofs.lemmas.Bool.{cases_eq, and_parts, not-false, ltb-true, eqb-true}
use Rattle.std.proofs.lemmas.List.{reverse-append, length_push}
use Rattle.std.proofs.Math.ListN.{get_or-append}
use Rattle.std.proofs.Math.Seq.{get_or-append_seam}
use Rattle.tt_span.specs.Time.{max_time}
use Rattle.tt_span.specs.Interval.{Interval}
use Rattle.tt_daemon.specs.Config.{Configuration}
use Rattle.tt_world.specs.Config.{config_at}
use Rattle.tt_world.specs.Life.{Life, life_of, life_at, is_of}
use Rattle.tt_world.specs.declared.events.Event.{Event}
use Rattle.tt_world.specs.declared.events.Action.{Action}
use Rattle.tt_world.specs.declared.events.Action.TheVariants as does
use Rattle.tt_publish.specs.declared.readings.FusedSpan.{FusedSpan}
use Rattle.tt_world.specs.Past.{clock_of}
use Rattle.tt_world.specs.Publications.{Showing, known_of, publication_from, showing_of, shown_by, spans_of, fusion_of, one_if_made, fuses_at, published_at, publications_of, no_publication, publication_at, reading_at}
use Rattle.tt_world.proofs.Simulation.Lives.{is_of-own, is_of-other}
use Rattle.tt_world.proofs.Simulation.Unborn.{publications_of-unborn}
use Rattle.tt_world.proofs.Histories.Judging.{IsGood, AreGood}
use Rattle.tt_world.proofs.Histories.Clocks.{clock_on, reading_of}
use Rattle.tt_fuse.specs.Depth.{slow_fusion}
use Rattle.tt_twin.specs.Looks.{Making, making_in, making_by, making_of, Look, look_by, looks_of}
use Rattle.tt_twin.proofs.Worth.Looking.{last_of, AreLooks, AreReadings}

-- the publication that was made so
abbrev pub made_so : Making → FusedSpan
made_so making = record { clock = making.showing.clock; span = making.showing.span }

-- how machine m made its publication k
pub record IsMaking (configs : List Configuration) (m k : ℕ) (making : Making) : Type 0 where
  pub good : AreGood configs making.before
  pub life : making.showing.life ≡ life_of making.before m
  pub spans : making.showing.spans ≡ spans_of (config_at configs m) making.before (life_at making.before m) making.showing.clock
  pub faulty : making.showing.faulty ≡ (config_at configs m).faulty
  pub fusion : fusion_of (config_at configs m) making.before (life_at making.before m) making.showing.clock ≡ Ok (made_so making)
  pub clock_in : making.showing.clock ≤ max_time

-- publication k of the life that machine m is in was made so, and the looks at it
pub record IsFound (configs : List Configuration) (past : List Event) (m k : ℕ) : Type 0 where
  pub making : Making
  pub is : making_of configs past m k ≡ Some making
  pub facts : IsMaking configs m k making
  pub publication : publication_at (publications_of (config_at configs m) past (life_at past m)) k ≡ made_so making
  pub clock : making.showing.clock ≤ clock_of past (life_at past m)
  pub looks : AreLooks (config_at configs m).workers making.showing.clock (clock_of past (life_at past m)) (reverse (looks_of configs past m k))
  pub readings : AreReadings (config_at configs m).drift (made_so making) (reverse (looks_of configs past m k))

weaker : (w c d e : ℕ) → d ≤ e → (looks : List Look) → AreLooks w c d looks → AreLooks w c e looks
weaker w c d e le [] h = tt
weaker w c d e le (look ∷ looks) h = let up : look.clock ≤ d = h.2 in (h.0, h.1, omega arith, weaker w c d e le looks h.3)

-- the clock at the last of the looks
pub last-in : (w c d : ℕ) → c ≤ d → (looks : List Look) → AreLooks w c d looks → last_of c looks ≤ d
last-in w c d le [] h = le
last-in w c d le (look ∷ looks) h = h.2

-- an event that makes no publication with this number, and may look at it
goes_on : (configs : List Configuration) (past : List Event) (event : Event) (m k : ℕ) (more : List Look) → IsGood configs past event → making_by configs past m k event.action ≡ None → look_by configs past m k event.at event.action ≡ more →
    life_at (event ∷ past) m ≡ life_at past m → publication_at (publications_of (config_at configs m) (event ∷ past) (life_at past m)) k ≡ publication_at (publications_of (config_at configs m) past (life_at past m)) k →
    ((c : ℕ) → c ≤ clock_of past (life_at past m) → AreLooks (config_at configs m).workers c (clock_of past (life_at past m)) (reverse (looks_of configs past m k)) → AreLooks (config_at configs m).workers c (clock_of (event ∷ past) (life_at past m)) (reverse (looks_of configs past m k ++ more))) →
    ((p : FusedSpan) → publication_at (publications_of (config_at configs m) past (life_at past m)) k ≡ p → AreReadings (config_at configs m).drift p (reverse (looks_of configs past m k)) → AreReadings (config_at configs m).drift p (reverse (looks_of configs past m k ++ more))) →
    IsFound configs past m k → IsFound configs (event ∷ past) m k
goes_on configs past event m k more good none look same published after read found =
    let on : clock_of past (life_at past m) ≤ clock_of (event ∷ past) (life_at past m) = clock_on configs past event (life_at past m) good in
    let was : found.making.showing.clock ≤ clock_of past (life_at past m) = found.clock in
    let looks : looks_of configs (event ∷ past) m k ≡ looks_of configs past m k ++ more =
    ap (λ (o : Option Making). cond (is_some o) [] (looks_of configs past m k ++ look_by configs past m k event.at event.action)) none ∙ ap (λ (l : List Look). looks_of configs past m k ++ l) look in
    record {
      making = found.making;
      is = ap (λ (o : Option Making). option_or o (making_of configs past m k)) none ∙ found.is;
      facts = found.facts;
      publication = ap (λ (life : Life). publication_at (publications_of (config_at configs m) (event ∷ past) life) k) same ∙ published ∙ found.publication;
      clock = subst (λ (life : Life). found.making.showing.clock ≤ clock_of (event ∷ past) life) (sym same) (omega arith);
      looks = subst (λ (life : Life). AreLooks (config_at configs m).workers found.making.showing.clock (clock_of (event ∷ past) life) (reverse (looks_of configs (event ∷ past) m k))) (sym same)
          (subst (λ (l : List Look). AreLooks (config_at configs m).workers found.making.showing.clock (clock_of (event ∷ past) (life_at past m)) (reverse l)) (sym looks) (after found.making.showing.clock was found.looks));
      readings = subst (λ (l : List Look). AreReadings (config_at configs m).drift (made_so found.making) (reverse l)) (sym looks) (read (made_so found.making) found.publication found.readings);
    }

-- the same where it does not look
stays : (configs : List Configuration) (past : List Event) (event : Event) (m k : ℕ) → IsGood configs past event → making_by configs past m k event.action ≡ None → look_by configs past m k event.at event.action ≡ [] →
    life_at (event ∷ past) m ≡ life_at past m → publication_at (publications_of (config_at configs m) (event ∷ past) (life_at past m)) k ≡ publication_at (publications_of (config_at configs m) past (life_at past m)) k →
    IsFound configs past m k → IsFound configs (event ∷ past) m k
stays configs past event m k good none look same published found =
    let on : clock_of past (life_at past m) ≤ clock_of (event ∷ past) (life_at past m) = clock_on configs past event (life_at past m) good in
    let nil : looks_of configs past m k ++ [] ≡ looks_of configs past m k = append-nil (looks_of configs past m k) in
    goes_on configs past event m k [] good none look same published
    (λ c le h. subst (λ (l : List Look). AreLooks (config_at configs m).workers c (clock_of (event ∷ past) (life_at past m)) (reverse l)) (sym nil) (weaker (config_at configs m).workers c (clock_of past (life_at past m)) (clock_of (event ∷ past) (life_at past m)) on (reverse (looks_of configs past m k)) h))
    (λ p is h. subst (λ (l : List Look). AreReadings (config_at configs m).drift p (reverse l)) (sym nil) h)
    found

-- ---- a look

abbrev look_there : List Configuration → List Event → ℕ → ℕ → ℕ → ℕ → ℕ → Look
look_there configs past m k at w clock = record {
  worker = w;
  clock = clock;
  reading = reading_at (config_at configs m).drift (publication_at (publications_of (config_at configs m) past (life_at past m)) k) clock;
  at = at;
}

worker_in : (configs : List Configuration) (m w : ℕ) → not (ltb m (length configs) && ltb w (config_at configs m).workers) ≡ false → w < (config_at configs m).workers
worker_in configs m w h = ltb-true w (config_at configs m).workers (and_parts (ltb m (length configs)) (ltb w (config_at configs m).workers) (not-false _ h)).1

looks_here : (configs : List Configuration) (past : List Event) (at m w clock k : ℕ) → IsGood configs past (record { at = at; action = does.Read m w clock k }) → IsFound configs past m k → IsFound configs (record { at = at; action = does.Read m w clock k } ∷ past) m k
looks_here configs past at m w clock k good found =
    let event : Event = record { at = at; action = does.Read m w clock k } in
    let reading = reading_of configs past event (life_at past m) clock good refl in
    let look = look_there configs past m k at w clock in
    let mm : eqb m m ≡ true = eq-eqb m m refl in
    let kk : eqb k k ≡ true = eq-eqb k k refl in
    let taken : look_by configs past m k at (does.Read m w clock k) ≡ look ∷ [] =
    ap (λ (b : Bool). cond (b && eqb k k) (look ∷ []) []) mm ∙ ap (λ (b : Bool). cond b (look ∷ []) []) kk in
    let turned : reverse (looks_of configs past m k ++ look ∷ []) ≡ look ∷ reverse (looks_of configs past m k) = reverse-append (looks_of configs past m k) (look ∷ []) in
    let shows : clock_of (event ∷ past) (life_at past m) ≡ clock = reading.shows in
    let later : clock_of past (life_at past m) ≤ clock = reading.not_before in
    let on : clock_of past (life_at past m) ≤ clock_of (event ∷ past) (life_at past m) = clock_on configs past event (life_at past m) good in
    goes_on configs past event m k (look ∷ []) good refl taken refl (ap (λ (l : List FusedSpan). publication_at l k) (append-nil (publications_of (config_at configs m) past (life_at past m))))
    (λ c le h. subst (λ (l : List Look). AreLooks (config_at configs m).workers c (clock_of (event ∷ past) (life_at past m)) l) (sym turned) (
      worker_in configs m w good.named,
      (let last = last-in (config_at configs m).workers c (clock_of past (life_at past m)) le (reverse (looks_of configs past m k)) h in omega arith),
      omega arith,
      weaker (config_at configs m).workers c (clock_of past (life_at past m)) (clock_of (event ∷ past) (life_at past m)) on (reverse (looks_of configs past m k)) h,
    ))
    (λ p is h. subst (λ (l : List Look). AreReadings (config_at configs m).drift p l) (sym turned) (ap (λ (q : FusedSpan). reading_at (config_at configs m).drift q clock) is, h))
    found

looks_elsewhere : (configs : List Configuration) (past : List Event) (at machine w clock number m k : ℕ) → (eqb machine m && eqb number k) ≡ false → IsGood configs past (record { at = at; action = does.Read machine w clock number }) → IsFound configs past m k →
    IsFound configs (record { at = at; action = does.Read machine w clock number } ∷ past) m k
looks_elsewhere configs past at machine w clock number m k other good found =
    let look : Look = record { worker = w; clock = clock; reading = reading_at (config_at configs m).drift (publication_at (publications_of (config_at configs m) past (life_at past m)) k) clock; at = at } in
    stays configs past (record { at = at; action = does.Read machine w clock number }) m k good refl (ap (λ (b : Bool). cond b (look ∷ []) []) other) refl
    (ap (λ (l : List FusedSpan). publication_at l k) (append-nil (publications_of (config_at configs m) past (life_at past m)))) found

-- ---- a fusion

abbrev as_made : FusedSpan → Result FusedSpan ℕ
as_made p = Ok p

same_made : (a b : FusedSpan) → as_made a ≡ as_made b → a ≡ b
same_made a b e = cc

-- what a fusion that was made is
pub made_at : (few : Bool) (clock : ℕ) (fused : Option Interval) (p : FusedSpan) → cond few (Err 701) (publication_from clock fused) ≡ Ok p → (fused ≡ Some p.span) × (p.clock ≡ clock) × (few ≡ false)
made_at true clock fused p h = absurd cc
made_at false clock None p h = absurd cc
made_at false clock (Some span) p h =
    let same : record { clock = clock; span = span } ≡ p = same_made (record { clock = clock; span = span }) p h in
    (ap (λ (p : FusedSpan). Some p.span) same, sym (ap (λ (p : FusedSpan). p.clock) same), refl)

making_other : (past : List Event) (m k : ℕ) (life : Life) (number : ℕ) (spans : List Interval) (faulty : ℕ) (r : Result FusedSpan ℕ) → (eqb life.machine m && eqb number k) ≡ false → making_in past m k (showing_of life number spans faulty r) ≡ None
making_other past m k life number spans faulty (Err e) other = refl
making_other past m k life number spans faulty (Ok p) other =
    let s : Showing = record { machine = life.machine; life = life.number; number = number; clock = p.clock; span = p.span; spans = spans; faulty = faulty } in
    ap (λ (b : Bool). cond b (Some (record { showing = s; before = past })) None) other

no_and : (b : Bool) → (b && false) ≡ false
no_and true = refl
no_and false = refl

-- on another machine
fuses_elsewhere : (configs : List Configuration) (past : List Event) (at machine clock m k : ℕ) → (machine ≡ m → ⊥) → IsGood configs past (record { at = at; action = does.Fuse machine clock }) → IsFound configs past m k → IsFound configs (record { at = at; action = does.Fuse machine clock } ∷ past) m k
fuses_elsewhere configs past at machine clock m k other good found =
    let differ : eqb machine m ≡ false = ne_eqb machine m other in
    let number = length (publications_of (config_at configs machine) past (life_at past machine)) + 1 in
    let both : (eqb machine m && eqb number k) ≡ false = rw differ refl in
    let not_here : is_of past (life_at past m) machine ≡ false = is_of-other past machine m (λ e. other (sym e)) in
    let published : publication_at (publications_of (config_at configs m) past (life_at past m) ++ published_at (config_at configs m) past (life_at past m) (cond (is_of past (life_at past m) machine) (Some clock) None)) k ≡ publication_at (publications_of (config_at configs m) past (life_at past m)) k =
    ap (λ (b : Bool). publication_at (publications_of (config_at configs m) past (life_at past m) ++ published_at (config_at configs m) past (life_at past m) (cond b (Some clock) None)) k) not_here
    ∙ ap (λ (l : List FusedSpan). publication_at l k) (append-nil (publications_of (config_at configs m) past (life_at past m))) in
    stays configs past (record { at = at; action = does.Fuse machine clock }) m k good
    (making_other past m k (life_at past machine) number (spans_of (config_at configs machine) past (life_at past machine) clock) (config_at configs machine).faulty (fusion_of (config_at configs machine) past (life_at past machine) clock) both)
    refl refl published found

publication_kept : (pubs : List FusedSpan) (p : FusedSpan) (k : ℕ) → 0 < k → k ≤ length pubs → publication_at (pubs ++ p ∷ []) k ≡ publication_at pubs k
publication_kept pubs p k some few = get_or-append pubs (p ∷ []) no_publication (k - 1) (omega arith)

publication_last : (pubs : List FusedSpan) (p : FusedSpan) (k : ℕ) → length pubs + 1 ≡ k → publication_at (pubs ++ p ∷ []) k ≡ p
publication_last pubs p k e =
    let place : k - 1 ≡ length pubs = omega arith in
    ap (λ (j : ℕ). get_or (pubs ++ p ∷ []) j no_publication) place ∙ get_or-append_seam pubs p [] no_publication

-- what this machine has published after it
publications_fused : (configs : List Configuration) (past : List Event) (at m clock : ℕ) (r : Result FusedSpan ℕ) → fusion_of (config_at configs m) past (life_at past m) clock ≡ r →
    publications_of (config_at configs m) (record { at = at; action = does.Fuse m clock } ∷ past) (life_at past m) ≡ publications_of (config_at configs m) past (life_at past m) ++ one_if_made r
publications_fused configs past at m clock r is =
    ap (λ (b : Bool). publications_of (config_at configs m) past (life_at past m) ++ published_at (config_at configs m) past (life_at past m) (cond b (Some clock) None)) (is_of-own past m)
    ∙ ap (λ (r : Result FusedSpan ℕ). publications_of (config_at configs m) past (life_at past m) ++ one_if_made r) is

-- on this machine, with this number
fuses_here : (configs : List Configuration) (past : List Event) (at m clock k : ℕ) (p : FusedSpan) → IsGood configs past (record { at = at; action = does.Fuse m clock }) → AreGood configs past → fusion_of (config_at configs m) past (life_at past m) clock ≡ Ok p →
    length (publications_of (config_at configs m) past (life_at past m)) + 1 ≡ k → IsFound configs (record { at = at; action = does.Fuse m clock } ∷ past) m k
fuses_here configs past at m clock k p good all is last =
    let event : Event = record { at = at; action = does.Fuse m clock } in
    let config = config_at configs m in
    let made = made_at (ltb (known_of config past (life_at past m)) (config.sources - config.faulty)) clock (slow_fusion (spans_of config past (life_at past m) clock) config.faulty) p is in
    let same : p.clock ≡ clock = made.1 in
    let reading = reading_of configs past event (life_at past m) clock good refl in
    let shows : clock_of (event ∷ past) (life_at past m) ≡ clock = reading.shows in
    let in_time : clock ≤ max_time = reading.in_time in
    let number = length (publications_of config past (life_at past m)) + 1 in
    let showing : Showing = record { machine = m; life = life_of past m; number = number; clock = p.clock; span = p.span; spans = spans_of config past (life_at past m) clock; faulty = config.faulty } in
    let making : Making = record { showing = showing; before = past } in
    let mm : eqb m m ≡ true = eq-eqb m m refl in
    let kk : eqb number k ≡ true = eq-eqb number k last in
    let makes : making_by configs past m k (does.Fuse m clock) ≡ Some making =
    ap (λ (r : Result FusedSpan ℕ). making_in past m k (showing_of (life_at past m) number (spans_of config past (life_at past m) clock) config.faulty r)) is
    ∙ ap (λ (b : Bool). cond (b && eqb number k) (Some making) None) mm ∙ ap (λ (b : Bool). cond b (Some making) None) kk in
    let looks : looks_of configs (event ∷ past) m k ≡ [] = ap (λ (o : Option Making). cond (is_some o) [] (looks_of configs past m k ++ [])) makes in
    record {
      making = making;
      is = ap (λ (o : Option Making). option_or o (making_of configs past m k)) makes;
      facts = record {
        good = all;
        life = refl;
        spans = ap (λ (c : ℕ). spans_of config past (life_at past m) c) (sym same);
        faulty = refl;
        fusion = ap (λ (c : ℕ). fusion_of config past (life_at past m) c) same ∙ is;
        clock_in = omega arith;
      };
      publication = ap (λ (l : List FusedSpan). publication_at l k) (publications_fused configs past at m clock (Ok p) is) ∙ publication_last (publications_of config past (life_at past m)) p k last;
      clock = omega arith;
      looks = subst (λ (l : List Look). AreLooks config.workers p.clock (clock_of (event ∷ past) (life_at past m)) (reverse l)) (sym looks) tt;
      readings = subst (λ (l : List Look). AreReadings config.drift (made_so making) (reverse l)) (sym looks) tt;
    }

-- on this machine, with another number, or refused
fuses_on : (configs : List Configuration) (past : List Event) (at m clock k : ℕ) (r : Result FusedSpan ℕ) → IsGood configs past (record { at = at; action = does.Fuse m clock }) → AreGood configs past → 0 < k → fusion_of (config_at configs m) past (life_at past m) clock ≡ r →
    k ≤ length (publications_of (config_at configs m) past (life_at past m) ++ one_if_made r) → (k ≤ length (publications_of (config_at configs m) past (life_at past m)) → IsFound configs past m k) → IsFound configs (record { at = at; action = does.Fuse m clock } ∷ past) m k
fuses_on configs past at m clock k (Err e) good all some is few before =
    let nil = append-nil (publications_of (config_at configs m) past (life_at past m)) in
    let within : k ≤ length (publications_of (config_at configs m) past (life_at past m)) = subst (λ (l : List FusedSpan). k ≤ length l) nil few in
    stays configs past (record { at = at; action = does.Fuse m clock }) m k good
    (ap (λ (r : Result FusedSpan ℕ). making_in past m k (showing_of (life_at past m) (length (publications_of (config_at configs m) past (life_at past m)) + 1) (spans_of (config_at configs m) past (life_at past m) clock) (config_at configs m).faulty r)) is)
    refl refl (ap (λ (l : List FusedSpan). publication_at l k) (publications_fused configs past at m clock (Err e) is ∙ nil)) (before within)
fuses_on configs past at m clock k (Ok p) good all some is few before =
    let pubs = publications_of (config_at configs m) past (life_at past m) in
    let long = length_push pubs p in
    elim (cases_eq (length pubs + 1) k) [
      | inl last ↦ fuses_here configs past at m clock k p good all is last
      | inr other ↦
          let within : k ≤ length pubs = omega arith in
          let differ : eqb (length pubs + 1) k ≡ false = ne_eqb _ _ other in
          let both : (eqb m m && eqb (length pubs + 1) k) ≡ false = rw differ (no_and (eqb m m)) in
          stays configs past (record { at = at; action = does.Fuse m clock }) m k good
          (making_other past m k (life_at past m) (length pubs + 1) (spans_of (config_at configs m) past (life_at past m) clock) (config_at configs m).faulty (fusion_of (config_at configs m) past (life_at past m) clock) both)
          refl refl (ap (λ (l : List FusedSpan). publication_at l k) (publications_fused configs past at m clock (Ok p) is) ∙ publication_kept pubs p k some within) (before within)
    ]

-- ---- any event

-- one that does none of that
still : (configs : List Configuration) (past : List Event) (at m k : ℕ) (action : Action) → IsGood configs past (record { at = at; action = action }) → shown_by configs past action ≡ [] → look_by configs past m k at action ≡ [] →
    life_at (record { at = at; action = action } ∷ past) m ≡ life_at past m → fuses_at past (life_at past m) action ≡ None →
    k ≤ length (publications_of (config_at configs m) (record { at = at; action = action } ∷ past) (life_at (record { at = at; action = action } ∷ past) m)) →
    (k ≤ length (publications_of (config_at configs m) past (life_at past m)) → IsFound configs past m k) → IsFound configs (record { at = at; action = action } ∷ past) m k
still configs past at m k action good shows look same fuses few before =
    let event : Event = record { at = at; action = action } in
    let none : publications_of (config_at configs m) (event ∷ past) (life_at past m) ≡ publications_of (config_at configs m) past (life_at past m) =
    ap (λ (o : Option ℕ). publications_of (config_at configs m) past (life_at past m) ++ published_at (config_at configs m) past (life_at past m) o) fuses ∙ append-nil (publications_of (config_at configs m) past (life_at past m)) in
    let within : k ≤ length (publications_of (config_at configs m) past (life_at past m)) =
    subst (λ (l : List FusedSpan). k ≤ length l) none (subst (λ (life : Life). k ≤ length (publications_of (config_at configs m) (event ∷ past) life)) same few) in
    stays configs past event m k good (ap (λ (l : List Showing). making_in past m k l) shows) look same (ap (λ (l : List FusedSpan). publication_at l k) none) (before within)

by_action : (configs : List Configuration) (past : List Event) (at m k : ℕ) (action : Action) → IsGood configs past (record { at = at; action = action }) → AreGood configs past → 0 < k →
    k ≤ length (publications_of (config_at configs m) (record { at = at; action = action } ∷ past) (life_at (record { at = at; action = action } ∷ past) m)) →
    (k ≤ length (publications_of (config_at configs m) past (life_at past m)) → IsFound configs past m k) → IsFound configs (record { at = at; action = action } ∷ past) m k
by_action configs past at m k (does.Fuse machine clock) good all some few before =
    elim (cases_eq machine m) [
      | inl same ↦
          let P : ℕ → Type 0 = λ j. IsFound configs (record { at = at; action = does.Fuse j clock } ∷ past) m k in
          let Q : ℕ → Type 0 = λ j. IsGood configs past (record { at = at; action = does.Fuse j clock }) in
          let R : ℕ → Type 0 = λ j. k ≤ length (publications_of (config_at configs m) (record { at = at; action = does.Fuse j clock } ∷ past) (life_at past m)) in
          subst P (sym same) (fuses_on configs past at m clock k (fusion_of (config_at configs m) past (life_at past m) clock) (subst Q same good) all some refl
          (subst (λ (l : List FusedSpan). k ≤ length l) (publications_fused configs past at m clock (fusion_of (config_at configs m) past (life_at past m) clock) refl) (subst R same few)) before)
      | inr other ↦
          let not_here : is_of past (life_at past m) machine ≡ false = is_of-other past machine m (λ e. other (sym e)) in
          let same : publications_of (config_at configs m) past (life_at past m) ++ published_at (config_at configs m) past (life_at past m) (cond (is_of past (life_at past m) machine) (Some clock) None) ≡ publications_of (config_at configs m) past (life_at past m) =
          ap (λ (b : Bool). publications_of (config_at configs m) past (life_at past m) ++ published_at (config_at configs m) past (life_at past m) (cond b (Some clock) None)) not_here ∙ append-nil (publications_of (config_at configs m) past (life_at past m)) in
          fuses_elsewhere configs past at machine clock m k other good (before (subst (λ (l : List FusedSpan). k ≤ length l) same few))
    ]
by_action configs past at m k (does.Read machine w clock number) good all some few before =
    let within : k ≤ length (publications_of (config_at configs m) past (life_at past m)) = subst (λ (l : List FusedSpan). k ≤ length l) (append-nil (publications_of (config_at configs m) past (life_at past m))) few in
    one (eqb machine m && eqb number k) refl within
  where
    one : (b : Bool) → (eqb machine m && eqb number k) ≡ b → k ≤ length (publications_of (config_at configs m) past (life_at past m)) → IsFound configs (record { at = at; action = does.Read machine w clock number } ∷ past) m k
    one true e within =
        let parts = and_parts (eqb machine m) (eqb number k) e in
        let P : ℕ → ℕ → Type 0 = λ i j. IsGood configs past (record { at = at; action = does.Read i w clock j }) → IsFound configs (record { at = at; action = does.Read i w clock j } ∷ past) m k in
        subst (λ (i : ℕ). P i number) (sym (eqb-true machine m parts.0)) (subst (λ (j : ℕ). P m j) (sym (eqb-true number k parts.1)) (λ good. looks_here configs past at m w clock k good (before within))) good
    one false e within = looks_elsewhere configs past at machine w clock number m k e good (before within)
by_action configs past at m k (does.Restart machine clock) good all some few before =
    elim (cases_eq machine m) [
      | inl same ↦
          let own : eqb machine m ≡ true = eq-eqb machine m same in
          let next : life_at (record { at = at; action = does.Restart machine clock } ∷ past) m ≡ record { machine = m; number = life_of past m + 1 } = ap (λ (b : Bool). record { machine = m; number = cond b (life_of past m + 1) (life_of past m) }) own in
          let empty : publications_of (config_at configs m) past (record { machine = m; number = life_of past m + 1 }) ≡ [] = publications_of-unborn (config_at configs m) past (record { machine = m; number = life_of past m + 1 }) (omega arith) in
          let none : publications_of (config_at configs m) past (life_at (record { at = at; action = does.Restart machine clock } ∷ past) m) ++ [] ≡ [] = append-nil _ ∙ ap (λ (life : Life). publications_of (config_at configs m) past life) next ∙ empty in
          let zero_long : k ≤ 0 = subst (λ (l : List FusedSpan). k ≤ length l) none few in
          absurd (omega arith)
      | inr other ↦
          let differ : eqb machine m ≡ false = ne_eqb machine m other in
          let same : life_at (record { at = at; action = does.Restart machine clock } ∷ past) m ≡ life_at past m = ap (λ (b : Bool). record { machine = m; number = cond b (life_of past m + 1) (life_of past m) }) differ in
          let nil = append-nil (publications_of (config_at configs m) past (life_at past m)) in
          let within : k ≤ length (publications_of (config_at configs m) past (life_at past m)) =
          subst (λ (l : List FusedSpan). k ≤ length l) nil (subst (λ (life : Life). k ≤ length (publications_of (config_at configs m) past life ++ [])) same few) in
          stays configs past (record { at = at; action = does.Restart machine clock }) m k good refl refl same (ap (λ (l : List FusedSpan). publication_at l k) nil) (before within)
    ]
by_action configs past at m k (does.Send machine source clock) good all some few before = still configs past at m k (does.Send machine source clock) good refl refl refl refl few before
by_action configs past at m k (does.Answer packet span) good all some few before = still configs past at m k (does.Answer packet span) good refl refl refl refl few before
by_action configs past at m k (does.Forge machine source payload) good all some few before = still configs past at m k (does.Forge machine source payload) good refl refl refl refl few before
by_action configs past at m k (does.Deliver packet clock) good all some few before = still configs past at m k (does.Deliver packet clock) good refl refl refl refl few before
by_action configs past at m k (does.Arrive machine w id floor) good all some few before = still configs past at m k (does.Arrive machine w id floor) good refl refl refl refl few before
by_action configs past at m k (does.Stamp machine w) good all some few before = still configs past at m k (does.Stamp machine w) good refl refl refl refl few before
by_action configs past at m k (does.Queue machine w) good all some few before = still configs past at m k (does.Queue machine w) good refl refl refl refl few before
by_action configs past at m k (does.Lease machine lease) good all some few before = still configs past at m k (does.Lease machine lease) good refl refl refl refl few before
by_action configs past at m k (does.Release machine w) good all some few before = still configs past at m k (does.Release machine w) good refl refl refl refl few before

-- the publication of a readable number was made, and how
pub found : (configs : List Configuration) (past : List Event) (m k : ℕ) → AreGood configs past → 0 < k → k ≤ length (publications_of (config_at configs m) past (life_at past m)) → IsFound configs past m k
found configs [] m k good some few = absurd (omega arith)
found configs (event ∷ past) m k good some few = by_action configs past event.at m k event.action good.0 good.1 some few (found configs past m k good.1 some)
