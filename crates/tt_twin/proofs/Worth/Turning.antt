-- A twin, turned round: the newest event first.
use Rattle.std.proofs.Common.{◌≡◌, ℕ, ◌≤◌, List, [], ◌∷◌, ◌++◌, map, reverse, get_or, refl, ap, sym, ◌∙◌, append-nil}
use Rattle.std.specs.List.{range_with_len}
use Rattle.std.proofs.lemmas.List.{map-append, reverse-append, length-map}
use Rattle.tt_span.specs.Interval.{whole}
use Rattle.tt_span.specs.Drift.{max_drift}
use Rattle.tt_daemon.specs.Config.{Configuration}
use Rattle.tt_world.specs.Config.{config_at}
use Rattle.tt_world.specs.declared.events.Event.{Event}
use Rattle.tt_world.specs.declared.events.Action.TheVariants as does
use Rattle.tt_world.specs.State.{knows}
use Rattle.tt_world.proofs.Simulation.Ranges.{map-map}
use Rattle.tt_twin.specs.declared.twins.Side.{Side}
use Rattle.tt_twin.specs.Twin.{polls, answers, deliveries, fused_again, look_again, twin_from}
use Rattle.tt_twin.specs.Looks.{Making, Look, known_sources}
use Rattle.tt_twin.proofs.Worth.Planning.{Plan, poll, reply, delivery, polled, answered, reverse-made}
use Rattle.tt_twin.proofs.Worth.Merging.{IsPlanFor, made-list}
use Rattle.tt_twin.proofs.Worth.Beginning.{fusing, fused}
use Rattle.tt_twin.proofs.Worth.Looking.{reads}
use Rattle.tt_twin.proofs.Worth.Planned.{chosen_spans, plan_of}

map-reverse : (f : Look → Event) (looks : List Look) → reverse (map f looks) ≡ map f (reverse looks)
map-reverse f [] = refl
map-reverse f (look ∷ looks) =
    reverse-append (f look ∷ []) (map f looks) ∙ ap (λ (l : List Event). l ++ f look ∷ []) (map-reverse f looks)
    ∙ sym (map-append f (reverse looks) (look ∷ [])) ∙ ap (λ (l : List Look). map f l) (sym (reverse-append (look ∷ []) looks))

module _ (configs : List Configuration) (side : Side) (m : ℕ) (making : Making) where
  abbrev p : Plan
  p = plan_of side configs m making

  abbrev known : List ℕ
  known = known_sources configs making.before m

  same_polls : polls p.time m p.clock known ≡ map (poll p) (range_with_len 0 p.count)
  same_polls =
      let send : ℕ → Event = λ i. record { at = p.time; action = does.Send m i p.clock } in
      ap (λ (l : List ℕ). map send l) (sym (made-list known 0 p.count refl)) ∙ map-map send (λ k. get_or known k 0) (range_with_len 0 p.count)

  same_answers : answers p.time (chosen_spans configs m making) ≡ map (reply p) (range_with_len 0 p.count)
  same_answers = ap (λ (n : ℕ). map (reply p) (range_with_len 0 n)) (length-map known (λ i. get_or making.showing.spans i whole))

  turned_polls : reverse (map (poll p) (range_with_len 0 p.count)) ≡ polled p p.count
  turned_polls = sym (append-nil (reverse (map (poll p) (range_with_len 0 p.count)))) ∙ reverse-made (poll p) [] p.count

  turned_three : (a b c : List Event) → a ≡ map (poll p) (range_with_len 0 p.count) → b ≡ map (reply p) (range_with_len 0 p.count) → c ≡ map (delivery p) (range_with_len 0 p.count) → reverse (a ++ b ++ c ++ fusing p ∷ []) ≡ fused p
  turned_three a b c one two three =
      reverse-append (a ++ b ++ c) (fusing p ∷ [])
      ∙ ap (λ (l : List Event). fusing p ∷ l) (
      reverse-append (a ++ b) c
      ∙ ap (λ (l : List Event). reverse c ++ l) (
      reverse-append a b
      ∙ ap (λ (l : List Event). reverse b ++ reverse l) one ∙ ap (λ (l : List Event). reverse b ++ l) turned_polls
      ∙ ap (λ (l : List Event). reverse l ++ polled p p.count) two ∙ reverse-made (reply p) (polled p p.count) p.count
      )
      ∙ ap (λ (l : List Event). reverse l ++ answered p p.count) three ∙ reverse-made (delivery p) (answered p p.count) p.count
      )

  turned_front : reverse (fused_again p.time m p.clock known making.showing.spans) ≡ fused p
  turned_front = turned_three (polls p.time m p.clock known) (answers p.time (chosen_spans configs m making)) (deliveries p.time p.clock p.count) same_polls same_answers refl

  -- the whole twin
  pub turned : (h : IsPlanFor configs p side making.showing.spans (λ i. knows configs making.before m i) making.showing.span) (few : (config_at configs m).drift ≤ max_drift) (looks : List Look) →
      reverse (twin_from side configs m making looks) ≡ reads configs p side making.showing.spans (λ i. knows configs making.before m i) making.showing.span h few (reverse looks)
  turned h few looks =
      let again : Look → Event = look_again side (config_at configs m).drift m p.clock p.time in
      reverse-append (fused_again p.time m p.clock known making.showing.spans) (map again looks)
      ∙ ap (λ (l : List Event). reverse (map again looks) ++ l) turned_front
      ∙ ap (λ (l : List Event). l ++ fused p) (map-reverse again looks)
      ∙ onto (reverse looks)
    where
      onto : (ls : List Look) → map (look_again side (config_at configs m).drift m p.clock p.time) ls ++ fused p ≡ reads configs p side making.showing.spans (λ i. knows configs making.before m i) making.showing.span h few ls
      onto [] = refl
      onto (l ∷ ls) = ap (λ (t : List Event). look_again side (config_at configs m).drift m p.clock p.time l ∷ t) (onto ls)
