use Rattle.std.proofs.Common.{arith, ◌≡◌, ◌++◌, ℕ, List, [], ◌∷◌, map, ◌∙◌, ap, sym, append_assoc}
use Rattle.std.specs.Prelude.{string_bytes}
use Rattle.std.specs.List.{flat_map, range_with_len}
use Rattle.std.proofs.lemmas.List.FromFn.{map-range_with_len_more}
use Rattle.tt_status.specs.Metric.{Sample, head_text}
use Rattle.tt_status.specs.Master.{master_sample_text, unanswered_metric, unanswered_sample}
use Rattle.tt_status.proofs.Appending.{more, alone}
use Rattle.tt_status.proofs.master_statuses.push_unanswered.Goals as goal

pub loop-place-preserved : goal.loop-place-preserved
loop-place-preserved c =
    let s = c.args.status.now in
    let m = unanswered_metric s in
    let place = c.loop-place.place in
    let text = master_sample_text m.name s.source in
    let sample = unanswered_sample s in
    let head = string_bytes c.args.text.now ++ head_text m.name m.help m.kind in
    let pushed : string_bytes c.push_count.new.text ≡ string_bytes c.loop-place.text ++ text (sample place) = c.in_ok-push_count.ensures in
    more text (map sample (range_with_len 0 place)) (sample place ∷ []) head _ _ c.loop-place.invariant (alone text (sample place) _ _ pushed)
    ∙ ap (λ (xs : List Sample). head ++ flat_map text xs) (sym (map-range_with_len_more sample 0 place place (omega arith)))

pub returns : goal.returns
returns c =
    let s = c.args.status.now in
    let m = unanswered_metric s in
    let text = master_sample_text m.name s.source in
    let sample = unanswered_sample s in
    let old = string_bytes c.args.text.now in
    let head = head_text m.name m.help m.kind in
    let all : c.loop-place.place ≡ 11 = omega arith in
    c.loop-place.invariant
    ∙ append_assoc old head (flat_map text (map sample (range_with_len 0 c.loop-place.place)))
    ∙ ap (λ (n : ℕ). old ++ (head ++ flat_map text (map sample (range_with_len 0 n)))) all
