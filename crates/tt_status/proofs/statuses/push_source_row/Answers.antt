use Rattle.std.proofs.Common.{rules, arith, ◌≡◌, ◌++◌, ℕ, List, map, slice_index_or, ◌∙◌, ap, sym, append_assoc}
use Rattle.std.specs.Prelude.{string_bytes, min}
use Rattle.std.specs.List.{flat_map, range_with_len}
use Rattle.std.proofs.lemmas.List.Folds.{flat_map-map}
use Rattle.tt_status.specs.Metric.{Sample, head_text, sample_text}
use Rattle.tt_status.specs.Status.{sample_of, no_source, source_metric}
use Rattle.tt_status.proofs.Appending.{more, one_more}
use Rattle.tt_status.proofs.statuses.push_source_row.Goals as goal

pub loop-number-preserved : goal.loop-number-preserved
loop-number-preserved c =
    let s = c.args.status.now in
    let row = c.args.row.now in
    let number = c.loop-number.number in
    let sample = sample_text row.name.now s.machine in
    let each = λ (i : ℕ). map (sample_of i (slice_index_or s.each i no_source)) row.aspects.now in
    let head = string_bytes c.args.text.now ++ head_text row.name.now row.help.now row.kind in
    let one = sample_of number (slice_index_or s.each number no_source) in
    let told : string_bytes c.push_source.new.text ≡ string_bytes c.loop-number.text ++ flat_map (λ aspect. sample (one aspect)) row.aspects.now = search rules in
    let pushed : string_bytes c.push_source.new.text ≡ string_bytes c.loop-number.text ++ flat_map sample (each number) =
    told ∙ ap (λ (t : List ℕ). string_bytes c.loop-number.text ++ t) (sym (flat_map-map sample one row.aspects.now)) in
    more sample (flat_map each (range_with_len 0 number)) (each number) head _ _ c.loop-number.invariant pushed
    ∙ ap (λ (xs : List Sample). head ++ flat_map sample xs) (sym (one_more each number))

pub returns : goal.returns
unfolding source_metric
returns c =
    let s = c.args.status.now in
    let row = c.args.row.now in
    let sample = sample_text row.name.now s.machine in
    let each = λ (i : ℕ). map (sample_of i (slice_index_or s.each i no_source)) row.aspects.now in
    let old = string_bytes c.args.text.now in
    let head = head_text row.name.now row.help.now row.kind in
    let all : c.loop-number.number ≡ min s.sources 16 = omega arith in
    c.loop-number.invariant
    ∙ append_assoc old head (flat_map sample (flat_map each (range_with_len 0 c.loop-number.number)))
    ∙ ap (λ (n : ℕ). old ++ (head ++ flat_map sample (flat_map each (range_with_len 0 n)))) all
