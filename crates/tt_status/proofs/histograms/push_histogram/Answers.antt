use Rattle.std.proofs.Common.{arith, refl, ◌≡◌, ◌++◌, ◌+◌, ◌-◌, ◌^◌, ◌<◌, ℕ, List, [], ◌∷◌, get_or, length, map, take, subst, ◌∙◌, ap, sym}
use Rattle.std.specs.Prelude.{OnOk, string_bytes, min, sum, slice_get, Option, Some}
use Rattle.std.specs.List.{flat_map, range_with_len}
use Rattle.std.proofs.lemmas.List.Sums.{sum_by_more}
use Rattle.std.proofs.lemmas.List.FromFn.{map-range_with_len_more}
use Rattle.tt_status.specs.Metric.{Sample, head_text, sample_text}
use Rattle.tt_status.specs.Histogram.{count_in, bucket_of, histogram_metric}
use Rattle.tt_status.specs.declared.metrics.Kind.TheVariants as kind
use Rattle.tt_status.specs.declared.metrics.Value.TheVariants.{Whole, Nanos}
use Rattle.tt_status.specs.declared.metrics.Subject.TheVariants.{AtMost, Sum, Count}
use Rattle.tt_status.proofs.Appending.{then_on_ok, alone, alone_on_ok, more, more_on_ok}
use Rattle.tt_status.proofs.histograms.push_histogram.Goals as goal

-- one more place is counted
counted : (xs : List ℕ) (i so_far more d : ℕ) → i < length xs → so_far ≡ min (sum (take i xs)) (2 ^ 64 - 1) → more ≡ min (get_or xs i d + so_far) (2 ^ 64 - 1) → more ≡ min (sum (take (i + 1) xs)) (2 ^ 64 - 1)
counted xs i so_far more d within is next = let one = sum_by_more (λ x. x) xs i d within in omega (arith, one, is, next)

pub loop-number-preserved : goal.loop-number-preserved
loop-number-preserved c =
    let h = c.args.histogram.now in
    let number = c.loop-number.number in
    let sample = sample_text c.args.name.now c.args.machine in
    let head = string_bytes c.args.text.now ++ head_text c.args.name.now c.args.help.now kind.Histogram in
    let so_far : c.saturating_add-so_far.result ≡ count_in h (number + 1) =
    counted h.counts number c.loop-number.so_far _ _ (omega arith) c.loop-number.invariant.so_far c.saturating_add-so_far.ensures in
    let pushed : string_bytes c.push_sample.new.text ≡ string_bytes c.loop-number.text ++ sample (bucket_of h number) =
    c.in_ok-push_sample.ensures ∙ ap (λ (at : Option ℕ). string_bytes c.loop-number.text ++ sample (record { subject = AtMost at; value = Whole c.saturating_add-so_far.result })) c.bound.ensures
    ∙ ap (λ (n : ℕ). string_bytes c.loop-number.text ++ sample (record { subject = AtMost (slice_get h.bounds number); value = Whole n })) so_far in
    record {
      so_far = so_far;
      text = more sample (map (bucket_of h) (range_with_len 0 number)) (bucket_of h number ∷ []) head _ _ c.loop-number.invariant.text (alone sample (bucket_of h number) _ _ pushed)
          ∙ ap (λ (xs : List Sample). head ++ flat_map sample xs) (sym (map-range_with_len_more (bucket_of h) 0 number number (omega arith)));
    }

pub returns : goal.returns
unfolding histogram_metric
returns c =
    let h = c.args.histogram.now in
    let sample = sample_text c.args.name.now c.args.machine in
    let old = string_bytes c.args.text.now in
    let head = head_text c.args.name.now c.args.help.now kind.Histogram in
    let all : c.loop-number.number ≡ 13 = omega arith in
    let buckets = map (bucket_of h) (range_with_len 0 13) in
    let whole : Sample = record { subject = Sum; value = Nanos (Some h.sum) } in
    let count : Sample = record { subject = Count; value = Whole (count_in h 13) } in
    let before : string_bytes c.loop-number.text ≡ (old ++ head) ++ flat_map sample buckets =
    subst (λ (n : ℕ). string_bytes c.loop-number.text ≡ (old ++ head) ++ flat_map sample (map (bucket_of h) (range_with_len 0 n))) all c.loop-number.invariant.text in
    let so_far : c.loop-number.so_far ≡ count_in h 13 = subst (λ (n : ℕ). c.loop-number.so_far ≡ count_in h n) all c.loop-number.invariant.so_far in
    let counted = subst (λ (n : ℕ). OnOk c.push_sample-3.result (string_bytes c.push_sample-3.new.text ≡ string_bytes c.push_sample-2.new.text ++ sample (record { subject = Count; value = Whole n }))) so_far c.push_sample-3.ensures in
    then_on_ok c.push_sample-3.result old _ _ head (flat_map sample (buckets ++ whole ∷ count ∷ [])) refl
    (more_on_ok sample c.push_sample-3.result buckets (whole ∷ count ∷ []) (old ++ head) _ _ before
    (more_on_ok sample c.push_sample-3.result (whole ∷ []) (count ∷ []) _ _ _ (alone sample whole _ _ c.in_ok-push_sample-2.ensures)
    (alone_on_ok sample c.push_sample-3.result count _ _ counted)))
