-- The metric of a histogram.
use Rattle.std.specs.Prelude.{ℕ, ◌+◌, ◌-◌, ◌^◌, min, sum, take, map, slice_get, Some, List, [], ◌∷◌, ◌++◌}
use Rattle.std.specs.List.{range_with_len}
use Rattle.tt_status.specs.Metric.{Sample, Metric}
use Rattle.tt_status.specs.declared.metrics.Kind.TheVariants as kind
use Rattle.tt_status.specs.declared.metrics.Value.TheVariants.{Whole, Nanos}
use Rattle.tt_status.specs.declared.metrics.Subject.TheVariants.{AtMost, Sum, Count}
use Rattle.tt_status.specs.declared.histograms.Histogram.{Histogram}

-- how many values are in the first n places, at most 2^64 - 1
abbrev pub count_in : Histogram → ℕ → ℕ
count_in h n = min (sum (take n h.counts)) (2 ^ 64 - 1)

-- how many values are at most the bound with this number; the one behind the last bound is of all values
abbrev pub bucket_of : Histogram → ℕ → Sample
bucket_of h number = record { subject = AtMost (slice_get h.bounds number); value = Whole (count_in h (number + 1)) }

-- how many values are at most each bound, the sum of all, and how many there are
unfoldable pub histogram_metric : List ℕ → List ℕ → Histogram → Metric
histogram_metric name help h = record {
  name = name;
  help = help;
  kind = kind.Histogram;
  samples = map (bucket_of h) (range_with_len 0 13)
      ++ (record { subject = Sum; value = Nanos (Some h.sum) }) ∷ (record { subject = Count; value = Whole (count_in h 13) }) ∷ [];
}
