use Rattle.std.proofs.Common.{◌≡◌, ◌++◌, map}
use Rattle.std.specs.Prelude.{string_bytes}
use Rattle.std.specs.List.{flat_map, range_with_len}
use Rattle.tt_status.specs.Metric.{head_text, sample_text}
use Rattle.tt_status.specs.Histogram.{count_in, bucket_of}
use Rattle.tt_status.specs.declared.metrics.Kind.TheVariants as kind
use Rattle.tt_status.proofs.histograms.push_histogram.Given as goal

abbrev pub invariant-loop-number : goal.invariant-loop-number
invariant-loop-number l = record {
  so_far : l.so_far ≡ count_in l.histogram l.number;
  text : string_bytes l.text ≡ string_bytes l.fn.text ++ head_text l.fn.name l.fn.help kind.Histogram ++ flat_map (sample_text l.fn.name l.machine) (map (bucket_of l.histogram) (range_with_len 0 l.number));
}
