use Rattle.std.proofs.Common.{◌≡◌, ◌++◌, map}
use Rattle.std.specs.Prelude.{string_bytes, slice_index_or}
use Rattle.std.specs.List.{flat_map, range_with_len}
use Rattle.tt_status.specs.Metric.{head_text, sample_text}
use Rattle.tt_status.specs.Status.{sample_of, no_source}
use Rattle.tt_status.proofs.statuses.push_source_row.Given as goal

abbrev pub invariant-loop-number : goal.invariant-loop-number
invariant-loop-number l = string_bytes l.text ≡ string_bytes l.fn.text ++ head_text l.row.name.now l.row.help.now l.row.kind ++ flat_map (sample_text l.row.name.now l.status.machine) (flat_map (λ i. map (sample_of i (slice_index_or l.status.each i no_source)) l.row.aspects.now) (range_with_len 0 l.number))
