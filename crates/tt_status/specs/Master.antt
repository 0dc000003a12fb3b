-- The text of a master's status: its metrics in order.
use Rattle.std.specs.Prelude.{codes, ℕ, map, slice_index_or, Some, None, List, [], ◌∷◌, ◌++◌}
use Rattle.std.specs.List.{flat_map, range_with_len}
use Rattle.tt_seal.specs.declared.faults.SealFault.{SealFault}
use Rattle.tt_seal.specs.declared.faults.SealFault.TheVariants.{Length, UnknownKey, WrongTag}
use Rattle.tt_status.specs.Metric.{Sample, Metric, head_text, labelled_text, single}
use Rattle.tt_status.specs.Server.{server_metrics}
use Rattle.tt_status.specs.Status.{count, unopened_place}
use Rattle.tt_status.specs.declared.master_statuses.KeyAnswers.{KeyAnswers}
use Rattle.tt_status.specs.declared.master_statuses.MasterStatus.{MasterStatus}
use Rattle.tt_status.specs.declared.metrics.Kind.TheVariants.{Gauge, Counter}
use Rattle.tt_status.specs.declared.metrics.Value.TheVariants.{Whole, Nanos}
use Rattle.tt_status.specs.declared.metrics.Subject.TheVariants.{Version, Unopened, Key, Reason}

-- the line of a sample of a master
abbrev pub master_sample_text : List ℕ → ℕ → Sample → List ℕ
master_sample_text name source sample = labelled_text (codes "source") name source sample

-- a metric of a master: all of its samples stand behind its head
abbrev pub master_metric_text : ℕ → Metric → List ℕ
master_metric_text source m = head_text m.name m.help m.kind ++ flat_map (master_sample_text m.name source) m.samples

-- the metric that names the version
abbrev pub master_build_metric : Metric
master_build_metric = record {
  name = codes "truetime_master_build_info";
  help = codes "The version of the program; the value is always 1.";
  kind = Gauge;
  samples = count Version 1 ∷ [];
}

-- how many keys a master has
abbrev pub keys_metric : MasterStatus → Metric
keys_metric s = single (codes "truetime_master_keys") (codes "The keys that the master has.") Gauge (Whole s.keys)

-- how often its file of keys was refused
abbrev pub keys_refused_metric : MasterStatus → Metric
keys_refused_metric s =
    single (codes "truetime_master_keys_refused_total") (codes "How often the file of keys was refused; the keys before stay.") Counter (Whole s.keys_refused)

-- how many answers were sealed under a key
abbrev pub sealed_sample : KeyAnswers → Sample
sealed_sample a = count (Key (Some a.key)) a.answers

-- how many answers were sealed under each key, and how many were not sealed
abbrev pub answers_metric : MasterStatus → Metric
answers_metric s = record {
  name = codes "truetime_master_answers_total";
  help = codes "Answers by the number of the key that they are sealed under; none for those that are not sealed.";
  kind = Counter;
  samples = map sealed_sample s.sealed.items ++ count (Key None) s.unsealed ∷ [];
}

-- the name of the metric of the packets that were dropped
abbrev pub dropped_name : List ℕ
dropped_name = codes "truetime_master_dropped_total"

-- how many packets were dropped for a reason
abbrev pub dropped_sample : MasterStatus → SealFault → Sample
dropped_sample s reason = count (Unopened reason) (slice_index_or s.dropped (unopened_place reason) 0)

-- how many packets were dropped, for each reason
abbrev pub dropped_metric : MasterStatus → Metric
dropped_metric s = record {
  name = dropped_name;
  help = codes "Packets that were dropped since they did not open, by the number of the reason.";
  kind = Counter;
  samples = dropped_sample s Length ∷ dropped_sample s UnknownKey ∷ dropped_sample s WrongTag ∷ [];
}

-- the numbers of the reasons for which a packet is not answered, by their places
abbrev pub reasons : List ℕ
reasons = 301 ∷ 302 ∷ 303 ∷ 2401 ∷ 2402 ∷ 2403 ∷ 2404 ∷ 2405 ∷ 2406 ∷ 2407 ∷ 2408 ∷ []

-- how many packets were not answered for the reason of a place
abbrev pub unanswered_sample : MasterStatus → ℕ → Sample
unanswered_sample s place = count (Reason (slice_index_or reasons place 0)) (slice_index_or s.unanswered place 0)

-- how many packets were not answered, for each reason
abbrev pub unanswered_metric : MasterStatus → Metric
unanswered_metric s = record {
  name = codes "truetime_master_unanswered_total";
  help = codes "Packets that were not answered, by the number of the reason.";
  kind = Counter;
  samples = map (unanswered_sample s) (range_with_len 0 11);
}

-- how wide the last answer was
abbrev pub width_metric : MasterStatus → Metric
width_metric s = single (codes "truetime_master_width_seconds") (codes "The width of the last answer's span; NaN before the first.") Gauge (Nanos s.width)

-- how wide the widest answer since the status before was
abbrev pub widest_metric : MasterStatus → Metric
widest_metric s = single (codes "truetime_master_width_max_seconds") (codes "The greatest width of an answer's span since the status before; NaN where there was no answer.") Gauge (Nanos s.widest)

-- how wide the answers were
abbrev pub width_metrics : MasterStatus → List Metric
width_metrics s = width_metric s ∷ widest_metric s ∷ []

-- what a master has done itself
abbrev pub own_metrics : MasterStatus → List Metric
own_metrics s = (master_build_metric ∷ keys_metric s ∷ keys_refused_metric s ∷ answers_metric s ∷ dropped_metric s ∷ unanswered_metric s ∷ []) ++ width_metrics s

-- the metrics of a master's status
abbrev pub master_metrics_of : MasterStatus → List Metric
master_metrics_of s = own_metrics s ++ server_metrics s.servers.items

-- the text of a master's status: each metric, with the number of its source at each sample
abbrev pub master_status_text : MasterStatus → List ℕ
master_status_text s = flat_map (master_metric_text s.source) (master_metrics_of s)
