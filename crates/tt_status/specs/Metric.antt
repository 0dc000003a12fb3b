-- Metrics in the text format of Prometheus, version 0.0.4.
use Rattle.std.specs.Prelude.{codes, ℕ, true, false, Some, None, List, [], ◌∷◌, ◌++◌}
use Rattle.std.specs.Fmt.{decimal}
use Rattle.std.specs.List.{flat_map}
use Rattle.tt_seal.specs.Fault.{number_of as seal_number_of}
use Rattle.tt_source.specs.Fault.{number_of as source_number_of}
use Rattle.tt_status.specs.Digits.{seconds_text, difference_text}
use Rattle.tt_status.specs.Event.{refusal_number_of}
use Rattle.tt_status.specs.Reason.{reason_word}
use Rattle.tt_status.specs.declared.metrics.Kind.{Kind}
use Rattle.tt_status.specs.declared.metrics.Kind.TheVariants.{Gauge, Counter, Histogram}
use Rattle.tt_status.specs.declared.metrics.Value.{Value}
use Rattle.tt_status.specs.declared.metrics.Value.TheVariants.{Whole, Flag, Nanos, Signed}
use Rattle.tt_status.specs.declared.metrics.Value.TheVariants as Number
use Rattle.tt_status.specs.declared.metrics.Outcome.{Outcome}
use Rattle.tt_status.specs.declared.metrics.Outcome.TheVariants.{Accepted, Refused, Silent}
use Rattle.tt_status.specs.declared.metrics.Subject.{Subject}
use Rattle.tt_status.specs.declared.metrics.Subject.TheVariants.{Machine, Version, Refusal, Break, Source, OutcomeOf, RefusedOf, UnopenedOf, Unopened, Key, Reason, Server, AtMost, Sum, Count}

-- a number, and what it is of
pub record Sample : Type 0 where
  pub subject : Subject
  pub value : Value

-- the numbers of one name, what they say, and their kind
pub record Metric : Type 0 where
  pub name : List ℕ
  pub help : List ℕ
  pub kind : Kind
  pub samples : List Sample

-- the metric of one number of the machine
abbrev pub single : List ℕ → List ℕ → Kind → Value → Metric
single name help kind value = record { name = name; help = help; kind = kind; samples = (record { subject = Machine; value = value }) ∷ [] }

-- the word for each kind
abbrev pub kind_word : Kind → List ℕ
kind_word Gauge = codes "gauge"
kind_word Counter = codes "counter"
kind_word Histogram = codes "histogram"

-- the word for each outcome
abbrev pub outcome_word : Outcome → List ℕ
outcome_word Accepted = codes "accepted"
outcome_word Refused = codes "refused"
outcome_word Silent = codes "silent"

-- the version of the program
abbrev pub version : List ℕ
version = codes "0.4.0 (rattle-kit-13)"

-- what stands behind the name of a metric in a sample of it
abbrev pub suffix_of : Subject → List ℕ
suffix_of (AtMost bound) = codes "_bucket"
suffix_of Sum = codes "_sum"
suffix_of Count = codes "_count"
suffix_of _ = []

-- a label, behind another one
abbrev pub label_text : List ℕ → List ℕ → List ℕ
label_text name value = codes "," ++ name ++ codes "=\"" ++ value ++ codes "\""

-- the labels of a sample behind its first one
abbrev pub labels_text : Subject → List ℕ
labels_text Machine = []
labels_text Version = label_text (codes "version") version
labels_text (Refusal reason) = label_text (codes "number") (decimal (refusal_number_of reason))
labels_text (Break reason) = label_text (codes "event") (reason_word reason)
labels_text (Source source) = label_text (codes "source") (decimal source)
labels_text (OutcomeOf source outcome) = label_text (codes "source") (decimal source) ++ label_text (codes "outcome") (outcome_word outcome)
labels_text (RefusedOf source fault) = label_text (codes "source") (decimal source) ++ label_text (codes "number") (decimal (source_number_of fault))
labels_text (UnopenedOf source fault) = label_text (codes "source") (decimal source) ++ label_text (codes "number") (decimal (seal_number_of fault))
labels_text (Unopened fault) = label_text (codes "number") (decimal (seal_number_of fault))
labels_text (Key (Some key)) = label_text (codes "key") (decimal key)
labels_text (Key None) = label_text (codes "key") (codes "none")
labels_text (Reason number) = label_text (codes "number") (decimal number)
labels_text (Server server) = label_text (codes "server") (decimal server)
labels_text (AtMost None) = label_text (codes "le") (codes "+Inf")
labels_text (AtMost (Some bound)) = label_text (codes "le") (seconds_text bound)
labels_text Sum = []
labels_text Count = []

-- a whole number or that of a key in decimal digits, 1 or 0 for what is so or not, or nanoseconds as seconds, with a sign below 0; `NaN` where there are none
abbrev pub value_text : Value → List ℕ
value_text (Whole n) = decimal n
value_text (Flag true) = codes "1"
value_text (Flag false) = codes "0"
value_text (Nanos None) = codes "NaN"
value_text (Nanos (Some n)) = seconds_text n
value_text (Signed None) = codes "NaN"
value_text (Signed (Some d)) = difference_text d
value_text (Number.Key None) = codes "NaN"
value_text (Number.Key (Some n)) = decimal n

-- the two lines before the samples of a metric
unfoldable pub head_text : List ℕ → List ℕ → Kind → List ℕ
head_text name help kind =
    codes "# HELP " ++ name ++ codes " " ++ help ++ codes "\n# TYPE " ++ name ++ codes " " ++ kind_word kind ++ codes "\n"

-- the line of a sample: its first label says whose it is
unfoldable pub labelled_text : List ℕ → List ℕ → ℕ → Sample → List ℕ
labelled_text label name number sample =
    name ++ suffix_of sample.subject ++ codes "{" ++ label ++ codes "=\"" ++ decimal number ++ codes "\"" ++ labels_text sample.subject ++ codes "} " ++ value_text sample.value ++ codes "\n"

-- the line of a sample of a machine
unfoldable pub sample_text : List ℕ → ℕ → Sample → List ℕ
sample_text name machine sample = labelled_text (codes "machine") name machine sample

-- a metric of a machine: all of its samples stand behind its head
abbrev pub metric_text : ℕ → Metric → List ℕ
metric_text machine m = head_text m.name m.help m.kind ++ flat_map (sample_text m.name machine) m.samples
