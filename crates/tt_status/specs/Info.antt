-- The addresses of the sources of a machine, as a metric.
use Rattle.std.specs.Prelude.{codes, ℕ, ◌==◌, if◌then◌else◌, List, ◌++◌, encode_utf8}
use Rattle.std.specs.Fmt.{decimal}
use Rattle.std.specs.List.{enumerate_from, flat_map}
use Rattle.std.specs.Str.{chars}
use Rattle.tt_status.specs.Metric.{head_text, label_text}
use Rattle.tt_status.specs.declared.metrics.Kind.TheVariants.{Gauge}

-- a character of a label: a backslash stands before a backslash, before a quotation mark, and before the n that stands for a line feed
abbrev pub escaped_char : ℕ → List ℕ
escaped_char c = if c == 92 then codes "\\\\" else if c == 34 then codes "\\\"" else if c == 10 then codes "\\n" else encode_utf8 c

-- a text in a label
abbrev pub escaped_text : List ℕ → List ℕ
escaped_text text = flat_map escaped_char (chars text)

-- the beginning of a sample
unfoldable pub begun_text : ℕ → List ℕ
begun_text machine = codes "truetime_source_info{machine=\"" ++ decimal machine ++ codes "\""

-- the sample of a source, whose last label is its address
abbrev pub info_text : ℕ → ℕ → List ℕ → List ℕ
info_text machine source address =
    begun_text machine ++ label_text (codes "source") (decimal source) ++ label_text (codes "address") (escaped_text address) ++ codes "} 1\n"

-- the samples of the sources with these addresses, which are numbered from 0
abbrev pub infos_text : ℕ → List (List ℕ) → List ℕ
infos_text machine addresses = flat_map (λ source. info_text machine source.0 source.1) (enumerate_from 0 addresses)

-- the metric of these addresses
abbrev pub source_infos_text : ℕ → List (List ℕ) → List ℕ
source_infos_text machine addresses = head_text (codes "truetime_source_info") (codes "The address of a source, as the settings have it.") Gauge ++ infos_text machine addresses
