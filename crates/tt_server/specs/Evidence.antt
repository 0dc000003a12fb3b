-- The evidence of a publication as text.
use Rattle.std.specs.Prelude.{ℕ, List, codes}
use Rattle.tt_span.specs.Interval.{Interval}
use Rattle.tt_cert.specs.Text.{line_of, ends_of}

-- the line of a source's span
abbrev pub span_line : Interval → List ℕ
span_line span = line_of (codes "span") (ends_of span)
