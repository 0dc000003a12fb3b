use Rattle.std.proofs.Common.{◌<◌, [], ◌∷◌, length, arith, length-append}
use Rattle.tt_span.specs.Interval.{Interval, IsInterval}
use Rattle.tt_text.specs.Line.{numbers_text, line_of, ends_of}
use Rattle.tt_text.specs.Reading.{Anything, AreNumbers, IsNumber}
use Rattle.tt_text.proofs.Fronts.{ReadsNothing-parts, ReadsNothing-whole, Reads-whole, further-ReadsUpTo}
use Rattle.tt_text.proofs.Lines.{AreNumbers-ends_of, one-ends_of, AreNumbers-alone, one-alone}
use Rattle.tt_text.proofs.reading.text_laws.Goals as goal

pub returns-clause-no_number : goal.returns-clause-no_number
returns-clause-no_number c word bytes =
    ReadsNothing-parts (line_of word) AreNumbers Anything (λ n. n ∷ []) IsNumber AreNumbers-alone bytes

pub returns-clause-other_numbers : goal.returns-clause-other_numbers
returns-clause-other_numbers c word bytes =
    ReadsNothing-whole (line_of word) AreNumbers Anything (λ n. n ∷ []) IsNumber AreNumbers-alone bytes

pub returns-clause-number : goal.returns-clause-number
returns-clause-number c word bytes =
    Reads-whole (line_of word) AreNumbers Anything (λ n. n ∷ []) IsNumber AreNumbers-alone bytes one-alone

pub returns-clause-no_span : goal.returns-clause-no_span
returns-clause-no_span c word bytes =
    ReadsNothing-parts (line_of word) AreNumbers Anything ends_of IsInterval AreNumbers-ends_of bytes

pub returns-clause-other_ends : goal.returns-clause-other_ends
returns-clause-other_ends c word bytes =
    ReadsNothing-whole (line_of word) AreNumbers Anything ends_of IsInterval AreNumbers-ends_of bytes

pub returns-clause-span : goal.returns-clause-span
returns-clause-span c word bytes =
    Reads-whole (line_of word) AreNumbers Anything ends_of IsInterval AreNumbers-ends_of bytes one-ends_of

pub returns-clause-further : goal.returns-clause-further
returns-clause-further c word text at next span inside =
    let some : 0 < length (line_of word (ends_of span)) = omega (arith, length-append word (numbers_text (ends_of span))) in
    further-ReadsUpTo (λ (w : Interval). line_of word (ends_of w)) IsInterval Anything text at next span inside some
