use Rattle.std.proofs.Common.{List, ℕ, drop}
use Rattle.tt_text.specs.Line.{numbers_text, line_of}
use Rattle.tt_text.specs.Reading.{ReadsNothing, ReadsUpTo, Anything, AreNumbers}
use Rattle.tt_text.proofs.Fronts.{ReadsNothing-word, Reads-word, MatchOption-weaker}
use Rattle.tt_text.proofs.reading.line_at.Goals as goal

pub returns : goal.returns
returns c =
    let text = c.args.text.now in
    let word = c.args.word.now in
    let at = c.args.at in
    let bytes : List ℕ = drop at text in
    let body : List ℕ = drop c.in_ok-after.field-0 text in
    record {
      read = MatchOption-weaker c.numbers_at.result
          (ReadsNothing numbers_text AreNumbers Anything body) (ReadsNothing (line_of word) AreNumbers Anything bytes)
          (λ read. ReadsUpTo numbers_text AreNumbers Anything text c.in_ok-after.field-0 read.0.items read.1) (λ read. ReadsUpTo (line_of word) AreNumbers Anything text at read.0.items read.1)
          c.numbers_at.ensures
          (ReadsNothing-word numbers_text AreNumbers Anything word bytes body c.in_ok-after.ensures.found.1)
          (λ read h. (h.0, Reads-word numbers_text AreNumbers Anything word bytes body read.0.items (drop read.1 text) c.in_ok-after.ensures.found.1 h.1));
    }
