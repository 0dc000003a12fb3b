use Rattle.std.proofs.Common.{sym, subst, ◌∙◌, arith}
use Rattle.tt_keys.specs.Line.{IsEnding, IsKeyLine}
use Rattle.tt_keys.proofs.Parting.{none-uncut, parts, key_line}
use Rattle.tt_keys.proofs.lines.key_of_line.Goals as goal

pub returns-in_default : goal.returns-in_default
returns-in_default c = record { read = none-uncut c.args.line.now c.in_default.ensures }

pub returns-in_default-key_number : goal.returns-in_default-key_number
returns-in_default-key_number c = record {
  read = λ key h.
      let p = parts c.args.line.now c.in-Some.numeral.now c.in-Some.rest.now c.in-Some.ensures.0 c.in-Some.ensures.1 key h in
      c.in_default-key_number.ensures key.number h.in_range.number_fits p.numeral_is;
}

pub returns-then-rest-lt-DIGITS : goal.returns-then-rest-lt-DIGITS
returns-then-rest-lt-DIGITS c = record {
  read = λ key h.
      let p = parts c.args.line.now c.in-Some.numeral.now c.in-Some.rest.now c.in-Some.ensures.0 c.in-Some.ensures.1 key h in
      omega (arith, p.long, c.if-rest-lt-DIGITS.true);
}

pub returns-then-not-is_ending : goal.returns-then-not-is_ending
returns-then-not-is_ending c = record {
  read = λ key h.
      let p = parts c.args.line.now c.in-Some.numeral.now c.in-Some.rest.now c.in-Some.ensures.0 c.in-Some.ensures.1 key h in
      let ends : IsEnding c.split_at.result.1.now = subst IsEnding (sym (c.split_at.ensures.back ∙ p.ending_is)) h.ends in
      let good = c.is_ending.ensures.1 ends in
      cc (good, c.if-not-is_ending.true);
}

pub returns-in_default-bytes_of : goal.returns-in_default-bytes_of
returns-in_default-bytes_of c = record {
  read = λ key h.
      let p = parts c.args.line.now c.in-Some.numeral.now c.in-Some.rest.now c.in-Some.ensures.0 c.in-Some.ensures.1 key h in
      c.in_default-bytes_of.ensures key.bytes h.in_range.whole h.are_bytes (c.split_at.ensures.front ∙ p.digits_are);
}

pub returns : goal.returns
returns c =
    let number = c.in-Some-key_number.ensures in
    let bytes = c.in-Some-bytes_of.ensures in
    let line = key_line c.args.line.now c.in-Some.numeral.now c.in-Some.rest.now c.in-Some-key_number.number c.in-Some-bytes_of.bytes c.in-Some.ensures.1 number.1 number.0
    (sym c.split_at.ensures.front ∙ bytes.2) bytes.0 bytes.1
    (subst IsEnding c.split_at.ensures.back (c.is_ending.ensures.0 c.if-not-is_ending.false)) in
    record { read = subst (λ key. IsKeyLine c.args.line.now key) (sym c.new.ensures.value) line }
