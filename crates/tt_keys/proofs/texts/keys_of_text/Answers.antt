use Rattle.std.proofs.Common.{◌∷◌, ap, length, length-append, arith}
use Rattle.tt_seal.proofs.Finding.{found_own}
use Rattle.tt_keys.specs.Text.{lines_of}
use Rattle.tt_keys.proofs.Adding.{read_more, read_all, refused_at, refused_last, one_list}
use Rattle.tt_keys.proofs.texts.keys_of_text.Goals as goal

pub lines-preserved : goal.lines-preserved
lines-preserved c =
    let cut = c.in-Some.ensures in (
      omega (arith, c.lines.invariant.0, ap length cut.1, length-append c.in-Some.line.now (10 ∷ c.in-Some.more.now)),
      read_more c.args.text.now c.lines.rest.now c.in-Some.line.now c.in-Some.more.now c.lines.number c.lines.keys.items c.add_line.new.keys.items c.lines.invariant.1 cut.0 cut.1 c.in-Ok.ensures.added,
    )

pub returns-in-Err-clause-refused : goal.returns-in-Err-clause-refused
returns-in-Err-clause-refused c =
    let cut = c.in-Some.ensures in
    refused_at c.args.text.now c.lines.rest.now c.in-Some.line.now c.in-Some.more.now c.lines.number c.lines.keys.items c.in-Err.fault c.lines.invariant.1 cut.0 cut.1 c.in-Err.ensures.refused

pub returns-in-Err-add_line-clause-refused : goal.returns-in-Err-add_line-clause-refused
returns-in-Err-add_line-clause-refused c =
    refused_last c.args.text.now c.lines.rest.now c.lines.number c.lines.keys.items c.in-Err-add_line.fault c.lines.invariant.1 c.in_default.ensures c.in-Err-add_line.ensures.refused

pub returns-in-Ok-add_line-clause-found : goal.returns-in-Ok-add_line-clause-found
returns-in-Ok-add_line-clause-found c =
    read_all c.args.text.now c.lines.rest.now c.lines.number c.lines.keys.items c.add_line-2.new.keys.items c.lines.invariant.1 c.in_default.ensures c.in-Ok-add_line.ensures.added

pub returns-in-Ok-add_line-clause-only : goal.returns-in-Ok-add_line-clause-only
returns-in-Ok-add_line-clause-only c = λ others are.
    let found = read_all c.args.text.now c.lines.rest.now c.lines.number c.lines.keys.items c.add_line-2.new.keys.items c.lines.invariant.1 c.in_default.ensures c.in-Ok-add_line.ensures.added in
    one_list (lines_of c.args.text.now) others c.add_line-2.new.keys.items are.are found.are

pub returns-in-Ok-add_line-clause-by_number : goal.returns-in-Ok-add_line-clause-by_number
returns-in-Ok-add_line-clause-by_number c = λ key has.
    let found = read_all c.args.text.now c.lines.rest.now c.lines.number c.lines.keys.items c.add_line-2.new.keys.items c.lines.invariant.1 c.in_default.ensures c.in-Ok-add_line.ensures.added in
    found_own c.add_line-2.new.keys.items key found.own has
