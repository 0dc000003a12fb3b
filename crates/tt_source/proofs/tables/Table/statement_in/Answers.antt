use Rattle.std.proofs.Common.{◌≡◌, ◌∙◌, Ok, arith}
use Rattle.std.proofs.lemmas.Grind.{common_steps}
use Rattle.tt_source.proofs.Awaited.{read_of2-awaited, statement-awaited, answer_to}
use Rattle.tt_source.proofs.tables.Table.statement_in.Goals as goal

pub returns-in_err-message-clause-awaited : goal.returns-in_err-message-clause-awaited
returns-in_err-message-clause-awaited c = λ sending span awaited.
    let read : c.decode2.result ≡ Ok (answer_to c.args.self.now c.args.i sending span) = read_of2-awaited c.args.self.now c.args.i c.args.bytes.now c.decode2.result c.requires.valid c.requires.can_be_called.there c.decode2.ensures.taken sending span awaited in
    grind (arith, common_steps)

pub returns-in-Request-clause-awaited : goal.returns-in-Request-clause-awaited
returns-in-Request-clause-awaited c = λ sending span awaited.
    let read : c.decode2.result ≡ Ok (answer_to c.args.self.now c.args.i sending span) = read_of2-awaited c.args.self.now c.args.i c.args.bytes.now c.decode2.result c.requires.valid c.requires.can_be_called.there c.decode2.ensures.taken sending span awaited in
    grind (arith, common_steps)

pub returns-in-Answer-clause-awaited : goal.returns-in-Answer-clause-awaited
returns-in-Answer-clause-awaited c = λ sending span awaited.
    let read : c.decode2.result ≡ Ok (answer_to c.args.self.now c.args.i sending span) = read_of2-awaited c.args.self.now c.args.i c.args.bytes.now c.decode2.result c.requires.valid c.requires.can_be_called.there c.decode2.ensures.taken sending span awaited in
    let same : c.in_ok-message.message ≡ answer_to c.args.self.now c.args.i sending span = grind (arith, common_steps) in
    c.statement_by.ensures ∙ statement-awaited c.args.self.now c.args.i c.args.clock c.in-Answer.answer sending span awaited.waits (cc)
