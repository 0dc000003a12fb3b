use Rattle.std.proofs.Common.{◌∙◌, sym}
use Rattle.std.proofs.lemmas.Bool.{false≢true}
use Rattle.tt_script.proofs.Texts.{not_document}
use Rattle.tt_script.proofs.scripts.document_in.Goals as goal

pub returns-in-Err-2-clause-refused : goal.returns-in-Err-2-clause-refused
returns-in-Err-2-clause-refused c =
    not_document c.args.text.now c.reason_of.result (c.in-Err.ensures.refused (λ memory. absurd (false≢true (sym c.if-is_memory.false ∙ c.is_memory.ensures.1 memory))))
