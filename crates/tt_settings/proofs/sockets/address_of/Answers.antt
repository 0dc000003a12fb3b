use Rattle.std.proofs.Common.{sym, ◌∙◌}
use Rattle.tt_settings.proofs.Spellings.{address_is, address_other, address_none, printed_none, printed_other}
use Rattle.tt_settings.proofs.sockets.address_of.Goals as goal

pub returns-in-Ok-clause-value : goal.returns-in-Ok-clause-value
returns-in-Ok-clause-value c =
    address_is c.args.text.now c.in-Ok.address c.parse.result c.parse.ensures.value c.in-Ok.is (rw c.as_bytes.ensures.value at (sym c.is_text_of.ensures ∙ c.if-is_text_of.true))

pub returns-in_default-clause-value : goal.returns-in_default-clause-value
returns-in_default-clause-value c =
    address_other c.args.text.now c.in-Ok.address c.parse.result c.parse.ensures.value c.in-Ok.is (rw c.as_bytes.ensures.value at (sym c.is_text_of.ensures ∙ c.if-is_text_of.false))

pub returns-in_default-clause-none : goal.returns-in_default-clause-none
returns-in_default-clause-none c =
    printed_other c.args.text.now c.in-Ok.address c.parse.result c.parse.ensures.value c.in-Ok.is (rw c.as_bytes.ensures.value at (sym c.is_text_of.ensures ∙ c.if-is_text_of.false))

pub returns-in_default-2-clause-value : goal.returns-in_default-2-clause-value
returns-in_default-2-clause-value c = address_none c.args.text.now c.in_default.field-0 c.parse.result c.parse.ensures.value c.in_default.is

pub returns-in_default-2-clause-none : goal.returns-in_default-2-clause-none
returns-in_default-2-clause-none c = printed_none c.args.text.now c.in_default.field-0 c.parse.result c.parse.ensures.value c.in_default.is
