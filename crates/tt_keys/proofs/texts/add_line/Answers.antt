use Rattle.std.proofs.Common.{refl, ap, sym, ◌∙◌}
use Rattle.tt_seal.specs.Sealing.{key_with}
use Rattle.tt_keys.proofs.Adding.{some_copied}
use Rattle.tt_keys.proofs.texts.add_line.Goals as goal

pub returns-then-is_some-clause-refused : goal.returns-then-is_some-clause-refused
returns-then-is_some-clause-refused c =
    let found = some_copied c.key_with.result (sym c.is_some.ensures ∙ c.if-is_some.true) in
    let known = sym c.key_with.ensures.value ∙ found.1 in
    let among = ap (λ ks. key_with ks c.in-Some.key.number) (sym c.deref.ensures.value) ∙ ap (λ n. key_with c.deref.result.now n) (sym c.number.ensures.value) in
    (refl, (c.in-Some.key, found.0, c.in-Some.ensures.read, among ∙ known))
