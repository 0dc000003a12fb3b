use Rattle.std.proofs.Common.{ℕ, List, replicate, ◌-◌, ap, ◌∙◌}
use Rattle.std.specs.Prelude.{nat_eq}
use Rattle.std.specs.Cmp.Lexicographic.{pointwise}
use Rattle.tt_shared.specs.Layout.{slot_len, used_len}
use Rattle.tt_shared.proofs.Numbers.{rest_of}
use Rattle.tt_shared.proofs.slots.is_padded.Goals as goal

pub returns : goal.returns
returns c = c.eq.ensures ∙ ap (λ (rest : List ℕ). pointwise nat_eq rest (replicate (slot_len - used_len) 0)) (rest_of used_len c.args.bytes.now)
