use Rattle.std.proofs.Common.{◌≡◌, ◌++◌, take}
use Rattle.std.specs.Prelude.{string_bytes}
use Rattle.std.specs.List.{flat_map}
use Rattle.tt_top.specs.Sign.{sign_text}
use Rattle.tt_top.proofs.signs.push_signs.Given as goal

abbrev pub invariant-loop-sign : goal.invariant-loop-sign
invariant-loop-sign l = string_bytes l.text ≡ string_bytes l.fn.text ++ flat_map (λ sign. sign_text l.form l.past sign.source sign.count sign.words.now sign.rise) (take l.sign-index l.signs)
