use Rattle.std.proofs.Common.{◌≡◌, ℕ, set, ap, sym, subst, ◌∙◌, arith}
use Rattle.std.specs.Prelude.{ℤ, Some}
use Rattle.std.proofs.lemmas.Int.{ints}
use mir.Val.{to_z, of_z}
use mir.Syntax.{w128}
use Rattle.tt_span.specs.Statement.{Statement}
use Rattle.tt_fuse.specs.Stated.{Stated, statement_of}
use Rattle.tt_fuse.specs.Scaled.{AreKeysOf, low_key_of, high_key_of}
use Rattle.tt_fuse.proofs.Kept.{HasOneMore, room-without, AreKeysOf-insert}
use Rattle.tt_fuse.proofs.scaled.Ends.insert.Goals as goal

pub insert-requires-clause-room : goal.insert-requires-clause-room
insert-requires-clause-room c =
    let s : Stated = record { drift = c.self.inside.drift; statements = c.self.inside.answers } in
    room-without s c.self.inside.lows (λ statement. low_key_of s.drift statement.span.lo statement.got) c.args.i c.self.invariant.stated.each_source c.self.invariant.low_keys c.requires.there
    (ap (λ (s : Stated). statement_of s c.args.i) c.self.view_is ∙ c.requires.without) (record { span = c.args.span.now; sent = c.args.sent; got = c.args.got })

pub insert-requires-2-clause-room : goal.insert-requires-2-clause-room
insert-requires-2-clause-room c =
    let s : Stated = record { drift = c.self.inside.drift; statements = c.self.inside.answers } in
    room-without s c.self.inside.highs (λ statement. high_key_of s.drift statement.span.hi statement.sent) c.args.i c.self.invariant.stated.each_source c.self.invariant.high_keys c.requires.there
    (ap (λ (s : Stated). statement_of s c.args.i) c.self.view_is ∙ c.requires.without) (record { span = c.args.span.now; sent = c.args.sent; got = c.args.got })

pub invariant_of-self : goal.invariant_of-self
invariant_of-self c =
    let s : Stated = record { drift = c.self.inside.drift; statements = c.self.inside.answers } in
    let new : Statement = record { span = c.args.span.now; sent = c.args.sent; got = c.args.got } in
    let low_handed : to_z w128 (of_z w128 c.low_key.result) ≡ c.low_key.result = omega (arith, ints) in
    let high_handed : to_z w128 (of_z w128 c.high_key.result) ≡ c.high_key.result = omega (arith, ints) in
    let low_named = low_handed ∙ c.low_key.ensures.value ∙ ap (λ (lo : ℕ). low_key_of s.drift lo c.args.got) c.lo.ensures.value in
    let high_named = high_handed ∙ c.high_key.ensures.value ∙ ap (λ (hi : ℕ). high_key_of s.drift hi c.args.sent) c.hi.ensures.value in
    subst (λ (place : ℕ). AreKeysOf (record { drift = s.drift; statements = set s.statements place (Some new) }) c.insert.new.self c.insert-2.new.self) (sym c.from.ensures)
    (AreKeysOf-insert s c.self.inside.lows c.self.inside.highs c.insert.new.self c.insert-2.new.self c.args.i c.self.invariant c.requires.there new
    (ap (λ (s : Stated). statement_of s c.args.i) c.self.view_is ∙ c.requires.without)
    (record { valid = c.lo.ensures.valid; ordered = c.requires.ordered; in_time = c.requires.in_time })
    (subst (λ (key : ℤ). HasOneMore c.self.inside.lows c.insert.new.self key c.args.i) low_named c.insert.ensures)
    (subst (λ (key : ℤ). HasOneMore c.self.inside.highs c.insert-2.new.self key c.args.i) high_named c.insert-2.ensures))
