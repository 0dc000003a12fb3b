use Rattle.std.proofs.Common.{arith, ◌≡◌, ◌<◌, ◌++◌, ℕ, List, [], ◌∷◌, map, length, ◌∙◌, ap, sym}
use Rattle.std.specs.List.{range_with_len}
use Rattle.std.proofs.lemmas.List.FromFn.{map-range_with_len_more, length-map-range_with_len}
use Rattle.tt_top.specs.declared.views.SourceView.{SourceView}
use Rattle.tt_top.specs.View.{source_of, sources_of}
use Rattle.tt_top.proofs.reading.Texts.sources.Goals as goal

pub push-requires : goal.push-requires
push-requires c =
    let self = c.args.self.now in
    let each = source_of self.status.now self.evidence.now self.machine c.args.fused.now in
    let many : length c.loop-number.sources.items ≡ c.loop-number.number =
    ap (λ (xs : List SourceView). length xs) c.loop-number.invariant ∙ length-map-range_with_len each 0 c.loop-number.number in
    let few : length c.loop-number.sources.items < 16 = omega (arith, many, c.loop-number-test.true, c.requires) in
    (omega arith, few)

pub loop-number-preserved : goal.loop-number-preserved
loop-number-preserved c =
    let self = c.args.self.now in
    let each = source_of self.status.now self.evidence.now self.machine c.args.fused.now in
    let n = c.loop-number.number in
    c.push.ensures.items
    ∙ ap (λ (xs : List SourceView). xs ++ c.in_ok-source.source ∷ []) c.loop-number.invariant
    ∙ ap (λ (x : SourceView). map each (range_with_len 0 n) ++ x ∷ []) c.in_ok-source.ensures
    ∙ sym (map-range_with_len_more each 0 n n (omega arith))

pub returns : goal.returns
unfolding sources_of
returns c =
    let self = c.args.self.now in
    let each = source_of self.status.now self.evidence.now self.machine c.args.fused.now in
    let all : c.loop-number.number ≡ c.args.count = omega arith in
    c.loop-number.invariant ∙ ap (λ (m : ℕ). map each (range_with_len 0 m)) all
