use Rattle.std.proofs.Common.{◌<◌, ◌≤◌, ℕ, List, length, sym, subst, arith}
use Rattle.std.specs.Prelude.{All}
use Rattle.tt_fuse.specs.Ends.{EndLists, AreEndsOf}
use Rattle.tt_fuse.specs.Stated.{Stated}
use Rattle.tt_fuse.proofs.BySpans.{low-sources-there, high-sources-there, few-sources, as-many-sources, AreInOrder-spans, AreEndsOf-spans}
use Rattle.tt_fuse.proofs.scaled.Ends.of.Goals as goal

pub overflow_sub-unknown : goal.overflow_sub-unknown
overflow_sub-unknown c =
    let s : Stated = record { drift = c.self.inside.drift; statements = c.self.inside.answers } in
    few-sources s c.args.self.now c.args.spans.now c.self.inside.lows c.self.inside.highs c.self.view_is c.self.invariant c.requires c.sources-lows.result.now c.sources-highs.result.now c.sources-lows.ensures.value c.sources-highs.ensures.value

pub lows_of-requires-clause-there : goal.lows_of-requires-clause-there
lows_of-requires-clause-there c =
    let s : Stated = record { drift = c.self.inside.drift; statements = c.self.inside.answers } in
    subst (λ (sources : List ℕ). All (λ source. source < length c.args.spans.now) sources) (sym c.sources-lows.ensures.value)
    (low-sources-there s c.args.self.now c.args.spans.now c.self.inside.lows c.self.inside.highs c.self.view_is c.self.invariant c.requires)

pub highs_of-requires-clause-there : goal.highs_of-requires-clause-there
highs_of-requires-clause-there c =
    let s : Stated = record { drift = c.self.inside.drift; statements = c.self.inside.answers } in
    subst (λ (sources : List ℕ). All (λ source. source < length c.args.spans.now) sources) (sym c.sources-highs.ensures.value)
    (high-sources-there s c.args.self.now c.args.spans.now c.self.inside.lows c.self.inside.highs c.self.view_is c.self.invariant c.requires)

pub highs_of-requires-clause-room : goal.highs_of-requires-clause-room
highs_of-requires-clause-room c =
    let s : Stated = record { drift = c.self.inside.drift; statements = c.self.inside.answers } in
    let few : length c.args.spans.now ≤ 16 = c.requires.1.few in
    let within = few-sources s c.args.self.now c.args.spans.now c.self.inside.lows c.self.inside.highs c.self.view_is c.self.invariant c.requires c.sources-lows.result.now c.sources-highs.result.now c.sources-lows.ensures.value c.sources-highs.ensures.value in
    let same = as-many-sources s c.args.self.now c.args.spans.now c.self.inside.lows c.self.inside.highs c.self.view_is c.self.invariant c.requires c.sources-lows.result.now c.sources-highs.result.now c.sources-lows.ensures.value c.sources-highs.ensures.value in
    omega (arith, few, within, same)

pub in_order-requires : goal.in_order-requires
in_order-requires c =
    let s : Stated = record { drift = c.self.inside.drift; statements = c.self.inside.answers } in
    AreInOrder-spans s c.args.self.now c.args.spans.now c.self.inside.lows c.self.inside.highs c.self.view_is c.self.invariant c.requires c.sources-lows.result.now c.sources-highs.result.now c.sources-lows.ensures.value c.sources-highs.ensures.value
    c.lows_of.result.items c.highs_of.result.items c.lows_of.ensures c.highs_of.ensures c.sources-lows.ensures.valid c.sources-highs.ensures.valid

pub returns : goal.returns
returns c =
    let s : Stated = record { drift = c.self.inside.drift; statements = c.self.inside.answers } in record {
      value = subst (λ (ends : EndLists). AreEndsOf c.args.spans.now ends) (sym c.in_order.ensures)
          (AreEndsOf-spans s c.args.self.now c.args.spans.now c.self.inside.lows c.self.inside.highs c.self.view_is c.self.invariant c.requires c.sources-lows.result.now c.sources-highs.result.now c.sources-lows.ensures.value c.sources-highs.ensures.value
          c.lows_of.result.items c.highs_of.result.items c.lows_of.ensures c.highs_of.ensures);
    }
