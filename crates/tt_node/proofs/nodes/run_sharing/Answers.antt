use Rattle.std.proofs.Common.{◌≡◌, ◌<◌, map, vec_len, All, IfOk, rules, ap, ◌∙◌, subst, arith}
use Rattle.std.specs.List.{range_with_len}
use Rattle.tt_daemon.specs.Config.{Configuration}
use Rattle.tt_stamp.specs.Stamping.{new_seat}
use Rattle.tt_node.specs.Sharing.{ReadsPublished}
use Rattle.tt_node.proofs.Sharing.{opened-seats}
use Rattle.tt_node.proofs.nodes.run_sharing.Goals as goal

pub scoped-ended-requires : goal.scoped-ended-requires
scoped-ended-requires g c =
    let some : 0 < vec_len c.args.parts.streams = c.requires.some in
    let opened : c.in-Ok.seats.items ≡ map (new_seat c.in-Ok.sequencer (vec_len c.args.parts.streams)) (range_with_len 0 (vec_len c.args.parts.streams)) =
    subst (λ k. c.in-Ok.seats.items ≡ map (new_seat c.in-Ok.sequencer k) (range_with_len 0 k)) c.len.ensures c.in-Ok.ensures.opened in
    let seats = opened-seats c.in-Ok.sequencer (vec_len c.args.parts.streams) c.in-Ok.seats.items opened in
    let count : vec_len c.in-Ok.seats ≡ vec_len c.args.parts.streams = first_of (omega (arith, seats.0), search (rules, seats.0)) in
    record {
      at = λ a. ((c.in-Ok-open.ensures.nothing, some, count, seats.1, c.in-Ok-open.ensures.watches), (search rules, search rules, search rules, search rules, search rules, search rules, search rules, search rules));
    }

pub returns-clause-reads : goal.returns-clause-reads
returns-clause-reads g c =
    let same : c.drift-drift.result ≡ c.args.parts.daemon.daemon.config.drift = c.drift-drift.ensures.value ∙ ap (λ (k : Configuration). k.drift) c.config.ensures.value in
    let reads : IfOk c.scoped-ended.result (λ end. All (ReadsPublished c.drift-drift.result end.published) end.workers.items) = search rules in
    subst (λ ppm. IfOk c.scoped-ended.result (λ end. All (ReadsPublished ppm end.published) end.workers.items)) same reads
