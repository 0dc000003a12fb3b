use Rattle.std.proofs.Common.{sym, ap, ◌∙◌, arith}
use mathlib.Core.Option.{none}
use Rattle.atomic_table.specs.Table.{step}
use Rattle.tt_stamp.specs.Stamping.{SeatState}
use Rattle.tt_stamp.proofs.Turns.{look_allowed}
use Rattle.tt_stamp.proofs.sequencers.Sequencer.look.Goals as goal

pub load-requires : goal.load-requires
load-requires c =
    let slots = c.self.inside.table.shared.table_id.slots in
    (ap (λ (s : SeatState). s.table) c.seat.view_is ∙ c.requires ∙ sym c.self.view_is, omega (arith, c.self.invariant), look_allowed c.self.inside.table.shared.key slots c.seat.inside.token.id c.seat.inside.token.me (step slots 0 0 0 none))
