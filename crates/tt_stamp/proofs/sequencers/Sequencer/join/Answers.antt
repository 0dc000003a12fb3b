use Rattle.std.proofs.Common.{sym, ap, ◌∙◌, subst, arith}
use mathlib.Core.Option.{none}
use Rattle.atomic_table.specs.Table.{Me, step}
use Rattle.tt_stamp.specs.Stamping.{SeatState, Unites}
use Rattle.tt_stamp.specs.Sequencing.{HasLooked, state_of}
use Rattle.tt_stamp.specs.declared.requests.StampRequest.{StampRequest}
use Rattle.tt_stamp.specs.declared.stampings.View.{View}
use Rattle.tt_stamp.proofs.Turns.{look_allowed}
use Rattle.tt_stamp.proofs.Seats.{Unites-from_look}
use Rattle.tt_stamp.proofs.sequencers.Sequencer.join.Goals as goal

pub meet-requires-clause-token : goal.meet-requires-clause-token
meet-requires-clause-token c = ap (λ (s : SeatState). s.table) c.first.view_is ∙ c.requires.first

pub meet-requires-clause-other : goal.meet-requires-clause-other
meet-requires-clause-other c = ap (λ (s : SeatState). s.table) c.second.view_is ∙ c.requires.second

pub load-requires : goal.load-requires
load-requires c =
    let slots = c.self.inside.table.shared.table_id.slots in
    (c.meet.ensures.table ∙ ap (λ (s : SeatState). s.table) c.first.view_is ∙ c.requires.first ∙ sym c.self.view_is, omega (arith, c.self.invariant), look_allowed c.self.inside.table.shared.key slots c.meet.new.token.id c.meet.new.token.me (step slots 0 0 0 none))

pub returns : goal.returns
returns c =
    let first = c.first.inside.token in
    let second = c.second.inside.token in
    let new = c.load.new.seat in
    let looked = subst (λ (v : View). HasLooked v c.load.result new.me.0) (ap (λ (m : Me StampRequest View). m.0) c.meet.ensures.both) (c.load.ensures.2.0) in
    let united = Unites-from_look first.table_id second.table_id new.table_id first.me.0 second.me.0 new.me.0 c.load.result (c.load.ensures.0 ∙ c.meet.ensures.table) c.first.invariant.one c.second.invariant.one c.first.invariant.opened looked in
    record {
      unites =
          subst (λ (s : SeatState). Unites s c.args.second (state_of new.table_id new.me.0)) c.first.view_is
          (subst (λ (s : SeatState). Unites (state_of first.table_id first.me.0) s (state_of new.table_id new.me.0)) c.second.view_is united);
    }
