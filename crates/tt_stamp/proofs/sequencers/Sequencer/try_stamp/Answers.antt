use Rattle.std.proofs.Common.{ℕ, ◌+◌, ◌-◌, Result, OnOk, ⊎_elim, sym, ap, ◌∙◌, subst, arith}
use Rattle.tt_stamp.specs.Stamping.{SeatState, Gives}
use Rattle.tt_stamp.specs.Sequencing.{state_of}
use Rattle.tt_stamp.proofs.Turns.{try_allowed, one_less}
use Rattle.tt_stamp.proofs.Seats.{Gives-from_step}
use Rattle.tt_stamp.proofs.sequencers.Sequencer.try_stamp.Goals as goal
use Rattle.tt_stamp.proofs.sequencers.Sequencer.try_stamp.Goals.{then-found-word, else-found-word}

pub compare_exchange_with-found-requires : goal.compare_exchange_with-found-requires
compare_exchange_with-found-requires c =
    let slots = c.self.inside.table.shared.table_id.slots in
    (ap (λ (s : SeatState). s.table) c.seat.view_is ∙ c.requires.seat ∙ sym c.self.view_is, omega (arith, c.self.invariant), try_allowed c.self.inside.table.shared.key slots c.seat.inside.token.id c.seat.inside.token.me c.args.request c.args.word c.args.stamp c.seat.invariant.numbered c.requires.near c.requires.least c.requires.in_time c.requires.in_lease)

pub returns-clause-given : goal.returns-clause-given
returns-clause-given c =
    let old = c.seat.inside.token in
    let new = c.compare_exchange_with-found.new.seat in
    let G : SeatState → ℕ → Type 0 = λ s n. Gives s (state_of new.table_id new.me.0) c.args.request.latest c.args.request.floor c.args.request.lease n in
    let P : Result (Unit {0}) ℕ → Type 0 = λ r. OnOk r (G c.args.seat.now c.args.stamp) in
    elim c.if-found-word.branch [
      | then-found-word w ↦
          subst P (sym w.result-is)
          (⊎_elim
          (λ hit. subst (λ (s : SeatState). G s c.args.stamp) c.seat.view_is
          (subst (λ (n : ℕ). G (state_of old.table_id old.me.0) n) (one_less c.args.stamp) (Gives-from_step old.table_id new.table_id old.me.0 new.me.0 c.args.request.latest c.args.request.floor c.args.request.lease ((c.args.stamp + 1) - 1) c.compare_exchange_with-found.ensures.0 c.seat.invariant.one c.seat.invariant.opened hit.1)))
          (λ miss. absurd (miss.0 w.if-found-word.true))
          c.compare_exchange_with-found.ensures.2)
      | else-found-word w ↦ subst P (sym w.result-is) tt
    ]
