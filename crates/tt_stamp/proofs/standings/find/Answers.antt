use Rattle.std.proofs.Common.{ℕ, ◌-◌, length, ap, ◌∙◌, sym, arith}
use Rattle.std.proofs.lemmas.List.{get_or_default}
use Rattle.std.proofs.lemmas.Bool.{true≢false}
use Rattle.tt_stamp.proofs.Ascending.{at_key-below, at_key-above, at_key-parted}
use Rattle.tt_stamp.proofs.standings.find.Goals as goal
use Rattle.tt_stamp.proofs.standings.find.Goals.{then-key-first-via-then-key-first, then-key-first-via-else-key-first+then-last-key}

pub returns-then-key-first-clause-none : goal.returns-then-key-first-clause-none
returns-then-key-first-clause-none g c =
    elim c.then-key-first.branch [
      | then-key-first-via-then-key-first w ↦ at_key-below c.args.entries.now c.args.key c.index-entries-0.result c.requires (omega (arith, c.if-len-eq0.false)) w.if-key-first.true
      | then-key-first-via-else-key-first+then-last-key w ↦ at_key-above c.args.entries.now c.args.key (length c.args.entries.now - 1) c.index-entries-len.result c.requires (omega (arith, c.if-len-eq0.false)) w.if-last-key.true
    ]

pub returns-else-is_at-3-clause-none : goal.returns-else-is_at-3-clause-none
returns-else-is_at-3-clause-none g c =
    let place = c.count_below-place.result in
    at_key-parted c.args.entries.now c.args.key place c.requires c.count_below-place.ensures.divided (λ d h e.
    true≢false (sym (c.is_at-3.ensures.1 (record {
      within = h;
      is = λ d2. ap (λ (p : ℕ × g.row.V.Denot). p.0) (get_or_default c.args.entries.now place d2 d h) ∙ e;
    })) ∙ c.if-is_at-3.false))
