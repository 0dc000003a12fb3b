use mir.Val.{to_z, of_z}
use mir.Syntax.{w128}
use Rattle.std.proofs.Common.{◌≡◌, ℕ, ◌<◌, ◌≤◌, inl, inr, length, get_or, sym, ◌∙◌, ap, subst, arith}
use Rattle.std.specs.Prelude.{ℤ, pos}
use Rattle.std.proofs.lemmas.Bool.{cases_lt, false≢true}
use Rattle.tt_fuse.specs.Scaled.{AreOrderedAt, low_end_of, high_end_of}
use Rattle.tt_fuse.proofs.Pairing.{key-handed}
use Rattle.tt_fuse.proofs.scaled.last_in_order.Goals as goal

pub loop-last-preserved : goal.loop-last-preserved
loop-last-preserved c =
    let last : ℕ = c.loop-last.last in
    let before : c.args.first < last = c.loop-last-test.true in
    let within : last < length c.args.starts.now = c.loop-last.invariant.within in
    let enough : length c.args.starts.now ≤ length c.args.ends.now = c.requires.enough in
    let within_ends : last < length c.args.ends.now = omega arith in
    let start : ℤ = get_or c.args.starts.now last (pos 0) in
    let end : ℤ = get_or c.args.ends.now last (pos 0) in
    let start_handed : to_z w128 (of_z w128 start) ≡ start = key-handed start (c.requires.starts_in_range last (pos 0) within) in
    let end_handed : to_z w128 (of_z w128 end) ≡ end = key-handed end (c.requires.ends_in_range last (pos 0) within_ends) in
    let here : AreOrderedAt c.args.drift c.args.clock c.args.starts.now c.args.ends.now last → ⊥ = λ ordered.
    false≢true (sym c.if-not-are_in_order.true ∙ c.are_in_order.ensures.1 (omega (arith, ordered, ap (low_end_of c.args.drift c.args.clock) start_handed, ap (high_end_of c.args.drift c.args.clock) end_handed))) in
    record {
      from = omega arith;
      within = omega arith;
      after = λ k late inside ordered.
          elim (cases_lt last k) [
            | inl beyond ↦ c.loop-last.invariant.after k beyond inside ordered
            | inr upto ↦
                let same : k ≡ last = omega arith in
                here (subst (λ (j : ℕ). AreOrderedAt c.args.drift c.args.clock c.args.starts.now c.args.ends.now j) same ordered)
          ];
    }
