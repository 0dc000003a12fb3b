use Rattle.std.proofs.Common.{[], ◌∷◌, ℕ, subst, sym}
use Rattle.std.proofs.lemmas.Bool.{eqb-true, eq-eqb}
use Rattle.tt_text.specs.Reading.{IsLineOf}
use Rattle.tt_live.proofs.Answering.{second_fits, same_first}
use Rattle.tt_live.proofs.replies.names.Goals as goal

pub returns-in-Some : goal.returns-in-Some
returns-in-Some c = (
  λ is.
      let same = eqb-true c.in-Some.named c.args.number is in
      let here = subst (λ (n : ℕ). IsLineOf c.args.word.now c.args.reply.now (n ∷ c.in-Some._stamp ∷ [])) same c.in-Some.ensures in
      (c.in-Some._stamp, second_fits c.args.word.now c.args.reply.now c.args.number c.in-Some._stamp here, here.is),
  λ (stamp, fits, told).
      let same = same_first c.args.word.now c.args.reply.now c.in-Some.named c.in-Some._stamp c.args.number stamp c.in-Some.ensures c.ranges.number.fits fits told in
      eq-eqb c.in-Some.named c.args.number (sym same),
)
