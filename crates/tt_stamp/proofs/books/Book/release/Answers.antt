use Rattle.std.proofs.Common.{List, [], ◌∷◌, ◌≡◌, length, refl, sym, ap, ◌∙◌, arith}
use Rattle.tt_stamp.specs.History.{waiting_of, release_of, with_receipts}
use Rattle.tt_stamp.specs.declared.commits.Receipt.{Receipt}
use Rattle.tt_stamp.proofs.Releases.{IsRelease-release_of}
use Rattle.tt_stamp.proofs.books.Book.release.Goals as goal

empty_if : (receipts : List Receipt) → length receipts ≡ 0 → receipts ≡ []
empty_if [] e = refl
empty_if (r ∷ receipts) e = absurd (omega (arith, e))

pub loop-init : goal.loop-init
loop-init c = record {
  same_end = refl;
  left = omega (arith, c.releasable-count.ensures.value, ap (λ e. length (release_of (waiting_of c.args.self.now) e)) c.earliest-earliest.ensures.value);
}

pub pass-requires : goal.pass-requires
pass-requires c = omega (arith, c.loop.invariant.left, c.loop-test.true)

pub loop-preserved : goal.loop-preserved
loop-preserved c = record {
  same_end = sym c.pass.ensures.turn.same_end ∙ c.loop.invariant.same_end;
  left = omega (arith, c.pass.ensures.turn.fewer, c.loop.invariant.left);
}

pub returns-clause-receipts : goal.returns-clause-receipts
returns-clause-receipts c =
    let none : release_of (waiting_of c.loop.self) c.earliest-earliest.result ≡ [] = empty_if _ (omega (arith, c.loop.invariant.left, c.loop-test.false)) in
    sym (ap (λ rs. with_receipts rs c.loop.self) none) ∙ c.loop.invariant.same_end ∙ ap (λ e. with_receipts (release_of (waiting_of c.args.self.now) e) c.args.self.now) c.earliest-earliest.ensures.value

pub returns-clause-count : goal.returns-clause-count
returns-clause-count c = c.releasable-count.ensures.value

pub returns-clause-exactly : goal.returns-clause-exactly
returns-clause-exactly c = (
  _,
  IsRelease-release_of c.args.self.now c.args.reading.now.lo,
  returns-clause-receipts c,
  returns-clause-count c,
)
