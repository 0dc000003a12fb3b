use Rattle.std.proofs.Common.{ℕ, inl, inr, refl, subst, arith}
use Rattle.std.proofs.lemmas.Grind.{common_steps}
use Rattle.tt_shared.specs.Slot.{IsSlotOf}
use Rattle.tt_shared.specs.declared.faults.SharedFault.TheVariants.{Nothing, CannotOpen, Contended}
use Rattle.tt_shared.proofs.Ageing.{no_other}
use Rattle.tt_shared.proofs.readers.SharedReader.now.Goals as goal

pub returns-in-Ok-read_at-clause-read : goal.returns-in-Ok-read_at-clause-read
returns-in-Ok-read_at-clause-read g c = (
  c.in_ok-copied.copied.index,
  c.in_ok-copied.copied.bytes,
  c.in_ok-shared.shared,
  c.in-Ok.at,
  c.in_ok-copied.ensures.found,
  subst (λ (i : ℕ). IsSlotOf i c.in_ok-shared.shared c.in_ok-copied.copied.bytes) c.from_le_bytes.ensures c.in_ok-shared.ensures.found,
  λ none. absurd (grind (arith, common_steps)),
  c.in-Ok.ensures.gave,
  c.in-Ok-read_at.ensures.read.0,
  c.in-Ok-read_at.ensures.read.1,
  c.in-Ok-read_at.ensures.read.2,
  refl,
)

pub returns-in_err-copied-clause-contended : goal.returns-in_err-copied-clause-contended
returns-in_err-copied-clause-contended g c = λ e. elim c.in_err-copied.ensures.ended [
  | inl nothing ↦ absurd (grind (arith, common_steps))
  | inr other ↦ elim other [
    | inl failed ↦ absurd (grind (arith, common_steps))
    | inr stopped ↦ (stopped.1, refl)
  ]
]

pub returns-in_err-shared-clause-contended : goal.returns-in_err-shared-clause-contended
returns-in_err-shared-clause-contended g c = λ e. absurd (grind (arith, common_steps))

pub returns-in_default-clause-contended : goal.returns-in_default-clause-contended
returns-in_default-clause-contended g c = λ e. absurd cc

pub returns-in-Ok-read_at-clause-contended : goal.returns-in-Ok-read_at-clause-contended
returns-in-Ok-read_at-clause-contended g c = λ e. absurd cc

pub returns-then-shared-eq0-clause-nothing : goal.returns-then-shared-eq0-clause-nothing
returns-then-shared-eq0-clause-nothing g c = λ e. (
  inr (
    c.in_ok-copied.copied.index,
    c.in_ok-copied.copied.bytes,
    c.in_ok-shared.shared,
    c.in_ok-copied.ensures.found,
    subst (λ (i : ℕ). IsSlotOf i c.in_ok-shared.shared c.in_ok-copied.copied.bytes) c.from_le_bytes.ensures c.in_ok-shared.ensures.found,
    c.if-shared-eq0.true,
  ),
  refl,
)

pub returns-then-shared-eq0-clause-contended : goal.returns-then-shared-eq0-clause-contended
returns-then-shared-eq0-clause-contended g c = λ e. absurd cc

pub returns-in-Err-clause-nothing : goal.returns-in-Err-clause-nothing
returns-in-Err-clause-nothing g c = λ e. absurd (no_other c.in_ok-shared.shared c.in-Ok.at c.in-Err.fault Nothing c.in-Err.ensures.refused (λ same. cc) (λ same. cc) e)

pub returns-in-Err-clause-cannot_open : goal.returns-in-Err-clause-cannot_open
returns-in-Err-clause-cannot_open g c = λ e. absurd (no_other c.in_ok-shared.shared c.in-Ok.at c.in-Err.fault CannotOpen c.in-Err.ensures.refused (λ same. cc) (λ same. cc) e)

pub returns-in-Err-clause-contended : goal.returns-in-Err-clause-contended
returns-in-Err-clause-contended g c = λ e. absurd (no_other c.in_ok-shared.shared c.in-Ok.at c.in-Err.fault Contended c.in-Err.ensures.refused (λ same. cc) (λ same. cc) e)
