-- The order of commits, of whatever sessions.
use Rattle.std.proofs.Common.{ℕ, ◌<◌, ◌≤◌, List, Bool, Option, All, arith}
use Rattle.std.proofs.lemmas.List.Elements.{All-get_or}
use Rattle.tt_judge.specs.Consistency.{IsConsistent, commit_at}
use Rattle.tt_judge.specs.declared.history.Commit.{Commit}
use Rattle.tt_connections.specs.declared.presence.Question.{Question}
use Rattle.tt_consistency.specs.Timed.{TimedSession, IsTimed, times_at}
use Rattle.tt_consistency.specs.Order.{BeginsAt, IsCommitted, IsSeenAtSome, IsWithin}
use Rattle.tt_consistency.proofs.Walking.{ordered-at, session-begun, session-released, session-within}

abbrev none : Commit
none = record { began = 0; ended = 0; stamp = 0 }

pub within-consistent : (history : List Commit) → All IsWithin history → IsConsistent history
within-consistent history within number inside violated =
    let later : IsWithin (commit_at history number) = All-get_or IsWithin history number none inside within in
    let earlier : IsWithin (commit_at history violated.0) = All-get_or IsWithin history violated.0 none violated.1 within in
    omega (arith, later.begun, earlier.ended, violated.2.before, violated.2.stamps)

module _ {C V : Type 0} (gives : C → Option ℕ → C → Type 0) (failed : C → ℕ) (says : V → Question → Bool → Type 0) where
  pub seen-consistent : (history : List Commit) → All (IsSeenAtSome gives failed says) history → IsConsistent history
  seen-consistent history seen =
      within-consistent history (λ number other inside.
      let at = seen number other inside in
      session-within gives failed says at.session _ at.timed at.seen)

  module _ {D W : Type 0} (gives' : D → Option ℕ → D → Type 0) (failed' : D → ℕ) (says' : W → Question → Bool → Type 0) where
    pub stamps-ordered : (earlier : TimedSession gives failed says) (later : TimedSession gives' failed' says') (number stamp begun released other_number other_stamp other_begun : ℕ) → IsTimed gives failed says earlier → IsTimed gives' failed' says' later → IsCommitted earlier.calls number stamp begun released → BeginsAt later.calls other_begun other_number other_stamp → (times_at earlier.times released).answered ≤ (times_at later.times other_begun).came → stamp < other_stamp
    stamps-ordered earlier later number stamp begun released other_number other_stamp other_begun timed other_timed committed begins before =
        let below = session-released gives failed says earlier number stamp begun released timed committed in
        let above = session-begun gives' failed' says' later other_begun other_number other_stamp other_timed begins in
        let told = ordered-at 0 earlier.times timed.in_order released in
        let asked = ordered-at 0 later.times other_timed.in_order other_begun in
        omega (arith, below, above, told.answers, asked.reads, before)
