-- What a master shows of itself.
use Rattle.std.specs.Prelude.{◌≡◌, ℕ, None, List, [], ◌∷◌, length, map, replicate}
use Rattle.tt_rounds.specs.Answering.{answers_in}
use Rattle.tt_rounds.specs.declared.sealed_answers.KeyCount.{KeyCount}
use Rattle.tt_status.specs.declared.master_statuses.KeyAnswers.{KeyAnswers}
use Rattle.tt_status.specs.declared.master_statuses.MasterStatus.{MasterStatus}
use Rattle.ttd_masters.specs.declared.standing.Told.{Told}

-- how many answers were sent under each of the keys with these numbers, by what the link has counted
abbrev pub answers_of : List KeyCount → List ℕ → List KeyAnswers
answers_of counts numbers = map (λ number. record { key = number; answers = answers_in counts number }) numbers

-- no turn was taken, and there are no servers
pub record TellsNothing (told : Told) : Type 0 where
  pub unanswered_are : told.unanswered ≡ replicate 11 0
  pub width_is : told.width ≡ None
  pub widest_is : told.widest ≡ None
  pub servers_are : told.servers.items ≡ []

-- a status shows what a master tells of its turns and of its servers
pub record ShowsTold (told : Told) (status : MasterStatus) : Type 0 where
  pub unanswered_are : status.unanswered ≡ told.unanswered
  pub width_is : status.width ≡ told.width
  pub widest_is : status.widest ≡ told.widest
  pub servers_are : status.servers.items ≡ told.servers.items

-- a master that answers sealed polls shows its keys, how often their file was refused, its answers under each, and what it dropped
pub record ShowsSealed (source : ℕ) (numbers : List ℕ) (refused : ℕ) (counts : List KeyCount) (dropped : List ℕ) (told : Told) (status : MasterStatus) : Type 0 where
  pub source_is : status.source ≡ source
  pub keys_are : status.keys ≡ length numbers
  pub refused_is : status.keys_refused ≡ refused
  pub sealed_are : status.sealed.items ≡ answers_of counts numbers
  pub unsealed_are : status.unsealed ≡ 0
  pub dropped_are : status.dropped ≡ dropped
  pub told_is : ShowsTold told status

-- a master that answers open polls has no keys
pub record ShowsOpen (source answers : ℕ) (told : Told) (status : MasterStatus) : Type 0 where
  pub source_is : status.source ≡ source
  pub keys_are : status.keys ≡ 0
  pub refused_is : status.keys_refused ≡ 0
  pub sealed_are : status.sealed.items ≡ []
  pub unsealed_are : status.unsealed ≡ answers
  pub dropped_are : status.dropped ≡ 0 ∷ 0 ∷ 0 ∷ []
  pub told_is : ShowsTold told status
