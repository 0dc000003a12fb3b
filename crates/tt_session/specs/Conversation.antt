-- A conversation with a service.
use Rattle.std.specs.Prelude.{◌≡◌, List, [], ◌∷◌}
use Rattle.tt_session.specs.declared.calls.Call.{Call}

-- calls of a service with their answers: each is allowed in the state that the one before it left, from one state to another
abbrev pub Conversation : {S : Type 0} → (S → Call → S → Type 0) → S → List Call → S → Type 0
Conversation allows before [] after = after ≡ before
Conversation {S} allows before (call ∷ calls) after = (mid : S) × allows before call mid × Conversation allows mid calls after

-- a conversation from one state to the other, of which this holds
pub record Talked {S : Type 0} (allows : S → Call → S → Type 0) (before after : S) (Holds : List Call → Type 0) : Type 0 where
  pub calls : List Call
  pub talked : Conversation allows before calls after
  pub holds : Holds calls
