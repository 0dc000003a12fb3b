-- Conversations, one after the other.
use Rattle.std.proofs.Common.{List, [], ◌∷◌, ◌++◌, refl, subst}
use Rattle.tt_session.specs.Conversation.{Conversation}
use Rattle.tt_session.specs.declared.calls.Call.{Call}

-- what one conversation left, another goes on with
pub Conversation-append : {S : Type 0} (allows : S → Call → S → Type 0) (before mid after : S) (xs ys : List Call)
    → Conversation allows before xs mid → Conversation allows mid ys after → Conversation allows before (xs ++ ys) after
Conversation-append allows before mid after [] ys same rest = subst (λ s. Conversation allows s ys after) same rest
Conversation-append allows before mid after (x ∷ xs) ys first rest =
    (first.0, first.1, Conversation-append allows first.0 mid after xs ys first.2 rest)

-- a single call
pub Conversation-one : {S : Type 0} (allows : S → Call → S → Type 0) (before after : S) (call : Call) → allows before call after → Conversation allows before (call ∷ []) after
Conversation-one allows before after call allowed = (after, allowed, refl)
