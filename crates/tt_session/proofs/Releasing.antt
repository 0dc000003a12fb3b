-- Conversations that answer a request.
use Rattle.std.proofs.Common.{ℕ, ◌+◌, ◌<◌, true, false, [], ◌∷◌, ◌++◌, replicate, Option, Result, Ok, Err, refl}
use Rattle.std.proofs.lemmas.List.{replicate_more}
use Rattle.tt_session.specs.Conversation.{Conversation, Talked}
use Rattle.tt_session.specs.Answers.{Passes, Begins, Releases, Reads, SaysOf, SetsLease, leased_reply}
use Rattle.tt_session.specs.declared.begun.Begun.{Begun}
use Rattle.tt_session.specs.declared.calls.Call.{Call}
use Rattle.tt_session.specs.declared.calls.Call.TheVariants.{Now, Begin, Lease, Pass}
use Rattle.tt_session.specs.declared.replies.LineReply.{LineReply}
use Rattle.tt_session.specs.declared.replies.LineReply.TheVariants.{Refused}
use Rattle.tt_span.specs.Interval.{Interval}
use Rattle.tt_session.proofs.Talking.{Conversation-append, Conversation-one}

module _ {S : Type 0} (allows : S → Call → S → Type 0) where
  -- one more release step that says no
  pub one_more_no : (before mid after : S) (number k : ℕ) → Conversation allows before (replicate k (Pass number (Ok false))) mid → allows mid (Pass number (Ok false)) after
      → Conversation allows before (replicate (k + 1) (Pass number (Ok false))) after
  one_more_no before mid after number k noes denied =
      rw (← replicate_more k (Pass number (Ok false))) (Conversation-append allows before mid after _ _ noes (Conversation-one allows mid after (Pass number (Ok false)) denied))

  -- after release steps that say no, one says yes
  pub passes_yes : (before mid after : S) (waits number k : ℕ) → k < waits → Conversation allows before (replicate k (Pass number (Ok false))) mid → allows mid (Pass number (Ok true)) after
      → Talked allows before after (λ calls. Passes waits number calls (Ok true))
  passes_yes before mid after waits number k few noes granted =
      record {
        calls = replicate k (Pass number (Ok false)) ++ Pass number (Ok true) ∷ [];
        talked = Conversation-append allows before mid after _ _ noes (Conversation-one allows mid after (Pass number (Ok true)) granted);
        holds = (k, few, refl);
      }

  -- after release steps that say no, one is refused
  pub passes_refused : (before mid after : S) (waits number k fault : ℕ) → k < waits → Conversation allows before (replicate k (Pass number (Ok false))) mid → allows mid (Pass number (Err fault)) after
      → Talked allows before after (λ calls. Passes waits number calls (Err fault))
  passes_refused before mid after waits number k fault few noes refused =
      record {
        calls = replicate k (Pass number (Ok false)) ++ Pass number (Err fault) ∷ [];
        talked = Conversation-append allows before mid after _ _ noes (Conversation-one allows mid after (Pass number (Err fault)) refused);
        holds = (k, few, refl);
      }

  -- a commit begins, and its release steps follow
  pub begins_released : (before mid after : S) (waits number floor stamp : ℕ) (last then : Option Begun) (reply : LineReply)
      → allows before (Begin number floor (Ok stamp)) mid → Talked allows mid after (λ calls. Releases waits number stamp calls reply then)
      → Talked allows before after (λ calls. Begins waits number floor last calls reply then)
  begins_released before mid after waits number floor stamp last then reply begun steps =
      record {
        calls = Begin number floor (Ok stamp) ∷ steps.calls;
        talked = (mid, begun, steps.talked);
        holds = (Ok stamp, (steps.calls, refl, steps.holds));
      }

  -- a commit does not begin
  pub begins_refused : (before after : S) (waits number floor fault : ℕ) (last : Option Begun)
      → allows before (Begin number floor (Err fault)) after
      → Talked allows before after (λ calls. Begins waits number floor last calls (Refused fault) last)
  begins_refused before after waits number floor fault last refused =
      record {
        calls = Begin number floor (Err fault) ∷ [];
        talked = Conversation-one allows before after (Begin number floor (Err fault)) refused;
        holds = (Err fault, (refl, refl, refl));
      }

  -- a reading answers
  pub reads : (before after : S) (Of : Interval → LineReply → Type 0) (answer : Result Interval ℕ) (last : Option Begun) (reply : LineReply)
      → allows before (Now answer) after → SaysOf Of answer reply → Talked allows before after (λ calls. Reads Of last calls reply last)
  reads before after Of answer last reply called says =
      record {
        calls = Now answer ∷ [];
        talked = Conversation-one allows before after (Now answer) called;
        holds = record { answer = answer; called = refl; says = says; same = refl };
      }

  -- a lease is set or refused
  pub leases : (before after : S) (lo hi : ℕ) (answer : Result (Unit {0}) ℕ) (last : Option Begun)
      → allows before (Lease lo hi answer) after → Talked allows before after (λ calls. SetsLease lo hi last calls (leased_reply lo hi answer) last)
  leases before after lo hi answer last called =
      record {
        calls = Lease lo hi answer ∷ [];
        talked = Conversation-one allows before after (Lease lo hi answer) called;
        holds = record { answer = answer; called = refl; says = refl; same = refl };
      }
