-- What a worker had done by some moment goes on to what it did in all. So do a history and the calls of a daemon.
use Rattle.std.proofs.Common.{◌≡◌, ℕ, List, [], ◌∷◌, ◌++◌, Bool, Option, inl, inr, refl, sym, subst, ◌∙◌}
use Rattle.tt_stamp.specs.Stamping.{IsLegalRun}
use Rattle.tt_stamp.specs.declared.stampings.Stamping.{Stamping}
use Rattle.tt_connections.specs.Station.{PostState}
use Rattle.tt_connections.specs.Turns.{PostGoesOn}
use Rattle.tt_connections.specs.declared.presence.Question.{Question}
use Rattle.tt_connections.proofs.Turning.{calls-go_on, post-both, post-same, talks-on}
use Rattle.tt_workers.specs.Happening.{LeadFrom, Leads, WorkerEvent}
use Rattle.tt_consistency.specs.Calls.{RoundsCall, RiseIn}
use Rattle.tt_consistency.specs.Lives.{WorkerLife}
use Rattle.tt_life_events.specs.Beginnings.{AreFirstOf, IsWorkOf, WorkBy}

-- ---- a history and calls

pub legal-first : (seats : ℕ) (later history : List Stamping) → IsLegalRun seats (later ++ history) → IsLegalRun seats history
legal-first seats [] history legal = legal
legal-first seats (entry ∷ later) history legal = legal-first seats later history legal.1

pub rising-first : (from to : ℕ) (later early : List RoundsCall) → RiseIn from (later ++ early) to → (shown : ℕ) × RiseIn from early shown
rising-first from to [] early rise = (to, rise)
rising-first from to (call ∷ later) early (before, after, earlier, rises, last) = rising-first from before later early earlier

-- ---- a worker

module _ {C V : Type 0} (gives : C → Option ℕ → C → Type 0) (failed : C → ℕ) (says : V → Question → Bool → Type 0) (waits : ℕ) where
  abbrev Events : Type 0
  Events = List (WorkerEvent gives failed says waits)

  pub event-goes_on : (events : Events) (before : PostState C) (event : WorkerEvent gives failed says waits) (after : PostState C) → Leads events before event after → PostGoesOn before after
  event-goes_on events before (inl turn) after (began, left) =
      subst (λ (p : PostState C). PostGoesOn p after) began
      (subst (PostGoesOn turn.before.post) left (calls-go_on gives failed says turn.calls turn.before turn.after (talks-on gives failed says turn.calls turn.before turn.after turn.talked)))
  event-goes_on events before (inr end) after (stays, calls) = post-same before after stays

  -- events lead to one post
  lead-same : (first : PostState C) (events : Events) (a b : PostState C) → LeadFrom first events a → LeadFrom first events b → a ≡ b
  lead-same first [] a b one other = one ∙ sym other
  lead-same first (inl turn ∷ events) a b (mid, lead, (began, left)) (other_mid, other_lead, (other_began, other_left)) = sym left ∙ other_left
  lead-same first (inr end ∷ events) a b (mid, lead, (stays, calls)) (other_mid, other_lead, (other_stays, other_calls)) =
      stays ∙ lead-same first events mid other_mid lead other_lead ∙ sym other_stays

  -- the first ones of them lead to a post from which the later ones go on
  pub lead-first : (first : PostState C) (later events : Events) (last : PostState C) → LeadFrom first (later ++ events) last → (mid : PostState C) × LeadFrom first events mid × PostGoesOn mid last
  lead-first first [] events last lead = (last, lead, post-same last last refl)
  lead-first first (event ∷ later) events last (before, lead, leads) =
      let (mid, led, goes) = lead-first first later events before lead in
      (mid, led, post-both mid before last goes (event-goes_on (later ++ events) before event last leads))

  first-goes_on : (first : PostState C) (events all : Events) (mid last : PostState C) → AreFirstOf events all → LeadFrom first events mid → LeadFrom first all last → PostGoesOn mid last
  first-goes_on first events all mid last (inl (later, are)) lead whole =
      let (found, led, goes) = lead-first first later events last (subst (λ (l : Events). LeadFrom first l last) are whole) in
      subst (λ (p : PostState C). PostGoesOn p last) (lead-same first events found mid led lead) goes
  first-goes_on first events all mid last (inr ends) lead whole =
      let (found, (before, led, (began, left)), goes) = lead-first first ends.later (inl ends.whole ∷ ends.earlier) last (subst (λ (l : Events). LeadFrom first l last) ends.all_are whole) in
      let own : LeadFrom first (inl ends.turn ∷ ends.earlier) mid = subst (λ (l : Events). LeadFrom first l mid) ends.events_are lead in
      let (own_before, own_led, (own_began, own_left)) = own in
      let on : PostGoesOn ends.turn.after.post ends.whole.after.post =
      calls-go_on gives failed says ends.begins.later ends.turn.after ends.whole.after (talks-on gives failed says ends.begins.later ends.turn.after ends.whole.after ends.begins.goes_on) in
      post-both mid found last (subst (λ (p : PostState C). PostGoesOn p found) own_left (subst (PostGoesOn ends.turn.after.post) left on)) goes

  pub work-goes_on : (worker : WorkerLife gives failed says waits) (work : WorkBy gives failed says waits) → IsWorkOf worker work → PostGoesOn work.last worker.last
  work-goes_on worker work is =
      let lead : LeadFrom worker.post work.events work.last = subst (λ (p : PostState C). LeadFrom p work.events work.last) is.post is.lead in
      first-goes_on worker.post work.events is.by_turns.events work.last worker.last is.first lead is.by_turns.lead
