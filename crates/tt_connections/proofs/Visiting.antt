-- What a post does from one call of a session to a later one, and what a turn does to a session that was left at an earlier post.
use Rattle.std.proofs.Common.{◌≡◌, ℕ, Bool, List, [], ◌∷◌, ◌++◌, Option, None, refl, sym, ap, ◌∙◌, subst, arith, append_assoc, append-nil}
use Rattle.std.proofs.KnownBytes.{Appends-nil, Appends-trans}
use Rattle.std.proofs.lemmas.List.{length-append}
use Rattle.tt_span.specs.Interval.{Interval}
use Rattle.tt_stamp.specs.declared.commits.Entry.{Entry}
use Rattle.tt_session.specs.Conversation.{Conversation}
use Rattle.tt_session.specs.Session.{StaysFlushed}
use Rattle.tt_session.specs.Steps.{Steps}
use Rattle.tt_session.specs.Talks.{TalkState, Stands}
use Rattle.tt_session.specs.declared.calls.Call.{Call}
use Rattle.tt_session.specs.declared.calls.Call.TheVariants.{Now, Begin, Lease, Pass}
use Rattle.tt_session.proofs.Following.{Stands-first, AnswersLines-append, refused-append, texts-append}
use Rattle.tt_session.proofs.Splitting.{Splits-append}
use Rattle.tt_session.proofs.Talking.{Conversation-append}
use Rattle.tt_connections.specs.Station.{PostState, StationState, Allows, new_station}
use Rattle.tt_connections.specs.Turns.{PostGoesOn, AllowsOn}
use Rattle.tt_connections.specs.Together.{IsPartOfLine, StepsWritten, StepsCut}
use Rattle.tt_connections.specs.Visits.{VisitState, StandsAt, StandsOn, TurnsOn, BreaksTurn, new_visit, station_at, visit_of}
use Rattle.tt_connections.specs.declared.presence.Question.{Question}
use Rattle.tt_connections.proofs.Turning.{post-same, post-both, calls-go_on, talks-on}

module _ {C V : Type 0} (gives : C → Option ℕ → C → Type 0) (failed : C → ℕ) (says : V → Question → Bool → Type 0) where
  -- the client stays
  client-call : (before : StationState C V) (call : Call) (after : StationState C V) → Allows gives failed says before call after → after.client ≡ before.client
  client-call before (Now answer) after a = a.client
  client-call before (Begin number floor answer) after a = a.client
  client-call before (Lease lo hi answer) after a = ap (λ (s : StationState C V). s.client) a.set
  client-call before (Pass number answer) after a = a.client

  pub client-talked : (before : StationState C V) (calls : List Call) (after : StationState C V) → Conversation (Allows gives failed says) before calls after → after.client ≡ before.client
  client-talked before [] after same = ap (λ (s : StationState C V). s.client) same
  client-talked before (call ∷ calls) after (mid, allowed, rest) = client-talked mid calls after rest ∙ client-call before call mid allowed

  -- ---- a session that was left at an earlier post
  -- one state of a session and a later one, between which nothing was called
  pub record Lags (old new : StationState C V) : Type 0 where
    pub client : old.client ≡ new.client
    pub lease : old.lease ≡ new.lease
    pub book : old.book ≡ new.book
    pub goes : PostGoesOn old.post new.post

  lags-refl : (state : StationState C V) → Lags state state
  lags-refl state = record { client = refl; lease = refl; book = refl; goes = post-same state.post state.post refl }

  -- the later state is the earlier one at the later post
  lags-is : (old new : StationState C V) → Lags old new → new ≡ record old { post = new.post }
  lags-is old new l =
      ap (λ (c : V). record { post = new.post; client = c; lease = new.lease; book = new.book }) (sym l.client)
      ∙ ap (λ (i : Interval). record { post = new.post; client = old.client; lease = i; book = new.book }) (sym l.lease)
      ∙ ap (λ (b : List Entry). record { post = new.post; client = old.client; lease = old.lease; book = b }) (sym l.book)

  allows-later : (old before : StationState C V) (call : Call) (after : StationState C V) → Lags old before → Allows gives failed says before call after → AllowsOn gives failed says old call after
  allows-later old before call after lags allowed =
      record { post = before.post; goes = lags.goes; allowed = subst (λ (s : StationState C V). Allows gives failed says s call after) (lags-is old before lags) allowed }

  talked-later : (old before : StationState C V) (calls : List Call) (after : StationState C V) → Lags old before → Conversation (Allows gives failed says) before calls after
      → (end : StationState C V) × Conversation (AllowsOn gives failed says) old calls end × Lags end after
  talked-later old before [] after lags same = (old, refl, subst (λ (s : StationState C V). Lags old s) (sym same) lags)
  talked-later old before (call ∷ calls) after lags (mid, allowed, rest) =
      (after, (mid, allows-later old before call mid lags allowed, talks-on gives failed says calls mid after rest), lags-refl after)

  -- a session that stood at an earlier post, and then a step: the calls of the step, and the session behind it
  pub record Stepped (waits : ℕ) (first old before after : StationState C V) (calls : List Call) (bytes text : List ℕ) (talks : TalkState) : Type 0 where
    pub step : List Call
    pub talked : Conversation (Allows gives failed says) before step after
    pub end : StationState C V
    pub stands : Stands (AllowsOn gives failed says) waits first bytes end text talks
    pub calls_are : stands.session.calls ≡ calls ++ step
    pub behind : Lags end after

  stands-later : (waits : ℕ) (first old before after : StationState C V) (past bytes told text : List ℕ) (talk talks : TalkState) (is_commit : Bool)
      → (stands : Stands (AllowsOn gives failed says) waits first past old told talk) → Lags old before → Steps (Allows gives failed says) waits before talk bytes after talks text is_commit
      → Stepped waits first old before after stands.session.calls (past ++ bytes) (told ++ text) talks
  stands-later waits first old before after past bytes told text talk talks is_commit stands lags steps =
      let s = stands.session in
      let h = steps.hears stands.rest s.splits.last stands.kept in
      let (end, talked, behind) = talked-later old before h.calls after lags h.talked in
      record {
        step = h.calls;
        talked = h.talked;
        end = end;
        stands =
            record {
              rest = h.rest;
              session =
                  record {
                    lines = s.lines ++ h.lines;
                    calls = s.calls ++ h.calls;
                    replies = s.replies ++ h.replies;
                    splits = Splits-append past bytes s.lines h.lines stands.rest h.rest s.splits h.splits;
                    talked = Conversation-append (AllowsOn gives failed says) first old end s.calls h.calls s.talked talked;
                    answered = AnswersLines-append waits s.lines h.lines s.calls h.calls s.replies h.replies None talk.last talks.last s.answered h.answered;
                    says = texts-append told text s.replies h.replies s.says h.says;
                    lines_are = omega (arith, s.lines_are, h.lines_are, length-append s.lines h.lines);
                    refused_are = omega (arith, s.refused_are, h.refused_are, refused-append s.replies h.replies);
                  };
              kept = h.kept;
            };
        calls_are = refl;
        behind = behind;
      }

  -- ---- a session at its post
  module _ (waits : ℕ) (client : V) where
    -- before its first turn
    pub stands_at-first : (post : PostState C) → StandsAt gives failed says waits post client [] [] new_visit post
    stands_at-first post =
        record {
          after = new_station post client;
          stood = Stands-first (AllowsOn gives failed says) waits (new_station post client);
          client_is = refl;
          lease_is = refl;
          book_is = refl;
          goes = post-same post post refl;
        }

    -- once its post has gone on
    pub stands_at-later : (first : PostState C) (bytes text : List ℕ) (visit : VisitState) (post later : PostState C)
        → StandsAt gives failed says waits first client bytes text visit post → PostGoesOn post later → StandsAt gives failed says waits first client bytes text visit later
    stands_at-later first bytes text visit post later s goes =
        record {
          after = s.after;
          stood = s.stood;
          client_is = s.client_is;
          lease_is = s.lease_is;
          book_is = s.book_is;
          goes = post-both s.after.post post later s.goes goes;
        }

    -- no bytes
    pub stands_on-nil : (visit : VisitState) (post : PostState C) → StandsOn gives failed says waits client [] [] visit post visit post
    stands_on-nil visit post first past told s =
        simp append-nil (record { turn = []; talked = refl; stands = s; calls_are = sym (append-nil s.stood.session.calls) })

    -- bytes, and further ones
    pub stands_on-both : (xs ys one two : List ℕ) (a b c : VisitState) (p q r : PostState C)
        → StandsOn gives failed says waits client xs one a p b q → StandsOn gives failed says waits client ys two b q c r
        → StandsOn gives failed says waits client (xs ++ ys) (one ++ two) a p c r
    stands_on-both xs ys one two a b c p q r f g first past told s =
        let so_far = f first past told s in
        let next = g first (past ++ xs) (told ++ one) so_far.stands in
        rw (← append_assoc past xs ys) (rw (← append_assoc told one two)
        (record {
          turn = so_far.turn ++ next.turn;
          talked = Conversation-append (Allows gives failed says) (station_at p client a) (station_at q client b) (station_at r client c) so_far.turn next.turn so_far.talked next.talked;
          stands = next.stands;
          calls_are = next.calls_are ∙ ap (λ l. l ++ next.turn) so_far.calls_are ∙ append_assoc s.stood.session.calls so_far.turn next.turn;
        }))

    -- the state of the session of this client
    station-is : (state : StationState C V) (talk : TalkState) → state.client ≡ client → state ≡ station_at state.post client (visit_of state talk)
    station-is state talk is = ap (λ (c : V). record { post = state.post; client = c; lease = state.lease; book = state.book }) is

    -- a step
    pub stands_on-steps : (before after : StationState C V) (talk talks : TalkState) (bytes text : List ℕ) (is_commit : Bool)
        → before.client ≡ client
        → Steps (Allows gives failed says) waits before talk bytes after talks text is_commit
        → StandsOn gives failed says waits client bytes text (visit_of before talk) before.post (visit_of after talks) after.post
    stands_on-steps before after talk talks bytes text is_commit client_is steps first past told s =
        let lags : Lags s.after before = record { client = s.client_is ∙ sym client_is; lease = s.lease_is; book = s.book_is; goes = s.goes } in
        let to = stands-later waits (new_station first client) s.after before after past bytes told text talk talks is_commit s.stood lags steps in
        let stays : after.client ≡ client = client-talked before to.step after to.talked ∙ client_is in
        let begun = subst (λ (b : StationState C V). Conversation (Allows gives failed says) b to.step after) (station-is before talk client_is) to.talked in
        record {
          turn = to.step;
          talked = subst (λ (a : StationState C V). Conversation (Allows gives failed says) (station_at before.post client (visit_of before talk)) to.step a) (station-is after talks stays) begun;
          stands =
              record {
                after = to.end;
                stood = to.stands;
                client_is = to.behind.client ∙ stays;
                lease_is = to.behind.lease;
                book_is = to.behind.book;
                goes = to.behind.goes;
              };
          calls_are = to.calls_are;
        }

    -- what a step did to the post and to the client, behind a part of a line
    pub step-goes : (post : PostState C) (before after : StationState C V) (talk talks : TalkState) (bytes text : List ℕ) (is_commit : Bool)
        → PostGoesOn post before.post → IsPartOfLine talk.line → Steps (Allows gives failed says) waits before talk bytes after talks text is_commit → PostGoesOn post after.post
    step-goes post before after talk talks bytes text is_commit goes (come, none, kept) steps =
        let h = steps.hears come none kept in
        post-both post before.post after.post goes (calls-go_on gives failed says h.calls before after (talks-on gives failed says h.calls before after h.talked))

    pub step-client : (before after : StationState C V) (talk talks : TalkState) (bytes text : List ℕ) (is_commit : Bool)
        → before.client ≡ client → IsPartOfLine talk.line → Steps (Allows gives failed says) waits before talk bytes after talks text is_commit → after.client ≡ client
    step-client before after talk talks bytes text is_commit is (come, none, kept) steps =
        let h = steps.hears come none kept in
        client-talked before h.calls after h.talked ∙ is

    -- ---- a turn
    -- no bytes
    pub turns-nil : (took : Option (List ℕ)) (visit : VisitState) (post : PostState C) → TurnsOn gives failed says waits took took client [] visit post visit post
    turns-nil took visit post = record { text = []; written = Appends-nil took; stands = stands_on-nil visit post }

    -- bytes, and a step over further ones, whose replies were written
    pub turns-step : (took mids takes : Option (List ℕ)) (visit : VisitState) (post : PostState C) (mid after : StationState C V) (talk talks : TalkState) (xs ys : List ℕ)
        → TurnsOn gives failed says waits took mids client xs visit post (visit_of mid talk) mid.post
        → mid.client ≡ client
        → StepsWritten (Allows gives failed says) waits mids mid talk ys takes after talks
        → TurnsOn gives failed says waits took takes client (xs ++ ys) visit post (visit_of after talks) after.post
    turns-step took mids takes visit post mid after talk talks xs ys t is s =
        record {
          text = t.text ++ s.text;
          written = Appends-trans took mids takes t.text s.text t.written s.written;
          stands =
              stands_on-both xs ys t.text s.text visit (visit_of mid talk) (visit_of after talks) post mid.post after.post t.stands
              (stands_on-steps mid after talk talks ys s.text s.is_commit is s.steps);
        }

    -- bytes, and a step over further ones, whose replies were cut
    pub turns-cut : {W : Type 0} (shows : W → Option (List ℕ)) (flushed : W → Bool) (old mids new : W) (visit : VisitState) (post : PostState C) (mid after : StationState C V) (talk talks : TalkState) (xs ys all : List ℕ)
        → all ≡ xs ++ ys
        → StaysFlushed flushed old mids
        → TurnsOn gives failed says waits (shows old) (shows mids) client xs visit post (visit_of mid talk) mid.post
        → mid.client ≡ client → IsPartOfLine talk.line
        → StepsCut (Allows gives failed says) waits (shows mids) mid talk ys (shows new) after talks
        → BreaksTurn gives failed says waits shows flushed old new client all visit post (visit_of after talks) after.post
    turns-cut shows flushed old mids new visit post mid after talk talks xs ys all is stays t client_is part s =
        let later : after.client ≡ client = step-client mid after talk talks s.own s.text s.is_commit client_is part s.steps in
        let begun = subst (λ (b : StationState C V). Steps (Allows gives failed says) waits b talk s.own after talks s.text s.is_commit) (station-is mid talk client_is) s.steps in
        record {
          heard = xs;
          own = s.own;
          unheard = s.unheard;
          bytes_are = is ∙ ap (λ l. xs ++ l) s.bytes_are ∙ sym (append_assoc xs s.own s.unheard);
          mid = visit_of mid talk;
          mid_post = mid.post;
          text = t.text;
          stood = t.stands;
          more = s.text;
          is_commit = s.is_commit;
          step = subst (λ (a : StationState C V). Steps (Allows gives failed says) waits (station_at mid.post client (visit_of mid talk)) talk s.own a talks s.text s.is_commit) (station-is after talks later) begun;
          stands =
              stands_on-both xs s.own t.text s.text visit (visit_of mid talk) (visit_of after talks) post mid.post after.post t.stands
              (stands_on-steps mid after talk talks s.own s.text s.is_commit client_is s.steps);
          front = s.front;
          cut = s.cut;
          some = s.some;
          more_is = s.text_is;
          kept = record { mid = mids; stays = stays; had = t.written; has = s.written };
        }
