-- A session that replies that a commit is committed.
use Rattle.std.proofs.Common.{◌≡◌, ℕ, zero, suc, ◌<◌, ◌≤◌, List, [], ◌∷◌, ◌++◌, length, replicate, Bool, true, false, Option, Some, None, Result, Ok, Err, ⊎_elim, refl, sym, ap, ◌∙◌, subst, arith, append_assoc, append-nil, length-append}
use Rattle.std.specs.Prelude.{MatchBool}
use Rattle.std.specs.Ordering.{nat_cmp}
use Rattle.std.specs.declared.cmp.Ordering.{Ordering}
use Rattle.std.specs.declared.cmp.Ordering.TheVariants.{Less, Equal, Greater}
use Rattle.std.specs.Prelude.{slice_get}
use Rattle.std.proofs.lemmas.Bool.{false≢true}
use Rattle.std.proofs.lemmas.Option.{slice_get_within, none-some}
use Rattle.tt_span.specs.Interval.{Interval}
use Rattle.tt_publish.specs.Reading.{HasPassed, IsToCome}
use Rattle.tt_session.specs.Answers.{AnswersLines, AnswersLine, AnswersSpelled, Commits, CommitsBy, Begins, BeginsWith, Releases, Passes, Refuses, Says, SaysOf, leased_reply, is_yes, release_reply}
use Rattle.tt_session.specs.declared.begun.Begun.{Begun}
use Rattle.tt_session.specs.declared.calls.Call.{Call}
use Rattle.tt_session.specs.declared.calls.Call.TheVariants as call
use Rattle.tt_session.specs.declared.faults.LineFault.TheVariants.{OtherWaits}
use Rattle.tt_session.specs.declared.replies.LineReply.{LineReply}
use Rattle.tt_session.specs.declared.replies.LineReply.TheVariants.{Now, Yes, No, Committed, Waiting, Leased, Refused}
use Rattle.tt_session.specs.declared.requests.Request.{Request}
use Rattle.tt_session.specs.declared.requests.Request.TheVariants as request
use Rattle.tt_connections.specs.declared.presence.Question.{Question}
use Rattle.tt_consistency.specs.Order.{BeginsAt, IsCommitted}
use Rattle.tt_consistency.specs.Timed.{TimedSession, IsTimed, times_at}
use Rattle.tt_consistency.specs.Told.{IsTold}
use Rattle.tt_consistency.proofs.Walking.{session-begun, session-released}

-- ---- places in a longer list
there_still : (xs ys : List Call) (place : ℕ) (x : Call) → slice_get xs place ≡ Some x → slice_get (xs ++ ys) place ≡ Some x
there_still [] ys place x is = absurd (none-some x is)
there_still (y ∷ xs) ys zero x is = is
there_still (y ∷ xs) ys (suc place) x is = there_still xs ys place x is

there_at : (xs ys : List Call) (x : Call) → slice_get (xs ++ x ∷ ys) (length xs) ≡ Some x
there_at [] ys x = refl
there_at (y ∷ xs) ys x = there_at xs ys x

-- the commit was begun and released among these calls
pub record HasCommitted (calls : List Call) (number stamp : ℕ) : Type 0 where
  pub begun : ℕ
  pub released : ℕ
  pub committed : IsCommitted calls number stamp begun released

-- what is kept of the last commit is so by the calls up to then
pub record IsBegun (calls : List Call) (begun : Begun) : Type 0 where
  pub place : ℕ
  pub begins : BeginsAt calls place begun.number begun.stamp
  pub released : begun.is_released ≡ true → HasCommitted calls begun.number begun.stamp

abbrev Knows : List Call → Option Begun → Type 0
Knows calls None = Unit {0}
Knows calls (Some begun) = IsBegun calls begun

still : (calls more : List Call) (number stamp begun released : ℕ) → IsCommitted calls number stamp begun released → IsCommitted (calls ++ more) number stamp begun released
still calls more number stamp begun released committed = record {
  begins = (committed.begins.0, there_still calls more begun _ committed.begins.1);
  releases = there_still calls more released _ committed.releases;
  later = committed.later;
}

committed_still : (calls more : List Call) (number stamp : ℕ) → HasCommitted calls number stamp → HasCommitted (calls ++ more) number stamp
committed_still calls more number stamp has = record { begun = has.begun; released = has.released; committed = still calls more number stamp has.begun has.released has.committed }

begun_still : (calls more : List Call) (begun : Begun) → IsBegun calls begun → IsBegun (calls ++ more) begun
begun_still calls more begun is = record {
  place = is.place;
  begins = (is.begins.0, there_still calls more is.place _ is.begins.1);
  released = λ yes. committed_still calls more begun.number begun.stamp (is.released yes);
}

knows_still : (calls more : List Call) (last : Option Begun) → Knows calls last → Knows (calls ++ more) last
knows_still calls more None knows = tt
knows_still calls more (Some begun) knows = begun_still calls more begun knows

-- what a line's calls, reply and last commit say
pub record Tells (calls : List Call) (reply : LineReply) (after : Option Begun) : Type 0 where
  pub knows : Knows calls after
  pub told : (number stamp : ℕ) → reply ≡ Committed number stamp → HasCommitted calls number stamp

-- a reply that is not of a commit
abbrev IsOther : LineReply → Type 0
IsOther reply = (number stamp : ℕ) → reply ≡ Committed number stamp → ⊥

tells_same : (past calls : List Call) (reply : LineReply) (last after : Option Begun) → Knows past last → IsOther reply → after ≡ last → Tells (past ++ calls) reply after
tells_same past calls reply last after knows other same = record {
  knows = subst (Knows (past ++ calls)) (sym same) (knows_still past calls last knows);
  told = λ number stamp is. absurd (other number stamp is);
}

other_refused : (reply : LineReply) (fault : ℕ) → reply ≡ Refused fault → IsOther reply
other_refused reply fault is number stamp too = cc

other_now : (reply : LineReply) (reading : Interval) → reply ≡ Now reading → IsOther reply
other_now reply reading is number stamp too = cc

other_waiting : (reply : LineReply) (n s : ℕ) → reply ≡ Waiting n s → IsOther reply
other_waiting reply n s is number stamp too = cc

other_says : (P : Type 0) (reply : LineReply) → Says P reply → IsOther reply
other_says P Yes says number stamp is = cc
other_says P No says number stamp is = cc
other_says P (Now reading) says number stamp is = absurd says
other_says P (Committed n s) says number stamp is = absurd says
other_says P (Waiting n s) says number stamp is = absurd says
other_says P (Leased lo hi) says number stamp is = absurd says
other_says P (Refused n) says number stamp is = absurd says

-- ---- release steps
same_number : (reply : LineReply) (number stamp n s : ℕ) → reply ≡ Committed number stamp → reply ≡ Committed n s → (number ≡ n) × (stamp ≡ s)
same_number reply number stamp n s is too = (cc, cc)

committed_as : (calls : List Call) (number stamp n s : ℕ) → HasCommitted calls number stamp → (number ≡ n) × (stamp ≡ s) → HasCommitted calls n s
committed_as calls number stamp n s has same =
    subst (λ (x : ℕ). HasCommitted calls x s) same.0 (subst (λ (x : ℕ). HasCommitted calls number x) same.1 has)

released_by : (past front : List Call) (number stamp place floor : ℕ) → slice_get past place ≡ Some (call.Begin number floor (Ok stamp)) → HasCommitted (past ++ (front ++ call.Pass number (Ok true) ∷ [])) number stamp
released_by past front number stamp place floor begins =
    let steps : List Call = front ++ call.Pass number (Ok true) ∷ [] in
    let at : slice_get (past ++ steps) (length (past ++ front)) ≡ Some (call.Pass number (Ok true)) =
    subst (λ (calls : List Call). slice_get calls (length (past ++ front)) ≡ Some (call.Pass number (Ok true))) (append_assoc past front (call.Pass number (Ok true) ∷ [])) (there_at (past ++ front) [] (call.Pass number (Ok true))) in
    let within : place < length past = slice_get_within past place _ begins in
    record {
      begun = place;
      released = length (past ++ front);
      committed = record { begins = (floor, there_still past steps place _ begins); releases = at; later = omega (arith, within, length-append past front) };
    }

tells_steps : (waits number stamp : ℕ) (past calls : List Call) (place floor : ℕ) → slice_get past place ≡ Some (call.Begin number floor (Ok stamp)) → (reply : LineReply) (after : Option Begun) (answer : Result Bool ℕ) → Passes waits number calls answer → reply ≡ release_reply number stamp answer → after ≡ Some (record { number = number; stamp = stamp; is_released = is_yes answer }) → Tells (past ++ calls) reply after
tells_steps waits number stamp past calls place floor begins reply after (Ok true) passes says keeps =
    let has : HasCommitted (past ++ calls) number stamp = subst (λ (steps : List Call). HasCommitted (past ++ steps) number stamp) (sym passes.2) (released_by past (replicate passes.0 (call.Pass number (Ok false))) number stamp place floor begins) in
    record {
      knows = subst (Knows (past ++ calls)) (sym keeps) (record { place = place; begins = (floor, there_still past calls place _ begins); released = λ yes. has });
      told = λ n s is. committed_as (past ++ calls) number stamp n s has (same_number reply number stamp n s says is);
    }
tells_steps waits number stamp past calls place floor begins reply after (Ok false) passes says keeps = record {
  knows = subst (Knows (past ++ calls)) (sym keeps) (record { place = place; begins = (floor, there_still past calls place _ begins); released = λ yes. absurd (false≢true yes) });
  told = λ n s is. absurd (other_waiting reply number stamp says n s is);
}
tells_steps waits number stamp past calls place floor begins reply after (Err fault) passes says keeps = record {
  knows = subst (Knows (past ++ calls)) (sym keeps) (record { place = place; begins = (floor, there_still past calls place _ begins); released = λ yes. absurd (false≢true yes) });
  told = λ n s is. absurd (other_refused reply fault says n s is);
}

tells_begins : (waits number floor : ℕ) (past : List Call) (last : Option Begun) → Knows past last → (calls : List Call) (reply : LineReply) (after : Option Begun) (answer : Result ℕ ℕ) → BeginsWith waits number floor last calls reply after answer → Tells (past ++ calls) reply after
tells_begins waits number floor past last knows calls reply after (Ok stamp) begins =
    let first : List Call = past ++ call.Begin number floor (Ok stamp) ∷ [] in
    let steps : List Call = begins.0 in
    let tells : Tells (first ++ steps) reply after = tells_steps waits number stamp first steps (length past) floor (there_at past [] (call.Begin number floor (Ok stamp))) reply after begins.2.answer begins.2.passes begins.2.says begins.2.keeps in
    let whole : first ++ steps ≡ past ++ calls = append_assoc past (call.Begin number floor (Ok stamp) ∷ []) steps ∙ ap (λ (c : List Call). past ++ c) (sym begins.1) in
    subst (λ (c : List Call). Tells c reply after) whole tells
tells_begins waits number floor past last knows calls reply after (Err fault) begins =
    tells_same past calls reply last after knows (other_refused reply fault begins.1) begins.2

module _ (waits number floor : ℕ) (past : List Call) (begun : Begun) (knows : IsBegun past begun) (calls : List Call) (reply : LineReply) (after : Option Begun) where
  tells_on : (released : Bool) → begun.is_released ≡ released → MatchBool released ((calls ≡ []) × (reply ≡ Committed begun.number begun.stamp) × (after ≡ Some begun)) (Releases waits begun.number begun.stamp calls reply after) → Tells (past ++ calls) reply after
  tells_on true is says = record {
    knows = subst (Knows (past ++ calls)) (sym says.2) (begun_still past calls begun knows);
    told = λ n s told. committed_as (past ++ calls) begun.number begun.stamp n s (committed_still past calls begun.number begun.stamp (knows.released is)) (same_number reply begun.number begun.stamp n s says.1 told);
  }
  tells_on false is says =
      tells_steps waits begun.number begun.stamp past calls knows.place knows.begins.0 knows.begins.1 reply after says.answer says.passes says.says says.keeps

  tells_greater : (released : Bool) → MatchBool released (Begins waits number floor (Some begun) calls reply after) (Refuses OtherWaits (Some begun) calls reply after) → Tells (past ++ calls) reply after
  tells_greater true says = tells_begins waits number floor past (Some begun) knows calls reply after says.0 says.1
  tells_greater false says = tells_same past calls reply (Some begun) after knows (other_refused reply _ says.says) says.same

  tells_by : (order : Ordering) → CommitsBy order waits number floor begun calls reply after → Tells (past ++ calls) reply after
  tells_by Less says = tells_same past calls reply (Some begun) after knows (other_refused reply _ says.says) says.same
  tells_by Equal says = tells_on begun.is_released refl says
  tells_by Greater says = tells_greater begun.is_released says

tells_commits : (waits number floor : ℕ) (past : List Call) (last : Option Begun) → Knows past last → (calls : List Call) (reply : LineReply) (after : Option Begun) → Commits waits number floor last calls reply after → Tells (past ++ calls) reply after
tells_commits waits number floor past None knows calls reply after says =
    tells_begins waits number floor past None knows calls reply after says.0 says.1
tells_commits waits number floor past (Some begun) knows calls reply after says =
    tells_by waits number floor past begun knows calls reply after (nat_cmp number begun.number) says

tells_reads : (Of : Interval → LineReply → Type 0) → ((reading : Interval) (reply : LineReply) → Of reading reply → IsOther reply) → (past : List Call) (last : Option Begun) → Knows past last → (calls : List Call) (reply : LineReply) (after : Option Begun) → after ≡ last → (answer : Result Interval ℕ) → SaysOf Of answer reply → Tells (past ++ calls) reply after
tells_reads Of other past last knows calls reply after same (Ok reading) says = tells_same past calls reply last after knows (other reading reply says) same
tells_reads Of other past last knows calls reply after same (Err fault) says = tells_same past calls reply last after knows (other_refused reply fault says) same

other_leased : (reply : LineReply) (lo hi : ℕ) (answer : Result (Unit {0}) ℕ) → reply ≡ leased_reply lo hi answer → IsOther reply
other_leased reply lo hi (Ok done) is number stamp too = cc
other_leased reply lo hi (Err fault) is number stamp too = other_refused reply fault is number stamp too

tells_answers : (waits : ℕ) (past : List Call) (last : Option Begun) → Knows past last → (asked : Option Request) (calls : List Call) (reply : LineReply) (after : Option Begun) → AnswersSpelled waits last asked calls reply after → Tells (past ++ calls) reply after
tells_answers waits past last knows None calls reply after says =
    tells_same past calls reply last after knows (other_refused reply _ says.says) says.same
tells_answers waits past last knows (Some request.Now) calls reply after says =
    tells_reads (λ reading r. r ≡ Now reading) (λ reading r is. other_now r reading is) past last knows calls reply after says.same says.answer says.says
tells_answers waits past last knows (Some (request.After t)) calls reply after says =
    tells_reads (λ reading r. Says (HasPassed reading t) r) (λ reading r is. other_says (HasPassed reading t) r is) past last knows calls reply after says.same says.answer says.says
tells_answers waits past last knows (Some (request.Before t)) calls reply after says =
    tells_reads (λ reading r. Says (IsToCome reading t) r) (λ reading r is. other_says (IsToCome reading t) r is) past last knows calls reply after says.same says.answer says.says
tells_answers waits past last knows (Some (request.Commit number floor)) calls reply after says =
    tells_commits waits number floor past last knows calls reply after says
tells_answers waits past last knows (Some (request.Lease lo hi)) calls reply after says =
    tells_same past calls reply last after knows (other_leased reply lo hi says.answer says.says) says.same

tells_line : (waits : ℕ) (past : List Call) (last : Option Begun) → Knows past last → (line : List ℕ) (calls : List Call) (reply : LineReply) (after : Option Begun) → AnswersLine waits last line calls reply after → Tells (past ++ calls) reply after
tells_line waits past last knows line calls reply after says =
    ⊎_elim
    (λ long. tells_same past calls reply last after knows (other_refused reply _ long.1.says) long.1.same)
    (λ short. tells_answers waits past last knows short.1.0 calls reply after short.1.2)
    says

-- the same as IsTold, after any calls
record IsToldFrom (waits : ℕ) (from : Option Begun) (past : List Call) (lines : List (List ℕ)) (calls : List Call) (before : List LineReply) (number stamp : ℕ) : Type 0 where
  heard : List (List ℕ)
  later_lines : List (List ℕ)
  early : List Call
  later_calls : List Call
  last : Option Begun
  lines_are : lines ≡ heard ++ later_lines
  calls_are : calls ≡ early ++ later_calls
  answered : AnswersLines waits from heard early (before ++ Committed number stamp ∷ []) last
  has : HasCommitted (past ++ early) number stamp

told : (waits : ℕ) (from : Option Begun) (past : List Call) → Knows past from → (lines : List (List ℕ)) (calls : List Call) (before : List LineReply) (number stamp : ℕ) (after : List LineReply) (last : Option Begun) → AnswersLines waits from lines calls (before ++ Committed number stamp ∷ after) last → IsToldFrom waits from past lines calls before number stamp
told waits from past knows [] calls [] number stamp after last answers = absurd answers
told waits from past knows [] calls (reply ∷ before) number stamp after last answers = absurd answers
told waits from past knows (line ∷ lines) calls [] number stamp after last answers =
    let own : List Call = answers.0 in
    let mid : Option Begun = answers.2 in
    let tells : Tells (past ++ own) (Committed number stamp) mid = tells_line waits past from knows line own (Committed number stamp) mid answers.4 in
    record {
      heard = line ∷ [];
      later_lines = lines;
      early = own;
      later_calls = answers.1;
      last = mid;
      lines_are = refl;
      calls_are = answers.3;
      answered = (own, [], mid, sym (append-nil own), answers.4, (refl, refl));
      has = tells.told number stamp refl;
    }
told waits from past knows (line ∷ lines) calls (reply ∷ before) number stamp after last answers =
    let own : List Call = answers.0 in
    let mid : Option Begun = answers.2 in
    let tells : Tells (past ++ own) reply mid = tells_line waits past from knows line own reply mid answers.4 in
    let rest : IsToldFrom waits mid (past ++ own) lines answers.1 before number stamp = told waits mid (past ++ own) tells.knows lines answers.1 before number stamp after last answers.5 in
    record {
      heard = line ∷ rest.heard;
      later_lines = rest.later_lines;
      early = own ++ rest.early;
      later_calls = rest.later_calls;
      last = rest.last;
      lines_are = ap (λ (l : List (List ℕ)). line ∷ l) rest.lines_are;
      calls_are = answers.3 ∙ ap (λ (c : List Call). own ++ c) rest.calls_are ∙ sym (append_assoc own rest.early rest.later_calls);
      answered = (own, rest.early, mid, refl, answers.4, rest.answered);
      has = subst (λ (c : List Call). HasCommitted c number stamp) (append_assoc past own rest.early) rest.has;
    }

pub told-committed : (waits : ℕ) (lines : List (List ℕ)) (calls : List Call) (before : List LineReply) (number stamp : ℕ) (after : List LineReply) (last : Option Begun) → AnswersLines waits None lines calls (before ++ Committed number stamp ∷ after) last → IsTold waits lines calls before number stamp
told-committed waits lines calls before number stamp after last answers =
    let is : IsToldFrom waits None [] lines calls before number stamp = told waits None [] tt lines calls before number stamp after last answers in
    record {
      heard = is.heard;
      later_lines = is.later_lines;
      early = is.early;
      later_calls = is.later_calls;
      last = is.last;
      lines_are = is.lines_are;
      calls_are = is.calls_are;
      answered = is.answered;
      begun = is.has.begun;
      released = is.has.released;
      committed = is.has.committed;
    }

module _ {C V : Type 0} (gives : C → Option ℕ → C → Type 0) (failed : C → ℕ) (says : V → Question → Bool → Type 0) where
  pub session-told : (session : TimedSession gives failed says) (waits : ℕ) (lines : List (List ℕ)) (before : List LineReply) (number stamp : ℕ) (after : List LineReply) (last : Option Begun) → IsTimed gives failed says session → AnswersLines waits None lines session.calls (before ++ Committed number stamp ∷ after) last → (told : IsTold waits lines session.calls before number stamp) × ((times_at session.times told.begun).read ≤ stamp) × (stamp < (times_at session.times told.released).read)
  session-told session waits lines before number stamp after last timed answers =
      let is : IsTold waits lines session.calls before number stamp = told-committed waits lines session.calls before number stamp after last answers in
      let whole : IsCommitted session.calls number stamp is.begun is.released =
      subst (λ (c : List Call). IsCommitted c number stamp is.begun is.released) (sym is.calls_are) (still is.early is.later_calls number stamp is.begun is.released is.committed) in
      (is, session-begun gives failed says session is.begun number stamp timed whole.begins, session-released gives failed says session number stamp is.begun is.released timed whole)
