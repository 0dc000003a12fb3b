-- What the steps of a session do whose replies are handed over after each of them.
use Rattle.std.proofs.Common.{◌≡◌, ◌≢◌, ℕ, Bool, true, false, ◌==◌, ◌+◌, ◌<◌, ◌≤◌, ◌^◌, if◌then◌else◌, List, [], ◌∷◌, ◌++◌, length, take, drop, Option, refl, sym, ap, ◌∙◌, arith, take-append-drop}
use Rattle.std.specs.List.{flat_map}
use Rattle.std.specs.Io.KnownBytes.{Appends}
use Rattle.std.proofs.lemmas.Bool.Decides.{nat_tests}
use Rattle.std.proofs.lemmas.List.{length-append, length-take}
use Rattle.std.proofs.lemmas.List.Elements.{All-head, All-tail}
use Rattle.tt_session.specs.Lines.{HasNoEnd, Splits, lines_of, onto_first}
use Rattle.tt_session.specs.Answers.{AnswersLines}
use Rattle.tt_session.specs.Replies.{text_of}
use Rattle.tt_session.specs.Steps.{CommitsLast, Steps, StepsTo, StopsAt, is_behind_commit}
use Rattle.tt_session.specs.Talks.{TalkState}
use Rattle.tt_session.specs.declared.begun.Begun.{Begun}
use Rattle.tt_session.specs.declared.calls.Call.{Call}
use Rattle.tt_session.specs.declared.replies.LineReply.{LineReply}
use Rattle.tt_session.specs.declared.steps.Stop.{Stop}
use Rattle.tt_session.specs.declared.steps.Stop.TheVariants as stop
use Rattle.tt_session.proofs.Splitting.{split_only}
use Rattle.tt_connections.specs.Together.{IsPartOfLine, StepsCut}

-- ---- further bytes have no more lines than bytes
-- a byte in front of the first line makes no more lines
onto_first-length : (b : ℕ) (lines : List (List ℕ)) → length (onto_first b lines) ≡ length lines
onto_first-length b [] = refl
onto_first-length b (line ∷ lines) = refl

first-few : (b : ℕ) (bytes : List ℕ) (is_feed : Bool) → length (lines_of bytes) ≤ length bytes → length (if is_feed then [] ∷ lines_of bytes else onto_first b (lines_of bytes)) ≤ length bytes + 1
first-few b bytes true few = omega (arith, few)
first-few b bytes false few = omega (arith, few, onto_first-length b (lines_of bytes))

lines-few : (bytes : List ℕ) → length (lines_of bytes) ≤ length bytes
lines-few [] = omega arith
lines-few (b ∷ bytes) = omega (arith, first-few b bytes (b == 10) (lines-few bytes))

not_feed : (b : ℕ) → b ≢ 10 → (b == 10) ≡ false
not_feed b other = grind (arith, nat_tests)

-- nor do bytes without a line feed
lines-behind : (come bytes : List ℕ) → HasNoEnd come → length (lines_of (come ++ bytes)) ≡ length (lines_of bytes)
lines-behind [] bytes none = refl
lines-behind (b ∷ come) bytes none =
    rw (not_feed b (All-head (λ b. b ≢ 10) b come none))
    (onto_first-length b (lines_of (come ++ bytes)) ∙ lines-behind come bytes (All-tail (λ b. b ≢ 10) b come none))

further-few : (come bytes : List ℕ) (lines : List (List ℕ)) (rest : List ℕ) → HasNoEnd come → Splits (come ++ bytes) lines rest → length lines ≤ length bytes
further-few come bytes lines rest none splits =
    let is : length lines ≡ length (lines_of (come ++ bytes)) = ap length (split_only (come ++ bytes) lines rest splits).0 in
    omega (arith, is, lines-behind come bytes none, lines-few bytes)

-- ---- replies are those to lines
replied : (waits : ℕ) (last after : Option Begun) (lines : List (List ℕ)) (calls : List Call) (replies : List LineReply) (text : List ℕ)
    → AnswersLines waits last lines calls replies after → text ≡ flat_map text_of replies → 0 < length text → 0 < length lines
replied waits last after [] calls [] text answered says some =
    let none : length text ≡ 0 = ap length says in
    absurd (omega (arith, none, some))
replied waits last after [] calls (reply ∷ replies) text answered says some = absurd answered
replied waits last after (line ∷ lines) calls replies text answered says some = omega arith

-- the line of a commit is a line
committed : (lines : List (List ℕ)) (rest : List ℕ) → CommitsLast true lines rest → 0 < length lines
committed lines rest (front, line, is, others, commit, empty) =
    let long : length lines ≡ length (front ++ line ∷ []) = ap length is in
    omega (arith, long, length-append front (line ∷ []))

module _ {S : Type 0} (allows : S → Call → S → Type 0) (waits : ℕ) where
  -- a part of a line has come behind a step, where one had before it
  pub step-part : (before after : S) (talk talks : TalkState) (bytes text : List ℕ) (is_commit : Bool) → IsPartOfLine talk.line → Steps allows waits before talk bytes after talks text is_commit → IsPartOfLine talks.line
  step-part before after talk talks bytes text is_commit (come, none, kept) steps =
      let h = steps.hears come none kept in
      (h.rest, h.splits.last, h.kept)

  -- a step answers no more lines than it takes bytes
  pub step-few : (before after : S) (talk talks : TalkState) (bytes text : List ℕ) (taken : ℕ) (is_commit : Bool) → IsPartOfLine talk.line → Steps allows waits before talk (take taken bytes) after talks text is_commit
      → talks.served.lines ≤ talk.served.lines + taken
  step-few before after talk talks bytes text taken is_commit (come, none, kept) steps =
      let h = steps.hears come none kept in
      omega (arith, h.lines_are, further-few come (take taken bytes) h.lines h.rest none h.splits, length-take taken bytes)

  -- a step whose replies are some, or that is behind a commit, takes some bytes
  step-replied : (before after : S) (talk talks : TalkState) (bytes text : List ℕ) (taken : ℕ) (is_commit : Bool) → IsPartOfLine talk.line → Steps allows waits before talk (take taken bytes) after talks text is_commit
      → 0 < length text → 0 < taken
  step-replied before after talk talks bytes text taken is_commit (come, none, kept) steps some =
      let h = steps.hears come none kept in
      omega (arith, further-few come (take taken bytes) h.lines h.rest none h.splits, replied waits talk.last talks.last h.lines h.calls h.replies text h.answered h.says some, length-take taken bytes)

  step-committed : (before after : S) (talk talks : TalkState) (bytes text : List ℕ) (taken : ℕ) → IsPartOfLine talk.line → Steps allows waits before talk (take taken bytes) after talks text true → 0 < taken
  step-committed before after talk talks bytes text taken (come, none, kept) steps =
      let h = steps.hears come none kept in
      omega (arith, further-few come (take taken bytes) h.lines h.rest none h.splits, committed h.lines h.rest h.commits, length-take taken bytes)

  -- the replies of a step that finds none before it are its own
  pub own_text : (before after : S) (talk talks : TalkState) (bytes had has : List ℕ) (is_commit : Bool) → had ≡ [] → (steps : StepsTo allows waits before talk bytes had after talks has is_commit) → has ≡ steps.text
  own_text before after talk talks bytes had has is_commit none steps = steps.put ∙ ap (λ l. l ++ steps.text) none

  -- a step over some bytes takes some, where no more lines are answered than can be counted
  pub step-some : (before after : S) (talk talks : TalkState) (bytes had has : List ℕ) (taken : ℕ) (why : Stop) → had ≡ [] → 0 < length bytes → IsPartOfLine talk.line → talk.served.lines + length bytes < 2 ^ 64
      → StepsTo allows waits before talk (take taken bytes) had after talks has (is_behind_commit why) → StopsAt why bytes taken has talks → 0 < taken
  step-some before after talk talks bytes had has taken stop.Heard none some part room steps stops = omega (arith, stops, some)
  step-some before after talk talks bytes had has taken stop.Commit none some part room steps stops = step-committed before after talk talks bytes steps.text taken part steps.steps
  step-some before after talk talks bytes had has taken stop.Full none some part room steps stops =
      let same : length has ≡ length steps.text = ap length (own_text before after talk talks (take taken bytes) had has false none steps) in
      step-replied before after talk talks bytes steps.text taken false part steps.steps (omega (arith, same, stops.1.1))
  step-some before after talk talks bytes had has taken stop.Spent none some part room steps stops =
      absurd (omega (arith, step-few before after talk talks bytes steps.text taken false part steps.steps, stops.0, stops.1.1, room))

  -- a step, of whose replies a front was written
  pub steps-cut : (took takes : Option (List ℕ)) (mid after : S) (talk talks : TalkState) (bytes text : List ℕ) (taken n : ℕ) (is_commit : Bool)
      → Steps allows waits mid talk (take taken bytes) after talks text is_commit
      → 0 < length text
      → Appends took takes (take n text)
      → StepsCut allows waits took mid talk bytes takes after talks
  steps-cut took takes mid after talk talks bytes text taken n is_commit steps some written =
      record {
        own = take taken bytes;
        unheard = drop taken bytes;
        bytes_are = sym (take-append-drop taken bytes);
        text = text;
        is_commit = is_commit;
        steps = steps;
        front = take n text;
        cut = drop n text;
        some = some;
        text_is = sym (take-append-drop n text);
        written = written;
      }
