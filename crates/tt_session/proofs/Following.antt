-- Steps of a session, one after the other, and what they are behind a session so far.
use Rattle.std.proofs.Common.{◌≡◌, ◌≢◌, ℕ, Bool, true, false, ◌+◌, ◌<◌, ◌≤◌, if◌then◌else◌, List, [], ◌∷◌, ◌++◌, length, Option, None, inl, inr, refl, sym, ap, ◌∙◌, subst, arith, append_assoc, append-nil, add-zero, zero-add, take, get_or}
use Rattle.std.specs.Prelude.{MatchBool, count_by}
use Rattle.std.specs.List.{flat_map}
use Rattle.std.proofs.lemmas.Grind.{flat_map-append}
use Rattle.std.proofs.lemmas.List.{length-append, take_more}
use Rattle.std.proofs.lemmas.List.Elements.{All-nil, All-cons, All-append}
use Rattle.std.proofs.lemmas.List.Sums.{sum_by-append}
use Rattle.tt_session.specs.Lines.{max_line, ended}
use Rattle.tt_session.specs.Conversation.{Talked}
use Rattle.tt_session.specs.Answers.{AnswersLine, AnswersLines}
use Rattle.tt_session.specs.Replies.{text_of, is_refused}
use Rattle.tt_session.specs.Requests.{Spells}
use Rattle.tt_session.specs.Talks.{TalkState, IsKept, Stands, first_talk}
use Rattle.tt_session.specs.Steps.{IsCommitLine, HaveNoCommit, CommitsLast, Steps, StepsTo}
use Rattle.tt_session.specs.declared.begun.Begun.{Begun}
use Rattle.tt_session.specs.declared.calls.Call.{Call}
use Rattle.tt_session.specs.declared.replies.LineReply.{LineReply}
use Rattle.tt_session.specs.declared.requests.Request.TheVariants.{Commit}
use Rattle.tt_session.proofs.Talking.{Conversation-append}
use Rattle.tt_session.proofs.Splitting.{Splits-nil, Splits-rest, Splits-kept, Splits-ended, Splits-append}

-- one line is answered
AnswersLines-one : (waits : ℕ) (last after : Option Begun) (line : List ℕ) (calls : List Call) (reply : LineReply)
    → AnswersLine waits last line calls reply after → AnswersLines waits last (line ∷ []) calls (reply ∷ []) after
AnswersLines-one waits last after line calls reply answered = (calls, [], after, sym (append-nil calls), answered, (refl, refl))

-- further lines are answered
pub AnswersLines-append : (waits : ℕ) (lines more : List (List ℕ)) (calls later : List Call) (replies others : List LineReply) (last mid after : Option Begun)
    → AnswersLines waits last lines calls replies mid → AnswersLines waits mid more later others after
    → AnswersLines waits last (lines ++ more) (calls ++ later) (replies ++ others) after
AnswersLines-append waits [] more calls later [] others last mid after so_far next =
    let called : calls ≡ [] = so_far.0 in
    rw called (subst (λ l. AnswersLines waits l more later others after) so_far.1 next)
AnswersLines-append waits [] more calls later (r ∷ replies) others last mid after so_far next = absurd so_far
AnswersLines-append waits (l ∷ lines) more calls later [] others last mid after so_far next = absurd so_far
AnswersLines-append waits (l ∷ lines) more calls later (r ∷ replies) others last mid after so_far next =
    let (first, behind, kept, is, answered, rest) = so_far in (
      first,
      behind ++ later,
      kept,
      ap (λ c. c ++ later) is ∙ append_assoc first behind later,
      answered,
      AnswersLines-append waits lines more behind later replies others kept mid after rest next,
    )

-- refusals of further replies are counted
pub refused-append : (replies others : List LineReply) → count_by is_refused (replies ++ others) ≡ count_by is_refused replies + count_by is_refused others
refused-append replies others = sum_by-append (λ r. if is_refused r then 1 else 0) replies others

-- texts of further replies
pub texts-append : (told text : List ℕ) (replies others : List LineReply) → told ≡ flat_map text_of replies → text ≡ flat_map text_of others → told ++ text ≡ flat_map text_of (replies ++ others)
texts-append told text replies others one two =
    ap (λ l. l ++ text) one ∙ ap (λ l. flat_map text_of replies ++ l) two ∙ sym (flat_map-append text_of replies others)

-- further lines, of which the last may be that of a commit
CommitsLast-append : (is_commit : Bool) (lines more : List (List ℕ)) (rest : List ℕ) → HaveNoCommit lines → CommitsLast is_commit more rest → CommitsLast is_commit (lines ++ more) rest
CommitsLast-append false lines more rest none commits = All-append (λ line. ¬ IsCommitLine line) lines more none commits
CommitsLast-append true lines more rest none commits =
    let (front, line, is, others, commit, empty) = commits in
    (lines ++ front, line, ap (λ l. lines ++ l) is ∙ sym (append_assoc lines front (line ∷ [])), All-append (λ line. ¬ IsCommitLine line) lines front none others, commit, empty)

-- a single line
CommitsLast-one : (is_commit : Bool) (line : List ℕ) → MatchBool is_commit (IsCommitLine line) (¬ IsCommitLine line) → CommitsLast is_commit (line ∷ []) []
CommitsLast-one false line other = All-cons (λ line. ¬ IsCommitLine line) line [] other (All-nil (λ line. ¬ IsCommitLine line))
CommitsLast-one true line commit = ([], line, refl, All-nil (λ line. ¬ IsCommitLine line), commit, refl)

-- nothing is kept of a line only if nothing of it has come
pub kept_nothing : (kept bytes : List ℕ) → kept ≡ [] → IsKept kept bytes → bytes ≡ []
kept_nothing kept bytes empty (inl whole) = sym whole.0 ∙ empty
kept_nothing kept bytes empty (inr long) =
    let none : length kept ≡ 0 = ap length empty in
    let long_kept = long.0 in
    absurd (omega arith)

-- what is no request is not the line of a commit
pub none_commits : (is_commit : Bool) (kept heard bytes : List ℕ) → is_commit ≡ false → length kept ≤ max_line → heard ≡ ended kept → Spells heard None → IsKept kept bytes
    → MatchBool is_commit (IsCommitLine bytes) (¬ IsCommitLine bytes)
none_commits is_commit kept heard bytes unset short is none (inl whole) =
    rw unset (λ (commit : IsCommitLine bytes). let (fits, number, floor, spells) = commit in none (Commit number floor) spells.0 (is ∙ ap ended whole.0 ∙ spells.1))
none_commits is_commit kept heard bytes unset short is none (inr long) =
    let long_kept = long.0 in
    absurd (omega arith)

module _ {S : Type 0} (allows : S → Call → S → Type 0) (waits : ℕ) where
  -- no bytes
  pub Steps-nil : (service : S) (talk : TalkState) → Steps allows waits service talk [] service talk [] false
  Steps-nil service talk =
      record {
        hears = λ come no_end kept.
            record {
              lines = [];
              calls = [];
              replies = [];
              rest = come;
              splits = rw (append-nil come) (Splits-rest come no_end);
              talked = refl;
              answered = (refl, refl);
              says = refl;
              lines_are = sym (add-zero talk.served.lines);
              refused_are = sym (add-zero talk.served.refused);
              kept = kept;
              commits = All-nil (λ line. ¬ IsCommitLine line);
            };
      }

  -- a byte of a line
  pub Steps-kept : (service : S) (talk keeps : TalkState) (b : ℕ) → b ≢ 10 → keeps ≡ record talk { line = keeps.line }
      → ((bytes : List ℕ) → IsKept talk.line bytes → IsKept keeps.line (bytes ++ b ∷ []))
      → Steps allows waits service talk (b ∷ []) service keeps [] false
  Steps-kept service talk keeps b other same had =
      record {
        hears = λ come no_end kept.
            record {
              lines = [];
              calls = [];
              replies = [];
              rest = come ++ b ∷ [];
              splits = Splits-kept come [] come b other (Splits-rest come no_end);
              talked = refl;
              answered = (refl, ap (λ (t : TalkState). t.last) same);
              says = refl;
              lines_are = ap (λ (t : TalkState). t.served.lines) same ∙ sym (add-zero talk.served.lines);
              refused_are = ap (λ (t : TalkState). t.served.refused) same ∙ sym (add-zero talk.served.refused);
              kept = had come kept;
              commits = All-nil (λ line. ¬ IsCommitLine line);
            };
      }

  -- a line feed
  pub Steps-answered : (mid after : S) (talk answers : TalkState) (reply : LineReply) (is_commit : Bool)
      → ((bytes : List ℕ) → IsKept talk.line bytes → Talked allows mid after (λ calls. AnswersLine waits talk.last bytes calls reply answers.last))
      → ((bytes : List ℕ) → IsKept talk.line bytes → MatchBool is_commit (IsCommitLine bytes) (¬ IsCommitLine bytes))
      → answers.line ≡ []
      → answers.served.lines ≡ talk.served.lines + 1
      → answers.served.refused ≡ talk.served.refused + (if is_refused reply then 1 else 0)
      → Steps allows waits mid talk (10 ∷ []) after answers (text_of reply) is_commit
  Steps-answered mid after talk answers reply is_commit answered commit empty lines refused =
      record {
        hears = λ come no_end kept.
            let t = answered come kept in
            record {
              lines = come ∷ [];
              calls = t.calls;
              replies = reply ∷ [];
              rest = [];
              splits = Splits-ended come [] come (Splits-rest come no_end);
              talked = t.talked;
              answered = AnswersLines-one waits talk.last answers.last come t.calls reply t.holds;
              says = sym (append-nil (text_of reply));
              lines_are = lines;
              refused_are = refused ∙ ap (λ n. talk.served.refused + n) (sym (zero-add (if is_refused reply then 1 else 0)));
              kept = inl (empty, omega arith);
              commits = CommitsLast-one is_commit come (commit come kept);
            };
      }

  -- a step in which no commit was answered, and another one
  pub Steps-trans : (before mid after : S) (talk talks talked : TalkState) (xs ys one two : List ℕ) (is_commit : Bool)
      → Steps allows waits before talk xs mid talks one false → Steps allows waits mid talks ys after talked two is_commit
      → Steps allows waits before talk (xs ++ ys) after talked (one ++ two) is_commit
  Steps-trans before mid after talk talks talked xs ys one two is_commit first second =
      record {
        hears = λ come no_end kept.
            let a = first.hears come no_end kept in
            let b = second.hears a.rest a.splits.last a.kept in
            record {
              lines = a.lines ++ b.lines;
              calls = a.calls ++ b.calls;
              replies = a.replies ++ b.replies;
              rest = b.rest;
              splits = rw (← append_assoc come xs ys) (Splits-append (come ++ xs) ys a.lines b.lines a.rest b.rest a.splits b.splits);
              talked = Conversation-append allows before mid after a.calls b.calls a.talked b.talked;
              answered = AnswersLines-append waits a.lines b.lines a.calls b.calls a.replies b.replies talk.last talks.last talked.last a.answered b.answered;
              says = texts-append one two a.replies b.replies a.says b.says;
              lines_are = omega (arith, a.lines_are, b.lines_are, length-append a.lines b.lines);
              refused_are = omega (arith, a.refused_are, b.refused_are, refused-append a.replies b.replies);
              kept = b.kept;
              commits = CommitsLast-append is_commit a.lines b.lines b.rest a.commits b.commits;
            };
      }

  -- the same with the replies that are put behind others
  pub StepsTo-nil : (service : S) (talk : TalkState) (had : List ℕ) → StepsTo allows waits service talk [] had service talk had false
  StepsTo-nil service talk had = record { text = []; steps = Steps-nil service talk; put = sym (append-nil had) }

  pub StepsTo-trans : (before mid after : S) (talk talks talked : TalkState) (xs ys had mids has : List ℕ) (is_commit : Bool)
      → StepsTo allows waits before talk xs had mid talks mids false → StepsTo allows waits mid talks ys mids after talked has is_commit
      → StepsTo allows waits before talk (xs ++ ys) had after talked has is_commit
  StepsTo-trans before mid after talk talks talked xs ys had mids has is_commit a b =
      record {
        text = a.text ++ b.text;
        steps = Steps-trans before mid after talk talks talked xs ys a.text b.text is_commit a.steps b.steps;
        put = b.put ∙ ap (λ l. l ++ b.text) a.put ∙ append_assoc had a.text b.text;
      }

  -- one more byte
  pub StepsTo-more : (before mid after : S) (talk talks talked : TalkState) (bytes : List ℕ) (i : ℕ) (had mids has : List ℕ) (answer is_commit : Bool) → i < length bytes → answer ≡ is_commit
      → StepsTo allows waits before talk (take i bytes) had mid talks mids false → StepsTo allows waits mid talks (get_or bytes i 0 ∷ []) mids after talked has answer
      → StepsTo allows waits before talk (take (i + 1) bytes) had after talked has is_commit
  StepsTo-more before mid after talk talks talked bytes i had mids has answer is_commit below is a b =
      let both = StepsTo-trans before mid after talk talks talked (take i bytes) (get_or bytes i 0 ∷ []) had mids has answer a b in
      subst (λ (c : Bool). StepsTo allows waits before talk (take (i + 1) bytes) had after talked has c) is
      (rw (take_more bytes i 0 below) both)

  -- before the first byte
  pub Stands-first : (service : S) → Stands allows waits service [] service [] first_talk
  Stands-first service =
      record {
        rest = [];
        session =
            record {
              lines = [];
              calls = [];
              replies = [];
              splits = Splits-nil;
              talked = refl;
              answered = (refl, refl);
              says = refl;
              lines_are = refl;
              refused_are = refl;
            };
        kept = inl (refl, omega arith);
      }

  -- a step behind a session so far
  pub Stands-more : (first before after : S) (past bytes told text : List ℕ) (talk talks : TalkState) (is_commit : Bool)
      → Stands allows waits first past before told talk → Steps allows waits before talk bytes after talks text is_commit
      → Stands allows waits first (past ++ bytes) after (told ++ text) talks
  Stands-more first before after past bytes told text talk talks is_commit stands steps =
      let s = stands.session in
      let h = steps.hears stands.rest s.splits.last stands.kept in
      record {
        rest = h.rest;
        session =
            record {
              lines = s.lines ++ h.lines;
              calls = s.calls ++ h.calls;
              replies = s.replies ++ h.replies;
              splits = Splits-append past bytes s.lines h.lines stands.rest h.rest s.splits h.splits;
              talked = Conversation-append allows first before after s.calls h.calls s.talked h.talked;
              answered = AnswersLines-append waits s.lines h.lines s.calls h.calls s.replies h.replies None talk.last talks.last s.answered h.answered;
              says = texts-append told text s.replies h.replies s.says h.says;
              lines_are = omega (arith, s.lines_are, h.lines_are, length-append s.lines h.lines);
              refused_are = omega (arith, s.refused_are, h.refused_are, refused-append s.replies h.replies);
            };
        kept = h.kept;
      }
