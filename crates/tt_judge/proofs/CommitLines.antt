-- The lines of commits, read one after another.
use Rattle.std.proofs.Common.{◌≡◌, ℕ, ◌+◌, ◌<◌, ◌≤◌, List, [], ◌∷◌, ◌++◌, length, sym, ◌∙◌, ap, refl, arith, append_assoc, length-append}
use Rattle.std.specs.Prelude.{All, Option, Some, None, MatchOption}
use Rattle.std.proofs.lemmas.List.{append-nil, flat_map_more}
use Rattle.std.proofs.lemmas.List.Elements.{All-head, All-tail, All-nil, All-cons, All-push}
use Rattle.tt_text.specs.Line.{numbers_text}
use Rattle.tt_text.specs.Reading.{ReadsNothing, Reads, Anything, IsNumber, AreNumbers}
use Rattle.tt_judge.specs.declared.history.Line.{Line}
use Rattle.tt_judge.specs.declared.history.ShardTerm.{ShardTerm}
use Rattle.tt_judge.specs.declared.history.Commit.{Commit}
use Rattle.tt_judge.specs.HistoryText.{commit_word, numbers_of, term_numbers, IsShardTerm, commit_line, history_text, IsLine, IsHistoryText, IsNoHistoryText, IsFirstBadLine, BeginsWithCommit}

-- the numbers of a shard and a term fit a line, and no others have them
AreNumbers-term_numbers : (of : Option ShardTerm) → MatchOption of (0 ≤ 0) IsShardTerm → (length (term_numbers of) ≤ 2) × All IsNumber (term_numbers of)
AreNumbers-term_numbers None h = (omega arith, All-nil IsNumber)
AreNumbers-term_numbers (Some of) h =
    let shard : IsNumber of.shard = h.shard_fits in
    let term : IsNumber of.term = h.term_fits in
    (omega arith, All-cons IsNumber of.shard (of.term ∷ []) shard (All-cons IsNumber of.term [] term (All-nil IsNumber)))

one-term_numbers : (a b : Option ShardTerm) → term_numbers a ≡ term_numbers b → a ≡ b
one-term_numbers None None e = refl
one-term_numbers None (Some b) e = absurd (omega (arith, ap length e))
one-term_numbers (Some a) None e = absurd (omega (arith, ap length e))
one-term_numbers (Some a) (Some b) e =
    let shard_same : a.shard ≡ b.shard = cc in
    let term_same : a.term ≡ b.term = cc in
    let made : ℕ → ℕ → Option ShardTerm = λ shard term. Some (record { shard = shard; term = term }) in
    ap (λ shard. made shard a.term) shard_same ∙ ap (λ term. made b.shard term) term_same

-- the numbers of a commit fit a line, and no other commit has them
pub AreNumbers-numbers_of : (line : Line) → IsLine line → AreNumbers (numbers_of line)
AreNumbers-numbers_of line h =
    let commit : Commit = line.commit in
    let ordered : commit.began ≤ commit.ended = h.ordered in
    let ended : IsNumber commit.ended = h.ended_fits in
    let stamp : IsNumber commit.stamp = h.stamp_fits in
    let of = AreNumbers-term_numbers line.term h.term_fits in
    let more : List ℕ = term_numbers line.term in
    (omega (arith, of.0), All-cons IsNumber commit.began (commit.ended ∷ commit.stamp ∷ more) (omega arith) (All-cons IsNumber commit.ended (commit.stamp ∷ more) ended (All-cons IsNumber commit.stamp more stamp of.1)))

pub one-numbers_of : (a b : Line) → numbers_of a ≡ numbers_of b → a ≡ b
one-numbers_of a b e =
    let began_same : a.commit.began ≡ b.commit.began = cc in
    let ended_same : a.commit.ended ≡ b.commit.ended = cc in
    let stamp_same : a.commit.stamp ≡ b.commit.stamp = cc in
    let more : term_numbers a.term ≡ term_numbers b.term = cc in
    let term_same : a.term ≡ b.term = one-term_numbers a.term b.term more in
    let made : ℕ → ℕ → ℕ → Option ShardTerm → Line = λ began ended stamp term. record { commit = record { began = began; ended = ended; stamp = stamp }; term = term } in
    ap (λ began. made began a.commit.ended a.commit.stamp a.term) began_same ∙ (ap (λ ended. made b.commit.began ended a.commit.stamp a.term) ended_same
    ∙ (ap (λ stamp. made b.commit.began b.commit.ended stamp a.term) stamp_same ∙ ap (λ term. made b.commit.began b.commit.ended b.commit.stamp term) term_same))

-- some commits are found, and what is left are the lines of the others
pub record AreFoundSoFar (text : List ℕ) (found : List Line) (rest : List ℕ) : Type 0 where
  pub fits : All IsLine found
  pub is : text ≡ history_text found ++ rest
  pub only : (commits : List Line) → All IsLine commits → text ≡ history_text commits →
      (others : List Line) × All IsLine others × (commits ≡ found ++ others) × (rest ≡ history_text others)

pub some-line : (commit : Line) → 0 < length (commit_line commit)
some-line commit =
    omega (arith, length-append commit_word (numbers_text (numbers_of commit)))

module _ (text : List ℕ) where
  pub AreFoundSoFar-none : AreFoundSoFar text [] text
  AreFoundSoFar-none = record {
    fits = All-nil IsLine;
    is = refl;
    only = λ commits fits is. (commits, fits, refl, is);
  }

  module _ (found : List Line) (rest : List ℕ) (so_far : AreFoundSoFar text found rest) where
    -- one more line
    pub AreFoundSoFar-push : (commit : Line) (next : List ℕ) → 0 < length rest → Reads commit_line IsLine Anything rest commit next → AreFoundSoFar text (found ++ commit ∷ []) next
    AreFoundSoFar-push commit next more h =
        let one : history_text (found ++ commit ∷ []) ≡ history_text found ++ commit_line commit = sym (flat_map_more commit_line [] found commit) in
        record {
          fits = All-push IsLine found commit so_far.fits h.fits;
          is = so_far.is ∙ (ap (λ r. history_text found ++ r) h.is ∙ (sym (append_assoc (history_text found) (commit_line commit) next) ∙ ap (λ b. b ++ next) (sym one)));
          only = λ commits fits is. split commits (so_far.only commits fits is);
        }
      where
        split : (commits : List Line) → (others : List Line) × All IsLine others × (commits ≡ found ++ others) × (rest ≡ history_text others) → (others : List Line) × All IsLine others × (commits ≡ (found ++ commit ∷ []) ++ others) × (next ≡ history_text others)
        split commits ([], fits, same, is) = absurd (omega (arith, more, ap length is))
        split commits (w ∷ ws, fits, same, is) =
            let both = h.only w (history_text ws) (All-head IsLine w ws fits) tt is in
            (ws, All-tail IsLine w ws fits, same ∙ (ap (λ u. found ++ u ∷ ws) both.0 ∙ sym (append_assoc found (commit ∷ []) ws)), sym both.1)

    -- at least one line
    pub BeginsWithCommit-read : (commit : Line) (next : List ℕ) → Reads commit_line IsLine Anything rest commit next → BeginsWithCommit text
    BeginsWithCommit-read commit next h = first found so_far
      where
        first : (found : List Line) → AreFoundSoFar text found rest → BeginsWithCommit text
        first [] so_far = (commit, next, h.fits, so_far.is ∙ h.is)
        first (w ∷ ws) so_far =
            (w, history_text ws ++ rest, All-head IsLine w ws so_far.fits, so_far.is ∙ append_assoc (commit_line w) (history_text ws) rest)

    -- a line that is none
    pub IsFirstBadLine-found : (line : ℕ) → line ≡ length found + 1 → 0 < length rest → ReadsNothing commit_line IsLine Anything rest → IsFirstBadLine text line
    IsFirstBadLine-found line counted more none = record {
      before = found;
      rest = rest;
      lines_are = so_far.fits;
      is = so_far.is;
      counted = counted;
      more = more;
      bad = none;
    }

    pub IsNoHistoryText-bad_line : 0 < length rest → ReadsNothing commit_line IsLine Anything rest → IsNoHistoryText text
    IsNoHistoryText-bad_line more none commits h = bad (so_far.only commits h.lines_are h.is)
      where
        bad : (others : List Line) × All IsLine others × (commits ≡ found ++ others) × (rest ≡ history_text others) → ⊥
        bad ([], fits', same, is') = omega (arith, more, ap length is')
        bad (w ∷ ws, fits', same, is') = none w (history_text ws) (All-head IsLine w ws fits') tt is'

    -- the end of the lines
    pub IsHistoryText-end : rest ≡ [] → IsHistoryText text found
    IsHistoryText-end end = record {
      lines_are = so_far.fits;
      is = so_far.is ∙ (ap (λ r. history_text found ++ r) end ∙ append-nil (history_text found));
    }

    pub only-end : rest ≡ [] → (others : List Line) → IsHistoryText text others → others ≡ found
    only-end end commits h = last commits (so_far.only commits h.lines_are h.is)
      where
        last : (commits : List Line) → (others : List Line) × All IsLine others × (commits ≡ found ++ others) × (rest ≡ history_text others) → commits ≡ found
        last commits ([], fits', same, is') = same ∙ append-nil found
        last commits (w ∷ ws, fits', same, is') =
            absurd (omega (arith, some-line w, length-append (commit_line w) (history_text ws), ap length (sym is' ∙ end)))
