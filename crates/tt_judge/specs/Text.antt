-- The answer of the judge as text.
use Rattle.std.specs.Prelude.{ℕ, ◌+◌, List, [], ◌∷◌, ◌++◌, Option, Some, None, codes}
use Rattle.tt_text.specs.Line.{line_of}
use Rattle.tt_judge.specs.declared.judging.Violation.{Violation}
use Rattle.tt_judge.specs.declared.judging.Judgement.{Judgement}
use Rattle.tt_judge.specs.declared.terms.TermJudgement.{TermJudgement}

-- the line of a first violation, if there is one: the word, and the lines of the two commits, counted from 1
abbrev pub first_text : List ℕ → Option Violation → List ℕ
first_text word None = []
first_text word (Some violation) = line_of word ((violation.later + 1) ∷ (violation.earlier + 1) ∷ [])

-- the line of a count, and that of the first, if there is one
abbrev pub count_text : List ℕ → ℕ → List ℕ → Option Violation → List ℕ
count_text word count first_word first = line_of word (count ∷ []) ++ first_text first_word first

-- the lines of the judgement of terms, if some commit names a shard
abbrev pub terms_text : Option TermJudgement → List ℕ
terms_text None = []
terms_text (Some judgement) = count_text (codes "term_violations") judgement.terms.count (codes "first_term") judgement.terms.first
    ++ count_text (codes "equal_stamps") judgement.stamps.count (codes "first_equal") judgement.stamps.first

-- the text of a judgement
abbrev pub text_of : Judgement → Option TermJudgement → List ℕ
text_of judgement terms = line_of (codes "commits") (judgement.commits ∷ [])
    ++ (count_text (codes "violations") judgement.violations (codes "first") judgement.first ++ terms_text terms)
