-- What a line is answered, and its text.
use Rattle.std.specs.Prelude.{ℕ, Bool, true, false, List, [], ◌∷◌, codes}
use Rattle.tt_text.specs.Line.{line_of, ends_of}
use Rattle.tt_session.specs.declared.replies.LineReply.{LineReply}
use Rattle.tt_session.specs.declared.replies.LineReply.TheVariants.{Now, Yes, No, Committed, Waiting, Leased, Refused}

-- the line of a reply, with its line feed
abbrev pub text_of : LineReply → List ℕ
text_of (Now reading) = line_of (codes "now") (ends_of reading)
text_of Yes = line_of (codes "yes") []
text_of No = line_of (codes "no") []
text_of (Committed number stamp) = line_of (codes "committed") (number ∷ stamp ∷ [])
text_of (Waiting number stamp) = line_of (codes "waiting") (number ∷ stamp ∷ [])
text_of (Leased lo hi) = line_of (codes "leased") (lo ∷ hi ∷ [])
text_of (Refused number) = line_of (codes "refused") (number ∷ [])

-- whether the reply is a refusal
abbrev pub is_refused : LineReply → Bool
is_refused (Refused number) = true
is_refused _ = false
