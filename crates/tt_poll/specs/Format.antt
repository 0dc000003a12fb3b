-- The two formats of poll messages: TTP1, and TTP2, whose messages have an epoch too.
use Rattle.std.specs.Prelude.{ℕ, ◌+◌, List, codes, ◌==◌, nat_eq, if◌then◌else◌}
use Rattle.std.specs.List.{starts_with}
use Rattle.tt_poll.specs.declared.format.Format.{Format}
use Rattle.tt_poll.specs.declared.format.Format.TheVariants.{Ttp1, Ttp2}

-- the four bytes that each message of the format begins with
abbrev pub magic_of : Format → List ℕ
magic_of Ttp1 = codes "TTP1"
magic_of Ttp2 = codes "TTP2"

-- the format in which bytes are read: TTP2 where they begin with its four bytes, else TTP1
abbrev pub format_of : List ℕ → Format
format_of bytes = if starts_with nat_eq bytes (magic_of Ttp2) then Ttp2 else Ttp1

-- how many bytes a request has
abbrev pub request_len_of : Format → ℕ
request_len_of Ttp1 = 16
request_len_of Ttp2 = 24

-- how many bytes an answer has: those of a request, and eight for each end of its span
abbrev pub answer_len_of : Format → ℕ
answer_len_of format = request_len_of format + 16

-- the kind that messages of this length have: 1 for a request, 2 for an answer
abbrev pub kind_of : Format → ℕ → ℕ
kind_of format len = if len == request_len_of format then 1 else 2
