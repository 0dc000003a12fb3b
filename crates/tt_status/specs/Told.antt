-- What stands in a line beside the fields of its event.
use Rattle.std.specs.Prelude.{codes, ℕ, ◌&&◌, ◌==◌, nat_lt, nat_eq, Bool, not, if◌then◌else◌, List, [], ◌++◌, length}
use Rattle.std.specs.List.{list_all}
use Rattle.tt_status.specs.declared.lines.LogFormat.{LogFormat}
use Rattle.tt_status.specs.declared.lines.LogFormat.TheVariants.{Text, Json}

-- a byte from `least` on that is no quotation mark and no backslash
abbrev pub is_plain_byte : ℕ → ℕ → Bool
is_plain_byte least byte = not (nat_lt byte least) && not (nat_eq byte 34) && not (nat_eq byte 92)

-- all of it is plain, and there is something
abbrev pub is_plain : ℕ → List ℕ → Bool
is_plain least bytes = list_all (is_plain_byte least) bytes && not (length bytes == 0)

-- words between quotation marks, behind the name `text`
abbrev pub words_field : LogFormat → List ℕ → List ℕ
words_field Text words = codes " text=\"" ++ words ++ codes "\""
words_field Json words = codes ",\"text\":\"" ++ words ++ codes "\""

-- words, if they are plain: a space is
abbrev pub words_text : LogFormat → List ℕ → List ℕ
words_text f words = if is_plain 32 words then words_field f words else []

-- an address, behind the name `address`
abbrev pub place_field : LogFormat → List ℕ → List ℕ
place_field Text address = codes " address=" ++ address
place_field Json address = codes ",\"address\":\"" ++ address ++ codes "\""

-- an address, if it is plain: a space is not
abbrev pub place_text : LogFormat → List ℕ → List ℕ
place_text f address = if is_plain 33 address then place_field f address else []
