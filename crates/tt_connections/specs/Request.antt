-- Which lines are the first ones of HTTP requests.
use Rattle.std.specs.Prelude.{codes, ℕ, ◌-◌, ◌++◌, nat_eq, min, ◌||◌, if◌then◌else◌, Bool, List, [], ◌∷◌, length, take, drop, replicate}
use Rattle.std.specs.List.{ends_with}

-- a line without the carriage return that ends it, if one does
abbrev pub without_return : List ℕ → List ℕ
without_return line = if ends_with nat_eq line (13 ∷ []) then take (length line - 1) line else line

-- a line ends in the name of a version of HTTP, with a space before it
abbrev pub names_version : List ℕ → Bool
names_version line =
    ends_with nat_eq line (codes " HTTP/1.1") || ends_with nat_eq line (codes " HTTP/1.0") || ends_with nat_eq line (codes " HTTP/2.0")

-- a line, without its line feed, is the first one of an HTTP request
abbrev pub is_request_line : List ℕ → Bool
is_request_line line = names_version (without_return line)

-- the last ten bytes of a line of which nothing has come
abbrev pub no_bytes : List ℕ
no_bytes = replicate 10 0

-- the last ten bytes of a line that had these and goes on with others
abbrev pub end_behind : List ℕ → List ℕ → List ℕ
end_behind end bytes = drop (min (length bytes) 10) end ++ drop (length bytes - min (length bytes) 10) bytes
