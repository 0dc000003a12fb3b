-- Paths, as far as their texts tell which files they name.
use Rattle.std.specs.Prelude.{codes, ℕ, Bool, false, ◌||◌, nat_eq, if◌then◌else◌, List, [], ◌∷◌, ◌++◌, Option, Some, None}
use Rattle.std.specs.Cmp.Lexicographic.{pointwise}
use Rattle.tt_settings.specs.declared.paths.Place.{Place}
use Rattle.tt_settings.specs.declared.paths.Place.TheVariants.{Start, Dot, Inside}

-- what a byte adds to the names before it: no second slash, and no name that is a dot alone
abbrev pub written : Place → ℕ → List ℕ
written Start b = if nat_eq b 47 then [] else (if nat_eq b 46 then [] else b ∷ [])
written Dot b = if nat_eq b 47 then [] else 46 ∷ b ∷ []
written Inside b = b ∷ []

-- where the next byte stands: at the start of a name, behind a dot that begins one, or inside it
abbrev pub next_of : Place → ℕ → Place
next_of Start b = if nat_eq b 47 then Start else (if nat_eq b 46 then Dot else Inside)
next_of Dot b = if nat_eq b 47 then Start else Inside
next_of Inside b = if nat_eq b 47 then Start else Inside

-- what the end of the path adds: the slash behind the last name
abbrev pub closing : Place → List ℕ
closing Start = []
closing Dot = []
closing Inside = 47 ∷ []

-- the names of the rest of a path, each with a slash behind it
abbrev pub walked : Place → List ℕ → List ℕ
walked place [] = closing place
walked place (b ∷ rest) = written place b ++ walked (next_of place b) rest

-- the slash at the beginning of a path
abbrev pub front : List ℕ → List ℕ
front [] = []
front (b ∷ rest) = if nat_eq b 47 then 47 ∷ [] else []

-- a path without doubled slashes and names that are a dot alone, and with one slash at its end
abbrev pub plain : List ℕ → List ℕ
plain path = front path ++ walked Start path

-- two paths name the same file, by their texts
unfoldable pub is_same : List ℕ → List ℕ → Bool
is_same one other = pointwise nat_eq (plain one) (plain other)

-- a file is the one at a path, its draft or its lock
unfoldable pub is_of : List ℕ → List ℕ → Bool
is_of path file = is_same path file || (is_same (path ++ codes ".new") file || is_same (path ++ codes ".lock") file)

-- two paths, with their drafts and locks, have a file in common
unfoldable pub meets : List ℕ → List ℕ → Bool
meets path other = is_of path other || (is_of path (other ++ codes ".new") || is_of path (other ++ codes ".lock"))

-- a path, with its draft and its lock, and a file with its draft have one in common
unfoldable pub meets_record : List ℕ → List ℕ → Bool
meets_record path file = is_of path file || is_of path (file ++ codes ".new")

-- a path, with its draft and its lock, and the folder of the epoch, with the files in it, have one in common
unfoldable pub meets_state : List ℕ → List ℕ → Bool
meets_state path state =
    is_of path state
    || (meets_record path (state ++ codes "/epoch") || (meets_record path (state ++ codes "/break") || is_of path (state ++ codes "/lock")))

-- the same, with a path that may be absent
abbrev pub meets_some : List ℕ → Option (List ℕ) → Bool
meets_some path None = false
meets_some path (Some other) = meets path other
