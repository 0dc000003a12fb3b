-- What a line asks for, and its one spelling.
use Rattle.std.specs.Prelude.{◌≡◌, ◌≢◌, ℕ, Bool, true, false, List, [], ◌∷◌, codes, Option, Some, None}
use Rattle.tt_text.specs.Line.{line_of}
use Rattle.tt_text.specs.Reading.{IsNumber}
use Rattle.tt_session.specs.declared.requests.Request.{Request}
use Rattle.tt_session.specs.declared.requests.Request.TheVariants.{Now, After, Before, Commit, Lease}

-- the words of requests
abbrev pub now_word : List ℕ
now_word = codes "now"

abbrev pub after_word : List ℕ
after_word = codes "after"

abbrev pub before_word : List ℕ
before_word = codes "before"

abbrev pub commit_word : List ℕ
commit_word = codes "commit"

abbrev pub lease_word : List ℕ
lease_word = codes "lease"

-- the one spelling of a request, with its line feed
abbrev pub spelling_of : Request → List ℕ
spelling_of Now = line_of now_word []
spelling_of (After t) = line_of after_word (t ∷ [])
spelling_of (Before t) = line_of before_word (t ∷ [])
spelling_of (Commit number floor) = line_of commit_word (number ∷ floor ∷ [])
spelling_of (Lease lo hi) = line_of lease_word (lo ∷ hi ∷ [])

-- the numbers of the request fit a line
abbrev pub IsRequest : Request → Type 0
IsRequest Now = Unit {0}
IsRequest (After t) = IsNumber t
IsRequest (Before t) = IsNumber t
IsRequest (Commit number floor) = IsNumber number × IsNumber floor
IsRequest (Lease lo hi) = IsNumber lo × IsNumber hi

-- whether the request is a commit
abbrev pub is_commit : Request → Bool
is_commit (Commit number floor) = true
is_commit _ = false

-- a line, given with its line feed, spells this request, or none
abbrev pub Spells : List ℕ → Option Request → Type 0
Spells ended None = (request : Request) → IsRequest request → ended ≢ spelling_of request
Spells ended (Some request) = IsRequest request × (ended ≡ spelling_of request)
