-- What an HTTP request asks for.
use Rattle.std.specs.Prelude.{codes, ◌≡◌, ◌<◌, ◌≤◌, ◌⊎◌, ◌==◌, ℕ, nat_eq, Bool, if◌then◌else◌, List, length, take, position, Option, Some, None}
use Rattle.std.specs.Cmp.Lexicographic.{pointwise}
use Rattle.httparse.specs.Grammar.{RequestHead, ReadsRequest, HasNoRequest, NeverHasRequest, MayBecomeRequest}
use Rattle.httparse.specs.Spans.{RequestOverflows}
use Rattle.tt_pages.specs.declared.requests.Page.{Page}
use Rattle.tt_pages.specs.declared.requests.Page.TheVariants.{Start, Metrics, Evidence, Health}
use Rattle.tt_pages.specs.declared.requests.Wanted.{Wanted}
use Rattle.tt_pages.specs.declared.requests.Wanted.TheVariants.{Whole, Head, OtherMethod}
use Rattle.tt_pages.specs.declared.requests.Asked.{Asked}
use Rattle.tt_pages.specs.declared.requests.Asked.TheVariants.{Wants, Invalid, TooLong}

-- the byte is a question mark
abbrev pub is_mark : ℕ → Bool
is_mark byte = byte == 63

-- the bytes before this place, or all of them
abbrev pub before : Option ℕ → List ℕ → List ℕ
before (Some place) bytes = take place bytes
before None bytes = bytes

-- the path of a target: what stands before its first question mark
abbrev pub path_of : List ℕ → List ℕ
path_of target = before (position is_mark target) target

-- the page at a path
abbrev pub page_named : List ℕ → Option Page
page_named path =
    if pointwise nat_eq path (codes "/") then Some Start
    else if pointwise nat_eq path (codes "/metrics") then Some Metrics
    else if pointwise nat_eq path (codes "/evidence") then Some Evidence
    else if pointwise nat_eq path (codes "/health") then Some Health
    else None

-- what a request of this method and this target is for
abbrev pub wanted_by : List ℕ → List ℕ → Wanted
wanted_by method target =
    if pointwise nat_eq method (codes "GET") then Whole (page_named (path_of target))
    else if pointwise nat_eq method (codes "HEAD") then Head (page_named (path_of target))
    else OtherMethod

-- the bytes are no whole head so far, may become one, and are not too many
pub record Goes (bytes : List ℕ) : Type 0 where
  pub none : HasNoRequest bytes
  pub may : MayBecomeRequest bytes
  pub few : length bytes < 4096

-- the bytes begin with the head of a request that is for this, whatever its fields are
pub record IsFor (bytes : List ℕ) (wanted : Wanted) : Type 0 where
  pub head : RequestHead
  pub rest : List ℕ
  pub reads : ReadsRequest bytes head rest
  pub is : wanted ≡ wanted_by head.method head.target

-- what the bytes ask for: what the request is for that they begin with, or nothing, since no head of so few bytes and fields begins with them
abbrev pub Asks : List ℕ → Asked → Type 0
Asks bytes (Wants wanted) = IsFor bytes wanted
Asks bytes Invalid = NeverHasRequest bytes
Asks bytes TooLong = (HasNoRequest bytes × (4096 ≤ length bytes)) ⊎ RequestOverflows 64 bytes
