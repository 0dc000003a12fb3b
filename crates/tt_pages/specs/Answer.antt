-- The bytes of an answer.
use Rattle.std.specs.Prelude.{codes, ℕ, Bool, true, false, if◌then◌else◌, List, [], length, ◌++◌, Option, Some, None}
use Rattle.std.specs.Fmt.{decimal}
use Rattle.tt_status.specs.Status.{status_text}
use Rattle.tt_status.specs.declared.statuses.Status.{Status}
use Rattle.tt_pages.specs.Health.{is_well, last_break_in, told_text}
use Rattle.tt_pages.specs.declared.answers.Code.{Code}
use Rattle.tt_pages.specs.declared.answers.Code.TheVariants.{Found, FoundMetrics, FoundStart, NotReady}
use Rattle.tt_pages.specs.declared.answers.Code.TheVariants as code
use Rattle.tt_pages.specs.declared.healths.Health.{Health as TheHealth}
use Rattle.tt_pages.specs.declared.requests.Page.{Page}
use Rattle.tt_pages.specs.declared.requests.Page.TheVariants.{Start, Metrics, Evidence, Health}
use Rattle.tt_pages.specs.declared.requests.Wanted.{Wanted}
use Rattle.tt_pages.specs.declared.requests.Wanted.TheVariants.{Whole, Head, OtherMethod}
use Rattle.tt_pages.specs.declared.requests.Asked.{Asked}
use Rattle.tt_pages.specs.declared.requests.Asked.TheVariants.{Wants, Invalid, TooLong}

-- the words of each code
abbrev pub words_of : Code → List ℕ
words_of Found = codes "200 OK"
words_of FoundMetrics = codes "200 OK"
words_of FoundStart = codes "200 OK"
words_of code.Invalid = codes "400 Bad Request"
words_of code.Unknown = codes "404 Not Found"
words_of code.OtherMethod = codes "405 Method Not Allowed"
words_of code.TooLong = codes "431 Request Header Fields Too Large"
words_of NotReady = codes "503 Service Unavailable"

-- the type of the text
abbrev pub type_of : Code → List ℕ
type_of FoundMetrics = codes "text/plain; version=0.0.4; charset=utf-8"
type_of FoundStart = codes "text/html; charset=utf-8"
type_of _ = codes "text/plain; charset=utf-8"

-- what else the head says: which methods there are, and that a page fetches nothing, runs nothing, and is not kept
abbrev pub more_of : Code → List ℕ
more_of code.OtherMethod = codes "Allow: GET, HEAD\r\n"
more_of FoundStart = codes "Content-Security-Policy: default-src 'none'; style-src 'unsafe-inline'\r\nCache-Control: no-store\r\n"
more_of _ = []

-- the text, or nothing where only the head is asked for
abbrev pub shown_of : List ℕ → Bool → List ℕ
shown_of text is_whole = if is_whole then text else []

-- a line of two parts
unfoldable pub line_text : List ℕ → List ℕ → List ℕ
line_text first second = first ++ second ++ codes "\r\n"

-- the first line of an answer
abbrev pub words_text : Code → List ℕ
words_text code = line_text (codes "HTTP/1.1 ") (words_of code)

-- the field that says the type of the text
abbrev pub type_text : Code → List ℕ
type_text code = line_text (codes "Content-Type: ") (type_of code)

-- the field that says how long it is
abbrev pub length_text : ℕ → List ℕ
length_text n = codes "Content-Length: " ++ decimal n ++ codes "\r\n"

-- the last fields
abbrev pub end_text : Code → List ℕ
end_text code = line_text (more_of code) (codes "Connection: close\r\n")

-- an answer: its head, and the text unless only the head is asked for, whose length is that of the text all the same
unfoldable pub reply_text : Code → List ℕ → Bool → List ℕ
reply_text code text is_whole = words_text code ++ type_text code ++ length_text (length text) ++ end_text code ++ shown_of text is_whole

-- the status, with the addresses of the sources
abbrev pub metrics_content : Option Status → List (List ℕ) → Code × List ℕ
metrics_content (Some status) addresses = (FoundMetrics, status_text status addresses)
metrics_content None addresses = (NotReady, codes "no status yet\n")

-- the evidence
abbrev pub evidence_content : Option (List ℕ) → Code × List ℕ
evidence_content (Some text) = (Found, text)
evidence_content None = (code.Unknown, codes "no evidence\n")

-- the code for a machine of this health
abbrev pub health_code : TheHealth → Code
health_code health = if is_well health then Found else NotReady

-- whether the machine is well, and whether the life before was not
abbrev pub health_content : TheHealth → Option Status → ℕ → Code × List ℕ
health_content health status time = (health_code health, told_text health (last_break_in status) time)

-- the page for people
abbrev pub start_content : List ℕ → Code × List ℕ
start_content start = (FoundStart, start)

-- the code and the text of a page, or that there is no such page
abbrev pub content_of : Option Page → Option Status → List (List ℕ) → TheHealth → ℕ → Option (List ℕ) → List ℕ → Code × List ℕ
content_of (Some Start) status addresses health time evidence start = start_content start
content_of (Some Metrics) status addresses health time evidence start = metrics_content status addresses
content_of (Some Evidence) status addresses health time evidence start = evidence_content evidence
content_of (Some Health) status addresses health time evidence start = health_content health status time
content_of None status addresses health time evidence start = (code.Unknown, codes "no such page\n")

-- the answer with this code and this text
abbrev pub reply_of : Code × List ℕ → Bool → List ℕ
reply_of content is_whole = reply_text content.0 content.1 is_whole

-- the answer with a page, or its head alone
abbrev pub page_text : Option Page → Option Status → List (List ℕ) → TheHealth → ℕ → Option (List ℕ) → List ℕ → Bool → List ℕ
page_text page status addresses health time evidence start is_whole = reply_of (content_of page status addresses health time evidence start) is_whole

-- the answer to a request
abbrev pub wanted_text : Wanted → Option Status → List (List ℕ) → TheHealth → ℕ → Option (List ℕ) → List ℕ → List ℕ
wanted_text (Whole page) status addresses health time evidence start = page_text page status addresses health time evidence start true
wanted_text (Head page) status addresses health time evidence start = page_text page status addresses health time evidence start false
wanted_text OtherMethod status addresses health time evidence start = reply_text code.OtherMethod (codes "only GET and HEAD\n") true

-- the answer to what is asked
abbrev pub answer_text : Asked → Option Status → List (List ℕ) → TheHealth → ℕ → Option (List ℕ) → List ℕ → List ℕ
answer_text (Wants wanted) status addresses health time evidence start = wanted_text wanted status addresses health time evidence start
answer_text Invalid status addresses health time evidence start = reply_text code.Invalid (codes "not a request\n") true
answer_text TooLong status addresses health time evidence start = reply_text code.TooLong (codes "the head is too long\n") true
