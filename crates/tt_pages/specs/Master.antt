-- What a master is answered with.
use Rattle.std.specs.Prelude.{codes, ℕ, nat_eq, nat_lt, Bool, true, false, not, ◌&&◌, if◌then◌else◌, List, [], ◌++◌, Option, Some, None, is_some}
use Rattle.std.specs.Fmt.{decimal}
use Rattle.tt_master.specs.Silence.{silence_number_of}
use Rattle.tt_master.specs.declared.silences.Silence.{Silence}
use Rattle.tt_master.specs.declared.silences.Silence.TheVariants.{Stepped}
use Rattle.tt_status.specs.Master.{master_status_text}
use Rattle.tt_status.specs.declared.master_statuses.MasterStatus.{MasterStatus}
use Rattle.tt_pages.specs.Answer.{reply_of, reply_text}
use Rattle.tt_pages.specs.Health.{line_if}
use Rattle.tt_pages.specs.declared.answers.Code.{Code}
use Rattle.tt_pages.specs.declared.answers.Code.TheVariants.{Found, FoundMetrics, NotReady}
use Rattle.tt_pages.specs.declared.answers.Code.TheVariants as code
use Rattle.tt_pages.specs.declared.masters.MasterHealth.{MasterHealth}
use Rattle.tt_pages.specs.declared.requests.Page.{Page}
use Rattle.tt_pages.specs.declared.requests.Page.TheVariants.{Start, Metrics, Evidence, Health}
use Rattle.tt_pages.specs.declared.requests.Wanted.{Wanted}
use Rattle.tt_pages.specs.declared.requests.Wanted.TheVariants.{Whole, Head, OtherMethod}
use Rattle.tt_pages.specs.declared.requests.Asked.{Asked}
use Rattle.tt_pages.specs.declared.requests.Asked.TheVariants.{Wants, Invalid, TooLong}

-- what a master told of itself: whether it has a status, why it answers no poll, and how old that is, which is too old after ten seconds
abbrev pub master_health_of : Bool → Option Silence → ℕ → MasterHealth
master_health_of is_told silence age = record { untold = not is_told; silence = silence; still = nat_lt 10000000000 age }

-- there is no reason
abbrev pub is_well : MasterHealth → Bool
is_well h = not h.untold && not (is_some h.silence) && not h.still

-- why a master answers no poll, by the number of the reason
abbrev pub reason_text : ℕ → List ℕ
reason_text number =
    if nat_eq number (silence_number_of Stepped) then codes "clock_stepped: a clock was stepped, or is off by more than was stated\n"
    else decimal number ++ codes ": no poll is answered; ttd explain says why\n"

-- the same, where it answers none
abbrev pub silence_text : Option Silence → List ℕ
silence_text None = []
silence_text (Some silence) = reason_text (silence_number_of silence)

-- a line for each reason
unfoldable pub reasons_text : MasterHealth → List ℕ
reasons_text h =
    line_if h.untold (codes "status_none: no status yet\n")
    ++ silence_text h.silence
    ++ line_if h.still (codes "status_old: the last status is older than ten seconds\n")

-- that the master is well, or why it is not
abbrev pub judged_text : MasterHealth → List ℕ
judged_text h = if is_well h then codes "ok\n" else reasons_text h

-- the code for a master of this health
abbrev pub health_code : MasterHealth → Code
health_code h = if is_well h then Found else NotReady

-- whether the master is well
abbrev pub health_content : MasterHealth → Code × List ℕ
health_content h = (health_code h, judged_text h)

-- its status
abbrev pub metrics_content : Option MasterStatus → Code × List ℕ
metrics_content (Some status) = (FoundMetrics, master_status_text status)
metrics_content None = (NotReady, codes "no status yet\n")

-- the code and the text of a page: a master has no evidence, and no drawing
abbrev pub content_of : Option Page → Option MasterStatus → MasterHealth → Code × List ℕ
content_of (Some Start) status h = (Found, codes "a time master: /metrics and /health\n")
content_of (Some Metrics) status h = metrics_content status
content_of (Some Evidence) status h = (code.Unknown, codes "no such page\n")
content_of (Some Health) status h = health_content h
content_of None status h = (code.Unknown, codes "no such page\n")

-- the answer to a request
abbrev pub wanted_text : Wanted → Option MasterStatus → MasterHealth → List ℕ
wanted_text (Whole page) status h = reply_of (content_of page status h) true
wanted_text (Head page) status h = reply_of (content_of page status h) false
wanted_text OtherMethod status h = reply_text code.OtherMethod (codes "only GET and HEAD\n") true

-- the answer to what is asked
abbrev pub master_answer_text : Asked → Option MasterStatus → MasterHealth → List ℕ
master_answer_text (Wants wanted) status h = wanted_text wanted status h
master_answer_text Invalid status h = reply_text code.Invalid (codes "not a request\n") true
master_answer_text TooLong status h = reply_text code.TooLong (codes "the head is too long\n") true
