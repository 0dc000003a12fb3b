-- The book of each machine is a legal history.
use Rattle.std.proofs.Common.{◌≡◌, ℕ, Bool, true, false, cond, List, [], ◌∷◌, is_some, Option, Some, None, refl}
use Rattle.tt_span.specs.Interval.{Interval}
use Rattle.tt_stamp.specs.declared.commits.Id.{Id}
use Rattle.tt_stamp.specs.declared.commits.Entry.{Entry}
use Rattle.tt_stamp.specs.declared.commits.Entry.TheVariants.{Queued}
use Rattle.tt_stamp.specs.declared.faults.BookFault.{BookFault}
use Rattle.tt_stamp.specs.History.{IsLegalHistory, with_receipts, first_queue_fault}
use Rattle.tt_stamp.proofs.Laws.{first_queue_fault-none-iff, IsLegalHistory-release}
use Rattle.tt_world.specs.Life.{Life, is_of}
use Rattle.tt_world.specs.declared.events.Event.{Event}
use Rattle.tt_world.specs.declared.events.Action.{Action}
use Rattle.tt_world.specs.declared.events.Action.TheVariants.{Queue, Release}
use Rattle.tt_world.specs.declared.workers.Arrival.{Arrival}
use Rattle.tt_daemon.specs.Config.{Configuration}
use Rattle.tt_world.specs.Commits.{arrival_of, reading_of, stamp_held, with_queued, released_with, book_after, book_of}

legal_released : (book : List Entry) (reading : Option Interval) → IsLegalHistory book → IsLegalHistory (with_receipts (released_with book reading) book)
legal_released book None legal = legal
legal_released book (Some reading) legal = IsLegalHistory-release book reading.lo legal

legal_queued_if : (book : List Entry) (id : Id) (stamp : ℕ) (fault : Option BookFault) → first_queue_fault book id stamp ≡ fault → IsLegalHistory book
    → IsLegalHistory (cond (is_some fault) book (Queued id stamp ∷ book))
legal_queued_if book id stamp None is legal = ((first_queue_fault-none-iff book id stamp).0 is, legal)
legal_queued_if book id stamp (Some fault) is legal = legal

legal_queued : (book : List Entry) (arrival : Option Arrival) (stamp : Option ℕ) → IsLegalHistory book → IsLegalHistory (with_queued book arrival stamp)
legal_queued book None stamp legal = legal
legal_queued book (Some arrival) None legal = legal
legal_queued book (Some arrival) (Some stamp) legal = legal_queued_if book arrival.id stamp (first_queue_fault book arrival.id stamp) refl legal

legal_either : (b : Bool) (here other : List Entry) → IsLegalHistory here → IsLegalHistory other → IsLegalHistory (cond b here other)
legal_either true here other h o = h
legal_either false here other h o = o

legal_after : (config : Configuration) (past : List Event) (life : Life) (book : List Entry) (action : Action) → IsLegalHistory book → IsLegalHistory (book_after config past life book action)
legal_after config past life book (Queue machine worker) legal =
    legal_either (is_of past life machine) _ book (legal_queued book (arrival_of past life worker) (stamp_held config past life worker) legal) legal
legal_after config past life book (Release machine worker) legal =
    legal_either (is_of past life machine) _ book (legal_released book (reading_of config past life worker) legal) legal
legal_after config past life book _ legal = legal

-- the book of a machine is a legal history, whatever the events
pub legal_book : (config : Configuration) (past : List Event) (life : Life) → IsLegalHistory (book_of config past life)
legal_book config [] life = tt
legal_book config (event ∷ past) life = legal_after config past life (book_of config past life) event.action (legal_book config past life)
