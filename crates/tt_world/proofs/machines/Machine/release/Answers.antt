use Rattle.std.proofs.Common.{◌≡◌, ℕ, ◌<◌, get_or, ap₂, ◌∙◌, ◌-◌, List, ◌++◌, length, take, drop, ap, sym, arith}
use Rattle.std.specs.Prelude.{reverse, Some, Ok}
use Rattle.std.proofs.Math.ListN.{length-map}
use Rattle.tt_stamp.specs.declared.commits.Entry.{Entry}
use Rattle.tt_stamp.specs.declared.commits.Entry.TheVariants.{Passed}
use Rattle.tt_stamp.specs.declared.commits.Receipt.{Receipt}
use Rattle.tt_stamp.specs.History.{waiting_of, release_of, with_receipts}
use Rattle.tt_world.specs.declared.events.Reply.TheVariants.{Released}
use Rattle.tt_world.specs.contracts.machines.Machine.{the_view}
use Rattle.tt_world.specs.Private.Machine.{MachineState}
use Rattle.tt_world.specs.Private.Step.{Turn, new_worker, worker_at, release_with}
use Rattle.tt_world.specs.declared.workers.Worker.{Worker}
use Rattle.tt_span.specs.Interval.{Interval}
use Rattle.std.proofs.lemmas.List.{get_or_default}
use Rattle.tt_world.proofs.Simulation.Passing.{entries_of, last-entries}
use Rattle.tt_world.proofs.machines.Machine.release.Goals as goal

-- a machine after a release, by its parts
abbrev released : MachineState → List Entry → List Receipt → Turn MachineState
released machine book receipts = record { state = record machine { book = book }; reply = Released receipts }

-- the reading that was read of a worker is the one that its machine keeps
kept_reading : (workers items : List Worker) (w p : ℕ) (reading : Interval) (d : Worker) → items ≡ workers → p ≡ w → w < length workers → (get_or items p d).reading ≡ Some reading → (get_or workers w new_worker).reading ≡ Some reading
kept_reading workers items w p reading d all same inside is =
    ap (λ (worker : Worker). worker.reading) (get_or_default workers w new_worker d inside) ∙ ap₂ (λ (xs : List Worker) (q : ℕ). (get_or xs q d).reading) (sym all) (sym same) ∙ is

pub copy_receipts-requires : goal.copy_receipts-requires
copy_receipts-requires c =
    let receipts : List Receipt = release_of (waiting_of c.self.inside.book) c.in-Some.reading.lo in
    let h = c.history-history.result.now in
    let n = c.release-count.result in
    let ends : h ≡ reverse c.self.inside.book ++ entries_of receipts =
    c.history-history.ensures.entries ∙ ap (λ (es : List Entry). reverse es) c.release-count.ensures.receipts ∙ c.book_laws.ensures.history c.self.inside.book receipts in
    let last = last-entries h (reverse c.self.inside.book) receipts n ends c.release-count.ensures.count in
    let counted : length (take (length h - (length h - n)) (drop (length h - n) h)) ≡ n =
    ap (λ (es : List Entry). length es) last ∙ length-map receipts (λ (r : Receipt). Passed r) ∙ sym c.release-count.ensures.count in
    omega (arith, counted, c.release-count.ensures.count, c.releasable.ensures.value, c.in_ok-receipts.ensures.exact, c.in_ok-receipts.ensures.len)

pub returns : goal.returns
returns c =
    let m : MachineState = the_view c.self.inside in
    let receipts : List Receipt = release_of (waiting_of c.self.inside.book) c.in-Some.reading.lo in
    let h = c.history-history.result.now in
    let ends : h ≡ reverse c.self.inside.book ++ entries_of receipts =
    c.history-history.ensures.entries ∙ ap (λ (es : List Entry). reverse es) c.release-count.ensures.receipts ∙ c.book_laws.ensures.history c.self.inside.book receipts in
    let last = last-entries h (reverse c.self.inside.book) receipts c.release-count.result ends c.release-count.ensures.count in
    let copied : c.of.result ≡ receipts =
    c.of.ensures ∙ c.copy_receipts.ensures receipts last ∙ ap (λ (rs : List Receipt). rs ++ receipts) c.in_ok-receipts.ensures.items in
    let read = kept_reading m.workers c.deref.result.now c.args.worker c.from.result c.in-Some.reading _ c.deref.ensures.0 c.from.ensures (omega (arith, c.requires, ap (λ (v : MachineState). length v.workers) c.self.view_is)) c.in-Some.is in
    ap (λ (v : MachineState). release_with v (worker_at v c.args.worker).reading) (sym c.self.view_is)
    ∙ ap (release_with m) read
    ∙ ap (λ (turn : Turn MachineState). Ok turn)
    (sym (ap (λ (book : List Entry). released m book c.of.result) c.release-count.ensures.receipts ∙ ap (λ (rs : List Receipt). released m (with_receipts receipts m.book) rs) copied))
