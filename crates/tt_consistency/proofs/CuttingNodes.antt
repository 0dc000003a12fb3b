-- Cuts of nodes: each is a node that works.
use Rattle.std.proofs.Common.{◌≡◌, ℕ, zero, suc, ◌<◌, ◌≤◌, List, [], ◌∷◌, ◌++◌, length, map, Bool, true, false, Option, Some, None, Result, Ok, Err, refl, sym, ap, ◌∙◌, subst, arith, append-nil, All, Contains, ⊎_elim}
use Rattle.std.specs.Prelude.{IfSome}
use Rattle.std.specs.List.{AllByRecursion}
use Rattle.std.proofs.lemmas.Option.{none-some}
use Rattle.std.proofs.lemmas.List.{length-map}
use Rattle.std.proofs.lemmas.List.Elements.{All-contains, All-contains_itself, All-weaker}
use mathlib.Core.List.{IsPrefix}
use Rattle.tt_span.specs.Drift.{Moment}
use Rattle.tt_span.specs.Interval.{Interval}
use Rattle.tt_judge.specs.Consistency.{IsConsistent}
use Rattle.tt_judge.specs.declared.history.Commit.{Commit}
use Rattle.tt_publish.specs.Known.{WatchState}
use Rattle.tt_publish.specs.Reading.{fused_span_of}
use Rattle.tt_publish.specs.declared.readings.FusedSpan.{FusedSpan}
use Rattle.tt_session.specs.Conversation.{Conversation}
use Rattle.tt_session.specs.declared.calls.Call.{Call}
use Rattle.tt_session.specs.declared.calls.Call.TheVariants as call
use Rattle.tt_stamp.proofs.Ids.{Contains-here, Contains-there, Contains-cases, Contains-nil}
use Rattle.tt_connections.proofs.Turning.{prefix-both}
use Rattle.tt_node.specs.Working.{WorkerState, DoesWhere, Reads, Commits, Releases, Allows, after_asking}
use Rattle.tt_node.proofs.Reading.{on-talked}
use Rattle.tt_consistency.specs.Calls.{RoundsCall, AreInTurn, kept_after}
use Rattle.tt_consistency.specs.NodeCuts.{AllReadBy, AllWorkedUntil, HaveSeenNoMore, IsAtRest, IsCutAt, IsInNode, IsNode, IsNodeCut, IsSeenInNodeCut, NodeCut, RestsAt, WorkedAs, WorkedUntil, machine_in, node_in, whole_node}
use Rattle.tt_consistency.specs.Reads.{IsReadAt}
use Rattle.tt_consistency.specs.Running.{Machine, IsRunning, begun_with, clock_moments, published_by}
use Rattle.tt_consistency.specs.Timed.{AreInOrder, CallTimes, times_at}
use Rattle.tt_consistency.specs.Timeline.{Timed, moments_told}
use Rattle.tt_consistency.specs.Worked.{AllLookOn, BookIsOf, IsWorking, Look, LooksOn, Node, ServesOn, TimedWorker, WasRead, look_in, look_of, look_of_now, look_of_begin, look_of_pass}
use Rattle.tt_consistency.proofs.Cutting.{calls-grow, moments-append, order-first, prefix-length, read-first, shorter}
use Rattle.tt_consistency.proofs.LeastCuts.{machine-first}
use Rattle.tt_consistency.proofs.Living.{prefix-map}
use Rattle.tt_consistency.proofs.Judging.{within-consistent}
use Rattle.tt_consistency.proofs.Working.{node-within}

-- ---- places
each_place : (P : ℕ → Type 0) (n : ℕ) → P zero → ((place : ℕ) → place < n → P (suc place)) → (place : ℕ) → place < suc n → P place
each_place P n here there zero less = here
each_place P n here there (suc place) less = there place (omega (arith, less))

-- of calls that were at rest at a time, one whose reading was taken by then stands among those that were answered by then
unread-at : (time : ℕ) (later : List CallTimes) → AllByRecursion (λ (call : CallTimes). time < call.read) later → (place : ℕ) → place < length later → time < (times_at later place).read
unread-at time [] unread place less = absurd (omega (arith, less))
unread-at time (t ∷ later) unread zero less = unread.0
unread-at time (t ∷ later) unread (suc place) less = unread-at time later unread.1 place (omega (arith, less))

read-early : (time : ℕ) (times later : List CallTimes) → AllByRecursion (λ (call : CallTimes). time < call.read) later → (place : ℕ) → place < length (times ++ later) → (times_at (times ++ later) place).read ≤ time
    → (place < length times) × (times_at (times ++ later) place ≡ times_at times place)
read-early time [] later unread place less read = let not_read = unread-at time later unread place less in absurd (omega (arith, not_read, read))
read-early time (t ∷ times) later unread zero less read = (omega arith, refl)
read-early time (t ∷ times) later unread (suc place) less read =
    let rest = read-early time times later unread place (omega (arith, less)) read in (omega (arith, rest.0), rest.1)

module _ {C G : Type 0} (gives : C → Option ℕ → C → Type 0) (failed : C → ℕ) (says : G → ℕ → ℕ → Bool → G → Type 0) (hears : G → ℕ → ℕ → G → Type 0) where
  -- ---- what a look saw is what the worker has seen behind its call
  now-watch : (before : WorkerState C G) (reading : Interval) (done after : WorkerState C G) (passes : Bool) (does : DoesWhere passes (Reads gives failed) before (Ok reading) done) → after.watch ≡ done.watch
      → IfSome (look_of_now gives failed before reading done passes does) (λ look. look.watch ≡ after.watch)
  now-watch before reading done after true does same = sym same
  now-watch before reading done after false does same = tt

  begin-watch : (number floor : ℕ) (before : WorkerState C G) (answer : Result ℕ ℕ) (done after : WorkerState C G) (passes : Bool) (does : DoesWhere passes (Commits gives failed number floor) before answer done) → after.watch ≡ done.watch
      → IfSome (look_of_begin gives failed number floor before answer done passes does) (λ look. look.watch ≡ after.watch)
  begin-watch number floor before answer done after true does same = sym same
  begin-watch number floor before answer done after false does same = tt

  pass-watch : (number : ℕ) (before : WorkerState C G) (answer : Result Bool ℕ) (done after : WorkerState C G) (passes : Bool) (does : DoesWhere passes (Releases gives failed number) before answer done) → after.watch ≡ done.watch
      → IfSome (look_of_pass gives failed number before answer done passes does) (λ look. look.watch ≡ after.watch)
  pass-watch number before answer done after true does same = sym same
  pass-watch number before answer done after false does same = tt

  call-watch : (before : WorkerState C G) (of : Call) (after : WorkerState C G) (allowed : Allows gives failed says hears before of after) → IfSome (look_of gives failed says hears before of after allowed) (λ look. look.watch ≡ after.watch)
  call-watch before (call.Now (Ok reading)) after allowed =
      now-watch (after_asking before allowed.asked) reading allowed.done after allowed.passes allowed.does (ap (λ (w : WorkerState C G). w.watch) allowed.kept)
  call-watch before (call.Now (Err number)) after allowed = tt
  call-watch before (call.Begin number floor answer) after allowed =
      begin-watch number floor (after_asking before allowed.asked) answer allowed.done after allowed.passes allowed.does (ap (λ (w : WorkerState C G). w.watch) allowed.kept)
  call-watch before (call.Lease lo hi answer) after allowed = tt
  call-watch before (call.Pass number answer) after allowed =
      pass-watch number (after_asking before allowed.asked) answer allowed.done after allowed.passes allowed.does (ap (λ (w : WorkerState C G). w.watch) allowed.kept)

  -- ---- where a worker has seen nothing but what a machine published, and its readings were taken by the clock of the machine, its calls looked on the machine
  module _ (machine : Machine) where
    look-on : (look : Option (Look C)) (time : ℕ) (watch : WatchState) → IfSome look (λ l. l.watch ≡ watch) → IsPrefix (map fused_span_of watch.items) (published_by machine)
        → IfSome look (λ l. IsReadAt gives l.watch.drift (clock_moments machine) l.watch l.before l.after l.answer time) → IfSome look (λ l. LooksOn gives machine l time)
    look-on None time watch same seen read = tt
    look-on (Some look) time watch same seen read = (subst (λ (w : WatchState). IsPrefix (map fused_span_of w.items) (published_by machine)) (sym same) seen, read)

    looks-on : (calls : List Call) (before after : WorkerState C G) (talked : Conversation (Allows gives failed says hears) before calls after) (times : List CallTimes) → IsPrefix (map fused_span_of after.watch.items) (published_by machine)
        → AllReadBy gives failed says hears (clock_moments machine) before calls after talked times → AllLookOn gives failed says hears machine before calls after talked times
    looks-on [] before after talked times seen read = read
    looks-on (first ∷ calls) before after talked [] seen read = absurd read
    looks-on (first ∷ calls) before after talked (t ∷ times) seen read =
        let mid = talked.0 in
        let later : IsPrefix mid.watch.items after.watch.items = (on-talked gives failed says hears mid calls after talked.2).later.seen in
        let there : IsPrefix (map fused_span_of mid.watch.items) (published_by machine) =
        prefix-both (map fused_span_of mid.watch.items) (map fused_span_of after.watch.items) (published_by machine) (prefix-map fused_span_of mid.watch.items after.watch.items later) seen in (
          look-on (look_of gives failed says hears before first mid talked.1) t.read mid.watch (call-watch before first mid talked.1) there read.0,
          looks-on calls mid after talked.2 times seen read.1,
        )

  -- ---- a cut is a node that works
  module _ (cut : NodeCut gives failed says hears) (is : IsNodeCut cut) where
    module _ (worker : TimedWorker gives failed says hears) (inside : IsInNode cut worker) where
      -- what the worker had seen is the first ones of the publications of the cut
      of_cut : IsPrefix (map fused_span_of worker.after.watch.items) (published_by (machine_in cut))
      of_cut =
          let begun = begun_with cut.node.machine in
          let spans : List FusedSpan = map fused_span_of worker.after.watch.items in
          let all : List FusedSpan = (kept_after begun (is.later ++ cut.calls)).published in
          let ended : IsPrefix (map fused_span_of inside.whole.after.watch.items) (published_by cut.node.machine) =
          All-contains (λ (w : TimedWorker gives failed says hears). IsPrefix (map fused_span_of w.after.watch.items) (published_by cut.node.machine)) cut.node.workers inside.whole is.proved.seen inside.of_node in
          let later : IsPrefix worker.after.watch.items inside.whole.after.watch.items =
          (on-talked gives failed says hears worker.after inside.begins.later inside.whole.after inside.begins.goes_on).later.seen in
          let of_node : IsPrefix spans (published_by cut.node.machine) =
          prefix-both spans (map fused_span_of inside.whole.after.watch.items) (published_by cut.node.machine) (prefix-map fused_span_of worker.after.watch.items inside.whole.after.watch.items later) ended in
          let of_all : IsPrefix spans all = subst (λ (calls : List RoundsCall). IsPrefix spans (kept_after begun calls).published) is.calls_are of_node in
          shorter spans (published_by (machine_in cut)) all of_all
          (calls-grow begun is.later cut.calls (subst (AreInTurn begun) is.calls_are is.proved.in_turn))
          (omega (arith, inside.seen, length-map worker.after.watch.items fused_span_of))

      cut-serves : ServesOn gives failed says hears (node_in cut) worker
      cut-serves = record {
        in_order = inside.in_order;
        look = looks-on (machine_in cut) worker.calls worker.before worker.after worker.talked worker.times of_cut inside.read;
        book = inside.book;
      }

    pub cut-works : IsWorking gives failed says hears (node_in cut)
    cut-works = record { running = is.running; serve = All-weaker (IsInNode cut) (ServesOn gives failed says hears (node_in cut)) cut-serves cut.workers is.workers }

  -- ---- a worker has a cut behind each of its calls
  split : (early later : List Call) (before after : WorkerState C G) → Conversation (Allows gives failed says hears) before (early ++ later) after
      → (mid : WorkerState C G) × Conversation (Allows gives failed says hears) before early mid × Conversation (Allows gives failed says hears) mid later after
  split [] later before after talked = (before, refl, talked)
  split (first ∷ early) later before after talked =
      let rest = split early later talked.0 after talked.2 in
      (rest.0, (talked.0, talked.1, rest.1), rest.2)

  pub worker-cut : (whole : TimedWorker gives failed says hears) (early later : List Call) (times : List CallTimes) → whole.calls ≡ early ++ later
      → (worker : TimedWorker gives failed says hears) × (worker.calls ≡ early) × (worker.times ≡ times) × WorkedAs worker whole
  worker-cut whole early later times are =
      let parts = split early later whole.before whole.after (subst (λ (calls : List Call). Conversation (Allows gives failed says hears) whole.before calls whole.after) are whole.talked) in
      let worker : TimedWorker gives failed says hears = record { before = whole.before; after = parts.0; calls = early; talked = parts.1; times = times } in
      (worker, refl, refl, record { before = refl; later = later; calls_are = are; goes_on = parts.2 })

  -- ---- a whole node is a cut
  look-read : (machine : Machine) (look : Option (Look C)) (time : ℕ) → IfSome look (λ l. LooksOn gives machine l time) → IfSome look (λ l. IsReadAt gives l.watch.drift (clock_moments machine) l.watch l.before l.after l.answer time)
  look-read machine None time on = tt
  look-read machine (Some look) time on = on.1

  looks-read : (machine : Machine) (calls : List Call) (before after : WorkerState C G) (talked : Conversation (Allows gives failed says hears) before calls after) (times : List CallTimes)
      → AllLookOn gives failed says hears machine before calls after talked times → AllReadBy gives failed says hears (clock_moments machine) before calls after talked times
  looks-read machine [] before after talked times on = on
  looks-read machine (first ∷ calls) before after talked [] on = absurd on
  looks-read machine (first ∷ calls) before after talked (t ∷ times) on = (
    look-read machine (look_of gives failed says hears before first talked.0 talked.1) t.read on.0,
    looks-read machine calls talked.0 after talked.2 times on.1,
  )

  pub whole-cut : (node : Node gives failed says hears) → IsNode node → IsWorking gives failed says hears node → IsNodeCut (whole_node node)
  whole-cut node proved works =
      let seen = λ (worker : TimedWorker gives failed says hears). IsPrefix (map fused_span_of worker.after.watch.items) (published_by node.machine) in
      record {
        proved = proved;
        later = [];
        calls_are = refl;
        running = works.running;
        workers = All-weaker (Contains node.workers) (IsInNode (whole_node node))
            (λ worker among.
            let serves : ServesOn gives failed says hears node worker = All-contains (ServesOn gives failed says hears node) node.workers worker works.serve among in
            record {
              whole = worker;
              of_node = among;
              begins = record { before = refl; later = []; calls_are = sym (append-nil worker.calls); goes_on = refl };
              seen = omega (arith, prefix-length (map fused_span_of worker.after.watch.items) (published_by node.machine) (All-contains seen node.workers worker proved.seen among), length-map worker.after.watch.items fused_span_of);
              in_order = serves.in_order;
              read = looks-read node.machine worker.calls worker.before worker.after worker.talked worker.times serves.look;
              book = serves.book;
            })
            node.workers (All-contains_itself node.workers);
      }

  -- ---- the first calls of a worker, as many as these times: no more is assumed of them than of all of its calls
  module _ (machine : Machine) (later moments : List Moment) (are : clock_moments machine ≡ later ++ moments) (wholes : List (TimedWorker gives failed says hears)) where
    record First (before : WorkerState C G) (calls : List Call) (after : WorkerState C G) (talked : Conversation (Allows gives failed says hears) before calls after) (times : List CallTimes) : Type 0 where
      early : List Call
      rest : List Call
      mid : WorkerState C G
      first : Conversation (Allows gives failed says hears) before early mid
      goes_on : Conversation (Allows gives failed says hears) mid rest after
      calls_are : calls ≡ early ++ rest
      read : AllReadBy gives failed says hears moments before early mid first times
      book : BookIsOf gives failed says hears wholes before early mid first times
      looks : (place : ℕ) → place < length times → look_in gives failed says hears before early mid first place ≡ look_in gives failed says hears before calls after talked place

    look-first : (look : Option (Look C)) (time : ℕ) → IfSome look (λ l. LooksOn gives machine l time) → IfSome look (λ l. IsReadAt gives l.watch.drift moments l.watch l.before l.after l.answer time)
    look-first None time on = tt
    look-first (Some look) time on =
        read-first gives look.watch.drift later moments look.watch look.before look.after look.answer time
        (subst (λ (ms : List Moment). IsReadAt gives look.watch.drift ms look.watch look.before look.after look.answer time) are on.1)

    first-calls : (times more : List CallTimes) (before : WorkerState C G) (calls : List Call) (after : WorkerState C G) (talked : Conversation (Allows gives failed says hears) before calls after)
        → AllLookOn gives failed says hears machine before calls after talked (times ++ more) → BookIsOf gives failed says hears wholes before calls after talked (times ++ more) → First before calls after talked times
    first-calls [] more before calls after talked on book = record {
      early = [];
      rest = calls;
      mid = before;
      first = refl;
      goes_on = talked;
      calls_are = refl;
      read = refl;
      book = refl;
      looks = λ place less. absurd (omega (arith, less));
    }
    first-calls (t ∷ times) more before [] after talked on book = let none : t ∷ (times ++ more) ≡ [] = on in absurd cc
    first-calls (t ∷ times) more before (one ∷ calls) after talked on book =
        let mid : WorkerState C G = talked.0 in
        let rest = first-calls times more mid calls after talked.2 on.1 book.1 in
        record {
          early = one ∷ rest.early;
          rest = rest.rest;
          mid = rest.mid;
          first = (mid, talked.1, rest.first);
          goes_on = rest.goes_on;
          calls_are = ap (λ (list : List Call). one ∷ list) rest.calls_are;
          read = (look-first (look_of gives failed says hears before one mid talked.1) t.read on.0, rest.read);
          book = (book.0, rest.book);
          looks = each_place
              (λ place. look_in gives failed says hears before (one ∷ rest.early) rest.mid (mid, talked.1, rest.first) place ≡ look_in gives failed says hears before (one ∷ calls) after talked place)
              (length times) refl rest.looks;
        }

    -- only a call has a look, and it has its times
    look-within : (before : WorkerState C G) (calls : List Call) (after : WorkerState C G) (talked : Conversation (Allows gives failed says hears) before calls after) (times : List CallTimes)
        → AllLookOn gives failed says hears machine before calls after talked times → (place : ℕ) (look : Look C) → look_in gives failed says hears before calls after talked place ≡ Some look → place < length times
    look-within before [] after talked times on place look is = absurd (none-some _ is)
    look-within before (one ∷ calls) after talked [] on place look is = absurd on
    look-within before (one ∷ calls) after talked (t ∷ times) on zero look is = omega arith
    look-within before (one ∷ calls) after talked (t ∷ times) on (suc place) look is =
        let less = look-within talked.0 calls after talked.2 times on.1 place look is in omega (arith, less)

  -- ---- a node at rest has a cut
  module _ (node : Node gives failed says hears) (proved : IsNode node) (works : IsWorking gives failed says hears node) (later calls : List RoundsCall) (after timeline : List Timed) (time : ℕ)
      (calls_are : node.machine.calls ≡ later ++ calls) (timeline_is : node.machine.timeline ≡ after ++ timeline) (running : IsRunning (record node.machine { calls = calls; timeline = timeline })) where
    abbrev early_machine : Machine
    early_machine = record node.machine { calls = calls; timeline = timeline }

    moments_are : clock_moments node.machine ≡ moments_told after ++ clock_moments early_machine
    moments_are =
        let begin : List Moment = record { clock = node.machine.start.clock; time = node.machine.start.at } ∷ [] in
        ap (λ (all : List Timed). moments_told all ++ begin) timeline_is ∙ moments-append after timeline begin

    serves : (whole : TimedWorker gives failed says hears) → Contains node.workers whole → ServesOn gives failed says hears node whole
    serves whole among = All-contains (ServesOn gives failed says hears node) node.workers whole works.serve among

    -- a worker of the cut, of whose book it is known only that each receipt is of a reading at the node
    record Early (worker whole : TimedWorker gives failed says hears) : Type 0 where
      until : WorkedUntil time worker whole
      in_order : AreInOrder 0 worker.times
      read : AllReadBy gives failed says hears (clock_moments early_machine) worker.before worker.calls worker.after worker.talked worker.times
      book : BookIsOf gives failed says hears node.workers worker.before worker.calls worker.after worker.talked worker.times

    early-worker : (whole : TimedWorker gives failed says hears) → Contains node.workers whole → (times rest : List CallTimes) → IsAtRest time whole.times times rest → (worker : TimedWorker gives failed says hears) × Early worker whole
    early-worker whole among times rest at =
        let serve = serves whole among in
        let look = subst (λ (all : List CallTimes). AllLookOn gives failed says hears node.machine whole.before whole.calls whole.after whole.talked all) at.all_are serve.look in
        let book = subst (λ (all : List CallTimes). BookIsOf gives failed says hears node.workers whole.before whole.calls whole.after whole.talked all) at.all_are serve.book in
        let first = first-calls node.machine (moments_told after) (clock_moments early_machine) moments_are node.workers times rest whole.before whole.calls whole.after whole.talked look book in
        let worker : TimedWorker gives failed says hears = record { before = whole.before; after = first.mid; calls = first.early; talked = first.first; times = times } in (
          worker,
          record {
            until = record { begins = record { before = refl; later = first.rest; calls_are = first.calls_are; goes_on = first.goes_on }; later = rest; rests = at; looks = first.looks };
            in_order = order-first 0 times rest (subst (AreInOrder 0) at.all_are serve.in_order);
            read = first.read;
            book = first.book;
          },
        )

    abbrev AllEarly : List (TimedWorker gives failed says hears) → List (TimedWorker gives failed says hears) → Type 0
    AllEarly [] [] = Unit {0}
    AllEarly [] (whole ∷ wholes) = ⊥
    AllEarly (worker ∷ workers) [] = ⊥
    AllEarly (worker ∷ workers) (whole ∷ wholes) = Early worker whole × AllEarly workers wholes

    early-workers : (wholes : List (TimedWorker gives failed says hears)) → ((whole : TimedWorker gives failed says hears) → Contains wholes whole → (worker : TimedWorker gives failed says hears) × Early worker whole)
        → (workers : List (TimedWorker gives failed says hears)) × AllEarly workers wholes
    early-workers [] each = ([], tt)
    early-workers (whole ∷ wholes) each =
        let one = each whole (Contains-here whole wholes) in
        let rest = early-workers wholes (λ other within. each other (Contains-there whole wholes other within)) in
        (one.0 ∷ rest.0, (one.1, rest.1))

    all-until : (workers wholes : List (TimedWorker gives failed says hears)) → AllEarly workers wholes → AllWorkedUntil time workers wholes
    all-until [] [] all = tt
    all-until [] (whole ∷ wholes) all = absurd all
    all-until (worker ∷ workers) [] all = absurd all
    all-until (worker ∷ workers) (whole ∷ wholes) all = (all.0.until, all-until workers wholes all.1)

    of-worker : (workers wholes : List (TimedWorker gives failed says hears)) → AllEarly workers wholes → (worker : TimedWorker gives failed says hears) → Contains workers worker
        → (whole : TimedWorker gives failed says hears) × Contains wholes whole × Early worker whole
    of-worker [] wholes all worker among = absurd (Contains-nil worker among)
    of-worker (first ∷ workers) [] all worker among = absurd all
    of-worker (first ∷ workers) (whole ∷ wholes) all worker among =
        ⊎_elim
        (λ (same : first ≡ worker). (whole, Contains-here whole wholes, subst (λ (w : TimedWorker gives failed says hears). Early w whole) same all.0))
        (λ (within : Contains workers worker). let at = of-worker workers wholes all.1 worker within in (at.0, Contains-there whole wholes at.0 at.1, at.2))
        (Contains-cases first workers worker among)

    of-whole : (workers wholes : List (TimedWorker gives failed says hears)) → AllEarly workers wholes → (whole : TimedWorker gives failed says hears) → Contains wholes whole
        → (worker : TimedWorker gives failed says hears) × Contains workers worker × Early worker whole
    of-whole workers [] all whole among = absurd (Contains-nil whole among)
    of-whole [] (first ∷ wholes) all whole among = absurd all
    of-whole (worker ∷ workers) (first ∷ wholes) all whole among =
        ⊎_elim
        (λ (same : first ≡ whole). (worker, Contains-here worker workers, subst (λ (w : TimedWorker gives failed says hears). Early worker w) same all.0))
        (λ (within : Contains wholes whole). let at = of-whole workers wholes all.1 whole within in (at.0, Contains-there worker workers at.0 at.1, at.2))
        (Contains-cases first wholes whole among)

    module _ (workers : List (TimedWorker gives failed says hears)) (all : AllEarly workers node.workers) where
      -- what was read at the node by then was read in the cut
      was-early : (earliest by : ℕ) → by ≤ time → WasRead gives failed says hears node.workers earliest by → WasRead gives failed says hears workers earliest by
      was-early earliest by order was =
          let at = of-whole workers node.workers all was.worker was.among in
          let rests = at.2.until.rests in
          let there : was.place < length was.worker.times =
          look-within node.machine (moments_told after) (clock_moments early_machine) moments_are node.workers was.worker.before was.worker.calls was.worker.after was.worker.talked was.worker.times (serves was.worker was.among).look was.place was.look was.looked in
          let within : was.place < length (at.0.times ++ at.2.until.later) = subst (λ (list : List CallTimes). was.place < length list) rests.all_are there in
          let same : times_at was.worker.times was.place ≡ times_at (at.0.times ++ at.2.until.later) was.place = ap (λ (list : List CallTimes). times_at list was.place) rests.all_are in
          let read : (times_at (at.0.times ++ at.2.until.later) was.place).read ≤ by = subst (λ (t : CallTimes). t.read ≤ by) same was.by_then in
          let early = read-early time at.0.times at.2.until.later rests.unread was.place within (omega (arith, read, order)) in
          record {
            worker = at.0;
            among = at.1;
            place = was.place;
            look = was.look;
            reading = was.reading;
            looked = at.2.until.looks was.place early.0 ∙ was.looked;
            gave = was.gave;
            earliest_is = was.earliest_is;
            by_then = subst (λ (t : CallTimes). t.read ≤ by) early.1 read;
          }

      book-early : (before : WorkerState C G) (own : List Call) (end : WorkerState C G) (talked : Conversation (Allows gives failed says hears) before own end) (times : List CallTimes) → AllByRecursion (λ (t : CallTimes). t.answered ≤ time) times
          → BookIsOf gives failed says hears node.workers before own end talked times → BookIsOf gives failed says hears workers before own end talked times
      book-early before [] end talked times answered book = book
      book-early before (one ∷ own) end talked [] answered book = absurd book
      book-early before (one ∷ own) end talked (t ∷ times) answered book = (
        λ receipt among. was-early receipt.earliest t.answered answered.0 (book.0 receipt among),
        book-early talked.0 own end talked.2 times answered.1 book.1,
      )

      early-cut : HaveSeenNoMore (record { node = node; calls = calls; timeline = timeline; workers = workers }) → IsNodeCut (record { node = node; calls = calls; timeline = timeline; workers = workers })
      early-cut enough =
          let cut : NodeCut gives failed says hears = record { node = node; calls = calls; timeline = timeline; workers = workers } in
          record {
            proved = proved;
            later = later;
            calls_are = calls_are;
            running = running;
            workers = All-weaker (Contains workers) (IsInNode cut)
                (λ worker among.
                let at = of-worker workers node.workers all worker among in
                record {
                  whole = at.0;
                  of_node = at.1;
                  begins = at.2.until.begins;
                  seen = All-contains (λ (w : TimedWorker gives failed says hears). length w.after.watch.items ≤ length (published_by early_machine)) workers worker enough among;
                  in_order = at.2.in_order;
                  read = at.2.read;
                  book = book-early worker.before worker.calls worker.after worker.talked worker.times at.2.until.rests.answered at.2.book;
                })
                workers (All-contains_itself workers);
          }

    rested : All (RestsAt time) node.workers → (cut : NodeCut gives failed says hears) × IsCutAt node calls time cut × (HaveSeenNoMore cut → IsNodeCut cut)
    rested rests =
        let made = early-workers node.workers (λ whole among. let at = All-contains (RestsAt time) node.workers whole rests among in early-worker whole among at.0 at.1 at.2) in
        let cut : NodeCut gives failed says hears = record { node = node; calls = calls; timeline = timeline; workers = made.0 } in (
          cut,
          record { node_is = refl; calls_are = refl; after = after; timeline_is = timeline_is; workers = all-until made.0 node.workers made.1 },
          early-cut made.0 made.1,
        )

  pub rest-cut : (node : Node gives failed says hears) (later calls : List RoundsCall) (time : ℕ) → IsNode node → IsWorking gives failed says hears node → node.machine.calls ≡ later ++ calls → All (RestsAt time) node.workers
      → (cut : NodeCut gives failed says hears) × IsCutAt node calls time cut × (HaveSeenNoMore cut → IsNodeCut cut)
  rest-cut node later calls time proved works calls_are =
      let first = machine-first node.machine later calls works.running calls_are in
      rested node proved works later calls first.0 first.1 time calls_are first.2 first.3

  -- ---- commits in cuts
  pub node-cuts-consistent : (cuts : List (NodeCut gives failed says hears)) (history : List Commit) → All IsNodeCut cuts → All (IsSeenInNodeCut cuts) history → IsConsistent history
  node-cuts-consistent cuts history are seen =
      within-consistent history
      (λ number commit inside.
      let at = seen number commit inside in
      node-within gives failed says hears (node_in at.cut) (cut-works at.cut (All-contains IsNodeCut cuts at.cut are at.among)) at.worker at.of_cut _ at.seen)
