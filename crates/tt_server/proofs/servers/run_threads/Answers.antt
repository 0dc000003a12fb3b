use Rattle.std.proofs.Common.{◌≡◌, ◌<◌, ◌^◌, ℕ, List, All, length, vec_len, refl, sym, ap, ◌∙◌, subst, rules, arith}
use Rattle.std.specs.declared.thread.PromisedHandle.{PromisedHandle}
use Rattle.tt_daemon.specs.Config.{Configuration}
use Rattle.tt_publish.specs.Known.{Known, new_watch}
use Rattle.tt_stamp.specs.declared.sequencers.Seat.{Seat}
use Rattle.tt_clock.specs.Clock.{ClockState}
use Rattle.tt_node.specs.Sharing.{AllDown}
use Rattle.tt_server.specs.declared.lives.WorkerEnd.{WorkerEnd}
use Rattle.tt_server.specs.declared.workers.ServesClients.{ServesClients}
use Rattle.tt_server.specs.Ring.{IsWireTo}
use Rattle.tt_server.specs.Thread.{ServesAt, terms_in}
use Rattle.tt_server.proofs.Living.{Begins, new-watches, sources-handed, handed-of, has-called, life-ended}
use Rattle.tt_server.proofs.Ending.{told-so}
use Rattle.tt_server.proofs.Seating.{ready-seats}
use Rattle.tt_server.proofs.servers.run_threads.Goals as goal

pub start_all-requires-clause-seats : goal.start_all-requires-clause-seats
start_all-requires-clause-seats g c κs within =
    let posts = c.args.parts.posts in
    let count : vec_len posts.watches ≡ c.args.settings.now.config.workers = first_of (search rules, omega arith) in
    ready-seats c.args.settings.now _ _ _ _ _ (vec_len posts.watches) count c.requires.ready

pub start_all-requires-clause-watches : goal.start_all-requires-clause-watches
start_all-requires-clause-watches g c κs within =
    new-watches c.args.teller.now.source c.tell-opened.result.source c.args.settings.now.config.drift c.args.context.server.now.life.config.drift c.args.parts.posts.watches.items
    (ap (λ (k : Known). k.source) c.tell-opened.ensures) (ap (λ (k : Configuration). k.drift) c.requires.meant.config) c.requires.ready.new

pub join_workers-joined-requires-clause-each : goal.join_workers-joined-requires-clause-each
join_workers-joined-requires-clause-each g c =
    let life = c.args.context.server.now.life in
    let watch = new_watch c.tell-opened.result.source life.config.drift in
    let Serves : ℕ → ℕ → PromisedHandle (WorkerEnd × Seat) ServesClients → Type 0 =
    λ count number handle. ServesAt watch (terms_in life) c.args.parts.posts.sequencer.now count number handle.promise in
    let handles = c.start_all.new.handles in
    let all : vec_len handles ≡ vec_len c.args.parts.posts.watches = first_of (search rules, omega arith) in
    subst (λ count. AllDown (Serves count) count handles.items) (sym all) c.start_all.ensures.each

pub read_published-requires : goal.read_published-requires
read_published-requires g c =
    let life = c.args.context.server.now.life in
    let source : c.tell-published.result.source ≡ c.tell-opened.result.source =
    ap (λ (k : Known). k.source) c.tell-published.ensures ∙ (c.run_daemon.ensures.source ∙ sym (ap (λ (k : Known). k.source) c.tell-opened.ensures)) in
    let drift = life.config.drift in
    let ends = c.in-Some-joined.workers.items in
    subst (λ (ends : List WorkerEnd). All (λ (end : WorkerEnd). end.seen.source ≡ c.tell-published.result.source) ends) (sym c.deref.ensures.value)
    (sources-handed (new_watch c.tell-published.result.source drift) (terms_in life) ends
    (handed-of c.tell-opened.result.source c.tell-published.result.source drift (terms_in life) ends source c.in-Some-joined.ensures.shares))

pub returns-clause-life : goal.returns-clause-life
returns-clause-life g c =
    let life = c.args.context.server.now.life in
    let source : c.tell-published.result.source ≡ c.tell-opened.result.source =
    ap (λ (k : Known). k.source) c.tell-published.ensures ∙ (c.run_daemon.ensures.source ∙ sym (ap (λ (k : Known). k.source) c.tell-opened.ensures)) in
    let ends = c.in-Some-joined.workers.items in
    let wired = subst (IsWireTo c.args.settings.now.masters) (sym c.poller_of-poller.ensures.wire) c.requires.wired in
    let called = has-called c.poller_of-poller.result.polled.link.hearing.wire c.poller_of-poller.result.daemon c.run_daemon.new.poller.daemon c.run_daemon.new.teller.items c.tell-published.result.items c.new-clock.result.last c.run_daemon.new.clock.last
    (ap (λ (k : ClockState). k.last) c.new-clock.ensures.new) (ap (λ (k : Known). k.items) c.tell-published.ensures) c.run_daemon.ensures.calls in
    let handed = handed-of c.tell-opened.result.source c.tell-published.result.source life.config.drift (terms_in life) ends source c.in-Some-joined.ensures.shares in
    let begin = subst (λ (ends : List WorkerEnd). All (Begins c.tell-published.result.items) ends) c.deref.ensures.value (c.read_published.ensures c.if-not-read_published.false) in
    let below : life.epoch < 2 ^ 64 = search rules in
    let count : length ends ≡ c.args.settings.now.config.workers = first_of (search rules, omega arith) in
    life-ended c.args.settings.now life _ c.poller_of-poller.result.polled.link.hearing.wire c.poller_of-poller.result.daemon c.run_daemon.new.poller.daemon c.run_daemon.new.clock.last c.requires.meant c.poller_of-poller.ensures.configured below
    wired c.poller_of-poller.ensures.daemon called handed begin refl count
    (told-so _ _ _ _ _ _ (ap (λ (k : Known). k.items) c.tell-published.ensures) c.broken.ensures.value c.run_daemon.ensures.breaks)
