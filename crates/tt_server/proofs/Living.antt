-- Lives of the server: its epochs, its sessions, and what its threads hand back.
use Rattle.std.specs.Prelude.{◌≡◌, ◌<◌, ◌+◌, ◌^◌, ◌==◌, ℕ, suc, Bool, true, false, if◌then◌else◌, List, [], ◌∷◌, length, map, All, Result, Ok, Err, IfOk}
use Rattle.std.proofs.Common.{refl, sym, ap, ◌∙◌, subst, arith}
use Rattle.std.proofs.lemmas.List.Elements.{All-nil, All-cons, All-head, All-tail, All-weaker}
use mathlib.Core.List.{IsPrefix}
use Rattle.atomic_table.specs.Seated.{TableId}
use Rattle.tt_daemon.specs.Config.{Configuration, IsConfiguration}
use Rattle.tt_daemon.specs.Daemon.{DaemonState, new_daemon}
use Rattle.tt_daemon.specs.Publication.{Publication}
use Rattle.tt_publish.specs.Known.{Known, Source, WatchState, seen_of, new_watch}
use Rattle.tt_publish.specs.Reading.{fused_span_of}
use Rattle.tt_stamp.specs.Stamping.{SeatState, IsLegalRun, new_seat}
use Rattle.tt_stamp.specs.declared.stampings.Stamping.{Stamping}
use Rattle.tt_connections.specs.Station.{PostState}
use Rattle.tt_connections.specs.Sessions.{AreServedBetween}
use Rattle.tt_connections.specs.declared.posts.Terms.{Terms}
use Rattle.tt_clock.specs.Clock.{ClockState}
use Rattle.tt_workers.specs.Worker.{WorkerServed}
use Rattle.tt_epoch.specs.Disk.{Call, Gift, Gave, NotOwn, Done, Broke, number_of}
use Rattle.tt_epoch.specs.Course.{Stage, Reads, Writes, Syncs, Installs, Fixes, Answered, Over, step_of, stage_after, Takes}
use Rattle.tt_epoch.specs.declared.faults.EpochFault.TheVariants.{UsedUp}
use Rattle.tt_wire.specs.Wire.{Wiring}
use Rattle.tt_settings.specs.Settings.{Meaning}
use Rattle.tt_settings.specs.declared.forms.OnBreak.{OnBreak}
use Rattle.tt_settings.specs.declared.plans.Pauses.{Pauses}
use Rattle.tt_consistency.specs.Calls.{RoundsCall, AreInTurn, RiseIn, kept_after}
use Rattle.tt_consistency.specs.Coming.{AreHeard}
use Rattle.tt_consistency.specs.Steps.{Kept}
use Rattle.tt_node.specs.Sharing.{AllFrom}
use Rattle.tt_consistency.specs.Lives.{IsLife, WorksIn}
use Rattle.tt_consistency.specs.Sequencer.{HaveSeatsOf, ShareOneSequencer}
use Rattle.tt_server.specs.declared.faults.ServerFault.{ServerFault}
use Rattle.tt_server.specs.declared.states.Life.{Life as Current}
use Rattle.tt_server.specs.declared.lives.LifeEnd.{LifeEnd}
use Rattle.tt_server.specs.declared.lives.WorkerEnd.{WorkerEnd}
use Rattle.tt_server.specs.Break.{EndsBy}
use Rattle.tt_server.specs.Life.{ServerWorker, ServerLife, ServesByTurns, HandsBack, HandsShare, HandShares, TellOfEach, TellsOf}
use Rattle.tt_server.specs.Ring.{IsWireTo}
use Rattle.tt_server.specs.Thread.{HasSettings, terms_in, widest_in}

-- ---- epochs
-- the number of a stage, if it has one, is not 0
abbrev HasNumber : Stage → Type 0
HasNumber Reads = Unit {0}
HasNumber (Writes n) = 0 < n
HasNumber (Syncs n) = 0 < n
HasNumber (Installs n) = 0 < n
HasNumber (Fixes n) = 0 < n
HasNumber (Answered n) = 0 < n
HasNumber (Over fault) = Unit {0}

next-number : (n : ℕ) (b : Bool) → HasNumber (if b then Over UsedUp else Writes (n + 1))
next-number n true = tt
next-number n false = omega arith

step-number : (stage : Stage) (gift : Gift) → HasNumber stage → HasNumber (step_of stage gift)
step-number Reads (Gave file) has = next-number (number_of file) (number_of file == 18446744073709551615)
step-number Reads NotOwn has = tt
step-number Reads Done has = tt
step-number Reads (Broke reason) has = tt
step-number (Writes n) (Gave file) has = tt
step-number (Writes n) NotOwn has = tt
step-number (Writes n) Done has = has
step-number (Writes n) (Broke reason) has = tt
step-number (Syncs n) (Gave file) has = tt
step-number (Syncs n) NotOwn has = tt
step-number (Syncs n) Done has = has
step-number (Syncs n) (Broke reason) has = tt
step-number (Installs n) (Gave file) has = tt
step-number (Installs n) NotOwn has = tt
step-number (Installs n) Done has = has
step-number (Installs n) (Broke reason) has = tt
step-number (Fixes n) (Gave file) has = tt
step-number (Fixes n) NotOwn has = tt
step-number (Fixes n) Done has = has
step-number (Fixes n) (Broke reason) has = tt
step-number (Answered n) (Gave file) has = tt
step-number (Answered n) NotOwn has = tt
step-number (Answered n) Done has = tt
step-number (Answered n) (Broke reason) has = tt
step-number (Over fault) (Gave file) has = tt
step-number (Over fault) NotOwn has = tt
step-number (Over fault) Done has = tt
step-number (Over fault) (Broke reason) has = tt

steps-number : (stage : Stage) (gifts : List Gift) → HasNumber stage → HasNumber (stage_after stage gifts)
steps-number stage [] has = has
steps-number stage (gift ∷ gifts) has = steps-number (step_of stage gift) gifts (step-number stage gift has)

-- an epoch that a store gave is not 0
pub some-epoch : {S : Type 0} (does : S → Call → Gift → S → Type 0) (before after : S) (epoch : ℕ) → Takes does Reads before after (Ok epoch) → 0 < epoch
some-epoch does before after epoch takes = subst HasNumber takes.2 (steps-number Reads takes.0 tt)

-- a life that was made of these settings has them
pub has-settings : (settings : Meaning) (epoch : ℕ) (made current : Current)
    → made ≡ record { machine = settings.machine; epoch = epoch; config = settings.config; pauses = settings.pauses; lease = settings.lease; stampers = settings.stampers; on_break = settings.on_break; max_width = widest_in settings.max_width; clock = settings.clock; slew = settings.slew } → current ≡ made → 0 < epoch → epoch < 2 ^ 64 → HasSettings settings current
has-settings settings epoch made current is same some below =
    let e = same ∙ is in
    record {
      machine = ap (λ (l : Current). l.machine) e;
      config = ap (λ (l : Current). l.config) e;
      pauses = ap (λ (l : Current). l.pauses) e;
      lease = ap (λ (l : Current). l.lease) e;
      stampers = ap (λ (l : Current). l.stampers) e;
      on_break = ap (λ (l : Current). l.on_break) e;
      max_width = ap (λ (l : Current). l.max_width) e;
      clock = ap (λ (l : Current). l.clock) e;
      slew = ap (λ (l : Current). l.slew) e;
      first = subst (λ (n : ℕ). 0 < n) (sym (ap (λ (l : Current). l.epoch) e)) some;
      last = subst (λ (n : ℕ). n < 2 ^ 64) (sym (ap (λ (l : Current). l.epoch) e)) below;
    }

-- the epoch of an end is the one that the store gave
pub took-epoch : {S : Type 0} (does : S → Call → Gift → S → Type 0) (before after : S) (epoch current : ℕ) (result : Result LifeEnd ServerFault)
    → current ≡ epoch → Takes does Reads before after (Ok epoch) → IfOk result (λ end. end.epoch ≡ current) → IfOk result (λ end. Takes does Reads before after (Ok end.epoch))
took-epoch does before after epoch current (Ok end) same takes is = subst (λ (n : ℕ). Takes does Reads before after (Ok n)) (sym (is ∙ same)) takes
took-epoch does before after epoch current (Err fault) same takes is = tt

-- ---- what a worker hands back
-- a worker that began with this watch, these terms and this seat, and ended, hands back what its watch had seen, and its seat
pub handed-back : (watch seen : WatchState) (terms : Terms) (first : PostState ClockState) (begun seat : SeatState) (end : WorkerEnd)
    → first.watch ≡ watch → first.lease ≡ terms.lease → first.stampers ≡ terms.stampers → first.ahead ≡ terms.ahead → first.max_width ≡ terms.max_width → first.seat ≡ begun
    → WorkerServed first seen seat → end.seen ≡ seen_of seen → HandsBack watch terms begun end seat
handed-back watch seen terms first begun seat end watch_is lease_is stampers_is ahead_is width_is begun_is served seen_is = record {
  worker = record { post = first; last = served.last; sessions = served.sessions };
  watch_is = watch_is;
  lease_is = lease_is;
  stampers_is = stampers_is;
  ahead_is = ahead_is;
  width_is = width_is;
  goes = served.goes;
  between = served.between;
  by_turns = served.by_turns;
  seen_is = seen_is ∙ ap seen_of served.watch_is;
  begun_is = begun_is;
  seat_is = served.seat_is;
}

-- ---- watches
-- new watches of the same source, by a clock with the same drift
pub new-watches : (source source' : Source) (drift drift' : ℕ) (watches : List WatchState) → source' ≡ source → drift' ≡ drift
    → All (λ (w : WatchState). w ≡ new_watch source drift) watches → All (λ (w : WatchState). w ≡ new_watch source' drift') watches
new-watches source source' drift drift' watches same same' all =
    subst (λ (s : Source). All (λ (w : WatchState). w ≡ new_watch s drift') watches) (sym same)
    (subst (λ (d : ℕ). All (λ (w : WatchState). w ≡ new_watch source d) watches) (sym same') all)

-- ---- workers
-- a worker handed this back, and its watch has seen the first ones of these publications
record Fits (watch : WatchState) (terms : Terms) (published : List Publication) (worker : ServerWorker) : Type 0 where
  pub watch_is : worker.post.watch ≡ watch
  pub lease_is : worker.post.lease ≡ terms.lease
  pub stampers_is : worker.post.stampers ≡ terms.stampers
  pub ahead_is : worker.post.ahead ≡ terms.ahead
  pub width_is : worker.post.max_width ≡ terms.max_width
  pub between : AreServedBetween worker.post worker.last worker.sessions
  pub by_turns : ServesByTurns worker
  pub seen : IsPrefix worker.last.watch.items published

-- what holds of each element and its place says this of each
All-from : {A : Type 0} (Holds : ℕ → A → Type 0) (Goes : A → Type 0) → ((place : ℕ) (x : A) → Holds place x → Goes x) → (place : ℕ) (xs : List A) → AllFrom Holds place xs → All Goes xs
All-from Holds Goes goes place [] none = All-nil Goes
All-from Holds Goes goes place (x ∷ xs) (here, rest) = All-cons Goes x xs (goes place x here) (All-from Holds Goes goes (place + 1) xs rest)

abbrev pub Begins : List Publication → WorkerEnd → Type 0
Begins published end = IsPrefix end.seen.items published

-- what a worker has seen is of the source of its watch
source-handed : (watch : WatchState) (terms : Terms) (begun : SeatState) (end : WorkerEnd) (seat : SeatState) → HandsBack watch terms begun end seat → end.seen.source ≡ watch.source
source-handed watch terms begun end seat handed =
    ap (λ (k : Known). k.source) handed.seen_is ∙ (handed.goes.watch.source ∙ ap (λ (w : WatchState). w.source) handed.watch_is)

pub sources-handed : (watch : WatchState) (terms : Terms) (ends : List WorkerEnd) → HandShares watch terms ends → All (λ (end : WorkerEnd). end.seen.source ≡ watch.source) ends
sources-handed watch terms ends handed =
    All-from (HandsShare watch terms handed.table (length ends) handed.history) (λ (end : WorkerEnd). end.seen.source ≡ watch.source)
    (λ number end share. source-handed watch terms (new_seat handed.table (length ends) number) end share.seat share.handed) 0 ends handed.each

record Told (watch : WatchState) (terms : Terms) (table : TableId) (seats : ℕ) (history : List Stamping) (number : ℕ) (published : List Publication) (ends : List WorkerEnd) : Type 0 where
  pub workers : List ServerWorker
  pub each : TellOfEach ends workers
  pub fit : All (Fits watch terms published) workers
  pub len : length workers ≡ length ends
  pub shares : HaveSeatsOf table seats history number workers

told-of : (watch : WatchState) (terms : Terms) (table : TableId) (seats : ℕ) (history : List Stamping) (number : ℕ) (published : List Publication) (ends : List WorkerEnd)
    → AllFrom (HandsShare watch terms table seats history) number ends → All (Begins published) ends → Told watch terms table seats history number published ends
told-of watch terms table seats history number published [] all begin = record { workers = []; each = tt; fit = All-nil (Fits watch terms published); len = refl; shares = tt }
told-of watch terms table seats history number published (end ∷ ends) all begin =
    let here = all.0.handed in
    let rest = told-of watch terms table seats history (number + 1) published ends all.1 (All-tail (Begins published) end ends begin) in
    let next : number + 1 ≡ suc number = omega arith in
    let begins : IsPrefix (seen_of here.worker.last.watch).items published =
    subst (λ (k : Known). IsPrefix k.items published) here.seen_is (All-head (Begins published) end ends begin) in
    let fits : Fits watch terms published here.worker =
    record { watch_is = here.watch_is; lease_is = here.lease_is; stampers_is = here.stampers_is; ahead_is = here.ahead_is; width_is = here.width_is; between = here.between; by_turns = here.by_turns; seen = begins } in
    let len : length rest.workers ≡ length ends = rest.len in
    record {
      workers = here.worker ∷ rest.workers;
      each = (here.seen_is, rest.each);
      fit = All-cons (Fits watch terms published) here.worker rest.workers fits rest.fit;
      len = omega arith;
      shares = (all.0.share, subst (λ (n : ℕ). HaveSeatsOf table seats history n rest.workers) next rest.shares);
    }

-- ---- a life
-- the calls of a daemon that began so, over this wire, up to what it has published
abbrev pub HasCalled : Wiring → DaemonState → DaemonState → List Publication → ℕ → Type 0
HasCalled wire from to published shown = (calls : List RoundsCall) × AreInTurn (record { daemon = from; published = [] }) calls
    × (kept_after (record { daemon = from; published = [] }) calls ≡ record { daemon = to; published = map fused_span_of published })
    × RiseIn 0 calls shown × AreHeard wire calls

-- the calls of a daemon whose clock began at 0, up to what its teller told
pub has-called : (wire : Wiring) (from to : DaemonState) (published told : List Publication) (first shown : ℕ) → first ≡ 0 → told ≡ published
    → (calls : List RoundsCall) × AreInTurn (record { daemon = from; published = [] }) calls
    × (kept_after (record { daemon = from; published = [] }) calls ≡ record { daemon = to; published = map fused_span_of published })
    × RiseIn first calls shown × AreHeard wire calls
    → HasCalled wire from to told shown
has-called wire from to published told first shown none same called = subst (λ (items : List Publication). HasCalled wire from to items shown) (sym same) (
  called.0,
  called.1,
  called.2,
  subst (λ (n : ℕ). RiseIn n called.0 shown) none called.3,
  called.4,
)

-- what the workers handed back, as their watches are of the source that was told
pub handed-of : (source source' : Source) (drift : ℕ) (terms : Terms) (ends : List WorkerEnd) → source' ≡ source → HandShares (new_watch source drift) terms ends → HandShares (new_watch source' drift) terms ends
handed-of source source' drift terms ends same all = subst (λ (s : Source). HandShares (new_watch s drift) terms ends) (sym same) all

-- as many workers as ends share one sequencer
share-one : (table : TableId) (history : List Stamping) (workers : List ServerWorker) (count : ℕ) → length workers ≡ count → IsLegalRun count history → HaveSeatsOf table count history 0 workers → ShareOneSequencer workers
share-one table history workers count len legal each = record {
  table = table;
  history = history;
  legal = subst (λ (n : ℕ). IsLegalRun n history) (sym len) legal;
  each = subst (λ (n : ℕ). HaveSeatsOf table n history 0 workers) (sym len) each;
}

-- a life that ended, from what its threads handed back
pub life-ended : (settings : Meaning) (current : Current) (end : LifeEnd) (wire : Wiring) (from to : DaemonState) (shown : ℕ)
    → HasSettings settings current → IsConfiguration current.config → current.epoch < 2 ^ 64
    → IsWireTo settings.masters wire
    → from ≡ new_daemon settings.machine current.config current.epoch
    → HasCalled wire from to end.published.items shown
    → HandShares (new_watch end.published.source current.config.drift) (terms_in current) end.workers.items
    → All (Begins end.published.items) end.workers.items
    → end.epoch ≡ current.epoch → length end.workers.items ≡ settings.config.workers
    → EndsBy current.on_break current.config.drift (map fused_span_of end.published.items) end.broken
    → (life : ServerLife) × TellsOf settings end life
life-ended settings current end wire from to shown has configured below wired new called handed begin epoch count breaks =
    let watch = new_watch end.published.source current.config.drift in
    let terms = terms_in current in
    let published = end.published.items in
    let told = told-of watch terms handed.table (length end.workers.items) handed.history 0 published end.workers.items handed.each begin in
    let (calls, in_turn, kept, rise, heard) = subst (λ (d : DaemonState). HasCalled wire d to published shown) new called in
    let life : ServerLife = record {
      config = current.config;
      number = settings.machine;
      epoch = current.epoch;
      lease = current.lease;
      stampers = current.stampers;
      ahead = current.pauses.floor_ahead;
      max_width = current.max_width;
      calls = calls;
      source = end.published.source;
      published = published;
      workers = told.workers;
    } in
    let works : (worker : ServerWorker) → Fits watch terms published worker → WorksIn life worker = λ worker fits. record {
      watch = fits.watch_is;
      lease = fits.lease_is;
      stampers = fits.stampers_is;
      ahead = fits.ahead_is;
      width = fits.width_is;
      in_turn = fits.between;
      seen = fits.seen;
    } in
    let is_life : IsLife life = record {
      configured = configured;
      first = has.first;
      last = below;
      in_turn = in_turn;
      rising = (shown, rise);
      published = sym (ap (λ (k : Kept). k.published) kept);
      workers = All-weaker (Fits watch terms published) (WorksIn life) works told.workers told.fit;
    } in (
      life,
      record {
        is_life = is_life;
        heard = record { wire = wire; is_wire = wired; heard = heard };
        config = has.config;
        number = refl;
        lease = has.lease;
        stampers = has.stampers;
        ahead = ap (λ (p : Pauses). p.floor_ahead) has.pauses;
        max_width = has.max_width;
        epoch = sym epoch;
        source = refl;
        published = refl;
        workers = told.len ∙ count;
        by_turns = All-weaker (Fits watch terms published) ServesByTurns (λ (worker : ServerWorker) fits. fits.by_turns) told.workers told.fit;
        ends = told.each;
        shares = share-one handed.table handed.history told.workers (length end.workers.items) told.len handed.legal told.shares;
        breaks = subst (λ (act : OnBreak). EndsBy act settings.config.drift (map fused_span_of published) end.broken) has.on_break
            (subst (λ (config : Configuration). EndsBy current.on_break config.drift (map fused_span_of published) end.broken) has.config breaks);
      },
    )

-- the end of a life tells how it ended
pub life-breaks : (settings : Meaning) (result : Result LifeEnd ServerFault) → IfOk result (λ (end : LifeEnd). (life : ServerLife) × TellsOf settings end life)
    → IfOk result (λ (end : LifeEnd). EndsBy settings.on_break settings.config.drift (map fused_span_of end.published.items) end.broken)
life-breaks settings (Ok end) told = told.1.breaks
life-breaks settings (Err fault) told = tt
