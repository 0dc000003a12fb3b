-- What is kept of a machine before anything has happened.
use Rattle.std.proofs.Common.{◌≡◌, ap₂, Option, ℕ, zero, suc, ◌+◌, List, [], ◌∷◌, ap, sym, refl, map, replicate, None}
use Rattle.std.specs.List.{range_with_len}
use Rattle.tt_source.specs.Table.{SourceState, unknown_source}
use Rattle.tt_span.specs.Interval.{Interval, whole}
use Rattle.tt_world.specs.Life.{life_at}
use Rattle.tt_publish.specs.declared.readings.FusedSpan.{FusedSpan}
use Rattle.tt_daemon.specs.Config.{Configuration}
use Rattle.tt_daemon.specs.Daemon.{DaemonState, new_daemon}
use Rattle.tt_stamp.specs.declared.commits.Entry.{Entry}
use Rattle.tt_world.specs.declared.workers.Worker.{Worker}
use Rattle.tt_world.specs.Private.Machine.{MachineState, machine_of}
use Rattle.tt_world.specs.Private.Step.{new_worker, machine_in}

-- the same for each number
pub map-const : {A : Type 0} (v : A) (a n : ℕ) → map (λ i. v) (range_with_len a n) ≡ replicate n v
map-const v a zero = refl
map-const v a (suc n) = ap (λ xs. v ∷ xs) (map-const v (a + 1) n)

-- a machine before anything has happened is as new
pub machine_in-first : (config : Configuration) (m : ℕ) → machine_in config m 1 whole 0 ≡ machine_of config [] (life_at [] m)
machine_in-first config m =
    let first : MachineState = machine_of config [] (life_at [] m) in
    ap₂ (λ (sources : List SourceState) (workers : List Worker). record first { daemon = record first.daemon { table = record first.daemon.table { sources = sources } }; workers = workers })
    (sym (map-const unknown_source 0 config.sources)) (sym (map-const new_worker 0 config.workers))

-- a machine as it begins a life, by its parts
abbrev pub machine : DaemonState → ℕ → Interval → ℕ → List FusedSpan → Option ℕ → List Entry → List Worker → MachineState
machine daemon life lease clock publications row book workers =
    record { daemon = daemon; life = life; lease = lease; clock = clock; publications = publications; row = row; book = book; workers = workers }

pub fresh-machine : (config : Configuration) (m life : ℕ) (lease : Interval) (clock : ℕ) (daemon : DaemonState) (publications : List FusedSpan) (row : Option ℕ) (book : List Entry) (workers : List Worker) →
    daemon ≡ new_daemon m config life → publications ≡ [] → row ≡ None → book ≡ [] → workers ≡ replicate config.workers new_worker →
    machine daemon life lease clock publications row book workers ≡ machine_in config m life lease clock
fresh-machine config m life lease clock daemon publications row book workers e f r g h = rw (e, f, r, g, h) refl
