-- The readings that the workers of a node gave.
use Rattle.std.specs.Prelude.{List}
use Rattle.std.specs.List.{flat_map}
use Rattle.tt_audit.specs.declared.live.LiveNote.{LiveNote}
use Rattle.tt_node.specs.declared.nodes.WorkerEnd.{WorkerEnd}

-- the notes of a worker, oldest first
abbrev pub notes_by : WorkerEnd → List LiveNote
notes_by worker = worker.notes.items

-- the notes of all workers, those of the first worker first
abbrev pub notes_of : List WorkerEnd → List LiveNote
notes_of workers = flat_map notes_by workers
