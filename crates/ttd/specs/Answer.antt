-- What is written of a refusal.
use Rattle.std.specs.Prelude.{◌⊎◌, Result, Ok, Err}
use Rattle.tt_stream.specs.declared.device.ByteWriter as writer
use Rattle.ttd_words.specs.Answer.{Gives, output_of, refusal}
use Rattle.ttd_words.specs.Reading.{Request}
use Rattle.ttd_words.specs.declared.ending.Status.{Status}
use Rattle.ttd_words.specs.declared.faults.WordsFault.{WordsFault}
use Rattle.ttd.specs.Fault.{number_of, status_of}
use Rattle.ttd.specs.declared.faults.ServiceFault.{ServiceFault}
use Rattle.ttd.specs.declared.faults.ServiceFault.TheVariants.{Words, Memory}

-- The one line of the refusal was written, and the program ends as after it, unless the output failed.
abbrev pub Refuses : {W : Type 0} → writer.Ghosts W → ServiceFault → W → W → Status → Type 0
Refuses shows fault old new status = Gives (refusal (number_of fault) (status_of fault)) (output_of shows old) (output_of shows new) status

-- The words were refused as they have to be, or memory ran out, and that is the refusal.
abbrev pub RefusesWords : {W : Type 0} → writer.Ghosts W → Result Request WordsFault → W → W → Status → Type 0
RefusesWords shows (Err fault) old new status = Refuses shows (Words fault) old new status ⊎ Refuses shows Memory old new status
RefusesWords shows (Ok request) old new status = ⊥
