-- What is replied to a script of which a twin is asked.
use Rattle.std.proofs.Common.{◌≡◌, ◌≤◌, ℕ, List, [], Result, Ok, Some, refl, sym, subst, slice_get}
use Rattle.tt_daemon.specs.Config.{Configuration}
use Rattle.tt_span.specs.Interval.{Interval}
use Rattle.tt_span.specs.Time.{max_time}
use Rattle.tt_script.specs.Script.{Scenario}
use Rattle.tt_twin.specs.declared.twins.Side.{Side as TwinSide}
use Rattle.tt_twin.specs.declared.twin_faults.TwinFault.{TwinFault}
use Rattle.tt_twin.specs.Alike.{HasReading}
use Rattle.tt_world.specs.declared.events.Event.{Event}
use Rattle.tt_world.specs.declared.events.Reply.TheVariants as replies
use Rattle.tt_world.specs.Reply.{replies_from}
use Rattle.ttd_commands.specs.Answer.{fine}
use Rattle.ttd_commands.specs.Twinning.{TellsFound, twin_text}

-- a reading that has a twin is the reply to its event
pub reading_there : (configs : List Configuration) (events : List Event) (k : ℕ) (side : TwinSide) → (x : ℕ) × (x ≤ max_time) × HasReading configs events k side x
    → (reading : Interval) × (slice_get (replies_from configs [] events) k ≡ Some (replies.Read reading))
reading_there configs events k side found = (found.2.reading, found.2.reads.replied)

pub twin_told : (script : Scenario) (k : ℕ) (found : Result (List Event) TwinFault) (twin : List Event) (reading : Interval) (text : List ℕ)
    → found ≡ Ok twin → slice_get (replies_from script.configs [] script.events) k ≡ Some (replies.Read reading) → text ≡ twin_text twin reading
    → TellsFound script k found (Ok (fine text))
twin_told script k found twin reading text is replied same =
    subst (λ (r : Result (List Event) TwinFault). TellsFound script k r (Ok (fine text))) (sym is) (record { reading = reading; replied = replied; is = rw same refl })
