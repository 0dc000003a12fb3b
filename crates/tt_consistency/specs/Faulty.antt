-- Which sources of a running daemon are faulty, told without the events of the model. Each list has the newest first.
use Rattle.std.specs.Prelude.{◌≡◌, ℕ, ◌+◌, ◌==◌, ◌&&◌, ◌||◌, Bool, false, if◌then◌else◌, List, [], ◌∷◌, ◌++◌, Option, Some, None, IfSome, is_ok}
use Rattle.std.specs.Option.{option_or}
use Rattle.tt_span.specs.Interval.{Interval, Holds}
use Rattle.tt_fuse.specs.Fusion.{IsSetOfAtMost, IsOutside}
use Rattle.tt_poll.specs.Spelling.{spelling_of2}
use Rattle.tt_poll.specs.declared.messages.Message2.TheVariants.{Answer}
use Rattle.tt_source.specs.Table.{take_of}
use Rattle.tt_daemon.specs.Config.{Configuration}
use Rattle.tt_world.specs.Life.{Life}
use Rattle.tt_consistency.specs.Steps.{Kept, Polls, Takes, Fuses, new_kept, after_steps}
use Rattle.tt_consistency.specs.Timeline.{Happening, Does, Answers, Timed, steps_told, are_same}

-- what the steps of a timeline make of a new daemon in its life
abbrev pub kept_told : Configuration → Life → List Timed → Kept
kept_told config life timeline = after_steps (new_kept config life.machine life.number) (steps_told timeline)

-- ---- what a source gave

-- whether the daemon sends the request of this nonce to this source in what happens
abbrev pub is_asking : Kept → ℕ → ℕ → Happening → Bool
is_asking kept source nonce (Does (Polls to clock)) = to == source && kept.daemon.table.last + 1 == nonce
is_asking kept source nonce _ = false

-- whether the daemon has sent the request of this nonce to this source
abbrev pub has_asked : Configuration → Life → ℕ → ℕ → List Timed → Bool
has_asked config life source nonce [] = false
has_asked config life source nonce (timed ∷ timeline) = is_asking (kept_told config life timeline) source nonce timed.happening || has_asked config life source nonce timeline

-- the span of an answer, and the true time at which it was given
pub record GivenAnswer : Type 0 where
  pub at : ℕ
  pub span : Interval

-- the answer that this source gives by these bytes in what happens at a true time, if it gives one: an answer to no request is none
abbrev pub answer_in : Configuration → Life → ℕ → List ℕ → List Timed → ℕ → Happening → Option GivenAnswer
answer_in config life source bytes timeline at (Answers from nonce span) =
    if from == source && are_same (spelling_of2 (Answer (record { machine = life.machine; source = source; nonce = nonce; epoch = life.number; span = span }))) bytes && has_asked config life source nonce timeline
    then Some (record { at = at; span = span })
    else None
answer_in config life source bytes timeline at (Does step) = None

-- the answer that this source gave by these bytes, if it gave one: the last, where it gave them again
abbrev pub answer_by : Configuration → Life → ℕ → List ℕ → List Timed → Option GivenAnswer
answer_by config life source bytes [] = None
answer_by config life source bytes (timed ∷ timeline) = option_or (answer_in config life source bytes timeline timed.at timed.happening) (answer_by config life source bytes timeline)

-- ---- what the daemon took

-- bytes that the daemon took, and what had been told before
pub record Taken : Type 0 where
  pub bytes : List ℕ
  pub before : List Timed

-- what the daemon takes from this source in what happens, if it takes something: it refuses all but an answer to the request that waits
abbrev pub taken_in_step : Configuration → Life → ℕ → List Timed → Happening → Option Taken
taken_in_step config life source timeline (Does (Takes from bytes clock)) =
    if from == source && is_ok (take_of (kept_told config life timeline).daemon.table source clock bytes) then Some (record { bytes = bytes; before = timeline }) else None
taken_in_step config life source timeline _ = None

-- what the daemon took last from this source, if it took something
abbrev pub last_taken : Configuration → Life → ℕ → List Timed → Option Taken
last_taken config life source [] = None
last_taken config life source (timed ∷ timeline) = option_or (taken_in_step config life source timeline timed.happening) (last_taken config life source timeline)

-- ---- who is faulty

-- an answer was given, and its span held the true time then; where none was, the bytes were made up
abbrev pub WasTrue : Option GivenAnswer → Type 0
WasTrue None = ⊥
WasTrue (Some given) = Holds given.span given.at

-- a source is correct: the daemon took nothing from it, or what it took last is an answer that the source gave, which held the true time when it was given
abbrev pub IsCorrect : Configuration → Life → List Timed → ℕ → Type 0
IsCorrect config life timeline source = IfSome (last_taken config life source timeline) (λ taken. WasTrue (answer_by config life source taken.bytes taken.before))

-- at most as many sources are faulty as may be: all outside some set of at most so many are correct
pub record HasFewFaulty (config : Configuration) (life : Life) (timeline : List Timed) : Type 0 where
  pub faulty : List Bool
  pub few : IsSetOfAtMost config.faulty config.sources faulty
  pub others : (source : ℕ) → IsOutside faulty source → IsCorrect config life timeline source

-- at each fusion of a timeline at most as many sources are faulty as may be, by what was told before it
abbrev pub FewFaulty : Configuration → Life → List Timed → Type 0
FewFaulty config life timeline =
    (later before : List Timed) (at clock : ℕ) → timeline ≡ later ++ record { at = at; happening = Does (Fuses clock) } ∷ before → HasFewFaulty config life before
