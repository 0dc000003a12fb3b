-- The bound that every life keeps.
use Rattle.std.specs.Prelude.{◌≡◌, ◌<◌, ◌≤◌, ℕ, ◌+◌, ◌==◌, Bool, true, false, if◌then◌else◌, List, [], ◌∷◌, ◌++◌, Option, Some}
use Rattle.std.proofs.Common.{inl, inr, refl, sym, subst, ap, arith}
use Rattle.tt_epoch.specs.Disk.{Disk, Draft, Unknown, Loose, Firm, Gift, Gave, NotOwn, Done, Broke, Gives, Replaces, MayReplace, synced_draft, AllFrom, Bound, number_of}
use Rattle.tt_epoch.specs.Course.{Stage, Reads, Writes, Syncs, Installs, Fixes, Answered, Over, call_at, next_of, step_of, stage_after, GivesAt, Does}
use Rattle.tt_epoch.specs.declared.faults.EpochFault.TheVariants.{UsedUp}
use Rattle.tt_epoch.specs.Lives.{IsOneOf, Restarts, Lives, answer_at, answers_of, Rises}

-- what is true of the disk at a stage of a life that began above k
abbrev Stands : ℕ → Stage → Disk → Type 0
Stands k Reads disk = Bound k disk
Stands k (Writes n) disk = Bound k disk × (k < n)
Stands k (Syncs n) disk = Bound k disk × (k < n) × (disk.draft ≡ Loose n)
Stands k (Installs n) disk = Bound k disk × (k < n) × (disk.draft ≡ Firm n)
Stands k (Fixes n) disk = Bound k disk × (k < n) × (disk.shown ≡ Some n)
Stands k (Answered n) disk = Bound n disk × (k < n)
Stands k (Over fault) disk = Bound k disk

-- the bound with another draft
with_draft : (k : ℕ) (disk : Disk) (draft : Draft) → Bound k disk → Bound k (record disk { draft = draft })
with_draft k disk draft bound = record { shown = bound.shown; left = bound.left }

next_stands : (k n : ℕ) (disk : Disk) (b : Bool) → Bound k disk → k ≤ n → Stands k (if b then Over UsedUp else Writes (n + 1)) disk
next_stands k n disk true bound le = bound
next_stands k n disk false bound le = (bound, omega arith)

replaced : (k n : ℕ) (before after : Disk) (draft : Draft) → Bound k before → k < n → draft ≡ Firm n → Replaces draft before after → Stands k (Fixes n) after
replaced k n before after draft bound lt firm gave =
    let h : Replaces (Firm n) before after = subst (λ d. Replaces d before after) firm gave in
    subst (Stands k (Fixes n)) (sym h) (record { shown = omega arith; left = (omega arith, bound.left) }, lt, refl)

may_replaced : (k n : ℕ) (before after : Disk) → Bound k before → k < n → MayReplace (Firm n) before after → Bound k after
may_replaced k n before after bound lt (inl is) = subst (Bound k) (sym is) (record { shown = omega arith; left = (omega arith, bound.left) })
may_replaced k n before after bound lt (inr is) = subst (Bound k) (sym is) (record { shown = bound.shown; left = (omega arith, bound.left) })

-- a call keeps it
keeps : (k : ℕ) (stage : Stage) (before after : Disk) (gift : Gift) → Stands k stage before → GivesAt Gives (call_at stage) before gift after
    → Stands k (step_of stage gift) after
keeps k Reads before after (Gave file) bound gave =
    let is : file ≡ before.shown = gave.0 in
    subst (Stands k (next_of (number_of file))) (sym gave.1)
    (next_stands k (number_of file) before (number_of file == 18446744073709551615) bound (subst (λ f. k ≤ number_of f) (sym is) bound.shown))
keeps k Reads before after NotOwn bound gave = subst (Bound k) (sym gave) bound
keeps k Reads before after Done bound gave = absurd gave
keeps k Reads before after (Broke reason) bound gave = subst (Bound k) (sym gave) bound
keeps k (Writes n) before after (Gave file) stands gave = absurd gave
keeps k (Writes n) before after NotOwn stands gave = absurd gave
keeps k (Writes n) before after Done stands gave = subst (Stands k (Syncs n)) (sym gave) (with_draft k before (Loose n) stands.0, stands.1, refl)
keeps k (Writes n) before after (Broke reason) stands gave = subst (Bound k) (sym gave) (with_draft k before Unknown stands.0)
keeps k (Syncs n) before after (Gave file) stands gave = absurd gave
keeps k (Syncs n) before after NotOwn stands gave = absurd gave
keeps k (Syncs n) before after Done stands gave =
    subst (Stands k (Installs n)) (sym gave) (with_draft k before (synced_draft before.draft) stands.0, stands.1, ap synced_draft stands.2)
keeps k (Syncs n) before after (Broke reason) stands gave = subst (Bound k) (sym gave) (with_draft k before Unknown stands.0)
keeps k (Installs n) before after (Gave file) stands gave = absurd gave
keeps k (Installs n) before after NotOwn stands gave = absurd gave
keeps k (Installs n) before after Done stands gave = replaced k n before after before.draft stands.0 stands.1 stands.2 gave
keeps k (Installs n) before after (Broke reason) stands gave =
    may_replaced k n before after stands.0 stands.1 (subst (λ d. MayReplace d before after) stands.2 gave)
keeps k (Fixes n) before after (Gave file) stands gave = absurd gave
keeps k (Fixes n) before after NotOwn stands gave = absurd gave
keeps k (Fixes n) before after Done stands gave =
    let is : number_of before.shown ≡ n = ap number_of stands.2 in
    subst (Stands k (Answered n)) (sym gave) (record { shown = omega arith; left = (omega arith, tt) }, stands.1)
keeps k (Fixes n) before after (Broke reason) stands gave = subst (Bound k) (sym gave) stands.0
keeps k (Answered n) before after gift stands gave = absurd gave
keeps k (Over fault) before after gift stands gave = absurd gave

-- a life keeps it
lives_on : (k : ℕ) (stage : Stage) (gifts : List Gift) (before after : Disk) → Stands k stage before → Does Gives stage before gifts after
    → Stands k (stage_after stage gifts) after
lives_on k stage [] before after stands did = subst (Stands k stage) (sym did) stands
lives_on k stage (gift ∷ gifts) before after stands did =
    lives_on k (step_of stage gift) gifts did.0 after (keeps k stage before did.0 gift stands did.1) did.2

-- the bound for the next life
abbrev bound_after : ℕ → Stage → ℕ
bound_after k (Answered n) = n
bound_after k _ = k

ended : (k : ℕ) (stage : Stage) (disk : Disk) → Stands k stage disk → Bound (bound_after k stage) disk
ended k Reads disk stands = stands
ended k (Writes n) disk stands = stands.0
ended k (Syncs n) disk stands = stands.0
ended k (Installs n) disk stands = stands.0
ended k (Fixes n) disk stands = stands.0
ended k (Answered n) disk stands = stands.0
ended k (Over fault) disk stands = stands

one_of : (k : ℕ) (file : Option ℕ) (files : List (Option ℕ)) → IsOneOf file files → AllFrom k files → k ≤ number_of file
one_of k file [] one all = absurd one
one_of k file (f ∷ files) (inl is) all = subst (λ g. k ≤ number_of g) (sym is) all.0
one_of k file (f ∷ files) (inr one) all = one_of k file files one all.1

restarted : (k : ℕ) (before after : Disk) → Bound k before → Restarts before after → Bound k after
restarted k before after bound (inl crash) =
    let le : k ≤ number_of after.shown = one_of k after.shown before.left crash.file bound.left in
    record { shown = le; left = subst (AllFrom k) (sym crash.left) (le, tt) }
restarted k before after bound (inr is) = subst (Bound k) (sym is) (with_draft k before Unknown bound)

rises_after : (k : ℕ) (stage : Stage) (disk : Disk) (ns : List ℕ) → Stands k stage disk → Rises (bound_after k stage) ns → Rises k (answer_at stage ++ ns)
rises_after k Reads disk ns stands rises = rises
rises_after k (Writes n) disk ns stands rises = rises
rises_after k (Syncs n) disk ns stands rises = rises
rises_after k (Installs n) disk ns stands rises = rises
rises_after k (Fixes n) disk ns stands rises = rises
rises_after k (Answered n) disk ns stands rises = (stands.1, rises)
rises_after k (Over fault) disk ns stands rises = rises

-- over all lives the epochs rise
pub rises : (disk : Disk) (lives : List (List Gift)) (k : ℕ) → Bound k disk → Lives disk lives → Rises k (answers_of lives)
rises disk [] k bound lived = tt
rises disk (gifts ∷ lives) k bound lived =
    let stands = lives_on k Reads gifts disk lived.0 bound lived.2 in
    let stage : Stage = stage_after Reads gifts in
    let on = restarted (bound_after k stage) lived.0 lived.1 (ended k stage lived.0 stands) lived.3 in
    rises_after k stage lived.0 (answers_of lives) stands (rises lived.1 lives (bound_after k stage) on lived.4)
