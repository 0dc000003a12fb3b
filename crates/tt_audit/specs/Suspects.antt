-- The suspects of all publications of a run.
use Rattle.std.specs.Prelude.{◌≡◌, ℕ, ◌+◌, ◌==◌, List, [], ◌∷◌, ◌++◌, map, count_by}
use Rattle.tt_fuse.specs.Suspect.{AreSuspects}
use Rattle.tt_world.specs.Publications.{Showing}
use Rattle.tt_audit.specs.declared.reports.Suspect.{Suspect}

-- how many of these publications machine m has made, over all its lives
abbrev pub publications_by : ℕ → List Showing → ℕ
publications_by m shown = count_by (λ s. s.machine == m) shown

-- the suspects of one publication, after these: each with its machine, and the publication's number over all lives of that machine
abbrev pub suspects_named : List Showing → Showing → List ℕ → List Suspect
suspects_named before showing sources =
    map (λ source. record { machine = showing.machine; publication = publications_by showing.machine before + 1; source = source }) sources

-- all suspects of these publications, after those before: for each publication, in order, the sources whose spans don't meet its span, ascending
abbrev pub AreAllSuspects : List Showing → List Showing → List Suspect → Type 0
AreAllSuspects before [] suspects = suspects ≡ []
AreAllSuspects before (showing ∷ shown) suspects =
    (sources : List ℕ) × (others : List Suspect) × AreSuspects showing.spans showing.span sources
    × AreAllSuspects (before ++ showing ∷ []) shown others
    × (suspects ≡ suspects_named before showing sources ++ others)
