use Rattle.std.proofs.Common.{◌≡◌, ℕ, ◌<◌, [], length, take, map, get_or}
use Rattle.tt_world.specs.Trace.{outline}
use Rattle.tt_audit.specs.Suspects.{AreAllSuspects, publications_by}
use Rattle.tt_audit.proofs.suspecting.all_suspects.Given as goal

abbrev pub invariant-loop-publication : goal.invariant-loop-publication
invariant-loop-publication l =
    (length l.published ≡ 256)
    × ((m : ℕ) → m < 256 → get_or l.published m 0 ≡ publications_by m (map outline (take l.publication-index l.shown)))
    × AreAllSuspects [] (map outline (take l.publication-index l.shown)) l.found.items
