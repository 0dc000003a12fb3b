-- What stands behind the segments so far.
use Rattle.std.proofs.Common.{◌≡◌, take, option_copied}
use Rattle.tt_settings.specs.Print.{behind_in, later_groups}
use Rattle.tt_settings.proofs.prints.behind_later.Given as goal

abbrev pub invariant-loop-segment : goal.invariant-loop-segment
invariant-loop-segment l = option_copied l.rest ≡ behind_in (later_groups (take l.segment-index l.segments)) (option_copied l.fn.text)
