-- The labels so far are good ones.
use Rattle.std.proofs.Common.{◌≡◌, length}
use Rattle.std.specs.List.{slice_split}
use denote.Shadow.{shadow}
use denote.Text.{Utf8}
use Rattle.tt_settings.specs.Socket.{are_labels, is_dot}
use Rattle.tt_settings.proofs.names.are_labels.Given as goal

abbrev pub invariant-labels : goal.invariant-labels
invariant-labels l = shadow (Utf8 l.rest) × (are_labels (slice_split is_dot l.rest) ≡ are_labels (slice_split is_dot l.text))

abbrev pub decreases-labels : goal.decreases-labels
decreases-labels l = length l.rest
