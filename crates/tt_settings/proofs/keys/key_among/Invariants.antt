-- The text is none of the keys so far.
use Rattle.std.proofs.Common.{◌≡◌, drop}
use Rattle.tt_settings.specs.Key.{key_among}
use Rattle.tt_settings.proofs.keys.key_among.Given as goal

abbrev pub invariant-loop-key : goal.invariant-loop-key
invariant-loop-key l = key_among l.text (drop l.key-index l.keys) ≡ key_among l.text l.keys
