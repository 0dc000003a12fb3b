use Rattle.std.proofs.Common.{◌≡◌, take}
use Rattle.tt_cert.specs.Valid.{meeting}
use Rattle.tt_cert.proofs.checking.met_by.Given as goal

-- how many of the spans so far meet the stretch
abbrev pub invariant-loop-span : goal.invariant-loop-span
invariant-loop-span l = l.met ≡ meeting (take l.span-index l.spans) l.stretch
