use Rattle.std.proofs.Common.{◌≡◌, take, true}
use Rattle.std.specs.List.{AllByRecursion, list_all}
use Rattle.tt_keys.specs.Line.{IsNameByte, is_name_byte}
use Rattle.tt_keys.proofs.lines.is_name.Given as goal

abbrev pub invariant-bytes : goal.invariant-bytes
invariant-bytes l = record {
  named : AllByRecursion IsNameByte (take l.i l.name);
  passes : list_all is_name_byte (take l.i l.name) ≡ true;
}
