-- Ids of commits.
use Rattle.std.specs.Prelude.{◌==◌, ◌&&◌, Bool}
use Rattle.std.specs.declared.cmp.Ordering.{Ordering}
use Rattle.std.specs.Ordering.{nat_cmp, ordering_then}
use Rattle.tt_stamp.specs.declared.commits.Id.{Id}

-- the two ids are one
abbrev pub same_id : Id → Id → Bool
same_id a b = (a.session == b.session) && (a.number == b.number)

-- the order of ids: by session, then by number
abbrev pub id_cmp : Id → Id → Ordering
id_cmp a b = ordering_then (nat_cmp a.session b.session) (nat_cmp a.number b.number)
