-- What is decided by what is known of a file.
use Rattle.std.specs.Prelude.{◌≡◌, Bool, if◌then◌else◌, Option, Some, None}
use Rattle.tt_files.specs.declared.facts.Facts.{Facts}
use Rattle.tt_files.specs.declared.facts.Kind.{Kind}
use Rattle.tt_files.specs.declared.facts.Kind.TheVariants.{Regular, Symlink, Other}
use Rattle.tt_files.specs.declared.facts.Way.{Way}
use Rattle.tt_files.specs.declared.facts.Way.TheVariants.{Open, Make, Missing, Refuse}

-- what is done with what is there: only a regular file is opened
abbrev pub way_with : Kind → Way
way_with Regular = Open
way_with Symlink = Refuse
way_with Other = Refuse

-- a file is made only where nothing is
abbrev pub way_at : Option Facts → Bool → Way
way_at (Some facts) creates = way_with facts.kind
way_at None creates = if creates then Make else Missing

-- the same inode on the same device
abbrev pub IsSameFile : Facts → Facts → Type 0
IsSameFile one other = (one.device ≡ other.device) × (one.inode ≡ other.inode)

-- what is at a path, a symlink not followed, is the file that is open, and it has no other name
abbrev pub IsOnlyAt : Facts → Option Facts → Type 0
IsOnlyAt held (Some found) = IsSameFile held found × (found.links ≡ 1)
IsOnlyAt held None = ⊥
