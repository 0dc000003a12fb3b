-- Whether a machine could write files in a folder.
use Rattle.std.specs.Prelude.{ℕ, ◌/◌, ◌%◌, ◌||◌, Bool, true, false, nat_eq, if◌then◌else◌, Option, Some, None}
use Rattle.tt_files.specs.declared.facts.Facts.{Facts}
use Rattle.ttd.specs.declared.checking.FolderFault.{FolderFault}
use Rattle.ttd.specs.declared.checking.FolderFault.TheVariants.{Missing, NotFolder, Unwritable}

-- The modes let this user write: the root always, the owner by the owner's bit, and others by that of the group or of all others.
abbrev pub may_write : ℕ → ℕ → ℕ → Bool
may_write mode owner user =
    if nat_eq user 0 then true
    else (if nat_eq owner user then nat_eq (mode / 128 % 2) 1 else nat_eq (mode / 16 % 2) 1 || nat_eq (mode / 2 % 2) 1)

-- Why this user could write no file in a folder, by what is at its path.
abbrev pub folder_fault : Option Facts → ℕ → Option FolderFault
folder_fault None user = Some Missing
folder_fault (Some facts) user =
    if nat_eq (facts.mode / 4096) 4 then (if may_write facts.mode facts.owner user then None else Some Unwritable) else Some NotFolder
