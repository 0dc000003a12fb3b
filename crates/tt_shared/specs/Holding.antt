-- What a writer does with what it finds at its paths.
use Rattle.std.specs.Prelude.{ℕ, Bool, true, false, ◌==◌, ◌&&◌, if◌then◌else◌, bit_and, Option, Some, None}
use Rattle.tt_files.specs.declared.facts.Facts.{Facts}
use Rattle.tt_files.specs.declared.facts.Kind.{Kind}
use Rattle.tt_files.specs.declared.facts.Kind.TheVariants.{Regular, Symlink, Other}
use Rattle.tt_files.specs.Way.{IsSameFile}
use Rattle.tt_shared.specs.declared.holding.Adoption.{Adoption}
use Rattle.tt_shared.specs.declared.holding.Adoption.TheVariants.{Adopt, Replace, Refuse}
use Rattle.tt_shared.specs.declared.holding.Held.{Held}
use Rattle.tt_shared.specs.declared.holding.Seen.{Seen}

-- a regular file
abbrev pub is_regular : Kind → Bool
is_regular Regular = true
is_regular Symlink = false
is_regular Other = false

-- a regular file without another name, of this owner, which neither its group nor others may write
abbrev pub is_adoptable : Facts → ℕ → Bool
is_adoptable found owner = ((is_regular found.kind && found.owner == owner) && found.links == 1) && bit_and found.mode 0o022 == 0

-- what is done with what may not be adopted: a new file may take the place of a file or a symlink, and of nothing else
abbrev pub replaced : Kind → Adoption
replaced Regular = Replace
replaced Symlink = Replace
replaced Other = Refuse

-- what is done with what is at the path, or where nothing is
abbrev pub adoption_at : Option Facts → ℕ → Adoption
adoption_at None owner = Replace
adoption_at (Some found) owner = if is_adoptable found owner then Adopt else replaced found.kind

-- the path shows the file that is open
abbrev pub Shows : Option Facts → Facts → Type 0
Shows (Some found) held = IsSameFile held found
Shows None held = ⊥

-- both paths show the files that are open
abbrev pub StillThere : Held → Seen → Type 0
StillThere held seen = Shows seen.lock held.lock × Shows seen.file held.file
