-- Whether files of the settings are one file, by their folders and their names there.
use Rattle.std.specs.Prelude.{codes, ◌&&◌, ◌||◌, Bool, nat_eq, List, string_bytes}
use Rattle.std.specs.List.{list_any}
use Rattle.tt_files.specs.declared.facts.Facts.{Facts}
use Rattle.tt_settings.specs.Path.{meets, meets_state}
use Rattle.ttd.specs.declared.places.Place.{Place}

-- both are the same folder: the same inode on the same device
abbrev pub is_one_folder : Facts → Facts → Bool
is_one_folder one other = nat_eq one.device other.device && nat_eq one.inode other.inode

-- two places, with their drafts and locks, have a file in common
abbrev pub meets_at : Place → Place → Bool
meets_at one other = is_one_folder one.folder other.folder && meets (string_bytes one.name) (string_bytes other.name)

-- a place has a file in common with the folder of the state, which is at the other one
abbrev pub meets_state_at : Place → Place → Bool
meets_state_at one state = is_one_folder one.folder state.folder && meets_state (string_bytes one.name) (string_bytes state.name)

-- a place has a file in common with the state, which is at each of these, or with one of the places before it
abbrev pub is_taken : List Place → List Place → Place → Bool
is_taken states before place = list_any (meets_state_at place) states || list_any (meets_at place) before
