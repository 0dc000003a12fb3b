-- The acts of a master, as texts.
use Rattle.std.specs.Prelude.{codes, ℕ, ◌&&◌, nat_eq, nat_le, if◌then◌else◌, List, ◌++◌, length, drop, Option, Some, None, Result, Ok, Err}
use Rattle.std.specs.Cmp.Lexicographic.{pointwise}
use Rattle.std.specs.Fmt.{decimal}
use Rattle.std.specs.Str.Parse.{digits_value}
use Rattle.toml.specs.Data.{Data, Items, as_str, as_array}
use Rattle.tt_span.specs.Time.{max_time}
use Rattle.tt_master.specs.declared.acts.Act.{Act}
use Rattle.tt_master.specs.declared.acts.Act.TheVariants.{Honest, Ahead, Behind, Silent, Garbage, Repeat}
use Rattle.tt_script.specs.declared.keys.Key.TheVariants as key
use Rattle.tt_script.specs.declared.faults.Part.{Part}
use Rattle.tt_script.specs.declared.faults.ScriptFault.{ScriptFault}
use Rattle.tt_script.specs.Fault.{wrong, ◌>>=◌}
use Rattle.tt_script.specs.Lookup.{has_few, each, typed_value}

-- the text of an act
abbrev pub act_text : Act → List ℕ
act_text Honest = codes "honest"
act_text (Ahead n) = codes "ahead " ++ decimal n
act_text (Behind n) = codes "behind " ++ decimal n
act_text Silent = codes "silent"
act_text Garbage = codes "garbage"
act_text Repeat = codes "repeat"

-- how far an act is off from an honest one
abbrev pub offset_of : Act → ℕ
offset_of (Ahead n) = n
offset_of (Behind n) = n
offset_of _ = 0

-- the time that the digits write in decimal, with no zero in front
abbrev pub time_of : List ℕ → Option ℕ
time_of digits =
    let n = digits_value 10 digits in
    if pointwise nat_eq digits (decimal n) && nat_le n max_time then Some n else None

-- the time that the text writes behind a word
abbrev pub time_behind : List ℕ → List ℕ → Option ℕ
time_behind word text =
    let digits = drop (length word) text in
    if pointwise nat_eq text (word ++ digits) then time_of digits else None

-- an act that is ahead, or behind, by a time that is written
abbrev pub act_with_time : Option ℕ → Option ℕ → Option Act
act_with_time (Some ahead) behind = Some (Ahead ahead)
act_with_time None (Some behind) = Some (Behind behind)
act_with_time None None = None

-- the act that a text writes
abbrev pub act_in : List ℕ → Option Act
act_in text =
    if pointwise nat_eq text (codes "honest") then Some Honest
    else if pointwise nat_eq text (codes "silent") then Some Silent
    else if pointwise nat_eq text (codes "garbage") then Some Garbage
    else if pointwise nat_eq text (codes "repeat") then Some Repeat
    else act_with_time (time_behind (codes "ahead ") text) (time_behind (codes "behind ") text)

-- the act that a value writes
abbrev pub act_of : Part → Data → Result Act ScriptFault
act_of p d = do
  text ← typed_value p key.Acts (as_str d)
  typed_value p key.Acts (act_in text)

-- the act that an item of an array writes, whatever its number is
abbrev pub act_at : Part → ℕ → Data → Result Act ScriptFault
act_at p n d = act_of p d

-- from 1 to 64 acts
abbrev pub acts_if : Part → Items → Result Items ScriptFault
acts_if p items = if has_few key.Acts items then Ok items else Err (wrong p key.Acts)

-- the items of an array of acts
abbrev pub act_items_in : Part → Data → Result Items ScriptFault
act_items_in p d = do
  items ← typed_value p key.Acts (as_array d)
  acts_if p items

-- the acts that an array lists
abbrev pub acts_in : Part → Data → Result (List Act) ScriptFault
acts_in p d = do
  items ← act_items_in p d
  each (act_at p) 0 items
