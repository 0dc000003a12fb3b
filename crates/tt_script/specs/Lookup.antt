-- What a table has under a key.
use Rattle.std.specs.Prelude.{ℕ, suc, ℤ, pos, ◌&&◌, Bool, true, nat_le, if◌then◌else◌, List, [], ◌∷◌, Option, Some, None, ok_or, is_some, Result, Ok, Err}
use Rattle.toml.specs.Data.{Data, Items, no_items, item, Members, get_member, as_str, as_integer, as_table}
use Rattle.tt_script.specs.declared.keys.Key.{Key}
use Rattle.tt_script.specs.declared.keys.Range.{Range}
use Rattle.tt_script.specs.declared.faults.Part.{Part}
use Rattle.tt_script.specs.declared.faults.ScriptFault.{ScriptFault}
use Rattle.tt_script.specs.declared.faults.ScriptFault.TheVariants.{WrongValue}
use Rattle.tt_script.specs.Fault.{missing, wrong, ◌>>=◌}
use Rattle.tt_script.specs.Key.{rule_of}

-- the value at a key, if it is there
abbrev pub found_at : Key → Members → Option Data
found_at key t = get_member (rule_of key).name t

-- the value at a key that has to be there
abbrev pub value_at : Part → Key → Members → Result Data ScriptFault
value_at part key t = ok_or (found_at key t) (missing part key)

-- what has to be of the right type
abbrev pub typed_value : {A : Type 0} → Part → Key → Option A → Result A ScriptFault
typed_value part key found = ok_or found (wrong part key)

-- a whole number that the key takes, if there is one
abbrev pub within : Part → Key → Option ℤ → Result ℕ ScriptFault
within part key (Some (pos n)) =
    if nat_le (rule_of key).range.least n && nat_le n (rule_of key).range.most then Ok n
    else Err (WrongValue (record { part = part; key = key; found = Some (pos n) }))
within part key found = Err (WrongValue (record { part = part; key = key; found = found }))

-- a number, or what stands for it where it is absent
abbrev pub number_or : Part → Key → Option Data → Result ℕ ScriptFault
number_or part key None = ok_or (rule_of key).range.default (missing part key)
number_or part key (Some d) = within part key (as_integer d)

-- the number at a key
abbrev pub number_at : Part → Key → Members → Result ℕ ScriptFault
number_at part key t = number_or part key (found_at key t)

-- the text at a key
abbrev pub text_at : Part → Key → Members → Result (List ℕ) ScriptFault
text_at part key t = do
  d ← value_at part key t
  typed_value part key (as_str d)

-- how many items there are
abbrev pub count_of : Items → ℕ
count_of no_items = 0
count_of (item d rest) = suc (count_of rest)

-- a number from the least to the greatest
abbrev pub is_in : Range → ℕ → Bool
is_in range n = nat_le range.least n && nat_le n range.most

-- as many items as the key takes
abbrev pub has_few : Key → Items → Bool
has_few key items = is_in (rule_of key).range (count_of items)

-- each item is a table
abbrev pub are_tables : Items → Bool
are_tables no_items = true
are_tables (item d rest) = is_some (as_table d) && are_tables rest

-- what each item is, counted from a number, or the refusal of the first that is refused
abbrev pub each : {A : Type 0} → (ℕ → Data → Result A ScriptFault) → ℕ → Items → Result (List A) ScriptFault
each f n no_items = Ok []
each f n (item d rest) = do
  x ← f n d
  xs ← each f (suc n) rest
  Ok (x ∷ xs)

-- what a table is, where the value is one
abbrev pub of_table : {A : Type 0} → Part → Key → (Members → Result A ScriptFault) → Data → Result A ScriptFault
of_table part key f d = do
  t ← typed_value part key (as_table d)
  f t
