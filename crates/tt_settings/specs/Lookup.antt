-- What a table has under a key.
use Rattle.std.specs.Prelude.{ℕ, suc, ℤ, pos, ◌&&◌, nat_le, if◌then◌else◌, List, [], ◌∷◌, Option, Some, None, ok_or, Result, Ok, Err}
use Rattle.toml.specs.Data.{Data, Items, no_items, item, Members, get_member, as_str, as_integer}
use Rattle.tt_settings.specs.declared.keys.Key.{Key}
use Rattle.tt_settings.specs.declared.keys.ValueKind.{ValueKind}
use Rattle.tt_settings.specs.declared.keys.ValueKind.TheVariants as kind
use Rattle.tt_settings.specs.declared.faults.SettingsFault.{SettingsFault}
use Rattle.tt_settings.specs.declared.faults.SettingsFault.TheVariants.{MissingKey, WrongValue}
use Rattle.tt_settings.specs.Fault.{◌>>=◌}
use Rattle.tt_settings.specs.Key.{text_of, kind_of}
use Rattle.tt_settings.specs.Duration.{duration_of}

-- what has to be of the right type
abbrev pub typed_value : {A : Type 0} → Key → Option A → Result A SettingsFault
typed_value key found = ok_or found (WrongValue key)

-- the value at a key
abbrev pub value_at : Key → Members → Result Data SettingsFault
value_at key t = ok_or (get_member (text_of key) t) (MissingKey key)

-- the whole number that a value is, where it is one and not below 0
abbrev pub natural : Option ℤ → Option ℕ
natural (Some (pos n)) = Some n
natural _ = None

abbrev pub whole_in : Data → Option ℕ
whole_in d = natural (as_integer d)

-- an amount from the least to the greatest, if there is one
abbrev pub within : Key → ℕ → ℕ → Option ℕ → Result ℕ SettingsFault
within key least most (Some n) = if nat_le least n && nat_le n most then Ok n else Err (WrongValue key)
within key least most None = Err (WrongValue key)

-- the amount that a value of this kind is: a number, or the nanoseconds of a length of time
abbrev pub amount_of : Key → ValueKind → Data → Result ℕ SettingsFault
amount_of key (kind.Number least most) d = within key least most (whole_in d)
amount_of key (kind.Duration least most) d = do
  text ← typed_value key (as_str d)
  within key least most (duration_of text)
amount_of key _ d = Err (WrongValue key)

-- the amount that the value of a key is
abbrev pub amount_in : Key → Data → Result ℕ SettingsFault
amount_in key d = amount_of key (kind_of key) d

-- the amount at a key
abbrev pub amount_at : Key → Members → Result ℕ SettingsFault
amount_at key t = do
  d ← value_at key t
  amount_in key d

-- what a value gives, or what stands for it where there is none
abbrev pub value_or : {A : Type 0} → A → (Data → Result A SettingsFault) → Option Data → Result A SettingsFault
value_or default f None = Ok default
value_or default f (Some d) = f d

-- the amount at a key that may be absent
abbrev pub amount_or : Key → ℕ → Members → Result ℕ SettingsFault
amount_or key default t = value_or default (amount_in key) (get_member (text_of key) t)

-- what a value gives that may be absent
abbrev pub optional : {A : Type 0} → (Data → Result A SettingsFault) → Option Data → Result (Option A) SettingsFault
optional f None = Ok None
optional f (Some d) = do
  x ← f d
  Ok (Some x)

-- the amount at a key that may be absent
abbrev pub optional_amount : Key → Members → Result (Option ℕ) SettingsFault
optional_amount key t = optional (amount_in key) (get_member (text_of key) t)

-- how many items there are
abbrev pub count_of : Items → ℕ
count_of no_items = 0
count_of (item d rest) = suc (count_of rest)

-- what each item is, or the refusal of the first that is refused
abbrev pub each : {A : Type 0} → (Data → Result A SettingsFault) → Items → Result (List A) SettingsFault
each f no_items = Ok []
each f (item d rest) = do
  x ← f d
  xs ← each f rest
  Ok (x ∷ xs)
