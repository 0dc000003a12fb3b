-- Refusals: their numbers, and the first of several.
use Rattle.std.specs.Prelude.{◌≡◌, ◌⊎◌, ℕ, [], None, Result, Ok, Err}
use Rattle.arrayvec.specs.ArrayString.{ArrayString}
use Rattle.tt_script.specs.declared.keys.Key.{Key}
use Rattle.tt_script.specs.declared.faults.Part.{Part}
use Rattle.tt_script.specs.declared.faults.ScriptFault.{ScriptFault}
use Rattle.tt_script.specs.declared.faults.ScriptFault.TheVariants as script
use Rattle.tt_script.specs.declared.faults.ScriptFault.TheVariants.{Memory}

-- the number of each refusal
abbrev pub number_of : ScriptFault → ℕ
number_of (script.NotToml reason) = 1301
number_of (script.MissingKey place) = 1302
number_of (script.WrongValue misfit) = 1303
number_of (script.UnknownStep event) = 1304
number_of script.TooManyEvents = 1305
number_of script.Memory = 1

-- a key is absent
abbrev pub missing : Part → Key → ScriptFault
missing part key = script.MissingKey (record { part = part; key = key })

-- a value is wrong, of which no number is told
abbrev pub wrong : Part → Key → ScriptFault
wrong part key = script.WrongValue (record { part = part; key = key; found = None })

-- a text is not TOML
abbrev pub not_toml : ScriptFault
not_toml = script.NotToml (record { bytes = []; spare = [] })

-- what is told of a refusal: the same, but that no rule fixes the words on a text that is not TOML
abbrev pub IsTold : ScriptFault → ScriptFault → Type 0
IsTold (script.NotToml reason) told = (words : ArrayString) × (told ≡ script.NotToml words)
IsTold fault told = told ≡ fault

-- the second step, where the first was not refused: so the first line of a `do` that refuses is the answer
infixl 10 ◌>>=◌
abbrev pub ◌>>=◌ : {A B : Type 0} → Result A ScriptFault → (A → Result B ScriptFault) → Result B ScriptFault
Ok x >>= f = f x
Err fault >>= f = Err fault

-- why there is no answer: the defined refusal, or an allocation failed
abbrev pub IsRefusal : {A : Type 0} → Result A ScriptFault → ScriptFault → Type 0
IsRefusal defined fault = (fault ≡ Memory) ⊎ (defined ≡ Err fault)

-- the same of a text
abbrev pub IsTextRefusal : {A : Type 0} → Result A ScriptFault → ScriptFault → Type 0
IsTextRefusal defined told = (told ≡ Memory) ⊎ ((fault : ScriptFault) × (defined ≡ Err fault) × IsTold fault told)
