-- Refusals: their numbers, and the first of several.
use Rattle.std.specs.Prelude.{◌≡◌, ◌⊎◌, ℕ, Option, Some, None, Result, Ok, Err}
use Rattle.tt_settings.specs.declared.keys.Key.{Key}
use Rattle.tt_settings.specs.declared.keys.Key.TheVariants.{Masters, Master, Faulty, Workers}
use Rattle.tt_settings.specs.declared.faults.SettingsFault.{SettingsFault}
use Rattle.tt_settings.specs.declared.faults.SettingsFault.TheVariants.{NotToml, UnknownKey, MissingKey, WrongValue, NotLocal, TooManyFaulty, TooFewWorkers, SamePath, SameMaster, BothForms, SameKey, Memory}

-- the number of each refusal
abbrev pub number_of : SettingsFault → ℕ
number_of NotToml = 1801
number_of UnknownKey = 1802
number_of (MissingKey key) = 1803
number_of (WrongValue key) = 1804
number_of (NotLocal key) = 1805
number_of (TooManyFaulty masters faulty most) = 1806
number_of TooFewWorkers = 1810
number_of (SamePath key) = 1817
number_of SameMaster = 1818
number_of BothForms = 1825
number_of SameKey = 1826
number_of Memory = 1

-- the key that is refused, where it is one that is known
abbrev pub key_in : SettingsFault → Option Key
key_in (MissingKey key) = Some key
key_in (WrongValue key) = Some key
key_in (NotLocal key) = Some key
key_in (TooManyFaulty masters faulty most) = Some Faulty
key_in TooFewWorkers = Some Workers
key_in (SamePath key) = Some key
key_in SameMaster = Some Masters
key_in BothForms = Some Masters
key_in SameKey = Some Master
key_in _ = None

-- the second step, where the first was not refused: so the first line of a `do` that refuses is the answer
infixl 10 ◌>>=◌
abbrev pub ◌>>=◌ : {A B : Type 0} → Result A SettingsFault → (A → Result B SettingsFault) → Result B SettingsFault
Ok x >>= f = f x
Err fault >>= f = Err fault

-- why there is no answer: the defined refusal, or an allocation failed
abbrev pub IsRefusal : {A : Type 0} → Result A SettingsFault → SettingsFault → Type 0
IsRefusal defined fault = (fault ≡ Memory) ⊎ (defined ≡ Err fault)
