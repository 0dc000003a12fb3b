-- The numbers of the refusals.
use Rattle.std.specs.Prelude.{ℕ, List, codes, Result, Ok, Err}
use Rattle.ttd_words.specs.declared.faults.Given.{Given}
use Rattle.ttd_words.specs.declared.faults.Given.TheVariants.{NotLocal, Address}
use Rattle.ttd_words.specs.declared.faults.TimeOption.{TimeOption}
use Rattle.ttd_words.specs.declared.faults.TimeOption.TheVariants.{Phc, TaiOffset, Offset, Act, Faulty, Margin, Every, MaxAge, NtpKey, NtpKeys, Local}
use Rattle.ttd_words.specs.declared.faults.WordsFault.{WordsFault}
use Rattle.ttd_words.specs.declared.faults.WordsFault.TheVariants.{BadWords, BadValue, Memory}

-- The name of an option of `master` that only one kind of its time has, without its hyphens.
abbrev pub id_of : TimeOption → List ℕ
id_of Phc = codes "phc"
id_of TaiOffset = codes "tai-offset"
id_of Offset = codes "offset"
id_of Act = codes "act"
id_of Faulty = codes "faulty"
id_of Margin = codes "margin"
id_of Every = codes "every"
id_of MaxAge = codes "max-age"
id_of NtpKey = codes "ntp-key"
id_of NtpKeys = codes "ntp-keys"
id_of Local = codes "local"

-- The number of the refusal of a value: 1805 of an address outside this host, and else that of bad words.
abbrev pub value_number : Given → ℕ
value_number NotLocal = 1805
value_number Address = 1805
value_number _ = 1601

-- The number of each refusal.
abbrev pub number_of : WordsFault → ℕ
number_of BadWords = 1601
number_of (BadValue given) = value_number given
number_of Memory = 1

-- The second step, where the first was not refused: so the first line of a `do` that refuses is the answer.
infixl 10 ◌>>=◌
abbrev pub ◌>>=◌ : {A B : Type 0} → Result A WordsFault → (A → Result B WordsFault) → Result B WordsFault
Ok x >>= f = f x
Err fault >>= f = Err fault
