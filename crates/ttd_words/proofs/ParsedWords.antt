-- What a parse of the words gives, in the words of the command line's own definitions.
use Rattle.std.proofs.Common.{◌≡◌, ◌∙◌, ◌⊎◌, Bool, true, false, cond, not, refl, sym, ap, subst, inl, inr, List, [], ◌∷◌, Result, Ok, Err, IsOk}
use Rattle.std.specs.List.{list_all}
use Rattle.std.proofs.lemmas.Bool.{false≢true}
use Rattle.clap.proofs.OnLiterals.{clap_on_literals}
use Rattle.clap.proofs.WalkLemmas.{both}
use Rattle.clap.specs.Walk.{Text}
use Rattle.clap.specs.Simple.{App, HasMatchesOf, is_simple, subcommand_of, subcommand_rows_of}
use Rattle.clap.specs.Faults.{fault_of, is_simple_and_free}
use Rattle.clap.specs.Kinds.{HasKind, IsAmong, Kinds}
use Rattle.clap.specs.Values.{kind_of}
use Rattle.clap.specs.declared.error.Error.{Error}
use Rattle.clap.specs.declared.error.kind.ErrorKind.{ErrorKind}
use Rattle.clap.specs.declared.error.kind.ErrorKind.TheVariants.{DisplayHelp, DisplayVersion, OutOfMemory}
use Rattle.clap.specs.declared.parser.matches.ArgMatches.{ArgMatches}
use Rattle.ttd_words.specs.CommandLine.{faults_of, named_by, names_service, ttd_app}
use Rattle.ttd_words.specs.Reading.{AreForHelp, AreMistaken, AreTaken, IsRefused, IsUnlessMemory, Meaning, Request, ToHelp, ToRun, ToServe, all_and_some, asked_by, asked_of, is_help, request_named, service_of, to_serve}
use Rattle.ttd_words.specs.declared.requests.Command.{Command}
use Rattle.ttd_words.specs.declared.faults.Given.TheVariants.{Side as TheSide}
use Rattle.ttd_words.specs.declared.faults.WordsFault.{WordsFault}
use Rattle.ttd_words.specs.declared.faults.WordsFault.TheVariants.{BadValue, BadWords, Memory}
use Rattle.ttd_words.proofs.FairWords.{IsFair, service_fair}
pub use Rattle.ttd_words.proofs.TakenWords.{taken_judged}

ttd_is_simple : is_simple ttd_app ≡ true
unfolding ttd_app clap_on_literals
ttd_is_simple = refl

ttd_is_free : is_simple_and_free ttd_app ≡ true
unfolding ttd_app clap_on_literals
ttd_is_free = refl

-- a parse that gives matches has met the command that the words name
pub parsed_named : (a : App) (words : List Text) (m : ArgMatches) → a ≡ ttd_app → HasMatchesOf a words m → subcommand_rows_of m ≡ named_by words
unfolding named_by
parsed_named a words m is h = (h (ap is_simple is ∙ ttd_is_simple)).1 ∙ ap (λ (x : App). subcommand_of x words) is

-- a parse fails by what clap finds wrong with the words
pub parsed_fails : (a : App) (words : List Text) → a ≡ ttd_app → (P : Kinds → Type 0) → (is_simple_and_free a ≡ true → P (fault_of a words)) → P (faults_of words)
unfolding faults_of
parsed_fails a words is P h = subst (λ (x : App). P (fault_of x words)) is (h (ap is_simple_and_free is ∙ ttd_is_free))

-- a request that is not refused is no call for help
pub record Asks (r : Result Request WordsFault) : Type 0 where
  pub request : Request
  pub is : r ≡ Ok request
  pub no_help : request ≡ ToHelp → ⊥

-- what is served is asked of a service, or refused, and not for want of memory
served_asks : (r : Result Meaning WordsFault) → IsFair r → Asks (to_serve r) ⊎ ((fault : WordsFault) × (to_serve r ≡ Err fault) × (fault ≡ Memory → ⊥))
served_asks (Ok service) fair = inl (record { request = ToServe service; is = refl; no_help = λ e. cc })
served_asks (Err fault) fair = inr (fault, refl, fair)

-- words at which clap finds nothing wrong ask for something, or are refused, and not for want of memory
clean_asks : (words : List Text) → faults_of words ≡ []
    → Asks (request_named (named_by words)) ⊎ ((fault : WordsFault) × (request_named (named_by words) ≡ Err fault) × (fault ≡ Memory → ⊥))
clean_asks words e = elim (taken_judged words e).answer [
  | inl (inl runs) ↦ inl (record { request = ToRun runs.command; is = runs.is; no_help = λ e. cc })
  | inl (inr bad) ↦ inr (BadValue TheSide, bad, λ e. cc)
  | inr served ↦ elim (served_asks (service_of served.name served.rows) (service_fair served.name served.rows)) [
    | inl asks ↦ inl (record { request = asks.request; is = served.is ∙ asks.is; no_help = asks.no_help })
    | inr refused ↦ inr (refused.0, served.is ∙ refused.1, refused.2)
  ]
]

-- words at which clap finds nothing wrong ask for what they name
pub asked_clean : (words : List Text) → faults_of words ≡ [] → asked_of words ≡ request_named (named_by words)
asked_clean words e = ap (λ (k : Kinds). asked_by k (named_by words)) e

pub taken_asks : (words : List Text) → AreTaken words → Asks (request_named (named_by words))
taken_asks words e = elim (clean_asks words e.0) [
  | inl asks ↦ asks
  | inr refused ↦ absurd (false≢true (subst IsOk refused.1 e.1))
]

pub asked_request : (words : List Text) → AreTaken words → (request : Request) × (asked_of words ≡ Ok request) × (request ≡ ToHelp → ⊥)
asked_request words e = let asks = taken_asks words e in (asks.request, asked_clean words e.0 ∙ asks.is, asks.no_help)

-- words at which clap finds nothing wrong are taken or a mistake
pub words_judged : (words : List Text) → faults_of words ≡ [] → AreTaken words ⊎ AreMistaken words
words_judged words e = elim (clean_asks words e) [
  | inl asks ↦ inl (e, subst IsOk (sym asks.is) refl)
  | inr refused ↦ inr (inr (e, (refused.0, refused.1)))
]

-- and if they name no service, they are taken, or their side is none
pub commands_complete : (words : List Text) → faults_of words ≡ [] → names_service (named_by words) ≡ false
    → AreTaken words ⊎ (asked_of words ≡ Err (BadValue TheSide))
commands_complete words e none = elim (taken_judged words e).answer [
  | inl (inl runs) ↦ inl (e, subst IsOk (sym runs.is) refl)
  | inl (inr bad) ↦ inr (asked_clean words e ∙ bad)
  | inr served ↦ absurd (false≢true (sym none ∙ served.is_service))
]

-- no refusal is want of memory
pub never_memory : (words : List Text) → asked_of words ≡ Err Memory → ⊥
never_memory words is = go (faults_of words) refl is
  where
    go : (k : Kinds) → faults_of words ≡ k → asked_by k (named_by words) ≡ Err Memory → ⊥
    go [] none is = elim (clean_asks words none) [
      | inl asks ↦ (let wrong : Ok asks.request ≡ Err Memory = sym asks.is ∙ is in cc)
      | inr refused ↦ refused.2 (let same : Err refused.0 ≡ Err Memory = sym refused.1 ∙ is in cc)
    ]
    go (kind ∷ kinds) none is = by_help (is_help kind) is
      where
        by_help : (b : Bool) → cond b (Ok ToHelp) (Err BadWords) ≡ Err Memory → ⊥
        by_help true e = cc
        by_help false e = cc

pub asked_is_ok : (words : List Text) → AreTaken words → IsOk (asked_of words)
asked_is_ok words e = subst IsOk (sym (asked_request words e).1) refl

-- a mistake is refused
pub asked_is_refused : (words : List Text) → AreMistaken words → IsRefused (asked_of words)
asked_is_refused words (inr refused) = (refused.1.0, asked_clean words refused.0 ∙ refused.1.1)
asked_is_refused words (inl mistaken) = go (faults_of words) mistaken
  where
    go : (k : Kinds) → all_and_some (λ kind. not (is_help kind)) k ≡ true → IsRefused (asked_by k (named_by words))
    go [] e = cc
    go (kind ∷ kinds) e = by_help (is_help kind) (both (not (is_help kind)) _ e).0
      where
        by_help : (b : Bool) → not b ≡ true → IsRefused (cond b (Ok ToHelp) (Err BadWords))
        by_help true t = cc
        by_help false t = (BadWords, refl)

-- ---- kinds of error

pub not_mistaken : (words : List Text) → AreTaken words → AreMistaken words → ⊥
not_mistaken words taken (inl e) = false≢true (sym (ap (all_and_some (λ k. not (is_help k))) taken.0) ∙ e)
not_mistaken words taken (inr e) = false≢true (subst IsOk e.1.1 taken.1)

pub not_for_help : (words : List Text) → faults_of words ≡ [] → AreForHelp words → ⊥
not_for_help words none e = false≢true (sym (ap (all_and_some is_help) none) ∙ e)

-- a kind other than out of memory comes only where clap finds something wrong
pub not_taken : (kinds : Kinds) (e : Error) → HasKind kinds e → (kind_of e ≡ OutOfMemory → ⊥) → kinds ≡ [] → ⊥
not_taken kinds e h memory none = elim h [
  | inl m ↦ memory m
  | inr among ↦
      let no_kind : IsAmong (kind_of e) [] = rw none at among in
      absurd no_kind
]

each_among : (test : ErrorKind → Bool) (kinds : Kinds) (k : ErrorKind) → list_all test kinds ≡ true → IsAmong k kinds → test k ≡ true
each_among test [] k e among = absurd among
each_among test (x ∷ xs) k e among =
    let parts = both (test x) (list_all test xs) e in
    elim among [ inl here ↦ ap test here ∙ parts.0 | inr later ↦ each_among test xs k parts.1 later ]

all_of_some : (test : ErrorKind → Bool) (kinds : Kinds) → all_and_some test kinds ≡ true → list_all test kinds ≡ true
all_of_some test [] e = refl
all_of_some test (x ∷ xs) e = e

-- each kind that is among those of which all pass passes, if it is not out of memory
pub passes_among : (test : ErrorKind → Bool) (kinds : Kinds) (e : Error) → all_and_some test kinds ≡ true → HasKind kinds e → (kind_of e ≡ OutOfMemory → ⊥)
    → test (kind_of e) ≡ true
passes_among test kinds e all h memory = elim h [
  | inl m ↦ absurd (memory m)
  | inr among ↦ each_among test kinds (kind_of e) (all_of_some test kinds all) among
]

pub is_help-true : (k : ErrorKind) → is_help k ≡ true → (k ≡ DisplayHelp) ⊎ (k ≡ DisplayVersion)
is_help-true DisplayHelp e = inl refl
is_help-true DisplayVersion e = inr refl
is_help-true _ e = absurd (false≢true e)

pub shown : (e : Error) (kind : ErrorKind) → kind ≡ kind_of e → (kind ≡ DisplayHelp) ⊎ (kind ≡ DisplayVersion) → is_help (kind_of e) ≡ true
shown e kind is (inl help) = ap is_help (sym is ∙ help)
shown e kind is (inr version) = ap is_help (sym is ∙ version)

pub help_no_memory : (e : Error) → is_help (kind_of e) ≡ true → kind_of e ≡ OutOfMemory → ⊥
help_no_memory e help memory = false≢true (sym (ap is_help memory) ∙ help)

-- help is no answer to a mistake
pub help_not_mistaken : (words : List Text) (e : Error) → AreMistaken words → HasKind (faults_of words) e → is_help (kind_of e) ≡ true → ⊥
help_not_mistaken words e (inr named) h help = not_taken (faults_of words) e h (help_no_memory e help) named.0
help_not_mistaken words e (inl mistaken) h help =
    let other = passes_among (λ k. not (is_help k)) (faults_of words) e mistaken h (help_no_memory e help) in
    false≢true (sym (ap not help) ∙ other)

-- only help answers a call for help
pub other_not_help : (words : List Text) (e : Error) → AreForHelp words → HasKind (faults_of words) e → (kind_of e ≡ OutOfMemory → ⊥)
    → (kind_of e ≡ DisplayHelp → ⊥) → (kind_of e ≡ DisplayVersion → ⊥) → ⊥
other_not_help words e asks h memory not_help not_version =
    elim (is_help-true (kind_of e) (passes_among is_help (faults_of words) e asks h memory)) [ inl help ↦ not_help help | inr version ↦ not_version version ]

-- what is read of words at which clap finds nothing wrong
pub record IsReadOf (words : List Text) (result : Result Request WordsFault) : Type 0 where
  pub taken : AreTaken words → IsOk (asked_of words) × IsUnlessMemory Memory (asked_of words) result
  pub mistaken : AreMistaken words → IsRefused (asked_of words) × IsUnlessMemory Memory (asked_of words) result
  pub helped : AreForHelp words → IsUnlessMemory Memory (Ok ToHelp) result
  pub help : result ≡ Ok ToHelp → ¬ AreTaken words
  pub commands : (command : Command) → result ≡ Ok (ToRun command) → AreTaken words
  pub services : (service : Meaning) → result ≡ Ok (ToServe service) → AreTaken words

read_ok : (words : List Text) (result : Result Request WordsFault) (request : Request) → faults_of words ≡ []
    → IsUnlessMemory Memory (request_named (named_by words)) result → result ≡ Ok request → AreTaken words
read_ok words result request none (inl same) is = (none, subst IsOk (sym is ∙ same) refl)
read_ok words result request none (inr memory) is = absurd (let wrong : Ok request ≡ Err Memory = sym is ∙ memory in cc)

read_clean : (words : List Text) (result : Result Request WordsFault) → faults_of words ≡ []
    → IsUnlessMemory Memory (request_named (named_by words)) result → IsUnlessMemory Memory (asked_of words) result
read_clean words result none (inl same) = inl (same ∙ sym (asked_clean words none))
read_clean words result none (inr memory) = inr memory

read_no_help : (words : List Text) (result : Result Request WordsFault) → IsUnlessMemory Memory (asked_of words) result → result ≡ Ok ToHelp → AreTaken words → ⊥
read_no_help words result (inl same) is taken =
    let asked = asked_request words taken in
    asked.2 (let wrong : Ok asked.0 ≡ Ok ToHelp = sym asked.1 ∙ (sym same ∙ is) in cc)
read_no_help words result (inr memory) is taken = let wrong : Ok ToHelp ≡ Err Memory = sym is ∙ memory in cc

pub read_taken : (words : List Text) (result : Result Request WordsFault) → faults_of words ≡ []
    → IsUnlessMemory Memory (request_named (named_by words)) result → IsReadOf words result
read_taken words result none read =
    let clean = read_clean words result none read in
    record {
      taken = λ taken. (asked_is_ok words taken, clean);
      mistaken = λ mistaken. (asked_is_refused words mistaken, clean);
      helped = λ helped. absurd (not_for_help words none helped);
      help = λ is taken. read_no_help words result clean is taken;
      commands = λ command is. read_ok words result (ToRun command) none read is;
      services = λ service is. read_ok words result (ToServe service) none read is;
    }

-- a mistake that clap itself finds is bad words
pub mistake_is_bad : (words : List Text) (e : Error) → AreMistaken words → HasKind (faults_of words) e → (kind_of e ≡ OutOfMemory → ⊥) → asked_of words ≡ Err BadWords
mistake_is_bad words e (inr refused) h memory = absurd (not_taken (faults_of words) e h memory refused.0)
mistake_is_bad words e (inl mistaken) h memory = go (faults_of words) mistaken
  where
    go : (k : Kinds) → all_and_some (λ kind. not (is_help kind)) k ≡ true → asked_by k (named_by words) ≡ Err BadWords
    go [] e = cc
    go (kind ∷ kinds) e = by_help (is_help kind) (both (not (is_help kind)) _ e).0
      where
        by_help : (b : Bool) → not b ≡ true → cond b (Ok ToHelp) (Err BadWords) ≡ Err BadWords
        by_help true t = cc
        by_help false t = refl
