-- How a device within is asked as long as the clock shows a time before the deadline.
use Rattle.std.proofs.Common.{◌+◌, ◌<◌, ◌++◌, ◌∙◌, ℕ, List, Option, Some, None, ap, sym, add-one}
use Rattle.std.specs.Io.KnownBytes.{Keeps, Appends, Consumes}
use Rattle.tt_session.specs.Deadline.{ShowsBefore}

-- one more reading before the deadline
pub Shows-more : {C : Type 0} (gives : C → Option ℕ → C → Type 0) (deadline : ℕ) (before mid after : C) (n reading : ℕ)
    → ShowsBefore gives deadline before n mid → gives mid (Some reading) after → reading < deadline → ShowsBefore gives deadline before (n + 1) after
Shows-more gives deadline before mid after n reading shows gave early = rw add-one (mid, reading, shows, gave, early)

-- what is read or written after the bytes were kept
pub Keeps-then-Consumes : (a b c : Option (List ℕ)) (bytes : List ℕ) → Keeps a b → Consumes b c bytes → Consumes a c bytes
Keeps-then-Consumes None b c bytes keeps consumes = tt
Keeps-then-Consumes (Some x) None c bytes keeps consumes = absurd keeps
Keeps-then-Consumes (Some x) (Some y) None bytes keeps consumes = absurd consumes
Keeps-then-Consumes (Some x) (Some y) (Some z) bytes keeps consumes = sym keeps ∙ consumes

pub Keeps-then-Appends : (a b c : Option (List ℕ)) (bytes : List ℕ) → Keeps a b → Appends b c bytes → Appends a c bytes
Keeps-then-Appends None b c bytes keeps appends = tt
Keeps-then-Appends (Some x) None c bytes keeps appends = absurd keeps
Keeps-then-Appends (Some x) (Some y) None bytes keeps appends = absurd appends
Keeps-then-Appends (Some x) (Some y) (Some z) bytes keeps appends = appends ∙ ap (λ l. l ++ bytes) keeps
