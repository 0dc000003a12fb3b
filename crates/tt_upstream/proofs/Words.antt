-- The lines of a text, and the key among them.
use Rattle.std.proofs.Common.{◌≡◌, ℕ, false, eqb, List, [], ◌∷◌, ◌++◌, Some, None, Err, refl, ap, sym, ◌∙◌}
use Rattle.std.specs.Prelude.{unwrap_or, Result, Option}
use Rattle.std.proofs.lemmas.Bool.{ne_eqb}
use Rattle.tt_ntp.specs.Keyed.{PacketKey}
use Rattle.tt_upstream.specs.KeyFile.{lines_of, HasNoFeed, key_if_asked, key_among}
use Rattle.tt_upstream.specs.declared.key_files.NtpKeyFault.{NtpKeyFault}
use Rattle.tt_upstream.specs.declared.key_files.NtpKeyFault.TheVariants.{NoKey}

pub lines-cut : (line rest : List ℕ) → HasNoFeed line → lines_of (line ++ 10 ∷ rest) ≡ line ∷ lines_of rest
lines-cut [] rest none = refl
lines-cut (x ∷ line) rest none =
    let other : eqb x 10 ≡ false = ne_eqb x 10 none.0 in
    rw (other, lines-cut line rest none.1) refl

pub lines-last : (line : List ℕ) → HasNoFeed line → lines_of line ≡ line ∷ []
lines-last [] none = refl
lines-last (x ∷ line) none =
    let other : eqb x 10 ≡ false = ne_eqb x 10 none.0 in
    rw (other, lines-last line none.1) refl

-- a line that is not asked for is passed over
pub among-passes : (number : ℕ) (text line rest : List ℕ) → HasNoFeed line → text ≡ line ++ 10 ∷ rest → None ≡ key_if_asked number line → key_among number (lines_of rest) ≡ key_among number (lines_of text)
among-passes number text line rest none is other =
    sym (ap (λ (t : List ℕ). key_among number (lines_of t)) is ∙ ap (key_among number) (lines-cut line rest none) ∙ ap (λ (o : Option (Result PacketKey NtpKeyFault)). unwrap_or o (key_among number (lines_of rest))) (sym other))

-- the first line that is asked for has the key
pub among-found : (number : ℕ) (text line rest : List ℕ) (key : Result PacketKey NtpKeyFault) → HasNoFeed line → text ≡ line ++ 10 ∷ rest → Some key ≡ key_if_asked number line → key ≡ key_among number (lines_of text)
among-found number text line rest key none is here =
    sym (ap (λ (t : List ℕ). key_among number (lines_of t)) is ∙ ap (key_among number) (lines-cut line rest none) ∙ ap (λ (o : Option (Result PacketKey NtpKeyFault)). unwrap_or o (key_among number (lines_of rest))) (sym here))

pub among-last : (number : ℕ) (text : List ℕ) (key : Result PacketKey NtpKeyFault) → HasNoFeed text → Some key ≡ key_if_asked number text → key ≡ key_among number (lines_of text)
among-last number text key none here =
    sym (ap (key_among number) (lines-last text none) ∙ ap (λ (o : Option (Result PacketKey NtpKeyFault)). unwrap_or o (Err NoKey)) (sym here))

pub among-none : (number : ℕ) (text : List ℕ) → HasNoFeed text → None ≡ key_if_asked number text → Err NoKey ≡ key_among number (lines_of text)
among-none number text none other =
    sym (ap (key_among number) (lines-last text none) ∙ ap (λ (o : Option (Result PacketKey NtpKeyFault)). unwrap_or o (Err NoKey)) (sym other))
