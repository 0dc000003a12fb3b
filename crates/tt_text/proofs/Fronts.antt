-- A spelling from others.
use Rattle.std.proofs.Common.{◌≡◌, ℕ, ◌+◌, ◌<◌, ◌≤◌, List, ◌++◌, length, drop, sym, ◌∙◌, ap, subst, arith, append_assoc, length-append, length-drop}
use Rattle.std.specs.Prelude.{true, false, Option, Some, None, is_some, MatchOption}
use Rattle.std.proofs.lemmas.Bool.{false≢true, true≢false}
use Rattle.std.proofs.lemmas.List.{append_cancel_left, drop-drop}
use Rattle.tt_text.specs.Reading.{ReadsNothing, Reads, ReadsUpTo, NoWord, BeginsWith}

-- behind a word
module _ {V : Type 0} (spelling : V → List ℕ) (Fits : V → Type 0) (Follows : List ℕ → Type 0) (word bytes : List ℕ) where
  pub ReadsNothing-word : (body : List ℕ) → bytes ≡ word ++ body → ReadsNothing spelling Fits Follows body → ReadsNothing (λ v. word ++ spelling v) Fits Follows bytes
  ReadsNothing-word body is none v rest fits follows is' =
      none v rest fits follows (append_cancel_left word body (spelling v ++ rest) (sym is ∙ (is' ∙ append_assoc word (spelling v) rest)))

  pub Reads-word : (body : List ℕ) (v : V) (rest : List ℕ) → bytes ≡ word ++ body → Reads spelling Fits Follows body v rest → Reads (λ v. word ++ spelling v) Fits Follows bytes v rest
  Reads-word body v rest is h = record {
    fits = h.fits;
    follows = h.follows;
    is = is ∙ (ap (λ b. word ++ b) h.is ∙ sym (append_assoc word (spelling v) rest));
    only = λ w other fits follows is'.
        h.only w other fits follows (append_cancel_left word body (spelling w ++ other) (sym is ∙ (is' ∙ append_assoc word (spelling w) other)));
  }

-- of another value that has this one as its parts
module _ {V W : Type 0} (spelling : V → List ℕ) (Fits : V → Type 0) (Follows : List ℕ → Type 0) (parts : W → V) (FitsWhole : W → Type 0) (fits-parts : (w : W) → FitsWhole w → Fits (parts w)) (bytes : List ℕ) where
  pub ReadsNothing-parts : ReadsNothing spelling Fits Follows bytes → ReadsNothing (λ w. spelling (parts w)) FitsWhole Follows bytes
  ReadsNothing-parts none w rest fits follows is = none (parts w) rest (fits-parts w fits) follows is

  pub ReadsNothing-whole : (v : V) (rest : List ℕ) → Reads spelling Fits Follows bytes v rest → ((w : W) → FitsWhole w → parts w ≡ v → ⊥) → ReadsNothing (λ w. spelling (parts w)) FitsWhole Follows bytes
  ReadsNothing-whole v rest h none w other fits follows is = none w fits (h.only (parts w) other (fits-parts w fits) follows is).0

  pub Reads-whole : ((a b : W) → parts a ≡ parts b → a ≡ b) → (v : V) (rest : List ℕ) → Reads spelling Fits Follows bytes v rest → (w : W) → FitsWhole w → parts w ≡ v → Reads (λ w. spelling (parts w)) FitsWhole Follows bytes w rest
  Reads-whole one v rest h w fits same = record {
    fits = fits;
    follows = h.follows;
    is = subst (λ (u : V). bytes ≡ spelling u ++ rest) (sym same) h.is;
    only = λ w' other fits' follows' is'.
        let both = h.only (parts w') other (fits-parts w' fits') follows' is' in
        (one w' w (both.0 ∙ sym same), both.1);
  }

-- what is read moves on
pub further-ReadsUpTo : {V : Type 0} (spelling : V → List ℕ) (Fits : V → Type 0) (Follows : List ℕ → Type 0) (text : List ℕ) (at next : ℕ) (v : V) → at ≤ length text → 0 < length (spelling v) → ReadsUpTo spelling Fits Follows text at v next → at < next
further-ReadsUpTo spelling Fits Follows text at next v inside some h =
    omega (arith, h.0, ap length h.1.is, length-append (spelling v) (drop next text), length-drop at text, length-drop next text)

-- behind a word that stands at a place
pub after-word : (text word : List ℕ) (at : ℕ) → at ≤ length text → drop at text ≡ word ++ drop (length word) (drop at text) → (at + length word ≤ length text) × (drop at text ≡ word ++ drop (at + length word) text)
after-word text word at inside is =
    (omega (arith, length-drop at text, ap length is, length-append word (drop (length word) (drop at text))), is ∙ ap (λ r. word ++ r) (drop-drop (length word) at text))

module _ (word bytes text : List ℕ) where
  -- what `after` answers
  abbrev pub IsAfter : Option ℕ → Type 0
  IsAfter o = MatchOption o (NoWord word bytes) (λ next. (next ≤ length text) × (bytes ≡ word ++ drop next text))

  pub BeginsWith-from_after : (o : Option ℕ) → IsAfter o → is_some o ≡ true → BeginsWith word bytes
  BeginsWith-from_after None h e = absurd (false≢true e)
  BeginsWith-from_after (Some next) h e = (drop next text, h.1)

  pub NoWord-from_after : (o : Option ℕ) → IsAfter o → is_some o ≡ false → NoWord word bytes
  NoWord-from_after None h e = h
  NoWord-from_after (Some next) h e = absurd (true≢false e)

-- what a call answered, as another fact
pub MatchOption-weaker : {T : Type 0} (o : Option T) (P P' : Type 0) (Q Q' : T → Type 0) → MatchOption o P Q → (P → P') → ((x : T) → Q x → Q' x) → MatchOption o P' Q'
MatchOption-weaker None P P' Q Q' h f g = f h
MatchOption-weaker (Some x) P P' Q Q' h f g = g x h
