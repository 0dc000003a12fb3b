-- A loop that reads items one after another.
use Rattle.std.proofs.Common.{◌≡◌, ℕ, ◌<◌, ◌≤◌, List, [], ◌∷◌, ◌++◌, length, sym, ◌∙◌, ap, subst, arith, append_assoc, length-append}
use Rattle.std.specs.Prelude.{All}
use Rattle.std.specs.List.{flat_map}
use Rattle.std.proofs.lemmas.List.{append-nil, length_push, flat_map_more}
use Rattle.std.proofs.lemmas.List.Elements.{All-head, All-tail, All-push}
use Rattle.tt_text.specs.Reading.{ReadsNothing, Reads, BeginsWith}

-- some items are found, and what is left spells the others
pub record AreReadSoFar {V : Type 0} (item : V → List ℕ) (Fits : V → Type 0) (Follows : List ℕ → Type 0) (most : ℕ) (bytes : List ℕ) (found : List V) (rest : List ℕ) : Type 0 where
  pub fits : All Fits found
  pub few : length found ≤ most
  pub is : bytes ≡ flat_map item found ++ rest
  pub only : (vs : List V) (other : List ℕ) → (length vs ≤ most) × All Fits vs → Follows other → bytes ≡ flat_map item vs ++ other → (ws : List V) × All Fits ws × (vs ≡ found ++ ws) × (rest ≡ flat_map item ws ++ other)

module _ {V : Type 0} (item : V → List ℕ) (Fits : V → Type 0) (ItemFollows Follows : List ℕ → Type 0) (most : ℕ) (word : List ℕ) (begins : (v : V) → BeginsWith word (item v)) (ends : (r : List ℕ) → Follows r → BeginsWith word r → ⊥) (goes_on : (vs : List V) (r : List ℕ) → Follows r → ItemFollows (flat_map item vs ++ r)) (bytes : List ℕ) where
  abbrev FitMany : List V → Type 0
  FitMany vs = (length vs ≤ most) × All Fits vs

  begins-append : (v : V) (r : List ℕ) → BeginsWith word (item v ++ r)
  begins-append v r =
      let w = begins v in
      (w.0 ++ r, ap (λ b. b ++ r) w.1 ∙ append_assoc word w.0 r)

  module _ (found : List V) (rest : List ℕ) (so_far : AreReadSoFar item Fits Follows most bytes found rest) where
    pub AreReadSoFar-push : (v : V) (next : List ℕ) → length found < most → Reads item Fits ItemFollows rest v next → AreReadSoFar item Fits Follows most bytes (found ++ v ∷ []) next
    AreReadSoFar-push v next room h =
        let one : flat_map item (found ++ v ∷ []) ≡ flat_map item found ++ item v = sym (flat_map_more item [] found v) in
        record {
          fits = All-push Fits found v so_far.fits h.fits;
          few = omega (arith, length_push found v);
          is = so_far.is ∙ (ap (λ r. flat_map item found ++ r) h.is ∙ (sym (append_assoc (flat_map item found) (item v) next) ∙ ap (λ b. b ++ next) (sym one)));
          only = λ vs other fits follows is. split vs other follows h (so_far.only vs other fits follows is);
        }
      where
        split : (vs : List V) (other : List ℕ) → Follows other → Reads item Fits ItemFollows rest v next → (ws : List V) × All Fits ws × (vs ≡ found ++ ws) × (rest ≡ flat_map item ws ++ other) → (ws : List V) × All Fits ws × (vs ≡ (found ++ v ∷ []) ++ ws) × (next ≡ flat_map item ws ++ other)
        split vs other follows h ([], fits, same, is) =
            absurd (ends other follows (subst (λ (r : List ℕ). BeginsWith word r) (sym h.is ∙ is) (begins-append v next)))
        split vs other follows h (w ∷ ws, fits, same, is) =
            let both = h.only w (flat_map item ws ++ other) (All-head Fits w ws fits) (goes_on ws other follows) (is ∙ append_assoc (item w) (flat_map item ws) other) in
            (ws, All-tail Fits w ws fits, same ∙ (ap (λ u. found ++ u ∷ ws) both.0 ∙ sym (append_assoc found (v ∷ []) ws)), sym both.1)

    -- an item that is none
    pub ReadsNothing-bad_item : BeginsWith word rest → ReadsNothing item Fits ItemFollows rest → ReadsNothing (flat_map item) FitMany Follows bytes
    ReadsNothing-bad_item more none vs other fits follows is = bad (so_far.only vs other fits follows is)
      where
        bad : (ws : List V) × All Fits ws × (vs ≡ found ++ ws) × (rest ≡ flat_map item ws ++ other) → ⊥
        bad ([], fits', same, is') = ends other follows (subst (λ (r : List ℕ). BeginsWith word r) is' more)
        bad (w ∷ ws, fits', same, is') =
            none w (flat_map item ws ++ other) (All-head Fits w ws fits') (goes_on ws other follows) (is' ∙ append_assoc (item w) (flat_map item ws) other)

    -- an item too many
    pub ReadsNothing-full : BeginsWith word rest → most ≤ length found → ReadsNothing (flat_map item) FitMany Follows bytes
    ReadsNothing-full more full vs other fits follows is = bad (so_far.only vs other fits follows is)
      where
        bad : (ws : List V) × All Fits ws × (vs ≡ found ++ ws) × (rest ≡ flat_map item ws ++ other) → ⊥
        bad ([], fits', same, is') = ends other follows (subst (λ (r : List ℕ). BeginsWith word r) is' more)
        bad (w ∷ ws, fits', same, is') = omega (arith, fits.0, ap length same, length-append found (w ∷ ws))

    -- the end of the items
    no_more : (BeginsWith word rest → ⊥) → (vs : List V) (other : List ℕ) → (ws : List V) × All Fits ws × (vs ≡ found ++ ws) × (rest ≡ flat_map item ws ++ other) → (vs ≡ found) × (other ≡ rest)
    no_more none vs other ([], fits', same, is') = (same ∙ append-nil found, sym is')
    no_more none vs other (w ∷ ws, fits', same, is') =
        absurd (none (subst (λ (r : List ℕ). BeginsWith word r) (sym (is' ∙ append_assoc (item w) (flat_map item ws) other)) (begins-append w (flat_map item ws ++ other))))

    pub Reads-many : (BeginsWith word rest → ⊥) → Follows rest → Reads (flat_map item) FitMany Follows bytes found rest
    Reads-many none follows = record {
      fits = (so_far.few, so_far.fits);
      follows = follows;
      is = so_far.is;
      only = λ vs other fits follows' is. no_more none vs other (so_far.only vs other fits follows' is);
    }

    -- items with something else behind them
    pub ReadsNothing-bad_end : (BeginsWith word rest → ⊥) → (Follows rest → ⊥) → ReadsNothing (flat_map item) FitMany Follows bytes
    ReadsNothing-bad_end none bad vs other fits follows is =
        bad (subst (λ (r : List ℕ). Follows r) (no_more none vs other (so_far.only vs other fits follows is)).1 follows)
