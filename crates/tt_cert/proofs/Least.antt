-- The least numbers of the sources that hold a time.
use Rattle.std.proofs.Common.{◌≡◌, ◌≢◌, ℕ, zero, suc, ◌+◌, ◌-◌, ◌<◌, ◌≤◌, true, false, cond, List, [], ◌∷◌, ◌++◌, length, get_or, map, take, sym, ◌∙◌, ap, subst, refl, arith, length-take}
use Rattle.std.specs.Prelude.{filter, All, AllPairs}
use Rattle.std.specs.List.{enumerate_from, HoldsAt}
use Rattle.std.proofs.lemmas.Bool.{cond-true, cond-false}
use Rattle.std.proofs.lemmas.List.{append-nil, take-append-le, take_all, get_or-take, length-take-le, length_push, take_more}
use Rattle.std.proofs.lemmas.List.Elements.{All-nil, All-cons, All-take, All-weaker}
use Rattle.tt_span.specs.Interval.{Interval, Holds}
use Rattle.tt_fuse.specs.Depth.{holds, depth}
use Rattle.tt_cert.specs.Valid.{IsSourceAt, IsSetAt}
use Rattle.tt_cert.specs.Canonical.{sources_at}
use Rattle.tt_fuse.proofs.Counting.{count_by-yes, count_by-no}
use Rattle.tt_fuse.proofs.Possible.{Holds-from_holds}

module _ (x : ℕ) where
  -- the sources that hold x, numbered from k on
  abbrev pub sources_from : ℕ → List Interval → List ℕ
  sources_from k spans = map (λ source. source.0) (filter (λ source. holds x source.1) (enumerate_from k spans))

  sources_from-yes : (k : ℕ) (s : Interval) (spans : List Interval) → holds x s ≡ true → sources_from k (s ∷ spans) ≡ k ∷ sources_from (k + 1) spans
  sources_from-yes k s spans e =
      ap (map (λ (source : ℕ × Interval). source.0)) (cond-true (holds x s) ((k, s) ∷ filter (λ source. holds x source.1) (enumerate_from (k + 1) spans)) (filter (λ source. holds x source.1) (enumerate_from (k + 1) spans)) e)

  sources_from-no : (k : ℕ) (s : Interval) (spans : List Interval) → holds x s ≡ false → sources_from k (s ∷ spans) ≡ sources_from (k + 1) spans
  sources_from-no k s spans e =
      ap (map (λ (source : ℕ × Interval). source.0)) (cond-false (holds x s) ((k, s) ∷ filter (λ source. holds x source.1) (enumerate_from (k + 1) spans)) (filter (λ source. holds x source.1) (enumerate_from (k + 1) spans)) e)

  length-sources_from : (k : ℕ) (spans : List Interval) → length (sources_from k spans) ≡ depth spans x
  length-sources_from k [] = refl
  length-sources_from k (s ∷ spans) =
      let rest : length (sources_from (k + 1) spans) ≡ depth spans x = length-sources_from (k + 1) spans in
      elim (holds x s) as (λ b. holds x s ≡ b → length (sources_from k (s ∷ spans)) ≡ depth (s ∷ spans) x) [
        | true ↦ λ e. omega (arith, ap length (sources_from-yes k s spans e), rest, count_by-yes (holds x) s spans e)
        | false ↦ λ e. omega (arith, ap length (sources_from-no k s spans e), rest, count_by-no (holds x) s spans e)
      ] refl

  -- what each of them is
  abbrev IsNumbered : ℕ → List Interval → ℕ → Type 0
  IsNumbered k spans i = (k ≤ i) × (i < k + length spans) × HoldsAt (λ span. Holds span x) spans (i - k)

  IsNumbered-later : (k : ℕ) (s : Interval) (spans : List Interval) (i : ℕ) → IsNumbered (k + 1) spans i → IsNumbered k (s ∷ spans) i
  IsNumbered-later k s spans i h =
      let step : suc (i - (k + 1)) ≡ i - k = omega (arith, h.0) in
      (omega (arith, h.0), omega (arith, h.1), subst (λ (j : ℕ). HoldsAt (λ span. Holds span x) (s ∷ spans) j) step h.2)

  all-sources_from : (k : ℕ) (spans : List Interval) → All (IsNumbered k spans) (sources_from k spans)
  all-sources_from k [] = All-nil (IsNumbered k [])
  all-sources_from k (s ∷ spans) =
      let rest : All (IsNumbered k (s ∷ spans)) (sources_from (k + 1) spans) = All-weaker (IsNumbered (k + 1) spans) (IsNumbered k (s ∷ spans)) (IsNumbered-later k s spans) (sources_from (k + 1) spans) (all-sources_from (k + 1) spans) in
      let P : List ℕ → Type 0 = λ xs. All (IsNumbered k (s ∷ spans)) xs in
      let none : 0 ≡ k - k = omega arith in
      elim (holds x s) as (λ b. holds x s ≡ b → All (IsNumbered k (s ∷ spans)) (sources_from k (s ∷ spans))) [
        | true ↦ λ e. subst P (sym (sources_from-yes k s spans e)) (All-cons (IsNumbered k (s ∷ spans)) k (sources_from (k + 1) spans) (omega arith, omega arith, subst (λ (j : ℕ). HoldsAt (λ span. Holds span x) (s ∷ spans) j) none (λ d. Holds-from_holds x s e)) rest)
        | false ↦ λ e. subst P (sym (sources_from-no k s spans e)) rest
      ] refl

  all_pairs-cons : (i : ℕ) (is : List ℕ) → All (λ j. i ≢ j) is → AllPairs (λ i j. i ≢ j) is → AllPairs (λ i j. i ≢ j) (i ∷ is)
  all_pairs-cons i is all pairs zero zero d before below = absurd (omega arith)
  all_pairs-cons i is all pairs zero (suc b) d before below = all b d (omega arith)
  all_pairs-cons i is all pairs (suc a) zero d before below = absurd (omega arith)
  all_pairs-cons i is all pairs (suc a) (suc b) d before below = pairs a b d (omega arith) (omega arith)

  distinct-sources_from : (k : ℕ) (spans : List Interval) → AllPairs (λ i j. i ≢ j) (sources_from k spans)
  distinct-sources_from k [] = λ i j d before below. absurd (omega arith)
  distinct-sources_from k (s ∷ spans) =
      let rest : AllPairs (λ i j. i ≢ j) (sources_from (k + 1) spans) = distinct-sources_from (k + 1) spans in
      let P : List ℕ → Type 0 = λ xs. AllPairs (λ i j. i ≢ j) xs in
      elim (holds x s) as (λ b. holds x s ≡ b → AllPairs (λ i j. i ≢ j) (sources_from k (s ∷ spans))) [
        | true ↦ λ e. subst P (sym (sources_from-yes k s spans e)) (all_pairs-cons k (sources_from (k + 1) spans) (All-weaker (IsNumbered (k + 1) spans) (λ j. k ≢ j) (λ j h same. omega (arith, h.0, same)) (sources_from (k + 1) spans) (all-sources_from (k + 1) spans)) rest)
        | false ↦ λ e. subst P (sym (sources_from-no k s spans e)) rest
      ] refl

  -- so many of them are a set
  pub IsSetAt-least : (spans : List Interval) (count : ℕ) → count ≤ depth spans x → IsSetAt spans count x (take count (sources_at spans x))
  IsSetAt-least spans count enough =
      let sources : List ℕ = sources_from 0 spans in
      let many : count ≤ length sources = omega (arith, length-sources_from 0 spans) in
      let size : length (take count sources) ≡ count = length-take-le count sources many in
      record {
        size = size;
        distinct = λ i j d before below.
            let at_i : get_or (take count sources) i d ≡ get_or sources i d = get_or-take count sources i d (omega arith) in
            let at_j : get_or (take count sources) j d ≡ get_or sources j d = get_or-take count sources j d (omega arith) in
            λ e. distinct-sources_from 0 spans i j d before (omega arith) (sym at_i ∙ (e ∙ at_j));
        hold = All-take (IsSourceAt spans x) count sources (All-weaker (IsNumbered 0 spans) (IsSourceAt spans x) (λ i h.
            let same : i - 0 ≡ i = omega arith in
            (omega (arith, h.1), subst (λ (j : ℕ). HoldsAt (λ span. Holds span x) spans j) same h.2)) sources (all-sources_from 0 spans));
      }

  -- one span more
  sources_from-push : (k : ℕ) (spans : List Interval) (s : Interval) → sources_from k (spans ++ s ∷ []) ≡ sources_from k spans ++ cond (holds x s) ((k + length spans) ∷ []) []
  sources_from-push k [] s =
      let first : k + 0 ≡ k = omega arith in
      elim (holds x s) as (λ b. holds x s ≡ b → sources_from k (s ∷ []) ≡ cond b ((k + 0) ∷ []) []) [
        | true ↦ λ e. sources_from-yes k s [] e ∙ ap (λ n. n ∷ []) (sym first)
        | false ↦ λ e. sources_from-no k s [] e
      ] refl
  sources_from-push k (t ∷ spans) s =
      let step : (k + 1) + length spans ≡ k + suc (length spans) = omega arith in
      let rest : sources_from (k + 1) (spans ++ s ∷ []) ≡ sources_from (k + 1) spans ++ cond (holds x s) ((k + suc (length spans)) ∷ []) [] = sources_from-push (k + 1) spans s ∙ ap (λ n. sources_from (k + 1) spans ++ cond (holds x s) (n ∷ []) []) step in
      let last : List ℕ = cond (holds x s) ((k + suc (length spans)) ∷ []) [] in
      elim (holds x t) as (λ b. holds x t ≡ b → sources_from k (t ∷ (spans ++ s ∷ [])) ≡ sources_from k (t ∷ spans) ++ last) [
        | true ↦ λ e. sources_from-yes k t (spans ++ s ∷ []) e ∙ (ap (λ xs. k ∷ xs) rest ∙ ap (λ xs. xs ++ last) (sym (sources_from-yes k t spans e)))
        | false ↦ λ e. sources_from-no k t (spans ++ s ∷ []) e ∙ (rest ∙ ap (λ xs. xs ++ last) (sym (sources_from-no k t spans e)))
      ] refl

  sources_at-more : (spans : List Interval) (i : ℕ) (s : Interval) → i < length spans → s ≡ get_or spans i s → sources_at (take (i + 1) spans) x ≡ sources_at (take i spans) x ++ cond (holds x s) (i ∷ []) []
  sources_at-more spans i s inside is =
      let front : take (i + 1) spans ≡ take i spans ++ s ∷ [] = take_more spans i s inside ∙ ap (λ t. take i spans ++ t ∷ []) (sym is) in
      let size : 0 + length (take i spans) ≡ i = omega (arith, length-take-le i spans (omega arith)) in
      ap (sources_from 0) front ∙ (sources_from-push 0 (take i spans) s ∙ ap (λ n. sources_from 0 (take i spans) ++ cond (holds x s) (n ∷ []) []) size)

  -- a loop's step, where there is room and the next source holds x
  pub least-push : (spans : List Interval) (count i : ℕ) (s : Interval) (found : List ℕ) → i < length spans → s ≡ get_or spans i s → found ≡ take count (sources_at (take i spans) x) → length found < count → holds x s ≡ true → found ++ i ∷ [] ≡ take count (sources_at (take (i + 1) spans) x)
  least-push spans count i s found inside is same room passes =
      let sources : List ℕ = sources_at (take i spans) x in
      let short : length sources < count = omega (arith, ap length same, length-take count sources) in
      let all : take count sources ≡ sources = take_all count sources (omega arith) in
      let next : sources_at (take (i + 1) spans) x ≡ sources ++ i ∷ [] = sources_at-more spans i s inside is ∙ ap (λ xs. sources ++ xs) (cond-true (holds x s) (i ∷ []) [] passes) in
      let whole : take count (sources ++ i ∷ []) ≡ sources ++ i ∷ [] = take_all count (sources ++ i ∷ []) (omega (arith, length_push sources i)) in
      ap (λ xs. xs ++ i ∷ []) (same ∙ all) ∙ (sym whole ∙ ap (take count) (sym next))

  -- where there is none
  pub least-full : (spans : List Interval) (count i : ℕ) (s : Interval) (found : List ℕ) → i < length spans → s ≡ get_or spans i s → found ≡ take count (sources_at (take i spans) x) → count ≤ length found → found ≡ take count (sources_at (take (i + 1) spans) x)
  least-full spans count i s found inside is same full =
      let sources : List ℕ = sources_at (take i spans) x in
      let last : List ℕ = cond (holds x s) (i ∷ []) [] in
      let long : count ≤ length sources = omega (arith, ap length same, length-take count sources) in
      same ∙ (sym (take-append-le count sources last long) ∙ ap (take count) (sym (sources_at-more spans i s inside is)))

  -- where it does not hold x
  pub least-skip : (spans : List Interval) (count i : ℕ) (s : Interval) (found : List ℕ) → i < length spans → s ≡ get_or spans i s → found ≡ take count (sources_at (take i spans) x) → holds x s ≡ false → found ≡ take count (sources_at (take (i + 1) spans) x)
  least-skip spans count i s found inside is same fails =
      let sources : List ℕ = sources_at (take i spans) x in
      let next : sources_at (take (i + 1) spans) x ≡ sources = sources_at-more spans i s inside is ∙ (ap (λ xs. sources ++ xs) (cond-false (holds x s) (i ∷ []) [] fails) ∙ append-nil sources) in
      same ∙ ap (take count) (sym next)
