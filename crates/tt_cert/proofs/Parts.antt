-- The lines of a certificate's text.
use Rattle.std.proofs.Common.{◌≡◌, ℕ, ◌<◌, ◌≤◌, List, [], ◌∷◌, ◌++◌, length, drop, sym, ◌∙◌, ap, subst, refl, arith, length-append}
use Rattle.std.specs.Prelude.{All}
use Rattle.std.specs.List.{flat_map}
use Rattle.std.proofs.lemmas.List.{append-nil}
use Rattle.std.proofs.lemmas.List.Elements.{All-nil, All-cons}
use Rattle.tt_span.specs.Time.{max_time}
use Rattle.tt_span.specs.Interval.{Interval, IsInterval}
use Rattle.tt_cert.specs.declared.certificate.Stretch.{Stretch}
use Rattle.tt_cert.specs.Proof.{Proof}
use Rattle.tt_text.specs.Line.{numbers_text, line_of, ends_of}
use Rattle.tt_text.proofs.Lines.{different-heads}
use Rattle.tt_cert.specs.Text.{numbers_of, stretch_line, claim_word, left_word, right_word, below_word, above_word, text_of, AreSources, IsStretch, AreStretches, IsSpan, IsReadable, HasText}
use Rattle.tt_text.specs.Reading.{ReadsNothing, Reads, Anything, NoWord, BeginsWith, IsNumber, AreNumbers}

-- the numbers of stretches fit a line
pub AreNumbers-numbers_of : (s : Stretch) → IsStretch s → AreNumbers (numbers_of s)
AreNumbers-numbers_of s h =
    let ordered : s.from ≤ s.to = h.ordered in
    let in_time : s.to ≤ max_time = h.in_time in
    let byte : s.depth ≤ 255 = h.byte in
    (omega arith, All-cons IsNumber s.from (s.to ∷ s.depth ∷ []) (omega arith) (All-cons IsNumber s.to (s.depth ∷ []) (omega arith) (All-cons IsNumber s.depth [] (omega arith) (All-nil IsNumber))))

pub one-numbers_of : (a b : Stretch) → numbers_of a ≡ numbers_of b → a ≡ b
one-numbers_of a b e =
    let from_same : a.from ≡ b.from = cc in
    let to_same : a.to ≡ b.to = cc in
    let depth_same : a.depth ≡ b.depth = cc in
    let made : ℕ → ℕ → ℕ → Stretch = λ from to depth. record { from = from; to = to; depth = depth } in
    ap (λ from. made from a.to a.depth) from_same ∙ (ap (λ to. made b.from to a.depth) to_same ∙ ap (λ depth. made b.from b.to depth) depth_same)

-- spans with depths that are bytes fit a text
AreStretches-from_spans : (xs : List Stretch) → length xs ≤ 33 → All (λ s. s.depth ≤ 255) xs → All IsSpan xs → AreStretches xs
AreStretches-from_spans xs few bytes spans =
    (few, λ k d below. record { ordered = (spans k d below).0; in_time = (spans k d below).1; byte = bytes k d below })

-- what is readable has a text
module _ (claim : Interval) (proof : Proof) (valid : IsInterval claim) (readable : IsReadable proof) where
  pub HasText-readable : length proof.left ≤ 16 → All (λ i. i ≤ 255) proof.left → length proof.right ≤ 16 → All (λ i. i ≤ 255) proof.right → length proof.below ≤ 33 → All (λ s. s.depth ≤ 255) proof.below → length proof.above ≤ 33 → All (λ s. s.depth ≤ 255) proof.above → HasText claim proof
  HasText-readable few_left bytes_left few_right bytes_right few_below bytes_below few_above bytes_above = record {
    claim_is = valid;
    left = record { some = readable.left; few = few_left; bytes = bytes_left };
    right = record { some = readable.right; few = few_right; bytes = bytes_right };
    below = AreStretches-from_spans proof.below few_below bytes_below readable.below;
    above = AreStretches-from_spans proof.above few_above bytes_above readable.above;
  }

-- the stretches above the claim do not begin with the word of those below it
no_below-above : (xs : List Stretch) → NoWord below_word (flat_map (stretch_line above_word) xs ++ [])
no_below-above [] rest e = absurd (cc)
no_below-above (s ∷ xs) rest e =
    different-heads 97 98 (drop 1 (flat_map (stretch_line above_word) (s ∷ xs) ++ [])) (drop 1 (below_word ++ rest)) e (omega arith)

no_above-end : NoWord above_word []
no_above-end rest e = absurd (cc)

module _ (text : List ℕ) where
  -- what each line leaves
  abbrev ClaimRead : Interval → List ℕ → Type 0
  ClaimRead claim rest = Reads (λ claim. line_of claim_word (ends_of claim)) IsInterval Anything text claim rest

  abbrev LeftRead : List ℕ → List ℕ → List ℕ → Type 0
  LeftRead bytes left rest = Reads (line_of left_word) AreSources Anything bytes left rest

  abbrev RightRead : List ℕ → List ℕ → List ℕ → Type 0
  RightRead bytes right rest = Reads (line_of right_word) AreSources Anything bytes right rest

  abbrev BelowRead : List ℕ → List Stretch → List ℕ → Type 0
  BelowRead bytes below rest = Reads (flat_map (stretch_line below_word)) AreStretches (NoWord below_word) bytes below rest

  abbrev AboveRead : List ℕ → List Stretch → List ℕ → Type 0
  AboveRead bytes above rest = Reads (flat_map (stretch_line above_word)) AreStretches (NoWord above_word) bytes above rest

  -- the text behind each line
  abbrev above_text : Proof → List ℕ
  above_text proof = flat_map (stretch_line above_word) proof.above ++ []

  abbrev below_text : Proof → List ℕ
  below_text proof = flat_map (stretch_line below_word) proof.below ++ above_text proof

  abbrev right_text : Proof → List ℕ
  right_text proof = line_of right_word proof.right ++ below_text proof

  abbrev left_text : Proof → List ℕ
  left_text proof = line_of left_word proof.left ++ right_text proof

  text-lines : (claim : Interval) (proof : Proof) → text_of claim proof ≡ line_of claim_word (ends_of claim) ++ left_text proof
  text-lines claim proof =
      let above : flat_map (stretch_line above_word) proof.above ≡ above_text proof = sym (append-nil (flat_map (stretch_line above_word) proof.above)) in
      ap (λ t. line_of claim_word (ends_of claim) ++ (line_of left_word proof.left ++ (line_of right_word proof.right ++ (flat_map (stretch_line below_word) proof.below ++ t)))) above

  -- no claim and certificate have this text
  abbrev pub IsNoText : Type 0
  IsNoText = (claim : Interval) (proof : Proof) → HasText claim proof → text ≡ text_of claim proof → ⊥

  module _ (c : Interval) (r1 : List ℕ) (h1 : ClaimRead c r1) where
    step1 : (claim : Interval) (proof : Proof) → HasText claim proof → text ≡ text_of claim proof → (claim ≡ c) × (left_text proof ≡ r1)
    step1 claim proof has is = h1.only claim (left_text proof) has.claim_is tt (is ∙ text-lines claim proof)

    module _ (left r2 : List ℕ) (h2 : LeftRead r1 left r2) where
      step2 : (claim : Interval) (proof : Proof) → HasText claim proof → text ≡ text_of claim proof → (proof.left ≡ left) × (right_text proof ≡ r2)
      step2 claim proof has is = h2.only proof.left (right_text proof) has.left tt (sym (step1 claim proof has is).1)

      module _ (right r3 : List ℕ) (h3 : RightRead r2 right r3) where
        step3 : (claim : Interval) (proof : Proof) → HasText claim proof → text ≡ text_of claim proof → (proof.right ≡ right) × (below_text proof ≡ r3)
        step3 claim proof has is = h3.only proof.right (below_text proof) has.right tt (sym (step2 claim proof has is).1)

        pub bad_below : ReadsNothing (flat_map (stretch_line below_word)) AreStretches (NoWord below_word) r3 → IsNoText
        bad_below none claim proof has is =
            none proof.below (above_text proof) has.below (no_below-above proof.above) (sym (step3 claim proof has is).1)

        module _ (below : List Stretch) (r4 : List ℕ) (h4 : BelowRead r3 below r4) where
          step4 : (claim : Interval) (proof : Proof) → HasText claim proof → text ≡ text_of claim proof → (proof.below ≡ below) × (above_text proof ≡ r4)
          step4 claim proof has is = h4.only proof.below (above_text proof) has.below (no_below-above proof.above) (sym (step3 claim proof has is).1)

          pub bad_above : ReadsNothing (flat_map (stretch_line above_word)) AreStretches (NoWord above_word) r4 → IsNoText
          bad_above none claim proof has is = none proof.above [] has.above no_above-end (sym (step4 claim proof has is).1)

          module _ (above : List Stretch) (r5 : List ℕ) (h5 : AboveRead r4 above r5) where
            step5 : (claim : Interval) (proof : Proof) → HasText claim proof → text ≡ text_of claim proof → (proof.above ≡ above) × ([] ≡ r5)
            step5 claim proof has is = h5.only proof.above [] has.above no_above-end (sym (step4 claim proof has is).1)

            pub bad_end : 0 < length r5 → IsNoText
            bad_end more claim proof has is = omega (arith, ap length (step5 claim proof has is).1)

            pub whole : r5 ≡ [] → (proof : Proof) → proof ≡ record { left = left; right = right; below = below; above = above } → HasText c proof × (text ≡ text_of c proof) × ((claim : Interval) (other : Proof) → HasText claim other → text ≡ text_of claim other → (claim ≡ c) × (other ≡ proof))
            whole none proof is =
                let p : Proof = record { left = left; right = right; below = below; above = above } in
                let spelled : text ≡ line_of claim_word (ends_of c) ++ left_text p =
                h1.is ∙ ap (λ t. line_of claim_word (ends_of c) ++ t) (h2.is ∙ ap (λ t. line_of left_word left ++ t) (h3.is ∙ ap (λ t. line_of right_word right ++ t) (h4.is ∙ ap (λ t. flat_map (stretch_line below_word) below ++ t) (h5.is ∙ ap (λ t. flat_map (stretch_line above_word) above ++ t) none)))) in
                let P : Proof → Type 0 = λ q. HasText c q × (text ≡ text_of c q) × ((claim : Interval) (other : Proof) → HasText claim other → text ≡ text_of claim other → (claim ≡ c) × (other ≡ q)) in
                let made : List ℕ → List ℕ → List Stretch → List Stretch → Proof = λ l r b a. record { left = l; right = r; below = b; above = a } in
                subst P (sym is) (
                  record { claim_is = h1.fits; left = h2.fits; right = h3.fits; below = h4.fits; above = h5.fits },
                  spelled ∙ sym (text-lines c p),
                  λ claim other has is'. (
                    (step1 claim other has is').0,
                    ap (λ l. made l other.right other.below other.above) (step2 claim other has is').0
                        ∙ (ap (λ r. made left r other.below other.above) (step3 claim other has is').0
                        ∙ (ap (λ b. made left right b other.above) (step4 claim other has is').0
                        ∙ ap (λ a. made left right below a) (step5 claim other has is').0)),
                  ),
                )

module _ (word : List ℕ) where
  pub begins-stretch : (s : Stretch) → BeginsWith word (stretch_line word s)
  begins-stretch s = (numbers_text (numbers_of s), refl)

  pub not_both : (r : List ℕ) → NoWord word r → BeginsWith word r → ⊥
  not_both r none w = none w.0 w.1

  pub anything_goes_on : (vs : List Stretch) (r : List ℕ) → NoWord word r → Anything (flat_map (stretch_line word) vs ++ r)
  anything_goes_on vs r h = tt

  pub some-stretch_line : (s : Stretch) → 0 < length (stretch_line word s)
  some-stretch_line s = omega (arith, length-append word (numbers_text (numbers_of s)))
