-- The count of an index has that index.
use Rattle.std.proofs.Common.{◌≡◌, ℕ, zero, suc, ◌+◌, ◌-◌, ◌%◌, ◌<◌, List, [], ◌∷◌, length, get_or, refl, ap, ◌∙◌, arith, lit<}
use Rattle.std.specs.Int.{w64, from_le_bytes, to_le_bytes}
use Rattle.std.proofs.lemmas.Nat.{le_bytes_8}
use Rattle.tt_shared.specs.Index.{digits, counters_of, index_at}

eight : (a b c d e f g h a1 b1 c1 d1 e1 f1 g1 h1 : ℕ) → a ≡ a1 → b ≡ b1 → c ≡ c1 → d ≡ d1 → e ≡ e1 → f ≡ f1 → g ≡ g1 → h ≡ h1 →
    a ∷ b ∷ c ∷ d ∷ e ∷ f ∷ g ∷ h ∷ [] ≡ a1 ∷ b1 ∷ c1 ∷ d1 ∷ e1 ∷ f1 ∷ g1 ∷ h1 ∷ []
eight a b c d e f g h a1 b1 c1 d1 e1 f1 g1 h1 ha hb hc hd he hf hg hh = rw (ha, hb, hc, hd, he, hf, hg, hh) refl

digits_are_bytes : (n : ℕ) → digits 8 n ≡ to_le_bytes w64 n
digits_are_bytes n = eight _ _ _ _ _ _ _ _ _ _ _ _ _ _ _ _ (omega arith) (omega arith) (omega arith) (omega arith) (omega arith) (omega arith) (omega arith) (omega arith)

counter_back : (c d e : ℕ) → c < 256 → e < 256 → d ≡ (c + e) % 256 → (d + (256 - e)) % 256 ≡ c
counter_back c d e lc le h = omega arith

last_back : (c d : ℕ) → c < 256 → d ≡ c → (d + (256 - 0)) % 256 ≡ c
last_back c d lt e = omega arith

abbrev pub Eight : ℕ → ℕ → ℕ → ℕ → ℕ → ℕ → ℕ → ℕ → List ℕ
Eight a b c d e f g h = a ∷ b ∷ c ∷ d ∷ e ∷ f ∷ g ∷ h ∷ []

small : (a b c d e f g h : ℕ) → a < 256 → b < 256 → c < 256 → d < 256 → e < 256 → f < 256 → g < 256 → h < 256 → (i : ℕ) → get_or (Eight a b c d e f g h) i 0 < 256
small a b c d e f g h ha hb hc hd he hf hg hh zero = ha
small a b c d e f g h ha hb hc hd he hf hg hh (suc zero) = hb
small a b c d e f g h ha hb hc hd he hf hg hh (suc (suc zero)) = hc
small a b c d e f g h ha hb hc hd he hf hg hh (suc (suc (suc zero))) = hd
small a b c d e f g h ha hb hc hd he hf hg hh (suc (suc (suc (suc zero)))) = he
small a b c d e f g h ha hb hc hd he hf hg hh (suc (suc (suc (suc (suc zero))))) = hf
small a b c d e f g h ha hb hc hd he hf hg hh (suc (suc (suc (suc (suc (suc zero)))))) = hg
small a b c d e f g h ha hb hc hd he hf hg hh (suc (suc (suc (suc (suc (suc (suc zero))))))) = hh
small a b c d e f g h ha hb hc hd he hf hg hh (suc (suc (suc (suc (suc (suc (suc (suc i)))))))) = lit< tt

-- where each byte is the sum of the counters from its own on, the number of these bytes has these counters
pub counted : (c0 c1 c2 c3 c4 c5 c6 c7 d0 d1 d2 d3 d4 d5 d6 d7 : ℕ) → c0 < 256 → c1 < 256 → c2 < 256 → c3 < 256 → c4 < 256 → c5 < 256 → c6 < 256 → c7 < 256 →
    d7 ≡ c7 → d6 ≡ (c6 + d7) % 256 → d5 ≡ (c5 + d6) % 256 → d4 ≡ (c4 + d5) % 256 → d3 ≡ (c3 + d4) % 256 → d2 ≡ (c2 + d3) % 256 → d1 ≡ (c1 + d2) % 256 → d0 ≡ (c0 + d1) % 256 →
    index_at (from_le_bytes w64 (Eight d0 d1 d2 d3 d4 d5 d6 d7)) ≡ Eight c0 c1 c2 c3 c4 c5 c6 c7
counted c0 c1 c2 c3 c4 c5 c6 c7 d0 d1 d2 d3 d4 d5 d6 d7 l0 l1 l2 l3 l4 l5 l6 l7 e7 e6 e5 e4 e3 e2 e1 e0 =
    let b7 : d7 < 256 = omega (arith, e7, l7) in
    let b6 : d6 < 256 = omega (arith, e6) in
    let b5 : d5 < 256 = omega (arith, e5) in
    let b4 : d4 < 256 = omega (arith, e4) in
    let b3 : d3 < 256 = omega (arith, e3) in
    let b2 : d2 < 256 = omega (arith, e2) in
    let b1 : d1 < 256 = omega (arith, e1) in
    let b0 : d0 < 256 = omega (arith, e0) in
    let ds = Eight d0 d1 d2 d3 d4 d5 d6 d7 in
    let back : to_le_bytes w64 (from_le_bytes w64 ds) ≡ ds = le_bytes_8 ds _ refl (small d0 d1 d2 d3 d4 d5 d6 d7 b0 b1 b2 b3 b4 b5 b6 b7) refl in
    ap counters_of (digits_are_bytes (from_le_bytes w64 ds) ∙ back)
    ∙ eight _ _ _ _ _ _ _ _ _ _ _ _ _ _ _ _
    (counter_back c0 d0 d1 l0 b1 e0) (counter_back c1 d1 d2 l1 b2 e1) (counter_back c2 d2 d3 l2 b3 e2) (counter_back c3 d3 d4 l3 b4 e3)
    (counter_back c4 d4 d5 l4 b5 e4) (counter_back c5 d5 d6 l5 b6 e5) (counter_back c6 d6 d7 l6 b7 e6) (last_back c7 d7 l7 e7)

as_eight : (cs : List ℕ) → length cs ≡ 8 → Eight (get_or cs 0 0) (get_or cs 1 0) (get_or cs 2 0) (get_or cs 3 0) (get_or cs 4 0) (get_or cs 5 0) (get_or cs 6 0) (get_or cs 7 0) ≡ cs
as_eight [] l = absurd (omega arith)
as_eight (a ∷ []) l = absurd (omega arith)
as_eight (a ∷ b ∷ []) l = absurd (omega arith)
as_eight (a ∷ b ∷ c ∷ []) l = absurd (omega arith)
as_eight (a ∷ b ∷ c ∷ d ∷ []) l = absurd (omega arith)
as_eight (a ∷ b ∷ c ∷ d ∷ e ∷ []) l = absurd (omega arith)
as_eight (a ∷ b ∷ c ∷ d ∷ e ∷ f ∷ []) l = absurd (omega arith)
as_eight (a ∷ b ∷ c ∷ d ∷ e ∷ f ∷ g ∷ []) l = absurd (omega arith)
as_eight (a ∷ b ∷ c ∷ d ∷ e ∷ f ∷ g ∷ h ∷ []) l = refl
as_eight (a ∷ b ∷ c ∷ d ∷ e ∷ f ∷ g ∷ h ∷ x ∷ cs) l = absurd (omega arith)

-- the same of a list of eight counters
pub counted_list : (cs : List ℕ) (n d0 d1 d2 d3 d4 d5 d6 d7 : ℕ) → length cs ≡ 8 → ((i : ℕ) → get_or cs i 0 < 256) → n ≡ from_le_bytes w64 (Eight d0 d1 d2 d3 d4 d5 d6 d7) →
    d7 ≡ get_or cs 7 0 → d6 ≡ (get_or cs 6 0 + d7) % 256 → d5 ≡ (get_or cs 5 0 + d6) % 256 → d4 ≡ (get_or cs 4 0 + d5) % 256 → d3 ≡ (get_or cs 3 0 + d4) % 256
    → d2 ≡ (get_or cs 2 0 + d3) % 256 → d1 ≡ (get_or cs 1 0 + d2) % 256 → d0 ≡ (get_or cs 0 0 + d1) % 256 → index_at n ≡ cs
counted_list cs n d0 d1 d2 d3 d4 d5 d6 d7 len fits is e7 e6 e5 e4 e3 e2 e1 e0 =
    ap index_at is
    ∙ counted _ _ _ _ _ _ _ _ d0 d1 d2 d3 d4 d5 d6 d7 (fits 0) (fits 1) (fits 2) (fits 3) (fits 4) (fits 5) (fits 6) (fits 7) e7 e6 e5 e4 e3 e2 e1 e0
    ∙ as_eight cs len
