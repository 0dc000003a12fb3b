-- Passing over spaces.
use Rattle.std.proofs.Common.{◌≡◌, ℕ, ◌+◌, ◌<◌, false, eqb, List, ◌∷◌, length, get_or, drop, refl, ap, ◌∙◌, sym}
use Rattle.std.proofs.lemmas.List.{drop_more}
use Rattle.tt_shared.specs.Host.{after_spaces}

is_space : (b : ℕ) (bs : List ℕ) → b ≡ 32 → after_spaces (b ∷ bs) ≡ after_spaces bs
is_space b bs e = rw e refl

no_space : (b : ℕ) (bs : List ℕ) → eqb b 32 ≡ false → after_spaces (b ∷ bs) ≡ b ∷ bs
no_space b bs e = rw e refl

pub pass_space : (bs : List ℕ) (i : ℕ) → i < length bs → get_or bs i 0 ≡ 32 → after_spaces (drop i bs) ≡ after_spaces (drop (i + 1) bs)
pass_space bs i lt e = ap after_spaces (drop_more bs i 0 lt) ∙ is_space (get_or bs i 0) (drop (i + 1) bs) e

pub stop_there : (bs : List ℕ) (i : ℕ) → i < length bs → eqb (get_or bs i 0) 32 ≡ false → after_spaces (drop i bs) ≡ drop i bs
stop_there bs i lt e =
    let at = drop_more bs i 0 lt in
    ap after_spaces at ∙ no_space (get_or bs i 0) (drop (i + 1) bs) e ∙ sym at
