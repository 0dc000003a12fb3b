-- Texts of a list whose elements are numbered.
use Rattle.std.proofs.Common.{◌≡◌, ℕ, ◌+◌, ◌<◌, List, [], ◌∷◌, ◌++◌, length, get_or, map, take, sym, ap, ◌∙◌, arith, append_assoc, append-nil}
use Rattle.std.specs.List.{enumerate_from, flat_map}
use Rattle.std.proofs.lemmas.List.{length-map, length-take-le, map_more}
use Rattle.tt_status.specs.Info.{info_text, infos_text}

-- one more element
pub numbered_more : {X : Type 0} (f : ℕ × X → List ℕ) (n : ℕ) (xs : List X) (x : X) → flat_map f (enumerate_from n (xs ++ x ∷ [])) ≡ flat_map f (enumerate_from n xs) ++ f (n + length xs, x)
numbered_more {X = X} f n [] x =
    let here : n ≡ n + 0 = omega arith in
    append-nil (f (n, x)) ∙ ap (λ (k : ℕ). f (k, x)) here
numbered_more {X = X} f n (y ∷ ys) x =
    let later : List (ℕ × X) = enumerate_from (n + 1) ys in
    let here : n + 1 + length ys ≡ n + length (y ∷ ys) = omega arith in
    ap (λ (t : List ℕ). f (n, y) ++ t) (numbered_more f (n + 1) ys x)
    ∙ sym (append_assoc (f (n, y)) (flat_map f later) (f (n + 1 + length ys, x)))
    ∙ ap (λ (k : ℕ). (f (n, y) ++ flat_map f later) ++ f (k, x)) here

-- the sample of one more source
pub infos_more : {Y : Type 0} (bytes : Y → List ℕ) (machine n : ℕ) (xs : List Y) (x : Y) → n < length xs → x ≡ get_or xs n x → infos_text machine (map bytes (take (n + 1) xs)) ≡ infos_text machine (map bytes (take n xs)) ++ info_text machine n (bytes x)
infos_more {Y = Y} bytes machine n xs x inside is =
    let before : List (List ℕ) = map bytes (take n xs) in
    let info = λ (source : ℕ × List ℕ). info_text machine source.0 source.1 in
    let count : 0 + length before ≡ n = omega (arith, length-map (take n xs) bytes, length-take-le n xs (omega (arith, inside))) in
    ap (infos_text machine) (map_more bytes xs n x inside)
    ∙ numbered_more info 0 before (bytes (get_or xs n x))
    ∙ ap (λ (k : ℕ). infos_text machine before ++ info_text machine k (bytes (get_or xs n x))) count
    ∙ ap (λ (y : Y). infos_text machine before ++ info_text machine n (bytes y)) (sym is)
