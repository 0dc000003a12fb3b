-- Texts that grow at their end.
use Rattle.std.proofs.Common.{◌≡◌, ℕ, List, ◌++◌, Result, Ok, Err, ◌∙◌, ap, append_assoc, refl, [], ◌∷◌}
use Rattle.std.specs.Prelude.{OnOk}
use Rattle.tt_trace.specs.Tree.{Leaf, leaf_text, leaves_then}

-- three pieces one behind the other, the last of which may fail
pub three_pieces : {T E : Type 0} (r : Result T E) (old one two new a b c : List ℕ) →
    one ≡ old ++ a → two ≡ one ++ b → OnOk r (new ≡ two ++ c) → OnOk r (new ≡ old ++ (a ++ (b ++ c)))
three_pieces (Ok x) old one two new a b c first second last =
    last
    ∙ ap (λ (t : List ℕ). t ++ c) (second ∙ ap (λ (t : List ℕ). t ++ b) first)
    ∙ append_assoc (old ++ a) b c
    ∙ append_assoc old a (b ++ c)
three_pieces (Err e) old one two new a b c first second last = tt

-- four pieces
pub four_pieces : {T E : Type 0} (r : Result T E) (old one two three new a b c d : List ℕ) →
    one ≡ old ++ a → two ≡ one ++ b → three ≡ two ++ c → OnOk r (new ≡ three ++ d) → OnOk r (new ≡ old ++ (a ++ (b ++ (c ++ d))))
four_pieces (Ok x) old one two three new a b c d first second third last =
    last ∙ ap (λ (t : List ℕ). t ++ d) (third ∙ ap (λ (t : List ℕ). t ++ c) second ∙ append_assoc one b c ∙ ap (λ (t : List ℕ). t ++ (b ++ c)) first)
    ∙ append_assoc (old ++ a) (b ++ c) d ∙ append_assoc old a ((b ++ c) ++ d) ∙ ap (λ (t : List ℕ). old ++ (a ++ t)) (append_assoc b c d)
four_pieces (Err e) old one two three new a b c d first second third last = tt

-- a piece that may fail, given otherwise
pub piece_is : {T E : Type 0} (r : Result T E) (old new a b : List ℕ) → OnOk r (new ≡ old ++ a) → a ≡ b → OnOk r (new ≡ old ++ b)
piece_is (Ok x) old new a b last same = last ∙ ap (λ (t : List ℕ). old ++ t) same
piece_is (Err e) old new a b last same = tt

-- leaves and then a text are the leaves before that text
pub leaves_before : (leaves : List Leaf) (rest : List ℕ) → leaves_then leaves [] ++ rest ≡ leaves_then leaves rest
leaves_before [] rest = refl
leaves_before (leaf ∷ leaves) rest = append_assoc (leaf_text leaf) (leaves_then leaves []) rest ∙ ap (λ (t : List ℕ). leaf_text leaf ++ t) (leaves_before leaves rest)

-- a group of leaves that are written at once
pub group_pieces : {T E : Type 0} (r : Result T E) (old one two new a c : List ℕ) (leaves : List Leaf) →
    one ≡ old ++ a → two ≡ one ++ leaves_then leaves [] → OnOk r (new ≡ two ++ c) → OnOk r (new ≡ old ++ (a ++ leaves_then leaves c))
group_pieces r old one two new a c leaves first second last =
    piece_is r old new (a ++ (leaves_then leaves [] ++ c)) (a ++ leaves_then leaves c)
    (three_pieces r old one two new a (leaves_then leaves []) c first second last) (ap (λ (t : List ℕ). a ++ t) (leaves_before leaves c))

-- a group of a title and of leaves that are written at once
pub titled_pieces : {T E : Type 0} (r : Result T E) (old one two three new a c : List ℕ) (leaf : Leaf) (leaves : List Leaf) →
    one ≡ old ++ a → two ≡ one ++ leaf_text leaf → three ≡ two ++ leaves_then leaves [] → OnOk r (new ≡ three ++ c) → OnOk r (new ≡ old ++ (a ++ leaves_then (leaf ∷ leaves) c))
titled_pieces r old one two three new a c leaf leaves first second third last =
    piece_is r old new (a ++ (leaf_text leaf ++ (leaves_then leaves [] ++ c))) (a ++ leaves_then (leaf ∷ leaves) c)
    (four_pieces r old one two three new a (leaf_text leaf) (leaves_then leaves []) c first second third last) (ap (λ (t : List ℕ). a ++ (leaf_text leaf ++ t)) (leaves_before leaves c))

-- six pieces
pub six_pieces : {T E : Type 0} (r : Result T E) (old one two three four five new a b c d e f : List ℕ) →
    one ≡ old ++ a → two ≡ one ++ b → three ≡ two ++ c → four ≡ three ++ d → five ≡ four ++ e → OnOk r (new ≡ five ++ f) →
    OnOk r (new ≡ old ++ (a ++ (b ++ (c ++ (d ++ (e ++ f))))))
six_pieces r old one two three four five new a b c d e f first second third fourth fifth last =
    four_pieces r old one two three new a b c (d ++ (e ++ f)) first second third (three_pieces r three four five new d e f fourth fifth last)
