-- What stands behind the parts of a text.
use Rattle.std.proofs.Common.{◌≡◌, ℕ, ◌+◌, ◌<◌, Bool, true, false, nat_eq, List, [], ◌∷◌, ◌++◌, length, take, drop, get_or, append-nil, arith, Option, Some, None, Bor, option_copied, MatchOption, ◌≤◌, refl, sym, ap, ◌∙◌, inl, inr}
use Rattle.std.specs.Cmp.Lexicographic.{pointwise}
use Rattle.std.proofs.lemmas.Bool.{cases_Bool}
use Rattle.std.proofs.lemmas.Grind.{flat_map-append}
use Rattle.std.proofs.lemmas.List.{take_more}
use Rattle.std.proofs.lemmas.Bool.Decides.{nat_tests}
use Rattle.std.specs.Net.Text.{hex, groups_text}
use Rattle.tt_settings.specs.Print.{behind, behind_in, later_groups}

behind-append : (a b text : List ℕ) → behind (a ++ b) text ≡ behind_in b (behind a text)
unfolding behind_in
behind-append [] b text = refl
behind-append (x ∷ a) b [] = refl
behind-append (x ∷ a) b (c ∷ text) = elim (cases_Bool (nat_eq x c)) [
  | inl same ↦ rw same (behind-append a b text)
  | inr other ↦ rw other refl
]

-- two parts are two steps
pub behind_parts : (a b : List ℕ) (text : Option (List ℕ)) → behind_in (a ++ b) text ≡ behind_in b (behind_in a text)
unfolding behind_in
behind_parts a b None = refl
behind_parts a b (Some text) = behind-append a b text

-- nothing is one part
pub behind_nothing : (text : Option (List ℕ)) → behind_in [] text ≡ text
unfolding behind_in
behind_nothing None = refl
behind_nothing (Some text) = refl

-- one byte in front is a part
pub behind_front : (b : ℕ) (rest : List ℕ) (text : Option (List ℕ)) → behind_in (b ∷ rest) text ≡ behind_in rest (behind_in (b ∷ []) text)
behind_front b rest text = behind_parts (b ∷ []) rest text

-- nothing is left
abbrev pub is_whole : Option (List ℕ) → Bool
is_whole (Some rest) = nat_eq (length rest) 0
is_whole None = false

whole-behind : (front text : List ℕ) → is_whole (behind front text) ≡ pointwise nat_eq front text
whole-behind [] [] = refl
whole-behind [] (c ∷ text) = grind (arith, nat_tests)
whole-behind (x ∷ front) [] = refl
whole-behind (x ∷ front) (c ∷ text) = elim (cases_Bool (nat_eq x c)) [
  | inl same ↦ rw same (whole-behind front text)
  | inr other ↦ rw other refl
]

-- the text is the part, where nothing stands behind it
pub whole_behind : (front text : List ℕ) → is_whole (behind_in front (Some text)) ≡ pointwise nat_eq front text
unfolding behind_in
whole_behind front text = whole-behind front text

swap : (x c : ℕ) → nat_eq c x ≡ nat_eq x c
swap x c = grind (arith, nat_tests)

behind-prefix : (front text : List ℕ) → pointwise nat_eq (take (length front) text) front ≡ true → Some (drop (length front) text) ≡ behind front text
behind-prefix [] text e = refl
behind-prefix (x ∷ front) [] e = absurd (cc)
behind-prefix (x ∷ front) (c ∷ text) e = elim (cases_Bool (nat_eq x c)) [
  | inl same ↦ rw same (behind-prefix front text (rw (swap x c, same) at e))
  | inr other ↦ absurd (cc (rw (swap x c, other) at e))
]

behind-no_prefix : (front text : List ℕ) → pointwise nat_eq (take (length front) text) front ≡ false → None ≡ behind front text
behind-no_prefix [] text e = absurd (cc)
behind-no_prefix (x ∷ front) [] e = refl
behind-no_prefix (x ∷ front) (c ∷ text) e = elim (cases_Bool (nat_eq x c)) [
  | inl same ↦ rw same (behind-no_prefix front text (rw (swap x c, same) at e))
  | inr other ↦ rw other refl
]

-- what the code compares, and what it then leaves
pub behind_in-prefix : (front text : List ℕ) → pointwise nat_eq (take (length front) text) front ≡ true → Some (drop (length front) text) ≡ behind_in front (Some text)
unfolding behind_in
behind_in-prefix front text e = behind-prefix front text e

pub behind_in-no_prefix : (front text : List ℕ) → pointwise nat_eq (take (length front) text) front ≡ false → None ≡ behind_in front (Some text)
unfolding behind_in
behind_in-no_prefix front text e = behind-no_prefix front text e

-- the contract of `strip_prefix`
pub strips : (front text : List ℕ) (r : Option (Bor (List ℕ)))
    → MatchOption r (pointwise nat_eq (take (length front) text) front ≡ false) (λ x. (pointwise nat_eq (take (length front) text) front ≡ true) × (x.now ≡ drop (length front) text) × (length x.now + length front ≡ length text))
    → option_copied r ≡ behind_in front (Some text)
strips front text None h = behind_in-no_prefix front text h
strips front text (Some x) h = ap Some h.1 ∙ behind_in-prefix front text h.0

-- one segment more
pub later_step : (segments : List ℕ) (i : ℕ) (text rest : Option (List ℕ)) → i < length segments
    → rest ≡ behind_in (later_groups (take i segments)) text
    → behind_in (hex (get_or segments i 0)) (behind_in (58 ∷ []) rest) ≡ behind_in (later_groups (take (i + 1) segments)) text
later_step segments i text rest below is =
    let more : later_groups (take (i + 1) segments) ≡ later_groups (take i segments) ++ 58 ∷ hex (get_or segments i 0) =
    rw (take_more segments i 0 below) (simp (flat_map-append, append-nil)) in
    rw (more, is) (sym (behind_parts (later_groups (take i segments)) (58 ∷ hex (get_or segments i 0)) text ∙ behind_front 58 (hex (get_or segments i 0)) (behind_in (later_groups (take i segments)) text)))

-- the first segment, and the others
pub groups_parts : (segments : List ℕ) (text : Option (List ℕ)) → 1 ≤ length segments
    → behind_in (later_groups (drop 1 segments)) (behind_in (hex (get_or segments 0 0)) text) ≡ behind_in (groups_text segments) text
groups_parts [] text some = absurd (omega (arith, some))
groups_parts (s ∷ rest) text some = sym (behind_parts (hex s) (later_groups rest) text)

-- what stands before two colons, and behind them
pub colons_parts : (head tail : List ℕ) (text : Option (List ℕ)) → behind_in tail (behind_in (58 ∷ 58 ∷ []) (behind_in head text)) ≡ behind_in ((head ++ 58 ∷ 58 ∷ []) ++ tail) text
colons_parts head tail text =
    sym (behind_parts (head ++ 58 ∷ 58 ∷ []) tail text ∙ ap (behind_in tail) (behind_parts head (58 ∷ 58 ∷ []) text))

-- the parts of an IPv6 socket address
pub socket_parts : (ip scope port : List ℕ) (text : Option (List ℕ))
    → behind_in port (behind_in (93 ∷ 58 ∷ []) (behind_in scope (behind_in ip (behind_in (91 ∷ []) text)))) ≡ behind_in (91 ∷ (((ip ++ scope) ++ 93 ∷ 58 ∷ []) ++ port)) text
socket_parts ip scope port text =
    let opened = behind_in (91 ∷ []) text in
    sym (behind_front 91 (((ip ++ scope) ++ 93 ∷ 58 ∷ []) ++ port) text
    ∙ behind_parts ((ip ++ scope) ++ 93 ∷ 58 ∷ []) port opened
    ∙ ap (behind_in port) (behind_parts (ip ++ scope) (93 ∷ 58 ∷ []) opened ∙ ap (behind_in (93 ∷ 58 ∷ [])) (behind_parts ip scope opened)))
