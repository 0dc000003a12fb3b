-- The watermark of a table.
use Rattle.std.proofs.Common.{◌≡◌, ℕ, ◌-◌, ◌<◌, ◌≤◌, max, nat_lt, Bool, true, false, List, [], ◌∷◌, ◌++◌, Contains, Option, Some, None, unwrap_or, ⊎_elim, sym, ap, subst, refl, ◌∙◌, arith}
use Rattle.std.specs.List.{AllWithin}
use Rattle.std.specs.Option.{SomeIff}
use Rattle.std.proofs.lemmas.Bool.{ltb-true, ltb-false}
use Rattle.tt_stamp.specs.Stamp.{greatest_of}
use Rattle.tt_stamp_rows.specs.Table.{Commits, IsSettled, IsReadable, IsWatermark, IsBound}

-- ---- by the bound
pub bound-settled : (commits : Commits) (earliest b : ℕ) → IsBound commits earliest b → (u : ℕ) → u < b → IsSettled commits u
bound-settled commits earliest b bound u less s there up_to = bound.below s there (omega (arith, less, up_to))

not_readable : (commits : Commits) (earliest b : ℕ) → IsBound commits earliest b → (u : ℕ) → IsReadable commits earliest u → b ≤ u → ⊥
not_readable commits earliest b bound u readable from =
    ⊎_elim
    (λ is. absurd (omega (arith, is, readable.0, from)))
    (λ pending. pending.1 (readable.1 b pending.0 from))
    bound.one

below_by : (commits : Commits) (earliest b : ℕ) → IsBound commits earliest b → (u : ℕ) → IsReadable commits earliest u → (less : Bool) → nat_lt u b ≡ less → u < b
below_by commits earliest b bound u readable true e = ltb-true _ _ e
below_by commits earliest b bound u readable false e = absurd (not_readable commits earliest b bound u readable (ltb-false _ _ e))

pub bound-above : (commits : Commits) (earliest b : ℕ) → IsBound commits earliest b → (u : ℕ) → IsReadable commits earliest u → u < b
bound-above commits earliest b bound u readable = below_by commits earliest b bound u readable _ refl

pub watermark-some : (commits : Commits) (earliest b : ℕ) → IsBound commits earliest b → 0 < b → IsWatermark commits earliest (Some (b - 1))
watermark-some commits earliest b bound some = (
  (omega (arith, bound.up_to, some), bound-settled commits earliest b bound (b - 1) (omega (arith, some))),
  λ u readable. omega (arith, bound-above commits earliest b bound u readable),
)

pub watermark-none : (commits : Commits) (earliest b : ℕ) → IsBound commits earliest b → b ≡ 0 → IsWatermark commits earliest None
watermark-none commits earliest b bound none u readable = omega (arith, bound-above commits earliest b bound u readable, none)

pub watermark-by : (commits : Commits) (earliest b : ℕ) (r : Option ℕ) → IsBound commits earliest b → SomeIff r (1 ≤ b) (b - 1) → IsWatermark commits earliest r
watermark-by commits earliest b None bound is = watermark-none commits earliest b bound (omega (arith, is))
watermark-by commits earliest b (Some t) bound is =
    let some : 0 < b = omega (arith, is.0) in
    subst (λ (u : ℕ). IsWatermark commits earliest (Some u)) (sym is.1) (watermark-some commits earliest b bound some)

-- ---- the commits of a table
abbrev pub commits_of : List ℕ → List ℕ → Commits
commits_of given ended = record { given = given; ended = ended }

pub same_commits : (given other_given ended other_ended : List ℕ) → given ≡ other_given → ended ≡ other_ended → commits_of given ended ≡ commits_of other_given other_ended
same_commits given other_given ended other_ended e f =
    ap (λ (l : List ℕ). commits_of l ended) e ∙ ap (λ (l : List ℕ). commits_of other_given l) f

swap_max : (x s g : ℕ) → max x (max s g) ≡ max s (max x g)
swap_max x s g = omega arith

-- the greatest of stamps is the same, whether one is put before them or behind
pub greatest_of-push : (given : List ℕ) (s : ℕ) → greatest_of (given ++ s ∷ []) ≡ greatest_of (s ∷ given)
greatest_of-push [] s = refl
greatest_of-push (x ∷ given) s =
    ap (λ (o : Option ℕ). Some (max x (unwrap_or o 0))) (greatest_of-push given s)
    ∙ ap (λ (n : ℕ). Some n) (swap_max x s (unwrap_or (greatest_of given) 0))

-- ---- by a walk over the stamps that were given
-- each of the first stamps that is below the bound is ended
abbrev pub SettledBelow : List ℕ → List ℕ → ℕ → ℕ → Type 0
SettledBelow given ended bound n = AllWithin (λ s. s < bound → Contains ended s) given 0 n

-- each of the first stamps that is up to t is ended
abbrev pub SettledUpTo : List ℕ → List ℕ → ℕ → ℕ → Type 0
SettledUpTo given ended t n = AllWithin (λ s. s ≤ t → Contains ended s) given 0 n
