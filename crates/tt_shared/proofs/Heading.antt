-- The index, the clock and the length of a head.
use Rattle.std.proofs.Common.{◌≡◌, ℕ, List, [], ◌∷◌, ◌++◌, cond, eqb, length, take, Result, Ok, refl, sym, ap, ◌∙◌, arith}
use Rattle.std.specs.Prelude.{slice_index, slice_range}
use Rattle.std.proofs.lemmas.List.{length-append}
use Rattle.std.proofs.Math.Seq.{take-append_seam}
use Rattle.tt_host.specs.declared.clocks.HostClock.{HostClock}
use Rattle.tt_host.specs.declared.clocks.HostClock.TheVariants.{Monotonic, Raw}
use Rattle.tt_shared.specs.Layout.{head_len}
use Rattle.tt_shared.specs.Head.{head_of}
use Rattle.tt_shared.specs.declared.faults.SharedFault.{SharedFault}
use Rattle.tt_shared.specs.declared.heads.Head.{Head}

pub head_length : (index boot : List ℕ) (clock : HostClock) → length index ≡ 8 → length boot ≡ 36 → length (head_of index boot clock) ≡ head_len
unfolding head_of
head_length index boot clock h b =
    omega (arith, h, b, length-append index (boot ++ (0 ∷ 0 ∷ 0 ∷ 0 ∷ [])), length-append boot (0 ∷ 0 ∷ 0 ∷ 0 ∷ []))

pub head_index : (index boot : List ℕ) (clock : HostClock) → length index ≡ 8 → slice_range (head_of index boot clock) 16 24 ≡ index
unfolding head_of
head_index index boot clock h =
    ap (λ (n : ℕ). take n (index ++ (boot ++ (0 ∷ 0 ∷ 0 ∷ 0 ∷ [])))) (sym h) ∙ take-append_seam index (boot ++ (0 ∷ 0 ∷ 0 ∷ 0 ∷ []))

-- the clock that its lowest byte names
pub head_clock : (index boot : List ℕ) (clock : HostClock) → cond (eqb (slice_index (head_of index boot clock) 8) 1) Monotonic Raw ≡ clock
unfolding head_of
head_clock index boot Monotonic = refl
head_clock index boot Raw = refl

pub same_head : (i j : List ℕ) (a b : HostClock) → i ≡ j → a ≡ b → ◌≡◌ {A = Result Head SharedFault} (Ok (record { index = i; clock = a })) (Ok (record { index = j; clock = b }))
same_head i j a b e f = rw (e, f) refl
