-- Items one after the other.
use Rattle.std.proofs.Common.{◌≡◌, ℕ, suc, List, [], ◌∷◌, ◌++◌, length, Result, Ok, Err, refl, arith}
use Rattle.toml.specs.Data.{Data, Items, no_items, item}
use Rattle.toml.specs.View.{items_view}
use Rattle.toml.specs.declared.value.Value.{Value}
use Rattle.tt_script.specs.declared.faults.ScriptFault.{ScriptFault}
use Rattle.tt_script.specs.Fault.{◌>>=◌}
use Rattle.tt_script.specs.Lookup.{count_of, each}

-- an array has as many items as its data
pub count_of-view : (vs : List Value) → count_of (items_view vs) ≡ length vs
count_of-view [] = refl
count_of-view (v ∷ vs) = omega (arith, count_of-view vs)

-- what was read, before what is still to be read
abbrev pub after : {A : Type 0} → List A → Result (List A) ScriptFault → Result (List A) ScriptFault
after done rest = rest >>= (λ xs. Ok (done ++ xs))

-- a second step that gave a value had the value of the first
pub both_steps : {A B : Type 0} (first : Result A ScriptFault) (f : A → Result B ScriptFault) (y : B) → (first >>= f) ≡ Ok y → (x : A) × (first ≡ Ok x) × (f x ≡ Ok y)
both_steps (Ok x) f y h = (x, refl, h)
both_steps (Err fault) f y h = absurd (cc)

-- each item that is read gives one
pub length-each : {A : Type 0} (f : ℕ → Data → Result A ScriptFault) (n : ℕ) (ds : Items) (xs : List A) → each f n ds ≡ Ok xs → length xs ≡ count_of ds
length-each f n no_items xs h = let e : [] ≡ xs = cc in rw (← e)
length-each f n (item d rest) xs h =
    let front = both_steps (f n d) (λ x. each f (suc n) rest >>= (λ ys. Ok (x ∷ ys))) xs h in
    let back = both_steps (each f (suc n) rest) (λ ys. Ok (front.0 ∷ ys)) xs front.2 in
    let e : front.0 ∷ back.0 ≡ xs = cc (back.2) in
    let same = length-each f (suc n) rest back.0 back.1 in
    rw (← e) (omega (arith, same))
