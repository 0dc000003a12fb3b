-- The life that a machine is in.
use Rattle.std.proofs.Common.{◌≡◌, refl, subst, arith, cond, ◌&&◌, ◌+◌, ◌<◌, ◌≤◌, ℕ, Bool, true, false, eqb, ap₂, eq-eqb, ne_eqb, List, ◌∷◌, sym}
use Rattle.std.proofs.lemmas.Bool.{and_parts, eqb-true, eqb-false}
use Rattle.tt_world.specs.declared.events.Event.{Event}
use Rattle.tt_world.specs.Life.{Life, same_life, restarts, life_of, life_at, is_of}

-- a machine is in its life
pub is_of-own : (past : List Event) (m : ℕ) → is_of past (life_at past m) m ≡ true
is_of-own past m =
    let same : eqb m m ≡ true = eq-eqb m m refl in
    let number : eqb (life_of past m) (life_of past m) ≡ true = eq-eqb _ _ refl in
    rw (same, number) refl

-- and not in that of another machine
pub is_of-other : (past : List Event) (m j : ℕ) → (j ≡ m → ⊥) → is_of past (life_at past j) m ≡ false
is_of-other past m j other = let not_same : eqb m j ≡ false = ne_eqb m j (λ same. other (sym same)) in rw not_same refl

-- lives that are the same are equal
pub same_life-true : (a b : Life) → same_life a b ≡ true → a ≡ b
same_life-true a b h =
    let parts = and_parts (eqb a.machine b.machine) (eqb a.number b.number) h in
    ap₂ (λ (m n : ℕ). record { machine = m; number = n }) (eqb-true a.machine b.machine parts.0) (eqb-true a.number b.number parts.1)

pub same_life-own : (life : Life) → same_life life life ≡ true
same_life-own life =
    let machine : eqb life.machine life.machine ≡ true = eq-eqb _ _ refl in
    let number : eqb life.number life.number ≡ true = eq-eqb _ _ refl in
    rw (machine, number) refl

-- the number of a machine's life does not fall
life_if : (b : Bool) (n : ℕ) → n ≤ cond b (n + 1) n
life_if true n = omega arith
life_if false n = omega arith

pub life_of-on : (past : List Event) (event : Event) (m : ℕ) → life_of past m ≤ life_of (event ∷ past) m
life_of-on past event m = life_if (restarts m event.action) (life_of past m)

-- no machine is in a life not yet begun
pub is_of-unborn : (past : List Event) (life : Life) (machine : ℕ) → life_of past life.machine < life.number → is_of past life machine ≡ false
is_of-unborn past life machine unborn = by_machine (eqb machine life.machine) refl
  where
    by_machine : (b : Bool) → eqb machine life.machine ≡ b → b && eqb (life_of past machine) life.number ≡ false
    by_machine true e =
        let same : machine ≡ life.machine = eqb-true machine life.machine e in
        let before : life_of past machine < life.number = subst (λ (m : ℕ). life_of past m < life.number) (sym same) unborn in
        ne_eqb (life_of past machine) life.number (λ e. omega arith)
    by_machine false e = refl

-- a life that its machine is not in, and has not left, has not begun
pub not_mine-unborn : (past : List Event) (life : Life) → life_of past life.machine ≤ life.number → is_of past life life.machine ≡ false → life_of past life.machine < life.number
not_mine-unborn past life begun other =
    let own : eqb life.machine life.machine ≡ true = eq-eqb _ _ refl in
    let number : eqb (life_of past life.machine) life.number ≡ false = rw own at other in
    let differ : life_of past life.machine ≡ life.number → ⊥ = eqb-false _ _ number in
    omega arith
