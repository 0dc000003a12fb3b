-- The keys that are shared with each master.
use Rattle.std.specs.Prelude.{◌≡◌, ◌⊎◌, ℕ, List, [], ◌∷◌, ok_or, Result, Ok, Err}
use Rattle.tt_seal.specs.Sealing.{SealKey, key_with, HaveOwnNumbers}
use Rattle.tt_wire.specs.Wire.{Wiring, IsWiring}
use Rattle.tt_settings.specs.Master.{Master}
use Rattle.tt_server.specs.declared.faults.ServerFault.{ServerFault}
use Rattle.tt_server.specs.declared.faults.ServerFault.TheVariants.{NoKey, Memory}

-- the second step, where the first was not refused
infixl 10 ◌>>=◌
abbrev pub ◌>>=◌ : {A B : Type 0} → Result A ServerFault → (A → Result B ServerFault) → Result B ServerFault
Ok x >>= f = f x
Err fault >>= f = Err fault

-- what each of these gives, or the refusal of the first that is refused
abbrev pub each : {A B : Type 0} → (A → Result B ServerFault) → List A → Result (List B) ServerFault
each f [] = Ok []
each f (x ∷ rest) = do
  y ← f x
  ys ← each f rest
  Ok (y ∷ ys)

-- the key with this number
abbrev pub key_for : List SealKey → ℕ → Result SealKey ServerFault
key_for keys number = ok_or (key_with keys number) (NoKey number)

-- the keys with these numbers, in their order
abbrev pub ring_of : List SealKey → List ℕ → Result (List SealKey) ServerFault
ring_of keys numbers = each (key_for keys) numbers

-- the keys of a master: those with its numbers, in their order
abbrev pub ring_for : List SealKey → Master → Result (List SealKey) ServerFault
ring_for keys master = ring_of keys master.keys

-- the keys of each master
abbrev pub rings_of : List SealKey → List Master → Result (List (List SealKey)) ServerFault
rings_of keys masters = each (ring_for keys) masters

-- why there is no answer: the defined refusal, or an allocation failed
abbrev pub IsRefusal : {A : Type 0} → Result A ServerFault → ServerFault → Type 0
IsRefusal defined fault = (fault ≡ Memory) ⊎ (defined ≡ Err fault)

-- these are the keys of each of these masters: those with its numbers, in their order, from a list of keys of which no two have the same number
pub record AreRingsTo (masters : List Master) (rings : List (List SealKey)) : Type 0 where
  pub keys : List SealKey
  pub own : HaveOwnNumbers keys
  pub found : rings_of keys masters ≡ Ok rings

-- a wire to these masters: the keys of peer i are those of master i, and nonces are moved by less than 2^63
pub record IsWireTo (masters : List Master) (wire : Wiring) : Type 0 where
  pub rings : AreRingsTo masters wire.rings
  pub moves : IsWiring wire
