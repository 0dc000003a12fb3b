-- Where commits stand, as a book keeps them.
use Rattle.std.specs.Prelude.{ℕ, ◌≡◌, ◌<◌, ◌≤◌, ◌==◌, List, [], ◌∷◌, length, slice_index_or, Option, Some, None}
use Rattle.std.specs.BTreeMap as tree
use Rattle.std.specs.List.{AllByRecursion, AllWithin}
use Rattle.std.specs.Map.{lookup}
use Rattle.std.specs.Option.{option_or}
use Rattle.std.specs.Global.{Vec}
use Rattle.tt_stamp.specs.Ids.{id_cmp}
use Rattle.tt_stamp.specs.declared.commits.Id.{Id}
use Rattle.tt_stamp.specs.declared.commits.Standing.{Standing}
use Rattle.tt_stamp.specs.declared.standings.Standings.{Standings}

-- each key is below those after it
abbrev pub Ascends : {X : Type 0} → List (ℕ × X) → Type 0
Ascends [] = Unit {0}
Ascends (e ∷ es) = AllByRecursion (λ other. e.0 < other.0) es × Ascends es

-- the value at a key
abbrev pub at_key : {X : Type 0} → List (ℕ × X) → ℕ → Option X
at_key es key = lookup (λ other. other == key) es

-- the entry at this place has this key
pub record IsKeyAt {X : Type 0} (es : List (ℕ × X)) (key place : ℕ) : Type 0 where
  pub within : place < length es
  pub is : (d : ℕ × X) → (slice_index_or es place d).0 ≡ key

-- a new key goes to this place
pub record GoesTo {X : Type 0} (es : List (ℕ × X)) (key place : ℕ) : Type 0 where
  pub within : place ≤ length es
  pub before : AllWithin (λ e. e.0 < key) es 0 place
  pub after : AllWithin (λ e. key ≤ e.0) es place (length es)

-- the sessions ascend, and the numbers of each
pub record AreRisen (sessions : List (ℕ × Vec (ℕ × Standing))) : Type 0 where
  pub sessions_ascend : Ascends sessions
  pub numbers_ascend : AllByRecursion (λ session. Ascends session.1.items) sessions

-- where a commit of a session stands, by its number
abbrev pub stands_in : Option (Vec (ℕ × Standing)) → ℕ → Option Standing
stands_in None number = None
stands_in (Some numbers) number = at_key numbers.items number

-- where a commit stands whose number rose
abbrev pub risen_in : List (ℕ × Vec (ℕ × Standing)) → Id → Option Standing
risen_in sessions id = stands_in (at_key sessions id.session) id.number

-- sessions and numbers are in order
abbrev pub IsInOrder : Standings → Type 0
IsInOrder s = AreRisen s.sessions.items

-- where a commit stands
abbrev pub standing_in : Standings → Id → Option Standing
standing_in s id = option_or (risen_in s.sessions.items id) (tree.get id_cmp s.others id)
