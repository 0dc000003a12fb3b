-- Lists of what threads did in true time, and one list of all of it. Each list has the newest first.
use Rattle.std.specs.Prelude.{◌≡◌, ◌⊎◌, ℕ, ◌<◌, ◌≤◌, List, [], ◌∷◌, ◌++◌}
use Rattle.std.specs.List.{AllByRecursion}

-- what a thread does: it gives a stamp, or it does something else
pub data Deed (A S : Type 0) : Type 0 where
  Does : A → Deed A S
  Stamps : S → Deed A S

-- what is done at a true time
pub record Done (A S : Type 0) : Type 0 where
  pub at : ℕ
  pub deed : Deed A S

-- what is done, if that gives a stamp
abbrev pub if_stamp : {A S : Type 0} → Done A S → Deed A S → List (Done A S)
if_stamp done (Does a) = []
if_stamp done (Stamps s) = done ∷ []

-- of what is done, that which gives stamps, in the same order
abbrev pub stamps_in : {A S : Type 0} → List (Done A S) → List (Done A S)
stamps_in [] = []
stamps_in (done ∷ past) = if_stamp done done.deed ++ stamps_in past

-- from the oldest to the newest no true time falls, and none is above this
abbrev pub AreInOrder : {A S : Type 0} → ℕ → List (Done A S) → Type 0
AreInOrder to [] = Unit {0}
AreInOrder to (done ∷ past) = (done.at ≤ to) × AreInOrder done.at past

-- one list is a merge of two: each of its elements is the next one of exactly one of them, and nothing of them is left
abbrev pub IsMerge : {X : Type 0} → List X → List X → List X → Type 0
IsMerge one other [] = (one ≡ []) × (other ≡ [])
IsMerge {X} one other (x ∷ all) =
    ((rest : List X) × (one ≡ x ∷ rest) × IsMerge rest other all) ⊎ ((rest : List X) × (other ≡ x ∷ rest) × IsMerge one rest all)

-- one list is a merge of so many lists: of the first of them and a merge of the others
abbrev pub IsMergeOf : {X : Type 0} → List (List X) → List X → Type 0
IsMergeOf [] all = all ≡ []
IsMergeOf {X} (one ∷ lists) all = (others : List X) × IsMergeOf lists others × IsMerge one others all

-- one list is a merge of two, and what both have at one time stands in it with that of the first list before that of the second: where an element of the first is the newest, all that is left of the second is of earlier times
abbrev pub IsMergeBefore : {A S : Type 0} → List (Done A S) → List (Done A S) → List (Done A S) → Type 0
IsMergeBefore first second [] = (first ≡ []) × (second ≡ [])
IsMergeBefore {A} {S} first second (done ∷ all) =
    ((rest : List (Done A S)) × (first ≡ done ∷ rest) × AllByRecursion (λ (earlier : Done A S). earlier.at < done.at) second × IsMergeBefore rest second all)
    ⊎ ((rest : List (Done A S)) × (second ≡ done ∷ rest) × IsMergeBefore first rest all)

-- one list of what two seats of one sequencer did: a merge of their lists, in the order of true time, whose stamps are the history of the sequencer
pub record IsOneList {A S : Type 0} (to : ℕ) (one other history all : List (Done A S)) : Type 0 where
  pub merge : IsMerge one other all
  pub in_order : AreInOrder to all
  pub stamps : stamps_in all ≡ history

-- the same of the seats of any number of workers
pub record IsOneListOf {A S : Type 0} (to : ℕ) (workers : List (List (Done A S))) (history all : List (Done A S)) : Type 0 where
  pub merge : IsMergeOf workers all
  pub in_order : AreInOrder to all
  pub stamps : stamps_in all ≡ history

-- the same with what a daemon did, which gives no stamps and stands before what the workers did at the same time
pub record IsOneListWith {A S : Type 0} (to : ℕ) (daemon : List (Done A S)) (workers : List (List (Done A S))) (history all : List (Done A S)) : Type 0 where
  pub of_workers : List (Done A S)
  pub workers_are : IsMergeOf workers of_workers
  pub merge : IsMergeBefore daemon of_workers all
  pub in_order : AreInOrder to all
  pub stamps : stamps_in all ≡ history
