-- The log that all threads share: it has each item of each history, and exists in the proofs alone.
-- It is cut into chains, one for each history. Each item uses up the pen for it, and names the pen for the next one. So who has that pen knows the whole chain.
use Rattle.std.specs.Prelude.{ℕ, ◌+◌, ◌≡◌, ◌==◌, ◌<◌, ◌≤◌, Bool, true, false, Option, Some, None, List, [], ◌∷◌, ◌++◌, length}
use mathlib.Core.List.{IsPrefix}
use Rattle.logbook.specs.Pages.{Cell, cell, Step, View, Book, Named, may_make}
use Rattle.tt_history.specs.declared.entries.Entry.{Entry}

-- the word on which chains begin and items are added. It stays at 0
abbrev pub word_of : Book → Named
word_of book = record { tracked = true; key = 0; book = book }

-- the word that holds how many items are shown
abbrev pub number_word_of : Book → Named
number_word_of book = record { tracked = true; key = 1; book = book }

-- the items behind an entry's own, where it has one and is of the chain
abbrev pub item_before : {T : Type 0} → Bool → Option T → List T → List T
item_before true (Some item) items = item ∷ items
item_before true None items = items
item_before false item items = items

-- the items of a chain, oldest first
abbrev pub items_of : {T : Type 0} → ℕ → List (Entry T) → List T
items_of chain [] = []
items_of chain (e ∷ es) = item_before (e.chain == chain) e.item (items_of chain es)

-- the key of the pen behind an entry: the one that it names, where it has an item and is of the chain
abbrev pub key_behind : {T : Type 0} → Bool → Option T → ℕ → ℕ → ℕ
key_behind true (Some item) next key = next
key_behind true None next key = key
key_behind false item next key = key

-- the key of the pen for the next item of a chain, where it was this before the entries
abbrev pub key_after : {T : Type 0} → ℕ → ℕ → List (Entry T) → ℕ
key_after chain key [] = key
key_after chain key (e ∷ es) = key_after chain (key_behind (e.chain == chain) e.item e.next key) es

-- the key of the pen for the next item of a chain
abbrev pub pen_of : {T : Type 0} → ℕ → List (Entry T) → ℕ
pen_of chain log = key_after chain chain log

-- the chain of the last entry
abbrev pub chain_from : {T : Type 0} → ℕ → List (Entry T) → ℕ
chain_from chain [] = chain
chain_from chain (e ∷ es) = chain_from e.chain es

abbrev pub chain_of : {T : Type 0} → List (Entry T) → ℕ
chain_of log = chain_from 0 log

-- how many items the log says are shown
abbrev pub shown_of : {T : Type 0} → List (Entry T) → ℕ
shown_of [] = 0
shown_of (e ∷ es) = e.shown + shown_of es

-- the word with this key is at home, so its pen is used up
abbrev pub IsUsed : List Cell → ℕ → Type 0
IsUsed cells key = (cell cells key).1 ≡ true

-- each item used up the pen for it
abbrev pub UsesPens : {T : Type 0} → List Cell → List (Entry T) → Type 0
UsesPens {T} cells log = (before after : List (Entry T)) (e : Entry T) (item : T) → log ≡ before ++ e ∷ after → e.item ≡ Some item → IsUsed cells (pen_of e.chain before)

-- the second word holds how many items the log says are shown
abbrev pub HasNumber : {T : Type 0} → List Cell → List (Entry T) → Type 0
HasNumber cells log = cell cells 1 ≡ (shown_of log, true)

abbrev pub IsKept : {T : Type 0} → List Cell → List (Entry T) → Type 0
IsKept cells log = (1 < length cells) × IsUsed cells 0 × UsesPens cells log × HasNumber cells log

-- the last entry begins the chain with this key, which has no item
abbrev pub Begins : {T : Type 0} → ℕ → List (Entry T) → Type 0
Begins key log = (chain_of log ≡ key) × (items_of key log ≡ []) × (pen_of key log ≡ key)

-- a chain begins, and there is a pen for its first item
abbrev pub BeginsChain : {T : Type 0} → Step (Entry T) → View (Entry T) ℕ → ℕ → View (Entry T) ℕ → Type 0
BeginsChain step before found after = (after.1.0.right ≡ may_make) × Begins after.1.0.key after.0

-- the item that was asked for came next in its chain
abbrev pub Adds : {T : Type 0} → Step (Entry T) → View (Entry T) ℕ → ℕ → View (Entry T) ℕ → Type 0
Adds {T} step before found after = (item : T) → step.ask.item ≡ Some item
    → (items_of step.ask.chain after.0 ≡ items_of step.ask.chain before.0 ++ item ∷ []) × (pen_of step.ask.chain after.0 ≡ step.ask.next)

-- the pen is kept, and the chain is still as it was in any log that was seen, where the pen is that for its next item
abbrev pub Looks : {T : Type 0} → Step (Entry T) → View (Entry T) ℕ → ℕ → View (Entry T) ℕ → Type 0
Looks {T} step before found after = (after.1.0 ≡ before.1.0) × ((log : List (Entry T)) → IsPrefix log before.0 → before.1.0.key ≡ pen_of step.ask.chain log
    → (items_of step.ask.chain after.0 ≡ items_of step.ask.chain log) × (pen_of step.ask.chain after.0 ≡ before.1.0.key))

-- the number found is how many items the log so far says are shown
abbrev pub FindsNumber : {T : Type 0} → Step (Entry T) → View (Entry T) ℕ → ℕ → View (Entry T) ℕ → Type 0
FindsNumber step before found after = found ≡ shown_of after.0

-- the log says that as many items are shown as the step asks, or more
abbrev pub RaisesNumber : {T : Type 0} → Step (Entry T) → View (Entry T) ℕ → ℕ → View (Entry T) ℕ → Type 0
RaisesNumber step before found after = step.new ≤ shown_of after.0
