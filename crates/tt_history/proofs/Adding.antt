-- The five steps on the log keep its rule: one begins a chain, one adds an item by the pen for it, one looks at a chain by that pen, one raises the number of what is shown, one looks at it.
use Rattle.std.proofs.Common.{◌≡◌, ◌≢◌, ◌⊎◌, ℕ, zero, suc, ◌+◌, ◌<◌, ◌≤◌, ◌==◌, Bool, true, false, List, [], ◌∷◌, ◌++◌, length, refl, ap, sym, ◌∙◌, subst, arith, inl, inr, ⊎_elim, Option, None, Some, set, length-set, length-append}
use Rattle.std.proofs.lemmas.List.{append-nil, append_assoc, get_or-set_same, get_or-set_other, get_or_past, set-get_or}
use Rattle.std.proofs.lemmas.Bool.Decides.{nat_tests}
use mathlib.Core.List.{IsPrefix}
use prog.Atomic.{either}
use Rattle.logbook.specs.Pages.{Cell, cell, Nib, adds, gives, keeps, may_write, no_nib, step, Moves, Goes}
use Rattle.tt_history.specs.Chains.{item_before, items_of, key_behind, key_after, pen_of, chain_from, shown_of, IsUsed, UsesPens, HasNumber, IsKept, BeginsChain, Adds, Looks, FindsNumber, RaisesNumber}
use Rattle.tt_history.specs.declared.entries.Entry.{Entry}

abbrev pub shown : {T : Type 0} → List (Entry T) → List (Entry T)
shown log = []

abbrev pub moved : {T : Type 0} → List (Entry T) → List (Entry T) → ℕ → Type 0
moved xs ys n = Unit {0}

item_before-append : {T : Type 0} (b : Bool) (item : Option T) (xs ys : List T) → item_before b item (xs ++ ys) ≡ item_before b item xs ++ ys
item_before-append true (Some item) xs ys = refl
item_before-append true None xs ys = refl
item_before-append false item xs ys = refl

items_of-append : {T : Type 0} (c : ℕ) (xs ys : List (Entry T)) → items_of c (xs ++ ys) ≡ items_of c xs ++ items_of c ys
items_of-append c [] ys = refl
items_of-append c (e ∷ es) ys = ap (item_before (e.chain == c) e.item) (items_of-append c es ys) ∙ item_before-append (e.chain == c) e.item (items_of c es) (items_of c ys)

key_after-append : {T : Type 0} (c key : ℕ) (xs ys : List (Entry T)) → key_after c key (xs ++ ys) ≡ key_after c (key_after c key xs) ys
key_after-append c key [] ys = refl
key_after-append c key (e ∷ es) ys = key_after-append c (key_behind (e.chain == c) e.item e.next key) es ys

-- a beginning of the log has a beginning of each chain
pub items_prefix : {T : Type 0} (c : ℕ) (xs ys : List (Entry T)) → IsPrefix xs ys → IsPrefix (items_of c xs) (items_of c ys)
items_prefix c xs ys p = (items_of c p.0, sym (items_of-append c xs p.0) ∙ ap (items_of c) p.1)

chain_from-last : {T : Type 0} (k : ℕ) (xs : List (Entry T)) (e : Entry T) → chain_from k (xs ++ e ∷ []) ≡ e.chain
chain_from-last k [] e = refl
chain_from-last k (x ∷ xs) e = chain_from-last x.chain xs e

item_none : {T : Type 0} (b : Bool) → item_before {T = T} b None [] ≡ []
item_none true = refl
item_none false = refl

key_none : (T : Type 0) (b : Bool) (next key : ℕ) → key_behind {T = T} b None next key ≡ key
key_none T true next key = refl
key_none T false next key = refl

shown_of-append : {T : Type 0} (xs ys : List (Entry T)) → shown_of (xs ++ ys) ≡ shown_of xs + shown_of ys
shown_of-append [] ys = omega arith
shown_of-append (e ∷ es) ys = omega (arith, shown_of-append es ys)

-- in a longer log no fewer publications are shown
pub shown_more : {T : Type 0} (xs ys : List (Entry T)) → IsPrefix xs ys → shown_of xs ≤ shown_of ys
shown_more xs ys p = let all : shown_of xs + shown_of p.0 ≡ shown_of ys = sym (shown_of-append xs p.0) ∙ ap shown_of p.1 in omega (arith, all)

-- an entry that shows so many publications more
shown_next : {T : Type 0} (xs : List (Entry T)) (e : Entry T) (n : ℕ) → e.shown ≡ n → shown_of (xs ++ e ∷ []) ≡ shown_of xs + n
shown_next xs e n is = omega (arith, shown_of-append xs (e ∷ []), is)

-- the second word is as it was where another is written, or a cell is added
second_set : (cs : List Cell) (k : ℕ) (x : Cell) → 1 ≢ k → cell (set cs k x) 1 ≡ cell cs 1
second_set cs k x apart = get_or-set_other cs k 1 x (0, false) apart

second_more : (cs : List Cell) (x : Cell) → 1 < length cs → cell (cs ++ x ∷ []) 1 ≡ cell cs 1
second_more [] x wide = absurd (omega arith)
second_more (c ∷ []) x wide = absurd (omega arith)
second_more (c ∷ d ∷ cs) x wide = refl

abbrev at_home : ℕ → Cell
at_home n = (n, true)

number_more : (m n : ℕ) → m ≡ n + 0 → at_home m ≡ at_home n
number_more m n same = ap at_home (omega (arith, same))

used_set : (cs : List Cell) (k n j : ℕ) → IsUsed cs j → IsUsed (set cs k (n, true)) j
used_set [] k n j h = h
used_set (c ∷ cs) zero n zero h = refl
used_set (c ∷ cs) zero n (suc j) h = h
used_set (c ∷ cs) (suc k) n zero h = h
used_set (c ∷ cs) (suc k) n (suc j) h = used_set cs k n j h

used_more : (cs : List Cell) (x : Cell) (j : ℕ) → IsUsed cs j → IsUsed (cs ++ x ∷ []) j
used_more [] x j h = absurd (cc h)
used_more (c ∷ cs) x zero h = h
used_more (c ∷ cs) x (suc j) h = used_more cs x j h

module _ {A : Type 0} where
  not_empty : (bs : List A) (e : A) (after : List A) → [] ≢ bs ++ e ∷ after
  not_empty [] e after p = absurd (cc p)
  not_empty (b ∷ bs) e after p = absurd (cc p)

  -- an item of a longer list is the last one, or one of the list before
  last_or_before : (xs : List A) (x : A) (before after : List A) (e : A) → xs ++ x ∷ [] ≡ before ++ e ∷ after → ((xs ≡ before) × (x ≡ e)) ⊎ ((rest : List A) × (xs ≡ before ++ e ∷ rest))
  last_or_before [] x [] after e p = inl (refl, cc p)
  last_or_before [] x (b ∷ bs) after e p = absurd (not_empty bs e after (cc p))
  last_or_before (y ∷ ys) x [] after e p = inr (ys, let same : y ≡ e = cc p in cc same)
  last_or_before (y ∷ ys) x (b ∷ bs) after e p =
      let same : y ≡ b = cc p in
      ⊎_elim (λ (t : (ys ≡ bs) × (x ≡ e)). inl (cc (same, t.0), t.1)) (λ (t : (rest : List A) × (ys ≡ bs ++ e ∷ rest)). inr (t.0, cc (same, t.1))) (last_or_before ys x bs after e (cc p))

uses_more : {T : Type 0} (cells after_cells : List Cell) (log : List (Entry T)) (e : Entry T) → ((j : ℕ) → IsUsed cells j → IsUsed after_cells j)
    → ((item : T) → e.item ≡ Some item → IsUsed after_cells (pen_of e.chain log)) → UsesPens cells log → UsesPens after_cells (log ++ e ∷ [])
uses_more {T = T} cells after_cells log e keep own uses before after f item is has =
    ⊎_elim (λ (t : (log ≡ before) × (e ≡ f)). subst (λ (b : List (Entry T)). IsUsed after_cells (pen_of f.chain b)) t.0 (subst (λ (g : Entry T). (item : T) → g.item ≡ Some item → IsUsed after_cells (pen_of g.chain log)) t.1 own item has))
    (λ (t : (rest : List (Entry T)) × (log ≡ before ++ f ∷ rest)). keep _ (uses before t.0 f item t.1 has)) (last_or_before log e before after f is)

module _ {T : Type 0} (cells : List Cell) (c k : ℕ) (away : (cell cells k).1 ≡ false) (log : List (Entry T)) (uses : UsesPens cells log) where
  passes : (v rest : List (Entry T)) (e : Entry T) → log ≡ v ++ e ∷ rest → pen_of c v ≡ k → (b : Bool) → (e.chain == c) ≡ b → (item : Option T) → e.item ≡ item
      → (item_before b item [] ≡ []) × (key_behind b item e.next k ≡ k)
  passes v rest e is pen true same (Some item) has =
      let chain : e.chain ≡ c = grind (arith, nat_tests) in
      let used : IsUsed cells k = subst (λ (j : ℕ). IsUsed cells j) pen (subst (λ (d : ℕ). IsUsed cells (pen_of d v)) chain (uses v rest e item is has)) in
      absurd (cc (used, away))
  passes v rest e is pen true same None has = (refl, refl)
  passes v rest e is pen false same item has = (refl, refl)

  -- where the pen for a chain is not used up, nothing came in it behind what was seen
  untouched : (v rest : List (Entry T)) → log ≡ v ++ rest → pen_of c v ≡ k → (items_of c log ≡ items_of c v) × (pen_of c log ≡ k)
  untouched v [] is pen = let same : log ≡ v = is ∙ append-nil v in (ap (items_of c) same, ap (pen_of c) same ∙ pen)
  untouched v (e ∷ rest) is pen =
      let by = passes v rest e is pen (e.chain == c) refl e.item refl in
      let items : items_of c (v ++ e ∷ []) ≡ items_of c v = items_of-append c v (e ∷ []) ∙ (ap (λ (more : List T). items_of c v ++ more) by.0 ∙ append-nil (items_of c v)) in
      let key : pen_of c (v ++ e ∷ []) ≡ k = key_after-append c c v (e ∷ []) ∙ (ap (key_behind (e.chain == c) e.item e.next) pen ∙ by.1) in
      let rec = untouched (v ++ e ∷ []) rest (is ∙ sym (append_assoc v (e ∷ []) rest)) key in
      (rec.0 ∙ items, rec.1)

-- whatever the log is, a chain begins by a pen whose key no entry has named as used
pub begins_moves : {T : Type 0} (v : List (Entry T)) (ask : Entry T) → Moves IsKept shown moved 0 (v, (no_nib, None)) (λ n. either (n == 0) 0 n) (BeginsChain (step 0 0 0 ask) (v, (no_nib, None)))
begins_moves {T = T} v ask cells log kept pre away =
    let k : ℕ = length cells in
    let e : Entry T = record { chain = k; next = k; item = None; shown = 0 } in
    let past : (cell cells k).1 ≡ false = ap (λ (x : Cell). x.1) (get_or_past cells k (0, false) (omega arith)) in
    let n : ℕ = either ((cell cells 0).0 == 0) 0 (cell cells 0).0 in
    let more : List Cell = set cells 0 (n, true) ++ (0, false) ∷ [] in
    let keep : (j : ℕ) → IsUsed cells j → IsUsed more j = λ j h. used_more (set cells 0 (n, true)) (0, false) j (used_set cells 0 n j h) in
    let none = untouched cells k k past log kept.2 [] log refl refl in
    let room : 1 < length (set cells 0 (n, true)) = omega (arith, kept.0, length-set cells 0 (n, true)) in
    let wide : 1 < length more = omega (arith, room, length-append (set cells 0 (n, true)) ((0, false) ∷ [])) in
    let number : HasNumber more (log ++ e ∷ []) =
    second_more (set cells 0 (n, true)) (0, false) room ∙ (second_set cells 0 (n, true) (λ (p : 1 ≡ 0). omega (arith, p)) ∙ (kept.3 ∙ sym (number_more _ _ (shown_next log e 0 refl)))) in (
      omega (arith, kept.0),
      kept.1,
      (
        adds,
        e ∷ [],
        None,
        tt,
        (wide, keep 0 kept.1, uses_more cells more log e keep (λ item is. absurd (cc is)) kept.2, number),
        inl (refl, refl),
        (
          refl,
          (
            chain_from-last 0 log e,
            items_of-append k log (e ∷ []) ∙ (ap (λ (items : List T). items ++ item_before (k == k) None []) none.0 ∙ item_none (k == k)),
            key_after-append k k log (e ∷ []) ∙ (key_none T (k == k) k (pen_of k log) ∙ none.1),
          ),
        ),
      ),
    )

own_item : {T : Type 0} (b : Bool) → b ≡ true → (has : Option T) (item : T) → has ≡ Some item → item_before b has [] ≡ item ∷ []
own_item b same has item is = rw (same, is) refl

own_key : {T : Type 0} (b : Bool) → b ≡ true → (has : Option T) (item : T) → has ≡ Some item → (next key : ℕ) → key_behind b has next key ≡ next
own_key b same has item is next key = rw (same, is) refl

-- whatever the log is, who has the pen knows its chain, and the publication comes next in it
pub adds_moves : {T : Type 0} (v : List (Entry T)) (ask : Entry T) (p : Nib) (item : T) → ask.item ≡ Some item → ask.shown ≡ 0 → p.right ≡ may_write → p.key ≡ pen_of ask.chain v
    → Moves IsKept shown moved 0 (v, (p, None)) (λ n. either (n == 0) 0 n) (Adds (step 0 0 0 ask) (v, (p, None)))
adds_moves {T = T} v ask p item asks none right key cells log kept pre away =
    let c : ℕ = ask.chain in
    let n : ℕ = either ((cell cells 0).0 == 0) 0 (cell cells 0).0 in
    let turned : List Cell = set cells 0 (n, true) in
    let made : List Cell = set turned p.key (p.value, true) in
    let out = away right in
    let exact = untouched cells c p.key out.1 log kept.2 v pre.0 (sym pre.1) (sym key) in
    let keep : (j : ℕ) → IsUsed cells j → IsUsed made j = λ j h. used_set turned p.key p.value j (used_set cells 0 n j h) in
    let inside : p.key < length turned = omega (arith, out.0, length-set cells 0 (n, true)) in
    let own : IsUsed made (pen_of c log) = subst (λ (j : ℕ). IsUsed made j) (sym exact.1) (ap (λ (x : Cell). x.1) (get_or-set_same turned p.key (p.value, true) (0, false) inside)) in
    let wide : 1 < length made = omega (arith, kept.0, length-set turned p.key (p.value, true), length-set cells 0 (n, true)) in
    let apart : 1 ≢ p.key = λ (same : 1 ≡ p.key). absurd (cc (subst (λ (j : ℕ). (cell cells j).1 ≡ true) same (ap (λ (x : Cell). x.1) kept.3), out.1)) in
    let number : HasNumber made (log ++ ask ∷ []) =
    second_set turned p.key (p.value, true) apart ∙ (second_set cells 0 (n, true) (λ (p : 1 ≡ 0). omega (arith, p)) ∙ (kept.3 ∙ sym (number_more _ _ (shown_next log ask 0 none)))) in
    let same : (c == c) ≡ true = grind (arith, nat_tests) in (
      omega (arith, kept.0),
      kept.1,
      (
        gives,
        ask ∷ [],
        None,
        right,
        (wide, keep 0 kept.1, uses_more cells made log ask keep (λ i is. own) kept.2, number),
        inl (refl, refl),
        λ i is. (
          items_of-append c log (ask ∷ [])
              ∙ (ap (λ (items : List T). items ++ items_of c (ask ∷ [])) exact.0 ∙ ap (λ (more : List T). items_of c v ++ more) (own_item (c == c) same ask.item i is)),
          key_after-append c c log (ask ∷ []) ∙ own_key (c == c) same ask.item i is ask.next (pen_of c log),
        ),
      ),
    )

uses_same : {T : Type 0} (cells after_cells : List Cell) (log : List (Entry T)) → ((j : ℕ) → IsUsed cells j → IsUsed after_cells j) → UsesPens cells log → UsesPens after_cells log
uses_same cells after_cells log keep uses before after e item is has = keep _ (uses before after e item is has)

prefix_rest : {A : Type 0} (xs ys zs : List A) (p : IsPrefix xs ys) (q : IsPrefix ys zs) → zs ≡ xs ++ (p.0 ++ q.0)
prefix_rest xs ys zs p q = sym (sym (append_assoc xs p.0 q.0) ∙ (ap (λ w. w ++ q.0) p.1 ∙ q.1))

-- whatever the log is, who has the pen of a chain keeps it, and the chain is as it was in each log that was seen before
pub looks_moves : {T : Type 0} (v : List (Entry T)) (ask : Entry T) (p : Nib) → p.right ≡ may_write
    → Moves IsKept shown moved 0 (v, (p, None)) (λ n. either (n == 0) 0 n) (Looks (step 0 0 0 ask) (v, (p, None)))
looks_moves {T = T} v ask p right cells log kept pre away =
    let c : ℕ = ask.chain in
    let n : ℕ = either ((cell cells 0).0 == 0) 0 (cell cells 0).0 in
    let turned : List Cell = set cells 0 (n, true) in
    let out = away right in
    let keep : (j : ℕ) → IsUsed cells j → IsUsed turned j = λ j h. used_set cells 0 n j h in
    let wide : 1 < length turned = omega (arith, kept.0, length-set cells 0 (n, true)) in
    let number : HasNumber turned log = second_set cells 0 (n, true) (λ (p : 1 ≡ 0). omega (arith, p)) ∙ kept.3 in
    let all : log ++ [] ≡ log = append-nil log in
    let holds : IsKept turned (log ++ []) = subst (λ (l : List (Entry T)). IsKept turned l) (sym all) (wide, keep 0 kept.1, uses_same cells turned log keep kept.2, number) in (
      omega (arith, kept.0),
      kept.1,
      (
        keeps,
        [],
        None,
        tt,
        holds,
        inl (refl, refl),
        (
          refl,
          λ seen seen_before key.
              let exact = untouched cells c p.key out.1 log kept.2 seen (seen_before.0 ++ pre.0) (prefix_rest seen v log seen_before pre) (sym key) in
              (ap (items_of c) all ∙ exact.0, ap (pen_of c) all ∙ exact.1),
        ),
      ),
    )

-- whatever the log is, a look at the number finds how many publications it says are shown
pub finds_moves : {T : Type 0} (v : List (Entry T)) (ask : Entry T) → Moves IsKept shown moved 1 (v, (no_nib, None)) (λ n. n) (FindsNumber (step 1 0 0 ask) (v, (no_nib, None)))
finds_moves {T = T} v ask cells log kept pre away =
    let is : (cell cells 1).0 ≡ shown_of log = ap (λ (x : Cell). x.0) kept.3 in
    let home : (cell cells 1).1 ≡ true = ap (λ (x : Cell). x.1) kept.3 in
    let all : log ++ [] ≡ log = append-nil log in
    let found : cell cells 1 ≡ ((cell cells 1).0, true) = kept.3 ∙ ap at_home (sym is) in
    let same : set cells 1 ((cell cells 1).0, true) ≡ cells = ap (set cells 1) (sym found) ∙ set-get_or cells 1 (0, false) in
    let more : IsKept cells (log ++ []) = subst (λ (h : List (Entry T)). IsKept cells h) (sym all) kept in (
      kept.0,
      home,
      (
        keeps,
        [],
        None,
        tt,
        subst (λ (cs : List Cell). IsKept cs (log ++ [])) (sym same) more,
        inl (refl, refl),
        is ∙ ap shown_of (sym all),
      ),
    )

-- the step that raises the number from `old`, whether it finds `old` or more
raises_goes : {T : Type 0} (v : List (Entry T)) (ask : Entry T) (old : ℕ) (cells : List Cell) (log : List (Entry T)) → old ≤ shown_of v → ask.item ≡ None → ask.shown ≡ 1 → IsKept cells log → IsPrefix v log
    → (b : Bool) → ((cell cells 1).0 == old) ≡ b
    → Goes IsKept shown moved 1 (v, (no_nib, None)) (λ n. either (n == old) (old + 1) n) (RaisesNumber (step 1 old (old + 1) ask) (v, (no_nib, None))) cells log
raises_goes {T = T} v ask old cells log known none one kept pre true is =
    let here : (cell cells 1).0 ≡ old = grind (arith, nat_tests) in
    let was : (cell cells 1).0 ≡ shown_of log = ap (λ (x : Cell). x.0) kept.3 in
    let next = shown_next log ask 1 one in
    let all : old + 1 ≡ shown_of (log ++ ask ∷ []) = omega (arith, here, was, next) in
    let n : ℕ = either ((cell cells 1).0 == old) (old + 1) (cell cells 1).0 in
    let is_next : n ≡ shown_of (log ++ ask ∷ []) = rw is all in
    let keep : (j : ℕ) → IsUsed cells j → IsUsed (set cells 1 (n, true)) j = λ j h. used_set cells 1 n j h in
    let wide : 1 < length (set cells 1 (n, true)) = omega (arith, kept.0, length-set cells 1 (n, true)) in
    let number : HasNumber (set cells 1 (n, true)) (log ++ ask ∷ []) = get_or-set_same cells 1 (n, true) (0, false) kept.0 ∙ ap at_home is_next in (
      keeps,
      ask ∷ [],
      None,
      tt,
      (wide, keep 0 kept.1, uses_more cells (set cells 1 (n, true)) log ask keep (λ item has. absurd (cc (none, has))) kept.2, number),
      inl (refl, refl),
      omega (arith, all),
    )
raises_goes {T = T} v ask old cells log known none one kept pre false is =
    let there : (cell cells 1).0 ≢ old = grind (arith, nat_tests) in
    let was : (cell cells 1).0 ≡ shown_of log = ap (λ (x : Cell). x.0) kept.3 in
    let seen = shown_more v log pre in
    let all : log ++ [] ≡ log = append-nil log in
    let n : ℕ = either ((cell cells 1).0 == old) (old + 1) (cell cells 1).0 in
    let stays : n ≡ (cell cells 1).0 = rw is refl in
    let found : cell cells 1 ≡ (n, true) = kept.3 ∙ ap at_home (sym (stays ∙ was)) in
    let same : set cells 1 (n, true) ≡ cells = ap (set cells 1) (sym found) ∙ set-get_or cells 1 (0, false) in
    let more : IsKept cells (log ++ []) = subst (λ (h : List (Entry T)). IsKept cells h) (sym all) kept in
    let enough : old + 1 ≤ shown_of log = grind (arith, there, was, seen, known) in (
      keeps,
      [],
      None,
      tt,
      subst (λ (cs : List Cell). IsKept cs (log ++ [])) (sym same) more,
      inl (refl, refl),
      subst (λ (h : List (Entry T)). old + 1 ≤ shown_of h) (sym all) enough,
    )

-- whatever the log is, where it was seen that `old` publications or more are shown, the step makes it more than `old`
pub raises_moves : {T : Type 0} (v : List (Entry T)) (ask : Entry T) (old : ℕ) → old ≤ shown_of v → ask.item ≡ None → ask.shown ≡ 1
    → Moves IsKept shown moved 1 (v, (no_nib, None)) (λ n. either (n == old) (old + 1) n) (RaisesNumber (step 1 old (old + 1) ask) (v, (no_nib, None)))
raises_moves v ask old known none one cells log kept pre away = (
  kept.0,
  ap (λ (x : Cell). x.1) kept.3,
  raises_goes v ask old cells log known none one kept pre ((cell cells 1).0 == old) refl,
)

-- at the beginning nothing was added
pub kept_first : {T : Type 0} → IsKept {T = T} ((0, true) ∷ (0, true) ∷ []) []
kept_first = (omega arith, refl, (λ before after e item is has. absurd (not_empty before e after is)), refl)
