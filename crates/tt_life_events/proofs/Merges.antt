-- What threads did in true time merges into one list, whose stamps are the history of their sequencer.
use Rattle.std.proofs.Common.{◌≡◌, ℕ, zero, suc, ◌+◌, ◌<◌, ◌≤◌, leb, true, false, List, [], ◌∷◌, ◌++◌, length, inl, inr, refl, sym, ap, ◌∙◌, subst, arith}
use Rattle.std.specs.Prelude.{◌⊎◌, map}
use Rattle.std.specs.List.{AllByRecursion}
use Rattle.std.proofs.lemmas.Bool.Decides.{leb_tells}
use Rattle.tt_life_events.specs.Merging.{Deed, Does, Stamps, Done, if_stamp, stamps_in, AreInOrder, IsMerge, IsMergeOf, IsMergeBefore, IsOneList, IsOneListOf, IsOneListWith}

-- ---- merges

pub merge-swap : {X : Type 0} (one other all : List X) → IsMerge one other all → IsMerge other one all
merge-swap one other [] is = (is.1, is.0)
merge-swap one other (x ∷ all) (inl is) = inr (is.0, is.1, merge-swap is.0 other all is.2)
merge-swap one other (x ∷ all) (inr is) = inl (is.0, is.1, merge-swap one is.0 all is.2)

pub merge-none : {X : Type 0} (all : List X) → IsMerge [] all all
merge-none [] = (refl, refl)
merge-none (x ∷ all) = inr (all, refl, merge-none all)

-- a merge with nothing is the other list
pub merge-only : {X : Type 0} (other all : List X) → IsMerge [] other all → other ≡ all
merge-only other [] is = is.1
merge-only other (x ∷ all) (inl is) = let none : [] ≡ x ∷ is.0 = is.1 in absurd cc
merge-only other (x ∷ all) (inr is) = let rest : is.0 ≡ all = merge-only is.0 all is.2 in let here : other ≡ x ∷ is.0 = is.1 in cc

abbrev HasOneList : {A S : Type 0} → ℕ → List (Done A S) → List (Done A S) → List (Done A S) → Type 0
HasOneList {A} {S} to one other history = (all : List (Done A S)) × IsOneList to one other history all

-- lists that are no longer than this have one list
abbrev Short : (A S : Type 0) → ℕ → Type 0
Short A S n = (to top : ℕ) (one other history : List (Done A S)) → length one + length other ≤ n → AreInOrder to one → AreInOrder to other → AreInOrder top history
    → IsMerge (stamps_in one) (stamps_in other) history → HasOneList to one other history

none-before : {X : Type 0} (xs ys : List X) → xs ++ ys ≡ [] → xs ≡ []
none-before [] ys h = refl
none-before (x ∷ xs) ys h = absurd cc

module _ {A S : Type 0} where
  -- ---- order

  pub order-from : (to top : ℕ) (past : List (Done A S)) → to ≤ top → AreInOrder to past → AreInOrder top past
  order-from to top [] less is = tt
  order-from to top (done ∷ past) less is = let by : done.at ≤ to = is.0 in (omega arith, is.1)

  -- a part of a list in order is in order
  pub part-in_order : (to : ℕ) (one other all : List (Done A S)) → IsMerge one other all → AreInOrder to all → AreInOrder to one
  part-in_order to one other [] is order = let none : one ≡ [] = is.0 in subst (λ (xs : List (Done A S)). AreInOrder to xs) (sym none) tt
  part-in_order to one other (x ∷ all) (inl is) order =
      subst (λ (xs : List (Done A S)). AreInOrder to xs) (sym is.1) (order.0, part-in_order x.at is.0 other all is.2 order.1)
  part-in_order to one other (x ∷ all) (inr is) order = order-from x.at to one order.0 (part-in_order x.at one is.0 all is.2 order.1)

  -- a merge in order has no time above those of its parts
  pub merge-by : (to top : ℕ) (one other all : List (Done A S)) → IsMerge one other all → AreInOrder to one → AreInOrder to other → AreInOrder top all → AreInOrder to all
  merge-by to top one other [] is a b order = tt
  merge-by to top one other (x ∷ all) (inl is) a b order = ((subst (λ (xs : List (Done A S)). AreInOrder to xs) is.1 a).0, order.1)
  merge-by to top one other (x ∷ all) (inr is) a b order = ((subst (λ (xs : List (Done A S)). AreInOrder to xs) is.1 b).0, order.1)

  -- the stamps of a list in order are in order
  pub stamps-in_order : (to : ℕ) (past : List (Done A S)) → AreInOrder to past → AreInOrder to (stamps_in past)
  stamps-in_order to [] is = tt
  stamps-in_order to (done ∷ past) is = by_deed (stamps-in_order done.at past is.1) done.deed
    where
      by_deed : AreInOrder done.at (stamps_in past) → (deed : Deed A S) → AreInOrder to (if_stamp done deed ++ stamps_in past)
      by_deed rest (Does a) = order-from done.at to (stamps_in past) is.0 rest
      by_deed rest (Stamps s) = (is.0, rest)

  -- ---- one more

  -- one list of what the seats did up to some time, without their history
  one-more : (to : ℕ) (x : Done A S) (one other history : List (Done A S)) (all : List (Done A S)) → x.at ≤ to → IsOneList x.at one other history all
      → IsOneList to (x ∷ one) other (if_stamp x x.deed ++ history) (x ∷ all)
  one-more to x one other history all less is = record {
    merge = inl (one, refl, is.merge);
    in_order = (less, is.in_order);
    stamps = ap (λ (xs : List (Done A S)). if_stamp x x.deed ++ xs) is.stamps;
  }

  swap-list : (to : ℕ) (one other history : List (Done A S)) → HasOneList to one other history → HasOneList to other one history
  swap-list to one other history is = (is.0, record { merge = merge-swap one other is.0 is.1.merge; in_order = is.1.in_order; stamps = is.1.stamps })

  -- the head of the first list goes last where it is no stamp, or the last one of the history
  goes-first : (n : ℕ) → Short A S n → (to top : ℕ) (x : Done A S) (xs other rest history : List (Done A S)) → length xs + length other ≤ n → x.at ≤ to → AreInOrder x.at xs → AreInOrder x.at other
      → AreInOrder top rest → IsMerge (stamps_in xs) (stamps_in other) rest → history ≡ if_stamp x x.deed ++ rest → HasOneList to (x ∷ xs) other history
  goes-first n short to top x xs other rest history fits less a b order is history_is =
      let (all, one_list) = short x.at top xs other rest fits a b order is in
      (x ∷ all, subst (λ (h : List (Done A S)). IsOneList to (x ∷ xs) other h (x ∷ all)) (sym history_is) (one-more to x xs other rest all less one_list))

  -- of two heads the first is no earlier, and gives the last stamp but for the second
  later-stamp : (n : ℕ) → Short A S n → (to top : ℕ) (x y : Done A S) (xs ys history : List (Done A S)) → suc (length xs + length ys) ≤ n → x.at ≤ to → AreInOrder x.at xs → y.at ≤ x.at → AreInOrder y.at ys
      → if_stamp x x.deed ≡ x ∷ [] → AreInOrder top history → IsMerge (x ∷ stamps_in xs) (stamps_in (y ∷ ys)) history → HasOneList to (x ∷ xs) (y ∷ ys) history
  later-stamp n short to top x y xs ys [] fits less a later b gives order is = let none : x ∷ stamps_in xs ≡ [] = is.0 in absurd cc
  later-stamp n short to top x y xs ys (z ∷ rest) fits less a later b gives order (inl (r, here, is)) =
      let same : x ≡ z = cc in
      let left : r ≡ stamps_in xs = cc in
      goes-first n short to z.at x xs (y ∷ ys) rest (z ∷ rest) (omega arith) less a (later, b) order.1
      (subst (λ (l : List (Done A S)). IsMerge l (stamps_in (y ∷ ys)) rest) left is)
      (ap (λ (d : Done A S). d ∷ rest) (sym same) ∙ ap (λ (l : List (Done A S)). l ++ rest) (sym gives))
  later-stamp n short to top x y xs ys (z ∷ rest) fits less a later b gives order (inr (r, here, is)) =
      let x_by : x.at ≤ z.at = (part-in_order z.at (x ∷ stamps_in xs) r rest is order.1).0 in
      let z_by : z.at ≤ y.at = (subst (λ (l : List (Done A S)). AreInOrder y.at l) here (stamps-in_order y.at (y ∷ ys) (omega arith, b))).0 in
      let equal : x.at ≤ y.at = omega arith in
      swap-list to (y ∷ ys) (x ∷ xs) (z ∷ rest) (by_deed y.deed refl here equal)
    where
      by_deed : (deed : Deed A S) → y.deed ≡ deed → if_stamp y deed ++ stamps_in ys ≡ z ∷ r → x.at ≤ y.at → HasOneList to (y ∷ ys) (x ∷ xs) (z ∷ rest)
      by_deed (Does act) e stands equal =
          goes-first n short to top y ys (x ∷ xs) (z ∷ rest) (z ∷ rest) (omega arith) (omega arith) b (equal, a) order
          (merge-swap (stamps_in (x ∷ xs)) (stamps_in ys) (z ∷ rest)
          (subst (λ (l : List (Done A S)). IsMerge (l ++ stamps_in xs) (stamps_in ys) (z ∷ rest)) (sym gives)
          (inr (r, stands, is))))
          (ap (λ (d : Deed A S). if_stamp y d ++ (z ∷ rest)) (sym e))
      by_deed (Stamps s) e stands equal =
          let same : y ≡ z = cc in
          let left : r ≡ stamps_in ys = cc in
          goes-first n short to z.at y ys (x ∷ xs) rest (z ∷ rest) (omega arith) (omega arith) b (equal, a) order.1
          (merge-swap (stamps_in (x ∷ xs)) (stamps_in ys) rest
          (subst (λ (l : List (Done A S)). IsMerge (l ++ stamps_in xs) (stamps_in ys) rest) (sym gives)
          (subst (λ (l : List (Done A S)). IsMerge (x ∷ stamps_in xs) l rest) left is)))
          (ap (λ (d : Done A S). d ∷ rest) (sym same) ∙ ap (λ (d : Deed A S). if_stamp y d ++ rest) (sym e))

  -- of two heads the first is no earlier
  by-later : (n : ℕ) → Short A S n → (to top : ℕ) (x y : Done A S) (xs ys history : List (Done A S)) → suc (length xs + length ys) ≤ n → x.at ≤ to → AreInOrder x.at xs → y.at ≤ x.at → AreInOrder y.at ys
      → AreInOrder top history → IsMerge (stamps_in (x ∷ xs)) (stamps_in (y ∷ ys)) history → HasOneList to (x ∷ xs) (y ∷ ys) history
  by-later n short to top x y xs ys history fits less a later b order is = by_deed x.deed refl
    where
      by_deed : (deed : Deed A S) → x.deed ≡ deed → HasOneList to (x ∷ xs) (y ∷ ys) history
      by_deed (Does act) e =
          goes-first n short to top x xs (y ∷ ys) history history (omega arith) less a (later, b) order
          (subst (λ (d : Deed A S). IsMerge (if_stamp x d ++ stamps_in xs) (stamps_in (y ∷ ys)) history) e is)
          (ap (λ (d : Deed A S). if_stamp x d ++ history) (sym e))
      by_deed (Stamps s) e =
          later-stamp n short to top x y xs ys history fits less a later b (ap (if_stamp x) e) order
          (subst (λ (d : Deed A S). IsMerge (if_stamp x d ++ stamps_in xs) (stamps_in (y ∷ ys)) history) e is)

  short-lists : (n : ℕ) → Short A S n
  short-lists n to top [] other history fits a b order is =
      (other, record { merge = merge-none other; in_order = b; stamps = merge-only (stamps_in other) history is })
  short-lists n to top (x ∷ xs) [] history fits a b order is =
      swap-list to [] (x ∷ xs) history
      (x ∷ xs, record { merge = merge-none (x ∷ xs); in_order = a; stamps = merge-only (stamps_in (x ∷ xs)) history (merge-swap (stamps_in (x ∷ xs)) [] history is) })
  short-lists zero to top (x ∷ xs) (y ∷ ys) history fits a b order is = absurd (omega arith)
  short-lists (suc n) to top (x ∷ xs) (y ∷ ys) history fits a b order is = by_time (short-lists n) (leb_tells y.at x.at)
    where
      by_time : Short A S n → ((leb y.at x.at ≡ true) × (y.at ≤ x.at)) ⊎ ((leb y.at x.at ≡ false) × (x.at < y.at)) → HasOneList to (x ∷ xs) (y ∷ ys) history
      by_time short (inl (e, later)) = by-later n short to top x y xs ys history (omega arith) a.0 a.1 later b.1 order is
      by_time short (inr (e, later)) =
          swap-list to (y ∷ ys) (x ∷ xs) history
          (by-later n short to top y x ys xs history (omega arith) b.0 b.1 (omega arith) a.1 order (merge-swap (stamps_in (x ∷ xs)) (stamps_in (y ∷ ys)) history is))

  -- what two seats of one sequencer did is one list
  pub two-merge : (to top : ℕ) (one other history : List (Done A S)) → AreInOrder to one → AreInOrder to other → AreInOrder top history
      → IsMerge (stamps_in one) (stamps_in other) history → (all : List (Done A S)) × IsOneList to one other history all
  two-merge to top one other history a b order is = short-lists (length one + length other) to top one other history (omega arith) a b order is

  -- so is what the seats of any number of workers did
  pub workers-merge : (to top : ℕ) (workers : List (List (Done A S))) (history : List (Done A S)) → AllByRecursion (AreInOrder to) workers → AreInOrder top history
      → IsMergeOf (map stamps_in workers) history → (all : List (Done A S)) × IsOneListOf to workers history all
  workers-merge to top [] history orders order is = ([], record { merge = refl; in_order = tt; stamps = sym is })
  workers-merge to top (one ∷ workers) history orders order is =
      let (others, others_are, is_merge) = is in
      let middle = part-in_order top others (stamps_in one) history (merge-swap (stamps_in one) others history is_merge) order in
      let (rest, rest_is) = workers-merge to top workers others orders.1 middle others_are in
      let (all, all_is) = two-merge to top one rest history orders.0 rest_is.in_order order (subst (λ (l : List (Done A S)). IsMerge (stamps_in one) l history) (sym rest_is.stamps) is_merge) in
      (all, record { merge = (rest, rest_is.merge, all_is.merge); in_order = all_is.in_order; stamps = all_is.stamps })

  -- ---- what a daemon did between

  -- nothing of a list in order is later than its bound, and so it is below a greater one
  all-below : (to by : ℕ) (past : List (Done A S)) → to < by → AreInOrder to past → AllByRecursion (λ (earlier : Done A S). earlier.at < by) past
  all-below to by [] less is = tt
  all-below to by (done ∷ past) less is = let at_most : done.at ≤ to = is.0 in (omega arith, all-below done.at by past (omega arith) is.1)

  pub before-merge : (first second all : List (Done A S)) → IsMergeBefore first second all → IsMerge first second all
  before-merge first second [] is = is
  before-merge first second (x ∷ all) (inl is) = inl (is.0, is.1, before-merge is.0 second all is.3)
  before-merge first second (x ∷ all) (inr is) = inr (is.0, is.1, before-merge first is.0 all is.2)

  merge-of_none : (all : List (Done A S)) → IsMergeBefore [] all all
  merge-of_none [] = (refl, refl)
  merge-of_none (x ∷ all) = inr (all, refl, merge-of_none all)

  merge-with_none : (all : List (Done A S)) → IsMergeBefore all [] all
  merge-with_none [] = (refl, refl)
  merge-with_none (x ∷ all) = inl (all, refl, tt, merge-with_none all)

  -- two lists in order merge by time, the first before the second
  short-before : (n to : ℕ) (first second : List (Done A S)) → length first + length second ≤ n → AreInOrder to first → AreInOrder to second
      → (all : List (Done A S)) × IsMergeBefore first second all × AreInOrder to all
  short-before n to [] second fits a b = (second, merge-of_none second, b)
  short-before n to (x ∷ xs) [] fits a b = (x ∷ xs, merge-with_none (x ∷ xs), a)
  short-before zero to (x ∷ xs) (y ∷ ys) fits a b = absurd (omega arith)
  short-before (suc n) to (x ∷ xs) (y ∷ ys) fits a b =
      by_time (λ later. short-before n y.at (x ∷ xs) ys (omega arith) (later, a.1) b.1) (λ earlier. short-before n x.at xs (y ∷ ys) (omega arith) a.1 (omega arith, b.1)) (leb_tells x.at y.at)
    where
      by_time : (x.at ≤ y.at → (all : List (Done A S)) × IsMergeBefore (x ∷ xs) ys all × AreInOrder y.at all)
          → (y.at < x.at → (all : List (Done A S)) × IsMergeBefore xs (y ∷ ys) all × AreInOrder x.at all)
          → ((leb x.at y.at ≡ true) × (x.at ≤ y.at)) ⊎ ((leb x.at y.at ≡ false) × (y.at < x.at))
          → (all : List (Done A S)) × IsMergeBefore (x ∷ xs) (y ∷ ys) all × AreInOrder to all
      by_time second_last first_last (inl (e, later)) = let (all, is, order) = second_last later in (y ∷ all, inr (ys, refl, is), (b.0, order))
      by_time second_last first_last (inr (e, earlier)) =
          let (all, is, order) = first_last earlier in
          (x ∷ all, inl (xs, refl, all-below y.at x.at (y ∷ ys) earlier (omega arith, b.1), is), (a.0, order))

  pub before-merged : (to : ℕ) (first second : List (Done A S)) → AreInOrder to first → AreInOrder to second → (all : List (Done A S)) × IsMergeBefore first second all × AreInOrder to all
  before-merged to first second a b = short-before (length first + length second) to first second (omega arith) a b

  -- the stamps of a merge with what gives no stamps
  pub stamps-of_second : (first second all : List (Done A S)) → IsMerge first second all → stamps_in first ≡ [] → stamps_in all ≡ stamps_in second
  stamps-of_second first second [] is none = ap stamps_in (sym is.1)
  stamps-of_second first second (x ∷ all) (inl (rest, here, is)) none =
      let both : if_stamp x x.deed ++ stamps_in rest ≡ [] = ap stamps_in (sym here) ∙ none in
      let no_stamp : if_stamp x x.deed ≡ [] = none-before (if_stamp x x.deed) (stamps_in rest) both in
      let none_left : stamps_in rest ≡ [] = ap (λ (l : List (Done A S)). l ++ stamps_in rest) (sym no_stamp) ∙ both in
      ap (λ (l : List (Done A S)). l ++ stamps_in all) no_stamp ∙ stamps-of_second rest second all is none_left
  stamps-of_second first second (x ∷ all) (inr (rest, here, is)) none =
      ap (λ (l : List (Done A S)). if_stamp x x.deed ++ l) (stamps-of_second first rest all is none) ∙ ap stamps_in (sym here)

  -- what the daemon and the workers did is one list
  pub life-merge : (to top : ℕ) (daemon : List (Done A S)) (workers : List (List (Done A S))) (history : List (Done A S)) → AreInOrder to daemon → stamps_in daemon ≡ [] → AllByRecursion (AreInOrder to) workers
      → AreInOrder top history → IsMergeOf (map stamps_in workers) history → (all : List (Done A S)) × IsOneListWith to daemon workers history all
  life-merge to top daemon workers history order no_stamps orders history_order is =
      let (of_workers, are) = workers-merge to top workers history orders history_order is in
      let (all, merge, in_order) = before-merged to daemon of_workers order are.in_order in
      (all, record { of_workers = of_workers; workers_are = are.merge; merge = merge; in_order = in_order; stamps = stamps-of_second daemon of_workers all (before-merge daemon of_workers all merge) no_stamps ∙ are.stamps })
