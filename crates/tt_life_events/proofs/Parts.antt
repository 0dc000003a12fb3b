-- What a merge says of one of its parts, where the other part does not touch it.
use Rattle.std.proofs.Common.{◌≡◌, ℕ, suc, ◌+◌, ◌≤◌, List, [], ◌∷◌, length, inl, inr, sym, ap, ◌∙◌, subst, arith}
use Rattle.std.specs.List.{AllByRecursion}
use Rattle.tt_life_events.specs.Merging.{Deed, Done, IsMerge, IsMergeOf}

module _ {A S : Type 0} where
  -- what holds of each element of the parts holds of each element of a merge
  pub all-merge : (P : Done A S → Type 0) (one other all : List (Done A S)) → IsMerge one other all → AllByRecursion P one → AllByRecursion P other → AllByRecursion P all
  all-merge P one other [] is a b = tt
  all-merge P one other (x ∷ all) (inl (rest, here, is)) a b =
      let mine : AllByRecursion P (x ∷ rest) = subst (AllByRecursion P) here a in (mine.0, all-merge P rest other all is mine.1 b)
  all-merge P one other (x ∷ all) (inr (rest, here, is)) a b =
      let theirs : AllByRecursion P (x ∷ rest) = subst (AllByRecursion P) here b in (theirs.0, all-merge P one rest all is a theirs.1)

  pub all-workers : (P : Done A S → Type 0) (workers : List (List (Done A S))) (all : List (Done A S)) → IsMergeOf workers all → AllByRecursion (AllByRecursion P) workers → AllByRecursion P all
  all-workers P [] all is each = subst (AllByRecursion P) (sym is) tt
  all-workers P (one ∷ workers) all (others, others_are, is) each = all-merge P one others all is each.0 (all-workers P workers others others_are each.1)

  pub merge-size : (one other all : List (Done A S)) → IsMerge one other all → length all ≡ length one + length other
  merge-size one other [] is = omega (arith, ap length is.0, ap length is.1)
  merge-size one other (x ∷ all) (inl (rest, here, is)) = omega (arith, merge-size rest other all is, ap length here)
  merge-size one other (x ∷ all) (inr (rest, here, is)) = omega (arith, merge-size one rest all is, ap length here)

  -- what a list leaves, by what each thing that is done leaves
  abbrev pub left_by : {X : Type 0} → (Deed A S → X → X) → X → List (Done A S) → X
  left_by step begun [] = begun
  left_by step begun (done ∷ past) = step done.deed (left_by step begun past)

  -- nothing of a list changes it
  abbrev pub ChangesNothing : {X : Type 0} → (Deed A S → X → X) → List (Done A S) → Type 0
  ChangesNothing {X} step past = AllByRecursion (λ (done : Done A S). (x : X) → step done.deed x ≡ x) past

  pub part-left : {X : Type 0} (step : Deed A S → X → X) (begun : X) (one other all : List (Done A S)) → IsMerge one other all → ChangesNothing step other → left_by step begun all ≡ left_by step begun one
  part-left step begun one other [] is same = ap (left_by step begun) (sym is.0)
  part-left step begun one other (x ∷ all) (inl (rest, here, is)) same =
      ap (step x.deed) (part-left step begun rest other all is same) ∙ ap (left_by step begun) (sym here)
  part-left {X} step begun one other (x ∷ all) (inr (rest, here, is)) same =
      let both : ChangesNothing step (x ∷ rest) = subst (ChangesNothing step) here same in
      both.0 (left_by step begun all) ∙ part-left step begun one rest all is both.1

  -- ---- what holds of each thing that is done, by what was done before
  module _ (worker : Deed A S → ℕ) (P : List (Done A S) → Done A S → Type 0) where
    abbrev pub HoldOfEach : List (Done A S) → Type 0
    HoldOfEach [] = Unit {0}
    HoldOfEach (done ∷ past) = P past done × HoldOfEach past

    -- all of a list is done by this worker
    abbrev pub AreBy : ℕ → List (Done A S) → Type 0
    AreBy i past = AllByRecursion (λ (done : Done A S). worker done.deed ≡ i) past

    -- all of a list is done by workers from this one on
    abbrev pub AreFrom : ℕ → List (Done A S) → Type 0
    AreFrom i past = AllByRecursion (λ (done : Done A S). i ≤ worker done.deed) past

    -- nothing of a list is done by this worker
    abbrev pub NoneBy : ℕ → List (Done A S) → Type 0
    NoneBy i past = AllByRecursion (λ (done : Done A S). worker done.deed ≡ i → ⊥) past

    none-from : (i : ℕ) (past : List (Done A S)) → AreFrom (suc i) past → NoneBy i past
    none-from i [] from = tt
    none-from i (done ∷ past) from = (λ same. omega (arith, same, from.0), none-from i past from.1)

    none-by : (i j : ℕ) (past : List (Done A S)) → suc i ≤ j → AreBy i past → NoneBy j past
    none-by i j [] less by = tt
    none-by i j (done ∷ past) less by = (λ same. omega (arith, same, by.0), none-by i j past less by.1)

    -- what holds of a worker's own list holds of a merge with what others did
    abbrev pub Carries : Type 0
    Carries = (one other all : List (Done A S)) (done : Done A S) → IsMerge one other all → NoneBy (worker done.deed) other → P one done → P all done

    swap : (one other all : List (Done A S)) → IsMerge one other all → IsMerge other one all
    swap one other [] is = (is.1, is.0)
    swap one other (x ∷ all) (inl is) = inr (is.0, is.1, swap is.0 other all is.2)
    swap one other (x ∷ all) (inr is) = inl (is.0, is.1, swap one is.0 all is.2)

    both-hold : Carries → (i : ℕ) (one other all : List (Done A S)) → IsMerge one other all → AreBy i one → AreFrom (suc i) other → HoldOfEach one → HoldOfEach other → HoldOfEach all × AreFrom i all
    both-hold carries i one other [] is by from a b = (tt, tt)
    both-hold carries i one other (x ∷ all) (inl (rest, here, is)) by from a b =
        let mine : AreBy i (x ∷ rest) = subst (AreBy i) here by in
        let hold : HoldOfEach (x ∷ rest) = subst HoldOfEach here a in
        let (later, from_all) = both-hold carries i rest other all is mine.1 from hold.1 b in
        let none : NoneBy (worker x.deed) other = subst (λ (w : ℕ). NoneBy w other) (sym mine.0) (none-from i other from) in
        let least : i ≤ worker x.deed = omega (arith, mine.0) in
        ((carries rest other all x is none hold.0, later), (least, from_all))
    both-hold carries i one other (x ∷ all) (inr (rest, here, is)) by from a b =
        let theirs : AreFrom (suc i) (x ∷ rest) = subst (AreFrom (suc i)) here from in
        let hold : HoldOfEach (x ∷ rest) = subst HoldOfEach here b in
        let (later, from_all) = both-hold carries i one rest all is by theirs.1 a hold.1 in
        let least : i ≤ worker x.deed = omega (arith, theirs.0) in
        ((carries rest one all x (swap one rest all is) (none-by i (worker x.deed) one theirs.0 by) hold.0, later), (least, from_all))

    -- lists of workers with these numbers, from this one on
    abbrev pub AreNumbered : ℕ → List (List (Done A S)) → Type 0
    AreNumbered i [] = Unit {0}
    AreNumbered i (one ∷ lists) = AreBy i one × HoldOfEach one × AreNumbered (suc i) lists

    pub all-hold : Carries → (i : ℕ) (lists : List (List (Done A S))) (all : List (Done A S)) → IsMergeOf lists all → AreNumbered i lists → HoldOfEach all × AreFrom i all
    all-hold carries i [] all is numbered = (subst HoldOfEach (sym is) tt, subst (AreFrom i) (sym is) tt)
    all-hold carries i (one ∷ lists) all (others, others_are, is) numbered =
        let (hold, from) = all-hold carries (suc i) lists others others_are numbered.2 in
        both-hold carries i one others all is numbered.0 from numbered.1 hold
