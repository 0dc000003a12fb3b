-- What the workers of a life have stamped, each by its seat, merges into the history of their sequencer.
use Rattle.std.proofs.Common.{◌≡◌, ℕ, suc, ◌+◌, ◌<◌, ◌≤◌, ◌||◌, Bool, true, false, cond, leb, eqb, List, [], ◌∷◌, ◌++◌, length, inl, inr, refl, sym, ap, subst, ◌∙◌, arith, ne_eqb}
use Rattle.std.specs.Prelude.{◌⊎◌, filter, map}
use Rattle.std.specs.List.{AllByRecursion}
use Rattle.std.proofs.lemmas.Bool.{eq-eqb}
use Rattle.std.proofs.lemmas.Bool.Decides.{leb_tells}
use Rattle.tt_stamp.specs.Stamping.{IsLegalRun, entries_of, is_in}
use Rattle.tt_stamp.specs.declared.stampings.Stamping.{Stamping}
use Rattle.tt_life_events.specs.Acts.{Act, Gives, LifeDone, entries_in, if_given}
use Rattle.tt_life_events.specs.Merging.{Deed, Does, IsMerge, IsMergeOf, Stamps, if_stamp, stamps_in}
use Rattle.tt_life_events.proofs.Threading.{entries-stamps}

-- ---- lists of stamps alone

abbrev AreGiven : List LifeDone → Type 0
AreGiven past = AllByRecursion (λ (done : LifeDone). (given : Gives) × (done.deed ≡ Stamps given)) past

stamps-given : (past : List LifeDone) → AreGiven (stamps_in past)
stamps-given [] = tt
stamps-given (done ∷ past) = by_deed (stamps-given past) done.deed refl
  where
    by_deed : AreGiven (stamps_in past) → (deed : Deed Act Gives) → done.deed ≡ deed → AreGiven (if_stamp done deed ++ stamps_in past)
    by_deed rest (Does act) e = rest
    by_deed rest (Stamps given) e = ((given, e), rest)

record Takes (one : List LifeDone) (e : Stamping) (es : List Stamping) : Type 0 where
  pub first : LifeDone
  pub rest : List LifeDone
  pub one_is : one ≡ first ∷ rest
  pub given : AreGiven rest
  pub entry : if_given first.deed ≡ e ∷ []
  pub entries : entries_in rest ≡ es

take-entry : (one : List LifeDone) → AreGiven one → (e : Stamping) (es : List Stamping) → entries_in one ≡ e ∷ es → Takes one e es
take-entry [] given e es are = let none : [] ≡ e ∷ es = are in absurd cc
take-entry (done ∷ rest) ((gave, is), given) e es are =
    let here : if_given done.deed ≡ gave.entry ∷ [] = ap if_given is in
    let all : gave.entry ∷ entries_in rest ≡ e ∷ es = sym (ap (λ (l : List Stamping). l ++ entries_in rest) here) ∙ are in
    let same : gave.entry ≡ e = cc in
    let left : entries_in rest ≡ es = cc in
    record { first = done; rest = rest; one_is = refl; given = given; entry = here ∙ ap (λ (x : Stamping). x ∷ []) same; entries = left }

take-none : (one : List LifeDone) → AreGiven one → entries_in one ≡ [] → one ≡ []
take-none [] given are = refl
take-none (done ∷ rest) ((gave, is), given) are =
    let all : gave.entry ∷ entries_in rest ≡ [] = sym (ap (λ (l : List Stamping). l ++ entries_in rest) (ap if_given is)) ∙ are in absurd cc

-- ---- two lists merge into what both have of a history

-- an entry is one of the first, or one of the second, or of neither
abbrev IsSorted : Bool → Bool → Bool → Type 0
IsSorted p q r =
    ((p ≡ true) × (q ≡ false) × (r ≡ true)) ⊎ (((p ≡ false) × (q ≡ true) × (r ≡ true)) ⊎ ((p ≡ false) × (q ≡ false) × (r ≡ false)))

record Merged (one other : List LifeDone) (entries : List Stamping) : Type 0 where
  pub all : List LifeDone
  pub merge : IsMerge one other all
  pub given : AreGiven all
  pub are : entries_in all ≡ entries

module _ (p q r : Stamping → Bool) (sorted : (e : Stamping) → IsSorted (p e) (q e) (r e)) where
  -- a list, where its first element is kept, or left out
  kept : (test : Stamping → Bool) (e : Stamping) (history : List Stamping) → test e ≡ true → filter test (e ∷ history) ≡ e ∷ filter test history
  kept test e history is = ap (λ (b : Bool). cond b (e ∷ filter test history) (filter test history)) is

  left : (test : Stamping → Bool) (e : Stamping) (history : List Stamping) → test e ≡ false → filter test (e ∷ history) ≡ filter test history
  left test e history is = ap (λ (b : Bool). cond b (e ∷ filter test history) (filter test history)) is

  -- what both lists have of a history merges
  abbrev Merge : List Stamping → Type 0
  Merge history = (one other : List LifeDone) → AreGiven one → AreGiven other → entries_in one ≡ filter p history → entries_in other ≡ filter q history → Merged one other (filter r history)

  first-given : (list : List LifeDone) (first : LifeDone) (rest : List LifeDone) → list ≡ first ∷ rest → AreGiven list → (given : Gives) × (first.deed ≡ Stamps given)
  first-given list first rest is are = let all : AreGiven (first ∷ rest) = subst AreGiven is are in all.0

  one-more : (e : Stamping) (history : List Stamping) → Merge history → IsSorted (p e) (q e) (r e) → Merge (e ∷ history)
  one-more e history more (inl (mine, theirs, both)) one other given given_too are are_too =
      let takes = take-entry one given e (filter p history) (are ∙ kept p e history mine) in
      let merged = more takes.rest other takes.given given_too takes.entries (are_too ∙ left q e history theirs) in
      record {
        all = takes.first ∷ merged.all;
        merge = inl (takes.rest, takes.one_is, merged.merge);
        given = (first-given one takes.first takes.rest takes.one_is given, merged.given);
        are = ap (λ (l : List Stamping). l ++ entries_in merged.all) takes.entry ∙ ap (λ (l : List Stamping). e ∷ l) merged.are ∙ sym (kept r e history both);
      }
  one-more e history more (inr (inl (mine, theirs, both))) one other given given_too are are_too =
      let takes = take-entry other given_too e (filter q history) (are_too ∙ kept q e history theirs) in
      let merged = more one takes.rest given takes.given (are ∙ left p e history mine) takes.entries in
      record {
        all = takes.first ∷ merged.all;
        merge = inr (takes.rest, takes.one_is, merged.merge);
        given = (first-given other takes.first takes.rest takes.one_is given_too, merged.given);
        are = ap (λ (l : List Stamping). l ++ entries_in merged.all) takes.entry ∙ ap (λ (l : List Stamping). e ∷ l) merged.are ∙ sym (kept r e history both);
      }
  one-more e history more (inr (inr (mine, theirs, both))) one other given given_too are are_too =
      let merged = more one other given given_too (are ∙ left p e history mine) (are_too ∙ left q e history theirs) in
      record { all = merged.all; merge = merged.merge; given = merged.given; are = merged.are ∙ sym (left r e history both) }

  two-log : (history : List Stamping) → Merge history
  two-log [] one other given given_too are are_too = record { all = []; merge = (take-none one given are, take-none other given_too are_too); given = tt; are = refl }
  two-log (e ∷ history) one other given given_too are are_too = one-more e history (two-log history) (sorted e) one other given given_too are are_too

-- ---- all workers

-- the entries under the numbers from this one on
abbrev is_from : ℕ → Stamping → Bool
is_from w e = leb w e.number

sorted-at : (w : ℕ) (e : Stamping) → IsSorted (is_in (w ∷ []) e.number) (is_from (suc w) e) (is_from w e)
sorted-at w e = by_order (leb_tells w e.number) (leb_tells (suc w) e.number)
  where
    here : (b : Bool) → eqb w e.number ≡ b → is_in (w ∷ []) e.number ≡ b || false
    here b is = ap (λ (x : Bool). x || false) is

    by_order : ((leb w e.number ≡ true) × (w ≤ e.number)) ⊎ ((leb w e.number ≡ false) × (e.number < w))
        → ((leb (suc w) e.number ≡ true) × (suc w ≤ e.number)) ⊎ ((leb (suc w) e.number ≡ false) × (e.number < suc w))
        → IsSorted (is_in (w ∷ []) e.number) (is_from (suc w) e) (is_from w e)
    by_order (inl (is, least)) (inl (above, more)) = inr (inl (here false (ne_eqb w e.number (λ same. omega (arith, same, more))), above, is))
    by_order (inl (is, least)) (inr (above, less)) = inl (here true (eq-eqb w e.number (omega arith)), above, is)
    by_order (inr (is, under)) (inl (above, more)) = absurd (omega arith)
    by_order (inr (is, under)) (inr (above, less)) = inr (inr (here false (ne_eqb w e.number (λ same. omega (arith, same, under))), above, is))

-- each of these lists has the entries under its number
abbrev pub HaveEntries : ℕ → List (List LifeDone) → List Stamping → Type 0
HaveEntries w [] history = Unit {0}
HaveEntries w (list ∷ lists) history = (entries_in list ≡ entries_of (w ∷ []) history) × HaveEntries (suc w) lists history

abbrev pub AreBelow : ℕ → List Stamping → Type 0
AreBelow n history = AllByRecursion (λ (e : Stamping). e.number < n) history

none-from : (w : ℕ) (history : List Stamping) → AreBelow w history → filter (is_from w) history ≡ []
none-from w [] below = refl
none-from w (e ∷ history) below = by_order (none-from w history below.1) below.0 (leb_tells w e.number)
  where
    by_order : filter (is_from w) history ≡ [] → e.number < w → ((leb w e.number ≡ true) × (w ≤ e.number)) ⊎ ((leb w e.number ≡ false) × (e.number < w)) → filter (is_from w) (e ∷ history) ≡ []
    by_order none less (inl (is, least)) = absurd (omega arith)
    by_order none less (inr (is, under)) = ap (λ (b : Bool). cond b (e ∷ filter (is_from w) history) (filter (is_from w) history)) is ∙ none

all-from : (history : List Stamping) → filter (is_from 0) history ≡ history
all-from [] = refl
all-from (e ∷ history) = by_order (all-from history) (leb_tells 0 e.number)
  where
    by_order : filter (is_from 0) history ≡ history → ((leb 0 e.number ≡ true) × (0 ≤ e.number)) ⊎ ((leb 0 e.number ≡ false) × (e.number < 0)) → filter (is_from 0) (e ∷ history) ≡ e ∷ history
    by_order all (inl (is, least)) = ap (λ (b : Bool). cond b (e ∷ filter (is_from 0) history) (filter (is_from 0) history)) is ∙ ap (λ (l : List Stamping). e ∷ l) all
    by_order all (inr (is, under)) = absurd (omega arith)

record Logged (lists : List (List LifeDone)) (entries : List Stamping) : Type 0 where
  pub log : List LifeDone
  pub merge : IsMergeOf (map stamps_in lists) log
  pub given : AreGiven log
  pub are : entries_in log ≡ entries

workers-log : (w : ℕ) (lists : List (List LifeDone)) (history : List Stamping) → HaveEntries w lists history → AreBelow (w + length lists) history → Logged lists (filter (is_from w) history)
workers-log w [] history have below = record { log = []; merge = refl; given = tt; are = sym (none-from w history (subst (λ (n : ℕ). AreBelow n history) (omega arith) below)) }
workers-log w (list ∷ lists) history have below =
    let size : w + length (list ∷ lists) ≡ suc w + length lists = omega arith in
    let others = workers-log (suc w) lists history have.1 (subst (λ (n : ℕ). AreBelow n history) size below) in
    let merged =
    two-log (λ (e : Stamping). is_in (w ∷ []) e.number) (is_from (suc w)) (is_from w) (sorted-at w) history (stamps_in list) others.log (stamps-given list) others.given
    (sym (entries-stamps list) ∙ have.0) others.are in
    record { log = merged.all; merge = (others.log, others.merge, merged.merge); given = merged.given; are = merged.are }

legal-below : (seats : ℕ) (history : List Stamping) → IsLegalRun seats history → AreBelow seats history
legal-below seats [] legal = tt
legal-below seats (e ∷ history) legal = (legal.0.of_a_seat, legal-below seats history legal.1)

-- so what all of them have stamped, each by the seat of its number, is one log
pub log-merge : (lists : List (List LifeDone)) (seats : ℕ) (history : List Stamping) → length lists ≡ seats → HaveEntries 0 lists history → IsLegalRun seats history
    → (log : List LifeDone) × IsMergeOf (map stamps_in lists) log × (entries_in log ≡ history)
log-merge lists seats history size have legal =
    let same : seats ≡ 0 + length lists = omega (arith, size) in
    let logged = workers-log 0 lists history have (subst (λ (n : ℕ). AreBelow n history) same (legal-below seats history legal)) in
    (logged.log, logged.merge, logged.are ∙ all-from history)
