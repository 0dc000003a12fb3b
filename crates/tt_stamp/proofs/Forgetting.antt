-- What a history without a session is: legal, and for all other sessions the same.
use Rattle.std.proofs.Common.{◌≡◌, ◌≢◌, ◌↔◌, ℕ, ◌<◌, ◌≤◌, ◌==◌, not, cond, Bool, true, false, List, [], ◌∷◌, ◌++◌, ◌+◌, length, reverse, take, drop, get_or, take-append-drop, filter, All, Contains, Option, Some, ⊎_elim, refl, sym, ap, ◌∙◌, subst, arith}
use Rattle.std.specs.declared.cmp.Ordering.{Ordering}
use Rattle.std.specs.declared.cmp.Ordering.TheVariants.{Less, Equal, Greater}
use Rattle.std.specs.Ordering.{nat_cmp, match_ordering, MatchOrdering}
use Rattle.std.specs.List.{AllByRecursion}
use Rattle.std.specs.Map.{remove_entry}
use Rattle.std.specs.BTreeMap.{insert_entry}
use Rattle.std.proofs.lemmas.Bool.{true≢false, false≢true, cases_Bool, eqb-true, ne_eqb, eq-eqb, lt-ltb}
use Rattle.std.proofs.lemmas.Cmp.{ranked}
use Rattle.std.proofs.lemmas.List.{take_more, reverse-append, reverse-reverse}
use Rattle.std.proofs.lemmas.List.Elements.{All-filter, All-contains}
use Rattle.tt_stamp.specs.Ids.{same_id}
use Rattle.tt_stamp.specs.History.{waiting_of, IsIdThere, IsStampThere, MayQueue, IsNextReceipt, MayFollow, IsLegalHistory, has_stamp, receipt_of, release_of}
use Rattle.tt_stamp.specs.Forgetting.{session_of, without_session, WaitsIn}
use Rattle.tt_stamp.specs.declared.commits.Id.{Id}
use Rattle.tt_stamp.specs.declared.commits.Receipt.{Receipt}
use Rattle.tt_stamp.specs.declared.commits.Entry.{Entry}
use Rattle.tt_stamp.specs.declared.commits.Entry.TheVariants.{Queued, Passed}
use Rattle.tt_stamp.proofs.Ids.{same_id-true, Contains-here, Contains-there, Contains-nil, Contains-cases}
use Rattle.tt_stamp.proofs.Waiting.{AllByRecursion-weaker, Ascends}
use Rattle.tt_stamp.proofs.Histories.{Ascends-waiting_of, has_stamp-new}
use Rattle.tt_stamp.proofs.Releases.{Commit, IsRelease-release_of}
use Rattle.tt_stamp.proofs.Waits.{one_for_stamp, stamped}

-- ---- a filter, element by element
module _ {X : Type 0} (p : X → Bool) where
  filter_at : (x : X) (xs : List X) (b : Bool) → p x ≡ b → filter p (x ∷ xs) ≡ cond b (x ∷ filter p xs) (filter p xs)
  filter_at x xs b e = ap (λ t. cond t (x ∷ filter p xs) (filter p xs)) e

  passed_from : (y : X) (ys : List X) (x : X) (b : Bool) → p y ≡ b → (Contains (filter p ys) x → Contains ys x × (p x ≡ true)) → Contains (cond b (y ∷ filter p ys) (filter p ys)) x → Contains (y ∷ ys) x × (p x ≡ true)
  passed_from y ys x true e more h =
      ⊎_elim
      (λ here. (subst (λ (z : X). Contains (y ∷ ys) z) here (Contains-here y ys), ap p (sym here) ∙ e))
      (λ there. let m = more there in (Contains-there y ys x m.0, m.1))
      (Contains-cases y (filter p ys) x h)
  passed_from y ys x false e more h = let m = more h in (Contains-there y ys x m.0, m.1)

  -- what passes was there, and passes the test
  pub Contains-from_filter : (xs : List X) (x : X) → Contains (filter p xs) x → Contains xs x × (p x ≡ true)
  Contains-from_filter [] x h = absurd (Contains-nil x h)
  Contains-from_filter (y ∷ ys) x h = passed_from y ys x (p y) refl (Contains-from_filter ys x) h

  passes_at : (y : X) (ys : List X) (x : X) (b : Bool) → p y ≡ b → p x ≡ true → (Contains ys x → Contains (filter p ys) x) → Contains (y ∷ ys) x → Contains (cond b (y ∷ filter p ys) (filter p ys)) x
  passes_at y ys x true e passes more h =
      ⊎_elim
      (λ here. subst (λ (z : X). Contains (y ∷ filter p ys) z) here (Contains-here y (filter p ys)))
      (λ there. Contains-there y (filter p ys) x (more there))
      (Contains-cases y ys x h)
  passes_at y ys x false e passes more h =
      ⊎_elim
      (λ here. absurd (true≢false (sym passes ∙ ap p (sym here) ∙ e)))
      more
      (Contains-cases y ys x h)

  -- and what is there and passes the test passes
  pub Contains-filter : (xs : List X) (x : X) → p x ≡ true → Contains xs x → Contains (filter p xs) x
  Contains-filter [] x passes h = absurd (Contains-nil x h)
  Contains-filter (y ∷ ys) x passes h = passes_at y ys x (p y) refl passes (Contains-filter ys x passes) h

  shorter_at : (x : X) (xs : List X) (b : Bool) → length (filter p xs) ≤ length xs → length (cond b (x ∷ filter p xs) (filter p xs)) ≤ length (x ∷ xs)
  shorter_at x xs true h = omega arith
  shorter_at x xs false h = omega arith

  length-filter-le : (xs : List X) → length (filter p xs) ≤ length xs
  length-filter-le [] = omega arith
  length-filter-le (x ∷ xs) = shorter_at x xs (p x) (length-filter-le xs)

  -- where all pass, the list stays
  filter-whole : (xs : List X) → AllByRecursion (λ x. p x ≡ true) xs → filter p xs ≡ xs
  filter-whole [] all = refl
  filter-whole (x ∷ xs) all = filter_at x xs true all.0 ∙ ap (λ l. x ∷ l) (filter-whole xs all.1)

  all_filtered : (P : X → Type 0) (x : X) (fs : List X) (b : Bool) → P x → AllByRecursion P fs → AllByRecursion P (cond b (x ∷ fs) fs)
  all_filtered P x fs true first rest = (first, rest)
  all_filtered P x fs false first rest = rest

  AllByRecursion-filter : (P : X → Type 0) (xs : List X) → AllByRecursion P xs → AllByRecursion P (filter p xs)
  AllByRecursion-filter P [] all = tt
  AllByRecursion-filter P (x ∷ xs) all = all_filtered P x (filter p xs) (p x) all.0 (AllByRecursion-filter P xs all.1)

AllByRecursion-from_elements : {X : Type 0} (P : X → Type 0) (xs : List X) → ((x : X) → Contains xs x → P x) → AllByRecursion P xs
AllByRecursion-from_elements P [] f = tt
AllByRecursion-from_elements P (x ∷ xs) f = (f x (Contains-here x xs), AllByRecursion-from_elements P xs (λ y h. f y (Contains-there x xs y h)))

-- ---- a filter of commits in the order of their stamps, and what is put in and taken out
nat_cmp-less : (a b : ℕ) → a < b → nat_cmp a b ≡ Less
nat_cmp-less a b h = ap (λ (t : Bool). cond t Less (cond (a == b) Equal Greater)) (lt-ltb a b h)

insert_entry-front : (k : ℕ) (v : Id) (es : List Commit) → AllByRecursion (λ (c : Commit). k < c.0) es → insert_entry nat_cmp es k v ≡ (k, v) ∷ es
insert_entry-front k v [] all = refl
insert_entry-front k v (e ∷ es) all =
    ap (λ (o : Ordering). match_ordering o ((k, v) ∷ e ∷ es) ((e.0, v) ∷ es) (e ∷ insert_entry nat_cmp es k v)) (nat_cmp-less k e.0 all.0)

module _ (p : Commit → Bool) (k : ℕ) (v : Id) where
  kept_at : (e : Commit) (es : List Commit) (o : Ordering) → nat_cmp k e.0 ≡ o → MatchOrdering o (k < e.0) (k ≡ e.0) (e.0 < k) → k ≢ e.0 → Ascends (e ∷ es) → p (k, v) ≡ true → (b : Bool) → p e ≡ b
      → filter p (insert_entry nat_cmp es k v) ≡ insert_entry nat_cmp (filter p es) k v
      → filter p (match_ordering o ((k, v) ∷ e ∷ es) ((e.0, v) ∷ es) (e ∷ insert_entry nat_cmp es k v)) ≡ insert_entry nat_cmp (cond b (e ∷ filter p es) (filter p es)) k v
  kept_at e es Less cmp is apart asc passes b here more =
      let above : AllByRecursion (λ (c : Commit). k < c.0) es = AllByRecursion-weaker (λ (c : Commit). e.0 < c.0) (λ (c : Commit). k < c.0) (λ c h. omega (arith, is, h)) es asc.0 in
      let all = all_filtered p (λ (c : Commit). k < c.0) e (filter p es) b is (AllByRecursion-filter p (λ (c : Commit). k < c.0) es above) in
      filter_at p (k, v) (e ∷ es) true passes ∙ ap (λ (l : List Commit). (k, v) ∷ l) (filter_at p e es b here) ∙ sym (insert_entry-front k v (cond b (e ∷ filter p es) (filter p es)) all)
  kept_at e es Equal cmp is apart asc passes b here more = absurd (apart is)
  kept_at e es Greater cmp is apart asc passes true here more =
      filter_at p e (insert_entry nat_cmp es k v) true here ∙ ap (λ (l : List Commit). e ∷ l) more
      ∙ sym (ap (λ (o : Ordering). match_ordering o ((k, v) ∷ e ∷ filter p es) ((e.0, v) ∷ filter p es) (e ∷ insert_entry nat_cmp (filter p es) k v)) cmp)
  kept_at e es Greater cmp is apart asc passes false here more =
      filter_at p e (insert_entry nat_cmp es k v) false here ∙ more

  -- a commit that passes, at a new stamp
  filter-insert_entry : (es : List Commit) → AllByRecursion (λ (c : Commit). k ≢ c.0) es → Ascends es → p (k, v) ≡ true → filter p (insert_entry nat_cmp es k v) ≡ insert_entry nat_cmp (filter p es) k v
  filter-insert_entry [] new asc passes = filter_at p (k, v) [] true passes
  filter-insert_entry (e ∷ es) new asc passes =
      kept_at e es (nat_cmp k e.0) refl (ranked k e.0 _ refl) new.0 asc passes (p e) refl (filter-insert_entry es new.1 asc.1 passes)

  dropped_at : (e : Commit) (es : List Commit) (o : Ordering) → MatchOrdering o (k < e.0) (k ≡ e.0) (e.0 < k) → k ≢ e.0 → p (k, v) ≡ false
      → filter p (insert_entry nat_cmp es k v) ≡ filter p es
      → filter p (match_ordering o ((k, v) ∷ e ∷ es) ((e.0, v) ∷ es) (e ∷ insert_entry nat_cmp es k v)) ≡ filter p (e ∷ es)
  dropped_at e es Less is apart fails more = filter_at p (k, v) (e ∷ es) false fails
  dropped_at e es Equal is apart fails more = absurd (apart is)
  dropped_at e es Greater is apart fails more = ap (λ (l : List Commit). cond (p e) (e ∷ l) l) more

  -- one that does not pass
  filter-insert_entry-not : (es : List Commit) → AllByRecursion (λ (c : Commit). k ≢ c.0) es → p (k, v) ≡ false → filter p (insert_entry nat_cmp es k v) ≡ filter p es
  filter-insert_entry-not [] new fails = filter_at p (k, v) [] false fails
  filter-insert_entry-not (e ∷ es) new fails =
      dropped_at e es (nat_cmp k e.0) (ranked k e.0 _ refl) new.0 fails (filter-insert_entry-not es new.1 fails)

module _ (p : Commit → Bool) (k : ℕ) where
  abbrev removed : List Commit → List Commit
  removed es = remove_entry (λ s. k == s) es

  removed_at : (e : Commit) (es : List Commit) (t b : Bool) → (k == e.0) ≡ t → p e ≡ b → (k ≡ e.0 → p e ≡ true) → removed (filter p es) ≡ filter p (removed es)
      → removed (cond b (e ∷ filter p es) (filter p es)) ≡ filter p (cond t es (e ∷ removed es))
  removed_at e es true true test here passes more = ap (λ (x : Bool). cond x (filter p es) (e ∷ removed (filter p es))) test
  removed_at e es true false test here passes more = absurd (true≢false (sym (passes (eqb-true k e.0 test)) ∙ here))
  removed_at e es false true test here passes more =
      ap (λ (x : Bool). cond x (filter p es) (e ∷ removed (filter p es))) test ∙ ap (λ (l : List Commit). e ∷ l) more ∙ sym (filter_at p e (removed es) true here)
  removed_at e es false false test here passes more = more ∙ sym (filter_at p e (removed es) false here)

  -- the commit at a stamp passes, if there is one
  filter-remove_entry : (es : List Commit) → AllByRecursion (λ (c : Commit). k ≡ c.0 → p c ≡ true) es → removed (filter p es) ≡ filter p (removed es)
  filter-remove_entry [] all = refl
  filter-remove_entry (e ∷ es) all = removed_at e es (k == e.0) (p e) refl refl all.0 (filter-remove_entry es all.1)

  left_at : (e : Commit) (es : List Commit) (t : Bool) → (k == e.0) ≡ t → (k ≡ e.0 → p e ≡ false) → filter p (removed es) ≡ filter p es
      → filter p (cond t es (e ∷ removed es)) ≡ filter p (e ∷ es)
  left_at e es true test fails more = sym (filter_at p e es false (fails (eqb-true k e.0 test)))
  left_at e es false test fails more = ap (λ (l : List Commit). cond (p e) (e ∷ l) l) more

  -- it does not pass
  filter-remove_entry-not : (es : List Commit) → AllByRecursion (λ (c : Commit). k ≡ c.0 → p c ≡ false) es → filter p (removed es) ≡ filter p es
  filter-remove_entry-not [] all = refl
  filter-remove_entry-not (e ∷ es) all = left_at e es (k == e.0) refl all.0 (filter-remove_entry-not es all.1)

-- ---- the commits that wait without a session
module _ (session : ℕ) where
  -- whether a commit is of another session
  abbrev is_other : Commit → Bool
  is_other commit = not (commit.1.session == session)

  new_stamps : (past : List Entry) (id : Id) (stamp : ℕ) → MayQueue past id stamp → AllByRecursion (λ (c : Commit). stamp ≢ c.0) (waiting_of past)
  new_stamps past id stamp may =
      AllByRecursion-weaker (λ (c : Commit). has_stamp past c.0 ≡ true) (λ (c : Commit). stamp ≢ c.0)
      (λ c there same. true≢false (sym there ∙ ap (λ (n : ℕ). has_stamp past n) (sym same) ∙ has_stamp-new past id stamp may)) (waiting_of past) (stamped past)

  queued_at : (past : List Entry) (id : Id) (stamp : ℕ) → MayQueue past id stamp → (b : Bool) → not (id.session == session) ≡ b
      → waiting_of (without_session session past) ≡ filter is_other (waiting_of past)
      → waiting_of (cond b (Queued id stamp ∷ without_session session past) (without_session session past)) ≡ filter is_other (waiting_of (Queued id stamp ∷ past))
  queued_at past id stamp may true other more =
      ap (λ (w : List Commit). insert_entry nat_cmp w stamp id) more ∙ sym (filter-insert_entry is_other stamp id (waiting_of past) (new_stamps past id stamp may) (Ascends-waiting_of past) other)
  queued_at past id stamp may false own more =
      more ∙ sym (filter-insert_entry-not is_other stamp id (waiting_of past) (new_stamps past id stamp may) own)

  same_at : (past : List Entry) (receipt : Receipt) (b : Bool) → IsNextReceipt past receipt → not (receipt.id.session == session) ≡ b → AllByRecursion (λ (c : Commit). receipt.stamp ≡ c.0 → is_other c ≡ b) (waiting_of past)
  same_at past receipt b next is =
      AllByRecursion-from_elements (λ (c : Commit). receipt.stamp ≡ c.0 → is_other c ≡ b) (waiting_of past)
      (λ c there same.
      let one : receipt.id ≡ c.1 = one_for_stamp (waiting_of past) (Ascends-waiting_of past) c.0 receipt.id c.1 (subst (λ (n : ℕ). Contains (waiting_of past) (n, receipt.id)) same next.waits) there in
      ap (λ (i : Id). not (i.session == session)) (sym one) ∙ is)

  passed_at : (past : List Entry) (receipt : Receipt) → IsNextReceipt past receipt → (b : Bool) → not (receipt.id.session == session) ≡ b
      → waiting_of (without_session session past) ≡ filter is_other (waiting_of past)
      → waiting_of (cond b (Passed receipt ∷ without_session session past) (without_session session past)) ≡ filter is_other (waiting_of (Passed receipt ∷ past))
  passed_at past receipt next true other more =
      ap (remove_entry (λ s. receipt.stamp == s)) more ∙ filter-remove_entry is_other receipt.stamp (waiting_of past) (same_at past receipt true next other)
  passed_at past receipt next false own more =
      more ∙ sym (filter-remove_entry-not is_other receipt.stamp (waiting_of past) (same_at past receipt false next own))

  waiting_of-without : (past : List Entry) → IsLegalHistory past → waiting_of (without_session session past) ≡ filter is_other (waiting_of past)
  waiting_of-without [] legal = refl
  waiting_of-without (Queued id stamp ∷ past) legal = queued_at past id stamp legal.0 (not (id.session == session)) refl (waiting_of-without past legal.1)
  waiting_of-without (Passed receipt ∷ past) legal = passed_at past receipt legal.0 (not (receipt.id.session == session)) refl (waiting_of-without past legal.1)

  -- where none of the session waits, the same commits wait
  pub waiting_of-kept : (past : List Entry) → IsLegalHistory past → (WaitsIn past session → ⊥) → waiting_of (without_session session past) ≡ waiting_of past
  waiting_of-kept past legal none =
      waiting_of-without past legal ∙ filter-whole is_other (waiting_of past)
      (AllByRecursion-from_elements (λ (c : Commit). is_other c ≡ true) (waiting_of past)
      (λ c there. ap not (ne_eqb c.1.session session (λ same. none (c.0, c.1, there, same)))))

  -- ---- what may follow a history may follow it without the session
  pub MayFollow-without : (past : List Entry) (entry : Entry) → IsLegalHistory past → not (session_of entry == session) ≡ true → MayFollow past entry → MayFollow (without_session session past) entry
  MayFollow-without past (Queued id stamp) legal other may =
      let is_kept : Entry → Bool = λ entry. not (session_of entry == session) in
      record {
        room = omega (arith, ap length (waiting_of-without past legal), length-filter-le is_other (waiting_of past), may.room);
        new_id = λ there. may.new_id (there.0, (Contains-from_filter is_kept past (Queued id there.0) there.1).0);
        new_stamp = λ there. may.new_stamp (there.0, (Contains-from_filter is_kept past (Queued there.0 stamp) there.1).0);
      }
  MayFollow-without past (Passed receipt) legal other next =
      let same = sym (waiting_of-without past legal) in
      record {
        waits = subst (λ (w : List Commit). Contains w (receipt.stamp, receipt.id)) same (Contains-filter is_other (waiting_of past) (receipt.stamp, receipt.id) other next.waits);
        least = subst (λ (w : List Commit). All (λ commit. receipt.stamp ≤ commit.0) w) same (All-filter is_other (λ (c : Commit). receipt.stamp ≤ c.0) (waiting_of past) next.least);
        sure = next.sure;
      }

  legal_at : (past : List Entry) (entry : Entry) (b : Bool) → not (session_of entry == session) ≡ b → IsLegalHistory (entry ∷ past) → IsLegalHistory (without_session session past) → IsLegalHistory (cond b (entry ∷ without_session session past) (without_session session past))
  legal_at past entry true other legal more = (MayFollow-without past entry legal.1 other legal.0, more)
  legal_at past entry false own legal more = more

  pub IsLegalHistory-without : (past : List Entry) → IsLegalHistory past → IsLegalHistory (without_session session past)
  IsLegalHistory-without [] legal = tt
  IsLegalHistory-without (entry ∷ past) legal = legal_at past entry (not (session_of entry == session)) refl legal (IsLegalHistory-without past legal.1)

  -- ---- the other sessions' receipts, ids and stamps
  receipt_queued : (past : List Entry) (other id : Id) (stamp : ℕ) (b : Bool) → receipt_of (cond b (Queued other stamp ∷ without_session session past) (without_session session past)) id ≡ receipt_of (without_session session past) id
  receipt_queued past other id stamp true = refl
  receipt_queued past other id stamp false = refl

  receipt_passed : (past : List Entry) (receipt : Receipt) (id : Id) (b : Bool) → not (receipt.id.session == session) ≡ b → id.session ≢ session → receipt_of (without_session session past) id ≡ receipt_of past id
      → receipt_of (cond b (Passed receipt ∷ without_session session past) (without_session session past)) id ≡ receipt_of (Passed receipt ∷ past) id
  receipt_passed past receipt id true is apart more = ap (λ (o : Option Receipt). cond (same_id receipt.id id) (Some receipt) o) more
  receipt_passed past receipt id false is apart more =
      more ∙ sym (ap (λ (t : Bool). cond t (Some receipt) (receipt_of past id))
      (⊎_elim
      (λ same. absurd (true≢false (sym (ap not (ne_eqb receipt.id.session session (λ own. apart (ap (λ (i : Id). i.session) (sym (same_id-true receipt.id id same)) ∙ own)))) ∙ is)))
      (λ differs. differs)
      (cases_Bool (same_id receipt.id id))))

  pub receipt_of-without : (past : List Entry) (id : Id) → id.session ≢ session → receipt_of (without_session session past) id ≡ receipt_of past id
  receipt_of-without [] id apart = refl
  receipt_of-without (Queued other stamp ∷ past) id apart = receipt_queued past other id stamp (not (other.session == session)) ∙ receipt_of-without past id apart
  receipt_of-without (Passed receipt ∷ past) id apart = receipt_passed past receipt id (not (receipt.id.session == session)) refl apart (receipt_of-without past id apart)

  pub ids-without : (past : List Entry) (id : Id) → IsIdThere (without_session session past) id ↔ (IsIdThere past id × (id.session ≢ session))
  ids-without past id =
      let is_kept : Entry → Bool = λ entry. not (session_of entry == session) in (
        λ there.
            let from = Contains-from_filter is_kept past (Queued id there.0) there.1 in
            ((there.0, from.0), λ same. false≢true (sym (ap not (eq-eqb id.session session same)) ∙ from.1)),
        λ there. (there.0.0, Contains-filter is_kept past (Queued id there.0.0) (ap not (ne_eqb id.session session there.1)) there.0.1),
      )

  pub stamps-without : (past : List Entry) (stamp : ℕ) → IsStampThere (without_session session past) stamp ↔ ((id : Id) × Contains past (Queued id stamp) × (id.session ≢ session))
  stamps-without past stamp =
      let is_kept : Entry → Bool = λ entry. not (session_of entry == session) in (
        λ there.
            let from = Contains-from_filter is_kept past (Queued there.0 stamp) there.1 in
            (there.0, from.0, λ same. false≢true (sym (ap not (eq-eqb there.0.session session same)) ∙ from.1)),
        λ there. (there.0, Contains-filter is_kept past (Queued there.0 stamp) (ap not (ne_eqb there.0.session session there.2)) there.1),
      )

-- ---- histories that are looked at from their beginning
pub legal-tail : (later past : List Entry) → IsLegalHistory (later ++ past) → IsLegalHistory past
legal-tail [] past legal = legal
legal-tail (entry ∷ later) past legal = legal-tail later past legal.1

-- entry i of a legal history, whose entries are given oldest first, may follow those before it
pub legal-step : (past : List Entry) (entries : List Entry) (i : ℕ) (d : Entry) → entries ≡ reverse past → i < length entries → IsLegalHistory past
    → MayFollow (reverse (take i entries)) (get_or entries i d) × IsLegalHistory (reverse (take i entries))
legal-step past entries i d is inside legal =
    let first : List Entry = take i entries ++ get_or entries i d ∷ [] in
    let whole : past ≡ reverse (drop (i + 1) entries) ++ get_or entries i d ∷ reverse (take i entries) =
    sym (reverse-reverse past) ∙ ap reverse (sym is) ∙ ap reverse (sym (take-append-drop (i + 1) entries) ∙ ap (λ l. l ++ drop (i + 1) entries) (take_more entries i d inside))
    ∙ reverse-append first (drop (i + 1) entries) ∙ ap (λ l. reverse (drop (i + 1) entries) ++ l) (reverse-append (take i entries) (get_or entries i d ∷ [])) in
    let tail = legal-tail (reverse (drop (i + 1) entries)) (get_or entries i d ∷ reverse (take i entries)) (subst IsLegalHistory whole legal) in
    (tail.0, tail.1)

-- ---- only one receipt may come next with an earliest
made-receipt : (i j : Id) (s t e f : ℕ) → i ≡ j → s ≡ t → e ≡ f → ◌≡◌ {A = Receipt} (record { id = i; stamp = s; earliest = e }) (record { id = j; stamp = t; earliest = f })
made-receipt i j s t e f of_id of_stamp of_earliest =
    ap (λ (x : Id). let r : Receipt = record { id = x; stamp = s; earliest = e } in r) of_id
    ∙ ap (λ (x : ℕ). let r : Receipt = record { id = j; stamp = x; earliest = e } in r) of_stamp
    ∙ ap (λ (x : ℕ). let r : Receipt = record { id = j; stamp = t; earliest = x } in r) of_earliest

pub IsNextReceipt-one : (past : List Entry) (a b : Receipt) → IsNextReceipt past a → IsNextReceipt past b → a.earliest ≡ b.earliest → a ≡ b
IsNextReceipt-one past a b of_a of_b same =
    let below = All-contains (λ (c : Commit). a.stamp ≤ c.0) (waiting_of past) (b.stamp, b.id) of_a.least of_b.waits in
    let above = All-contains (λ (c : Commit). b.stamp ≤ c.0) (waiting_of past) (a.stamp, a.id) of_b.least of_a.waits in
    let stamp : a.stamp ≡ b.stamp = omega (arith, below, above) in
    let id : a.id ≡ b.id = one_for_stamp (waiting_of past) (Ascends-waiting_of past) b.stamp a.id b.id (subst (λ (n : ℕ). Contains (waiting_of past) (n, a.id)) stamp of_a.waits) of_b.waits in
    made-receipt a.id b.id a.stamp b.stamp a.earliest b.earliest id stamp same

-- where a receipt may come next, a release by its earliest has receipts
pub some-next : (past : List Entry) (receipt : Receipt) → IsNextReceipt past receipt → 0 < length (release_of (waiting_of past) receipt.earliest)
some-next past receipt next =
    let there = (IsRelease-release_of past receipt.earliest).whole receipt.stamp receipt.id next.waits next.sure in
    omega (arith, there.1)

-- what a test of sessions says
pub is_other_session : (session : ℕ) (entry : Entry) (found : ℕ) → found ≡ session_of entry → found ≢ session → not (session_of entry == session) ≡ true
is_other_session session entry found is differs = ap not (ne_eqb (session_of entry) session (λ same. differs (is ∙ same)))
