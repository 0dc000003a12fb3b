-- What is replayed as waiting is what was queued and not released.
use Rattle.std.proofs.Common.{◌≡◌, ◌≢◌, ◌↔◌, ℕ, ◌<◌, ◌==◌, cond, Bool, true, false, List, [], ◌∷◌, ◌++◌, Contains, ◌⊎◌, inl, inr, ⊎_elim, refl, sym, ap, ◌∙◌, subst, arith}
use Rattle.std.specs.declared.cmp.Ordering.{Ordering}
use Rattle.std.specs.declared.cmp.Ordering.TheVariants.{Less, Equal, Greater}
use Rattle.std.specs.Ordering.{nat_cmp, match_ordering, MatchOrdering}
use Rattle.std.specs.List.{AllByRecursion}
use Rattle.std.specs.Map.{remove_entry}
use Rattle.std.specs.BTreeMap.{insert_entry}
use Rattle.std.proofs.lemmas.Bool.{true≢false, eqb-true, eqb-false, eq-eqb}
use Rattle.std.proofs.lemmas.Cmp.{ranked}
use Rattle.std.proofs.lemmas.List.Elements.{All-contains, All-from_recursion}
use Rattle.tt_stamp.specs.History.{waiting_of, IsLegalHistory, Waits, has_id, has_stamp}
use Rattle.tt_stamp.specs.declared.commits.Id.{Id}
use Rattle.tt_stamp.specs.declared.commits.Receipt.{Receipt}
use Rattle.tt_stamp.specs.declared.commits.Entry.{Entry}
use Rattle.tt_stamp.specs.declared.commits.Entry.TheVariants.{Queued, Passed}
use Rattle.tt_stamp.proofs.Ids.{or_left, or_right, Contains-here, Contains-there, Contains-nil, Contains-cases}
use Rattle.tt_stamp.proofs.Waiting.{AllByRecursion-weaker, AllByRecursion-insert_entry, AllByRecursion-remove_entry, Ascends}
use Rattle.tt_stamp.proofs.Histories.{Ascends-waiting_of, has_id-waits, has_id-new, has_stamp-new}

-- a waiting commit: its stamp and its id
abbrev Commit : Type 0
Commit = ℕ × Id

-- ---- what an insertion and a removal hold
inserted_cases : (k : ℕ) (v : Id) (c : Commit) (o : Ordering) (e : Commit) (es fs : List Commit) → MatchOrdering o (k < e.0) (k ≡ e.0) (e.0 < k) → (Contains fs c → ((k, v) ≡ c) ⊎ Contains es c) → Contains (match_ordering o ((k, v) ∷ e ∷ es) ((e.0, v) ∷ es) (e ∷ fs)) c → ((k, v) ≡ c) ⊎ Contains (e ∷ es) c
inserted_cases k v c Less e es fs is before h = Contains-cases (k, v) (e ∷ es) c h
inserted_cases k v c Equal e es fs is before h =
    ⊎_elim (λ here. inl (ap (λ (n : ℕ). let d : Commit = (n, v) in d) is ∙ here)) (λ there. inr (Contains-there e es c there)) (Contains-cases (e.0, v) es c h)
inserted_cases k v c Greater e es fs is before h =
    ⊎_elim (λ here. inr (subst (λ (d : Commit). Contains (e ∷ es) d) here (Contains-here e es)))
    (λ there. ⊎_elim (λ new. inl new) (λ old. inr (Contains-there e es c old)) (before there)) (Contains-cases e fs c h)

Contains-insert_entry_cases : (k : ℕ) (v : Id) (c : Commit) (es : List Commit) → Contains (insert_entry nat_cmp es k v) c → ((k, v) ≡ c) ⊎ Contains es c
Contains-insert_entry_cases k v c [] h = Contains-cases (k, v) [] c h
Contains-insert_entry_cases k v c (e ∷ es) h =
    inserted_cases k v c (nat_cmp k e.0) e es (insert_entry nat_cmp es k v) (ranked k e.0 _ refl) (Contains-insert_entry_cases k v c es) h

inserted_here : (k : ℕ) (v : Id) (o : Ordering) (e : Commit) (es fs : List Commit) → MatchOrdering o (k < e.0) (k ≡ e.0) (e.0 < k) → Contains fs (k, v) → Contains (match_ordering o ((k, v) ∷ e ∷ es) ((e.0, v) ∷ es) (e ∷ fs)) (k, v)
inserted_here k v Less e es fs is h = Contains-here (k, v) (e ∷ es)
inserted_here k v Equal e es fs is h =
    subst (λ (n : ℕ). Contains ((e.0, v) ∷ es) (n, v)) (sym is) (Contains-here (e.0, v) es)
inserted_here k v Greater e es fs is h = Contains-there e fs (k, v) h

Contains-insert_entry_here : (k : ℕ) (v : Id) (es : List Commit) → Contains (insert_entry nat_cmp es k v) (k, v)
Contains-insert_entry_here k v [] = Contains-here (k, v) []
Contains-insert_entry_here k v (e ∷ es) =
    inserted_here k v (nat_cmp k e.0) e es (insert_entry nat_cmp es k v) (ranked k e.0 _ refl) (Contains-insert_entry_here k v es)

inserted_kept : (k : ℕ) (v : Id) (c : Commit) → k ≢ c.0 → (o : Ordering) (e : Commit) (es fs : List Commit) → MatchOrdering o (k < e.0) (k ≡ e.0) (e.0 < k) → Contains (e ∷ es) c → (Contains es c → Contains fs c) → Contains (match_ordering o ((k, v) ∷ e ∷ es) ((e.0, v) ∷ es) (e ∷ fs)) c
inserted_kept k v c apart Less e es fs is h more = Contains-there (k, v) (e ∷ es) c h
inserted_kept k v c apart Equal e es fs is h more =
    ⊎_elim (λ here. absurd (apart (is ∙ ap (λ (d : Commit). d.0) here))) (λ there. Contains-there (e.0, v) es c there) (Contains-cases e es c h)
inserted_kept k v c apart Greater e es fs is h more =
    ⊎_elim (λ here. subst (λ (d : Commit). Contains (e ∷ fs) d) here (Contains-here e fs)) (λ there. Contains-there e fs c (more there)) (Contains-cases e es c h)

Contains-insert_entry_kept : (k : ℕ) (v : Id) (c : Commit) → k ≢ c.0 → (es : List Commit) → Contains es c → Contains (insert_entry nat_cmp es k v) c
Contains-insert_entry_kept k v c apart [] h = absurd (Contains-nil c h)
Contains-insert_entry_kept k v c apart (e ∷ es) h =
    inserted_kept k v c apart (nat_cmp k e.0) e es (insert_entry nat_cmp es k v) (ranked k e.0 _ refl) h (Contains-insert_entry_kept k v c apart es)

removed_kept : (k : ℕ) (c : Commit) → k ≢ c.0 → (e : Commit) (es fs : List Commit) (b : Bool) → (k == e.0) ≡ b → Contains (e ∷ es) c → (Contains es c → Contains fs c) → Contains (cond b es (e ∷ fs)) c
removed_kept k c apart e es fs true is h more =
    ⊎_elim (λ here. absurd (apart (eqb-true k e.0 is ∙ ap (λ (d : Commit). d.0) here))) (λ there. there) (Contains-cases e es c h)
removed_kept k c apart e es fs false is h more =
    ⊎_elim (λ here. subst (λ (d : Commit). Contains (e ∷ fs) d) here (Contains-here e fs)) (λ there. Contains-there e fs c (more there)) (Contains-cases e es c h)

Contains-remove_entry_kept : (k : ℕ) (c : Commit) → k ≢ c.0 → (es : List Commit) → Contains es c → Contains (remove_entry (λ s. k == s) es) c
Contains-remove_entry_kept k c apart [] h = absurd (Contains-nil c h)
Contains-remove_entry_kept k c apart (e ∷ es) h =
    removed_kept k c apart e es (remove_entry (λ s. k == s) es) _ refl h (Contains-remove_entry_kept k c apart es)

-- what is left after a removal was there, at another stamp
removed_apart : (k : ℕ) (c e : Commit) (es fs : List Commit) → Ascends (e ∷ es) → (b : Bool) → (k == e.0) ≡ b → (Contains fs c → Contains es c × (k ≢ c.0)) → Contains (cond b es (e ∷ fs)) c → Contains (e ∷ es) c × (k ≢ c.0)
removed_apart k c e es fs asc true is before h =
    let above = All-contains (λ (d : Commit). e.0 < d.0) es c (All-from_recursion (λ (d : Commit). e.0 < d.0) es asc.0) h in
    (Contains-there e es c h, λ same. omega (arith, above, same, eqb-true k e.0 is))
removed_apart k c e es fs asc false is before h =
    ⊎_elim
    (λ here. (subst (λ (d : Commit). Contains (e ∷ es) d) here (Contains-here e es), λ same. eqb-false k e.0 is (same ∙ sym (ap (λ (d : Commit). d.0) here))))
    (λ there. let b = before there in (Contains-there e es c b.0, b.1))
    (Contains-cases e fs c h)

Contains-remove_entry_apart : (k : ℕ) (c : Commit) (es : List Commit) → Ascends es → Contains (remove_entry (λ s. k == s) es) c → Contains es c × (k ≢ c.0)
Contains-remove_entry_apart k c [] asc h = absurd (Contains-nil c h)
Contains-remove_entry_apart k c (e ∷ es) asc h =
    removed_apart k c e es (remove_entry (λ s. k == s) es) asc _ refl (Contains-remove_entry_apart k c es asc.1) h

-- ---- one commit for each stamp, and for each id
pub one_for_stamp : (es : List Commit) → Ascends es → (stamp : ℕ) (i j : Id) → Contains es (stamp, i) → Contains es (stamp, j) → i ≡ j
one_for_stamp [] asc stamp i j a b = absurd (Contains-nil _ a)
one_for_stamp (e ∷ es) asc stamp i j a b =
    let above : (v : Id) → Contains es (stamp, v) → e.0 < stamp = λ v h. All-contains (λ (d : Commit). e.0 < d.0) es (stamp, v) (All-from_recursion (λ (d : Commit). e.0 < d.0) es asc.0) h in
    ⊎_elim
    (λ here_a. ⊎_elim
    (λ here_b. sym (ap (λ (d : Commit). d.1) here_a) ∙ ap (λ (d : Commit). d.1) here_b)
    (λ there_b. absurd (omega (arith, above j there_b, ap (λ (d : Commit). d.0) here_a)))
    (Contains-cases e es (stamp, j) b))
    (λ there_a. ⊎_elim
    (λ here_b. absurd (omega (arith, above i there_a, ap (λ (d : Commit). d.0) here_b)))
    (λ there_b. one_for_stamp es asc.1 stamp i j there_a there_b)
    (Contains-cases e es (stamp, j) b))
    (Contains-cases e es (stamp, i) a)

one_for_id : (past : List Entry) → IsLegalHistory past → (id : Id) (s t : ℕ) → Contains (waiting_of past) (s, id) → Contains (waiting_of past) (t, id) → s ≡ t
one_for_id [] legal id s t a b = absurd (Contains-nil _ a)
one_for_id (Queued other u ∷ past) legal id s t a b =
    let waiting = waiting_of past in
    let is_new : (x : ℕ) → (u, other) ≡ (x, id) → (y : ℕ) → Contains waiting (y, id) → ⊥ = λ x e y h. true≢false (sym (has_id-waits past y id h) ∙ ap (λ (i : Id). has_id past i) (sym (ap (λ (d : Commit). d.1) e)) ∙ has_id-new past other u legal.0) in
    ⊎_elim
    (λ new_a. ⊎_elim
    (λ new_b. sym (ap (λ (d : Commit). d.0) new_a) ∙ ap (λ (d : Commit). d.0) new_b)
    (λ old_b. absurd (is_new s new_a t old_b))
    (Contains-insert_entry_cases u other (t, id) waiting b))
    (λ old_a. ⊎_elim
    (λ new_b. absurd (is_new t new_b s old_a))
    (λ old_b. one_for_id past legal.1 id s t old_a old_b)
    (Contains-insert_entry_cases u other (t, id) waiting b))
    (Contains-insert_entry_cases u other (s, id) waiting a)
one_for_id (Passed r ∷ past) legal id s t a b =
    let asc = Ascends-waiting_of past in
    one_for_id past legal.1 id s t (Contains-remove_entry_apart r.stamp (s, id) (waiting_of past) asc a).0 (Contains-remove_entry_apart r.stamp (t, id) (waiting_of past) asc b).0

-- ---- a stamp that waits is there
pub stamped : (past : List Entry) → AllByRecursion (λ (commit : Commit). has_stamp past (commit.0) ≡ true) (waiting_of past)
stamped [] = tt
stamped (Queued id stamp ∷ past) =
    AllByRecursion-insert_entry (λ (commit : Commit). has_stamp (Queued id stamp ∷ past) (commit.0) ≡ true) stamp id (or_left (stamp == stamp) (has_stamp past stamp) (eq-eqb stamp stamp refl)) (waiting_of past) (AllByRecursion-weaker (λ (commit : Commit). has_stamp past (commit.0) ≡ true) (λ (commit : Commit). has_stamp (Queued id stamp ∷ past) (commit.0) ≡ true) (λ commit h. or_right (stamp == commit.0) (has_stamp past (commit.0)) h) (waiting_of past) (stamped past))
stamped (Passed r ∷ past) =
    AllByRecursion-remove_entry (λ (commit : Commit). has_stamp past (commit.0) ≡ true) (λ s. r.stamp == s) (waiting_of past) (stamped past)

has_stamp-waits : (past : List Entry) (stamp : ℕ) (id : Id) → Contains (waiting_of past) (stamp, id) → has_stamp past stamp ≡ true
has_stamp-waits past stamp id h =
    let P : Commit → Type 0 = λ commit. has_stamp past (commit.0) ≡ true in
    All-contains P (waiting_of past) (stamp, id) (All-from_recursion P (waiting_of past) (stamped past)) h

-- ---- both ways
not_passed : (i : Id) (s : ℕ) (r : Receipt) → ◌≡◌ {A = Entry} (Queued i s) (Passed r) → ⊥
not_passed i s r e = cc

same_receipt : (r q : Receipt) → ◌≡◌ {A = Entry} (Passed r) (Passed q) → r ≡ q
same_receipt r q e = cc

waits_later_queued : (past : List Entry) (id other : Id) (stamp t : ℕ) → Waits past id stamp → Waits (Queued other t ∷ past) id stamp
waits_later_queued past id other stamp t w = record {
  later = Queued other t ∷ w.later;
  before = w.before;
  queued = ap (λ (h : List Entry). Queued other t ∷ h) w.queued;
  not_released = λ r h. ⊎_elim (λ here. absurd (not_passed other t r here)) (λ there. w.not_released r there) (Contains-cases (Queued other t) w.later (Passed r) h);
}

waits_later_passed : (past : List Entry) (id : Id) (stamp : ℕ) (q : Receipt) → q.id ≢ id → Waits past id stamp → Waits (Passed q ∷ past) id stamp
waits_later_passed past id stamp q apart w = record {
  later = Passed q ∷ w.later;
  before = w.before;
  queued = ap (λ (h : List Entry). Passed q ∷ h) w.queued;
  not_released = λ r h. ⊎_elim (λ here. λ same. apart (ap (λ (x : Receipt). x.id) (same_receipt q r here) ∙ same)) (λ there. w.not_released r there) (Contains-cases (Passed q) w.later (Passed r) h);
}

waits_at : (past : List Entry) (id : Id) (stamp : ℕ) → Waits (Queued id stamp ∷ past) id stamp
waits_at past id stamp = record {
  later = [];
  before = past;
  queued = refl;
  not_released = λ r h. absurd (Contains-nil _ h);
}

pub Waits-from_replay : (past : List Entry) → IsLegalHistory past → (id : Id) (stamp : ℕ) → Contains (waiting_of past) (stamp, id) → Waits past id stamp
Waits-from_replay [] legal id stamp h = absurd (Contains-nil _ h)
Waits-from_replay (Queued other t ∷ past) legal id stamp h =
    ⊎_elim
    (λ new. subst (λ (c : Commit). Waits (Queued other t ∷ past) (c.1) (c.0)) new (waits_at past other t))
    (λ old. waits_later_queued past id other stamp t (Waits-from_replay past legal.1 id stamp old))
    (Contains-insert_entry_cases t other (stamp, id) (waiting_of past) h)
Waits-from_replay (Passed q ∷ past) legal id stamp h =
    let left = Contains-remove_entry_apart q.stamp (stamp, id) (waiting_of past) (Ascends-waiting_of past) h in
    let apart : q.id ≢ id = λ same. left.1 (one_for_id past legal.1 id q.stamp stamp (subst (λ (i : Id). Contains (waiting_of past) (q.stamp, i)) same legal.0.waits) left.0) in
    waits_later_passed past id stamp q apart (Waits-from_replay past legal.1 id stamp left.0)

replay_after : (later before : List Entry) (id : Id) (stamp : ℕ) → IsLegalHistory (later ++ Queued id stamp ∷ before) → ((r : Receipt) → Contains later (Passed r) → r.id ≢ id) → Contains (waiting_of (later ++ Queued id stamp ∷ before)) (stamp, id)
replay_after [] before id stamp legal kept = Contains-insert_entry_here stamp id (waiting_of before)
replay_after (Queued other t ∷ later) before id stamp legal kept =
    let past : List Entry = later ++ Queued id stamp ∷ before in
    let h = replay_after later before id stamp legal.1 (λ r there. kept r (Contains-there (Queued other t) later (Passed r) there)) in
    let apart : t ≢ stamp = λ same. true≢false (sym (has_stamp-waits past stamp id h) ∙ ap (λ (n : ℕ). has_stamp past n) (sym same) ∙ has_stamp-new past other t legal.0) in
    Contains-insert_entry_kept t other (stamp, id) apart (waiting_of past) h
replay_after (Passed q ∷ later) before id stamp legal kept =
    let past : List Entry = later ++ Queued id stamp ∷ before in
    let h = replay_after later before id stamp legal.1 (λ r there. kept r (Contains-there (Passed q) later (Passed r) there)) in
    let apart : q.stamp ≢ stamp = λ same. kept q (Contains-here (Passed q) later) (one_for_stamp (waiting_of past) (Ascends-waiting_of past) stamp q.id id (subst (λ (n : ℕ). Contains (waiting_of past) (n, q.id)) same legal.0.waits) h) in
    Contains-remove_entry_kept q.stamp (stamp, id) apart (waiting_of past) h

pub replay-from_Waits : (past : List Entry) → IsLegalHistory past → (id : Id) (stamp : ℕ) → Waits past id stamp → Contains (waiting_of past) (stamp, id)
replay-from_Waits past legal id stamp w =
    subst (λ (h : List Entry). Contains (waiting_of h) (stamp, id)) (sym w.queued) (replay_after w.later w.before id stamp (subst IsLegalHistory w.queued legal) w.not_released)

pub waits_iff : (past : List Entry) (id : Id) (stamp : ℕ) → IsLegalHistory past → Contains (waiting_of past) (stamp, id) ↔ Waits past id stamp
waits_iff past id stamp legal =
    (Waits-from_replay past legal id stamp, replay-from_Waits past legal id stamp)
