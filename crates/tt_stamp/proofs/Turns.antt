-- The steps of a sequencer keep its rule.
use Rattle.std.proofs.Common.{◌≡◌, ◌≢◌, ℕ, zero, suc, ◌+◌, ◌-◌, ◌<◌, ◌≤◌, eqb, max, true, false, List, [], ◌∷◌, ◌++◌, length, slice_index, slice_set, ◌⊎◌, inl, inr, ⊎_elim, refl, sym, ap, ◌∙◌, subst, arith}
use mathlib.Core.Option.{some, some-injective, some-ne-none}
use lib.ListN.{get_elem?}
use prog.Atomic.{either}
use Rattle.atomic_table.specs.Table.{Me, Step, step, Act, keeps, carried_after, Valid, Allows, Splits, Joins}
use Rattle.atomic_table.proofs.Lists.{at_set, set_else, exchanged}
use Rattle.std.proofs.lemmas.Bool.{false≢true, cases_Bool}
use Rattle.tt_span.specs.Time.{max_time}
use Rattle.tt_stamp.specs.Stamp.{least_above, least_from, IsTooFar, IsLeastStamp}
use Rattle.tt_stamp.specs.Stamping.{stamps_of, is_in, MayAdd, IsLegalRun}
use Rattle.tt_stamp.specs.Sequencing.{view_of, AreAmong, Fits, AllFit, AreApart, IsKept, HasLooked, HasGiven, TellsLook, TellsTry, dealt_left, dealt_right, joined_view, spent_view}
use Rattle.tt_stamp.specs.declared.requests.StampRequest.{StampRequest}
use Rattle.tt_stamp.specs.declared.stampings.Stamping.{Stamping}
use Rattle.tt_stamp.specs.declared.stampings.View.{View}
use Rattle.tt_stamp.proofs.Stamps.{IsLeastStamp-least_from}
use Rattle.tt_stamp.proofs.Runs.{is_in-first, is_in-append_cases, AreAmong-append_left, AreAmong-append_right, Follows-nothing, Follows-part, Fits-cons, Fits-view_of}

-- ---- one view is put in the place of another
pub AllFit-set : (seats : ℕ) (log : List Stamping) (views : List View) (id : ℕ) (w : View) → ((i : ℕ) (u : View) → i ≢ id → get_elem? views i ≡ some u → Fits seats log u) → Fits seats log w → AllFit seats log (slice_set views id w)
AllFit-set seats log views id w others here j u e =
    ⊎_elim (λ h. subst (Fits seats log) h.1 here) (λ h. others j u h.0 h.1) (at_set views id j w u e)

-- where a number stood that is a seat's now
stood : (views : List View) (id : ℕ) (v w : View) → get_elem? views id ≡ some v → AreAmong w.numbers v.numbers → (j : ℕ) (u : View) (n : ℕ) → get_elem? (slice_set views id w) j ≡ some u → is_in u.numbers n ≡ true → (t : View) × (get_elem? views j ≡ some t) × (is_in t.numbers n ≡ true)
stood views id v w was among j u n e here =
    ⊎_elim
    (λ h. (v, subst (λ (i : ℕ). get_elem? views i ≡ some v) (sym (h.0)) was, among n (subst (λ (t : View). is_in t.numbers n ≡ true) (sym (h.1)) here)))
    (λ h. (u, h.1, here))
    (at_set views id j w u e)

pub AreApart-set : (views : List View) (id : ℕ) (v w : View) → get_elem? views id ≡ some v → AreAmong w.numbers v.numbers → AreApart views → AreApart (slice_set views id w)
AreApart-set views id v w was among apart i j a b ea eb n ha hb =
    let s = stood views id v w was among i a n ea ha in
    let t = stood views id v w was among j b n eb hb in
    apart i j (s.0) (t.0) (s.1) (t.1) n (s.2) (t.2)

-- ---- a load
look_kept : (seats : ℕ) (words : List ℕ) (views : List View) (id : ℕ) (v : View) (kept : IsKept seats words views) → get_elem? views id ≡ some v → IsKept seats (slice_set words 0 (slice_index words 0)) (slice_set views id (view_of v.seats v.numbers kept.log))
look_kept seats words views id v kept at = record {
  log = kept.log;
  word = ap (λ (ws : List ℕ). slice_set ws 0 (slice_index ws 0)) kept.word;
  legal = kept.legal;
  fit = AllFit-set seats kept.log views id _ (λ i u ne e. kept.fit i u e) (Fits-view_of seats v.seats v.numbers kept.log (kept.fit id v at).count (kept.fit id v at).below);
  apart = AreApart-set views id v _ at (λ n h. h) kept.apart;
}

look_told : (seats : ℕ) (words : List ℕ) (views : List View) (id : ℕ) (v : View) (kept : IsKept seats words views) → get_elem? views id ≡ some v → HasLooked v (slice_index words 0) (view_of v.seats v.numbers kept.log)
look_told seats words views id v kept at = record {
  is = refl;
  first = (kept.fit id v at).first;
  second = (kept.fit id v at).second;
  word = ap (λ (ws : List ℕ). slice_index ws 0) kept.word;
  legal = λ open'. subst (λ (n : ℕ). IsLegalRun n kept.log) (sym ((kept.fit id v at).count open')) kept.legal;
}

pub look_allowed : (seats slots id : ℕ) (me : Me StampRequest View) (st : Step StampRequest) → Allows {S = StampRequest} {V = View} (λ s. IsKept seats s.words s.views) slots id me 0 (λ n. n) (TellsLook st me)
look_allowed seats slots id me st s kept homes at fits =
    (view_of me.0.seats me.0.numbers kept.log, keeps, tt, look_kept seats s.words s.views id me.0 kept at, (look_told seats s.words s.views id me.0 kept at, refl))

-- ---- an exchange
abbrev entry_for : ℕ → StampRequest → ℕ → Stamping
entry_for number ask stamp = record { number = number; latest = ask.latest; floor = ask.floor; lease = ask.lease; stamp = stamp }

module _ (seats : ℕ) (words : List ℕ) (views : List View) (id : ℕ) (v : View) (kept : IsKept seats words views) (at : get_elem? views id ≡ some v) (ask : StampRequest) (number stamp : ℕ) (mine : is_in v.numbers number ≡ true) (near : ¬ IsTooFar ask.latest ask.floor) (least : stamp ≡ max (max (max ask.latest ask.floor) ask.lease.lo) (slice_index words 0)) (in_time : stamp ≤ max_time) (in_lease : stamp ≤ ask.lease.hi) where
  word_is : slice_index words 0 ≡ least_above (stamps_of kept.log)
  word_is = ap (λ (ws : List ℕ). slice_index ws 0) kept.word

  least_is : least_from (stamps_of kept.log) ask.latest ask.floor ask.lease ≡ stamp
  least_is = omega (arith, least, word_is)

  longer : IsLegalRun seats (entry_for number ask stamp ∷ kept.log)
  longer =
      let may : MayAdd seats kept.log (entry_for number ask stamp) = record {
        of_a_seat = (kept.fit id v at).below number mine;
        near = near;
        least = subst (IsLeastStamp (stamps_of kept.log) ask.latest ask.floor ask.lease) least_is (IsLeastStamp-least_from (stamps_of kept.log) ask.latest ask.floor ask.lease (omega (arith, least_is, in_time)));
        in_lease = in_lease;
      } in
      (may, kept.legal)

  not_theirs : (i : ℕ) (u : View) → i ≢ id → get_elem? views i ≡ some u → is_in u.numbers number ≡ false
  not_theirs i u ne e =
      ⊎_elim (λ theirs. absurd (ne (kept.apart i id u v e at number theirs mine))) (λ out. out) (cases_Bool (is_in u.numbers number))

  pub given_kept : IsKept seats (slice_set words 0 (stamp + 1)) (slice_set views id (view_of v.seats v.numbers (entry_for number ask stamp ∷ kept.log)))
  given_kept =
      let above : stamp + 1 ≡ least_above (stamps_of (entry_for number ask stamp ∷ kept.log)) = omega (arith, least, word_is) in
      record {
        log = entry_for number ask stamp ∷ kept.log;
        word = ap (λ (ws : List ℕ). slice_set ws 0 (stamp + 1)) kept.word ∙ ap (λ (n : ℕ). n ∷ []) above;
        legal = longer;
        fit = AllFit-set seats (entry_for number ask stamp ∷ kept.log) views id _ (λ i u ne e. Fits-cons seats kept.log u (entry_for number ask stamp) (not_theirs i u ne e) (kept.fit i u e)) (Fits-view_of seats v.seats v.numbers (entry_for number ask stamp ∷ kept.log) (kept.fit id v at).count (kept.fit id v at).below);
        apart = AreApart-set views id v _ at (λ n h. h) kept.apart;
      }

  pub given_told : HasGiven v ask.latest ask.floor ask.lease stamp (view_of v.seats v.numbers (entry_for number ask stamp ∷ kept.log))
  given_told = record {
    number = number;
    of_seat = mine;
    before = kept.log;
    is = refl;
    first = (kept.fit id v at).first;
    legal = λ open'. subst (λ (n : ℕ). IsLegalRun n (entry_for number ask stamp ∷ kept.log)) (sym ((kept.fit id v at).count open')) longer;
  }

pub one_less : (n : ℕ) → (n + 1) - 1 ≡ n
one_less n = omega arith

pub try_allowed : (seats slots id : ℕ) (me : Me StampRequest View) (ask : StampRequest) (word stamp : ℕ) → 0 < length me.0.numbers → ¬ IsTooFar ask.latest ask.floor → stamp ≡ max (max (max ask.latest ask.floor) ask.lease.lo) word → stamp ≤ max_time → stamp ≤ ask.lease.hi → Allows {S = StampRequest} {V = View} (λ s. IsKept seats s.words s.views) slots id me 0 (λ n. either (eqb n word) (stamp + 1) n) (TellsTry (step slots 0 word (stamp + 1) (some ask)) me)
try_allowed seats slots id me ask word stamp numbered near least in_time in_lease s kept homes at fits =
    let v : View = me.0 in
    let found : ℕ = slice_index s.words 0 in
    let mine = is_in-first v.numbers numbered in
    exchanged found word (stamp + 1) (λ (m : ℕ). (w : View) × (a : Act StampRequest) × Valid s.homes me.1 a × IsKept seats (slice_set s.words 0 m) (slice_set s.views id w) × TellsTry (step slots 0 word (stamp + 1) (some ask)) me found (w, carried_after me.1 a))
    (λ hit.
    let least' : stamp ≡ max (max (max ask.latest ask.floor) ask.lease.lo) found = least ∙ ap (λ (n : ℕ). max (max (max ask.latest ask.floor) ask.lease.lo) n) (sym hit) in
    let w : View = view_of v.seats v.numbers (entry_for (mine.0) ask stamp ∷ kept.log) in (
      w,
      keeps,
      tt,
      given_kept seats s.words s.views id v kept at ask (mine.0) stamp (mine.1) near least' in_time in_lease,
      inl (hit, subst (λ (t : ℕ). HasGiven v ask.latest ask.floor ask.lease t w) (sym (one_less stamp)) (given_told seats s.words s.views id v kept at ask (mine.0) stamp (mine.1) near least' in_time in_lease), refl),
    ))
    (λ miss. (view_of v.seats v.numbers kept.log, keeps, tt, look_kept seats s.words s.views id v kept at, inr (miss, look_told seats s.words s.views id v kept at, refl)))

-- ---- a split
at_end : {A : Type 0} (l : List A) (a b : A) (j : ℕ) → get_elem? (l ++ a ∷ []) j ≡ some b → (get_elem? l j ≡ some b) ⊎ ((j ≡ length l) × (a ≡ b))
at_end [] a b zero e = inr (refl, some-injective a b e)
at_end [] a b (suc j) e = absurd (some-ne-none b (sym e))
at_end (x ∷ xs) a b zero e = inl e
at_end (x ∷ xs) a b (suc j) e =
    ⊎_elim (λ h. inl h) (λ h. inr (ap suc (h.0), h.1)) (at_end xs a b j e)

pub AllFit-push : (seats : ℕ) (log : List Stamping) (views : List View) (w : View) → AllFit seats log views → Fits seats log w → AllFit seats log (views ++ w ∷ [])
AllFit-push seats log views w all here j u e =
    ⊎_elim (λ h. all j u h) (λ h. subst (Fits seats log) (h.1) here) (at_end views w u j e)

module _ (seats : ℕ) (words : List ℕ) (views : List View) (id own_seats k : ℕ) (numbers : List ℕ) (seen : List Stamping) (kept : IsKept seats words views) (at : get_elem? views id ≡ some (view_of own_seats (k ∷ numbers) seen)) (distinct : (n : ℕ) → is_in (k ∷ []) n ≡ true → is_in numbers n ≡ true → ⊥) where
  fits : Fits seats kept.log (view_of own_seats (k ∷ numbers) seen)
  fits = kept.fit id _ at

  part_fits : (A : List ℕ) → AreAmong A (k ∷ numbers) → Fits seats kept.log (view_of own_seats A seen)
  part_fits A among = record {
    count = fits.count;
    below = λ n h. fits.below n (among n h);
    first = Follows-part A (k ∷ numbers) seen kept.log among fits.first;
    second = Follows-nothing kept.log;
    first_among = λ n h. h;
    second_among = λ n h. absurd (false≢true h);
  }

  left : View
  left = view_of own_seats numbers seen

  right : View
  right = view_of own_seats (k ∷ []) seen

  left_among : AreAmong numbers (k ∷ numbers)
  left_among = AreAmong-append_right (k ∷ []) numbers

  right_among : AreAmong (k ∷ []) (k ∷ numbers)
  right_among = AreAmong-append_left (k ∷ []) numbers

  -- a number of the new seat is no other's
  right_apart : (j : ℕ) (u : View) → get_elem? (slice_set views id (view_of own_seats numbers seen)) j ≡ some u → (n : ℕ) → is_in (k ∷ []) n ≡ true → is_in u.numbers n ≡ true → ⊥
  right_apart j u e n hr hu =
      ⊎_elim
      (λ h. distinct n hr (subst (λ (t : View). is_in t.numbers n ≡ true) (sym (h.1)) hu))
      (λ h. h.0 (kept.apart j id u _ (h.1) at n hu (right_among n hr)))
      (at_set views id j (view_of own_seats numbers seen) u e)

  split_apart : AreApart (slice_set views id (view_of own_seats numbers seen) ++ view_of own_seats (k ∷ []) seen ∷ [])
  split_apart i j a b ea eb n ha hb =
      let l = slice_set views id (view_of own_seats numbers seen) in
      let w : View = view_of own_seats (k ∷ []) seen in
      let in_new : (u : View) → w ≡ u → is_in u.numbers n ≡ true → is_in (k ∷ []) n ≡ true = λ u is h. subst (λ (t : View). is_in t.numbers n ≡ true) (sym is) h in
      ⊎_elim
      (λ old_a.
      ⊎_elim
      (λ old_b. AreApart-set views id _ _ at left_among kept.apart i j a b old_a old_b n ha hb)
      (λ new_b. absurd (right_apart i a old_a n (in_new b (new_b.1) hb) ha))
      (at_end l w b j eb))
      (λ new_a.
      ⊎_elim
      (λ old_b. absurd (right_apart j b old_b n (in_new a (new_a.1) ha) hb))
      (λ new_b. new_a.0 ∙ sym (new_b.0))
      (at_end l w b j eb))
      (at_end l w a i ea)

  pub split_kept : IsKept seats words (slice_set views id (view_of own_seats numbers seen) ++ view_of own_seats (k ∷ []) seen ∷ [])
  split_kept = record {
    log = kept.log;
    word = kept.word;
    legal = kept.legal;
    fit = AllFit-push seats kept.log _ _ (AllFit-set seats kept.log views id _ (λ i u ne e. kept.fit i u e) (part_fits numbers left_among)) (part_fits (k ∷ []) right_among);
    apart = split_apart;
  }

-- ---- a join
module _ (seats : ℕ) (words : List ℕ) (views : List View) (id other : ℕ) (v w : View) (kept : IsKept seats words views) (at : get_elem? views id ≡ some v) (ne : ¬ (other ≡ id)) (at_other : get_elem? views other ≡ some w) (first_among : AreAmong v.first.numbers v.numbers) where
  met_fits : Fits seats kept.log (joined_view v w)
  met_fits =
      let f = kept.fit id v at in
      let g = kept.fit other w at_other in
      record {
        count = f.count;
        below = λ n h. ⊎_elim (λ a. f.below n a) (λ b. g.below n b) (is_in-append_cases v.numbers w.numbers n h);
        first = f.first;
        second = g.first;
        first_among = λ n h. AreAmong-append_left v.numbers w.numbers n (f.first_among n h);
        second_among = λ n h. AreAmong-append_right v.numbers w.numbers n (g.first_among n h);
      }

  spent_fits : Fits seats kept.log spent_view
  spent_fits = record {
    count = λ h. absurd (omega (arith, h));
    below = λ n h. absurd (false≢true h);
    first = Follows-nothing kept.log;
    second = Follows-nothing kept.log;
    first_among = λ n h. h;
    second_among = λ n h. h;
  }

  -- whose a number was that is a seat's now
  was : (j : ℕ) (u : View) (n : ℕ) → get_elem? (slice_set (slice_set views id (joined_view v w)) other spent_view) j ≡ some u → is_in u.numbers n ≡ true → (j ≢ other) × (((j ≡ id) × ((is_in v.numbers n ≡ true) ⊎ (is_in w.numbers n ≡ true))) ⊎ ((j ≢ id) × (get_elem? views j ≡ some u)))
  was j u n e here =
      ⊎_elim
      (λ h. absurd (false≢true (subst (λ (t : View). is_in t.numbers n ≡ true) (sym (h.1)) here)))
      (λ h. (
        h.0,
        ⊎_elim
            (λ g. inl (g.0, is_in-append_cases v.numbers w.numbers n (subst (λ (t : View). is_in t.numbers n ≡ true) (sym (g.1)) here)))
            (λ g. inr g)
            (at_set views id j (joined_view v w) u (h.1)),
      ))
      (at_set (slice_set views id (joined_view v w)) other j spent_view u e)

  -- a number of either is nobody else's
  theirs : (j : ℕ) (u : View) (n : ℕ) → j ≢ other → j ≢ id → get_elem? views j ≡ some u → is_in u.numbers n ≡ true → (is_in v.numbers n ≡ true) ⊎ (is_in w.numbers n ≡ true) → ⊥
  theirs j u n not_other not_id e here of =
      ⊎_elim
      (λ a. not_id (kept.apart j id u v e at n here a))
      (λ b. not_other (kept.apart j other u w e at_other n here b))
      of

  join_apart : AreApart (slice_set (slice_set views id (joined_view v w)) other spent_view)
  join_apart i j a b ea eb n ha hb =
      let p = was i a n ea ha in
      let q = was j b n eb hb in
      ⊎_elim
      (λ of_a. ⊎_elim (λ of_b. of_a.0 ∙ sym (of_b.0)) (λ of_b. absurd (theirs j b n (q.0) (of_b.0) (of_b.1) hb (of_a.1))) (q.1))
      (λ of_a. ⊎_elim (λ of_b. absurd (theirs i a n (p.0) (of_a.0) (of_a.1) ha (of_b.1))) (λ of_b. kept.apart i j a b (of_a.1) (of_b.1) n ha hb) (q.1))
      (p.1)

  pub join_kept : IsKept seats words (slice_set (slice_set views id (joined_view v w)) other spent_view)
  join_kept = record {
    log = kept.log;
    word = kept.word;
    legal = kept.legal;
    fit = AllFit-set seats kept.log _ other spent_view (λ i u not_other e. AllFit-set seats kept.log views id (joined_view v w) (λ i' u' ne' e'. kept.fit i' u' e') met_fits i u e) spent_fits;
    apart = join_apart;
  }

pub join_allowed : (seats id other : ℕ) (v w : View) → Joins {S = StampRequest} {V = View} (λ s. IsKept seats s.words s.views) id v other w (joined_view v w) spent_view
join_allowed seats id other v w s kept at ne at_other =
    let there : get_elem? s.views other ≡ some w = sym (set_else s.views id other (joined_view v w) ne) ∙ at_other in
    join_kept seats s.words s.views id other v w kept at ne there (kept.fit id v at).first_among

-- ---- a new table
pub opening_kept : (seats : ℕ) (numbers : List ℕ) → ((n : ℕ) → is_in numbers n ≡ true → n < seats) → IsKept seats (0 ∷ []) (view_of seats numbers [] ∷ [])
opening_kept seats numbers below = record {
  log = [];
  word = refl;
  legal = tt;
  fit = only_fits;
  apart = λ i j a b ea eb n ha hb. only_one i a ea ∙ sym (only_one j b eb);
}
  where
    only_one : (i : ℕ) (u : View) → get_elem? (view_of seats numbers [] ∷ []) i ≡ some u → i ≡ 0
    only_one zero u e = refl
    only_one (suc i) u e = absurd (some-ne-none u (sym e))

    only_fits : AllFit seats [] (view_of seats numbers [] ∷ [])
    only_fits zero u e =
        subst (Fits seats []) (some-injective _ u e) (Fits-view_of seats seats numbers [] (λ _. refl) below)
    only_fits (suc i) u e = absurd (some-ne-none u (sym e))

pub split_allowed : (seats id own_seats k : ℕ) (numbers : List ℕ) (seen : List Stamping) (v : View) → v ≡ view_of own_seats (k ∷ numbers) seen → ((n : ℕ) → is_in (k ∷ []) n ≡ true → is_in numbers n ≡ true → ⊥) → Splits {S = StampRequest} {V = View} (λ s. IsKept seats s.words s.views) id v (dealt_left v) (dealt_right v)
split_allowed seats id own_seats k numbers seen v is distinct =
    let whole : View = view_of own_seats (k ∷ numbers) seen in
    let P : View → Type 0 = λ x. Splits {S = StampRequest} {V = View} (λ s. IsKept seats s.words s.views) id x (dealt_left x) (dealt_right x) in
    subst P (sym is) (λ s kept at. split_kept seats s.words s.views id own_seats k numbers seen kept at distinct)
