-- Entries whose keys ascend: what stands at a key, and what a new entry or a new value changes.
use Rattle.std.proofs.Common.{◌≡◌, ◌≢◌, ℕ, zero, suc, ◌+◌, ◌<◌, ◌≤◌, ◌==◌, ◌&&◌, cond, Bool, true, false, nat_lt, List, [], ◌∷◌, ◌++◌, length, get_or, set, Option, Some, None, Result, Ok, Err, OnErr, refl, sym, ap, ◌∙◌, subst, ⊎_elim, arith}
use Rattle.std.specs.List.{AllByRecursion, insert}
use Rattle.std.specs.List.Sorted.{IsNonDecreasingBy, IsPartitionPoint}
use Rattle.std.specs.Global.{Vec}
use Rattle.std.proofs.lemmas.List.{get_or_default}
use Rattle.std.proofs.lemmas.Bool.{eq-eqb, eqb-true, ne_eqb, true≢false, ltb-true, ltb-false, cases_lt}
use Rattle.tt_stamp.specs.Ids.{same_id}
use Rattle.tt_stamp.specs.Standings.{Ascends, IsKeyAt, GoesTo, AreRisen, at_key, stands_in, risen_in}
use Rattle.tt_stamp.specs.declared.commits.Id.{Id}
use Rattle.tt_stamp.specs.declared.commits.Standing.{Standing}

-- ---- tests that are not true together
apart : {X : Type 0} (a b : Bool) (x y r : X) → (a ≡ true → b ≡ true → ⊥) → cond a x (cond b y r) ≡ cond b y (cond a x r)
apart true true x y r h = absurd (h refl refl)
apart true false x y r h = refl
apart false b x y r h = refl

twice : {X : Type 0} (b : Bool) (x y r : X) → cond b x (cond b y r) ≡ cond b x r
twice true x y r = refl
twice false x y r = refl

some_none : {X : Type 0} (x : X) → ◌≡◌ {A = Option X} (Some x) None → ⊥
some_none x e = cc

none_twice : {X : Type 0} (b : Bool) (x : X) (r : Option X) → cond b (Some x) r ≡ None → (b ≡ false) × (r ≡ None)
none_twice true x r e = absurd (some_none x e)
none_twice false x r e = (refl, e)

module _ {X : Type 0} where
  pub all_at : (P : ℕ × X → Type 0) (es : List (ℕ × X)) (i : ℕ) (d : ℕ × X) → AllByRecursion P es → i < length es → P (get_or es i d)
  all_at P [] i d all h = absurd (omega (arith, h))
  all_at P (e ∷ es) zero d all h = all.0
  all_at P (e ∷ es) (suc i) d all h = all_at P es i d all.1 (omega (arith, h))

  pub all_from : (P : ℕ × X → Type 0) (es : List (ℕ × X)) → ((i : ℕ) (d : ℕ × X) → i < length es → P (get_or es i d)) → AllByRecursion P es
  all_from P [] each = tt
  all_from P (e ∷ es) each = (each 0 e (omega arith), all_from P es (λ i d h. each (suc i) d (omega (arith, h))))

  all_pushed : (P : ℕ × X → Type 0) (es : List (ℕ × X)) (e : ℕ × X) → AllByRecursion P es → P e → AllByRecursion P (es ++ e ∷ [])
  all_pushed P [] e all p = (p, tt)
  all_pushed P (x ∷ es) e all p = (all.0, all_pushed P es e all.1 p)

  all_set : (P : ℕ × X → Type 0) (es : List (ℕ × X)) (i : ℕ) (e : ℕ × X) → AllByRecursion P es → P e → AllByRecursion P (set es i e)
  all_set P [] i e all p = tt
  all_set P (x ∷ es) zero e all p = (p, all.1)
  all_set P (x ∷ es) (suc i) e all p = (all.0, all_set P es i e all.1 p)

  pub IsNonDecreasingBy-ascends : (es : List (ℕ × X)) → Ascends es → IsNonDecreasingBy (λ (e : ℕ × X). e.0) es
  IsNonDecreasingBy-ascends [] asc i j d l h = absurd (omega (arith, h))
  IsNonDecreasingBy-ascends (e ∷ es) asc zero zero d l h = omega arith
  IsNonDecreasingBy-ascends (e ∷ es) asc zero (suc j) d l h =
      let above = all_at (λ (o : ℕ × X). e.0 < o.0) es j d asc.0 (omega (arith, h)) in
      omega (arith, above)
  IsNonDecreasingBy-ascends (e ∷ es) asc (suc i) zero d l h = absurd (omega (arith, l))
  IsNonDecreasingBy-ascends (e ∷ es) asc (suc i) (suc j) d l h =
      IsNonDecreasingBy-ascends es asc.1 i j d (omega (arith, l)) (omega (arith, h))

  -- ---- what stands at a key
  pub at_key-here : (es : List (ℕ × X)) (i key : ℕ) (d : ℕ × X) → Ascends es → i < length es → (get_or es i d).0 ≡ key → at_key es key ≡ Some ((get_or es i d).1)
  at_key-here [] i key d asc h e = absurd (omega (arith, h))
  at_key-here (x ∷ es) zero key d asc h e =
      ap (λ (b : Bool). cond b (Some x.1) (at_key es key)) (eq-eqb x.0 key e)
  at_key-here (x ∷ es) (suc i) key d asc h e =
      let above = all_at (λ (o : ℕ × X). x.0 < o.0) es i d asc.0 (omega (arith, h)) in
      ap (λ (b : Bool). cond b (Some x.1) (at_key es key)) (ne_eqb x.0 key (λ s. omega (arith, above, e, s)))
      ∙ at_key-here es i key d asc.1 (omega (arith, h)) e

  pub at_key-none : (es : List (ℕ × X)) (key : ℕ) → ((k : ℕ) (d : ℕ × X) → k < length es → (get_or es k d).0 ≢ key) → at_key es key ≡ None
  at_key-none [] key differ = refl
  at_key-none (x ∷ es) key differ =
      ap (λ (b : Bool). cond b (Some x.1) (at_key es key)) (ne_eqb x.0 key (differ 0 x (omega arith)))
      ∙ at_key-none es key (λ k d h. differ (suc k) d (omega (arith, h)))

  -- no key is found below the first, above the last, or at another place than a search ends at
  pub at_key-below : (es : List (ℕ × X)) (key : ℕ) (d : ℕ × X) → Ascends es → 0 < length es → key < (get_or es 0 d).0 → at_key es key ≡ None
  at_key-below es key d asc some below =
      at_key-none es key (λ k c h e.
      let far = IsNonDecreasingBy-ascends es asc 0 k c (omega arith) h in
      let same = ap (λ (p : ℕ × X). p.0) (get_or_default es 0 c d some) in
      omega (arith, far, below, e, same))

  pub at_key-above : (es : List (ℕ × X)) (key n : ℕ) (d : ℕ × X) → Ascends es → n + 1 ≡ length es → (get_or es n d).0 < key → at_key es key ≡ None
  at_key-above es key n d asc all above =
      at_key-none es key (λ k c h e.
      let far = IsNonDecreasingBy-ascends es asc k n c (omega (arith, h, all)) (omega (arith, all)) in
      let same = ap (λ (p : ℕ × X). p.0) (get_or_default es n c d (omega (arith, all))) in
      omega (arith, far, above, e, same))

  pub at_key-parted : (es : List (ℕ × X)) (key place : ℕ) → Ascends es → IsPartitionPoint (λ (e : ℕ × X). nat_lt (e.0) key ≡ true) (λ (e : ℕ × X). nat_lt (e.0) key ≡ false) es place → ((d : ℕ × X) → place < length es → (get_or es place d).0 ≢ key) → at_key es key ≡ None
  at_key-parted es key place asc at other =
      at_key-none es key (λ k d h e.
      ⊎_elim
      (λ (l : k < place).
      let b = ltb-true ((get_or es k d).0) key (at.0 k d (omega arith) l) in
      omega (arith, b, e))
      (λ (l : place ≤ k).
      let far = IsNonDecreasingBy-ascends es asc place k d l h in
      let not_below = ltb-false ((get_or es place d).0) key (at.1 place d (omega arith) (omega (arith, l, h))) in
      let differs = other d (omega (arith, l, h)) in
      omega (arith, far, not_below, differs, e))
      (cases_lt k place))

  -- a key above the last is above all
  pub all_below : (es : List (ℕ × X)) (key n : ℕ) (d : ℕ × X) → Ascends es → n + 1 ≡ length es → (get_or es n d).0 < key → AllByRecursion (λ (e : ℕ × X). e.0 < key) es
  all_below es key n d asc all above =
      all_from (λ (e : ℕ × X). e.0 < key) es (λ k c h.
      let far = IsNonDecreasingBy-ascends es asc k n c (omega (arith, h, all)) (omega (arith, all)) in
      let same = ap (λ (p : ℕ × X). p.0) (get_or_default es n c d (omega (arith, all))) in
      omega (arith, far, above, same))

  -- ---- a new entry at the end
  pub Ascends-push : (es : List (ℕ × X)) (key : ℕ) (x : X) → Ascends es → AllByRecursion (λ (e : ℕ × X). e.0 < key) es → Ascends (es ++ (key, x) ∷ [])
  Ascends-push [] key x asc below = (tt, tt)
  Ascends-push (e ∷ es) key x asc below =
      (all_pushed (λ (o : ℕ × X). e.0 < o.0) es (key, x) asc.0 below.0, Ascends-push es key x asc.1 below.1)

  pub at_key-push : (es : List (ℕ × X)) (key : ℕ) (x : X) (q : ℕ) → AllByRecursion (λ (e : ℕ × X). e.0 < key) es → at_key (es ++ (key, x) ∷ []) q ≡ cond (key == q) (Some x) (at_key es q)
  at_key-push [] key x q below = refl
  at_key-push (e ∷ es) key x q below =
      ap (λ (o : Option X). cond (e.0 == q) (Some e.1) o) (at_key-push es key x q below.1)
      ∙ apart (e.0 == q) (key == q) (Some e.1) (Some x) (at_key es q) (λ a b. omega (arith, below.0, eqb-true e.0 q a, eqb-true key q b))

  -- ---- a new entry in its place
  all_inserted : (P : ℕ × X → Type 0) (es : List (ℕ × X)) (p : ℕ) (e : ℕ × X) → AllByRecursion P es → P e → AllByRecursion P (insert es p e)
  all_inserted P [] zero e all h = (h, tt)
  all_inserted P [] (suc p) e all h = (h, tt)
  all_inserted P (x ∷ es) zero e all h = (h, all)
  all_inserted P (x ∷ es) (suc p) e all h = (all.0, all_inserted P es p e all.1 h)

  pub is_new : (es : List (ℕ × X)) (key i : ℕ) (d : ℕ × X) → Ascends es → at_key es key ≡ None → i < length es → (get_or es i d).0 ≢ key
  is_new es key i d asc none h e = some_none _ (sym (at_key-here es i key d asc h e) ∙ none)

  pub Ascends-insert : (es : List (ℕ × X)) (p key : ℕ) (x : X) → Ascends es → ((i : ℕ) (d : ℕ × X) → i < p → i < length es → (get_or es i d).0 < key) → ((i : ℕ) (d : ℕ × X) → p ≤ i → i < length es → key < (get_or es i d).0) → Ascends (insert es p (key, x))
  Ascends-insert [] zero key x asc before after = (tt, tt)
  Ascends-insert [] (suc p) key x asc before after = (tt, tt)
  Ascends-insert (e ∷ es) zero key x asc before after =
      (all_from (λ (o : ℕ × X). key < o.0) (e ∷ es) (λ i d h. after i d (omega arith) h), asc)
  Ascends-insert (e ∷ es) (suc p) key x asc before after =
      (all_inserted (λ (o : ℕ × X). e.0 < o.0) es p (key, x) asc.0 (before 0 e (omega arith) (omega arith)), Ascends-insert es p key x asc.1 (λ i d l h. before (suc i) d (omega (arith, l)) (omega (arith, h))) (λ i d l h. after (suc i) d (omega (arith, l)) (omega (arith, h))))

  pub at_key-insert : (es : List (ℕ × X)) (p key : ℕ) (x : X) (q : ℕ) → at_key es key ≡ None → at_key (insert es p (key, x)) q ≡ cond (key == q) (Some x) (at_key es q)
  at_key-insert [] zero key x q none = refl
  at_key-insert [] (suc p) key x q none = refl
  at_key-insert (e ∷ es) zero key x q none = refl
  at_key-insert (e ∷ es) (suc p) key x q none =
      let parts = none_twice (e.0 == key) e.1 (at_key es key) none in
      ap (λ (o : Option X). cond (e.0 == q) (Some e.1) o) (at_key-insert es p key x q parts.1)
      ∙ apart (e.0 == q) (key == q) (Some e.1) (Some x) (at_key es q) (λ a b. true≢false (sym (eq-eqb e.0 key (eqb-true e.0 q a ∙ sym (eqb-true key q b))) ∙ parts.0))

  -- a place that a key goes to
  pub GoesTo-end : (es : List (ℕ × X)) (key n : ℕ) → n ≡ length es → AllByRecursion (λ (e : ℕ × X). e.0 < key) es → GoesTo es key n
  GoesTo-end es key n all below = record {
    within = omega (arith, all);
    before = λ i d l h. all_at (λ (e : ℕ × X). e.0 < key) es i d below (omega (arith, h, all));
    after = λ i d l h. absurd (omega (arith, l, h, all));
  }

  pub GoesTo-parted : (es : List (ℕ × X)) (key p : ℕ) → p ≤ length es → IsPartitionPoint (λ (e : ℕ × X). nat_lt (e.0) key ≡ true) (λ (e : ℕ × X). nat_lt (e.0) key ≡ false) es p → GoesTo es key p
  GoesTo-parted es key p within at = record {
    within = within;
    before = λ i d l h. ltb-true ((get_or es i d).0) key (at.0 i d l h);
    after = λ i d l h. ltb-false ((get_or es i d).0) key (at.1 i d l h);
  }

  pub Ascends-new : (es : List (ℕ × X)) (p key : ℕ) (x : X) → Ascends es → at_key es key ≡ None → GoesTo es key p → Ascends (insert es p (key, x))
  Ascends-new es p key x asc none goes =
      Ascends-insert es p key x asc (λ i d l h. goes.before i d (omega arith) l) (λ i d l h.
      let not_below = goes.after i d l h in
      let differs = is_new es key i d asc none h in
      omega (arith, not_below, differs))

  -- ---- a new value at a key
  pub Ascends-set : (es : List (ℕ × X)) (i key : ℕ) (x : X) (d : ℕ × X) → Ascends es → i < length es → (get_or es i d).0 ≡ key → Ascends (set es i (key, x))
  Ascends-set [] i key x d asc h e = tt
  Ascends-set (f ∷ es) zero key x d asc h e =
      (subst (λ (n : ℕ). AllByRecursion (λ (o : ℕ × X). n < o.0) es) e asc.0, asc.1)
  Ascends-set (f ∷ es) (suc i) key x d asc h e =
      let above = all_at (λ (o : ℕ × X). f.0 < o.0) es i d asc.0 (omega (arith, h)) in
      (all_set (λ (o : ℕ × X). f.0 < o.0) es i (key, x) asc.0 (omega (arith, above, e)), Ascends-set es i key x d asc.1 (omega (arith, h)) e)

  pub at_key-set : (es : List (ℕ × X)) (i key : ℕ) (x : X) (d : ℕ × X) (q : ℕ) → Ascends es → i < length es → (get_or es i d).0 ≡ key → at_key (set es i (key, x)) q ≡ cond (key == q) (Some x) (at_key es q)
  at_key-set [] i key x d q asc h e = absurd (omega (arith, h))
  at_key-set (f ∷ es) zero key x d q asc h e =
      sym (twice (key == q) (Some x) (Some f.1) (at_key es q))
      ∙ ap (λ (n : ℕ). cond (key == q) (Some x) (cond (n == q) (Some f.1) (at_key es q))) (sym e)
  at_key-set (f ∷ es) (suc i) key x d q asc h e =
      let above = all_at (λ (o : ℕ × X). f.0 < o.0) es i d asc.0 (omega (arith, h)) in
      ap (λ (o : Option X). cond (f.0 == q) (Some f.1) o) (at_key-set es i key x d q asc.1 (omega (arith, h)) e)
      ∙ apart (f.0 == q) (key == q) (Some f.1) (Some x) (at_key es q) (λ a b. omega (arith, above, e, eqb-true f.0 q a, eqb-true key q b))

-- ---- sessions and their numbers
changed : (b c : Bool) (x : Standing) (now rest : Option Standing) → (b ≡ true → now ≡ cond c (Some x) rest) → (b ≡ false → now ≡ rest) → now ≡ cond (b && c) (Some x) rest
changed true c x now rest f g = f refl
changed false c x now rest f g = g refl

either : (b : Bool) (now rest : Option Standing) → (b ≡ true → now ≡ rest) → (b ≡ false → now ≡ rest) → now ≡ rest
either true now rest f g = f refl
either false now rest f g = g refl

-- one session's numbers changed, or are new: they have one more standing
module _ (es now : List (ℕ × Vec (ℕ × Standing))) (id : Id) (numbers : Vec (ℕ × Standing)) where
  pub risen_in-changed : (x : Standing) → ((q : ℕ) → at_key now q ≡ cond (id.session == q) (Some numbers) (at_key es q)) → ((m : ℕ) → at_key numbers.items m ≡ cond (id.number == m) (Some x) (stands_in (at_key es id.session) m)) → (other : Id) → risen_in now other ≡ cond (same_id id other) (Some x) (risen_in es other)
  risen_in-changed x session number other =
      changed (id.session == other.session) (id.number == other.number) x (risen_in now other) (risen_in es other)
      (λ e.
      ap (λ (o : Option (Vec (ℕ × Standing))). stands_in o other.number) (session other.session ∙ ap (λ (b : Bool). cond b (Some numbers) (at_key es other.session)) e)
      ∙ number other.number
      ∙ ap (λ (s : ℕ). cond (id.number == other.number) (Some x) (stands_in (at_key es s) other.number)) (eqb-true id.session other.session e))
      (λ e. ap (λ (o : Option (Vec (ℕ × Standing))). stands_in o other.number) (session other.session ∙ ap (λ (b : Bool). cond b (Some numbers) (at_key es other.session)) e))

  -- the numbers stand as before
  pub risen_in-same : ((q : ℕ) → at_key now q ≡ cond (id.session == q) (Some numbers) (at_key es q)) → ((m : ℕ) → at_key numbers.items m ≡ stands_in (at_key es id.session) m) → (other : Id) → risen_in now other ≡ risen_in es other
  risen_in-same session number other =
      either (id.session == other.session) (risen_in now other) (risen_in es other)
      (λ e.
      ap (λ (o : Option (Vec (ℕ × Standing))). stands_in o other.number) (session other.session ∙ ap (λ (b : Bool). cond b (Some numbers) (at_key es other.session)) e)
      ∙ number other.number
      ∙ ap (λ (s : ℕ). stands_in (at_key es s) other.number) (eqb-true id.session other.session e))
      (λ e. ap (λ (o : Option (Vec (ℕ × Standing))). stands_in o other.number) (session other.session ∙ ap (λ (b : Bool). cond b (Some numbers) (at_key es other.session)) e))

-- ---- one session among all
abbrev Numbers : Type 0
Numbers = Vec (ℕ × Standing)

module _ (es : List (ℕ × Numbers)) (p : ℕ) (x : ℕ × Numbers) (risen : AreRisen es) (is : x ≡ get_or es p x) where
  pub numbers_ascend : p < length es → Ascends x.1.items
  numbers_ascend h =
      subst (λ (y : ℕ × Numbers). Ascends y.1.items) (sym is) (all_at (λ (s : ℕ × Numbers). Ascends s.1.items) es p x risen.numbers_ascend h)

  pub at_session : (s : ℕ) → IsKeyAt es s p → at_key es s ≡ Some x.1
  at_session s at =
      at_key-here es p s x risen.sessions_ascend at.within (at.is x) ∙ ap (λ (y : ℕ × Numbers). Some y.1) (sym is)

  -- its numbers are now these
  module _ (v : Numbers) where
    pub AreRisen-set : p < length es → Ascends v.items → AreRisen (set es p (x.0, v))
    AreRisen-set h ascend = record {
      sessions_ascend = Ascends-set es p x.0 v x risen.sessions_ascend h (ap (λ (y : ℕ × Numbers). y.0) (sym is));
      numbers_ascend = all_set (λ (s : ℕ × Numbers). Ascends s.1.items) es p (x.0, v) risen.numbers_ascend ascend;
    }

    at_session-set : (s : ℕ) → IsKeyAt es s p → (q : ℕ) → at_key (set es p (x.0, v)) q ≡ cond (s == q) (Some v) (at_key es q)
    at_session-set s at q =
        at_key-set es p x.0 v x q risen.sessions_ascend at.within (ap (λ (y : ℕ × Numbers). y.0) (sym is))
        ∙ ap (λ (n : ℕ). cond (n == q) (Some v) (at_key es q)) (ap (λ (y : ℕ × Numbers). y.0) is ∙ at.is x)

    module _ (id : Id) (at : IsKeyAt es id.session p) where
      pub risen_in-kept : ((m : ℕ) → at_key v.items m ≡ at_key x.1.items m) → (other : Id) → risen_in (set es p (x.0, v)) other ≡ risen_in es other
      risen_in-kept number =
          risen_in-same es (set es p (x.0, v)) id v (at_session-set id.session at) (λ m. number m ∙ ap (λ (o : Option Numbers). stands_in o m) (sym (at_session id.session at)))

      pub risen_in-set : (y : Standing) → ((m : ℕ) → at_key v.items m ≡ cond (id.number == m) (Some y) (at_key x.1.items m)) → (other : Id) → risen_in (set es p (x.0, v)) other ≡ cond (same_id id other) (Some y) (risen_in es other)
      risen_in-set y number =
          risen_in-changed es (set es p (x.0, v)) id v y (at_session-set id.session at) (λ m. number m ∙ ap (λ (o : Option Numbers). cond (id.number == m) (Some y) (stands_in o m)) (sym (at_session id.session at)))

      pub risen_in-set_if : (b : Bool) (y : Standing) → ((m : ℕ) → at_key v.items m ≡ cond (b && (id.number == m)) (Some y) (at_key x.1.items m)) → (other : Id) → risen_in (set es p (x.0, v)) other ≡ cond (b && same_id id other) (Some y) (risen_in es other)
      risen_in-set_if true y number = risen_in-set y number
      risen_in-set_if false y number = risen_in-kept number

-- ---- a new session
pub AreRisen-insert : (es : List (ℕ × Numbers)) (p s : ℕ) (v : Numbers) → AreRisen es → at_key es s ≡ None → GoesTo es s p → Ascends v.items → AreRisen (insert es p (s, v))
AreRisen-insert es p s v risen none goes ascend = record {
  sessions_ascend = Ascends-new es p s v risen.sessions_ascend none goes;
  numbers_ascend = all_inserted (λ (s : ℕ × Numbers). Ascends s.1.items) es p (s, v) risen.numbers_ascend ascend;
}

pub risen_in-insert : (es : List (ℕ × Numbers)) (p : ℕ) (id : Id) (v : Numbers) (y : Standing) → at_key es id.session ≡ None → ((m : ℕ) → at_key v.items m ≡ cond (id.number == m) (Some y) None) → (other : Id) → risen_in (insert es p (id.session, v)) other ≡ cond (same_id id other) (Some y) (risen_in es other)
risen_in-insert es p id v y none number =
    risen_in-changed es (insert es p (id.session, v)) id v y (λ q. at_key-insert es p id.session v q none) (λ m. number m ∙ ap (λ (o : Option Numbers). cond (id.number == m) (Some y) (stands_in o m)) (sym none))

-- ---- what an answer says whatever it is
pub OnErr-from : {T E : Type 0} (r : Result T E) (P : Type 0) → P → OnErr r P
OnErr-from (Ok x) P p = tt
OnErr-from (Err x) P p = p
