-- Lines read one after the other.
use Rattle.std.proofs.Common.{◌≡◌, ◌≢◌, inl, inr, ℕ, ◌+◌, List, [], ◌∷◌, ◌++◌, length, zero, suc, eqb, Bool, true, false, cond, Option, Some, None, Bor, refl, ap, ◌∙◌, sym, subst, arith, append_assoc, length-append}
use Rattle.std.specs.Prelude.{is_some, option_copied}
use Rattle.std.specs.List.{AllByRecursion, All}
use Rattle.std.proofs.lemmas.Bool.{eq-eqb, ne_eqb}
use Rattle.std.proofs.lemmas.List.Splits.{slice_split_at, slice_split_none}
use Rattle.tt_seal.specs.Sealing.{SealKey, key_with, HaveOwnNumbers}
use Rattle.tt_keys.specs.Line.{IsKeyLine, IsSkipped, Lacks}
use Rattle.tt_keys.specs.Text.{lines_of, AreKeysOf, IsKeysText, Adds, IsRefused, IsTextFault}
use Rattle.tt_keys.specs.declared.faults.KeysFault.{KeysFault}
use Rattle.tt_keys.proofs.Parting.{one_key, no_key}

-- ---- lines

none_there : (byte : ℕ) (xs : List ℕ) → Lacks byte xs → All (λ b. eqb b byte ≡ false) xs
none_there byte [] lacks k d below = absurd (omega arith)
none_there byte (x ∷ xs) lacks zero d below = ne_eqb x byte lacks.0
none_there byte (x ∷ xs) lacks (suc k) d below = none_there byte xs lacks.1 k d (omega arith)

-- the lines of a text that has a line feed
lines_of-cut : (text line more : List ℕ) → Lacks 10 line → text ≡ line ++ 10 ∷ more → lines_of text ≡ line ∷ lines_of more
lines_of-cut text line more lacks is = ap lines_of is ∙ slice_split_at (λ b. eqb b 10) line 10 more (none_there 10 line lacks) refl

-- the lines of a text that has none
lines_of-whole : (text : List ℕ) → Lacks 10 text → lines_of text ≡ text ∷ []
lines_of-whole text lacks = slice_split_none (λ b. eqb b 10) text (none_there 10 text lacks)

-- ---- keys that are added

skipped_more : (lines : List (List ℕ)) (keys : List SealKey) (line : List ℕ) → AreKeysOf lines keys → IsSkipped line → AreKeysOf (lines ++ line ∷ []) keys
skipped_more [] keys line are skipped = inl (skipped, are)
skipped_more (first ∷ lines) keys line (inl h) skipped = inl (h.0, skipped_more lines keys line h.1 skipped)
skipped_more (first ∷ lines) keys line (inr h) skipped = inr (h.0, h.1, h.2, h.3, skipped_more lines h.1 line h.4 skipped)

key_more : (lines : List (List ℕ)) (keys : List SealKey) (line : List ℕ) (key : SealKey) → AreKeysOf lines keys → IsKeyLine line key → AreKeysOf (lines ++ line ∷ []) (keys ++ key ∷ [])
key_more [] keys line key are is = inr (key, [], is, ap (λ (ks : List SealKey). ks ++ key ∷ []) are, refl)
key_more (first ∷ lines) keys line key (inl h) is = inl (h.0, key_more lines keys line key h.1 is)
key_more (first ∷ lines) keys line key (inr h) is =
    inr (h.0, h.1 ++ key ∷ [], h.2, ap (λ (ks : List SealKey). ks ++ key ∷ []) h.3, key_more lines h.1 line key h.4 is)

none_of : (b : Bool) (first : SealKey) (rest : Option SealKey) → cond b (Some first) rest ≡ None → (b ≡ false) × (rest ≡ None)
none_of true first rest e = cc
none_of false first rest e = (refl, e)

others_more : (number : ℕ) (keys : List SealKey) (key : SealKey) → AllByRecursion (λ other. number ≢ other.number) keys → number ≢ key.number
    → AllByRecursion (λ other. number ≢ other.number) (keys ++ key ∷ [])
others_more number [] key all new = (new, tt)
others_more number (first ∷ keys) key all new = (all.0, others_more number keys key all.1 new)

not_true : (a b : ℕ) → eqb a b ≡ false → a ≢ b
not_true a b differ e = let yes : eqb a b ≡ true = eq-eqb a b e in cc (yes, differ)

own_more : (keys : List SealKey) (key : SealKey) → HaveOwnNumbers keys → key_with keys key.number ≡ None → HaveOwnNumbers (keys ++ key ∷ [])
own_more [] key own new = (tt, tt)
own_more (first ∷ keys) key own new =
    let h = none_of (eqb first.number key.number) first (key_with keys key.number) new in
    (others_more first.number keys key own.0 (not_true first.number key.number h.0), own_more keys key own.1 h.1)

-- ---- a text that is read up to a place

-- the first lines of the text are these keys', and what is left has the others
pub record IsReadTo (text rest : List ℕ) (number : ℕ) (keys : List SealKey) : Type 0 where
  pub before : List (List ℕ)
  pub lines_are : lines_of text ≡ before ++ lines_of rest
  pub counted : number ≡ length before + 1
  pub are : AreKeysOf before keys
  pub own : HaveOwnNumbers keys

pub read_none : (text : List ℕ) → IsReadTo text text 1 []
read_none text = record { before = []; lines_are = refl; counted = refl; are = refl; own = tt }

added : (before : List (List ℕ)) (keys after : List SealKey) (line : List ℕ) → AreKeysOf before keys → HaveOwnNumbers keys → Adds keys line after
    → AreKeysOf (before ++ line ∷ []) after × HaveOwnNumbers after
added before keys after line are own (inl h) =
    subst (λ (ks : List SealKey). AreKeysOf (before ++ line ∷ []) ks × HaveOwnNumbers ks) (sym h.1) (skipped_more before keys line are h.0, own)
added before keys after line are own (inr h) =
    subst (λ (ks : List SealKey). AreKeysOf (before ++ line ∷ []) ks × HaveOwnNumbers ks) (sym h.2) (key_more before keys line h.0 are h.1.is, own_more keys h.0 own h.1.new)

pub read_more : (text rest line more : List ℕ) (number : ℕ) (keys after : List SealKey) → IsReadTo text rest number keys → Lacks 10 line → rest ≡ line ++ 10 ∷ more → Adds keys line after
    → IsReadTo text more (number + 1) after
read_more text rest line more number keys after h lacks is adds =
    let both = added h.before keys after line h.are h.own adds in
    record {
      before = h.before ++ line ∷ [];
      lines_are = h.lines_are ∙ ap (λ (ls : List (List ℕ)). h.before ++ ls) (lines_of-cut rest line more lacks is) ∙ sym (append_assoc h.before (line ∷ []) (lines_of more));
      counted = omega (arith, h.counted, length-append h.before (line ∷ []));
      are = both.0;
      own = both.1;
    }

pub read_all : (text rest : List ℕ) (number : ℕ) (keys after : List SealKey) → IsReadTo text rest number keys → Lacks 10 rest → Adds keys rest after → IsKeysText text after
read_all text rest number keys after h lacks adds =
    let both = added h.before keys after rest h.are h.own adds in
    let lines_are : lines_of text ≡ h.before ++ rest ∷ [] = h.lines_are ∙ ap (λ (ls : List (List ℕ)). h.before ++ ls) (lines_of-whole rest lacks) in
    record { are = subst (λ (ls : List (List ℕ)). AreKeysOf ls after) (sym lines_are) both.0; own = both.1 }

pub refused_at : (text rest line more : List ℕ) (number : ℕ) (keys : List SealKey) (fault : KeysFault) → IsReadTo text rest number keys → Lacks 10 line → rest ≡ line ++ 10 ∷ more
    → IsRefused keys line number fault → IsTextFault text fault
refused_at text rest line more number keys fault h lacks is refused = record {
  before = h.before;
  line = line;
  after = lines_of more;
  keys = keys;
  lines_are = h.lines_are ∙ ap (λ (ls : List (List ℕ)). h.before ++ ls) (lines_of-cut rest line more lacks is);
  are = h.are;
  own = h.own;
  refused = subst (λ (n : ℕ). IsRefused keys line n fault) h.counted refused;
}

pub refused_last : (text rest : List ℕ) (number : ℕ) (keys : List SealKey) (fault : KeysFault) → IsReadTo text rest number keys → Lacks 10 rest → IsRefused keys rest number fault → IsTextFault text fault
refused_last text rest number keys fault h lacks refused = record {
  before = h.before;
  line = rest;
  after = [];
  keys = keys;
  lines_are = h.lines_are ∙ ap (λ (ls : List (List ℕ)). h.before ++ ls) (lines_of-whole rest lacks);
  are = h.are;
  own = h.own;
  refused = subst (λ (n : ℕ). IsRefused keys rest n fault) h.counted refused;
}

-- ---- a text has one list of keys at most

pub one_list : (lines : List (List ℕ)) (keys others : List SealKey) → AreKeysOf lines keys → AreKeysOf lines others → keys ≡ others
one_list [] keys others h k = h ∙ sym k
one_list (line ∷ lines) keys others (inl h) (inl k) = one_list lines keys others h.1 k.1
one_list (line ∷ lines) keys others (inl h) (inr k) = absurd (no_key line k.0 h.0 k.2)
one_list (line ∷ lines) keys others (inr h) (inl k) = absurd (no_key line h.0 k.0 h.2)
one_list (line ∷ lines) keys others (inr h) (inr k) =
    h.3 ∙ ap (λ (ks : List SealKey). h.0 ∷ ks) (one_list lines h.1 k.1 h.4 k.4) ∙ ap (λ (key : SealKey). key ∷ k.1) (one_key line h.0 k.0 h.2 k.2) ∙ sym k.3

-- ---- a reference that is found, or not

pub none_copied : {T : Type 0} (r : Option (Bor T)) → is_some r ≡ false → option_copied r ≡ None
none_copied None e = refl
none_copied (Some x) e = cc

pub some_copied : {T : Type 0} (r : Option (Bor T)) → is_some r ≡ true → (x : T) × (option_copied r ≡ Some x)
some_copied None e = cc
some_copied (Some x) e = (x.now, refl)
