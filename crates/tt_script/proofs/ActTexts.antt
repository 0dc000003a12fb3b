-- The texts of acts read back.
use Rattle.std.proofs.Common.{◌≡◌, ℕ, ◌≤◌, ◌⊎◌, true, cond, nat_eq, inl, inr, List, [], ◌∷◌, ◌++◌, length, drop, Option, Some, None, refl, sym, ap, subst, ◌∙◌, arith, codes}
use Rattle.std.specs.Cmp.Lexicographic.{pointwise, bytes_decides}
use Rattle.std.specs.Fmt.{decimal}
use Rattle.std.proofs.lemmas.Bool.{cases_Bool}
use Rattle.tt_span.specs.Time.{max_time}
use Rattle.tt_master.specs.declared.acts.Act.{Act}
use Rattle.tt_master.specs.declared.acts.Act.TheVariants.{Honest, Ahead, Behind, Silent, Garbage, Repeat}
use Rattle.tt_script.specs.Acts.{act_text, offset_of, time_of, time_behind, act_with_time, act_in}
use Rattle.tt_script.proofs.Times.{time_of-decimal, time_of-some}

drop-front : (word rest : List ℕ) → drop (length word) (word ++ rest) ≡ rest
drop-front [] rest = refl
drop-front (c ∷ word) rest = drop-front word rest

-- a time behind its word is read
time_behind-decimal : (word : List ℕ) (n : ℕ) → n ≤ max_time → time_behind word (word ++ decimal n) ≡ Some n
time_behind-decimal word n fits =
    let rest : drop (length word) (word ++ decimal n) ≡ decimal n = drop-front word (decimal n) in
    let same : pointwise nat_eq (word ++ decimal n) (word ++ decimal n) ≡ true = (bytes_decides (word ++ decimal n) (word ++ decimal n)).1 refl in
    let time : time_of (decimal n) ≡ Some n = time_of-decimal (decimal n) n fits refl in
    rw (rest, same, time)

-- and what is read stands there
time_behind-some : (word text : List ℕ) (n : ℕ) → time_behind word text ≡ Some n → (word ++ decimal n ≡ text) × (n ≤ max_time)
time_behind-some word text n h =
    elim (cases_Bool (pointwise nat_eq text (word ++ drop (length word) text))) [
      | inl front ↦
          let time : time_of (drop (length word) text) ≡ Some n = rw front at h in
          let written = time_of-some (drop (length word) text) n time in
          let whole = (bytes_decides text (word ++ drop (length word) text)).0 front in
          (sym (whole ∙ ap (λ rest. word ++ rest) written.0), written.1)
      | inr other ↦ absurd (cc (rw other at h))
    ]

-- the text of an act reads as the act
pub act_in-act_text : (act : Act) → offset_of act ≤ max_time → act_in (act_text act) ≡ Some act
act_in-act_text Honest fits = refl
act_in-act_text (Ahead n) fits = rw (time_behind-decimal (codes "ahead ") n fits)
act_in-act_text (Behind n) fits = rw (time_behind-decimal (codes "behind ") n fits)
act_in-act_text Silent fits = refl
act_in-act_text Garbage fits = refl
act_in-act_text Repeat fits = refl

-- an act is the one of this word, or what else is read
this_or : (text word : List ℕ) (here act : Act) (rest : Option Act) → cond (pointwise nat_eq text word) (Some here) rest ≡ Some act
    → ((text ≡ word) × (here ≡ act)) ⊎ (rest ≡ Some act)
this_or text word here act rest h =
    elim (cases_Bool (pointwise nat_eq text word)) [
      | inl same ↦ inl ((bytes_decides text word).0 same, cc (rw same at h))
      | inr other ↦ inr (rw other at h)
    ]

with_time : (ahead behind : Option ℕ) (act : Act) → act_with_time ahead behind ≡ Some act
    → ((n : ℕ) × (ahead ≡ Some n) × (Ahead n ≡ act)) ⊎ ((n : ℕ) × (behind ≡ Some n) × (Behind n ≡ act))
with_time (Some n) behind act h = inl (n, refl, cc)
with_time None (Some n) act h = inr (n, refl, cc)
with_time None None act h = absurd (cc)

-- a text that reads as an act is the text of the act, and its time is one
abbrev Writes : List ℕ → Act → Type 0
Writes text act = (act_text act ≡ text) × (offset_of act ≤ max_time)

writes_word : (text : List ℕ) (here act : Act) → offset_of here ≤ max_time → (text ≡ act_text here) × (here ≡ act) → Writes text act
writes_word text here act fits is = subst (λ (a : Act). Writes text a) is.1 (sym is.0, fits)

writes_time : (text : List ℕ) (act : Act) → act_with_time (time_behind (codes "ahead ") text) (time_behind (codes "behind ") text) ≡ Some act → Writes text act
writes_time text act h =
    elim (with_time (time_behind (codes "ahead ") text) (time_behind (codes "behind ") text) act h) [
      | inl ahead ↦ subst (λ (a : Act). Writes text a) ahead.2 (time_behind-some (codes "ahead ") text ahead.0 ahead.1)
      | inr behind ↦ subst (λ (a : Act). Writes text a) behind.2 (time_behind-some (codes "behind ") text behind.0 behind.1)
    ]

pub act_in-some : (text : List ℕ) (act : Act) → act_in text ≡ Some act → (act_text act ≡ text) × (offset_of act ≤ max_time)
act_in-some text act h =
    elim (this_or text (codes "honest") Honest act _ h) [
      | inl is ↦ writes_word text Honest act (omega arith) is
      | inr h1 ↦ elim (this_or text (codes "silent") Silent act _ h1) [
        | inl is ↦ writes_word text Silent act (omega arith) is
        | inr h2 ↦ elim (this_or text (codes "garbage") Garbage act _ h2) [
          | inl is ↦ writes_word text Garbage act (omega arith) is
          | inr h3 ↦ elim (this_or text (codes "repeat") Repeat act _ h3) [
            | inl is ↦ writes_word text Repeat act (omega arith) is
            | inr h4 ↦ writes_time text act h4
          ]
        ]
      ]
    ]
