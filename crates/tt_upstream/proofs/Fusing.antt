-- The fusion of what servers say holds the true time where few of them are wrong.
use Rattle.std.proofs.Common.{◌≡◌, ℕ, ◌+◌, ◌<◌, ◌≤◌, true, false, List, [], ◌∷◌, ◌++◌, length, take, drop, drop_of_length-le, set, get_or, map, Some, None, Ok, Err, refl, ap, sym, ◌∙◌, arith}
use Rattle.std.specs.Prelude.{is_ok}
use Rattle.std.proofs.lemmas.Bool.{not_from_true, not_from_false}
use Rattle.std.proofs.lemmas.List.{take_more, take_more_set, get_or-map, length-map, drop_more}
use Rattle.tt_span.specs.Time.{max_time}
use Rattle.tt_span.specs.Interval.{Interval, whole, Holds}
use Rattle.tt_fuse.specs.Depth.{holds, depth}
use Rattle.tt_fuse.specs.Fusion.{IsFusion}
use Rattle.tt_fuse.proofs.Counting.{count_by-yes, count_by-no}
use Rattle.tt_fuse.proofs.Possible.{holds-from_Holds, possible-from_depth}
use Rattle.tt_upstream.specs.Fused.{Said, span_for, speaking, first_reason, is_wrong, wrong_at}
use Rattle.tt_master.specs.declared.silences.Silence.{Silence}

-- ---- the spans and the first silence

-- one more span is in its place
pub spans-more : (said : List Said) (spans : List Interval) (i : ℕ) (one : Said) (v : Interval) → i < length said → i < length spans → one ≡ get_or said i one → v ≡ span_for one → take i spans ≡ take i (map span_for said)
    → take (i + 1) (set spans i v) ≡ take (i + 1) (map span_for said)
spans-more said spans i one v inside within is made before =
    let here : v ≡ get_or (map span_for said) i v = made ∙ ap span_for is ∙ sym (get_or-map span_for said i one v inside) in
    let in_map : i < length (map span_for said) = omega (arith, length-map said span_for) in
    take_more_set spans i v within
    ∙ ap (λ (xs : List Interval). xs ++ v ∷ []) before
    ∙ ap (λ (x : Interval). take i (map span_for said) ++ x ∷ []) here
    ∙ sym (take_more (map span_for said) i v in_map)

reason-here : (said : List Said) (i : ℕ) (one : Said) → i < length said → one ≡ get_or said i one → first_reason (drop i said) ≡ first_reason (one ∷ drop (i + 1) said)
reason-here said i one inside is = ap first_reason (drop_more said i one inside ∙ ap (λ (o : Said). o ∷ drop (i + 1) said) (sym is))

-- a server that says something has no silence
pub reason-more : (said : List Said) (i : ℕ) (one : Said) (span : Interval) → i < length said → one ≡ get_or said i one → one ≡ Ok span → first_reason (drop i said) ≡ first_reason said → first_reason (drop (i + 1) said) ≡ first_reason said
reason-more said i one span inside is ok before = sym (reason-here said i one inside is ∙ ap (λ (o : Said). first_reason (o ∷ drop (i + 1) said)) ok) ∙ before

-- the first silence is that of the first server that is silent
pub reason-found : (said : List Said) (i : ℕ) (one : Said) (silence : Silence) → i < length said → one ≡ get_or said i one → one ≡ Err silence → first_reason (drop i said) ≡ first_reason said → Some silence ≡ first_reason said
reason-found said i one silence inside is err before = sym (reason-here said i one inside is ∙ ap (λ (o : Said). first_reason (o ∷ drop (i + 1) said)) err) ∙ before

-- behind the last there is none
pub reason-none : (said : List Said) (i : ℕ) → length said ≤ i → first_reason (drop i said) ≡ first_reason said → None ≡ first_reason said
reason-none said i past before = sym (ap first_reason (drop_of_length-le said past)) ∙ before

-- where no server is silent, all speak
pub all-speak : (said : List Said) → first_reason said ≡ None → speaking said ≡ length said
all-speak [] h = omega arith
all-speak (Ok span ∷ said) h =
    let rest = all-speak said h in
    omega (arith, count_by-yes is_ok (Ok span) said refl)
all-speak (Err silence ∷ said) h = cc

-- ---- the fusion

-- each span holds the time, or is that of a server that is wrong
depth-wrong : (said : List Said) (x : ℕ) → x ≤ max_time → length (map span_for said) ≤ depth (map span_for said) x + wrong_at said x
depth-wrong [] x in_time = omega arith
depth-wrong (Ok span ∷ said) x in_time =
    let rest = depth-wrong said x in_time in
    elim (holds x span) as (λ b. holds x span ≡ b → length (map span_for (Ok span ∷ said)) ≤ depth (map span_for (Ok span ∷ said)) x + wrong_at (Ok span ∷ said) x) [
      | true ↦ λ e. omega (arith, count_by-yes (holds x) span (map span_for said) e, count_by-no (is_wrong x) (Ok span) said (not_from_true (holds x span) e))
      | false ↦ λ e. omega (arith, count_by-no (holds x) span (map span_for said) e, count_by-yes (is_wrong x) (Ok span) said (not_from_false (holds x span) e))
    ] refl
depth-wrong (Err silence ∷ said) x in_time =
    let rest = depth-wrong said x in_time in
    omega (arith, count_by-yes (holds x) whole (map span_for said) (holds-from_Holds x whole (omega arith, in_time)), count_by-no (is_wrong x) (Err silence) said refl)

pub fused-holds : (said : List Said) (faulty x : ℕ) (span : Interval) → IsFusion (map span_for said) faulty span → x ≤ max_time → wrong_at said x ≤ faulty → Holds span x
fused-holds said faulty x span fusion in_time few =
    let enough = depth-wrong said x in_time in
    fusion.right x (possible-from_depth (map span_for said) faulty x in_time (omega arith))
