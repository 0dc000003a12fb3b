-- Which faults a publication has at a clock reading.
use Rattle.std.proofs.Common.{◌≡◌, ◌⊎◌, inl, inr, ℕ, ◌<◌, Err, sym, ◌∙◌}
use Rattle.std.specs.Prelude.{IsErrOf}
use Rattle.tt_publish.specs.Reading.{CanBeReadAt}
use Rattle.tt_shared.specs.declared.faults.SharedFault.{SharedFault}
use Rattle.tt_shared.specs.declared.faults.SharedFault.TheVariants.{ClockBack, TooWide}
use Rattle.tt_shared.specs.declared.slots.SharedSpan.{SharedSpan}

same_fault : {T : Type 0} (a b : SharedFault) → IsErrOf {T = T} {E = SharedFault} (Err a) b → a ≡ b
same_fault a b e = cc

-- no fault but these two
pub no_other : {T : Type 0} (p : SharedSpan) (c : ℕ) (fault other : SharedFault) →
    ((fault ≡ ClockBack) × (CanBeReadAt p.fused c → ⊥)) ⊎ ((fault ≡ TooWide) × CanBeReadAt p.fused c × (p.usable_until < c)) →
    (ClockBack ≡ other → ⊥) → (TooWide ≡ other → ⊥) → IsErrOf {T = T} {E = SharedFault} (Err fault) other → ⊥
no_other {T} p c fault other (inl back) differs apart e = differs (sym back.0 ∙ same_fault fault other e)
no_other {T} p c fault other (inr wide) differs apart e = apart (sym wide.0 ∙ same_fault fault other e)
