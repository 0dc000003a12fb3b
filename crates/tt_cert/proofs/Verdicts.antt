-- What `check` says, from the first fault.
use Rattle.std.proofs.Common.{ℕ, ◌+◌, ◌*◌, ◌-◌, ◌<◌, ◌≤◌, inl, inr, List, length, refl, sym, subst, arith}
use Rattle.std.specs.Prelude.{Result, Ok, Err, IsOk, IfErr, OnOk, ◌↔◌}
use Rattle.std.proofs.lemmas.Bool.{false≢true}
use Rattle.tt_span.specs.Interval.{Interval}
use Rattle.tt_fuse.specs.Fusion.{IsFusion, CanBeFused}
use Rattle.tt_cert.specs.declared.faults.CertFault.{CertFault}
use Rattle.tt_cert.specs.declared.faults.CertFault.TheVariants.{NoSource, TooMany, TooFew, LeftSet, RightSet, Cover, TooDeep, Depth, BadText, Memory}
use Rattle.tt_cert.specs.Proof.{Proof}
use Rattle.tt_cert.specs.Valid.{HasLeftSet, HasRightSet, Covers, IsCertificate, IsFirstFault, IsVerdict, IsDepthVerdict}

module _ (spans : List Interval) (f : ℕ) (claim : Interval) (proof : Proof) where
  -- a valid certificate has no fault
  no_fault : (fault : CertFault) → IsFirstFault spans f claim proof fault → IsCertificate spans f claim proof → ⊥
  no_fault NoSource h cert = let some : 0 < length spans = cert.fusible.some in omega (arith, h)
  no_fault TooMany h cert = let few : length spans ≤ 16 = cert.fusible.not_too_many in omega (arith, h)
  no_fault TooFew h cert = let enough : 2 * f + 1 ≤ length spans = cert.fusible.enough in omega (arith, h.2)
  no_fault LeftSet h cert = h.1 cert.left
  no_fault RightSet h cert = h.2 cert.right
  no_fault Cover h cert = h.3 cert.covers
  no_fault TooDeep h cert = h.4 cert.shallow
  no_fault Depth h cert = h.5 cert.depths
  no_fault BadText h cert = h
  no_fault Memory h cert = h

  pub valid-IsVerdict : (r : Result (Unit {0}) CertFault) → IsVerdict spans f claim proof r → IsOk r ↔ IsCertificate spans f claim proof
  valid-IsVerdict (Ok u) h = (λ _. h, λ _. refl)
  valid-IsVerdict (Err e) h = (λ t. absurd (false≢true t), λ cert. absurd (no_fault e h cert))

  pub first-IsVerdict : (r : Result (Unit {0}) CertFault) → IsVerdict spans f claim proof r → IfErr r (λ fault. IsFirstFault spans f claim proof fault)
  first-IsVerdict (Ok u) h = tt
  first-IsVerdict (Err e) h = h

  pub fused-IsVerdict : (r : Result (Unit {0}) CertFault) → (IsCertificate spans f claim proof → IsFusion spans f claim) → IsVerdict spans f claim proof r → OnOk r (IsFusion spans f claim)
  fused-IsVerdict (Ok u) proves h = proves h
  fused-IsVerdict (Err e) proves h = tt

  -- what is said of the depths, where all that is looked at before is right
  pub IsVerdict-from_depths : CanBeFused (length spans) f → HasLeftSet spans f claim proof → HasRightSet spans f claim proof → Covers claim proof → (r : Result (Unit {0}) CertFault) → IsDepthVerdict spans (length spans - f) proof r → IsVerdict spans f claim proof r
  IsVerdict-from_depths can left right covers (Ok u) h = record { fusible = can; left = left; right = right; covers = covers; shallow = h.0; depths = h.1 }
  IsVerdict-from_depths can left right covers (Err e) (inl deep) = subst (λ (x : CertFault). IsFirstFault spans f claim proof x) (sym deep.0) (can, left, right, covers, deep.1)
  IsVerdict-from_depths can left right covers (Err e) (inr other) = subst (λ (x : CertFault). IsFirstFault spans f claim proof x) (sym other.0) (can, left, right, covers, other.1, other.2)
