-- The canonical certificate of a fusion is valid.
use Rattle.std.proofs.Common.{ℕ, ◌+◌, ◌-◌, ◌≤◌, List, length, sym, subst, arith}
use Rattle.std.specs.Prelude.{◌↔◌}
use Rattle.tt_span.specs.Time.{max_time}
use Rattle.tt_span.specs.Interval.{Interval}
use Rattle.tt_fuse.specs.Fusion.{IsPossibleTime, IsFusion, CanBeFused}
use Rattle.tt_fuse.specs.Depth.{depth}
use Rattle.tt_cert.specs.Proof.{Proof}
use Rattle.tt_cert.specs.Valid.{IsSetAt, IsCertificate}
use Rattle.tt_cert.specs.Canonical.{IsCanonical}
use Rattle.tt_cert.proofs.Least.{IsSetAt-least}
use Rattle.tt_cert.proofs.Lifting.{shallow-ArePieces, named-ArePieces}

pub IsCertificate-from_canonical : (spans : List Interval) (f : ℕ) (claim : Interval) (proof : Proof) → ((x : ℕ) → IsPossibleTime spans f x ↔ ((x ≤ max_time) × (length spans - f ≤ depth spans x))) → IsPossibleTime spans f claim.lo × IsPossibleTime spans f claim.hi → CanBeFused (length spans) f → IsFusion spans f claim → IsCanonical spans f claim proof → IsCertificate spans f claim proof
IsCertificate-from_canonical spans f claim proof law ends can fusion canonical =
    let ordered : claim.lo ≤ claim.hi = fusion.interval.ordered in
    let in_time : claim.hi ≤ max_time = fusion.interval.in_time in
    record {
      fusible = can;
      left = subst (λ (xs : List ℕ). IsSetAt spans (length spans - f) claim.lo xs) (sym canonical.left) (IsSetAt-least claim.lo spans (length spans - f) ((law claim.lo).0 ends.0).1);
      right = subst (λ (xs : List ℕ). IsSetAt spans (length spans - f) claim.hi xs) (sym canonical.right) (IsSetAt-least claim.hi spans (length spans - f) ((law claim.hi).0 ends.1).1);
      covers = (canonical.below.side_by_side, canonical.above.side_by_side);
      shallow = (
        shallow-ArePieces spans f claim law fusion 0 claim.lo (omega arith) (λ x from before h. omega (arith, h.0)) proof.below canonical.below,
        shallow-ArePieces spans f claim law fusion (claim.hi + 1) (max_time + 1) (omega arith) (λ x from before h. omega (arith, h.1)) proof.above canonical.above,
      );
      depths = (named-ArePieces spans 0 claim.lo proof.below canonical.below, named-ArePieces spans (claim.hi + 1) (max_time + 1) proof.above canonical.above);
    }
