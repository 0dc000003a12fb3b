-- Which certificates prove that a claim is the fusion.
use Rattle.std.specs.Prelude.{◌≡◌, ◌≢◌, ℕ, ◌+◌, ◌-◌, ◌*◌, ◌<◌, ◌≤◌, ◌⊎◌, Bool, ◌&&◌, nat_le, List, [], ◌∷◌, length, count_by, All, AllPairs, MatchResult, Result, slice_index}
use Rattle.std.specs.List.{HoldsAt}
use Rattle.tt_span.specs.Time.{max_time}
use Rattle.tt_span.specs.Interval.{Interval, Holds}
use Rattle.tt_span.specs.Sources.{max_sources}
use Rattle.tt_fuse.specs.Fusion.{CanBeFused}
use Rattle.tt_cert.specs.declared.certificate.Stretch.{Stretch}
use Rattle.tt_cert.specs.declared.faults.CertFault.{CertFault}
use Rattle.tt_cert.specs.declared.faults.CertFault.TheVariants.{NoSource, TooMany, TooFew, LeftSet, RightSet, Cover, TooDeep, Depth, BadText, Memory}
use Rattle.tt_cert.specs.Proof.{Proof}

-- source i is there, and its span holds x
abbrev pub IsSourceAt : List Interval → ℕ → ℕ → Type 0
IsSourceAt spans x i = (i < length spans) × HoldsAt (λ span. Holds span x) spans i

-- the k-th of these sources is there, its span holds x, and it is not named before
abbrev pub IsMemberAt : List Interval → ℕ → List ℕ → ℕ → Type 0
IsMemberAt spans x sources k =
    IsSourceAt spans x (slice_index sources k) × ((j : ℕ) → j < k → slice_index sources j ≢ slice_index sources k)

-- so many sources, each named once, and each of them holds x
pub record IsSetAt (spans : List Interval) (count x : ℕ) (sources : List ℕ) : Type 0 where
  pub size : length sources ≡ count
  pub distinct : AllPairs (λ i j. i ≢ j) sources
  pub hold : All (IsSourceAt spans x) sources

-- the stretches lie side by side, in the order in which they are written, from start up to stop - 1
abbrev pub AreSideBySide : List Stretch → ℕ → ℕ → Type 0
AreSideBySide [] start stop = start ≡ stop
AreSideBySide (s ∷ rest) start stop = (s.from ≡ start) × (s.from ≤ s.to) × AreSideBySide rest (s.to + 1) stop

-- whether the span meets the stretch
abbrev pub meets : Stretch → Interval → Bool
meets s span = nat_le span.lo s.to && nat_le s.from span.hi

-- how many of the spans meet the stretch
abbrev pub meeting : List Interval → Stretch → ℕ
meeting spans s = count_by (meets s) spans

-- the left set is one of all sources but f that hold the lower end of the claim
abbrev pub HasLeftSet : List Interval → ℕ → Interval → Proof → Type 0
HasLeftSet spans f claim proof = IsSetAt spans (length spans - f) claim.lo proof.left

-- the right set is one of all sources but f that hold the upper end of the claim
abbrev pub HasRightSet : List Interval → ℕ → Interval → Proof → Type 0
HasRightSet spans f claim proof = IsSetAt spans (length spans - f) claim.hi proof.right

-- the stretches cover each time below the claim and each time above it, once
abbrev pub Covers : Interval → Proof → Type 0
Covers claim proof = AreSideBySide proof.below 0 claim.lo × AreSideBySide proof.above (claim.hi + 1) (max_time + 1)

-- fewer than so many sources meet each of the stretches
abbrev pub AreShallow : List Interval → ℕ → List Stretch → Type 0
AreShallow spans need stretches = All (λ s. meeting spans s < need) stretches

-- each of the stretches names the number of sources that meet it
abbrev pub NameDepths : List Interval → List Stretch → Type 0
NameDepths spans stretches = All (λ s. s.depth ≡ meeting spans s) stretches

-- fewer than so many sources meet each stretch
abbrev pub IsShallowBelow : List Interval → ℕ → Proof → Type 0
IsShallowBelow spans need proof = AreShallow spans need proof.below × AreShallow spans need proof.above

-- fewer than all sources but f meet each stretch
abbrev pub IsShallow : List Interval → ℕ → Proof → Type 0
IsShallow spans f proof = IsShallowBelow spans (length spans - f) proof

-- each stretch names the number of sources that meet it
abbrev pub NamesDepths : List Interval → Proof → Type 0
NamesDepths spans proof = NameDepths spans proof.below × NameDepths spans proof.above

-- the certificate proves that the claim is the fusion
pub record IsCertificate (spans : List Interval) (f : ℕ) (claim : Interval) (proof : Proof) : Type 0 where
  pub fusible : CanBeFused (length spans) f
  pub left : HasLeftSet spans f claim proof
  pub right : HasRightSet spans f claim proof
  pub covers : Covers claim proof
  pub shallow : IsShallow spans f proof
  pub depths : NamesDepths spans proof

-- what is wrong with the certificate, and that nothing that is looked at before is
abbrev pub IsFirstFault : List Interval → ℕ → Interval → Proof → CertFault → Type 0
IsFirstFault spans f claim proof NoSource = length spans ≡ 0
IsFirstFault spans f claim proof TooMany = max_sources < length spans
IsFirstFault spans f claim proof TooFew = (0 < length spans) × (length spans ≤ max_sources) × (length spans < 2 * f + 1)
IsFirstFault spans f claim proof LeftSet = CanBeFused (length spans) f × (HasLeftSet spans f claim proof → ⊥)
IsFirstFault spans f claim proof RightSet =
    CanBeFused (length spans) f × HasLeftSet spans f claim proof × (HasRightSet spans f claim proof → ⊥)
IsFirstFault spans f claim proof Cover =
    CanBeFused (length spans) f × HasLeftSet spans f claim proof × HasRightSet spans f claim proof × (Covers claim proof → ⊥)
IsFirstFault spans f claim proof TooDeep =
    CanBeFused (length spans) f × HasLeftSet spans f claim proof × HasRightSet spans f claim proof × Covers claim proof
    × (IsShallow spans f proof → ⊥)
IsFirstFault spans f claim proof Depth =
    CanBeFused (length spans) f × HasLeftSet spans f claim proof × HasRightSet spans f claim proof × Covers claim proof
    × IsShallow spans f proof × (NamesDepths spans proof → ⊥)
IsFirstFault spans f claim proof BadText = ⊥
IsFirstFault spans f claim proof Memory = ⊥

-- what a look at the certificate answers
abbrev pub IsVerdict : List Interval → ℕ → Interval → Proof → Result (Unit {0}) CertFault → Type 0
IsVerdict spans f claim proof verdict =
    MatchResult verdict (λ _. IsCertificate spans f claim proof) (λ fault. IsFirstFault spans f claim proof fault)

-- what a look at the depths of a certificate answers, where a possible time needs so many sources
abbrev pub IsDepthVerdict : List Interval → ℕ → Proof → Result (Unit {0}) CertFault → Type 0
IsDepthVerdict spans need proof verdict =
    MatchResult verdict (λ _. IsShallowBelow spans need proof × NamesDepths spans proof)
    (λ fault. ((fault ≡ TooDeep) × (IsShallowBelow spans need proof → ⊥))
    ⊎ ((fault ≡ Depth) × IsShallowBelow spans need proof × (NamesDepths spans proof → ⊥)))
