-- The certificate of a fusion that is written in the one way.
use Rattle.std.specs.Prelude.{◌≡◌, ℕ, ◌+◌, ◌-◌, ◌<◌, ◌≤◌, ◌⊎◌, List, length, map, filter, take, All, Any}
use Rattle.std.specs.List.{enumerate_from}
use Rattle.tt_span.specs.Time.{max_time}
use Rattle.tt_span.specs.Interval.{Interval}
use Rattle.tt_fuse.specs.Depth.{holds}
use Rattle.tt_cert.specs.declared.certificate.Stretch.{Stretch}
use Rattle.tt_cert.specs.Proof.{Proof}
use Rattle.tt_cert.specs.Valid.{AreSideBySide, meeting}

-- the numbers of the sources that hold x, ascending
abbrev pub sources_at : List Interval → ℕ → List ℕ
sources_at spans x = map (λ source. source.0) (filter (λ source. holds x source.1) (enumerate_from 0 spans))

-- some source's span begins at t, or ends just before it
abbrev pub IsCut : List Interval → ℕ → Type 0
IsCut spans t = Any (λ span. (span.lo ≡ t) ⊎ (span.hi + 1 ≡ t)) spans

-- the stretch begins at start or at a cut, no cut lies further on in it, and it names the number of sources that meet it
pub record IsPiece (spans : List Interval) (start : ℕ) (s : Stretch) : Type 0 where
  pub begins : (s.from ≡ start) ⊎ IsCut spans s.from
  pub uncut : (t : ℕ) → s.from < t → t ≤ s.to → IsCut spans t → ⊥
  pub named : s.depth ≡ meeting spans s

-- the stretches lie side by side from start up to stop - 1, cut at every cut and nowhere else
pub record ArePieces (spans : List Interval) (start stop : ℕ) (stretches : List Stretch) : Type 0 where
  pub side_by_side : AreSideBySide stretches start stop
  pub pieces : All (IsPiece spans start) stretches

-- the least source numbers at each end, ascending, and stretches that are cut at every cut and nowhere else
pub record IsCanonical (spans : List Interval) (f : ℕ) (claim : Interval) (proof : Proof) : Type 0 where
  pub left : proof.left ≡ take (length spans - f) (sources_at spans claim.lo)
  pub right : proof.right ≡ take (length spans - f) (sources_at spans claim.hi)
  pub below : ArePieces spans 0 claim.lo proof.below
  pub above : ArePieces spans (claim.hi + 1) (max_time + 1) proof.above
