-- The spans of sources, made one after another.
use Rattle.std.proofs.Common.{◌≡◌, ℕ, ◌+◌, ◌<◌, Bool, true, false, cond, List, [], ◌∷◌, ◌++◌, length, take, map, get_or, set, ap, sym, ◌∙◌}
use Rattle.std.specs.Prelude.{Ok, Err}
use Rattle.std.proofs.lemmas.List.{take_more, take_more_set, get_or-map}
use Rattle.tt_span.specs.Interval.{Interval}
use Rattle.tt_source.specs.declared.faults.SourceFault.{SourceFault}
use Rattle.tt_source.specs.declared.faults.SourceFault.TheVariants.{NoSource, ClockBack}
use Rattle.tt_source.specs.Table.{TableState, SourceState, unknown_source, source_at, aged_of, stated_at}

-- one more span is in its place
pub take-set_span : (spans out : List Interval) (i : ℕ) (v : Interval) → i < length spans → i < length out → take i spans ≡ take i out →
    get_or out i v ≡ v → take (i + 1) (set spans i v) ≡ take (i + 1) out
take-set_span spans out i v inside within before here =
    take_more_set spans i v inside ∙ ap (λ (xs : List Interval). xs ++ v ∷ []) before ∙ ap (λ (x : Interval). take i out ++ x ∷ []) (sym here) ∙ sym (take_more out i v within)

-- what two tests did not refuse
passed : (a b : Bool) (e f : SourceFault) (s v : Interval) → cond a (Err e) (cond b (Err f) (Ok s)) ≡ Ok v → s ≡ v
passed true b e f s v h = cc
passed false true e f s v h = cc
passed false false e f s v h = cc

-- a span that was not refused
pub aged-ok : (table : TableState) (i clock : ℕ) (v : Interval) → aged_of table i clock ≡ Ok v → stated_at table.drift (source_at table i).statement clock ≡ v
aged-ok table i clock v h = passed _ _ NoSource ClockBack _ v h

-- the span of source i among those of all sources
pub get_or-spans : (drift : ℕ) (sources : List SourceState) (i clock : ℕ) (v : Interval) → i < length sources →
    get_or (map (λ source. stated_at drift source.statement clock) sources) i v ≡ stated_at drift (get_or sources i unknown_source).statement clock
get_or-spans drift sources i clock v inside = get_or-map (λ (source : SourceState). stated_at drift source.statement clock) sources i unknown_source v inside
