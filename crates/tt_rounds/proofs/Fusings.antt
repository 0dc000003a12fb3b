-- What a daemon fuses and publishes.
use Rattle.std.proofs.Common.{◌≡◌, ◌↔◌, ℕ, ◌-◌, ◌<◌, ◌≤◌, ◌⊎◌, Bool, true, false, List, [], ◌∷◌, ◌++◌, length, Option, Some, None, Result, Ok, Err, IfOk, OnOk, OnErr, IsErrOf, MatchResult, refl, sym, ap, ◌∙◌, arith, append-nil, append_assoc, length-append, ◌+◌}
use Rattle.std.specs.Prelude.{nat_lt, nat_eq}
use Rattle.std.specs.List.{last_or}
use Rattle.std.proofs.lemmas.List.{map-append, length-map}
use Rattle.std.proofs.lemmas.List.Elements.{All-nil, All-append}
use Rattle.std.proofs.lemmas.Bool.{lt-ltb, le-ltb, ltb-true, ltb-false, eq-eqb, ne_eqb}
use Rattle.std.proofs.lemmas.Bool.Decides.{nat_tests, Decides-or, Decides-ltb}
use Rattle.tt_span.specs.Time.{max_time}
use Rattle.tt_fuse.specs.Depth.{slow_fusion}
use Rattle.tt_source.specs.Table.{TableState, is_back, known_of}
use Rattle.tt_daemon.specs.Daemon.{DaemonState, IsBack, IsForward, KnowsEnough, spans_of}
use Rattle.tt_daemon.specs.Publication.{Publication, IsPublication}
use Rattle.tt_daemon.specs.declared.faults.DaemonFault.{DaemonFault}
use Rattle.tt_daemon.specs.declared.faults.DaemonFault.TheVariants as daemon
use Rattle.tt_publish.specs.Known.{last_of, GoesBack}
use Rattle.tt_publish.specs.declared.faults.PublishFault.{PublishFault}
use Rattle.tt_publish.specs.declared.faults.PublishFault.TheVariants as publishes
use Rattle.tt_rounds.specs.Fusing.{Fusion, Grows, fusion_in, fusions_in, fusion_found, fusion_at, is_before, goes_back}
use Rattle.tt_rounds.specs.Course.{publish, publish_fused, fuse_at}
use Rattle.tt_rounds.specs.Reports.{Fuses as Fused, Report, fusion_of, after_event, fuse_events, ReportsByMemory}
use Rattle.tt_rounds.specs.Tallies.{fusion_refused}
use Rattle.tt_rounds.specs.declared.tallies.Tally.{Tally}
use Rattle.tt_rounds.specs.Making.{before_rest, stand_of, MakesByMemory}
use Rattle.tt_rounds.proofs.Leading.{Leads-count}
use Rattle.tt_rounds.specs.declared.faults.NodeFault.{NodeFault}
use Rattle.tt_rounds.specs.Fault.{IsDeviceFault, IsRoundsFault}
use Rattle.tt_rounds.specs.declared.faults.NodeFault.TheVariants.{LinkFailed, ClockFailed, Publish}

-- ---- fusing

-- what a daemon's fusion ensures
pub record Fuses (d : DaemonState) (clock : ℕ) (r : Result Publication DaemonFault) : Type 0 where
  pub fused : IfOk r (λ p. (p.clock ≡ clock) × (p.spans ≡ spans_of d clock) × (p.faulty ≡ d.config.faulty))
  pub back : IsBack d clock → IsErrOf r daemon.ClockBack
  pub unknown : (IsForward d clock × (known_of d.table < d.config.sources - d.config.faulty)) → IsErrOf r daemon.Unknown
  pub found : IsForward d clock → KnowsEnough d → MatchResult r
      (λ p. slow_fusion (spans_of d clock) d.config.faulty ≡ Some p.span)
      (λ e. (e ≡ daemon.NoPoint) × (slow_fusion (spans_of d clock) d.config.faulty ≡ None))

is_back-true : (table : TableState) (clock : ℕ) → is_back table clock ≡ true → (clock < table.clock) ⊎ (max_time < clock)
is_back-true table clock = (Decides-or (nat_lt clock table.clock) (nat_lt max_time clock) (Decides-ltb clock table.clock) (Decides-ltb max_time clock)).0

is_back-false : (table : TableState) (clock : ℕ) → is_back table clock ≡ false → (table.clock ≤ clock) × (clock ≤ max_time)
is_back-false table clock is = (grind (arith, nat_tests), grind (arith, nat_tests))

-- what was found slowly is the fusion
found-answered : (d : DaemonState) (clock : ℕ) (r : Result Publication DaemonFault)
    → IfOk r (λ p. (p.clock ≡ clock) × (p.spans ≡ spans_of d clock) × (p.faulty ≡ d.config.faulty))
    → MatchResult r (λ p. slow_fusion (spans_of d clock) d.config.faulty ≡ Some p.span)
    (λ e. (e ≡ daemon.NoPoint) × (slow_fusion (spans_of d clock) d.config.faulty ≡ None))
    → fusion_found clock (spans_of d clock) d.config.faulty (slow_fusion (spans_of d clock) d.config.faulty) ≡ fusion_of r
found-answered d clock (Ok p) fused found =
    ap (fusion_found clock (spans_of d clock) d.config.faulty) found
    ∙ ap (λ c. Ok (record { clock = c; span = p.span; spans = spans_of d clock; faulty = d.config.faulty })) (sym fused.0)
    ∙ ap (λ spans. Ok (record { clock = p.clock; span = p.span; spans = spans; faulty = d.config.faulty })) (sym fused.1)
    ∙ ap (λ faulty. Ok (record { clock = p.clock; span = p.span; spans = p.spans; faulty = faulty })) (sym fused.2)
found-answered d clock (Err e) fused found =
    ap (fusion_found clock (spans_of d clock) d.config.faulty) found.1 ∙ ap (λ fault. Err fault) (sym found.0)

fusion-tested : (d : DaemonState) (clock : ℕ) (r : Result Publication DaemonFault) → Fuses d clock r
    → (back few : Bool) → is_back d.table clock ≡ back → nat_lt (known_of d.table) (d.config.sources - d.config.faulty) ≡ few
    → fusion_at d clock ≡ fusion_of r
fusion-tested d clock r f true few is fews = rw (is, f.back (is_back-true d.table clock is))
fusion-tested d clock r f false true is fews =
    let (not_back, in_time) = is_back-false d.table clock is in
    rw (is, fews, f.unknown (record { not_back = not_back; in_time = in_time }, ltb-true _ _ fews))
fusion-tested d clock r f false false is fews =
    let (not_back, in_time) = is_back-false d.table clock is in
    rw (is, fews) (found-answered d clock r f.fused (f.found (record { not_back = not_back; in_time = in_time }) (ltb-false _ _ fews)))

pub fusion-answered : (d : DaemonState) (clock : ℕ) (r : Result Publication DaemonFault) → Fuses d clock r → fusion_at d clock ≡ fusion_of r
fusion-answered d clock r f = fusion-tested d clock r f (is_back d.table clock) (nat_lt (known_of d.table) (d.config.sources - d.config.faulty)) refl refl

-- ---- publishing

-- the fusion of the last publication
abbrev last_fusion : Option Publication → Option Fusion
last_fusion None = None
last_fusion (Some p) = Some (fusion_in p)

last_or-fusions : (o : Option Publication) (items : List Publication) → last_or (last_fusion o) (fusions_in items) ≡ last_fusion (last_or o items)
last_or-fusions o [] = refl
last_or-fusions o (p ∷ items) = last_or-fusions (Some p) items

goes_back-last : (items : List Publication) (clock : ℕ) → goes_back (fusions_in items) clock ≡ is_before clock (last_fusion (last_of items))
goes_back-last items clock = ap (is_before clock) (last_or-fusions None items)

goes_back-true : (items : List Publication) (p : Publication) → GoesBack items p → goes_back (fusions_in items) p.clock ≡ true
goes_back-true items p (last, is, below) =
    goes_back-last items p.clock ∙ ap (λ o. is_before p.clock (last_fusion o)) is ∙ lt-ltb p.clock last.clock below

is_before-false : (p : Publication) (o : Option Publication) → ((last : Publication) → o ≡ Some last → ¬ (p.clock < last.clock)) → is_before p.clock (last_fusion o) ≡ false
is_before-false p None above = refl
is_before-false p (Some last) above = let h = above last refl in le-ltb p.clock last.clock (omega arith)

goes_back-false : (items : List Publication) (p : Publication) → ¬ GoesBack items p → goes_back (fusions_in items) p.clock ≡ false
goes_back-false items p forward =
    goes_back-last items p.clock ∙ is_before-false p (last_of items) (λ last is below. forward (last, is, below))

-- what a publication ensures
pub record Published (items after : List Publication) (p : Publication) (r : Result (Unit {0}) PublishFault) : Type 0 where
  pub published : OnOk r (after ≡ items ++ p ∷ [])
  pub unchanged : OnErr r (after ≡ items)
  pub back : IsErrOf r publishes.ClockBack ↔ GoesBack items p
  pub used_up : IsErrOf r publishes.UsedUp ↔ ((¬ GoesBack items p) × (length items ≡ 18446744073709551615))
  pub no_places : ¬ IsErrOf r publishes.Places

-- the answer of the rounds to that of the publication
abbrev pub answered : Result (Unit {0}) PublishFault → Result (Unit {0}) NodeFault
answered (Ok _) = Ok tt
answered (Err fault) = Err (Publish fault)

-- a fault of a publication is one of the rounds
pub publish-ends : (items after : List Publication) (p : Publication) (fault : PublishFault) → Published items after p (Err fault) → IsRoundsFault after (Publish fault)
publish-ends items after p publishes.ClockBack h = tt
publish-ends items after p publishes.UsedUp h = ap length h.unchanged ∙ (h.used_up.0 refl).1
publish-ends items after p publishes.Places h = absurd (h.no_places refl)
publish-ends items after p publishes.Memory h = tt

-- a device's fault is one of the rounds
pub device-ends : (items : List Publication) (fault : NodeFault) → IsDeviceFault fault → IsRoundsFault items fault
device-ends items LinkFailed is = tt
device-ends items ClockFailed is = tt
device-ends items _ is = absurd is

-- what is published has so many more
pub Grows-length : (old new : List Publication) (n : ℕ) → Grows old new 0 n → length new ≡ length old + n
Grows-length old new n grew = omega (arith, ap length grew.grew, length-append old grew.added, grew.count)

-- there was memory
granted : (d : DaemonState) (items : List Publication) (tally : Tally) (p : Publication) → goes_back (fusions_in items) p.clock ≡ false → nat_eq (length (fusions_in items)) 18446744073709551615 ≡ false
    → MakesByMemory (publish (fusion_in p)) (stand_of d (fusions_in items) tally) (stand_of d (fusions_in (items ++ p ∷ [])) tally) (Ok tt)
unfolding publish
granted d items tally p forward room = record {
  grants = true ∷ [];
  course = record { leads = λ past rest. rw (forward, room, append-nil past, map-append fusion_in items (p ∷ [])) };
}

-- there was none
not_granted : (d : DaemonState) (items : List Publication) (tally : Tally) (p : Publication) → goes_back (fusions_in items) p.clock ≡ false → nat_eq (length (fusions_in items)) 18446744073709551615 ≡ false
    → MakesByMemory (publish (fusion_in p)) (stand_of d (fusions_in items) tally) (stand_of d (fusions_in items) tally) (Err (Publish publishes.Memory))
unfolding publish
not_granted d items tally p forward room = record {
  grants = false ∷ [];
  course = record { leads = λ past rest. rw (forward, room, append-nil past) };
}

gone_back : (d : DaemonState) (items : List Publication) (tally : Tally) (p : Publication) → goes_back (fusions_in items) p.clock ≡ true
    → MakesByMemory (publish (fusion_in p)) (stand_of d (fusions_in items) tally) (stand_of d (fusions_in items) tally) (Err (Publish publishes.ClockBack))
unfolding publish
gone_back d items tally p back = record {
  grants = [];
  course = record { leads = λ past rest. rw (back, append-nil past) };
}

all_used : (d : DaemonState) (items : List Publication) (tally : Tally) (p : Publication) → goes_back (fusions_in items) p.clock ≡ false → nat_eq (length (fusions_in items)) 18446744073709551615 ≡ true
    → MakesByMemory (publish (fusion_in p)) (stand_of d (fusions_in items) tally) (stand_of d (fusions_in items) tally) (Err (Publish publishes.UsedUp))
unfolding publish
all_used d items tally p forward full = record {
  grants = [];
  course = record { leads = λ past rest. rw (forward, full, append-nil past) };
}

length-fusions : (items : List Publication) → length (fusions_in items) ≡ length items
length-fusions items = length-map items fusion_in

not_full : (items : List Publication) → ¬ (length items ≡ 18446744073709551615) → nat_eq (length (fusions_in items)) 18446744073709551615 ≡ false
not_full items room = rw (length-fusions items) (ne_eqb _ _ room)

full : (items : List Publication) → length items ≡ 18446744073709551615 → nat_eq (length (fusions_in items)) 18446744073709551615 ≡ true
full items used = rw (length-fusions items) (eq-eqb _ _ used)

publish-answered : (d : DaemonState) (items after : List Publication) (tally : Tally) (p : Publication) (r : Result (Unit {0}) PublishFault) → Published items after p r
    → MakesByMemory (publish (fusion_in p)) (stand_of d (fusions_in items) tally) (stand_of d (fusions_in after) tally) (answered r)
publish-answered d items after tally p (Ok _) h =
    let forward : ¬ GoesBack items p = λ back. cc (h.back.1 back) in
    let room : ¬ (length items ≡ 18446744073709551615) = λ used. cc (h.used_up.1 (forward, used)) in
    rw h.published (granted d items tally p (goes_back-false items p forward) (not_full items room))
publish-answered d items after tally p (Err publishes.ClockBack) h =
    rw h.unchanged (gone_back d items tally p (goes_back-true items p (h.back.0 refl)))
publish-answered d items after tally p (Err publishes.UsedUp) h =
    let (forward, used) = h.used_up.0 refl in
    rw h.unchanged (all_used d items tally p (goes_back-false items p forward) (full items used))
publish-answered d items after tally p (Err publishes.Places) h = absurd (h.no_places refl)
publish-answered d items after tally p (Err publishes.Memory) h =
    let forward : ¬ GoesBack items p = λ back. cc (h.back.1 back) in
    let room : ¬ (length items ≡ 18446744073709551615) = λ used. cc (h.used_up.1 (forward, used)) in
    rw h.unchanged (not_granted d items tally p (goes_back-false items p forward) (not_full items room))

-- what was fused was published, or not
pub fuse-published : (d d' : DaemonState) (items after : List Publication) (tally : Tally) (clock : ℕ) (p : Publication) (r : Result (Unit {0}) PublishFault) (old new : Report)
    → fusion_at d clock ≡ Ok (fusion_in p) → d' ≡ d → Published items after p r → new ≡ after_event (Fused (Ok (fusion_in p))) old
    → ReportsByMemory (fuse_at clock) (fuse_events clock) (stand_of d (fusions_in items) tally) (stand_of d' (fusions_in after) tally) (answered r) old new
unfolding fuse_at publish_fused fuse_events
fuse-published d d' items after tally clock p r old new is same h reports =
    let one = publish-answered d items after tally p r h in
    rw same (record {
      grants = one.grants;
      told = Fused (Ok (fusion_in p)) ∷ [];
      tells = record { tells = λ past rest. ap (λ fusion. Fused fusion ∷ []) is };
      reports = reports;
      course = record {
        leads = λ past rest.
            ap (λ fused. publish_fused fused (stand_of d (fusions_in items) tally past) (before_rest (record { readings = []; gifts = []; grants = one.grants }) rest)) is
            ∙ one.course.leads past rest;
      };
    })

-- nothing was fused
pub fuse-refused : (d d' : DaemonState) (items : List Fusion) (tally : Tally) (clock : ℕ) (fault : DaemonFault) (old new : Report)
    → fusion_at d clock ≡ Err fault → d' ≡ d → new ≡ after_event (Fused (Err fault)) old
    → ReportsByMemory (fuse_at clock) (fuse_events clock) (stand_of d items tally) (stand_of d' items (fusion_refused fault tally)) (Ok tt) old new
unfolding fuse_at publish_fused fuse_events
fuse-refused d d' items tally clock fault old new is same reports =
    rw same (record {
      grants = [];
      told = Fused (Err fault) ∷ [];
      tells = record { tells = λ past rest. ap (λ fusion. Fused fusion ∷ []) is };
      reports = reports;
      course = record {
        leads = λ past rest.
            ap (λ fused. publish_fused fused (stand_of d items tally past) (before_rest (record { readings = []; gifts = []; grants = [] }) rest)) is
            ∙ (Leads-count d items tally (fusion_refused fault)).leads past rest;
      };
    })

-- ---- what grew

pub Grows-none : (items : List Publication) (counted : ℕ) → Grows items items counted counted
Grows-none items counted = record { added = []; grew = sym (append-nil items); each = All-nil IsPublication; count = omega arith }

pub Grows-then : (old mid new : List Publication) (first second third : ℕ) → Grows old mid first second → Grows mid new second third → Grows old new first third
Grows-then old mid new first second third one two = record {
  added = one.added ++ two.added;
  grew = two.grew ∙ ap (λ items. items ++ two.added) one.grew ∙ append_assoc old one.added two.added;
  each = All-append IsPublication one.added two.added one.each two.each;
  count = omega (arith, one.count, two.count, length-append one.added two.added);
}

-- ---- what is reported

-- the last of a list is what was put behind it
last_or-behind : (o : Option Publication) (items : List Publication) (p : Publication) → last_or o (items ++ p ∷ []) ≡ Some p
last_or-behind o [] p = refl
last_or-behind o (x ∷ items) p = last_or-behind (Some x) items p

-- a fusion that was published is the last publication
pub last-published : (items after : List Publication) (p : Publication) (fusion : Option (Result Publication DaemonFault)) → fusion ≡ Some (Ok p) → after ≡ items ++ p ∷ []
    → (q : Publication) → fusion ≡ Some (Ok q) → last_of after ≡ Some q
last-published items after p fusion is grew q says =
    let same : p ≡ q = cc (is, says) in
    rw grew (last_or-behind None items p ∙ ap (λ x. Some x) same)

-- where nothing was fused, there is nothing to tell
pub last-refused : (items : List Publication) (fault : DaemonFault) (fusion : Option (Result Publication DaemonFault)) → fusion ≡ Some (Err fault)
    → (q : Publication) → fusion ≡ Some (Ok q) → last_of items ≡ Some q
last-refused items fault fusion is q says = absurd (cc (is, says))
