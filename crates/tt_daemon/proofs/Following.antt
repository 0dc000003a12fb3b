-- The ends that are kept beside a table, as it changes.
use Rattle.std.proofs.Common.{◌≡◌, ℕ, ◌<◌, ◌≤◌, inl, inr, Bool, true, false, cond, List, length, map, take, set, sym, ap, subst, ◌∙◌, arith}
use Rattle.std.specs.Prelude.{Option, Some, None, IfSome, Result, Ok, Err, not}
use Rattle.std.proofs.Math.ListN.{length-set}
use Rattle.std.proofs.lemmas.Bool.{cases_lt, cases_eq}
use Rattle.std.proofs.lemmas.List.{length-map, length-take-le, get_or-map, get_or-take, get_or_past, get_or_default, get_or-set_same, get_or-set_other, same_lists}
use Rattle.std.proofs.lemmas.List.Elements.{All-get_or, All-from_get_or}
use Rattle.std.proofs.lemmas.Simd.{map-map}
use Rattle.tt_span.specs.Time.{max_time}
use Rattle.tt_span.specs.Interval.{Interval}
use Rattle.tt_span.specs.Statement.{Statement, stated_at}
use Rattle.tt_source.specs.declared.faults.SourceFault.{SourceFault}
use Rattle.tt_source.specs.declared.faults.SourceFault.TheVariants.{NoSource, ClockBack}
use Rattle.tt_source.specs.Table.{TableState, SourceState, IsTable, IsSourceState, unknown_source, source_at, has_source, is_back, take_of, after_statement, statement_of_message}
use Rattle.tt_poll.specs.Reading.{read_of2}
use Rattle.tt_fuse.specs.Stated.{Stated, IsStated, statement_of, with_statement, AreGotBy, AreAmongFirst, AreSpansAt, spans_at}
use Rattle.tt_daemon.specs.Config.{Configuration}
use Rattle.tt_daemon.specs.Daemon.{IsDaemon, AreEndsOfTable}

-- what came by a clock reading came by a later one
got-later : (clock later : ℕ) (o : Option Statement) → clock ≤ later → IfSome o (λ statement. statement.got ≤ clock) → IfSome o (λ statement. statement.got ≤ later)
got-later clock later None h got = tt
got-later clock later (Some statement) h got = omega arith

-- a source that has made a statement is there
known-there : (t : TableState) (i : ℕ) (statement : Statement) → (source_at t i).statement ≡ Some statement → i < length t.sources
known-there t i statement is =
    elim (cases_lt i (length t.sources)) [
      | inl there ↦ there
      | inr past ↦ let none : None ≡ Some statement = sym (ap (λ (source : SourceState). source.statement) (get_or_past t.sources i unknown_source past)) ∙ is in absurd (cc)
    ]

-- the table in which a source has made a statement
abbrev stated_in : TableState → ℕ → ℕ → Statement → TableState
stated_in t i clock statement = record t { clock = clock; sources = set t.sources i (record { waiting = None; statement = Some statement }) }

-- what two tests did not refuse, and the message did not
after-ok : (a b : Bool) (e f : SourceFault) (t t' : TableState) (i clock : ℕ) (r : Result Statement SourceFault) → cond (not a) (Err e) (cond b (Err f) (after_statement t i clock r)) ≡ Ok t' → (statement : Statement) × (t' ≡ stated_in t i clock statement)
after-ok true true e f t t' i clock r h = absurd (cc)
after-ok true false e f t t' i clock (Err g) h = absurd (cc)
after-ok true false e f t t' i clock (Ok statement) h = (statement, cc)
after-ok false b e f t t' i clock r h = absurd (cc)

take-ok : (t t' : TableState) (i clock : ℕ) (bytes : List ℕ) → take_of t i clock bytes ≡ Ok t' → (statement : Statement) × (t' ≡ stated_in t i clock statement)
take-ok t t' i clock bytes h = after-ok (has_source t i) (is_back t clock) NoSource ClockBack t t' i clock (statement_of_message t.machine t.epoch i (source_at t i).waiting clock (read_of2 bytes)) h

-- the ends follow a table in which a source has made a statement
follows-stated : (t : TableState) (ends : Stated) (i clock : ℕ) (made new : Statement) → AreEndsOfTable t ends → IsStated (with_statement ends i new) → i < length ends.statements → (source_at (stated_in t i clock made) i).statement ≡ Some new → AreEndsOfTable (stated_in t i clock made) (with_statement ends i new)
follows-stated t ends i clock made new of stated inside is = record {
  stated = stated;
  same_drift = of.same_drift;
  same_statements = λ j. elim (cases_eq j i) [
    | inl here ↦
        ap (λ k. statement_of (with_statement ends i new) k) here ∙ get_or-set_same ends.statements i (Some new) None inside ∙ sym is ∙ ap (λ k. (source_at (stated_in t i clock made) k).statement) (sym here)
    | inr other ↦
        get_or-set_other ends.statements i j (Some new) None other ∙ of.same_statements j ∙ sym (ap (λ (source : SourceState). source.statement) (get_or-set_other t.sources i j (record { waiting = None; statement = Some made }) unknown_source other))
  ];
}

-- a daemon whose table takes a packet is a daemon still, and its ends follow
pub follows-take : (config : Configuration) (t t' : TableState) (ends ends' : Stated) (i clock : ℕ) (bytes : List ℕ) (new : Statement) → take_of t i clock bytes ≡ Ok t' → IsDaemon (record { config = config; table = t }) → AreEndsOfTable t ends → IsTable t' → ends' ≡ with_statement ends i new → IsStated ends' → (source_at t' i).statement ≡ Some new →
    IsDaemon (record { config = config; table = t' }) × AreEndsOfTable t' ends'
follows-take config t t' ends ends' i clock bytes new taken daemon of valid same stated is =
    let w = take-ok t t' i clock bytes taken in
    let each : length t'.sources ≡ length t.sources = ap (λ (table : TableState). length table.sources) w.1 ∙ length-set t.sources i (record { waiting = None; statement = Some w.0 }) in
    let size : length ends.statements ≡ length ends'.statements = sym (ap (λ (e : Stated). length e.statements) same ∙ length-set ends.statements i (Some new)) in
    let there : i < length t'.sources = known-there t' i new is in (
      record {
        configuration = daemon.configuration;
        table = valid;
        each_source = each ∙ daemon.each_source;
        same_drift = ap (λ (table : TableState). table.drift) w.1 ∙ daemon.same_drift;
      },
      subst (λ (e : Stated). AreEndsOfTable t' e) (sym same)
          (subst (λ (table : TableState). AreEndsOfTable table (with_statement ends i new)) (sym w.1)
          (follows-stated t ends i clock w.0 new of (subst IsStated same stated) (omega (arith, size, stated.each_source, valid.sources_in)) (subst (λ (table : TableState). (source_at table i).statement ≡ Some new) w.1 is))),
    )

module _ (t : TableState) (ends : Stated) (of : AreEndsOfTable t ends) (table : IsTable t) where
  -- a source that is not there has made no statement
  pub among-table : AreAmongFirst ends (length t.sources)
  among-table i past = of.same_statements i ∙ ap (λ (source : SourceState). source.statement) (get_or_past t.sources i unknown_source past)

  -- each statement came at the table's clock or before
  pub got-table : (clock : ℕ) → t.clock ≤ clock → AreGotBy ends clock
  got-table clock later = All-from_get_or (λ o. IfSome o (λ statement. statement.got ≤ clock)) ends.statements None (λ i inside.
      elim (cases_lt i (length t.sources)) [
        | inl there ↦
            let source : IsSourceState t.last t.clock (source_at t i) = All-get_or (IsSourceState t.last t.clock) t.sources i unknown_source there table.past in
            subst (λ (o : Option Statement). IfSome o (λ statement. statement.got ≤ clock)) (sym (of.same_statements i))
            (got-later t.clock clock (source_at t i).statement later source.got)
        | inr past ↦ subst (λ (o : Option Statement). IfSome o (λ statement. statement.got ≤ clock)) (sym (among-table i past)) tt
      ])

  -- the spans of the ends are those of the table's sources
  pub spans-table : (clock : ℕ) → spans_at ends clock (length t.sources) ≡ map (λ source. stated_at t.drift source.statement clock) t.sources
  spans-table clock =
      let few : length t.sources ≤ 16 = table.sources_in in
      let size : length ends.statements ≡ 16 = of.stated.each_source in
      let count = length-take-le (length t.sources) ends.statements (omega arith) in
      let same : take (length t.sources) ends.statements ≡ map (λ (source : SourceState). source.statement) t.sources =
      same_lists (take (length t.sources) ends.statements) (map (λ (source : SourceState). source.statement) t.sources) (count ∙ sym (length-map t.sources (λ (source : SourceState). source.statement)))
      (λ k d inside.
      let there : k < length t.sources = omega arith in
      let within : k < length ends.statements = omega arith in
      get_or-take (length t.sources) ends.statements k d there ∙ get_or_default ends.statements k d None within ∙ of.same_statements k ∙ sym (get_or-map (λ (source : SourceState). source.statement) t.sources k unknown_source d there)) in
      ap (λ drift. map (λ o. stated_at drift o clock) (take (length t.sources) ends.statements)) of.same_drift
      ∙ ap (map (λ o. stated_at t.drift o clock)) same
      ∙ map-map (λ o. stated_at t.drift o clock) (λ (source : SourceState). source.statement) t.sources

-- the spans that a daemon makes of its table are those that its ends speak of
pub AreSpansAt-table : (t : TableState) (ends : Stated) (clock : ℕ) (spans : List Interval) → AreEndsOfTable t ends → IsTable t → t.clock ≤ clock → clock ≤ max_time →
    spans ≡ map (λ source. stated_at t.drift source.statement clock) t.sources → AreSpansAt ends clock spans
AreSpansAt-table t ends clock spans of table later in_time same =
    let count : length spans ≡ length t.sources = ap length same ∙ length-map t.sources (λ (source : SourceState). stated_at t.drift source.statement clock) in
    record {
      in_time = in_time;
      got = got-table t ends of table clock later;
      few = let few : length t.sources ≤ 16 = table.sources_in in omega (arith, count);
      among = subst (λ (n : ℕ). AreAmongFirst ends n) (sym count) (among-table t ends of table);
      aged = ap (spans_at ends clock) count ∙ spans-table t ends of table clock ∙ sym same;
    }
