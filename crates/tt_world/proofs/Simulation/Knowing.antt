-- Whether a source is known, by what is kept.
use Rattle.std.proofs.Common.{◌≡◌, ℕ, zero, suc, ◌<◌, ◌≤◌, false, List, [], ◌∷◌, length, get_or, is_some, slice_get, Some, inl, inr, refl, sym, ap, ◌∙◌, arith}
use Rattle.std.proofs.lemmas.Bool.{cases_lt, lt-ltb, le-ltb}
use Rattle.std.proofs.lemmas.List.FromFn.{length-map-range_with_len}
use Rattle.std.proofs.lemmas.Option.{same_Some, slice_get_within}
use Rattle.tt_source.specs.Table.{SourceState, unknown_source, is_known_of}
use Rattle.tt_world.specs.declared.events.Event.{Event}
use Rattle.tt_daemon.specs.Config.{Configuration}
use Rattle.tt_world.specs.Life.{life_at}
use Rattle.tt_world.specs.Config.{config_at}
use Rattle.tt_world.specs.State.{WorldState, state_of, knows}
use Rattle.tt_world.specs.Private.Machine.{MachineState, source_of, machine_of}
use Rattle.tt_world.proofs.Simulation.Ranges.{get_or-made, slice_get-made}

get_or-past : (xs : List SourceState) (i : ℕ) (d : SourceState) → length xs ≤ i → get_or xs i d ≡ d
get_or-past [] i d h = refl
get_or-past (x ∷ xs) zero d h = absurd (omega arith)
get_or-past (x ∷ xs) (suc i) d h = get_or-past xs i d (omega arith)

module _ (configs : List Configuration) (past : List Event) (world : WorldState) (stands : world ≡ state_of configs past) (m i : ℕ) where
  count : length world.machines ≡ length configs
  count = ap (λ (w : WorldState). length w.machines) stands ∙ length-map-range_with_len (λ k. machine_of (config_at configs k) past (life_at past k)) 0 (length configs)

  -- a machine that is not there knows nothing
  pub unknown-beyond : length world.machines ≤ m → false ≡ knows configs past m i
  unknown-beyond beyond = let none = le-ltb m (length configs) (omega (arith, count)) in rw none refl

  kept_of_source : (i < (config_at configs m).sources → is_known_of (machine_of (config_at configs m) past (life_at past m)).daemon.table i ≡ knows configs past m i) → m < length configs
      → is_known_of (machine_of (config_at configs m) past (life_at past m)).daemon.table i ≡ knows configs past m i
  kept_of_source inside there =
      let config = config_at configs m in
      let named = lt-ltb m (length configs) there in
      elim (cases_lt i config.sources) [
        | inl within ↦ inside within
        | inr beyond ↦
            let none = le-ltb i config.sources beyond in
            ap (λ (source : SourceState). is_some source.statement)
            (get_or-past (machine_of config past (life_at past m)).daemon.table.sources i unknown_source (omega (arith, length-map-range_with_len (λ k. source_of past (life_at past m) k) 0 config.sources)))
            ∙ (rw (named, none) refl)
      ]

  -- what a machine that is there knows
  pub known-there : (machine : MachineState) → slice_get world.machines m ≡ Some machine → is_known_of machine.daemon.table i ≡ knows configs past m i
  known-there machine found =
      let config = config_at configs m in
      let there : m < length configs = omega (arith, count, slice_get_within world.machines m machine found) in
      let same : machine_of config past (life_at past m) ≡ machine =
      same_Some _ _ (sym (slice_get-made (λ k. machine_of (config_at configs k) past (life_at past k)) (length configs) m there) ∙ ap (λ (w : WorldState). slice_get w.machines m) (sym stands) ∙ found) in
      ap (λ (x : MachineState). is_known_of x.daemon.table i) (sym same)
      ∙ kept_of_source (λ within.
      let named = lt-ltb m (length configs) there in
      let asks = lt-ltb i config.sources within in
      ap (λ (source : SourceState). is_some source.statement) (get_or-made (λ k. source_of past (life_at past m) k) config.sources i unknown_source within)
      ∙ (rw (named, asks) refl)) there
