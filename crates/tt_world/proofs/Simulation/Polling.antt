-- A machine that polls a source keeps what its past says.
use Rattle.std.proofs.Common.{◌≡◌, ℕ, ◌+◌, ◌-◌, ◌^◌, ◌<◌, Bool, true, false, cond, eqb, ltb, List, ◌∷◌, map, length, get_or, set, Some, Ok, refl, sym, ap, ◌∙◌, eq-eqb, ne_eqb}
use Rattle.std.specs.List.{range_with_len}
use Rattle.tt_source.specs.Table.{Sending, SourceState, TableState, unknown_source, source_at, is_back, poll_of}
use Rattle.tt_world.proofs.Simulation.Lives.{is_of-own, is_of-other}
use Rattle.tt_world.specs.Life.{Life, life_at}
use Rattle.tt_world.specs.declared.events.Event.{Event}
use Rattle.tt_world.specs.declared.events.Action.TheVariants.{Send}
use Rattle.tt_daemon.specs.Config.{Configuration}
use Rattle.tt_world.specs.Past.{sends_of}
use Rattle.tt_world.specs.Sources.{outstanding_poll, statement_of}
use Rattle.tt_world.specs.Publications.{publications_of}
use Rattle.tt_world.specs.Private.Machine.{source_of, machine_of}
use Rattle.tt_world.specs.Private.Step.{with_table}
use Rattle.tt_world.proofs.Simulation.Ranges.{get_or-made, set-made}
use Rattle.tt_world.proofs.Simulation.Waiting.{happens}
use Rattle.tt_world.proofs.Simulation.Kept.{kept, machine_of-send, machine_if_sent}

-- the table after a poll
abbrev pub polled_table : TableState → ℕ → ℕ → TableState
polled_table table i clock = record table {
  last = table.last + 1;
  clock = clock;
  sources = set table.sources i (record (source_at table i) { waiting = Some (record { nonce = table.last + 1; clock = clock }) });
}

pub poll_of-polled : (table : TableState) (i clock : ℕ) → ltb i (length table.sources) ≡ true → is_back table clock ≡ false → eqb table.last (2 ^ 64 - 1) ≡ false
    → poll_of table i clock ≡ Ok (polled_table table i clock)
poll_of-polled table i clock there in_time unused = rw (there, in_time, unused) refl

module _ (config : Configuration) (past : List Event) (at m s clock : ℕ) where
  -- the life that the machine is in
  abbrev life : Life
  life = life_at past m

  -- the poll
  abbrev sending : Sending
  sending = record { nonce = sends_of past life + 1; clock = clock }

  -- a source after the poll, where here says whether it is the one that is asked
  abbrev if_asked : ℕ → Bool → SourceState
  if_asked i here = record { waiting = cond here (Some sending) (outstanding_poll past life i); statement = statement_of past life i }

  asked_sources : s < config.sources
      → set (map (λ i. source_of past life i) (range_with_len 0 config.sources)) s
      (record (get_or (map (λ i. source_of past life i) (range_with_len 0 config.sources)) s unknown_source) { waiting = Some sending })
      ≡ map (λ i. if_asked i (eqb s i)) (range_with_len 0 config.sources)
  asked_sources there =
      set-made (λ i. source_of past life i) (λ i. if_asked i (eqb s i)) config.sources s _
      (ap (λ (source : SourceState). record source { waiting = Some sending }) (get_or-made (λ i. source_of past life i) config.sources s unknown_source there)
      ∙ sym (ap (if_asked s) (eq-eqb s s refl)))
      (λ j other. sym (ap (if_asked j) (ne_eqb s j (λ same. other (sym same)))))

  pub with_table-polled : s < config.sources
      → with_table (machine_of config past life) clock (polled_table (machine_of config past life).daemon.table s clock) ≡ machine_of config (happens at (Send m s clock) ∷ past) life
  with_table-polled there =
      ap (λ (sources : List SourceState). kept (machine_of config past life) (sends_of past life + 1) clock sources clock (publications_of config past life))
      (asked_sources there)
      ∙ sym (machine_of-send config past at m s clock life ∙ ap (machine_if_sent config past s clock life) (is_of-own past m))

  pub machine_of-send_other : (j : ℕ) → (j ≡ m → ⊥) → machine_of config past (life_at past j) ≡ machine_of config (happens at (Send m s clock) ∷ past) (life_at past j)
  machine_of-send_other j other =
      sym (machine_of-send config past at m s clock (life_at past j) ∙ ap (machine_if_sent config past s clock (life_at past j)) (is_of-other past m j other))
