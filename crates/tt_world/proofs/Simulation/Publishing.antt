-- A machine that fuses keeps what its past says.
use Rattle.std.proofs.Common.{◌≡◌, ℕ, ◌-◌, cond, ltb, List, ◌∷◌, ◌++◌, length, is_some, Result, Ok, Err, refl, sym, ap, ◌∙◌, append-nil}
use Rattle.std.specs.List.{range_with_len}
use Rattle.tt_span.specs.Interval.{Interval}
use Rattle.tt_source.specs.Table.{SourceState, stated_at, known_of as known_of_table}
use Rattle.tt_fuse.specs.Depth.{slow_fusion}
use Rattle.tt_world.proofs.Simulation.Lives.{is_of-own, is_of-other}
use Rattle.tt_world.specs.Life.{Life, life_at}
use Rattle.tt_world.specs.declared.events.Event.{Event}
use Rattle.tt_world.specs.declared.events.Action.TheVariants.{Fuse}
use Rattle.tt_publish.specs.declared.readings.FusedSpan.{FusedSpan}
use Rattle.tt_daemon.specs.Config.{Configuration}
use Rattle.tt_world.specs.Publications.{spans_of, known_of, publication_from, fusion_of, one_if_made, publications_of}
use Rattle.tt_world.specs.Reply.{fusion_reply}
use Rattle.tt_world.specs.Private.Machine.{MachineState, source_of, machine_of}
use Rattle.tt_daemon.specs.Daemon.{spans_of as spans_of_daemon}
use Rattle.tt_world.specs.Private.Step.{fusion_on, publish_turn}
use Rattle.tt_world.proofs.Simulation.Ranges.{map-map, count_by-map}
use Rattle.tt_world.proofs.Simulation.Waiting.{happens}
use Rattle.tt_world.proofs.Simulation.Kept.{machine_of-fuse, machine_if_fused}

-- what is published by so many known sources with these spans
abbrev fusion_by : Configuration → ℕ → ℕ → List Interval → Result FusedSpan ℕ
fusion_by config clock known spans =
    cond (ltb known (config.sources - config.faulty)) (Err 701) (publication_from clock (slow_fusion spans config.faulty))

module _ (config : Configuration) (past : List Event) (at m clock : ℕ) where
  -- the life that the machine is in
  abbrev life : Life
  life = life_at past m

  known_of_table-machine_of : known_of_table (machine_of config past life).daemon.table ≡ known_of config past life
  known_of_table-machine_of = count_by-map (λ (source : SourceState). is_some source.statement) (λ i. source_of past life i) (range_with_len 0 config.sources)

  pub spans_of_daemon-machine_of : spans_of_daemon (machine_of config past life).daemon clock ≡ spans_of config past life clock
  spans_of_daemon-machine_of = map-map (λ (source : SourceState). stated_at config.drift source.statement clock) (λ i. source_of past life i) (range_with_len 0 config.sources)

  pub fusion_on-machine_of : fusion_on (machine_of config past life) clock ≡ fusion_of config past life clock
  fusion_on-machine_of =
      ap (λ (known : ℕ). fusion_by config clock known (spans_of_daemon (machine_of config past life).daemon clock)) known_of_table-machine_of
      ∙ ap (λ (spans : List Interval). fusion_by config clock (known_of config past life) spans) spans_of_daemon-machine_of

  -- the machine with this added to its publications
  abbrev with_publications : List FusedSpan → MachineState
  with_publications publications = record (machine_of config past life) { clock = clock; publications = publications }

  publish_turn-by : (made : Result FusedSpan ℕ)
      → publish_turn (machine_of config past life) clock made
      ≡ record { state = with_publications (publications_of config past life ++ one_if_made made); reply = fusion_reply (length (publications_of config past life)) made }
  publish_turn-by (Ok publication) = refl
  publish_turn-by (Err number) =
      ap (λ (ps : List FusedSpan). record { state = with_publications ps; reply = fusion_reply (length (publications_of config past life)) (Err number) })
      (sym (append-nil (publications_of config past life)))

  fused_here : with_publications (publications_of config past life ++ one_if_made (fusion_of config past life clock)) ≡ machine_of config (happens at (Fuse m clock) ∷ past) life
  fused_here = sym (machine_of-fuse config past at m clock life ∙ ap (machine_if_fused config past clock life) (is_of-own past m))

  pub publish_turn-fusion_on : publish_turn (machine_of config past life) clock (fusion_on (machine_of config past life) clock)
      ≡ record { state = machine_of config (happens at (Fuse m clock) ∷ past) life; reply = fusion_reply (length (publications_of config past life)) (fusion_of config past life clock) }
  publish_turn-fusion_on =
      ap (publish_turn (machine_of config past life) clock) fusion_on-machine_of
      ∙ publish_turn-by (fusion_of config past life clock)
      ∙ ap (λ (machine : MachineState). record { state = machine; reply = fusion_reply (length (publications_of config past life)) (fusion_of config past life clock) }) fused_here

  pub machine_of-fuse_other : (j : ℕ) → (j ≡ m → ⊥) → machine_of config past (life_at past j) ≡ machine_of config (happens at (Fuse m clock) ∷ past) (life_at past j)
  machine_of-fuse_other j other =
      sym (machine_of-fuse config past at m clock (life_at past j) ∙ ap (machine_if_fused config past clock (life_at past j)) (is_of-other past m j other)
      ∙ ap (λ (ps : List FusedSpan). record (machine_of config past (life_at past j)) { publications = ps }) (append-nil (publications_of config past (life_at past j))))
