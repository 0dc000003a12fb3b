use Rattle.std.proofs.Common.{◌+◌, ◌≤◌, inl, inr, length, arith}
use Rattle.std.proofs.lemmas.Grind.{common_steps}
use Rattle.tt_shared.proofs.Putting.{put_written, not_this}
use Rattle.tt_shared.proofs.memory.MemoryPlacePlace.write_all_at.Goals as goal

pub returns-clause-did : goal.returns-clause-did
returns-clause-did c =
    let fits : c.args.offset + length c.args.bytes.now ≤ length c.args.self.now.bytes = grind (arith, common_steps) in (
      put_written c.args.offset c.args.bytes.now c.args.self.now.bytes c.put-2.new.self.bytes fits (grind (arith, common_steps)),
      λ cannot. elim cannot [
        | inl past ↦ absurd (omega (arith, past, fits))
        | inr told ↦ not_this c.args.self.now.fails_at c.saturating_add-self-inside.result _ (grind (arith, common_steps)) told (grind (arith, common_steps))
      ],
    )
