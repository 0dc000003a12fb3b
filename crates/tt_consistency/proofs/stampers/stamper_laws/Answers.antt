use Rattle.std.proofs.Common.{refl}
use Rattle.tt_consistency.proofs.BesideSessions.{stamper-rises, stamper-leased, stampers-apart, life-stamps, stamper-within, either-consistent}
use Rattle.tt_consistency.proofs.Snapshots.{snapshot-whole, snapshot-stays}
use Rattle.tt_consistency.proofs.WorkedSnapshots.{worked_stamper, worked_table, worked_after, worked-right, worked-made, worked-becomes}
use Rattle.tt_consistency.proofs.stampers.stamper_laws.Goals as goal

pub returns : goal.returns
returns g c = record {
  rising = stamper-rises;
  leased = stamper-leased;
  apart = stampers-apart;
  sessions = life-stamps g.C.Clock.gives g.C.Clock.failed g.V.Presence.says;
  within = stamper-within;
  consistent = either-consistent g.C.Clock.gives g.C.Clock.failed g.V.Presence.says;
  whole = snapshot-whole;
  unchanging = snapshot-stays;
  worked_snapshot = (worked_stamper, worked_table, worked_after, 209, worked-made, worked-right, refl, worked-becomes);
}
