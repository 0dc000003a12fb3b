-- What a daemon's rounds count: the polls that were sent, the packets that were taken or refused, and the fusions that were refused.
use Rattle.std.specs.Prelude.{ℕ, ◌+◌}
use Rattle.tt_source.specs.declared.faults.SourceFault.{SourceFault}
use Rattle.tt_source.specs.declared.faults.SourceFault.TheVariants as source
use Rattle.tt_daemon.specs.declared.faults.DaemonFault.{DaemonFault}
use Rattle.tt_daemon.specs.declared.faults.DaemonFault.TheVariants as daemon
use Rattle.tt_rounds.specs.declared.tallies.RefusedPackets.{RefusedPackets}
use Rattle.tt_rounds.specs.declared.tallies.RefusedFusions.{RefusedFusions}
use Rattle.tt_rounds.specs.declared.tallies.Tally.{Tally}

-- nothing was counted yet
abbrev pub no_tally : Tally
no_tally = record {
  polls = 0;
  taken = 0;
  packets = record { no_source = 0; clock_back = 0; nonces_used_up = 0; bad_message = 0; not_mine = 0; not_outstanding = 0; other_epoch = 0 };
  fusions = record { clock_back = 0; no_point = 0; unknown = 0 };
}

-- one more poll was sent
abbrev pub one_poll : Tally → Tally
one_poll t = record t { polls = t.polls + 1 }

-- one more packet was taken
abbrev pub one_taken : Tally → Tally
one_taken t = record t { taken = t.taken + 1 }

-- one more packet was refused for this
abbrev pub one_packet : SourceFault → RefusedPackets → RefusedPackets
one_packet source.NoSource p = record p { no_source = p.no_source + 1 }
one_packet source.ClockBack p = record p { clock_back = p.clock_back + 1 }
one_packet source.NoncesUsedUp p = record p { nonces_used_up = p.nonces_used_up + 1 }
one_packet source.BadMessage p = record p { bad_message = p.bad_message + 1 }
one_packet source.NotMine p = record p { not_mine = p.not_mine + 1 }
one_packet source.OtherEpoch p = record p { other_epoch = p.other_epoch + 1 }
one_packet source.NotOutstanding p = record p { not_outstanding = p.not_outstanding + 1 }

abbrev pub packet_refused : SourceFault → Tally → Tally
packet_refused fault t = record t { packets = one_packet fault t.packets }

-- one more fusion was refused for this
abbrev pub one_fusion : DaemonFault → RefusedFusions → RefusedFusions
one_fusion daemon.ClockBack p = record p { clock_back = p.clock_back + 1 }
one_fusion daemon.Unknown p = record p { unknown = p.unknown + 1 }
one_fusion daemon.NoPoint p = record p { no_point = p.no_point + 1 }

abbrev pub fusion_refused : DaemonFault → Tally → Tally
fusion_refused fault t = record t { fusions = one_fusion fault t.fusions }

-- how many packets and fusions were refused
abbrev pub packets_in : RefusedPackets → ℕ
packets_in p = p.no_source + p.clock_back + p.nonces_used_up + p.bad_message + p.not_mine + p.not_outstanding + p.other_epoch

abbrev pub refused_in : Tally → ℕ
refused_in t = packets_in t.packets + t.fusions.clock_back + t.fusions.no_point + t.fusions.unknown

-- how many packets were taken, and packets and fusions refused
abbrev pub counted_in : Tally → ℕ
counted_in t = t.taken + refused_in t
