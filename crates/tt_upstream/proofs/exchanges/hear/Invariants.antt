-- What was heard so far left the wait on.
use Rattle.std.proofs.Common.{◌≡◌, [], length, option_copied}
use Rattle.tt_upstream.specs.Exchange.{Hears}
use Rattle.tt_upstream.specs.declared.exchanges.Exchange.TheVariants.{Silent}
use Rattle.tt_upstream.proofs.exchanges.hear.Given as goal

abbrev pub invariant-loop : goal.invariant-loop
invariant-loop g l =
    record {
      whole : length l.buffer ≡ 128;
      hears : Hears g.L.Line.does l.initial.line [] (option_copied l.initial.key) l.initial.server l.line l.server Silent;
    }
