use Rattle.std.proofs.Common.{◌≡◌, All, vec_len, vec_capacity}
use Rattle.tt_publish.specs.Known.{WatchState}
use Rattle.tt_publish.proofs.teller.Teller.watches.Given as goal

abbrev pub invariant-loop : goal.invariant-loop
invariant-loop l = record {
  same : l.self ≡ l.fn.self;
  count : vec_len l.watches ≡ l.counter;
  room : vec_capacity l.watches ≡ l.readers;
  each : All (λ (w : WatchState). w ≡ record { source = l.fn.self.source; drift = l.fn.drift; items = l.fn.self.items }) l.watches.items;
}
