use Rattle.std.proofs.Common.{refl, sym}
use Rattle.tt_rounds.proofs.Addressing.{IsPeerAt-place, nobody-past}
use Rattle.tt_rounds.proofs.addresses.peer_at.Goals as goal

pub returns-then-is_at : goal.returns-then-is_at
returns-then-is_at c =
    rw c.number_of.ensures (rw (sym c.end_of-there.ensures) (IsPeerAt-place c.args.addresses.now c.end_of-there.result c.peers.place (c.if-is_at.ensures.0 refl) c.peers.invariant))

pub returns : goal.returns
returns c = λ other below. rw (sym c.end_of-there.ensures) (nobody-past c.args.addresses.now c.end_of-there.result c.peers.place other c.peers-test.false c.peers.invariant)
