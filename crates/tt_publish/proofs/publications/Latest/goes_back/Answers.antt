use Rattle.std.proofs.Common.{◌≡◌, ◌∙◌, Some, ap, sym}
use Rattle.tt_publish.specs.Known.{last_read_of}
use Rattle.tt_publish.proofs.Beginnings.{goes_back_by}
use Rattle.tt_publish.proofs.publications.Latest.goes_back.Goals as goal

pub returns-in-Some : goal.returns-in-Some
returns-in-Some c =
    let read : last_read_of c.args.self.now.items ≡ Some c.in-Some.last = ap (λ k. last_read_of k.items) (sym c.self.view_is) ∙ (sym c.self.invariant.1 ∙ c.in-Some.is) in
    goes_back_by c.args.self.now.items c.args.next.now c.clock.result c.in-Some.last c.clock.ensures.value read
