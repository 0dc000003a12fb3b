use Rattle.std.proofs.Common.{◌≡◌, IfSome, ap, subst}
use Rattle.std.proofs.lemmas.List.Elements.{All-pop}
use Rattle.tt_publish.specs.Known.{WatchState}
use Rattle.tt_tests.proofs.publications.opened.Goals as goal

pub returns-in-Some-Some : goal.returns-in-Some-Some
returns-in-Some-Some g c =
    let P : WatchState → Type 0 = λ w. w.source ≡ c.in-Ok.teller.source in
    let one = All-pop P c.in-Ok.watches.items c.pop-second.new.self.items c.pop-second.result c.pop-second.ensures.items (λ k d at. ap (λ w. w.source) (c.in-Ok.ensures.watches k d at)) in
    let two = All-pop P c.pop-second.new.self.items c.pop-first.new.self.items c.pop-first.result c.pop-first.ensures.items one.0 in
    (subst (λ r. IfSome r P) c.in-Some-Some.is-0 two.1, subst (λ r. IfSome r P) c.in-Some-Some.is-1 one.1)
