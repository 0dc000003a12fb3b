use Rattle.std.proofs.Common.{◌≡◌, ◌∙◌, ℕ, ap, sym, subst}
use mathlib.Core.List.{IsPrefix}
use Rattle.tt_history.specs.Chains.{chain_of, items_of}
use Rattle.tt_history.proofs.Adding.{items_prefix}
use Rattle.tt_history.proofs.Prefixes.{one_begins}
use Rattle.tt_history.proofs.histories.Glance.compare.Goals as goal

pub returns : goal.returns
returns g c =
    let both = c.learn.new.self.log in
    let mine : ℕ = chain_of c.self.inside.first.log in
    let theirs : ℕ = chain_of c.other.inside.first.log in
    let one : theirs ≡ mine = ap (λ k. k.source.chain) c.other.view_is ∙ (ap (λ s. s.chain) c.requires ∙ sym (ap (λ k. k.source.chain) c.self.view_is)) in
    let begins : IsPrefix c.self.inside.seen.log both = subst (λ l. IsPrefix l both) (ap (λ s. s.log) c.again-both.ensures) c.learn.ensures.2 in
    let this : IsPrefix (items_of mine c.self.inside.seen.log) (items_of mine both) = items_prefix mine c.self.inside.seen.log both begins in
    let that : IsPrefix (items_of theirs c.other.inside.seen.log) (items_of mine both) = subst (λ (k : ℕ). IsPrefix (items_of k c.other.inside.seen.log) (items_of mine both)) (sym one) (items_prefix mine c.other.inside.seen.log both c.learn.ensures.3) in
    rw (← c.self.view_is, ← c.other.view_is) (one_begins (items_of mine c.self.inside.seen.log) (items_of theirs c.other.inside.seen.log) (items_of mine both) this that)
