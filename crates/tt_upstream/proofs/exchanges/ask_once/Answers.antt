use Rattle.std.proofs.Common.{[], ◌∷◌, Some, option_copied, refl, inl, subst}
use Rattle.tt_upstream.specs.Exchange.{Drew, Emptied, Sent, Clocked, Hears, LineDid}
use Rattle.tt_upstream.specs.Server.{ServerState}
use Rattle.tt_upstream.proofs.Exchanging.{Hears-behind}
use Rattle.tt_upstream.proofs.exchanges.ask_once.Goals as goal

pub returns : goal.returns
returns g c =
    let drew = subst (λ (drawn : _). g.L.Line.does c.args.line.now (Drew drawn) c.draw.new.self) c.in-Some.is c.draw.ensures in
    let clocked = subst (λ (shown : _). g.L.Line.does c.empty.new.self (Clocked shown) c.now.new.self) c.in-Some-now.is c.now.ensures in
    let did : LineDid g.L.Line.does c.args.line.now (Sent c.in-Some.nonce ∷ Clocked (Some c.in-Some-now.sent) ∷ Emptied ∷ Drew (Some c.in-Some.nonce) ∷ []) c.send.new.self =
    (c.now.new.self, (c.empty.new.self, (c.draw.new.self, (c.args.line.now, refl, drew), c.empty.ensures), clocked), c.send.ensures) in
    record {
      asks = inl (record {
        nonce = c.in-Some.nonce;
        sent = c.in-Some-now.sent;
        hears = subst (λ (asked : ServerState). Hears g.L.Line.does c.args.line.now (Sent c.in-Some.nonce ∷ Clocked (Some c.in-Some-now.sent) ∷ Emptied ∷ Drew (Some c.in-Some.nonce) ∷ []) (option_copied c.args.key) asked c.hear.new.line c.hear.new.server c.hear.result) c.ask.ensures.after
            (Hears-behind g.L.Line.does c.args.line.now (Sent c.in-Some.nonce ∷ Clocked (Some c.in-Some-now.sent) ∷ Emptied ∷ Drew (Some c.in-Some.nonce) ∷ []) c.send.new.self (option_copied c.args.key) c.ask.new.self c.hear.new.line c.hear.new.server c.hear.result did c.hear.ensures);
      });
    }
