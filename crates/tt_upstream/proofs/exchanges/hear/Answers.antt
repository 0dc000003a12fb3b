use Rattle.std.proofs.Common.{◌∙◌, [], take, Some, option_copied, subst, sym, ap}
use Rattle.tt_upstream.specs.Exchange.{Received, received_as, exchanged_of, Clocked}
use Rattle.tt_upstream.proofs.Exchanging.{Hears-nothing, Hears-unclocked, Hears-awaited, Hears-ended}
use Rattle.tt_upstream.proofs.exchanges.hear.Goals as goal
use Rattle.tt_upstream.proofs.exchanges.hear.Goals.{in-Came+in-Some+else-not-is_awaited+else-now-end, in-Passing}

pub returns-in_default : goal.returns-in_default
returns-in_default g c =
    let came = subst (λ (receipt : _). g.L.Line.does c.loop.line (received_as receipt c.receive.new.buffer) c.receive.new.self) c.in-Came.is c.receive.ensures in
    let clocked = subst (λ (shown : _). g.L.Line.does c.receive.new.self (Clocked shown) c.now.new.self) c.in_default.is c.now.ensures in
    Hears-unclocked g.L.Line.does c.args.line.now [] (option_copied c.args.key) c.args.server.now c.loop.line c.loop.server _ c.receive.new.self c.now.new.self c.loop.invariant.hears came clocked

pub returns-then-not-is_awaited : goal.returns-then-not-is_awaited
returns-then-not-is_awaited g c =
    let came = subst (λ (receipt : _). g.L.Line.does c.loop.line (received_as receipt c.receive.new.buffer) c.receive.new.self) c.in-Came.is c.receive.ensures in
    let clocked = subst (λ (shown : _). g.L.Line.does c.receive.new.self (Clocked shown) c.now.new.self) c.in-Some.is c.now.ensures in
    let cut = subst (λ (length : _). g.L.Line.does c.loop.line (Received (Some (take length c.receive.new.buffer))) c.receive.new.self) (sym c.min.ensures) came in
    Hears-ended g.L.Line.does c.args.line.now [] (option_copied c.args.key) c.args.server.now c.loop.line c.loop.server _ _ c.receive.new.self c.now.new.self c.hear-heard.new.self c.exchanged.result c.loop.invariant.hears cut clocked
    c.hear-heard.ensures.heard (sym c.is_awaited.ensures ∙ c.if-not-is_awaited.true) (c.exchanged.ensures ∙ ap exchanged_of c.hear-heard.ensures.answer)

pub returns-then-now-end : goal.returns-then-now-end
returns-then-now-end g c =
    let came = subst (λ (receipt : _). g.L.Line.does c.loop.line (received_as receipt c.receive.new.buffer) c.receive.new.self) c.in-Came.is c.receive.ensures in
    let clocked = subst (λ (shown : _). g.L.Line.does c.receive.new.self (Clocked shown) c.now.new.self) c.in-Some.is c.now.ensures in
    let cut = subst (λ (length : _). g.L.Line.does c.loop.line (Received (Some (take length c.receive.new.buffer))) c.receive.new.self) (sym c.min.ensures) came in
    Hears-awaited g.L.Line.does c.args.line.now [] (option_copied c.args.key) c.args.server.now c.loop.line c.loop.server _ _ c.receive.new.self c.now.new.self c.hear-heard.new.self c.loop.invariant.hears cut clocked
    c.hear-heard.ensures.heard (sym c.is_awaited.ensures ∙ c.if-not-is_awaited.false)

pub returns-in-Ended : goal.returns-in-Ended
returns-in-Ended g c =
    let came = subst (λ (receipt : _). g.L.Line.does c.loop.line (received_as receipt c.receive.new.buffer) c.receive.new.self) c.in-Ended.is c.receive.ensures in
    Hears-nothing g.L.Line.does c.args.line.now [] (option_copied c.args.key) c.args.server.now c.loop.line c.loop.server c.receive.new.self c.loop.invariant.hears came

pub loop-preserved : goal.loop-preserved
loop-preserved g c =
    elim c.match-receive.branch [
      | in-Came+in-Some+else-not-is_awaited+else-now-end w ↦
          let came = subst (λ (receipt : _). g.L.Line.does c.loop.line (received_as receipt c.receive.new.buffer) c.receive.new.self) w.in-Came.is c.receive.ensures in
          let clocked = subst (λ (shown : _). g.L.Line.does c.receive.new.self (Clocked shown) w.now.new.self) w.in-Some.is w.now.ensures in
          let cut = subst (λ (length : _). g.L.Line.does c.loop.line (Received (Some (take length c.receive.new.buffer))) c.receive.new.self) (sym w.min.ensures) came in
          rw w.line-is (rw w.server-is (record {
            whole = c.receive.array_long;
            hears = Hears-awaited g.L.Line.does c.args.line.now [] (option_copied c.args.key) c.args.server.now c.loop.line c.loop.server _ _ c.receive.new.self w.now.new.self w.hear-heard.new.self c.loop.invariant.hears cut clocked
                w.hear-heard.ensures.heard (sym w.is_awaited.ensures ∙ w.if-not-is_awaited.false);
          }))
      | in-Passing w ↦
          let came = subst (λ (receipt : _). g.L.Line.does c.loop.line (received_as receipt c.receive.new.buffer) c.receive.new.self) w.in-Passing.is c.receive.ensures in
          rw w.line-is (rw w.server-is (record {
            whole = c.receive.array_long;
            hears = Hears-nothing g.L.Line.does c.args.line.now [] (option_copied c.args.key) c.args.server.now c.loop.line c.loop.server c.receive.new.self c.loop.invariant.hears came;
          }))
    ]
