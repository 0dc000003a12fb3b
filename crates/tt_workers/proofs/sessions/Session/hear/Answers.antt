use Rattle.std.proofs.Common.{refl, true}
use Rattle.std.specs.Io.KnownBytes.{append_known}
use Rattle.tt_workers.specs.Worker.{SessionState}
use Rattle.tt_workers.proofs.Hearing.{turn-ok, turn-over}
use Rattle.tt_workers.proofs.sessions.Session.hear.Goals as goal

pub returns-clause-on : goal.returns-clause-on
returns-clause-on g c =
    let s = c.self.inside in
    let said = c.take_turn-post.ensures in
    let new = c.take_turn-post.new in
    let at : SessionState = record {
      visit = s.visit;
      held = s.held.items;
      left = g.I.Read.remaining s.input;
      written = append_known (g.O.Write.contents s.writer.device) s.writer.unsent.items;
      first_left = g.I.Read.remaining s.first_input.value;
      first_written = g.O.Write.contents s.first_output.value;
    } in
    let after : SessionState = record at { visit = new.visit; written = append_known (g.O.Write.contents new.writer.device) new.writer.unsent.items } in
    turn-ok at c.args.self.now c.args.post after c.take_turn-post.result.0 c.args.bytes.now c.take_turn-post.result.1 c.self.view_is said.goes said.on refl refl refl

pub returns-clause-over : goal.returns-clause-over
returns-clause-over g c =
    let s = c.self.inside in
    let said = c.take_turn-post.ensures in
    let new = c.take_turn-post.new in
    let at : SessionState = record {
      visit = s.visit;
      held = s.held.items;
      left = g.I.Read.remaining s.input;
      written = append_known (g.O.Write.contents s.writer.device) s.writer.unsent.items;
      first_left = g.I.Read.remaining s.first_input.value;
      first_written = g.O.Write.contents s.first_output.value;
    } in
    let after : SessionState = record at { visit = new.visit; written = append_known (g.O.Write.contents new.writer.device) new.writer.unsent.items } in
    turn-over _ _ at c.args.self.now c.args.post after c.take_turn-post.result.0 c.args.bytes.now
    (λ w. append_known (g.O.Write.contents w.device) w.unsent.items) (λ _. true) s.writer new.writer c.take_turn-post.result.1 c.self.view_is said.goes said.over refl refl refl refl
