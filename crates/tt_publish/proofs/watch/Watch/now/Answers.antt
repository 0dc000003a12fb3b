use Rattle.std.proofs.Common.{rules, ◌≡◌, [], None, Some, refl, ap, sym, ◌∙◌}
use Rattle.tt_publish.specs.Known.{last_read_of}
use Rattle.tt_publish.proofs.Beginnings.{last_read, nothing_read}
use Rattle.tt_publish.proofs.watch.Watch.now.Goals as goal

pub returns-in_default : goal.returns-in_default
returns-in_default g c =
    let none : last_read_of c.self.inside.latest.items ≡ None = sym c.in_default.ensures in
    let empty : c.look.new.self.items ≡ [] = ap (λ w. w.items) (sym c.self.view_is) ∙ nothing_read c.self.inside.latest.items none in
    record {
      looks = record {
        same = search rules;
        seen = search rules;
        reading = search rules;
        nothing = (λ _. empty, λ _. refl);
        unread = search rules;
        clock_failed = search rules;
        clock_back = search rules;
        sound = search rules;
      };
    }

pub returns : goal.returns
returns g c =
    let read : last_read_of c.look.new.self.items ≡ Some c.in-Some.last = ap (λ w. last_read_of w.items) (sym c.self.view_is) ∙ sym c.in-Some.ensures in
    let last = last_read c.look.new.self.items c.in-Some.last read in
    record {
      looks = record {
        same = search rules;
        seen = search rules;
        reading = search rules;
        nothing = search rules;
        unread = search rules;
        clock_failed = search rules;
        clock_back = λ back. (last.0, c.in-Ok.time, last.1, c.in-Ok.ensures.gave, rw last.2 (c.read_at.ensures.clock_back.0 back));
        sound = search rules;
      };
    }
