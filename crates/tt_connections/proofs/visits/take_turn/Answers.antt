use Rattle.std.proofs.Common.{◌++◌, [], length, take, refl, ap, ◌∙◌, arith}
use Rattle.std.proofs.lemmas.List.{length-drop}
use Rattle.tt_stream.proofs.Writing.{moved_on}
use Rattle.tt_session.proofs.Hearing.{on_err}
use Rattle.tt_connections.specs.Visits.{visit_of}
use Rattle.tt_connections.proofs.Turning.{post-same}
use Rattle.tt_connections.proofs.Visiting.{step-goes, step-client, turns-nil, turns-step, turns-cut}
use Rattle.tt_connections.proofs.visits.take_turn.Goals as goal

pub loop-rest-init : goal.loop-rest-init
loop-rest-init g c =
    let station = c.args.station.now in
    record {
      stands = ([], refl, turns-nil g.C.Clock.gives g.C.Clock.failed g.V.Presence.says c.args.waits station.client (g.O.ByteWriter.taken c.args.writer.now) (visit_of station c.args.talk.now) station.post);
      client = refl;
      goes = post-same station.post station.post refl;
      part = c.requires.part;
      few = omega arith;
      flushed = λ whole. whole;
      sound = refl;
    }

pub returns-in_err-taken-clause-goes : goal.returns-in_err-taken-clause-goes
returns-in_err-taken-clause-goes g c =
    let is = c.loop-rest.invariant in
    let s = c.in_err-taken.ensures.err in
    step-goes g.C.Clock.gives g.C.Clock.failed g.V.Presence.says c.args.waits c.args.station.now.client c.args.station.now.post
    c.loop-rest.station c.go_on.new.service c.loop-rest.talk c.go_on.new.talk s.own s.text s.is_commit is.goes is.part s.steps

pub returns-in_err-taken-clause-err : goal.returns-in_err-taken-clause-err
returns-in_err-taken-clause-err g c =
    let is = c.loop-rest.invariant in
    let old = c.args.station.now in
    on_err c.from_residual.result
    (turns-cut g.C.Clock.gives g.C.Clock.failed g.V.Presence.says c.args.waits old.client g.O.ByteWriter.taken g.O.ByteWriter.flushed
    c.args.writer.now c.loop-rest.writer c.go_on.new.writer (visit_of old c.args.talk.now) old.post
    c.loop-rest.station c.go_on.new.service c.loop-rest.talk c.go_on.new.talk is.stands.0 c.loop-rest.rest.now c.args.bytes.now
    is.stands.1 is.flushed is.stands.2 is.client is.part c.in_err-taken.ensures.err)

pub loop-rest-preserved : goal.loop-rest-preserved
loop-rest-preserved g c =
    let is = c.loop-rest.invariant in
    let (done, split, on) = is.stands in
    let old = c.args.station.now in
    let mid = c.loop-rest.station in
    let new = c.go_on.new.service in
    let rest = c.loop-rest.rest.now in
    let n = c.in_ok-taken.taken in
    let s = c.in_ok-taken.ensures.ok in
    let left = ap length c.split_at.ensures.back ∙ length-drop n rest in
    record {
      stands = (
        done ++ take n rest,
        moved_on c.args.bytes.now done rest _ n split c.split_at.ensures.back,
        turns-step g.C.Clock.gives g.C.Clock.failed g.V.Presence.says c.args.waits old.client
            (g.O.ByteWriter.taken c.args.writer.now) (g.O.ByteWriter.taken c.loop-rest.writer) (g.O.ByteWriter.taken c.go_on.new.writer) (visit_of old c.args.talk.now) old.post
            mid new c.loop-rest.talk c.go_on.new.talk done (take n rest) on is.client s,
      );
      client =
          step-client g.C.Clock.gives g.C.Clock.failed g.V.Presence.says c.args.waits old.client
          mid new c.loop-rest.talk c.go_on.new.talk (take n rest) s.text s.is_commit is.client is.part s.steps;
      goes =
          step-goes g.C.Clock.gives g.C.Clock.failed g.V.Presence.says c.args.waits old.client old.post
          mid new c.loop-rest.talk c.go_on.new.talk (take n rest) s.text s.is_commit is.goes is.part s.steps;
      part = c.in_ok-taken.ensures.part;
      few = omega (arith, is.few, c.in_ok-taken.ensures.few, c.in_ok-taken.ensures.taken, left);
      flushed = λ whole. c.in_ok-taken.ensures.flushed (is.flushed whole);
      sound = c.in_ok-taken.ensures.sound ∙ is.sound;
    }
