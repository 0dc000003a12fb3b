use Rattle.std.proofs.Common.{◌+◌, subst, sym, ◌∙◌, arith}
use Rattle.tt_audit.specs.Watch.{WatchState}
use Rattle.tt_audit.proofs.Following.{IsWatchedTo, is-at, not-bad, is-bad, watchable-here, breach-here, good-more, bad-more, watched-nothing}
use Rattle.tt_audit.proofs.watching.first_broken.Goals as goal
use Rattle.tt_audit.proofs.watching.first_broken.Goals.{then-not-is_bad+in_ok-breach+in_default, else-not-is_bad}

pub loop-number-init : goal.loop-number-init
loop-number-init c = subst (λ (s : WatchState). IsWatchedTo c.args.configs.now c.args.events.now 0 s) (sym c.new-watcher.ensures) (watched-nothing c.args.configs.now c.args.events.now)

pub note-requires : goal.note-requires
note-requires c =
    let configs = c.args.configs.now in
    let events = c.args.events.now in
    let n = c.loop-number.number in
    let event = c.index-events-number.result in
    let reply = c.index-replies-number.result in
    let at = is-at configs events c.args.replies.now n event reply c.requires.replies c.loop-number-test.true (omega (arith, c.requires.long)) c.index-events-number.is c.index-replies-number.is in
    watchable-here configs events n event reply c.loop-number.watcher at c.loop-number.invariant (record { few = c.requires.few; valid = c.requires.valid }) (not-bad _ reply c.is_bad.ensures c.if-not-is_bad.true)

pub returns-in-Some : goal.returns-in-Some
returns-in-Some c =
    let configs = c.args.configs.now in
    let events = c.args.events.now in
    let n = c.loop-number.number in
    let event = c.index-events-number.result in
    let reply = c.index-replies-number.result in
    let at = is-at configs events c.args.replies.now n event reply c.requires.replies c.loop-number-test.true (omega (arith, c.requires.long)) c.index-events-number.is c.index-replies-number.is in
    let seen = breach-here configs events n event reply c.loop-number.watcher at c.loop-number.invariant (record { few = c.requires.few; valid = c.requires.valid }) (not-bad _ reply c.is_bad.ensures c.if-not-is_bad.true) in
    (event, at.there, c.loop-number.invariant.none, sym seen ∙ sym c.in_ok-breach.ensures.breach ∙ c.in-Some.is)

pub loop-number-preserved : goal.loop-number-preserved
loop-number-preserved c =
    let configs = c.args.configs.now in
    let events = c.args.events.now in
    let n = c.loop-number.number in
    let event = c.index-events-number.result in
    let reply = c.index-replies-number.result in
    let at = is-at configs events c.args.replies.now n event reply c.requires.replies c.loop-number-test.true (omega (arith, c.requires.long)) c.index-events-number.is c.index-replies-number.is in
    elim c.if-not-is_bad.branch [
      | then-not-is_bad+in_ok-breach+in_default w ↦
          let more = good-more configs events n event reply c.loop-number.watcher at c.loop-number.invariant (record { few = c.requires.few; valid = c.requires.valid }) (not-bad _ reply c.is_bad.ensures w.if-not-is_bad.true)
          (sym w.in_ok-breach.ensures.breach ∙ w.in_default.is) in
          subst (λ (s : WatchState). IsWatchedTo configs events (n + 1) s) (sym (w.watcher-is ∙ w.in_ok-breach.ensures.keeps)) more
      | else-not-is_bad w ↦
          subst (λ (s : WatchState). IsWatchedTo configs events (n + 1) s) (sym w.watcher-is)
          (bad-more configs events n event reply c.loop-number.watcher at c.loop-number.invariant (is-bad _ reply c.is_bad.ensures w.if-not-is_bad.false))
    ]
