-- It is one call of `report_rounds`.
use Rattle.tt_server.proofs.Calls.{heard-call, reported-call, wire-stays}
use Rattle.tt_server.proofs.Publishing.{reported-spans}
use Rattle.tt_server.proofs.rounds.round.Goals as goal

pub returns-clause-call : goal.returns-clause-call
returns-clause-call g c =
    let (tally, reports, did) = c.report_rounds.ensures.course in
    reported-call _ _ _ _ _ _ _ _ _ _ _ _ _ _ _ _ _ reports

pub returns-clause-heard : goal.returns-clause-heard
returns-clause-heard g c =
    let (tally, reports, did) = c.report_rounds.ensures.course in
    heard-call (λ _ _ _. Unit {0}) (λ link. record { wire = link.hearing.wire; addresses = link.hearing.hosts.addresses.items; is_six = link.hearing.hosts.is_six; socket = link.hearing.hosts.socket }) _ _ _ _ _ _ _ _ _ _ _ _ _ _ _ _ reports

pub returns-clause-wire : goal.returns-clause-wire
returns-clause-wire g c =
    let (tally, reports, did) = c.report_rounds.ensures.course in
    wire-stays (λ _ _ _. Unit {0}) (λ link. record { wire = link.hearing.wire; addresses = link.hearing.hosts.addresses.items; is_six = link.hearing.hosts.is_six; socket = link.hearing.hosts.socket }) reports.exchanges _ _ reports.did

pub returns-clause-published : goal.returns-clause-published
returns-clause-published g c =
    let (tally, reports, did) = c.report_rounds.ensures.course in
    reported-spans _ _ _ _ _ _ _ _ _ _ _ _ _ _ _ reports
