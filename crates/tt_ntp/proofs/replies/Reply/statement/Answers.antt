use Rattle.std.proofs.Common.{◌≡◌, ℕ, List, Result, Ok, Err, subst, sym}
use Rattle.std.specs.Prelude.{IfOk}
use Rattle.tt_source.specs.Statement.{Statement, IsPossibleNow}
use Rattle.tt_source.specs.declared.faults.SourceFault.{SourceFault}
use Rattle.tt_ntp.specs.declared.queries.Query.{Query}
use Rattle.tt_ntp.specs.declared.replies.Reply.{Reply}
use Rattle.tt_ntp.specs.Reading.{read_of}
use Rattle.tt_ntp.specs.Aged.{statement_of, IsServerRight}
use Rattle.tt_ntp.proofs.Ageing.{is_possible}
use Rattle.tt_ntp.proofs.replies.Reply.statement.Goals as goal

possible : (r : Result Statement SourceFault) (reply : Reply) (margin sent got : ℕ) → IfOk r (λ s. s ≡ statement_of margin reply sent got) →
    IfOk r (λ s. (query : Query) (bytes : List ℕ) (ppm clock x : ℕ) → read_of query bytes ≡ Ok reply → IsServerRight ppm margin bytes sent got clock x → IsPossibleNow ppm s clock x)
possible (Ok s) reply margin sent got value = λ query bytes ppm clock x read right.
    subst (λ (t : Statement). IsPossibleNow ppm t clock x) (sym value) (is_possible query bytes reply ppm margin sent got clock x read right)
possible (Err fault) reply margin sent got value = tt

pub returns-clause-possible : goal.returns-clause-possible
returns-clause-possible c = possible c.new.result c.args.self.now c.args.margin c.args.sent c.args.got (rw c.widen.ensures at c.new.ensures.value)
