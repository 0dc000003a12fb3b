-- Courses over devices that keep their lists.
use Rattle.std.proofs.Common.{◌≡◌, ℕ, List, [], ◌∷◌, ◌++◌, Option, Result, sym, ap, ◌∙◌, append_assoc, append-nil}
use Rattle.tt_rounds.specs.Link.{Exchange, gifts_in, sent_by, sends_in, ClockGives, LinkDoes}
use Rattle.tt_rounds.specs.Course.{Stand, Part}
use Rattle.tt_rounds.specs.Making.{part_with, Makes}
use Rattle.tt_rounds.specs.Reports.{Report, PartEvents, after_events, Reports}
use Rattle.tt_rounds.specs.Lists.{GivesInTurn, Line, MovesInTurn, IsCourse, IsReported}
use Rattle.tt_rounds.specs.declared.faults.NodeFault.{NodeFault}

given_all : (before after : List (Option ℕ)) (readings : List (Option ℕ)) → ClockGives GivesInTurn before readings after → before ≡ readings ++ after
given_all before after [] same = sym same
given_all before after (reading ∷ readings) (mid, first, rest) = first ∙ ap (λ l. reading ∷ l) (given_all mid after readings rest)

left_all : (before after : Line) (exchanges : List Exchange) → LinkDoes MovesInTurn before exchanges after → before.left ≡ gifts_in exchanges ++ after.left
left_all before after [] same = ap (λ line. line.left) (sym same)
left_all before after (x ∷ xs) (mid, first, rest) = first.given ∙ ap (λ l. x.gift ∷ l) (left_all mid after xs rest)

sent_all : (before after : Line) (exchanges : List Exchange) → LinkDoes MovesInTurn before exchanges after → after.sent ≡ before.sent ++ sends_in exchanges
sent_all before after [] same = ap (λ line. line.sent) same ∙ sym (append-nil before.sent)
sent_all before after (x ∷ xs) (mid, first, rest) =
    sent_all mid after xs rest ∙ ap (λ l. l ++ sends_in xs) first.sent ∙ append_assoc before.sent (sent_by x.call x.gift) (sends_in xs)

-- the course of a part, computed from the lists
course_all : (part : Part (Unit {0})) (clock clock' : List (Option ℕ)) (line line' : Line) (from to : List Exchange → Stand) (answer : Result (Unit {0}) NodeFault)
    → (m : Makes GivesInTurn MovesInTurn part clock clock' line line' from to answer)
    → part (from []) (record { readings = clock; gifts = line.left; grants = m.grants }) ≡ part_with answer (to m.exchanges) (record { readings = clock'; gifts = line'.left; grants = [] })
course_all part clock clock' line line' from to answer m =
    ap (λ readings. part (from []) (record { readings = readings; gifts = line.left; grants = m.grants })) (given_all clock clock' m.readings m.gave)
    ∙ ap (λ gifts. part (from []) (record { readings = m.readings ++ clock'; gifts = gifts; grants = m.grants })) (left_all line line' m.exchanges m.did)
    ∙ ap (λ grants. part (from []) (record { readings = m.readings ++ clock'; gifts = gifts_in m.exchanges ++ line'.left; grants = grants })) (sym (append-nil m.grants))
    ∙ m.course.leads [] (record { readings = clock'; gifts = line'.left; grants = [] })

pub IsCourse-over_lists : (part : Part (Unit {0})) (clock clock' : List (Option ℕ)) (line line' : Line) (from to : List Exchange → Stand) (answer : Result (Unit {0}) NodeFault)
    → Makes GivesInTurn MovesInTurn part clock clock' line line' from to answer → IsCourse part clock clock' line line' from to answer
IsCourse-over_lists part clock clock' line line' from to answer m = record {
  exchanges = m.exchanges;
  grants = m.grants;
  course = course_all part clock clock' line line' from to answer m;
  sent = sent_all line line' m.exchanges m.did;
}

pub IsReported-over_lists : (part : Part (Unit {0})) (events : PartEvents) (clock clock' : List (Option ℕ)) (line line' : Line) (from to : List Exchange → Stand) (answer : Result (Unit {0}) NodeFault) (old new : Report)
    → Reports GivesInTurn MovesInTurn part events clock clock' line line' from to answer old new → IsReported part events clock clock' line line' from to answer old new
IsReported-over_lists part events clock clock' line line' from to answer old new m = record {
  course = record {
    exchanges = m.exchanges;
    grants = m.grants;
    course = course_all part clock clock' line line' from to answer (record { readings = m.readings; exchanges = m.exchanges; grants = m.grants; gave = m.gave; did = m.did; course = m.course });
    sent = sent_all line line' m.exchanges m.did;
  };
  report =
      let told : events (from []) (record { readings = clock; gifts = line.left; grants = m.grants }) ≡ m.told =
      ap (λ readings. events (from []) (record { readings = readings; gifts = line.left; grants = m.grants })) (given_all clock clock' m.readings m.gave)
      ∙ ap (λ gifts. events (from []) (record { readings = m.readings ++ clock'; gifts = gifts; grants = m.grants })) (left_all line line' m.exchanges m.did)
      ∙ ap (λ grants. events (from []) (record { readings = m.readings ++ clock'; gifts = gifts_in m.exchanges ++ line'.left; grants = grants })) (sym (append-nil m.grants))
      ∙ m.tells.tells [] (record { readings = clock'; gifts = line'.left; grants = [] }) in
      m.reports ∙ ap (λ events. after_events events old) (sym told);
}
