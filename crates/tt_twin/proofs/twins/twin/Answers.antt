use Rattle.std.proofs.Common.{◌≡◌, ◌≢◌, ◌+◌, ◌<◌, ◌≤◌, ℕ, true, List, [], length, map, take, reverse, slice_get, Some, inr, ap, subst, sym, ◌∙◌, arith}
use Rattle.std.proofs.lemmas.Bool.{eqb-false}
use Rattle.std.proofs.lemmas.List.{get_or_default}
use Rattle.tt_daemon.specs.Config.{no_configuration}
use Rattle.tt_world.specs.Config.{config_at}
use Rattle.std.proofs.lemmas.Option.{slice_get_within}
use Rattle.tt_world.specs.declared.events.Event.{Event}
use Rattle.tt_world.specs.declared.events.Reply.{Reply}
use Rattle.tt_world.specs.Bad.{accepted}
use Rattle.tt_world.specs.Reply.{reply_of, replies_from}
use Rattle.tt_twin.specs.Observation.{asked_in, is_read}
use Rattle.tt_twin.proofs.Telling.{got, same_place, replied_there, twin-not_asked, twin-not_read, twin-read, asked_there, glances_in_time, told-ok, told-err}
use Rattle.tt_world.specs.declared.publications.Shown.{Shown}
use Rattle.tt_world.specs.Trace.{outline}
use Rattle.tt_twin.proofs.Worth.Reached.{worth-ok, wide-ok}
use Rattle.tt_twin.proofs.twins.twin.Goals as goal

pub returns-in_default-asked_by-clause-refused : goal.returns-in_default-asked_by-clause-refused
returns-in_default-asked_by-clause-refused c =
    let events = c.args.events.now in
    let k = c.args.k in
    let event : Event = c.in-Some.event.now in
    let there : slice_get events k ≡ Some event = got events k event c.in-Some.ensures.lookup.3.0 c.in-Some.ensures.lookup.1 in
    let some : length c.args.configs.now ≢ 0 = eqb-false _ _ (sym c.if-is_empty.ensures) in
    let few : length c.args.configs.now ≤ 8 = omega (arith, c.if-configs-gt-MAX_MACHINES.false) in
    inr (twin-not_asked c.args.side c.args.configs.now events k event some few there (sym c.asked_by.ensures ∙ c.in_default-asked_by.is))

pub bounds-replies-k : goal.bounds-replies-k
bounds-replies-k c =
    let events = c.args.events.now in
    let k = c.args.k in
    let event : Event = c.in-Some.event.now in
    let there : slice_get events k ≡ Some event = got events k event c.in-Some.ensures.lookup.3.0 c.in-Some.ensures.lookup.1 in
    let replied = replied_there c.args.configs.now events k event there in
    subst (λ (l : List Reply). k < length l) (sym (c.replies.ensures ∙ c.in-Ok.ensures.replies)) (slice_get_within (replies_from c.args.configs.now [] (take (k + 1) events)) k _ replied)

pub returns-then-not-is_reading-clause-refused : goal.returns-then-not-is_reading-clause-refused
returns-then-not-is_reading-clause-refused c =
    let events = c.args.events.now in
    let k = c.args.k in
    let event : Event = c.in-Some.event.now in
    let there : slice_get events k ≡ Some event = got events k event c.in-Some.ensures.lookup.3.0 c.in-Some.ensures.lookup.1 in
    let some : length c.args.configs.now ≢ 0 = eqb-false _ _ (sym c.if-is_empty.ensures) in
    let few : length c.args.configs.now ≤ 8 = omega (arith, c.if-configs-gt-MAX_MACHINES.false) in
    let replied = replied_there c.args.configs.now events k event there in
    let inside : k < length c.replies.result.now = subst (λ (l : List Reply). k < length l) (sym (c.replies.ensures ∙ c.in-Ok.ensures.replies)) (slice_get_within (replies_from c.args.configs.now [] (take (k + 1) events)) k _ replied) in
    let same : c.index-replies-k.result ≡ reply_of c.args.configs.now (reverse (take k events)) event =
    same_place c.replies.result.now (replies_from c.args.configs.now [] (take (k + 1) events)) k c.index-replies-k.result (reply_of c.args.configs.now (reverse (take k events)) event) (c.replies.ensures ∙ c.in-Ok.ensures.replies) inside c.index-replies-k.is replied in
    inr (twin-not_read c.args.side c.args.configs.now events k event some few there (ap is_read (sym same) ∙ sym c.is_reading.ensures ∙ c.if-not-is_reading.true))

pub observation_of-requires : goal.observation_of-requires
observation_of-requires c =
    let events = c.args.events.now in
    let k = c.args.k in
    let event : Event = c.in-Some.event.now in
    let there : slice_get events k ≡ Some event = got events k event c.in-Some.ensures.lookup.3.0 c.in-Some.ensures.lookup.1 in
    let replied = replied_there c.args.configs.now events k event there in
    let inside : k < length c.replies.result.now = subst (λ (l : List Reply). k < length l) (sym (c.replies.ensures ∙ c.in-Ok.ensures.replies)) (slice_get_within (replies_from c.args.configs.now [] (take (k + 1) events)) k _ replied) in
    let same : c.index-replies-k.result ≡ reply_of c.args.configs.now (reverse (take k events)) event =
    same_place c.replies.result.now (replies_from c.args.configs.now [] (take (k + 1) events)) k c.index-replies-k.result (reply_of c.args.configs.now (reverse (take k events)) event) (c.replies.ensures ∙ c.in-Ok.ensures.replies) inside c.index-replies-k.is replied in
    let read : is_read (reply_of c.args.configs.now (reverse (take k events)) event) ≡ true = ap is_read (sym same) ∙ sym c.is_reading.ensures ∙ c.if-not-is_reading.false in
    let asks : asked_in event.action ≡ Some c.in-Some-asked_by.asked = sym c.asked_by.ensures ∙ c.in-Some-asked_by.is in
    let facts = asked_there c.args.configs.now (reverse (take k events)) event c.in-Some-asked_by.asked read asks in
    facts.machine_there

pub bounds-configs-from : goal.bounds-configs-from
bounds-configs-from c =
    let events = c.args.events.now in
    let k = c.args.k in
    let event : Event = c.in-Some.event.now in
    let there : slice_get events k ≡ Some event = got events k event c.in-Some.ensures.lookup.3.0 c.in-Some.ensures.lookup.1 in
    let replied = replied_there c.args.configs.now events k event there in
    let inside : k < length c.replies.result.now = subst (λ (l : List Reply). k < length l) (sym (c.replies.ensures ∙ c.in-Ok.ensures.replies)) (slice_get_within (replies_from c.args.configs.now [] (take (k + 1) events)) k _ replied) in
    let same : c.index-replies-k.result ≡ reply_of c.args.configs.now (reverse (take k events)) event =
    same_place c.replies.result.now (replies_from c.args.configs.now [] (take (k + 1) events)) k c.index-replies-k.result (reply_of c.args.configs.now (reverse (take k events)) event) (c.replies.ensures ∙ c.in-Ok.ensures.replies) inside c.index-replies-k.is replied in
    let read : is_read (reply_of c.args.configs.now (reverse (take k events)) event) ≡ true = ap is_read (sym same) ∙ sym c.is_reading.ensures ∙ c.if-not-is_reading.false in
    let asks : asked_in event.action ≡ Some c.in-Some-asked_by.asked = sym c.asked_by.ensures ∙ c.in-Some-asked_by.is in
    let facts = asked_there c.args.configs.now (reverse (take k events)) event c.in-Some-asked_by.asked read asks in
    subst (λ (n : ℕ). n < length c.args.configs.now) (sym c.from.ensures) facts.machine_there

pub twin_by-requires-clause-in_time : goal.twin_by-requires-clause-in_time
twin_by-requires-clause-in_time c =
    let events = c.args.events.now in
    let k = c.args.k in
    let event : Event = c.in-Some.event.now in
    let there : slice_get events k ≡ Some event = got events k event c.in-Some.ensures.lookup.3.0 c.in-Some.ensures.lookup.1 in
    let replied = replied_there c.args.configs.now events k event there in
    let inside : k < length c.replies.result.now = subst (λ (l : List Reply). k < length l) (sym (c.replies.ensures ∙ c.in-Ok.ensures.replies)) (slice_get_within (replies_from c.args.configs.now [] (take (k + 1) events)) k _ replied) in
    let same : c.index-replies-k.result ≡ reply_of c.args.configs.now (reverse (take k events)) event =
    same_place c.replies.result.now (replies_from c.args.configs.now [] (take (k + 1) events)) k c.index-replies-k.result (reply_of c.args.configs.now (reverse (take k events)) event) (c.replies.ensures ∙ c.in-Ok.ensures.replies) inside c.index-replies-k.is replied in
    let read : is_read (reply_of c.args.configs.now (reverse (take k events)) event) ≡ true = ap is_read (sym same) ∙ sym c.is_reading.ensures ∙ c.if-not-is_reading.false in
    let asks : asked_in event.action ≡ Some c.in-Some-asked_by.asked = sym c.asked_by.ensures ∙ c.in-Some-asked_by.is in
    let facts = asked_there c.args.configs.now (reverse (take k events)) event c.in-Some-asked_by.asked read asks in
    facts.in_time

pub twin_by-requires-clause-glances : goal.twin_by-requires-clause-glances
twin_by-requires-clause-glances c =
    glances_in_time c.args.configs.now (reverse (take (c.args.k + 1) c.args.events.now)) c.in-Some-asked_by.asked.machine c.in-Some-asked_by.asked.publication c.in-Ok-observation_of.observation c.in-Ok-observation_of.ensures

pub returns-clause-value : goal.returns-clause-value
returns-clause-value c =
    let events = c.args.events.now in
    let k = c.args.k in
    let event : Event = c.in-Some.event.now in
    let there : slice_get events k ≡ Some event = got events k event c.in-Some.ensures.lookup.3.0 c.in-Some.ensures.lookup.1 in
    let some : length c.args.configs.now ≢ 0 = eqb-false _ _ (sym c.if-is_empty.ensures) in
    let few : length c.args.configs.now ≤ 8 = omega (arith, c.if-configs-gt-MAX_MACHINES.false) in
    let replied = replied_there c.args.configs.now events k event there in
    let inside : k < length c.replies.result.now = subst (λ (l : List Reply). k < length l) (sym (c.replies.ensures ∙ c.in-Ok.ensures.replies)) (slice_get_within (replies_from c.args.configs.now [] (take (k + 1) events)) k _ replied) in
    let same : c.index-replies-k.result ≡ reply_of c.args.configs.now (reverse (take k events)) event =
    same_place c.replies.result.now (replies_from c.args.configs.now [] (take (k + 1) events)) k c.index-replies-k.result (reply_of c.args.configs.now (reverse (take k events)) event) (c.replies.ensures ∙ c.in-Ok.ensures.replies) inside c.index-replies-k.is replied in
    let read : is_read (reply_of c.args.configs.now (reverse (take k events)) event) ≡ true = ap is_read (sym same) ∙ sym c.is_reading.ensures ∙ c.if-not-is_reading.false in
    let asks : asked_in event.action ≡ Some c.in-Some-asked_by.asked = sym c.asked_by.ensures ∙ c.in-Some-asked_by.is in
    let facts = asked_there c.args.configs.now (reverse (take k events)) event c.in-Some-asked_by.asked read asks in
    let machine : c.from.result ≡ c.in-Some-asked_by.asked.machine = c.from.ensures in
    let here : c.from.result < length c.args.configs.now = subst (λ (n : ℕ). n < length c.args.configs.now) (sym machine) facts.machine_there in
    let config : config_at c.args.configs.now c.in-Some-asked_by.asked.machine ≡ c.index-configs-from.result =
    ap (λ (n : ℕ). config_at c.args.configs.now n) (sym machine) ∙ sym (c.index-configs-from.is ∙ get_or_default c.args.configs.now c.from.result c.index-configs-from.result no_configuration here) in
    let shows = ap (λ (l : List Shown). map outline l) c.shown.ensures ∙ c.in-Ok.ensures.shown in
    let defined = twin-read c.args.side c.args.configs.now events k event c.in-Some-asked_by.asked some few there read asks in
    told-ok _ _ c.twin_by.result defined (c.twin_by.ensures.value c.args.configs.now (accepted c.args.configs.now (reverse (take (k + 1) events))) config shows c.in-Ok-observation_of.ensures)

pub returns-clause-refused : goal.returns-clause-refused
returns-clause-refused c =
    let events = c.args.events.now in
    let k = c.args.k in
    let event : Event = c.in-Some.event.now in
    let there : slice_get events k ≡ Some event = got events k event c.in-Some.ensures.lookup.3.0 c.in-Some.ensures.lookup.1 in
    let some : length c.args.configs.now ≢ 0 = eqb-false _ _ (sym c.if-is_empty.ensures) in
    let few : length c.args.configs.now ≤ 8 = omega (arith, c.if-configs-gt-MAX_MACHINES.false) in
    let replied = replied_there c.args.configs.now events k event there in
    let inside : k < length c.replies.result.now = subst (λ (l : List Reply). k < length l) (sym (c.replies.ensures ∙ c.in-Ok.ensures.replies)) (slice_get_within (replies_from c.args.configs.now [] (take (k + 1) events)) k _ replied) in
    let same : c.index-replies-k.result ≡ reply_of c.args.configs.now (reverse (take k events)) event =
    same_place c.replies.result.now (replies_from c.args.configs.now [] (take (k + 1) events)) k c.index-replies-k.result (reply_of c.args.configs.now (reverse (take k events)) event) (c.replies.ensures ∙ c.in-Ok.ensures.replies) inside c.index-replies-k.is replied in
    let read : is_read (reply_of c.args.configs.now (reverse (take k events)) event) ≡ true = ap is_read (sym same) ∙ sym c.is_reading.ensures ∙ c.if-not-is_reading.false in
    let asks : asked_in event.action ≡ Some c.in-Some-asked_by.asked = sym c.asked_by.ensures ∙ c.in-Some-asked_by.is in
    let facts = asked_there c.args.configs.now (reverse (take k events)) event c.in-Some-asked_by.asked read asks in
    let machine : c.from.result ≡ c.in-Some-asked_by.asked.machine = c.from.ensures in
    let here : c.from.result < length c.args.configs.now = subst (λ (n : ℕ). n < length c.args.configs.now) (sym machine) facts.machine_there in
    let config : config_at c.args.configs.now c.in-Some-asked_by.asked.machine ≡ c.index-configs-from.result =
    ap (λ (n : ℕ). config_at c.args.configs.now n) (sym machine) ∙ sym (c.index-configs-from.is ∙ get_or_default c.args.configs.now c.from.result c.index-configs-from.result no_configuration here) in
    let shows = ap (λ (l : List Shown). map outline l) c.shown.ensures ∙ c.in-Ok.ensures.shown in
    let defined = twin-read c.args.side c.args.configs.now events k event c.in-Some-asked_by.asked some few there read asks in
    told-err _ _ c.twin_by.result defined (c.twin_by.ensures.refused c.args.configs.now (accepted c.args.configs.now (reverse (take (k + 1) events))) config shows c.in-Ok-observation_of.ensures)

pub returns-clause-twin : goal.returns-clause-twin
returns-clause-twin c =
    let events = c.args.events.now in
    let k = c.args.k in
    let event : Event = c.in-Some.event.now in
    let there : slice_get events k ≡ Some event = got events k event c.in-Some.ensures.lookup.3.0 c.in-Some.ensures.lookup.1 in
    let some : length c.args.configs.now ≢ 0 = eqb-false _ _ (sym c.if-is_empty.ensures) in
    let few : length c.args.configs.now ≤ 8 = omega (arith, c.if-configs-gt-MAX_MACHINES.false) in
    let replied = replied_there c.args.configs.now events k event there in
    let inside : k < length c.replies.result.now = subst (λ (l : List Reply). k < length l) (sym (c.replies.ensures ∙ c.in-Ok.ensures.replies)) (slice_get_within (replies_from c.args.configs.now [] (take (k + 1) events)) k _ replied) in
    let same : c.index-replies-k.result ≡ reply_of c.args.configs.now (reverse (take k events)) event =
    same_place c.replies.result.now (replies_from c.args.configs.now [] (take (k + 1) events)) k c.index-replies-k.result (reply_of c.args.configs.now (reverse (take k events)) event) (c.replies.ensures ∙ c.in-Ok.ensures.replies) inside c.index-replies-k.is replied in
    let read : is_read (reply_of c.args.configs.now (reverse (take k events)) event) ≡ true = ap is_read (sym same) ∙ sym c.is_reading.ensures ∙ c.if-not-is_reading.false in
    let asks : asked_in event.action ≡ Some c.in-Some-asked_by.asked = sym c.asked_by.ensures ∙ c.in-Some-asked_by.is in
    let facts = asked_there c.args.configs.now (reverse (take k events)) event c.in-Some-asked_by.asked read asks in
    let machine : c.from.result ≡ c.in-Some-asked_by.asked.machine = c.from.ensures in
    let here : c.from.result < length c.args.configs.now = subst (λ (n : ℕ). n < length c.args.configs.now) (sym machine) facts.machine_there in
    let config : config_at c.args.configs.now c.in-Some-asked_by.asked.machine ≡ c.index-configs-from.result =
    ap (λ (n : ℕ). config_at c.args.configs.now n) (sym machine) ∙ sym (c.index-configs-from.is ∙ get_or_default c.args.configs.now c.from.result c.index-configs-from.result no_configuration here) in
    let shows = ap (λ (l : List Shown). map outline l) c.shown.ensures ∙ c.in-Ok.ensures.shown in
    let defined = twin-read c.args.side c.args.configs.now events k event c.in-Some-asked_by.asked some few there read asks in
    worth-ok c.args.configs.now events k c.args.side c.twin_by.result c.in-Ok.ensures.trace.configurations
    (told-ok _ _ c.twin_by.result defined (c.twin_by.ensures.value c.args.configs.now (accepted c.args.configs.now (reverse (take (k + 1) events))) config shows c.in-Ok-observation_of.ensures))

pub returns-clause-no_narrower : goal.returns-clause-no_narrower
returns-clause-no_narrower c =
    let events = c.args.events.now in
    let k = c.args.k in
    let event : Event = c.in-Some.event.now in
    let there : slice_get events k ≡ Some event = got events k event c.in-Some.ensures.lookup.3.0 c.in-Some.ensures.lookup.1 in
    let some : length c.args.configs.now ≢ 0 = eqb-false _ _ (sym c.if-is_empty.ensures) in
    let few : length c.args.configs.now ≤ 8 = omega (arith, c.if-configs-gt-MAX_MACHINES.false) in
    let replied = replied_there c.args.configs.now events k event there in
    let inside : k < length c.replies.result.now = subst (λ (l : List Reply). k < length l) (sym (c.replies.ensures ∙ c.in-Ok.ensures.replies)) (slice_get_within (replies_from c.args.configs.now [] (take (k + 1) events)) k _ replied) in
    let same : c.index-replies-k.result ≡ reply_of c.args.configs.now (reverse (take k events)) event =
    same_place c.replies.result.now (replies_from c.args.configs.now [] (take (k + 1) events)) k c.index-replies-k.result (reply_of c.args.configs.now (reverse (take k events)) event) (c.replies.ensures ∙ c.in-Ok.ensures.replies) inside c.index-replies-k.is replied in
    let read : is_read (reply_of c.args.configs.now (reverse (take k events)) event) ≡ true = ap is_read (sym same) ∙ sym c.is_reading.ensures ∙ c.if-not-is_reading.false in
    let asks : asked_in event.action ≡ Some c.in-Some-asked_by.asked = sym c.asked_by.ensures ∙ c.in-Some-asked_by.is in
    let facts = asked_there c.args.configs.now (reverse (take k events)) event c.in-Some-asked_by.asked read asks in
    let machine : c.from.result ≡ c.in-Some-asked_by.asked.machine = c.from.ensures in
    let here : c.from.result < length c.args.configs.now = subst (λ (n : ℕ). n < length c.args.configs.now) (sym machine) facts.machine_there in
    let config : config_at c.args.configs.now c.in-Some-asked_by.asked.machine ≡ c.index-configs-from.result =
    ap (λ (n : ℕ). config_at c.args.configs.now n) (sym machine) ∙ sym (c.index-configs-from.is ∙ get_or_default c.args.configs.now c.from.result c.index-configs-from.result no_configuration here) in
    let shows = ap (λ (l : List Shown). map outline l) c.shown.ensures ∙ c.in-Ok.ensures.shown in
    let defined = twin-read c.args.side c.args.configs.now events k event c.in-Some-asked_by.asked some few there read asks in
    wide-ok c.args.configs.now events k c.args.side c.twin_by.result c.in-Ok.ensures.trace.configurations
    (told-ok _ _ c.twin_by.result defined (c.twin_by.ensures.value c.args.configs.now (accepted c.args.configs.now (reverse (take (k + 1) events))) config shows c.in-Ok-observation_of.ensures))
