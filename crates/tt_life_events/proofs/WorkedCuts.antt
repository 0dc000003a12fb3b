-- A worked cut of the life of WorkedLives, for which every premise of the law of the list of a cut holds. The daemon has published, the first worker has begun its commit in a turn that goes on, and the second has done nothing. Later the daemon makes a call in which its clock fails, the first worker releases its commit, and the second serves its session.
use Rattle.std.proofs.Common.{◌≡◌, List, [], ◌∷◌, length, map, Some, None, Err, inl, inr, refl, sym, ap, subst, arith, append-nil}
use Rattle.std.specs.List.{AllByRecursion}
use Rattle.std.proofs.lemmas.List.Elements.{All-nil, All-cons}
use Rattle.tt_span.specs.Time.{max_time}
use Rattle.tt_publish.specs.Reading.{fused_span_of}
use Rattle.tt_publish.specs.declared.readings.FusedSpan.{FusedSpan}
use Rattle.tt_clock.specs.Clock.{MachineGives}
use Rattle.tt_rounds.specs.Course.{Ends, ◌>>=◌, each_below, next_reading, round_of, rounds_of}
use Rattle.tt_rounds.specs.Link.{Exchange}
use Rattle.tt_rounds.specs.Making.{Leads as CallLeads}
use Rattle.tt_rounds.specs.declared.faults.NodeFault.TheVariants as node
use Rattle.tt_connections.specs.Client.{ClientSays}
use Rattle.tt_workers.specs.Happening.{SessionTurn}
use Rattle.tt_consistency.specs.Assumed.{moments_in}
use Rattle.tt_consistency.specs.Calls.{RoundsCall}
use Rattle.tt_consistency.specs.Cuts.{Cut, published_in}
use Rattle.tt_consistency.specs.Lives.{IsLife, Life, WorksIn}
use Rattle.tt_consistency.proofs.WorkedLife.{failed, is_taken}
use Rattle.tt_consistency.proofs.WorkedOrder.{fused, reads_at}
use Rattle.tt_consistency.proofs.WorkedRun.{call_of, ended, one, published-0, start}
use Rattle.tt_life_events.specs.Acts.{LifeDone}
use Rattle.tt_life_events.specs.Beginnings.{AreListsBy, AreWorksIn, HasOneListBy, IsWorkedCut, IsWorkIn, TurnBeginsAs, WorkBy}
use Rattle.tt_life_events.specs.Merging.{AreInOrder, IsMergeOf, stamps_in}
use Rattle.tt_life_events.specs.Threads.{AreOfWorkers, AreOwn, AreSince}
use Rattle.tt_life_events.specs.Turns.{AreTimed, IsListOf, WorkTimes}
use Rattle.tt_life_events.proofs.CutLists.{cut-one}
use Rattle.tt_life_events.proofs.WorkedLives as worked

-- ---- a life in which the clock fails in the last call of the daemon

abbrev late_call : RoundsCall
late_call = record { rounds = 1; turns = 1; given = record { readings = None ∷ []; gifts = []; grants = [] }; exchanges = []; from = ended 0; to = ended 0; answer = Err node.ClockFailed }

late-leads : CallLeads (rounds_of 1 1) late_call.given [] (ended 0) (ended 0) (Err node.ClockFailed)
unfolding ◌>>=◌ each_below next_reading round_of rounds_of
late-leads = record { leads = λ past rest. ap (λ (exchanges : List Exchange). Ends node.ClockFailed (ended 0 exchanges) rest) (sym (append-nil past)) }

abbrev pub life : Life MachineGives failed ClientSays 1
life = record worked.life { calls = late_call ∷ call_of 0 ∷ [] }

works_0 : WorksIn life worked.worker_0
works_0 =
    let works : WorksIn worked.life worked.worker_0 = worked.works_0 in
    record { watch = works.watch; lease = works.lease; stampers = works.stampers; ahead = works.ahead; width = works.width; in_turn = works.in_turn; seen = works.seen }

works_1 : WorksIn life worked.worker_1
works_1 =
    let works : WorksIn worked.life worked.worker_1 = worked.works_1 in
    record { watch = works.watch; lease = works.lease; stampers = works.stampers; ahead = works.ahead; width = works.width; in_turn = works.in_turn; seen = works.seen }

is_life : IsLife life
is_life =
    let before : IsLife worked.life = worked.is_life in
    let (shown, rises) = before.rising in
    record {
      configured = before.configured;
      first = before.first;
      last = before.last;
      in_turn = (late-leads, refl, before.in_turn);
      rising = (shown, (shown, shown, rises, refl, omega arith));
      published = before.published;
      workers = All-cons (WorksIn life) worked.worker_0 (worked.worker_1 ∷ []) works_0 (All-cons (WorksIn life) worked.worker_1 [] works_1 (All-nil (WorksIn life)));
    }

abbrev pub cut : Cut MachineGives failed ClientSays 1
cut = record { life = life; calls = call_of 0 ∷ []; start = start; timeline = worked.timeline }

abbrev pub later : List RoundsCall
later = late_call ∷ []

one_published : length (published_in cut) ≡ 1
one_published = ap (length {A = FusedSpan}) published-0

-- ---- what its workers had done

abbrev Turn : Type 0
Turn = SessionTurn MachineGives failed ClientSays

abbrev Work : Type 0
Work = WorkBy MachineGives failed ClientSays 1

abbrev begun : Turn
begun = record {
  place = 0;
  before = worked.station 0 (worked.seat_of 0) worked.seat_0 120 150;
  calls = worked.of_begin 0 (worked.seat_of 0) worked.seat_0 120 150 ∷ [];
  after = worked.begun 0 (worked.seat_of 0) worked.seat_0 120 150;
  talked = (worked.begun 0 (worked.seat_of 0) worked.seat_0 120 150, worked.allows_begin 0 (worked.seat_of 0) worked.seat_0 120 150 worked.late_0 worked.later_0 worked.early_0 worked.gave_0 refl worked.says_0, refl);
}

abbrev whole : Turn
whole = record {
  place = 0;
  before = worked.station 0 (worked.seat_of 0) worked.seat_0 120 150;
  calls = worked.calls 0 (worked.seat_of 0) worked.seat_0 120 150;
  after = worked.released 0 (worked.seat_of 0) worked.seat_0 120 150;
  talked = worked.talked 0 (worked.seat_of 0) worked.seat_0 120 150 worked.late_0 worked.later_0 worked.early_0 worked.gave_0 refl worked.says_0;
}

begins-as : TurnBeginsAs begun whole
begins-as = record {
  place = refl;
  before = refl;
  later = worked.of_pass 0 (worked.seat_of 0) worked.seat_0 120 150 ∷ [];
  calls_are = refl;
  goes_on = (whole.after, worked.allows_pass 0 (worked.seat_of 0) worked.seat_0 120 150 worked.late_0 worked.later_0 worked.early_0 worked.gave_0 refl worked.says_0, refl);
}

abbrev times : List WorkTimes
times = record { came = 1019; read = 1020; stamped = 1021; answered = 1022 } ∷ []

abbrev pub work_0 : Work
work_0 = record { post = worked.worker_0.post; last = begun.after.post; events = inl begun ∷ []; times = times ∷ [] }

abbrev pub work_1 : Work
work_1 = record { post = worked.worker_1.post; last = worked.worker_1.post; events = []; times = [] }

abbrev pub works : List Work
works = work_0 ∷ work_1 ∷ []

timed-0 : AreTimed MachineGives failed ClientSays 1 100 (moments_in start worked.timeline) 990 work_0.events work_0.times max_time
unfolding worked.allows_begin
timed-0 = (990, omega arith, (omega arith, omega arith, omega arith, omega arith, omega arith), (is_taken 0 120 (omega arith) worked.late_0 (omega arith), tt))

did-0 : IsWorkIn cut worked.first 0 worked.worker_0 work_0
did-0 = record {
  of_worker = record {
    post = refl;
    by_turns = worked.turns_0.by_turns;
    first = inr (record { turn = begun; whole = whole; begins = begins-as; earlier = []; later = inr (record { place = 0; session = worked.session 0 (worked.seat_of 0) worked.seat_0 120 150 worked.late_0 worked.later_0 worked.early_0 worked.gave_0 refl worked.says_0 }) ∷ []; events_are = refl; all_are = refl });
    lead = (begun.before.post, refl, (refl, refl));
  };
  seen = omega (arith, one_published);
  own = refl;
  timed = timed-0;
}

did-1 : IsWorkIn cut worked.first 1 worked.worker_1 work_1
did-1 = record {
  of_worker = record { post = refl; by_turns = worked.turns_1.by_turns; first = inl (worked.turns_1.by_turns.events, refl); lead = refl };
  seen = omega arith;
  own = refl;
  timed = omega arith;
}

did : AreWorksIn cut worked.first 0 life.workers works
did = (did-0, (did-1, tt))

-- ---- its list

abbrev read : LifeDone
read = worked.read 0 (worked.seat_of 0) worked.seat_0 120 150 120 (Some (worked.commit 0 (worked.seat_of 0) worked.seat_0 120 150))

abbrev stamp : LifeDone
stamp = worked.stamp 0 (worked.seat_of 0) worked.seat_0 120 150

abbrev list : List LifeDone
list = stamp ∷ read ∷ []

abbrev lists : List (List LifeDone)
lists = list ∷ [] ∷ []

is_list : IsListOf 0 100 (map fused_span_of (fused ∷ [])) MachineGives failed ClientSays 1 work_0.events work_0.times list
unfolding worked.allows_begin
is_list = (
  [],
  refl,
  (
    list,
    record { reads = read ∷ []; stamps = stamp ∷ []; now_is = refl; read = (120, Some (worked.commit 0 (worked.seat_of 0) worked.seat_0 120 150), refl, reads_at 120 worked.late_0 (omega arith)); stamped = (worked.entry 0 1030, refl, refl) },
    refl,
  ),
)

are_lists : AreListsBy 100 (published_in cut) 0 works lists
are_lists = subst (λ (l : List FusedSpan). AreListsBy 100 l 0 works lists) (sym published-0) (is_list, (refl, refl))

own_list : AreOwn one (moments_in start worked.timeline) (map fused_span_of (fused ∷ [])) list
own_list = let (newest, rest) = worked.are_own 0 (worked.seat_of 0) worked.seat_0 120 150 worked.late_0 worked.later_0 worked.early_0 worked.gave_0 refl worked.says_0 (omega arith) in rest

own : AreOfWorkers one (moments_in start worked.timeline) (published_in cut) 0 lists
own = subst (λ (l : List FusedSpan). AreOfWorkers one (moments_in start worked.timeline) l 0 lists) (sym published-0) ((refl, (refl, tt)), own_list, (tt, tt, tt))

since : AllByRecursion (AreSince 990) lists
since = ((omega arith, (omega arith, tt)), (tt, tt))

in_order : AllByRecursion (AreInOrder max_time) lists
in_order = ((omega arith, (omega arith, tt)), (tt, tt))

shown : AllByRecursion (AllByRecursion worked.Shows) lists
shown = ((λ shown by. (omega arith, omega arith), (λ shown by. (omega arith, omega arith), tt)), (tt, tt))

merge : IsMergeOf (map stamps_in lists) (stamp ∷ [])
merge = ([], ([], refl, (refl, refl)), inl ([], refl, (refl, refl)))

log-in_order : AreInOrder max_time (stamp ∷ [])
log-in_order = (omega arith, tt)

abbrev has : HasOneListBy (one ∷ []) [] life start worked.timeline (published_in cut) works worked.first
has = record {
  lists = lists;
  log = stamp ∷ [];
  are_lists = are_lists;
  own = own;
  merge = merge;
  log_is = refl;
  one_list = cut-one MachineGives failed ClientSays 1 cut is_life later refl worked.is_told (one ∷ []) [] worked.there-0 refl worked.begins-0 worked.unworked-0 2 worked.first worked.legal_first
      (published_in cut) refl lists (stamp ∷ []) own since in_order merge refl;
}

pub is_worked : IsWorkedCut (one ∷ []) [] cut later worked.shared worked.first works
is_worked = record {
  proved = is_life;
  calls_are = refl;
  assumed = worked.is_told;
  continues = (worked.entry 1 1050 ∷ [], refl);
  worked = did;
  there = worked.there-0;
  configured = refl;
  fits = omega arith;
  begins = worked.begins-0;
  unworked = worked.unworked-0;
  first = work_0;
  second = work_1;
  works_are = refl;
  turn = begun;
  whole = whole;
  first_did = refl;
  goes_on = begins-as;
  begun = refl;
  in_all = refl;
  second_did = refl;
  stamps = refl;
  given = refl;
  published = one_published;
  has = has;
  log_in_order = log-in_order;
  rises = worked.all-rises list [] (stamp ∷ []) (has.one_list log-in_order).0 (has.one_list log-in_order).1 since shown;
  few = worked.all-few list [] (stamp ∷ []) (has.one_list log-in_order).0 (has.one_list log-in_order).1 (omega arith) (omega arith);
}
