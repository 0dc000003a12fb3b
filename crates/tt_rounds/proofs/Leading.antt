-- How the parts of a course follow one another.
use Rattle.std.proofs.Common.{◌≡◌, ℕ, zero, suc, ◌+◌, ◌-◌, ◌≤◌, List, [], ◌∷◌, ◌++◌, Option, Some, None, Result, Ok, Err, refl, sym, ap, ◌∙◌, subst, arith, append_assoc, append-nil, add-one, zero-add, suc-add}
use Rattle.tt_source.specs.Table.{TableState, poll_of, take_of}
use Rattle.tt_source.specs.declared.faults.SourceFault.{SourceFault}
use Rattle.tt_daemon.specs.Daemon.{DaemonState}
use Rattle.tt_rounds.specs.Link.{Packet, Call, Send, Receive, Gift, Went, Came, NothingCame, Broke, Exchange, gifts_in, ClockGives, LinkDoes}
use Rattle.tt_rounds.specs.Fusing.{Fusion}
use Rattle.tt_rounds.specs.Course.{Given, Stand, Part, ◌>>=◌, ◌>>◌, after_outcome, nothing_done, each_below, next_reading, next_gift, send_part, packet_part, send, receive, put_table, count_refusal, request_of, send_polled, poll_at, poll_all, put_taken, take_at, take_next, turn, fuse_at, round_of, rounds_of}
use Rattle.tt_rounds.specs.Tallies.{no_tally, one_poll, one_taken, packet_refused}
use Rattle.tt_rounds.specs.declared.tallies.Tally.{Tally}
use Rattle.tt_rounds.specs.Making.{before_rest, stand_of, part_with, Leads, Makes}
use Rattle.tt_rounds.specs.Reports.{Event, Begins, Polls, Accepts, Refuses, Report, after_event, after_events, PartEvents, no_events, events_after, events_then, events_below, taken_events, polled_events, poll_events, polls_events, take_events, next_events, turn_events, fuse_events, turns_events, round_events, rounds_events, Tells, Reports, ReportsByLink, ReportsByMemory}
use Rattle.tt_rounds.specs.declared.faults.NodeFault.{NodeFault}
use Rattle.tt_rounds.specs.declared.faults.NodeFault.TheVariants.{LinkFailed, ClockFailed}

-- nothing is given
abbrev nothing : Given
nothing = record { readings = []; gifts = []; grants = [] }

-- one reading, or none, is given
abbrev one_reading : Option ℕ → Given
one_reading reading = record { readings = reading ∷ []; gifts = []; grants = [] }

-- one gift is given
abbrev one_gift : Gift → Given
one_gift gift = record { readings = []; gifts = gift ∷ []; grants = [] }

before_rest-assoc : (one two rest : Given) → before_rest (before_rest one two) rest ≡ before_rest one (before_rest two rest)
before_rest-assoc one two rest =
    rw (append_assoc one.readings two.readings rest.readings, append_assoc one.gifts two.gifts rest.gifts, append_assoc one.grants two.grants rest.grants)

pub gifts_in-append : (xs ys : List Exchange) → gifts_in (xs ++ ys) ≡ gifts_in xs ++ gifts_in ys
gifts_in-append [] ys = refl
gifts_in-append (x ∷ xs) ys = ap (λ gifts. x.gift ∷ gifts) (gifts_in-append xs ys)

pub ClockGives-append : {C : Type 0} (gives : C → Option ℕ → C → Type 0) (before mid after : C) (xs ys : List (Option ℕ))
    → ClockGives gives before xs mid → ClockGives gives mid ys after → ClockGives gives before (xs ++ ys) after
ClockGives-append gives before mid after [] ys one two = subst (λ c. ClockGives gives c ys after) one two
ClockGives-append gives before mid after (x ∷ xs) ys one two =
    let (next, gave, later) = one in (next, gave, ClockGives-append gives next mid after xs ys later two)

pub LinkDoes-append : {L : Type 0} (does : L → Call → Gift → L → Type 0) (before mid after : L) (xs ys : List Exchange)
    → LinkDoes does before xs mid → LinkDoes does mid ys after → LinkDoes does before (xs ++ ys) after
LinkDoes-append does before mid after [] ys one two = subst (λ l. LinkDoes does l ys after) one two
LinkDoes-append does before mid after (x ∷ xs) ys one two =
    let (next, did, later) = one in (next, did, LinkDoes-append does next mid after xs ys later two)

-- ---- parts

-- nothing is done
pub Leads-done : (from : List Exchange → Stand) → Leads nothing_done nothing [] from from (Ok tt)
Leads-done from = record { leads = λ past rest. rw (append-nil past) }

-- one part, and then the next
pub Leads-then : {A B : Type 0} (part : Part A) (next : A → Part B) (one two : Given) (xs ys : List Exchange) (from mid to : List Exchange → Stand) (value : A) (answer : Result B NodeFault)
    → Leads part one xs from mid (Ok value) → Leads (next value) two ys mid to answer
    → Leads (part >>= next) (before_rest one two) (xs ++ ys) from to answer
unfolding ◌>>=◌
Leads-then part next one two xs ys from mid to value answer first second = record {
  leads = λ past rest.
      ap (λ given. after_outcome (part (from past) given) next) (before_rest-assoc one two rest)
      ∙ ap (λ outcome. after_outcome outcome next) (first.leads past (before_rest two rest))
      ∙ rw (← append_assoc past xs ys) (second.leads (past ++ xs) rest);
}

-- a part that ends the course
pub Leads-ends : {A B : Type 0} (part : Part A) (next : A → Part B) (given : Given) (xs : List Exchange) (from to : List Exchange → Stand) (fault : NodeFault)
    → Leads part given xs from to (Err fault) → Leads (part >>= next) given xs from to (Err fault)
unfolding ◌>>=◌
Leads-ends part next given xs from to fault first = record { leads = λ past rest. ap (λ outcome. after_outcome outcome next) (first.leads past rest) }

-- one reading
pub Leads-reading : (from : List Exchange → Stand) (reading : ℕ) → Leads next_reading (one_reading (Some reading)) [] from from (Ok reading)
unfolding next_reading
Leads-reading from reading = record { leads = λ past rest. rw (append-nil past) }

pub Leads-no_reading : (from : List Exchange → Stand) → Leads next_reading (one_reading None) [] from from (Err ClockFailed)
unfolding next_reading
Leads-no_reading from = record { leads = λ past rest. rw (append-nil past) }

-- ---- the calls of a link

-- a link was called, and what it gave is looked at: this is what comes of it
Leads-gift : {A : Type 0} (call : Call) (gift : Gift) (next : Gift → Part A) (daemon : DaemonState) (items : List Fusion) (tally : Tally) (answer : Result A NodeFault)
    → Leads (next gift) nothing [] (stand_of daemon items tally) (stand_of daemon items tally) answer
    → Leads (next_gift call >>= next) (one_gift gift) (record { call = call; gift = gift } ∷ []) (stand_of daemon items tally) (stand_of daemon items tally) answer
unfolding ◌>>=◌ next_gift
Leads-gift call gift next daemon items tally answer looks = record {
  leads = λ past rest. looks.leads (past ++ record { call = call; gift = gift } ∷ []) rest ∙ rw append-nil;
}

-- a packet went, or the link broke
pub Leads-went : (from : List Exchange → Stand) → Leads (send_part Went) nothing [] from from (Ok tt)
Leads-went from = record { leads = λ past rest. rw (append-nil past) }

pub Leads-broke : (from : List Exchange → Stand) → Leads (send_part Broke) nothing [] from from (Err LinkFailed)
Leads-broke from = record { leads = λ past rest. rw (append-nil past) }

-- a packet came, or none, or the link broke
pub Leads-came : (from : List Exchange → Stand) (packet : Packet) → Leads (packet_part (Came packet)) nothing [] from from (Ok (Some packet))
Leads-came from packet = record { leads = λ past rest. rw (append-nil past) }

pub Leads-nothing_came : (from : List Exchange → Stand) → Leads (packet_part NothingCame) nothing [] from from (Ok None)
Leads-nothing_came from = record { leads = λ past rest. rw (append-nil past) }

pub Leads-came_broke : (from : List Exchange → Stand) → Leads (packet_part Broke) nothing [] from from (Err LinkFailed)
Leads-came_broke from = record { leads = λ past rest. rw (append-nil past) }

-- ---- the daemon

Leads-put_table : (daemon : DaemonState) (items : List Fusion) (tally : Tally) (table : TableState) (counts : Tally → Tally)
    → Leads (put_table table counts) nothing [] (stand_of daemon items tally) (stand_of (record daemon { table = table }) items (counts tally)) (Ok tt)
unfolding put_table
Leads-put_table daemon items tally table counts = record { leads = λ past rest. rw (append-nil past) }

pub Leads-count : (daemon : DaemonState) (items : List Fusion) (tally : Tally) (counts : Tally → Tally)
    → Leads (count_refusal counts) nothing [] (stand_of daemon items tally) (stand_of daemon items (counts tally)) (Ok tt)
unfolding count_refusal
Leads-count daemon items tally counts = record { leads = λ past rest. rw (append-nil past) }

-- a poll was refused
pub Leads-unpolled : (daemon : DaemonState) (items : List Fusion) (tally : Tally) (source clock : ℕ) (fault : SourceFault)
    → poll_of daemon.table source clock ≡ Err fault
    → Leads (poll_at clock source) nothing [] (stand_of daemon items tally) (stand_of daemon items tally) (Ok tt)
unfolding poll_at send_polled
Leads-unpolled daemon items tally source clock fault is = record {
  leads = λ past rest.
      ap (λ polled. send_polled source polled (stand_of daemon items tally past) (before_rest nothing rest)) is
      ∙ (Leads-done (stand_of daemon items tally)).leads past rest;
}

-- a source was polled, and the link called
pub Leads-polled : (daemon : DaemonState) (items : List Fusion) (tally : Tally) (source clock : ℕ) (table : TableState) (gift : Gift) (answer : Result (Unit {0}) NodeFault)
    → poll_of daemon.table source clock ≡ Ok table
    → Leads (send_part gift) nothing [] (stand_of (record daemon { table = table }) items (one_poll tally)) (stand_of (record daemon { table = table }) items (one_poll tally)) answer
    → Leads (poll_at clock source) (one_gift gift) (record { call = Send (record { peer = source; bytes = request_of table source }); gift = gift } ∷ [])
    (stand_of daemon items tally) (stand_of (record daemon { table = table }) items (one_poll tally)) answer
unfolding poll_at send_polled send
Leads-polled daemon items tally source clock table gift answer is looks =
    let sends = Leads-gift (Send (record { peer = source; bytes = request_of table source })) gift send_part (record daemon { table = table }) items (one_poll tally) answer looks in
    let all = Leads-then (put_table table one_poll) (λ _. send source (request_of table source)) nothing (one_gift gift) [] _
    (stand_of daemon items tally) (stand_of (record daemon { table = table }) items (one_poll tally)) (stand_of (record daemon { table = table }) items (one_poll tally)) tt answer
    (Leads-put_table daemon items tally table one_poll) sends in
    record {
      leads = λ past rest.
          ap (λ polled. send_polled source polled (stand_of daemon items tally past) (before_rest (one_gift gift) rest)) is
          ∙ all.leads past rest;
    }

-- a packet was taken
pub Leads-taken : (daemon : DaemonState) (items : List Fusion) (tally : Tally) (clock : ℕ) (packet : Packet) (table : TableState)
    → take_of daemon.table packet.peer clock packet.bytes ≡ Ok table
    → Leads (take_at clock packet) nothing [] (stand_of daemon items tally) (stand_of (record daemon { table = table }) items (one_taken tally)) (Ok tt)
unfolding take_at put_taken
Leads-taken daemon items tally clock packet table is = record {
  leads = λ past rest.
      ap (λ taken. put_taken taken (stand_of daemon items tally past) (before_rest nothing rest)) is
      ∙ (Leads-put_table daemon items tally table one_taken).leads past rest;
}

-- a packet was refused
pub Leads-not_taken : (daemon : DaemonState) (items : List Fusion) (tally : Tally) (clock : ℕ) (packet : Packet) (fault : SourceFault)
    → take_of daemon.table packet.peer clock packet.bytes ≡ Err fault
    → Leads (take_at clock packet) nothing [] (stand_of daemon items tally) (stand_of daemon items (packet_refused fault tally)) (Ok tt)
unfolding take_at put_taken
Leads-not_taken daemon items tally clock packet fault is = record {
  leads = λ past rest.
      ap (λ taken. put_taken taken (stand_of daemon items tally past) (before_rest nothing rest)) is
      ∙ (Leads-count daemon items tally (packet_refused fault)).leads past rest;
}

-- ---- the events of parts

-- events, and then more
after_events-append : (xs ys : List Event) (report : Report) → after_events (xs ++ ys) report ≡ after_events xs (after_events ys report)
after_events-append [] ys report = refl
after_events-append (x ∷ xs) ys report = ap (after_event x) (after_events-append xs ys report)

-- there are none
Tells-none : (given : Given) (from : List Exchange → Stand) → Tells no_events given from []
unfolding no_events
Tells-none given from = record { tells = λ past rest. refl }

-- those of one part, and then those of the next
Tells-then : {A : Type 0} (part : Part A) (events : PartEvents) (nexts : A → PartEvents) (one two : Given) (xs : List Exchange) (from mid : List Exchange → Stand) (value : A) (first second : List Event)
    → Leads part one xs from mid (Ok value) → Tells events one from first → Tells (nexts value) two mid second
    → Tells (events_then part events nexts) (before_rest one two) from (second ++ first)
unfolding events_then
Tells-then part events nexts one two xs from mid value first second leads early late = record {
  tells = λ past rest.
      ap (λ given. events_after (part (from past) given) nexts ++ events (from past) given) (before_rest-assoc one two rest)
      ∙ ap (λ outcome. events_after outcome nexts ++ events (from past) (before_rest one (before_rest two rest))) (leads.leads past (before_rest two rest))
      ∙ ap (λ told. told ++ events (from past) (before_rest one (before_rest two rest))) (late.tells (past ++ xs) rest)
      ∙ ap (λ told. second ++ told) (early.tells past (before_rest two rest));
}

-- a part that ends the course
Tells-ends : {A : Type 0} (part : Part A) (events : PartEvents) (nexts : A → PartEvents) (given : Given) (xs : List Exchange) (from to : List Exchange → Stand) (fault : NodeFault) (first : List Event)
    → Leads part given xs from to (Err fault) → Tells events given from first → Tells (events_then part events nexts) given from first
unfolding events_then
Tells-ends part events nexts given xs from to fault first leads early = record {
  tells = λ past rest.
      ap (λ outcome. events_after outcome nexts ++ events (from past) (before_rest given rest)) (leads.leads past rest)
      ∙ early.tells past rest;
}

-- ---- a part for each number

-- none so far
pub each-none : (part : ℕ → Part (Unit {0})) (from : List Exchange → Stand) → Leads (each_below 0 part) nothing [] from from (Ok tt)
unfolding each_below
each-none part from = Leads-done from

-- where one ended the course, none follows
pub each-ends : (k n : ℕ) (part : ℕ → Part (Unit {0})) (given : Given) (xs : List Exchange) (from to : List Exchange → Stand) (fault : NodeFault)
    → Leads (each_below n part) given xs from to (Err fault) → Leads (each_below (k + n) part) given xs from to (Err fault)
unfolding each_below
each-ends zero n part given xs from to fault part_with = rw zero-add part_with
each-ends (suc k) n part given xs from to fault part_with =
    rw (suc-add k n) (Leads-ends (each_below (k + n) part) (λ _. part (k + n)) given xs from to fault (each-ends k n part given xs from to fault part_with))

pub each-ends_below : (m n : ℕ) (part : ℕ → Part (Unit {0})) (given : Given) (xs : List Exchange) (from to : List Exchange → Stand) (fault : NodeFault) → m ≤ n
    → Leads (each_below m part) given xs from to (Err fault) → Leads (each_below n part) given xs from to (Err fault)
each-ends_below m n part given xs from to fault below part_with =
    let is : n - m + m ≡ n = omega arith in
    subst (λ k. Leads (each_below k part) given xs from to (Err fault)) is (each-ends (n - m) m part given xs from to fault part_with)

-- where one ended the course, no event follows
events-end : (k n : ℕ) (part : ℕ → Part (Unit {0})) (events : ℕ → PartEvents) (given : Given) (xs : List Exchange) (from to : List Exchange → Stand) (fault : NodeFault) (told : List Event)
    → Leads (each_below n part) given xs from to (Err fault) → Tells (events_below n part events) given from told → Tells (events_below (k + n) part events) given from told
unfolding events_below
events-end zero n part events given xs from to fault told leads tells = rw zero-add tells
events-end (suc k) n part events given xs from to fault told leads tells =
    rw (suc-add k n) (Tells-ends (each_below (k + n) part) (events_below (k + n) part events) (λ _. events (k + n)) given xs from to fault told
    (each-ends k n part given xs from to fault leads) (events-end k n part events given xs from to fault told leads tells))

events-end_below : (m n : ℕ) (part : ℕ → Part (Unit {0})) (events : ℕ → PartEvents) (given : Given) (xs : List Exchange) (from to : List Exchange → Stand) (fault : NodeFault) (told : List Event) → m ≤ n
    → Leads (each_below m part) given xs from to (Err fault) → Tells (events_below m part events) given from told → Tells (events_below n part events) given from told
events-end_below m n part events given xs from to fault told below leads tells =
    let is : n - m + m ≡ n = omega arith in
    subst (λ k. Tells (events_below k part events) given from told) is (events-end (n - m) m part events given xs from to fault told leads tells)

-- ---- parts over a clock and a link

module _ {C L : Type 0} (gives : C → Option ℕ → C → Type 0) (does : L → Call → Gift → L → Type 0) where
  -- what a part makes and reports, it makes
  pub Reports-made : {A : Type 0} (part : Part A) (events : PartEvents) (clock clock' : C) (link link' : L) (from to : List Exchange → Stand) (answer : Result A NodeFault) (old new : Report)
      → Reports gives does part events clock clock' link link' from to answer old new → Makes gives does part clock clock' link link' from to answer
  Reports-made part events clock clock' link link' from to answer old new one =
      record { readings = one.readings; exchanges = one.exchanges; grants = one.grants; gave = one.gave; did = one.did; course = one.course }

  pub Reports-then : {A B : Type 0} (part : Part A) (next : A → Part B) (events : PartEvents) (nexts : A → PartEvents) (clock clock' clock'' : C) (link link' link'' : L) (from mid to : List Exchange → Stand) (value : A) (answer : Result B NodeFault) (old now new : Report)
      → Reports gives does part events clock clock' link link' from mid (Ok value) old now → Reports gives does (next value) (nexts value) clock' clock'' link' link'' mid to answer now new
      → Reports gives does (part >>= next) (events_then part events nexts) clock clock'' link link'' from to answer old new
  Reports-then part next events nexts clock clock' clock'' link link' link'' from mid to value answer old now new one two = record {
    readings = one.readings ++ two.readings;
    exchanges = one.exchanges ++ two.exchanges;
    grants = one.grants ++ two.grants;
    told = two.told ++ one.told;
    gave = ClockGives-append gives clock clock' clock'' one.readings two.readings one.gave two.gave;
    did = LinkDoes-append does link link' link'' one.exchanges two.exchanges one.did two.did;
    course =
        subst (λ gifts. Leads (part >>= next) (record { readings = one.readings ++ two.readings; gifts = gifts; grants = one.grants ++ two.grants }) (one.exchanges ++ two.exchanges) from to answer)
        (sym (gifts_in-append one.exchanges two.exchanges))
        (Leads-then part next _ _ one.exchanges two.exchanges from mid to value answer one.course two.course);
    tells =
        subst (λ gifts. Tells (events_then part events nexts) (record { readings = one.readings ++ two.readings; gifts = gifts; grants = one.grants ++ two.grants }) from (two.told ++ one.told))
        (sym (gifts_in-append one.exchanges two.exchanges))
        (Tells-then part events nexts _ _ one.exchanges from mid value one.told two.told one.course one.tells two.tells);
    reports = two.reports ∙ ap (after_events two.told) one.reports ∙ sym (after_events-append two.told one.told old);
  }

  pub Reports-ends : {A B : Type 0} (part : Part A) (next : A → Part B) (events : PartEvents) (nexts : A → PartEvents) (clock clock' : C) (link link' : L) (from to : List Exchange → Stand) (fault : NodeFault) (old new : Report)
      → Reports gives does part events clock clock' link link' from to (Err fault) old new
      → Reports gives does (part >>= next) (events_then part events nexts) clock clock' link link' from to (Err fault) old new
  Reports-ends part next events nexts clock clock' link link' from to fault old new one = record {
    readings = one.readings;
    exchanges = one.exchanges;
    grants = one.grants;
    told = one.told;
    gave = one.gave;
    did = one.did;
    course = Leads-ends part next _ one.exchanges from to fault one.course;
    tells = Tells-ends part events nexts _ one.exchanges from to fault one.told one.course one.tells;
    reports = one.reports;
  }

  -- the link alone is asked
  Reports-link : {A : Type 0} (part : Part A) (events : PartEvents) (clock : C) (link link' : L) (from to : List Exchange → Stand) (answer : Result A NodeFault) (old new : Report)
      → ReportsByLink does part events link link' from to answer old new → Reports gives does part events clock clock link link' from to answer old new
  Reports-link part events clock link link' from to answer old new one = record {
    readings = [];
    exchanges = one.exchanges;
    grants = [];
    told = one.told;
    gave = refl;
    did = one.did;
    course = one.course;
    tells = one.tells;
    reports = one.reports;
  }

  -- memory alone is asked for
  Reports-memory : {A : Type 0} (part : Part A) (events : PartEvents) (clock : C) (link : L) (from to : List Exchange → Stand) (answer : Result A NodeFault) (old new : Report)
      → ReportsByMemory part events from to answer old new → Reports gives does part events clock clock link link from to answer old new
  Reports-memory part events clock link from to answer old new one = record {
    readings = [];
    exchanges = [];
    grants = one.grants;
    told = one.told;
    gave = refl;
    did = refl;
    course = one.course;
    tells = one.tells;
    reports = one.reports;
  }

  Reports-reading : (clock clock' : C) (link : L) (from : List Exchange → Stand) (reading : ℕ) (report : Report)
      → gives clock (Some reading) clock' → Reports gives does next_reading no_events clock clock' link link from from (Ok reading) report report
  Reports-reading clock clock' link from reading report gave = record {
    readings = Some reading ∷ [];
    exchanges = [];
    grants = [];
    told = [];
    gave = (clock', gave, refl);
    did = refl;
    course = Leads-reading from reading;
    tells = Tells-none _ from;
    reports = refl;
  }

  Reports-no_reading : (clock clock' : C) (link : L) (from : List Exchange → Stand) (report : Report)
      → gives clock None clock' → Reports gives does next_reading no_events clock clock' link link from from (Err ClockFailed) report report
  Reports-no_reading clock clock' link from report gave = record {
    readings = None ∷ [];
    exchanges = [];
    grants = [];
    told = [];
    gave = (clock', gave, refl);
    did = refl;
    course = Leads-no_reading from;
    tells = Tells-none _ from;
    reports = refl;
  }

  -- nothing is given
  Reports-by : (part : Part (Unit {0})) (events : PartEvents) (told : List Event) (clock : C) (link : L) (from to : List Exchange → Stand) (old new : Report)
      → Leads part nothing [] from to (Ok tt) → Tells events nothing from told → new ≡ after_events told old → Reports gives does part events clock clock link link from to (Ok tt) old new
  Reports-by part events told clock link from to old new leads tells reports = record {
    readings = [];
    exchanges = [];
    grants = [];
    told = told;
    gave = refl;
    did = refl;
    course = leads;
    tells = tells;
    reports = reports;
  }

  -- none of the parts for each number
  pub Reports-none : (part : ℕ → Part (Unit {0})) (events : ℕ → PartEvents) (clock : C) (link : L) (from : List Exchange → Stand) (report : Report)
      → Reports gives does (each_below 0 part) (events_below 0 part events) clock clock link link from from (Ok tt) report report
  unfolding events_below
  Reports-none part events clock link from report =
      Reports-by (each_below 0 part) (events_below 0 part events) [] clock link from from report report (each-none part from) (Tells-none nothing from) refl

  -- one more of them
  pub Reports-more : (i : ℕ) (part : ℕ → Part (Unit {0})) (events : ℕ → PartEvents) (clock clock' clock'' : C) (link link' link'' : L) (from mid to : List Exchange → Stand) (answer : Result (Unit {0}) NodeFault) (old now new : Report)
      → Reports gives does (each_below i part) (events_below i part events) clock clock' link link' from mid (Ok tt) old now → Reports gives does (part i) (events i) clock' clock'' link' link'' mid to answer now new
      → Reports gives does (each_below (i + 1) part) (events_below (i + 1) part events) clock clock'' link link'' from to answer old new
  unfolding each_below events_below
  Reports-more i part events clock clock' clock'' link link' link'' from mid to answer old now new one two =
      rw add-one (Reports-then (each_below i part) (λ _. part i) (events_below i part events) (λ _. events i) clock clock' clock'' link link' link'' from mid to tt answer old now new one two)

  pub Reports-ends_below : (m n : ℕ) (part : ℕ → Part (Unit {0})) (events : ℕ → PartEvents) (clock clock' : C) (link link' : L) (from to : List Exchange → Stand) (fault : NodeFault) (old new : Report) → m ≤ n
      → Reports gives does (each_below m part) (events_below m part events) clock clock' link link' from to (Err fault) old new
      → Reports gives does (each_below n part) (events_below n part events) clock clock' link link' from to (Err fault) old new
  Reports-ends_below m n part events clock clock' link link' from to fault old new below one = record {
    readings = one.readings;
    exchanges = one.exchanges;
    grants = one.grants;
    told = one.told;
    gave = one.gave;
    did = one.did;
    course = each-ends_below m n part _ one.exchanges from to fault below one.course;
    tells = events-end_below m n part events _ one.exchanges from to fault one.told below one.course one.tells;
    reports = one.reports;
  }

  -- ---- a turn

  received : (packet : Option Packet) (gift : Gift) (clock : C) (link link' : L) (daemon : DaemonState) (items : List Fusion) (tally : Tally) (answer : Result (Option Packet) NodeFault) (report : Report)
      → does link Receive gift link'
      → ((from : List Exchange → Stand) → Leads (packet_part gift) nothing [] from from answer)
      → Reports gives does receive no_events clock clock link link' (stand_of daemon items tally) (stand_of daemon items tally) answer report report
  unfolding receive
  received packet gift clock link link' daemon items tally answer report did looks = record {
    readings = [];
    exchanges = record { call = Receive; gift = gift } ∷ [];
    grants = [];
    told = [];
    gave = refl;
    did = (link', did, refl);
    course = Leads-gift Receive gift packet_part daemon items tally answer (looks _);
    tells = Tells-none _ (stand_of daemon items tally);
    reports = refl;
  }

  -- the link broke
  pub turn-broke : (clock : C) (link link' : L) (daemon : DaemonState) (items : List Fusion) (tally : Tally) (report : Report)
      → does link Receive Broke link'
      → Reports gives does turn turn_events clock clock link link' (stand_of daemon items tally) (stand_of daemon items tally) (Err LinkFailed) report report
  unfolding turn turn_events
  turn-broke clock link link' daemon items tally report did =
      Reports-ends receive take_next no_events next_events clock clock link link' _ _ LinkFailed report report (received None Broke clock link link' daemon items tally (Err LinkFailed) report did Leads-came_broke)

  -- nothing came
  pub turn-nothing : (clock : C) (link link' : L) (daemon : DaemonState) (items : List Fusion) (tally : Tally) (report : Report)
      → does link Receive NothingCame link'
      → Reports gives does turn turn_events clock clock link link' (stand_of daemon items tally) (stand_of daemon items tally) (Ok tt) report report
  unfolding turn take_next turn_events next_events
  turn-nothing clock link link' daemon items tally report did =
      Reports-then receive take_next no_events next_events clock clock clock link link' link' _ _ _ None (Ok tt) report report report (received None NothingCame clock link link' daemon items tally (Ok None) report did Leads-nothing_came)
      (Reports-by (take_next None) (next_events None) [] clock link' _ _ report report (Leads-done _) (Tells-none nothing _) refl)

  -- a packet came, and the clock failed
  pub turn-unread : (clock clock' : C) (link link' : L) (daemon : DaemonState) (items : List Fusion) (tally : Tally) (packet : Packet) (report : Report)
      → does link Receive (Came packet) link' → gives clock None clock'
      → Reports gives does turn turn_events clock clock' link link' (stand_of daemon items tally) (stand_of daemon items tally) (Err ClockFailed) report report
  unfolding turn take_next turn_events next_events
  turn-unread clock clock' link link' daemon items tally packet report did gave =
      Reports-then receive take_next no_events next_events clock clock clock' link link' link' _ _ _ (Some packet) (Err ClockFailed) report report report (received (Some packet) (Came packet) clock link link' daemon items tally (Ok (Some packet)) report did (λ from. Leads-came from packet))
      (Reports-ends next_reading (λ now. take_at now packet) no_events (λ now. take_events now packet) clock clock' link' link' _ _ ClockFailed report report (Reports-no_reading clock clock' link' _ report gave))

  -- a packet came, and was taken or refused
  turn-came : (clock clock' : C) (link link' : L) (daemon after : DaemonState) (items : List Fusion) (tally later : Tally) (packet : Packet) (now : ℕ) (told : List Event) (old new : Report)
      → does link Receive (Came packet) link' → gives clock (Some now) clock'
      → Leads (take_at now packet) nothing [] (stand_of daemon items tally) (stand_of after items later) (Ok tt)
      → taken_events now packet.peer (take_of daemon.table packet.peer now packet.bytes) ≡ told → new ≡ after_events told old
      → Reports gives does turn turn_events clock clock' link link' (stand_of daemon items tally) (stand_of after items later) (Ok tt) old new
  unfolding turn take_next turn_events next_events take_events
  turn-came clock clock' link link' daemon after items tally later packet now told old new did gave takes is reports =
      Reports-then receive take_next no_events next_events clock clock clock' link link' link' _ _ _ (Some packet) (Ok tt) old old new (received (Some packet) (Came packet) clock link link' daemon items tally (Ok (Some packet)) old did (λ from. Leads-came from packet))
      (Reports-then next_reading (λ clock. take_at clock packet) no_events (λ clock. take_events clock packet) clock clock' clock' link' link' link' _ _ _ now (Ok tt) old old new (Reports-reading clock clock' link' _ now old gave)
      (Reports-by (take_at now packet) (take_events now packet) told clock' link' _ _ old new takes (record { tells = λ past rest. is }) reports))

  pub turn-taken : (clock clock' : C) (link link' : L) (daemon after : DaemonState) (items : List Fusion) (tally : Tally) (packet : Packet) (now : ℕ) (old new : Report)
      → does link Receive (Came packet) link' → gives clock (Some now) clock'
      → take_of daemon.table packet.peer now packet.bytes ≡ Ok after.table → after.config ≡ daemon.config → new ≡ after_event (Accepts packet.peer now) old
      → Reports gives does turn turn_events clock clock' link link' (stand_of daemon items tally) (stand_of after items (one_taken tally)) (Ok tt) old new
  turn-taken clock clock' link link' daemon after items tally packet now old new did gave is config reports =
      let same : record daemon { table = after.table } ≡ after = ap (λ c. record { config = c; table = after.table }) (sym config) in
      turn-came clock clock' link link' daemon after items tally (one_taken tally) packet now (Accepts packet.peer now ∷ []) old new did gave
      (subst (λ d. Leads (take_at now packet) nothing [] (stand_of daemon items tally) (stand_of d items (one_taken tally)) (Ok tt)) same (Leads-taken daemon items tally now packet after.table is))
      (ap (taken_events now packet.peer) is) reports

  pub turn-refused : (clock clock' : C) (link link' : L) (daemon after : DaemonState) (items : List Fusion) (tally : Tally) (packet : Packet) (now : ℕ) (fault : SourceFault) (old new : Report)
      → does link Receive (Came packet) link' → gives clock (Some now) clock'
      → take_of daemon.table packet.peer now packet.bytes ≡ Err fault → after ≡ daemon → new ≡ after_event (Refuses packet.peer now fault) old
      → Reports gives does turn turn_events clock clock' link link' (stand_of daemon items tally) (stand_of after items (packet_refused fault tally)) (Ok tt) old new
  turn-refused clock clock' link link' daemon after items tally packet now fault old new did gave is same reports =
      turn-came clock clock' link link' daemon after items tally (packet_refused fault tally) packet now (Refuses packet.peer now fault ∷ []) old new did gave
      (rw same (Leads-not_taken daemon items tally now packet fault is))
      (ap (taken_events now packet.peer) is) reports

-- ---- all polls

module _ {L : Type 0} (does : L → Call → Gift → L → Type 0) where
  -- a poll was refused
  pub poll-refused : (link : L) (daemon : DaemonState) (items : List Fusion) (tally : Tally) (source clock : ℕ) (after : DaemonState) (fault : SourceFault) (report : Report)
      → poll_of daemon.table source clock ≡ Err fault → after ≡ daemon
      → ReportsByLink does (poll_at clock source) (poll_events clock source) link link (stand_of daemon items tally) (stand_of after items tally) (Ok tt) report report
  unfolding poll_events
  poll-refused link daemon items tally source clock after fault report is same = record {
    exchanges = [];
    told = [];
    did = refl;
    course = rw same (Leads-unpolled daemon items tally source clock fault is);
    tells = record { tells = λ past rest. ap (polled_events clock source) is };
    reports = refl;
  }

  -- a source was polled, and the link called
  pub poll-sent : (link link' : L) (daemon : DaemonState) (items : List Fusion) (tally : Tally) (source clock : ℕ) (after : DaemonState) (bytes : List ℕ) (gift : Gift) (answer : Result (Unit {0}) NodeFault) (old new : Report)
      → poll_of daemon.table source clock ≡ Ok after.table → after.config ≡ daemon.config → bytes ≡ request_of after.table source
      → does link (Send (record { peer = source; bytes = bytes })) gift link'
      → ((from : List Exchange → Stand) → Leads (send_part gift) nothing [] from from answer)
      → new ≡ after_event (Polls source clock) old
      → ReportsByLink does (poll_at clock source) (poll_events clock source) link link' (stand_of daemon items tally) (stand_of after items (one_poll tally)) answer old new
  unfolding poll_events
  poll-sent link link' daemon items tally source clock after bytes gift answer old new is config spells did looks reports =
      let same : record daemon { table = after.table } ≡ after = ap (λ c. record { config = c; table = after.table }) (sym config) in
      let sent : does link (Send (record { peer = source; bytes = request_of after.table source })) gift link' =
      subst (λ b. does link (Send (record { peer = source; bytes = b })) gift link') spells did in
      record {
        exchanges = record { call = Send (record { peer = source; bytes = request_of after.table source }); gift = gift } ∷ [];
        told = Polls source clock ∷ [];
        did = (link', sent, refl);
        course = subst (λ d. Leads (poll_at clock source) (one_gift gift) (record { call = Send (record { peer = source; bytes = request_of after.table source }); gift = gift } ∷ []) (stand_of daemon items tally) (stand_of d items (one_poll tally)) answer) same
            (Leads-polled daemon items tally source clock after.table gift answer is (looks _));
        tells = record { tells = λ past rest. ap (polled_events clock source) is };
        reports = reports;
      }

  pub polls-none : (link : L) (clock : ℕ) (from : List Exchange → Stand) (report : Report)
      → ReportsByLink does (each_below 0 (poll_at clock)) (events_below 0 (poll_at clock) (poll_events clock)) link link from from (Ok tt) report report
  unfolding events_below
  polls-none link clock from report =
      record { exchanges = []; told = []; did = refl; course = each-none (poll_at clock) from; tells = Tells-none nothing from; reports = refl }

  pub polls-more : (i clock : ℕ) (link link' link'' : L) (from mid to : List Exchange → Stand) (answer : Result (Unit {0}) NodeFault) (old now new : Report)
      → ReportsByLink does (each_below i (poll_at clock)) (events_below i (poll_at clock) (poll_events clock)) link link' from mid (Ok tt) old now
      → ReportsByLink does (poll_at clock i) (poll_events clock i) link' link'' mid to answer now new
      → ReportsByLink does (each_below (i + 1) (poll_at clock)) (events_below (i + 1) (poll_at clock) (poll_events clock)) link link'' from to answer old new
  unfolding each_below events_below
  polls-more i clock link link' link'' from mid to answer old now new one two = rw add-one (record {
    exchanges = one.exchanges ++ two.exchanges;
    told = two.told ++ one.told;
    did = LinkDoes-append does link link' link'' one.exchanges two.exchanges one.did two.did;
    course =
        subst (λ gifts. Leads (each_below i (poll_at clock) >> poll_at clock i) (record { readings = []; gifts = gifts; grants = [] }) (one.exchanges ++ two.exchanges) from to answer)
        (sym (gifts_in-append one.exchanges two.exchanges))
        (Leads-then (each_below i (poll_at clock)) (λ _. poll_at clock i) _ _ one.exchanges two.exchanges from mid to tt answer one.course two.course);
    tells =
        subst (λ gifts. Tells (events_then (each_below i (poll_at clock)) (events_below i (poll_at clock) (poll_events clock)) (λ _. poll_events clock i)) (record { readings = []; gifts = gifts; grants = [] }) from (two.told ++ one.told))
        (sym (gifts_in-append one.exchanges two.exchanges))
        (Tells-then (each_below i (poll_at clock)) (events_below i (poll_at clock) (poll_events clock)) (λ _. poll_events clock i) _ _ one.exchanges from mid tt one.told two.told one.course one.tells two.tells);
    reports = two.reports ∙ ap (after_events two.told) one.reports ∙ sym (after_events-append two.told one.told old);
  })

  -- the polls of all sources
  pub polls-all : (n clock : ℕ) (link link' : L) (daemon : DaemonState) (items : List Fusion) (tally : Tally) (to : List Exchange → Stand) (answer : Result (Unit {0}) NodeFault) (old new : Report) → n ≡ daemon.config.sources
      → ReportsByLink does (each_below n (poll_at clock)) (events_below n (poll_at clock) (poll_events clock)) link link' (stand_of daemon items tally) to answer old new
      → ReportsByLink does (poll_all clock) (polls_events clock) link link' (stand_of daemon items tally) to answer old new
  unfolding poll_all polls_events
  polls-all n clock link link' daemon items tally to answer old new is one = record {
    exchanges = one.exchanges;
    told = one.told;
    did = one.did;
    course = record {
      leads = λ past rest.
          subst (λ k. each_below k (poll_at clock) (stand_of daemon items tally past) (before_rest (record { readings = []; gifts = gifts_in one.exchanges; grants = [] }) rest) ≡ part_with answer (to (past ++ one.exchanges)) rest) is
          (one.course.leads past rest);
    };
    tells = record {
      tells = λ past rest.
          subst (λ k. events_below k (poll_at clock) (poll_events clock) (stand_of daemon items tally past) (before_rest (record { readings = []; gifts = gifts_in one.exchanges; grants = [] }) rest) ≡ one.told) is
          (one.tells.tells past rest);
    };
    reports = one.reports;
  }

  pub polls-ended : (m clock : ℕ) (link link' : L) (daemon : DaemonState) (items : List Fusion) (tally : Tally) (to : List Exchange → Stand) (fault : NodeFault) (old new : Report) → m ≤ daemon.config.sources
      → ReportsByLink does (each_below m (poll_at clock)) (events_below m (poll_at clock) (poll_events clock)) link link' (stand_of daemon items tally) to (Err fault) old new
      → ReportsByLink does (poll_all clock) (polls_events clock) link link' (stand_of daemon items tally) to (Err fault) old new
  polls-ended m clock link link' daemon items tally to fault old new below one =
      polls-all daemon.config.sources clock link link' daemon items tally to (Err fault) old new refl (record {
        exchanges = one.exchanges;
        told = one.told;
        did = one.did;
        course = each-ends_below m daemon.config.sources (poll_at clock) _ one.exchanges (stand_of daemon items tally) to fault below one.course;
        tells = events-end_below m daemon.config.sources (poll_at clock) (poll_events clock) _ one.exchanges (stand_of daemon items tally) to fault one.told below one.course one.tells;
        reports = one.reports;
      })

-- ---- a round

module _ {C L : Type 0} (gives : C → Option ℕ → C → Type 0) (does : L → Call → Gift → L → Type 0) where
  -- a round begins by forgetting what was reported before
  begun : (turns : ℕ) (clock clock' : C) (link link' : L) (from to : List Exchange → Stand) (answer : Result (Unit {0}) NodeFault) (old now new : Report) → now ≡ after_event Begins old
      → Reports gives does (round_of turns) (events_then next_reading no_events (λ sent. events_then (poll_all sent) (polls_events sent) (λ _. turns_events turns))) clock clock' link link' from to answer now new
      → Reports gives does (round_of turns) (round_events turns) clock clock' link link' from to answer old new
  unfolding round_events
  begun turns clock clock' link link' from to answer old now new begins one = record {
    readings = one.readings;
    exchanges = one.exchanges;
    grants = one.grants;
    told = one.told ++ Begins ∷ [];
    gave = one.gave;
    did = one.did;
    course = one.course;
    tells = record { tells = λ past rest. ap (λ told. told ++ Begins ∷ []) (one.tells.tells past rest) };
    reports = one.reports ∙ ap (after_events one.told) begins ∙ sym (after_events-append one.told (Begins ∷ []) old);
  }

  -- the clock failed before the polls
  pub round-unsent : (turns : ℕ) (clock clock' : C) (link : L) (from : List Exchange → Stand) (old now : Report) → now ≡ after_event Begins old → gives clock None clock'
      → Reports gives does (round_of turns) (round_events turns) clock clock' link link from from (Err ClockFailed) old now
  unfolding round_of
  round-unsent turns clock clock' link from old now begins gave =
      begun turns clock clock' link link from from (Err ClockFailed) old now now begins
      (Reports-ends gives does next_reading _ no_events _ clock clock' link link from from ClockFailed now now (Reports-no_reading gives does clock clock' link from now gave))

  -- a poll ended the round
  pub round-unpolled : (turns sent : ℕ) (clock clock' : C) (link link' : L) (from to : List Exchange → Stand) (fault : NodeFault) (old now new : Report) → now ≡ after_event Begins old → gives clock (Some sent) clock'
      → ReportsByLink does (poll_all sent) (polls_events sent) link link' from to (Err fault) now new
      → Reports gives does (round_of turns) (round_events turns) clock clock' link link' from to (Err fault) old new
  unfolding round_of
  round-unpolled turns sent clock clock' link link' from to fault old now new begins gave polls =
      begun turns clock clock' link link' from to (Err fault) old now new begins
      (Reports-then gives does next_reading _ no_events (λ sent. events_then (poll_all sent) (polls_events sent) (λ _. turns_events turns)) clock clock' clock' link link link' from from to sent (Err fault) now now new (Reports-reading gives does clock clock' link from sent now gave)
      (Reports-ends gives does (poll_all sent) _ (polls_events sent) (λ _. turns_events turns) clock' clock' link link' from to fault now new (Reports-link gives does (poll_all sent) (polls_events sent) clock' link link' from to (Err fault) now new polls)))

  -- the polls went well, and then the turns, and what follows them
  pub round-polled : (turns sent : ℕ) (clock clock' clock'' : C) (link link' link'' : L) (from mid to : List Exchange → Stand) (answer : Result (Unit {0}) NodeFault) (old now then new : Report) → now ≡ after_event Begins old → gives clock (Some sent) clock'
      → ReportsByLink does (poll_all sent) (polls_events sent) link link' from mid (Ok tt) now then
      → Reports gives does (each_below turns (λ _. turn) >> (next_reading >>= fuse_at)) (turns_events turns) clock' clock'' link' link'' mid to answer then new
      → Reports gives does (round_of turns) (round_events turns) clock clock'' link link'' from to answer old new
  unfolding round_of
  round-polled turns sent clock clock' clock'' link link' link'' from mid to answer old now then new begins gave polls rest =
      begun turns clock clock'' link link'' from to answer old now new begins
      (Reports-then gives does next_reading _ no_events (λ sent. events_then (poll_all sent) (polls_events sent) (λ _. turns_events turns)) clock clock' clock'' link link link'' from from to sent answer now now new (Reports-reading gives does clock clock' link from sent now gave)
      (Reports-then gives does (poll_all sent) _ (polls_events sent) (λ _. turns_events turns) clock' clock' clock'' link link' link'' from mid to tt answer now then new (Reports-link gives does (poll_all sent) (polls_events sent) clock' link link' from mid (Ok tt) now then polls) rest))

  -- a turn ended the round
  pub turns-ended : (turns : ℕ) (clock clock' : C) (link link' : L) (from to : List Exchange → Stand) (fault : NodeFault) (old new : Report)
      → Reports gives does (each_below turns (λ _. turn)) (events_below turns (λ _. turn) (λ _. turn_events)) clock clock' link link' from to (Err fault) old new
      → Reports gives does (each_below turns (λ _. turn) >> (next_reading >>= fuse_at)) (turns_events turns) clock clock' link link' from to (Err fault) old new
  unfolding turns_events
  turns-ended turns clock clock' link link' from to fault old new one =
      Reports-ends gives does (each_below turns (λ _. turn)) _ (events_below turns (λ _. turn) (λ _. turn_events)) (λ _. events_then next_reading no_events fuse_events) clock clock' link link' from to fault old new one

  -- the clock failed before the fusion
  pub turns-unread : (turns : ℕ) (clock clock' clock'' : C) (link link' : L) (from to : List Exchange → Stand) (old new : Report)
      → Reports gives does (each_below turns (λ _. turn)) (events_below turns (λ _. turn) (λ _. turn_events)) clock clock' link link' from to (Ok tt) old new → gives clock' None clock''
      → Reports gives does (each_below turns (λ _. turn) >> (next_reading >>= fuse_at)) (turns_events turns) clock clock'' link link' from to (Err ClockFailed) old new
  unfolding turns_events
  turns-unread turns clock clock' clock'' link link' from to old new one gave =
      Reports-then gives does (each_below turns (λ _. turn)) _ (events_below turns (λ _. turn) (λ _. turn_events)) (λ _. events_then next_reading no_events fuse_events) clock clock' clock'' link link' link' from to to tt (Err ClockFailed) old new new one
      (Reports-ends gives does next_reading fuse_at no_events fuse_events clock' clock'' link' link' to to ClockFailed new new (Reports-no_reading gives does clock' clock'' link' to new gave))

  -- the fusion ended the round
  pub turns-fused : (turns now : ℕ) (clock clock' clock'' : C) (link link' : L) (from mid to : List Exchange → Stand) (answer : Result (Unit {0}) NodeFault) (old then new : Report)
      → Reports gives does (each_below turns (λ _. turn)) (events_below turns (λ _. turn) (λ _. turn_events)) clock clock' link link' from mid (Ok tt) old then → gives clock' (Some now) clock''
      → ReportsByMemory (fuse_at now) (fuse_events now) mid to answer then new
      → Reports gives does (each_below turns (λ _. turn) >> (next_reading >>= fuse_at)) (turns_events turns) clock clock'' link link' from to answer old new
  unfolding turns_events
  turns-fused turns now clock clock' clock'' link link' from mid to answer old then new one gave fuses =
      Reports-then gives does (each_below turns (λ _. turn)) _ (events_below turns (λ _. turn) (λ _. turn_events)) (λ _. events_then next_reading no_events fuse_events) clock clock' clock'' link link' link' from mid to tt answer old then new one
      (Reports-then gives does next_reading fuse_at no_events fuse_events clock' clock'' clock'' link' link' link' mid mid to now answer then then new (Reports-reading gives does clock' clock'' link' mid now then gave)
      (Reports-memory gives does (fuse_at now) (fuse_events now) clock'' link' mid to answer then new fuses))

  -- all rounds
  pub rounds-none : (turns : ℕ) (clock : C) (link : L) (daemon : DaemonState) (items : List Fusion) (tally : Tally) (report : Report) → tally ≡ no_tally
      → Reports gives does (each_below 0 (λ _. round_of turns)) (events_below 0 (λ _. round_of turns) (λ _. round_events turns)) clock clock link link (stand_of daemon items no_tally) (stand_of daemon items tally) (Ok tt) report report
  rounds-none turns clock link daemon items tally report is =
      rw is (Reports-none gives does (λ _. round_of turns) (λ _. round_events turns) clock link (stand_of daemon items no_tally) report)

  pub rounds-all : (n rounds turns : ℕ) (clock clock' : C) (link link' : L) (from to : List Exchange → Stand) (answer : Result (Unit {0}) NodeFault) (old new : Report) → n ≡ rounds
      → Reports gives does (each_below n (λ _. round_of turns)) (events_below n (λ _. round_of turns) (λ _. round_events turns)) clock clock' link link' from to answer old new
      → Reports gives does (rounds_of rounds turns) (rounds_events rounds turns) clock clock' link link' from to answer old new
  unfolding rounds_of rounds_events
  rounds-all n rounds turns clock clock' link link' from to answer old new is one =
      subst (λ k. Reports gives does (each_below k (λ _. round_of turns)) (events_below k (λ _. round_of turns) (λ _. round_events turns)) clock clock' link link' from to answer old new) is one
