-- What a session hears and says while it is lent the post: parts of it, one after the other.
use Rattle.std.proofs.Common.{◌≡◌, ◌⊎◌, inl, inr, ℕ, List, [], ◌++◌, take, drop, Option, Some, None, Bool, Result, Ok, Err, OnOk, OnErr, refl, sym, ap, ◌∙◌, subst, append_assoc, append-nil, take-append-drop}
use Rattle.std.specs.Io.KnownBytes.{Appends, Consumes, Keeps, prepend_known}
use Rattle.std.proofs.KnownBytes.{Appends-nil, Appends-trans, Appends-kept, Consumes-nil, Consumes-trans, Keeps-refl}
use Rattle.tt_clock.specs.Clock.{ClockState, MachineGives}
use Rattle.tt_connections.specs.Client.{ClientSays}
use Rattle.tt_connections.specs.Station.{PostState}
use Rattle.tt_connections.specs.Turns.{PostGoesOn}
use Rattle.tt_connections.specs.Visits.{VisitState, StandsOn, TurnsOn, BreaksTurn}
use Rattle.tt_connections.proofs.Turning.{post-same, post-both}
use Rattle.tt_connections.proofs.Visiting.{stands_on-nil, stands_on-both}
use Rattle.tt_workers.specs.Worker.{SessionState, Serves, ServesLast, Hears, HearsLast, unheard, clock_failures, max_waits}

-- ---- what an answer says
pub on-ok : {A E : Type 0} {P Q : Type 0} (answer : Result A E) → (P → Q) → OnOk answer P → OnOk answer Q
on-ok (Ok value) then said = then said
on-ok (Err fault) then said = tt

pub on-err : {A E : Type 0} {P Q : Type 0} (answer : Result A E) → (P → Q) → OnErr answer P → OnErr answer Q
on-err (Ok value) then said = tt
on-err (Err fault) then said = then said

pub ok-is : {A E : Type 0} {P : Type 0} (answer : Result A E) (value : A) → answer ≡ Ok value → OnOk answer P → P
ok-is {A} {E} {P} answer value is said = subst (λ (a : Result A E). OnOk a P) is said

pub err-is : {A E : Type 0} {P : Type 0} (answer : Result A E) (fault : E) → answer ≡ Err fault → OnErr answer P → P
err-is {A} {E} {P} answer fault is said = subst (λ (a : Result A E). OnErr a P) is said

pub always-err : {A E : Type 0} {P : Type 0} (answer : Result A E) → P → OnErr answer P
always-err (Ok value) said = tt
always-err (Err fault) said = said

pub either : {A E : Type 0} {P : Type 0} (answer : Result A E) → OnOk answer P → OnErr answer P → P
either (Ok value) on over = on
either (Err fault) on over = over

-- ---- bytes, and those before them
pub split-is : (rest front behind : List ℕ) (n : ℕ) → front ≡ take n rest → behind ≡ drop n rest → rest ≡ front ++ behind
split-is rest front behind n head tail =
    sym (take-append-drop n rest) ∙ ap (λ (l : List ℕ). l ++ drop n rest) (sym head) ∙ ap (λ (l : List ℕ). front ++ l) (sym tail)

prepend-nil : (left : Option (List ℕ)) → Consumes left (prepend_known [] left) []
prepend-nil None = tt
prepend-nil (Some xs) = refl

-- bytes that are heard of some, where the rest is left
pub front-heard : (left : Option (List ℕ)) (bytes heard rest : List ℕ) → bytes ≡ heard ++ rest → Consumes (prepend_known bytes left) (prepend_known rest left) heard
front-heard None bytes heard rest is = tt
front-heard (Some xs) bytes heard rest is = ap (λ (l : List ℕ). l ++ xs) is ∙ append_assoc heard rest xs

-- what takes bytes of a session, to hear them: they come before what it still has not heard, and nothing else changes
pub record Takes (old : SessionState) (bytes : List ℕ) (mid : SessionState) : Type 0 where
  pub gave : Consumes (unheard old) (prepend_known bytes mid.left) []
  pub visit : mid.visit ≡ old.visit
  pub written : mid.written ≡ old.written
  pub first_left : mid.first_left ≡ old.first_left
  pub first_written : mid.first_written ≡ old.first_written

-- bytes that were read, where none was held
read-held : (left left' : Option (List ℕ)) (held bytes : List ℕ) → held ≡ [] → Consumes left left' bytes → Consumes (prepend_known held left) (prepend_known bytes left') []
read-held None left' held bytes none gave = tt
read-held (Some xs) None held bytes none gave = absurd gave
read-held (Some xs) (Some ys) held bytes none gave = ap (λ (l : List ℕ). l ++ xs) none ∙ gave

pub takes-read : (old : SessionState) (bytes : List ℕ) (left : Option (List ℕ)) → old.held ≡ [] → Consumes old.left left bytes → Takes old bytes (record old { left = left })
takes-read old bytes left none gave = record { gave = read-held old.left left old.held bytes none gave; visit = refl; written = refl; first_left = refl; first_written = refl }

-- bytes that were held
pub takes-held : (old : SessionState) (bytes held : List ℕ) → bytes ≡ old.held → Takes old bytes (record old { held = held })
takes-held old bytes held is = record {
  gave = subst (λ (b : List ℕ). Consumes (unheard old) (prepend_known b old.left) []) (sym is) (Consumes-nil (unheard old));
  visit = refl;
  written = refl;
  first_left = refl;
  first_written = refl;
}

-- ---- parts, one after the other
stands-nil-of : (old : SessionState) (post : PostState ClockState) → StandsOn MachineGives clock_failures ClientSays max_waits tt [] [] old.visit post old.visit post
stands-nil-of old post = stands_on-nil MachineGives clock_failures ClientSays max_waits tt old.visit post

module _ (old : SessionState) (post : PostState ClockState) where
  stands-nil : StandsOn MachineGives clock_failures ClientSays max_waits tt [] [] old.visit post old.visit post
  stands-nil = stands-nil-of old post

  -- nothing is heard, and nothing changes but what is held
  pub hears-nil : (bytes : List ℕ) → Hears bytes bytes old post old post
  hears-nil bytes = record {
    heard = [];
    text = [];
    bytes_are = refl;
    stands = stands-nil;
    goes = post-same post post refl;
    wrote = Appends-nil old.written;
    left = refl;
    first_left = refl;
    first_written = refl;
  }

  -- a front is heard, and then a front of what is left
  pub hears-both : (mid new : SessionState) (mids later : PostState ClockState) (bytes front rest : List ℕ)
      → Hears bytes (front ++ rest) old post mid mids → Hears front [] mid mids new later → Hears bytes rest old post new later
  hears-both mid new mids later bytes front rest one two = record {
    heard = one.heard ++ two.heard;
    text = one.text ++ two.text;
    bytes_are =
        one.bytes_are ∙ ap (λ (l : List ℕ). one.heard ++ (l ++ rest)) (two.bytes_are ∙ append-nil two.heard) ∙ sym (append_assoc one.heard two.heard rest);
    stands =
        stands_on-both MachineGives clock_failures ClientSays max_waits tt one.heard two.heard one.text two.text old.visit mid.visit new.visit post mids later one.stands two.stands;
    goes = post-both post mids later one.goes two.goes;
    wrote = Appends-trans old.written mid.written new.written one.text two.text one.wrote two.wrote;
    left = two.left ∙ one.left;
    first_left = two.first_left ∙ one.first_left;
    first_written = two.first_written ∙ one.first_written;
  }

  -- a front is heard, and then it is over within what is left
  pub hears-then-last : (mid new : SessionState) (mids later : PostState ClockState) (bytes front rest : List ℕ)
      → Hears bytes (front ++ rest) old post mid mids → HearsLast front mid mids new later → HearsLast bytes old post new later
  hears-then-last mid new mids later bytes front rest one two = record {
    heard = one.heard ++ two.heard;
    rest = two.rest ++ rest;
    said = one.text ++ two.said;
    unsaid = two.unsaid;
    bytes_are =
        one.bytes_are ∙ ap (λ (l : List ℕ). one.heard ++ (l ++ rest)) two.bytes_are ∙ ap (λ (l : List ℕ). one.heard ++ l) (append_assoc two.heard two.rest rest)
        ∙ sym (append_assoc one.heard two.heard (two.rest ++ rest));
    stands =
        subst (λ (t : List ℕ). StandsOn MachineGives clock_failures ClientSays max_waits tt (one.heard ++ two.heard) t old.visit post new.visit later)
        (sym (append_assoc one.text two.said two.unsaid))
        (stands_on-both MachineGives clock_failures ClientSays max_waits tt one.heard two.heard one.text (two.said ++ two.unsaid) old.visit mid.visit new.visit post mids later one.stands two.stands);
    goes = post-both post mids later one.goes two.goes;
    wrote = Appends-trans old.written mid.written new.written one.text two.said one.wrote two.wrote;
    first_left = two.first_left ∙ one.first_left;
    first_written = two.first_written ∙ one.first_written;
  }

  -- a front is heard, and it is over
  pub hears-last : (new : SessionState) (later : PostState ClockState) (bytes rest : List ℕ) → Hears bytes rest old post new later → HearsLast bytes old post new later
  hears-last new later bytes rest one = record {
    heard = one.heard;
    rest = rest;
    said = one.text;
    unsaid = [];
    bytes_are = one.bytes_are;
    stands =
        subst (λ (t : List ℕ). StandsOn MachineGives clock_failures ClientSays max_waits tt one.heard t old.visit post new.visit later) (sym (append-nil one.text)) one.stands;
    goes = one.goes;
    wrote = one.wrote;
    first_left = one.first_left;
    first_written = one.first_written;
  }

  -- a front is heard, and what is left is held
  pub hears-held : (mid new : SessionState) (later : PostState ClockState) (bytes rest : List ℕ) → Hears bytes rest old post mid later
      → new ≡ record mid { held = new.held } → mid.held ≡ [] → new.held ≡ mid.held ++ rest → Hears bytes new.held old post new later
  hears-held mid new later bytes rest h is none held =
      let held_is : new.held ≡ rest = held ∙ ap (λ (l : List ℕ). l ++ rest) none in
      subst (λ (s : SessionState). Hears bytes new.held old post s later) (sym is)
      (record {
        heard = h.heard;
        text = h.text;
        bytes_are = h.bytes_are ∙ ap (λ (l : List ℕ). h.heard ++ l) (sym held_is);
        stands = h.stands;
        goes = h.goes;
        wrote = h.wrote;
        left = h.left;
        first_left = h.first_left;
        first_written = h.first_written;
      })

  -- a front is heard, and there is no memory for what is left
  pub held-last : (mid new : SessionState) (later : PostState ClockState) (bytes rest : List ℕ) → Hears bytes rest old post mid later
      → new ≡ record mid { held = new.held } → HearsLast bytes old post new later
  held-last mid new later bytes rest h is =
      let last = hears-last mid later bytes rest h in
      subst (λ (s : SessionState). HearsLast bytes old post s later) (sym is)
      (record {
        heard = last.heard;
        rest = last.rest;
        said = last.said;
        unsaid = last.unsaid;
        bytes_are = last.bytes_are;
        stands = last.stands;
        goes = last.goes;
        wrote = last.wrote;
        first_left = last.first_left;
        first_written = last.first_written;
      })

  -- the first of some bytes are heard, and it is over
  pub front-last : {A E : Type 0} (new : SessionState) (later : PostState ClockState) (bytes front behind : List ℕ) (answer : Result A E) → bytes ≡ front ++ behind
      → OnOk answer (Hears front new.held old post new later) → OnErr answer (HearsLast front old post new later) → HearsLast bytes old post new later
  front-last new later bytes front behind answer is on over =
      let last : HearsLast front old post new later = either answer (on-ok answer (hears-last new later front new.held) on) over in
      hears-then-last old new post later bytes front behind (subst (λ (l : List ℕ). Hears bytes l old post old post) is (hears-nil bytes)) last

  -- ---- one turn
  -- a turn whose replies were all written
  pub hears-turn : (new : SessionState) (later : PostState ClockState) (bytes : List ℕ) → PostGoesOn post later
      → TurnsOn MachineGives clock_failures ClientSays max_waits old.written new.written tt bytes old.visit post new.visit later
      → new.left ≡ old.left → new.first_left ≡ old.first_left → new.first_written ≡ old.first_written → Hears bytes [] old post new later
  hears-turn new later bytes goes turned left first_left first_written = record {
    heard = bytes;
    text = turned.text;
    bytes_are = sym (append-nil bytes);
    stands = turned.stands;
    goes = goes;
    wrote = turned.written;
    left = left;
    first_left = first_left;
    first_written = first_written;
  }

  -- a turn that broke off
  pub breaks-turn : {W : Type 0} (new : SessionState) (later : PostState ClockState) (bytes : List ℕ) (shows : W → Option (List ℕ)) (flushed : W → Bool) (before after : W) → PostGoesOn post later
      → BreaksTurn MachineGives clock_failures ClientSays max_waits shows flushed before after tt bytes old.visit post new.visit later
      → shows before ≡ old.written → shows after ≡ new.written
      → new.first_left ≡ old.first_left → new.first_written ≡ old.first_written → HearsLast bytes old post new later
  breaks-turn new later bytes shows flushed before after goes broke was is first_left first_written = record {
    heard = broke.heard ++ broke.own;
    rest = broke.unheard;
    said = broke.text ++ broke.front;
    unsaid = broke.cut;
    bytes_are = broke.bytes_are;
    stands =
        subst (λ (t : List ℕ). StandsOn MachineGives clock_failures ClientSays max_waits tt (broke.heard ++ broke.own) t old.visit post new.visit later)
        (ap (λ (t : List ℕ). broke.text ++ t) broke.more_is ∙ sym (append_assoc broke.text broke.front broke.cut)) broke.stands;
    goes = goes;
    wrote =
        subst (λ (from : Option (List ℕ)). Appends from new.written (broke.text ++ broke.front)) was
        (subst (λ (to : Option (List ℕ)). Appends (shows before) to (broke.text ++ broke.front)) is
        (Appends-trans (shows before) (shows broke.kept.mid) (shows after) broke.text broke.front broke.kept.had broke.kept.has));
    first_left = first_left;
    first_written = first_written;
  }

  -- a turn after which it is over: its lines could not be counted any more, or its writer failed
  pub last-turn : {W F : Type 0} {X : Type 0} (new : SessionState) (later : PostState ClockState) (bytes : List ℕ) (shows : W → Option (List ℕ)) (flushed : W → Bool) (before after : W) → PostGoesOn post later
      → (X × (new.visit ≡ old.visit) × (after ≡ before) × (later ≡ post)) ⊎ (F × BreaksTurn MachineGives clock_failures ClientSays max_waits shows flushed before after tt bytes old.visit post new.visit later)
      → shows before ≡ old.written → shows after ≡ new.written
      → new.first_left ≡ old.first_left → new.first_written ≡ old.first_written → HearsLast bytes old post new later
  last-turn new later bytes shows flushed before after goes (inl (spent, visit, same, stays)) was is first_left first_written = record {
    heard = [];
    rest = bytes;
    said = [];
    unsaid = [];
    bytes_are = refl;
    stands =
        subst (λ (p : PostState ClockState). StandsOn MachineGives clock_failures ClientSays max_waits tt [] [] old.visit post new.visit p) (sym stays)
        (subst (λ (v : VisitState). StandsOn MachineGives clock_failures ClientSays max_waits tt [] [] old.visit post v post) (sym visit) stands-nil);
    goes = goes;
    wrote = subst (λ (to : Option (List ℕ)). Appends old.written to []) (sym was ∙ sym (ap shows same) ∙ is) (Appends-nil old.written);
    first_left = first_left;
    first_written = first_written;
  }
  last-turn new later bytes shows flushed before after goes (inr (failed, broke)) was is first_left first_written =
      breaks-turn new later bytes shows flushed before after goes broke was is first_left first_written

-- the same of a session that is opened
pub turn-ok : {E : Type 0} (at old : SessionState) (post : PostState ClockState) (new : SessionState) (later : PostState ClockState) (bytes : List ℕ) (answer : Result (Unit {0}) E) → at ≡ old → PostGoesOn post later
    → OnOk answer (TurnsOn MachineGives clock_failures ClientSays max_waits at.written new.written tt bytes at.visit post new.visit later)
    → new.left ≡ at.left → new.first_left ≡ at.first_left → new.first_written ≡ at.first_written → OnOk answer (Hears bytes [] old post new later)
turn-ok at old post new later bytes answer is goes turned left first_left first_written =
    subst (λ (s : SessionState). OnOk answer (Hears bytes [] s post new later)) is
    (on-ok answer (λ t. hears-turn at post new later bytes goes t left first_left first_written) turned)

pub turn-over : {E W : Type 0} (X F : Type 0) (at old : SessionState) (post : PostState ClockState) (new : SessionState) (later : PostState ClockState) (bytes : List ℕ) (shows : W → Option (List ℕ)) (flushed : W → Bool) (before after : W) (answer : Result (Unit {0}) E) → at ≡ old → PostGoesOn post later
    → OnErr answer ((X × (new.visit ≡ at.visit) × (after ≡ before) × (later ≡ post)) ⊎ (F × BreaksTurn MachineGives clock_failures ClientSays max_waits shows flushed before after tt bytes at.visit post new.visit later))
    → shows before ≡ at.written → shows after ≡ new.written
    → new.first_left ≡ at.first_left → new.first_written ≡ at.first_written → OnErr answer (HearsLast bytes old post new later)
turn-over X F at old post new later bytes shows flushed before after answer is goes over was shown first_left first_written =
    subst (λ (s : SessionState). OnErr answer (HearsLast bytes s post new later)) is
    (on-err answer (λ o. last-turn at post new later bytes shows flushed before after goes o was shown first_left first_written) over)

module _ (old : SessionState) (post : PostState ClockState) where
  -- ---- what its connection gave
  -- bytes that it took, of which a front was heard; the others are held
  pub serves-fed : (mid new : SessionState) (later : PostState ClockState) (bytes : List ℕ) → Takes old bytes mid → Hears bytes new.held mid post new later → Serves old post new later
  serves-fed mid new later bytes took h = record {
    heard = h.heard;
    text = h.text;
    stands = subst (λ (v : VisitState). StandsOn MachineGives clock_failures ClientSays max_waits tt h.heard h.text v post new.visit later) took.visit h.stands;
    goes = h.goes;
    gave =
        Consumes-trans (unheard old) (prepend_known bytes mid.left) (unheard new) [] h.heard took.gave
        (subst (λ (l : Option (List ℕ)). Consumes (prepend_known bytes mid.left) (prepend_known new.held l) h.heard) (sym h.left) (front-heard mid.left bytes h.heard new.held h.bytes_are));
    wrote = subst (λ (w : Option (List ℕ)). Appends w new.written h.text) took.written h.wrote;
    first_left = h.first_left ∙ took.first_left;
    first_written = h.first_written ∙ took.first_written;
  }

  -- bytes that it took, of which a front was heard, before it was over
  pub serves-last : (mid new : SessionState) (later : PostState ClockState) (bytes : List ℕ) → Takes old bytes mid → HearsLast bytes mid post new later → ServesLast old post new later
  serves-last mid new later bytes took h = record {
    heard = h.heard;
    rest = prepend_known h.rest mid.left;
    said = h.said;
    unsaid = h.unsaid;
    stands = subst (λ (v : VisitState). StandsOn MachineGives clock_failures ClientSays max_waits tt h.heard (h.said ++ h.unsaid) v post new.visit later) took.visit h.stands;
    goes = h.goes;
    gave =
        Consumes-trans (unheard old) (prepend_known bytes mid.left) (prepend_known h.rest mid.left) [] h.heard took.gave (front-heard mid.left bytes h.heard h.rest h.bytes_are);
    wrote = subst (λ (w : Option (List ℕ)). Appends w new.written h.said) took.written h.wrote;
    first_left = h.first_left ∙ took.first_left;
    first_written = h.first_written ∙ took.first_written;
  }

  -- nothing is heard, and nothing said
  pub serves-nothing : (new : SessionState) → new.visit ≡ old.visit → Consumes (unheard old) (unheard new) [] → Keeps old.written new.written → new.first_left ≡ old.first_left → new.first_written ≡ old.first_written → Serves old post new post
  serves-nothing new visit gave kept first_left first_written = record {
    heard = [];
    text = [];
    stands = subst (λ (v : VisitState). StandsOn MachineGives clock_failures ClientSays max_waits tt [] [] old.visit post v post) (sym visit) (stands-nil-of old post);
    goes = post-same post post refl;
    gave = gave;
    wrote = Appends-kept old.written old.written new.written [] (Appends-nil old.written) kept;
    first_left = first_left;
    first_written = first_written;
  }

  -- nothing is heard any more
  pub nothing-last : (new : SessionState) → new.visit ≡ old.visit → Keeps old.written new.written → new.first_left ≡ old.first_left → new.first_written ≡ old.first_written → ServesLast old post new post
  nothing-last new visit kept first_left first_written = record {
    heard = [];
    rest = unheard old;
    said = [];
    unsaid = [];
    stands = subst (λ (v : VisitState). StandsOn MachineGives clock_failures ClientSays max_waits tt [] [] old.visit post v post) (sym visit) (stands-nil-of old post);
    goes = post-same post post refl;
    gave = Consumes-nil (unheard old);
    wrote = Appends-kept old.written old.written new.written [] (Appends-nil old.written) kept;
    first_left = first_left;
    first_written = first_written;
  }

  -- ---- in the code's words
  -- what was read, where none was held
  pub read-takes : (read mid : SessionState) (bytes : List ℕ) → old.held ≡ [] → read ≡ record old { left = read.left } → mid ≡ read → Consumes old.left read.left bytes → Takes old bytes mid
  read-takes read mid bytes none is same gave = subst (λ (s : SessionState). Takes old bytes s) (sym (same ∙ is)) (takes-read old bytes read.left none gave)

  -- nothing came
  pub nothing-read : (new : SessionState) (bytes : List ℕ) → old.held ≡ [] → new ≡ record old { left = new.left } → bytes ≡ [] → Consumes old.left new.left bytes → Serves old post new post
  nothing-read new bytes none is empty gave =
      subst (λ (s : SessionState). Serves old post s post) (sym is)
      (serves-nothing (record old { left = new.left }) refl
      (Consumes-trans (unheard old) (prepend_known [] new.left) (unheard (record old { left = new.left })) [] []
      (read-held old.left new.left old.held [] none (subst (λ (b : List ℕ). Consumes old.left new.left b) empty gave))
      (subst (λ (h : List ℕ). Consumes (prepend_known [] new.left) (prepend_known h new.left) []) (sym none) (Consumes-nil (prepend_known [] new.left))))
      (Keeps-refl old.written) refl refl)

  -- nothing comes any more
  pub read-last : (new : SessionState) → new ≡ record old { left = new.left } → ServesLast old post new post
  read-last new is =
      subst (λ (s : SessionState). ServesLast old post s post) (sym is) (nothing-last (record old { left = new.left }) refl (Keeps-refl old.written) refl refl)

  -- it was over, and then what still came was read
  pub then-read : (mid new : SessionState) (later : PostState ClockState) → ServesLast old post mid later → new ≡ record mid { left = new.left } → ServesLast old post new later
  then-read mid new later s is =
      subst (λ (t : SessionState). ServesLast old post t later) (sym is)
      (record {
        heard = s.heard;
        rest = s.rest;
        said = s.said;
        unsaid = s.unsaid;
        stands = s.stands;
        goes = s.goes;
        gave = s.gave;
        wrote = s.wrote;
        first_left = s.first_left;
        first_written = s.first_written;
      })

  -- replies were sent that had waited, or its connection failed
  pub sent-on : (mid new : SessionState) → mid ≡ old → new ≡ record mid { written = new.written } → Keeps mid.written new.written → Serves old post new post
  sent-on mid new same is kept =
      subst (λ (s : SessionState). Serves old post s post) (sym (is ∙ ap (λ (m : SessionState). record m { written = new.written }) same))
      (serves-nothing (record old { written = new.written }) refl (Consumes-nil (unheard old)) (subst (λ (m : SessionState). Keeps m.written new.written) same kept) refl refl)

  pub sent-last : (mid new : SessionState) → mid ≡ old → new ≡ record mid { written = new.written } → Keeps mid.written new.written → ServesLast old post new post
  sent-last mid new same is kept =
      subst (λ (s : SessionState). ServesLast old post s post) (sym (is ∙ ap (λ (m : SessionState). record m { written = new.written }) same))
      (nothing-last (record old { written = new.written }) refl (subst (λ (m : SessionState). Keeps m.written new.written) same kept) refl refl)

  pub same-on : (new : SessionState) → new ≡ old → Serves old post new post
  same-on new same = subst (λ (s : SessionState). Serves old post s post) (sym same) (serves-nothing old refl (Consumes-nil (unheard old)) (Keeps-refl old.written) refl refl)
