-- Worked histories of two terms: one for which every premise of the law of terms holds, at stampers and in a session; and one under leases that meet, in which stamps cross.
use Rattle.std.proofs.Common.{◌≡◌, ℕ, zero, suc, ◌<◌, List, [], ◌∷◌, Bool, false, Option, Some, None, Ok, ⊎_elim, inl, inr, refl, subst, arith, All}
use Rattle.std.proofs.lemmas.Bool.{cases_lt}
use Rattle.std.proofs.lemmas.List.Elements.{All-nil, All-cons}
use Rattle.std.proofs.lemmas.Option.{same_Some, none-some, slice_get_within, get_or_from_slice_get}
use Rattle.tt_span.specs.Interval.{Interval, whole}
use Rattle.tt_judge.specs.Terms.{CrossesTerm, HasNoConflict}
use Rattle.tt_judge.specs.declared.history.ShardCommit.{ShardCommit}
use Rattle.tt_judge.specs.declared.terms.Rule.TheVariants.{Terms}
use Rattle.tt_stamp.specs.Stamping.{SeatState, IsLegalRun, Gives}
use Rattle.tt_stamp.specs.declared.commits.Entry.TheVariants.{Queued}
use Rattle.tt_stamp.specs.declared.stampings.Stamping.{Stamping}
use Rattle.tt_session.specs.declared.calls.Call.TheVariants.{Begin, Lease}
use Rattle.tt_connections.specs.Station.{PostState, StationState, Allows, new_station, id_at}
use Rattle.tt_connections.specs.declared.presence.Question.{Question}
use Rattle.tt_connections.proofs.Turning.{talks-on}
use Rattle.tt_rounds.specs.Lists.{GivesInTurn}
use Rattle.tt_consistency.specs.Order.{IsLeasedAt}
use Rattle.tt_consistency.specs.Terms.{Grant, Precedes, AreGrantedInTurn, IsGrantedTo, IsMadeInTerm}
use Rattle.tt_consistency.specs.Timed.{TimedSession}
use Rattle.tt_consistency.proofs.Terming.{gives-one, terms-judged}
use Rattle.tt_consistency.proofs.WorkedOrder.{Clocks, failed, watch, seat, read_at, looks_at, admitted, queues_at, call_at, both}

abbrev interval : ℕ → ℕ → Interval
interval low high = record { lo = low; hi = high }

-- ---- grants in turn
turn-nil : AreGrantedInTurn []
turn-nil place later_place earlier later less at later_at = absurd (none-some earlier at)

-- one grant more, before all others
turn-cons : (first : Grant) (grants : List Grant) → All (Precedes first) grants → AreGrantedInTurn grants → AreGrantedInTurn (first ∷ grants)
turn-cons first grants follow in_turn zero zero earlier later less at later_at = absurd (omega (arith, less))
turn-cons first grants follow in_turn zero (suc later_place) earlier later less at later_at =
    let is : first ≡ earlier = same_Some first earlier at in
    let there : Precedes first later = subst (Precedes first) (get_or_from_slice_get grants later_place later later later_at) (follow later_place later (slice_get_within grants later_place later later_at)) in
    subst (λ (g : Grant). Precedes g later) is there
turn-cons first grants follow in_turn (suc place) zero earlier later less at later_at = absurd (omega (arith, less))
turn-cons first grants follow in_turn (suc place) (suc later_place) earlier later less at later_at = in_turn place later_place earlier later (omega (arith, less)) at later_at

-- ---- grants in turn: the lease of term 1 is made longer by a second grant, and then term 2 is granted one
abbrev grant : ℕ → ℕ → ℕ → Grant
grant term low high = record { term = term; lease = interval low high }

abbrev grants : List Grant
grants = grant 1 1000 1499 ∷ grant 1 1500 1999 ∷ grant 2 2000 2999 ∷ []

pub in_turn : AreGrantedInTurn grants
in_turn =
    turn-cons (grant 1 1000 1499) (grant 1 1500 1999 ∷ grant 2 2000 2999 ∷ [])
    (both (Precedes (grant 1 1000 1499)) (grant 1 1500 1999) (grant 2 2000 2999) (record { term = omega arith; lease = omega arith }) (record { term = omega arith; lease = omega arith }))
    (turn-cons (grant 1 1500 1999) (grant 2 2000 2999 ∷ [])
    (All-cons (Precedes (grant 1 1500 1999)) (grant 2 2000 2999) [] (record { term = omega arith; lease = omega arith }) (All-nil (Precedes (grant 1 1500 1999))))
    (turn-cons (grant 2 2000 2999) [] (All-nil (Precedes (grant 2 2000 2999))) turn-nil))

-- the leader of term 1 stamps under all that was granted to it, and that of term 2 under a part
granted-1 : IsGrantedTo grants 1 (interval 1000 1999)
granted-1 time inside =
    ⊎_elim
    (λ early. (0, grant 1 1000 1499, refl, refl, (inside.0, omega (arith, early))))
    (λ late. (1, grant 1 1500 1999, refl, refl, (late, inside.1)))
    (cases_lt time 1500)

granted-2 : IsGrantedTo grants 2 (interval 2000 2499)
granted-2 time inside = (2, grant 2 2000 2999, refl, refl, (inside.0, omega (arith, inside.1)))

-- a commit of shard 7
abbrev pub commit : ℕ → ℕ → ℕ → ShardCommit
commit term stamp number = record { shard = 7; term = term; stamp = stamp; number = number }

-- every shard has these grants
abbrev pub each : List Grant → ℕ → List Grant
each list shard = list

-- ---- leases that meet: term 2 is granted one before that of term 1 is over
abbrev meeting : List Grant
meeting = grant 1 1000 1999 ∷ grant 2 1500 2499 ∷ []

-- ---- so a history of two terms meets every premise, and stamps under leases that meet cross
module _ {C V : Type 0} (gives : C → Option ℕ → C → Type 0) (failed : C → ℕ) (says : V → Question → Bool → Type 0) where
  earlier-made : IsMadeInTerm gives failed says (each grants) (commit 1 1018 0)
  earlier-made = record {
    lease = interval 1000 1999;
    granted = granted-1;
    given = inr (gives-one (interval 1000 1999) (interval 1010 1018) 1012 1018 (omega arith) (omega arith) (omega arith) (omega arith) (λ t latest begins. latest));
  }

  -- the reading ends before the lease begins
  pub later-made : IsMadeInTerm gives failed says (each grants) (commit 2 2000 1)
  later-made = record {
    lease = interval 2000 2499;
    granted = granted-2;
    given = inr (gives-one (interval 2000 2499) (interval 1045 1053) 1047 2000 (omega arith) (omega arith) (omega arith) (omega arith) (λ t latest begins. begins));
  }

  pub worked : (all : ℕ → List Grant) × (earlier : ShardCommit) × (later : ShardCommit) × ((shard : ℕ) → AreGrantedInTurn (all shard)) × All (IsMadeInTerm gives failed says all) (earlier ∷ later ∷ []) × (earlier.shard ≡ later.shard) × (earlier.term < later.term)
  worked = (
    each grants,
    commit 1 1018 0,
    commit 2 2000 1,
    λ shard. in_turn,
    both (IsMadeInTerm gives failed says (each grants)) (commit 1 1018 0) (commit 2 2000 1) earlier-made later-made,
    refl,
    omega arith,
  )

  -- the first leader's machine has wide readings, and the second one's narrow ones
  wide-made : IsMadeInTerm gives failed says (each meeting) (commit 1 1990 0)
  wide-made = record {
    lease = interval 1000 1999;
    granted = λ time inside. (0, grant 1 1000 1999, refl, refl, inside);
    given = inr (gives-one (interval 1000 1999) (interval 1890 1990) 1901 1990 (omega arith) (omega arith) (omega arith) (omega arith) (λ t latest begins. latest));
  }

  narrow-made : IsMadeInTerm gives failed says (each meeting) (commit 2 1912 1)
  narrow-made = record {
    lease = interval 1500 2499;
    granted = λ time inside. (1, grant 2 1500 2499, refl, refl, inside);
    given = inr (gives-one (interval 1500 2499) (interval 1908 1912) 1910 1912 (omega arith) (omega arith) (omega arith) (omega arith) (λ t latest begins. latest));
  }

  crossed : CrossesTerm (commit 1 1990 0) (commit 2 1912 1)
  crossed = record { shard = refl; terms = omega arith; stamps = omega arith }

-- ---- the same with a session: on machine 0 the leader of term 1 sets its lease, and a commit begins when the clock shows 120
abbrev says : Unit {0} → Question → Bool → Type 0
says client question answer = answer ≡ false

abbrev post : Clocks → PostState Clocks
post clock = record { watch = watch; clock = clock; seat = seat; lease = whole; stampers = None; ahead = 0; max_width = 1000 }

abbrev new : StationState Clocks (Unit {0})
new = new_station (post (Some 120 ∷ [])) tt

abbrev leased : StationState Clocks (Unit {0})
leased = record new { lease = interval 1000 1999 }

sets : Allows GivesInTurn failed says new (Lease 1000 1999 (Ok tt)) leased
sets = record { says = refl; set = refl }

abbrev stamping : Stamping
stamping = record { number = 0; latest = 1030; floor = 0; lease = interval 1000 1999; stamp = 1030 }

abbrev stamped : SeatState
stamped = record seat { seen = stamping ∷ []; own = stamping ∷ [] }

abbrev begun : StationState Clocks (Unit {0})
begun = record { post = record (post []) { seat = stamped }; client = tt; lease = interval 1000 1999; book = Queued (id_at 1) 1030 ∷ [] }

gives-stamp : Gives seat stamped 1030 0 (interval 1000 1999) 1030
gives-stamp =
    let legal : IsLegalRun 1 (stamping ∷ []) = (
      record {
        of_a_seat = omega arith;
        near = λ far. omega (arith, far);
        least = record {
          may_give = record { in_time = omega arith; from_latest = omega arith; from_floor = omega arith; from_lease = omega arith; above_all = All-nil (λ (t : ℕ). t < 1030) };
          least = λ t may. may.from_latest;
        };
        in_lease = omega arith;
      },
      tt,
    ) in
    record { same = record { table = refl; seats = refl; numbers = refl; legal = legal; mine = refl }; number = 0; of_seat = refl; between = []; after = refl; own = refl }

begins : Allows GivesInTurn failed says leased (Begin 1 0 (Ok 1030)) begun
begins = record {
  lease = refl;
  stampers = refl;
  ahead = refl;
  max_width = refl;
  client = refl;
  own = refl;
  given = Ok (read_at 120);
  look = record { looked = Ok (read_at 120); looks = looks_at 120 [] (omega arith) (omega arith); admits = (false, refl, admitted 120) };
  rest = (
    Ok 1030,
    (λ far. omega (arith, far), gives-stamp, omega arith, (omega arith, omega arith)),
    (Ok tt, queues_at 1030, refl),
  );
}

abbrev led : TimedSession GivesInTurn failed says
led = record {
  client = tt;
  post = post (Some 120 ∷ []);
  after = begun;
  calls = Lease 1000 1999 (Ok tt) ∷ Begin 1 0 (Ok 1030) ∷ [];
  talked = talks-on GivesInTurn failed says (Lease 1000 1999 (Ok tt) ∷ Begin 1 0 (Ok 1030) ∷ []) new begun (leased, sets, (begun, begins, refl));
  times = call_at 115 ∷ call_at 120 ∷ [];
}

is-leased : IsLeasedAt led.calls (interval 1000 1999) 0 1 1 1030
is-leased = record { leases = refl; begins = (0, refl); after = omega arith; none = λ between lo hi more less at. absurd (omega (arith, more, less)) }

session-made : IsMadeInTerm GivesInTurn failed says (each grants) (commit 1 1030 0)
session-made = record {
  lease = interval 1000 1999;
  granted = granted-1;
  given = inl (record { session = led; place = 0; later = 1; number = 1; leased = is-leased });
}

-- so the law says that the commit of the stamper in term 2 contradicts none
no-conflict : HasNoConflict Terms (commit 1 1030 0 ∷ commit 2 2000 1 ∷ [])
no-conflict =
    terms-judged GivesInTurn failed says (each grants) (commit 1 1030 0 ∷ commit 2 2000 1 ∷ []) (λ shard. in_turn)
    (both (IsMadeInTerm GivesInTurn failed says (each grants)) (commit 1 1030 0) (commit 2 2000 1) session-made (later-made GivesInTurn failed says))
