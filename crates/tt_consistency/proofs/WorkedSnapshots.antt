-- A worked snapshot: at 209 it has the commit of 200, while the one of 210 is pending, and one of 400 begins later.
use Rattle.std.proofs.Common.{◌≡◌, ◌⊎◌, ℕ, ◌<◌, ◌≤◌, List, [], ◌∷◌, ◌++◌, Ok, ⊎_elim, inl, inr, refl, ap, subst, arith, All, Contains}
use Rattle.std.proofs.lemmas.List.Elements.{All-cons, All-nil}
use Rattle.tt_span.specs.Interval.{Interval, Holds}
use Rattle.tt_stamp.proofs.Ids.{Contains-here, Contains-there, Contains-nil, Contains-cases}
use Rattle.tt_stamp.proofs.Stamps.{IsAnswer-stamp_of}
use Rattle.tt_consistency.specs.Stampers.{GivenStamp, FollowsRule, Stamper, IsRightStamper}
use Rattle.tt_consistency.specs.Snapshots.{CommitTable, IsEnded, IsMadeReadable, Becomes}

abbrev lease : Interval
lease = record { lo = 0; hi = 1000 }

abbrev one : GivenStamp
one = record { reading = record { lo = 100; hi = 200 }; read = 150; floor = 0; stamp = 200 }

abbrev two : GivenStamp
two = record { reading = record { lo = 110; hi = 210 }; read = 160; floor = 0; stamp = 210 }

abbrev three : GivenStamp
three = record { reading = record { lo = 300; hi = 400 }; read = 350; floor = 0; stamp = 400 }

abbrev pub worked_stamper : Stamper
worked_stamper = record { lease = lease; given = three ∷ two ∷ one ∷ [] }

-- when the snapshot is made readable
abbrev pub worked_table : CommitTable
worked_table = record { begun = two ∷ one ∷ []; written = 200 ∷ []; given_up = [] }

-- at the end
abbrev pub worked_after : CommitTable
worked_after = record { begun = three ∷ two ∷ one ∷ []; written = 400 ∷ 210 ∷ 200 ∷ []; given_up = [] }

rule : FollowsRule lease (three ∷ two ∷ one ∷ [])
rule = (IsAnswer-stamp_of (210 ∷ 200 ∷ []) 400 0 lease, (IsAnswer-stamp_of (200 ∷ []) 210 0 lease, (IsAnswer-stamp_of [] 200 0 lease, tt)))

abbrev HoldsRead : GivenStamp → Type 0
HoldsRead given = Holds given.reading given.read

pub worked-right : IsRightStamper worked_stamper
worked-right = record {
  rule = rule;
  hold = All-cons HoldsRead three (two ∷ one ∷ []) (omega arith, omega arith) (All-cons HoldsRead two (one ∷ []) (omega arith, omega arith) (All-cons HoldsRead one [] (omega arith, omega arith) (All-nil HoldsRead)));
}

not_two : (given : GivenStamp) → two ≡ given → given.stamp ≤ 209 → ⊥
not_two given here up_to =
    let is : 210 ≡ given.stamp = ap (λ (g : GivenStamp). g.stamp) here in
    omega (arith, is, up_to)

pub worked-made : IsMadeReadable worked_table 209
worked-made = record {
  past = record { lo = 250; hi = 350 };
  read = 300;
  holds = (omega arith, omega arith);
  is_past = omega arith;
  ended = λ given there up_to.
      ⊎_elim
      (λ here. absurd (not_two given here up_to))
      (λ more.
      ⊎_elim
      (λ here. subst (λ (g : GivenStamp). IsEnded worked_table g.stamp) here (inl (Contains-here 200 [])))
      (λ none. absurd (Contains-nil given none))
      (Contains-cases one [] given more))
      (Contains-cases two (one ∷ []) given there);
}

abbrev OfBegun : ℕ → Type 0
OfBegun s = (given : GivenStamp) × Contains worked_after.begun given × (given.stamp ≡ s)

of_begun : (s : ℕ) → Contains worked_after.written s → OfBegun s
of_begun s there =
    ⊎_elim
    (λ here. (three, Contains-here three (two ∷ one ∷ []), here))
    (λ more.
    ⊎_elim
    (λ here. (two, Contains-there three (two ∷ one ∷ []) two (Contains-here two (one ∷ [])), here))
    (λ last.
    ⊎_elim
    (λ here. (one, Contains-there three (two ∷ one ∷ []) one (Contains-there two (one ∷ []) one (Contains-here one [])), here))
    (λ none. absurd (Contains-nil s none))
    (Contains-cases 200 [] s last))
    (Contains-cases 210 (200 ∷ []) s more))
    (Contains-cases 400 (210 ∷ 200 ∷ []) s there)

abbrev IsSince : GivenStamp → Type 0
IsSince given = 300 ≤ given.read

pub worked-becomes : Becomes worked-made.read worked_table worked_after
unfolding worked-made
worked-becomes = record {
  later = three ∷ [];
  begun = refl;
  since = All-cons IsSince three [] (omega arith) (All-nil IsSince);
  stays = λ s there. Contains-there 400 (210 ∷ 200 ∷ []) s (Contains-there 210 (200 ∷ []) s there);
  never = λ s none. absurd (Contains-nil s none);
  of_begun = of_begun;
}
