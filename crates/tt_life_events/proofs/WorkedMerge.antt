-- A worked merge of two workers: the one stamps between the readings of the other, after the other's stamp.
use Rattle.std.proofs.Common.{ℕ, List, [], ◌∷◌, Option, Some, None, inl, inr, refl, arith}
use Rattle.tt_stamp.specs.declared.stampings.Stamping.{Stamping}
use Rattle.tt_world.specs.declared.workers.Arrival.{Arrival}
use Rattle.tt_life_events.specs.Acts.{LifeDone, Reads}
use Rattle.tt_life_events.specs.Merging.{AreInOrder, Does, IsMerge, IsOneList, Stamps, stamps_in}

abbrev commit : Arrival
commit = record { id = record { session = 0; number = 1 }; floor = 0 }

abbrev entry : ℕ → ℕ → Stamping
entry seat stamp = record { number = seat; latest = stamp; floor = 0; lease = record { lo = 0; hi = 1000 }; stamp = stamp }

abbrev read : ℕ → ℕ → Option Arrival → LifeDone
read worker at asked = record { at = at; deed = Does (Reads worker at 1 asked) }

abbrev stamp : ℕ → ℕ → ℕ → LifeDone
stamp worker at value = record { at = at; deed = Stamps (record { worker = worker; entry = entry worker value }) }

abbrev pub worked_one : List LifeDone
worked_one = stamp 0 13 120 ∷ read 0 10 (Some commit) ∷ []

abbrev pub worked_other : List LifeDone
worked_other = read 1 14 None ∷ stamp 1 12 115 ∷ read 1 11 (Some commit) ∷ []

abbrev pub worked_history : List LifeDone
worked_history = stamp 0 13 120 ∷ stamp 1 12 115 ∷ []

abbrev pub worked_all : List LifeDone
worked_all = read 1 14 None ∷ stamp 0 13 120 ∷ stamp 1 12 115 ∷ read 1 11 (Some commit) ∷ read 0 10 (Some commit) ∷ []

pub one-ordered : AreInOrder 20 worked_one
one-ordered = (omega arith, (omega arith, tt))

pub other-ordered : AreInOrder 20 worked_other
other-ordered = (omega arith, (omega arith, (omega arith, tt)))

pub history-ordered : AreInOrder 20 worked_history
history-ordered = (omega arith, (omega arith, tt))

pub stamps-merged : IsMerge (stamps_in worked_one) (stamps_in worked_other) worked_history
stamps-merged = inl ([], refl, inr ([], refl, (refl, refl)))

pub worked-list : IsOneList 20 worked_one worked_other worked_history worked_all
worked-list = record {
  merge =
      inr (
        stamp 1 12 115 ∷ read 1 11 (Some commit) ∷ [],
        refl,
        inl (
          read 0 10 (Some commit) ∷ [],
          refl,
          inr (
            read 1 11 (Some commit) ∷ [],
            refl,
            inr (
              [],
              refl,
              inl ([], refl, (refl, refl)),
            ),
          ),
        ),
      );
  in_order = (omega arith, (omega arith, (omega arith, (omega arith, (omega arith, tt)))));
  stamps = refl;
}
