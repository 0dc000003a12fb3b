-- What an audit keeps to find commits out of order.
use Rattle.std.specs.Prelude.{◌≡◌, ℕ, ◌<◌, max, nat_le, Bool, false, List, [], length, fold, slice_index_or, slice_set, unwrap_or, Option, Some, None, IfSome}
use Rattle.tt_stamp.specs.declared.commits.Receipt.{Receipt}
use Rattle.tt_world.specs.declared.events.Action.{Action}
use Rattle.tt_world.specs.declared.events.Reply.{Reply}
use Rattle.tt_audit.specs.declared.ordering.Position.{Position}
use Rattle.tt_audit.specs.declared.ordering.Stamping.{Stamping}
use Rattle.tt_audit.specs.Violations.{Answered, receipts_of, receipts_before, asked_by, stamped_by}

-- the greater of the greatest stamp so far, if there is one, and a receipt's
abbrev pub higher : Option ℕ → Receipt → Option ℕ
higher highest receipt = Some (max receipt.stamp (unwrap_or highest 0))

-- the greatest stamp of these receipts and of those before, if there is one
abbrev pub highest_after : Option ℕ → List Receipt → Option ℕ
highest_after highest receipts = fold higher highest receipts

-- whether a stamp is no greater than the greatest
abbrev pub is_reached : ℕ → Option ℕ → Bool
is_reached stamp None = false
is_reached stamp (Some highest) = nat_le stamp highest

-- the greatest stamp that was released, and for each worker of each machine the greatest when it was last asked for a commit
pub record OrderState : Type 0 where
  pub released : Option ℕ
  pub before : List (List (Option ℕ))

-- what is kept of worker w of machine m
abbrev pub before_at : List (List (Option ℕ)) → ℕ → ℕ → Option ℕ
before_at before m w = slice_index_or (slice_index_or before m []) w None

-- what is kept is of these events and replies, for eight machines of thirty-two workers
pub record KeepsOrder (past : List Answered) (order : OrderState) : Type 0 where
  pub machines : length order.before ≡ 8
  pub workers : (m : ℕ) → m < 8 → length (slice_index_or order.before m []) ≡ 32
  pub released : order.released ≡ highest_after None (receipts_of past)
  pub before : (m w : ℕ) → m < 8 → w < 32 → before_at order.before m w ≡ highest_after None (receipts_before past m w)

-- what is kept once this worker, if there is one, was asked for a commit
abbrev pub marks_after : List (List (Option ℕ)) → Option Position → Option ℕ → List (List (Option ℕ))
marks_after before None released = before
marks_after before (Some place) released =
    slice_set before place.machine (slice_set (slice_index_or before place.machine []) place.worker released)

-- whether a stamp is no greater than what is kept of its worker
abbrev pub is_stamping_reached : List (List (Option ℕ)) → Option Stamping → Bool
is_stamping_reached before None = false
is_stamping_reached before (Some stamping) = is_reached stamping.stamp (before_at before stamping.place.machine stamping.place.worker)

-- the machine is below 8 and the worker below 32
abbrev pub IsPlace : Position → Type 0
IsPlace place = (place.machine < 8) × (place.worker < 32)

-- the workers that an event asks or stamps for are there
pub record IsPlaced (action : Action) (reply : Reply) : Type 0 where
  pub asked : IfSome (asked_by action reply) IsPlace
  pub stamped : IfSome (stamped_by action reply) (λ stamping. IsPlace stamping.place)
