-- What is kept to find commits out of order.
use Rattle.std.proofs.Common.{◌≡◌, ℕ, ◌<◌, max, nat_le, Bool, true, false, cond, eqb, ◌&&◌, ◌||◌, List, [], ◌∷◌, length, replicate, get_or, Option, Some, None, inl, inr, refl, ap, ap₂, ◌∙◌, sym, arith}
use Rattle.std.specs.Prelude.{IfSome}
use Rattle.std.specs.List.{list_any}
use Rattle.std.proofs.lemmas.Bool.{cases_lt, eqb-true, and_parts, le-leb, lt-leb}
use Rattle.std.proofs.lemmas.List.{get_or-replicate, length-replicate}
use Rattle.std.proofs.Math.Bool.{or-false, or_assoc}
use Rattle.std.proofs.lemmas.List.Sums.{fold-append}
use Rattle.tt_world.specs.declared.events.Reply.{Reply}
use Rattle.tt_world.specs.declared.events.Event.{Event}
use Rattle.tt_stamp.specs.declared.commits.Receipt.{Receipt}
use Rattle.tt_audit.specs.declared.ordering.Position.{Position}
use Rattle.tt_audit.specs.declared.ordering.Stamping.{Stamping}
use Rattle.tt_audit.specs.Violations.{Answered, receipts_in, receipts_of, receipts_before, asked_by, is_worker, is_late}
use Rattle.tt_audit.proofs.Cells.{written, rows-written, cells-written, cell-here, cell-other}
use Rattle.tt_audit.specs.Ordering.{OrderState, KeepsOrder, before_at, higher, highest_after, is_reached, IsPlace, marks_after, is_stamping_reached}

-- no worker has anything
abbrev pub nothing : List (List (Option ℕ))
nothing = replicate 8 (replicate 32 None)

pub KeepsOrder-nothing : KeepsOrder [] (record { released = None; before = nothing })
KeepsOrder-nothing = record {
  machines = length-replicate {A = List (Option ℕ)} 8 (replicate 32 None);
  workers = λ m h. ap (λ (row : List (Option ℕ)). length row) (get_or-replicate 8 m (replicate 32 None) [] h) ∙ length-replicate {A = Option ℕ} 32 None;
  released = refl;
  before = λ m w hm hw. ap (λ (row : List (Option ℕ)). get_or row w None) (get_or-replicate 8 m (replicate 32 None) [] hm) ∙ get_or-replicate 32 w None None hw;
}

-- a number is no greater than the greater of two where it is no greater than one of them
leb-max : (s a b : ℕ) → nat_le s (max a b) ≡ (nat_le s b || nat_le s a)
leb-max s a b = elim (cases_lt b s) [
  | inl above_b ↦ elim (cases_lt a s) [
    | inl above_a ↦ lt-leb s (max a b) (omega arith) ∙ sym (ap₂ (λ (x y : Bool). x || y) (lt-leb s b above_b) (lt-leb s a above_a))
    | inr to_a ↦ le-leb s (max a b) (omega arith) ∙ sym (ap₂ (λ (x y : Bool). x || y) (lt-leb s b above_b) (le-leb s a to_a))
  ]
  | inr to_b ↦ le-leb s (max a b) (omega arith) ∙ sym (ap (λ (x : Bool). x || nat_le s a) (le-leb s b to_b))
]

-- whether a stamp is reached once a receipt is added
reached-higher : (s : ℕ) (o : Option ℕ) (r : Receipt) → is_reached s (higher o r) ≡ (is_reached s o || nat_le s r.stamp)
reached-higher s None r = let most : max r.stamp 0 ≡ r.stamp = omega arith in ap (λ (n : ℕ). nat_le s n) most
reached-higher s (Some h) r = leb-max s r.stamp h

-- and once all receipts of a list are
reached-after : (s : ℕ) (o : Option ℕ) (rs : List Receipt) → is_reached s (highest_after o rs) ≡ (is_reached s o || list_any (λ receipt. nat_le s receipt.stamp) rs)
reached-after s o [] = sym (or-false (is_reached s o))
reached-after s o (r ∷ rs) =
    reached-after s (higher o r) rs
    ∙ ap (λ (b : Bool). b || list_any (λ receipt. nat_le s receipt.stamp) rs) (reached-higher s o r)
    ∙ or_assoc (is_reached s o) (nat_le s r.stamp) (list_any (λ receipt. nat_le s receipt.stamp) rs)

module _ (past : List Answered) (order : OrderState) (keeps : KeepsOrder past order) where
  -- what is kept once a worker, if there is one, was asked
  record IsMarked (o : Option Position) : Type 0 where
    machines : length (marks_after order.before o order.released) ≡ 8
    workers : (m : ℕ) → m < 8 → length (get_or (marks_after order.before o order.released) m []) ≡ 32
    before : (m w : ℕ) → m < 8 → w < 32 → before_at (marks_after order.before o order.released) m w ≡ highest_after None (cond (is_worker m w o) (receipts_of past) (receipts_before past m w))

  by_test : (b : Bool) (x : Option ℕ) (all since : List Receipt) → (b ≡ true → x ≡ highest_after None all) → (b ≡ false → x ≡ highest_after None since) → x ≡ highest_after None (cond b all since)
  by_test true x all since holds fails = holds refl
  by_test false x all since holds fails = fails refl

  is_marked : (o : Option Position) → IfSome o IsPlace → IsMarked o
  is_marked None there = record { machines = keeps.machines; workers = keeps.workers; before = keeps.before }
  is_marked (Some place) there =
      let m = place.machine in
      let w = place.worker in
      let x = order.released in
      record {
        machines = rows-written order.before m w x keeps.machines;
        workers = cells-written order.before m w x keeps.machines keeps.workers there.0;
        before = λ k v hk hv. by_test (eqb m k && eqb w v) (before_at (written order.before m w x) k v) (receipts_of past) (receipts_before past k v)
            (λ holds.
            let parts = and_parts (eqb m k) (eqb w v) holds in
            ap₂ (λ (i j : ℕ). before_at (written order.before m w x) i j) (sym (eqb-true m k parts.0)) (sym (eqb-true w v parts.1))
            ∙ cell-here None order.before m w x keeps.machines keeps.workers there.0 there.1
            ∙ keeps.released)
            (λ other. cell-other None order.before m w x keeps.machines there.0 k v other ∙ keeps.before k v hk hv);
      }

  -- an event with its reply is noted
  pub KeepsOrder-noted : (event : Event) (reply : Reply) → IfSome (asked_by event.action reply) IsPlace
      → KeepsOrder (record { event = event; reply = reply } ∷ past)
      (record { released = highest_after order.released (receipts_in reply); before = marks_after order.before (asked_by event.action reply) order.released })
  KeepsOrder-noted event reply there =
      let mark = is_marked (asked_by event.action reply) there in
      record {
        machines = mark.machines;
        workers = mark.workers;
        released = ap (λ (o : Option ℕ). highest_after o (receipts_in reply)) keeps.released ∙ sym (fold-append higher None (receipts_of past) (receipts_in reply));
        before = mark.before;
      }

  -- a stamp is late where it is reached
  pub is_late-reached : (o : Option Stamping) → IfSome o (λ s. IsPlace s.place) → is_stamping_reached order.before o ≡ is_late past o
  is_late-reached None there = refl
  is_late-reached (Some s) there =
      ap (λ (o : Option ℕ). is_reached s.stamp o) (keeps.before s.place.machine s.place.worker there.0 there.1)
      ∙ reached-after s.stamp None (receipts_before past s.place.machine s.place.worker)
