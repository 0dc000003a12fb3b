-- The receipt of a commit, in a legal history.
use Rattle.std.proofs.Common.{◌≡◌, ◌<◌, inl, inr, List, [], ◌∷◌, Option, Some, None, sym, subst}
use Rattle.std.specs.Prelude.{IfSome}
use Rattle.std.proofs.lemmas.Bool.{cases_Bool}
use Rattle.tt_stamp.specs.Ids.{same_id}
use Rattle.tt_stamp.specs.History.{IsLegalHistory, receipt_of}
use Rattle.tt_stamp.specs.declared.commits.Id.{Id}
use Rattle.tt_stamp.specs.declared.commits.Entry.{Entry}
use Rattle.tt_stamp.specs.declared.commits.Entry.TheVariants.{Queued, Passed}
use Rattle.tt_stamp.specs.declared.commits.Receipt.{Receipt}

-- on each receipt the stamp is below the earliest
pub receipt_of-sure : (past : List Entry) (id : Id) (receipt : Receipt) → IsLegalHistory past → receipt_of past id ≡ Some receipt → receipt.stamp < receipt.earliest
receipt_of-sure [] id receipt legal found = absurd (cc)
receipt_of-sure (Queued other stamp ∷ past) id receipt legal found = receipt_of-sure past id receipt legal.1 found
receipt_of-sure (Passed first ∷ past) id receipt legal found =
    elim (cases_Bool (same_id first.id id)) [
      | inl same ↦
          let is : first ≡ receipt = cc (rw same at found) in
          subst (λ (r : Receipt). r.stamp < r.earliest) is legal.0.sure
      | inr other ↦ receipt_of-sure past id receipt legal.1 (rw other at found)
    ]

pub sure : (past : List Entry) (id : Id) (found : Option Receipt) → IsLegalHistory past → found ≡ receipt_of past id → IfSome found (λ receipt. receipt.stamp < receipt.earliest)
sure past id None legal is = tt
sure past id (Some receipt) legal is = receipt_of-sure past id receipt legal (sym is)
