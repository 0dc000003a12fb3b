use Rattle.std.proofs.Common.{◌≡◌, ℕ, subst}
use Rattle.tt_epoch.specs.declared.faults.EpochFault.TheVariants.{UsedUp}
use Rattle.tt_epoch.specs.Course.{Writes, Over, next_of}
use Rattle.tt_epoch.proofs.Going.{unread, used_up, taken}
use Rattle.tt_epoch.proofs.epochs.next_epoch.Goals as goal

pub returns-in-Err : goal.returns-in-Err
returns-in-Err g c =
    record { course = unread g.S.Store.does c.args.store.now c.read.new.self c.in-Err.fault c.unread.result c.in-Err.ensures c.unread.ensures }

pub returns-in-None : goal.returns-in-None
returns-in-None g c =
    record {
      course = used_up g.S.Store.does c.args.store.now c.read.new.self c.in-Ok.file c.in-Ok.ensures
          (subst (λ (m : ℕ). next_of m ≡ Over UsedUp) c.last_of.ensures c.in-None.ensures);
    }

pub returns-in-Some : goal.returns-in-Some
returns-in-Some g c =
    record {
      course = taken g.S.Store.does c.args.store.now c.read.new.self c.keep.new.store c.in-Ok.file c.in-Some.next c.keep.result c.in-Ok.ensures
          (subst (λ (m : ℕ). next_of m ≡ Writes c.in-Some.next) c.last_of.ensures c.in-Some.ensures) c.keep.ensures.course;
    }
