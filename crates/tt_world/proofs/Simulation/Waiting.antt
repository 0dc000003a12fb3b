-- Which poll of a source waits after one more event.
use Rattle.std.proofs.Common.{◌||◌, ◌≡◌, ℕ, ◌+◌, Bool, true, false, cond, eqb, ◌&&◌, List, ◌∷◌, slice_get, is_some, Option, Some, None, refl, sym, ◌∙◌}
use Rattle.std.specs.Option.{option_or}
use Rattle.tt_source.specs.Statement.{Statement}
use Rattle.tt_source.specs.Table.{Sending}
use Rattle.tt_world.specs.Life.{Life, is_of}
use Rattle.tt_world.specs.declared.events.Event.{Event}
use Rattle.tt_world.specs.declared.events.Action.{Action}
use Rattle.tt_world.specs.declared.events.Action.TheVariants.{Send, Deliver}
use Rattle.tt_world.specs.Past.{sends_of, packets_of}
use Rattle.tt_world.specs.Sources.{last_send, stated_in, is_answered, outstanding_poll}

-- an action at a true time
abbrev pub happens : ℕ → Action → Event
happens at action = record { at = at; action = action }

waits_after_send : (b a : Bool) (x : Sending) (l : Option Sending)
    → cond (cond (is_some (cond b (Some x) None)) false (false || a)) None (option_or (cond b (Some x) None) l) ≡ cond b (Some x) (cond a None l)
waits_after_send true a x l = refl
waits_after_send false a x l = refl

pub outstanding-send : (past : List Event) (at m s clock : ℕ) (j : Life) (i : ℕ)
    → outstanding_poll (happens at (Send m s clock) ∷ past) j i ≡ cond (is_of past j m && eqb s i) (Some (record { nonce = sends_of past j + 1; clock = clock })) (outstanding_poll past j i)
outstanding-send past at m s clock j i =
    waits_after_send (is_of past j m && eqb s i) (is_answered past j i) (record { nonce = sends_of past j + 1; clock = clock }) (last_send past j i)

ended : (b : Bool) (l : Option Sending) → cond (b || true) None l ≡ None
ended true l = refl
ended false l = refl

same_wait : (b : Bool) (l : Option Sending) → cond (b || false) None l ≡ cond b None l
same_wait true l = refl
same_wait false l = refl

no_wait : (b : Bool) → cond {A = Option Sending} b None None ≡ None
no_wait true = refl
no_wait false = refl

waits_after_delivery : (f : Option Sending → Option Statement) (a : Bool) (l : Option Sending)
    → cond (is_some (f l) || a) None l ≡ cond (is_some (f (cond a None l))) None (cond a None l)
waits_after_delivery f true l = ended (is_some (f l)) l ∙ sym (no_wait (is_some (f None)))
waits_after_delivery f false l = same_wait (is_some (f l)) l

pub outstanding-deliver : (past : List Event) (at k clock : ℕ) (j : Life) (i : ℕ)
    → outstanding_poll (happens at (Deliver k clock) ∷ past) j i
    ≡ cond (is_some (stated_in past j i (outstanding_poll past j i) clock (slice_get (packets_of past) k))) None (outstanding_poll past j i)
outstanding-deliver past at k clock j i =
    waits_after_delivery (λ w. stated_in past j i w clock (slice_get (packets_of past) k)) (is_answered past j i) (last_send past j i)
