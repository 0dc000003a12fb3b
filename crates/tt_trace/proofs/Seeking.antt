-- What is looked up in two lists that go side by side.
use Rattle.std.proofs.Common.{◌≡◌, ℕ, List, [], ◌∷◌, take, length, get_or, ◌<◌, refl, sym, ap, ◌∙◌, ◌⊎◌, inl, inr, Some, slice_get}
use Rattle.std.specs.Prelude.{fold}
use Rattle.std.specs.List.{zip}
use Rattle.std.proofs.lemmas.Option.{slice_get_read}
use Rattle.std.proofs.lemmas.List.{get_or_default}
use Rattle.tt_daemon.specs.Config.{Configuration, no_configuration}
use Rattle.tt_world.specs.Config.{config_at}
use Rattle.tt_world.specs.declared.events.Event.{Event}
use Rattle.tt_world.specs.declared.events.Reply.{Reply}
use Rattle.tt_trace.specs.Marks.{marks_at, marks_by}

-- nothing is folded where one of the lists is over
pub folded_out : {A B F : Type 0} (h : F → (A × B) → F) (found : F) (xs : List A) (ys : List B) → (xs ≡ []) ⊎ (ys ≡ []) → fold h found (zip xs ys) ≡ found
folded_out h found xs ys (inl over) = ap (λ l. fold h found (zip l ys)) over
folded_out h found [] ys (inr over) = refl
folded_out h found (x ∷ xs) ys (inr over) = ap (λ l. fold h found (zip (x ∷ xs) l)) over

-- what is drawn of an event and its reply, by the events before
pub marks_there : (events : List Event) (replies : List Reply) (n : ℕ) (event : Event) (reply : Reply) → n < length events → length replies ≡ length events →
    event ≡ get_or events n event → reply ≡ get_or replies n reply →
    marks_by (zip (take n events) (take n replies)) event.at event.action reply ≡ marks_at events replies n
marks_there events replies n event reply inside long event_is reply_is =
    let first : slice_get events n ≡ Some event = slice_get_read events (length events) n event refl inside event_is in
    let second : slice_get replies n ≡ Some reply = slice_get_read replies (length events) n reply (sym long) inside reply_is in
    rw (first, second)

-- the set-up that stands at a place
pub config_there : (configs : List Configuration) (n : ℕ) (config : Configuration) → n < length configs → config ≡ get_or configs n config → config ≡ config_at configs n
config_there configs n config inside is = is ∙ get_or_default configs n config no_configuration inside
