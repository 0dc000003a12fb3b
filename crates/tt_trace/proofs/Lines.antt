-- The lines of a trace, one after another.
use Rattle.std.proofs.Common.{◌≡◌, ℕ, ◌+◌, ◌<◌, ◌≤◌, List, [], ◌∷◌, ◌++◌, length, drop, get_or, refl, ap, sym, ◌∙◌, append_assoc, append-nil, arith}
use Rattle.std.proofs.lemmas.List.{drop_more}
use Rattle.std.proofs.Math.ListN.{drop_of_length-le}
use Rattle.tt_world.specs.declared.events.Event.{Event}
use Rattle.tt_world.specs.declared.events.Reply.{Reply}
use Rattle.tt_trace.specs.Trace.{trace_line, lines_from}

lines_of_none : (number : ℕ) (events : List Event) → lines_from number events [] ≡ []
lines_of_none number [] = refl
lines_of_none number (event ∷ events) = refl

module _ (events : List Event) (replies : List Reply) (i : ℕ) where
  -- the lines of the events from place i on
  abbrev Left : List ℕ
  Left = lines_from i (drop i events) (drop i replies)

  abbrev Next : List ℕ
  Next = lines_from (i + 1) (drop (i + 1) events) (drop (i + 1) replies)

  -- one more line
  pub lines_more : (event : Event) (reply : Reply) (old new all : List ℕ) → i < length events → event ≡ get_or events i event → i < length replies → reply ≡ get_or replies i reply
      → new ≡ old ++ trace_line i event reply → old ++ Left ≡ all → new ++ Next ≡ all
  lines_more event reply old new all inside is inside_too is_too made told =
      let one : drop i events ≡ event ∷ drop (i + 1) events = drop_more events i event inside ∙ ap (λ (e : Event). e ∷ drop (i + 1) events) (sym is) in
      let two : drop i replies ≡ reply ∷ drop (i + 1) replies = drop_more replies i reply inside_too ∙ ap (λ (r : Reply). r ∷ drop (i + 1) replies) (sym is_too) in
      let left : Left ≡ trace_line i event reply ++ Next =
      ap (λ (l : List Event). lines_from i l (drop i replies)) one ∙ ap (λ (l : List Reply). lines_from i (event ∷ drop (i + 1) events) l) two in
      ap (λ l. l ++ Next) made ∙ append_assoc old (trace_line i event reply) Next ∙ ap (λ l. old ++ l) (sym left) ∙ told

  -- an event without a reply
  pub lines_without : (old all : List ℕ) → length replies ≤ i → old ++ Left ≡ all → old ++ Next ≡ all
  lines_without old all past told =
      let left : Left ≡ [] = ap (λ (l : List Reply). lines_from i (drop i events) l) (drop_of_length-le replies past) ∙ lines_of_none i (drop i events) in
      let next : Next ≡ [] = ap (λ (l : List Reply). lines_from (i + 1) (drop (i + 1) events) l) (drop_of_length-le replies (omega (arith, past))) ∙ lines_of_none (i + 1) (drop (i + 1) events) in
      ap (λ l. old ++ l) (next ∙ sym left) ∙ told

  -- no event is left
  pub lines_end : (text all : List ℕ) → length events ≤ i → text ++ Left ≡ all → text ≡ all
  lines_end text all past told =
      let left : Left ≡ [] = ap (λ (l : List Event). lines_from i l (drop i replies)) (drop_of_length-le events past) in
      sym (append-nil text) ∙ ap (λ l. text ++ l) (sym left) ∙ told
