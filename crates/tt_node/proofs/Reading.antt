-- What the workers of a node read.
use Rattle.std.proofs.Common.{◌≡◌, ◌⊎◌, ℕ, Bool, true, false, List, [], ◌∷◌, ◌++◌, length, All, Contains, Option, Some, None, Result, Ok, Err, refl, sym, ap, ◌∙◌, subst, inl, inr, ⊎_elim}
use Rattle.std.specs.List.{last_or}
use Rattle.std.proofs.lemmas.List.Elements.{All-nil, All-push, All-weaker, Contains-append_left}
use mathlib.Core.List.{IsPrefix}
use Rattle.tt_span.specs.Interval.{Interval}
use Rattle.tt_daemon.specs.Publication.{Publication}
use Rattle.tt_publish.specs.Known.{Known, WatchState, ReadsLast, last_of, seen_of}
use Rattle.tt_publish.specs.Reading.{fused_span_of, reading_at}
use Rattle.tt_publish.proofs.Beginnings.{prefix_self}
use Rattle.tt_session.specs.Conversation.{Conversation}
use Rattle.tt_session.specs.declared.calls.Call.{Call}
use Rattle.tt_session.specs.declared.calls.Call.TheVariants as call
use Rattle.tt_stamp.proofs.Ids.{Contains-here, Contains-there}
use Rattle.tt_history.proofs.Prefixes.{prefix_trans}
use Rattle.tt_audit.specs.declared.live.LiveNote.{LiveNote}
use Rattle.tt_node.specs.Sharing.{IsWatchLater, IsReadingOf, AreReadingsOf, ReadsBy, ReadsPublished}
use Rattle.tt_node.specs.Working.{WorkerState, Works, PassesGate, DoesWhere, Reads, Commits, Releases, Allows, after_asking}
use Rattle.tt_node.specs.declared.nodes.WorkerEnd.{WorkerEnd}

-- ---- the last of a list
last_or-within : {A : Type 0} (o : Option A) (xs : List A) (x : A) → last_or o xs ≡ Some x → (o ≡ Some x) ⊎ Contains xs x
last_or-within o [] x is = inl is
last_or-within o (y ∷ ys) x is =
    ⊎_elim (λ (first : Some y ≡ Some x). let same : y ≡ x = cc first in inr (subst (λ z. Contains (z ∷ ys) x) (sym same) (Contains-here x ys))) (λ (later : Contains ys x). inr (Contains-there y ys x later))
    (last_or-within (Some y) ys x is)

-- the last of a list stands in it
last_of-within : {A : Type 0} (xs : List A) (x : A) → last_of xs ≡ Some x → Contains xs x
last_of-within xs x is = ⊎_elim (λ (none : None ≡ Some x). absurd (cc none)) (λ (within : Contains xs x). within) (last_or-within None xs x is)

-- ---- readings of what was seen
reading-later : (drift drift' : ℕ) (items items' : List Publication) (reading : Interval) → drift' ≡ drift → IsPrefix items items' → IsReadingOf drift items reading → IsReadingOf drift' items' reading
reading-later drift drift' items items' reading same begins (publication, clock, within, can, is) = (
  publication,
  clock,
  subst (λ all. Contains all publication) begins.1 (Contains-append_left items begins.0 publication within),
  can,
  is ∙ ap (λ ppm. reading_at ppm (fused_span_of publication) clock) (sym same),
)

readings-later : (drift drift' : ℕ) (items items' : List Publication) (notes : List LiveNote) → drift' ≡ drift → IsPrefix items items' → AreReadingsOf drift items notes → AreReadingsOf drift' items' notes
readings-later drift drift' items items' notes same begins all =
    All-weaker (λ (note : LiveNote). IsReadingOf drift items note.reading) (λ (note : LiveNote). IsReadingOf drift' items' note.reading)
    (λ note reads. reading-later drift drift' items items' note.reading same begins reads) notes all

reading-last : (watch : WatchState) (gave : ℕ → Type 0) (reading : Interval) → ReadsLast watch gave reading → IsReadingOf watch.drift watch.items reading
reading-last watch gave reading (last, clock, is_last, given, can, is) = (last, clock, last_of-within watch.items last is_last, can, is)

-- ---- a watch goes on
watch-same : (old new : WatchState) → new ≡ old → IsWatchLater old new
watch-same old new same = subst (λ w. IsWatchLater old w) (sym same) (record { source = refl; drift = refl; seen = prefix_self old.items })

watch-trans : (first second third : WatchState) → IsWatchLater first second → IsWatchLater second third → IsWatchLater first third
watch-trans first second third p q = record {
  source = q.source ∙ p.source;
  drift = q.drift ∙ p.drift;
  seen = prefix_trans first.items second.items third.items p.seen q.seen;
}

-- the watch is the same later, and notes of what it has seen are so then too
pub record ReadsOn (watch : WatchState) (notes : List LiveNote) (watch' : WatchState) (notes' : List LiveNote) : Type 0 where
  pub later : IsWatchLater watch watch'
  pub readings : AreReadingsOf watch.drift watch.items notes → AreReadingsOf watch'.drift watch'.items notes'

on-unnoted : (watch watch' : WatchState) (notes notes' : List LiveNote) → IsWatchLater watch watch' → notes' ≡ notes → ReadsOn watch notes watch' notes'
on-unnoted watch watch' notes notes' later same = record {
  later = later;
  readings = λ all. subst (λ all_notes. AreReadingsOf watch'.drift watch'.items all_notes) (sym same) (readings-later watch.drift watch'.drift watch.items watch'.items notes later.drift later.seen all);
}

on-noted : (watch watch' : WatchState) (notes notes' : List LiveNote) (note : LiveNote) → IsWatchLater watch watch' → notes' ≡ notes ++ note ∷ [] → IsReadingOf watch'.drift watch'.items note.reading
    → ReadsOn watch notes watch' notes'
on-noted watch watch' notes notes' note later more reads = record {
  later = later;
  readings = λ all.
      subst (λ all_notes. AreReadingsOf watch'.drift watch'.items all_notes) (sym more)
      (All-push (λ (n : LiveNote). IsReadingOf watch'.drift watch'.items n.reading) notes note (readings-later watch.drift watch'.drift watch.items watch'.items notes later.drift later.seen all) reads);
}

-- ---- a worker goes on
module _ {C G : Type 0} (gives : C → Option ℕ → C → Type 0) (failed : C → ℕ) (says : G → ℕ → ℕ → Bool → G → Type 0) (hears : G → ℕ → ℕ → G → Type 0) where
  works-later : (before after : WorkerState C G) → Works before after → IsWatchLater before.watch after.watch
  works-later before after works = record { source = works.same.0; drift = works.same.1; seen = works.seen }

  on-reads : (before : WorkerState C G) (answer : Result Interval ℕ) (after : WorkerState C G) → Reads gives failed before answer after → ReadsOn before.watch before.notes after.watch after.notes
  on-reads before (Ok reading) after reads =
      let has = reads.read in
      on-noted before.watch after.watch before.notes after.notes (record { before = has.first; after = has.last; reading = reading }) (works-later before after reads.works) has.noted
      (reading-last after.watch (λ c. gives has.clock (Some c) has.later) reading has.looks.reading)
  on-reads before (Err number) after reads = on-unnoted before.watch after.watch before.notes after.notes (works-later before after reads.works) reads.unread

  on-where : {A : Type 0} (passes : Bool) (Does : WorkerState C G → Result A ℕ → WorkerState C G → Type 0) (before : WorkerState C G) (answer : Result A ℕ) (after : WorkerState C G)
      → (Does before answer after → ReadsOn before.watch before.notes after.watch after.notes) → DoesWhere passes Does before answer after → ReadsOn before.watch before.notes after.watch after.notes
  on-where true Does before answer after on does = on does.1
  on-where false Does before answer after on does =
      on-unnoted before.watch after.watch before.notes after.notes (watch-same before.watch after.watch (ap (λ w. w.watch) does.1)) (ap (λ w. w.notes) does.1)

  on-passes : {A : Type 0} (Does : WorkerState C G → Result A ℕ → WorkerState C G → Type 0) (before : WorkerState C G) (answer : Result A ℕ) (after : WorkerState C G)
      → ((b a : WorkerState C G) → Does b answer a → ReadsOn b.watch b.notes a.watch a.notes) → PassesGate says hears Does before answer after → ReadsOn before.watch before.notes after.watch after.notes
  on-passes Does before answer after on p =
      subst (λ (w : WorkerState C G). ReadsOn before.watch before.notes w.watch w.notes) (sym p.kept)
      (on-where p.passes Does (after_asking before p.asked) answer p.done (on (after_asking before p.asked) p.done) p.does)

  on-call : (before : WorkerState C G) (one : Call) (after : WorkerState C G) → Allows gives failed says hears before one after → ReadsOn before.watch before.notes after.watch after.notes
  on-call before (call.Now answer) after allowed = on-passes (Reads gives failed) before answer after (λ b a does. on-reads b answer a does) allowed
  on-call before (call.Begin number floor answer) after allowed =
      on-passes (Commits gives failed number floor) before answer after (λ b a does. on-unnoted b.watch a.watch b.notes a.notes (works-later b a does.works) does.notes) allowed
  on-call before (call.Lease lo hi answer) after allowed =
      on-unnoted before.watch after.watch before.notes after.notes (watch-same before.watch after.watch (ap (λ w. w.watch) allowed.1)) (ap (λ w. w.notes) allowed.1)
  on-call before (call.Pass number answer) after allowed =
      on-passes (Releases gives failed number) before answer after (λ b a does. on-unnoted b.watch a.watch b.notes a.notes (works-later b a does.works) does.notes) allowed

  pub on-talked : (before : WorkerState C G) (calls : List Call) (after : WorkerState C G) → Conversation (Allows gives failed says hears) before calls after → ReadsOn before.watch before.notes after.watch after.notes
  on-talked before [] after same = on-unnoted before.watch after.watch before.notes after.notes (watch-same before.watch after.watch (ap (λ w. w.watch) same)) (ap (λ w. w.notes) same)
  on-talked before (one ∷ calls) after (mid, allowed, rest) =
      let here = on-call before one mid allowed in
      let there = on-talked mid calls after rest in
      record { later = watch-trans before.watch mid.watch after.watch here.later there.later; readings = λ all. there.readings (here.readings all) }

  -- the watch of a worker without notes once it has talked, and the notes that it has then
  pub read-talked : (before : WorkerState C G) (calls : List Call) (after : WorkerState C G) (watch : WatchState) (seen : Known) (notes : List LiveNote) → before.watch ≡ watch → before.notes ≡ []
      → seen ≡ seen_of after.watch → notes ≡ after.notes → Conversation (Allows gives failed says hears) before calls after → IsWatchLater watch after.watch × AreReadingsOf watch.drift seen.items notes
  read-talked before calls after watch seen notes old none is noted talked =
      let on = on-talked before calls after talked in
      let later : IsWatchLater watch after.watch = subst (λ w. IsWatchLater w after.watch) old on.later in
      let nothing : AreReadingsOf before.watch.drift before.watch.items before.notes =
      subst (λ all_notes. AreReadingsOf before.watch.drift before.watch.items all_notes) (sym none) (All-nil (λ (note : LiveNote). IsReadingOf before.watch.drift before.watch.items note.reading)) in
      let items : after.watch.items ≡ seen.items = sym (ap (λ (k : Known). k.items) is) in (
        later,
        subst (λ ppm. AreReadingsOf ppm seen.items notes) later.drift
            (subst (λ all_items. AreReadingsOf after.watch.drift all_items notes) items
            (subst (λ all_notes. AreReadingsOf after.watch.drift after.watch.items all_notes) (sym noted) (on.readings nothing))),
      )

-- ---- what was published
-- a worker that has seen just the first ones of these publications has read nothing else
pub reads-published : (drift : ℕ) (published : Known) (end : WorkerEnd) → ReadsBy published.source drift end → IsPrefix end.seen.items published.items → ReadsPublished drift published end
reads-published drift published end by begins = record {
  source_is = by.source_is;
  first_ones = begins;
  readings = readings-later drift drift end.seen.items published.items end.notes.items refl begins by.readings;
}
