-- Calls as they were made: those of conversations one behind the other, and those of a turn of a session that was left at an earlier post.
use Rattle.std.proofs.Common.{◌≡◌, ℕ, Bool, List, [], ◌∷◌, ◌++◌, Option, Some, None, refl, sym, ap, ◌∙◌, subst}
use Rattle.std.proofs.Math.Path.{path_j, subst_refl}
use Rattle.tt_session.specs.Conversation.{Conversation}
use Rattle.tt_session.specs.declared.calls.Call.{Call}
use Rattle.tt_connections.specs.Station.{PostState, StationState, Allows}
use Rattle.tt_connections.specs.Turns.{PostGoesOn, AllowsOn}
use Rattle.tt_connections.specs.declared.presence.Question.{Question}
use Rattle.tt_connections.proofs.Turning.{post-same, talks-on}
use Rattle.tt_workers.specs.Happening.{MadeCall, StandsFrom, made_in, made_on}

-- what stands so at one post stands so at another
pub from-later : {C V : Type 0} (left : Option (StationState C V)) (state : StationState C V) (post : PostState C) → StandsFrom left state → StandsFrom left (record state { post = post })
from-later {C} {V} None state post is = ap (λ (s : StationState C V). record s { post = post }) is
from-later {C} {V} (Some left) state post is = ap (λ (s : StationState C V). record s { post = post }) is

module _ {C V : Type 0} (gives : C → Option ℕ → C → Type 0) (failed : C → ℕ) (says : V → Question → Bool → Type 0) where
  abbrev Made : Type 0
  Made = MadeCall gives failed says

  abbrev In : StationState C V → List Call → StationState C V → Type 0
  In before calls after = Conversation (Allows gives failed says) before calls after

  abbrev On : StationState C V → List Call → StationState C V → Type 0
  On before calls after = Conversation (AllowsOn gives failed says) before calls after

  -- a conversation behind another, and their calls
  pub made-both : (before mid after : StationState C V) (xs ys : List Call) (one : On before xs mid) (two : On mid ys after)
      → (both : On before (xs ++ ys) after) × (made_on gives failed says before (xs ++ ys) after both ≡ made_on gives failed says before xs mid one ++ made_on gives failed says mid ys after two)
  made-both before mid after [] ys same two =
      path_j {x = before} (λ (y : StationState C V) (p : before ≡ y). (talked : On y ys after) → (both : On before ys after) × (made_on gives failed says before ys after both ≡ made_on gives failed says y ys after talked))
      (λ talked. (talked, refl)) (sym same) two
  made-both before mid after (x ∷ xs) ys one two =
      let (both, are) = made-both one.0 mid after xs ys one.2 two in
      let first : Made = record { before = record before { post = one.1.post }; call = x; after = one.0; allowed = one.1.allowed } in
      ((one.0, one.1, both), ap (λ (l : List Made). first ∷ l) are)

  -- the calls of a conversation of as many others
  pub made-moved : (before after : StationState C V) (xs ys : List Call) (same : xs ≡ ys) (talked : On before xs after)
      → made_on gives failed says before ys after (subst (λ (l : List Call). On before l after) same talked) ≡ made_on gives failed says before xs after talked
  made-moved before after xs ys same talked =
      path_j {x = xs} (λ (l : List Call) (p : xs ≡ l). made_on gives failed says before l after (subst (λ (l : List Call). On before l after) p talked) ≡ made_on gives failed says before xs after talked)
      (ap (made_on gives failed says before xs after) (subst_refl (λ (l : List Call). On before l after) talked)) same

  -- a call in the same state under another name
  pub made-same : (state other : StationState C V) (is : state ≡ other) (call : Call) (after : StationState C V) (allowed : Allows gives failed says state call after)
      → ◌≡◌ {A = Made} (record { before = other; call = call; after = after; allowed = subst (λ (s : StationState C V). Allows gives failed says s call after) is allowed })
      (record { before = state; call = call; after = after; allowed = allowed })
  made-same state other is call after allowed =
      path_j {x = state} (λ (s : StationState C V) (p : state ≡ s).
      ◌≡◌ {A = Made} (record { before = s; call = call; after = after; allowed = subst (λ (s : StationState C V). Allows gives failed says s call after) p allowed })
      (record { before = state; call = call; after = after; allowed = allowed }))
      (ap (λ (a : Allows gives failed says state call after). record { before = state; call = call; after = after; allowed = a }) (subst_refl (λ (s : StationState C V). Allows gives failed says s call after) allowed))
      is

  -- where the post stayed between two calls
  pub made-stays : (calls : List Call) (before after : StationState C V) (talked : In before calls after)
      → made_on gives failed says before calls after (talks-on gives failed says calls before after talked) ≡ made_in gives failed says before calls after talked
  made-stays [] before after talked = refl
  made-stays (call ∷ calls) before after talked =
      let first : Made = record { before = before; call = call; after = talked.0; allowed = talked.1 } in
      ap (λ (l : List Made). first ∷ l) (made-stays calls talked.0 after talked.2)

  -- the calls of a turn, from the state in which the session was left: the post after the last of them, and the conversation
  pub record Later (old before : StationState C V) (calls : List Call) (after : StationState C V) (talked : In before calls after) : Type 0 where
    pub last : PostState C
    pub goes : PostGoesOn last after.post
    pub on : On old calls (record after { post = last })
    pub made_are : made_on gives failed says old calls (record after { post = last }) on ≡ made_in gives failed says before calls after talked

  pub made-later : (old before : StationState C V) (calls : List Call) (after : StationState C V) → before ≡ record old { post = before.post } → PostGoesOn old.post before.post
      → (talked : In before calls after) → Later old before calls after talked
  made-later old before [] after is goes talked = record {
    last = old.post;
    goes = subst (λ (s : StationState C V). PostGoesOn old.post s.post) (sym talked) goes;
    on = ap (λ (s : StationState C V). record s { post = old.post }) (talked ∙ is);
    made_are = refl;
  }
  made-later old before (call ∷ calls) after is goes talked =
      let there : StationState C V = record old { post = before.post } in
      let allowed = subst (λ (s : StationState C V). Allows gives failed says s call talked.0) is talked.1 in
      let mine : Made = record { before = there; call = call; after = talked.0; allowed = allowed } in
      let first : Made = record { before = before; call = call; after = talked.0; allowed = talked.1 } in
      record {
        last = after.post;
        goes = post-same after.post after.post refl;
        on = (talked.0, record { post = before.post; goes = goes; allowed = allowed }, talks-on gives failed says calls talked.0 after talked.2);
        made_are =
            ap (λ (l : List Made). mine ∷ l) (made-stays calls talked.0 after talked.2)
            ∙ ap (λ (m : Made). m ∷ made_in gives failed says talked.0 calls after talked.2) (made-same before there is call talked.0 talked.1);
      }
