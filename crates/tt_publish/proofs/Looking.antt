-- A step that looks at what is shown, or shows more of the same source, keeps the rule of one source.
use Rattle.std.proofs.Common.{◌≡◌, ℕ, ◌≢◌, ◌++◌, List, [], ◌∷◌, Option, Some, None, set, fold, refl, sym, ◌∙◌, ap, subst, ⊎_elim}
use mathlib.Core.Option.{some}
use lib.ListN.{get_elem?}
use Rattle.left_right.specs.Register.{Admits, TurnsAt, Forks, Merges}
use Rattle.atomic_table.proofs.Lists.{at_set, at_snoc}
use Rattle.tt_publish.specs.Known.{Known, Source}
use Rattle.tt_publish.specs.Shown.{IsOf, HasOneSource, Sees, source_of}

-- what is of the source of one thing shown is of that of another with the same source
is_of_along : (v : Option Known) (x y : Known) → x.source ≡ y.source → IsOf v x → IsOf v y
is_of_along None x y same h = tt
is_of_along (Some k) x y same h = h ∙ same

-- what has this source is of what has it too
is_of_by : (v : Option Known) (x : Known) (source : Source) → source_of v ≡ Some source → IsOf v x → source ≡ x.source
is_of_by None x source is h = absurd (cc is)
is_of_by (Some k) x source is h = let same : k.source ≡ source = cc is in sym same ∙ h

pub admits : Admits HasOneSource None
admits x views h seat v at = ⊎_elim (h seat v) (λ (e : None ≡ v). subst (λ (z : Option Known). IsOf z x) e tt) (at_snoc views None v seat at)

pub sees : (seat : ℕ) (v : Option Known) (x y : Known) → x.source ≡ y.source → TurnsAt HasOneSource seat v x y Sees
sees seat v x y same views h at = (
  Some y,
  (λ j u e. ⊎_elim (λ (t : (j ≡ seat) × (Some y ≡ u)). subst (λ (z : Option Known). IsOf z y) t.1 refl) (λ (t : (j ≢ seat) × (get_elem? views j ≡ some u)). is_of_along u x y same (h j u t.1))
      (at_set views seat j (Some y) u e)),
  (is_of_along v x y same (h seat v at), refl),
)

-- a seat shows more of the source that it knows
pub sees_more : (seat : ℕ) (v : Option Known) (x y : Known) → source_of v ≡ Some y.source → TurnsAt HasOneSource seat v x y Sees
sees_more seat v x y is views h at = sees seat v x y (sym (is_of_by v x y.source is (h seat v at))) views h at

set_known : (x : Known) (views : List (Option Known)) (seat : ℕ) (v : Option Known) → HasOneSource x views → IsOf v x → HasOneSource x (set views seat v)
set_known x views seat v h new j u e = ⊎_elim (λ (t : (j ≡ seat) × (v ≡ u)). subst (λ (z : Option Known). IsOf z x) t.1 new) (λ (t : (j ≢ seat) × (get_elem? views j ≡ some u)). h j u t.1) (at_set views seat j v u e)

pub forks : (seat : ℕ) (v : Option Known) → Forks HasOneSource seat v v v
forks seat v x views h at j u e = ⊎_elim (set_known x views seat v h (h seat v at) j u) (λ (same : v ≡ u). subst (λ (z : Option Known). IsOf z x) same (h seat v at)) (at_snoc (set views seat v) v u j e)

pub merges : (seat : ℕ) (v : Option Known) (other : ℕ) (w : Option Known) → Merges HasOneSource seat v other w w None
merges seat v other w x views h at apart there =
    let told : IsOf w x = ⊎_elim (λ (t : (other ≡ seat) × (w ≡ w)). absurd (apart t.0)) (λ (t : (other ≢ seat) × (get_elem? views other ≡ some w)). h other w t.1) (at_set views seat other w w there) in
    set_known x (set views seat w) other None (set_known x views seat w h told) tt

-- the operation that was put behind none is what is shown afterwards
pub last_wins : (shown next latest : Known) (pending before : List Known) → before ≡ [] → pending ≡ before ++ latest ∷ [] → next ≡ fold (λ (x y : Known). y) shown pending → next ≡ latest
last_wins shown next latest pending before none one is = is ∙ ap (fold (λ (x y : Known). y) shown) (one ∙ ap (λ b. b ++ latest ∷ []) none)
