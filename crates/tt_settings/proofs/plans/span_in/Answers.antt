use Rattle.std.proofs.Common.{◌≡◌, ◌<◌, ◌≤◌, List, [], ◌∷◌, length, Err, refl, ap, arith}
use Rattle.toml.specs.View.{items_view}
use Rattle.toml.specs.declared.value.Value.{Value}
use Rattle.tt_settings.specs.declared.keys.Key.{Key}
use Rattle.tt_settings.specs.declared.faults.SettingsFault.TheVariants.{WrongValue}
use Rattle.tt_settings.specs.Plan.{span_of}
use Rattle.tt_settings.proofs.plans.span_in.Goals as goal
use Rattle.tt_settings.proofs.plans.span_in.Goals.{in_default-via-then-as_slice-lt2, in_default-via-else-as_slice-lt2+else-this-lt3}

-- one item or none is no span
span_of-few : (key : Key) (vs : List Value) → length vs < 2 → span_of key (items_view vs) ≡ Err (WrongValue key)
span_of-few key [] few = refl
span_of-few key (v ∷ []) few = refl
span_of-few key (v ∷ w ∷ vs) few = absurd (omega (arith, few))

-- nor are three and more
span_of-many : (key : Key) (vs : List Value) → 3 ≤ length vs → span_of key (items_view vs) ≡ Err (WrongValue key)
span_of-many key [] many = absurd (omega (arith, many))
span_of-many key (v ∷ []) many = absurd (omega (arith, many))
span_of-many key (v ∷ w ∷ []) many = absurd (omega (arith, many))
span_of-many key (v ∷ w ∷ x ∷ vs) many = refl

pub returns-in_default : goal.returns-in_default
returns-in_default c =
    let items = c.in_ok-items.items.now.items in
    let same = ap length c.as_slice.ensures.value in
    elim c.in_default.branch [
      | in_default-via-then-as_slice-lt2 w ↦ rw (c.in_ok-items.ensures, span_of-few c.args.key items (grind (arith, same)))
      | in_default-via-else-as_slice-lt2+else-this-lt3 w ↦ rw (c.in_ok-items.ensures, span_of-many c.args.key items (grind (arith, same)))
    ]
