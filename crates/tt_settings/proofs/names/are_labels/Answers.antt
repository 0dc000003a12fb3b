use Rattle.std.proofs.Common.{rules, ◌≡◌, ◌<◌, false, true, length, ◌∙◌, refl, arith}
use Rattle.std.specs.List.{position_or_len, before_first, after_first}
use Rattle.tt_settings.specs.Socket.{is_dot, is_label}
use Rattle.tt_settings.proofs.Labels.{labels_more, labels_bad, labels_last}
use Rattle.tt_settings.proofs.names.are_labels.Goals as goal

pub returns-then-not-is_label : goal.returns-then-not-is_label
returns-then-not-is_label c =
    let rest = c.labels.rest.now in
    let at : (c.in-Some.label.now ≡ before_first is_dot rest) × (c.in-Some.more.now ≡ after_first is_dot rest) × (position_or_len is_dot rest < length rest) =
    c.in-Some.ensures.byte (omega arith) (λ w o h. h) in
    let wrong : is_label (before_first is_dot rest) ≡ false = cc (c.is_label.ensures, c.as_bytes.ensures.value, c.if-not-is_label.true, at.0) in
    labels_bad rest at.2 wrong ∙ c.labels.invariant.1

pub labels-preserved : goal.labels-preserved
labels-preserved c =
    let rest = c.labels.rest.now in
    let at : (c.in-Some.label.now ≡ before_first is_dot rest) × (c.in-Some.more.now ≡ after_first is_dot rest) × (position_or_len is_dot rest < length rest) =
    c.in-Some.ensures.byte (omega arith) (λ w o h. h) in
    let good : is_label (before_first is_dot rest) ≡ true = cc (c.is_label.ensures, c.as_bytes.ensures.value, c.if-not-is_label.false, at.0) in
    let same = labels_more rest at.2 good ∙ c.labels.invariant.1 in
    (search rules, rw at.1 same)

pub returns-then-is_label : goal.returns-then-is_label
returns-then-is_label c =
    let rest = c.labels.rest.now in
    let none : position_or_len is_dot rest ≡ length rest = c.in_default.ensures.byte (omega arith) (λ w o h. h) in
    let good : is_label rest ≡ true = cc (c.is_label-2.ensures, c.as_bytes-2.ensures.value, c.if-is_label.true) in
    rw (← c.labels.invariant.1, labels_last rest none, c.has_letter.ensures, c.as_bytes-then-is_label.ensures.value, good) refl

pub returns-else-is_label : goal.returns-else-is_label
returns-else-is_label c =
    let rest = c.labels.rest.now in
    let none : position_or_len is_dot rest ≡ length rest = c.in_default.ensures.byte (omega arith) (λ w o h. h) in
    let wrong : is_label rest ≡ false = cc (c.is_label-2.ensures, c.as_bytes-2.ensures.value, c.if-is_label.false) in
    rw (← c.labels.invariant.1, labels_last rest none, c.if-is_label.false, wrong) refl
