use Rattle.std.proofs.Common.{rules, ◌≡◌, ◌++◌, ℕ, List, [], ◌∷◌, map, ◌∙◌, ap, sym}
use Rattle.std.specs.Prelude.{string_bytes, None}
use Rattle.std.specs.List.{flat_map}
use Rattle.std.proofs.lemmas.List.Folds.{flat_map-map}
use Rattle.tt_status.specs.Metric.{head_text}
use Rattle.tt_status.specs.Status.{count}
use Rattle.tt_status.specs.Master.{master_sample_text, sealed_sample, answers_metric}
use Rattle.tt_status.specs.declared.metrics.Subject.TheVariants.{Key}
use Rattle.tt_status.proofs.Appending.{then_on_ok, alone_on_ok, more_on_ok}
use Rattle.tt_status.proofs.master_statuses.push_answers.Goals as goal

pub returns : goal.returns
returns c =
    let s = c.args.status.now in
    let m = answers_metric s in
    let sample = master_sample_text m.name s.source in
    let rows = map sealed_sample s.sealed.items in
    let last = count (Key None) s.unsealed in
    let told : string_bytes c.push_sealed.new.text ≡ string_bytes c.push_head.new.text ++ flat_map (λ one. sample (sealed_sample one)) s.sealed.items = search rules in
    let sealed : string_bytes c.push_sealed.new.text ≡ string_bytes c.push_head.new.text ++ flat_map sample rows =
    told ∙ ap (λ (t : List ℕ). string_bytes c.push_head.new.text ++ t) (sym (flat_map-map sample sealed_sample s.sealed.items)) in
    then_on_ok c.push_count.result (string_bytes c.args.text.now) _ _ (head_text m.name m.help m.kind) (flat_map sample (rows ++ last ∷ []))
    c.in_ok-push_head.ensures
    (more_on_ok sample c.push_count.result rows (last ∷ []) _ _ _ sealed (alone_on_ok sample c.push_count.result last _ _ c.push_count.ensures))
