use Rattle.std.proofs.Common.{rules, arith, slice_index_or, ◌≡◌, ◌++◌, ℕ, List, [], ◌∷◌, length, map, ◌∙◌, ap, sym, append_assoc}
use Rattle.std.specs.Prelude.{string_bytes}
use Rattle.std.specs.List.{flat_map, range_with_len}
use Rattle.std.proofs.lemmas.List.FromFn.{map-range_with_len_more}
use Rattle.tt_status.specs.Metric.{Sample, head_text}
use Rattle.tt_status.specs.Master.{master_sample_text}
use Rattle.tt_status.specs.Server.{no_server, server_value, server_sample, server_metric}
use Rattle.tt_status.specs.declared.metrics.Value.{Value}
use Rattle.tt_status.specs.declared.metrics.Subject.TheVariants.{Server}
use Rattle.tt_status.proofs.Appending.{more, alone}
use Rattle.tt_status.proofs.server_statuses.push_server_row.Goals as goal

pub loop-number-preserved : goal.loop-number-preserved
loop-number-preserved c =
    let row = c.args.row.now in
    let number = c.loop-number.number in
    let text = master_sample_text row.name.now c.args.source in
    let sample = server_sample row.aspect c.args.servers.now in
    let head = string_bytes c.args.text.now ++ head_text row.name.now row.help.now row.kind in
    let value : c.value-value.result ≡ server_value row.aspect (slice_index_or c.args.servers.now number no_server) = search rules in
    let pushed : string_bytes c.push_labelled.new.text ≡ string_bytes c.loop-number.text ++ text (sample number) =
    c.in_ok-push_labelled.ensures ∙ ap (λ (v : Value). string_bytes c.loop-number.text ++ text (record { subject = Server number; value = v })) value in
    more text (map sample (range_with_len 0 number)) (sample number ∷ []) head _ _ c.loop-number.invariant (alone text (sample number) _ _ pushed)
    ∙ ap (λ (xs : List Sample). head ++ flat_map text xs) (sym (map-range_with_len_more sample 0 number number (omega arith)))

pub returns : goal.returns
unfolding server_metric
returns c =
    let row = c.args.row.now in
    let text = master_sample_text row.name.now c.args.source in
    let sample = server_sample row.aspect c.args.servers.now in
    let old = string_bytes c.args.text.now in
    let head = head_text row.name.now row.help.now row.kind in
    let all : c.loop-number.number ≡ length c.args.servers.now = omega arith in
    c.loop-number.invariant
    ∙ append_assoc old head (flat_map text (map sample (range_with_len 0 c.loop-number.number)))
    ∙ ap (λ (n : ℕ). old ++ (head ++ flat_map text (map sample (range_with_len 0 n)))) all
