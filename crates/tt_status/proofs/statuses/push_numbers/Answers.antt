use Rattle.std.specs.Prelude.{string_bytes, ◌++◌, [], ◌∷◌}
use Rattle.tt_status.specs.Metric.{metric_text}
use Rattle.tt_status.specs.Slewing.{slewing_metrics}
use Rattle.tt_status.specs.Status.{build_metric, publication_metrics, known_metrics, source_metrics, round_metrics, refusals_metric, break_metrics, last_break_metrics, client_metrics, worker_metrics, histogram_metrics, written_metrics}
use Rattle.tt_status.proofs.Appending.{alone, more, more_on_ok}
use Rattle.tt_status.proofs.statuses.push_numbers.Goals as goal

pub returns : goal.returns
returns c =
    let s = c.args.status.now in
    let text = metric_text s.machine in
    let old = string_bytes c.args.text.now in
    let build = build_metric ∷ [] in
    let published = build ++ publication_metrics s in
    let known = published ++ known_metrics s in
    let sources = known ++ source_metrics s in
    let rounds = sources ++ round_metrics s in
    let refusals = rounds ++ (refusals_metric s ∷ []) in
    let breaks = refusals ++ break_metrics s in
    let last = breaks ++ last_break_metrics s.last_break in
    let slewing = last ++ slewing_metrics s.slewing in
    let clients = slewing ++ client_metrics s in
    let workers = clients ++ worker_metrics s in
    let histograms = workers ++ histogram_metrics s in
    more_on_ok text c.push_written.result histograms (written_metrics s) old _ _
    (more text workers (histogram_metrics s) old _ _
    (more text clients (worker_metrics s) old _ _
    (more text slewing (client_metrics s) old _ _
    (more text last (slewing_metrics s.slewing) old _ _
    (more text breaks (last_break_metrics s.last_break) old _ _
    (more text refusals (break_metrics s) old _ _
    (more text rounds (refusals_metric s ∷ []) old _ _
    (more text sources (round_metrics s) old _ _
    (more text known (source_metrics s) old _ _
    (more text published (known_metrics s) old _ _
    (more text build (publication_metrics s) old _ _ (alone text build_metric old _ c.in_ok-push_build.ensures) c.in_ok-push_publication.ensures)
    c.in_ok-push_known.ensures)
    c.in_ok-push_sources.ensures)
    c.in_ok-push_rounds.ensures)
    (alone text (refusals_metric s) _ _ c.in_ok-push_refusals.ensures))
    c.in_ok-push_breaks.ensures)
    c.in_ok-push_last_break.ensures)
    c.in_ok-push_slewing.ensures)
    c.in_ok-push_clients.ensures)
    c.in_ok-push_workers.ensures)
    c.in_ok-push_histograms.ensures)
    c.push_written.ensures
