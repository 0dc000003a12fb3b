use Rattle.std.proofs.Common.{◌≡◌, sym, ◌∙◌}
use Rattle.std.proofs.lemmas.Bool.Decides.{Decides-eqb}
use Rattle.std.proofs.lemmas.Slice.Eq.{slice_eq-Decides}
use Rattle.tt_status.specs.Journal.{stream_name}
use Rattle.tt_status.proofs.priorities.is_journal.Goals as goal

pub returns : goal.returns
returns c =
    let same = slice_eq-Decides Decides-eqb c.as_str.result.now c.args.stream.now c.eq.result c.eq.ensures in
    let name : c.as_str.result.now ≡ stream_name c.args.device c.args.inode = c.as_str.ensures.value ∙ c.in_ok-name.ensures.ok in
    record { named = (λ is. sym (same.0 is) ∙ name, λ is. same.1 (name ∙ sym is)) }
