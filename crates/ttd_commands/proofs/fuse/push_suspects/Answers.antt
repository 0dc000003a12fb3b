use Rattle.std.proofs.Common.{◌≡◌, sym, ◌∙◌, length}
use Rattle.std.specs.Prelude.{codes, string_bytes}
use Rattle.std.proofs.lemmas.Bool.{eqb-true, eqb-false}
use Rattle.ttd_commands.proofs.Suspects.{on_ok-appended, suspects_line-none, suspects_line-some}
use Rattle.ttd_commands.proofs.fuse.push_suspects.Goals as goal

pub returns-then-is_empty : goal.returns-then-is_empty
returns-then-is_empty c =
    let xs = c.args.suspects.now in
    rw (suspects_line-none xs (eqb-true (length xs) 0 (sym c.is_empty.ensures ∙ c.if-is_empty.true)))
    (on_ok-appended c.push_str.result (string_bytes c.push_str.new.self) (string_bytes c.args.text.now) (codes "suspects none\n") c.push_str.ensures.bytes)

pub returns : goal.returns
returns c =
    let xs = c.args.suspects.now in
    let same : c.as_slice.result.now ≡ xs = c.as_slice.ensures.value ∙ c.in_ok-numbers.ensures in
    rw (suspects_line-some xs (eqb-false (length xs) 0 (sym c.is_empty.ensures ∙ c.if-is_empty.false))) (rw same at c.push_line.ensures.written)
