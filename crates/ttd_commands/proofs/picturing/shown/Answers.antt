use Rattle.std.proofs.Common.{inl}
use Rattle.std.specs.Prelude.{string_bytes}
use Rattle.ttd_commands.proofs.Pictured.{picture_shown}
use Rattle.ttd_commands.proofs.picturing.shown.Goals as goal

pub returns-clause-value : goal.returns-clause-value
returns-clause-value c =
    inl (picture_shown c.args.script.now _ _ _ _ c.in_ok-trace.trace (string_bytes c.in_ok-text.text)
    c.configs.ensures.value c.to_events.ensures.value c.configs-2.ensures.value c.to_events-2.ensures.value
    c.in_ok-trace.ensures.trace c.in_ok-text.ensures.text)
