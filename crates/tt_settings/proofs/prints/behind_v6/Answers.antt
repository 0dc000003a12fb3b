use Rattle.std.proofs.Common.{codes, refl, sym, option_copied}
use Rattle.std.proofs.lemmas.Slice.Eq.{bytes_eq-Decides}
use Rattle.std.specs.Net.Text.{ipv4_text, ipv6_text}
use Rattle.tt_settings.proofs.Behind.{behind_parts}
use Rattle.tt_settings.proofs.prints.behind_v6.Goals as goal

pub returns-in-Some : goal.returns-in-Some
unfolding ipv6_text
returns-in-Some c =
    let mapped = (bytes_eq-Decides _ _).1 (c.in-Some.ensures.found.0 refl) in
    rw (mapped, c.behind_octets.ensures, c.behind.ensures, c.octets.ensures, ← c.in-Some.ensures.value)
    (sym (behind_parts (codes "::ffff:") (ipv4_text c.in-Some.four.octets) (option_copied c.args.text)))
