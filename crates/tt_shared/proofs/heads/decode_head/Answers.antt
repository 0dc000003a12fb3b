use Rattle.std.proofs.Common.{◌≡◌, List, ℕ, cond, eqb, length, true, not, sym, ap, ◌∙◌, arith}
use Rattle.std.specs.Prelude.{slice_index, slice_range, nat_eq}
use Rattle.std.specs.Cmp.Lexicographic.{pointwise, bytes_decides}
use Rattle.tt_host.specs.declared.clocks.HostClock.{HostClock}
use Rattle.tt_host.specs.declared.clocks.HostClock.TheVariants.{Monotonic, Raw}
use Rattle.tt_shared.specs.Head.{head_of}
use Rattle.tt_shared.proofs.Heading.{head_clock, head_index, head_length, same_head}
use Rattle.tt_shared.proofs.heads.decode_head.Goals as goal

pub returns-then-bytes-ne-HEAD_LEN-clause-taken : goal.returns-then-bytes-ne-HEAD_LEN-clause-taken
returns-then-bytes-ne-HEAD_LEN-clause-taken c = λ index clock eight e.
    absurd (omega (arith, c.if-bytes-ne-HEAD_LEN.true, ap length e, head_length index c.args.boot.now clock eight c.told-boot))

pub returns-then-ne-clause-taken : goal.returns-then-ne-clause-taken
returns-then-ne-clause-taken c = λ index clock eight e.
    let first : c.index_in-index.result ≡ index = c.index_in-index.ensures ∙ ap (λ (l : List ℕ). slice_range l 16 24) e ∙ head_index index c.args.boot.now clock eight in
    let second : c.clock_in-clock.result ≡ clock = c.clock_in-clock.ensures ∙ ap (λ (l : List ℕ). cond (eqb (slice_index l 8) 1) Monotonic Raw) e ∙ head_clock index c.args.boot.now clock in
    let spelled : c.args.bytes.now ≡ c.as_slice.result.now =
    e ∙ ap (λ (l : List ℕ). head_of l c.args.boot.now clock) (sym first) ∙ ap (λ (k : HostClock). head_of c.index_in-index.result c.args.boot.now k) (sym second)
    ∙ sym c.encode_head.ensures ∙ sym c.as_slice.ensures in
    let same : pointwise nat_eq c.args.bytes.now c.as_slice.result.now ≡ true = (bytes_decides c.args.bytes.now c.as_slice.result.now).1 spelled in
    let other : true ≡ not true = sym c.if-ne.true ∙ c.ne.ensures ∙ ap not same in
    absurd cc

pub returns-clause-taken : goal.returns-clause-taken
returns-clause-taken c = λ index clock eight e.
    same_head c.index_in-index.result index c.clock_in-clock.result clock
    (c.index_in-index.ensures ∙ ap (λ (l : List ℕ). slice_range l 16 24) e ∙ head_index index c.args.boot.now clock eight)
    (c.clock_in-clock.ensures ∙ ap (λ (l : List ℕ). cond (eqb (slice_index l 8) 1) Monotonic Raw) e ∙ head_clock index c.args.boot.now clock)
