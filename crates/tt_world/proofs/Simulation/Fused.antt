-- What a daemon's fusion answers is what the machine's fusion is defined to be.
use Rattle.std.proofs.Common.{◌≡◌, ℕ, ◌-◌, ◌<◌, ◌≤◌, true, false, List, [], ◌∷◌, ◌++◌, subst, Some, None, ap, refl, sym, inl, inr, arith}
use Rattle.std.specs.Prelude.{nat_lt, Result, Ok, Err, IsOk, IfOk, IsErrOf, MatchResult}
use Rattle.std.proofs.lemmas.List.Elements.{All-append, All-cons}
use Rattle.std.proofs.lemmas.Bool.{lt-ltb, le-ltb}
use Rattle.tt_source.specs.Table.{known_of}
use Rattle.tt_fuse.specs.Depth.{slow_fusion}
use Rattle.tt_cert.specs.Valid.{IsCertificate}
use Rattle.tt_cert.specs.Canonical.{IsCanonical}
use Rattle.tt_daemon.specs.Publication.{Publication as Fusion, IsPublication}
use Rattle.tt_daemon.specs.Daemon.{IsBack, IsForward, KnowsEnough, spans_of}
use Rattle.tt_daemon.specs.Fault.{number_of}
use Rattle.tt_daemon.specs.declared.faults.DaemonFault.{DaemonFault}
use Rattle.tt_daemon.specs.declared.faults.DaemonFault.TheVariants.{ClockBack, Unknown, NoPoint}
use Rattle.tt_publish.specs.Reading.{fused_span_of}
use Rattle.tt_world.specs.declared.publications.Shown.{Shown}
use Rattle.tt_world.specs.Private.Machine.{MachineState}
use Rattle.tt_world.specs.Private.Step.{fusion_on}
use Rattle.tt_world.specs.Headline.{CertificatesProve}

-- what a daemon's fusion ensures, at a clock reading that is not refused
pub record Answers (machine : MachineState) (clock : ℕ) (r : Result Fusion DaemonFault) : Type 0 where
  pub forward : IsForward machine.daemon clock
  pub fused : IfOk r (λ p. (p.clock ≡ clock) × (p.spans ≡ spans_of machine.daemon clock) × (p.faulty ≡ machine.daemon.config.faulty))
  pub back : IsErrOf r ClockBack → IsBack machine.daemon clock
  pub unknown : IsErrOf r Unknown → known_of machine.daemon.table < machine.daemon.config.sources - machine.daemon.config.faulty
  pub no_point : IsErrOf r NoPoint → KnowsEnough machine.daemon
  pub answered : IsOk r → KnowsEnough machine.daemon
  pub found : KnowsEnough machine.daemon → MatchResult r
      (λ p. slow_fusion (spans_of machine.daemon clock) machine.daemon.config.faulty ≡ Some p.span)
      (λ e. (e ≡ NoPoint) × (slow_fusion (spans_of machine.daemon clock) machine.daemon.config.faulty ≡ None))

not_both : (machine : MachineState) (clock : ℕ) → IsForward machine.daemon clock → IsBack machine.daemon clock → ⊥
not_both machine clock forward (inl h) = omega (arith, h, forward.not_back)
not_both machine clock forward (inr h) = omega (arith, h, forward.in_time)

-- what a daemon's fusion answers is what the machine's fusion is defined to be
pub fusion-answered : (machine : MachineState) (clock : ℕ) (r : Result Fusion DaemonFault) → Answers machine clock r
    → MatchResult r (λ p. fusion_on machine clock ≡ Ok (fused_span_of p)) (λ e. fusion_on machine clock ≡ Err (number_of e))
fusion-answered machine clock (Ok p) a =
    let enough : machine.daemon.config.sources - machine.daemon.config.faulty ≤ known_of machine.daemon.table = a.answered refl in
    let t : nat_lt (known_of machine.daemon.table) (machine.daemon.config.sources - machine.daemon.config.faulty) ≡ false = le-ltb _ _ enough in
    let found : slow_fusion (spans_of machine.daemon clock) machine.daemon.config.faulty ≡ Some p.span = a.found enough in
    rw (t, found) (ap (λ (k : ℕ). Ok (record { clock = k; span = p.span })) (sym a.fused.0))
fusion-answered machine clock (Err Unknown) a =
    let t : nat_lt (known_of machine.daemon.table) (machine.daemon.config.sources - machine.daemon.config.faulty) ≡ true = lt-ltb _ _ (a.unknown refl) in
    rw t refl
fusion-answered machine clock (Err NoPoint) a =
    let enough : machine.daemon.config.sources - machine.daemon.config.faulty ≤ known_of machine.daemon.table = a.no_point refl in
    let t : nat_lt (known_of machine.daemon.table) (machine.daemon.config.sources - machine.daemon.config.faulty) ≡ false = le-ltb _ _ enough in
    let found : slow_fusion (spans_of machine.daemon clock) machine.daemon.config.faulty ≡ None = (a.found enough).1 in
    rw (t, found) refl
fusion-answered machine clock (Err ClockBack) a = absurd (not_both machine clock a.forward (a.back refl))

-- a publication that is shown has its certificate
abbrev IsCertified : Shown → Type 0
IsCertified s = IsCanonical s.fused.spans s.fused.faulty s.fused.span s.fused.certificate × IsCertificate s.fused.spans s.fused.faulty s.fused.span s.fused.certificate

-- what is shown has its certificates, one more among them
pub certified-more : (before after : List Shown) (m life number : ℕ) (fusion : Fusion) → after ≡ before ++ record { machine = m; life = life; number = number; fused = fusion } ∷ [] → IsPublication fusion → CertificatesProve before → CertificatesProve after
certified-more before after m life number fusion pushed valid all =
    let s : Shown = record { machine = m; life = life; number = number; fused = fusion } in
    subst CertificatesProve (sym pushed)
    (All-append IsCertified before (s ∷ []) all (All-cons IsCertified s [] (valid.canonical, valid.valid) (λ k d h. absurd (omega (arith, h)))))
