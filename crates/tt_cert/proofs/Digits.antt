-- Decimal digits at the front of bytes: a lemma of `tt_text`.
pub use Rattle.tt_text.proofs.Digits.{Reads-digits}
