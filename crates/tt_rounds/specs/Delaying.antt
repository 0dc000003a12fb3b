-- What the answers are that a machine takes off the wire, and what it costs if one comes late.
use Rattle.std.specs.Prelude.{◌≡◌, ℕ, ◌+◌, ◌-◌, ◌≤◌, List, Some}
use Rattle.tt_span.specs.Interval.{Interval, Within}
use Rattle.tt_span.specs.Drift.{widening}
use Rattle.tt_poll.specs.Spelling.{spelling_of2}
use Rattle.tt_poll.specs.declared.messages.Message2.TheVariants.{Answer}
use Rattle.tt_source.specs.Statement.{Statement, statement_at, uncut_low}
use Rattle.tt_source.specs.Table.{TableState, Sending, source_at}
use Rattle.tt_seal.specs.Sealing.{SealKey, sealing_of, key_with}
use Rattle.tt_wire.specs.Moving.{moved_nonce}

-- the bytes are the sealing, under one of these keys, of source i's answer to the poll of this machine that waits, in this life of it, with the nonce that this poll has on the wire
pub record IsSealedAnswer (keys : List SealKey) (ahead : ℕ) (table : TableState) (i : ℕ) (bytes : List ℕ) : Type 0 where
  pub key : SealKey
  pub known : key_with keys key.number ≡ Some key
  pub sending : Sending
  pub waits : (source_at table i).waiting ≡ Some sending
  pub span : Interval
  pub sealed : bytes ≡ sealing_of (spelling_of2 (Answer (record { machine = table.machine; source = i; nonce = moved_nonce ahead sending.nonce; epoch = table.epoch; span = span }))) key

-- of two statements of the same answer to the same poll, the second came d later
pub record IsDelayed (d : ℕ) (first second : Statement) : Type 0 where
  pub same_span : second.span ≡ first.span
  pub same_poll : second.sent ≡ first.sent
  pub later : second.got ≡ first.got + d

-- what a delay of d costs at a clock reading: the upper end is the same; the lower end, before it is cut, is lower by d less what the first was widened by meanwhile, so by d at most, and by d less the widening of d at least
pub record CostsDelay (ppm d : ℕ) (first second : Statement) (c : ℕ) : Type 0 where
  pub upper : (statement_at ppm second c).hi ≡ (statement_at ppm first c).hi
  pub lower : uncut_low ppm first c ≡ uncut_low ppm second c + (d - (widening ppm (c - first.got) - widening ppm (c - second.got)))
  pub holds : Within (statement_at ppm first c) (statement_at ppm second c)
  pub at_most : (statement_at ppm first c).lo ≤ (statement_at ppm second c).lo + d
  pub at_least : uncut_low ppm second c + d ≤ uncut_low ppm first c + widening ppm d
