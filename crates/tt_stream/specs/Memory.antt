-- What clauses see of the devices in memory.
use Rattle.std.specs.Prelude.{ℕ, Bool, Option, List}

-- A reader over bytes in memory.
pub record ReaderState : Type 0 where
  -- the bytes that are still to come
  pub left : List ℕ
  -- how many a call gives at most
  pub piece : ℕ
  -- the call that fails, counted from 1
  pub fails_at : Option ℕ
  -- the calls so far
  pub calls : ℕ
  -- the failures so far
  pub failures : ℕ

-- A writer into memory.
pub record WriterState : Type 0 where
  -- the bytes that were written
  pub taken : List ℕ
  -- how many a call takes at most
  pub piece : ℕ
  -- the call that fails, counted from 1
  pub fails_at : Option ℕ
  -- the calls so far
  pub calls : ℕ
  -- the failures so far
  pub failures : ℕ
  -- whether nothing was written since the last flush
  pub flushed : Bool
