-- What is known of a history.
use Rattle.std.specs.Prelude.{ℕ, List}
use Rattle.logbook.specs.Pages.{Book}

-- which history: a chain of one log, by the key of the pen that it began with
pub record Source : Type 0 where
  pub book : Book
  pub chain : ℕ

-- what is known of one history: its first items, oldest first
pub record Known (T : Type 0) : Type 0 where
  pub source : Source
  pub items : List T

-- how many items of a log are shown
pub record HistoryNumber : Type 0 where
  pub book : Book
  pub number : ℕ
