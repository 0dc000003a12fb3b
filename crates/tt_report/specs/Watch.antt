-- When a publication is told as slow. A history is what was seen at each look, newest first.
use Rattle.std.specs.Prelude.{ℕ, ◌≡◌, ◌-◌, ◌&&◌, nat_lt, nat_eq, Bool, not, if◌then◌else◌, List, [], ◌∷◌, Option, Some, None}
use Rattle.tt_report.specs.declared.watches.Watch.{Watch}

-- what was seen at a look: when the publication began (0: none is made), how long one may last, and what the clock showed
pub record Look : Type 0 where
  pub since : ℕ
  pub most : ℕ
  pub now : ℕ

-- the look with these
abbrev pub look_of : ℕ → ℕ → ℕ → Look
look_of since most now = record { since = since; most = most; now = now }

-- a publication is made, and has lasted longer than it may
abbrev pub is_slow : Look → Bool
is_slow look = not (nat_eq look.since 0) && nat_lt look.most (look.now - look.since)

-- when the publication began that was told last
abbrev pub told_of : List Look → ℕ
told_of [] = 0
told_of (look ∷ past) = if is_slow look && not (nat_eq look.since (told_of past)) then look.since else told_of past

-- a look tells of a slow publication of which no look has told: then how long it has lasted
abbrev pub answer_of : List Look → Look → Option ℕ
answer_of past look = if is_slow look && not (nat_eq look.since (told_of past)) then Some (look.now - look.since) else None

-- what is kept is what the history leaves
pub record StandsFor (past : List Look) (watch : Watch) : Type 0 where
  pub told : watch.told ≡ told_of past
