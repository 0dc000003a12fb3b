-- Masters that share keys with a machine, where its link hands up all that its daemon takes. Each list of what was done has the newest first.
use Rattle.std.specs.Prelude.{◌≡◌, ℕ, List, ◌∷◌, Bool, Some}
use Rattle.tt_fuse.specs.Fusion.{IsSetOfAtMost, IsOutside}
use Rattle.tt_seal.specs.Sealing.{SealKey, IsBytes}
use Rattle.tt_wire.specs.Wire.{Wiring, keys_of}
use Rattle.tt_daemon.specs.Config.{Configuration}
use Rattle.tt_rounds.specs.Hearing.{heard_from}
use Rattle.tt_rounds.specs.Link.{Came}
use Rattle.tt_rounds.specs.RoundLinks.{HandsUp}
use Rattle.tt_rounds.specs.declared.awaiting.PeerTable.{PeerTable}
use Rattle.tt_world.specs.Life.{Life}
use Rattle.tt_consistency.specs.Sealed.{Comes, Did, Done, IsRightMaster, Makes, NobodyElse, NobodyElseAsks}
use Rattle.tt_consistency.specs.Steps.{Step, Takes}

-- ---- what a link does

-- a message was handed up over this wire, as from a source, of bytes that had come from its address
pub record WasHandedUp (wire : Wiring) (source : ℕ) (message : List ℕ) (all : List Done) : Type 0 where
  pub later : List Done
  pub at : ℕ
  pub bytes : List ℕ
  pub before : List Done
  pub did : Did all later at (Comes source bytes) before
  pub small : IsBytes bytes
  pub table : PeerTable
  pub heard : (heard_from wire table (Some source) bytes).handed ≡ Some (record { peer = source; bytes = message })

-- each message that the daemon takes as from a source was handed up so before
abbrev pub AllHandedUp : Wiring → ℕ → List Done → Type 0
AllHandedUp wire source all = (later before : List Done) (at clock : ℕ) (message : List ℕ) → Did all later at (Makes (Takes source message clock)) before → WasHandedUp wire source message before

-- where a step takes a message, it was handed up over this wire; whether its bytes had come is not said
abbrev pub IsHandedUp : Wiring → Step → Type 0
IsHandedUp wire (Takes source message clock) = HandsUp wire (Came (record { peer = source; bytes = message }))
IsHandedUp wire _ = Unit {0}

-- ---- what is assumed of masters

-- a source has keys, nobody else has them, and its master is right
pub record HasGoodMaster (config : Configuration) (life : Life) (wire : Wiring) (all : List Done) (source : ℕ) : Type 0 where
  pub first : SealKey
  pub others : List SealKey
  pub keys : keys_of wire source ≡ first ∷ others
  pub tags : NobodyElse wire source all
  pub requests : NobodyElseAsks config life wire source all
  pub master : IsRightMaster wire.ahead source all

-- at most as many sources as the configuration allows have none
pub record HasFewBadMasters (config : Configuration) (life : Life) (wire : Wiring) (all : List Done) : Type 0 where
  pub bad : List Bool
  pub few : IsSetOfAtMost config.faulty config.sources bad
  pub others : (source : ℕ) → IsOutside bad source → HasGoodMaster config life wire all source
