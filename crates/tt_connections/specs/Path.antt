-- What is done at the path of a Unix socket.
use Rattle.std.specs.Prelude.{pos, Bool, true, false, not, ◌&&◌, nat_eq, Result, Ok, Err, Option, Some, None}
use Rattle.tt_files.specs.declared.reasons.Reason.TheVariants.{System}
use Rattle.tt_connections.specs.declared.listeners.ListenerFault.{ListenerFault}
use Rattle.tt_connections.specs.declared.listeners.ListenerFault.TheVariants as fault
use Rattle.tt_connections.specs.declared.listeners.Found.{Found}
use Rattle.tt_connections.specs.declared.listeners.Found.TheVariants.{Nothing, Left, Listened, Unknown, Other}
use Rattle.tt_connections.specs.declared.listeners.Identity.{Identity}

-- a socket that was left is removed, nothing needs nothing, and all else stays and refuses: where somebody listens, as the
-- system refuses a second listener, EADDRINUSE
abbrev pub plan_of : Found → Result Bool ListenerFault
plan_of Nothing = Ok false
plan_of Left = Ok true
plan_of Listened = Err (fault.Failed (System (pos 98)))
plan_of (Unknown reason) = Err (fault.Failed reason)
plan_of Other = Err fault.NotSocket

-- a bind that failed has left the socket at which nobody listens, unless it failed because the path was taken
abbrev pub is_left_by : Bool → Found → Bool
is_left_by was_taken Left = not was_taken
is_left_by was_taken Nothing = false
is_left_by was_taken Listened = false
is_left_by was_taken (Unknown reason) = false
is_left_by was_taken Other = false

-- both are known, and are one file
abbrev pub is_same : Option Identity → Option Identity → Bool
is_same (Some bound) (Some seen) = nat_eq bound.device seen.device && nat_eq bound.inode seen.inode
is_same (Some bound) None = false
is_same None seen = false
