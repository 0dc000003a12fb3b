-- What a failed receipt means for a link.
use Rattle.std.specs.Prelude.{Bool, true, false}
use Rattle.std.specs.declared.io.ErrorKind.{ErrorKind}
use Rattle.std.specs.declared.io.ErrorKind.TheVariants.{ConnectionRefused, ConnectionReset, HostUnreachable, NetworkUnreachable, NetworkDown, WouldBlock, Interrupted}

-- nothing came, or an earlier packet did not arrive: the socket is as good as before
abbrev pub is_passing : ErrorKind → Bool
is_passing ConnectionRefused = true
is_passing ConnectionReset = true
is_passing HostUnreachable = true
is_passing NetworkUnreachable = true
is_passing NetworkDown = true
is_passing WouldBlock = true
is_passing Interrupted = true
is_passing _ = false
