-- What can be asked.
use Rattle.std.proofs.Common.{◌≡◌, ℕ, List, Option, Some, None, IfSome, IfNone, IsSome, IsTrue}
use Rattle.std.specs.declared.net.socket_addr.SocketAddr.{SocketAddr}
use Rattle.tt_settings.specs.Socket.{address_of, host_of, is_usable}
use Rattle.tt_settings.specs.Master.{asked_at, can_be_asked}

usable : (text : List ℕ) (a : Option SocketAddr) → IsTrue (asked_at text a) → IfSome a (λ b. IsTrue (is_usable b))
usable text (Some b) asked = asked
usable text None asked = tt

named : (text : List ℕ) (a : Option SocketAddr) → IsTrue (asked_at text a) → IfNone a (IsSome (host_of text))
named text (Some b) asked = tt
named text None asked = asked

-- the address of a text that can be asked is a good one
pub asked_usable : (text : List ℕ) (a : Option SocketAddr) → IsTrue (can_be_asked text) → a ≡ address_of text → IfSome a (λ b. IsTrue (is_usable b))
unfolding can_be_asked
asked_usable text a asked is = usable text a (rw (← is) at asked)

-- and where it has none, it is a name
pub asked_named : (text : List ℕ) (a : Option SocketAddr) → IsTrue (can_be_asked text) → a ≡ address_of text → IfNone a (IsSome (host_of text))
unfolding can_be_asked
asked_named text a asked is = named text a (rw (← is) at asked)
