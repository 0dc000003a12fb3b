-- Keys one after the other.
use Rattle.std.proofs.Common.{List, ◌++◌, Result, Ok}
use Rattle.tt_server.specs.Ring.{◌>>=◌}
use Rattle.tt_server.specs.declared.faults.ServerFault.{ServerFault}

-- what was found, before what is still to be found
abbrev pub after : {A : Type 0} → List A → Result (List A) ServerFault → Result (List A) ServerFault
after done rest = rest >>= (λ xs. Ok (done ++ xs))
