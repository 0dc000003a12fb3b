-- What the numbers mean by which a machine refuses a line.
use Rattle.std.specs.Prelude.{codes, ℕ, nat_eq, if◌then◌else◌, List}

-- the sentence of each number, and of all others
abbrev pub sentence_of : ℕ → List ℕ
sentence_of n =
    if nat_eq n 1 then codes "the machine is out of memory"
    else if nat_eq n 801 then codes "the machine has published nothing so far: too few of its sources have answered (see its log and its status)"
    else if nat_eq n 802 then codes "the machine's clock went back, or is above the greatest time"
    else if nat_eq n 803 then codes "the machine's clock could not be read"
    else if nat_eq n 901 then codes "no stamp is left up to the greatest time"
    else if nat_eq n 902 then codes "the floor is too far ahead of the latest time"
    else if nat_eq n 903 then codes "the machine's lease is over"
    else if nat_eq n 1001 then codes "the machine's queue of commits is full"
    else if nat_eq n 1002 then codes "a commit with this id is pending, or was released"
    else if nat_eq n 1003 then codes "a commit with this stamp is pending, or was released"
    else if nat_eq n 1101 then codes "the line is not a request"
    else if nat_eq n 1102 then codes "the line is longer than 64 bytes"
    else if nat_eq n 1103 then codes "the id of the commit is below the last one of this connection"
    else if nat_eq n 1104 then codes "another commit of this connection is pending"
    else if nat_eq n 1708 then codes "the clock is past the last reading at which the publication may be used"
    else if nat_eq n 1821 then codes "the floor, or the lower end of the lease, is further ahead than the machine allows"
    else if nat_eq n 1822 then codes "the connection or the machine ended while the commit was pending"
    else if nat_eq n 1823 then codes "the machine knows that one of its assumptions is broken"
    else if nat_eq n 1824 then codes "the reading is wider than max_width of the machine: its sources answered long ago, or slowly (see its status)"
    else codes "docs/reference/refusals.md says what the number means"
