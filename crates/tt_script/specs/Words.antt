-- The words that name what happens.
use Rattle.std.specs.Prelude.{codes, ℕ, nat_eq, if◌then◌else◌, List, Option, Some, None}
use Rattle.std.specs.Cmp.Lexicographic.{pointwise}
use Rattle.tt_script.specs.declared.words.Word.{Word}
use Rattle.tt_script.specs.declared.words.Word.TheVariants.{Send, Answer, Forge, Deliver, Fuse, Arrive, Read, Stamp, Queue, Release, Lease, Restart}

-- the word that a text is
abbrev pub word_of : List ℕ → Option Word
word_of text =
    if pointwise nat_eq text (codes "send") then Some Send
    else if pointwise nat_eq text (codes "answer") then Some Answer
    else if pointwise nat_eq text (codes "forge") then Some Forge
    else if pointwise nat_eq text (codes "deliver") then Some Deliver
    else if pointwise nat_eq text (codes "fuse") then Some Fuse
    else if pointwise nat_eq text (codes "arrive") then Some Arrive
    else if pointwise nat_eq text (codes "read") then Some Read
    else if pointwise nat_eq text (codes "stamp") then Some Stamp
    else if pointwise nat_eq text (codes "queue") then Some Queue
    else if pointwise nat_eq text (codes "release") then Some Release
    else if pointwise nat_eq text (codes "lease") then Some Lease
    else if pointwise nat_eq text (codes "restart") then Some Restart
    else None
