-- Replies as text.
use Rattle.std.specs.Prelude.{ℕ, List, [], ◌∷◌, ◌++◌, codes}
use Rattle.std.specs.List.{flat_map}
use Rattle.tt_text.specs.Line.{space_and_number}
use Rattle.tt_stamp.specs.declared.commits.Receipt.{Receipt}
use Rattle.tt_world.specs.declared.events.Reply.{Reply}
use Rattle.tt_world.specs.declared.events.Reply.TheVariants as replies
use Rattle.tt_trace.specs.Phrase.{phrase}

-- a receipt: the session and the number of its commit, the stamp, and the earliest of the reading that released it, each behind one space
abbrev pub receipt_text : Receipt → List ℕ
receipt_text receipt = flat_map space_and_number (receipt.id.session ∷ receipt.id.number ∷ receipt.stamp ∷ receipt.earliest ∷ [])

-- a reply: its name, and its numbers
abbrev pub reply_text : Reply → List ℕ
reply_text (replies.Sent packet) = phrase (codes "Sent") (packet ∷ [])
reply_text (replies.Put packet) = phrase (codes "Put") (packet ∷ [])
reply_text replies.Taken = codes "Taken"
reply_text (replies.Published number span) = phrase (codes "Published") (number ∷ span.lo ∷ span.hi ∷ [])
reply_text (replies.Read reading) = phrase (codes "Read") (reading.lo ∷ reading.hi ∷ [])
reply_text replies.Arrived = codes "Arrived"
reply_text (replies.Stamped stamp) = phrase (codes "Stamped") (stamp ∷ [])
reply_text replies.Queued = codes "Queued"
reply_text (replies.Restarted life) = phrase (codes "Restarted") (life ∷ [])
reply_text replies.Leased = codes "Leased"
reply_text (replies.Released receipts) = codes "Released" ++ flat_map receipt_text receipts
reply_text (replies.Refused number) = phrase (codes "Refused") (number ∷ [])
