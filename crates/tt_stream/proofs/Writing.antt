-- What one more write adds to those before it.
use Rattle.std.proofs.Common.{◌≡◌, ◌<◌, ◌++◌, ℕ, List, Option, length, take, drop, arith, sym, ap, ◌∙◌, subst, append_assoc, take-append-drop, length-append}
use Rattle.std.specs.Io.KnownBytes.{Appends, Keeps}
use Rattle.std.proofs.KnownBytes.{Appends-kept}
use Rattle.std.proofs.Math.Seq.{take-append_seam}
use Rattle.tt_stream.specs.DeviceBytes.{WritesFront}

-- n more of the rest are done
pub moved_on : (all done rest next : List ℕ) (n : ℕ) → all ≡ done ++ rest → next ≡ drop n rest → all ≡ (done ++ take n rest) ++ next
moved_on all done rest next n split is =
    split ∙ ap (λ l. done ++ l) (sym (take-append-drop n rest)) ∙ sym (append_assoc done (take n rest) (drop n rest)) ∙ ap (λ l. (done ++ take n rest) ++ l) (sym is)

-- what is done is a front, where something is left
pub front_written : (old mid new : Option (List ℕ)) (done rest all : List ℕ) → all ≡ done ++ rest → 0 < length rest → Appends old mid done → Keeps mid new → WritesFront old new all
front_written old mid new done rest all split left written kept =
    let front : take (length done) all ≡ done = ap (take (length done)) split ∙ take-append_seam done rest in
    (length done, omega (arith, ap length split, length-append done rest), subst (Appends old new) (sym front) (Appends-kept old mid new done written kept))
