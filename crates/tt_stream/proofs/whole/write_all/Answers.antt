use Rattle.std.proofs.Common.{◌++◌, take, rules}
use Rattle.std.proofs.KnownBytes.{Appends-trans}
use Rattle.std.proofs.lemmas.Result.{err_from_is_err_and}
use Rattle.tt_stream.proofs.Writing.{moved_on, front_written}
use Rattle.tt_stream.proofs.whole.write_all.Goals as goal

pub loop-rest-preserved : goal.loop-rest-preserved
loop-rest-preserved g c =
    let (done, split, written) = c.loop-rest.invariant.written in
    let rest = c.loop-rest.rest.now in
    let n = c.in_ok-n.n in
    record {
      written = (done ++ take n rest, moved_on _ done rest _ n split c.split_at.ensures.back, Appends-trans _ _ _ _ _ written c.in_ok-n.ensures.bytes);
      sound = search rules;
    }

pub returns-in_err-n-clause-err : goal.returns-in_err-n-clause-err
returns-in_err-n-clause-err g c =
    let (done, split, written) = c.loop-rest.invariant.written in
    let p = err_from_is_err_and c.from_residual.result c.from_residual.ensures.1 in
    rw p.1 (front_written _ _ _ done c.loop-rest.rest.now c.args.bytes.now split (search rules) written c.in_err-n.ensures.bytes)
