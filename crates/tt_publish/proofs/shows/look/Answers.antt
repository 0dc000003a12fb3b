use Rattle.std.proofs.Common.{refl}
use Rattle.tt_publish.proofs.Looking.{sees}
use Rattle.tt_publish.proofs.shows.look.Goals as goal

pub enter_as-requires : goal.enter_as-requires
enter_as-requires c x = sees _ _ x x refl
