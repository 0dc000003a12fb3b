use Rattle.tt_top.specs.Chart.{known_chart}
use Rattle.tt_top.proofs.charts.push_known.Goals as goal

pub returns : goal.returns
unfolding known_chart
returns c = rw c.of-ruler.ensures at c.push_chart.ensures
