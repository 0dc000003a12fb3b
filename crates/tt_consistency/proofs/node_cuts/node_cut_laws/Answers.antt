use Rattle.tt_consistency.specs.NodeCuts.{node_in}
use Rattle.tt_consistency.proofs.CuttingNodes.{cut-works, node-cuts-consistent, rest-cut, whole-cut, worker-cut}
use Rattle.tt_consistency.proofs.node_cuts.node_cut_laws.Goals as goal

pub returns : goal.returns
returns g c = record {
  works = cut-works g.C.Clock.gives g.C.Clock.failed g.G.Gate.says g.G.Gate.hears;
  readings_hold = λ cut worker place look reading is.
      c.node_laws.ensures.readings_hold (node_in cut) worker place look reading (cut-works g.C.Clock.gives g.C.Clock.failed g.G.Gate.says g.G.Gate.hears cut is);
  begun = λ cut worker place number stamp is.
      c.node_laws.ensures.begun (node_in cut) worker place number stamp (cut-works g.C.Clock.gives g.C.Clock.failed g.G.Gate.says g.G.Gate.hears cut is);
  released = λ cut worker number stamp begun released is.
      c.node_laws.ensures.released (node_in cut) worker number stamp begun released (cut-works g.C.Clock.gives g.C.Clock.failed g.G.Gate.says g.G.Gate.hears cut is);
  ordered = λ cut other_cut earlier later number stamp begun released other_number other_stamp other_begun is inside other_is.
      c.node_laws.ensures.ordered (node_in cut) (node_in other_cut) earlier later number stamp begun released other_number other_stamp other_begun
      (cut-works g.C.Clock.gives g.C.Clock.failed g.G.Gate.says g.G.Gate.hears cut is) inside
      (cut-works g.D.Clock.gives g.D.Clock.failed g.H.Gate.says g.H.Gate.hears other_cut other_is);
  consistent = node-cuts-consistent g.C.Clock.gives g.C.Clock.failed g.G.Gate.says g.G.Gate.hears;
  workers = worker-cut g.C.Clock.gives g.C.Clock.failed g.G.Gate.says g.G.Gate.hears;
  no_more = rest-cut g.C.Clock.gives g.C.Clock.failed g.G.Gate.says g.G.Gate.hears;
  wholes = whole-cut g.C.Clock.gives g.C.Clock.failed g.G.Gate.says g.G.Gate.hears;
}
