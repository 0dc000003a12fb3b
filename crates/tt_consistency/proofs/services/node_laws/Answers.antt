use Rattle.tt_consistency.proofs.Working.{node-reads, node-begun, node-released, nodes-ordered, nodes-consistent}
use Rattle.tt_consistency.proofs.services.node_laws.Goals as goal

pub returns : goal.returns
returns g c = record {
  readings_hold = λ node worker place look reading working among.
      node-reads g.C.Clock.gives g.C.Clock.failed g.G.Gate.says g.G.Gate.hears node working worker place look reading among;
  begun = λ node worker place number stamp working among.
      node-begun g.C.Clock.gives g.C.Clock.failed g.G.Gate.says g.G.Gate.hears node working worker place number stamp among;
  released = λ node worker number stamp place later working among.
      node-released g.C.Clock.gives g.C.Clock.failed g.G.Gate.says g.G.Gate.hears node working worker number stamp place later among;
  ordered = nodes-ordered g.C.Clock.gives g.C.Clock.failed g.G.Gate.says g.G.Gate.hears g.D.Clock.gives g.D.Clock.failed g.H.Gate.says g.H.Gate.hears;
  consistent = nodes-consistent g.C.Clock.gives g.C.Clock.failed g.G.Gate.says g.G.Gate.hears;
}
