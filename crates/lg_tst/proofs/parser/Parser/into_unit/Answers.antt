use Rattle.lg_tst.proofs.PlaceLemmas.{lie_in_image}
use Rattle.lg_tst.proofs.parser.Parser.into_unit.Goals as goal

pub returns-clause-whole : goal.returns-clause-whole
returns-clause-whole c = record {
  image = c.in_ok-image.ensures.most;
  places = lie_in_image c.self.inside.part c.in_ok-image.image c.self.inside.nodes.places c.in_ok-image.ensures.image c.self.invariant.placed;
}
