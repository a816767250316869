-- How what has been read is held.
use Rattle.std.specs.Prelude.{◌+◌, ◌≤◌, length}
use Rattle.std.specs.List.{All}
use Rattle.lg_tst.specs.Units.{State, most_nodes}
use Rattle.lg_tst.specs.Answers.{LiesWithin}
use Rattle.lg_tst.specs.declared.parser.Parser.TheInside.{Inside}

abbrev pub view_of : Inside → State
view_of p = record { source = p.source; section = p.section; part = p.part; list = p.nodes; names = p.names }

-- each word and each name has its own token; there are at most 1,048,576 nodes, and no data label lies after the data
pub record IsParser (p : Inside) : Type 0 where
  pub few : length p.nodes.words + length p.names.words + length p.source.left ≤ 16777216
  pub nodes : length p.nodes.nodes ≤ most_nodes
  pub placed : All (LiesWithin (length p.part.bytes)) p.nodes.places
