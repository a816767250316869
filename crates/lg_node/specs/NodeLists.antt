-- How a list of nodes with its labels is held.
use Rattle.std.specs.Prelude.{◌≡◌, true, ◌<◌, ◌^◌, length, map}
use Rattle.std.specs.List.{All}
use Rattle.lg_op.specs.Nodes.{InForm}
use Rattle.lg_node.specs.Nodes.{LabelledNodes, is_word}
use Rattle.lg_node.specs.declared.node_list.NodeList.TheInside.{Inside}

abbrev pub view_of : Inside → LabelledNodes
view_of l = record { nodes = l.nodes.items; words = map (λ w. w.items) l.words.keys; places = l.bindings.places }

-- each label has a place, the places are those of n nodes, and the nodes and the words are as they were asked to be
pub record IsNodeList (l : Inside) : Type 0 where
  pub paired : length l.bindings.places ≡ length l.words.keys
  pub counted : l.bindings.nodes ≡ length l.nodes.items
  pub nodes : length l.nodes.items < 2 ^ 32
  pub labels : length l.words.keys < 2 ^ 32
  pub formed : All InForm l.nodes.items
  pub worded : All (λ w. is_word w.items ≡ true) l.words.keys
