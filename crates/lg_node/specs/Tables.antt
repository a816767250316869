-- The tables of a check.
use Rattle.std.specs.Prelude.{◌≡◌, ℕ, ◌<◌, ◌^◌, Bool, false, List, Option, Some, None, length, slice_index_or}
use Rattle.std.specs.List.{list_any}
use Rattle.lg_op.specs.declared.node.Node.{Node}
use Rattle.lg_node.specs.declared.ranges.Ranges.{Ranges}
use Rattle.lg_node.specs.declared.tables.Tables.{Tables}
use Rattle.lg_node.specs.Nodes.{LabelledNodes}
use Rattle.lg_node.specs.Functions.{home, functions_before, functions}
use Rattle.lg_node.specs.Labels.{is_labelled, names_address}

-- a table has the function of each node
abbrev pub AreHomes : List Node → List (Option ℕ) → Type 0
AreHomes nodes homes = (i : ℕ) → slice_index_or homes i None ≡ home nodes i

-- a table has of each node whether a label is bound at it
abbrev pub AreMarks : LabelledNodes → List Bool → Type 0
AreMarks l marks = (i : ℕ) → i < length l.nodes → slice_index_or marks i false ≡ is_labelled l.places i

pub record AreTables (l : LabelledNodes) (t : Tables) : Type 0 where
  pub homes : AreHomes l.nodes t.homes.items
  pub labelled : AreMarks l t.labelled.items

-- a table has of each label whether some node names its address
pub record AreNamed (l : LabelledNodes) (marks : List Bool) : Type 0 where
  pub count : length marks ≡ length l.places
  pub named : (label : ℕ) → label < length l.places → slice_index_or marks label false ≡ list_any (names_address label) l.nodes

-- the number of a node's function: as many functions end before the node
abbrev pub number_in : ℕ → Option ℕ → Option ℕ
number_in ended None = None
number_in ended (Some p) = Some ended

abbrev pub number_of : List Node → ℕ → Option ℕ
number_of nodes i = number_in (length (functions_before nodes i)) (home nodes i)

pub record AreRanges (nodes : List Node) (r : Ranges) : Type 0 where
  pub few : length r.functions.items < 2 ^ 32
  pub functions : r.functions.items ≡ functions nodes
  pub numbers : (i : ℕ) → slice_index_or r.numbers.items i None ≡ number_of nodes i
