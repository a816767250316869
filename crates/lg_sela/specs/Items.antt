-- The items of each node on AArch64.
use Rattle.std.specs.Prelude.{◌≡◌, ℕ, ◌≤◌, Bool, true, List, length}
use Rattle.lg_carry.specs.Values.Parts.{HaveSlots}
use Rattle.lg_op.specs.Nodes.{InForm}
use Rattle.lg_op.specs.declared.node.Node.{Node}
use Rattle.lg_sel.specs.Families.{Families}
use Rattle.lg_sel.specs.Families as families
use Rattle.lg_sel.specs.Selected.{AreFirst, is_pusharg}
use Rattle.lg_sel.specs.declared.reach.Reach.{Reach}
use Rattle.lg_sel.specs.declared.site.Site.{Site}
use Rattle.lg_sela.specs.Control.ControlItems.{control_items}
use Rattle.lg_sela_values.specs.declared.items.Item.{Item}
use Rattle.lg_sela_values.specs.Items.{ones}
use Rattle.lg_sela.specs.Memory.Accesses.{load_code, store_code}
use Rattle.lg_sela.specs.Memory.ArgumentCode.{argument_code}
use Rattle.lg_sela.specs.Memory.PushCode.{push_code}
use Rattle.lg_sela.specs.Memory.VariableArgumentCode.{next_argument_code}
use Rattle.lg_sela_values.specs.ValueItems.{value_items}
use Rattle.lg_temp.specs.declared.choice.Choice.{Choice}

-- with this reach, in a function that reads this many homes, where frames save this many of V0, V1 and V2
abbrev pub a64_families : ℕ → ℕ → Reach → Families Item
a64_families homes saved reach = record {
  values = λ frame n choices. value_items n choices;
  load = λ frame t at n choices. ones (load_code t at n);
  store = λ frame t at n choices. ones (store_code t at n);
  argument = λ frame t n. ones (argument_code t n);
  next_argument = λ n. ones (next_argument_code n);
  push = λ frame j n. push_code j n;
  control = λ o xs frame place. control_items reach o xs frame homes saved place;
}

-- those of a node of a function with such a frame and this many homes, where frames save this many of V0, V1 and V2, with these choices, where these
-- arguments are staged and the code begins at a place
abbrev pub node_items : ℕ → ℕ → Reach → Node → ℕ → List Choice → List Bool → ℕ → List Item
node_items homes saved reach n frame choices staged place = families.node_items (a64_families homes saved reach) n frame choices staged place

-- those of a node at a site
abbrev pub site_items : Reach → Node → Site → ℕ → List Item
site_items reach n site place = node_items site.frame.homes site.frame.saved reach n site.frame.size site.choices site.staged.arguments place

-- what is asked of a node and its site
pub record IsGiven (n : Node) (site : Site) : Type 0 where
  pub formed : InForm n
  pub few : length site.choices ≤ 1
  pub slots : HaveSlots site.choices
  pub first : is_pusharg n.op ≡ true → AreFirst site.staged.arguments
