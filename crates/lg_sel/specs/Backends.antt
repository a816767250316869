-- What holds of the items of a target's nodes, so that what `select` appends keeps its promises.
use Rattle.std.specs.Prelude.{◌≡◌, ℕ, ◌+◌, ◌%◌, ◌<◌, ◌≤◌, Bool, true, List, length, slice_get, Some, None, count_by}
use Rattle.std.specs.List.{All}
use Rattle.lg_base.specs.Layout.{most_code}
use Rattle.lg_buf.specs.Buffers.{Buffer, place_of}
use Rattle.lg_node.specs.Functions.{is_prolog}
use Rattle.lg_op.specs.Nodes.{InForm}
use Rattle.lg_op.specs.declared.node.Node.{Node}
use Rattle.lg_op.specs.declared.op.Op.{Op}
use Rattle.lg_op.specs.declared.operand.Label.{Label}
use Rattle.lg_op.specs.declared.operand.Operand.TheVariants as operand
use Rattle.lg_op.specs.declared.operand.Reg.{Reg}
use Rattle.lg_sel.specs.Asked.{IsAsked}
use Rattle.lg_sel.specs.Emittable.{AreEmittable}
use Rattle.lg_sel.specs.Finished.{AreAppended}
use Rattle.lg_sel.specs.Holes.{Holes, AreHoles, Each, words_in, blanks, settled, fixes_of}
use Rattle.lg_sel.specs.Promises.{IsShortWhenFinished, IsAheadWhenFinished, IsCarriedWhenFinished}
use Rattle.lg_sel.specs.Reaches.{reach_ahead, Leads, IsChecked, IsLeast, IsLeastAhead}
use Rattle.lg_sel.specs.Selected.{IsAligned, IsFixOf, AreChosen, AreFirst, AreWhole, is_pusharg}
use Rattle.lg_sel.specs.Stores.{StoresAtMost, own_stores}
use Rattle.lg_sel.specs.TargetCodes.{TargetCode}
use Rattle.lg_sel.specs.Targets.{alignment_of}
use Rattle.lg_sel.specs.declared.reach.Reach.{Reach}
use Rattle.lg_sel.specs.declared.site.Site.{Site}
use Rattle.lg_temp.specs.Chosen.{spills}
use Rattle.lg_temp.specs.declared.choice.Need.{Need}

-- the items of a node at a site were appended to the old buffer, which became the new one, as `select` does it
pub record AreSelected {L I : Type 0} (T : TargetCode) (needs : Op → List Need) (H : Holes L I) (items : Reach → Node → Site → ℕ → List L) (reach : Reach) (n : Node)
    (site : Site) (live : Reg → Bool) (old new : Buffer) : Type 0 where
  pub asked : IsAsked T.target needs n live site.staged.arguments site.choices (length old.labels)
  pub appended : AreAppended H old new (items reach n site (length old.bytes))
  pub few : words_in H (items reach n site (length old.bytes)) ≤ 64
  pub whole : length old.bytes % alignment_of T.target ≡ 0
  pub checked : Each (IsChecked reach old) (fixes_of H (length old.bytes) (items reach n site (length old.bytes)))
  pub least : (l : Label) (goal : ℕ) → slice_get n.operands 0 ≡ Some (operand.Label l) → place_of old.labels l.0 ≡ Some goal → length old.bytes ≤ most_code
      → IsLeast (λ r. Each (Leads old) (fixes_of H (length old.bytes) (items r n site (length old.bytes)))) reach
  pub ahead : (l : Label) → slice_get n.operands 0 ≡ Some (operand.Label l) → place_of old.labels l.0 ≡ None → length old.bytes ≤ most_code
      → IsLeastAhead (reach_ahead old.size) (λ r. Each (Leads old) (fixes_of H (length old.bytes) (items r n site (length old.bytes)))) reach

-- what a target shows of its items once, by which one `select` serves all targets
pub record IsBackend {L I : Type 0} (T : TargetCode) (needs : Op → List Need) (spelling : I → List ℕ) (fits : I → Type 0) (is_store : I → Bool) (H : Holes L I)
    (is_item : L → Type 0) (names_one_of : ℕ → L → Type 0) (is_given : Node → Site → Type 0) (items : Reach → Node → Site → ℕ → List L) : Type 0 where
  -- patched bytes are those of the instructions
  pub holes : AreHoles H spelling fits is_item
  -- what `put` asks for
  pub given : (n : Node) (live : Reg → Bool) (site : Site) → InForm n
      → AreChosen T.target (needs n.op) n live site.staged.arguments site.choices → (is_pusharg n.op ≡ true → AreFirst site.staged.arguments) → is_given n site
  -- where the items have at most 64 instructions, they can be appended
  pub emittable : (reach : Reach) (n : Node) (live : Reg → Bool) (site : Site) (labels place : ℕ)
      → IsAsked T.target needs n live site.staged.arguments site.choices labels → words_in H (items reach n site place) ≤ 64
      → AreEmittable H is_item names_one_of labels (items reach n site place)
  -- they have whole units of bytes, those of a `prolog` some, and after those of an `.align` the place is a multiple of its number
  pub whole : (reach : Reach) (n : Node) (site : Site) (place : ℕ) → place % alignment_of T.target ≡ 0
      → (place + length (blanks H (items reach n site place))) % alignment_of T.target ≡ 0
  pub begins : (reach : Reach) (n : Node) (site : Site) (place : ℕ) → is_prolog n.op ≡ true → 0 < length (blanks H (items reach n site place))
  pub aligned : (reach : Reach) (n : Node) (site : Site) (place : ℕ) → InForm n → place % alignment_of T.target ≡ 0
      → IsAligned n (place + length (blanks H (items reach n site place)))
  -- their fixes lead to labels of the node
  pub lead : (reach : Reach) (n : Node) (site : Site) (old : Buffer) → length old.bytes % alignment_of T.target ≡ 0
      → Each (IsChecked reach old) (fixes_of H (length old.bytes) (items reach n site (length old.bytes)))
      → All (IsFixOf (alignment_of T.target) old n) (fixes_of H (length old.bytes) (items reach n site (length old.bytes)))
  -- they store seldom
  pub stores : (reach : Reach) (n : Node) (site : Site) (place : ℕ) (to : ℕ → ℕ) (at : ℕ)
      → count_by is_store (settled H to at (items reach n site place)) ≤ spills site.choices + own_stores T.target site.frame.homes site.frame.saved n.op
  -- the target's words for whole instructions and stores are these
  pub instructions : (bytes : List ℕ) → AreWhole spelling fits bytes → T.are_instructions bytes
  pub sparing : (most : ℕ) (bytes : List ℕ) → StoresAtMost spelling fits is_store most bytes → T.store_at_most most bytes
  -- they have the shortest forms, and carry the node
  pub shortest : (reach : Reach) (n : Node) (site : Site) (live : Reg → Bool) (old new : Buffer) → AreSelected T needs H items reach n site live old new
      → IsShortWhenFinished T n old new
  pub ahead : (reach : Reach) (n : Node) (site : Site) (live : Reg → Bool) (old new : Buffer) → AreSelected T needs H items reach n site live old new
      → IsAheadWhenFinished T n old new
  pub carries : (reach : Reach) (n : Node) (site : Site) (live : Reg → Bool) (old new : Buffer) → AreSelected T needs H items reach n site live old new
      → IsCarriedWhenFinished T n site.frame.size site.frame.homes site.frame.saved live site.staged.arguments old new
