-- The items of a node as its instructions.
use Rattle.std.proofs.Common.{◌≡◌, ℕ, ◌+◌, ◌-◌, Bool, List, length, drop, sym, ap, ◌∙◌, arith}
use Rattle.std.specs.Prelude.{slice_get, slice_index, slice_index_or}
use Rattle.lg_base.specs.Layout.{code_base}
use Rattle.lg_carry.specs.Blocks.{spellings}
use Rattle.lg_carry.specs.Carries.{moves_at}
use Rattle.lg_carry.specs.Rows.{Rows}
use Rattle.lg_sel.specs.Holes.{Holes, blanks, settled, AreHoles}
use Rattle.lg_sel.specs.NodeItems.{InstructionsStay, ItemsAreNodeBlocks, ItemsAreNodeCode}
use Rattle.lg_sel.proofs.HoleLemmas as holes

module _ {L Q I : Type 0} (H : Holes L I) (R : Rows Q I) (fits : I → Type 0) (stays : Bool → I → Type 0) (is_item : L → Type 0) (ok : AreHoles H R.spelling fits is_item)
    (stay : InstructionsStay R stays) where
  pub items-are-node-code : ItemsAreNodeCode H R fits stays is_item
  items-are-node-code c i items a some =
      let to : ℕ → ℕ = slice_index c.addresses in
      let is : List I = settled H to (c.place i) items in
      let long = holes.settled-words H R.spelling fits is_item ok to (c.place i) items a.items_are in
      let size = holes.settled-bytes H R.spelling fits is_item ok to (c.place i) items a.items_are in
      let next : c.place (i + 1) ≡ c.place i + length (spellings R.spelling is) = a.next ∙ ap (λ n. c.place i + n) (sym size) in
      let more : List ℕ = drop (c.place i - code_base + length (blanks H items)) R.code in
      record {
        low = a.low;
        place = a.place;
        more = more;
        stands = a.settled_at.stands;
        next = next;
        few = let f = a.few in omega (arith, f, long);
        some = λ l. let s = some l in omega (arith, s, long);
        fit = a.settled_at.fit;
        outside = λ k d lt. stay (moves_at R.processor.target (slice_get c.nodes.nodes i)) (slice_index_or is k d) (a.stay k d lt);
      }

  pub items-are-node-blocks : ItemsAreNodeBlocks H R fits stays is_item
  items-are-node-blocks c i items a some block = record { code = items-are-node-code c i items a some; block = block }
