-- Items that become the same instructions wherever they are, and nodes that are carried by theirs.
use Rattle.std.proofs.Common.{◌≡◌, ℕ, ◌+◌, ◌<◌, Bool, true, false, List, [], ◌∷◌, ◌++◌, refl, ap, ◌∙◌, subst}
use Rattle.std.specs.Prelude.{slice_index, slice_index_or}
use Rattle.lg_base.specs.declared.target.Target.TheVariants.{Aarch64}
use Rattle.lg_op.specs.declared.node.Node.{Node}
use Rattle.lg_op.specs.declared.operand.Reg.{Reg}
use Rattle.lg_node.specs.Preparations.{pushed}
use Rattle.lg_a64.specs.declared.instruction.Instr.{Instr}
use Rattle.lg_a64.specs.declared.instruction.Instr.TheVariants.{Unscaled}
use Rattle.lg_a64.specs.declared.instruction.UnscaledOp.TheVariants.{Ldur, Stur}
use Rattle.lg_temp.specs.declared.choice.Choice.{Choice}
use Rattle.lg_temp.specs.declared.choice.Choice.TheVariants.{Free, Own, Spill}
use Rattle.lg_temp.specs.Chosen.{Around, around}
use Rattle.lg_temp.specs.Choices.{AreFor}
use Rattle.lg_carry.specs.FinalNodes.{Code}
use Rattle.lg_carry.specs.Spills.{wrapped}
use Rattle.lg_carry.specs.NodeCode.{numbered, CarriesNode}
use Rattle.lg_sela_values.specs.Processor.A64Rows.{frame_pointer, a64_processor, a64_rows, slot_offset}
use Rattle.lg_carry.specs.Carries.{leaps}
use Rattle.lg_carry.specs.TextNodes.{stands_inside}
use Rattle.lg_sela_values.specs.Processor.Places.{IsInCode}
use Rattle.lg_sela_values.specs.Processor.A64Computers.{IsComputed}
use Rattle.lg_sela_values.proofs.ComputedNodeLemmas.{plain-carries}
use Rattle.lg_sela_values.specs.declared.items.Item.{Item}
use Rattle.lg_sela_values.specs.declared.items.Item.TheVariants.{One}
use Rattle.lg_sela_values.specs.Items.{bytes_in, settled, ones}
use Rattle.lg_sela_values.proofs.ItemLemmas.{settled-append, settled-ones}
use Rattle.lg_sela_values.specs.ValueItems.{value_needs, body_items, saved_items, value_items}
use Rattle.lg_carry.specs.Nodes.Operands.{AreWords}
use Rattle.lg_carry.specs.TextNodes.{IsInText}

-- ---- items
-- items that become these instructions wherever they are
pub record Settles (to : ℕ → ℕ) (items : List Item) (is : List Instr) : Type 0 where
  pub become : (at : ℕ) → settled to at items ≡ is

pub settles-ones : (to : ℕ → ℕ) (is : List Instr) → Settles to (ones is) is
settles-ones to is = record { become = λ at. settled-ones to at is }

pub settles-append : (to : ℕ → ℕ) (xs ys : List Item) (is js : List Instr) → Settles to xs is → Settles to ys js → Settles to (xs ++ ys) (is ++ js)
settles-append to xs ys is js h k = record { become = λ at. settled-append to at xs ys ∙ (λ i. h.become at i ++ k.become (at + bytes_in xs) i) }

pub settles-saved : (to : ℕ → ℕ) (code : List ℕ) (trash : ℕ) (choices : List Choice) (body : List Item) (is : List Instr) → Settles to body is → Settles to (saved_items choices body) (wrapped (a64_rows code trash) choices is)
settles-saved to code trash [] body is h = h
settles-saved to code trash (Free r ∷ choices) body is h = settles-saved to code trash choices body is h
settles-saved to code trash (Own r ∷ choices) body is h = settles-saved to code trash choices body is h
settles-saved to code trash (Spill r k ∷ choices) body is h =
    let save : Instr = Unscaled Stur r frame_pointer (slot_offset k) in
    let restore : Instr = Unscaled Ldur r frame_pointer (slot_offset k) in
    let last : Settles to (One restore ∷ []) (restore ∷ []) = record { become = λ at. refl } in
    let inner = settles-append to (saved_items choices body) (One restore ∷ []) (wrapped (a64_rows code trash) choices is) (restore ∷ []) (settles-saved to code trash choices body is h) last in
    record { become = λ at. ap (λ js. save ∷ js) (inner.become (at + 4)) }

-- ---- a node is carried
abbrev pub IsCarried : Node → Type 0
IsCarried n =
    (code : List ℕ) (trash : ℕ) (c : Code) (i : ℕ) (live : Reg → Bool) (staged : List Bool) (choices : List Choice) → AreWords c.addresses n.operands
    → AreFor (around Aarch64 n live staged) (value_needs n.op) [] (value_needs n.op) choices → ((j : ℕ) → j < pushed c.nodes.nodes i → slice_index_or staged j false ≡ true)
    → IsInText c i n → IsInCode code trash c i (settled (slice_index c.addresses) (c.place i) (value_items n choices)) → CarriesNode (a64_processor code trash) c i n (numbered live)

none-chosen : (a : Around) (choices : List Choice) → AreFor a [] [] [] choices → choices ≡ []
none-chosen a [] h = refl
none-chosen a (choice ∷ choices) h = absurd h

-- what the items of a node without temporaries become computes it
pub record IsBuilt (c : Code) (i : ℕ) (n : Node) : Type 0 where
  pub body : List Instr
  pub settles : Settles (slice_index c.addresses) (body_items n.op n.operands 0) body
  pub computes : IsComputed c i n [] body

pub carried-plain : (n : Node) → stands_inside n.op ≡ true → leaps n.op ≡ false → value_needs n.op ≡ [] → ((c : Code) (i : ℕ) → IsInText c i n → AreWords c.addresses n.operands → IsBuilt c i n) → IsCarried n
carried-plain n inside falls none build code trash c i live staged choices words chosen pushes t k =
    let empty : choices ≡ [] = none-chosen (around Aarch64 n live staged) choices (subst (λ ns. AreFor (around Aarch64 n live staged) ns [] ns choices) none chosen) in
    let b = build c i t words in
    plain-carries code trash c i n inside falls t (numbered live) b.body (subst (IsInCode code trash c i) (ap (λ cs. settled (slice_index c.addresses) (c.place i) (value_items n cs)) empty ∙ b.settles.become (c.place i)) k) b.computes
