-- Remainders by an immediate, which is in a temporary, are carried by their items.
use Rattle.std.proofs.Common.{◌≡◌, ◌≢◌, ℕ, ◌<◌, Bool, true, false, List, [], ◌∷◌, refl, sym, ap, ◌∙◌, subst, arith}
use Rattle.std.specs.Prelude.{slice_index, slice_index_or}
use Rattle.std.proofs.lemmas.Bool.{or_parts}
use Rattle.lg_base.specs.declared.target.Target.TheVariants.{Aarch64}
use Rattle.lg_op.specs.Forms.{admits}
use Rattle.lg_op.specs.declared.form.Form.TheVariants.{Immediate}
use Rattle.lg_op.specs.declared.op.BinaryOp.{BinaryOp}
use Rattle.lg_op.specs.declared.op.LastOperand.{LastOperand}
use Rattle.lg_op.specs.declared.op.LastOperand.TheVariants as last_operand
use Rattle.lg_op.specs.declared.node.Node.{Node}
use Rattle.lg_op.specs.declared.operand.Reg.{Reg}
use Rattle.lg_op.specs.declared.operand.Reg.TheVariants.{R0, R1, R2, V0, V1, V2, Fp}
use Rattle.lg_op.specs.declared.operand.Operand.{Operand}
use Rattle.lg_node.specs.Preparations.{pushed}
use Rattle.lg_live.specs.Registers.{is_same}
use Rattle.lg_live.specs.Uses.{is_read, is_written}
use Rattle.lg_op.specs.Operands.{number_of}
use Rattle.lg_temp.specs.declared.choice.Need.TheVariants.{Any}
use Rattle.lg_temp.specs.declared.choice.Choice.{Choice}
use Rattle.lg_temp.specs.declared.choice.Choice.TheVariants.{Free, Own, Spill}
use Rattle.lg_temp.specs.Abis.{register_of}
use Rattle.lg_temp.specs.Chosen.{Around, around, stands_in, taken_by}
use Rattle.lg_temp.specs.Choices.{IsTaken, AreFor}
use Rattle.lg_carry.specs.FinalNodes.{Code}
use Rattle.lg_carry.specs.NodeCode.{numbered, CarriesNode}
use Rattle.lg_carry.specs.TextNodes.{IsInText}
use Rattle.lg_carry.proofs.TemporariesApartLemmas.{none-stood-for, tried-spare}
use Rattle.lg_carry.specs.Nodes.Straight.{is_taken}
use Rattle.lg_carry.proofs.OfNodes.RegisterLemmas.{stands-for, number-few, numbered-at, same-self}
use Rattle.lg_carry.specs.Values.ValueNodes.{binary_node}
use Rattle.lg_carry.proofs.OfValues.ResultLemmas.{or-middle}
use Rattle.lg_sela_values.specs.Processor.A64Rows.{a64_processor, can_save}
use Rattle.lg_sela_values.specs.Processor.Places.{IsInCode}
use Rattle.lg_sela_values.proofs.OfProcessor.IsaLemmas.{tried-saved}
use Rattle.lg_sela_values.proofs.OfProcessor.RegisterLemmas.{register-small}
use Rattle.lg_sela_values.specs.Items.{settled}
use Rattle.lg_sela_values.specs.ValueItems.{body_items, value_items}
use Rattle.lg_carry.specs.Nodes.Operands.{AreWords}
use Rattle.lg_sela_values.proofs.BinaryItemLemmas.{is-made, immediate-computes, is_remainder, one-needed, temporary-second}
use Rattle.lg_sela_values.proofs.ComputedNodeLemmas.{computed-carries}
use Rattle.lg_sela_values.proofs.SettledLemmas.{settles-saved, IsCarried}

-- ---- the temporary

saved-small : (x : ℕ) → can_save x ≡ true → x < 31
saved-small x h = grind (arith, h)

-- what is known of it: it is apart from the link and from the register that is read
pub record IsTemporaryFor (a : Reg) (u : ℕ) : Type 0 where
  pub within : u < 31
  pub link : u ≢ 30
  pub read : register_of Aarch64 a ≢ u

-- a register for a need that names none
is-tried : (a : Around) (choice : Choice) → AreFor a (Any ∷ []) [] (Any ∷ []) (choice ∷ []) → IsTaken a (Any ∷ []) [] (taken_by choice)
is-tried a (Free r) h = h.0.0
is-tried a (Own r) h = absurd h.0
is-tried a (Spill r k) h = h.0.0

is-temporary : (n : Node) (a : Reg) (live : Reg → Bool) (staged : List Bool) (choice : Choice) → (a ≢ Fp → is_read n a ≡ true) → AreFor (around Aarch64 n live staged) (Any ∷ []) [] (Any ∷ []) (choice ∷ [])
    → IsTemporaryFor a (taken_by choice)
is-temporary n a live staged choice reads chosen =
    let u = taken_by choice in
    let m = is-tried (around Aarch64 n live staged) choice chosen in
    let own = or_parts (stands_in Aarch64 (is_read n) u) (stands_in Aarch64 (is_written n) u) m.own in
    let spare = tried-spare Aarch64 u m.tried in
    record {
      within = saved-small u (tried-saved u m.tried);
      link = λ e. spare.link 30 refl (sym e);
      read = by a refl u spare.pointer own.0;
    }
  where
    of : (b : Reg) (u : ℕ) → a ≡ b → b ≢ Fp → stands_in Aarch64 (is_read n) u ≡ false → register_of Aarch64 b ≢ u
    of b u e ne off = λ z. none-stood-for Aarch64 (is_read n) u off (number_of b) (number-few b ne) (numbered-at (is_read n) b ne ∙ ap (is_read n) (sym e) ∙ reads (λ w. ne (sym e ∙ w))) (sym (stands-for Aarch64 b ne) ∙ z)

    by : (b : Reg) → a ≡ b → (u : ℕ) → 29 ≢ u → stands_in Aarch64 (is_read n) u ≡ false → register_of Aarch64 b ≢ u
    by Fp e u apart off = apart
    by R0 e u apart off = of R0 u e (λ w. cc) off
    by R1 e u apart off = of R1 u e (λ w. cc) off
    by R2 e u apart off = of R2 u e (λ w. cc) off
    by V0 e u apart off = of V0 u e (λ w. cc) off
    by V1 e u apart off = of V1 u e (λ w. cc) off
    by V2 e u apart off = of V2 u e (λ w. cc) off

not-taken : (a : Around) (choice : Choice) (r : ℕ) → AreFor a (Any ∷ []) [] (Any ∷ []) (choice ∷ []) → is_taken (choice ∷ []) r ≡ false → r ≢ taken_by choice
not-taken a (Free x) r h off = λ e. absurd (grind (arith, off, e))
not-taken a (Own x) r h off = absurd h.0
not-taken a (Spill x k) r h off = λ e. absurd (grind (arith, off, e))

reads : (o : BinaryOp) (last : LastOperand) (d a : Reg) (x : Operand) (line : ℕ) → a ≢ Fp → is_read (binary_node o last d a x line) a ≡ true
reads o last d a x line ne = or-middle _ (is_same a a) false (same-self a ne)

module _ (o : BinaryOp) (d a : Reg) (x : Operand) (line : ℕ) (remains : is_remainder o ≡ true) (named : d ≢ Fp) (immediate : admits Immediate x ≡ true) where
  abbrev n : Node
  n = binary_node o last_operand.Immediate d a x line

  one-chosen : (code : List ℕ) (trash : ℕ) (c : Code) (i : ℕ) (live : Reg → Bool) (staged : List Bool) (choices : List Choice) → AreWords c.addresses n.operands
      → AreFor (around Aarch64 n live staged) (Any ∷ []) [] (Any ∷ []) choices → ((j : ℕ) → j < pushed c.nodes.nodes i → slice_index_or staged j false ≡ true)
      → IsInText c i n → IsInCode code trash c i (settled (slice_index c.addresses) (c.place i) (value_items n choices)) → CarriesNode (a64_processor code trash) c i n (numbered live)
  one-chosen code trash c i live staged [] words chosen pushes t k = absurd chosen
  one-chosen code trash c i live staged (choice ∷ next ∷ choices) words chosen pushes t k = absurd chosen.1
  one-chosen code trash c i live staged (choice ∷ []) words chosen pushes t k =
      let u = taken_by choice in
      let dl = register-small d in
      let temporary = is-temporary n a live staged choice (reads o last_operand.Immediate d a x line) chosen in
      let second = temporary-second o u (register_of Aarch64 a) (choice ∷ []) remains temporary.within (λ e. temporary.read (sym e)) temporary.link (λ r e. not-taken (around Aarch64 n live staged) choice r chosen e) in
      let m = is-made c.addresses o u (register_of Aarch64 d) (register_of Aarch64 a) x (choice ∷ []) (omega (arith, dl)) (register-small a) second immediate words.1.1.0 in
      let items = settles-saved (slice_index c.addresses) code trash (choice ∷ []) (body_items n.op n.operands u) m.code m.settles in
      computed-carries code trash c i n refl refl t live staged (Any ∷ []) (choice ∷ []) m.code (λ y e. cc) (omega arith) chosen pushes (subst (IsInCode code trash c i) (items.become (c.place i)) k)
      (immediate-computes c i o u d a x line (choice ∷ []) named t m)

  pub temporary-carried : IsCarried n
  temporary-carried code trash c i live staged choices words chosen pushes t k =
      one-chosen code trash c i live staged choices words (subst (λ ns. AreFor (around Aarch64 n live staged) ns [] ns choices) (one-needed o remains) chosen) pushes t k
