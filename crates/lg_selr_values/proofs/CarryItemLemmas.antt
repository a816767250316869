-- Nodes that set the carry are carried by their items.
use Rattle.std.proofs.Common.{◌≡◌, ◌≢◌, ℕ, ◌<◌, Bool, true, false, List, [], ◌∷◌, ◌++◌, Some, refl, sym, ap, ◌∙◌, subst, arith}
use Rattle.std.specs.Prelude.{◌||◌, pos, if◌then◌else◌, slice_index, slice_index_or}
use Rattle.std.proofs.lemmas.Bool.{or_parts}
use Rattle.lg_base.specs.declared.target.Target.TheVariants.{Riscv64}
use Rattle.lg_op.specs.Forms.{admits}
use Rattle.lg_op.specs.declared.form.Form.TheVariants.{Immediate}
use Rattle.lg_op.specs.declared.op.Op.TheVariants as op
use Rattle.lg_op.specs.declared.op.BinaryOp.{BinaryOp}
use Rattle.lg_op.specs.declared.op.LastOperand.{LastOperand}
use Rattle.lg_op.specs.declared.op.LastOperand.TheVariants as last_operand
use Rattle.lg_op.specs.declared.node.Node.{Node}
use Rattle.lg_op.specs.declared.operand.Reg.{Reg}
use Rattle.lg_op.specs.declared.operand.Reg.TheVariants.{R0, R1, R2, V0, V1, V2, Fp}
use Rattle.lg_op.specs.declared.operand.Operand.{Operand}
use Rattle.lg_op.specs.declared.operand.Operand.TheVariants as operand
use Rattle.lg_op.specs.Operators.{sets_carry}
use Rattle.lg_node.specs.Preparations.{pushed}
use Rattle.lg_cpu.specs.RvStep.{read}
use Rattle.lg_live.specs.Registers.{is_same}
use Rattle.lg_live.specs.Uses.{is_read, is_written}
use Rattle.lg_rv.specs.declared.instruction.Instr.{Instr}
use Rattle.lg_rv.specs.declared.instruction.Instr.TheVariants.{Imm}
use Rattle.lg_rv.specs.declared.instruction.ImmOp.TheVariants.{Addi}
use Rattle.lg_op.specs.Operands.{number_of}
use Rattle.lg_meaning.specs.States.{State, value}
use Rattle.lg_temp.specs.declared.choice.Need.TheVariants.{Any}
use Rattle.lg_temp.specs.declared.choice.Choice.{Choice}
use Rattle.lg_temp.specs.declared.choice.Choice.TheVariants.{Free, Own, Spill}
use Rattle.lg_temp.specs.Abis.{register_of}
use Rattle.lg_temp.specs.Chosen.{Around, around, stands_in, taken_by}
use Rattle.lg_temp.specs.Choices.{IsTaken, AreFor}
use Rattle.lg_carry.specs.Nodes.Straight.{is_taken}
use Rattle.lg_carry.specs.FinalNodes.{Code}
use Rattle.lg_carry.specs.NodeCode.{numbered, CarriesNode}
use Rattle.lg_carry.proofs.TemporariesApartLemmas.{none-stood-for, tried-spare}
use Rattle.lg_selr_values.specs.Processor.RvRows.{rv_processor, can_save}
use Rattle.lg_selr_values.specs.Processor.Places.{IsInCode}
use Rattle.lg_carry.specs.Values.Computers.{Held, HeldRead}
use Rattle.lg_selr_values.proofs.ComputedNodeLemmas.{computed-carries}
use Rattle.lg_selr_values.proofs.OfProcessor.RegisterLemmas.{read-of}
use Rattle.lg_carry.proofs.OfNodes.RegisterLemmas.{stands-for, number-few, numbered-at, same-self}
use Rattle.lg_selr_values.proofs.OfProcessor.IsaLemmas.{tried-saved}
use Rattle.lg_selr_values.specs.Items.{settled, ones}
use Rattle.lg_selr_values.specs.CarryCode.{carry_code}
use Rattle.lg_carry.specs.Values.ValueNodes.{binary_node}
use Rattle.lg_selr_values.specs.ValueItems.{value_needs, load_items, binary_items, second_items, carry_items, body_items, value_items}
use Rattle.lg_carry.specs.Nodes.Operands.{IsWord, AreWords}
use Rattle.lg_selr_values.proofs.ImmediateLemmas.{is-load}
use Rattle.lg_selr_values.proofs.CarryCodeLemmas.{IsOtherThan}
use Rattle.lg_selr_values.proofs.LoadCodeLemmas.{some-same}
use Rattle.lg_selr_values.proofs.CarryNodeLemmas.{IsTemporaryFor, HasTemporary, PutsSecond, second-register, second-loaded, carried-computes-node}
use Rattle.lg_selr_values.proofs.SettledLemmas.{Settles, settles-ones, settles-append, settles-saved, IsCarried, carried-plain}
use Rattle.lg_carry.specs.TextNodes.{IsInText}

-- ---- the carry
second-immediate : (x : Operand) → admits Immediate x ≡ true → second_items x ≡ load_items 1 x
second-immediate (operand.Reg r) h = cc
second-immediate x h = refl

-- the second word, as the items put it into the link
pub record HasSecond (c : Code) (n : Node) (x : Operand) : Type 0 where
  pub code : List Instr
  pub settles : Settles (slice_index c.addresses) (second_items x) code
  pub word : (ℕ → ℕ) → ℕ
  pub puts : PutsSecond code word
  pub gives : (s : State) (w : Held) (k : ℕ) → HeldRead Riscv64 n s w → value c.addresses s x ≡ Some k → word w.registers ≡ k

pub register-second : (c : Code) (o : BinaryOp) (d a b : Reg) (line : ℕ) → HasSecond c (binary_node o last_operand.Register d a (operand.Reg b) line) (operand.Reg b)
register-second c o d a b line = record {
  code = Imm Addi 1 (register_of Riscv64 b) (pos 0) ∷ [];
  settles = record { become = λ at. refl };
  word = λ w. read w (register_of Riscv64 b);
  puts = second-register (register_of Riscv64 b);
  gives = λ s w k h e. read-of w.registers b ∙ h.registers b k (λ ne. ap (λ z. (z || is_same a b) || false) (same-self b ne)) e;
}

pub immediate-second : (c : Code) (o : BinaryOp) (d a : Reg) (x : Operand) (line : ℕ) → admits Immediate x ≡ true → IsWord c.addresses x → HasSecond c (binary_node o last_operand.Immediate d a x line) x
immediate-second c o d a x line immediate small =
    let l = is-load c.addresses 1 x (λ e. absurd (omega (arith, e))) (omega arith) immediate small in
    record {
      code = l.code;
      settles = subst (λ items. Settles (slice_index c.addresses) items l.code) (sym (second-immediate x immediate)) record { become = l.settles };
      word = λ w. l.word;
      puts = second-loaded l.code l.word l.loads;
      gives = λ s w k h e. some-same l.word k (sym (l.given s) ∙ e);
    }

-- the last operand and its form
abbrev pub HasForm : BinaryOp → LastOperand → Reg → Reg → Operand → ℕ → Type 0
HasForm o last d a x line = (c : Code) → IsWord c.addresses x → HasSecond c (binary_node o last d a x line) x

-- the items of an operation that sets the carry
carry-items : (to : ℕ → ℕ) (o : BinaryOp) (u d a : ℕ) (x : Operand) (second : List Instr) → sets_carry o ≡ true → Settles to (second_items x) second
    → Settles to (if sets_carry o then carry_items o u d a x else binary_items o d a x) (second ++ carry_code o u d a)
carry-items to o u d a x second carries h =
    subst (λ items. Settles to items (second ++ carry_code o u d a)) (sym (ap (λ b. if b then carry_items o u d a x else binary_items o d a x) carries)) (settles-append to (second_items x) (ones (carry_code o u d a)) second (carry_code o u d a) h (settles-ones to (carry_code o u d a)))

-- without a temporary
pub sum-carried : (o : BinaryOp) (last : LastOperand) (d a : Reg) (x : Operand) (line : ℕ) → sets_carry o ≡ true → value_needs (op.Binary o last) ≡ [] → HasTemporary o d a 0 → ((r : ℕ) → IsOtherThan o 0 r) → d ≢ Fp → HasForm o last d a x line → IsCarried (binary_node o last d a x line)
sum-carried o last d a x line carries none temp other named form = carried-plain (binary_node o last d a x line) refl refl none
    (λ c i t words. let f = form c words.1.1.0 in
    record {
      body = f.code ++ carry_code o 0 (register_of Riscv64 d) (register_of Riscv64 a);
      settles = carry-items (slice_index c.addresses) o 0 (register_of Riscv64 d) (register_of Riscv64 a) x f.code carries f.settles;
      computes = carried-computes-node c i o last d a x line carries named t [] 0 temp (λ r e. other r) f.code f.word f.puts f.gives;
    })

saved-nonzero : (x : ℕ) → can_save x ≡ true → x ≢ 0
saved-nonzero x h = λ e. absurd (grind (arith, h, e))

-- a register for a need that names none
is-tried : (a : Around) (choice : Choice) → AreFor a (Any ∷ []) [] (Any ∷ []) (choice ∷ []) → IsTaken a (Any ∷ []) [] (taken_by choice)
is-tried a (Free r) h = h.0.0
is-tried a (Own r) h = absurd h.0
is-tried a (Spill r k) h = h.0.0

is-temporary : (n : Node) (d a : Reg) (live : Reg → Bool) (staged : List Bool) (choice : Choice) → d ≢ Fp → is_written n d ≡ true → (a ≢ Fp → is_read n a ≡ true) → AreFor (around Riscv64 n live staged) (Any ∷ []) [] (Any ∷ []) (choice ∷ [])
    → IsTemporaryFor d a (taken_by choice)
is-temporary n d a live staged choice named writes reads chosen =
    let u = taken_by choice in
    let m = is-tried (around Riscv64 n live staged) choice chosen in
    let own = or_parts (stands_in Riscv64 (is_read n) u) (stands_in Riscv64 (is_written n) u) m.own in
    let spare = tried-spare Riscv64 u m.tried in
    record {
      nonzero = saved-nonzero u (tried-saved u m.tried);
      link = λ e. spare.link 1 refl (sym e);
      carry = λ e. spare.carry 31 refl (sym e);
      written = λ e. none-stood-for Riscv64 (is_written n) u own.1 (number_of d) (number-few d named) (numbered-at (is_written n) d named ∙ writes) (sym (stands-for Riscv64 d named) ∙ sym e);
      read = by a refl u spare.pointer own.0;
    }
  where
    of : (b : Reg) (u : ℕ) → a ≡ b → b ≢ Fp → stands_in Riscv64 (is_read n) u ≡ false → register_of Riscv64 b ≢ u
    of b u e ne off = λ z. none-stood-for Riscv64 (is_read n) u off (number_of b) (number-few b ne) (numbered-at (is_read n) b ne ∙ ap (is_read n) (sym e) ∙ reads (λ w. ne (sym e ∙ w))) (sym (stands-for Riscv64 b ne) ∙ z)

    by : (b : Reg) → a ≡ b → (u : ℕ) → 8 ≢ u → stands_in Riscv64 (is_read n) u ≡ false → register_of Riscv64 b ≢ u
    by Fp e u apart off = apart
    by R0 e u apart off = of R0 u e (λ w. cc) off
    by R1 e u apart off = of R1 u e (λ w. cc) off
    by R2 e u apart off = of R2 u e (λ w. cc) off
    by V0 e u apart off = of V0 u e (λ w. cc) off
    by V1 e u apart off = of V1 u e (λ w. cc) off
    by V2 e u apart off = of V2 u e (λ w. cc) off

not-taken : (a : Around) (choice : Choice) (r : ℕ) → AreFor a (Any ∷ []) [] (Any ∷ []) (choice ∷ []) → is_taken (choice ∷ []) r ≡ false → r ≢ taken_by choice
not-taken a (Free x) r h off = λ e. absurd (grind (arith, off, e))
not-taken a (Own x) r h off = absurd h.0
not-taken a (Spill x k) r h off = λ e. absurd (grind (arith, off, e))

module _ (o : BinaryOp) (last : LastOperand) (d a : Reg) (x : Operand) (line : ℕ) (carries : sets_carry o ≡ true) (needs : value_needs (op.Binary o last) ≡ Any ∷ [])
    (temp : (u : ℕ) → IsTemporaryFor d a u → HasTemporary o d a u) (other : (u r : ℕ) → r ≢ u → IsOtherThan o u r) (named : d ≢ Fp)
    (writes : is_written (binary_node o last d a x line) d ≡ true) (reads : a ≢ Fp → is_read (binary_node o last d a x line) a ≡ true) (form : HasForm o last d a x line) where
  abbrev n : Node
  n = binary_node o last d a x line

  one-chosen : (code : List ℕ) (trash : ℕ) (c : Code) (i : ℕ) (live : Reg → Bool) (staged : List Bool) (choices : List Choice) → AreWords c.addresses n.operands
      → AreFor (around Riscv64 n live staged) (Any ∷ []) [] (Any ∷ []) choices → ((j : ℕ) → j < pushed c.nodes.nodes i → slice_index_or staged j false ≡ true)
      → IsInText c i n → IsInCode code trash c i (settled (slice_index c.addresses) (c.place i) (value_items n choices)) → CarriesNode (rv_processor code trash) c i n (numbered live)
  one-chosen code trash c i live staged [] words chosen pushes t k = absurd chosen
  one-chosen code trash c i live staged (choice ∷ next ∷ choices) words chosen pushes t k = absurd chosen.1
  one-chosen code trash c i live staged (choice ∷ []) words chosen pushes t k =
      let f = form c words.1.1.0 in
      let u = taken_by choice in
      let body = f.code ++ carry_code o u (register_of Riscv64 d) (register_of Riscv64 a) in
      let items = settles-saved (slice_index c.addresses) code trash (choice ∷ []) (body_items n.op n.operands u) body (carry-items (slice_index c.addresses) o u (register_of Riscv64 d) (register_of Riscv64 a) x f.code carries f.settles) in
      computed-carries code trash c i n refl refl t live staged (Any ∷ []) (choice ∷ []) body (λ y e. cc) (omega arith) chosen pushes (subst (IsInCode code trash c i) (items.become (c.place i)) k)
      (carried-computes-node c i o last d a x line carries named t (choice ∷ []) u (temp u (is-temporary n d a live staged choice named writes reads chosen)) (λ r e. other u r (not-taken (around Riscv64 n live staged) choice r chosen e)) f.code f.word f.puts f.gives)

  pub temporary-carried : IsCarried n
  temporary-carried code trash c i live staged choices words chosen pushes t k = one-chosen code trash c i live staged choices words (subst (λ ns. AreFor (around Riscv64 n live staged) ns [] ns choices) needs chosen) pushes t k
