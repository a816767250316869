-- Nodes that compute values from registers are carried by their code.
use Rattle.std.proofs.Common.{◌≡◌, ◌≢◌, ℕ, suc, ◌<◌, ◌≤◌, Bool, true, false, List, [], ◌∷◌, refl, sym, ap, ◌∙◌, subst, length, arith}
use Rattle.std.specs.Prelude.{◌==◌, ◌||◌}
use Rattle.lg_base.specs.declared.target.Target.TheVariants.{X86_64}
use Rattle.lg_op.specs.declared.op.Op.TheVariants as op
use Rattle.lg_op.specs.declared.op.BinaryOp.{BinaryOp}
use Rattle.lg_op.specs.declared.op.BinaryOp.TheVariants as binary
use Rattle.lg_op.specs.declared.op.LastOperand.TheVariants as last_operand
use Rattle.lg_op.specs.declared.node.Node.{Node}
use Rattle.lg_op.specs.declared.operand.Reg.{Reg}
use Rattle.lg_op.specs.declared.operand.Reg.TheVariants.{Fp}
use Rattle.lg_op.specs.declared.operand.Operand.TheVariants as operand
use Rattle.lg_op.specs.Operators.{binary_value, sets_carry}
use Rattle.lg_live.specs.Registers.{is_same}
use Rattle.lg_live.specs.Uses.{is_read}
use Rattle.lg_meaning.specs.Steps.{bit_word}
use Rattle.lg_x86.specs.Spelling.{IsInstr}
use Rattle.lg_x86.specs.declared.instruction.Instr.{Instr}
use Rattle.lg_temp.specs.declared.choice.Need.TheVariants.{Only}
use Rattle.lg_temp.specs.declared.choice.Choice.{Choice}
use Rattle.lg_temp.specs.Abis.{register_of}
use Rattle.lg_temp.specs.Chosen.{is_named}
use Rattle.lg_carry.specs.Carries.{leaps}
use Rattle.lg_carry.specs.FinalNodes.{Code}
use Rattle.lg_carry.specs.NodeCode.{numbered, CarriesNode}
use Rattle.lg_carry.specs.TemporariesApart.{IsSpare}
use Rattle.lg_carry.specs.TextNodes.{stands_inside}
use Rattle.lg_carry.specs.Nodes.Straight.{is_taken, ComputesNode}
use Rattle.lg_carry.proofs.OfNodes.RegisterLemmas.{same-self}
use Rattle.lg_carry.proofs.OfNodes.StraightLemmas.{computing-nodes-carry}
use Rattle.lg_carry.proofs.OfValues.ResultLemmas.{or-false}
use Rattle.lg_selx_values.specs.Processor.MakingNodes.{MakesNode}
use Rattle.lg_selx_values.specs.Processor.X86Computers.{x86_scratch}
use Rattle.lg_selx_values.specs.Processor.X86Rows.{x86_processor, x86_rows, can_save}
use Rattle.lg_selx_values.proofs.OfProcessor.IsaLemmas.{is-isa}
use Rattle.lg_selx_values.proofs.OfProcessor.MakingNodeLemmas.{making-nodes-compute}
use Rattle.lg_selx_values.specs.BinaryCode.{register_code}
use Rattle.lg_selx_values.specs.CarryCode.{carry_register_code}
use Rattle.lg_selx_values.specs.Needs.{value_needs, spoils}
use Rattle.lg_selx_values.specs.RegisterNodes.{IsChosen, binary_registers, BinaryRegistersCarry, FlagRegistersCarry}
use Rattle.lg_selx_values.specs.WordLaws.{MakesWithCarry}
use Rattle.lg_selx_values.proofs.BinaryCodeLemmas.{binaries-are-made}
use Rattle.lg_selx_values.proofs.CarryCodeLemmas.{carried-are-made}
use Rattle.lg_selx_values.proofs.NeedLemmas.{named-apart, same-register}
use Rattle.lg_selx_values.proofs.NodeLemmas.{holding, in-frame, binary-makes, carried-makes}
use Rattle.lg_selx_values.proofs.RegisterLemmas.{register-portable, register-not-frame}

-- ---- needs
spare : (x : ℕ) → x < 3 → IsSpare X86_64 x × (can_save x ≡ true)
spare (suc (suc (suc x))) lt = absurd (omega (arith, lt))
spare x lt = (record { pointer = λ e. cc; stack = λ e. cc; link = λ y e. cc; carry = λ y e. cc }, refl)

pub two-named : (r : ℕ) → ((r == 0) || (r == 2)) ≡ true → is_named (Only 0 ∷ Only 2 ∷ []) r ≡ true
two-named r e = grind (arith, e)

needs-spoilt : (o : BinaryOp) (r : ℕ) → spoils o r ≡ true → is_named (value_needs (op.Binary o last_operand.Register)) r ≡ true
needs-spoilt binary.Lsh r e = let z : r ≡ 1 = grind (arith, e) in subst (λ x. is_named (Only 1 ∷ []) x ≡ true) (sym z) refl
needs-spoilt binary.Rsh r e = let z : r ≡ 1 = grind (arith, e) in subst (λ x. is_named (Only 1 ∷ []) x ≡ true) (sym z) refl
needs-spoilt binary.RshU r e = let z : r ≡ 1 = grind (arith, e) in subst (λ x. is_named (Only 1 ∷ []) x ≡ true) (sym z) refl
needs-spoilt binary.Div r e = two-named r e
needs-spoilt binary.DivU r e = two-named r e
needs-spoilt binary.Rem r e = two-named r e
needs-spoilt binary.RemU r e = two-named r e
needs-spoilt o r e = cc

needs-small : (o : BinaryOp) (r : ℕ) → is_named (value_needs (op.Binary o last_operand.Register)) r ≡ true → r < 3
needs-small binary.Lsh r e = grind (arith, e)
needs-small binary.Rsh r e = grind (arith, e)
needs-small binary.RshU r e = grind (arith, e)
needs-small binary.Div r e = grind (arith, e)
needs-small binary.DivU r e = grind (arith, e)
needs-small binary.Rem r e = grind (arith, e)
needs-small binary.RemU r e = grind (arith, e)
needs-small o r e = cc

needs-few : (o : BinaryOp) → length (value_needs (op.Binary o last_operand.Register)) ≤ 3
needs-few binary.Lsh = omega arith
needs-few o = omega arith

-- ---- a node whose code computes it is carried
pub straight-carries : (code : List ℕ) (trash : ℕ) (c : Code) (i frame : ℕ) (n : Node) (live : Reg → Bool) (choices : List Choice) (body : List Instr) → stands_inside n.op ≡ true → leaps n.op ≡ false
    → ((r : ℕ) → is_named (value_needs n.op) r ≡ true → r < 3) → length (value_needs n.op) ≤ 3 → IsChosen code trash c i frame n live choices body → ComputesNode (x86_rows code trash) x86_scratch c i n frame choices body
    → CarriesNode (x86_processor code trash) c i n (numbered live)
straight-carries code trash c i frame n live choices body inside falls small few k m =
    computing-nodes-carry (x86_rows code trash) x86_scratch IsInstr (is-isa code trash k.in_code.small k.in_code.bytes k.in_code.word) c i n frame live k.staged (value_needs n.op) choices body inside falls (λ x e. spare x (small x e)) few k.chosen k.pushes
    k.in_text k.of_frame k.in_code.block m

pub chosen-carries : (code : List ℕ) (trash : ℕ) (c : Code) (i frame : ℕ) (n : Node) (live : Reg → Bool) (choices : List Choice) (body : List Instr) → stands_inside n.op ≡ true → leaps n.op ≡ false
    → ((r : ℕ) → is_named (value_needs n.op) r ≡ true → r < 3) → length (value_needs n.op) ≤ 3 → IsChosen code trash c i frame n live choices body → MakesNode c i n frame choices body
    → CarriesNode (x86_processor code trash) c i n (numbered live)
chosen-carries code trash c i frame n live choices body inside falls small few k m =
    straight-carries code trash c i frame n live choices body inside falls small few k (making-nodes-compute code trash c i n frame choices body m)

pub carried-needs : (o : BinaryOp) → sets_carry o ≡ true → value_needs (op.Binary o last_operand.Register) ≡ []
carried-needs binary.Addc h = refl
carried-needs binary.Addx h = refl
carried-needs binary.Subc h = refl
carried-needs binary.Subx h = refl
carried-needs o h = cc

-- ---- the nodes
reads-second : (o : BinaryOp) (d a b : Reg) (line : ℕ) → b ≢ Fp → is_read (binary_registers o d a b line) b ≡ true
reads-second o d a b line ne = ap (λ k. (k || is_same a b) || false) (same-self b ne)

pub binary-registers-carry : BinaryRegistersCarry
binary-registers-carry code trash c i frame o d a b line live choices plain named k =
    let n = binary_registers o d a b line in
    let rd = register_of X86_64 d in
    let ra = register_of X86_64 a in
    let rb = register_of X86_64 b in
    let body = register_code o frame rd ra rb in
    let pd = register-portable d in
    let pa = register-portable a in
    chosen-carries code trash c i frame n live choices body refl refl (needs-small o) (needs-few o) k
    (binary-makes c i frame o last_operand.Register d a (operand.Reg b) line named k.in_text choices body plain
    (λ s q x y z h ex ey ez.
    let eb : q.registers rb ≡ y = h.registers b y (reads-second o d a b line) ey in
    let same : binary_value o (q.registers ra) (q.registers rb) ≡ binary_value o x y = (λ j. binary_value o (ex j) (eb j)) in
    binaries-are-made choices frame rd ra rb (holding q) (register-not-frame d named) pd.no_stack pd.no_rcx pa.no_rcx pa.no_rdx (in-frame n frame s q h) o z plain (λ r free ne. kept r free ne (spoils o r) refl) (same ∙ ez)))
  where
    kept : (r : ℕ) → is_taken choices r ≡ false → r ≢ register_of X86_64 d → (e : Bool) → spoils o r ≡ e → e ≡ false
    kept r free ne true e =
        let s = named-apart (binary_registers o d a b line) live k.staged (value_needs (op.Binary o last_operand.Register)) choices r (is_same d) (λ q. or-false (is_same d q)) k.chosen (needs-spoilt o r e) free in
        absurd (ne (sym (same-register d s.register s.among ∙ s.is)))
    kept r free ne false e = refl

pub carried-registers-carry : FlagRegistersCarry
carried-registers-carry code trash c i frame o d a b line live choices carries named k =
    let n = binary_registers o d a b line in
    let rd = register_of X86_64 d in
    let ra = register_of X86_64 a in
    let rb = register_of X86_64 b in
    let body = carry_register_code o frame rd ra rb in
    let none = carried-needs o carries in
    chosen-carries code trash c i frame n live choices body refl refl (λ r e. absurd (unnamed r (ap (λ needs. is_named needs r) (sym none) ∙ e))) (subst (λ needs. length needs ≤ 3) (sym none) (omega arith)) k
    (carried-makes c i frame o last_operand.Register d a (operand.Reg b) line named k.in_text choices body carries
    (λ s q x y bit h ex ey ek.
    let eb : q.registers rb ≡ y = h.registers b y (reads-second o d a b line) ey in
    subst (λ m. MakesWithCarry o body rd m y (bit_word bit) (holding q)) ex (subst (λ m. MakesWithCarry o body rd (q.registers ra) m (bit_word bit) (holding q)) eb
    (carried-are-made frame rd ra rb (holding q) (register-not-frame d named) (register-portable d).no_stack (in-frame n frame s q h) o s.carry bit carries ek h.carry))))
  where
    unnamed : (r : ℕ) → is_named [] r ≡ true → ⊥
    unnamed r e = cc
