-- A node that writes one word into a register.
use Rattle.std.proofs.Common.{◌≡◌, ◌≢◌, ℕ, Bool, true, false, List, [], Some, sym, ap, ◌∙◌, arith}
use Rattle.std.specs.Prelude.{◌==◌, if◌then◌else◌}
use Rattle.lg_base.specs.Conventions.{portable_register, carry_register}
use Rattle.lg_base.specs.Layout.{frame_pointer}
use Rattle.lg_base.specs.declared.target.Target.{Target}
use Rattle.lg_op.specs.declared.operand.Reg.{Reg}
use Rattle.lg_op.specs.declared.operand.Reg.TheVariants.{Fp}
use Rattle.lg_op.specs.declared.operand.Operand.TheVariants as operand
use Rattle.lg_op.specs.declared.node.Node.{Node}
use Rattle.lg_live.specs.Registers.{is_same}
use Rattle.lg_live.specs.Uses.{is_written}
use Rattle.lg_op.specs.Operands.{number_of}
use Rattle.lg_meaning.specs.States.{State}
use Rattle.lg_meaning.specs.Steps.{Goes, with_reg}
use Rattle.lg_meaning.specs.Texts.{step}
use Rattle.lg_temp.specs.Abis.{register_of}
use Rattle.lg_temp.specs.declared.choice.Choice.{Choice}
use Rattle.lg_base.specs.Flags.{carry_of}
use Rattle.lg_carry.specs.FinalNodes.{Code}
use Rattle.lg_carry.specs.NodeCode.{numbered}
use Rattle.lg_carry.specs.Processors.{Seen}
use Rattle.lg_carry.specs.Registers.{HoldsCarry}
use Rattle.lg_carry.specs.Rows.{Rows}
use Rattle.lg_carry.specs.Spills.{Does, with_register, spilled}
use Rattle.lg_carry.proofs.RegistersApartLemmas.{conventions-apart}
use Rattle.lg_carry.specs.Nodes.Straight.{spoils, from_to, GoesOn, StepsTo}
use Rattle.lg_carry.specs.Memory.Crossings.{CrossesCode, CrossesTo}
use Rattle.lg_carry.proofs.OfNodes.RegisterLemmas.{stands-for, number-few, only-number, same-self, numbered-at}

pub with-same : (w : ℕ → ℕ) (d v : ℕ) → with_register w d v d ≡ v
with-same w d v = grind arith

pub with-other : (w : ℕ → ℕ) (d v x : ℕ) → x ≢ d → with_register w d v x ≡ w x
with-other w d v x ne = grind (arith, ne)

module _ {Q I : Type 0} (R : Rows Q I) (scratch : ℕ → Bool) (c : Code) (n : Node) (choices : List Choice) (body : List I) (s : State) (q : Seen) (d : Reg) (named : d ≢ Fp) (to : State) (v : ℕ)
    (writes : (r : ℕ) → numbered (is_written n) r ≡ numbered (is_same d) r) where
  abbrev target : Target
  target = R.processor.target

  abbrev rd : ℕ
  rd = register_of target d

  some-is : (u y : ℕ) → Some u ≡ Some y → u ≡ y
  some-is u y e = cc

  clash : {b : Bool} → b ≡ false → b ≡ true → ⊥
  clash e f = cc

  self : numbered (is_same d) (number_of d) ≡ true
  self = numbered-at (is_same d) d named ∙ same-self d named

  written-here : is_written n d ≡ true
  written-here = sym (numbered-at (is_written n) d named) ∙ writes (number_of d) ∙ self

  at-number : (r y : ℕ) → r ≡ number_of d → (with_reg s (operand.Reg d) v).regs r ≡ Some y → Some v ≡ Some y
  at-number r y z e = let g : (r == number_of d) ≡ true = grind (arith, z) in sym (ap (λ b. if b then Some v else s.regs r) g) ∙ e

  other-regs : (r : ℕ) → (r ≡ number_of d → ⊥) → (with_reg s (operand.Reg d) v).regs r ≡ s.regs r
  other-regs r off = let g : (r == number_of d) ≡ false = grind (arith, off) in ap (λ b. if b then Some v else s.regs r) g

  pub writes-word : step c.nodes c.shape c.addresses s ≡ Goes to [] → GoesOn s to → to.regs ≡ (with_reg s (operand.Reg d) v).regs
      → ((u : ℕ → ℕ) → ((x : ℕ) → carry_register target ≡ Some x → u x ≡ q.registers x) → HoldsCarry target u (carry_of q.flags) to.carry)
      → Does R (from_to q (with_register q.registers rd v) q.bytes q.flags) body (frame_pointer s.frame.sp) (spilled choices) (spoils scratch choices) → StepsTo R scratch c n choices body s q
  writes-word goes on regs carry does = record {
    to = to;
    goes = goes;
    on = on;
    end = with_register q.registers rd v;
    flags = q.flags;
    does = does;
    keeps = λ y kept. with-other q.registers rd v y (kept.written d named written-here);
    holds = record {
      written = λ r y lt is e. let z = only-number d r (sym (writes r) ∙ is) in
          ap (λ p. with_register q.registers rd v p) (ap (portable_register target) z ∙ sym (stands-for target d named)) ∙ with-same q.registers rd v ∙ some-is v y (at-number r y z (ap (λ f. f r) (sym regs) ∙ e));
      others = λ r lt off. ap (λ f. f r) regs ∙ other-regs r (λ z. clash (sym (writes r) ∙ off) (ap (numbered (is_same d)) z ∙ self));
      carry = carry (with_register q.registers rd v) (λ y e. with-other q.registers rd v y (λ z. ((conventions-apart target).carry y e).portable (number_of d) (number-few d named) (sym (stands-for target d named) ∙ sym z)));
    };
  }

  pub crosses-word : (fits : I → Type 0) → step c.nodes c.shape c.addresses s ≡ Goes to [] → GoesOn s to → to.regs ≡ (with_reg s (operand.Reg d) v).regs
      → ((u : ℕ → ℕ) → ((x : ℕ) → carry_register target ≡ Some x → u x ≡ q.registers x) → HoldsCarry target u (carry_of q.flags) to.carry)
      → CrossesCode R fits (from_to q (with_register q.registers rd v) q.bytes q.flags) body (frame_pointer s.frame.sp) (spilled choices) (spoils scratch choices) → CrossesTo R fits scratch c n choices body s q
  crosses-word fits goes on regs carry does = record {
    to = to;
    goes = goes;
    on = on;
    end = with_register q.registers rd v;
    flags = q.flags;
    does = does;
    keeps = λ y kept. with-other q.registers rd v y (kept.written d named written-here);
    holds = record {
      written = λ r y lt is e. let z = only-number d r (sym (writes r) ∙ is) in
          ap (λ p. with_register q.registers rd v p) (ap (portable_register target) z ∙ sym (stands-for target d named)) ∙ with-same q.registers rd v ∙ some-is v y (at-number r y z (ap (λ f. f r) (sym regs) ∙ e));
      others = λ r lt off. ap (λ f. f r) regs ∙ other-regs r (λ z. clash (sym (writes r) ∙ off) (ap (numbered (is_same d)) z ∙ self));
      carry = carry (with_register q.registers rd v) (λ y e. with-other q.registers rd v y (λ z. ((conventions-apart target).carry y e).portable (number_of d) (number-few d named) (sym (stands-for target d named) ∙ sym z)));
    };
  }
