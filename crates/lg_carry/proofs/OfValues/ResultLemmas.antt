-- Nodes with one result: the register that they write, and steps that need words.
use Rattle.std.proofs.Common.{◌≡◌, ◌≢◌, ℕ, ◌<◌, ◌⊎◌, inl, inr, Bool, true, false, List, [], Option, Some, None, refl, sym, ap, ◌∙◌, arith}
use Rattle.std.specs.Prelude.{◌||◌, slice_get}
use Rattle.lg_base.specs.Conventions.{portable_register}
use Rattle.lg_base.specs.declared.target.Target.{Target}
use Rattle.lg_op.specs.declared.node.Node.{Node}
use Rattle.lg_op.specs.declared.operand.Reg.{Reg}
use Rattle.lg_op.specs.declared.operand.Reg.TheVariants.{Fp}
use Rattle.lg_live.specs.Registers.{is_same}
use Rattle.lg_live.specs.Uses.{is_written}
use Rattle.lg_op.specs.Operands.{number_of}
use Rattle.lg_meaning.specs.States.{State}
use Rattle.lg_meaning.specs.Steps.{Outcome, Goes, Undefined, need, quiet, with_word}
use Rattle.lg_meaning.specs.Texts.{text, step_at, step}
use Rattle.lg_temp.specs.declared.choice.Choice.{Choice}
use Rattle.lg_temp.specs.Abis.{register_of}
use Rattle.lg_base.specs.Flags.{carry_of}
use Rattle.lg_carry.specs.FinalNodes.{Code}
use Rattle.lg_carry.specs.Registers.{HoldsCarry}
use Rattle.lg_carry.specs.NodeCode.{numbered}
use Rattle.lg_carry.specs.TextNodes.{IsInText}
use Rattle.lg_carry.specs.Nodes.Straight.{HoldsWritten, IsKept}
use Rattle.lg_carry.proofs.OfNodes.RegisterLemmas.{stands-for, numbered-at, same-self, only-number, some-same}
use Rattle.lg_carry.specs.Values.Computers.{Held}

pub or-false : (b : Bool) → (b || false) ≡ b
or-false true = refl
or-false false = refl

pub or-middle : (x y z : Bool) → y ≡ true → ((x || y) || z) ≡ true
or-middle true y z e = refl
or-middle false y z e = ap (λ b. b || z) e

-- the step of a node
pub step-is : (c : Code) (i : ℕ) (n : Node) (s : State) → IsInText c i n → s.at ≡ i → step c.nodes c.shape c.addresses s ≡ step_at (text c.nodes c.shape c.addresses) (Some n) s
step-is c i n s t at = ap (λ m. step_at (text c.nodes c.shape c.addresses) m s) (ap (slice_get c.nodes.nodes) at ∙ t.here)

-- ---- words that a step needs
pub record OneGiven (oa : Option ℕ) (g : ℕ → State) (o : Outcome) : Type 0 where
  pub x : ℕ
  pub first : oa ≡ Some x
  pub goes : o ≡ Goes (g x) []

pub one-given : (oa : Option ℕ) (g : ℕ → State) (o : Outcome) → o ≡ need oa (λ x. quiet (g x)) → (o ≡ Undefined) ⊎ OneGiven oa g o
one-given None g o e = inl e
one-given (Some x) g o e = inr record { x = x; first = refl; goes = e }

pub record TwoGiven {A : Type 0} (oa ob : Option ℕ) (f : ℕ → ℕ → Option A) (g : ℕ → ℕ → A → State) (o : Outcome) : Type 0 where
  pub x : ℕ
  pub y : ℕ
  pub v : A
  pub first : oa ≡ Some x
  pub second : ob ≡ Some y
  pub third : f x y ≡ Some v
  pub goes : o ≡ Goes (g x y v) []

third-given : {A : Type 0} (x y : ℕ) (ov : Option A) (f : ℕ → ℕ → Option A) (g : ℕ → ℕ → A → State) (o : Outcome) → f x y ≡ ov → o ≡ need ov (λ v. quiet (g x y v)) → (o ≡ Undefined) ⊎ TwoGiven (Some x) (Some y) f g o
third-given x y None f g o is e = inl e
third-given x y (Some v) f g o is e = inr record { x = x; y = y; v = v; first = refl; second = refl; third = is; goes = e }

pub two-given : {A : Type 0} (oa ob : Option ℕ) (f : ℕ → ℕ → Option A) (g : ℕ → ℕ → A → State) (o : Outcome)
    → o ≡ need oa (λ x. need ob (λ y. need (f x y) (λ v. quiet (g x y v)))) → (o ≡ Undefined) ⊎ TwoGiven oa ob f g o
two-given None ob f g o e = inl e
two-given (Some x) None f g o e = inl e
two-given (Some x) (Some y) f g o e = third-given x y (f x y) f g o refl e

-- ---- one register is written
module _ (target : Target) (n : Node) (d : Reg) (named : d ≢ Fp) (writes : (q : Reg) → is_written n q ≡ is_same d q) where
  set-is : is_written n ≡ is_same d
  set-is = λ i. λ q. writes q i

  pub holds-one : (s t : State) (v : ℕ) (u : Held) → t.regs ≡ with_word s.regs (number_of d) v → u.registers (register_of target d) ≡ v → HoldsCarry target u.registers (carry_of u.flags) t.carry → HoldsWritten target n s t u.registers u.flags
  holds-one s t v u regs value carry = record { written = written; others = others; carry = carry }
    where
      same : (a b : ℕ) → a ≡ b → with_word s.regs b v a ≡ Some v
      same a b e = grind (arith, e)

      apart : (a b : ℕ) → a ≢ b → with_word s.regs b v a ≡ s.regs a
      apart a b ne = grind (arith, ne)

      written : (r x : ℕ) → r < 6 → numbered (is_written n) r ≡ true → t.regs r ≡ Some x → u.registers (portable_register target r) ≡ x
      written r x lt on e =
          let z : r ≡ number_of d = only-number d r (ap (λ set. numbered set r) (sym set-is) ∙ on) in
          let w : v ≡ x = some-same v x (sym (ap (λ f. f r) regs ∙ same r (number_of d) z) ∙ e) in
          ap (λ k. u.registers (portable_register target k)) z ∙ ap u.registers (sym (stands-for target d named)) ∙ value ∙ w

      others : (r : ℕ) → r < 6 → numbered (is_written n) r ≡ false → t.regs r ≡ s.regs r
      others r lt off = ap (λ f. f r) regs ∙ apart r (number_of d) (λ z. clash (ap (numbered (is_written n)) z ∙ numbered-at (is_written n) d named ∙ writes d ∙ same-self d named) off)
        where
          clash : {b : Bool} → b ≡ true → b ≡ false → ⊥
          clash e h = cc

  pub kept-apart : (scratch : ℕ → Bool) (choices : List Choice) (x : ℕ) → IsKept target scratch n choices x → x ≢ register_of target d
  kept-apart scratch choices x k = k.written d named (writes d ∙ same-self d named)
