-- Nodes that can be folded, and what they become.
use Rattle.std.proofs.Common.{◌≡◌, ℕ, ◌<◌, ◌≤◌, ◌⊎◌, inl, inr, ⊎_elim, length, get_or, arith, Bool, true, false, ◌&&◌, ◌||◌, List, [], ◌∷◌, Option, Some, None, refl, sym, ap, ◌∙◌, subst}
use Rattle.std.specs.Prelude.{if◌then◌else◌, is_some}
use Rattle.std.specs.Option.{option_map}
use Rattle.lg_op.specs.Forms.{forms_of, admit, admits}
use Rattle.lg_op.specs.Nodes.{InForm}
use Rattle.lg_op.specs.declared.node.Node.{Node}
use Rattle.lg_op.specs.declared.op.BinaryOp.{BinaryOp}
use Rattle.lg_op.specs.declared.op.UnaryOp.{UnaryOp}
use Rattle.lg_op.specs.declared.op.Condition.{Condition}
use Rattle.lg_op.specs.declared.op.Op.{Op}
use Rattle.lg_op.specs.declared.op.Op.TheVariants as op
use Rattle.lg_op.specs.declared.op.LastOperand.{LastOperand}
use Rattle.lg_op.specs.declared.op.LastOperand.TheVariants as last_operand
use Rattle.lg_op.specs.declared.form.Form.TheVariants as form
use Rattle.lg_op.specs.declared.operand.Operand.{Operand}
use Rattle.lg_op.specs.declared.operand.Operand.TheVariants as operand
use Rattle.lg_op.specs.declared.operand.Reg.{Reg}
use Rattle.lg_op.specs.Operators.{sets_carry, binary_value, unary_value}
use Rattle.lg_dead.specs.Known.{number_in, both_known, made, last_known, as_immediate, folded_by, folded, can_be_folded}

module _ (known : Reg → Option ℕ) where
  -- a node of three operands that makes a word
  pub record BinaryMade (o : Op) (xs : List Operand) (v : ℕ) : Type 0 where
    pub name : BinaryOp
    pub last : LastOperand
    pub into : Operand
    pub first : Operand
    pub second : Operand
    pub x : ℕ
    pub y : ℕ
    pub op_is : o ≡ op.Binary name last
    pub operands_are : xs ≡ into ∷ first ∷ second ∷ []
    pub plain_is : sets_carry name ≡ false
    pub first_is : number_in known first ≡ Some x
    pub second_is : number_in known second ≡ Some y
    pub word : binary_value name x y ≡ Some v

  pub record UnaryMade (o : Op) (xs : List Operand) (v : ℕ) : Type 0 where
    pub name : UnaryOp
    pub into : Operand
    pub first : Operand
    pub x : ℕ
    pub op_is : o ≡ op.Unary name
    pub operands_are : xs ≡ into ∷ first ∷ []
    pub first_is : number_in known first ≡ Some x
    pub word : unary_value name x ≡ v

  no-number : (v : ℕ) → ◌≡◌ {A = Option ℕ} None (Some v) → ⊥
  no-number v e = cc

  same-number : (u v : ℕ) → ◌≡◌ {A = Option ℕ} (Some u) (Some v) → u ≡ v
  same-number u v e = cc

  pub made-cases : (o : Op) (xs : List Operand) (v : ℕ) → made known o xs ≡ Some v → BinaryMade o xs v ⊎ UnaryMade o xs v
  made-cases (op.Binary b last) (d ∷ a ∷ c ∷ []) v e = by (sets_carry b) (number_in known a) (number_in known c) refl refl refl e
    where
      by : (k : Bool) (p q : Option ℕ) → sets_carry b ≡ k → number_in known a ≡ p → number_in known c ≡ q → (if k then None else both_known p q (binary_value b)) ≡ Some v → BinaryMade (op.Binary b last) (d ∷ a ∷ c ∷ []) v ⊎ UnaryMade (op.Binary b last) (d ∷ a ∷ c ∷ []) v
      by true p q ek ep eq e = absurd (no-number v e)
      by false None q ek ep eq e = absurd (no-number v e)
      by false (Some x) None ek ep eq e = absurd (no-number v e)
      by false (Some x) (Some y) ek ep eq e = inl record { name = b; last = last; into = d; first = a; second = c; x = x; y = y; op_is = refl; operands_are = refl; plain_is = ek; first_is = ep; second_is = eq; word = e }
  made-cases (op.Unary u) (d ∷ a ∷ []) v e = by (number_in known a) refl e
    where
      by : (p : Option ℕ) → number_in known a ≡ p → option_map (unary_value u) p ≡ Some v → BinaryMade (op.Unary u) (d ∷ a ∷ []) v ⊎ UnaryMade (op.Unary u) (d ∷ a ∷ []) v
      by None ep e = absurd (no-number v e)
      by (Some x) ep e = inr record { name = u; into = d; first = a; x = x; op_is = refl; operands_are = refl; first_is = ep; word = same-number (unary_value u x) v e }
  made-cases o xs v e = absurd (no-number v e)

  -- a node whose last operand is known
  pub record BinaryLast (o : Op) (xs : List Operand) (v : ℕ) : Type 0 where
    pub name : BinaryOp
    pub into : Operand
    pub first : Operand
    pub second : Reg
    pub op_is : o ≡ op.Binary name last_operand.Register
    pub operands_are : xs ≡ into ∷ first ∷ operand.Reg second ∷ []
    pub plain_is : sets_carry name ≡ false
    pub second_is : known second ≡ Some v

  pub record BranchLast (o : Op) (xs : List Operand) (v : ℕ) : Type 0 where
    pub name : Condition
    pub to : Operand
    pub first : Operand
    pub second : Reg
    pub op_is : o ≡ op.Branch name last_operand.Register
    pub operands_are : xs ≡ to ∷ first ∷ operand.Reg second ∷ []
    pub second_is : known second ≡ Some v

  pub last-cases : (o : Op) (xs : List Operand) (v : ℕ) → last_known known o xs ≡ Some v → BinaryLast o xs v ⊎ BranchLast o xs v
  last-cases (op.Binary b last_operand.Register) (d ∷ a ∷ operand.Reg r ∷ []) v e = by (sets_carry b) refl e
    where
      by : (k : Bool) → sets_carry b ≡ k → (if k then None else known r) ≡ Some v → BinaryLast (op.Binary b last_operand.Register) (d ∷ a ∷ operand.Reg r ∷ []) v ⊎ BranchLast (op.Binary b last_operand.Register) (d ∷ a ∷ operand.Reg r ∷ []) v
      by true ek e = absurd (no-number v e)
      by false ek e = inl record { name = b; into = d; first = a; second = r; op_is = refl; operands_are = refl; plain_is = ek; second_is = e }
  last-cases (op.Branch c last_operand.Register) (t ∷ a ∷ operand.Reg r ∷ []) v e = inr record { name = c; to = t; first = a; second = r; op_is = refl; operands_are = refl; second_is = e }
  last-cases o xs v e = absurd (no-number v e)

  -- ---- a folded node can't be folded again
  made-immediate : (b : BinaryOp) (d a : Operand) (r : Reg) (v : ℕ) → known r ≡ Some v → made known (op.Binary b last_operand.Register) (d ∷ a ∷ operand.Reg r ∷ []) ≡ None
      → made known (op.Binary b last_operand.Immediate) (d ∷ a ∷ operand.Number v ∷ []) ≡ None
  made-immediate b d a r v k e = ap (λ o. if sets_carry b then None else both_known (number_in known a) o (binary_value b)) (sym k) ∙ e

  folded-once : (n : Node) (p q : Option ℕ) → made known n.op n.operands ≡ p → last_known known n.op n.operands ≡ q → can_be_folded known (folded_by n p q) ≡ false
  folded-once n (Some v) q ep eq = refl
  folded-once n None None ep eq = ap (λ o. is_some o || is_some (last_known known n.op n.operands)) ep ∙ ap (λ o. false || is_some o) eq
  folded-once n None (Some v) ep eq = ⊎_elim binary branch (last-cases n.op n.operands v eq)
    where
      binary : BinaryLast n.op n.operands v → can_be_folded known (as_immediate n v) ≡ false
      binary b =
          subst (λ o. can_be_folded known (as_immediate (record n { op = o }) v) ≡ false) (sym b.op_is)
          (subst (λ xs. can_be_folded known (as_immediate (record n { op = op.Binary b.name last_operand.Register; operands = xs }) v) ≡ false) (sym b.operands_are)
          (ap (λ o. is_some o || false) (made-immediate b.name b.into b.first b.second v b.second_is (ap (λ o. made known o (b.into ∷ b.first ∷ operand.Reg b.second ∷ [])) (sym b.op_is) ∙ ap (made known n.op) (sym b.operands_are) ∙ ep))))

      branch : BranchLast n.op n.operands v → can_be_folded known (as_immediate n v) ≡ false
      branch b =
          subst (λ o. can_be_folded known (as_immediate (record n { op = o }) v) ≡ false) (sym b.op_is)
          (subst (λ xs. can_be_folded known (as_immediate (record n { op = op.Branch b.name last_operand.Register; operands = xs }) v) ≡ false) (sym b.operands_are) refl)

  pub no-more : (n : Node) → can_be_folded known (folded known n) ≡ false
  no-more n = folded-once n (made known n.op n.operands) (last_known known n.op n.operands) refl refl

  -- ---- a folded node is in form
  and-left : (b c : Bool) → (b && c) ≡ true → b ≡ true
  and-left true c e = refl
  and-left false c e = cc

  and-right : (b c : Bool) → (b && c) ≡ true → c ≡ true
  and-right true c e = e
  and-right false c e = cc

  both : (b c : Bool) → b ≡ true → c ≡ true → (b && c) ≡ true
  both true c e f = f
  both false c e f = cc

  pub last-form-is : (n : Node) (v : ℕ) → InForm n → last_known known n.op n.operands ≡ Some v → InForm (as_immediate n v)
  last-form-is n v h e = ⊎_elim binary branch (last-cases n.op n.operands v e)
    where
      binary : BinaryLast n.op n.operands v → InForm (as_immediate n v)
      binary b =
          let a = sym (ap (λ o. admit (forms_of o) n.operands) b.op_is ∙ ap (admit (forms_of (op.Binary b.name last_operand.Register))) b.operands_are) ∙ h.forms in
          let first = and-left (admits form.Write b.into) _ a in
          let second = and-left (admits form.Read b.first) _ (and-right (admits form.Write b.into) _ a) in
          subst (λ o. InForm (as_immediate (record n { op = o }) v)) (sym b.op_is)
          (subst (λ xs. InForm (as_immediate (record n { op = op.Binary b.name last_operand.Register; operands = xs }) v)) (sym b.operands_are)
          record { forms = both (admits form.Write b.into) _ first (both (admits form.Read b.first) _ second refl); apart = tt })

      branch : BranchLast n.op n.operands v → InForm (as_immediate n v)
      branch b =
          let a = sym (ap (λ o. admit (forms_of o) n.operands) b.op_is ∙ ap (admit (forms_of (op.Branch b.name last_operand.Register))) b.operands_are) ∙ h.forms in
          let first = and-left (admits form.Target b.to) _ a in
          let second = and-left (admits form.Read b.first) _ (and-right (admits form.Target b.to) _ a) in
          subst (λ o. InForm (as_immediate (record n { op = o }) v)) (sym b.op_is)
          (subst (λ xs. InForm (as_immediate (record n { op = op.Branch b.name last_operand.Register; operands = xs }) v)) (sym b.operands_are)
          record { forms = both (admits form.Target b.to) _ first (both (admits form.Read b.first) _ second refl); apart = tt })

  -- what three operands make
  pub three-made : (b : BinaryOp) (last : LastOperand) (xs : List Operand) (d : Operand) (p q r : Option ℕ) → 3 ≤ length xs → length xs < 4 → p ≡ number_in known (get_or xs 1 d) → q ≡ number_in known (get_or xs 2 d)
      → r ≡ (if sets_carry b then None else both_known p q (binary_value b)) → r ≡ made known (op.Binary b last) xs
  three-made b last (x ∷ y ∷ z ∷ []) d p q r low high ep eq e = e ∙ ap (λ o. if sets_carry b then None else both_known o q (binary_value b)) ep ∙ ap (λ o. if sets_carry b then None else both_known (number_in known y) o (binary_value b)) eq
  three-made b last _ d p q r low high ep eq e = absurd (omega arith)
