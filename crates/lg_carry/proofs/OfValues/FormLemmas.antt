-- The operands of nodes that compute values.
use Rattle.std.proofs.Common.{◌≡◌, ◌≢◌, ℕ, true, List, [], ◌∷◌, refl, ap, ◌∙◌}
use Rattle.std.proofs.lemmas.Bool.{and_parts}
use Rattle.lg_op.specs.Forms.{admits, admit}
use Rattle.lg_op.specs.declared.form.Form.{Form}
use Rattle.lg_op.specs.declared.form.Form.TheVariants.{Write, Read, ArgumentCount}
use Rattle.lg_op.specs.declared.operand.Reg.{Reg}
use Rattle.lg_op.specs.declared.operand.Reg.TheVariants.{Fp}
use Rattle.lg_op.specs.declared.operand.Operand.{Operand}
use Rattle.lg_op.specs.declared.operand.Operand.TheVariants as operand

-- a register that is written, and one that is read
pub record IsTarget (x : Operand) : Type 0 where
  pub register : Reg
  pub is : x ≡ operand.Reg register
  pub named : register ≢ Fp

pub record IsSource (x : Operand) : Type 0 where
  pub register : Reg
  pub is : x ≡ operand.Reg register

pub is-target : (x : Operand) → admits Write x ≡ true → IsTarget x
is-target (operand.Reg r) h = record { register = r; is = refl; named = λ e. cc }
is-target other h = cc

pub is-source : (x : Operand) → admits Read x ≡ true → IsSource x
is-source (operand.Reg r) h = record { register = r; is = refl }
is-source other h = cc

-- how many arguments have names
pub record IsCount (x : Operand) : Type 0 where
  pub count : ℕ
  pub is : x ≡ operand.Number count

pub is-count : (x : Operand) → admits ArgumentCount x ≡ true → IsCount x
is-count (operand.Number k) h = record { count = k; is = refl }
is-count other h = cc

-- the operands of this many forms
pub record OneOperand (f : Form) (xs : List Operand) : Type 0 where
  pub x : Operand
  pub are : xs ≡ x ∷ []
  pub first : admits f x ≡ true

pub record TwoOperands (f g : Form) (xs : List Operand) : Type 0 where
  pub x : Operand
  pub y : Operand
  pub are : xs ≡ x ∷ y ∷ []
  pub first : admits f x ≡ true
  pub second : admits g y ≡ true

pub record ThreeOperands (f g h : Form) (xs : List Operand) : Type 0 where
  pub x : Operand
  pub y : Operand
  pub z : Operand
  pub are : xs ≡ x ∷ y ∷ z ∷ []
  pub first : admits f x ≡ true
  pub second : admits g y ≡ true
  pub third : admits h z ≡ true

pub record FourOperands (f g h k : Form) (xs : List Operand) : Type 0 where
  pub x : Operand
  pub y : Operand
  pub z : Operand
  pub w : Operand
  pub are : xs ≡ x ∷ y ∷ z ∷ w ∷ []
  pub first : admits f x ≡ true
  pub second : admits g y ≡ true
  pub third : admits h z ≡ true
  pub fourth : admits k w ≡ true

no-more : (xs : List Operand) → admit [] xs ≡ true → xs ≡ []
no-more [] e = refl
no-more (x ∷ xs) e = cc

one : (f : Form) (fs : List Form) (xs : List Operand) → admit (f ∷ fs) xs ≡ true → (x : Operand) × (ys : List Operand) × (xs ≡ x ∷ ys) × (admits f x ≡ true) × (admit fs ys ≡ true)
one f fs [] e = cc
one f fs (x ∷ xs) e = let b = and_parts (admits f x) (admit fs xs) e in (x, xs, refl, b.0, b.1)

pub one-operand : (f : Form) (xs : List Operand) → admit (f ∷ []) xs ≡ true → OneOperand f xs
one-operand f xs e = let a = one f [] xs e in record { x = a.0; are = a.2 ∙ ap (λ r. a.0 ∷ r) (no-more a.1 a.4); first = a.3 }

pub two-operands : (f g : Form) (xs : List Operand) → admit (f ∷ g ∷ []) xs ≡ true → TwoOperands f g xs
two-operands f g xs e =
    let a = one f (g ∷ []) xs e in
    let b = one g [] a.1 a.4 in
    record { x = a.0; y = b.0; are = a.2 ∙ ap (λ r. a.0 ∷ r) (b.2 ∙ ap (λ r. b.0 ∷ r) (no-more b.1 b.4)); first = a.3; second = b.3 }

pub three-operands : (f g h : Form) (xs : List Operand) → admit (f ∷ g ∷ h ∷ []) xs ≡ true → ThreeOperands f g h xs
three-operands f g h xs e =
    let a = one f (g ∷ h ∷ []) xs e in
    let b = two-operands g h a.1 a.4 in
    record { x = a.0; y = b.x; z = b.y; are = a.2 ∙ ap (λ r. a.0 ∷ r) b.are; first = a.3; second = b.first; third = b.second }

pub four-operands : (f g h k : Form) (xs : List Operand) → admit (f ∷ g ∷ h ∷ k ∷ []) xs ≡ true → FourOperands f g h k xs
four-operands f g h k xs e =
    let a = one f (g ∷ h ∷ k ∷ []) xs e in
    let b = three-operands g h k a.1 a.4 in
    record { x = a.0; y = b.x; z = b.y; w = b.z; are = a.2 ∙ ap (λ r. a.0 ∷ r) b.are; first = a.3; second = b.first; third = b.second; fourth = b.third }
