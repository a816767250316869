-- The grammar of expressions: the steps that a text spells.
use Rattle.std.specs.Prelude.{◌≡◌, ℕ, suc, ◌+◌, ◌*◌, ◌<◌, ◌≤◌, ◌^◌, ◌==◌, if◌then◌else◌, List, [], ◌∷◌, ◌++◌, Option, Some, None}
use Rattle.lg_op.specs.declared.op.BinaryOp.{BinaryOp}
use Rattle.lg_op.specs.declared.op.BinaryOp.TheVariants.{Add, Sub, Mul, Div, Lt, Gt, Eq}
use Rattle.lg_expression.specs.Steps.{IsExpression}
use Rattle.lg_expression.specs.declared.step.Step.{Step}
use Rattle.lg_expression.specs.declared.step.Step.TheVariants.{Number, Argument, Negate, Operation}

-- ---- bytes

abbrev pub space : ℕ
space = 32

abbrev pub opening : ℕ
opening = 40

abbrev pub closing : ℕ
closing = 41

abbrev pub minus : ℕ
minus = 45

abbrev pub letter_x : ℕ
letter_x = 120

-- the operation that a byte is the sign of: * / + - < > =
abbrev pub operation_at : ℕ → Option BinaryOp
operation_at byte = if byte == 42 then Some Mul else (if byte == 47 then Some Div else (if byte == 43 then Some Add else (if byte == minus then Some Sub
    else (if byte == 60 then Some Lt else (if byte == 62 then Some Gt else (if byte == 61 then Some Eq else None))))))

-- ---- levels: what holds together closer has the higher one

abbrev pub comparison : ℕ
comparison = 1

abbrev pub addition : ℕ
addition = 2

abbrev pub multiplication : ℕ
multiplication = 3

abbrev pub operand : ℕ
operand = 4

-- how close an operation holds its operands together
abbrev pub closeness : BinaryOp → ℕ
closeness Mul = multiplication
closeness Div = multiplication
closeness Add = addition
closeness Sub = addition
closeness op = comparison

-- ---- texts

-- decimal digits write a number
pub data Writes : List ℕ → ℕ → Type 0 where
  one_digit : (d : ℕ) → d < 10 → Writes ((48 + d) ∷ []) d
  one_more : (ds : List ℕ) (n d : ℕ) → Writes ds n → d < 10 → Writes (ds ++ (48 + d) ∷ []) (n * 10 + d)

-- a text of a level spells steps. An operand is a number of 64 bits, the argument, a comparison in parentheses or a minus sign before an operand, with spaces
-- around it; an operation is between its operands, the second of which holds together closer than it does, so that operations alike go from the left
pub data Spells : ℕ → List ℕ → List Step → Type 0 where
  number : (ds : List ℕ) (n : ℕ) → Writes ds n → n < 2 ^ 64 → Spells operand ds (Number n ∷ [])
  argument : Spells operand (letter_x ∷ []) (Argument ∷ [])
  enclosed : (t : List ℕ) (s : List Step) → Spells comparison t s → Spells operand (opening ∷ t ++ closing ∷ []) s
  negated : (t : List ℕ) (s : List Step) → Spells operand t s → Spells operand (minus ∷ t) (s ++ Negate ∷ [])
  spaced_before : (t : List ℕ) (s : List Step) → Spells operand t s → Spells operand (space ∷ t) s
  spaced_after : (t : List ℕ) (s : List Step) → Spells operand t s → Spells operand (t ++ space ∷ []) s
  applied : (byte : ℕ) (op : BinaryOp) (t u : List ℕ) (s r : List Step)
      → operation_at byte ≡ Some op → Spells (closeness op) t s → Spells (suc (closeness op)) u r
      → Spells (closeness op) (t ++ byte ∷ u) (s ++ r ++ Operation op ∷ [])
  alone : (level : ℕ) (t : List ℕ) (s : List Step) → Spells (suc level) t s → Spells level t s

-- an expression is a comparison; this text is none
abbrev pub IsNone : List ℕ → Type 0
IsNone text = (steps : List Step) → ¬ Spells comparison text steps

-- digits that are in a text write a number of more than 64 bits
pub record HasWideNumber (text : List ℕ) : Type 0 where
  pub front : List ℕ
  pub digits : List ℕ
  pub back : List ℕ
  pub value : ℕ
  pub is : text ≡ front ++ digits ++ back
  pub writes : Writes digits value
  pub wide : 2 ^ 64 ≤ value

-- the text spells steps, which are no expression: they are too many, or want too many values at once
pub record IsLarge (text : List ℕ) : Type 0 where
  pub steps : List Step
  pub spelled : Spells comparison text steps
  pub large : ¬ IsExpression steps

-- a text spells one list of steps at most
abbrev pub SpellOnce : Type 0
SpellOnce = (text : List ℕ) (a b : List Step) → Spells comparison text a → Spells comparison text b → a ≡ b
