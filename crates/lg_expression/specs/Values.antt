-- The values of steps on a stack, whose topmost value is first.
use Rattle.std.specs.Prelude.{ℕ, ◌^◌, ◌<◌, List, [], ◌∷◌, Option, Some, None}
use Rattle.std.specs.Option.{option_and_then}
use Rattle.lg_base.specs.Words.{negated}
use Rattle.lg_op.specs.declared.op.BinaryOp.{BinaryOp}
use Rattle.lg_op.specs.Operators.{binary_value}
use Rattle.lg_expression.specs.declared.step.Step.{Step}
use Rattle.lg_expression.specs.declared.step.Step.TheVariants.{Number, Argument, Negate, Operation}

-- 0 less the topmost value takes its place
abbrev pub negate : List ℕ → Option (List ℕ)
negate [] = None
negate (a ∷ rest) = Some (negated a ∷ rest)

-- what an operation makes of the two topmost values, the topmost one last, takes their place
abbrev pub operate : BinaryOp → List ℕ → Option (List ℕ)
operate op (b ∷ a ∷ rest) = option_and_then (λ v. Some (v ∷ rest)) (binary_value op a b)
operate op stack = None

-- the stack after a step, where it has a value for this argument
abbrev pub behind_step : ℕ → Step → List ℕ → Option (List ℕ)
behind_step x (Number n) stack = Some (n ∷ stack)
behind_step x Argument stack = Some (x ∷ stack)
behind_step x Negate stack = negate stack
behind_step x (Operation op) stack = operate op stack

-- the stack after steps
abbrev pub after_steps : ℕ → List Step → List ℕ → Option (List ℕ)
after_steps x [] stack = Some stack
after_steps x (s ∷ steps) stack = option_and_then (after_steps x steps) (behind_step x s stack)

-- the numbers of steps are words of 64 bits
abbrev pub IsWordStep : Step → Type 0
IsWordStep (Number n) = n < 2 ^ 64
IsWordStep s = Unit {0}

abbrev pub AreWordSteps : List Step → Type 0
AreWordSteps [] = Unit {0}
AreWordSteps (s ∷ steps) = IsWordStep s × AreWordSteps steps
