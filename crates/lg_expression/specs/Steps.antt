-- Expressions as steps on a stack of values.
use Rattle.std.specs.Prelude.{◌≡◌, ℕ, ◌+◌, ◌-◌, ◌≤◌, ◌==◌, nat_lt, Bool, true, not, ◌&&◌, List, [], ◌∷◌, length}
use Rattle.lg_expression.specs.declared.step.Step.{Step}
use Rattle.lg_expression.specs.declared.step.Step.TheVariants.{Number, Argument, Negate, Operation}

abbrev pub most_steps : ℕ
most_steps = 4096

-- a step finds the values that it takes, and room for the one that it leaves, where this many values are on the stack
abbrev pub finds : ℕ → Step → Bool
finds values (Number n) = nat_lt values 32
finds values Argument = nat_lt values 32
finds values Negate = not (nat_lt values 1)
finds values (Operation op) = not (nat_lt values 2)

-- how many are there after it
abbrev pub behind : ℕ → Step → ℕ
behind values (Number n) = values + 1
behind values Argument = values + 1
behind values Negate = values
behind values (Operation op) = values - 1

-- each step finds what it takes, and one value is left
abbrev pub is_whole : ℕ → List Step → Bool
is_whole values [] = values == 1
is_whole values (s ∷ steps) = finds values s && is_whole (behind values s) steps

pub record IsExpression (steps : List Step) : Type 0 where
  pub whole : is_whole 0 steps ≡ true
  pub few : length steps ≤ most_steps
