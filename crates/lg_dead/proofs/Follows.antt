-- States of nodes without some definitions that are not needed.
use Rattle.std.proofs.Common.{ℕ, Bool}
use Rattle.lg_op.specs.declared.operand.Reg.{Reg}
use Rattle.lg_meaning.specs.States.{State}
use Rattle.lg_dead.specs.Needs.{AreNear}
use Rattle.lg_opt.specs.Paired.{Dropped}

-- a state of the new nodes is that of the old ones but for what is not needed, over the new numbers
abbrev pub Follows : (ℕ → Reg → Bool) → (ℕ → ℕ) → State → State → Type 0
Follows needs to s m = (u : State) × AreNear needs s u × Dropped to u m
