-- Code that gives registers words.
use Rattle.std.specs.Prelude.{◌≡◌, ◌≢◌, ℕ, false, List, Option, Some}
use Rattle.lg_base.specs.declared.flags.Flags.{Flags}
use Rattle.lg_x86.specs.declared.instruction.Instr.{Instr}
use Rattle.lg_temp.specs.declared.choice.Choice.{Choice}
use Rattle.lg_carry.specs.Nodes.Straight.{is_taken}
use Rattle.lg_carry.specs.Values.Computers.{Held}
use Rattle.lg_selx_values.specs.Processor.MakingNodes.{scene}
use Rattle.lg_selx_values.specs.Processor.Makings.{makes}

-- register d gets word z, over any memory, and no register changes but those that are taken
pub record MakesWord (choices : List Choice) (body : List Instr) (d z : ℕ) (q : Held) : Type 0 where
  pub registers : ℕ → ℕ
  pub flags : Flags
  pub value : registers d ≡ z
  pub keeps : (r : ℕ) → r ≢ d → is_taken choices r ≡ false → registers r ≡ q.registers r
  pub makes_it : (bytes : ℕ → Option ℕ) → makes body (scene q.registers q.flags bytes) ≡ Some (scene registers flags bytes)

-- registers d and e get two words
pub record MakesPair (choices : List Choice) (body : List Instr) (d e : ℕ) (p : ℕ × ℕ) (q : Held) : Type 0 where
  pub registers : ℕ → ℕ
  pub flags : Flags
  pub first : registers d ≡ p.0
  pub second : registers e ≡ p.1
  pub keeps : (r : ℕ) → r ≢ d → r ≢ e → is_taken choices r ≡ false → registers r ≡ q.registers r
  pub makes_it : (bytes : ℕ → Option ℕ) → makes body (scene q.registers q.flags bytes) ≡ Some (scene registers flags bytes)
