-- A jump on a condition leads to two ways: to its label, or after itself.
use Rattle.std.proofs.Common.{◌≡◌, ℕ, ◌+◌, ◌^◌, ◌<◌, ◌≤◌, Bool, true, false, List, Some, refl, sym, ap, ◌∙◌, subst, arith, length}
use Rattle.std.specs.List.{list_all}
use Rattle.std.specs.Prelude.{pos, ◌-ℤ◌, if◌then◌else◌}
use Rattle.lg_base.specs.Fields.{word_of}
use Rattle.lg_base.specs.Layout.{code_base, most_code}
use Rattle.lg_base.specs.Runs.{Running}
use Rattle.lg_base.specs.Words.{add_words}
use Rattle.lg_x86.specs.Spelling.{spelling, IsInstr}
use Rattle.lg_x86.specs.declared.instruction.Cond.{Cond}
use Rattle.lg_x86.specs.declared.instruction.Instr.{Instr}
use Rattle.lg_cpu.specs.Laws.{AreBytes}
use Rattle.lg_cpu.specs.States.{CpuState, goes_on}
use Rattle.lg_cpu.specs.Steps.{Run, Effect, after, status_of}
use Rattle.lg_cpu.specs.X86Operators.{condition_holds}
use Rattle.lg_cpu.specs.X86Step.{Scene, scene_of, goes_where, does}
use Rattle.lg_carry.specs.Blocks.{spellings}
use Rattle.lg_selx_values.specs.Processor.MakingNodes.{scene}
use Rattle.lg_selx_values.specs.Processor.Makings.{is_still}
use Rattle.lg_selx_values.specs.Processor.X86Computers.{x86_scratch}
use Rattle.lg_selx_values.specs.Processor.X86Rows.{x86_processor, x86_rows}
use Rattle.lg_selx_values.proofs.OfProcessor.MakingLemmas.{still-off, still-above}
use Rattle.lg_carry.specs.Nodes.Leaps.{IsThere}
use Rattle.lg_carry.specs.Nodes.Stretches.{StandsAt, behind, Way}
use Rattle.lg_sel.proofs.OfControl.ChainLemmas.{runs-there}
use Rattle.lg_sel.specs.declared.reach.Reach.{Reach}
use Rattle.lg_sel.specs.declared.reach.Reach.TheVariants.{Short, Near, Far}
use Rattle.lg_selx.specs.Control.TwoWays.{jump_if, branch_if}
use Rattle.lg_selx.proofs.OfControl.ComparisonLemmas.{Tells}
use Rattle.lg_selx.proofs.OfControl.StretchLemmas.{front_run, front_state, front-size, front-top, front-passed}
use Rattle.lg_selx.proofs.OfControl.WalkLemmas.{leads-there}

-- how many bytes the jump has, and what it does
abbrev jump_long : Reach → ℕ
jump_long Short = 2
jump_long Near = 6
jump_long Far = 6

jump-size : (r : Reach) (c : Cond) (at to : ℕ) → length (spelling (jump_if r c at to)) ≡ jump_long r
jump-size Short c at to = refl
jump-size o c at to = refl

jump-does : (r : Reach) (c : Cond) (at to next : ℕ) (q : CpuState)
    → does (jump_if r c at to) next q ≡ goes_where q next (add_words next (word_of (pos to -ℤ pos (at + jump_long r)))) (condition_holds c q.flags)
jump-does Short c at to next q = refl
jump-does o c at to next q = refl

-- it touches nothing
jump-still : (r : Reach) (c : Cond) (at to : ℕ) → is_still (jump_if r c at to) ≡ true
jump-still Short c at to = refl
jump-still o c at to = refl

-- the jump, where what is before it says whether it is taken
module _ (code : List ℕ) (trash : ℕ) (small : length code ≤ most_code) (bytes : AreBytes code) (word : trash < 2 ^ 64)
    (r : Reach) (front : List Instr) (c : Cond) (from to : ℕ) (q : Run CpuState) (k : StandsAt (x86_rows code trash) false IsInstr from (branch_if r front c from to))
    (runs : status_of q.progress ≡ Running) (at : q.state.pc ≡ from) (goes-there : Bool) (there : goes-there ≡ true → IsThere (x86_rows code trash).is_place to)
    (next : IsThere (x86_rows code trash).is_place (behind (x86_rows code trash) from (branch_if r front c from to)))
    (W : ℕ → ℕ) (m : Tells front c W goes-there (scene_of q.state)) (still : list_all is_still front ≡ true) where
  abbrev size : ℕ
  size = length (spellings spelling front)

  abbrev jump : Instr
  jump = jump_if r c (from + size) to

  -- where it ends
  abbrev jump-end : ℕ
  jump-end = from + size + jump_long r

  abbrev t : Scene
  t = scene W m.flags q.state.bytes

  abbrev high : ℕ
  high = behind (x86_rows code trash) from (branch_if r front c from to)

  abbrev last : CpuState
  last = front_state false code trash small bytes word from front jump q t k m.makes_it runs at

  high-is : high ≡ jump-end
  high-is = front-size false code trash small bytes word from front jump q t k m.makes_it runs at ∙ ap (λ (n : ℕ). from + size + n) (jump-size r c (from + size) to)

  top : high ≤ code_base + most_code
  top = front-top false code trash small bytes word from front jump q t k m.makes_it runs at

  -- where it leads
  leads : (target : ℕ) → code_base ≤ target → does jump high last ≡ goes_on last target → Way (x86_processor code trash) x86_scratch from high W target q
  leads target low acts =
      let e : Effect CpuState = goes_on last target in
      let few = m.few in record {
        end = after (front_run false code trash small bytes word from front jump q t k m.makes_it runs at) e;
        steps = length front + 1;
        passes = front-passed false code trash small bytes word from front jump q t k m.makes_it runs at
            (still-above front (scene_of q.state) still) (still-off _ jump last.registers (jump-still r c (from + size) to)) e acts;
        few = omega (arith, few);
        some = omega arith;
        runs = runs-there target low;
        here = refl;
        registers = λ z off no. refl;
        bytes = refl;
        mark = refl;
      }

  abbrev far : ℕ
  far = add_words high (word_of (pos to -ℤ pos jump-end))

  pub two-ways : Way (x86_processor code trash) x86_scratch from high W (if goes-there then to else high) q
  two-ways = by goes-there refl
    where
      by : (b : Bool) → goes-there ≡ b → Way (x86_processor code trash) x86_scratch from high W (if goes-there then to else high) q
      by true e =
          let h = there e in let l = h.high in
          subst (λ z. Way (x86_processor code trash) x86_scratch from high W z q) (sym (ap (λ b. if b then to else high) e))
          (leads to h.low (jump-does r c (from + size) to high last ∙ ap (goes_where last high far) (m.tells ∙ ap Some e)
          ∙ ap (goes_on last) (leads-there high jump-end to high-is (omega (arith, high-is, top)) (omega (arith, l)))))
      by false e =
          subst (λ z. Way (x86_processor code trash) x86_scratch from high W z q) (sym (ap (λ b. if b then to else high) e))
          (leads high next.low (jump-does r c (from + size) to high last ∙ ap (goes_where last high far) (m.tells ∙ ap Some e)))
