-- FP, which code may spoil and make again from the stack pointer.
use Rattle.std.proofs.Common.{◌≡◌, ◌≢◌, ℕ, ◌+◌, ◌-◌, ◌^◌, ◌<◌, ◌≤◌, Option, Some, sym, ap, ◌∙◌, arith}
use Rattle.std.specs.Prelude.{pos}
use Rattle.lg_base.specs.Fields.{word_of}
use Rattle.lg_base.specs.Layout.{least_frame, stack_end}
use Rattle.lg_base.specs.Words.{add_words}
use Rattle.lg_base.specs.declared.flags.Flags.{Flags}
use Rattle.lg_base.specs.declared.target.Target.TheVariants.{X86_64}
use Rattle.lg_x86.specs.declared.instruction.Instr.TheVariants as instr
use Rattle.lg_x86.specs.declared.instruction.LoadOp.TheVariants.{Lea}
use Rattle.lg_cpu.specs.HostSteps.{put}
use Rattle.lg_cpu.specs.X86Step.{made}
use Rattle.lg_carry.specs.Processors.{Seen}
use Rattle.lg_selx_values.specs.Processor.MakingNodes.{scene}
use Rattle.lg_carry.specs.Nodes.Stretches.{HasFrame}
use Rattle.lg_selx_values.proofs.RegisterLemmas.{put-own, put-twice, put-swap}
use Rattle.lg_selx.specs.Control.Prologs.{lower}

-- FP is where the frame has it from the stack pointer, and lies in the stack
pub record IsFramed (frame : ℕ) (w : ℕ → ℕ) : Type 0 where
  pub pointer : add_words (w 4) (frame - 16) ≡ w 5
  pub low : w 5 < 2 ^ 30

higher-is : (frame sp : ℕ) → 272 ≤ frame → least_frame ≤ sp → sp + frame ≤ stack_end → add_words sp (frame - 16) ≡ sp + frame - 16
higher-is frame sp large low high = grind (arith, large, low, high)

pub lower-is : (frame top : ℕ) → 272 ≤ frame → least_frame + frame ≤ top → top ≤ stack_end → add_words (top - 16) (word_of (lower frame)) ≡ top - frame
lower-is frame top large low high = grind (arith, large, low, high)

pub framed : (frame : ℕ) (q : Seen) → HasFrame X86_64 frame q → IsFramed frame q.registers
framed frame q f =
    let low = f.low in let high = f.high in let large = f.large in
    let is = f.pointer in record {
      pointer = higher-is frame (q.registers 4) large low high ∙ sym f.pointer;
      low = omega (arith, is, high, large);
    }

-- it is made again, where the stack pointer was not spoilt
pub pointer-again : (frame v : ℕ) (w : ℕ → ℕ) (f : Flags) (m : ℕ → Option ℕ) → IsFramed frame w
    → made (instr.Load Lea 5 4 (pos (frame - 16))) (scene (put w 5 v) f m) ≡ Some (scene w f m)
pointer-again frame v w f m h =
    ap (λ g. Some (scene g f m)) (put-twice w 5 v (add_words (w 4) (frame - 16)) ∙ put-own w 5 (add_words (w 4) (frame - 16)) h.pointer)

-- and another register keeps what it got meanwhile
pub pointer-after : (frame v a z : ℕ) (w : ℕ → ℕ) (f : Flags) (m : ℕ → Option ℕ) → a ≢ 5 → a ≢ 4 → IsFramed frame w
    → made (instr.Load Lea 5 4 (pos (frame - 16))) (scene (put (put w 5 v) a z) f m) ≡ Some (scene (put w a z) f m)
pointer-after frame v a z w f m a5 a4 h =
    let u : ℕ → ℕ = put (put w 5 v) a z in
    let low : u 4 ≡ w 4 = off in
    let g : ℕ = add_words (w 4) (frame - 16) in
    ap (λ x. Some (scene (put u 5 (add_words x (frame - 16))) f m)) low
    ∙ ap (λ k. Some (scene k f m)) (put-swap (put w 5 v) a 5 z g a5 ∙ ap (λ k. put k a z) (put-twice w 5 v g ∙ put-own w 5 g h.pointer))
  where
    off : put (put w 5 v) a z 4 ≡ w 4
    off = grind (arith, a4)
