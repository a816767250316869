-- x86-64 is a processor with instructions that only compute.
use Rattle.lg_selx_values.specs.Processor.Makings.{is_still}
use Rattle.std.proofs.Common.{◌≡◌, ℕ, true, Some, refl, ap, ◌∙◌, length}
use Rattle.lg_base.specs.Words.{add_words}
use Rattle.lg_x86.specs.Spelling.{spelling}
use Rattle.lg_x86.specs.declared.instruction.Instr.{Instr}
use Rattle.lg_x86.specs.declared.instruction.Instr.TheVariants.{RmReg, Imm, RegRm, Load, Lea2, Movi32, Movs32, Movi64, Unary, Shift, Bswap, Bare}
use Rattle.lg_x86.specs.declared.instruction.BareOp.TheVariants.{Cqo, Nop}
use Rattle.lg_x86.specs.declared.instruction.LoadOp.TheVariants.{Lea}
use Rattle.lg_x86.specs.declared.instruction.RmRegOp.{RmRegOp}
use Rattle.lg_x86.specs.declared.instruction.RmRegOp.TheVariants as alu
use Rattle.lg_x86.specs.declared.instruction.UnaryOp.{UnaryOp}
use Rattle.lg_x86.specs.declared.instruction.UnaryOp.TheVariants.{Div, Idiv}
use Rattle.lg_cpu.specs.Steps.{after, status_of}
use Rattle.lg_cpu.specs.X86Operators.{alu_of}
use Rattle.lg_cpu.specs.X86Step.{Scene, scene_of, made, fault_of, goes, goes_with, act, combined}
use Rattle.lg_carry.specs.Values.Computers.{Held}
use Rattle.lg_selx_values.specs.Processor.MakingNodes.{scene}
use Rattle.lg_selx_values.specs.Processor.X86Computers.{reads_no_carry, divides_not, computes, bare, held_of, held_by, InstructionsCompute}
use Rattle.lg_selx_values.specs.Processor.X86Rows.{x86_does}
use Rattle.lg_selx_values.proofs.OfProcessor.ActLemmas.{straight-does}
use Rattle.lg_selx_values.proofs.OfProcessor.MakingLemmas.{makes-straight, still-off}
use Rattle.lg_selx_values.proofs.OfProcessor.RowLemmas.{went}
use Rattle.lg_selx_values.proofs.OfProcessor.SlotLemmas.{pc-next, goes-on}

-- what is held of a scene
abbrev holding : Scene → Held
holding s = record { registers = s.registers; flags = s.flags }

-- a scene with other registers and flags
abbrev with_held : Held → Scene → Scene
with_held w s = scene w.registers w.flags s.bytes

combined-computes : (op : RmRegOp) (rm b : ℕ) (s : Scene) → reads_no_carry op ≡ true → combined op rm b s ≡ Some (with_held (held_of (holding s) (combined op rm b (bare (holding s)))) s)
combined-computes alu.Adc rm b s h = cc
combined-computes alu.Sbb rm b s h = cc
combined-computes o rm b s h = refl

unary-computes : (op : UnaryOp) (rm : ℕ) (s : Scene) → divides_not op ≡ true → made (Unary op rm) s ≡ Some (with_held (held_by (Unary op rm) (holding s)) s)
unary-computes Div rm s h = cc
unary-computes Idiv rm s h = cc
unary-computes o rm s h = refl

-- one that computes makes a scene of any, with these registers and flags and the same memory
pub computes-made : (i : Instr) (s : Scene) → computes i ≡ true → made i s ≡ Some (with_held (held_by i (holding s)) s)
computes-made (RmReg op rm reg) s h = combined-computes op rm (s.registers reg) s h
computes-made (Imm op rm imm) s h = combined-computes (alu_of op) rm _ s h
computes-made (RegRm op reg rm) s h = refl
computes-made (Load Lea reg base disp) s h = refl
computes-made (Lea2 reg base index) s h = refl
computes-made (Movi32 reg imm) s h = refl
computes-made (Movs32 rm imm) s h = refl
computes-made (Movi64 reg imm) s h = refl
computes-made (Unary op rm) s h = unary-computes op rm s h
computes-made (Shift op rm count) s h = refl
computes-made (Bswap reg) s h = refl
computes-made (Bare Cqo) s h = refl
computes-made (Bare Nop) s h = refl
computes-made i s h = cc

pub computes-still : (i : Instr) → computes i ≡ true → is_still i ≡ true
computes-still (RmReg op rm reg) h = refl
computes-still (Imm op rm imm) h = refl
computes-still (RegRm op reg rm) h = refl
computes-still (Load Lea reg base disp) h = refl
computes-still (Lea2 reg base index) h = refl
computes-still (Movi32 reg imm) h = refl
computes-still (Movs32 rm imm) h = refl
computes-still (Movi64 reg imm) h = refl
computes-still (Unary op rm) h = refl
computes-still (Shift op rm count) h = refl
computes-still (Bswap reg) h = refl
computes-still (Bare Cqo) h = refl
computes-still (Bare Nop) h = refl
computes-still i h = cc

pub is-computer : InstructionsCompute
is-computer code trash i q h runs low high =
    let n : ℕ = length (spelling i) in
    let s : Scene = scene_of q.state in
    let t : Scene = with_held (held_by i (holding s)) s in
    let m : made i s ≡ Some t = computes-made i s h in
    let e : x86_does i q ≡ after q (goes (add_words q.state.pc n) t q.state.mark) =
    went q (act i n q.state) runs ∙ ap (after q) (straight-does i (add_words q.state.pc n) q.state (makes-straight i s t m) ∙ ap (goes_with q.state (add_words q.state.pc n) (fault_of i)) m) in
    record {
      above = still-off _ i q.state.registers (computes-still i h);
      runs = ap (λ r. status_of r.progress) e ∙ goes-on q.state.pc n low high;
      behind = ap (λ r. r.state.pc) e ∙ pc-next q.state.pc n high;
      holds = ap (λ r. holding (scene_of r.state)) e;
      bytes = λ a. ap (λ r. r.state.bytes a) e;
      mark = ap (λ r. r.state.mark) e;
    }
