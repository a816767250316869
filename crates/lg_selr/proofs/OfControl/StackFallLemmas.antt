-- The stack pointer falls by the size of a frame.
use Rattle.lg_base.specs.Runs.{Running}
use Rattle.lg_carry.specs.Blocks.{Along}
use Rattle.lg_carry.proofs.BlockLemmas.{no-width}
use Rattle.lg_selr_values.specs.Processor.RvRows.{acts_above}
use Rattle.std.proofs.Common.{◌≡◌, ◌≢◌, ℕ, suc, ◌+◌, ◌-◌, ◌*◌, ◌%◌, ◌^◌, ◌<◌, ◌≤◌, Bool, true, false, List, [], ◌∷◌, refl, ap, ◌∙◌, subst, arith, length, sym}
use Rattle.std.specs.Prelude.{negsuc, nat_le, if◌then◌else◌}
use Rattle.lg_base.specs.Fields.{word_of}
use Rattle.lg_base.specs.Words.{add_words, sub_words, sign_32}
use Rattle.lg_base.specs.declared.flags.Flags.TheVariants.{NoFlags}
use Rattle.lg_rv.specs.declared.instruction.Instr.{Instr}
use Rattle.lg_rv.specs.declared.instruction.Instr.TheVariants as instr
use Rattle.lg_rv.specs.declared.instruction.ImmOp.TheVariants.{Addi, Addiw}
use Rattle.lg_rv.specs.declared.instruction.RegOp.TheVariants.{Sub}
use Rattle.lg_rv.specs.declared.instruction.UpperOp.TheVariants.{Lui}
use Rattle.lg_cpu.specs.Steps.{Run, after, Effect, status_of}
use Rattle.lg_cpu.specs.HostSteps.{put}
use Rattle.lg_cpu.specs.States.{CpuState}
use Rattle.lg_cpu.specs.RvStep.{sets, act}
use Rattle.lg_selr_values.specs.Processor.Numbers.{high_part, low_part}
use Rattle.lg_selr.specs.Control.Prologs.{fall_code}
use Rattle.lg_sel.proofs.OfControl.ChainLemmas.{RunsAt, next-at, Chain, chain-end, chain-more, does, went}
use Rattle.lg_selr.proofs.OfControl.WordLemmas.{put-other, number-made}

-- ---- the stack pointer falls
-- a run in which this many instructions made the stack pointer fall, and none let it rise
abbrev pub StackLowers : Instr → Run CpuState → Type 0
StackLowers i r = (does act i r).state.registers 2 ≤ r.state.registers 2

-- what an instruction does to the stack pointer, by what it does to a state
pub lowers-by : (i : Instr) (is : List Instr) (q : Run CpuState) (e : Effect CpuState) → status_of q.progress ≡ Running → act i q.state ≡ e
    → e.to.registers 2 ≤ q.state.registers 2 → Along (does act) StackLowers is (after q e) → Along (does act) StackLowers (i ∷ is) q
lowers-by i is q e runs acts low rest =
    let d : does act i q ≡ after q e = went q (act i q.state) runs ∙ ap (after q) acts in
    (subst (λ z. z.state.registers 2 ≤ q.state.registers 2) (sym d) low, subst (Along (does act) StackLowers is) (sym d) rest)

pub record Falls (is : List Instr) (base n k size : ℕ) (q : Run CpuState) : Type 0 where
  pub end : Run CpuState
  pub chain : Chain act acts_above is q end
  pub lowers : Along (does act) StackLowers is q
  pub at : RunsAt base n (k + length is) end
  pub stack : end.state.registers 2 ≡ q.state.registers 2 - size
  pub others : (r : ℕ) → r ≢ 1 → r ≢ 2 → end.state.registers r ≡ q.state.registers r
  pub bytes : end.state.bytes ≡ q.state.bytes
  pub mark : end.state.mark ≡ q.state.mark

pub less : (sp size : ℕ) → 0 < size → size ≤ sp → sp ≤ 0x40000000 → add_words sp (word_of (negsuc (size - 1))) ≡ sp - size
less sp size few room high = grind (arith, few, room, high)

differs : (sp size : ℕ) → size ≤ sp → sp ≤ 0x40000000 → sub_words sp size ≡ sp - size
differs sp size room high = grind (arith, room, high)

near-word : (size : ℕ) → size ≤ 0x100000 → (size + 2 ^ 31) % 2 ^ 64 < 2 ^ 32
near-word size h = grind (arith, h)

module _ (base n k size : ℕ) (q : Run CpuState) (at : RunsAt base n k q) (few : 0 < size) (many : size ≤ 0x100000) (room : size ≤ q.state.registers 2) (high : q.state.registers 2 ≤ 0x40000000) where
  short : k + 1 ≤ n → Falls (instr.Imm Addi 2 2 (negsuc (size - 1)) ∷ []) base n k size q
  short le =
      let end = after q (sets q.state 2 (add_words (q.state.registers 2) (word_of (negsuc (size - 1))))) in
      record {
        end = end;
        chain = chain-more act acts_above _ [] q end (sets q.state 2 (add_words (q.state.registers 2) (word_of (negsuc (size - 1))))) at.runs (no-width _ _) refl (chain-end act acts_above end);
        lowers = lowers-by (instr.Imm Addi 2 2 (negsuc (size - 1))) [] q (sets q.state 2 (add_words (q.state.registers 2) (word_of (negsuc (size - 1))))) at.runs refl (let l = less (q.state.registers 2) size few room high in omega (arith, l)) tt;
        at = subst (λ x. RunsAt base n x end) (omega arith) (next-at base n k q _ _ _ _ (omega (arith, le)) at);
        stack = less (q.state.registers 2) size few room high;
        others = λ r one two. put-other q.state.registers 2 _ r two;
        bytes = refl;
        mark = refl;
      }

  long : k + 3 ≤ n → Falls (instr.Upper Lui 1 (high_part size) ∷ instr.Imm Addiw 1 1 (low_part size) ∷ instr.Reg Sub 2 2 1 ∷ []) base n k size q
  long le =
      let v1 = sign_32 (high_part size * 4096) in
      let q1 = after q (sets q.state 1 v1) in
      let v2 = sign_32 (add_words v1 (word_of (low_part size))) in
      let q2 = after q1 (sets q1.state 1 v2) in
      let v3 = sub_words (q.state.registers 2) v2 in
      let q3 = after q2 (sets q2.state 2 v3) in
      let a1 = next-at base n k q (put q.state.registers 1 v1) NoFlags q.state.bytes q.state.mark (omega (arith, le)) at in
      let a2 = next-at base n (suc k) q1 (put q1.state.registers 1 v2) NoFlags q.state.bytes q.state.mark (omega (arith, le)) a1 in
      let falls3 : v3 ≡ q.state.registers 2 - size = ap (sub_words (q.state.registers 2)) (number-made size (omega (arith, many)) (near-word size many)) ∙ differs (q.state.registers 2) size room high in
      let a3 = next-at base n (suc (suc k)) q2 (put q2.state.registers 2 v3) NoFlags q.state.bytes q.state.mark (omega (arith, le)) a2 in
      record {
        end = q3;
        chain = chain-more act acts_above _ _ q q3 (sets q.state 1 v1) at.runs (no-width _ _) refl (chain-more act acts_above _ _ q1 q3 (sets q1.state 1 v2) a1.runs (no-width _ _) refl (chain-more act acts_above _ _ q2 q3 (sets q2.state 2 v3) a2.runs (no-width _ _) refl (chain-end act acts_above q3)));
        lowers = lowers-by (instr.Upper Lui 1 (high_part size)) (instr.Imm Addiw 1 1 (low_part size) ∷ instr.Reg Sub 2 2 1 ∷ []) q (sets q.state 1 v1) at.runs refl (omega arith)
            (lowers-by (instr.Imm Addiw 1 1 (low_part size)) (instr.Reg Sub 2 2 1 ∷ []) q1 (sets q1.state 1 v2) a1.runs refl (omega arith)
            (lowers-by (instr.Reg Sub 2 2 1) [] q2 (sets q2.state 2 v3) a2.runs refl (omega (arith, falls3)) tt));
        at = subst (λ x. RunsAt base n x q3) (omega arith) a3;
        stack = falls3;
        others = λ r one two. put-other q2.state.registers 2 _ r two ∙ put-other q1.state.registers 1 _ r one ∙ put-other q.state.registers 1 _ r one;
        bytes = refl;
        mark = refl;
      }

  pub falls : k + length (fall_code size) ≤ n → Falls (fall_code size) base n k size q
  falls le = by (nat_le size 2048) refl le
    where
      by : (b : Bool) → nat_le size 2048 ≡ b → k + length (if b then instr.Imm Addi 2 2 (negsuc (size - 1)) ∷ [] else instr.Upper Lui 1 (high_part size) ∷ instr.Imm Addiw 1 1 (low_part size) ∷ instr.Reg Sub 2 2 1 ∷ []) ≤ n
          → Falls (if b then instr.Imm Addi 2 2 (negsuc (size - 1)) ∷ [] else instr.Upper Lui 1 (high_part size) ∷ instr.Imm Addiw 1 1 (low_part size) ∷ instr.Reg Sub 2 2 1 ∷ []) base n k size q
      by true e le = short le
      by false e le = long le
