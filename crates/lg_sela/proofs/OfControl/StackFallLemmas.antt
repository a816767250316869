-- The stack pointer falls by the size of a frame.
use Rattle.lg_base.specs.Runs.{Running}
use Rattle.lg_carry.specs.Blocks.{Along}
use Rattle.lg_carry.proofs.BlockLemmas.{no-width}
use Rattle.std.proofs.Common.{◌≡◌, ◌≢◌, ℕ, suc, ◌+◌, ◌-◌, ◌*◌, ◌/◌, ◌%◌, ◌≤◌, Bool, true, false, List, [], ◌∷◌, refl, ◌∙◌, subst, arith, length, sym, ap}
use Rattle.std.specs.Prelude.{◌==◌, nat_le, nat_lt, if◌then◌else◌}
use Rattle.std.proofs.lemmas.Bool.{and_parts}
use Rattle.lg_base.specs.Words.{sub_words}
use Rattle.lg_a64.specs.declared.instruction.ImmOp.TheVariants.{Subi}
use Rattle.lg_a64.specs.declared.instruction.Instr.{Instr}
use Rattle.lg_a64.specs.declared.instruction.Instr.TheVariants as instr
use Rattle.lg_cpu.specs.A64Step.{computes, act}
use Rattle.lg_cpu.specs.HostSteps.{put}
use Rattle.lg_cpu.specs.States.{CpuState}
use Rattle.lg_cpu.specs.Steps.{Run, after, Effect, status_of}
use Rattle.lg_sela_values.specs.Processor.A64Rows.{stack_pointer, acts_above}
use Rattle.lg_sela_values.proofs.OfProcessor.HeldLemmas.{put-same, put-other}
use Rattle.lg_sel.proofs.OfControl.ChainLemmas.{RunsAt, next-at, Chain, chain-end, chain-more, does, went}
use Rattle.lg_sela.specs.Control.Prologs.{fall_code, is_near}

abbrev pub StackLowers : Instr → Run CpuState → Type 0
StackLowers i r = (does act i r).state.registers stack_pointer ≤ r.state.registers stack_pointer

-- what an instruction does to the stack pointer, by what it does to a state
pub lowers-by : (i : Instr) (is : List Instr) (q : Run CpuState) (e : Effect CpuState) → status_of q.progress ≡ Running → act i q.state ≡ e
    → e.to.registers stack_pointer ≤ q.state.registers stack_pointer → Along (does act) StackLowers is (after q e) → Along (does act) StackLowers (i ∷ is) q
lowers-by i is q e runs acts low rest =
    let d : does act i q ≡ after q e = went q (act i q.state) runs ∙ ap (after q) acts in
    (subst (λ z. z.state.registers stack_pointer ≤ q.state.registers stack_pointer) (sym d) low, subst (Along (does act) StackLowers is) (sym d) rest)

-- a run in which this many instructions made the stack pointer fall, and none let it rise
pub record Falls (is : List Instr) (base n k size : ℕ) (q : Run CpuState) : Type 0 where
  pub end : Run CpuState
  pub chain : Chain act acts_above is q end
  pub lowers : Along (does act) StackLowers is q
  pub at : RunsAt base n (k + length is) end
  pub stack : end.state.registers stack_pointer ≡ q.state.registers stack_pointer - size
  pub others : (r : ℕ) → r ≢ stack_pointer → end.state.registers r ≡ q.state.registers r
  pub bytes : end.state.bytes ≡ q.state.bytes
  pub mark : end.state.mark ≡ q.state.mark

-- a frame that is made at once
pub near-size : (size : ℕ) → is_near size ≡ true → (size ≤ 2048) × (size % 8 ≡ 0)
near-size size h =
    let p = and_parts (nat_le size 2048) (size % 8 == 0) h in
    let l = p.0 in
    let r = p.1 in (grind (arith, l), grind (arith, r))

-- by a number of 12 bits
once-falls : (sp size : ℕ) → size ≤ sp → sp ≤ 0x40000000 → sub_words sp size ≡ sp - size
once-falls sp size room high = grind (arith, room, high)

-- by whole multiples of 4,096, and by what is left
both-fall : (sp size : ℕ) → size ≤ 0x100000 → size ≤ sp → sp ≤ 0x40000000
    → sub_words (sub_words sp (size / 4096 % 4096 * 4096)) (size % 4096) ≡ sp - size
both-fall sp size many room high = grind (arith, many, room, high)

part-left : (sp part : ℕ) → part ≤ sp → sp ≤ 0x40000000 → sub_words sp part ≡ sp - part
part-left sp part room high = grind (arith, room, high)

part-falls : (sp part : ℕ) → part ≤ sp → sp ≤ 0x40000000 → sub_words sp part ≤ sp
part-falls sp part room high = let e = part-left sp part room high in omega (arith, e)

module _ (base n k size : ℕ) (q : Run CpuState) (at : RunsAt base n k q) (many : size ≤ 0x100000) (room : size ≤ q.state.registers stack_pointer)
    (high : q.state.registers stack_pointer ≤ 0x40000000) where
  abbrev sp : ℕ
  sp = q.state.registers stack_pointer

  pub short : k + 1 ≤ n → Falls (instr.Imm Subi stack_pointer stack_pointer size false ∷ []) base n k size q
  short le =
      let v = sub_words sp size in
      let e = computes q.state (put q.state.registers stack_pointer v) q.state.flags in
      let end : Run CpuState = after q e in
      record {
        end = end;
        chain = chain-more act acts_above _ _ q end e at.runs (no-width _ _) refl (chain-end act acts_above end);
        lowers = lowers-by (instr.Imm Subi stack_pointer stack_pointer size false) [] q e at.runs refl (let l = once-falls sp size room high in omega (arith, l)) tt;
        at = subst (λ x. RunsAt base n x end) (omega arith)
            (next-at base n k q (put q.state.registers stack_pointer v) q.state.flags q.state.bytes q.state.mark (omega (arith, le)) at);
        stack = put-same q.state.registers stack_pointer v ∙ once-falls sp size room high;
        others = λ r ne. put-other q.state.registers stack_pointer v r ne;
        bytes = refl;
        mark = refl;
      }

  long : k + 2 ≤ n
      → Falls (instr.Imm Subi stack_pointer stack_pointer (size / 4096 % 4096) true ∷ instr.Imm Subi stack_pointer stack_pointer (size % 4096) false ∷ []) base n k size q
  long le =
      let v1 = sub_words sp (size / 4096 % 4096 * 4096) in
      let e1 = computes q.state (put q.state.registers stack_pointer v1) q.state.flags in
      let q1 : Run CpuState = after q e1 in
      let v2 = sub_words v1 (size % 4096) in
      let e2 = computes q1.state (put q1.state.registers stack_pointer v2) q.state.flags in
      let q2 : Run CpuState = after q1 e2 in
      let first-falls : v1 ≤ sp = part-falls sp (size / 4096 % 4096 * 4096) (omega (arith, many, room)) high in
      let rest-falls : v2 ≤ v1 = let b = both-fall sp size many room high in let a = part-left sp (size / 4096 % 4096 * 4096) (omega (arith, many, room)) high in omega (arith, a, b, many) in
      let a1 = next-at base n k q (put q.state.registers stack_pointer v1) q.state.flags q.state.bytes q.state.mark (omega (arith, le)) at in
      let a2 = next-at base n (suc k) q1 (put q1.state.registers stack_pointer v2) q.state.flags q.state.bytes q.state.mark (omega (arith, le)) a1 in
      record {
        end = q2;
        chain = chain-more act acts_above _ _ q q2 e1 at.runs (no-width _ _) refl (chain-more act acts_above _ _ q1 q2 e2 a1.runs (no-width _ _) refl (chain-end act acts_above q2));
        lowers = lowers-by (instr.Imm Subi stack_pointer stack_pointer (size / 4096 % 4096) true) (instr.Imm Subi stack_pointer stack_pointer (size % 4096) false ∷ []) q e1 at.runs refl
            (omega (arith, first-falls)) (lowers-by (instr.Imm Subi stack_pointer stack_pointer (size % 4096) false) [] q1 e2 a1.runs refl (omega (arith, rest-falls)) tt);
        at = subst (λ x. RunsAt base n x q2) (omega arith) a2;
        stack = put-same q1.state.registers stack_pointer v2 ∙ both-fall sp size many room high;
        others = λ r ne. put-other q1.state.registers stack_pointer v2 r ne ∙ put-other q.state.registers stack_pointer v1 r ne;
        bytes = refl;
        mark = refl;
      }

  pub falls : k + length (fall_code size) ≤ n → Falls (fall_code size) base n k size q
  falls le = by (nat_lt size 4096) le
    where
      by : (b : Bool)
          → k + length (if b then instr.Imm Subi stack_pointer stack_pointer size false ∷ [] else instr.Imm Subi stack_pointer stack_pointer (size / 4096 % 4096) true ∷ instr.Imm Subi stack_pointer stack_pointer (size % 4096) false ∷ []) ≤ n
          → Falls (if b then instr.Imm Subi stack_pointer stack_pointer size false ∷ [] else instr.Imm Subi stack_pointer stack_pointer (size / 4096 % 4096) true ∷ instr.Imm Subi stack_pointer stack_pointer (size % 4096) false ∷ []) base n k size q
      by true le = short le
      by false le = long le
