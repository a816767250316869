-- Instructions that only compute: what they do, and lists of them.
use Rattle.lg_selr_values.specs.Processor.RvTouched.{load_width, touched}
use Rattle.lg_carry.proofs.BlockLemmas.{nothing-off}
use Rattle.lg_carry.specs.Processors.{IsOff}
use Rattle.std.proofs.Common.{◌≡◌, ◌≢◌, ℕ, ◌+◌, ◌*◌, Bool, true, false, List, [], ◌∷◌, ◌++◌, refl, ap, ◌∙◌, arith, length, append-nil}
use Rattle.std.specs.Prelude.{◌==◌, ◌&&◌, if◌then◌else◌}
use Rattle.std.proofs.lemmas.Bool.{and_parts}
use Rattle.lg_base.specs.Runs.{Running}
use Rattle.lg_base.specs.Words.{add_words}
use Rattle.lg_rv.specs.Spelling.{spelling}
use Rattle.lg_rv.specs.declared.instruction.Instr.{Instr}
use Rattle.lg_rv.specs.declared.instruction.Instr.TheVariants.{Upper, Jal, Branch, Imm, Shift, Store, Reg}
use Rattle.lg_rv.specs.declared.instruction.UpperOp.TheVariants.{Lui}
use Rattle.lg_rv.specs.declared.instruction.ImmOp.{ImmOp}
use Rattle.lg_rv.specs.declared.instruction.ImmOp.TheVariants.{Addi, Slti, Sltiu, Xori, Ori, Andi, Addiw}
use Rattle.lg_cpu.specs.Steps.{after, status_of, Run}
use Rattle.lg_cpu.specs.HostSteps.{put}
use Rattle.lg_cpu.specs.States.{CpuState}
use Rattle.lg_cpu.specs.RvStep.{read, goes, sets, imm_effect, act}
use Rattle.lg_carry.specs.Blocks.{spellings}
use Rattle.lg_selr_values.specs.Processor.RvRows.{rv_does, is_straight, rv_above}
use Rattle.lg_selr_values.specs.Processor.Computations.{imm_computes, imm_value, computes, all_compute, computed_by, computed, ComputationsRun}
use Rattle.lg_selr_values.proofs.OfProcessor.RowLemmas.{went}
use Rattle.lg_selr_values.proofs.OfProcessor.SlotLemmas.{pc-next, goes-on}

-- ---- registers
pub pointwise : (f g : ℕ → ℕ) → ((r : ℕ) → f r ≡ g r) → f ≡ g
pointwise f g h = λ i. λ r. h r i

pub read-put : (w : ℕ → ℕ) (t x : ℕ) → t ≢ 0 → read (put w t x) t ≡ x
read-put w t x ne = grind (arith, ne)

pub read-other : (w : ℕ → ℕ) (t x y : ℕ) → y ≢ t → read (put w t x) y ≡ read w y
read-other w t x y ne = grind (arith, ne)

pub put-same : (w : ℕ → ℕ) (t x : ℕ) → put w t x t ≡ x
put-same w t x = grind arith

pub put-other : (w : ℕ → ℕ) (t x y : ℕ) → y ≢ t → put w t x y ≡ w y
put-other w t x y ne = grind (arith, ne)

pub put-twice : (w : ℕ → ℕ) (t x y : ℕ) → put (put w t x) t y ≡ put w t y
put-twice w t x y = pointwise (put (put w t x) t y) (put w t y) (λ r. at r (r == t))
  where
    at : (r : ℕ) (b : Bool) → (if b then y else (if b then x else w r)) ≡ (if b then y else w r)
    at r true = refl
    at r false = refl

-- an instruction that makes a word of the one that the register was given
pub put-again : (w : ℕ → ℕ) (t x : ℕ) (f : ℕ → ℕ) → t ≢ 0 → put (put w t x) t (f (read (put w t x) t)) ≡ put w t (f x)
put-again w t x f ne = ap (λ z. put (put w t x) t (f z)) (read-put w t x ne) ∙ put-twice w t x (f x)

-- ---- lists
pub computed-append : (xs ys : List Instr) (w : ℕ → ℕ) → computed (xs ++ ys) w ≡ computed ys (computed xs w)
computed-append [] ys w = refl
computed-append (x ∷ xs) ys w = computed-append xs ys (computed_by x w)

pub all-compute-append : (xs ys : List Instr) → all_compute xs ≡ true → all_compute ys ≡ true → all_compute (xs ++ ys) ≡ true
all-compute-append [] ys h k = k
all-compute-append (x ∷ xs) ys h k = let b = and_parts (computes x) (all_compute xs) h in ap (λ z. z && all_compute (xs ++ ys)) b.0 ∙ all-compute-append xs ys b.1 k

pub spellings-long : (is : List Instr) → length (spellings spelling is) ≡ 4 * length is
spellings-long [] = refl
spellings-long (i ∷ is) = omega (arith, spellings-long is)

-- ---- one instruction
imm-act : (op : ImmOp) (rd a n : ℕ) (q : CpuState) → imm_computes op ≡ true → imm_effect op rd a n q ≡ sets q rd (imm_value op a n)
imm-act Addi rd a n q h = refl
imm-act Slti rd a n q h = refl
imm-act Sltiu rd a n q h = refl
imm-act Xori rd a n q h = refl
imm-act Ori rd a n q h = refl
imm-act Andi rd a n q h = refl
imm-act Addiw rd a n q h = refl
imm-act o rd a n q h = cc

pub computes-act : (i : Instr) (q : CpuState) → computes i ≡ true → act i q ≡ goes (add_words q.pc 4) (computed_by i q.registers) q.bytes q.mark
computes-act (Upper Lui rd imm) q h = refl
computes-act (Imm op rd rs1 imm) q h = imm-act op rd (read q.registers rs1) _ q h
computes-act (Shift op rd rs1 amount) q h = refl
computes-act (Reg op rd rs1 rs2) q h = refl
computes-act i q h = cc

imm-straight : (op : ImmOp) (rd rs1 : ℕ) → imm_computes op ≡ true → (imm : _) → is_straight (Imm op rd rs1 imm) ≡ true
imm-straight Addi rd rs1 h imm = refl
imm-straight Slti rd rs1 h imm = refl
imm-straight Sltiu rd rs1 h imm = refl
imm-straight Xori rd rs1 h imm = refl
imm-straight Ori rd rs1 h imm = refl
imm-straight Andi rd rs1 h imm = refl
imm-straight Addiw rd rs1 h imm = refl
imm-straight o rd rs1 h imm = cc

pub computes-straight : (i : Instr) → computes i ≡ true → is_straight i ≡ true
computes-straight (Jal rd offset) h = cc
computes-straight (Branch op rs1 rs2 offset) h = cc
computes-straight (Imm op rd rs1 imm) h = imm-straight op rd rs1 h imm
computes-straight (Store op rs1 rs2 imm) h = cc
computes-straight i h = refl

-- it touches nothing
imm-off : (hidden : ℕ → Bool) (op : ImmOp) (from : ℕ) → imm_computes op ≡ true → IsOff hidden record { from = from; width = load_width op }
imm-off hidden Addi from h = λ a le lt. absurd (omega (arith, le, lt))
imm-off hidden Slti from h = λ a le lt. absurd (omega (arith, le, lt))
imm-off hidden Sltiu from h = λ a le lt. absurd (omega (arith, le, lt))
imm-off hidden Xori from h = λ a le lt. absurd (omega (arith, le, lt))
imm-off hidden Ori from h = λ a le lt. absurd (omega (arith, le, lt))
imm-off hidden Andi from h = λ a le lt. absurd (omega (arith, le, lt))
imm-off hidden Addiw from h = λ a le lt. absurd (omega (arith, le, lt))
imm-off hidden o from h = cc

computes-off : (hidden : ℕ → Bool) (i : Instr) (w : ℕ → ℕ) → computes i ≡ true → IsOff hidden (touched i w)
computes-off hidden (Imm op rd rs1 imm) w h = imm-off hidden op _ h
computes-off hidden (Store op rs1 rs2 imm) w h = cc
computes-off hidden i w h = nothing-off hidden

pub computes-above : (i : Instr) (q : Run CpuState) → computes i ≡ true → rv_above i q
computes-above i q h = computes-off _ i q.state.registers h

-- ---- the run
pub computations-run : ComputationsRun
computations-run [] q h runs low high = record { through = tt; runs = runs; behind = omega arith; registers = λ r. refl; bytes = λ a. refl; mark = refl; out = refl }
computations-run (i ∷ is) q h runs low high =
    let b = and_parts (computes i) (all_compute is) h in
    let e : rv_does i q ≡ after q (goes (add_words q.state.pc 4) (computed_by i q.state.registers) q.state.bytes q.state.mark) = went q (act i q.state) runs ∙ ap (after q) (computes-act i q.state b.0) in
    let pc : (rv_does i q).state.pc ≡ q.state.pc + 4 = ap (λ s. s.state.pc) e ∙ pc-next q.state.pc (omega (arith, high)) in
    let goes : status_of (rv_does i q).progress ≡ Running = ap (λ s. status_of s.progress) e ∙ goes-on q.state.pc low (omega (arith, high)) in
    let m = computations-run is (rv_does i q) b.1 goes (omega (arith, low, pc)) (omega (arith, high, pc)) in
    record {
      through = (runs, computes-above i q b.0, m.through);
      runs = m.runs;
      behind = m.behind ∙ omega (arith, pc);
      registers = λ r. m.registers r ∙ ap (λ s. computed is s.state.registers r) e;
      bytes = λ a. m.bytes a ∙ ap (λ s. s.state.bytes a) e;
      mark = m.mark ∙ ap (λ s. s.state.mark) e;
      out = m.out ∙ ap (λ s. s.out) e ∙ append-nil q.out;
    }
