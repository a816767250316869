-- A branch over a jump leads to two ways: after itself, or where the jump leads.
use Rattle.lg_carry.proofs.BlockLemmas.{no-width}
use Rattle.std.proofs.Common.{◌≡◌, ◌≢◌, ℕ, ◌+◌, ◌*◌, ◌/◌, ◌^◌, ◌<◌, ◌≤◌, Bool, true, false, List, [], ◌∷◌, ◌++◌, Some, refl, sym, ap, ◌∙◌, subst, arith, length}
use Rattle.std.proofs.Common.{length-append, append_assoc}
use Rattle.std.specs.Prelude.{◌==◌, not, pos, ◌-ℤ◌, if◌then◌else◌}
use Rattle.lg_base.specs.Fields.{word_of}
use Rattle.lg_base.specs.HostNames.{host_address}
use Rattle.lg_base.specs.Layout.{code_base, most_code}
use Rattle.lg_base.specs.Runs.{Running}
use Rattle.lg_base.specs.Words.{add_words, sign_32, is_less, is_less_signed}
use Rattle.lg_base.specs.declared.fault.FaultKind.TheVariants.{Align}
use Rattle.lg_base.specs.declared.target.Target.TheVariants.{Riscv64}
use Rattle.lg_op.specs.declared.operand.Operand.{Operand}
use Rattle.lg_op.specs.declared.operand.Operand.TheVariants as operand
use Rattle.lg_rv.specs.Spelling.{IsInstr}
use Rattle.lg_rv.specs.declared.instruction.BranchOp.{BranchOp}
use Rattle.lg_rv.specs.declared.instruction.BranchOp.TheVariants.{Bne, Bge, Bgeu}
use Rattle.lg_rv.specs.declared.instruction.ImmOp.TheVariants.{Jalr}
use Rattle.lg_rv.specs.declared.instruction.UpperOp.TheVariants.{Auipc}
use Rattle.lg_rv.specs.declared.instruction.Instr.{Instr}
use Rattle.lg_rv.specs.declared.instruction.Instr.TheVariants as instr
use Rattle.lg_cpu.specs.Laws.{AreBytes}
use Rattle.lg_cpu.specs.Steps.{Run, Effect, after, faults, status_of}
use Rattle.lg_cpu.specs.HostSteps.{put}
use Rattle.lg_cpu.specs.RvOperators.{is_taken}
use Rattle.lg_cpu.specs.States.{CpuState}
use Rattle.lg_cpu.specs.RvStep.{read, goes, sets, branch_to, act}
use Rattle.lg_temp.specs.Abis.{register_of}
use Rattle.lg_carry.specs.Blocks.{done}
use Rattle.lg_selr_values.specs.Processor.Computations.{all_compute, computed, RunsComputations}
use Rattle.lg_selr_values.specs.Processor.Numbers.{number_code, high_part, low_part}
use Rattle.lg_selr_values.specs.Processor.RvRows.{rv_processor, rv_rows, rv_does, is_straight, acts_above}
use Rattle.lg_selr_values.proofs.OfProcessor.ComputationLemmas.{computations-run}
use Rattle.lg_selr_values.proofs.OfProcessor.NumberCodeLemmas.{numbers-are-loaded}
use Rattle.lg_selr_values.proofs.OfProcessor.RowLemmas.{are-rows}
use Rattle.lg_selr_values.proofs.OfProcessor.SlotLemmas.{pc-next, goes-on}
use Rattle.lg_carry.specs.Nodes.Leaps.{IsThere, second_word}
use Rattle.lg_carry.specs.Nodes.Stretches.{StandsAt, behind, PassesIn, Way}
use Rattle.lg_carry.proofs.OfNodes.StretchLemmas.{part-passes, passages-join}
use Rattle.lg_sel.specs.declared.reach.Reach.{Reach}
use Rattle.lg_sel.specs.declared.reach.Reach.TheVariants.{Short, Near, Far}
use Rattle.lg_selr_values.specs.Items.{distance}
use Rattle.lg_selr.specs.Control.Branches.{turned}
use Rattle.lg_selr.specs.Control.ControlItems.{second_register}
use Rattle.lg_selr_values.specs.Processor.RvComputers.{rv_scratch}
use Rattle.lg_selr.specs.Control.TwoWays.{leads_unless, branch_after, second_code}
use Rattle.lg_sel.proofs.OfControl.ChainLemmas.{straight-block, runs-there}
use Rattle.lg_selr.proofs.OfControl.ComputedLemmas.{all-straight, same-words}
use Rattle.lg_selr.proofs.OfControl.StretchLemmas.{spelled-size}
use Rattle.lg_selr_values.proofs.OfProcessor.RegisterLemmas.{read-of}
use Rattle.lg_selr.proofs.OfControl.StretchLemmas.{one-passed}
use Rattle.lg_sel.proofs.OfControl.StretchLemmas.{aligned}
use Rattle.lg_selr.proofs.OfControl.WalkLemmas.{jumps-there, far-lands}
use Rattle.lg_selr.proofs.OfControl.WordLemmas.{twice, distance-leads, far-leads, put-same, put-other}

-- ---- the second operand
-- the second operand is put into its register, and nothing but x1 changes
pub record IsMade (x : Operand) (y : ℕ) (w : ℕ → ℕ) : Type 0 where
  pub computes : all_compute (second_code x) ≡ true
  pub value : read (computed (second_code x) w) (second_register x) ≡ y
  pub others : (z : ℕ) → z ≢ 1 → computed (second_code x) w z ≡ w z
  pub few : length (second_code x) ≤ 8

number-made : (v y : ℕ) (w : ℕ → ℕ) → v ≡ y → v < 2 ^ 64 → (all_compute (number_code 1 v) ≡ true) × (computed (number_code 1 v) w 1 ≡ y)
    × ((z : ℕ) → z ≢ 1 → computed (number_code 1 v) w z ≡ w z) × (length (number_code 1 v) ≤ 8)
number-made v y w e lt =
    let loads = numbers-are-loaded 1 v (λ z. cc) (omega arith) lt in
    (loads.computes, loads.value w 1 ∙ put-same w 1 v ∙ e, λ z ne. loads.value w z ∙ put-other w 1 v z ne, loads.few)

-- x0 is the number 0
zero-or-made : (v y : ℕ) (w : ℕ → ℕ) → v ≡ y → v < 2 ^ 64 → (all_compute (if v == 0 then [] else number_code 1 v) ≡ true)
    × (read (computed (if v == 0 then [] else number_code 1 v) w) (if v == 0 then 0 else 1) ≡ y)
    × ((z : ℕ) → z ≢ 1 → computed (if v == 0 then [] else number_code 1 v) w z ≡ w z) × (length (if v == 0 then [] else number_code 1 v) ≤ 8)
zero-or-made v y w e lt = by (v == 0) refl
  where
    by : (b : Bool) → (v == 0) ≡ b → (all_compute (if b then [] else number_code 1 v) ≡ true)
        × (read (computed (if b then [] else number_code 1 v) w) (if b then 0 else 1) ≡ y)
        × ((z : ℕ) → z ≢ 1 → computed (if b then [] else number_code 1 v) w z ≡ w z) × (length (if b then [] else number_code 1 v) ≤ 8)
    by true h = (refl, grind (arith, h, e), λ z ne. refl, omega arith)
    by false h = number-made v y w e lt

some-is : (v y : ℕ) → Some v ≡ Some y → v ≡ y
some-is v y e = cc

pub second-made : (x : Operand) (y : ℕ) (w : ℕ → ℕ) → second_word Riscv64 w x ≡ Some y → y < 2 ^ 64 → IsMade x y w
second-made (operand.Reg b) y w e lt = record {
  computes = refl;
  value = read-of w b ∙ some-is (w (register_of Riscv64 b)) y e;
  others = λ z ne. refl;
  few = omega arith;
}
second-made (operand.Number v) y w e lt = let s = some-is v y e in let m = zero-or-made v y w s (subst (λ z. z < 2 ^ 64) (sym s) lt) in record {
  computes = m.0;
  value = m.1;
  others = m.2;
  few = m.3;
}
second-made (operand.Host name) y w e lt = let s = some-is (host_address name) y e in let m = number-made (host_address name) y w s (subst (λ z. z < 2 ^ 64) (sym s) lt) in record {
  computes = m.0;
  value = m.1;
  others = m.2;
  few = m.3;
}
second-made (operand.Label l) y w e lt = cc
second-made (operand.Slot k) y w e lt = cc

eight-on : (pc : ℕ) → pc < 2 ^ 62 → add_words pc 8 ≡ pc + 8
eight-on pc h = grind (arith, h)

pub off-scratch : (x : ℕ) → rv_scratch x ≡ false → (x ≢ 0) × (x ≢ 1)
off-scratch x e = (λ z. absurd (grind (arith, e, z)), λ z. absurd (grind (arith, e, z)))

twelve-on : (pc : ℕ) → pc < 2 ^ 62 → add_words pc 12 ≡ pc + 12
twelve-on pc h = grind (arith, h)

-- the turned branch is taken where the other one is not
turned-taken : (o : BranchOp) (x y : ℕ) → is_taken (turned o) x y ≡ not (is_taken o x y)
turned-taken Bne x y = sym (twice (x == y))
turned-taken Bge x y = sym (twice (is_less_signed x y))
turned-taken Bgeu x y = sym (twice (is_less x y))
turned-taken o x y = refl

-- ---- the branch, where what is before it computes
module _ (code : List ℕ) (trash : ℕ) (small : length code ≤ most_code) (bytes : AreBytes code) (word : trash < 2 ^ 64)
    (front back : List Instr) (o : BranchOp) (a b from to : ℕ) (q : Run CpuState) (k : StandsAt (rv_rows code trash) false IsInstr from (front ++ back))
    (all : all_compute front ≡ true) (few : length front ≤ 60) (runs : status_of q.progress ≡ Running) (at : q.state.pc ≡ from) (goes-there : Bool)
    (there : goes-there ≡ true → IsThere (rv_rows code trash).is_place to)
    (next : IsThere (rv_rows code trash).is_place (behind (rv_rows code trash) from (front ++ back)))
    (taken : is_taken o (read (computed front q.state.registers) a) (read (computed front q.state.registers) b) ≡ not goes-there)
    (W : ℕ → ℕ) (kept : (z : ℕ) → z ≢ 1 → z ≢ 31 → computed front q.state.registers z ≡ W z) where
  abbrev high : ℕ
  high = behind (rv_rows code trash) from (front ++ back)

  abbrev start : ℕ
  start = from + 4 * length front

  size : high ≡ start + 4 * length back
  size = let l = spelled-size (front ++ back) in let m = length-append front back in omega (arith, l, m)

  low : code_base ≤ from
  low = k.low

  top : high ≤ code_base + most_code
  top = next.high

  m : RunsComputations front q
  m = computations-run front q all runs (omega (arith, low, at)) (omega (arith, top, size, at))

  abbrev r : Run CpuState
  r = done rv_does front q

  pass : PassesIn (rv_processor code trash) false from high (length front) q r
  pass = part-passes (rv_rows code trash) IsInstr (are-rows code trash small bytes word) false from [] front back q k (at ∙ omega arith)
      (straight-block is_straight front (all-straight front all)) m.through

  here : r.state.pc ≡ start
  here = m.behind ∙ omega (arith, at)

  registers-are : r.state.registers ≡ computed front q.state.registers
  registers-are = same-words r.state.registers (computed front q.state.registers) m.registers

  held : (z : ℕ) → rv_scratch z ≡ false → Some 31 ≢ Some z → r.state.registers z ≡ W z
  held z off ne = ap (λ f. f z) registers-are ∙ kept z (off-scratch z off).1 (λ e. ne (ap Some (sym e)))

  bytes-are : r.state.bytes ≡ q.state.bytes
  bytes-are = λ j z. m.bytes z j

  taken-is : is_taken o (read r.state.registers a) (read r.state.registers b) ≡ not goes-there
  taken-is = ap (λ (f : ℕ → ℕ). is_taken o (read f a) (read f b)) registers-are ∙ taken

  -- one more instruction is passed
  one-more : (f : List Instr) (x : Instr) (g : List Instr) (n : ℕ) (u : Run CpuState) (e : Effect CpuState) → front ++ back ≡ f ++ (x ∷ [] ++ g)
      → PassesIn (rv_processor code trash) false from high n q u → status_of u.progress ≡ Running → acts_above x u.state → u.state.pc ≡ from + 4 * length f → act x u.state ≡ e
      → PassesIn (rv_processor code trash) false from high (n + 1) q (after u e)
  one-more f x g n u e split passes going high' place does =
      passages-join (rv_processor code trash) false from high n 1 q u (after u e) passes
      (subst (λ z. PassesIn (rv_processor code trash) false from high 1 u (after u z)) does
      (subst (λ z. PassesIn (rv_processor code trash) false from (behind (rv_rows code trash) from z) 1 u (after u (act x u.state))) (sym split)
      (one-passed false code trash small bytes word from f x g u (subst (StandsAt (rv_rows code trash) false IsInstr from) split k) going high' place)))

  -- a branch over what follows leads to the place after it
  skips : (d : ℕ) (rest : List Instr) → back ≡ instr.Branch o a b (pos d) ∷ rest → add_words r.state.pc d ≡ high → goes-there ≡ false
      → Way (rv_processor code trash) rv_scratch from high W high q
  skips d rest is to-high h =
      let e : Effect CpuState = goes high r.state.registers r.state.bytes r.state.mark in
      let does : act (instr.Branch o a b (pos d)) r.state ≡ e = ap (branch_to r.state (add_words r.state.pc d)) (taken-is ∙ ap not h) ∙ ap (λ p. branch_to r.state p true) to-high
      ∙ ap (λ z. if z then goes high r.state.registers r.state.bytes r.state.mark else faults r.state Align) next.place in
      record {
        end = after r e;
        steps = length front + 1;
        passes = one-more front (instr.Branch o a b (pos d)) rest (length front) r e (ap (λ z. front ++ z) is) pass m.runs (no-width _ _) here does;
        few = omega (arith, few);
        some = omega arith;
        runs = runs-there high next.low;
        here = refl;
        registers = held;
        bytes = bytes-are;
        mark = m.mark;
      }

  -- where it is not taken, the next instruction follows
  abbrev r1 : Run CpuState
  r1 = after r (goes (add_words r.state.pc 4) r.state.registers r.state.bytes r.state.mark)

  past : (d : ℕ) (rest : List Instr) → back ≡ instr.Branch o a b (pos d) ∷ rest → goes-there ≡ true → PassesIn (rv_processor code trash) false from high (length front + 1) q r1
  past d rest is h =
      one-more front (instr.Branch o a b (pos d)) rest (length front) r (goes (add_words r.state.pc 4) r.state.registers r.state.bytes r.state.mark) (ap (λ z. front ++ z) is)
      pass m.runs (no-width _ _) here (ap (branch_to r.state (add_words r.state.pc d)) (taken-is ∙ ap not h))

  module _ (some : 4 ≤ 4 * length back) where
    runs1 : status_of r1.progress ≡ Running
    runs1 = goes-on r.state.pc (omega (arith, here, low)) (omega (arith, here, top, size, some))

    here1 : r1.state.pc ≡ start + 4
    here1 = pc-next r.state.pc (omega (arith, here, top, size, some)) ∙ omega (arith, here)

  either-way : (goes-there ≡ true → Way (rv_processor code trash) rv_scratch from high W to q) → (goes-there ≡ false → Way (rv_processor code trash) rv_scratch from high W high q)
      → Way (rv_processor code trash) rv_scratch from high W (if goes-there then to else high) q
  either-way jumped skipped = by goes-there refl
    where
      by : (c : Bool) → goes-there ≡ c → Way (rv_processor code trash) rv_scratch from high W (if goes-there then to else high) q
      by true e = subst (λ z. Way (rv_processor code trash) rv_scratch from high W z q) (sym (ap (λ c. if c then to else high) e)) (jumped e)
      by false e = subst (λ z. Way (rv_processor code trash) rv_scratch from high W z q) (sym (ap (λ c. if c then to else high) e)) (skipped e)

  -- ---- the turned branch
  module _ (is : back ≡ leads_unless Short o a b start to) where
    abbrev leap : Instr
    leap = instr.Branch (turned o) a b (pos to -ℤ pos start)

    long : length back ≡ 1
    long = ap length is

    turned-is : is_taken (turned o) (read r.state.registers a) (read r.state.registers b) ≡ goes-there
    turned-is = turned-taken o (read r.state.registers a) (read r.state.registers b) ∙ ap not taken-is ∙ twice goes-there

    leapt : goes-there ≡ true → Way (rv_processor code trash) rv_scratch from high W to q
    leapt h =
        let target = there h in
        let e : Effect CpuState = goes to r.state.registers r.state.bytes r.state.mark in
        let reaches : add_words r.state.pc (word_of (pos to -ℤ pos start)) ≡ to = ap (λ p. add_words p (word_of (pos to -ℤ pos start))) here
        ∙ distance-leads start to (omega (arith, size, top)) (let t = target.high in omega (arith, t)) in
        let does : act leap r.state ≡ e = ap (branch_to r.state (add_words r.state.pc (word_of (pos to -ℤ pos start)))) (turned-is ∙ h) ∙ ap (λ p. branch_to r.state p true) reaches
        ∙ ap (λ z. if z then e else faults r.state Align) target.place in
        record {
          end = after r e;
          steps = length front + 1;
          passes = one-more front leap [] (length front) r e (ap (λ z. front ++ z) is) pass m.runs (no-width _ _) here does;
          few = omega (arith, few);
          some = omega arith;
          runs = runs-there to target.low;
          here = refl;
          registers = held;
          bytes = bytes-are;
          mark = m.mark;
        }

    stayed : goes-there ≡ false → Way (rv_processor code trash) rv_scratch from high W high q
    stayed h =
        let e : Effect CpuState = goes (add_words r.state.pc 4) r.state.registers r.state.bytes r.state.mark in
        let some : 4 ≤ 4 * length back = omega (arith, long) in
        let does : act leap r.state ≡ e = ap (branch_to r.state (add_words r.state.pc (word_of (pos to -ℤ pos start)))) (turned-is ∙ h) in
        record {
          end = after r e;
          steps = length front + 1;
          passes = one-more front leap [] (length front) r e (ap (λ z. front ++ z) is) pass m.runs (no-width _ _) here does;
          few = omega (arith, few);
          some = omega arith;
          runs = runs1 some;
          here = here1 some ∙ omega (arith, size, long);
          registers = held;
          bytes = bytes-are;
          mark = m.mark;
        }

    pub short-ways : Way (rv_processor code trash) rv_scratch from high W (if goes-there then to else high) q
    short-ways = either-way leapt stayed

  -- ---- the branch over a jump
  module _ (is : back ≡ leads_unless Near o a b start to) where
    abbrev jump : Instr
    jump = instr.Jal 0 (pos to -ℤ pos (start + 4))

    near-long : length back ≡ 2
    near-long = ap length is

    near-split : front ++ back ≡ (front ++ (instr.Branch o a b (pos 8) ∷ [])) ++ (jump ∷ [])
    near-split = ap (λ z. front ++ z) is ∙ sym (append_assoc front (instr.Branch o a b (pos 8) ∷ []) (jump ∷ []))

    jumped : goes-there ≡ true → Way (rv_processor code trash) rv_scratch from high W to q
    jumped h =
        let target = there h in
        let some : 4 ≤ 4 * length back = omega (arith, near-long) in
        let e : Effect CpuState = goes to (put r1.state.registers 0 (add_words r1.state.pc 4)) r1.state.bytes r1.state.mark in
        let place = here1 some in
        let split : length (front ++ (instr.Branch o a b (pos 8) ∷ [])) ≡ length front + 1 = length-append front (instr.Branch o a b (pos 8) ∷ []) in
        let does : act jump r1.state ≡ e = ap (λ p. act (instr.Jal 0 (pos to -ℤ pos p)) r1.state) (sym place)
        ∙ jumps-there r1.state 0 to (omega (arith, place, top, size)) (let t = target.high in omega (arith, t)) (aligned to target.place) in
        record {
          end = after r1 e;
          steps = length front + 1 + 1;
          passes = one-more (front ++ (instr.Branch o a b (pos 8) ∷ [])) jump [] (length front + 1) r1 e near-split (past 8 (jump ∷ []) is h) (runs1 some) (no-width _ _) (omega (arith, place, split)) does;
          few = omega (arith, few);
          some = omega arith;
          runs = runs-there to target.low;
          here = refl;
          registers = λ z off ne. put-other r1.state.registers 0 (add_words r1.state.pc 4) z (off-scratch z off).0 ∙ held z off ne;
          bytes = bytes-are;
          mark = m.mark;
        }

    pub near-ways : Way (rv_processor code trash) rv_scratch from high W (if goes-there then to else high) q
    near-ways = either-way jumped (skips 8 (jump ∷ []) is (eight-on r.state.pc (omega (arith, here, top, size)) ∙ omega (arith, here, size, near-long)))

  -- ---- the branch over a jump by way of x31
  module _ (is : back ≡ leads_unless Far o a b start to) where
    abbrev far : ℕ
    far = distance (start + 4) to

    abbrev high-half : Instr
    high-half = instr.Upper Auipc 31 (high_part far)

    abbrev low-half : Instr
    low-half = instr.Imm Jalr 0 31 (low_part far)

    abbrev v : ℕ
    v = add_words r1.state.pc (sign_32 (high_part far * 4096))

    abbrev r2 : Run CpuState
    r2 = after r1 (sets r1.state 31 v)

    far-long : length back ≡ 3
    far-long = ap length is

    first-split : front ++ back ≡ (front ++ (instr.Branch o a b (pos 12) ∷ [])) ++ (high-half ∷ low-half ∷ [])
    first-split = ap (λ z. front ++ z) is ∙ sym (append_assoc front (instr.Branch o a b (pos 12) ∷ []) (high-half ∷ low-half ∷ []))

    second-split : front ++ back ≡ (front ++ (instr.Branch o a b (pos 12) ∷ high-half ∷ [])) ++ (low-half ∷ [])
    second-split = ap (λ z. front ++ z) is ∙ sym (append_assoc front (instr.Branch o a b (pos 12) ∷ high-half ∷ []) (low-half ∷ []))

    far-jumped : goes-there ≡ true → Way (rv_processor code trash) rv_scratch from high W to q
    far-jumped h =
        let target = there h in
        let some : 4 ≤ 4 * length back = omega (arith, far-long) in
        let place = here1 some in
        let going2 : status_of r2.progress ≡ Running = goes-on r1.state.pc (omega (arith, place, low)) (omega (arith, place, top, size, far-long)) in
        let place2 : r2.state.pc ≡ start + 8 = pc-next r1.state.pc (omega (arith, place, top, size, far-long)) ∙ omega (arith, place) in
        let e : Effect CpuState = goes to (put r2.state.registers 0 (add_words r2.state.pc 4)) r2.state.bytes r2.state.mark in
        let one : length (front ++ (instr.Branch o a b (pos 12) ∷ [])) ≡ length front + 1 = length-append front (instr.Branch o a b (pos 12) ∷ []) in
        let two : length (front ++ (instr.Branch o a b (pos 12) ∷ high-half ∷ [])) ≡ length front + 2 = length-append front (instr.Branch o a b (pos 12) ∷ high-half ∷ []) in
        let sum : add_words v (word_of (low_part far)) / 2 * 2 ≡ to =
        ap (λ (p : ℕ). add_words (add_words p (sign_32 (high_part far * 4096))) (word_of (low_part far)) / 2 * 2) place
        ∙ far-leads (start + 4) to (omega (arith, low)) (omega (arith, top, size, far-long)) (let t = target.low in omega (arith, t)) (let t = target.high in omega (arith, t)) (aligned to target.place) in
        let does : act low-half r2.state ≡ e = far-lands r2.state 0 31 (low_part far) v to refl sum (aligned to target.place) in
        record {
          end = after r2 e;
          steps = length front + 1 + 1 + 1;
          passes = one-more (front ++ (instr.Branch o a b (pos 12) ∷ high-half ∷ [])) low-half [] (length front + 1 + 1) r2 e second-split
              (one-more (front ++ (instr.Branch o a b (pos 12) ∷ [])) high-half (low-half ∷ []) (length front + 1) r1 (sets r1.state 31 v) first-split
              (past 12 (high-half ∷ low-half ∷ []) is h) (runs1 some) (no-width _ _) (omega (arith, place, one)) refl)
              going2 (no-width _ _) (omega (arith, place2, two)) does;
          few = omega (arith, few);
          some = omega arith;
          runs = runs-there to target.low;
          here = refl;
          registers = λ z off ne. put-other r2.state.registers 0 (add_words r2.state.pc 4) z (off-scratch z off).0
              ∙ put-other r1.state.registers 31 v z (λ e. ne (ap Some (sym e))) ∙ held z off ne;
          bytes = bytes-are;
          mark = m.mark;
        }

    pub far-ways : Way (rv_processor code trash) rv_scratch from high W (if goes-there then to else high) q
    far-ways = either-way far-jumped (skips 12 (high-half ∷ low-half ∷ []) is (twelve-on r.state.pc (omega (arith, here, top, size)) ∙ omega (arith, here, size, far-long)))

-- ---- whatever the reach
pub two-ways : (reach : Reach) (code : List ℕ) (trash : ℕ) → length code ≤ most_code → AreBytes code → trash < 2 ^ 64
    → (front : List Instr) (o : BranchOp) (a b from to : ℕ) (q : Run CpuState) → StandsAt (rv_rows code trash) false IsInstr from (branch_after reach front o a b from to)
    → all_compute front ≡ true → length front ≤ 60 → status_of q.progress ≡ Running → q.state.pc ≡ from → (goes-there : Bool)
    → (goes-there ≡ true → IsThere (rv_rows code trash).is_place to)
    → IsThere (rv_rows code trash).is_place (behind (rv_rows code trash) from (branch_after reach front o a b from to))
    → is_taken o (read (computed front q.state.registers) a) (read (computed front q.state.registers) b) ≡ not goes-there
    → (W : ℕ → ℕ) → ((z : ℕ) → z ≢ 1 → z ≢ 31 → computed front q.state.registers z ≡ W z)
    → Way (rv_processor code trash) rv_scratch from (behind (rv_rows code trash) from (branch_after reach front o a b from to)) W
    (if goes-there then to else behind (rv_rows code trash) from (branch_after reach front o a b from to)) q
two-ways Short code trash small bytes word front o a b from to q k all few runs at goes-there there next taken W kept =
    short-ways code trash small bytes word front (leads_unless Short o a b (from + 4 * length front) to) o a b from to q k all few runs at goes-there there next taken W kept refl
two-ways Near code trash small bytes word front o a b from to q k all few runs at goes-there there next taken W kept =
    near-ways code trash small bytes word front (leads_unless Near o a b (from + 4 * length front) to) o a b from to q k all few runs at goes-there there next taken W kept refl
two-ways Far code trash small bytes word front o a b from to q k all few runs at goes-there there next taken W kept =
    far-ways code trash small bytes word front (leads_unless Far o a b (from + 4 * length front) to) o a b from to q k all few runs at goes-there there next taken W kept refl
