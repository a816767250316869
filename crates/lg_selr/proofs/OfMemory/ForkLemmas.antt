-- A test of the low bits of a base, and two ways after it.
use Rattle.lg_carry.proofs.BlockLemmas.{nothing-off}
use Rattle.std.proofs.Common.{◌≡◌, ◌≢◌, ℕ, ◌+◌, ◌-◌, ◌*◌, ◌%◌, ◌≤◌, Bool, true, false, List, [], ◌∷◌, ◌++◌, Option, refl, sym, ap, ◌∙◌, arith, subst, length, length-append, append-nil, append_assoc, bit_and}
use Rattle.std.specs.Prelude.{pos, ◌==◌, ◌&&◌, if◌then◌else◌}
use Rattle.std.specs.List.{list_all}
use Rattle.std.proofs.lemmas.Bool.{and_parts}
use Rattle.lg_base.specs.Fields.{word_of}
use Rattle.lg_base.specs.Layout.{code_base, most_code, stop_address}
use Rattle.lg_base.specs.Runs.{Running}
use Rattle.lg_base.specs.Words.{add_words}
use Rattle.lg_base.specs.declared.fault.FaultKind.TheVariants.{Align}
use Rattle.lg_cpu.specs.HostSteps.{put}
use Rattle.lg_cpu.specs.RvOperators.{is_taken}
use Rattle.lg_cpu.specs.RvStep.{read, goes, branch_to, act}
use Rattle.lg_cpu.specs.Steps.{after, arrived, faults, status_of}
use Rattle.lg_carry.specs.Blocks.{spellings, IsBlock}
use Rattle.lg_carry.specs.Processors.{Seen}
use Rattle.lg_carry.specs.Rows.{AreRows}
use Rattle.lg_carry.specs.Spills.{Does}
use Rattle.lg_selr_values.specs.Processor.Computations.{all_compute, computed, computes}
use Rattle.lg_selr_values.specs.Processor.RvRows.{rv_rows, rv_does, is_straight}
use Rattle.lg_selr_values.proofs.OfProcessor.ComputationLemmas.{pointwise, put-same, read-other, computed-append, all-compute-append, computes-straight, spellings-long}
use Rattle.lg_selr_values.proofs.OfProcessor.RowLemmas.{went}
use Rattle.lg_selr_values.proofs.OfProcessor.SlotLemmas.{pc-next}
use Rattle.lg_rv.specs.Spelling.{spelling, IsInstr}
use Rattle.lg_rv.specs.declared.instruction.BranchOp.{BranchOp}
use Rattle.lg_rv.specs.declared.instruction.BranchOp.TheVariants.{Beq}
use Rattle.lg_rv.specs.declared.instruction.ImmOp.TheVariants.{Andi}
use Rattle.lg_rv.specs.declared.instruction.Instr.{Instr}
use Rattle.lg_rv.specs.declared.instruction.Instr.TheVariants as instr
use Rattle.lg_selr_values.specs.Processor.RvComputers.{rv_computer}
use Rattle.lg_selr_values.proofs.OfProcessor.ComputerLemmas.{is-computer}
use Rattle.lg_carry.proofs.OfValues.ComputationLemmas.{computations-do}
use Rattle.lg_carry.specs.Nodes.Straight.{from_to}
use Rattle.lg_carry.specs.Memory.Crossings.{CrossesCode, LeadsTo, Skips}
use Rattle.lg_carry.proofs.OfMemory.CrossingLemmas.{fork-crosses}
use Rattle.lg_selr.specs.Memory.Accesses.{Place, tester, fork}
use Rattle.lg_selr.proofs.OfMemory.EndLemmas.{after-registers}
use Rattle.lg_selr.proofs.OfMemory.PlaceLemmas.{IsWidth, IsPlaced, masked, sum-even, read-some}

-- ---- a branch
runs-there : (pc : ℕ) → code_base ≤ pc → status_of (arrived pc) ≡ Running
runs-there pc low = let n : (pc == stop_address) ≡ false = grind (arith, low) in rw n refl

four : (x : Instr) → length (spelling x) ≡ 4
four x = let m = spellings-long (x ∷ []) in let n = length-append (spelling x) [] in omega (arith, m, n)

target-is : (pc skip : ℕ) → pc + skip ≤ code_base + most_code → add_words pc skip ≡ pc + skip
target-is pc skip h = grind (arith, h)

whole-target : (pc skip : ℕ) → (pc % 4 == 0) ≡ true → skip % 4 ≡ 0 → ((pc + skip) % 4 == 0) ≡ true
whole-target pc skip h e = grind (arith, h, e)

-- it leads over what follows where it is taken, and else to the next instruction; nothing else changes
pub branch-skips : (code : List ℕ) (trash : ℕ) (o : BranchOp) (a b skip : ℕ) (V : ℕ → ℕ) (taken : Bool) → is_taken o (read V a) (read V b) ≡ taken → skip % 4 ≡ 0 → 4 ≤ skip
    → Skips (rv_rows code trash) (instr.Branch o a b (pos skip)) V (if taken then skip - 4 else 0)
branch-skips code trash o a b skip V taken test even some q runs same low place high = by taken test high
  where
    x : Instr
    x = instr.Branch o a b (pos skip)

    pc : ℕ
    pc = q.state.pc

    g : q.state.registers ≡ V
    g = pointwise q.state.registers V same

    long : length (spelling x) ≡ 4
    long = four x

    arrives-at : (to : ℕ) → code_base ≤ to → act x q.state ≡ goes to q.state.registers q.state.bytes q.state.mark → LeadsTo (rv_rows code trash) x q to
    arrives-at to least acts =
        let e : rv_does x q ≡ after q (goes to q.state.registers q.state.bytes q.state.mark) = went q (act x q.state) runs ∙ ap (after q) acts in
        record {
          above = nothing-off _;
          runs = ap (λ r. status_of r.progress) e ∙ runs-there to least;
          here = ap (λ r. r.state.pc) e;
          registers = λ r. ap (λ u. u.state.registers r) e;
          bytes = λ y. ap (λ u. u.state.bytes y) e;
          has_mark = ap (λ u. u.state.mark) e;
          has_flags = refl;
        }

    tested : (c : Bool) → is_taken o (read V a) (read V b) ≡ c → act x q.state ≡ branch_to q.state (add_words pc skip) c
    tested c t = ap (branch_to q.state (add_words pc skip)) (ap (λ (f : ℕ → ℕ). is_taken o (read f a) (read f b)) g ∙ t)

    by : (c : Bool) → is_taken o (read V a) (read V b) ≡ c → pc + length (spelling x) + (if c then skip - 4 else 0) ≤ code_base + most_code
        → LeadsTo (rv_rows code trash) x q (pc + length (spelling x) + (if c then skip - 4 else 0))
    by true t most =
        let to : pc + skip ≡ pc + length (spelling x) + (skip - 4) = omega (arith, long, some) in
        let e = target-is pc skip (omega (arith, most, long, some)) in
        subst (LeadsTo (rv_rows code trash) x q) to
        (arrives-at (pc + skip) (omega (arith, low)) (tested true t ∙ ap (λ z. branch_to q.state z true) e ∙ ap (λ z. if z then goes (pc + skip) q.state.registers q.state.bytes q.state.mark else faults q.state Align) (whole-target pc skip place even)))
    by false t most =
        let to : pc + 4 ≡ pc + length (spelling x) + 0 = omega (arith, long) in
        let e = pc-next pc (omega (arith, most, long)) in
        subst (LeadsTo (rv_rows code trash) x q) to
        (arrives-at (pc + 4) (omega (arith, low)) (tested false t ∙ ap (λ z. goes z q.state.registers q.state.bytes q.state.mark) e))

-- ---- straight code
pub straight-block : (is : List Instr) → list_all is_straight is ≡ true → IsBlock is_straight is
straight-block [] h = tt
straight-block (i ∷ []) h = tt
straight-block (i ∷ j ∷ is) h = let p = and_parts (is_straight i) (list_all is_straight (j ∷ is)) h in (p.0, straight-block (j ∷ is) p.1)

pub computing-straight : (is : List Instr) → all_compute is ≡ true → list_all is_straight is ≡ true
computing-straight [] h = refl
computing-straight (i ∷ is) h = let p = and_parts (computes i) (all_compute is) h in ap (λ z. z && list_all is_straight is) (computes-straight i p.0) ∙ computing-straight is p.1

-- ---- the two ways
-- the register of the test is not the base
pub tester-apart : (u base : ℕ) → u ≢ 1 → base ≢ tester u base
tester-apart u base ne = by (base == 1) refl
  where
    by : (c : Bool) → (base == 1) ≡ c → base ≢ (if c then u else 1)
    by true e = λ z. ne (sym z ∙ (let y : base ≡ 1 = grind (arith, e) in y))
    by false e = λ z. absurd (grind (arith, e, z))

pub tester-no-stack : (u base : ℕ) → u ≢ 2 → 2 ≢ tester u base
tester-no-stack u base ne = by (base == 1)
  where
    by : (c : Bool) → 2 ≢ (if c then u else 1)
    by true = λ z. ne (sym z)
    by false = λ z. absurd (omega (arith, z))

tester-some : (u base : ℕ) → u ≢ 0 → tester u base ≢ 0
tester-some u base ne = by (base == 1)
  where
    by : (c : Bool) → (if c then u else 1) ≢ 0
    by true = ne
    by false = λ z. cc

pub tester-free : (u base : ℕ) (T : ℕ → Bool) → T u ≡ true → T 1 ≡ true → T (tester u base) ≡ true
tester-free u base T h k = by (base == 1)
  where
    by : (c : Bool) → T (if c then u else 1) ≡ true
    by true = h
    by false = k

module _ (code : List ℕ) (trash : ℕ) (rows : AreRows (rv_rows code trash) IsInstr) (s : Seen) (W : ℕ → ℕ) (M : ℕ → Option ℕ) (fp n : ℕ) (T : ℕ → Bool) (most : n ≤ 5)
    (width u a skip : ℕ) (p : Place) (is-width : IsWidth width) (u0 : u ≢ 0) (u1 : u ≢ 1) (m : IsPlaced width p s.registers a)
    (slow : List Instr) (fast : Instr) (size : skip ≡ 4 * length slow + 8) (slow-straight : list_all is_straight slow ≡ true) where
  abbrev test : ℕ
  test = tester u p.base

  abbrev mid : ℕ → ℕ
  mid = computed p.code s.registers

  abbrev front : List Instr
  front = p.code ++ instr.Imm Andi test p.base (pos (width - 1)) ∷ []

  -- the registers after the test
  abbrev pub tested : ℕ → ℕ
  tested = put mid test (bit_and (read mid p.base) (width - 1))

  front-computes : all_compute front ≡ true
  front-computes = all-compute-append p.code (instr.Imm Andi test p.base (pos (width - 1)) ∷ []) m.computes refl

  front-is : computed front s.registers ≡ tested
  front-is = computed-append p.code (instr.Imm Andi test p.base (pos (width - 1)) ∷ []) s.registers

  -- the base still is the base
  pub base-kept : add_words (read tested p.base) (word_of p.offset) ≡ a
  base-kept = ap (λ z. add_words z (word_of p.offset)) (read-other mid test (bit_and (read mid p.base) (width - 1)) p.base (tester-apart u p.base u1)) ∙ m.makes

  abbrev aligned : Bool
  aligned = a % width == 0

  test-is : is_taken Beq (read tested test) (read tested 0) ≡ aligned
  test-is =
      let e : read tested test ≡ read mid p.base % width = read-some tested test (tester-some u p.base u0) ∙ put-same mid test (bit_and (read mid p.base) (width - 1)) ∙ masked width (read mid p.base) is-width in
      let f : a % width ≡ read mid p.base % width = ap (λ z. z % width) (sym m.makes) ∙ sum-even width (read mid p.base) (word_of p.offset) is-width m.even in
      ap (λ z. z == 0) (e ∙ sym f)

  skip-size : skip - 4 ≡ length (spellings spelling (slow ++ (instr.Branch Beq 0 0 (pos 8) ∷ [])))
  skip-size = let l = spellings-long (slow ++ (instr.Branch Beq 0 0 (pos 8) ∷ [])) in let k = length-append slow (instr.Branch Beq 0 0 (pos 8) ∷ []) in omega (arith, size, l, k)

  pub forks : (aligned ≡ false → Does (rv_rows code trash) (from_to (record s { registers = tested }) W M s.flags) slow fp n T)
      → (aligned ≡ true → Does (rv_rows code trash) (from_to (record s { registers = tested }) W M s.flags) (fast ∷ []) fp n T)
      → CrossesCode (rv_rows code trash) IsInstr (from_to s W M s.flags) (p.code ++ fork u p.base width skip slow fast) fp n T
  forks slowly fastly = subst (λ z. CrossesCode (rv_rows code trash) IsInstr (from_to s W M s.flags) z fp n T)
      (append_assoc p.code (instr.Imm Andi test p.base (pos (width - 1)) ∷ []) (instr.Branch Beq test 0 (pos skip) ∷ (slow ++ (instr.Branch Beq 0 0 (pos 8) ∷ fast ∷ []))))
      (λ q from looks k high at. fork-crosses (rv_rows code trash) IsInstr rows (from_to s W M s.flags) tested front slow (fast ∷ []) (instr.Branch Beq test 0 (pos skip)) (instr.Branch Beq 0 0 (pos 8)) fp n T aligned most
      (straight-block front (computing-straight front front-computes)) (straight-block slow slow-straight) tt first
      (subst (λ z. Skips (rv_rows code trash) (instr.Branch Beq test 0 (pos skip)) tested (if aligned then z else 0)) skip-size
      (branch-skips code trash Beq test 0 skip tested aligned test-is (omega (arith, size)) (omega (arith, size))))
      (λ registers. subst (Skips (rv_rows code trash) (instr.Branch Beq 0 0 (pos 8)) registers) (let l = spellings-long (fast ∷ []) in let z : 4 ≡ length (spellings spelling (fast ∷ [])) = omega (arith, l) in z)
      (branch-skips code trash Beq 0 0 8 registers true refl (omega arith) (omega arith)))
      slowly fastly q from looks k high at)
    where
      first : Does (rv_rows code trash) (from_to s tested s.bytes s.flags) front fp 5 (λ r. false)
      first =
          subst (λ v. Does (rv_rows code trash) (from_to s v s.bytes s.flags) front fp 5 (λ r. false)) front-is
          (subst (λ is. Does (rv_rows code trash) (from_to s (computed front s.registers) s.bytes s.flags) is fp 5 (λ r. false)) (append-nil front)
          (after-registers code trash front [] s (computed front s.registers) s.bytes fp 5 (λ r. false) (omega arith) front-computes
          (computations-do (rv_computer code trash) (is-computer code trash) [] (record s { registers = computed front s.registers }) fp 5 (λ r. false) refl)))
