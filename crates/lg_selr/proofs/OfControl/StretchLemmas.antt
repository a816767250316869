-- Instructions of RV64 that are in the code, and runs over them.
use Rattle.std.proofs.Common.{◌≡◌, ◌≢◌, ℕ, ◌+◌, ◌*◌, ◌^◌, ◌<◌, ◌≤◌, true, List, [], ◌∷◌, ◌++◌, Some, refl, sym, ap, ◌∙◌, arith, length, length-append, false}
use Rattle.std.specs.Prelude.{◌==◌, ◌||◌, Bool, false}
use Rattle.lg_carry.specs.Carries.{Sinks}
use Rattle.lg_base.specs.Conventions.{link_register}
use Rattle.lg_base.specs.Layout.{code_base, most_code}
use Rattle.lg_base.specs.Runs.{Running}
use Rattle.lg_base.specs.declared.target.Target.TheVariants.{Riscv64}
use Rattle.lg_rv.specs.Spelling.{spelling, IsInstr}
use Rattle.lg_rv.specs.declared.instruction.Instr.{Instr}
use Rattle.lg_cpu.specs.Laws.{AreBytes}
use Rattle.lg_cpu.specs.RvStep.{act}
use Rattle.lg_cpu.specs.States.{CpuState}
use Rattle.lg_cpu.specs.Steps.{Run, after, status_of}
use Rattle.lg_carry.specs.Blocks.{spellings, IsBlock, Along, Lowers}
use Rattle.lg_carry.specs.RegistersApart.{IsApart}
use Rattle.lg_carry.proofs.RegistersApartLemmas.{conventions-apart}
use Rattle.lg_carry.specs.Rows.{AreRows}
use Rattle.lg_selr_values.specs.Processor.RvRows.{rv_processor, rv_rows, is_straight, acts_above, rv_does}
use Rattle.lg_selr_values.proofs.OfProcessor.IsaLemmas.{portable-some, argument-some}
use Rattle.lg_selr_values.proofs.OfProcessor.RowLemmas.{went, are-rows}
use Rattle.lg_carry.specs.Nodes.Stretches.{StandsAt, behind, PassesIn, Arrival}
use Rattle.lg_sel.specs.Control.Walks.{Walk}
use Rattle.lg_sel.proofs.OfControl.ChainLemmas.{Chain}
use Rattle.lg_sel.proofs.OfControl.StretchLemmas as stretches

-- four bytes for each instruction
pub spelled-size : (is : List Instr) → length (spellings spelling is) ≡ 4 * length is
spelled-size [] = refl
spelled-size (i ∷ is) = let e = length-append (spelling i) (spellings spelling is) in omega (arith, e, spelled-size is)

module _ (moves : Bool) (code : List ℕ) (trash : ℕ) (small : length code ≤ most_code) (bytes : AreBytes code) (word : trash < 2 ^ 64) where
  rows : AreRows (rv_rows code trash) IsInstr
  rows = are-rows code trash small bytes word

  -- instructions that are in the code lie in the code part
  pub stands-high : (from : ℕ) (x : Instr) (is : List Instr) → StandsAt (rv_rows code trash) moves IsInstr from (x ∷ is)
      → behind (rv_rows code trash) from (x ∷ is) ≤ code_base + most_code
  stands-high from x is k = let l = spelled-size (x ∷ is) in stretches.stands-high (rv_rows code trash) IsInstr rows moves from (x ∷ is) (omega (arith, l)) k

  -- one of them is passed
  pub one-passed : (from : ℕ) (front : List Instr) (x : Instr) (back : List Instr) (q : Run CpuState)
      → StandsAt (rv_rows code trash) moves IsInstr from (front ++ (x ∷ [] ++ back))
      → status_of q.progress ≡ Running → acts_above x q.state → q.state.pc ≡ from + 4 * length front
      → PassesIn (rv_processor code trash) moves from (behind (rv_rows code trash) from (front ++ (x ∷ [] ++ back))) 1 q (after q (act x q.state))
  one-passed from front x back q k runs high at =
      let size = spelled-size front in
      stretches.one-passed (rv_rows code trash) IsInstr rows moves from front x back q (after q (act x q.state)) k runs high (omega (arith, at, size)) (went q (act x q.state) runs)

  -- and all of them
  pub all-passed : (from : ℕ) (is : List Instr) (q u : Run CpuState) → StandsAt (rv_rows code trash) moves IsInstr from is → q.state.pc ≡ from
      → IsBlock is_straight is → Chain act acts_above is q u
      → PassesIn (rv_processor code trash) moves from (behind (rv_rows code trash) from is) (length is) q u
  all-passed from is q u k at block h = stretches.all-passed (rv_rows code trash) IsInstr rows moves from is q u k at block h.through h.leads

  -- where none lets the stack pointer rise, they sink
  pub all-sunk : (from : ℕ) (is : List Instr) (q u : Run CpuState) → StandsAt (rv_rows code trash) moves IsInstr from is → q.state.pc ≡ from
      → IsBlock is_straight is → Chain act acts_above is q u → Along rv_does (Lowers (rv_rows code trash)) is q → Sinks (rv_processor code trash) from (length is) q
  all-sunk from is q u k at block h along = stretches.all-sunk (rv_rows code trash) IsInstr rows moves from is q k at block h.through along

-- ---- x0, whose word is not read, is no register of the conventions
zero-apart : (x : ℕ) → (x == 0) ≡ true → IsApart Riscv64 x × (link_register Riscv64 ≢ Some x)
zero-apart x e = let z : x ≡ 0 = grind (arith, e) in (
  record {
    portable = λ r lt same. portable-some r lt (same ∙ z);
    argument = λ j lt same. argument-some j lt (same ∙ z);
    pointer = λ same. absurd (omega (arith, same, z));
    stack = λ same. absurd (omega (arith, same, z));
  },
  λ same. linked x same z,
)
  where
    linked : (x : ℕ) → Some 1 ≡ Some x → x ≡ 0 → ⊥
    linked x same z = cc

pub off-zero : (x : ℕ) → (x == 0) ≡ false → x ≢ 0
off-zero x e z = absurd (grind (arith, e, z))

neither : (false || false) ≡ true → ⊥
neither e = cc

link-apart : (x : ℕ) → Some 1 ≡ Some x → x ≡ 31 → ⊥
link-apart x same z = cc

carry-apart : (x : ℕ) → ((x == 0) || (x == 31)) ≡ true → IsApart Riscv64 x × (link_register Riscv64 ≢ Some x)
carry-apart x e = by (x == 0) (x == 31) refl refl
  where
    by : (a b : Bool) → (x == 0) ≡ a → (x == 31) ≡ b → IsApart Riscv64 x × (link_register Riscv64 ≢ Some x)
    by true b ea eb = zero-apart x ea
    by false true ea eb = let z : x ≡ 31 = grind (arith, eb) in ((conventions-apart Riscv64).carry x (ap Some (sym z)), λ same. link-apart x same z)
    by false false ea eb = absurd (neither (sym (λ j. ea j || eb j) ∙ e))

off-carry : (x : ℕ) → ((x == 0) || (x == 31)) ≡ false → (x ≢ 0) × (x ≢ 31)
off-carry x e = (λ z. absurd (grind (arith, e, z)), λ z. absurd (grind (arith, e, z)))

module _ (code : List ℕ) (trash : ℕ) where
  -- ---- where no register but x0 changes, the code walks
  pub walked : (from high to steps : ℕ) (q u : Run CpuState) → PassesIn (rv_processor code trash) false from high steps q u → steps ≤ 64 → (from < high → 0 < steps)
      → status_of u.progress ≡ Running → u.state.pc ≡ to
      → ((x : ℕ) → x ≢ 0 → u.state.registers x ≡ q.state.registers x) → u.state.bytes ≡ q.state.bytes → u.state.mark ≡ q.state.mark
      → Walk (rv_processor code trash) from high to q
  walked from high to steps q u passes few some runs here same bytes-are mark-is =
      stretches.walked (rv_processor code trash) (λ x. x == 0) zero-apart from high to steps q u passes few some runs here (λ x off. same x (off-zero x off))
      bytes-are mark-is

  -- or none but x0 and x31
  pub walked-by-carry : (from high to steps : ℕ) (q u : Run CpuState) → PassesIn (rv_processor code trash) false from high steps q u → steps ≤ 64 → (from < high → 0 < steps)
      → status_of u.progress ≡ Running → u.state.pc ≡ to
      → ((x : ℕ) → x ≢ 0 → x ≢ 31 → u.state.registers x ≡ q.state.registers x) → u.state.bytes ≡ q.state.bytes → u.state.mark ≡ q.state.mark
      → Walk (rv_processor code trash) from high to q
  walked-by-carry from high to steps q u passes few some runs here same bytes-are mark-is =
      stretches.walked (rv_processor code trash) (λ x. (x == 0) || (x == 31)) carry-apart from high to steps q u passes few some runs here
      (λ x off. same x (off-carry x off).0 (off-carry x off).1) bytes-are mark-is

  -- ---- where none but the link changes, and that is the address to which a call returns, the code arrives
  pub arrived-with : (from high back to steps : ℕ) (q u : Run CpuState) → PassesIn (rv_processor code trash) false from high steps q u
      → Sinks (rv_processor code trash) from steps q → steps < 64 → 0 < steps
      → status_of u.progress ≡ Running → u.state.pc ≡ to
      → u.state.registers 1 ≡ back → ((x : ℕ) → x ≢ 1 → u.state.registers x ≡ q.state.registers x) → u.state.bytes ≡ q.state.bytes → u.state.mark ≡ q.state.mark
      → Arrival (rv_processor code trash) from high (q.state.registers 2) back to q
  arrived-with = stretches.arrived-with (rv_processor code trash) 1 refl
