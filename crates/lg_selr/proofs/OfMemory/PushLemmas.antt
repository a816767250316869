-- Passing an argument of a call.
use Rattle.lg_carry.proofs.BelowLemmas.{not-below}
use Rattle.lg_carry.specs.Memory.Accesses.{LiesAbove}
use Rattle.std.proofs.Common.{◌≡◌, ◌≢◌, ℕ, suc, ◌+◌, ◌-◌, ◌*◌, ◌%◌, ◌^◌, ◌<◌, ◌≤◌, Bool, true, false, List, [], ◌∷◌, ◌++◌, refl, sym, ap, ◌∙◌, subst, arith, length, length-append, inr}
use Rattle.std.specs.Prelude.{Option, pos, ◌==◌, nat_lt, if◌then◌else◌, slice_index}
use Rattle.lg_base.specs.Conventions.{argument_registers}
use Rattle.lg_base.specs.HostNames.{host_address}
use Rattle.lg_base.specs.Layout.{stack_argument}
use Rattle.lg_base.specs.Spaces.{stored}
use Rattle.lg_base.specs.Words.{add_words}
use Rattle.lg_base.specs.declared.target.Target.TheVariants.{Riscv64}
use Rattle.lg_op.specs.declared.operand.Operand.{Operand}
use Rattle.lg_op.specs.declared.operand.Operand.TheVariants as operand
use Rattle.lg_rv.specs.declared.instruction.Instr.{Instr}
use Rattle.lg_rv.specs.declared.instruction.Instr.TheVariants as instr
use Rattle.lg_rv.specs.declared.instruction.StoreOp.TheVariants.{Sd}
use Rattle.lg_cpu.specs.HostSteps.{put}
use Rattle.lg_cpu.specs.States.{CpuState}
use Rattle.lg_cpu.specs.Steps.{Run}
use Rattle.lg_cpu.specs.RvStep.{read}
use Rattle.lg_temp.specs.Abis.{register_of}
use Rattle.lg_carry.specs.Processors.{Seen}
use Rattle.lg_carry.specs.Spills.{Does, with_register}
use Rattle.lg_selr_values.specs.Processor.Computations.{all_compute, computed}
use Rattle.lg_selr_values.specs.Processor.RvComputers.{rv_scratch, rv_computer}
use Rattle.lg_selr_values.specs.Processor.RvRows.{rv_rows, rv_seen}
use Rattle.lg_selr_values.specs.Processor.Numbers.{number_code}
use Rattle.lg_selr_values.proofs.OfProcessor.NumberCodeLemmas.{numbers-are-loaded}
use Rattle.lg_selr_values.proofs.OfProcessor.ComputationLemmas.{pointwise, put-other, read-put, spellings-long}
use Rattle.lg_selr_values.proofs.OfProcessor.ComputerLemmas.{is-computer, held-at}
use Rattle.lg_selr_values.proofs.OfProcessor.RegisterLemmas.{read-of}
use Rattle.lg_carry.specs.Nodes.Straight.{spoils, from_to}
use Rattle.lg_carry.specs.Nodes.Stretches.{HasFrame}
use Rattle.lg_carry.specs.Values.Computers.{Held}
use Rattle.lg_carry.proofs.OfValues.ComputationLemmas.{computations-do}
use Rattle.lg_carry.specs.Memory.Pushes.{IsPassed, PushesDo, HasPushCode}
use Rattle.lg_carry.specs.Memory.Stores.{IsWritable}
use Rattle.lg_carry.proofs.OfMemory.AfterLemmas.{told, seen_after}
use Rattle.lg_carry.proofs.OfMemory.ReadLemmas.{same-some, host-small}
use Rattle.lg_selr_values.specs.declared.items.Item.{Item}
use Rattle.lg_selr_values.specs.Items.{settled, bytes_in}
use Rattle.lg_selr_values.proofs.ItemLemmas.{settled-append, settled-ones}
use Rattle.lg_selr.specs.Memory.Accesses.{link}
use Rattle.lg_selr.specs.Memory.PushCode.{into, stack_push, onto_stack, push_items, rv_push}
use Rattle.lg_selr.proofs.OfMemory.EndLemmas.{flags-kept, after-registers}
use Rattle.lg_selr.proofs.OfMemory.PlaceLemmas.{off-scratch}
use Rattle.lg_selr.proofs.OfMemory.PutLemmas.{Puts, put-operand}
use Rattle.lg_selr.proofs.OfMemory.StoreLemmas.{word-does}

-- ---- the registers of arguments
argument-some : (j : ℕ) → j < 8 → (slice_index (argument_registers Riscv64) j ≢ 0) × (slice_index (argument_registers Riscv64) j < 32)
argument-some (suc (suc (suc (suc (suc (suc (suc (suc j)))))))) h = absurd (omega (arith, h))
argument-some j h = (λ e. cc, omega arith)

-- ---- into a register
module _ (code : List ℕ) (trash : ℕ) (q : Run CpuState) (fp : ℕ) where
  abbrev w : ℕ → ℕ
  w = q.state.registers

  abbrev s : Seen
  s = rv_seen q

  abbrev Leaves : (ℕ → ℕ) → (ℕ → Option ℕ) → List Instr → Type 0
  Leaves W M is = Does (rv_rows code trash) (from_to s W M s.flags) is fp 0 (spoils rv_scratch [])

  puts-do : (is : List Instr) (rd v : ℕ) → Puts is w rd v → Leaves (with_register w rd v) s.bytes is
  puts-do is rd v p =
      let M = rv_computer code trash in
      let h : Held = record { registers = w; flags = s.flags } in
      let mid = seen_after M is s in
      told (rv_rows code trash) s mid.registers (with_register w rd v) s.bytes s.bytes mid.flags s.flags is fp 0 (spoils rv_scratch [])
      (λ y free. held-at is h y (with_register w rd v y) (p.puts y)) (λ y off. refl) (flags-kept is h) (computations-do M (is-computer code trash) is s fp 0 (spoils rv_scratch []) p.computes)

  -- ---- into a stack word
  -- instructions that compute the link alone, after which a register holds the word
  record Prepares (pre : List Instr) (from v : ℕ) : Type 0 where
    computes : all_compute pre ≡ true
    keeps : (y : ℕ) → y ≢ 1 → computed pre w y ≡ w y
    holds : read (computed pre w) from ≡ v

  by-link : (pre : List Instr) (v : ℕ) → Puts pre w 1 v → Prepares pre 1 v
  by-link pre v p = record {
    computes = p.computes;
    keeps = λ y ne. p.puts y ∙ put-other w 1 v y ne;
    holds = ap (λ f. read f 1) (pointwise (computed pre w) (put w 1 v) p.puts) ∙ read-put w 1 v (λ z. absurd (omega (arith, z)));
  }

  module _ (frame j : ℕ) (few : j < 16) (many : 8 ≤ j) (f : HasFrame Riscv64 frame (rv_seen q)) (v : ℕ) (writable : IsWritable (rv_seen q) fp (stack_argument (w 2) (j - 8)) 8) where
    abbrev a : ℕ
    a = stack_argument (w 2) (j - 8)

    even : (a % 8 == 0) ≡ true
    even = let z : a % 8 ≡ 0 = (let e = f.whole in omega (arith, e)) in ap (λ y. y == 0) z

    safe : LiesAbove Riscv64 (w 2) a 8
    safe y le lt = not-below Riscv64 (w 2) y (inr (omega (arith, le)))

    address : (r : ℕ → ℕ) → r 2 ≡ w 2 → add_words (read r 2) (8 * (j - 8)) ≡ a
    address r e = let high = f.high in let large = f.large in omega (arith, e, few, high, large)

    stores-do : (pre : List Instr) (from : ℕ) → Prepares pre from v → Leaves w (stored s.bytes a 8 v) (pre ++ instr.Store Sd 2 from (pos (8 * (j - 8))) ∷ [])
    stores-do pre from p =
        let x = instr.Store Sd 2 from (pos (8 * (j - 8))) in
        let mid : Seen = record s { registers = computed pre w } in
        let B = stored s.bytes a 8 v in
        after-registers code trash pre (x ∷ []) s w B fp 0 (spoils rv_scratch []) (omega arith) p.computes
        (told (rv_rows code trash) mid mid.registers w B B s.flags s.flags (x ∷ []) fp 0 (spoils rv_scratch []) (λ y free. p.keeps y (off-scratch y free).1) (λ y off. refl) refl
        (word-does code trash mid 2 from (pos (8 * (j - 8))) a v fp (spoils rv_scratch []) (address mid.registers (p.keeps 2 (λ z. absurd (omega (arith, z))))) even p.holds writable (w 2) (p.keeps 2 (λ z. absurd (omega (arith, z)))) safe))

    linked : (to : ℕ → ℕ) (from : ℕ) (x : Operand) → IsPassed Riscv64 w to x v
        → Leaves w (stored s.bytes a 8 v) (settled to from (into link x ++ stack_push j link ∷ []))
    linked to from x p =
        subst (Leaves w (stored s.bytes a 8 v)) (sym (settled-append to from (into link x) (stack_push j link ∷ [])))
        (stores-do (settled to from (into link x)) 1 (by-link (settled to from (into link x)) v (put-operand x to from w 1 v (λ z. absurd (omega (arith, z))) (omega arith) p)))

    onto : (to : ℕ → ℕ) (from : ℕ) (x : Operand) → IsPassed Riscv64 w to x v → Leaves w (stored s.bytes a 8 v) (settled to from (onto_stack j x))
    onto to from (operand.Reg r) p =
        stores-do [] (register_of Riscv64 r) record { computes = refl; keeps = λ y ne. refl; holds = read-of w r ∙ same-some (w (register_of Riscv64 r)) v p.word }
    onto to from (operand.Number m) p = linked to from (operand.Number m) p
    onto to from (operand.Host name) p = linked to from (operand.Host name) p
    onto to from (operand.Label l) p = linked to from (operand.Label l) p
    onto to from (operand.Slot k) p = absurd (let z = p.word in cc)

pub pushes-do : (code : List ℕ) (trash : ℕ) → PushesDo (rv_rows code trash) rv_scratch rv_push
pushes-do code trash frame to from j x q v few f passed writable = by (nat_lt j 8) refl writable
  where
    by : (b : Bool) → nat_lt j 8 ≡ b → (b ≡ false → IsWritable (rv_seen q) (q.state.registers 8) (stack_argument (q.state.registers 2) (j - 8)) 8)
        → Does (rv_rows code trash)
        (from_to (rv_seen q) (if b then with_register q.state.registers (slice_index (argument_registers Riscv64) j) v else q.state.registers)
        (if b then q.state.bytes else stored q.state.bytes (stack_argument (q.state.registers 2) (j - 8)) 8 v) (rv_seen q).flags)
        (settled to from (if b then into (slice_index (argument_registers Riscv64) j) x else onto_stack j x)) (q.state.registers 8) 0 (spoils rv_scratch [])
    by true e w =
        let lt : j < 8 = grind (arith, e) in
        let rd = argument-some j lt in
        puts-do code trash q (q.state.registers 8) (settled to from (into (slice_index (argument_registers Riscv64) j) x)) (slice_index (argument_registers Riscv64) j) v
        (put-operand x to from q.state.registers (slice_index (argument_registers Riscv64) j) v rd.0 rd.1 passed)
    by false e w = let ge : 8 ≤ j = grind (arith, e) in onto code trash q (q.state.registers 8) frame j few ge f v (w refl) to from x passed

-- ---- each operand has code
into-some : (to : ℕ → ℕ) (from rd : ℕ) (x : Operand) → rd ≢ 0 → rd < 32 → ((k : ℕ) → x ≢ operand.Slot k) → ((v : ℕ) → x ≡ operand.Number v → v < 2 ^ 64) → 0 < length (settled to from (into rd x))
into-some to from rd (operand.Reg r) some few slots words = omega arith
into-some to from rd (operand.Number v) some few slots words =
    let k = numbers-are-loaded rd v some few (words v refl) in let e = ap length (settled-ones to from (number_code rd v)) in let n = k.some in omega (arith, e, n)
into-some to from rd (operand.Host name) some few slots words =
    let k = numbers-are-loaded rd (host_address name) some few (host-small name) in let e = ap length (settled-ones to from (number_code rd (host_address name))) in let n = k.some in omega (arith, e, n)
into-some to from rd (operand.Label l) some few slots words = omega arith
into-some to from rd (operand.Slot k) some few slots words = absurd (slots k refl)

after-some : (to : ℕ → ℕ) (from : ℕ) (xs : List Item) (j : ℕ) → 0 < length (settled to from (xs ++ stack_push j link ∷ []))
after-some to from xs j =
    let e = ap length (settled-append to from xs (stack_push j link ∷ [])) in
    let l = length-append (settled to from xs) (settled to (from + bytes_in xs) (stack_push j link ∷ [])) in omega (arith, e, l)

onto-some : (to : ℕ → ℕ) (from j : ℕ) (x : Operand) → 0 < length (settled to from (onto_stack j x))
onto-some to from j (operand.Reg r) = omega arith
onto-some to from j (operand.Number v) = after-some to from (into link (operand.Number v)) j
onto-some to from j (operand.Host name) = after-some to from (into link (operand.Host name)) j
onto-some to from j (operand.Label l) = after-some to from (into link (operand.Label l)) j
onto-some to from j (operand.Slot k) = after-some to from (into link (operand.Slot k)) j

pub has-push-code : (code : List ℕ) (trash : ℕ) → HasPushCode (rv_rows code trash) rv_push
has-push-code code trash frame to from j x few slots words = let long = spellings-long (settled to from (push_items j x)) in let n = by (nat_lt j 8) refl in omega (arith, long, n)
  where
    by : (b : Bool) → nat_lt j 8 ≡ b → 0 < length (settled to from (if b then into (slice_index (argument_registers Riscv64) j) x else onto_stack j x))
    by true e = let rd = argument-some j (grind (arith, e)) in into-some to from (slice_index (argument_registers Riscv64) j) x rd.0 rd.1 slots words
    by false e = onto-some to from j x
