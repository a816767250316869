-- Passing an argument of a call.
use Rattle.lg_carry.proofs.BelowLemmas.{not-below}
use Rattle.lg_carry.specs.Memory.Accesses.{LiesAbove}
use Rattle.std.proofs.Common.{◌≡◌, ◌≢◌, ℕ, suc, ◌+◌, ◌-◌, ◌*◌, ◌^◌, ◌<◌, Bool, true, false, List, [], ◌∷◌, ◌++◌, refl, sym, ap, ◌∙◌, subst, arith, length, length-append, inr}
use Rattle.std.specs.Prelude.{Option, nat_lt, if◌then◌else◌, slice_index}
use Rattle.lg_base.specs.Conventions.{argument_registers}
use Rattle.lg_base.specs.HostNames.{host_address}
use Rattle.lg_base.specs.Layout.{stack_argument}
use Rattle.lg_base.specs.Spaces.{stored}
use Rattle.lg_base.specs.Words.{add_words}
use Rattle.lg_base.specs.declared.target.Target.TheVariants.{Aarch64}
use Rattle.lg_op.specs.declared.op.StoreType.TheVariants as store_type
use Rattle.lg_op.specs.declared.operand.Operand.{Operand}
use Rattle.lg_op.specs.declared.operand.Operand.TheVariants as operand
use Rattle.lg_a64.specs.declared.instruction.Instr.{Instr}
use Rattle.lg_a64.specs.declared.instruction.Instr.TheVariants as instr
use Rattle.lg_a64.specs.declared.instruction.ScaledOp.TheVariants.{Str64}
use Rattle.lg_cpu.specs.States.{CpuState}
use Rattle.lg_cpu.specs.Steps.{Run}
use Rattle.lg_temp.specs.Abis.{register_of}
use Rattle.lg_carry.specs.Processors.{Seen}
use Rattle.lg_carry.specs.Spills.{Does, with_register}
use Rattle.lg_sela_values.specs.Processor.A64Computers.{a64_scratch, a64_computer}
use Rattle.lg_sela_values.specs.Processor.A64Rows.{link, nzcv, a64_rows, a64_seen}
use Rattle.lg_sela_values.specs.Processor.Computations.{all_compute, holding, computed}
use Rattle.lg_sela_values.specs.Processor.Numbers.{number_code, LoadsNumber}
use Rattle.lg_sela_values.proofs.OfProcessor.ComputerLemmas.{is-computer, spellings-long}
use Rattle.lg_sela_values.proofs.OfProcessor.HeldLemmas.{put-same, put-other}
use Rattle.lg_sela_values.proofs.OfProcessor.NumberCodeLemmas.{numbers-are-loaded}
use Rattle.lg_sela_values.proofs.OfProcessor.RegisterLemmas.{register-small}
use Rattle.lg_carry.specs.Nodes.Straight.{spoils, from_to}
use Rattle.lg_carry.specs.Nodes.Stretches.{HasFrame}
use Rattle.lg_carry.proofs.OfValues.ComputationLemmas.{computations-do}
use Rattle.lg_carry.specs.Memory.Pushes.{IsPassed, PushesDo, HasPushCode}
use Rattle.lg_carry.specs.Memory.Stores.{IsWritable}
use Rattle.lg_carry.proofs.OfMemory.AfterLemmas.{told, seen_after, after-computed}
use Rattle.lg_carry.proofs.OfMemory.ReadLemmas.{same-some, host-small}
use Rattle.lg_sela_values.specs.declared.items.Item.{Item}
use Rattle.lg_sela_values.specs.Items.{settled, bytes_in}
use Rattle.lg_sela_values.proofs.ItemLemmas.{settled-append, settled-ones}
use Rattle.lg_sela.specs.Memory.PushCode.{into, stack_push, onto_stack, push_items, a64_push}
use Rattle.lg_sela.proofs.OfMemory.EndLemmas.{off-scratch}
use Rattle.lg_sela.proofs.OfMemory.PutLemmas.{Puts, put-operand}
use Rattle.lg_sela.proofs.OfMemory.StoreLemmas.{store-does}

-- ---- the registers of arguments
pub argument-small : (j : ℕ) → j < 8 → slice_index (argument_registers Aarch64) j < 31
argument-small (suc (suc (suc (suc (suc (suc (suc (suc j)))))))) h = absurd (omega (arith, h))
argument-small j h = omega arith

-- ---- into a register
module _ (code : List ℕ) (trash : ℕ) (q : Run CpuState) (fp : ℕ) where
  abbrev s : Seen
  s = a64_seen q

  abbrev w : ℕ → ℕ
  w = q.state.registers

  abbrev Leaves : (ℕ → ℕ) → (ℕ → Option ℕ) → List Instr → Type 0
  Leaves W M is = Does (a64_rows code trash) (from_to s W M s.flags) is fp 0 (spoils a64_scratch [])

  puts-do : (is : List Instr) (rd v : ℕ) → Puts is w q.state.flags rd v → Leaves (with_register w rd v) s.bytes is
  puts-do is rd v p =
      let mid = seen_after (a64_computer code trash) is s in
      told (a64_rows code trash) s mid.registers (with_register w rd v) s.bytes s.bytes mid.flags s.flags is fp 0 (spoils a64_scratch [])
      (λ y free. ap (λ u. u.registers y) p.puts) (λ y off. refl) (ap (λ u. u.flags) p.puts)
      (computations-do (a64_computer code trash) (is-computer code trash) is s fp 0 (spoils a64_scratch []) p.computes)

  -- ---- into a stack word
  -- instructions that compute the link alone, after which a register holds the word
  record Prepares (pre : List Instr) (from v : ℕ) : Type 0 where
    computes : all_compute pre ≡ true
    keeps : (y : ℕ) → y ≢ link → (computed pre (holding w (nzcv q.state.flags))).registers y ≡ w y
    flags : (computed pre (holding w (nzcv q.state.flags))).flags ≡ nzcv q.state.flags
    holds : (computed pre (holding w (nzcv q.state.flags))).registers from ≡ v

  by-link : (pre : List Instr) (v : ℕ) → Puts pre w q.state.flags link v → Prepares pre link v
  by-link pre v p = record {
    computes = p.computes;
    keeps = λ y ne. ap (λ u. u.registers y) p.puts ∙ put-other w link v y ne;
    flags = ap (λ u. u.flags) p.puts;
    holds = ap (λ u. u.registers link) p.puts ∙ put-same w link v;
  }

  module _ (frame j : ℕ) (few : j < 16) (f : HasFrame Aarch64 frame s) (v : ℕ) (writable : IsWritable s fp (stack_argument (w 31) (j - 8)) 8) where
    abbrev a : ℕ
    a = stack_argument (w 31) (j - 8)

    safe : LiesAbove Aarch64 (w 31) a 8
    safe y le lt = not-below Aarch64 (w 31) y (inr (omega (arith, le)))

    address : add_words (w 31) ((j - 8) * 8) ≡ a
    address = let high = f.high in omega (arith, few, high)

    stores-do : (pre : List Instr) (from : ℕ) → from < 31 → Prepares pre from v → Leaves w (stored s.bytes a 8 v) (pre ++ instr.Scaled Str64 from 31 (j - 8) ∷ [])
    stores-do pre from small p =
        let M = a64_computer code trash in
        let x = instr.Scaled Str64 from 31 (j - 8) in
        let mid = seen_after M pre s in
        let B = stored s.bytes a 8 v in
        after-computed M (is-computer code trash) pre (x ∷ []) s w B s.flags fp 0 (spoils a64_scratch []) (omega arith) p.computes
        (told (a64_rows code trash) mid mid.registers w B B mid.flags s.flags (x ∷ []) fp 0 (spoils a64_scratch []) (λ y free. p.keeps y (off-scratch y free)) (λ y off. refl) p.flags
        (store-does code trash store_type.Long mid 31 from (j - 8) a v fp (spoils a64_scratch []) small (ap (λ z. add_words z ((j - 8) * 8)) (p.keeps 31 (λ z. absurd (omega (arith, z)))) ∙ address) p.holds writable (w 31) (p.keeps 31 (λ z. absurd (omega (arith, z)))) safe))

    linked : (to : ℕ → ℕ) (from : ℕ) (x : Operand) → IsPassed Aarch64 w to x v → Leaves w (stored s.bytes a 8 v) (settled to from (into link x ++ stack_push j link ∷ []))
    linked to from x p =
        subst (Leaves w (stored s.bytes a 8 v)) (sym (settled-append to from (into link x) (stack_push j link ∷ [])))
        (stores-do (settled to from (into link x)) link (omega arith) (by-link (settled to from (into link x)) v (put-operand w q.state.flags link (omega arith) x to from v p)))

    onto : (to : ℕ → ℕ) (from : ℕ) (x : Operand) → IsPassed Aarch64 w to x v → Leaves w (stored s.bytes a 8 v) (settled to from (onto_stack j x))
    onto to from (operand.Reg r) p =
        stores-do [] (register_of Aarch64 r) (let h = register-small r in omega (arith, h)) record { computes = refl; keeps = λ y ne. refl; flags = refl; holds = same-some (w (register_of Aarch64 r)) v p.word }
    onto to from (operand.Number m) p = linked to from (operand.Number m) p
    onto to from (operand.Host name) p = linked to from (operand.Host name) p
    onto to from (operand.Label l) p = linked to from (operand.Label l) p
    onto to from (operand.Slot k) p = absurd (let z = p.word in cc)

pub pushes-do : (code : List ℕ) (trash : ℕ) → PushesDo (a64_rows code trash) a64_scratch a64_push
pushes-do code trash frame to from j x q v few f passed writable = by (nat_lt j 8) refl writable
  where
    by : (b : Bool) → nat_lt j 8 ≡ b → (b ≡ false → IsWritable (a64_seen q) (q.state.registers 29) (stack_argument (q.state.registers 31) (j - 8)) 8)
        → Does (a64_rows code trash)
        (from_to (a64_seen q) (if b then with_register q.state.registers (slice_index (argument_registers Aarch64) j) v else q.state.registers)
        (if b then q.state.bytes else stored q.state.bytes (stack_argument (q.state.registers 31) (j - 8)) 8 v) (nzcv q.state.flags))
        (settled to from (if b then into (slice_index (argument_registers Aarch64) j) x else onto_stack j x)) (q.state.registers 29) 0 (spoils a64_scratch [])
    by true e h =
        let lt : j < 8 = grind (arith, e) in
        let rd = slice_index (argument_registers Aarch64) j in
        puts-do code trash q (q.state.registers 29) (settled to from (into rd x)) rd v (put-operand q.state.registers q.state.flags rd (argument-small j lt) x to from v passed)
    by false e h = onto code trash q (q.state.registers 29) frame j few f v (h refl) to from x passed

-- ---- each operand has code
into-some : (to : ℕ → ℕ) (from rd : ℕ) (x : Operand) → rd < 31 → ((k : ℕ) → x ≢ operand.Slot k) → ((v : ℕ) → x ≡ operand.Number v → v < 2 ^ 64) → 0 < length (settled to from (into rd x))
into-some to from rd (operand.Reg r) within slots words = omega arith
into-some to from rd (operand.Number v) within slots words =
    let k : LoadsNumber rd v = numbers-are-loaded rd v within (words v refl) in let e = ap length (settled-ones to from (number_code rd v)) in let n = k.some in omega (arith, e, n)
into-some to from rd (operand.Host name) within slots words =
    let k : LoadsNumber rd (host_address name) = numbers-are-loaded rd (host_address name) within (host-small name) in
    let e = ap length (settled-ones to from (number_code rd (host_address name))) in let n = k.some in omega (arith, e, n)
into-some to from rd (operand.Label l) within slots words = omega arith
into-some to from rd (operand.Slot k) within slots words = absurd (slots k refl)

after-some : (to : ℕ → ℕ) (from : ℕ) (xs : List Item) (j : ℕ) → 0 < length (settled to from (xs ++ stack_push j link ∷ []))
after-some to from xs j =
    let e = ap length (settled-append to from xs (stack_push j link ∷ [])) in
    let l = length-append (settled to from xs) (settled to (from + bytes_in xs) (stack_push j link ∷ [])) in omega (arith, e, l)

onto-some : (to : ℕ → ℕ) (from j : ℕ) (x : Operand) → 0 < length (settled to from (onto_stack j x))
onto-some to from j (operand.Reg r) = omega arith
onto-some to from j (operand.Number v) = after-some to from (into link (operand.Number v)) j
onto-some to from j (operand.Host name) = after-some to from (into link (operand.Host name)) j
onto-some to from j (operand.Label l) = after-some to from (into link (operand.Label l)) j
onto-some to from j (operand.Slot k) = after-some to from (into link (operand.Slot k)) j

pub has-push-code : (code : List ℕ) (trash : ℕ) → HasPushCode (a64_rows code trash) a64_push
has-push-code code trash frame to from j x few slots words = let long = spellings-long (settled to from (push_items j x)) in let n = by (nat_lt j 8) refl in omega (arith, long, n)
  where
    by : (b : Bool) → nat_lt j 8 ≡ b → 0 < length (settled to from (if b then into (slice_index (argument_registers Aarch64) j) x else onto_stack j x))
    by true e = into-some to from (slice_index (argument_registers Aarch64) j) x (argument-small j (grind (arith, e))) slots words
    by false e = onto-some to from j x
