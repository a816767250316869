-- Passing an argument of a call.
use Rattle.std.proofs.Common.{◌≡◌, ◌≢◌, ℕ, zero, suc, ◌-◌, ◌*◌, ◌<◌, Bool, true, false, List, [], ◌∷◌, ◌++◌, inr, Option, None, refl, sym, ap, ◌∙◌, subst, arith, length}
use Rattle.std.specs.Prelude.{nat_lt, if◌then◌else◌, slice_index, pos}
use Rattle.std.specs.List.{list_all}
use Rattle.std.specs.Option.{option_and_then}
use Rattle.lg_base.specs.Conventions.{argument_registers}
use Rattle.lg_base.specs.HostNames.{host_address}
use Rattle.lg_base.specs.Layout.{stack_argument}
use Rattle.lg_base.specs.Spaces.{stored}
use Rattle.lg_base.specs.Words.{add_words}
use Rattle.lg_base.specs.declared.target.Target.TheVariants.{X86_64}
use Rattle.lg_op.specs.declared.op.StoreType.TheVariants as store_type
use Rattle.lg_op.specs.declared.operand.Operand.{Operand}
use Rattle.lg_op.specs.declared.operand.Operand.TheVariants as operand
use Rattle.lg_x86.specs.Spelling.{spelling}
use Rattle.lg_x86.specs.declared.instruction.Instr.{Instr}
use Rattle.lg_x86.specs.declared.instruction.Instr.TheVariants as instr
use Rattle.lg_x86.specs.declared.instruction.RmRegOp.TheVariants.{Mov}
use Rattle.lg_x86.specs.declared.instruction.StoreOp.TheVariants.{St64}
use Rattle.lg_cpu.specs.HostSteps.{put}
use Rattle.lg_cpu.specs.States.{CpuState}
use Rattle.lg_cpu.specs.Steps.{Run}
use Rattle.lg_temp.specs.Abis.{register_of}
use Rattle.lg_carry.specs.Blocks.{spellings}
use Rattle.lg_carry.specs.Processors.{Seen}
use Rattle.lg_carry.specs.Spills.{Does, with_register}
use Rattle.lg_selx_values.specs.Processor.MakingNodes.{scene}
use Rattle.lg_carry.proofs.BelowLemmas.{not-below}
use Rattle.lg_selx_values.specs.Processor.Makings.{makes, is_still}
use Rattle.lg_selx_values.specs.Processor.Numbers.{number_row}
use Rattle.lg_selx_values.specs.Processor.X86Computers.{x86_scratch}
use Rattle.lg_selx_values.specs.Processor.X86Rows.{x86_rows, x86_seen}
use Rattle.lg_selx_values.proofs.OfProcessor.MakingLemmas.{makes-append, makings-still, still-above, above-append, above-first}
use Rattle.lg_carry.specs.Nodes.Straight.{spoils, from_to}
use Rattle.lg_carry.specs.Nodes.Stretches.{HasFrame}
use Rattle.lg_carry.proofs.OfNodes.ByteLemmas.{stored-same}
use Rattle.lg_carry.specs.Memory.Accesses.{LiesAbove}
use Rattle.lg_carry.specs.Memory.Pushes.{IsPassed, PushesDo, HasPushCode}
use Rattle.lg_carry.specs.Memory.Stores.{IsWritable}
use Rattle.lg_carry.proofs.OfMemory.ReadLemmas.{same-some}
use Rattle.lg_selx_values.specs.declared.items.Item.{Item}
use Rattle.lg_selx_values.specs.Items.{settled, ones}
use Rattle.lg_selx_values.proofs.ItemLemmas.{settled-append}
use Rattle.lg_selx_values.specs.Scratch.{again}
use Rattle.lg_selx.proofs.OfControl.SpareLemmas.{framed, pointer-again}
use Rattle.lg_selx.specs.Memory.PushCode.{into, stack_push, onto_stack, x86_push}
use Rattle.lg_selx.proofs.OfMemory.EndLemmas.{makes-does, access-above, some-spelled}
use Rattle.lg_selx.proofs.OfMemory.PutLemmas.{operand-put}
use Rattle.lg_selx.proofs.OfMemory.StoreLemmas.{store-made}

-- ---- the registers of arguments
argument-small : (j : ℕ) → j < 6 → slice_index (argument_registers X86_64) j < 16
argument-small zero h = omega arith
argument-small (suc zero) h = omega arith
argument-small (suc (suc zero)) h = omega arith
argument-small (suc (suc (suc zero))) h = omega arith
argument-small (suc (suc (suc (suc zero)))) h = omega arith
argument-small (suc (suc (suc (suc (suc zero))))) h = omega arith
argument-small (suc (suc (suc (suc (suc (suc j)))))) h = absurd (omega (arith, h))

module _ (code : List ℕ) (trash : ℕ) (q : Run CpuState) where
  abbrev s : Seen
  s = x86_seen q

  abbrev w : ℕ → ℕ
  w = q.state.registers

  abbrev Leaves : (ℕ → ℕ) → (ℕ → Option ℕ) → List Instr → Type 0
  Leaves W M is = Does (x86_rows code trash) (from_to s W M s.flags) is (w 5) 0 (spoils x86_scratch [])

  -- what puts an operand into a register touches nothing
  into-still : (to : ℕ → ℕ) (from rd : ℕ) (x : Operand) (v : ℕ) → rd < 16 → IsPassed X86_64 w to x v → list_all is_still (settled to from (into rd x)) ≡ true
  into-still to from rd x v small p =
      makings-still (settled to from (into rd x)) w s.flags (scene (put w rd v) s.flags (λ y. None)) (operand-put w s.flags (λ y. None) rd small x to from v p)

  -- ---- into a register
  into-does : (to : ℕ → ℕ) (from rd : ℕ) (x : Operand) (v : ℕ) → rd < 16 → IsPassed X86_64 w to x v → Leaves (with_register w rd v) s.bytes (settled to from (into rd x))
  into-does to from rd x v small p =
      makes-does code trash (settled to from (into rd x)) s (with_register w rd v) s.bytes s.flags (w 5) (spoils x86_scratch [])
      (λ bytes same. record {
        end = bytes;
        above = still-above (settled to from (into rd x)) (scene w s.flags bytes) (into-still to from rd x v small p);
        makes_it = operand-put w s.flags bytes rd small x to from v p;
        bytes_are = same;
      })

  -- ---- into a stack word
  module _ (frame j : ℕ) (few : j < 16) (f : HasFrame X86_64 frame s) (v : ℕ) (writable : IsWritable s (w 5) (stack_argument (w 4) (j - 6)) 8) where
    abbrev a : ℕ
    a = stack_argument (w 4) (j - 6)

    address : add_words (w 4) (8 * (j - 6)) ≡ a
    address = let high = f.high in omega (arith, few, high)

    safe : LiesAbove X86_64 (w 4) a 8
    safe y le lt = not-below X86_64 (w 4) y (inr (omega (arith, le)))

    register-does : (r : ℕ) → w r ≡ v → Leaves w (stored s.bytes a 8 v) (instr.Store St64 4 (pos (8 * (j - 6))) r ∷ [])
    register-does r holds =
        makes-does code trash (instr.Store St64 4 (pos (8 * (j - 6))) r ∷ []) s w (stored s.bytes a 8 v) s.flags (w 5) (spoils x86_scratch [])
        (λ bytes same. record {
          end = stored bytes a 8 v;
          above = (access-above w 4 (pos (8 * (j - 6))) a 8 (w 4) 8 refl address refl safe, λ z e. tt);
          makes_it = ap (option_and_then (makes []))
              (store-made store_type.Long (scene w s.flags bytes) 4 (pos (8 * (j - 6))) r a v address (writable bytes same) holds);
          bytes_are = λ y off. stored-same s.bytes bytes a 8 v y (same y off);
        })

    abbrev stores : List Instr
    stores = instr.Store St64 4 (pos (8 * (j - 6))) 5 ∷ again frame

    through-does : (to : ℕ → ℕ) (from : ℕ) (x : Operand) → IsPassed X86_64 w to x v
        → Leaves w (stored s.bytes a 8 v) (settled to from (into 5 x ++ stack_push j 5 ∷ ones (again frame)))
    through-does to from x p =
        subst (Leaves w (stored s.bytes a 8 v)) (sym (settled-append to from (into 5 x) (stack_push j 5 ∷ ones (again frame))))
        (makes-does code trash (settled to from (into 5 x) ++ stores) s w (stored s.bytes a 8 v) s.flags (w 5) (spoils x86_scratch [])
        (λ bytes same. record {
          end = stored bytes a 8 v;
          above = above-append (settled to from (into 5 x)) stores (scene w s.flags bytes) (scene (put w 5 v) s.flags bytes)
              (operand-put w s.flags bytes 5 (omega arith) x to from v p)
              (still-above (settled to from (into 5 x)) (scene w s.flags bytes) (into-still to from 5 x v (omega arith) p))
              (above-first (instr.Store St64 4 (pos (8 * (j - 6))) 5) (again frame) (scene (put w 5 v) s.flags bytes) (scene (put w 5 v) s.flags (stored bytes a 8 v))
              (store-made store_type.Long (scene (put w 5 v) s.flags bytes) 4 (pos (8 * (j - 6))) 5 a v address (writable bytes same) refl)
              (access-above (put w 5 v) 4 (pos (8 * (j - 6))) a 8 (w 4) 8 refl address refl safe)
              (still-above (again frame) (scene (put w 5 v) s.flags (stored bytes a 8 v)) refl));
          makes_it = makes-append (settled to from (into 5 x)) stores (scene w s.flags bytes) (scene (put w 5 v) s.flags bytes)
              (scene w s.flags (stored bytes a 8 v)) (operand-put w s.flags bytes 5 (omega arith) x to from v p)
              (ap (option_and_then (makes (again frame)))
              (store-made store_type.Long (scene (put w 5 v) s.flags bytes) 4 (pos (8 * (j - 6))) 5 a v address (writable bytes same) refl)
              ∙ ap (option_and_then (makes [])) (pointer-again frame v w s.flags (stored bytes a 8 v) (framed frame s f)));
          bytes_are = λ y off. stored-same s.bytes bytes a 8 v y (same y off);
        }))

    onto-does : (to : ℕ → ℕ) (from : ℕ) (x : Operand) → IsPassed X86_64 w to x v → Leaves w (stored s.bytes a 8 v) (settled to from (onto_stack frame j x))
    onto-does to from (operand.Reg r) p = register-does (register_of X86_64 r) (same-some (w (register_of X86_64 r)) v p.word)
    onto-does to from (operand.Number m) p = through-does to from (operand.Number m) p
    onto-does to from (operand.Host name) p = through-does to from (operand.Host name) p
    onto-does to from (operand.Label l) p = through-does to from (operand.Label l) p
    onto-does to from (operand.Slot k) p = absurd (let z = p.word in cc)

pub pushes-do : (code : List ℕ) (trash : ℕ) → PushesDo (x86_rows code trash) x86_scratch x86_push
pushes-do code trash frame to from j x q v few f passed writable = by (nat_lt j 6) refl writable
  where
    by : (b : Bool) → nat_lt j 6 ≡ b → (b ≡ false → IsWritable (x86_seen q) (q.state.registers 5) (stack_argument (q.state.registers 4) (j - 6)) 8)
        → Does (x86_rows code trash)
        (from_to (x86_seen q) (if b then with_register q.state.registers (slice_index (argument_registers X86_64) j) v else q.state.registers)
        (if b then q.state.bytes else stored q.state.bytes (stack_argument (q.state.registers 4) (j - 6)) 8 v) q.state.flags)
        (settled to from (if b then into (slice_index (argument_registers X86_64) j) x else onto_stack frame j x)) (q.state.registers 5) 0 (spoils x86_scratch [])
    by true e h = into-does code trash q to from (slice_index (argument_registers X86_64) j) x v (argument-small j (grind (arith, e))) passed
    by false e h = onto-does code trash q frame j few f v (h refl) to from x passed

-- ---- each operand has code
into-some : (to : ℕ → ℕ) (from rd : ℕ) (x : Operand) → ((k : ℕ) → x ≢ operand.Slot k) → 0 < length (spellings spelling (settled to from (into rd x)))
into-some to from rd (operand.Reg r) slots = some-spelled [] (instr.RmReg Mov rd (register_of X86_64 r)) []
into-some to from rd (operand.Number v) slots = some-spelled [] (number_row rd v) []
into-some to from rd (operand.Host name) slots = some-spelled [] (number_row rd (host_address name)) []
into-some to from rd (operand.Label l) slots = some-spelled [] (instr.Movi32 rd (to l.0)) []
into-some to from rd (operand.Slot k) slots = absurd (slots k refl)

after-some : (to : ℕ → ℕ) (from frame j : ℕ) (xs : List Item) → 0 < length (spellings spelling (settled to from (xs ++ stack_push j 5 ∷ ones (again frame))))
after-some to from frame j xs =
    subst (λ is. 0 < length (spellings spelling is)) (sym (settled-append to from xs (stack_push j 5 ∷ ones (again frame))))
    (some-spelled (settled to from xs) (instr.Store St64 4 (pos (8 * (j - 6))) 5) (again frame))

onto-some : (to : ℕ → ℕ) (from frame j : ℕ) (x : Operand) → 0 < length (spellings spelling (settled to from (onto_stack frame j x)))
onto-some to from frame j (operand.Reg r) = some-spelled [] (instr.Store St64 4 (pos (8 * (j - 6))) (register_of X86_64 r)) []
onto-some to from frame j (operand.Number v) = after-some to from frame j (into 5 (operand.Number v))
onto-some to from frame j (operand.Host name) = after-some to from frame j (into 5 (operand.Host name))
onto-some to from frame j (operand.Label l) = after-some to from frame j (into 5 (operand.Label l))
onto-some to from frame j (operand.Slot k) = after-some to from frame j (into 5 (operand.Slot k))

pub has-push-code : (code : List ℕ) (trash : ℕ) → HasPushCode (x86_rows code trash) x86_push
has-push-code code trash frame to from j x few slots words = by (nat_lt j 6)
  where
    by : (b : Bool) → 0 < length (spellings spelling (settled to from (if b then into (slice_index (argument_registers X86_64) j) x else onto_stack frame j x)))
    by true = into-some to from (slice_index (argument_registers X86_64) j) x slots
    by false = onto-some to from frame j x
