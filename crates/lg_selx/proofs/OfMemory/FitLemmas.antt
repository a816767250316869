-- The items of loads, stores and arguments: their numbers are in the ranges of their instructions, there are few, and each is followed by the next.
use Rattle.std.proofs.Common.{◌≡◌, ◌≢◌, ℕ, zero, suc, ◌+◌, ◌-◌, ◌*◌, ◌^◌, ◌<◌, ◌≤◌, Bool, true, false, List, [], ◌∷◌, ◌++◌, length, refl, arith, length-append}
use Rattle.std.specs.Prelude.{◌==◌, nat_lt, slice_index, if◌then◌else◌, ℤ, pos, negsuc}
use Rattle.std.proofs.lemmas.Int.{ints}
use Rattle.lg_base.specs.Conventions.{argument_registers}
use Rattle.lg_base.specs.HostNames.{host_address}
use Rattle.lg_base.specs.Words.{signed_view, is_half}
use Rattle.lg_base.specs.declared.target.Target.TheVariants.{X86_64}
use Rattle.lg_op.specs.declared.node.Node.{Node}
use Rattle.lg_op.specs.declared.op.Addressing.{Addressing}
use Rattle.lg_op.specs.declared.op.Addressing.TheVariants as addressing
use Rattle.lg_op.specs.declared.op.StoreType.{StoreType}
use Rattle.lg_op.specs.declared.op.StoreType.TheVariants as store_type
use Rattle.lg_op.specs.declared.op.ValueType.{ValueType}
use Rattle.lg_op.specs.declared.operand.Operand.{Operand}
use Rattle.lg_op.specs.declared.operand.Operand.TheVariants as operand
use Rattle.lg_x86.specs.Spelling.{IsNumber32}
use Rattle.lg_x86.specs.declared.instruction.Instr.{Instr}
use Rattle.lg_x86.specs.declared.instruction.Instr.TheVariants as instr
use Rattle.lg_x86.specs.declared.instruction.ImmOp.{ImmOp}
use Rattle.lg_x86.specs.declared.instruction.ImmOp.TheVariants.{Addi, Ori}
use Rattle.lg_x86.specs.declared.instruction.LoadOp.{LoadOp}
use Rattle.lg_x86.specs.declared.instruction.LoadOp.TheVariants.{Lea, Ld64}
use Rattle.lg_x86.specs.declared.instruction.RmRegOp.TheVariants.{Mov}
use Rattle.lg_x86.specs.declared.instruction.StoreOp.TheVariants.{St64}
use Rattle.lg_meaning.specs.Steps.{operand_at, stored_operand, slot}
use Rattle.lg_temp.specs.Abis.{register_of}
use Rattle.lg_temp.specs.declared.choice.Choice.{Choice}
use Rattle.lg_temp.specs.declared.choice.Choice.TheVariants.{Free, Own, Spill}
use Rattle.lg_selx_values.specs.Processor.Numbers.{number_row}
use Rattle.lg_selx_values.proofs.OfProcessor.NumberCodeLemmas.{half-number}
use Rattle.lg_carry.specs.Memory.Accesses.{Address, Base, At, Sum, Index, address_of, IsAddress}
use Rattle.lg_carry.specs.Memory.Operands.{named, number}
use Rattle.lg_carry.proofs.OfMemory.ReadLemmas.{host-small}
use Rattle.lg_selx_values.specs.Processor.X86Rows.{is_straight, slot_offset}
use Rattle.lg_sel.proofs.FewLemmas.{AreBounded, bounded-append, bounded-more, bounded-ones, bounded-few}
use Rattle.lg_selx_values.specs.declared.items.Item.TheVariants.{One}
use Rattle.lg_selx_values.specs.declared.items.Item.{Item}
use Rattle.lg_selx_values.specs.GoodItems.{Fine, IsGood, AreGood, IsGoodItem}
use Rattle.lg_selx_values.specs.Items.{ones, x86_holes, IsItem, StaysWithin}
use Rattle.lg_selx_values.proofs.GoodLemmas.{good-append, number-good, ones-good, good-items-are-appendable}
use Rattle.lg_selx_values.proofs.WithinLemmas.{portable}
use Rattle.lg_selx_values.specs.Scratch.{again}
use Rattle.lg_selx_values.specs.ValueItems.{save, restore, saved_items}
use Rattle.lg_selx_values.proofs.RegisterLemmas.{register-portable}
use Rattle.lg_selx.specs.Memory.Accesses.{register, load_row, store_row, Place, at_register, at_spare, indexed, place_of, remade, behind, indexes, load_spare, load_into, store_from, load_code, store_code, store_items}
use Rattle.lg_selx.specs.Memory.ArgumentCode.{argument_offset, argument_load, argument_code}
use Rattle.lg_selx.specs.Memory.MemoryFits.{AreMemoryItems, MemoryItemsFit}
use Rattle.lg_selx.specs.Memory.PushCode.{into, stack_push, onto_stack, push_code}
use Rattle.lg_selx.specs.Memory.VariableArgumentCode.{next_code, next_argument_code}
use Rattle.lg_selx.proofs.OfMemory.TemporaryLemmas.{AreOne, choices-are, one-fits}
use Rattle.lg_carry.specs.Values.Parts.{first_taken}

register-fine : (x : Operand) → Fine (register x)
register-fine x = ((register-portable (named x)).small, portable (named x))

-- ---- numbers of 32 bits
near-number : (n : ℕ) → n < 0x40000000 → IsNumber32 (pos n)
near-number n h = (grind (arith, ints, h), grind (arith, ints, h))

low-number : (n : ℕ) → n < 0x40000000 → IsNumber32 (negsuc n)
low-number n h = (grind (arith, ints, h), grind (arith, ints, h))

-- ---- spare registers
load-spare-fine : (d : ℕ) (at : Address) → Fine d → Fine (load_spare d at)
load-spare-fine d at h = by (indexes d at)
  where
    by : (b : Bool) → Fine (if b then 5 else d)
    by true = (omega arith, refl)
    by false = h

-- good instructions (at most this many)
record IsFitCode (most : ℕ) (is : List Instr) : Type 0 where
  good : AreGood is
  few : length is ≤ most

again-good : (frame : ℕ) → frame < 0x40000000 → IsFitCode 1 (again frame)
again-good frame h = record { good = (((omega arith, omega arith, near-number (frame - 16) (omega (arith, h))), (refl, tt), refl), tt); few = omega arith }

remade-good : (frame t : ℕ) → frame < 0x40000000 → IsFitCode 1 (remade frame t)
remade-good frame t h = by (t == 5)
  where
    by : (c : Bool) → IsFitCode 1 (if c then again frame else [])
    by true = again-good frame h
    by false = record { good = tt; few = omega arith }

-- ---- places
record IsGoodPlace (p : Place) : Type 0 where
  code : AreGood p.code
  few : length p.code ≤ 2
  base : p.base < 16
  disp : IsNumber32 p.disp

at-register-good : (r : ℕ) (disp : ℤ) → r < 16 → IsNumber32 disp → IsGoodPlace (at_register r disp)
at-register-good r disp lt h = record { code = tt; few = omega arith; base = lt; disp = h }

at-spare-good : (t : ℕ) (is : List Instr) → Fine t → AreGood is → length is ≤ 2 → IsGoodPlace (at_spare t is)
at-spare-good t is fine h few = record { code = h; few = few; base = fine.0; disp = near-number 0 (omega arith) }

indexed-good : (t a v : ℕ) → Fine t → a < 16 → a ≢ 4 → v < 2 ^ 64 → IsGoodPlace (indexed t a v)
indexed-good t a v fine la off small = by (is_half v) refl
  where
    by : (b : Bool) → is_half v ≡ b → IsGoodPlace (if b then at_register a (signed_view v) else at_spare t (number_row t v ∷ (instr.Lea2 t t a ∷ [])))
    by true e = at-register-good a (signed_view v) la (half-number v small e)
    by false e =
        at-spare-good t (number_row t v ∷ (instr.Lea2 t t a ∷ [])) fine
        (number-good t v fine small, (((fine.0, fine.0, la, off), (fine.1, tt), refl), tt)) (omega arith)

place-good : (t : ℕ) (at : Address) → Fine t → IsAddress at → IsGoodPlace (place_of t at)
place-good t (Base a) fine ok = at-register-good (register_of X86_64 a) (pos 0) (register-portable a).small (near-number 0 (omega arith))
place-good t (At v) fine ok = at-spare-good t (number_row t v ∷ []) fine (number-good t v fine ok, tt) (omega arith)
place-good t (Sum a b) fine ok =
    at-spare-good t (instr.Lea2 t (register_of X86_64 a) (register_of X86_64 b) ∷ []) fine
    (((fine.0, (register-portable a).small, (register-portable b).small, (register-portable b).no_stack), (fine.1, tt), refl), tt) (omega arith)
place-good t (Index a v) fine ok = indexed-good t (register_of X86_64 a) v fine (register-portable a).small (register-portable a).no_stack ok

-- ---- addresses of nodes
number-word : (x : Operand) → ((v : ℕ) → x ≡ operand.Number v → v < 2 ^ 64) → number x < 2 ^ 64
number-word (operand.Number v) h = h v refl
number-word (operand.Host name) h = host-small name
number-word (operand.Reg r) h = omega arith
number-word x h = omega arith

address-fine : (at : Addressing) (x y : Operand) → ((v : ℕ) → x ≡ operand.Number v → v < 2 ^ 64) → ((v : ℕ) → y ≡ operand.Number v → v < 2 ^ 64)
    → IsAddress (address_of at x y)
address-fine addressing.Register x y h k = tt
address-fine addressing.Immediate x y h k = number-word x h
address-fine addressing.RegisterRegister x y h k = tt
address-fine addressing.RegisterImmediate (operand.Reg r) y h k = number-word y k
address-fine addressing.RegisterImmediate (operand.Number v) y h k = number-word (operand.Number v) h
address-fine addressing.RegisterImmediate (operand.Host name) y h k = number-word (operand.Host name) h
address-fine addressing.RegisterImmediate (operand.Label l) y h k = number-word (operand.Label l) h
address-fine addressing.RegisterImmediate (operand.Slot s) y h k = number-word (operand.Slot s) h

-- ---- rows
load-good : (o : LoadOp) (rd base : ℕ) (disp : ℤ) → Fine rd → base < 16 → IsNumber32 disp → IsGood (instr.Load o rd base disp)
load-good o rd base disp h b d = ((h.0, b, d), (h.1, tt), refl)

store-row-good : (t : StoreType) (base : ℕ) (disp : ℤ) (from : ℕ) → base < 16 → IsNumber32 disp → from < 16 → IsGood (instr.Store (store_row t) base disp from)
store-row-good t base disp from b d h = ((b, d, h), tt, refl)

-- ---- the code of nodes
after-good : (frame : ℕ) (p : Place) → frame < 0x40000000 → IsFitCode 1 (behind frame p)
after-good frame p h = by p.spare
  where
    by : (b : Bool) → IsFitCode 1 (if b then remade frame p.base else [])
    by true = remade-good frame p.base h
    by false = record { good = tt; few = omega arith }

around-place : (frame : ℕ) (p : Place) (i : Instr) → frame < 0x40000000 → IsGoodPlace p → IsGood i → IsFitCode 4 (p.code ++ i ∷ behind frame p)
around-place frame p i lt g h =
    let b = after-good frame p lt in
    let l = length-append p.code (i ∷ behind frame p) in
    let k = g.few in
    let f = b.few in record { good = good-append p.code (i ∷ behind frame p) g.code (h, b.good); few = omega (arith, l, k, f) }

load-fits : (frame : ℕ) (t : ValueType) (d : ℕ) (at : Address) → frame < 0x40000000 → Fine d → IsAddress at → IsFitCode 4 (load_into frame t d at)
load-fits frame t d at lt fine ok =
    let p = place_of (load_spare d at) at in
    let g = place-good (load_spare d at) at (load-spare-fine d at fine) ok in
    around-place frame p (instr.Load (load_row t) d p.base p.disp) lt g (load-good (load_row t) d p.base p.disp fine g.base g.disp)

store-fits : (t : StoreType) (from u : ℕ) (at : Address) → from < 16 → Fine u → IsAddress at → IsFitCode 3 (store_from t from u at)
store-fits t from u at few fine ok =
    let p = place_of u at in
    let g = place-good u at fine ok in
    let x = instr.Store (store_row t) p.base p.disp from in
    let l = length-append p.code (x ∷ []) in
    let k = g.few in record { good = good-append p.code (x ∷ []) g.code (store-row-good t p.base p.disp from g.base g.disp few, tt); few = omega (arith, l, k) }

offset-number : (k : ℕ) → k < 16 → IsNumber32 (argument_offset k)
offset-number k few = by (nat_lt k 6)
  where
    by : (b : Bool) → IsNumber32 (if b then negsuc (31 + 8 * k) else pos (16 + 8 * (k - 6)))
    by true = low-number (31 + 8 * k) (omega (arith, few))
    by false = near-number (16 + 8 * (k - 6)) (omega (arith, few))

argument-fits : (frame : ℕ) (t : ValueType) (n : Node) → IsFitCode 1 (argument_code frame t n)
argument-fits frame t n = by (nat_lt (slot (operand_at n 1)) 16) refl
  where
    by : (b : Bool) → nat_lt (slot (operand_at n 1)) 16 ≡ b → IsFitCode 1 (if b then argument_load t (register (operand_at n 0)) (slot (operand_at n 1)) else [])
    by true e =
        let k = slot (operand_at n 1) in
        record {
          good = (load-good (load_row t) (register (operand_at n 0)) 5 (argument_offset k) (register-fine (operand_at n 0)) (omega arith) (offset-number k (grind (arith, e))), tt);
          few = omega arith;
        }
    by false e = record { good = tt; few = omega arith }

imm-good : (o : ImmOp) (rd n : ℕ) → Fine rd → n < 0x40000000 → IsGood (instr.Imm o rd (pos n))
imm-good o rd n h few = ((h.0, near-number n few), (h.1, tt), refl)

next-fits : (rd rs : ℕ) → Fine rd → Fine rs → IsFitCode 8 (next_code rd rs)
next-fits rd rs d s =
    record {
      good = (
        load-good Lea rd rs (negsuc 5) d s.0 (low-number 5 (omega arith)),
        (
          ((d.0, omega arith), (d.1, tt), refl),
          (
            imm-good Ori rd 1 d (omega arith),
            (
              ((d.0, s.0), (d.1, tt), refl),
              (
                ((d.0, omega arith), (d.1, tt), refl),
                (
                  ((d.0, omega arith), (d.1, tt), refl),
                  (load-good Ld64 rd rd (negsuc 31) d d.0 (low-number 31 (omega arith)), (imm-good Addi rs 1 s (omega arith), tt)),
                ),
              ),
            ),
          ),
        ),
      );
      few = omega arith;
    }

-- ---- items
-- good ones (at most this many instructions and this many fixes)
abbrev AreFit : ℕ → ℕ → List Item → Type 0
AreFit most fixes xs = AreBounded x86_holes IsGoodItem most fixes xs

code-fit : (most : ℕ) (is : List Instr) → IsFitCode most is → AreFit most 0 (ones is)
code-fit most is h = bounded-ones x86_holes IsGoodItem One (λ i. refl) (λ p i. refl) most is (ones-good is h.good) h.few

joined : (m n f g : ℕ) (xs ys : List Item) → AreFit m f xs → AreFit n g ys → AreFit (m + n) (f + g) (xs ++ ys)
joined = bounded-append x86_holes IsGoodItem

fewer : (m n f g : ℕ) (xs : List Item) → m ≤ n → f ≤ g → AreFit m f xs → AreFit n g xs
fewer = bounded-more x86_holes IsGoodItem

number-fit : (rd v : ℕ) → Fine rd → v < 2 ^ 64 → AreFit 1 1 (ones (number_row rd v ∷ []))
number-fit rd v h small =
    fewer 1 1 0 1 (ones (number_row rd v ∷ [])) (omega arith) (omega arith)
    (code-fit 1 (number_row rd v ∷ []) record { good = (number-good rd v h small, tt); few = omega arith })

into-fit : (rd : ℕ) (x : Operand) → Fine rd → ((v : ℕ) → x ≡ operand.Number v → v < 2 ^ 64) → AreFit 1 1 (into rd x)
into-fit rd (operand.Reg r) h words =
    let i = instr.RmReg Mov rd (register_of X86_64 r) in
    fewer 1 1 0 1 (ones (i ∷ [])) (omega arith) (omega arith)
    (code-fit 1 (i ∷ []) record { good = (((h.0, (register-portable r).small), (h.1, tt), refl), tt); few = omega arith })
into-fit rd (operand.Number v) h words = number-fit rd v h (words v refl)
into-fit rd (operand.Host name) h words = number-fit rd (host_address name) h (host-small name)
into-fit rd (operand.Label l) h words = record { good = (h, tt); short = omega arith; fixed = λ p. omega arith }
into-fit rd (operand.Slot k) h words = record { good = tt; short = omega arith; fixed = λ p. omega arith }

push-good : (j r : ℕ) → j < 16 → r < 16 → IsGood (instr.Store St64 4 (pos (8 * (j - 6))) r)
push-good j r few lt = store-row-good store_type.Long 4 (pos (8 * (j - 6))) r (omega arith) (near-number (8 * (j - 6)) (omega (arith, few))) lt

through-fit : (frame j : ℕ) (x : Operand) → frame < 0x40000000 → j < 16 → ((v : ℕ) → x ≡ operand.Number v → v < 2 ^ 64)
    → AreFit 3 1 (into 5 x ++ stack_push j 5 ∷ ones (again frame))
through-fit frame j x lt few words =
    joined 1 2 1 0 (into 5 x) (stack_push j 5 ∷ ones (again frame)) (into-fit 5 x (omega arith, refl) words)
    (code-fit 2 (instr.Store St64 4 (pos (8 * (j - 6))) 5 ∷ again frame)
    record { good = (push-good j 5 few (omega arith), (again-good frame lt).good); few = omega arith })

onto-fit : (frame j : ℕ) (x : Operand) → frame < 0x40000000 → j < 16 → ((v : ℕ) → x ≡ operand.Number v → v < 2 ^ 64) → AreFit 3 1 (onto_stack frame j x)
onto-fit frame j (operand.Reg r) lt few words =
    let i = instr.Store St64 4 (pos (8 * (j - 6))) (register_of X86_64 r) in
    fewer 1 3 0 1 (ones (i ∷ [])) (omega arith) (omega arith)
    (code-fit 1 (i ∷ []) record { good = (push-good j (register_of X86_64 r) few (register-portable r).small, tt); few = omega arith })
onto-fit frame j (operand.Number v) lt few words = through-fit frame j (operand.Number v) lt few words
onto-fit frame j (operand.Host name) lt few words = through-fit frame j (operand.Host name) lt few words
onto-fit frame j (operand.Label l) lt few words = through-fit frame j (operand.Label l) lt few words
onto-fit frame j (operand.Slot k) lt few words = through-fit frame j (operand.Slot k) lt few words

-- the registers of arguments
pub argument-fine : (j : ℕ) → Fine (slice_index (argument_registers X86_64) j)
argument-fine zero = (omega arith, refl)
argument-fine (suc zero) = (omega arith, refl)
argument-fine (suc (suc zero)) = (omega arith, refl)
argument-fine (suc (suc (suc zero))) = (omega arith, refl)
argument-fine (suc (suc (suc (suc zero)))) = (omega arith, refl)
argument-fine (suc (suc (suc (suc (suc zero))))) = (omega arith, refl)
argument-fine (suc (suc (suc (suc (suc (suc j)))))) = (omega arith, refl)

push-fit : (frame j : ℕ) (n : Node) → frame < 0x40000000 → j < 16 → ((v : ℕ) → operand_at n 0 ≡ operand.Number v → v < 2 ^ 64) → AreFit 3 1 (push_code frame j n)
push-fit frame j n lt few words = by (nat_lt j 6)
  where
    by : (b : Bool) → AreFit 3 1 (if b then into (slice_index (argument_registers X86_64) j) (operand_at n 0) else onto_stack frame j (operand_at n 0))
    by true =
        let rd = slice_index (argument_registers X86_64) j in
        fewer 1 3 1 1 (into rd (operand_at n 0)) (omega arith) (omega arith) (into-fit rd (operand_at n 0) (argument-fine j) words)
    by false = onto-fit frame j (operand_at n 0) lt few words

-- a store with its choice
slot-good : (k : ℕ) → k ≡ 0 → IsNumber32 (slot_offset k)
slot-good k e = low-number (95 + 8 * k) (omega (arith, e))

stored-fit : (code : ℕ → List Instr) → ((u : ℕ) → Fine u → IsFitCode 3 (code u)) → (choices : List Choice) → AreOne choices
    → AreFit 5 0 (saved_items choices (ones (code (first_taken choices))))
stored-fit code good [] h = fewer 3 5 0 0 (ones (code 0)) (omega arith) (omega arith) (code-fit 3 (code 0) (good 0 (omega arith, refl)))
stored-fit code good (Free u ∷ []) h = fewer 3 5 0 0 (ones (code u)) (omega arith) (omega arith) (code-fit 3 (code u) (good u h))
stored-fit code good (Own u ∷ []) h = absurd h
stored-fit code good (choice ∷ next ∷ choices) h = absurd h
stored-fit code good (Spill u k ∷ []) h =
    let n = slot-good k h.1 in
    let front : AreFit 1 0 (ones (save u k ∷ [])) = code-fit 1 (save u k ∷ []) record { good = (((omega arith, n, h.0.0), tt, refl), tt); few = omega arith } in
    let last : AreFit 1 0 (ones (restore u k ∷ [])) = code-fit 1 (restore u k ∷ []) record { good = (load-good Ld64 u 5 (slot_offset k) h.0 (omega arith) n, tt); few = omega arith } in
    joined 1 4 0 0 (ones (save u k ∷ [])) (ones (code u) ++ ones (restore u k ∷ [])) front
    (joined 3 1 0 0 (ones (code u)) (ones (restore u k ∷ [])) (code-fit 3 (code u) (good u h.0)) last)

-- ---- what is asked of items
are-items : (most fixes : ℕ) (xs : List Item) → fixes ≤ 1 → AreFit most fixes xs → AreMemoryItems most xs
are-items = bounded-few x86_holes IsGoodItem is_straight IsItem (StaysWithin false) good-items-are-appendable

pub memory-items-fit : MemoryItemsFit
memory-items-fit = record {
  loads = λ frame t at n lt words.
      are-items 4 0 (ones (load_code frame t at n)) (omega arith)
      (code-fit 4 (load_code frame t at n)
      (load-fits frame t (register (operand_at n 0)) (address_of at (operand_at n 1) (operand_at n 2)) lt (register-fine (operand_at n 0))
      (address-fine at (operand_at n 1) (operand_at n 2) (words 1) (words 2))));
  stores = λ t at n live staged choices words are.
      are-items 5 0 (store_items t at n choices) (omega arith)
      (stored-fit (store_code t at n)
      (λ u fine. store-fits t (register (operand_at n (stored_operand at))) u (address_of at (operand_at n 0) (operand_at n 1))
      (register-fine (operand_at n (stored_operand at))).0 fine (address-fine at (operand_at n 0) (operand_at n 1) (words 0) (words 1)))
      choices (choices-are at n live staged choices are));
  choices = λ at n live staged choices are. one-fits choices (choices-are at n live staged choices are);
  arguments = λ frame t n lt. are-items 1 0 (ones (argument_code frame t n)) (omega arith) (code-fit 1 (argument_code frame t n) (argument-fits frame t n));
  next_arguments = λ n.
      are-items 8 0 (ones (next_argument_code n)) (omega arith)
      (code-fit 8 (next_argument_code n) (next-fits (register (operand_at n 0)) (register (operand_at n 1)) (register-fine (operand_at n 0)) (register-fine (operand_at n 1))));
  pushes = λ frame j n lt few words. are-items 3 1 (push_code frame j n) (omega arith) (push-fit frame j n lt few words);
}
