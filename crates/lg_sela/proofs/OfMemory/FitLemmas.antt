-- The items of loads, stores and arguments: their numbers are in the ranges of their instructions, there are few, and each is followed by the next.
use Rattle.std.proofs.Common.{◌≡◌, ℕ, suc, ◌+◌, ◌-◌, ◌/◌, ◌^◌, ◌<◌, ◌≤◌, Bool, true, false, List, [], ◌∷◌, ◌++◌, length, refl, arith, length-append}
use Rattle.std.specs.Prelude.{nat_lt, pos, negsuc, ◌≤ℤ◌, slice_index, if◌then◌else◌}
use Rattle.lg_base.specs.Conventions.{argument_registers}
use Rattle.lg_base.specs.HostNames.{host_address}
use Rattle.lg_base.specs.Words.{negated, signed_view}
use Rattle.lg_base.specs.declared.target.Target.TheVariants.{Aarch64}
use Rattle.lg_op.specs.declared.node.Node.{Node}
use Rattle.lg_op.specs.declared.op.Addressing.{Addressing}
use Rattle.lg_op.specs.declared.op.StoreType.{StoreType}
use Rattle.lg_op.specs.declared.op.StoreType.TheVariants as store_type
use Rattle.lg_op.specs.declared.op.ValueType.{ValueType}
use Rattle.lg_op.specs.declared.op.ValueType.TheVariants as value_type
use Rattle.lg_op.specs.declared.operand.Operand.{Operand}
use Rattle.lg_op.specs.declared.operand.Operand.TheVariants as operand
use Rattle.lg_a64.specs.declared.instruction.Instr.{Instr}
use Rattle.lg_a64.specs.declared.instruction.Instr.TheVariants as instr
use Rattle.lg_a64.specs.declared.instruction.ImmOp.TheVariants.{Addi, Subi}
use Rattle.lg_a64.specs.declared.instruction.RegOp.TheVariants as row
use Rattle.lg_a64.specs.declared.instruction.UnscaledOp.{UnscaledOp}
use Rattle.lg_a64.specs.declared.instruction.UnscaledOp.TheVariants.{Ldur, Stur}
use Rattle.lg_op.specs.Operators.{width, store_width}
use Rattle.lg_meaning.specs.Steps.{operand_at, stored_operand, slot}
use Rattle.lg_temp.specs.Abis.{register_of}
use Rattle.lg_sela_values.specs.Processor.A64Rows.{link}
use Rattle.lg_sela_values.specs.Processor.Numbers.{number_code}
use Rattle.lg_sela_values.proofs.OfProcessor.NumberCodeLemmas.{number-few}
use Rattle.lg_sela_values.proofs.OfProcessor.RegisterLemmas.{register-small}
use Rattle.lg_sela_values.specs.Processor.A64Rows.{is_straight}
use Rattle.lg_sel.proofs.FewLemmas.{AreBounded, bounded-append, bounded-more, bounded-ones, bounded-few}
use Rattle.lg_sela_values.specs.declared.items.Item.TheVariants.{One}
use Rattle.lg_carry.specs.Memory.Accesses.{Address, Base, At, Sum, Index, address_of}
use Rattle.lg_carry.specs.Memory.Operands.{named}
use Rattle.lg_sela_values.specs.declared.items.Item.{Item}
use Rattle.lg_sela_values.specs.GoodItems.{Fine, IsGood, AreGood, IsGoodItem}
use Rattle.lg_sela_values.specs.Items.{a64_holes, IsItem, StaysWithin, ones}
use Rattle.lg_sela_values.proofs.GoodLemmas.{good-append, link-fine, number-good, ones-good, good-items-are-appendable}
use Rattle.lg_sela_values.proofs.WithinLemmas.{portable}
use Rattle.lg_sela.specs.Memory.Accesses.{register, load_row, store_row, Place, at_register, at_link, is_scaled, is_small, sum_code, indexed, place_of, loading, storing, is_close, is_unscaled, unscaled, is_word, word_load, load_code, store_code}
use Rattle.lg_sela.specs.Memory.ArgumentCode.{home_distance, stack_count, home_load, argument_load, argument_code}
use Rattle.lg_sela.proofs.OfMemory.PlaceLemmas.{close_of}
use Rattle.lg_sela.specs.Memory.MemoryFits.{AreMemoryItems, MemoryItemsFit}
use Rattle.lg_sela.specs.Memory.PushCode.{into, stack_push, onto_stack, push_code}
use Rattle.lg_sela.specs.Memory.VariableArgumentCode.{direction_code, address_code, argument_offset, next_argument_load, next_argument_code}

register-fine : (x : Operand) → Fine (register x)
register-fine x = let s = register-small (named x) in (omega (arith, s), portable (named x))

-- ---- places
record IsGoodPlace (p : Place) : Type 0 where
  code : AreGood p.code
  few : length p.code ≤ 5
  base : p.base < 32
  count : p.count < 4096

at-register-good : (r : ℕ) → r < 32 → IsGoodPlace (at_register r)
at-register-good r lt = record { code = tt; few = omega arith; base = lt; count = omega arith }

at-link-good : (is : List Instr) → AreGood is → length is ≤ 5 → IsGoodPlace (at_link is)
at-link-good is h few = record { code = h; few = few; base = omega arith; count = omega arith }

sum-good : (a b : ℕ) → a < 32 → b < 32 → AreGood (instr.Reg row.Add link a b ∷ [])
sum-good a b la lb = (((omega arith, la, lb), refl, refl), tt)

sum-code-good : (a v : ℕ) → a < 32 → IsGoodPlace (at_link (sum_code a v))
sum-code-good a v la = by (is_small v) refl (is_small (negated v)) refl
  where
    by : (b : Bool) → is_small v ≡ b → (c : Bool) → is_small (negated v) ≡ c
        → IsGoodPlace (at_link (if b then instr.Imm Addi link a v false ∷ [] else if c then instr.Imm Subi link a (negated v) false ∷ [] else number_code link v ++ instr.Reg row.Add link a link ∷ []))
    by true e c k = at-link-good (instr.Imm Addi link a v false ∷ []) (((omega arith, la, grind (arith, e)), refl, refl), tt) (omega arith)
    by false e true k = at-link-good (instr.Imm Subi link a (negated v) false ∷ []) (((omega arith, la, grind (arith, k)), refl, refl), tt) (omega arith)
    by false e false k =
        let sum = instr.Reg row.Add link a link ∷ [] in
        let l = length-append (number_code link v) sum in
        let n = number-few link v in
        at-link-good (number_code link v ++ sum) (good-append (number_code link v) sum (number-good link v link-fine) (sum-good a link la (omega arith))) (omega (arith, l, n))

indexed-good : (bytes a v : ℕ) → a < 32 → IsGoodPlace (indexed bytes a v)
indexed-good bytes a v la = by (is_scaled bytes v) refl
  where
    by : (b : Bool) → is_scaled bytes v ≡ b → IsGoodPlace (if b then record { code = []; base = a; count = v / bytes } else at_link (sum_code a v))
    by true e = record { code = tt; few = omega arith; base = la; count = grind (arith, e) }
    by false e = sum-code-good a v la

place-good : (bytes : ℕ) (a : Address) → IsGoodPlace (place_of bytes a)
place-good bytes (Base a) = at-register-good (register_of Aarch64 a) (let s = register-small a in omega (arith, s))
place-good bytes (At v) = at-link-good (number_code link v) (number-good link v link-fine) (let n = number-few link v in omega (arith, n))
place-good bytes (Sum a b) = at-link-good (instr.Reg row.Add link (register_of Aarch64 a) (register_of Aarch64 b) ∷ [])
    (sum-good (register_of Aarch64 a) (register_of Aarch64 b) (let s = register-small a in omega (arith, s)) (let s = register-small b in omega (arith, s))) (omega arith)
place-good bytes (Index a v) = indexed-good bytes (register_of Aarch64 a) v (let s = register-small a in omega (arith, s))

-- ---- rows
load-row-good : (t : ValueType) (rd base count : ℕ) → Fine rd → base < 32 → count < 4096 → IsGood (instr.Scaled (load_row t) rd base count)
load-row-good value_type.Char rd base count h b c = ((h.0, b, c), h.1, refl)
load-row-good t rd base count h b c = ((h.0, b, c), h.1, refl)

store-row-good : (t : StoreType) (from base count : ℕ) → from < 32 → base < 32 → count < 4096 → IsGood (instr.Scaled (store_row t) from base count)
store-row-good store_type.Char from base count h b c = ((h, b, c), tt, refl)
store-row-good t from base count h b c = ((h, b, c), tt, refl)

-- a number of bytes that a row holds
close-number : (v : ℕ) → is_close v ≡ true → (negsuc 255 ≤ℤ signed_view v) × (signed_view v ≤ℤ pos 255)
close-number v near = by (nat_lt v (2 ^ 63)) refl
  where
    by : (b : Bool) → nat_lt v (2 ^ 63) ≡ b → (negsuc 255 ≤ℤ (if b then pos v else negsuc (2 ^ 64 - 1 - v))) × ((if b then pos v else negsuc (2 ^ 64 - 1 - v)) ≤ℤ pos 255)
    by true h = (grind (arith, near, h), grind (arith, near, h))
    by false h = (grind (arith, near, h), grind (arith, near, h))

unscaled-row-good : (o : UnscaledOp) (r base v : ℕ) → Fine r → base < 32 → is_close v ≡ true → IsGood (instr.Unscaled o r base (signed_view v))
unscaled-row-good Ldur r base v h b e = let n = close-number v e in ((h.0, b, n.0, n.1), h.1, refl)
unscaled-row-good Stur r base v h b e = let n = close-number v e in ((h.0, b, n.0, n.1), tt, refl)

-- ---- the code of nodes
-- good instructions (at most this many)
record IsFitCode (most : ℕ) (is : List Instr) : Type 0 where
  good : AreGood is
  few : length is ≤ most

after-place : (p : Place) (i : Instr) → IsGoodPlace p → IsGood i → IsFitCode 6 (p.code ++ i ∷ [])
after-place p i g h = let l = length-append p.code (i ∷ []) in let k = g.few in record { good = good-append p.code (i ∷ []) g.code (h, tt); few = omega (arith, l, k) }

unscaled-fits : (o : UnscaledOp) (r bytes : ℕ) (at : Address) → Fine r → is_unscaled bytes at ≡ true → IsFitCode 6 (unscaled o r at)
unscaled-fits o r bytes (Index a v) h e =
    let s = register-small a in record { good = (unscaled-row-good o r (register_of Aarch64 a) v h (omega (arith, s)) (close_of bytes v e), tt); few = omega arith }
unscaled-fits o r bytes at h e = record { good = tt; few = omega arith }

word-fits : (r bytes : ℕ) (at : Address) → Fine r → is_word bytes at ≡ true → IsFitCode 6 (word_load r at)
word-fits r bytes (Sum a b) h e = let s = register-small a in let k = register-small b in record { good = (((h.0, omega (arith, s), omega (arith, k)), h.1, refl), tt); few = omega arith }
word-fits r bytes (Base a) h e = unscaled-fits Ldur r bytes (Base a) h e
word-fits r bytes (At v) h e = unscaled-fits Ldur r bytes (At v) h e
word-fits r bytes (Index a v) h e = unscaled-fits Ldur r bytes (Index a v) h e

-- by a row of its own, or else by other code
either-fits : (b : Bool) (xs ys : List Instr) → (b ≡ true → IsFitCode 6 xs) → IsFitCode 6 ys → IsFitCode 6 (if b then xs else ys)
either-fits true xs ys h k = h refl
either-fits false xs ys h k = k

load-fits : (t : ValueType) (at : Addressing) (n : Node) → IsFitCode 6 (load_code t at n)
load-fits t at n =
    let a = address_of at (operand_at n 1) (operand_at n 2) in
    let p = place_of (width t) a in
    let g = place-good (width t) a in
    let rd = register (operand_at n 0) in
    let f = register-fine (operand_at n 0) in
    either-fits (is_word (width t) a) (word_load rd a) (loading t rd p) (word-fits rd (width t) a f) (after-place p (instr.Scaled (load_row t) rd p.base p.count) g (load-row-good t rd p.base p.count f g.base g.count))

store-fits : (t : StoreType) (at : Addressing) (n : Node) → IsFitCode 6 (store_code t at n)
store-fits t at n =
    let a = address_of at (operand_at n 0) (operand_at n 1) in
    let p = place_of (store_width t) a in
    let g = place-good (store_width t) a in
    let from = operand_at n (stored_operand at) in
    let f = register-fine from in
    either-fits (is_unscaled (store_width t) a) (unscaled Stur (register from) a) (storing t (register from) p) (unscaled-fits Stur (register from) (store_width t) a f)
    (after-place p (instr.Scaled (store_row t) (register from) p.base p.count) g (store-row-good t (register from) p.base p.count f.0 g.base g.count))

count-small : (t : ValueType) (k : ℕ) → k < 16 → stack_count t k < 4096
count-small value_type.Char k few = omega (arith, few)
count-small t k few = omega (arith, few)

home-number : (k : ℕ) → k < 8 → (negsuc 255 ≤ℤ negsuc (home_distance k - 1)) × (negsuc (home_distance k - 1) ≤ℤ pos 255)
home-number k few = (grind (arith, few), grind (arith, few))

home-fits : (t : ValueType) (rd k : ℕ) → Fine rd → k < 8 → IsFitCode 2 (home_load t rd k)
home-fits value_type.Long rd k h few = let n = home-number k few in record { good = (((h.0, omega arith, n.0, n.1), h.1, refl), tt); few = omega arith }
home-fits t rd k h few = record { good = (((omega arith, omega arith, omega (arith, few)), refl, refl), (load-row-good t rd link 0 h (omega arith) (omega arith), tt)); few = omega arith }

argument-load-fits : (t : ValueType) (rd k : ℕ) → Fine rd → k < 16 → IsFitCode 2 (argument_load t rd k)
argument-load-fits t rd k h few = by (nat_lt k 8) refl
  where
    by : (b : Bool) → nat_lt k 8 ≡ b
        → IsFitCode 2 (if b then home_load t rd k else instr.Scaled (load_row t) rd 29 (stack_count t k) ∷ [])
    by true e = home-fits t rd k h (grind (arith, e))
    by false e = record { good = (load-row-good t rd 29 (stack_count t k) h (omega arith) (count-small t k few), tt); few = omega arith }

argument-fits : (t : ValueType) (n : Node) → IsFitCode 2 (argument_code t n)
argument-fits t n = by (nat_lt (slot (operand_at n 1)) 16) refl
  where
    by : (b : Bool) → nat_lt (slot (operand_at n 1)) 16 ≡ b → IsFitCode 2 (if b then argument_load t (register (operand_at n 0)) (slot (operand_at n 1)) else [])
    by true e = argument-load-fits t (register (operand_at n 0)) (slot (operand_at n 1)) (register-fine (operand_at n 0)) (grind (arith, e))
    by false e = record { good = tt; few = omega arith }

direction-good : (s : ℕ) → s < 32 → AreGood (direction_code s)
direction-good s h =
    let link-is : 30 < 32 = omega arith in
    (((link-is, h, omega arith, omega arith), refl, refl), (((link-is, link-is, omega arith, omega arith), refl, refl), (((link-is, link-is, omega arith), refl, refl), tt)))

address-good : (d s : ℕ) → Fine d → s < 32 → AreGood (address_code d s)
address-good d s h k = (((h.0, k, omega arith), h.1, refl), (((h.0, h.0, omega arith, omega arith), h.1, refl), tt))

after-address : (d s : ℕ) → Fine d → Fine s → AreGood (instr.Imm Addi s s 1 false ∷ instr.Unscaled Ldur d d argument_offset ∷ [])
after-address d s h k =
    let near : (negsuc 255 ≤ℤ argument_offset) × (argument_offset ≤ℤ pos 255) = (grind arith, grind arith) in
    (((k.0, k.0, omega arith), k.1, refl), (((h.0, h.0, near.0, near.1), h.1, refl), tt))

next-argument-fits : (d s : ℕ) → Fine d → Fine s → IsFitCode 7 (next_argument_load d s)
next-argument-fits d s h k =
    let last = instr.Imm Addi s s 1 false ∷ instr.Unscaled Ldur d d argument_offset ∷ [] in
    record {
      good = good-append (direction_code s) (address_code d s ++ last) (direction-good s k.0) (good-append (address_code d s) last (address-good d s h k.0) (after-address d s h k));
      few = omega arith;
    }

-- ---- items
-- good ones (at most this many instructions and this many fixes)
abbrev AreFit : ℕ → ℕ → List Item → Type 0
AreFit most fixes xs = AreBounded a64_holes IsGoodItem most fixes xs

code-fit : (most : ℕ) (is : List Instr) → IsFitCode most is → AreFit most 0 (ones is)
code-fit most is h = bounded-ones a64_holes IsGoodItem One (λ i. refl) (λ p i. refl) most is (ones-good is h.good) h.few

joined : (m n f g : ℕ) (xs ys : List Item) → AreFit m f xs → AreFit n g ys → AreFit (m + n) (f + g) (xs ++ ys)
joined = bounded-append a64_holes IsGoodItem

fewer : (m n f g : ℕ) (xs : List Item) → m ≤ n → f ≤ g → AreFit m f xs → AreFit n g xs
fewer = bounded-more a64_holes IsGoodItem

into-fit : (rd : ℕ) (x : Operand) → Fine rd → AreFit 4 1 (into rd x)
into-fit rd (operand.Reg r) h =
    let i = instr.Reg row.Orr rd 31 (register_of Aarch64 r) in
    fewer 1 4 0 1 (ones (i ∷ [])) (omega arith) (omega arith) (code-fit 1 (i ∷ []) record { good = (((h.0, omega arith, let s = register-small r in omega (arith, s)), h.1, refl), tt); few = omega arith })
into-fit rd (operand.Number v) h = fewer 4 4 0 1 (ones (number_code rd v)) (omega arith) (omega arith) (code-fit 4 (number_code rd v) record { good = number-good rd v h; few = number-few rd v })
into-fit rd (operand.Host name) h =
    let v = host_address name in
    fewer 4 4 0 1 (ones (number_code rd v)) (omega arith) (omega arith) (code-fit 4 (number_code rd v) record { good = number-good rd v h; few = number-few rd v })
into-fit rd (operand.Label l) h = record { good = (h, tt); short = omega arith; fixed = λ p. omega arith }
into-fit rd (operand.Slot k) h = record { good = tt; short = omega arith; fixed = λ p. omega arith }

stack-push-fit : (j r : ℕ) → j < 16 → r < 32 → AreFit 1 0 (stack_push j r ∷ [])
stack-push-fit j r few lt = code-fit 1 (instr.Scaled (store_row store_type.Long) r 31 (j - 8) ∷ []) record { good = (store-row-good store_type.Long r 31 (j - 8) lt (omega arith) (omega (arith, few)), tt); few = omega arith }

linked-fit : (j : ℕ) (x : Operand) → j < 16 → AreFit 5 1 (into link x ++ stack_push j link ∷ [])
linked-fit j x few = joined 4 1 1 0 (into link x) (stack_push j link ∷ []) (into-fit link x link-fine) (stack-push-fit j link few (omega arith))

onto-fit : (j : ℕ) (x : Operand) → j < 16 → AreFit 5 1 (onto_stack j x)
onto-fit j (operand.Reg r) few = fewer 1 5 0 1 (stack_push j (register_of Aarch64 r) ∷ []) (omega arith) (omega arith) (stack-push-fit j (register_of Aarch64 r) few (let s = register-small r in omega (arith, s)))
onto-fit j (operand.Number v) few = linked-fit j (operand.Number v) few
onto-fit j (operand.Host name) few = linked-fit j (operand.Host name) few
onto-fit j (operand.Label l) few = linked-fit j (operand.Label l) few
onto-fit j (operand.Slot k) few = linked-fit j (operand.Slot k) few

-- the registers of arguments
pub argument-fine : (j : ℕ) → Fine (slice_index (argument_registers Aarch64) j)
argument-fine (suc (suc (suc (suc (suc (suc (suc (suc j)))))))) = (omega arith, refl)
argument-fine j = (omega arith, refl)

push-fit : (j : ℕ) (n : Node) → j < 16 → AreFit 5 1 (push_code j n)
push-fit j n few = by (nat_lt j 8)
  where
    by : (b : Bool) → AreFit 5 1 (if b then into (slice_index (argument_registers Aarch64) j) (operand_at n 0) else onto_stack j (operand_at n 0))
    by true =
        let rd = slice_index (argument_registers Aarch64) j in
        fewer 4 5 1 1 (into rd (operand_at n 0)) (omega arith) (omega arith) (into-fit rd (operand_at n 0) (argument-fine j))
    by false = onto-fit j (operand_at n 0) few

-- ---- what is asked of items
are-items : (most fixes : ℕ) (xs : List Item) → fixes ≤ 1 → AreFit most fixes xs → AreMemoryItems most xs
are-items = bounded-few a64_holes IsGoodItem is_straight IsItem (StaysWithin false) good-items-are-appendable

pub memory-items-fit : MemoryItemsFit
memory-items-fit = record {
  loads = λ t at n. are-items 6 0 (ones (load_code t at n)) (omega arith) (code-fit 6 (load_code t at n) (load-fits t at n));
  stores = λ t at n. are-items 6 0 (ones (store_code t at n)) (omega arith) (code-fit 6 (store_code t at n) (store-fits t at n));
  arguments = λ t n. are-items 2 0 (ones (argument_code t n)) (omega arith) (code-fit 2 (argument_code t n) (argument-fits t n));
  next_arguments = λ n. are-items 7 0 (ones (next_argument_code n)) (omega arith) (code-fit 7 (next_argument_code n) (next-argument-fits (register (operand_at n 0)) (register (operand_at n 1)) (register-fine (operand_at n 0)) (register-fine (operand_at n 1))));
  pushes = λ j n few. are-items 5 1 (push_code j n) (omega arith) (push-fit j n few);
}
