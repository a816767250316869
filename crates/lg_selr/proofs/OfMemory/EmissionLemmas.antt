-- Items of loads and stores that are appended to others.
use Rattle.std.proofs.Common.{◌≡◌, ℕ, zero, suc, ◌+◌, ◌-◌, ◌*◌, ◌≤◌, Bool, true, false, List, [], ◌∷◌, ◌++◌, ap, ◌∙◌, arith, length, length-append}
use Rattle.std.specs.Prelude.{ℤ, pos, ◌==◌, ◌%◌, if◌then◌else◌}
use Rattle.lg_rv.specs.declared.instruction.Instr.{Instr}
use Rattle.lg_rv.specs.declared.instruction.BranchOp.TheVariants.{Beq}
use Rattle.lg_rv.specs.declared.instruction.UpperOp.TheVariants.{Lui}
use Rattle.lg_op.specs.declared.op.StoreType.TheVariants as store_type
use Rattle.lg_selr_values.specs.Processor.Numbers.{is_short, high_part, low_part, number_code}
use Rattle.lg_op.specs.declared.op.StoreType.{StoreType}
use Rattle.lg_op.specs.declared.op.ValueType.{ValueType}
use Rattle.lg_rv.specs.declared.instruction.Instr.TheVariants as instr
use Rattle.lg_rv.specs.declared.instruction.ImmOp.TheVariants as imm
use Rattle.lg_rv.specs.declared.instruction.RegOp.TheVariants as reg
use Rattle.lg_base.specs.HostNames.{host_address}
use Rattle.lg_op.specs.declared.operand.Operand.{Operand}
use Rattle.lg_op.specs.declared.operand.Operand.TheVariants as operand
use Rattle.lg_meaning.specs.Steps.{operand_at, stored_operand}
use Rattle.lg_op.specs.declared.node.Node.{Node}
use Rattle.lg_op.specs.declared.op.Addressing.{Addressing}
use Rattle.lg_op.specs.Operators.{width, store_width}
use Rattle.lg_carry.specs.Memory.Accesses.{Address, Base, At, Sum, Index, address_of}
use Rattle.lg_selr.proofs.OfMemory.AccessFitLemmas.{narrow}
use Rattle.lg_selr_values.specs.declared.items.Item.{Item}
use Rattle.lg_selr_values.specs.Items.{words_in, ones}
use Rattle.lg_selr.specs.Memory.Accesses.{link, register, at_link, near, indexed, is_low, absolute, is_whole, place_of, load_row, store_row, lower_bytes, higher_bytes, fork, slow_load, store_bytes, store_skip, slow_store, load_at, store_at, load_code, store_code}
use Rattle.lg_selr_values.proofs.ItemLemmas.{words_append, words-ones}
use Rattle.lg_selr.specs.Memory.PushCode.{into}
use Rattle.lg_selr_values.proofs.EmissionLemmas.{words_more, number_few}
use Rattle.lg_temp.specs.Abis.{register_of}
use Rattle.lg_base.specs.declared.target.Target.TheVariants.{Riscv64}

-- ---- what is appended leaves room
-- the words of items that were appended
pub appended : (xs zs ys : List Item) → ys ≡ xs ++ zs → words_in ys ≡ words_in xs + words_in zs
appended xs zs ys e = ap words_in e ∙ words_append xs zs

near_few : (w a v : ℕ) → length (near w a v).code ≤ 9
near_few w a v = by (v % w == 0)
  where
    by : (b : Bool) → length (if b then record { code = []; base = a; offset = low_part v } else at_link (instr.Imm imm.Addi link a (low_part v) ∷ [])).code ≤ 9
    by true = omega arith
    by false = omega arith

index_few : (w a v : ℕ) → length (indexed w a v).code ≤ 9
index_few w a v = by (is_short v)
  where
    by : (b : Bool) → length (if b then near w a v else at_link (number_code link v ++ instr.Reg reg.Add link a link ∷ [])).code ≤ 9
    by true = near_few w a v
    by false = let f = number_few link v in let l = length-append (number_code link v) (instr.Reg reg.Add link a link ∷ []) in omega (arith, f, l)

absolute_few : (w v : ℕ) → length (absolute w v).code ≤ 9
absolute_few w v = by (is_low w v)
  where
    by : (b : Bool) → length (if b then record { code = instr.Upper Lui link (high_part v) ∷ []; base = link; offset = low_part v } else at_link (number_code link v)).code ≤ 9
    by true = omega arith
    by false = let f = number_few link v in omega (arith, f)

place_few : (w : ℕ) (a : Address) → length (place_of w a).code ≤ 9
place_few w (Base a) = omega arith
place_few w (At v) = absolute_few w v
place_few w (Sum a b) = omega arith
place_few w (Index a v) = index_few w (register_of Riscv64 a) v

pub place_words : (xs : List Item) (w : ℕ) (a : Address) → words_in (xs ++ ones (place_of w a).code) ≤ words_in xs + 9
place_words xs w a = let m = words_more xs (place_of w a).code in let f = place_few w a in omega (arith, m, f)

lower_few : (d u k : ℕ) → length (lower_bytes d u k) ≡ 3 * k
lower_few d u zero = omega arith
lower_few d u (suc k) = let h = lower_few d u k in omega (arith, h)

higher_few : (from u n k : ℕ) → length (higher_bytes from u n k) ≡ 2 * k
higher_few from u n zero = omega arith
higher_few from u n (suc k) = let h = higher_few u u (n + 1) k in omega (arith, h)

pub fork_few : (u base w skip : ℕ) (slow : List Instr) (fast : Instr) → length (fork u base w skip slow fast) ≡ length slow + 4
fork_few u base w skip slow fast = let l = length-append slow (instr.Branch Beq 0 0 (pos 8) ∷ fast ∷ []) in omega (arith, l)

pub slow_load_few : (t : ValueType) (d u base : ℕ) (offset : ℤ) → length (slow_load t d u base offset) ≤ 23
slow_load_few t d u base offset = let l = lower_few d u (width t - 1) in let few = narrow t in omega (arith, l, few)

pub store_bytes_few : (t : StoreType) (from u : ℕ) → length (store_bytes t from u) ≤ 14
store_bytes_few store_type.Char from u = let l = higher_few from u 1 0 in omega (arith, l)
store_bytes_few store_type.Short from u = let l = higher_few from u 1 1 in omega (arith, l)
store_bytes_few store_type.Int from u = let l = higher_few from u 1 3 in omega (arith, l)
store_bytes_few store_type.Long from u = omega arith

load_at_few : (whole : Bool) (t : ValueType) (d u base : ℕ) (offset : ℤ) → length (load_at whole t d u base offset) ≤ 27
load_at_few true t d u base offset = omega arith
load_at_few false t d u base offset =
    let f = fork_few u base (width t) (12 * width t + 4) (slow_load t d u base offset) (instr.Imm (load_row t) d base offset) in let l = slow_load_few t d u base offset in omega (arith, f, l)

store_at_few : (whole : Bool) (t : StoreType) (from u base : ℕ) (offset : ℤ) → length (store_at whole t from u base offset) ≤ 19
store_at_few true t from u base offset = omega arith
store_at_few false t from u base offset =
    let f = fork_few u base (store_width t) (store_skip t) (slow_store t from u base offset) (instr.Store (store_row t) base from offset) in let l = store_bytes_few t from u in omega (arith, f, l)

pub load_words : (xs : List Item) (t : ValueType) (at : Addressing) (n : Node) (u : ℕ) → words_in (xs ++ ones (load_code t at n u)) ≤ words_in xs + 36
load_words xs t at n u =
    let a = address_of at (operand_at n 1) (operand_at n 2) in
    let p = place_of (width t) a in
    let w = words_more xs (load_code t at n u) in
    let l = length-append p.code (load_at (is_whole (width t) a) t (register (operand_at n 0)) u p.base p.offset) in
    let f = place_few (width t) a in
    let g = load_at_few (is_whole (width t) a) t (register (operand_at n 0)) u p.base p.offset in
    omega (arith, w, l, f, g)

pub store_words : (xs : List Item) (t : StoreType) (at : Addressing) (n : Node) (u : ℕ) → words_in (xs ++ ones (store_code t at n u)) ≤ words_in xs + 28
store_words xs t at n u =
    let a = address_of at (operand_at n 0) (operand_at n 1) in
    let p = place_of (store_width t) a in
    let w = words_more xs (store_code t at n u) in
    let l = length-append p.code (store_at (is_whole (store_width t) a) t (register (operand_at n (stored_operand at))) u p.base p.offset) in
    let f = place_few (store_width t) a in
    let g = store_at_few (is_whole (store_width t) a) t (register (operand_at n (stored_operand at))) u p.base p.offset in
    omega (arith, w, l, f, g)

-- ---- arguments
pub into_few : (rd : ℕ) (x : Operand) → words_in (into rd x) ≤ 8
into_few rd (operand.Number v) = let w = words-ones (number_code rd v) in let f = number_few rd v in omega (arith, w, f)
into_few rd (operand.Host name) = let w = words-ones (number_code rd (host_address name)) in let f = number_few rd (host_address name) in omega (arith, w, f)
into_few rd x = omega arith
