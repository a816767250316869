-- Instructions and items that write no register that is outside of the conventions.
use Rattle.std.proofs.Common.{◌≡◌, ℕ, ◌/◌, ◌%◌, ◌^◌, Bool, true, false, List, [], ◌∷◌, ◌++◌, refl, ap, Option, Some, None}
use Rattle.std.specs.Prelude.{◌==◌, nat_lt, if◌then◌else◌, not, nat_eq}
use Rattle.std.specs.List.{list_any}
use Rattle.lg_a64.specs.declared.instruction.RegOp.TheVariants.{Adds, Subs, Ands}
use Rattle.lg_a64.specs.declared.instruction.RegOp.{RegOp}
use Rattle.lg_base.specs.Conventions.{stack_register}
use Rattle.lg_base.specs.declared.target.Target.TheVariants.{Aarch64}
use Rattle.lg_carry.specs.Outside.{is_outside, written_registers}
use Rattle.lg_sela_values.specs.Processor.Destinations.{WritesWithin, IsWithin, destination, branch_destination, written, reg_destination}
use Rattle.lg_sela_values.specs.Processor.Numbers.{quarter_code, first_code, second_code, third_code, fourth_code, is_low, positive_code, number_code}
use Rattle.lg_op.specs.declared.operand.Reg.{Reg}
use Rattle.lg_op.specs.declared.operand.Reg.TheVariants.{R0}
use Rattle.lg_a64.specs.declared.instruction.Instr.{Instr}
use Rattle.lg_a64.specs.declared.instruction.Instr.TheVariants.{Wide}
use Rattle.lg_a64.specs.declared.instruction.WideOp.TheVariants.{Movn, Movk}
use Rattle.lg_base.specs.Words.{complement}
use Rattle.lg_sel.proofs.ListLemmas as lists
use Rattle.lg_sel.specs.Holes.{Each}
use Rattle.lg_sela_values.specs.declared.items.Item.{Item}
use Rattle.lg_sela_values.specs.declared.items.Item.TheVariants.{One, Branch, CondBranch, Address}
use Rattle.lg_sela_values.specs.Items.{ones, StaysWithin, StayWithin}
use Rattle.lg_temp.specs.Abis.{register_of}

-- ---- registers
abbrev pub In : ℕ → Type 0
In rd = is_outside Aarch64 false rd ≡ false

pub portable : (r : Reg) → In (register_of Aarch64 r)
portable R0 = refl
portable o = refl

-- so may rows that set flags write it
pub flagged : (rd : ℕ) → In rd → IsWithin false (written rd)
flagged rd h = by (rd == 31)
  where
    by : (b : Bool) → IsWithin false (if b then None else Some rd)
    by true = tt
    by false = h

-- and each row of registers may write one that is not outside
pub of-row : (op : RegOp) (rd : ℕ) → In rd → IsWithin false (reg_destination op rd)
of-row Adds rd h = flagged rd h
of-row Subs rd h = flagged rd h
of-row Ands rd h = flagged rd h
of-row op rd h = h

-- ---- lists
abbrev pub Within : List Instr → Type 0
Within is = Each (WritesWithin false) is

pub join : (xs ys : List Instr) → Within xs → Within ys → Within (xs ++ ys)
join = lists.each-append (WritesWithin false)

pub stay-append : (xs ys : List Item) → StayWithin false xs → StayWithin false ys → StayWithin false (xs ++ ys)
stay-append = lists.each-append (StaysWithin false)

pub stay-ones : (is : List Instr) → Within is → StayWithin false (ones is)
stay-ones = lists.each-ones (StaysWithin false) One (WritesWithin false) (λ i h. h)

pub quarter : (rd part hw : ℕ) → In rd → Within (quarter_code rd part hw)
quarter rd part hw h = by (part == 0)
  where
    by : (b : Bool) → Within (if b then [] else Wide Movk rd part hw ∷ [])
    by true = tt
    by false = (h, tt)

positive : (rd v : ℕ) → In rd → Within (positive_code rd v)
positive rd v h = by (is_low v) (v % 2 ^ 32 == 0) (v % 2 ^ 48 == 0)
  where
    second : Within (quarter_code rd (v / 2 ^ 32 % 2 ^ 16) 2 ++ quarter_code rd (v / 2 ^ 48 % 2 ^ 16) 3)
    second = join (quarter_code rd (v / 2 ^ 32 % 2 ^ 16) 2) (quarter_code rd (v / 2 ^ 48 % 2 ^ 16) 3) (quarter rd (v / 2 ^ 32 % 2 ^ 16) 2 h) (quarter rd (v / 2 ^ 48 % 2 ^ 16) 3 h)

    by : (a b c : Bool) → Within (if a then first_code rd v else if b then (if c then fourth_code rd v else third_code rd v) else second_code rd v)
    by true b c = (h, join (quarter_code rd (v / 2 ^ 16 % 2 ^ 16) 1) _ (quarter rd (v / 2 ^ 16 % 2 ^ 16) 1 h) second)
    by false true true = (h, tt)
    by false true false = (h, quarter rd (v / 2 ^ 48 % 2 ^ 16) 3 h)
    by false false c = (h, second)

pub number : (rd v : ℕ) → In rd → Within (number_code rd v)
number rd v h = by (nat_lt (complement v) (2 ^ 32)) (v / 2 ^ 16 % 2 ^ 16 == 65535)
  where
    by : (a b : Bool) → Within (if a then Wide Movn rd (complement v % 2 ^ 16) 0 ∷ (if b then [] else Wide Movk rd (v / 2 ^ 16 % 2 ^ 16) 1 ∷ []) else positive_code rd v)
    by true true = (h, tt)
    by true false = (h, (h, tt))
    by false b = positive rd v h

-- ---- code that moves the stack pointer may write what other code may
moving : (rd : ℕ) → In rd → is_outside Aarch64 true rd ≡ false
moving rd h = by (list_any (nat_eq rd) (written_registers Aarch64 false)) (list_any (nat_eq rd) (written_registers Aarch64 true)) h
    (lists.any-front (nat_eq rd) (written_registers Aarch64 false) (stack_register Aarch64 ∷ []))
  where
    by : (b c : Bool) → not b ≡ false → (b ≡ true → c ≡ true) → not c ≡ false
    by true c h k = ap not (k refl)
    by false c h k = cc

may-moving : (o : Option ℕ) → IsWithin false o → IsWithin true o
may-moving None h = tt
may-moving (Some rd) h = moving rd h

pub instruction-moving : (i : Instr) → WritesWithin false i → WritesWithin true i
instruction-moving i h = may-moving (destination i) h

item-moving : (x : Item) → StaysWithin false x → StaysWithin true x
item-moving (One i) h = instruction-moving i h
item-moving (Branch op label) h = may-moving (branch_destination op) h
item-moving (CondBranch cond label) h = tt
item-moving (Address rd label) h = moving rd h

abbrev pub Moving : List Instr → Type 0
Moving is = Each (WritesWithin true) is

pub moving-join : (xs ys : List Instr) → Moving xs → Moving ys → Moving (xs ++ ys)
moving-join = lists.each-append (WritesWithin true)

pub moving-append : (xs ys : List Item) → StayWithin true xs → StayWithin true ys → StayWithin true (xs ++ ys)
moving-append = lists.each-append (StaysWithin true)

pub moving-ones : (is : List Instr) → Moving is → StayWithin true (ones is)
moving-ones = lists.each-ones (StaysWithin true) One (WritesWithin true) (λ i h. h)

pub items-moving : (xs : List Item) → StayWithin false xs → StayWithin true xs
items-moving = lists.each-weaker (StaysWithin false) (StaysWithin true) item-moving
