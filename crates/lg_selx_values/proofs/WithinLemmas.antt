-- Instructions and items that write no register that is outside of the conventions.
use Rattle.std.proofs.Common.{◌≡◌, ℕ, false, List, ◌++◌, refl, Bool, true, [], ◌∷◌, ap, pos}
use Rattle.std.specs.Prelude.{not, nat_eq}
use Rattle.std.specs.List.{list_any}
use Rattle.lg_base.specs.Conventions.{stack_register}
use Rattle.lg_base.specs.declared.target.Target.TheVariants.{X86_64}
use Rattle.lg_carry.specs.Outside.{is_outside, written_registers}
use Rattle.lg_selx_values.specs.Processor.Destinations.{WritesWithin, AreWithin, destinations}
use Rattle.lg_op.specs.declared.operand.Reg.{Reg}
use Rattle.lg_op.specs.declared.operand.Reg.TheVariants.{R0}
use Rattle.lg_x86.specs.declared.instruction.Instr.{Instr}
use Rattle.lg_sel.proofs.ListLemmas as lists
use Rattle.lg_sel.specs.Holes.{Each}
use Rattle.lg_selx_values.specs.declared.items.Item.{Item}
use Rattle.lg_selx_values.specs.declared.items.Item.TheVariants.{One, Jump, Address}
use Rattle.lg_selx_values.specs.Items.{ones, StaysWithin, StayWithin, jump_by}
use Rattle.lg_temp.specs.Abis.{register_of}

-- ---- registers
abbrev pub In : ℕ → Type 0
In reg = is_outside X86_64 false reg ≡ false

pub portable : (r : Reg) → In (register_of X86_64 r)
portable R0 = refl
portable o = refl

-- ---- lists
abbrev pub Within : List Instr → Type 0
Within is = Each (WritesWithin false) is

pub join : (xs ys : List Instr) → Within xs → Within ys → Within (xs ++ ys)
join = lists.each-append (WritesWithin false)

pub stay-append : (xs ys : List Item) → StayWithin false xs → StayWithin false ys → StayWithin false (xs ++ ys)
stay-append = lists.each-append (StaysWithin false)

pub stay-ones : (is : List Instr) → Within is → StayWithin false (ones is)
stay-ones = lists.each-ones (StaysWithin false) One (WritesWithin false) (λ i h. h)

-- ---- code that moves the stack pointer may write what other code may
moving : (rd : ℕ) → In rd → is_outside X86_64 true rd ≡ false
moving rd h = by (list_any (nat_eq rd) (written_registers X86_64 false)) (list_any (nat_eq rd) (written_registers X86_64 true)) h
    (lists.any-front (nat_eq rd) (written_registers X86_64 false) (stack_register X86_64 ∷ []))
  where
    by : (b c : Bool) → not b ≡ false → (b ≡ true → c ≡ true) → not c ≡ false
    by true c h k = ap not (k refl)
    by false c h k = cc

all-moving : (rs : List ℕ) → AreWithin false rs → AreWithin true rs
all-moving [] h = tt
all-moving (r ∷ rs) h = (moving r h.0, all-moving rs h.1)

pub instruction-moving : (i : Instr) → WritesWithin false i → WritesWithin true i
instruction-moving i h = all-moving (destinations i) h

item-moving : (x : Item) → StaysWithin false x → StaysWithin true x
item-moving (One i) h = instruction-moving i h
item-moving (Jump kind label) h = instruction-moving (jump_by kind (pos 0)) h
item-moving (Address reg label) h = moving reg h

abbrev pub Moving : List Instr → Type 0
Moving is = Each (WritesWithin true) is

pub moving-join : (xs ys : List Instr) → Moving xs → Moving ys → Moving (xs ++ ys)
moving-join = lists.each-append (WritesWithin true)

pub moving-append : (xs ys : List Item) → StayWithin true xs → StayWithin true ys → StayWithin true (xs ++ ys)
moving-append = lists.each-append (StaysWithin true)

pub moving-ones : (is : List Instr) → Moving is → StayWithin true (ones is)
moving-ones = lists.each-ones (StaysWithin true) One (WritesWithin true) (λ i h. h)

pub items-moving : (xs : List Item) → StayWithin false xs → StayWithin true xs
items-moving = lists.each-weaker (StaysWithin false) (StaysWithin true) item-moving
