-- The items of loads and stores: their numbers are in range, the next one follows each, and they write no register outside of the conventions.
use Rattle.std.proofs.Common.{◌≡◌, ℕ, zero, suc, ◌+◌, ◌-◌, ◌*◌, ◌%◌, ◌<◌, ◌≤◌, ◌⊎◌, inl, inr, Bool, true, false, List, [], ◌∷◌, ◌++◌, refl, arith}
use Rattle.std.specs.Prelude.{ℤ, pos, negsuc, ◌≤ℤ◌, ◌==◌, if◌then◌else◌}
use Rattle.std.proofs.lemmas.Int.{ints}
use Rattle.lg_base.specs.declared.target.Target.TheVariants.{Riscv64}
use Rattle.lg_selr_values.specs.Processor.Numbers.{is_short, high_part, low_part, number_code}
use Rattle.lg_selr_values.proofs.OfProcessor.NumberCodeLemmas.{low-small}
use Rattle.lg_selr_values.proofs.OfProcessor.RegisterLemmas.{register-small}
use Rattle.lg_meaning.specs.Steps.{operand_at, stored_operand}
use Rattle.lg_op.specs.declared.node.Node.{Node}
use Rattle.lg_op.specs.declared.op.Addressing.{Addressing}
use Rattle.lg_op.specs.declared.op.StoreType.{StoreType}
use Rattle.lg_op.specs.declared.op.StoreType.TheVariants as store_type
use Rattle.lg_op.specs.declared.op.ValueType.{ValueType}
use Rattle.lg_op.specs.declared.op.ValueType.TheVariants as value_type
use Rattle.lg_op.specs.declared.operand.Reg.{Reg}
use Rattle.lg_op.specs.Operators.{width, store_width}
use Rattle.lg_rv.specs.declared.instruction.Instr.{Instr}
use Rattle.lg_rv.specs.declared.instruction.Instr.TheVariants as instr
use Rattle.lg_rv.specs.declared.instruction.ImmOp.TheVariants as imm
use Rattle.lg_rv.specs.declared.instruction.RegOp.TheVariants as reg
use Rattle.lg_rv.specs.declared.instruction.StoreOp.TheVariants as row
use Rattle.lg_carry.specs.Memory.Accesses.{Address, Base, At, Sum, Index, address_of}
use Rattle.lg_carry.specs.Memory.Operands.{named}
use Rattle.lg_selr_values.specs.GoodItems.{Fine, IsGood, AreGood, IsGoodItem}
use Rattle.lg_selr_values.specs.Items.{NameLabels, IsItem, StaysWithin, ones}
use Rattle.lg_selr_values.specs.declared.items.Item.{Item}
use Rattle.lg_selr_values.specs.declared.items.Item.TheVariants.{One}
use Rattle.lg_selr_values.specs.declared.items.Item.TheVariants as items
use Rattle.lg_sel.specs.Holes.{Each}
use Rattle.lg_sel.proofs.ListLemmas as lists
use Rattle.lg_selr_values.specs.Processor.Destinations.{WritesWithin}
use Rattle.lg_rv.specs.Spelling.{IsInstr}
use Rattle.lg_rv.specs.declared.instruction.BranchOp.TheVariants.{Beq}
use Rattle.lg_rv.specs.declared.instruction.UpperOp.TheVariants.{Lui}
use Rattle.lg_selr_values.proofs.GoodLemmas.{good-append, link-fine, number-good}
use Rattle.lg_selr_values.proofs.ItemLemmas.{names-ones}
use Rattle.lg_selr_values.proofs.WithinLemmas.{portable}
use Rattle.lg_selr.specs.Memory.Accesses.{link, Place, at_link, near, indexed, is_low, absolute, is_whole, place_of, load_row, store_row, lower_bytes, higher_bytes, halves, store_bytes, store_skip, tester, fork, slow_load, slow_store, load_at, store_at, access_needs, load_code, store_code, load_items, store_items}
use Rattle.lg_selr.specs.Memory.MemoryFits.{AreAccessItems}
use Rattle.lg_carry.specs.Values.Parts.{first_taken}
use Rattle.lg_selr_values.specs.ValueItems.{saved_items}
use Rattle.lg_selr_values.proofs.ValueFitLemmas.{saved-names, temporary-good}
use Rattle.lg_temp.specs.Abis.{register_of}
use Rattle.lg_temp.specs.Choices.{AreFor}
use Rattle.lg_temp.specs.Chosen.{around}
use Rattle.lg_temp.specs.declared.choice.Choice.{Choice}
use Rattle.lg_temp.specs.declared.choice.Choice.TheVariants.{Free, Own, Spill}
use Rattle.lg_temp.specs.declared.choice.Need.TheVariants.{Any}

-- ---- places
record IsGoodPlace (p : Place) : Type 0 where
  code : AreGood p.code
  base : p.base < 32
  low : negsuc 2047 ≤ℤ p.offset
  high : p.offset ≤ℤ pos 2047

at-link-good : (is : List Instr) → AreGood is → IsGoodPlace (at_link is)
at-link-good is h = record { code = h; base = omega arith; low = omega (arith, ints); high = omega (arith, ints) }

sum-good : (a b : ℕ) → a < 32 → b < 32 → AreGood (instr.Reg reg.Add link a b ∷ [])
sum-good a b h k = (((omega arith, h, k), refl, refl), tt)

near-good : (w a v : ℕ) → a < 32 → IsGoodPlace (near w a v)
near-good w a v h = by (v % w == 0)
  where
    by : (b : Bool) → IsGoodPlace (if b then record { code = []; base = a; offset = low_part v } else at_link (instr.Imm imm.Addi link a (low_part v) ∷ []))
    by true = let k = low-small v in record { code = tt; base = h; low = k.0; high = k.1 }
    by false = at-link-good (instr.Imm imm.Addi link a (low_part v) ∷ []) (((omega arith, h, (low-small v).0, (low-small v).1), refl, refl), tt)

indexed-good : (w a v : ℕ) → a < 32 → IsGoodPlace (indexed w a v)
indexed-good w a v h = by (is_short v)
  where
    by : (b : Bool) → IsGoodPlace (if b then near w a v else at_link (number_code link v ++ instr.Reg reg.Add link a link ∷ []))
    by true = near-good w a v h
    by false = at-link-good (number_code link v ++ instr.Reg reg.Add link a link ∷ []) (good-append (number_code link v) (instr.Reg reg.Add link a link ∷ []) (number-good link v link-fine) (sum-good a link h (omega arith)))

absolute-good : (w v : ℕ) → IsGoodPlace (absolute w v)
absolute-good w v = by (is_low w v)
  where
    by : (b : Bool) → IsGoodPlace (if b then record { code = instr.Upper Lui link (high_part v) ∷ []; base = link; offset = low_part v } else at_link (number_code link v))
    by true = let k = low-small v in record { code = (((omega arith, omega arith), refl, refl), tt); base = omega arith; low = k.0; high = k.1 }
    by false = at-link-good (number_code link v) (number-good link v link-fine)

place-good : (w : ℕ) (a : Address) → IsGoodPlace (place_of w a)
place-good w (Base a) = record { code = tt; base = register-small a; low = omega (arith, ints); high = omega (arith, ints) }
place-good w (At v) = absolute-good w v
place-good w (Sum a b) = at-link-good (instr.Reg reg.Add link (register_of Riscv64 a) (register_of Riscv64 b) ∷ []) (sum-good (register_of Riscv64 a) (register_of Riscv64 b) (register-small a) (register-small b))
place-good w (Index a v) = indexed-good w (register_of Riscv64 a) v (register-small a)

-- ---- bytes
lower-good : (d u k : ℕ) → Fine d → Fine u → k ≤ 7 → AreGood (lower_bytes d u k)
lower-good d u zero h g few = tt
lower-good d u (suc k) h g few = (
  ((h.0, h.0, omega arith, λ e. absurd (omega (arith, e))), h.1, refl),
  (((g.0, omega arith, omega (arith, ints), omega (arith, ints, few)), g.1, refl), (((h.0, h.0, g.0), h.1, refl), lower-good d u k h g (omega (arith, few)))),
)

higher-good : (from u n k : ℕ) → from < 32 → Fine u → n + k ≤ 8 → AreGood (higher_bytes from u n k)
higher-good from u n zero h g few = tt
higher-good from u n (suc k) h g few = (
  ((g.0, h, omega arith, λ e. absurd (omega (arith, e))), g.1, refl),
  (((omega arith, g.0, omega (arith, ints), omega (arith, ints, few)), tt, refl), higher-good u u (n + 1) k g.0 g (omega (arith, few))),
)

pub narrow : (t : ValueType) → width t ≤ 8
narrow value_type.Char = omega arith
narrow t = omega arith

pub narrow-store : (t : StoreType) → store_width t ≤ 8
narrow-store store_type.Char = omega arith
narrow-store t = omega arith

-- ---- instructions that are in range and within the conventions, and may branch
abbrev IsSound : Instr → Type 0
IsSound i = IsInstr i × WritesWithin false i

abbrev AreSound : List Instr → Type 0
AreSound is = Each IsSound is

sound : (is : List Instr) → AreGood is → AreSound is
sound = lists.each-weaker IsGood IsSound (λ i h. (h.0, h.1))

sound-append : (xs ys : List Instr) → AreSound xs → AreSound ys → AreSound (xs ++ ys)
sound-append = lists.each-append IsSound

tester-fine : (u base : ℕ) → Fine u → Fine (tester u base)
tester-fine u base h = by (base == 1)
  where
    by : (b : Bool) → Fine (if b then u else link)
    by true = h
    by false = link-fine

fork-sound : (u base w skip : ℕ) (slow : List Instr) (fast : Instr) → Fine u → base < 32 → w ≤ 8 → skip ≤ 4095 → skip % 2 ≡ 0 → AreSound slow → IsSound fast → AreSound (fork u base w skip slow fast)
fork-sound u base w skip slow fast g low few most even h k =
    let t = tester-fine u base g in (
      ((t.0, low, omega (arith, ints), omega (arith, ints, few)), t.1),
      (
        ((t.0, omega arith, omega (arith, ints), omega (arith, ints, most), even), tt),
        sound-append slow (instr.Branch Beq 0 0 (pos 8) ∷ fast ∷ []) h (((omega arith, omega arith, omega (arith, ints), omega (arith, ints), refl), tt), (k, tt)),
      ),
    )

-- ---- the code
load-fits : (t : ValueType) (d base : ℕ) (offset : ℤ) → d < 32 → base < 32 → negsuc 2047 ≤ℤ offset → offset ≤ℤ pos 2047 → IsInstr (instr.Imm (load_row t) d base offset)
load-fits t d base offset a b c e = (a, b, c, e)

load-within : (t : ValueType) (d base : ℕ) (offset : ℤ) → Fine d → WritesWithin false (instr.Imm (load_row t) d base offset)
load-within t d base offset h = h.1

load-at-good : (whole : Bool) (t : ValueType) (d u : ℕ) (p : Place) → Fine d → Fine u → IsGoodPlace p → AreSound (load_at whole t d u p.base p.offset)
load-at-good true t d u p h g k = ((load-fits t d p.base p.offset h.0 k.base k.low k.high, load-within t d p.base p.offset h), tt)
load-at-good false t d u p h g k =
    let few = narrow t in
    fork-sound u p.base (width t) (12 * width t + 4) (slow_load t d u p.base p.offset) (instr.Imm (load_row t) d p.base p.offset) g k.base few (omega (arith, few)) (omega arith)
    (((omega arith, k.base, k.low, k.high), refl), (((h.0, omega arith, omega (arith, ints), omega (arith, ints, few)), h.1), sound (lower_bytes d u (width t - 1)) (lower-good d u (width t - 1) h g (omega (arith, few)))))
    (load-fits t d p.base p.offset h.0 k.base k.low k.high, load-within t d p.base p.offset h)

higher-sound : (t : StoreType) (from u k : ℕ) → from < 32 → Fine u → k ≤ 7 → AreSound (instr.Store row.Sb link from (pos 0) ∷ higher_bytes from u 1 k)
higher-sound t from u k h g few = (((omega arith, h, omega (arith, ints), omega (arith, ints)), tt), sound (higher_bytes from u 1 k) (higher-good from u 1 k h g (omega (arith, few))))

halves-sound : (from u : ℕ) → from < 32 → Fine u → AreSound (halves from u)
halves-sound from u h g = (
  ((omega arith, h, omega (arith, ints), omega (arith, ints)), tt),
  (
    ((g.0, h, omega arith, λ e. absurd (omega (arith, e))), g.1),
    (
      ((omega arith, g.0, omega (arith, ints), omega (arith, ints)), tt),
      (
        ((g.0, g.0, omega arith, λ e. absurd (omega (arith, e))), g.1),
        (
          ((omega arith, g.0, omega (arith, ints), omega (arith, ints)), tt),
          (
            ((g.0, omega arith, omega (arith, ints), omega (arith, ints)), g.1),
            (
              ((omega arith, omega arith, g.0), refl),
              (
                ((g.0, g.0, omega arith, λ e. absurd (omega (arith, e))), g.1),
                (
                  ((g.0, h, g.0), g.1),
                  (
                    ((omega arith, g.0, omega (arith, ints), omega (arith, ints)), tt),
                    (
                      ((g.0, g.0, omega arith, λ e. absurd (omega (arith, e))), g.1),
                      (
                        ((omega arith, g.0, omega (arith, ints), omega (arith, ints)), tt),
                        (
                          ((g.0, g.0, omega arith, λ e. absurd (omega (arith, e))), g.1),
                          (((omega arith, g.0, omega (arith, ints), omega (arith, ints)), tt), tt),
                        ),
                      ),
                    ),
                  ),
                ),
              ),
            ),
          ),
        ),
      ),
    ),
  ),
)

bytes-sound : (t : StoreType) (from u : ℕ) → from < 32 → Fine u → AreSound (store_bytes t from u)
bytes-sound store_type.Char from u h g = higher-sound store_type.Char from u 0 h g (omega arith)
bytes-sound store_type.Short from u h g = higher-sound store_type.Short from u 1 h g (omega arith)
bytes-sound store_type.Int from u h g = higher-sound store_type.Int from u 3 h g (omega arith)
bytes-sound store_type.Long from u h g = halves-sound from u h g

skip-small : (t : StoreType) → (store_skip t ≤ 4095) × (store_skip t % 2 ≡ 0)
skip-small store_type.Char = (omega arith, refl)
skip-small t = (omega arith, refl)

store-at-good : (whole : Bool) (t : StoreType) (from u : ℕ) (p : Place) → from < 32 → Fine u → IsGoodPlace p → AreSound (store_at whole t from u p.base p.offset)
store-at-good true t from u p h g k = (((k.base, h, k.low, k.high), tt), tt)
store-at-good false t from u p h g k =
    let s = skip-small t in
    fork-sound u p.base (store_width t) (store_skip t) (slow_store t from u p.base p.offset) (instr.Store (store_row t) p.base from p.offset) g k.base (narrow-store t) s.0 s.1
    (((omega arith, k.base, k.low, k.high), refl), bytes-sound t from u h g) ((k.base, h, k.low, k.high), tt)

load-good : (t : ValueType) (at : Addressing) (n : Node) (u : ℕ) → Fine u → AreSound (load_code t at n u)
load-good t at n u g =
    let a = address_of at (operand_at n 1) (operand_at n 2) in
    let p = place_of (width t) a in
    let d = named (operand_at n 0) in
    let k = place-good (width t) a in
    sound-append p.code (load_at (is_whole (width t) a) t (register_of Riscv64 d) u p.base p.offset) (sound p.code k.code) (load-at-good (is_whole (width t) a) t (register_of Riscv64 d) u p (register-small d, portable d) g k)

store-good : (t : StoreType) (at : Addressing) (n : Node) (u : ℕ) → Fine u → AreSound (store_code t at n u)
store-good t at n u g =
    let a = address_of at (operand_at n 0) (operand_at n 1) in
    let p = place_of (store_width t) a in
    let b = named (operand_at n (stored_operand at)) in
    let k = place-good (store_width t) a in
    sound-append p.code (store_at (is_whole (store_width t) a) t (register_of Riscv64 b) u p.base p.offset) (sound p.code k.code) (store-at-good (is_whole (store_width t) a) t (register_of Riscv64 b) u p (register-small b) g k)

-- ---- the items, with choices for the needs of the access
abbrev IsSoundItem : Item → Type 0
IsSoundItem x = IsItem x × StaysWithin false x

module _ (P : Item → Type 0) where
  front-of : (xs ys : List Item) → Each P (xs ++ ys) → Each P xs
  front-of [] ys h = tt
  front-of (x ∷ xs) ys h = (h.0, front-of xs ys h.1)

  back-of : (xs ys : List Item) → Each P (xs ++ ys) → Each P ys
  back-of [] ys h = h
  back-of (x ∷ xs) ys h = back-of xs ys h.1

  inner : (choices : List Choice) (xs : List Item) → Each P (saved_items choices xs) → Each P xs
  inner [] xs h = h
  inner (Free r ∷ cs) xs h = inner cs xs h
  inner (Own r ∷ cs) xs h = inner cs xs h
  inner (Spill r k ∷ cs) xs h = inner cs xs (front-of (saved_items cs xs) _ h.1)

  replaced : (choices : List Choice) (xs ys : List Item) → Each P (saved_items choices xs) → Each P ys → Each P (saved_items choices ys)
  replaced [] xs ys h k = k
  replaced (Free r ∷ cs) xs ys h k = replaced cs xs ys h k
  replaced (Own r ∷ cs) xs ys h k = replaced cs xs ys h k
  replaced (Spill r m ∷ cs) xs ys h k = (h.0, lists.each-append P (saved_items cs ys) _ (replaced cs xs ys (front-of (saved_items cs xs) _ h.1) k) (back-of (saved_items cs xs) _ h.1))

needs-are : (bytes : ℕ) → (access_needs bytes ≡ []) ⊎ (access_needs bytes ≡ Any ∷ [])
needs-are bytes = by (bytes == 1)
  where
    by : (b : Bool) → ((if b then [] else Any ∷ []) ≡ []) ⊎ ((if b then [] else Any ∷ []) ≡ Any ∷ [])
    by true = inl refl
    by false = inr refl

-- an instruction that writes the temporary
abbrev probe : ℕ → List Item
probe u = One (instr.Imm imm.Addi u 0 (pos 0)) ∷ []

good-sound : (x : Item) → IsGoodItem x → IsSoundItem x
good-sound (One i) h = (h.0, h.1)
good-sound (items.Address rd label) h = (h.0, h.1)
good-sound x h = absurd h

items-fit : (n : Node) (bytes : ℕ) (code : ℕ → List Instr) → ((u : ℕ) → Fine u → AreSound (code u)) → (live : Reg → Bool) (staged : List Bool) (choices : List Choice)
    → AreFor (around Riscv64 n live staged) (access_needs bytes) [] (access_needs bytes) choices → AreAccessItems choices (saved_items choices (ones (code (first_taken choices))))
items-fit n bytes code good live staged choices are =
    let u = first_taken choices in
    let m = temporary-good (around Riscv64 n live staged) refl probe (λ v g. (((g.0, omega arith, omega (arith, ints), omega (arith, ints)), g.1, refl), tt)) (access_needs bytes) choices (needs-are bytes) are in
    let p = inner IsGoodItem choices (probe u) m.good in
    let fine : Fine u = (p.0.0.0, p.0.1) in
    let all : Each IsSoundItem (saved_items choices (ones (code u))) =
    replaced IsSoundItem choices (probe u) (ones (code u)) (lists.each-weaker IsGoodItem IsSoundItem good-sound (saved_items choices (probe u)) m.good) (lists.each-ones IsSoundItem One IsSound (λ i h. h) (code u) (good u fine)) in
    record { few = m.few; slots = m.slots; fit = lists.each-weaker IsSoundItem IsItem (λ x h. h.0) (saved_items choices (ones (code u))) all; within = lists.each-weaker IsSoundItem (StaysWithin false) (λ x h. h.1) (saved_items choices (ones (code u))) all }

pub load-items-fit : (t : ValueType) (at : Addressing) (n : Node) (live : Reg → Bool) (staged : List Bool) (choices : List Choice) → AreFor (around Riscv64 n live staged) (access_needs (width t)) [] (access_needs (width t)) choices
    → AreAccessItems choices (load_items t at n choices)
load-items-fit t at n live staged choices are = items-fit n (width t) (load_code t at n) (load-good t at n) live staged choices are

pub store-items-fit : (t : StoreType) (at : Addressing) (n : Node) (live : Reg → Bool) (staged : List Bool) (choices : List Choice) → AreFor (around Riscv64 n live staged) (access_needs (store_width t)) [] (access_needs (store_width t)) choices
    → AreAccessItems choices (store_items t at n choices)
store-items-fit t at n live staged choices are = items-fit n (store_width t) (store_code t at n) (store-good t at n) live staged choices are

-- they name no label
pub load-items-name : (labels : ℕ) (t : ValueType) (at : Addressing) (n : Node) (choices : List Choice) → NameLabels labels (load_items t at n choices)
load-items-name labels t at n choices = saved-names labels choices (ones (load_code t at n (first_taken choices))) (names-ones labels (load_code t at n (first_taken choices)))

pub store-items-name : (labels : ℕ) (t : StoreType) (at : Addressing) (n : Node) (choices : List Choice) → NameLabels labels (store_items t at n choices)
store-items-name labels t at n choices = saved-names labels choices (ones (store_code t at n (first_taken choices))) (names-ones labels (store_code t at n (first_taken choices)))
