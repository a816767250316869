-- What the items of AArch64 have beside their instructions.
use Rattle.std.proofs.Common.{◌≡◌, ℕ, ◌+◌, ◌≤◌, Bool, true, List, [], ◌∷◌, ◌++◌, refl, arith}
use Rattle.std.specs.Prelude.{⊤, ◌/◌, ◌%◌, ◌^◌, ◌==◌, nat_lt, if◌then◌else◌}
use Rattle.lg_base.specs.Words.{complement}
use Rattle.lg_sela_values.specs.Processor.Numbers.{quarter_code, first_code, second_code, third_code, fourth_code, is_low, upper_code, positive_code, negative_code, number_code}
use Rattle.lg_a64.specs.declared.instruction.BranchOp.{BranchOp}
use Rattle.lg_a64.specs.declared.instruction.Cond.{Cond}
use Rattle.lg_a64.specs.declared.instruction.Instr.{Instr}
use Rattle.lg_a64.specs.declared.instruction.Instr.TheVariants as instr
use Rattle.lg_a64.specs.declared.instruction.WideOp.TheVariants.{Movk}
use Rattle.lg_sel.proofs.EmissionLemmas as emission
use Rattle.lg_sel.proofs.StoreLemmas as stores
use Rattle.lg_sela.specs.Stores.{a64_stores}
use Rattle.lg_sel.specs.declared.reach.Reach.{Reach}
use Rattle.lg_sel.specs.declared.reach.Reach.TheVariants.{Far}
use Rattle.lg_sela_values.specs.Items.{a64_holes, ones}
use Rattle.lg_sela_values.specs.declared.items.Item.{Item}
use Rattle.lg_sela_values.specs.declared.items.Item.TheVariants.{One, Branch, CondBranch, Address}

-- the label of an item passes a test, and its reach is that of the node
abbrev pub Names : Reach → (ℕ → Bool) → Item → Type 0
Names r is (One i) = ⊤
Names r is (Branch op label) = is label ≡ true
Names Far is (CondBranch cond label) = ⊥
Names r is (CondBranch cond label) = is label ≡ true
Names r is (Address rd label) = is label ≡ true

abbrev pub NoneStores : List Instr → Type 0
NoneStores is = stores.NoneStores a64_stores is

quarter-none : (rd part hw : ℕ) → NoneStores (quarter_code rd part hw)
quarter-none rd part hw = stores.none-if a64_stores (part == 0) [] (instr.Wide Movk rd part hw ∷ []) refl refl

positive-none : (rd v : ℕ) → NoneStores (positive_code rd v)
positive-none rd v =
    let second : ℕ = v / 2 ^ 16 % 2 ^ 16 in
    let third : ℕ = v / 2 ^ 32 % 2 ^ 16 in
    let fourth : ℕ = v / 2 ^ 48 % 2 ^ 16 in
    let upper : NoneStores (quarter_code rd third 2 ++ quarter_code rd fourth 3) =
    stores.none-append a64_stores (quarter_code rd third 2) (quarter_code rd fourth 3) (quarter-none rd third 2) (quarter-none rd fourth 3) in
    stores.none-if a64_stores (is_low v) (first_code rd v) (upper_code rd v)
    (stores.none-append a64_stores (quarter_code rd second 1) (quarter_code rd third 2 ++ quarter_code rd fourth 3) (quarter-none rd second 1) upper)
    (stores.none-if a64_stores (v % 2 ^ 32 == 0) (if v % 2 ^ 48 == 0 then fourth_code rd v else third_code rd v) (second_code rd v)
    (stores.none-if a64_stores (v % 2 ^ 48 == 0) (fourth_code rd v) (third_code rd v) refl (quarter-none rd fourth 3)) upper)

negative-none : (rd v : ℕ) → NoneStores (negative_code rd v)
negative-none rd v = stores.none-if a64_stores (v / 2 ^ 16 % 2 ^ 16 == 65535) [] (instr.Wide Movk rd (v / 2 ^ 16 % 2 ^ 16) 1 ∷ []) refl refl

pub number-none : (rd v : ℕ) → NoneStores (number_code rd v)
number-none rd v = stores.none-if a64_stores (nat_lt (complement v) (2 ^ 32)) (negative_code rd v) (positive_code rd v) (negative-none rd v) (positive-none rd v)

module _ (reach : Reach) (is : ℕ → Bool) where
  abbrev pub Emits : ℕ → ℕ → List Item → Type 0
  Emits fixes stores xs = emission.Emits a64_holes a64_stores (Names reach is) fixes stores xs

  pub none : (f s : ℕ) → Emits f s []
  none f s = emission.emits-more a64_holes a64_stores (Names reach is) 0 f 0 s [] (omega arith) (omega arith) (emission.emits-none a64_holes a64_stores (Names reach is))

  pub append : (f g s t : ℕ) (xs ys : List Item) → Emits f s xs → Emits g t ys → Emits (f + g) (s + t) (xs ++ ys)
  append f g s t xs ys a b = emission.emits-append a64_holes a64_stores (Names reach is) f g s t xs ys a b

  pub more : (f g s t : ℕ) (xs : List Item) → f ≤ g → s ≤ t → Emits f s xs → Emits g t xs
  more f g s t xs h k a = emission.emits-more a64_holes a64_stores (Names reach is) f g s t xs h k a

  pub either : (f s : ℕ) (b : Bool) (xs ys : List Item) → Emits f s xs → Emits f s ys → Emits f s (if b then xs else ys)
  either f s b xs ys x y = emission.emits-if a64_holes a64_stores (Names reach is) f s b xs ys x y

  -- instructions, at most this many of which store, and none of which does
  pub instructions : (f s : ℕ) (code : List Instr) → stores.stores_among a64_stores code ≤ s → Emits f s (ones code)
  instructions f s code few =
      more 0 f s s (ones code) (omega arith) (omega arith) (emission.emits-ones a64_holes a64_stores (Names reach is) One (λ to at i. refl) (λ place i. refl) (λ i. tt) s code few)

  pub plain : (f : ℕ) (code : List Instr) → NoneStores code → Emits f 0 (ones code)
  plain f code h = instructions f 0 code (omega (arith, h))

  pub number : (f rd v : ℕ) → Emits f 0 (ones (number_code rd v))
  number f rd v = plain f (number_code rd v) (number-none rd v)

  pub address : (rd label : ℕ) → is label ≡ true → Emits 1 0 (Address rd label ∷ [])
  address rd label h = emission.emits-item a64_holes a64_stores (Names reach is) (Address rd label) h (λ place. omega arith) (λ to at. omega arith)

  pub branch : (op : BranchOp) (label : ℕ) → is label ≡ true → Emits 1 0 (Branch op label ∷ [])
  branch op label h = emission.emits-item a64_holes a64_stores (Names reach is) (Branch op label) h (λ place. omega arith) (λ to at. omega arith)

  pub branch_if : (cond : Cond) (label : ℕ) → Names reach is (CondBranch cond label) → Emits 1 0 (CondBranch cond label ∷ [])
  branch_if cond label h = emission.emits-item a64_holes a64_stores (Names reach is) (CondBranch cond label) h (λ place. omega arith) (λ to at. omega arith)

  -- with plain instructions in front of items, and after them
  pub front : (f s : ℕ) (code : List Instr) (ys : List Item) → NoneStores code → Emits f s ys → Emits f s (ones code ++ ys)
  front f s code ys h b = more (0 + f) f (0 + s) s (ones code ++ ys) (omega arith) (omega arith) (append 0 f 0 s (ones code) ys (plain 0 code h) b)

  pub behind : (f s : ℕ) (xs : List Item) (code : List Instr) → Emits f s xs → NoneStores code → Emits f s (xs ++ ones code)
  behind f s xs code a h = more (f + 0) f (s + 0) s (xs ++ ones code) (omega arith) (omega arith) (append f 0 s 0 xs (ones code) a (plain 0 code h))
