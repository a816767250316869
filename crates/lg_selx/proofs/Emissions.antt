-- What the items of x86-64 have beside their instructions.
use Rattle.std.proofs.Common.{◌≡◌, ℕ, ◌+◌, ◌≤◌, Bool, true, false, List, [], ◌∷◌, ◌++◌, refl, arith}
use Rattle.std.specs.Prelude.{⊤, ◌^◌, cond, nat_lt, if◌then◌else◌}
use Rattle.lg_base.specs.Words.{signed_view, is_half}
use Rattle.lg_selx_values.specs.Processor.Numbers.{number_row}
use Rattle.lg_sel.proofs.EmissionLemmas as emission
use Rattle.lg_sel.proofs.StoreLemmas as stores
use Rattle.lg_selx.specs.Stores.{x86_stores}
use Rattle.lg_sel.specs.Holes.{Each}
use Rattle.lg_sel.specs.declared.reach.Reach.{Reach}
use Rattle.lg_sel.specs.declared.reach.Reach.TheVariants as reaches
use Rattle.lg_selx_values.specs.Items.{x86_holes, ones}
use Rattle.lg_selx_values.specs.declared.items.Item.{Item}
use Rattle.lg_selx_values.specs.declared.items.Item.TheVariants.{One, Jump, Address}
use Rattle.lg_selx_values.specs.declared.items.JumpKind.{JumpKind}
use Rattle.lg_selx_values.specs.declared.items.JumpKind.TheVariants.{Near, NearIf, Short, ShortIf}
use Rattle.lg_x86.specs.declared.instruction.Instr.{Instr}
use Rattle.lg_x86.specs.declared.instruction.Instr.TheVariants.{Movi32, Movs32, Movi64}

-- the label of an item passes a test; a jump is near
abbrev pub Names : Reach → (ℕ → Bool) → Item → Type 0
Names r is (One i) = ⊤
Names r is (Jump (Near op) label) = is label ≡ true
Names r is (Jump (NearIf cond) label) = is label ≡ true
Names reaches.Short is (Jump Short label) = is label ≡ true
Names reaches.Short is (Jump (ShortIf cond) label) = is label ≡ true
Names r is (Jump kind label) = ⊥
Names r is (Address reg label) = is label ≡ true

abbrev pub NoneStores : List Instr → Type 0
NoneStores is = stores.NoneStores x86_stores is

-- an instruction that is no store
abbrev pub Keeps : Instr → Type 0
Keeps i = x86_stores i ≡ false

-- where none of them is one, none stores
pub keep-none : (is : List Instr) → Each Keeps is → NoneStores is
keep-none [] h = refl
keep-none (i ∷ is) h = by (x86_stores i) h.0 (keep-none is h.1)
  where
    by : (b : Bool) → b ≡ false → stores.stores_among x86_stores is ≡ 0 → cond b (1 + stores.stores_among x86_stores is) (stores.stores_among x86_stores is) ≡ 0
    by true e h = cc
    by false e h = h

pub number-keeps : (r v : ℕ) → Keeps (number_row r v)
number-keeps r v = by (nat_lt v (2 ^ 32)) (is_half v)
  where
    by : (b c : Bool) → Keeps (if b then Movi32 r v else if c then Movs32 r (signed_view v) else Movi64 r v)
    by true c = refl
    by false true = refl
    by false false = refl

module _ (reach : Reach) (is : ℕ → Bool) where
  abbrev pub Emits : ℕ → ℕ → List Item → Type 0
  Emits fixes stores xs = emission.Emits x86_holes x86_stores (Names reach is) fixes stores xs

  pub none : (f s : ℕ) → Emits f s []
  none f s = emission.emits-more x86_holes x86_stores (Names reach is) 0 f 0 s [] (omega arith) (omega arith) (emission.emits-none x86_holes x86_stores (Names reach is))

  pub append : (f g s t : ℕ) (xs ys : List Item) → Emits f s xs → Emits g t ys → Emits (f + g) (s + t) (xs ++ ys)
  append f g s t xs ys a b = emission.emits-append x86_holes x86_stores (Names reach is) f g s t xs ys a b

  pub more : (f g s t : ℕ) (xs : List Item) → f ≤ g → s ≤ t → Emits f s xs → Emits g t xs
  more f g s t xs h k a = emission.emits-more x86_holes x86_stores (Names reach is) f g s t xs h k a

  pub either : (f s : ℕ) (b : Bool) (xs ys : List Item) → Emits f s xs → Emits f s ys → Emits f s (if b then xs else ys)
  either f s b xs ys x y = emission.emits-if x86_holes x86_stores (Names reach is) f s b xs ys x y

  -- instructions, at most this many of which store, and none of which does
  pub instructions : (f s : ℕ) (code : List Instr) → stores.stores_among x86_stores code ≤ s → Emits f s (ones code)
  instructions f s code few =
      more 0 f s s (ones code) (omega arith) (omega arith) (emission.emits-ones x86_holes x86_stores (Names reach is) One (λ to at i. refl) (λ place i. refl) (λ i. tt) s code few)

  pub plain : (f : ℕ) (code : List Instr) → NoneStores code → Emits f 0 (ones code)
  plain f code h = instructions f 0 code (omega (arith, h))

  pub number : (f r v : ℕ) → Emits f 0 (ones (number_row r v ∷ []))
  number f r v = plain f (number_row r v ∷ []) (keep-none (number_row r v ∷ []) (number-keeps r v, tt))

  pub address : (reg label : ℕ) → is label ≡ true → Emits 1 0 (Address reg label ∷ [])
  address reg label h = emission.emits-item x86_holes x86_stores (Names reach is) (Address reg label) h (λ place. omega arith) (λ to at. omega arith)

  pub jump : (kind : JumpKind) (label : ℕ) → Names reach is (Jump kind label) → Emits 1 0 (Jump kind label ∷ [])
  jump kind label h = emission.emits-item x86_holes x86_stores (Names reach is) (Jump kind label) h (λ place. omega arith) (stores-none kind)
    where
      stores-none : (kind : JumpKind) (to : ℕ → ℕ) (at : ℕ) → stores.stores_among x86_stores (x86_holes.settle to at (Jump kind label)) ≤ 0
      stores-none (Near op) to at = omega arith
      stores-none o to at = omega arith

  -- with plain instructions in front of items, and after them
  pub front : (f s : ℕ) (code : List Instr) (ys : List Item) → NoneStores code → Emits f s ys → Emits f s (ones code ++ ys)
  front f s code ys h b = more (0 + f) f (0 + s) s (ones code ++ ys) (omega arith) (omega arith) (append 0 f 0 s (ones code) ys (plain 0 code h) b)

  pub behind : (f s : ℕ) (xs : List Item) (code : List Instr) → Emits f s xs → NoneStores code → Emits f s (xs ++ ones code)
  behind f s xs code a h = more (f + 0) f (s + 0) s (xs ++ ones code) (omega arith) (omega arith) (append f 0 s 0 xs (ones code) a (plain 0 code h))
