-- A register can always be saved: six of those that are tried are of arguments, which no node reads or writes, and at most five are named
-- by needs or chosen.
use Rattle.std.proofs.Common.{◌≡◌, ℕ, ◌+◌, ◌≤◌, Bool, true, false, List, [], ◌∷◌, ◌++◌, Some, None, refl, arith, length}
use Rattle.std.specs.Prelude.{◌==◌, ◌&&◌, ◌||◌, not, find, if◌then◌else◌}
use Rattle.std.specs.List.{list_any}
use Rattle.lg_base.specs.declared.target.Target.{Target}
use Rattle.lg_base.specs.declared.target.Target.TheVariants.{X86_64, Aarch64, Riscv64}
use Rattle.lg_op.specs.declared.operand.Reg.{Reg}
use Rattle.lg_temp.specs.declared.choice.Need.{Need}
use Rattle.lg_temp.specs.declared.choice.Need.TheVariants.{Any, Only}
use Rattle.lg_temp.specs.declared.choice.Choice.{Choice}
use Rattle.lg_temp.specs.Chosen.{Around, order, stands_in, is_own, is_only, is_named, taken_by, is_chosen, is_barred, first_saved}

bit : Bool → ℕ
bit true = 1
bit false = 0

-- how many registers pass a test
hits : (ℕ → Bool) → List ℕ → ℕ
hits p [] = 0
hits p (x ∷ xs) = bit (p x) + hits p xs

bit-or : (a b : Bool) → bit (a || b) ≤ bit a + bit b
unfolding bit
bit-or true b = omega arith
bit-or false true = omega arith
bit-or false false = omega arith

hits-or : (p q : ℕ → Bool) (xs : List ℕ) → hits (λ x. p x || q x) xs ≤ hits p xs + hits q xs
unfolding hits
hits-or p q [] = omega arith
hits-or p q (x ∷ xs) = let h = hits-or p q xs in let b = bit-or (p x) (q x) in omega arith

hits-none : (xs : List ℕ) → hits (λ x. false) xs ≡ 0
unfolding hits bit
hits-none [] = refl
hits-none (x ∷ xs) = omega (arith, hits-none xs)

-- where each thing is at one register at most, this many things are at as many registers at most
hits-any : {A : Type 0} (f : ℕ → A → Bool) (xs : List ℕ) → ((a : A) → hits (λ x. f x a) xs ≤ 1) → (things : List A) → hits (λ x. list_any (f x) things) xs ≤ length things
hits-any f xs one [] = omega (arith, hits-none xs)
hits-any f xs one (a ∷ things) = omega (arith, hits-or (λ x. f x a) (λ x. list_any (f x) things) xs, one a, hits-any f xs one things)

-- six registers of arguments that are tried
six : Target → List ℕ
six X86_64 = 9 ∷ 8 ∷ 1 ∷ 2 ∷ 6 ∷ 7 ∷ []
six Aarch64 = 7 ∷ 6 ∷ 5 ∷ 4 ∷ 3 ∷ 2 ∷ []
six Riscv64 = 17 ∷ 16 ∷ 15 ∷ 14 ∷ 13 ∷ 12 ∷ []

-- a register is one of them at most
one : (target : Target) (v : ℕ) → hits (λ x. v == x) (six target) ≤ 1
unfolding hits bit six
one X86_64 v = grind arith
one Aarch64 v = grind arith
one Riscv64 v = grind arith

one-named : (target : Target) (need : Need) → hits (λ x. is_only x need) (six target) ≤ 1
one-named target (Only v) = one target v
one-named target Any = omega (arith, hits-none (six target))

off : (b : Bool) → (b && false) ≡ false
off true = refl
off false = refl

-- none of them corresponds to a portable register
none_stands : (target : Target) (set : Reg → Bool) → hits (stands_in target set) (six target) ≡ 0
unfolding hits bit six
none_stands X86_64 set = simp off
none_stands Aarch64 set = simp off
none_stands Riscv64 set = simp off

-- what is not found passes no test
next : (p : ℕ → Bool) (x : ℕ) (xs : List ℕ) → find (λ r. not (p r)) (x ∷ xs) ≡ None → (p x ≡ true) × (find (λ r. not (p r)) xs ≡ None)
next p x xs e = by (p x) refl e
  where
    by : (b : Bool) → p x ≡ b → (if not b then Some x else find (λ r. not (p r)) xs) ≡ None → (p x ≡ true) × (find (λ r. not (p r)) xs ≡ None)
    by true h e = (h, e)
    by false h e = cc

all-hit : (p : ℕ → Bool) (xs ys : List ℕ) → find (λ r. not (p r)) (xs ++ ys) ≡ None → hits p xs ≡ length xs
unfolding hits bit
all-hit p [] ys e = refl
all-hit p (x ∷ xs) ys e = let n = next p x (xs ++ ys) e in let h = all-hit p xs ys n.1 in rw (n.0, h) (omega arith)

-- the six are after three and before others
behind : (p : ℕ → Bool) (a b c : ℕ) (xs ys : List ℕ) → find (λ r. not (p r)) (a ∷ b ∷ c ∷ (xs ++ ys)) ≡ None → hits p xs ≡ length xs
behind p a b c xs ys e = all-hit p xs ys (next p c (xs ++ ys) (next p b (c ∷ (xs ++ ys)) (next p a (b ∷ c ∷ (xs ++ ys)) e).1).1).1

six-hit : (target : Target) (p : ℕ → Bool) → find (λ r. not (p r)) (order target) ≡ None → hits p (six target) ≡ 6
unfolding six
six-hit X86_64 p e = behind p 0 10 11 (six X86_64) (3 ∷ 13 ∷ 14 ∷ []) e
six-hit Aarch64 p e = behind p 9 10 11 (six Aarch64) (1 ∷ 0 ∷ 19 ∷ 20 ∷ 21 ∷ []) e
six-hit Riscv64 p e = behind p 5 6 7 (six Riscv64) (11 ∷ 10 ∷ 9 ∷ 18 ∷ 19 ∷ []) e

-- a register can be saved
pub always-saved : (a : Around) (needs : List Need) (choices : List Choice) → length needs ≤ 3 → length choices ≤ 2 → first_saved a needs choices (order a.target) ≡ None → ⊥
always-saved a needs choices few fewer e =
    let all = six-hit a.target (is_barred a needs choices) e in
    let split = hits-or (is_own a) (λ r. is_named needs r || is_chosen choices r) (six a.target) in
    let own = hits-or (stands_in a.target a.reads) (stands_in a.target a.writes) (six a.target) in
    let taken = hits-or (is_named needs) (is_chosen choices) (six a.target) in
    let named : hits (is_named needs) (six a.target) ≤ length needs = hits-any is_only (six a.target) (one-named a.target) needs in
    let chosen : hits (is_chosen choices) (six a.target) ≤ length choices = hits-any (λ r choice. taken_by choice == r) (six a.target) (λ choice. one a.target (taken_by choice)) choices in
    omega (arith, none_stands a.target a.reads, none_stands a.target a.writes)
