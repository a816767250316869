-- The labels of a node's operands, by a test that they pass; they pass that of being named by the node.
use Rattle.std.proofs.Common.{◌≡◌, ℕ, zero, suc, Bool, true, List, [], ◌∷◌, ap, arith}
use Rattle.std.specs.Prelude.{◌==◌, ◌||◌, ⊤, slice_index_or}
use Rattle.std.specs.List.{list_any}
use Rattle.std.proofs.lemmas.Bool.Decides.{nat_tests}
use Rattle.std.proofs.lemmas.Bool.{or_right}
use Rattle.lg_carry.specs.Nodes.Operands.{NamesBelow, NameBelow}
use Rattle.lg_carry.specs.Values.Parts.{operand_in}
use Rattle.lg_node.specs.Labels.{is_label}
use Rattle.lg_op.specs.declared.operand.Operand.{Operand}
use Rattle.lg_op.specs.declared.operand.Operand.TheVariants as operand

abbrev pub Passes : (ℕ → Bool) → Operand → Type 0
Passes is (operand.Label l) = is l.0 ≡ true
Passes is x = ⊤

abbrev pub AllPass : (ℕ → Bool) → List Operand → Type 0
AllPass is [] = ⊤
AllPass is (x ∷ xs) = Passes is x × AllPass is xs

pub passes-at : (is : ℕ → Bool) (xs : List Operand) (k : ℕ) → AllPass is xs → Passes is (slice_index_or xs k (operand.Number 0))
passes-at is [] k a = tt
passes-at is (x ∷ xs) zero a = a.0
passes-at is (x ∷ xs) (suc k) a = passes-at is xs k a.1

-- ---- the labels of operands are named by them
abbrev pub names : List Operand → ℕ → Bool
names xs label = list_any (is_label label) xs

passes-more : (x y : Operand) (xs : List Operand) → Passes (names xs) y → Passes (names (x ∷ xs)) y
passes-more x (operand.Label l) xs e = or_right (is_label l.0 x) (names xs l.0) e
passes-more x y xs e = tt

all-more : (x : Operand) (xs ys : List Operand) → AllPass (names xs) ys → AllPass (names (x ∷ xs)) ys
all-more x xs [] a = tt
all-more x xs (y ∷ ys) a = (passes-more x y xs a.0, all-more x xs ys a.1)

same-number : (n : ℕ) → (n == n) ≡ true
same-number n = grind (arith, nat_tests)

passes-self : (x : Operand) (xs : List Operand) → Passes (names (x ∷ xs)) x
passes-self (operand.Label l) xs = ap (λ b. b || names xs l.0) (same-number l.0)
passes-self x xs = tt

pub all-self : (xs : List Operand) → AllPass (names xs) xs
all-self [] = tt
all-self (x ∷ xs) = (passes-self x xs, all-more x xs xs (all-self xs))

-- where the operands name labels that there are, so does each of them
pub operand-below : (labels : ℕ) (xs : List Operand) (i : ℕ) → NameBelow labels xs → NamesBelow labels (operand_in xs i)
operand-below labels [] i h = tt
operand-below labels (x ∷ xs) zero h = h.0
operand-below labels (x ∷ xs) (suc i) h = operand-below labels xs i h.1
