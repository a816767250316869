-- An operand more in the short list.
use Rattle.std.proofs.Common.{◌≡◌, ℕ, zero, suc, slice_index_or, ◌∙◌, ◌+◌, ◌-◌, ◌<◌, sym, List, [], ◌∷◌, ◌++◌, length, take, subst, ap, refl, arith}
use Rattle.std.specs.Prelude.{slice_set}
use Rattle.lg_op.specs.declared.operand.Operand.{Operand}
use Rattle.lg_op.specs.declared.operand.Operand.TheVariants as operand
use Rattle.lg_op.specs.declared.operand.Operands.TheInside.{Inside}
use Rattle.lg_op.specs.Operands.{unused, IsOperands}

-- the list with an operand at the first place that is not used
abbrev more : List Operand → ℕ → Operand → Inside
more list len x = record { list = slice_set list len x; len = len + 1 }

one_more : (xs : List Operand) (x : Operand) → length xs < 4 → IsOperands (more (xs ++ unused (4 - length xs)) (length xs) x)
one_more [] x few = record { few = omega arith; rest = refl }
one_more (a ∷ []) x few = record { few = omega arith; rest = refl }
one_more (a ∷ b ∷ []) x few = record { few = omega arith; rest = refl }
one_more (a ∷ b ∷ c ∷ []) x few = record { few = omega arith; rest = refl }
one_more (a ∷ b ∷ c ∷ d ∷ xs) x few = absurd (omega arith)

pub pushed : (list : List Operand) (len : ℕ) (x : Operand) → IsOperands (record { list = list; len = len }) → len < 4 → IsOperands (more list len x)
pushed list len x is few =
    let same : length (take len list) ≡ len = ap (λ (o : Inside). o.len) is.rest in
    let whole : take len list ++ unused (4 - length (take len list)) ≡ list = ap (λ (o : Inside). o.list) is.rest in
    let P : ℕ → Type 0 = λ n. IsOperands (more list n x) in
    let Q : List Operand → Type 0 = λ l. IsOperands (more l (length (take len list)) x) in
    subst P same (subst Q whole (one_more (take len list) x (omega arith)))

-- after the operands stands the number 0
padded_at : (xs : List Operand) (n i : ℕ) (d : Operand) → i < length xs + n → slice_index_or (xs ++ unused n) i d ≡ slice_index_or xs i (operand.Number 0)
padded_at [] zero i d lt = absurd (omega arith)
padded_at [] (suc n) zero d lt = refl
padded_at [] (suc n) (suc i) d lt = padded_at [] n i d (omega arith)
padded_at (x ∷ xs) n zero d lt = refl
padded_at (x ∷ xs) n (suc i) d lt = padded_at xs n i d (omega arith)

pub held_at : (list : List Operand) (len i : ℕ) (d : Operand) → IsOperands (record { list = list; len = len }) → i < 4 → slice_index_or list i d ≡ slice_index_or (take len list) i (operand.Number 0)
held_at list len i d is lt =
    let whole : take len list ++ unused (4 - length (take len list)) ≡ list = ap (λ (o : Inside). o.list) is.rest in
    ap (λ (l : List Operand). slice_index_or l i d) (sym whole) ∙ padded_at (take len list) (4 - length (take len list)) i d (omega arith)
