-- Operands whose numbers are words, and whose labels are among n, or lie low.
use Rattle.std.proofs.Common.{ℕ, ◌^◌, ◌<◌, List, [], ◌∷◌}
use Rattle.std.specs.Prelude.{slice_index}
use Rattle.lg_op.specs.declared.operand.Operand.{Operand}
use Rattle.lg_op.specs.declared.operand.Operand.TheVariants as operand
use Rattle.lg_carry.specs.Nodes.Operands.{HasWord, HaveWords, NamesBelow, NameBelow, IsGiven, AreGiven, IsWord, AreWords}

given : (labels : ℕ) (x : Operand) → NamesBelow labels x → HasWord x → IsGiven labels x
given labels (operand.Number v) named word = word
given labels (operand.Label l) named word = named
given labels _ named word = tt

pub are-given : (labels : ℕ) (xs : List Operand) → NameBelow labels xs → HaveWords xs → AreGiven labels xs
are-given labels [] named words = tt
are-given labels (x ∷ xs) named words = (given labels x named.0 words.0, are-given labels xs named.1 words.1)

module _ (addresses : List ℕ) (low : (label : ℕ) → slice_index addresses label < 2 ^ 30) where
  is-word : (x : Operand) → HasWord x → IsWord addresses x
  is-word (operand.Number v) word = word
  is-word (operand.Label l) word = low l.0
  is-word other word = tt

  pub are-words : (xs : List Operand) → HaveWords xs → AreWords addresses xs
  are-words [] words = tt
  are-words (x ∷ xs) words = (is-word x words.0, are-words xs words.1)
