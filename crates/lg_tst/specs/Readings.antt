-- Statements that are read one after the other, each of its own slice of the tokens.
use Rattle.std.specs.Prelude.{◌≡◌, ◌⊎◌, ℕ, zero, suc, List, [], ◌∷◌, ◌++◌, length, Some, None, Ok, Err, slice_get}
use Rattle.std.specs.List.{flat_map}
use Rattle.lg_base.specs.declared.refusal.Refusal.{Refusal}
use Rattle.lg_lex.specs.Tokens.{tokens_of}
use Rattle.lg_lex.specs.declared.token.Token.{Token}
use Rattle.lg_node.specs.declared.unit.Unit.{Unit as TextUnit}
use Rattle.lg_tst.specs.Units.{State, behind, statement_from, start, unit_from}

-- a statement is read: it begins at the first of the tokens that are left, leads from a state to a state, and takes exactly this slice of them
pub record IsRead (before : State) (slice : List Token) (after : State) : Type 0 where
  pub first : Token
  pub more : List Token
  pub begins : slice ≡ first ∷ more
  pub leads : statement_from (behind before) first ≡ Ok after
  pub takes : before.source.left ≡ slice ++ after.source.left

-- slices are read one after the other, each as one statement: there is a state before each, and one after the last
pub record AreRead (before : State) (slices : List (List Token)) (after : State) : Type 0 where
  pub states : ℕ → State
  pub first : states zero ≡ before
  pub last : states (length slices) ≡ after
  pub each : (i : ℕ) (slice : List Token) → slice_get slices i ≡ Some slice → IsRead (states i) slice (states (suc i))

-- the slices, one after the other
abbrev pub joined : List (List Token) → List Token
joined slices = flat_map (λ slice. slice) slices

-- the next statement is refused: it begins at the first of the tokens that are left
pub record IsRefusedNext (before : State) (refusal : Refusal) : Type 0 where
  pub first : Token
  pub more : List Token
  pub begins : before.source.left ≡ first ∷ more
  pub refused : statement_from (behind before) first ≡ Err refusal

-- a text is read to its end: its tokens are the slices of its statements, with no fault after them, and its unit is what was read
pub record IsReadAs (text : List ℕ) (unit : TextUnit) : Type 0 where
  pub slices : List (List Token)
  pub end : State
  pub read : AreRead (start text) slices end
  pub joins : (tokens_of text).0 ≡ joined slices
  pub rest : end.source.left ≡ []
  pub faultless : (tokens_of text).1 ≡ None
  pub made : unit ≡ unit_from end

-- a text's first fault: after statements that are read, the next one is refused, or no token is left and the tokens themselves are at fault
pub record IsFirstFault (text : List ℕ) (refusal : Refusal) : Type 0 where
  pub slices : List (List Token)
  pub end : State
  pub read : AreRead (start text) slices end
  pub joins : (tokens_of text).0 ≡ joined slices ++ end.source.left
  pub fault : IsRefusedNext end refusal ⊎ ((end.source.left ≡ []) × ((tokens_of text).1 ≡ Some refusal))
