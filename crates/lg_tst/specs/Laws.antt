-- What holds of the reading of every text.
use Rattle.std.specs.Prelude.{◌≡◌, ℕ, List, Ok, Err}
use Rattle.lg_base.specs.declared.refusal.Refusal.{Refusal}
use Rattle.lg_node.specs.declared.unit.Unit.{Unit as TextUnit}
use Rattle.lg_tst.specs.Units.{unit_of}
use Rattle.lg_tst.specs.Readings.{IsReadAs, IsFirstFault}

-- a text that has a unit is read to its end: the slices of its statements join to its tokens
abbrev pub StatementsJoin : Type 0
StatementsJoin = (text : List ℕ) (unit : TextUnit) → unit_of text ≡ Ok unit → IsReadAs text unit

-- what a text is refused for is its first fault
abbrev pub FirstFaultsAreFirst : Type 0
FirstFaultsAreFirst = (text : List ℕ) (refusal : Refusal) → unit_of text ≡ Err refusal → IsFirstFault text refusal

-- the other way round: a text that can be read to its end has that unit, one that has a first fault is refused for it, and for no other
pub record ReadingsDecide : Type 0 where
  pub units : (text : List ℕ) (unit : TextUnit) → IsReadAs text unit → unit_of text ≡ Ok unit
  pub faults : (text : List ℕ) (refusal : Refusal) → IsFirstFault text refusal → unit_of text ≡ Err refusal
  pub one : (text : List ℕ) (refusal other : Refusal) → IsFirstFault text refusal → IsFirstFault text other → refusal ≡ other
