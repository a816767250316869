-- Code that was assembled is code that a listing describes.
use Rattle.std.proofs.Common.{◌≡◌, ℕ, List, [], ◌∷◌, ◌++◌, Some, refl, sym, ap, ap₂, ◌∙◌, arith}
use Rattle.std.specs.Prelude.{IsTrue, map}
use Rattle.std.specs.List.{All}
use Rattle.std.proofs.lemmas.List.Elements.{All-map, All-weaker}
use Rattle.std.proofs.lemmas.Option.{slice_get-get_or, slice_get_within}
use Rattle.lg_a64.specs.Spelling as a64
use Rattle.lg_asm.specs.Assembled.{Assembled, IsCode}
use Rattle.lg_base.specs.declared.target.Target.{Target}
use Rattle.lg_base.specs.declared.target.Target.TheVariants.{X86_64, Aarch64, Riscv64}
use Rattle.lg_carry.specs.Blocks.{spellings}
use Rattle.lg_list.specs.Back.{IsOf, IsWhole, IsListable}
use Rattle.lg_list.specs.Lines.{bytes_of, joined}
use Rattle.lg_list.specs.Lines.Entry.{Code}
use Rattle.lg_list.specs.declared.instruction.Instruction.{Instruction}
use Rattle.lg_list.specs.declared.instruction.Instruction.TheVariants as instruction
use Rattle.lg_node.specs.Nodes.{is_word}
use Rattle.lg_node.specs.declared.place.Place.TheVariants as place
use Rattle.lg_rv.specs.Spelling as rv
use Rattle.lg_asm.specs.Targets.{AreInstructions}
use Rattle.lg_sel.specs.Selected.{AreWhole}
use Rattle.lg_x86.specs.Spelling as x86

-- ---- whole instructions of a target are whole instructions of the listing
module _ {I : Type 0} (t : Target) (spelling : I → List ℕ) (fits : I → Type 0) (among : I → Instruction) (is_of : (i : I) → fits i → IsOf t (among i))
    (same : (i : I) → bytes_of (Code (among i)) ≡ spelling i) where
  joined-are : (is : List I) → joined (map Code (map among is)) ≡ spellings spelling is
  joined-are [] = refl
  joined-are (i ∷ is) = ap₂ (λ xs ys. xs ++ ys) (same i) (joined-are is)

  pub whole-of : (bytes : List ℕ) → AreWhole spelling fits bytes → IsWhole t bytes
  whole-of bytes a = record {
    instructions = map among a.instructions;
    form = All-map (IsOf t) among a.instructions (All-weaker fits (λ i. IsOf t (among i)) is_of a.instructions a.fit);
    bytes_are = a.bytes_are ∙ sym (joined-are a.instructions);
  }

pub whole : (t : Target) (bytes : List ℕ) → AreInstructions t bytes → IsWhole t bytes
whole X86_64 bytes a = whole-of X86_64 x86.spelling x86.IsInstr instruction.X86_64 (λ i fit. (refl, fit)) (λ i. refl) bytes a
whole Aarch64 bytes a = whole-of Aarch64 a64.spelling a64.IsInstr instruction.Aarch64 (λ i fit. (refl, fit)) (λ i. refl) bytes a
whole Riscv64 bytes a = whole-of Riscv64 rv.spelling rv.IsInstr instruction.Riscv64 (λ i fit. (refl, fit)) (λ i. refl) bytes a

-- ---- what is asked
pub is-listable : (c : Assembled) → IsCode c → All (λ w. IsTrue (is_word w)) c.nodes.words → IsListable c.target c.bytes c.places c.nodes c.labels
is-listable c k words = record {
  placed = record { count = k.ordered.long; first = k.ordered.first; last = k.ordered.last; rise = k.ordered.order; small = k.small };
  whole = λ i below. whole c.target _ (k.coded.instructions i below);
  addressed = λ x i bound.
      let below = slice_get_within c.nodes.places x (Some (place.Node i)) bound in
      let count = k.addressed.count in
      slice_get-get_or c.labels x 0 (omega (arith, below, count)) ∙ ap Some (k.addressed.nodes x i bound);
  words = words;
}
