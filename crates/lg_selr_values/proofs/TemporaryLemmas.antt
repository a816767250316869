-- A temporary is none of the registers of its node, nor x0, the link or the carry.
use Rattle.std.proofs.Common.{◌≡◌, ◌≢◌, ℕ, ◌⊎◌, inl, inr, Bool, true, false, List, [], ◌∷◌, refl, sym, ap, ◌∙◌, arith}
use Rattle.std.specs.Prelude.{◌==◌, ◌||◌}
use Rattle.std.proofs.lemmas.Bool.{or_parts}
use Rattle.lg_base.specs.declared.target.Target.TheVariants.{Riscv64}
use Rattle.lg_op.specs.declared.node.Node.{Node}
use Rattle.lg_op.specs.declared.operand.Reg.{Reg}
use Rattle.lg_op.specs.declared.operand.Reg.TheVariants.{R0, R1, R2, V0, V1, V2, Fp}
use Rattle.lg_live.specs.Uses.{is_read, is_written}
use Rattle.lg_op.specs.Operands.{number_of}
use Rattle.lg_temp.specs.declared.choice.Need.TheVariants.{Any}
use Rattle.lg_temp.specs.declared.choice.Choice.{Choice}
use Rattle.lg_temp.specs.declared.choice.Choice.TheVariants.{Free, Own, Spill}
use Rattle.lg_temp.specs.Abis.{register_of}
use Rattle.lg_temp.specs.Choices.{IsTaken, AreFor}
use Rattle.lg_temp.specs.Chosen.{around, stands_in}
use Rattle.lg_carry.proofs.TemporariesApartLemmas.{none-stood-for, tried-spare}
use Rattle.lg_selr_values.specs.Processor.RvRows.{can_save}
use Rattle.lg_selr_values.proofs.OfProcessor.IsaLemmas.{tried-saved}
use Rattle.lg_carry.specs.Nodes.Straight.{is_taken}
use Rattle.lg_carry.proofs.OfNodes.RegisterLemmas.{stands-for, number-few, numbered-at}
use Rattle.lg_carry.specs.Values.Parts.{first_taken}

-- a register of the node
abbrev pub IsOf : Node → Reg → Type 0
IsOf n r = r ≢ Fp → (is_written n r ≡ true) ⊎ (is_read n r ≡ true)

pub record IsTemporary (n : Node) (choices : List Choice) (u : ℕ) : Type 0 where
  pub stack : u ≢ 2
  pub nonzero : u ≢ 0
  pub link : u ≢ 1
  pub taken : is_taken choices u ≡ true
  pub apart : (r : Reg) → IsOf n r → register_of Riscv64 r ≢ u

same : (u : ℕ) (b : Bool) → ((u == u) || b) ≡ true
same u b = let e : (u == u) ≡ true = grind arith in ap (λ c. c || b) e

some : (x : ℕ) → can_save x ≡ true → x ≢ 0
some x h = λ e. absurd (grind (arith, h, e))

module _ (n : Node) (u : ℕ) where
  none-of : (r : Reg) → r ≢ Fp → stands_in Riscv64 (is_read n) u ≡ false → stands_in Riscv64 (is_written n) u ≡ false → IsOf n r → register_of Riscv64 r ≢ u
  none-of r named read written of e = by (of named)
    where
      by : (is_written n r ≡ true) ⊎ (is_read n r ≡ true) → ⊥
      by (inl w) = none-stood-for Riscv64 (is_written n) u written (number_of r) (number-few r named) (numbered-at (is_written n) r named ∙ w) (sym (stands-for Riscv64 r named) ∙ e)
      by (inr w) = none-stood-for Riscv64 (is_read n) u read (number_of r) (number-few r named) (numbered-at (is_read n) r named ∙ w) (sym (stands-for Riscv64 r named) ∙ e)

  apart-from : (r : Reg) → 8 ≢ u → stands_in Riscv64 (is_read n) u ≡ false → stands_in Riscv64 (is_written n) u ≡ false → IsOf n r → register_of Riscv64 r ≢ u
  apart-from Fp pointer read written of = pointer
  apart-from R0 pointer read written of = none-of R0 (λ z. cc) read written of
  apart-from R1 pointer read written of = none-of R1 (λ z. cc) read written of
  apart-from R2 pointer read written of = none-of R2 (λ z. cc) read written of
  apart-from V0 pointer read written of = none-of V0 (λ z. cc) read written of
  apart-from V1 pointer read written of = none-of V1 (λ z. cc) read written of
  apart-from V2 pointer read written of = none-of V2 (λ z. cc) read written of

  tried-apart : (live : Reg → Bool) (staged : List Bool) (choices : List Choice) → IsTaken (around Riscv64 n live staged) (Any ∷ []) [] u → is_taken choices u ≡ true → IsTemporary n choices u
  tried-apart live staged choices m taken =
      let own = or_parts (stands_in Riscv64 (is_read n) u) (stands_in Riscv64 (is_written n) u) m.own in
      let spare = tried-spare Riscv64 u m.tried in
      record { stack = λ e. spare.stack (sym e); nonzero = some u (tried-saved u m.tried); link = λ e. spare.link 1 refl (sym e); taken = taken; apart = λ r of. apart-from r spare.pointer own.0 own.1 of }

-- the register of the choice for a need that is any
pub temporary-apart : (n : Node) (live : Reg → Bool) (staged : List Bool) (choices : List Choice) → AreFor (around Riscv64 n live staged) (Any ∷ []) [] (Any ∷ []) choices → IsTemporary n choices (first_taken choices)
temporary-apart n live staged [] h = absurd h
temporary-apart n live staged (choice ∷ next ∷ choices) h = absurd h.1
temporary-apart n live staged (Own r ∷ []) h = absurd h.0
temporary-apart n live staged (Free r ∷ []) h = tried-apart n r live staged (Free r ∷ []) h.0.0 (same r false)
temporary-apart n live staged (Spill r k ∷ []) h = tried-apart n r live staged (Spill r k ∷ []) h.0.0 (same r false)
