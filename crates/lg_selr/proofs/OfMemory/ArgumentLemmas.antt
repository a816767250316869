-- Reading an argument of the function.
use Rattle.std.proofs.Common.{◌≡◌, ℕ, ◌+◌, ◌-◌, ◌*◌, ◌<◌, ◌≤◌, Bool, true, false, List, [], refl, ap, ◌∙◌, arith}
use Rattle.std.specs.Prelude.{pos, negsuc, nat_lt, if◌then◌else◌}
use Rattle.lg_base.specs.Fields.{word_of}
use Rattle.lg_base.specs.Layout.{frame_pointer, home_word, stack_argument}
use Rattle.lg_base.specs.Words.{add_words}
use Rattle.lg_base.specs.declared.target.Target.TheVariants.{Riscv64}
use Rattle.lg_temp.specs.Abis.{register_of}
use Rattle.lg_selr_values.specs.Processor.RvComputers.{rv_scratch}
use Rattle.lg_selr_values.specs.Processor.RvRows.{rv_rows, rv_seen}
use Rattle.lg_selr_values.proofs.OfProcessor.ComputationLemmas.{spellings-long}
use Rattle.lg_carry.specs.Nodes.Straight.{spoils}
use Rattle.lg_carry.specs.Memory.Arguments.{argument_place, ArgumentsDo, HasArgumentCode}
use Rattle.lg_selr.specs.Memory.ArgumentCode.{argument_offset, rv_argument}
use Rattle.lg_selr.proofs.OfMemory.LoadLemmas.{load-keeps}

-- the offset leads from FP to the argument's place
offset-leads : (sp k : ℕ) → k < 16 → 272 ≤ sp → sp ≤ 0x40000000 → add_words (frame_pointer sp) (word_of (argument_offset k)) ≡ argument_place Riscv64 sp k
offset-leads sp k few low high = by (nat_lt k 8) refl
  where
    by : (b : Bool) → nat_lt k 8 ≡ b
        → add_words (frame_pointer sp) (word_of (if b then negsuc (31 + 8 * k) else pos (16 + 8 * (k - 8)))) ≡ (if b then home_word (frame_pointer sp) k else stack_argument sp (k - 8))
    by true e = grind (arith, few, low, high, e)
    by false e = grind (arith, few, low, high, e)

pub arguments-do : (code : List ℕ) (trash : ℕ) → ArgumentsDo (rv_rows code trash) rv_scratch rv_argument
arguments-do code trash frame t d k q a v named few f place even readable safe lt =
    let s = rv_seen q in
    let leads = offset-leads (s.registers 2 + frame) k few (let l = f.large in omega (arith, l)) (let h = f.high in omega (arith, h)) in
    load-keeps code trash t s (register_of Riscv64 d) 8 (argument_offset k) a v (s.registers 8) 0 (spoils rv_scratch [])
    (ap (λ p. add_words p (word_of (argument_offset k))) f.pointer ∙ (leads ∙ place)) even readable (s.registers 2) refl safe lt

pub has-argument-code : (code : List ℕ) (trash : ℕ) → HasArgumentCode (rv_rows code trash) rv_argument
has-argument-code code trash frame t d k few = let long = spellings-long (rv_argument frame t d k) in omega (arith, long)
