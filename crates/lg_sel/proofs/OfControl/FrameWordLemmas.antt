-- The words of a frame, by FP.
use Rattle.std.proofs.Common.{◌≡◌, ℕ, ◌+◌, ◌-◌, ◌*◌, ◌<◌, ◌≤◌, Some, None, Option, sym, ap, ◌∙◌, arith}
use Rattle.std.specs.Prelude.{negsuc, if◌then◌else◌}
use Rattle.lg_base.specs.Fields.{word_of}
use Rattle.lg_base.specs.Layout.{return_word, saved_word}
use Rattle.lg_base.specs.Spaces.{number_at, byte_or_zero}
use Rattle.lg_base.specs.Words.{add_words}
use Rattle.lg_base.proofs.SpaceLemmas.{mapped-all}
use Rattle.lg_carry.specs.Registers.{HasWord}
use Rattle.lg_sel.proofs.OfControl.StoreLemmas.{HasStack}

-- the word at an address, where there is memory
abbrev pub word_at : (ℕ → Option ℕ) → ℕ → ℕ
word_at m a = number_at (byte_or_zero m) a 8

pub stack-word : (m : ℕ → Option ℕ) (a : ℕ) → HasStack m → 0x3FF00000 ≤ a → a + 8 ≤ 0x40000000 → HasWord m a (word_at m a)
stack-word m a there low high = let e = mapped-all m a 8 (λ j le lt. there j (grind arith)) in ap (λ b. if b then Some (word_at m a) else None) e

pub same-word : (m : ℕ → Option ℕ) (a v w : ℕ) → HasWord m a v → HasWord m a w → v ≡ w
same-word m a v w h k = let e : Some v ≡ Some w = sym h ∙ k in cc

-- ---- where they are
pub saved-address : (sp v : ℕ) → v < 3 → 0x3FF00010 + 272 ≤ sp → sp ≤ 0x40000000 → add_words (sp - 16) (word_of (negsuc (7 + 8 * v))) ≡ saved_word (sp - 16) v
saved-address sp v few low high = grind (arith, few, low, high)

pub link-address : (sp : ℕ) → 0x3FF00010 + 272 ≤ sp → sp ≤ 0x40000000 → add_words (sp - 16) 8 ≡ return_word sp
link-address sp low high = grind (arith, low, high)

pub stack-address : (sp : ℕ) → 0x3FF00010 + 272 ≤ sp → sp ≤ 0x40000000 → add_words (sp - 16) 16 ≡ sp
stack-address sp low high = grind (arith, low, high)

pub pointer-address : (sp : ℕ) → 0x3FF00010 + 272 ≤ sp → sp ≤ 0x40000000 → add_words (sp - 16) 0 ≡ sp - 16
pointer-address sp low high = grind (arith, low, high)
