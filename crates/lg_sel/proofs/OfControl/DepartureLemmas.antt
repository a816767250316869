-- A return leaves the frame where it loads the words that the frame saved, and goes on at the return address.
use Rattle.std.proofs.Common.{◌≡◌, ℕ, ◌+◌, ◌<◌, ◌≤◌, Option, Some, ap, ◌∙◌, arith, true}
use Rattle.lg_carry.specs.Carries.{Rises}
use Rattle.lg_base.specs.Conventions.{portable_register, frame_register, result_register, stack_register}
use Rattle.lg_base.specs.Layout.{frame_pointer, saved_word}
use Rattle.lg_carry.specs.Processors.{Processor}
use Rattle.lg_carry.specs.Registers.{HasWord}
use Rattle.lg_cpu.specs.Steps.{arrived, status_of}
use Rattle.lg_carry.specs.Nodes.Stretches.{PassesIn}
use Rattle.lg_sel.specs.Control.Returns.{Departure}
use Rattle.lg_sel.proofs.OfControl.ChainLemmas.{runs-there}
use Rattle.lg_sel.proofs.OfControl.FrameWordLemmas.{word_at, stack-word, same-word}
use Rattle.lg_sel.proofs.OfControl.StoreLemmas.{HasStack}

-- what such code leaves
pub record IsLeft {Q : Type 0} (P : Processor Q) (sp kept back : ℕ) (v : Option ℕ) (q u : Q) : Type 0 where
  pub saved : (j : ℕ) → j < kept → j < 3 → (P.seen u).registers (portable_register P.target (j + 3)) ≡ word_at (P.seen q).bytes (saved_word (frame_pointer sp) j)
  pub pointer : (P.seen u).registers (frame_register P.target) ≡ word_at (P.seen q).bytes (frame_pointer sp)
  pub stack : (P.seen u).registers (stack_register P.target) ≡ sp
  pub result : (x : ℕ) → v ≡ Some x → (P.seen u).registers (result_register P.target) ≡ x
  pub bytes : (P.seen u).bytes ≡ (P.seen q).bytes
  pub mark : (P.seen u).mark ≡ (P.seen q).mark
  pub here : (P.seen u).pc ≡ back
  pub progress : P.machine.status u ≡ status_of (arrived back)

module _ {Q : Type 0} (P : Processor Q) (sp kept back : ℕ) (v : Option ℕ) (q u : Q) (room : 0x3FF00010 + 272 ≤ sp) (top : sp ≤ 0x40000000)
    (there : HasStack (P.seen q).bytes) (is : IsLeft P sp kept back v q u) where
  -- a word of the frame comes back
  comes-back : (a x y : ℕ) → 0x3FF00000 ≤ a → a + 8 ≤ 0x40000000 → y ≡ word_at (P.seen q).bytes a → HasWord (P.seen q).bytes a x → y ≡ x
  comes-back a x y low high e h = e ∙ same-word (P.seen q).bytes a (word_at (P.seen q).bytes a) x (stack-word (P.seen q).bytes a there low high) h

  pub departure : (low high steps : ℕ) → PassesIn P true low high steps q u → Rises P steps q → steps ≤ 64 → 0 < steps → Departure P low high sp kept back v q
  departure low high steps passes rises few some = record {
    end = u;
    steps = steps;
    passes = passes;
    rises = rises;
    few = few;
    some = some;
    runs = λ inside. is.progress ∙ runs-there back inside;
    ends = λ e. is.progress ∙ ap (λ z. status_of (arrived z)) e;
    here = is.here;
    stack_is = is.stack;
    pointer = λ x h. comes-back (frame_pointer sp) x _ (omega (arith, room)) (omega (arith, top)) is.pointer h;
    saved = λ j x few-saved lt h. comes-back (saved_word (frame_pointer sp) j) x _ (omega (arith, room, lt)) (omega (arith, top)) (is.saved j few-saved lt) h;
    result = is.result;
    bytes = is.bytes;
    mark = is.mark;
  }
