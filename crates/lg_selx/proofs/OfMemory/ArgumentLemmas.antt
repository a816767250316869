-- Reading an argument of the function.
use Rattle.std.proofs.Common.{◌≡◌, ℕ, ◌+◌, ◌-◌, ◌*◌, ◌<◌, ◌≤◌, Bool, true, false, List, [], refl, ap, ◌∙◌, arith}
use Rattle.std.specs.Prelude.{nat_lt, if◌then◌else◌, pos, negsuc}
use Rattle.std.specs.Option.{option_and_then}
use Rattle.lg_base.specs.Fields.{word_of}
use Rattle.lg_base.specs.Layout.{frame_pointer, home_word, stack_argument}
use Rattle.lg_base.specs.Words.{add_words}
use Rattle.lg_base.specs.declared.target.Target.TheVariants.{X86_64}
use Rattle.lg_op.specs.Operators.{width, extended_by_type}
use Rattle.lg_x86.specs.declared.instruction.Instr.TheVariants as instr
use Rattle.lg_cpu.specs.X86Step.{load_width}
use Rattle.lg_temp.specs.Abis.{register_of}
use Rattle.lg_carry.specs.Spills.{with_register}
use Rattle.lg_selx_values.specs.Processor.MakingNodes.{scene}
use Rattle.lg_selx_values.specs.Processor.Makings.{makes}
use Rattle.lg_selx_values.specs.Processor.X86Computers.{x86_scratch}
use Rattle.lg_selx_values.specs.Processor.X86Rows.{x86_rows, x86_seen}
use Rattle.lg_carry.specs.Nodes.Straight.{spoils}
use Rattle.lg_carry.specs.Memory.Arguments.{ArgumentsDo, HasArgumentCode}
use Rattle.lg_selx.specs.Memory.Accesses.{load_row}
use Rattle.lg_selx.specs.Memory.ArgumentCode.{argument_offset, x86_argument}
use Rattle.lg_selx.proofs.OfMemory.EndLemmas.{makes-does, access-above, some-spelled}
use Rattle.lg_selx.proofs.OfMemory.LoadLemmas.{load-made, load-wide}

-- ---- the argument's place, from FP
home-leads : (sp k : ℕ) → k < 6 → 272 ≤ sp → sp ≤ 0x40000000 → add_words (frame_pointer sp) (word_of (negsuc (31 + 8 * k))) ≡ home_word (frame_pointer sp) k
home-leads sp k few low high = grind (arith, few, low, high)

stack-leads : (sp k : ℕ) → k < 16 → 272 ≤ sp → sp ≤ 0x40000000 → add_words (frame_pointer sp) (16 + 8 * (k - 6)) ≡ stack_argument sp (k - 6)
stack-leads sp k few low high = omega (arith, few, low, high)

argument-leads : (sp k : ℕ) → k < 16 → 272 ≤ sp → sp ≤ 0x40000000
    → add_words (frame_pointer sp) (word_of (argument_offset k)) ≡ (if nat_lt k 6 then home_word (frame_pointer sp) k else stack_argument sp (k - 6))
argument-leads sp k few low high = by (nat_lt k 6) refl
  where
    by : (b : Bool) → nat_lt k 6 ≡ b → add_words (frame_pointer sp) (word_of (if b then negsuc (31 + 8 * k) else pos (16 + 8 * (k - 6))))
        ≡ (if b then home_word (frame_pointer sp) k else stack_argument sp (k - 6))
    by true e = home-leads sp k (grind (arith, e)) low high
    by false e = stack-leads sp k few low high

pub arguments-do : (code : List ℕ) (trash : ℕ) → ArgumentsDo (x86_rows code trash) x86_scratch x86_argument
arguments-do code trash frame t d k q a v named few f place even readable safe lt =
    let s = x86_seen q in
    let w = q.state.registers in
    let sp = w 4 + frame in
    let rd = register_of X86_64 d in
    let low : 272 ≤ sp = (let l = f.large in omega (arith, l)) in
    let high : sp ≤ 0x40000000 = (let h = f.high in omega (arith, h)) in
    let at : add_words (w 5) (word_of (argument_offset k)) ≡ a = ap (λ x. add_words x (word_of (argument_offset k))) f.pointer ∙ argument-leads sp k few low high ∙ place in
    makes-does code trash (x86_argument frame t d k) s (with_register w rd (extended_by_type t v)) s.bytes s.flags (w 5) (spoils x86_scratch [])
    (λ bytes same. record {
      end = bytes;
      above = (access-above w 5 (argument_offset k) a (width t) (w 4) (load_width (load_row t)) refl at (load-wide t) safe, λ z e. tt);
      makes_it = ap (option_and_then (makes []))
          (load-made t (scene w s.flags bytes) rd 5 (argument_offset k) a v
          at (readable bytes same) lt);
      bytes_are = same;
    })

pub has-argument-code : (code : List ℕ) (trash : ℕ) → HasArgumentCode (x86_rows code trash) x86_argument
has-argument-code code trash frame t d k few = some-spelled [] (instr.Load (load_row t) (register_of X86_64 d) 5 (argument_offset k)) []
