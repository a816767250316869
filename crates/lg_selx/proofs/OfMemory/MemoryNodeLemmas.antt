-- Loads, stores and nodes that read and pass arguments, also variable ones, are carried: x86-64's code is that of a target.
use Rattle.std.proofs.Common.{◌≡◌, ℕ, Bool, true, false, List, sym, ap, ◌∙◌}
use Rattle.lg_base.specs.declared.target.Target.TheVariants.{X86_64}
use Rattle.lg_selx_values.specs.Processor.X86Computers.{x86_scratch}
use Rattle.lg_selx_values.specs.Processor.X86Rows.{x86_rows}
use Rattle.lg_selx_values.proofs.OfProcessor.IsaLemmas.{is-isa}
use Rattle.lg_meaning.specs.Steps.{operand_at, stored_operand}
use Rattle.lg_op.specs.Forms.{admit, forms_of, store_forms}
use Rattle.lg_x86.specs.Spelling.{IsInstr}
use Rattle.lg_carry.specs.Memory.Accesses.{address_of}
use Rattle.lg_carry.specs.Memory.Operands.{named}
use Rattle.lg_carry.proofs.OfMemory.GetargLemmas.{arguments-carry}
use Rattle.lg_carry.proofs.OfMemory.MemoryNodeLemmas.{loads-carry, straight-stores-with-temporaries-carry}
use Rattle.lg_carry.proofs.OfMemory.PushLemmas.{pushes-carry}
use Rattle.lg_carry.proofs.OfMemory.VariableArgumentLemmas.{next-arguments-carry}
use Rattle.lg_carry.specs.Nodes.Isas.{IsIsa}
use Rattle.lg_carry.specs.Values.Parts.{first_taken}
use Rattle.lg_selx.specs.Memory.Accesses.{x86_load, store_needs, store_code}
use Rattle.lg_selx.specs.Memory.ArgumentCode.{x86_argument}
use Rattle.lg_selx.specs.Memory.MemoryNodes.{StoresCarry, MemoryIsCarried}
use Rattle.lg_selx.specs.Memory.PushCode.{x86_push}
use Rattle.lg_selx.specs.Memory.VariableArgumentCode.{x86_next_argument}
use Rattle.lg_selx.proofs.OfMemory.ArgumentLemmas.{arguments-do, has-argument-code}
use Rattle.lg_selx.proofs.OfMemory.LoadLemmas.{loads-do, has-code}
use Rattle.lg_selx.proofs.OfMemory.PushLemmas.{pushes-do, has-push-code}
use Rattle.lg_selx.proofs.OfMemory.StoreLemmas.{store-does-so, store-has-code}
use Rattle.lg_selx.proofs.OfMemory.TemporaryLemmas.{spare-for, needs-few, choices-are, one-spilled}
use Rattle.lg_selx.proofs.OfMemory.VariableArgumentLemmas.{next-arguments-do, has-next-argument-code}
use Rattle.lg_temp.specs.Abis.{register_of}

clash : {b : Bool} {A : Type 0} → b ≡ true → b ≡ false → A
clash e h = cc

stores-carry : (code : List ℕ) (trash : ℕ) → IsIsa (x86_rows code trash) x86_scratch IsInstr → StoresCarry code trash
stores-carry code trash isa t at c i n frame live staged choices e none words are pushes x is-frame k =
    let w = needs-few at in
    let b = named (operand_at n (stored_operand at)) in
    let a = address_of at (operand_at n 0) (operand_at n 1) in
    let u = first_taken choices in
    let formed : admit (store_forms at) n.operands ≡ true = ap (λ o. admit (forms_of o) n.operands) (sym e) ∙ (x.formed n x.here).forms in
    straight-stores-with-temporaries-carry (x86_rows code trash) x86_scratch IsInstr isa c i n t at frame live staged (store_needs at) choices (store_code t at n u) e none words
    (λ y h. clash h (w.unnamed y)) w.few are pushes x is-frame k (store-has-code t (register_of X86_64 b) u a)
    (store-does-so code trash choices u frame t b (one-spilled choices (choices-are at n live staged choices are)) at (operand_at n 0) (operand_at n 1)
    (spare-for n t at live staged choices e formed none are))

pub memory-is-carried : MemoryIsCarried
memory-is-carried code trash small bytes word =
    let isa = is-isa code trash small bytes word in record {
      loads = loads-carry (x86_rows code trash) x86_scratch IsInstr isa x86_load (loads-do code trash) (has-code code trash);
      stores = stores-carry code trash isa;
      arguments = arguments-carry (x86_rows code trash) x86_scratch IsInstr isa x86_argument (arguments-do code trash) (has-argument-code code trash);
      next_arguments = next-arguments-carry (x86_rows code trash) x86_scratch IsInstr isa x86_next_argument (next-arguments-do code trash) (has-next-argument-code code trash);
      pushes = pushes-carry (x86_rows code trash) x86_scratch IsInstr isa x86_push (pushes-do code trash) (has-push-code code trash);
    }
