-- Registers and memory at the start.
use Rattle.std.proofs.Common.{◌≡◌, ℕ, ◌+◌, ◌-◌, List, length, replicate, Option, Some, None, Bool, true, false, refl, sym, ap, ◌∙◌, arith, ⊎_elim}
use Rattle.std.specs.Prelude.{slice_index, is_some, nat_lt, nat_le, ◌&&◌, if◌then◌else◌}
use Rattle.std.proofs.lemmas.List.{get_or-replicate, get_or_past}
use Rattle.std.proofs.lemmas.Bool.{cases_lt}
use mathlib.Core.Path.{fun_ext}
use Rattle.lg_base.specs.Layout.{return_word, stack_end}
use Rattle.lg_base.specs.Spaces.{mapped}
use Rattle.lg_base.proofs.SpaceLemmas.{mapped-all}
use Rattle.lg_base.specs.Parts.{Parts, IsZeroed, byte_at, in_part, has, data_base, args_base, heap_base, stack_base}
use Rattle.lg_cpu.specs.Starts.{start_bytes}

pub trash_is : (n : ℕ) (xs : List ℕ) (trash : ℕ) → xs ≡ replicate n trash → length xs ≡ n → slice_index xs ≡ (λ r. if nat_lt r n then trash else 0)
trash_is n xs trash e long = fun_ext (λ r. ⊎_elim
    (λ lt. let t : nat_lt r n ≡ true = grind (arith, lt) in ap (λ ys. slice_index ys r) e ∙ get_or-replicate n r trash 0 lt ∙ sym (ap (λ b. if b then trash else 0) t))
    (λ ge. let t : nat_lt r n ≡ false = grind (arith, ge) in get_or_past xs r 0 (omega (arith, long, ge)) ∙ sym (ap (λ b. if b then trash else 0) t))
    (cases_lt r n))

-- ---- the memory
pub start_is : (p : Parts) (image args : List ℕ) → IsZeroed p → p.data_part ≡ image → p.args_part ≡ args → byte_at p ≡ start_bytes image args
start_is p image args z first second = fun_ext (λ a.
    let heap_is : has heap_base p.heap_part a ≡ (nat_le heap_base a && nat_lt a (heap_base + 0x400000)) = ap (λ n. nat_le heap_base a && nat_lt a (heap_base + n)) z.heap_len in
    let stack_is : has stack_base p.stack_part a ≡ (nat_le stack_base a && nat_lt a (stack_base + 0x100000)) = ap (λ n. nat_le stack_base a && nat_lt a (stack_base + n)) z.stack_len in
    let heap_zero : slice_index p.heap_part (a - heap_base) ≡ 0 = ap (λ f. f (a - heap_base)) z.heap in
    let stack_zero : slice_index p.stack_part (a - stack_base) ≡ 0 = ap (λ f. f (a - stack_base)) z.stack in
    ap (λ xs. in_part data_base xs a (in_part args_base p.args_part a (in_part heap_base p.heap_part a (in_part stack_base p.stack_part a None)))) first
    ∙ ap (λ xs. in_part data_base image a (in_part args_base xs a (in_part heap_base p.heap_part a (in_part stack_base p.stack_part a None)))) second
    ∙ ap (λ b. in_part data_base image a (in_part args_base args a (if b then Some (slice_index p.heap_part (a - heap_base)) else in_part stack_base p.stack_part a None))) heap_is
    ∙ ap (λ n. in_part data_base image a (in_part args_base args a (if (nat_le heap_base a && nat_lt a (heap_base + 0x400000)) then Some n else in_part stack_base p.stack_part a None))) heap_zero
    ∙ ap (λ b. in_part data_base image a (in_part args_base args a (if (nat_le heap_base a && nat_lt a (heap_base + 0x400000)) then Some 0 else (if b then Some (slice_index p.stack_part (a - stack_base)) else None)))) stack_is
    ∙ ap (λ n. in_part data_base image a (in_part args_base args a (if (nat_le heap_base a && nat_lt a (heap_base + 0x400000)) then Some 0 else (if (nat_le stack_base a && nat_lt a (stack_base + 0x100000)) then Some n else None)))) stack_zero)

-- the word of the first return address lies in the stack
some-in : (b : Bool) (x : ℕ) (o : Option ℕ) → is_some o ≡ true → is_some (if b then Some x else o) ≡ true
some-in true x o h = refl
some-in false x o h = h

pub stack_mapped : (image args : List ℕ) → mapped (start_bytes image args) (return_word stack_end) 8 ≡ true
stack_mapped image args = mapped-all (start_bytes image args) (return_word stack_end) 8 (λ j from to.
    let inside : (nat_le stack_base j && nat_lt j (stack_base + 0x100000)) ≡ true = grind (arith, from, to) in
    some-in (has data_base image j) _ _ (some-in (has args_base args j) _ _
    (some-in (nat_le heap_base j && nat_lt j (heap_base + 0x400000)) 0 _ (ap (λ b. is_some {T = ℕ} (if b then Some 0 else None)) inside))))
