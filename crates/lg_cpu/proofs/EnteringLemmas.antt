-- The arguments of a call are put one after the other.
use Rattle.std.proofs.Common.{◌≡◌, ℕ, zero, suc, ◌+◌, ◌-◌, ◌<◌, Option, true, List, [], ◌∷◌, length, take, refl, sym, ap, ◌∙◌, add-one, arith}
use Rattle.std.specs.Prelude.{nat_lt, slice_index, if◌then◌else◌}
use Rattle.lg_base.specs.Conventions.{link_register, stack_register}
use Rattle.lg_base.specs.Layout.{stop_address}
use Rattle.lg_base.specs.declared.target.Target.{Target}
use Rattle.lg_base.specs.declared.target.Target.TheVariants.{X86_64, Aarch64, Riscv64}
use Rattle.lg_cpu.specs.Entering.{put_in, put_argument, put_arguments, put_return, prepared, entry_pointer}
use Rattle.lg_cpu.specs.Machines.{Inner, with_state, with_register}
use Rattle.lg_cpu.specs.States.{CpuState}
use Rattle.lg_cpu.specs.Targets.{register_count}

-- one more
pub put_more : (target : Target) (stack i : ℕ) (words : List ℕ) (n : ℕ) (q : CpuState) → n < length words
    → put_arguments target stack i (take (suc n) words) q ≡ put_argument target stack (i + n) (slice_index words n) (put_arguments target stack i (take n words) q)
unfolding put_arguments
put_more target stack i [] n q lt = grind (arith, lt)
put_more target stack i (w ∷ words) zero q lt = let z : i ≡ i + 0 = omega arith in ap (λ k. put_argument target stack k w q) z
put_more target stack i (w ∷ words) (suc n) q lt =
    let z : suc i + n ≡ i + suc n = omega arith in
    put_more target stack (suc i) words n (put_argument target stack i w q) (omega (arith, lt))
    ∙ ap (λ k. put_argument target stack k (slice_index words n) (put_arguments target stack (suc i) (take n words) (put_argument target stack i w q))) z

pub put_next : (p q r : Inner) (stack : ℕ) (words : List ℕ) (n : ℕ) → n < length words
    → q ≡ with_state p (put_arguments p.fixed.target stack 0 (take n words) p.state)
    → r ≡ with_state q (put_argument q.fixed.target stack n (slice_index words n) q.state)
    → r ≡ with_state p (put_arguments p.fixed.target stack 0 (take (n + 1) words) p.state)
put_next p q r stack words n lt before step =
    let z : n ≡ 0 + n = omega arith in
    let more : put_argument p.fixed.target stack n (slice_index words n) (put_arguments p.fixed.target stack 0 (take n words) p.state) ≡ put_arguments p.fixed.target stack 0 (take (n + 1) words) p.state =
    ap (λ k. put_argument p.fixed.target stack k (slice_index words n) (put_arguments p.fixed.target stack 0 (take n words) p.state)) z
    ∙ sym (put_more p.fixed.target stack 0 words n p.state lt) ∙ ap (λ k. put_arguments p.fixed.target stack 0 (take k words) p.state) (sym (add-one n)) in
    step ∙ ap (λ x. with_state x (put_argument x.fixed.target stack n (slice_index words n) x.state)) before ∙ ap (with_state p) more

pub put_none : (p : Inner) (stack : ℕ) → p ≡ with_state p (put_arguments p.fixed.target stack 0 [] p.state)
unfolding put_arguments
put_none p stack = refl

-- ---- a call
pointer_is : (t : Target) → nat_lt (stack_register t) (register_count t) ≡ true
pointer_is X86_64 = refl
pointer_is Aarch64 = refl
pointer_is Riscv64 = refl

pub put_call : (p a b d : Inner) (target : Target) (stack number pointer : ℕ) (link : Option ℕ) (words : List ℕ) → target ≡ p.fixed.target → link ≡ link_register target → number ≡ stack_register target
    → pointer ≡ entry_pointer (link_register target) stack → a ≡ with_state p (put_arguments p.fixed.target stack 0 words p.state) → b ≡ with_state a (put_in link a.state (stack - 8) stop_address)
    → d ≡ (if nat_lt number (register_count b.fixed.target) then with_state b (with_register b.state number pointer) else b)
    → d ≡ with_state p (prepared p.fixed.target stack words p.state)
put_call p a b d target stack number pointer link words is link_is number_is pointer_at args return_put stack_put =
    let t = p.fixed.target in
    let b_is : b ≡ with_state p (put_return t stack (put_arguments t stack 0 words p.state)) =
    return_put ∙ ap (λ o. with_state a (put_in o a.state (stack - 8) stop_address)) (link_is ∙ ap link_register is)
    ∙ ap (λ x. with_state x (put_in (link_register t) x.state (stack - 8) stop_address)) args in
    stack_put
    ∙ ap (λ n. if nat_lt n (register_count b.fixed.target) then with_state b (with_register b.state n pointer) else b) (number_is ∙ ap stack_register is)
    ∙ ap (λ v. if nat_lt (stack_register t) (register_count b.fixed.target) then with_state b (with_register b.state (stack_register t) v) else b) (pointer_at ∙ ap (λ x. entry_pointer (link_register x) stack) is)
    ∙ ap (λ x. if nat_lt (stack_register t) (register_count x.fixed.target) then with_state x (with_register x.state (stack_register t) (entry_pointer (link_register t) stack)) else x) b_is
    ∙ ap (λ c. if c then with_state p (prepared t stack words p.state) else with_state p (put_return t stack (put_arguments t stack 0 words p.state))) (pointer_is t)
