-- The registers that the convention of a target keeps.
use Rattle.std.proofs.Common.{◌≡◌, ◌≢◌, ◌⊎◌, inl, inr, ℕ, zero, suc, ◌+◌, ◌<◌, Bool, true, false, List, [], ◌∷◌, Option, Some, None, refl, sym, ap, ◌∙◌, subst, arith, ⊎_elim}
use Rattle.std.specs.Prelude.{◌==◌, ◌%◌, ◌&&◌, not, nat_eq, nat_lt, slice_get, if◌then◌else◌}
use Rattle.std.specs.List.{list_any}
use Rattle.std.proofs.lemmas.Bool.{false_from_ne_true, or_cases}
use Rattle.lg_base.specs.Conventions.{is_kept, kept_registers, result_register, portable_register, frame_register, stack_register}
use Rattle.lg_base.specs.HostNames.{host_by_address}
use Rattle.lg_base.specs.Spaces.{loaded}
use Rattle.lg_base.specs.Words.{add_words}
use Rattle.lg_base.specs.declared.flags.Flags.{Flags}
use Rattle.lg_base.specs.declared.host_name.HostName.{HostName}
use Rattle.lg_base.specs.declared.target.Target.{Target}
use Rattle.lg_base.specs.declared.target.Target.TheVariants.{X86_64, Aarch64, Riscv64}
use Rattle.lg_host.specs.Host.{Host, Gives, Exits, Undefined}
use Rattle.lg_cpu.specs.HostSteps.{put, clobbered, after_call, returned, answer_at}
use Rattle.lg_cpu.specs.States.{CpuState}
use Rattle.lg_cpu.specs.Steps.{Progress, Goes, EndedWith, Faulted, Effect, Run, after, on_going}
use Rattle.lg_cpu.specs.Targets.{effect_of}
use Rattle.lg_cpu.specs.A64Step as a64
use Rattle.lg_cpu.specs.RvStep as rv
use Rattle.lg_cpu.specs.X86Step as x86
use Rattle.lg_carry.specs.Endings.{HostsKeep, IsUnwritten}
use Rattle.lg_carry.specs.Outside.{is_outside}
use Rattle.lg_asm.specs.Targets.{processor_of}

-- ---- a host function's step
kept-no-result : (target : Target) → is_kept target (result_register target) ≡ true → ⊥
kept-no-result X86_64 e = cc
kept-no-result target e = cc

same-number : (a b : ℕ) → (a == b) ≡ true → a ≡ b
same-number a b e = grind (arith, e)

after-keeps : (target : Target) (n : ℕ) (w : ℕ → ℕ) (trash v r : ℕ) → is_kept target r ≡ true → after_call target n w trash v r ≡ w r
after-keeps target n w trash v r e =
    let other : (r == result_register target) ≡ false =
    false_from_ne_true (r == result_register target) (λ z. kept-no-result target (subst (λ x. is_kept target x ≡ true) (same-number r (result_register target) z) e)) in
    ap (λ b. if b then v else clobbered target n w trash r) other ∙ ap (λ k. if nat_lt r n && not k then trash else w r) e ∙ by (nat_lt r n)
  where
    by : (b : Bool) → (if b && false then trash else w r) ≡ w r
    by true = refl
    by false = refl

returned-keeps : (a : Host) (back : ℕ) (registers : ℕ → ℕ → ℕ) (flags : Flags) (q : CpuState) (r : ℕ) → ((v : ℕ) → registers v r ≡ q.registers r)
    → (returned a back registers flags q).to.registers r ≡ q.registers r
returned-keeps (Gives v d to bytes) back registers flags q r h = h v
returned-keeps (Exits status) back registers flags q r h = refl
returned-keeps Undefined back registers flags q r h = refl

abbrev Keeps : Effect CpuState → CpuState → ℕ → Type 0
Keeps e q r = e.to.registers r ≡ q.registers r

choice-keeps : (b : Bool) (x y : Effect CpuState) (q : CpuState) (r : ℕ) → Keeps x q r → Keeps y q r → Keeps (if b then x else y) q r
choice-keeps true x y q r h k = h
choice-keeps false x y q r h k = k

riscv64-keeps : (name : HostName) (trash : ℕ) (q : CpuState) (r : ℕ) → is_kept Riscv64 r ≡ true → Keeps (rv.enter_host name trash q) q r
riscv64-keeps name trash q r e =
    choice-keeps (q.registers 2 % 16 == 0) _ _ q r
    (returned-keeps (answer_at Riscv64 name (q.registers 2) q) _ _ _ q r (λ v. after-keeps Riscv64 32 q.registers trash v r e)) refl

aarch64-keeps : (name : HostName) (trash : ℕ) (q : CpuState) (r : ℕ) → is_kept Aarch64 r ≡ true → Keeps (a64.enter_host name trash q) q r
aarch64-keeps name trash q r e =
    choice-keeps (q.registers 31 % 16 == 0) _ _ q r
    (returned-keeps (answer_at Aarch64 name (q.registers 31) q) _ _ _ q r (λ v. after-keeps Aarch64 32 q.registers trash v r e)) refl

put-other : (w : ℕ → ℕ) (to v r : ℕ) → r ≢ to → put w to v r ≡ w r
put-other w to v r ne = ap (λ b. if b then v else w r) (false_from_ne_true (r == to) (λ z. ne (same-number r to z)))

x86-enters : (name : HostName) (trash : ℕ) (q : CpuState) (r : ℕ) → is_kept X86_64 r ≡ true → r ≢ 4 → (link : Option ℕ) → Keeps (x86.enter_with name trash q link) q r
x86-enters name trash q r e ne None = refl
x86-enters name trash q r e ne (Some link) =
    returned-keeps (answer_at X86_64 name (add_words (q.registers 4) 8) q) link _ _ q r
    (λ v. put-other (after_call X86_64 16 q.registers trash v) 4 (add_words (q.registers 4) 8) r ne ∙ after-keeps X86_64 16 q.registers trash v r e)

x86-keeps : (name : HostName) (trash : ℕ) (q : CpuState) (r : ℕ) → is_kept X86_64 r ≡ true → r ≢ 4 → Keeps (x86.enter_host name trash q) q r
x86-keeps name trash q r e ne =
    choice-keeps (q.registers 4 % 16 == 8) _ _ q r
    (choice-keeps (x86.takes_al name (q.registers 0)) _ _ q r (x86-enters name trash q r e ne (loaded q.bytes (q.registers 4) 8)) refl) refl

effect-keeps : (target : Target) (code : List ℕ) (trash : ℕ) (q : CpuState) (name : HostName) (r : ℕ) → host_by_address q.pc ≡ Some name → is_kept target r ≡ true
    → r ≢ stack_register target → Keeps (effect_of target code trash q) q r
effect-keeps Riscv64 code trash q name r here e ne = subst (λ o. Keeps (rv.effect_at o code trash q) q r) (sym here) (riscv64-keeps name trash q r e)
effect-keeps Aarch64 code trash q name r here e ne = subst (λ o. Keeps (a64.effect_at o code trash q) q r) (sym here) (aarch64-keeps name trash q r e)
effect-keeps X86_64 code trash q name r here e ne = subst (λ o. Keeps (x86.effect_at o code trash q) q r) (sym here) (x86-keeps name trash q r e ne)

step-keeps : (p : Progress) (e : Effect CpuState) (q : Run CpuState) (r : ℕ) → Keeps e q.state r → (on_going p (after q e) q).state.registers r ≡ q.state.registers r
step-keeps Goes e q r h = h
step-keeps (EndedWith status) e q r h = refl
step-keeps (Faulted kind) e q r h = refl

pub hosts-keep : (target : Target) (code : List ℕ) (trash : ℕ) → HostsKeep (processor_of target code trash)
hosts-keep target code trash q name r here e ne =
    step-keeps q.progress (effect_of target code trash q.state) q r (effect-keeps target code trash q.state name r here e ne)

-- ---- which they are
-- a register is one of a list
among : (r : ℕ) (ks : List ℕ) → list_any (nat_eq r) ks ≡ true → (j : ℕ) × (slice_get ks j ≡ Some r)
among r [] e = cc
among r (k ∷ ks) e =
    ⊎_elim
    (λ (here : nat_eq r k ≡ true). (0, ap Some (sym (same-number r k here))))
    (λ (there : list_any (nat_eq r) ks ≡ true). let m = among r ks there in (suc m.0, m.1))
    (or_cases (nat_eq r k) (list_any (nat_eq r) ks) e)

-- FP, one of V0 to V2, or one that no code writes
abbrev pub IsOne : Target → ℕ → Type 0
IsOne target r = (r ≡ frame_register target) ⊎ (((v : ℕ) × (v < 3) × (r ≡ portable_register target (v + 3))) ⊎ IsUnwritten target r)

some-same : {x y : ℕ} → Some x ≡ Some y → y ≡ x
some-same e = cc

unwritten : (target : Target) (k r : ℕ) → r ≡ k → is_kept target k ≡ true → (k ≡ stack_register target → ⊥) → is_outside target true k ≡ true → is_outside target false k ≡ true → IsUnwritten target r
unwritten target k r e kept other out in-frame = subst (IsUnwritten target) (sym e) record { kept = kept; other = other; outside = by }
  where
    by : (moves : Bool) → is_outside target moves k ≡ true
    by true = out
    by false = in-frame

x86-one : (j r : ℕ) → slice_get (kept_registers X86_64) j ≡ Some r → r ≢ 4 → IsOne X86_64 r
x86-one zero r e ne = inr (inl (0, omega arith, some-same e))
x86-one (suc zero) r e ne = absurd (ne (some-same e))
x86-one (suc (suc zero)) r e ne = inl (some-same e)
x86-one (suc (suc (suc zero))) r e ne = inr (inr (unwritten X86_64 12 r (some-same e) refl (λ z. absurd (omega (arith, z))) refl refl))
x86-one (suc (suc (suc (suc zero)))) r e ne = inr (inl (1, omega arith, some-same e))
x86-one (suc (suc (suc (suc (suc zero))))) r e ne = inr (inl (2, omega arith, some-same e))
x86-one (suc (suc (suc (suc (suc (suc zero)))))) r e ne = inr (inr (unwritten X86_64 15 r (some-same e) refl (λ z. absurd (omega (arith, z))) refl refl))
x86-one (suc (suc (suc (suc (suc (suc (suc j))))))) r e ne = cc

aarch64-one : (j r : ℕ) → slice_get (kept_registers Aarch64) j ≡ Some r → r ≢ 31 → IsOne Aarch64 r
aarch64-one zero r e ne = inr (inl (0, omega arith, some-same e))
aarch64-one (suc zero) r e ne = inr (inl (1, omega arith, some-same e))
aarch64-one (suc (suc zero)) r e ne = inr (inl (2, omega arith, some-same e))
aarch64-one (suc (suc (suc zero))) r e ne = inr (inr (unwritten Aarch64 22 r (some-same e) refl (λ z. absurd (omega (arith, z))) refl refl))
aarch64-one (suc (suc (suc (suc zero)))) r e ne = inr (inr (unwritten Aarch64 23 r (some-same e) refl (λ z. absurd (omega (arith, z))) refl refl))
aarch64-one (suc (suc (suc (suc (suc zero))))) r e ne = inr (inr (unwritten Aarch64 24 r (some-same e) refl (λ z. absurd (omega (arith, z))) refl refl))
aarch64-one (suc (suc (suc (suc (suc (suc zero)))))) r e ne = inr (inr (unwritten Aarch64 25 r (some-same e) refl (λ z. absurd (omega (arith, z))) refl refl))
aarch64-one (suc (suc (suc (suc (suc (suc (suc zero))))))) r e ne = inr (inr (unwritten Aarch64 26 r (some-same e) refl (λ z. absurd (omega (arith, z))) refl refl))
aarch64-one (suc (suc (suc (suc (suc (suc (suc (suc zero)))))))) r e ne = inr (inr (unwritten Aarch64 27 r (some-same e) refl (λ z. absurd (omega (arith, z))) refl refl))
aarch64-one (suc (suc (suc (suc (suc (suc (suc (suc (suc zero))))))))) r e ne = inr (inr (unwritten Aarch64 28 r (some-same e) refl (λ z. absurd (omega (arith, z))) refl refl))
aarch64-one (suc (suc (suc (suc (suc (suc (suc (suc (suc (suc zero)))))))))) r e ne = inl (some-same e)
aarch64-one (suc (suc (suc (suc (suc (suc (suc (suc (suc (suc (suc zero))))))))))) r e ne = absurd (ne (some-same e))
aarch64-one (suc (suc (suc (suc (suc (suc (suc (suc (suc (suc (suc (suc j)))))))))))) r e ne = cc

riscv64-one : (j r : ℕ) → slice_get (kept_registers Riscv64) j ≡ Some r → r ≢ 2 → IsOne Riscv64 r
riscv64-one zero r e ne = absurd (ne (some-same e))
riscv64-one (suc zero) r e ne = inl (some-same e)
riscv64-one (suc (suc zero)) r e ne = inr (inl (0, omega arith, some-same e))
riscv64-one (suc (suc (suc zero))) r e ne = inr (inl (1, omega arith, some-same e))
riscv64-one (suc (suc (suc (suc zero)))) r e ne = inr (inl (2, omega arith, some-same e))
riscv64-one (suc (suc (suc (suc (suc zero))))) r e ne = inr (inr (unwritten Riscv64 20 r (some-same e) refl (λ z. absurd (omega (arith, z))) refl refl))
riscv64-one (suc (suc (suc (suc (suc (suc zero)))))) r e ne = inr (inr (unwritten Riscv64 21 r (some-same e) refl (λ z. absurd (omega (arith, z))) refl refl))
riscv64-one (suc (suc (suc (suc (suc (suc (suc zero))))))) r e ne = inr (inr (unwritten Riscv64 22 r (some-same e) refl (λ z. absurd (omega (arith, z))) refl refl))
riscv64-one (suc (suc (suc (suc (suc (suc (suc (suc zero)))))))) r e ne = inr (inr (unwritten Riscv64 23 r (some-same e) refl (λ z. absurd (omega (arith, z))) refl refl))
riscv64-one (suc (suc (suc (suc (suc (suc (suc (suc (suc zero))))))))) r e ne = inr (inr (unwritten Riscv64 24 r (some-same e) refl (λ z. absurd (omega (arith, z))) refl refl))
riscv64-one (suc (suc (suc (suc (suc (suc (suc (suc (suc (suc zero)))))))))) r e ne = inr (inr (unwritten Riscv64 25 r (some-same e) refl (λ z. absurd (omega (arith, z))) refl refl))
riscv64-one (suc (suc (suc (suc (suc (suc (suc (suc (suc (suc (suc zero))))))))))) r e ne = inr (inr (unwritten Riscv64 26 r (some-same e) refl (λ z. absurd (omega (arith, z))) refl refl))
riscv64-one (suc (suc (suc (suc (suc (suc (suc (suc (suc (suc (suc (suc zero)))))))))))) r e ne = inr (inr (unwritten Riscv64 27 r (some-same e) refl (λ z. absurd (omega (arith, z))) refl refl))
riscv64-one (suc (suc (suc (suc (suc (suc (suc (suc (suc (suc (suc (suc (suc j))))))))))))) r e ne = cc

pub kept-one : (target : Target) (r : ℕ) → is_kept target r ≡ true → r ≢ stack_register target → IsOne target r
kept-one X86_64 r e ne = let m = among r (kept_registers X86_64) e in x86-one m.0 r m.1 ne
kept-one Aarch64 r e ne = let m = among r (kept_registers Aarch64) e in aarch64-one m.0 r m.1 ne
kept-one Riscv64 r e ne = let m = among r (kept_registers Riscv64) e in riscv64-one m.0 r m.1 ne
