-- Instructions that do nothing lead to the place after themselves.
use Rattle.std.proofs.Common.{◌≡◌, ℕ, zero, suc, ◌+◌, ◌*◌, ◌%◌, ◌≤◌, Bool, true, false, refl, ap, ◌∙◌, subst, arith, length}
use Rattle.std.specs.List.{list_all}
use Rattle.std.specs.Prelude.{◌&&◌}
use Rattle.lg_base.specs.Words.{add_words}
use Rattle.lg_base.specs.declared.flags.Flags.{Flags}
use Rattle.lg_op.specs.Forms.{is_alignment}
use Rattle.lg_cpu.specs.States.{CpuState, arrives}
use Rattle.lg_cpu.specs.Steps.{Effect, Run, after}
use Rattle.lg_sel.specs.Control.Paddings.{padding, idle}
use Rattle.lg_sel.proofs.OfControl.ChainLemmas.{RunsAt, next-at, Chain, chain-end, chain-more}
use Rattle.lg_sel.proofs.OfControl.PaddingLemmas.{padded}

module _ {I : Type 0} (x : I) where
  -- how many there are
  pub idle-length : (k : ℕ) → length (idle x k) ≡ k
  idle-length zero = refl
  idle-length (suc k) = ap suc (idle-length k)

  pub idle-aligns : (at n : ℕ) → is_alignment n ≡ true → at % 4 ≡ 0 → (at + 4 * length (idle x (padding at n))) % n ≡ 0
  idle-aligns at n h even = ap (λ k. (at + 4 * k) % n) (idle-length (padding at n)) ∙ (padded at n h even).0

  pub idle-straight : (is_straight : I → Bool) → is_straight x ≡ true → (k : ℕ) → list_all is_straight (idle x k) ≡ true
  idle-straight is_straight h zero = refl
  idle-straight is_straight h (suc k) = ap (λ b. b && list_all is_straight (idle x k)) h ∙ idle-straight is_straight h k

-- ---- where one changes registers that are not of the conventions, and the flags, a run after this many of them goes on
module _ {I : Type 0} (act : I → CpuState → Effect CpuState) (above : I → CpuState → Type 0) (x : I) (made : (ℕ → ℕ) → ℕ → ℕ) (left : Flags → Flags)
    (acts : (q : CpuState) → act x q ≡ arrives (add_words q.pc 4) (made q.registers) (left q.flags) q.bytes q.mark) (highs : (q : CpuState) → above x q) (spoilt : ℕ → Bool)
    (keeps : (w : ℕ → ℕ) (r : ℕ) → spoilt r ≡ false → made w r ≡ w r) where
  pub record Idles (base n j k : ℕ) (q : Run CpuState) : Type 0 where
    pub end : Run CpuState
    pub chain : Chain act above (idle x k) q end
    pub at : RunsAt base n (j + k) end
    pub registers : (r : ℕ) → spoilt r ≡ false → end.state.registers r ≡ q.state.registers r
    pub bytes : end.state.bytes ≡ q.state.bytes
    pub mark : end.state.mark ≡ q.state.mark

  pub idles : (base n j k : ℕ) (q : Run CpuState) → j + k ≤ n → RunsAt base n j q → Idles base n j k q
  idles base n j zero q room at = record {
    end = q;
    chain = chain-end act above q;
    at = subst (λ i. RunsAt base n i q) (omega arith) at;
    registers = λ r off. refl;
    bytes = refl;
    mark = refl;
  }
  idles base n j (suc k) q room at =
      let e : Effect CpuState = arrives (add_words q.state.pc 4) (made q.state.registers) (left q.state.flags) q.state.bytes q.state.mark in
      let q1 : Run CpuState = after q e in
      let rest = idles base n (suc j) k q1 (omega (arith, room)) (next-at base n j q _ _ _ _ (omega (arith, room)) at) in
      record {
        end = rest.end;
        chain = chain-more act above x (idle x k) q rest.end e at.runs (highs q.state) (acts q.state) rest.chain;
        at = subst (λ i. RunsAt base n i rest.end) (omega arith) rest.at;
        registers = λ r off. rest.registers r off ∙ keeps q.state.registers r off;
        bytes = rest.bytes;
        mark = rest.mark;
      }
