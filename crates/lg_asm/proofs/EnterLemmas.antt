-- A processor that a host has put before a function is at its first instruction as the convention has it.
use Rattle.std.proofs.Common.{◌≡◌, ◌≢◌, ℕ, zero, suc, ◌+◌, ◌-◌, ◌*◌, ◌^◌, ◌<◌, ◌≤◌, ◌⊎◌, inl, inr, ⊎_elim, Bool, true, false, ◌||◌, List, [], ◌∷◌, Option, Some, None, length, refl, sym, ap, ◌∙◌, subst, arith}
use Rattle.std.specs.Prelude.{◌==◌, is_some, if◌then◌else◌, slice_get, slice_index}
use Rattle.std.proofs.lemmas.Bool.{cases_lt}
use Rattle.std.proofs.lemmas.Bool.Decides.{nat_tests}
use Rattle.std.proofs.lemmas.Option.{slice_get_within, slice_get-get_or}
use Rattle.lg_base.specs.Conventions.{argument_registers, argument_register, argument_word, link_register, stack_register}
use Rattle.lg_base.specs.Layout.{return_word, stop_address, stack_argument}
use Rattle.lg_base.specs.Parts.{data_base, args_base, heap_base, stack_base}
use Rattle.lg_base.specs.Spaces.{mapped, stored}
use Rattle.lg_base.specs.declared.target.Target.{Target}
use Rattle.lg_base.specs.declared.target.Target.TheVariants.{X86_64, Aarch64, Riscv64}
use Rattle.lg_base.proofs.SpaceLemmas.{mapped-all, stored-out, loaded-stored}
use Rattle.lg_carry.proofs.SpillLemmas.{stored-there}
use Rattle.lg_carry.proofs.WordLemmas.{word-kept}
use Rattle.lg_carry.specs.Frames.{arriving, IsLinked}
use Rattle.lg_carry.specs.Registers.{HasWord}
use Rattle.lg_cells.specs.Cells.{within}
use Rattle.lg_cpu.specs.Entering.{put_word, put_in, put_argument, put_arguments, put_return, entry_pointer, entered}
use Rattle.lg_cpu.specs.States.{CpuState}
use Rattle.lg_meaning.specs.Starts.{Entry, MayEnter}
use Rattle.lg_va.specs.Calls.{calling_stack}
use Rattle.lg_asm.proofs.StartLemmas.{stored-small}
use Rattle.lg_asm.specs.Entered.{HoldsEntry, IsEntered, ProcessorsEnter}

-- a state of the processor whose registers hold words and whose memory holds bytes and has the stack
record IsFit (q : CpuState) : Type 0 where
  words : (r : ℕ) → q.registers r < 2 ^ 64
  small : (a b : ℕ) → q.bytes a ≡ Some b → b < 256
  stack : (a : ℕ) → within stack_base 0x100000 a ≡ true → is_some (q.bytes a) ≡ true

-- a word is in a register, or where there is none in the memory
abbrev IsIn : Option ℕ → ℕ → ℕ → CpuState → Type 0
IsIn (Some r) a w q = q.registers r ≡ w
IsIn None a w q = HasWord q.bytes a w

-- two places are apart
abbrev AreApart : Option ℕ → ℕ → Option ℕ → ℕ → Type 0
AreApart (Some r) a (Some s) b = r ≢ s
AreApart (Some r) a None b = Unit {0}
AreApart None a (Some s) b = Unit {0}
AreApart None a None b = (a + 8 ≤ b) ⊎ (b + 8 ≤ a)

-- an address at which a word of the stack lies
record IsInStack (a : ℕ) : Type 0 where
  low : stack_base ≤ a
  high : a + 8 ≤ stack_base + 0x100000

in-stack : (a : ℕ) → IsInStack a → (j : ℕ) → a ≤ j → j < a + 8 → within stack_base 0x100000 j ≡ true
in-stack a s j le lt = grind (arith, nat_tests, s.low, s.high, le, lt)

room : (q : CpuState) (a : ℕ) → IsFit q → IsInStack a → mapped q.bytes a 8 ≡ true
room q a f s = mapped-all q.bytes a 8 (λ j le lt. f.stack j (in-stack a s j le lt))

-- ---- one word is put
module _ (q : CpuState) (f : IsFit q) (w : ℕ) (word : w < 2 ^ 64) where
  stores : (a : ℕ) → IsInStack a → put_word q a w ≡ record q { bytes = stored q.bytes a 8 w }
  stores a s = ap (λ b. if b then (record q { bytes = stored q.bytes a 8 w }) else q) (room q a f s)

  put-fit : (p : Option ℕ) (a : ℕ) → (p ≡ None → IsInStack a) → IsFit (put_in p q a w)
  put-fit (Some r) a s = record { words = λ x. either (x == r) (f.words x); small = f.small; stack = f.stack }
    where
      either : (b : Bool) {x : ℕ} → x < 2 ^ 64 → (if b then w else x) < 2 ^ 64
      either true h = word
      either false h = h
  put-fit None a s = subst IsFit (sym (stores a (s refl))) record {
    words = f.words;
    small = stored-small q.bytes a 8 w f.small;
    stack = λ j h. stored-there q.bytes a 8 w j (f.stack j h);
  }

  -- it is there
  put-self : (p : Option ℕ) (a : ℕ) → (p ≡ None → IsInStack a) → IsIn p a w (put_in p q a w)
  put-self (Some r) a s = grind (arith, nat_tests)
  put-self None a s = subst (λ (x : CpuState). HasWord x.bytes a w) (sym (stores a (s refl))) (loaded-stored q.bytes a 8 w word)

  -- and others stay
  put-other : (p : Option ℕ) (a : ℕ) (o : Option ℕ) (b v : ℕ) → (p ≡ None → IsInStack a) → AreApart o b p a → IsIn o b v q → IsIn o b v (put_in p q a w)
  put-other (Some r) a (Some x) b v s apart h = other (x == r) refl ∙ h
    where
      other : (t : Bool) → (x == r) ≡ t → (if t then w else q.registers x) ≡ q.registers x
      other true e = absurd (apart (let same : x ≡ r = grind (arith, nat_tests, e) in same))
      other false e = refl
  put-other (Some r) a None b v s apart h = h
  put-other None a (Some x) b v s apart h = subst (λ (y : CpuState). y.registers x ≡ v) (sym (stores a (s refl))) h
  put-other None a None b v s apart h = subst (λ (y : CpuState). HasWord y.bytes b v) (sym (stores a (s refl)))
      (word-kept q.bytes (stored q.bytes a 8 w) b v (λ j le lt. stored-out q.bytes a 8 w j (⊎_elim (λ x. inl (omega (arith, x, lt))) (λ x. inr (omega (arith, x, le))) apart)) h)

  -- nothing below the stack changes, nor the heap mark
  put-low : (p : Option ℕ) (a : ℕ) → (p ≡ None → IsInStack a) → ((j : ℕ) → j < stack_base → (put_in p q a w).bytes j ≡ q.bytes j) × ((put_in p q a w).mark ≡ q.mark)
  put-low (Some r) a s = ((λ j lt. refl), refl)
  put-low None a s = (
    (λ j lt. ap (λ (x : CpuState). x.bytes j) (stores a (s refl)) ∙ stored-out q.bytes a 8 w j (inl (let l = (s refl).low in omega (arith, l, lt)))),
    ap (λ (x : CpuState). x.mark) (stores a (s refl)),
  )

  put-there : (p : Option ℕ) (a : ℕ) → (p ≡ None → IsInStack a) → (j : ℕ) → is_some (q.bytes j) ≡ true → is_some ((put_in p q a w).bytes j) ≡ true
  put-there (Some r) a s j h = h
  put-there None a s j h = ap (λ (x : CpuState). is_some (x.bytes j)) (stores a (s refl)) ∙ stored-there q.bytes a 8 w j h

-- ---- the places of a call
-- the number of an argument from its register
number-of : Target → ℕ → ℕ
number-of Riscv64 r = r - 10
number-of Aarch64 r = r
number-of X86_64 r = if r == 7 then 0 else if r == 6 then 1 else if r == 2 then 2 else if r == 1 then 3 else r - 4

numbered : (target : Target) (i r : ℕ) → argument_register target i ≡ Some r → number-of target r ≡ i
unfolding number-of
numbered Riscv64 (suc (suc (suc (suc (suc (suc (suc (suc i)))))))) r e = cc
numbered Aarch64 (suc (suc (suc (suc (suc (suc (suc (suc i)))))))) r e = cc
numbered X86_64 (suc (suc (suc (suc (suc (suc i)))))) r e = cc
numbered target i r e = cc

-- ---- the arguments
module _ (target : Target) (stack count : ℕ) (low : stack_base + 0x1000 ≤ stack) (high : stack + 8 * (count - 6) ≤ stack_base + 0x100000) where
  many : 6 ≤ length (argument_registers target)
  many = by target
    where
      by : (t : Target) → 6 ≤ length (argument_registers t)
      by Riscv64 = omega arith
      by t = omega arith

  -- an argument without a register comes after those with one
  past : (i : ℕ) → argument_register target i ≡ None → length (argument_registers target) ≤ i
  past i e = ⊎_elim
      (λ (lt : i < length (argument_registers target)). let some = slice_get-get_or (argument_registers target) i 0 lt in absurd (none-some (sym e ∙ some)))
      (λ (ge : length (argument_registers target) ≤ i). ge)
      (cases_lt i (length (argument_registers target)))
    where
      none-some : {x : ℕ} → None ≡ Some x → ⊥
      none-some h = cc

  there : (i : ℕ) → i < count → argument_register target i ≡ None → IsInStack (stack_argument stack (argument_word target i))
  there i lt e = let m = many in let p = past i e in record { low = omega (arith, low); high = omega (arith, high, lt, m, p) }

  apart : (i j : ℕ) → i ≢ j → AreApart (argument_register target j) (stack_argument stack (argument_word target j)) (argument_register target i) (stack_argument stack (argument_word target i))
  apart i j ne = by (argument_register target j) (argument_register target i) refl refl
    where
      by : (o p : Option ℕ) → argument_register target j ≡ o → argument_register target i ≡ p
          → AreApart o (stack_argument stack (argument_word target j)) p (stack_argument stack (argument_word target i))
      by (Some r) (Some s) e f = λ same. ne (sym (numbered target i s f) ∙ ap (number-of target) (sym same) ∙ numbered target j r e)
      by (Some r) None e f = tt
      by None (Some s) e f = tt
      by None None e f =
          let x = past j e in let y = past i f in
          ⊎_elim (λ (lt : j < i). inl (omega (arith, lt, x))) (λ (ge : i ≤ j). inr (let less : i < j = other ge in omega (arith, less, y))) (cases_lt j i)
        where
          other : i ≤ j → i < j
          other le = ⊎_elim (λ (l : i < j). l) (λ (g : j ≤ i). absurd (ne (omega (arith, le, g)))) (cases_lt i j)

  abbrev AreWords : List ℕ → Type 0
  AreWords words = (k w : ℕ) → slice_get words k ≡ Some w → w < 2 ^ 64

  -- the words from argument i on are put, and those before stay
  record ArePut (i : ℕ) (words : List ℕ) (q u : CpuState) : Type 0 where
    fit : IsFit u
    before : (j v : ℕ) → j < i → IsIn (argument_register target j) (stack_argument stack (argument_word target j)) v q
        → IsIn (argument_register target j) (stack_argument stack (argument_word target j)) v u
    each : (k w : ℕ) → slice_get words k ≡ Some w → IsIn (argument_register target (i + k)) (stack_argument stack (argument_word target (i + k))) w u
    low_bytes : (j : ℕ) → j < stack_base → u.bytes j ≡ q.bytes j
    marked : u.mark ≡ q.mark
    held : (j : ℕ) → is_some (q.bytes j) ≡ true → is_some (u.bytes j) ≡ true

  are-put : (i : ℕ) (words : List ℕ) (q : CpuState) → i + length words ≤ count → AreWords words → IsFit q → ArePut i words q (put_arguments target stack i words q)
  unfolding put_arguments
  are-put i [] q few are f = record { fit = f; before = λ j v lt h. h; each = λ k w e. cc; low_bytes = λ j lt. refl; marked = refl; held = λ j h. h }
  are-put i (w ∷ words) q few are f =
      let word : w < 2 ^ 64 = are 0 w refl in
      let here : argument_register target i ≡ None → IsInStack (stack_argument stack (argument_word target i)) = there i (omega (arith, few)) in
      let q' = put_argument target stack i w q in
      let rest = are-put (suc i) words q' (omega (arith, few)) (λ k v e. are (suc k) v e) (put-fit q f w word (argument_register target i) (stack_argument stack (argument_word target i)) here) in
      record {
        fit = rest.fit;
        before = λ j v lt h. rest.before j v (omega (arith, lt))
            (put-other q f w word (argument_register target i) (stack_argument stack (argument_word target i)) (argument_register target j) (stack_argument stack (argument_word target j)) v here
            (apart i j (λ e. absurd (omega (arith, e, lt)))) h);
        each = each rest;
        low_bytes = λ j lt. rest.low_bytes j lt ∙ (put-low q f w word (argument_register target i) (stack_argument stack (argument_word target i)) here).0 j lt;
        marked = rest.marked ∙ (put-low q f w word (argument_register target i) (stack_argument stack (argument_word target i)) here).1;
        held = λ j h. rest.held j (put-there q f w word (argument_register target i) (stack_argument stack (argument_word target i)) here j h);
      }
    where
      At : ℕ → ℕ → CpuState → Type 0
      At k v u = IsIn (argument_register target k) (stack_argument stack (argument_word target k)) v u

      each : ArePut (suc i) words (put_argument target stack i w q) (put_arguments target stack (suc i) words (put_argument target stack i w q)) → (k v : ℕ) → slice_get (w ∷ words) k ≡ Some v
          → IsIn (argument_register target (i + k)) (stack_argument stack (argument_word target (i + k))) v (put_arguments target stack (suc i) words (put_argument target stack i w q))
      each rest zero v e =
          let same : w ≡ v = cc in let z : i ≡ i + 0 = omega arith in
          subst (λ k. At k v (put_arguments target stack (suc i) words (put_argument target stack i w q))) z
          (rest.before i v (omega arith) (subst (λ x. At i x (put_argument target stack i w q)) same
          (put-self q f w (are 0 w refl) (argument_register target i) (stack_argument stack (argument_word target i)) (there i (omega (arith, few))))))
      each rest (suc k) v e =
          let z : suc i + k ≡ i + suc k = omega arith in
          subst (λ x. At x v (put_arguments target stack (suc i) words (put_argument target stack i w q))) z (rest.each k v e)

-- ---- the return address and the stack pointer
-- the number of the link, and one that no argument has where there is none
abbrev link_number : Target → ℕ
link_number Riscv64 = 1
link_number Aarch64 = 30
link_number X86_64 = 30

back-number : (t : Target) (j r : ℕ) → argument_register t j ≡ Some r → argument_register t (number-of t r) ≡ Some r
back-number t j r e = ap (argument_register t) (numbered t j r e) ∙ e

no-argument : (t : Target) (r j s : ℕ) → (argument_register t (number-of t r) ≡ Some r → ⊥) → argument_register t j ≡ Some s → s ≢ r
no-argument t r j s never e same = never (subst (λ x. argument_register t (number-of t x) ≡ Some x) same (back-number t j s e))

-- they are no arguments
stack-other : (t : Target) → argument_register t (number-of t (stack_register t)) ≡ Some (stack_register t) → ⊥
unfolding number-of
stack-other Riscv64 e = let x : ◌≡◌ {A = ℕ} 10 2 = cc in omega (arith, x)
stack-other Aarch64 e = cc
stack-other X86_64 e = let x : ◌≡◌ {A = ℕ} 7 4 = cc in omega (arith, x)

link-of : (t : Target) (r : ℕ) → link_register t ≡ Some r → link_number t ≡ r
link-of Riscv64 r l = cc
link-of t r l = cc

link-apart : (t : Target) → argument_register t (number-of t (link_number t)) ≡ Some (link_number t) → ⊥
unfolding number-of
link-apart Riscv64 e = let x : ◌≡◌ {A = ℕ} 10 1 = cc in omega (arith, x)
link-apart Aarch64 e = cc
link-apart X86_64 e = let x : ◌≡◌ {A = ℕ} 7 30 = cc in omega (arith, x)

link-other : (t : Target) (r : ℕ) → link_register t ≡ Some r → argument_register t (number-of t r) ≡ Some r → ⊥
link-other t r l e = link-apart t (subst (λ x. argument_register t (number-of t x) ≡ Some x) (sym (link-of t r l)) e)

-- nor are they each other
link-is-other : (t : Target) (r : ℕ) → link_register t ≡ Some r → r ≢ stack_register t
link-is-other t r l e = by t (link-of t r l ∙ e)
  where
    by : (x : Target) → link_number x ≡ stack_register x → ⊥
    by Riscv64 h = omega (arith, h)
    by x h = omega (arith, h)

module _ (target : Target) (e : Entry) (target-address : ℕ) (q : CpuState) (may : MayEnter e) (stack-is : e.sp ≡ calling_stack (length e.args)) (are : (k w : ℕ) → slice_get e.args k ≡ Some w → w < 2 ^ 64)
    (words : (r : ℕ) → q.registers r < 2 ^ 64) (holds : HoldsEntry e q.bytes) (mark : q.mark ≡ e.mark) where
  abbrev sp : ℕ
  sp = calling_stack (length e.args)

  low : stack_base + 0x1000 ≤ calling_stack (length e.args)
  low = let f = may.few in omega (arith, f)

  high : calling_stack (length e.args) + 8 * (length e.args - 6) ≤ stack_base + 0x100000
  high = let f = may.few in omega (arith, f)

  fit : IsFit q
  fit = record { words = words; small = holds.small; stack = holds.stack }

  abbrev u : CpuState
  u = put_arguments target (calling_stack (length e.args)) 0 e.args q

  abbrev v : CpuState
  v = put_return target (calling_stack (length e.args)) (put_arguments target (calling_stack (length e.args)) 0 e.args q)

  done : ArePut target (calling_stack (length e.args)) (length e.args) low high 0 e.args q u
  done = are-put target (calling_stack (length e.args)) (length e.args) low high 0 e.args q (omega arith) are fit

  stop-word : stop_address < 2 ^ 64
  stop-word = omega arith

  return-there : link_register target ≡ None → IsInStack (return_word (calling_stack (length e.args)))
  return-there n = let l = low in let h = high in record { low = omega (arith, l); high = omega (arith, h) }

  -- the return address is apart from the arguments
  return-apart : (j : ℕ) → AreApart (argument_register target j) (stack_argument (calling_stack (length e.args)) (argument_word target j)) (link_register target) (return_word (calling_stack (length e.args)))
  return-apart j = by (argument_register target j) (link_register target) refl refl
    where
      by : (o p : Option ℕ) → argument_register target j ≡ o → link_register target ≡ p
          → AreApart o (stack_argument (calling_stack (length e.args)) (argument_word target j)) p (return_word (calling_stack (length e.args)))
      by (Some s) (Some r) f l = no-argument target r j s (link-other target r l) f
      by (Some s) None f l = tt
      by None (Some r) f l = tt
      by None None f l = let x = low in inr (omega (arith, x))

  fit-u : IsFit u
  fit-u = done.fit

  fit-v : IsFit v
  fit-v = put-fit u fit-u stop_address stop-word (link_register target) (return_word (calling_stack (length e.args))) return-there

  pointer : ℕ
  pointer = entry_pointer (link_register target) (calling_stack (length e.args))

  pointer-word : entry_pointer (link_register target) (calling_stack (length e.args)) < 2 ^ 64
  pointer-word = by (link_register target)
    where
      by : (o : Option ℕ) → entry_pointer o (calling_stack (length e.args)) < 2 ^ 64
      by (Some r) = omega arith
      by None = omega arith

  -- the state before the program counter is set
  abbrev w : CpuState
  w = put_in (Some (stack_register target)) v 0 (entry_pointer (link_register target) (calling_stack (length e.args)))

  fit-w : IsFit w
  fit-w = put-fit v fit-v (entry_pointer (link_register target) (calling_stack (length e.args))) pointer-word (Some (stack_register target)) 0 (λ n. cc)

  argument : (i x : ℕ) → slice_get e.args i ≡ Some x → IsIn (argument_register target i) (stack_argument (calling_stack (length e.args)) (argument_word target i)) x w
  argument i x f =
      let z : 0 + i ≡ i = omega arith in
      let first : IsIn (argument_register target i) (stack_argument (calling_stack (length e.args)) (argument_word target i)) x u =
      subst (λ k. IsIn (argument_register target k) (stack_argument (calling_stack (length e.args)) (argument_word target k)) x u) z (done.each i x f) in
      let second = put-other u fit-u stop_address stop-word (link_register target) (return_word (calling_stack (length e.args))) (argument_register target i)
      (stack_argument (calling_stack (length e.args)) (argument_word target i)) x return-there (return-apart i) first in
      put-other v fit-v (entry_pointer (link_register target) (calling_stack (length e.args))) pointer-word (Some (stack_register target)) 0 (argument_register target i)
      (stack_argument (calling_stack (length e.args)) (argument_word target i)) x (λ n. cc) (stack-apart (argument_register target i) refl) second
    where
      stack-apart : (o : Option ℕ) → argument_register target i ≡ o → AreApart o (stack_argument (calling_stack (length e.args)) (argument_word target i)) (Some (stack_register target)) 0
      stack-apart (Some s) g = no-argument target (stack_register target) i s (stack-other target) g
      stack-apart None g = tt

  return-is : IsIn (link_register target) (return_word (calling_stack (length e.args))) stop_address w
  return-is =
      put-other v fit-v (entry_pointer (link_register target) (calling_stack (length e.args))) pointer-word (Some (stack_register target)) 0 (link_register target)
      (return_word (calling_stack (length e.args))) stop_address (λ n. cc) (apart-stack (link_register target) refl)
      (put-self u fit-u stop_address stop-word (link_register target) (return_word (calling_stack (length e.args))) return-there)
    where
      apart-stack : (o : Option ℕ) → link_register target ≡ o → AreApart o (return_word (calling_stack (length e.args))) (Some (stack_register target)) 0
      apart-stack (Some r) l = link-is-other target r l
      apart-stack None l = tt

  below : (j : ℕ) → j < stack_base → w.bytes j ≡ q.bytes j
  below j lt = (put-low u fit-u stop_address stop-word (link_register target) (return_word (calling_stack (length e.args))) return-there).0 j lt ∙ done.low_bytes j lt

  mark-is : w.mark ≡ q.mark
  mark-is = (put-low u fit-u stop_address stop-word (link_register target) (return_word (calling_stack (length e.args))) return-there).1 ∙ done.marked

  held : (j : ℕ) → is_some (q.bytes j) ≡ true → is_some (w.bytes j) ≡ true
  held j h = put-there u fit-u stop_address stop-word (link_register target) (return_word (calling_stack (length e.args))) return-there j (done.held j h)

  -- what the call has lies below the stack
  within-high : (from size a : ℕ) → within from size a ≡ true → a < from + size
  within-high from size a h = grind (arith, nat_tests, h)

  part-low : (x y z : Bool) (a : ℕ) → (x ≡ true → a < stack_base) → (y ≡ true → a < stack_base) → (z ≡ true → a < stack_base) → (x || (y || (z || false))) ≡ true → a < stack_base
  part-low true y z a f g h t = f refl
  part-low false true z a f g h t = g refl
  part-low false false true a f g h t = h refl
  part-low false false false a f g h t = cc

  low-byte : (a b : ℕ) → e.mem a ≡ Some b → a < stack_base
  low-byte a b f = part-low (within data_base e.data_size a) (within args_base e.args_size a) (within heap_base (e.mark - heap_base) a) a
      (λ h. let x = within-high data_base e.data_size a h in let y = holds.parts.data_small in omega (arith, x, y))
      (λ h. let x = within-high args_base e.args_size a h in let y = holds.parts.args_small in omega (arith, x, y))
      (λ h. let x = within-high heap_base (e.mark - heap_base) a h in let y = may.heap.high in let z = may.heap.low in omega (arith, x, y, z))
      (may.parts a b f)

  is-linked : IsLinked (link_register target) w.bytes w.registers (calling_stack (length e.args)) stop_address
  is-linked = by (link_register target) return-is
    where
      by : (o : Option ℕ) → IsIn o (return_word (calling_stack (length e.args))) stop_address w → IsLinked o w.bytes w.registers (calling_stack (length e.args)) stop_address
      by (Some r) h = h
      by None h = h

  at-stack : w.registers (stack_register target) ≡ arriving (link_register target) (calling_stack (length e.args))
  at-stack = put-self v fit-v (entry_pointer (link_register target) (calling_stack (length e.args))) pointer-word (Some (stack_register target)) 0 (λ n. cc) ∙ by (link_register target)
    where
      by : (o : Option ℕ) → entry_pointer o (calling_stack (length e.args)) ≡ arriving o (calling_stack (length e.args))
      by (Some r) = refl
      by None = refl

  in-registers : (i x : ℕ) → i < length (argument_registers target) → slice_get e.args i ≡ Some x → w.registers (slice_index (argument_registers target) i) ≡ x
  in-registers i x lt f = subst (λ o. IsIn o (stack_argument (calling_stack (length e.args)) (argument_word target i)) x w) (slice_get-get_or (argument_registers target) i 0 lt) (argument i x f)

  on-stack : (i x : ℕ) → length (argument_registers target) ≤ i → slice_get e.args i ≡ Some x → HasWord w.bytes (stack_argument (calling_stack (length e.args)) (argument_word target i)) x
  on-stack i x ge f = by (argument_register target i) refl (argument i x f)
    where
      by : (o : Option ℕ) → argument_register target i ≡ o → IsIn o (stack_argument (calling_stack (length e.args)) (argument_word target i)) x w
          → HasWord w.bytes (stack_argument (calling_stack (length e.args)) (argument_word target i)) x
      by None g h = h
      by (Some r) g h = let lt = slice_get_within (argument_registers target) i r g in absurd (omega (arith, lt, ge))

  pub is-entered : IsEntered target e target-address (entered target target-address e.args q)
  is-entered = record {
    may = may;
    here = refl;
    words = fit-w.words;
    stack = at-stack ∙ ap (arriving (link_register target)) (sym stack-is);
    link = subst (λ s. IsLinked (link_register target) w.bytes w.registers s stop_address) (sym stack-is) is-linked;
    arguments = record { is = in-registers };
    incoming = record { is = λ i x ge f. subst (λ s. HasWord w.bytes (stack_argument s (argument_word target i)) x) (sym stack-is) (on-stack i x ge f) };
    memory = record {
      small = fit-w.small;
      parts = record {
        data_small = holds.parts.data_small;
        args_small = holds.parts.args_small;
        data_whole = holds.parts.data_whole;
        args_whole = holds.parts.args_whole;
        same = λ a lo hi. below a (omega (arith, hi)) ∙ holds.parts.same a lo hi;
      };
      memory = record { is = λ a b f. below a (low-byte a b f) ∙ holds.memory.is a b f };
      heap = λ a h. held a (holds.heap a h);
      stack = λ a h. held a (holds.stack a h);
    };
    mark = mark-is ∙ mark;
  }

pub processors-enter : ProcessorsEnter
processors-enter target e address q may stack-is are words holds mark = is-entered target e address q may stack-is are words holds mark
