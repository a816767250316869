-- How the stack pointer moves over the instructions of a node.
use Rattle.std.proofs.Common.{◌≡◌, ℕ, zero, suc, ◌+◌, ◌<◌, ◌≤◌, true, false, List, [], ◌∷◌, refl, sym, ap, ◌∙◌, subst, arith, length, ◌++◌, ◌-◌, ⊎_elim}
use Rattle.std.specs.Prelude.{◌||◌, slice_get, slice_index_or, Some}
use Rattle.std.specs.List.{All}
use Rattle.std.proofs.lemmas.Bool.{cases_lt}
use Rattle.lg_base.specs.Conventions.{stack_register}
use Rattle.lg_base.specs.Runs.{iter}
use Rattle.lg_base.specs.declared.target.Target.{Target}
use Rattle.lg_base.specs.declared.target.Target.TheVariants.{X86_64}
use Rattle.lg_op.specs.declared.node.Node.{Node}
use Rattle.lg_op.specs.declared.op.ControlOp.TheVariants as control
use Rattle.lg_op.specs.declared.op.Op.{Op}
use Rattle.lg_op.specs.declared.op.Op.TheVariants as op
use Rattle.lg_op.specs.declared.op.PlainOp.TheVariants as plain
use Rattle.lg_node.specs.Functions.{is_prolog}
use Rattle.lg_meaning.specs.Fits.{is_call}
use Rattle.lg_meaning.specs.Reaching.{is_return}
use Rattle.lg_temp.proofs.Steps.{iter-zero, iter-first, iter-plus, iter-suc}
use Rattle.lg_carry.specs.Blocks.{StaysOutside, done, Along, Lowers, Raises, RunsBlock}
use Rattle.lg_carry.specs.Carries.{leaps, moves_at, sinks_at, rises_at, KeepsOutside, Sinks, Rises}
use Rattle.lg_carry.specs.FinalNodes.{Code}
use Rattle.lg_carry.specs.Outside.{is_outside, calls_move, moves_stack}
use Rattle.lg_carry.specs.Passages.{Turns}
use Rattle.lg_carry.specs.Nodes.Stretches.{PassesIn}
use Rattle.lg_carry.specs.Processors.{Processor, stack_of, DoesNotFall, DoesNotRise}
use Rattle.lg_carry.specs.Rows.{Rows}
use Rattle.lg_carry.specs.TextNodes.{stands_inside}

-- ---- operations
-- an operation that neither transfers control nor begins a function moves no stack pointer
pub record IsStill (target : Target) (o : Op) : Type 0 where
  pub moves : moves_stack target o ≡ false
  pub sinks : (is_prolog o || is_call o) ≡ false
  pub rises : is_return o ≡ false

pub still : (target : Target) (o : Op) → leaps o ≡ false → is_prolog o ≡ false → IsStill target o
still target (op.Branch c last) h k = cc
still target (op.BranchSum x last) h k = cc
still target (op.Control control.Jmp last) h k = cc
still target (op.Control control.Call last) h k = cc
still target (op.Control control.Finish last) h k = cc
still target (op.Control control.Ret last) h k = cc
still target (op.Plain plain.Ret) h k = cc
still target (op.Plain plain.Epilog) h k = cc
still target (op.Plain plain.Prolog) h k = cc
still target o h k = record { moves = refl; sinks = refl; rises = refl }

pub still-inside : (target : Target) (o : Op) → stands_inside o ≡ true → leaps o ≡ false → IsStill target o
still-inside target o h k = still target o k (no-prolog o h)
  where
    no-prolog : (o : Op) → stands_inside o ≡ true → is_prolog o ≡ false
    no-prolog (op.Plain plain.Prolog) h = cc
    no-prolog o h = refl

module _ {Q : Type 0} (P : Processor Q) (c : Code) (i : ℕ) (n : Node) (here : slice_get c.nodes.nodes i ≡ Some n) (is : IsStill P.target n.op) where
  pub still-moves : moves_at P.target (slice_get c.nodes.nodes i) ≡ false
  still-moves = ap (moves_at P.target) here ∙ is.moves

  pub still-turns : (steps : ℕ) (q : Q) → Turns P c i steps q
  still-turns steps q = record {
    sinks = λ e. absurd (differ (sym (ap sinks_at here ∙ is.sinks) ∙ e));
    rises = λ e. absurd (differ (sym (ap rises_at here ∙ is.rises) ∙ e));
  }
    where
      differ : false ≡ true → ⊥
      differ e = cc

-- steps that sink turn as the code of a `prolog` or call has to
pub sinking-turns : {Q : Type 0} (P : Processor Q) (c : Code) (i : ℕ) (n : Node) → slice_get c.nodes.nodes i ≡ Some n → is_return n.op ≡ false → (steps : ℕ) (q : Q) → Sinks P (c.place i) steps q → Turns P c i steps q
sinking-turns P c i n here other steps q sinks = record { sinks = λ e. sinks; rises = λ e. absurd (differ (sym (ap rises_at here ∙ other) ∙ e)) }
  where
    differ : false ≡ true → ⊥
    differ e = cc

-- and steps that rise as that of a return
pub rising-turns : {Q : Type 0} (P : Processor Q) (c : Code) (i : ℕ) (n : Node) → slice_get c.nodes.nodes i ≡ Some n → (is_prolog n.op || is_call n.op) ≡ false → (steps : ℕ) (q : Q) → Rises P steps q → Turns P c i steps q
rising-turns P c i n here other steps q rises = record { sinks = λ e. absurd (differ (sym (ap sinks_at here ∙ other) ∙ e)); rises = λ e. rises }
  where
    differ : false ≡ true → ⊥
    differ e = cc

-- a call moves the stack pointer where it has no link
pub call-moves : (target : Target) (o : Op) → is_call o ≡ true → moves_stack target o ≡ calls_move target
call-moves target (op.Control control.Call last) h = refl
call-moves target (op.Control control.Finish last) h = refl
call-moves target o h = cc

-- a return moves it, and does not sink
pub return-moves : (target : Target) (o : Op) → is_return o ≡ true → moves_stack target o ≡ true
return-moves target (op.Control control.Ret last) h = refl
return-moves target (op.Plain plain.Ret) h = refl
return-moves target (op.Plain plain.Epilog) h = refl
return-moves target o h = cc

pub return-no-sink : (o : Op) → is_return o ≡ true → (is_prolog o || is_call o) ≡ false
return-no-sink (op.Control control.Ret last) h = refl
return-no-sink (op.Plain plain.Ret) h = refl
return-no-sink (op.Plain plain.Epilog) h = refl
return-no-sink o h = cc

-- ---- instructions
same-le : (m n : ℕ) → m ≡ n → m ≤ n
same-le m n e = omega (arith, e)

-- where steps begin after the first one, and so does one after them, all do
pub ahead-more : {Q : Type 0} (P : Processor Q) (low m : ℕ) (q r : Q) → iter P.machine.step m q ≡ r → ((j : ℕ) → 0 < j → j < m → low < (P.seen (iter P.machine.step j q)).pc)
    → (0 < m → low < (P.seen r).pc) → (j : ℕ) → 0 < j → j < m + 1 → low < (P.seen (iter P.machine.step j q)).pc
ahead-more P low m q r there ahead last j some lt = ⊎_elim
    (λ (l : j < m). ahead j some l)
    (λ (g : m ≤ j). let e : m ≡ j = omega (arith, g, lt) in
    subst (λ k. low < (P.seen (iter P.machine.step k q)).pc) e (subst (λ u. low < (P.seen u).pc) (sym there) (last (omega (arith, some, e)))))
    (cases_lt j m)

-- one step more sinks where it does not raise the stack pointer, and begins after the first one
pub sinks-last : {Q : Type 0} (P : Processor Q) (low m : ℕ) (q r u : Q) → Sinks P low m q → iter P.machine.step m q ≡ r → iter P.machine.step (m + 1) q ≡ u
    → stack_of P.target (P.seen u) ≤ stack_of P.target (P.seen r) → (0 < m → low < (P.seen r).pc) → Sinks P low (m + 1) q
sinks-last P low m q r u h here there le ahead = record { falls = falls; ahead = ahead-more P low m q r here h.ahead ahead }
  where
    next : P.machine.step r ≡ u
    next = ap P.machine.step (sym here) ∙ sym (iter-suc P.machine.step m q) ∙ (let e : suc m ≡ m + 1 = omega arith in ap (λ k. iter P.machine.step k q) e) ∙ there

    falls : (j : ℕ) → j < m + 1 → DoesNotRise P (iter P.machine.step j q)
    falls j lt = ⊎_elim
        (λ (l : j < m). h.falls j l)
        (λ (g : m ≤ j). let e : m ≡ j = omega (arith, g, lt) in
        subst (λ k. DoesNotRise P (iter P.machine.step k q)) e (subst (DoesNotRise P) (sym here) (let n = ap (λ z. stack_of P.target (P.seen z)) next in omega (arith, le, n))))
        (cases_lt j m)

-- and one rises where it does not lower it
pub rises-last : {Q : Type 0} (P : Processor Q) (m : ℕ) (q r u : Q) → Rises P m q → iter P.machine.step m q ≡ r → iter P.machine.step (m + 1) q ≡ u
    → stack_of P.target (P.seen r) ≤ stack_of P.target (P.seen u) → Rises P (m + 1) q
rises-last P m q r u h here there le j lt = ⊎_elim
    (λ (l : j < m). h j l)
    (λ (g : m ≤ j). let e : m ≡ j = omega (arith, g, lt) in
    subst (λ k. DoesNotFall P (iter P.machine.step k q)) e (subst (DoesNotFall P) (sym here) (let n = ap (λ z. stack_of P.target (P.seen z)) next in omega (arith, le, n))))
    (cases_lt j m)
  where
    next : P.machine.step r ≡ u
    next = ap P.machine.step (sym here) ∙ sym (iter-suc P.machine.step m q) ∙ (let e : suc m ≡ m + 1 = omega arith in ap (λ k. iter P.machine.step k q) e) ∙ there

stack-outside : (target : Target) → is_outside target false (stack_register target) ≡ true
stack-outside X86_64 = refl
stack-outside _ = refl

-- a step that changes no register that is outside, where the stack pointer is one, keeps it
pub keeps-stack : {Q : Type 0} (P : Processor Q) (q : Q) → KeepsOutside P false q → stack_of P.target (P.seen (P.machine.step q)) ≡ stack_of P.target (P.seen q)
keeps-stack P q k = k (stack_register P.target) (stack-outside P.target)

-- steps that move no stack pointer sink where they begin after the first one
pub still-sinks : {Q : Type 0} (P : Processor Q) (low high steps : ℕ) (q u : Q) → PassesIn P false low high steps q u
    → ((j : ℕ) → 0 < j → j < steps → low < (P.seen (iter P.machine.step j q)).pc) → Sinks P low steps q
still-sinks P low high steps q u h ahead = record { falls = λ j lt. same-le _ _ (keeps-stack P (iter P.machine.step j q) (h.outside j lt)); ahead = ahead }

-- so does one of them
pub one-sinks : {Q : Type 0} (P : Processor Q) (low high : ℕ) (q u : Q) → PassesIn P false low high 1 q u → Sinks P low 1 q
one-sinks P low high q u h = still-sinks P low high 1 q u h (λ j some lt. absurd (omega (arith, some, lt)))

-- steps that rise, one run of them after the other
pub rises-join : {Q : Type 0} (P : Processor Q) (m n : ℕ) (q u : Q) → iter P.machine.step m q ≡ u → Rises P m q → Rises P n u → Rises P (m + n) q
rises-join P m n q u there h k j lt = ⊎_elim
    (λ (l : j < m). h j l)
    (λ (g : m ≤ j). subst (DoesNotFall P) (sym (iter-plus P.machine.step j m (j - m) q (omega (arith, g)) ∙ ap (iter P.machine.step (j - m)) there)) (k (j - m) (omega (arith, lt, g))))
    (cases_lt j m)

module _ {Q I : Type 0} (R : Rows Q I) where
  abbrev step : Q → Q
  step = R.processor.machine.step

  -- what holds along the instructions holds at each step that does one
  along-run : (T : I → Q → Type 0) (is : List I) (q : Q) → ((j : ℕ) (d : I) → j < length is → step (iter step j q) ≡ R.does (slice_index_or is j d) (iter step j q))
      → Along R.does T is q → (j : ℕ) (d : I) → j < length is → T (slice_index_or is j d) (iter step j q)
  along-run T [] q acts h j d lt = absurd (omega (arith, lt))
  along-run T (i ∷ is) q acts h zero d lt = subst (T i) (sym (iter-zero step q)) h.0
  along-run T (i ∷ is) q acts h (suc j) d lt =
      let one : step q ≡ R.does i q = subst (λ u. step u ≡ R.does i u) (iter-zero step q) (acts 0 i (omega arith)) in
      let there : (k : ℕ) → iter step (suc k) q ≡ iter step k (R.does i q) = λ k. iter-first step k q ∙ ap (iter step k) one in
      let later : (k : ℕ) (e : I) → k < length is → step (iter step k (R.does i q)) ≡ R.does (slice_index_or is k e) (iter step k (R.does i q)) =
      λ k e l. subst (λ u. step u ≡ R.does (slice_index_or is k e) u) (there k) (acts (suc k) e (omega (arith, l))) in
      subst (T (slice_index_or is j d)) (sym (there j)) (along-run T is (R.does i q) later h.1 j d (omega (arith, lt)))

  -- along instructions in a row
  pub along-append : (T : I → Q → Type 0) (xs ys : List I) (q : Q) → Along R.does T xs q → Along R.does T ys (done R.does xs q) → Along R.does T (xs ++ ys) q
  along-append T [] ys q h k = k
  along-append T (x ∷ xs) ys q h k = (h.0, along-append T xs ys (R.does x q) h.1 k)

  pub block-sinks : (is : List I) (q : Q) (low : ℕ) → RunsBlock R is q → Along R.does (Lowers R) is q → (R.processor.seen q).pc ≡ low → Sinks R.processor low (length is) q
  block-sinks [] q low run h at = record { falls = λ j lt. absurd (omega (arith, lt)); ahead = λ j some lt. absurd (omega (arith, lt)) }
  block-sinks (i ∷ is) q low run h at = record {
    falls = λ j lt. subst (λ u. stack_of R.processor.target (R.processor.seen u) ≤ stack_of R.processor.target (R.processor.seen (iter step j q))) (sym (run.acts j i lt))
        (along-run (Lowers R) (i ∷ is) q run.acts h j i lt);
    ahead = λ j some lt. let a = run.ahead j some lt in omega (arith, a, at);
  }

  pub block-rises : (is : List I) (q : Q) → RunsBlock R is q → Along R.does (Raises R) is q → Rises R.processor (length is) q
  block-rises [] q run h j lt = absurd (omega (arith, lt))
  block-rises (i ∷ is) q run h j lt = subst (λ u. stack_of R.processor.target (R.processor.seen (iter step j q)) ≤ stack_of R.processor.target (R.processor.seen u)) (sym (run.acts j i lt))
      (along-run (Raises R) (i ∷ is) q run.acts h j i lt)

  -- instructions that keep the stack pointer lower it, and raise it
  kept : (i : I) (q : Q) → StaysOutside R false i → stack_of R.processor.target (R.processor.seen (R.does i q)) ≡ stack_of R.processor.target (R.processor.seen q)
  kept i q k = k q (stack_register R.processor.target) (stack-outside R.processor.target)

  pub still-lowers : (is : List I) (q : Q) → All (StaysOutside R false) is → Along R.does (Lowers R) is q
  still-lowers [] q h = tt
  still-lowers (i ∷ is) q h = (same-le _ _ (kept i q (h 0 i (omega arith))), still-lowers is (R.does i q) (λ k d lt. h (suc k) d (omega (arith, lt))))

  pub still-raises : (is : List I) (q : Q) → All (StaysOutside R false) is → Along R.does (Raises R) is q
  still-raises [] q h = tt
  still-raises (i ∷ is) q h = (same-le _ _ (sym (kept i q (h 0 i (omega arith)))), still-raises is (R.does i q) (λ k d lt. h (suc k) d (omega (arith, lt))))

  -- after them the stack pointer is what it was
  pub still-done : (is : List I) (q : Q) → All (StaysOutside R false) is → stack_of R.processor.target (R.processor.seen (done R.does is q)) ≡ stack_of R.processor.target (R.processor.seen q)
  still-done [] q h = refl
  still-done (i ∷ is) q h = still-done is (R.does i q) (λ k d lt. h (suc k) d (omega (arith, lt))) ∙ kept i q (h 0 i (omega arith))

  pub done-append : (xs ys : List I) (q : Q) → done R.does (xs ++ ys) q ≡ done R.does ys (done R.does xs q)
  done-append [] ys q = refl
  done-append (x ∷ xs) ys q = done-append xs ys (R.does x q)

  -- where only the last one moves it
  pub last-lowers : (front : List I) (x : I) (q u : Q) → All (StaysOutside R false) front → done R.does (front ++ (x ∷ [])) q ≡ u
      → stack_of R.processor.target (R.processor.seen u) ≤ stack_of R.processor.target (R.processor.seen q) → Along R.does (Lowers R) (front ++ (x ∷ [])) q
  last-lowers front x q u h there le =
      let same = still-done front q h in
      let end : R.does x (done R.does front q) ≡ u = sym (done-append front (x ∷ []) q) ∙ there in
      let level = ap (λ z. stack_of R.processor.target (R.processor.seen z)) end in
      along-append (Lowers R) front (x ∷ []) q (still-lowers front q h) (omega (arith, le, same, level), tt)

  pub last-raises : (front : List I) (x : I) (q u : Q) → All (StaysOutside R false) front → done R.does (front ++ (x ∷ [])) q ≡ u
      → stack_of R.processor.target (R.processor.seen q) ≤ stack_of R.processor.target (R.processor.seen u) → Along R.does (Raises R) (front ++ (x ∷ [])) q
  last-raises front x q u h there le =
      let same = still-done front q h in
      let end : R.does x (done R.does front q) ≡ u = sym (done-append front (x ∷ []) q) ∙ there in
      let level = ap (λ z. stack_of R.processor.target (R.processor.seen z)) end in
      along-append (Raises R) front (x ∷ []) q (still-raises front q h) (omega (arith, le, same, level), tt)
