-- Code agrees with the portable meaning whatever changes below the stack pointer between two instructions.
use Rattle.std.proofs.Common.{◌≡◌, ℕ, zero, suc, ◌+◌, ◌^◌, ◌<◌, ◌≤◌, inl, inr, ⊎_elim, Bool, true, false, ◌||◌, List, [], ◌∷◌, Option, Some, None, length, refl, sym, ap, ◌∙◌, subst, arith}
use Rattle.std.specs.Prelude.{◌==◌, slice_get, slice_index}
use Rattle.std.specs.List.{list_any}
use Rattle.std.specs.Option.{option_flatten}
use Rattle.std.proofs.lemmas.Bool.Decides.{nat_tests}
use Rattle.std.proofs.lemmas.Bool.{cases_lt}
use Rattle.lg_base.specs.Layout.{code_base, stack_end}
use Rattle.lg_base.specs.declared.target.Target.{Target}
use Rattle.lg_base.specs.declared.target.Target.TheVariants.{X86_64, Aarch64, Riscv64}
use Rattle.lg_node.proofs.WellShaped.{well_shaped}
use Rattle.lg_cpu.specs.Laws.{AreBytes}
use Rattle.lg_cpu.specs.States.{CpuState}
use Rattle.lg_cpu.specs.Steps.{Run}
use Rattle.lg_cpu.specs.Targets.{effect_of, machine_of, start_of, run_from}
use Rattle.lg_carry.specs.Agreement.{shape_of_unit, HasItsMemory}
use Rattle.lg_meaning.specs.Means as mean
use Rattle.lg_node.specs.Shapes.{TextShape}
use Rattle.lg_node.specs.declared.unit.Unit.{Unit as TextUnit}
use Rattle.lg_temp.specs.Agrees.{AgreesAt}
use Rattle.lg_temp.specs.Paces.{KeepsPace, EndsAlike}
use Rattle.lg_cpu.proofs.RunLemmas.{machine_is, no_host}
use Rattle.lg_carry.specs.Entries.{entry_at}
use Rattle.lg_carry.specs.FinalNodes.{Code}
use Rattle.lg_carry.specs.Disturbed.{IsDisturber, disturbed}
use Rattle.lg_carry.specs.Places.{ArePassedFew}
use Rattle.lg_carry.specs.Undisturbed.{IsBlind, IsPlaced}
use Rattle.lg_carry.proofs.HoldingLemmas.{carried-withstand}
use Rattle.lg_carry.proofs.TextShapeLemmas.{shaped}
use Rattle.lg_carry.proofs.UndisturbedLemmas.{disturbed-is-machine, withstands-carries}
use Rattle.lg_opt.proofs.RewrittenLemmas.{rewritten-agrees}
use Rattle.lg_asm.specs.Targets.{processor_of}
use Rattle.lg_selr_values.proofs.OfProcessor.TouchLemmas as riscv64
use Rattle.lg_sela_values.proofs.OfProcessor.TouchLemmas as aarch64
use Rattle.lg_selx_values.proofs.OfProcessor.TouchLemmas as x86_64
use Rattle.lg_asm.specs.Assembled.{Assembled, IsCode, ComesFrom, CodeWithstands}
use Rattle.lg_asm.specs.CarriedLiveness.{live_at}
use Rattle.lg_asm.specs.Lowered.{AreOf, frame_saves, is_marked, is_outward, code_of}
use Rattle.lg_asm.specs.Called.{run_of, EndsAsMeant, AgreesAs, CalledCodeAgrees}
use Rattle.lg_asm.specs.Entered.{IsEntered, EnteredCodeAgrees}
use Rattle.lg_asm.proofs.CodeLemmas.{StandsAtStart, followed, stays-inside, runs-agree, runs-keep-pace, runs-end-returned, stands-entered, stands-called, shape-of-unit, places-up, places-end}
use Rattle.lg_asm.proofs.StartLemmas.{starts-called, stack-end}
use Rattle.lg_meaning.specs.Starts.{Entry, MayEnter, begins_at, MayBegin, entered_state, start_entry}
use Rattle.lg_meaning.specs.States.{State}
use Rattle.lg_meaning.specs.Steps.{node_in}
use Rattle.lg_meaning.proofs.StartLemmas.{start_may}
use Rattle.lg_carry.proofs.EntryLemmas.{entry-prolog}
use Rattle.lg_node.specs.Labels.{place_of, is_entry}
use Rattle.lg_node.specs.Nodes.{LabelledNodes}
use Rattle.lg_node.specs.declared.place.Place.{Place}
use Rattle.lg_node.specs.declared.place.Place.TheVariants as place
use Rattle.lg_op.specs.declared.operand.Label.{Label}
use Rattle.lg_asm.proofs.ReturnedLemmas.{returns-as-meant}

-- a step of a processor sees nothing but what it touches
blind : (target : Target) (code : List ℕ) (trash : ℕ) → AreBytes code → trash < 2 ^ 64 → IsBlind (processor_of target code trash)
blind Riscv64 code trash bytes word = record {
  overlooks = λ q part above. riscv64.steps-overlook code trash q bytes word (omega (arith, part.1)) (no_host q.state.pc part.0) above;
  leaves = λ hidden q part off. riscv64.steps-leave code trash q hidden bytes word (omega (arith, part.1)) (no_host q.state.pc part.0) off;
  alike = λ q. riscv64.steps-are-alike code trash q;
  patches = riscv64.states-are-patched code trash;
}
blind Aarch64 code trash bytes word = record {
  overlooks = λ q part above. aarch64.steps-overlook code trash q bytes word (omega (arith, part.1)) (no_host q.state.pc part.0) above;
  leaves = λ hidden q part off. aarch64.steps-leave code trash q hidden bytes word (omega (arith, part.1)) (no_host q.state.pc part.0) off;
  alike = λ q. aarch64.steps-are-alike code trash q;
  patches = aarch64.states-are-patched code trash;
}
blind X86_64 code trash bytes word = record {
  overlooks = λ q part above. x86_64.steps-overlook code trash q bytes word (omega (arith, part.1)) (no_host q.state.pc part.0) above;
  leaves = λ hidden q part off. x86_64.steps-leave code trash q hidden bytes word (omega (arith, part.1)) (no_host q.state.pc part.0) off;
  alike = λ q. x86_64.steps-are-alike code trash q;
  patches = x86_64.states-are-patched code trash;
}

module _ (c : Assembled) (k : IsCode c) (outer : ℕ → ℕ) where
  abbrev code : Code
  code = code_of c.nodes c.shape c.labels c.places (frame_saves c.nodes.nodes c.live) (is_marked c.nodes c.outward) outer

  abbrev count : ℕ
  count = length c.nodes.nodes

  passed-few : ArePassedFew c.nodes.nodes
  passed-few = (shaped c.nodes (well_shaped c.nodes k.shape_is.accepted)).few

  -- each node has its own place in the code part
  placed : (i : ℕ) → i < count → IsPlaced code i
  placed i lt = record {
    low = omega arith;
    high = let e = places-end c.nodes c.places (length c.bytes) k.ordered (i + 1) (omega (arith, lt)) in let s = k.small in omega (arith, e, s);
    begins = λ prolog. let r = k.ordered.rise i prolog in omega (arith, r);
    apart = λ j within. (
      ⊎_elim
          (λ (l : j < i + 1). inl (let u = places-up c.nodes c.places (length c.bytes) k.ordered j i (omega (arith, l)) (omega (arith, lt)) in omega (arith, u)))
          (λ (g : i + 1 ≤ j). inr (let u = places-up c.nodes c.places (length c.bytes) k.ordered (i + 1) j g (omega (arith, within)) in omega (arith, u)))
          (cases_lt j (i + 1)),
      no_host (code_base + slice_index c.places j) (omega arith),
    );
  }

pub withstands-from : (c : Assembled) (unit : TextUnit) (shape : TextShape) (k : IsCode c) (from : ComesFrom unit.nodes shape c) (e : Entry) (may : MayEnter e) (b : Option Label) (begins : MayBegin unit.nodes b)
    (trash : ℕ) (word : trash < 2 ^ 64) (q : Run CpuState) → StandsAtStart c unit shape k from e may b begins trash word q → (n : ℕ) (d : ℕ → Run CpuState → Run CpuState) → IsDisturber (processor_of c.target c.bytes trash) d
    → AgreesAt (mean.machine unit.nodes shape c.labels) (disturbed (processor_of c.target c.bytes trash) d).machine (length unit.nodes.nodes) (mean.run_at (entered_state e (begins_at unit.nodes b)) []) (q, 0) n
withstands-from c unit shape k from e may b begins trash word q st n d disturbs =
    let P = processor_of c.target c.bytes trash in
    let before = live_at c.live.before in
    let machine = machine_is (effect_of c.target c.bytes trash) in
    let sees-little : IsBlind P = blind c.target c.bytes trash k.are_bytes word in
    rewritten-agrees (disturbed P d) (code c k q.state.registers) before unit.nodes shape (entered_state e (begins_at unit.nodes b)) (entered_state e (begins_at c.nodes b)) (q, 0) n
    (disturbed-is-machine P d disturbs machine)
    (λ i lt. withstands-carries P d disturbs (code c k q.state.registers) before sees-little.patches (passed-few c k q.state.registers) i
    (carried-withstand P (code c k q.state.registers) before i sees-little machine (placed c k q.state.registers i lt) (k.coded.carried q.state.registers trash i word lt)))
    (followed c unit shape k from e may b begins trash word q).1
    (stays-inside c unit shape k from e may b begins trash word q)
    record { runs = st.runs; wrote = st.wrote; state = st.state }

pub code-withstands-with : CodeWithstands
code-withstands-with c unit shape k from bytes few args trash n d are most word disturbs =
    withstands-from c unit shape k from (start_entry stack_end unit.image args) (start_may stack_end unit.image args stack-end) None tt trash word (run_from c.target unit.image args trash)
    (stands-called c unit shape k from args stack_end stack-end trash word (run_from c.target unit.image args trash) (start_of c.target unit.image args trash) bytes few are most
    (starts-called c.target unit.image args trash record { image_bytes = bytes; image_few = few; args_bytes = are; args_few = most; word = word }) refl)
    n d disturbs

-- ---- a processor that is called by the convention, whatever else it holds
module _ (c : Assembled) (unit : TextUnit) (shape : TextShape) (k : IsCode c) (from : ComesFrom unit.nodes shape c) (e : Entry) (may : MayEnter e) (b : Option Label) (begins : MayBegin unit.nodes b)
    (trash : ℕ) (word : trash < 2 ^ 64) (q : CpuState) (st : StandsAtStart c unit shape k from e may b begins trash word (run_of q)) where
  abbrev first : State
  first = entered_state e (begins_at unit.nodes b)

  same : shape ≡ shape_of_unit unit
  same = shape-of-unit c unit shape from

  end : EndsAlike (mean.machine unit.nodes shape c.labels) (machine_of c.target c.bytes trash) (EndsAsMeant c.target e.sp q) (mean.run_at first []) (run_of q)
  end = runs-end-returned c unit shape k from e may b begins trash word (run_of q) st

  pub agrees-as : AgreesAs c.bytes c.labels unit c.target e.sp trash (entered_state e (begins_at unit.nodes b)) q
  agrees-as = record {
    runs = λ n. subst (λ s. AgreesAt (mean.machine unit.nodes s c.labels) (machine_of c.target c.bytes trash) (length unit.nodes.nodes) (mean.run_at first []) (run_of q) n) same
        (runs-agree c unit shape k from e may b begins trash word (run_of q) st n);
    paces = subst (λ s. KeepsPace (mean.machine unit.nodes s c.labels) (machine_of c.target c.bytes trash) HasItsMemory (mean.run_at first []) (run_of q)) same
        (runs-keep-pace c unit shape k from e may b begins trash word (run_of q) st);
    ends = subst (λ s. EndsAlike (mean.machine unit.nodes s c.labels) (machine_of c.target c.bytes trash) (EndsAsMeant c.target e.sp q) (mean.run_at first []) (run_of q)) same end;
    returns = returns-as-meant unit.nodes (shape_of_unit unit) c.labels first (machine_of c.target c.bytes trash) c.target e.sp q
        (subst (λ s. EndsAlike (mean.machine unit.nodes s c.labels) (machine_of c.target c.bytes trash) (EndsAsMeant c.target e.sp q) (mean.run_at first []) (run_of q)) same end);
    withstands = λ n d disturbs. subst (λ s. AgreesAt (mean.machine unit.nodes s c.labels) (disturbed (processor_of c.target c.bytes trash) d).machine (length unit.nodes.nodes) (mean.run_at first []) (run_of q, 0) n) same
        (withstands-from c unit shape k from e may b begins trash word (run_of q) st n d disturbs);
  }

pub called-code-agrees : CalledCodeAgrees
called-code-agrees c unit shape k from bytes few args sp trash q are most word called =
    agrees-as c unit shape k from (start_entry sp unit.image args) (start_may sp unit.image args called.entry) None tt trash word q
    (stands-called c unit shape k from args sp called.entry trash word (run_of q) q bytes few are most called refl)

-- ---- one that is entered at the label of a function
-- the function is one of those that are called from outside
any-at : (p : Label → Bool) (xs : List Label) (i : ℕ) (x : Label) → slice_get xs i ≡ Some x → p x ≡ true → list_any p xs ≡ true
any-at p [] i x e h = cc
any-at p (y ∷ ys) zero x e h = let same : y ≡ x = cc in ap (λ z. p z || list_any p ys) same ∙ ap (λ b. b || list_any p ys) h
any-at p (y ∷ ys) (suc i) x e h = right (p y) (list_any p ys) (any-at p ys i x e h)
  where
    right : (b c : Bool) → c ≡ true → (b || c) ≡ true
    right true c h = refl
    right false c h = h

entry-outward : (l : LabelledNodes) (entries : List Label) (i : ℕ) (x : Label) → slice_get entries i ≡ Some x → is_outward l entries (begins_at l (Some x)) ≡ true
entry-outward l entries i x e = right (begins_at l (Some x) == entry_at l 0) (list_any (λ y. begins_at l (Some x) == begins_at l (Some y)) entries)
    (any-at (λ y. begins_at l (Some x) == begins_at l (Some y)) entries i x e (self (begins_at l (Some x))))
  where
    right : (b c : Bool) → c ≡ true → (b || c) ≡ true
    right true c h = refl
    right false c h = h

    self : (n : ℕ) → (n == n) ≡ true
    self n = grind (arith, nat_tests)

-- a run from it begins with it
begins-with : (l : LabelledNodes) (x : Label) → MayBegin l (Some x) → entry_at l (begins_at l (Some x)) ≡ begins_at l (Some x)
begins-with l x h = by (place_of l.places x) h
  where
    by : (o : Option Place) → is_entry l.nodes o ≡ true → entry_at l (node_in o) ≡ node_in o
    by None e = cc
    by (Some (place.Image k)) e = cc
    by (Some (place.Node k)) e = entry-prolog l k e

-- its label's address is that of its first byte
label-there : (l : LabelledNodes) (places addresses : List ℕ) → AreOf l places addresses → (x : Label) → MayBegin l (Some x) → slice_index addresses x.0 ≡ code_base + slice_index places (begins_at l (Some x))
label-there l places addresses of x h = by (slice_get l.places x.0) refl h
  where
    by : (o : Option (Option Place)) → slice_get l.places x.0 ≡ o → is_entry l.nodes (option_flatten o) ≡ true → slice_index addresses x.0 ≡ code_base + slice_index places (begins_at l (Some x))
    by (Some (Some (place.Node k))) e f = of.nodes x.0 k e ∙ ap (λ o. code_base + slice_index places (node_in (option_flatten o))) (sym e)
    by o e f = cc

pub entered-code-agrees : EnteredCodeAgrees
entered-code-agrees c unit shape entries k from outward i x listed begins e trash q word entered =
    let may-begin : MayBegin c.nodes (Some x) = (followed c unit shape k from e entered.may (Some x) begins trash word (run_of q)).0 in
    let marked : is_marked c.nodes c.outward (entry_at c.nodes (begins_at c.nodes (Some x))) ≡ true =
    ap (is_marked c.nodes c.outward) (begins-with c.nodes x may-begin) ∙ ap (λ o. o (begins_at c.nodes (Some x))) outward ∙ entry-outward c.nodes entries i x listed in
    agrees-as c unit shape k from e entered.may (Some x) begins trash word q
    (stands-entered c unit shape k from e entered.may (Some x) begins trash word (run_of q) q marked
    (subst (λ a. IsEntered c.target e a q) (label-there c.nodes c.places c.labels k.addressed x may-begin) entered) refl)
