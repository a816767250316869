-- What is live is what carrying asks for.
use Rattle.std.proofs.Common.{◌≡◌, ◌↔◌, ◌⊎◌, inl, inr, ⊎_elim, ℕ, zero, suc, ◌+◌, ◌<◌, ◌≤◌, Bool, true, false, List, Some, None, refl, sym, ap, ◌∙◌, subst, length, get_or, arith}
use Rattle.std.specs.Prelude.{slice_get, ◌&&◌, ◌||◌, not}
use Rattle.std.specs.List.{All}
use Rattle.std.proofs.lemmas.Bool.{cases_lt, and_parts, not-true}
use Rattle.std.proofs.lemmas.List.{get_or_past}
use Rattle.std.proofs.lemmas.List.Elements.{All-get_or}
use Rattle.std.proofs.lemmas.Option.{slice_get_within, slice_get-get_or, get_or_from_slice_get, same_Some}
use Rattle.lg_op.specs.Nodes.{InForm}
use Rattle.lg_op.specs.declared.node.Node.{Node}
use Rattle.lg_op.specs.declared.op.Op.{Op}
use Rattle.lg_op.specs.declared.op.Op.TheVariants as op
use Rattle.lg_op.specs.declared.op.ControlOp.TheVariants as control
use Rattle.lg_op.specs.declared.operand.Reg.{Reg}
use Rattle.lg_op.specs.declared.operand.Reg.TheVariants.{R0, R1, R2, V0, V1, V2}
use Rattle.lg_node.specs.Shapes.{IsShapeOf, IsSuccessor, GoesBy, Way, Next, way_of}
use Rattle.lg_live.specs.RegSets.{has}
use Rattle.lg_live.specs.Uses.{is_read, is_written}
use Rattle.lg_live.specs.declared.reg_set.RegSet.{RegSet}
use Rattle.lg_live.specs.Liveness.{IsLive, IsLiveAfter, LiveSets, AreLive}
use Rattle.lg_live.specs.Liveness as live
use Rattle.lg_op.specs.Operands.{number_of}
use Rattle.lg_meaning.specs.States.{State}
use Rattle.lg_meaning.specs.Steps.{Goes}
use Rattle.lg_meaning.specs.Texts.{step}
use Rattle.lg_meaning.specs.Fits.{is_call}
use Rattle.lg_carry.specs.FinalNodes.{Code}
use Rattle.lg_carry.specs.NodeCode.{numbered, live_before}
use Rattle.lg_meaning.specs.Reaching.{is_return, StepsReachSuccessors}
use Rattle.lg_asm.specs.CarriedLiveness.{live_at, LiveSetsAreLiveness, AllIsLiveness}

-- ---- registers by their numbers
pub record IsNumber (r : ℕ) (q : Reg) : Type 0 where
  pub is : (f : Reg → Bool) → numbered f r ≡ f q
  pub small : number_of q < 6

reg_at : (r : ℕ) → (f : Reg → Bool) → numbered f r ≡ true → (q : Reg) × IsNumber r q
reg_at zero f e = (R0, record { is = λ g. refl; small = omega arith })
reg_at (suc zero) f e = (R1, record { is = λ g. refl; small = omega arith })
reg_at (suc (suc zero)) f e = (R2, record { is = λ g. refl; small = omega arith })
reg_at (suc (suc (suc zero))) f e = (V0, record { is = λ g. refl; small = omega arith })
reg_at (suc (suc (suc (suc zero)))) f e = (V1, record { is = λ g. refl; small = omega arith })
reg_at (suc (suc (suc (suc (suc zero))))) f e = (V2, record { is = λ g. refl; small = omega arith })
reg_at (suc (suc (suc (suc (suc (suc r)))))) f e = absurd (cc)

reg_of : (r : ℕ) → r < 6 → (q : Reg) × IsNumber r q
reg_of zero h = (R0, record { is = λ g. refl; small = omega arith })
reg_of (suc zero) h = (R1, record { is = λ g. refl; small = omega arith })
reg_of (suc (suc zero)) h = (R2, record { is = λ g. refl; small = omega arith })
reg_of (suc (suc (suc zero))) h = (V0, record { is = λ g. refl; small = omega arith })
reg_of (suc (suc (suc (suc zero)))) h = (V1, record { is = λ g. refl; small = omega arith })
reg_of (suc (suc (suc (suc (suc zero))))) h = (V2, record { is = λ g. refl; small = omega arith })
reg_of (suc (suc (suc (suc (suc (suc r)))))) h = absurd (omega arith)

same_bools : (a b : Bool) → (a ≡ true → b ≡ true) → (b ≡ true → a ≡ true) → a ≡ b
same_bools true b f g = sym (f refl)
same_bools false true f g = g refl
same_bools false false f g = refl

-- a call goes on to the next node
calls_next : (o : Op) → is_call o ≡ true → way_of o ≡ Next
calls_next (op.Control control.Call last) e = refl
calls_next (op.Control control.Finish last) e = refl
calls_next (op.Control o last) e = absurd (cc)
calls_next o e = absurd (cc)

module _ (c : Code) (sets : LiveSets) (are : AreLive c.nodes c.shape sets) where
  before_past : (i : ℕ) (q : Reg) → length sets.before ≤ i → has (get_or sets.before i (record { 0 = 0 })) q ≡ true → ⊥
  before_past i q le e =
      let never : false ≡ true = sym (ap (λ (x : RegSet). has x q) (get_or_past sets.before i (record { 0 = 0 }) le)) ∙ e in
      cc

  before_is : (i : ℕ) (q : Reg) → i < length c.nodes.nodes → (has (get_or sets.before i (record { 0 = 0 })) q ≡ true) ↔ IsLive c.nodes c.shape q i
  before_is i q lt = are.before i (get_or sets.before i (record { 0 = 0 })) (slice_get-get_or sets.before i (record { 0 = 0 }) (omega (arith, are.before_count))) q

  after_is : (i : ℕ) (q : Reg) → i < length c.nodes.nodes → (has (get_or sets.behind i (record { 0 = 0 })) q ≡ true) ↔ IsLiveAfter c.nodes c.shape q i
  after_is i q lt = are.behind i (get_or sets.behind i (record { 0 = 0 })) (slice_get-get_or sets.behind i (record { 0 = 0 }) (omega (arith, are.after_count))) q

  -- what is live before node i, where it is there
  live_here : (i : ℕ) (q : Reg) → has (get_or sets.before i (record { 0 = 0 })) q ≡ true → (i < length c.nodes.nodes) × IsLive c.nodes c.shape q i
  live_here i q e =
      ⊎_elim
      (λ (lt : i < length c.nodes.nodes). (lt, (before_is i q lt).0 e))
      (λ (le : length c.nodes.nodes ≤ i). absurd (before_past i q (omega (arith, are.before_count)) e))
      (cases_lt i (length c.nodes.nodes))

  before_reads : (i : ℕ) (n : Node) → slice_get c.nodes.nodes i ≡ Some n → (q : Reg) → (is_read n q || (has (get_or sets.behind i (record { 0 = 0 })) q && not (is_written n q))) ≡ true → has (get_or sets.before i (record { 0 = 0 })) q ≡ true
  before_reads i n here q e = by (is_read n q) refl e
    where
      lt : i < length c.nodes.nodes
      lt = slice_get_within c.nodes.nodes i n here

      by : (b : Bool) → is_read n q ≡ b → (b || (has (get_or sets.behind i (record { 0 = 0 })) q && not (is_written n q))) ≡ true → has (get_or sets.before i (record { 0 = 0 })) q ≡ true
      by true r e = (before_is i q lt).1 (live.read_here i n here r)
      by false r e =
          let parts = and_parts (has (get_or sets.behind i (record { 0 = 0 })) q) (not (is_written n q)) e in
          let b = (after_is i q lt).0 parts.0 in
          (before_is i q lt).1 (live.kept_to i b.next n here (not-true (is_written n q) parts.1) b.successor b.live)

  reads_at : (i : ℕ) (n : Node) → slice_get c.nodes.nodes i ≡ Some n → (r : ℕ) → r < 6 → live_before n (live_at sets.behind i) r ≡ true → live_at sets.before i r ≡ true
  reads_at i n here r small e = by (reg_of r small)
    where
      by : (q : Reg) × IsNumber r q → live_at sets.before i r ≡ true
      by x =
          let q = x.0 in
          let at = x.1.is in
          at (has (get_or sets.before i (record { 0 = 0 })))
          ∙ before_reads i n here q
          (sym (ap (λ b. b || (numbered (has (get_or sets.behind i (record { 0 = 0 }))) r && not (numbered (is_written n) r))) (at (is_read n))
          ∙ ap (λ b. is_read n q || (b && not (numbered (is_written n) r))) (at (has (get_or sets.behind i (record { 0 = 0 }))))
          ∙ ap (λ b. is_read n q || (has (get_or sets.behind i (record { 0 = 0 })) q && not b)) (at (is_written n)))
          ∙ e)

  goes_at : StepsReachSuccessors → IsShapeOf c.nodes c.shape → All InForm c.nodes.nodes → (s t : State) (n : Node) (bytes : List ℕ) → slice_get c.nodes.nodes s.at ≡ Some n → is_return n.op ≡ false → step c.nodes c.shape c.addresses s ≡ Goes t bytes
      → (r : ℕ) → r < 6 → live_at sets.before t.at r ≡ true → (live_at sets.behind s.at r ≡ true) ⊎ (t.regs r ≡ None)
  goes_at reaches is formed s t n bytes here returns e r small l =
      let x = reg_at r (has (get_or sets.before t.at (record { 0 = 0 }))) l in
      let q = x.0 in
      let h = live_here t.at q (sym (x.1.is (has (get_or sets.before t.at (record { 0 = 0 })))) ∙ l) in
      let lt = slice_get_within c.nodes.nodes s.at n here in
      let form : InForm n = subst InForm (get_or_from_slice_get c.nodes.nodes s.at n n here) (All-get_or InForm c.nodes.nodes s.at n lt formed) in
      ⊎_elim
      (λ (succ : IsSuccessor c.nodes c.shape s.at t.at). inl (x.1.is (has (get_or sets.behind s.at (record { 0 = 0 }))) ∙ (after_is s.at q lt).1 record { next = t.at; successor = succ; live = h.1 }))
      (λ (none : (k : ℕ) → t.regs k ≡ None). inr (none r))
      (reaches c.nodes c.shape c.addresses s t n bytes is form here returns e h.0)

  -- after a call
  call_after : (i : ℕ) (n : Node) (q : Reg) → slice_get c.nodes.nodes i ≡ Some n → way_of n.op ≡ Next → IsLiveAfter c.nodes c.shape q i → (i + 1 < length c.nodes.nodes) × IsLive c.nodes c.shape q (i + 1)
  call_after i n q here e b =
      let same : b.successor.node ≡ n = same_Some b.successor.node n (sym b.successor.here ∙ here) in
      let way : way_of b.successor.node.op ≡ Next = ap (λ (m : Node). way_of m.op) same ∙ e in
      let g : (b.next ≡ i + 1) × (b.next < length c.nodes.nodes) = subst (λ (w : Way). GoesBy c.nodes c.shape i b.successor.node w b.next) way b.successor.goes in
      (omega (arith, g.0, g.1), subst (IsLive c.nodes c.shape q) g.0 b.live)

  calls_at : (i : ℕ) (n : Node) → slice_get c.nodes.nodes i ≡ Some n → is_call n.op ≡ true → (r : ℕ) → live_at sets.before (i + 1) r ≡ live_at sets.behind i r
  calls_at i n here call r =
      let lt = slice_get_within c.nodes.nodes i n here in
      let way = calls_next n.op call in
      same_bools (live_at sets.before (i + 1) r) (live_at sets.behind i r)
      (λ e.
      let x = reg_at r (has (get_or sets.before (i + 1) (record { 0 = 0 }))) e in
      let h = live_here (i + 1) x.0 (sym (x.1.is (has (get_or sets.before (i + 1) (record { 0 = 0 })))) ∙ e) in
      x.1.is (has (get_or sets.behind i (record { 0 = 0 }))) ∙ (after_is i x.0 lt).1 record { next = i + 1; successor = record { node = n; here = here; goes = subst (λ (w : Way). GoesBy c.nodes c.shape i n w (i + 1)) (sym way) (refl, h.0) }; live = h.1 })
      (λ e.
      let x = reg_at r (has (get_or sets.behind i (record { 0 = 0 }))) e in
      let b = (after_is i x.0 lt).0 (sym (x.1.is (has (get_or sets.behind i (record { 0 = 0 })))) ∙ e) in
      let h = call_after i n x.0 here way b in
      x.1.is (has (get_or sets.before (i + 1) (record { 0 = 0 }))) ∙ (before_is (i + 1) x.0 h.0).1 h.1)

pub liveness : StepsReachSuccessors → LiveSetsAreLiveness
liveness reaches c sets is formed live = record { reads = reads_at c sets live; goes = goes_at c sets live reaches is formed; calls = calls_at c sets live }

pub all_live : AllIsLiveness
all_live c all every = record {
  reads = λ i n here r small e. (reg_of r small).1.is all ∙ every (reg_of r small).0 (reg_of r small).1.small;
  goes = λ s t n bytes here returns e r small l. inl l;
  calls = λ i n here call r. refl;
}
