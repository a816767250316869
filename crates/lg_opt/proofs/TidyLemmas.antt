-- Nodes none of which is an idle move have no idle moves as the promise says it.
use Rattle.std.proofs.Common.{◌≡◌, ◌≢◌, ℕ, zero, suc, ◌+◌, ◌-◌, ◌<◌, ◌≤◌, ◌⊎◌, inl, inr, Bool, true, false, ◌||◌, List, [], ◌∷◌, Option, Some, None, refl, sym, ap, ◌∙◌, subst, ⊎_elim, arith}
use Rattle.std.specs.Prelude.{if◌then◌else◌, slice_get}
use Rattle.std.proofs.lemmas.Bool.{true≢false}
use Rattle.lg_op.specs.declared.op.Op.{Op}
use Rattle.lg_op.specs.declared.op.Op.TheVariants as op
use Rattle.lg_op.specs.declared.op.UnaryOp.TheVariants as unary
use Rattle.lg_op.specs.declared.operand.Reg.{Reg}
use Rattle.lg_op.specs.declared.operand.Reg.TheVariants.{R0, R1, R2, V0, V1, V2, Fp}
use Rattle.lg_op.specs.declared.operand.Operand.{Operand}
use Rattle.lg_op.specs.declared.operand.Operand.TheVariants as operand
use Rattle.lg_op.specs.declared.node.Node.{Node}
use Rattle.lg_live.specs.Uses.{is_written}
use Rattle.lg_node.specs.Nodes.{LabelledNodes}
use Rattle.lg_node.specs.Labels.{is_labelled}
use Rattle.lg_carry.specs.Carries.{leaps}
use Rattle.lg_opt.specs.Moves.{Move, is_equal, move_of, no_sources, unless_written, after_other, after_move, is_source, is_idle, after_node, after_at, sources_before, move_at, is_idle_at, IsMovedBefore, HasNoIdleMoves}

pub equal-self : (r : Reg) → is_equal r r ≡ true
equal-self R0 = refl
equal-self R1 = refl
equal-self R2 = refl
equal-self V0 = refl
equal-self V1 = refl
equal-self V2 = refl
equal-self Fp = refl

-- a move writes its first register
into-writes : (a r : Reg) (xs : List Operand) (n : Node) → n.op ≡ op.Unary unary.Mov → n.operands ≡ operand.Reg a ∷ xs → xs ≢ [] → a ≢ Fp → is_equal a r ≡ true → is_written n r ≡ true
into-writes a r [] n o e ne f g = absurd (ne refl)
into-writes a r (x ∷ xs) n o e ne f g = subst (λ p. written p n.operands ≡ true) (sym o) (subst (λ ys. written (op.Unary unary.Mov) ys ≡ true) (sym e) (by a r f g))
  where
    written : Op → List Operand → Bool
    written p ys = is_written record { op = p; operands = ys; line = 0 } r

    by : (a r : Reg) → a ≢ Fp → is_equal a r ≡ true → is_written record { op = op.Unary unary.Mov; operands = operand.Reg a ∷ x ∷ xs; line = 0 } r ≡ true
    by R0 R0 f g = grind arith
    by R1 R1 f g = grind arith
    by R2 R2 f g = grind arith
    by V0 V0 f g = grind arith
    by V1 V1 f g = grind arith
    by V2 V2 f g = grind arith
    by Fp r f g = absurd (f refl)
    by a r f g = cc

pub move-is : (o : Op) (xs : List Operand) (m : Move) → move_of o xs ≡ Some m → (o ≡ op.Unary unary.Mov) × (xs ≡ operand.Reg m.into ∷ operand.Reg m.from ∷ [])
move-is (op.Unary unary.Mov) (operand.Reg a ∷ operand.Reg b ∷ []) m e = let q : record { into = a; from = b } ≡ m = cc in (refl, ap (λ (k : Move). operand.Reg k.into ∷ operand.Reg k.from ∷ []) q)
move-is o xs m e = cc

pub move-writes : (n : Node) (m : Move) (r : Reg) → move_of n.op n.operands ≡ Some m → m.into ≢ Fp → is_equal m.into r ≡ true → is_written n r ≡ true
move-writes n m r e f g = let w = move-is n.op n.operands m e in into-writes m.into r (operand.Reg m.from ∷ []) n w.0 w.1 (λ z. cc) f g

module _ (l : LabelledNodes) (written : (i : ℕ) (n : Node) (m : Move) → slice_get l.nodes i ≡ Some n → move_of n.op n.operands ≡ Some m → m.into ≢ Fp) (lean : (i : ℕ) → is_idle_at l i ≡ false) where
  abbrev at-node : ℕ → Reg → Option Reg
  at-node i = sources_before l i

  -- the sources after a node of a straight run
  after-straight : (i : ℕ) (n : Node) → slice_get l.nodes i ≡ Some n → leaps n.op ≡ false → is_labelled l.places (suc i) ≡ false → sources_before l (suc i) ≡ after_node (sources_before l i) n (move_of n.op n.operands)
  unfolding sources_before
  after-straight i n here falls free =
      ap (λ b. if b then no_sources else after_at (sources_before l i) (slice_get l.nodes i)) free
      ∙ ap (after_at (sources_before l i)) here
      ∙ ap (λ b. if b then no_sources else after_node (sources_before l i) n (move_of n.op n.operands)) falls

  not-idle : (i : ℕ) (n : Node) (m : Move) → slice_get l.nodes i ≡ Some n → move_of n.op n.operands ≡ Some m → is_idle (sources_before l i) (Some m) ≡ false
  not-idle i n m here e = ap (is_idle (sources_before l i)) (sym (ap move_at here ∙ e)) ∙ lean i

  after-move : (i : ℕ) (n : Node) (m : Move) → slice_get l.nodes i ≡ Some n → move_of n.op n.operands ≡ Some m → after_node (sources_before l i) n (move_of n.op n.operands) ≡ after_move (sources_before l i) n m
  after-move i n m here e = ap (after_node (sources_before l i) n) e ∙ ap (λ b. if b then sources_before l i else after_move (sources_before l i) n m) (not-idle i n m here e)

  -- a move makes a source
  makes : (i : ℕ) (n : Node) (m : Move) → slice_get l.nodes i ≡ Some n → move_of n.op n.operands ≡ Some m → leaps n.op ≡ false → is_labelled l.places (suc i) ≡ false → sources_before l (suc i) m.into ≡ Some m.from
  makes i n m here e falls free =
      ap (λ f. f m.into) (after-straight i n here falls free ∙ after-move i n m here e)
      ∙ ap (λ b. if b then Some m.from else after_other (sources_before l i) n m.into) (equal-self m.into)

  -- which is there while neither is written
  keeps : (i : ℕ) (n : Node) (x y : Reg) → slice_get l.nodes i ≡ Some n → leaps n.op ≡ false → is_labelled l.places (suc i) ≡ false → is_written n x ≡ false → is_written n y ≡ false → sources_before l i x ≡ Some y → sources_before l (suc i) x ≡ Some y
  keeps i n x y here falls free wx wy e = ap (λ f. f x) (after-straight i n here falls free) ∙ by (move_of n.op n.operands) refl
    where
      other : after_other (sources_before l i) n x ≡ Some y
      other = ap (λ b. if b then None else unless_written n (sources_before l i x)) wx ∙ ap (unless_written n) e ∙ ap (λ b. if b then None else Some y) wy

      apart : (m : Move) → move_of n.op n.operands ≡ Some m → (b : Bool) → is_equal m.into x ≡ b → (if b then Some m.from else after_other (sources_before l i) n x) ≡ Some y
      apart m f false g = other
      apart m f true g = absurd (true≢false (sym (move-writes n m x f (written i n m here f) g) ∙ wx))

      by : (o : Option Move) → move_of n.op n.operands ≡ o → after_node (sources_before l i) n (move_of n.op n.operands) x ≡ Some y
      by None f = ap (λ o. after_node (sources_before l i) n o x) f ∙ other
      by (Some m) f = ap (λ h. h x) (after-move i n m here f) ∙ apart m f (is_equal m.into x) refl

  module _ (k : ℕ) (a b : Reg) (h : IsMovedBefore l k a b) (nodes : (j : ℕ) → j < k → (n : Node) × (slice_get l.nodes j ≡ Some n)) where
    kept-both : (j : ℕ) (n : Node) → h.at < j → j < k → slice_get l.nodes j ≡ Some n → (is_written n h.move.into ≡ false) × (is_written n h.move.from ≡ false)
    kept-both j n lt lt' here =
        let w = h.kept j n lt lt' here in
        ⊎_elim (λ s. (ap (is_written n) s.0 ∙ w.0, ap (is_written n) s.1 ∙ w.1)) (λ s. (ap (is_written n) s.0 ∙ w.1, ap (is_written n) s.1 ∙ w.0)) h.between

    walk : (d : ℕ) → suc h.at + d ≤ k → sources_before l (suc h.at + d) h.move.into ≡ Some h.move.from
    walk zero le =
        let z : suc h.at ≡ suc h.at + 0 = omega arith in
        let falls = h.straight.falls h.at h.node (omega arith) h.before h.here in
        let free = h.straight.unlabelled (suc h.at) (omega arith) (omega (arith, h.before)) in
        subst (λ i. sources_before l i h.move.into ≡ Some h.move.from) z (makes h.at h.node h.move h.here h.moves falls free)
    walk (suc d) le =
        let z : suc (suc h.at + d) ≡ suc h.at + suc d = omega arith in
        let j = suc h.at + d in
        let n = nodes (suc h.at + d) (omega arith) in
        let w = kept-both (suc h.at + d) n.0 (omega arith) (omega arith) n.1 in
        let falls = h.straight.falls (suc h.at + d) n.0 (omega arith) (omega arith) n.1 in
        let free = h.straight.unlabelled (suc (suc h.at + d)) (omega arith) (omega arith) in
        subst (λ i. sources_before l i h.move.into ≡ Some h.move.from) z (keeps (suc h.at + d) n.0 h.move.into h.move.from n.1 falls free w.0 w.1 (walk d (omega arith)))

    source-there : sources_before l k h.move.into ≡ Some h.move.from
    source-there = let z : suc h.at + (k - suc h.at) ≡ k = omega (arith, h.before) in subst (λ i. sources_before l i h.move.into ≡ Some h.move.from) z (walk (k - suc h.at) (omega (arith, h.before)))

    pub would-be-idle : is_idle (sources_before l k) (Some record { into = a; from = b }) ≡ true
    would-be-idle = ⊎_elim (λ s. first (sym (ap (sources_before l k) s.0) ∙ source-there ∙ ap Some s.1)) (λ s. second (sym (ap (sources_before l k) s.0) ∙ source-there ∙ ap Some s.1)) h.between
      where
        any : (x y z : Bool) → (y ≡ true) ⊎ (z ≡ true) → (x || (y || z)) ≡ true
        any true y z h = refl
        any false true z h = refl
        any false false true h = refl
        any false false false (inl h) = cc
        any false false false (inr h) = cc

        first : sources_before l k a ≡ Some b → is_idle (sources_before l k) (Some record { into = a; from = b }) ≡ true
        first e = any _ _ _ (inl (ap (λ o. is_source o b) e ∙ equal-self b))

        second : sources_before l k b ≡ Some a → is_idle (sources_before l k) (Some record { into = a; from = b }) ≡ true
        second e = any _ _ _ (inr (ap (λ o. is_source o a) e ∙ equal-self a))

  pub no-idle-moves : ((k j : ℕ) (n : Node) → slice_get l.nodes k ≡ Some n → j < k → (x : Node) × (slice_get l.nodes j ≡ Some x)) → HasNoIdleMoves l
  no-idle-moves nodes k n m here e = (
    λ same. true≢false (sym (by (is_equal m.into m.from) (ap (is_equal m.into) (sym same) ∙ equal-self m.into)) ∙ not-idle k n m here e),
    λ h. true≢false (sym (would-be-idle k m.into m.from h (λ j lt. nodes k j n here lt)) ∙ not-idle k n m here e),
  )
    where
      by : (b : Bool) → is_equal m.into m.from ≡ true → is_idle (sources_before l k) (Some m) ≡ true
      by b f = ap (λ c. c || (is_source (sources_before l k m.into) m.from || is_source (sources_before l k m.from) m.into)) f
