-- The registers that are taken for the needs of a node.
use Rattle.std.proofs.Common.{◌≡◌, ◌≢◌, ℕ, ◌⊎◌, inl, inr, Bool, true, false, List, [], ◌∷◌, ◌++◌, refl, sym, ap, ◌∙◌, subst, arith}
use Rattle.std.specs.Prelude.{◌==◌, ◌||◌, ◌&&◌, if◌then◌else◌}
use Rattle.std.proofs.lemmas.Bool.{and_parts}
use Rattle.lg_base.specs.declared.target.Target.TheVariants.{X86_64}
use Rattle.lg_op.specs.declared.node.Node.{Node}
use Rattle.lg_op.specs.declared.operand.Reg.{Reg}
use Rattle.lg_op.specs.declared.operand.Reg.TheVariants.{R0, R1, R2, V0, V1, V2, Fp}
use Rattle.lg_op.specs.Operands.{number_of}
use Rattle.lg_live.specs.Registers.{is_same}
use Rattle.lg_live.specs.Uses.{is_written}
use Rattle.lg_temp.specs.Abis.{register_of}
use Rattle.lg_temp.specs.Chosen.{Around, around, stands_in, is_named}
use Rattle.lg_temp.specs.Choices.{AreFor}
use Rattle.lg_temp.specs.declared.choice.Need.{Need}
use Rattle.lg_temp.specs.declared.choice.Need.TheVariants.{Any, Only}
use Rattle.lg_temp.specs.declared.choice.Choice.{Choice}
use Rattle.lg_temp.specs.declared.choice.Choice.TheVariants.{Free, Own, Spill}
use Rattle.lg_carry.specs.Nodes.Straight.{is_taken}
use Rattle.lg_selx_values.proofs.RegisterLemmas.{equal}

-- ---- the registers that are taken
-- a register that a need names is taken, or the node writes it
either-of : {A : Type 0} (b c : Bool) → (b || c) ≡ true → (b ≡ true → A) → (c ≡ true → A) → A
either-of true c e f g = f refl
either-of false c e f g = g e

taken-later : (y l w : Bool) → (l ≡ true) ⊎ (w ≡ true) → ((y || l) ≡ true) ⊎ (w ≡ true)
taken-later true l w h = inl refl
taken-later false l w h = h

taken-first : (r y x : ℕ) (l : Bool) → r ≡ y → (y == x) ≡ true → ((r == x) || l) ≡ true
taken-first r y x l z f = ap (λ u. (u == x) || l) z ∙ ap (λ u. u || l) f

named-taken : (a : Around) (needs left : List Need) (made choices : List Choice) (x : ℕ) → AreFor a needs made left choices → is_named left x ≡ true → (is_taken choices x ≡ true) ⊎ (stands_in a.target a.writes x ≡ true)
named-taken a needs [] made choices x h e = cc
named-taken a needs (need ∷ left) made [] x h e = absurd h
named-taken a needs (Any ∷ left) made (Own r ∷ choices) x h e = absurd h.0
named-taken a needs (Any ∷ left) made (Free r ∷ choices) x h e = taken-later (r == x) (is_taken choices x) (stands_in a.target a.writes x) (named-taken a needs left (made ++ Free r ∷ []) choices x h.1 e)
named-taken a needs (Any ∷ left) made (Spill r k ∷ choices) x h e = taken-later (r == x) (is_taken choices x) (stands_in a.target a.writes x) (named-taken a needs left (made ++ Spill r k ∷ []) choices x h.1 e)
named-taken a needs (Only y ∷ left) made (Free r ∷ choices) x h e =
    either-of (y == x) (is_named left x) e (λ f. inl (taken-first r y x (is_taken choices x) h.0.0 f)) (λ g. taken-later (r == x) (is_taken choices x) (stands_in a.target a.writes x) (named-taken a needs left (made ++ Free r ∷ []) choices x h.1 g))
named-taken a needs (Only y ∷ left) made (Own r ∷ choices) x h e =
    either-of (y == x) (is_named left x) e (λ f. inr (let z : r ≡ x = h.0.0 ∙ equal y x f in subst (λ u. stands_in a.target a.writes u ≡ true) z h.0.1)) (λ g. named-taken a needs left (made ++ Own r ∷ []) choices x h.1 g)
named-taken a needs (Only y ∷ left) made (Spill r k ∷ choices) x h e =
    either-of (y == x) (is_named left x) e (λ f. inl (taken-first r y x (is_taken choices x) h.0.0 f)) (λ g. taken-later (r == x) (is_taken choices x) (stands_in a.target a.writes x) (named-taken a needs left (made ++ Spill r k ∷ []) choices x h.1 g))

-- what corresponds to a register of a set
pub record IsStoodFor (set : Reg → Bool) (x : ℕ) : Type 0 where
  pub register : Reg
  pub named : register ≢ Fp
  pub among : set register ≡ true
  pub is : register_of X86_64 register ≡ x

one-of : (set : Reg → Bool) (x : ℕ) (p : Reg) (rest : Bool) → p ≢ Fp → ((set p && (register_of X86_64 p == x)) || rest) ≡ true → (rest ≡ true → IsStoodFor set x) → IsStoodFor set x
one-of set x p rest named e again = by (set p && (register_of X86_64 p == x)) refl e
  where
    by : (b : Bool) → (set p && (register_of X86_64 p == x)) ≡ b → (b || rest) ≡ true → IsStoodFor set x
    by true f g = let k = and_parts (set p) (register_of X86_64 p == x) f in let z : register_of X86_64 p ≡ x = (let y = k.1 in grind (arith, y)) in record { register = p; named = named; among = k.0; is = z }
    by false f g = again g

pub stood-for : (set : Reg → Bool) (x : ℕ) → stands_in X86_64 set x ≡ true → IsStoodFor set x
stood-for set x e =
    one-of set x R0 _ (λ z. cc) e (λ f. one-of set x R1 _ (λ z. cc) f (λ g. one-of set x R2 _ (λ z. cc) g (λ h. one-of set x V0 _ (λ z. cc) h (λ k. one-of set x V1 _ (λ z. cc) k (λ m. one-of set x V2 _ (λ z. cc) m (λ n. cc))))))

same-number : (d p : Reg) → is_same d p ≡ true → number_of d ≡ number_of p
same-number d p e = let z = (and_parts (number_of d == number_of p) _ e).0 in grind (arith, z)

register-at : ℕ → ℕ
register-at n = if n == 0 then 0 else if n == 1 then 10 else if n == 2 then 11 else if n == 3 then 3 else if n == 4 then 13 else if n == 5 then 14 else 5

register-by-number : (p : Reg) → register_of X86_64 p ≡ register-at (number_of p)
unfolding register-at
register-by-number R0 = refl
register-by-number o = refl

-- a register of the needs of a node that writes these is taken, or is that of one of them
pub named-apart : (n : Node) (live : Reg → Bool) (staged : List Bool) (needs : List Need) (choices : List Choice) (x : ℕ) (writes : Reg → Bool) → ((q : Reg) → is_written n q ≡ writes q)
    → AreFor (around X86_64 n live staged) needs [] needs choices → is_named needs x ≡ true → is_taken choices x ≡ false → IsStoodFor writes x
named-apart n live staged needs choices x writes same h e free = by (named-taken (around X86_64 n live staged) needs needs [] choices x h e)
  where
    clash : {b : Bool} → b ≡ true → b ≡ false → ⊥
    clash e h = cc

    by : (is_taken choices x ≡ true) ⊎ (stands_in X86_64 (is_written n) x ≡ true) → IsStoodFor writes x
    by (inl k) = absurd (clash k free)
    by (inr k) = let s = stood-for (is_written n) x k in record { register = s.register; named = s.named; among = sym (same s.register) ∙ s.among; is = s.is }

-- the same register corresponds to it
pub same-register : (d p : Reg) → is_same d p ≡ true → register_of X86_64 d ≡ register_of X86_64 p
same-register d p e = register-by-number d ∙ ap register-at (same-number d p e) ∙ sym (register-by-number p)
