-- The temporaries of a node that are chosen for its needs.
use Rattle.std.proofs.Common.{◌≡◌, ℕ, ◌⊎◌, inl, inr, Bool, true, false, List, [], ◌∷◌, ◌++◌, refl, ap, sym, ◌∙◌, subst, arith}
use Rattle.std.specs.Prelude.{◌==◌, ◌||◌, ◌&&◌, not}
use Rattle.std.specs.List.{list_any}
use Rattle.std.proofs.lemmas.Bool.{or_parts}
use Rattle.lg_temp.specs.declared.choice.Need.{Need}
use Rattle.lg_temp.specs.declared.choice.Need.TheVariants.{Any, Only}
use Rattle.lg_temp.specs.declared.choice.Choice.{Choice}
use Rattle.lg_temp.specs.declared.choice.Choice.TheVariants.{Free, Own, Spill}
use Rattle.lg_temp.specs.Chosen.{Around, order, stands_in, is_named, is_busy}
use Rattle.lg_temp.specs.Choices.{AreFor}
use Rattle.lg_carry.specs.Spills.{lost, KeepSpilled}
use Rattle.lg_carry.specs.Nodes.Straight.{is_taken, spoils}
use Rattle.lg_carry.proofs.SpillChoiceLemmas.{or-true}

-- a register that is tried, or that a need names
abbrev pub IsOffered : Around → List Need → ℕ → Type 0
IsOffered a needs x = (list_any (λ y. y == x) (order a.target) ≡ true) ⊎ (is_named needs x ≡ true)

-- what is said of a register that is taken
pub record IsTemporary (a : Around) (needs : List Need) (choices : List Choice) (T : ℕ → Bool) (x : ℕ) : Type 0 where
  pub offered : IsOffered a needs x
  pub unwritten : stands_in a.target a.writes x ≡ false
  pub same : (is_busy a x ≡ false) ⊎ (lost choices T x ≡ false)

equal : (r x : ℕ) → (r == x) ≡ true → r ≡ x
equal r x e = grind (arith, e)

same-self : (r : ℕ) → (r == r) ≡ true
same-self r = grind arith

restored : (b : Bool) (r x : ℕ) → r ≡ x → (b && not (x == r)) ≡ false
restored true r x e = grind (arith, e)
restored false r x e = refl

-- a register that is not lost of the others is not lost
weaken : (a : Around) (choices : List Choice) (T : ℕ → Bool) (r x : ℕ) → (is_busy a x ≡ false) ⊎ (lost choices T x ≡ false) → (is_busy a x ≡ false) ⊎ ((lost choices T x && not (x == r)) ≡ false)
weaken a choices T r x (inl e) = inl e
weaken a choices T r x (inr e) = inr (ap (λ b. b && not (x == r)) e)

-- of a register that is taken first, or else of the others
first-free : (a : Around) (needs : List Need) (r : ℕ) (choices : List Choice) (T : ℕ → Bool) (x : ℕ) (b : Bool) → (r == x) ≡ b → IsOffered a needs r → stands_in a.target a.writes r ≡ false → is_busy a r ≡ false
    → (is_taken choices x ≡ true → IsTemporary a needs choices T x) → (b || is_taken choices x) ≡ true → IsTemporary a needs (Free r ∷ choices) T x
first-free a needs r choices T x true is offered unwritten free rest e = let z = equal r x is in record { offered = subst (IsOffered a needs) z offered; unwritten = subst (λ y. stands_in a.target a.writes y ≡ false) z unwritten; same = inl (subst (λ y. is_busy a y ≡ false) z free) }
first-free a needs r choices T x false is offered unwritten free rest e = let m = rest e in record { offered = m.offered; unwritten = m.unwritten; same = m.same }

first-saved : (a : Around) (needs : List Need) (r k : ℕ) (choices : List Choice) (T : ℕ → Bool) (x : ℕ) (b : Bool) → (r == x) ≡ b → IsOffered a needs r → stands_in a.target a.writes r ≡ false
    → (is_taken choices x ≡ true → IsTemporary a needs choices T x) → (b || is_taken choices x) ≡ true → IsTemporary a needs (Spill r k ∷ choices) T x
first-saved a needs r k choices T x true is offered unwritten rest e = let z = equal r x is in record { offered = subst (IsOffered a needs) z offered; unwritten = subst (λ y. stands_in a.target a.writes y ≡ false) z unwritten; same = inr (restored (lost choices T x) r x z) }
first-saved a needs r k choices T x false is offered unwritten rest e = let m = rest e in record { offered = m.offered; unwritten = m.unwritten; same = weaken a choices T r x m.same }

-- the node's own register is passed over
own-first : (a : Around) (needs : List Need) (r : ℕ) (choices : List Choice) (T : ℕ → Bool) (x : ℕ) → IsTemporary a needs choices T x → IsTemporary a needs (Own r ∷ choices) T x
own-first a needs r choices T x m = record { offered = m.offered; unwritten = m.unwritten; same = m.same }

named-first : (r : ℕ) (needs : List Need) → is_named (Only r ∷ needs) r ≡ true
named-first r needs = ap (λ b. b || is_named needs r) (same-self r)

pub temporary : (a : Around) (needs left : List Need) (made choices : List Choice) (T : ℕ → Bool) (x : ℕ) → ((y : ℕ) → is_named left y ≡ true → is_named needs y ≡ true) → AreFor a needs made left choices → is_taken choices x ≡ true → IsTemporary a needs choices T x
temporary a needs left made [] T x named h e = cc
temporary a needs [] made (choice ∷ choices) T x named h e = absurd h
temporary a needs (Any ∷ left) made (Own r ∷ choices) T x named h e = absurd h.0
temporary a needs (Any ∷ left) made (Free r ∷ choices) T x named h e =
    first-free a needs r choices T x (r == x) refl (inl h.0.0.tried) (or_parts _ _ h.0.0.own).1 h.0.1 (λ f. temporary a needs left (made ++ Free r ∷ []) choices T x (λ y g. named y g) h.1 f) e
temporary a needs (Any ∷ left) made (Spill r k ∷ choices) T x named h e =
    first-saved a needs r k choices T x (r == x) refl (inl h.0.0.tried) (or_parts _ _ h.0.0.own).1 (λ f. temporary a needs left (made ++ Spill r k ∷ []) choices T x (λ y g. named y g) h.1 f) e
temporary a needs (Only n ∷ left) made (Own r ∷ choices) T x named h e =
    own-first a needs r choices T x (temporary a needs left (made ++ Own r ∷ []) choices T x (λ y g. named y (ap (λ b. (n == y) || b) g ∙ or-true (n == y))) h.1 e)
temporary a needs (Only n ∷ left) made (Free r ∷ choices) T x named h e =
    first-free a needs r choices T x (r == x) refl (inr (subst (λ y. is_named needs y ≡ true) (sym h.0.0) (named n (named-first n left)))) h.0.1 h.0.3
    (λ f. temporary a needs left (made ++ Free r ∷ []) choices T x (λ y g. named y (ap (λ b. (n == y) || b) g ∙ or-true (n == y))) h.1 f) e
temporary a needs (Only n ∷ left) made (Spill r k ∷ choices) T x named h e =
    first-saved a needs r k choices T x (r == x) refl (inr (subst (λ y. is_named needs y ≡ true) (sym h.0.0) (named n (named-first n left)))) h.0.1
    (λ f. temporary a needs left (made ++ Spill r k ∷ []) choices T x (λ y g. named y (ap (λ b. (n == y) || b) g ∙ or-true (n == y))) h.1 f) e

-- registers that are taken are as they were, and so are those that are saved
pub keep-taken : (choices : List Choice) (W registers : ℕ → ℕ) → ((x : ℕ) → is_taken choices x ≡ true → W x ≡ registers x) → KeepSpilled choices W registers
keep-taken [] W registers h = tt
keep-taken (Free r ∷ choices) W registers h = keep-taken choices W registers (λ x e. h x (ap (λ b. (r == x) || b) e ∙ or-true (r == x)))
keep-taken (Own r ∷ choices) W registers h = keep-taken choices W registers h
keep-taken (Spill r k ∷ choices) W registers h = (h r (ap (λ b. b || is_taken choices r) (same-self r)), keep-taken choices W registers (λ x e. h x (ap (λ b. (r == x) || b) e ∙ or-true (r == x))))

-- what is not spoilt is not lost
pub unspoilt : (choices : List Choice) (T : ℕ → Bool) (x : ℕ) → T x ≡ false → lost choices T x ≡ false
unspoilt [] T x h = h
unspoilt (Free r ∷ choices) T x h = unspoilt choices T x h
unspoilt (Own r ∷ choices) T x h = unspoilt choices T x h
unspoilt (Spill r k ∷ choices) T x h = ap (λ b. b && not (x == r)) (unspoilt choices T x h)

-- whether a register is lost goes by whether it is spoilt
lost-same : (choices : List Choice) (T U : ℕ → Bool) (x : ℕ) → T x ≡ U x → lost choices T x ≡ lost choices U x
lost-same [] T U x h = h
lost-same (Free r ∷ choices) T U x h = lost-same choices T U x h
lost-same (Own r ∷ choices) T U x h = lost-same choices T U x h
lost-same (Spill r k ∷ choices) T U x h = ap (λ b. b && not (x == r)) (lost-same choices T U x h)

or-none : (b c : Bool) → c ≡ false → (b || c) ≡ b
or-none true c e = refl
or-none false c e = e

-- a register that is no scratch register is lost where it is taken and not restored
pub lost-taken : (choices : List Choice) (scratch : ℕ → Bool) (x : ℕ) → scratch x ≡ false → lost choices (is_taken choices) x ≡ false → lost choices (spoils scratch choices) x ≡ false
lost-taken choices scratch x off e = lost-same choices (spoils scratch choices) (is_taken choices) x (or-none (is_taken choices x) (scratch x) off) ∙ e
