-- What is known of a buffer to which the items of a node were appended, or to which nothing was, since they had no room.
use Rattle.std.proofs.Common.{◌≡◌, ℕ, ◌+◌, ◌%◌, ◌≤◌, Bool, true, false, List, [], ◌∷◌, ◌++◌, length, drop, refl, sym, ap, subst, ◌∙◌, arith, rules}
use Rattle.std.specs.Prelude.{IsTrue}
use Rattle.std.specs.List.{All, AllByRecursion}
use Rattle.std.proofs.lemmas.List.{drop_at}
use Rattle.std.proofs.lemmas.List.Elements.{All-from_recursion}
use Rattle.lg_buf.specs.Buffers.{Buffer}
use Rattle.lg_buf.specs.declared.fixes.Fix.{Fix}
use Rattle.lg_op.specs.declared.node.Node.{Node}
use Rattle.lg_sel.specs.Selected.{IsFixOf}
use Rattle.lg_sel.specs.Holes.{Holes, fixes_of, Each}

is-true : IsTrue true
is-true = search rules

-- what is after the front of a list that was lengthened
pub lengthened : {A : Type 0} (xs new more : List A) → new ≡ xs ++ more → new ≡ xs ++ drop (length xs) new
lengthened xs new more e = e ∙ ap (λ ys. xs ++ ys) (sym (ap (drop (length xs)) e ∙ drop_at xs more (length xs) refl))

pub one-fixed : (b : Bool) (old new : Buffer) (fixes : ℕ) → (b ≡ false → new ≡ old) → (IsTrue b → new.room + fixes ≡ old.room) → fixes ≤ 1 → old.room ≤ new.room + 1
one-fixed true old new fixes refused went few = let e = went is-true in omega (arith, e, few)
one-fixed false old new fixes refused went few = let e = ap (λ (b : Buffer). b.room) (refused refl) in omega (arith, e)

-- ---- fixes
module _ {L I : Type 0} (H : Holes L I) (unit : ℕ) (n : Node) (old : Buffer) (passes : L → Type 0) (Checked : Fix → Type 0) where
  abbrev base : ℕ
  base = length old.bytes

  abbrev Lead : List Fix → Type 0
  Lead fixes = AllByRecursion (IsFixOf unit old n) fixes

  lead-append : (fs gs : List Fix) → Lead fs → Lead gs → Lead (fs ++ gs)
  lead-append [] gs a b = b
  lead-append (f ∷ fs) gs a b = (a.0, lead-append fs gs a.1 b)

  each-parts : (fs gs : List Fix) → Each Checked (fs ++ gs) → Each Checked fs × Each Checked gs
  each-parts [] gs a = (tt, a)
  each-parts (f ∷ fs) gs a = let p = each-parts fs gs a.1 in ((a.0, p.0), p.1)

  -- an item has whole units of bytes, and its fixes, which were checked, lead where those of the node may
  module _ (whole : (x : L) (place : ℕ) → place % unit ≡ 0 → (place + length (H.blank x)) % unit ≡ 0)
      (leads : (x : L) (place : ℕ) → base ≤ place → place % unit ≡ 0 → passes x → Each Checked (H.fix_of place x) → Lead (H.fix_of place x)) where
    fixes-lead : (place : ℕ) (xs : List L) → base ≤ place → place % unit ≡ 0 → Each passes xs → Each Checked (fixes_of H place xs) → Lead (fixes_of H place xs)
    fixes-lead place [] low even h checked = tt
    fixes-lead place (x ∷ xs) low even h checked =
        let parts = each-parts (H.fix_of place x) (fixes_of H (place + length (H.blank x)) xs) checked in
        lead-append (H.fix_of place x) (fixes_of H (place + length (H.blank x)) xs) (leads x place low even h.0 parts.0)
        (fixes-lead (place + length (H.blank x)) xs (omega (arith, low)) (whole x place even) h.1 parts.1)

    pub fixes-of-lead : (new : Buffer) (items : List L) → new.fixes ≡ old.fixes ++ fixes_of H base items → base % unit ≡ 0 → Each passes items → Each Checked (fixes_of H base items)
        → All (IsFixOf unit old n) (drop (length old.fixes) new.fixes)
    fixes-of-lead new items fixes even named checked =
        let are : drop (length old.fixes) new.fixes ≡ fixes_of H base items = ap (drop (length old.fixes)) fixes ∙ drop_at old.fixes (fixes_of H base items) (length old.fixes) refl in
        subst (All (IsFixOf unit old n)) (sym are) (All-from_recursion (IsFixOf unit old n) (fixes_of H base items) (fixes-lead base items (omega arith) even named checked))
