-- From a finished buffer to the items of a node.
use Rattle.std.proofs.Common.{◌≡◌, ℕ, ◌+◌, ◌-◌, ◌≤◌, true, false, List, ◌∷◌, ◌++◌, length, drop, take, refl, sym, ap, subst, ◌∙◌, arith, length-append}
use Rattle.std.specs.Prelude.{Bool, slice_index, count_by}
use Rattle.std.specs.List.{All}
use Rattle.std.proofs.Math.Seq.{take-append_seam}
use Rattle.std.proofs.lemmas.List.{drop_at}
use Rattle.lg_base.specs.Layout.{code_base}
use Rattle.lg_buf.specs.Buffers.{Buffer}
use Rattle.lg_carry.specs.Blocks.{spellings}
use Rattle.lg_carry.specs.FinalNodes.{Code}
use Rattle.lg_carry.specs.Rows.{Rows}
use Rattle.lg_sel.specs.Finished.{AreAppended, ItemsAreOfNode, ItemsAreWhole, ItemsAreSparing}
use Rattle.lg_sel.specs.Selected.{IsFinished, AreWhole, part_of}
use Rattle.lg_sel.specs.Shorts.{LeadsBy}
use Rattle.lg_sel.specs.Stores.{StoresAtMost}
use Rattle.lg_sel.specs.Holes.{Holes, blanks, settled, fixes_of, Each, IsApartFrom, StandAt, IsSettled, AreHoles}
use Rattle.lg_sel.proofs.HoleLemmas.{items-are-settled, settled-bytes}

module _ {L I : Type 0} (H : Holes L I) (spelling : I → List ℕ) (fits : I → Type 0) (is_item : L → Type 0) (holes : AreHoles H spelling fits is_item)
    (old new : Buffer) (code : List ℕ) (c : Code) (i : ℕ) (items : List L) (a : AreAppended H old new items) (ok : Each is_item items) (f : IsFinished old new code c i) where
  abbrev place : ℕ
  place = length old.bytes

  abbrev to : ℕ → ℕ
  to = slice_index c.addresses

  bytes : drop place new.bytes ≡ blanks H items
  bytes = ap (drop place) a.bytes ∙ drop_at old.bytes (blanks H items) place refl

  fixes : drop (length old.fixes) new.fixes ≡ fixes_of H place items
  fixes = ap (drop (length old.fixes)) a.fixes ∙ drop_at old.fixes (fixes_of H place items) (length old.fixes) refl

  size : length new.bytes ≡ place + length (blanks H items)
  size = ap length a.bytes ∙ length-append old.bytes (blanks H items)

  long : length new.bytes - place ≡ length (blanks H items)
  long = omega (arith, size)

  stands : StandAt H f.emitted f.fixes place items
  stands = record {
    rest = f.rest;
    bytes = f.stands ∙ ap (λ l. l ++ f.rest) bytes;
    before = f.before;
    behind = f.behind;
    fixes = f.among ∙ ap (λ l. f.before ++ (l ++ f.behind)) fixes;
    apart_before = subst (λ n. All (IsApartFrom place n) f.before) long f.apart_before;
    apart_after = subst (λ n. All (IsApartFrom place n) f.behind) long f.apart_after;
  }

  settled-there : IsSettled spelling fits code place (place + length (blanks H items)) (settled H to (code_base + place) items)
  settled-there = items-are-settled H spelling fits is_item holes f.labels f.fixes f.emitted code to place items f.done f.bytes f.addresses ok stands

  whole-there : AreWhole spelling fits (part_of code place (length new.bytes - place))
  whole-there =
      let is : List ℕ = spellings spelling (settled H to (code_base + place) items) in
      let count : length new.bytes - place ≡ length is = long ∙ sym (settled-bytes H spelling fits is_item holes to (code_base + place) items ok) in record {
        instructions = settled H to (code_base + place) items;
        fit = settled-there.fit;
        bytes_are = ap (λ (k : ℕ). take k (drop place code)) count
            ∙ (ap (λ (ys : List ℕ). take (length is) ys) settled-there.stands ∙ take-append_seam is (drop (place + length (blanks H items)) code));
      }

  sparing-there : (is_store : I → Bool) (most : ℕ) → count_by is_store (settled H to (c.place i) items) ≤ most → StoresAtMost spelling fits is_store most (part_of code place (length new.bytes - place))
  unfolding whole-there
  sparing-there is_store most few = record {
    instructions = whole-there.instructions;
    fit = whole-there.fit;
    bytes_are = whole-there.bytes_are;
    few = subst (λ (p : ℕ). count_by is_store (settled H to p items) ≤ most) f.here few;
  }

  leading-there : (is_relative : I → Bool) (has_form : ℕ → List I → Type 0) (front : List I) (leap : I) (rest : List I)
      → settled H to (code_base + place) items ≡ front ++ leap ∷ rest → Each (λ i. is_relative i ≡ false) front → is_relative leap ≡ true
      → has_form (place + length (spellings spelling front)) (leap ∷ rest)
      → LeadsBy spelling fits is_relative has_form place (part_of code place (length new.bytes - place))
  unfolding whole-there
  leading-there is_relative has_form front leap rest same before leads form = record {
    front = front;
    leap = leap;
    rest = rest;
    fit = subst (All fits) same whole-there.fit;
    bytes_are = whole-there.bytes_are ∙ ap (spellings spelling) same;
    before = before;
    leads = leads;
    form = form;
  }

-- where the items become instructions the first of which do not count from their own place, and the others have a form, so do the bytes
pub items-lead : {L I : Type 0} (H : Holes L I) (spelling : I → List ℕ) (fits : I → Type 0) (is_item : L → Type 0) → AreHoles H spelling fits is_item
    → (is_relative : I → Bool) (has_form : ℕ → List I → Type 0) (old new : Buffer) (code : List ℕ) (c : Code) (i : ℕ) (items : List L)
    → AreAppended H old new items → Each is_item items → IsFinished old new code c i → (front : List I) (leap : I) (rest : List I)
    → settled H (slice_index c.addresses) (code_base + length old.bytes) items ≡ front ++ leap ∷ rest → Each (λ i. is_relative i ≡ false) front → is_relative leap ≡ true
    → has_form (length old.bytes + length (spellings spelling front)) (leap ∷ rest)
    → LeadsBy spelling fits is_relative has_form (length old.bytes) (part_of code (length old.bytes) (length new.bytes - length old.bytes))
items-lead H spelling fits is_item holes is_relative has_form old new code c i items a ok f =
    leading-there H spelling fits is_item holes old new code c i items a ok f is_relative has_form

pub items-are-of-node : {L Q I : Type 0} (H : Holes L I) (R : Rows Q I) (fits : I → Type 0) (stays : Bool → I → Type 0) (is_item : L → Type 0) → AreHoles H R.spelling fits is_item → ItemsAreOfNode H R fits stays is_item
items-are-of-node H R fits stays is_item holes old new c i items a ok stay few place_is f =
    let start : ℕ = length old.bytes in
    let s = settled-there H R.spelling fits is_item holes old new R.code c i items a ok f in
    let e : start ≡ c.place i - code_base = let h = f.here in omega (arith, h) in
    let here : code_base + start ≡ c.place i = let h = f.here in omega (arith, h) in record {
      items_are = ok;
      low = let h = f.here in omega (arith, h);
      place = place_is;
      settled_at =
          subst (λ b. IsSettled R.spelling fits R.code (c.place i - code_base) (c.place i - code_base + length (blanks H items)) (settled H (slice_index c.addresses) b items)) here
          (subst (λ p. IsSettled R.spelling fits R.code p (p + length (blanks H items)) (settled H (slice_index c.addresses) (code_base + start) items)) e s);
      next = let h = f.here in let n = f.next in let b = size H R.spelling fits is_item holes old new R.code c i items a ok f in omega (arith, h, n, b);
      few = few;
      stay = stay;
    }

pub items-are-whole : {L I : Type 0} (H : Holes L I) (spelling : I → List ℕ) (fits : I → Type 0) (is_item : L → Type 0) → AreHoles H spelling fits is_item → ItemsAreWhole H spelling fits is_item
items-are-whole H spelling fits is_item holes old new code c i items a ok f = whole-there H spelling fits is_item holes old new code c i items a ok f

pub items-are-sparing : {L I : Type 0} (H : Holes L I) (spelling : I → List ℕ) (fits : I → Type 0) (is_item : L → Type 0) → AreHoles H spelling fits is_item → ItemsAreSparing H spelling fits is_item
items-are-sparing H spelling fits is_item holes is_store old new code c i items most a ok few f =
    sparing-there H spelling fits is_item holes old new code c i items a ok f is_store most few
