-- The lines that were read so far.
use Rattle.std.proofs.Common.{◌≡◌, ℕ, ◌+◌, ◌*◌, ◌/◌, ◌<◌, ◌≤◌, List, [], ◌∷◌, ◌++◌, length, drop, min, refl, sym, ap, ap₂, ◌∙◌, subst, arith, codes, length-append, length-drop, inl, inr}
use Rattle.std.proofs.Math.Seq.{drop-append_seam}
use Rattle.std.proofs.lemmas.List.{append-nil, drop-drop, drop_all}
use Rattle.lg_base.specs.Layout.{code_base}
use Rattle.lg_base.specs.declared.target.Target.{Target}
use Rattle.lg_list.specs.Texts.{decimal}
use Rattle.lg_list.specs.Lines.{Entry, target_word, first_line, line_of, bytes_of, rendered, joined}
use Rattle.lg_list.specs.Back.{Back}
use Rattle.lg_list.proofs.BackLemmas.{joined-append}
use Rattle.lg_back.specs.Reading.{HasHead, HasLine, HasNoLine, HasLines, address_after}
use Rattle.lg_back.specs.Refused.{IsBadListing}
use Rattle.lg_back.proofs.ListLemmas.{line-long, lines-none, lines-more}

-- the bytes that are kept while they are no more than the first line names, and the room for more
pub record AreKept (lines : List Entry) (items : List ℕ) (room most : ℕ) : Type 0 where
  pub bytes : items ≡ joined lines
  pub left : room + length (joined lines) ≡ most

-- a text was read up to a place: its lines up to there, what is left, the number of the next line, and how many bytes the lines have
pub record IsRead (text : List ℕ) (t : Target) (count : ℕ) (items : List ℕ) (room at line done : ℕ) : Type 0 where
  pub lines : List Entry
  pub front : HasLines text t count lines (drop at text)
  pub within : at ≤ length text
  pub number : line ≡ length lines + 2
  pub below : line ≤ at
  pub bytes : done ≡ length (joined lines)
  pub half : 2 * done ≤ at
  pub kept : done ≤ count → AreKept lines items room (min count (length text / 2))

head-long : (a b c d e : List ℕ) → 2 ≤ length a → 2 ≤ length (a ++ b ++ c ++ d ++ e)
head-long a b c d e le = omega (arith, length-append a b, length-append (a ++ b) c, length-append (a ++ b ++ c) d, length-append (a ++ b ++ c ++ d) e)

pub read-begins : (text : List ℕ) (t : Target) (count : ℕ) (items : List ℕ) (room at : ℕ) → HasHead text t count → at ≡ length (first_line t count) → items ≡ [] → room ≡ min count (length text / 2)
    → IsRead text t count items room at 2 0
read-begins text t count items room at h place none all =
    let rest : drop at text ≡ h.rest = ap₂ drop place h.text_is ∙ drop-append_seam (first_line t count) h.rest in
    record {
      lines = [];
      front = subst (λ r. HasLines text t count [] r) (sym rest) (lines-none text t count h);
      within = omega (arith, place, ap length h.text_is, length-append (first_line t count) h.rest);
      number = refl;
      below = omega (arith, place, head-long (codes "; ") (target_word t) (codes " ") (decimal count) (codes "\n") (omega arith));
      bytes = refl;
      half = omega arith;
      kept = λ le. record { bytes = none; left = omega (arith, all) };
    }

-- the line that is read next, where the lines before it end
next-line : (text : List ℕ) (t : Target) (at done : ℕ) (lines : List Entry) (e : Entry) → done ≡ length (joined lines) → (h : HasLine t (code_base + done) (drop at text) e) → HasLine t (address_after lines) (drop at text) e
next-line text t at done lines e is h =
    let there : code_base + done ≡ address_after lines = omega (arith, is) in
    subst (λ a. HasLine t a (drop at text) e) there h

rest-of : (t : Target) (a : ℕ) (text : List ℕ) (at len : ℕ) (e : Entry) → (h : HasLine t a (drop at text) e) → len ≡ length (line_of a e) → h.rest ≡ drop (at + len) text
rest-of t a text at len e h is = sym (drop-append_seam (line_of a e) h.rest) ∙ ap₂ drop (sym is) (sym h.text_is) ∙ drop-drop len at text

pub line-within : (t : Target) (a : ℕ) (text : List ℕ) (at len : ℕ) (e : Entry) → at ≤ length text → (h : HasLine t a (drop at text) e) → len ≡ length (line_of a e) → at + len ≤ length text
line-within t a text at len e le h is = omega (arith, is, ap length h.text_is, length-append (line_of a e) h.rest, length-drop at text)

pub record IsNext (t : Target) (a : ℕ) (text : List ℕ) (at len : ℕ) (own : List ℕ) : Type 0 where
  pub entry : Entry
  pub line : HasLine t a (drop at text) entry
  pub own_is : own ≡ bytes_of entry
  pub len_is : len ≡ length (line_of a entry)

-- half of the text has room for the bytes of the lines
pub half-of : (text : List ℕ) (t : Target) (count : ℕ) (items : List ℕ) (room at line done len : ℕ) (own : List ℕ) → IsRead text t count items room at line done → IsNext t (code_base + done) text at len own
    → (at + len ≤ length text) × (2 * (done + length own) ≤ at + len) × (1 ≤ len)
half-of text t count items room at line done len own r n =
    let long = line-long (code_base + done) n.entry in
    let same : length own ≡ length (bytes_of n.entry) = ap length n.own_is in
    (line-within t (code_base + done) text at len n.entry r.within n.line n.len_is, omega (arith, r.half, long, same, n.len_is), omega (arith, long, n.len_is))

pub room-for : (text : List ℕ) (t : Target) (count : ℕ) (items : List ℕ) (room at line done len : ℕ) (own : List ℕ) → IsRead text t count items room at line done → IsNext t (code_base + done) text at len own
    → done + length own ≤ count → length own ≤ room
room-for text t count items room at line done len own r n le =
    let half = half-of text t count items room at line done len own r n in
    let kept = r.kept (omega (arith, le)) in
    omega (arith, kept.left, half.0, half.1, r.bytes, le)

pub read-goes : (text : List ℕ) (t : Target) (count : ℕ) (items news : List ℕ) (room left at line done len : ℕ) (own : List ℕ) → IsRead text t count items room at line done → IsNext t (code_base + done) text at len own
    → (done + length own ≤ count → news ≡ items ++ own) → (done + length own ≤ count → left + length own ≡ room) → IsRead text t count news left (at + len) (line + 1) (done + length own)
read-goes text t count items news room left at line done len own r n kept rooms =
    let e = n.entry in
    let h = next-line text t at done r.lines e r.bytes n.line in
    let there : code_base + done ≡ address_after r.lines = omega (arith, r.bytes) in
    let len_is : len ≡ length (line_of (address_after r.lines) e) = n.len_is ∙ ap (λ a. length (line_of a e)) there in
    let rest : h.rest ≡ drop (at + len) text = rest-of t (address_after r.lines) text at len e h len_is in
    let half = half-of text t count items room at line done len own r n in
    let own_is : length own ≡ length (bytes_of e) = ap length n.own_is in
    let all : joined (r.lines ++ e ∷ []) ≡ joined r.lines ++ own = joined-append r.lines (e ∷ []) ∙ ap (λ x. joined r.lines ++ x) (append-nil (bytes_of e) ∙ sym n.own_is) in
    let many : length (joined (r.lines ++ e ∷ [])) ≡ done + length own = omega (arith, ap length all, length-append (joined r.lines) own, r.bytes) in
    record {
      lines = r.lines ++ e ∷ [];
      front = subst (λ x. HasLines text t count (r.lines ++ e ∷ []) x) rest (lines-more text t count r.lines (drop at text) e r.front h);
      within = half.0;
      number = omega (arith, r.number, length-append r.lines (e ∷ []));
      below = omega (arith, r.below, half.2);
      bytes = sym many;
      half = half.1;
      kept = λ le.
          let before = r.kept (omega (arith, le)) in
          record { bytes = kept le ∙ ap (λ x. x ++ own) before.bytes ∙ sym all; left = omega (arith, rooms le, before.left, many, r.bytes) };
    }

-- where no line begins
pub read-bad : (text : List ℕ) (t : Target) (count : ℕ) (items : List ℕ) (room at line done : ℕ) → IsRead text t count items room at line done → at < length text → HasNoLine t (code_base + done) (drop at text) → IsBadListing text line
read-bad text t count items room at line done r lt none =
    let there : code_base + done ≡ address_after r.lines = omega (arith, r.bytes) in
    inr (inl (record {
      t = t;
      count = count;
      lines = r.lines;
      rest = drop at text;
      front = r.front;
      some = omega (arith, lt, length-drop at text);
      none = subst (λ a. HasNoLine t a (drop at text)) there none;
      line_is = r.number;
    }))

-- at the end
whole : (text : List ℕ) (t : Target) (count at : ℕ) (lines : List Entry) → length text ≤ at → HasLines text t count lines (drop at text) → HasLines text t count lines []
whole text t count at lines le h = subst (λ r. HasLines text t count lines r) (drop_all at text le) h

back-of : (text : List ℕ) (t : Target) (count : ℕ) (items : List ℕ) (lines : List Entry) → HasLines text t count lines [] → items ≡ joined lines → count ≡ length items → Back text t items
back-of text t count items lines h all same = record {
  lines = lines;
  form = h.form;
  text_is = h.text_is ∙ ap₂ (λ n r. first_line t n ++ r) same (append-nil (rendered code_base lines));
  bytes_are = all;
  small = omega (arith, h.small, same);
}

pub read-ends : (text : List ℕ) (t : Target) (count : ℕ) (items : List ℕ) (room at line done : ℕ) → IsRead text t count items room at line done → length text ≤ at → done ≡ count → Back text t items
read-ends text t count items room at line done r le same =
    let kept = r.kept (omega (arith, same)) in
    back-of text t count items r.lines (whole text t count at r.lines le r.front) kept.bytes (omega (arith, same, r.bytes, ap length kept.bytes))

pub read-differs : (text : List ℕ) (t : Target) (count : ℕ) (items : List ℕ) (room at line done : ℕ) → IsRead text t count items room at line done → length text ≤ at → (done ≡ count → ⊥) → IsBadListing text 1
read-differs text t count items room at line done r le other =
    inr (inr (record {
      t = t;
      count = count;
      lines = r.lines;
      front = whole text t count at r.lines le r.front;
      other = λ same. other (r.bytes ∙ sym same);
      line_is = refl;
    }))
