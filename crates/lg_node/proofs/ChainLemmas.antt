-- What is kept of the chain of a node as a label joins it.
use Rattle.std.proofs.Common.{◌≡◌, ◌≢◌, true, false, Bool, ℕ, ◌+◌, ◌<◌, ◌≤◌, ◌⊎◌, inl, inr, List, Option, Some, None, length, get_or, sym, ap, subst, ◌∙◌, arith}
use Rattle.std.proofs.Math.ListN.{set, length-set}
use Rattle.std.proofs.lemmas.Bool.{cases_order}
use Rattle.std.proofs.lemmas.List.{get_or-set_same, get_or-set_other}
use Rattle.lg_op.specs.declared.operand.Label.{Label}
use Rattle.lg_node.specs.declared.chain.Ends.{Ends}
use Rattle.lg_node.specs.Chains.{NoneFrom, FirstFrom, IsFirst, AreEnds, IsChain, IsJoined}

-- no label is of a set and not of it
pub never : (b : Bool) → b ≡ true → b ≡ false → ⊥
never b t f = cc

pub apart : (at : ℕ → Bool) (k x : ℕ) → at k ≡ true → at x ≡ false → k ≢ x
apart at k x t f e = never (at x) (ap at (sym e) ∙ t) f

pub below : (k x : ℕ) → k ≤ x → k ≢ x → k < x
below k x le other = by (cases_order k x)
  where
    by : (k ≡ x) ⊎ ((k < x) ⊎ (x < k)) → k < x
    by (inl e) = absurd (other e)
    by (inr (inl lt)) = lt
    by (inr (inr lt)) = absurd (omega (arith, le, lt))

-- the first label of a set is below each of its labels
pub least : (at : ℕ → Bool) (from first k : ℕ) → FirstFrom at from first → from ≤ k → at k ≡ true → first ≤ k
least at from first k f le t = by (cases_order k first)
  where
    by : (k ≡ first) ⊎ ((k < first) ⊎ (first < k)) → first ≤ k
    by (inl e) = omega (arith, e)
    by (inr (inl lt)) = absurd (never (at k) t (f.none k le lt))
    by (inr (inr lt)) = omega arith

-- the last of them is above each
pub greatest : (at : ℕ → Bool) (last k : ℕ) → NoneFrom at (last + 1) → at k ≡ true → k ≤ last
greatest at last k none t = by (cases_order k last)
  where
    by : (k ≡ last) ⊎ ((k < last) ⊎ (last < k)) → k ≤ last
    by (inl e) = omega (arith, e)
    by (inr (inl lt)) = omega arith
    by (inr (inr lt)) = absurd (never (at k) t (none k (omega arith)))

module _ (at more : ℕ → Bool) (x : ℕ) (free : at x ≡ false) (j : IsJoined at more x) where
  -- a set with the label has the same labels after it, and in front of it
  pub none-after : (from : ℕ) → x < from → NoneFrom at from → NoneFrom more from
  none-after from h none = λ k le. j.others k (λ e. omega (arith, e)) ∙ none k le

  pub first-after : (from : ℕ) → x < from → (o : Option Label) → IsFirst at from o → IsFirst more from o
  first-after from h None none = none-after from h none
  first-after from h (Some l) f = record {
    later = f.later;
    bound = j.others l.0 (apart at l.0 x f.bound free) ∙ f.bound;
    none = λ k le lt. j.others k (λ e. omega (arith, e)) ∙ f.none k le lt;
  }

  pub first-before : (from b : ℕ) → from ≤ b → b < x → at b ≡ true → (o : Option Label) → IsFirst at from o → IsFirst more from o
  first-before from b le lt t None none = absurd (never (at b) t (none b le))
  first-before from b le lt t (Some l) f =
      let up : l.0 ≤ b = least at from l.0 b f le t in
      record {
        later = f.later;
        bound = j.others l.0 (apart at l.0 x f.bound free) ∙ f.bound;
        none = λ k low high. j.others k (λ e. omega (arith, e)) ∙ f.none k low high;
      }

  -- after the label come those that came after the one in front of it
  pub first-across : (b : ℕ) → b < x → ((k : ℕ) → b < k → k < x → at k ≡ false) → (o : Option Label) → IsFirst at (b + 1) o → IsFirst more (x + 1) o
  first-across b lt between None none = none-after (x + 1) (omega arith) (λ k le. none k (omega arith))
  first-across b lt between (Some l) f = by (cases_order l.0 x)
    where
      by : (l.0 ≡ x) ⊎ ((l.0 < x) ⊎ (x < l.0)) → FirstFrom more (x + 1) l.0
      by (inl e) = absurd (apart at l.0 x f.bound free e)
      by (inr (inl less)) = let low = f.later in absurd (never (at l.0) f.bound (between l.0 (omega (arith, low)) less))
      by (inr (inr above)) = first-after (x + 1) (omega arith) (Some l) record { later = omega arith; bound = f.bound; none = λ k le high. f.none k (omega arith) high }

  -- a label in front of the first
  pub front : (next : List (Option Label)) (e : Ends) (l : Label) → l.0 ≡ x → x < length next → x < e.first.0 → IsChain at next (Some e) → IsChain more (set next x (Some e.first)) (Some record { first = l; last = e.last })
  front next e l same within lt chain =
      let first = chain.bounds.0 in
      let up : e.first.0 ≤ e.last.0 = least at 0 e.first.0 e.last.0 first (omega arith) chain.bounds.1 in
      record {
        bounds = (
          record { later = omega arith; bound = ap more same ∙ j.joined; none = λ k le high. j.others k (λ n. omega (arith, n, same, high)) ∙ first.none k le (omega (arith, same, high)) },
          j.others e.last.0 (λ n. omega (arith, n)) ∙ chain.bounds.1,
          none-after (e.last.0 + 1) (omega arith) chain.bounds.2,
        );
        links = λ k t. by k t (cases_order k x);
        within = λ k t. inside k t (cases_order k x);
      }
    where
      old : (k : ℕ) → more k ≡ true → k ≢ x → at k ≡ true
      old k t other = sym (j.others k other) ∙ t

      above : (k : ℕ) → more k ≡ true → k ≢ x → x < k
      above k t other = let low = least at 0 e.first.0 k chain.bounds.0 (omega arith) (old k t other) in omega (arith, low, lt)

      by : (k : ℕ) → more k ≡ true → (k ≡ x) ⊎ ((k < x) ⊎ (x < k)) → IsFirst more (k + 1) (get_or (set next x (Some e.first)) k None)
      by k t (inl n) =
          let here : get_or (set next x (Some e.first)) k None ≡ Some e.first = ap (λ m. get_or (set next x (Some e.first)) m None) n ∙ get_or-set_same next x (Some e.first) None within in
          let first = chain.bounds.0 in
          subst (IsFirst more (k + 1)) (sym here) (first-after (k + 1) (omega (arith, n)) (Some e.first) record { later = omega (arith, n, lt); bound = first.bound; none = λ m low high. first.none m (omega arith) high })
      by k t (inr (inl less)) = let up = above k t (λ n. omega (arith, n, less)) in absurd (omega (arith, up, less))
      by k t (inr (inr more_than)) =
          let there : get_or (set next x (Some e.first)) k None ≡ get_or next k None = get_or-set_other next x k (Some e.first) None (λ n. omega (arith, n, more_than)) in
          subst (IsFirst more (k + 1)) (sym there) (first-after (k + 1) (omega (arith, more_than)) (get_or next k None) (chain.links k (old k t (λ n. omega (arith, n, more_than)))))

      inside : (k : ℕ) → more k ≡ true → (k ≡ x) ⊎ ((k < x) ⊎ (x < k)) → k < length (set next x (Some e.first))
      inside k t (inl n) = omega (arith, n, length-set next x (Some e.first))
      inside k t (inr (inl less)) = omega (arith, chain.within k (old k t (λ n. omega (arith, n, less))), length-set next x (Some e.first))
      inside k t (inr (inr more_than)) = omega (arith, chain.within k (old k t (λ n. omega (arith, n, more_than))), length-set next x (Some e.first))

  -- a label after one of the set
  pub behind : (next new : List (Option Label)) (e ends : Option Ends) (b : ℕ) (l : Label) → l.0 ≡ x → at b ≡ true → b < x → ((k : ℕ) → b < k → k < x → at k ≡ false) → x < length next → IsChain at next e → AreEnds more ends → new ≡ set (set next x (get_or next b None)) b (Some l) → IsChain more new ends
  behind next new e ends b l same t lt between within chain bounds is = record {
    bounds = bounds;
    links = λ k s. by k s (cases_order k x) (cases_order k b);
    within = λ k s. inside k s (cases_order k x);
  }
    where
      old : (k : ℕ) → more k ≡ true → k ≢ x → at k ≡ true
      old k s other = sym (j.others k other) ∙ s

      of : Option Label
      of = get_or next b None

      at_b : get_or new b None ≡ Some l
      at_b = ap (λ (n : List (Option Label)). get_or n b None) is ∙ get_or-set_same (set next x of) b (Some l) None (omega (arith, chain.within b t, length-set next x of))

      at_x : get_or new x None ≡ of
      at_x = ap (λ (n : List (Option Label)). get_or n x None) is ∙ get_or-set_other (set next x of) b x (Some l) None (λ n. omega (arith, n, lt)) ∙ get_or-set_same next x of None within

      at_other : (k : ℕ) → k ≢ x → k ≢ b → get_or new k None ≡ get_or next k None
      at_other k x_not b_not = ap (λ (n : List (Option Label)). get_or n k None) is ∙ get_or-set_other (set next x of) b k (Some l) None b_not ∙ get_or-set_other next x k of None x_not

      by : (k : ℕ) → more k ≡ true → (k ≡ x) ⊎ ((k < x) ⊎ (x < k)) → (k ≡ b) ⊎ ((k < b) ⊎ (b < k)) → IsFirst more (k + 1) (get_or new k None)
      by k s (inl n) _ =
          let here : get_or new k None ≡ of = ap (λ m. get_or new m None) n ∙ at_x in
          let there : IsFirst more (x + 1) of = first-across b lt between of (chain.links b t) in
          subst (IsFirst more (k + 1)) (sym here) (subst (λ m. IsFirst more (m + 1) of) (sym n) there)
      by k s (inr (inr above)) _ =
          let here : get_or new k None ≡ get_or next k None = at_other k (λ n. omega (arith, n, above)) (λ n. omega (arith, n, above, lt)) in
          subst (IsFirst more (k + 1)) (sym here) (first-after (k + 1) (omega (arith, above)) (get_or next k None) (chain.links k (old k s (λ n. omega (arith, n, above)))))
      by k s (inr (inl less)) (inl n) =
          let here : get_or new k None ≡ Some l = ap (λ m. get_or new m None) n ∙ at_b in
          let there : FirstFrom more (k + 1) l.0 = record { later = omega (arith, n, lt, same); bound = ap more same ∙ j.joined; none = λ m low high. j.others m (λ q. omega (arith, q, same, high)) ∙ between m (omega (arith, n, low)) (omega (arith, same, high)) } in
          subst (IsFirst more (k + 1)) (sym here) there
      by k s (inr (inl less)) (inr (inl below)) =
          let here : get_or new k None ≡ get_or next k None = at_other k (λ n. omega (arith, n, less)) (λ n. omega (arith, n, below)) in
          subst (IsFirst more (k + 1)) (sym here) (first-before (k + 1) b (omega (arith, below)) lt t (get_or next k None) (chain.links k (old k s (λ n. omega (arith, n, less)))))
      by k s (inr (inl less)) (inr (inr above)) = absurd (never (at k) (old k s (λ n. omega (arith, n, less))) (between k above less))

      size : length new ≡ length next
      size = ap length is ∙ length-set (set next x of) b (Some l) ∙ length-set next x of

      inside : (k : ℕ) → more k ≡ true → (k ≡ x) ⊎ ((k < x) ⊎ (x < k)) → k < length new
      inside k s (inl n) = omega (arith, n, size)
      inside k s (inr (inl less)) = omega (arith, chain.within k (old k s (λ n. omega (arith, n, less))), size)
      inside k s (inr (inr above)) = omega (arith, chain.within k (old k s (λ n. omega (arith, n, above))), size)

  -- the ends stay those where the label is between them
  pub ends-around : (e : Ends) → e.first.0 < x → x ≤ e.last.0 → AreEnds at (Some e) → AreEnds more (Some e)
  ends-around e low high ends = (
    first-before 0 e.first.0 (omega arith) low ends.0.bound (Some e.first) ends.0,
    j.others e.last.0 (apart at e.last.0 x ends.1 free) ∙ ends.1,
    none-after (e.last.0 + 1) (omega (arith, high)) ends.2,
  )
